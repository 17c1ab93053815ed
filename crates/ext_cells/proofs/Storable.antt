-- Which numbers a lane may store: one that it has just drawn, and one that a call did not store.
use Rattle.std.proofs.Common.{◌≡◌, inl, inr, ℕ, suc, ◌+◌, List, [], ◌∷◌, ◌++◌, sym, refl, ap, ◌∙◌, subst, arith, Option, None, Some, Contains, IfSome, IfOk, IfErr}
use Rattle.std.specs.Prelude.{Result, Ok, Err, ◌==◌, All}
use Rattle.std.proofs.lemmas.List.Elements.{Contains-push, Contains-push_cases, Contains-append_left, Contains-append_cases}
use Rattle.ext_model.specs.declared.event.Act.{Act}
use Rattle.ext_model.specs.declared.event.Act.TheVariants.{Keep, Put}
use Rattle.ext_model.specs.declared.event.Event.{Event}
use Rattle.ext_model.specs.History.{History, Limits, by, own, stored, stored_number, state_after, IsLegal}
use Rattle.ext_history.specs.Histories.{seen_by}
use Rattle.ext_model.specs.CallActs.{LaneView, events_by, Calls, MayStoreNow}
use Rattle.ext_history.proofs.Legal.{legal_prefix}
use Rattle.ext_history.proofs.Lists.{contains_none, contains_cons, contains_filter_map, contains_from_filter, contains_from_filter_map}
use Rattle.ext_model.proofs.Numbers.{bounded}
use Rattle.ext_model.proofs.Stored.{drew_own}
use Rattle.ext_history.proofs.Composed.{same_number}
use Rattle.ext_cells.specs.declared.refusal.CellRefusal.{CellRefusal}
use Rattle.ext_cells.specs.Lanes.{Lane}
use Rattle.ext_cells.proofs.CallEvents.{call_made}
use Rattle.ext_cells.specs.CellCalls.{change_reply, number_reply, number_acts, put_acts, Answers}

-- none of these acts stores the number
no_event : (lane number : ℕ) (acts : List (Act ℕ)) → All (λ act. stored_number act ≡ Some number → ⊥) acts → (x : Event ℕ) → Contains (events_by lane acts) x → stored_number x.act ≡ Some number → ⊥
no_event lane number [] none x there is = absurd (contains_none x there)
no_event lane number (act ∷ acts) none x there is = elim (contains_cons (by lane act) (events_by lane acts) x there) [
  | inl same ↦ none 0 act (omega arith) (ap (λ (e : Event ℕ). stored_number e.act) same ∙ is)
  | inr later ↦ no_event lane number acts (λ k d less. none (suc k) d (omega (arith, less))) x later is
]

-- a number that a lane may store, it may store after a call that did not store it
pub stays_storable : (limits : Limits) (a b : LaneView) (acts : List (Act ℕ)) (number : ℕ) → Calls limits a b acts → All (λ act. stored_number act ≡ Some number → ⊥) acts → MayStoreNow a number → MayStoreNow b number
stays_storable limits a b acts number calls none now =
    let mine : History = own a.number (seen_by a) in
    let lane : b.number ≡ a.number = same_number calls in record {
      drew = subst (λ k. Contains (own k (seen_by b)) (by k (Keep number))) (sym lane)
          (subst (λ z. Contains z (by a.number (Keep number))) (sym calls.own_events) (Contains-append_left mine (events_by a.number acts) (by a.number (Keep number)) now.drew));
      fresh = subst (λ k. ¬ (Contains (stored (own k (seen_by b))) number)) (sym lane) (λ there.
          let e = contains_from_filter_map (λ (x : Event ℕ). stored_number x.act) (mine ++ events_by a.number acts) number (subst (λ z. Contains (stored z) number) calls.own_events there) in
          elim (Contains-append_cases mine (events_by a.number acts) e.0 e.1) [
            | inl old ↦ now.fresh (contains_filter_map (λ (x : Event ℕ). stored_number x.act) mine e.0 number e.2 old)
            | inr new ↦ no_event a.number number acts none e.0 new e.2
          ]);
    }

none_at_all : (number : ℕ) → All (λ (act : Act ℕ). stored_number act ≡ Some number → ⊥) []
none_at_all number k d less = absurd (omega (arith, less))

-- no event before the drawing of a number stored it
not_stored : {limits : Limits} (p : History) (lane number : ℕ) (x : Event ℕ) → IsLegal limits (p ++ by lane (Keep number) ∷ []) → Contains p x → stored_number x.act ≡ Some number → ⊥
not_stored p lane number x legal there is =
    let before = legal_prefix p (by lane (Keep number) ∷ []) legal in
    let drew : Contains p (by x.lane (Keep number)) = subst (λ o. IfSome o (λ n. Contains p (by x.lane (Keep n)))) is (drew_own p before x there) in
    let least = (bounded p before).kept x.lane number drew in
    let next : number ≡ (state_after p).drawn + 1 = (legal.each p (by lane (Keep number)) [] refl).next in
    absurd (omega (arith, least, next))

stores_none : (lane number : ℕ) (x : Event ℕ) → by lane (Keep number) ≡ x → stored_number x.act ≡ Some number → ⊥
stores_none lane number x same is = let q : None ≡ Some number = ap (λ (e : Event ℕ). stored_number e.act) same ∙ is in absurd (cc q)

-- a number that was just drawn may be stored
drawn_storable : (limits : Limits) (a b : LaneView) (number : ℕ) (p : History) → IsLegal limits (seen_by b) → Calls limits a b (Keep number ∷ []) → seen_by b ≡ p ++ by a.number (Keep number) ∷ [] → MayStoreNow b number
drawn_storable limits a b number p lawful calls is =
    let lane : b.number ≡ a.number = same_number calls in
    let legal : IsLegal limits (p ++ by a.number (Keep number) ∷ []) = subst (IsLegal limits) is lawful in
    record {
      drew = subst (λ k. Contains (own k (seen_by b)) (by k (Keep number))) (sym lane)
          (subst (λ z. Contains z (by a.number (Keep number))) (sym calls.own_events) (Contains-push (own a.number (seen_by a)) (by a.number (Keep number))));
      fresh = λ there.
          let e = contains_from_filter_map (λ (x : Event ℕ). stored_number x.act) (own b.number (seen_by b)) number there in
          let seen : Contains (seen_by b) e.0 = contains_from_filter (λ (x : Event ℕ). x.lane == b.number) (seen_by b) e.0 e.1 in
          elim (Contains-push_cases p (by a.number (Keep number)) e.0 (subst (λ z. Contains z e.0) is seen)) [
            | inl old ↦ not_stored p a.number number e.0 legal old e.2
            | inr new ↦ stores_none a.number number e.0 new e.2
          ];
    }

pub drew_storable : (tries : ℕ) (before after : Lane) (r : Result ℕ CellRefusal) → IsLegal before.cells.limits (seen_by after.view) → Answers tries before after number_acts (number_reply before) r → IfOk r (MayStoreNow after.view)
drew_storable tries before after (Ok number) legal a =
    let h = a.replied (λ e. cc e) in drawn_storable before.cells.limits before.view after.view number h.point.0 legal h.calls h.point.1.1
drew_storable tries before after (Err why) legal a = tt

-- and one that was not stored may be stored still
pub refused_storable : (tries : ℕ) (before after : Lane) (cell number : ℕ) → MayStoreNow before.view number → (r : Result (Option ℕ) CellRefusal) → Answers tries before after (put_acts cell number) (change_reply before (Put cell number)) r
    → IfErr r (λ _. MayStoreNow after.view number)
refused_storable tries before after cell number now (Ok answer) a = tt
refused_storable tries before after cell number now (Err why) a =
    stays_storable before.cells.limits before.view after.view [] number (call_made tries before after (put_acts cell number) (change_reply before (Put cell number)) (Err why) refl a) (none_at_all number) now
