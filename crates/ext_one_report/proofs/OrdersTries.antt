-- The acts of a compute: tries, each on its cell or on none; and numbers of values that it stores were drawn in it.
use Rattle.std.proofs.Common.{◌≡◌, ℕ, zero, suc, inl, inr, Bool, List, [], ◌∷◌, ◌++◌, Contains, Option, None, Some, refl, ap, sym, subst, ◌∙◌, nat_eq, append_assoc, append-nil, eq-eqb, if◌then◌else◌}
use Rattle.std.specs.Prelude.{◌==◌, Result, Ok, Err}
use mathlib.Core.List.{IsPrefix}
use Rattle.std.proofs.lemmas.List.Elements.{Contains-append_cases, Contains-append_left, Contains-append_right}
use Rattle.ext_history.specs.Histories.{seen_by}
use Rattle.ext_history.proofs.Composed.{events_past, same_number, seen_goes_on}
use Rattle.ext_history.proofs.Lists.{bools, contains_cons, contains_filter, contains_from_filter, contains_here, contains_later, contains_none}
use Rattle.ext_history.proofs.Once.{contains-map}
use Rattle.ext_model.specs.declared.event.Act.{Act}
use Rattle.ext_model.specs.declared.event.Act.TheVariants.{Abandon, Claim, Fail, Fill, Keep, Put, Remove, Seal}
use Rattle.ext_model.specs.declared.event.Event.{Event}
use Rattle.ext_model.specs.declared.look.Look.{Look}
use Rattle.ext_model.specs.declared.look.Look.TheVariants as look
use Rattle.ext_model.specs.declared.slot.Slot.{Slot}
use Rattle.ext_model.specs.declared.slot.Slot.TheVariants as slot
use Rattle.ext_model.specs.CallActs.{Calls, LaneView}
use Rattle.ext_model.specs.Events.{Happens, claim_reply, end_reply, is_on, place_of, slot_after}
use Rattle.ext_model.specs.History.{History, IsAllowed, IsLegal, Limits, by, lane_of, own, state_after}
use Rattle.ext_model.proofs.Words.{slots-push}
use Rattle.ext_store_core.specs.Claiming as claiming
use Rattle.ext_store_core.specs.ContextCalls as shared
use Rattle.ext_store_core.specs.Waiting.{VainAttempts}
use Rattle.ext_store_core.specs.declared.fault.Refusal.{Refusal}
use Rattle.ext_store_core.specs.declared.fault.Refusal.TheVariants as refusal
use Rattle.ext_store.specs.declared.fault.KeepFault.{KeepFault}
use Rattle.ext_store.specs.declared.fault.KeepFault.TheVariants as keep_fault
use Rattle.ext_store.specs.declared.computed.Compute.{Compute}
use Rattle.ext_store.specs.declared.computed.Compute.TheVariants as computes
use Rattle.ext_store.specs.Stores.{StoreView, cell_in, context_cells}
use Rattle.ext_store.specs.Computing.{Computes, ComputesFrom, IsRefused, IsUnkept, Meets, given_up_events}
use Rattle.ext_store.specs.LaneCalls.{Removes}
use Rattle.ext_store.specs.Waiting.{ComputesAfterWaits}
use Rattle.ext_cells.specs.Lanes.{Lane}
use Rattle.ext_one_report.proofs.Events.{one_of_acts}
use Rattle.ext_one_report.proofs.OfPlan.{value_in}
use Rattle.ext_one_report.proofs.OrdersHistory.{on_place, value_stored}

-- the act is one of a compute
abbrev pub IsTry : Act ℕ → Type 0
IsTry (Keep number) = Unit {0}
IsTry (Put at number) = ⊥
IsTry (Remove at) = ⊥
IsTry (Claim at) = Unit {0}
IsTry (Fill at number) = Unit {0}
IsTry (Fail at number) = Unit {0}
IsTry (Abandon at) = Unit {0}
IsTry (Seal at) = ⊥

-- ---- where a value stands tries do nothing

claim_never : (worn : Bool) (x : Option Slot) (n : ℕ) (answer : Option ℕ) → value_in x ≡ Some n → claim_reply worn x ≡ Happens answer → ⊥
claim_never worn None n answer is happens = absurd (cc is)
claim_never worn (Some (slot.Entry m)) n answer is happens = absurd (cc happens)
claim_never worn (Some (slot.Fault m)) n answer is happens = absurd (cc is)
claim_never worn (Some (slot.Claim lane)) n answer is happens = absurd (cc is)
claim_never worn (Some (slot.Sealed kept)) n answer is happens = absurd (cc happens)

end_never : (lane : ℕ) (x : Option Slot) (n : ℕ) (answer : Option ℕ) → value_in x ≡ Some n → end_reply lane x ≡ Happens answer → ⊥
end_never lane None n answer is happens = absurd (cc is)
end_never lane (Some (slot.Entry m)) n answer is happens = absurd (cc happens)
end_never lane (Some (slot.Fault m)) n answer is happens = absurd (cc is)
end_never lane (Some (slot.Claim other)) n answer is happens = absurd (cc is)
end_never lane (Some (slot.Sealed kept)) n answer is happens = absurd (cc happens)

never_happens : (limits : Limits) (g : History) (lane : ℕ) (act : Act ℕ) (cell n : ℕ) → IsTry act → place_of act ≡ Some cell → value_in ((state_after g).slots cell) ≡ Some n → IsAllowed limits g (by lane act) → ⊥
never_happens limits g lane (Keep number) cell n is on stands allowed = absurd (cc on)
never_happens limits g lane (Put at number) cell n is on stands allowed = is
never_happens limits g lane (Remove at) cell n is on stands allowed = is
never_happens limits g lane (Claim at) cell n is on stands allowed =
    let same : at ≡ cell = cc on in
    claim_never _ ((state_after g).slots at) n allowed.happens.0 (subst (λ c. value_in ((state_after g).slots c) ≡ Some n) (sym same) stands) allowed.happens.1
never_happens limits g lane (Fill at number) cell n is on stands allowed =
    let same : at ≡ cell = cc on in
    end_never lane ((state_after g).slots at) n allowed.happens.0 (subst (λ c. value_in ((state_after g).slots c) ≡ Some n) (sym same) stands) allowed.happens.1
never_happens limits g lane (Fail at number) cell n is on stands allowed =
    let same : at ≡ cell = cc on in
    end_never lane ((state_after g).slots at) n allowed.happens.0 (subst (λ c. value_in ((state_after g).slots c) ≡ Some n) (sym same) stands) allowed.happens.1
never_happens limits g lane (Abandon at) cell n is on stands allowed =
    let same : at ≡ cell = cc on in
    end_never lane ((state_after g).slots at) n allowed.happens.0 (subst (λ c. value_in ((state_after g).slots c) ≡ Some n) (sym same) stands) allowed.happens.1
never_happens limits g lane (Seal at) cell n is on stands allowed = is

pub entry_stays : (limits : Limits) (g more : History) (cell n : ℕ) → IsLegal limits (g ++ more) → value_in ((state_after g).slots cell) ≡ Some n → ((e : Event ℕ) → Contains more e → place_of e.act ≡ Some cell → IsTry e.act)
    → (state_after (g ++ more)).slots cell ≡ (state_after g).slots cell
entry_stays limits g [] cell n legal stands tries = ap (λ (h : History). (state_after h).slots cell) (append-nil g)
entry_stays limits g (e ∷ more) cell n legal stands tries = elim (bools (is_on nat_eq cell e.act)) [
  | inl on ↦
      let at = on_place cell (place_of e.act) on in
      absurd (never_happens limits g e.lane e.act cell n (tries e (contains_here e more) at) at stands (legal.each g e more refl))
  | inr off ↦
      let one : (state_after (g ++ e ∷ [])).slots cell ≡ (state_after g).slots cell = slots-push g e cell ∙ ap (λ (b : Bool). if b then slot_after e.lane e.act ((state_after g).slots cell) else (state_after g).slots cell) off in
      let regrouped = append_assoc g (e ∷ []) more in
      ap (λ (h : History). (state_after h).slots cell) (sym regrouped)
      ∙ (entry_stays limits (g ++ e ∷ []) more cell n (subst (IsLegal limits) (sym regrouped) legal) (ap value_in one ∙ stands) (λ x there at. tries x (contains_later e more x there) at) ∙ one)
]

-- ---- what a lane does

-- The lane goes on, and each event that it makes meanwhile is a try; the numbers of values that it stores it has drawn meanwhile
pub record Tries (a b : LaneView) : Type 0 where
  pub number : b.number ≡ a.number
  pub more : History
  pub is : seen_by b ≡ seen_by a ++ more
  pub each : (e : Event ℕ) → Contains more e → e.lane ≡ a.number → IsTry e.act
  pub drawn : (e : Event ℕ) (n : ℕ) → Contains more e → e.lane ≡ a.number → value_stored e.act ≡ Some n → Contains more (by a.number (Keep n))

tries_same : (a : LaneView) → Tries a a
tries_same a = record { number = refl; more = []; is = sym (append-nil (seen_by a)); each = λ e there mine. absurd (contains_none e there); drawn = λ e n there mine stores. absurd (contains_none e there) }

tries_then : (a m b : LaneView) → Tries a m → Tries m b → Tries a b
tries_then a m b one two = record {
  number = two.number ∙ one.number;
  more = one.more ++ two.more;
  is = two.is ∙ (ap (λ l. l ++ two.more) one.is ∙ append_assoc (seen_by a) one.more two.more);
  each = λ e there mine. elim (Contains-append_cases one.more two.more e there) [
    | inl early ↦ one.each e early mine
    | inr late ↦ two.each e late (mine ∙ sym one.number)
  ];
  drawn = λ e n there mine stores. elim (Contains-append_cases one.more two.more e there) [
    | inl early ↦ Contains-append_left one.more two.more (by a.number (Keep n)) (one.drawn e n early mine stores)
    | inr late ↦ Contains-append_right one.more two.more (by a.number (Keep n))
        (subst (λ k. Contains two.more (by k (Keep n))) one.number (two.drawn e n late (mine ∙ sym one.number) stores))
  ];
}

-- such are these acts
abbrev AreTries : List (Act ℕ) → Type 0
AreTries acts = (act : Act ℕ) → Contains acts act → IsTry act × ((n : ℕ) → value_stored act ≡ Some n → Contains acts (Keep n))

tries_calls : (limits : Limits) (a b : LaneView) (acts : List (Act ℕ)) → Calls limits a b acts → AreTries acts → Tries a b
tries_calls limits a b acts calls are = record {
  number = same_number calls;
  more = goes.0;
  is = sym goes.1;
  each = λ e there mine. (are e.act (among e there mine)).0;
  drawn = λ e n there mine stores.
      let kept = (are e.act (among e there mine)).1 n stores in
      let its : Contains (own a.number goes.0) (by a.number (Keep n)) = subst (λ (l : History). Contains l (by a.number (Keep n))) (sym (events_past calls)) (contains-map (by a.number) acts (Keep n) kept) in
      contains_from_filter (λ (x : Event ℕ). lane_of x == a.number) goes.0 (by a.number (Keep n)) its;
}
  where
    goes : IsPrefix (seen_by a) (seen_by b)
    goes = seen_goes_on calls

    among : (e : Event ℕ) → Contains goes.0 e → e.lane ≡ a.number → Contains acts e.act
    among e there mine =
        one_of_acts a.number acts e (subst (λ (l : History). Contains l e) (events_past calls)
        (contains_filter (λ (x : Event ℕ). lane_of x == a.number) goes.0 e (eq-eqb (lane_of e) a.number mine) there))

no_acts : AreTries []
no_acts act there = absurd (contains_none act there)

-- a claim and an act after it
two_acts : (cell : ℕ) (last : Act ℕ) → IsTry last → ((n : ℕ) → value_stored last ≡ Some n → ⊥) → AreTries (Claim cell ∷ last ∷ [])
two_acts cell last is none act there = elim (contains_cons (Claim cell) (last ∷ []) act there) [
  | inl same ↦ subst (λ x. IsTry x × ((n : ℕ) → value_stored x ≡ Some n → Contains (Claim cell ∷ last ∷ []) (Keep n))) same (tt, λ n stores. absurd (cc stores))
  | inr later ↦ elim (contains_cons last [] act later) [
    | inl same ↦ subst (λ x. IsTry x × ((n : ℕ) → value_stored x ≡ Some n → Contains (Claim cell ∷ last ∷ []) (Keep n))) same (is, λ n stores. absurd (none n stores))
    | inr nothing ↦ absurd (contains_none act nothing)
  ]
]

three_acts : (cell m : ℕ) (last : Act ℕ) → IsTry last → ((n : ℕ) → value_stored last ≡ Some n → n ≡ m) → AreTries (Claim cell ∷ Keep m ∷ last ∷ [])
three_acts cell m last is one act there = elim (contains_cons (Claim cell) (Keep m ∷ last ∷ []) act there) [
  | inl same ↦ subst (λ x. IsTry x × ((n : ℕ) → value_stored x ≡ Some n → Contains (Claim cell ∷ Keep m ∷ last ∷ []) (Keep n))) same (tt, λ n stores. absurd (cc stores))
  | inr later ↦ elim (contains_cons (Keep m) (last ∷ []) act later) [
    | inl same ↦ subst (λ x. IsTry x × ((n : ℕ) → value_stored x ≡ Some n → Contains (Claim cell ∷ Keep m ∷ last ∷ []) (Keep n))) same (tt, λ n stores. absurd (cc stores))
    | inr behind ↦ elim (contains_cons last [] act behind) [
      | inl same ↦ subst (λ x. IsTry x × ((n : ℕ) → value_stored x ≡ Some n → Contains (Claim cell ∷ Keep m ∷ last ∷ []) (Keep n))) same (
        is,
        λ n stores.
            contains_later (Claim cell) (Keep m ∷ last ∷ []) (Keep n) (subst (λ k. Contains (Keep m ∷ last ∷ []) (Keep k)) (sym (one n stores)) (contains_here (Keep m) (last ∷ []))),
      )
      | inr nothing ↦ absurd (contains_none act nothing)
    ]
  ]
]

-- ---- a compute

module _ (limits : Limits) (store : StoreView) (context : ℕ) (ancestors : List ℕ) (key : ℕ) where
  abbrev the_cell : ℕ
  the_cell = cell_in store key context

  given_up : (a b : LaneView) → Calls limits a b (given_up_events store context key) → Tries a b
  given_up a b calls = tries_calls limits a b (Claim the_cell ∷ Abandon the_cell ∷ []) calls (two_acts the_cell (Abandon the_cell) tt (λ n stores. cc stores))

  meets_tries : (a b : LaneView) (met : Look) → Meets limits store context ancestors key a b met → Tries a b
  unfolding claiming.Meets
  meets_tries a b met (inl at) = tries_calls limits a b [] at.calls no_acts
  meets_tries a b met (inr up) = given_up a b up.0

  refused_tries : (a b : LaneView) (why : Refusal) → IsRefused limits store context ancestors key a b why → Tries a b
  unfolding claiming.IsRefused
  refused_tries a b (refusal.Busy at) r = meets_tries a b (look.Busy at) r
  refused_tries a b (refusal.Closed at) r = meets_tries a b (look.Closed at) r
  refused_tries a b refusal.Contended (inl overtaken) = tries_calls limits a b [] overtaken.calls no_acts
  refused_tries a b refusal.Contended (inr up) = given_up a b up.0
  refused_tries a b refusal.DirectoryFull r = absurd r
  refused_tries a b refusal.Unplaced r = absurd r
  refused_tries a b refusal.Memory r = absurd r
  refused_tries a b refusal.Exhausted r = tries_calls limits a b [] r.0.calls no_acts

  unkept_tries : (a b : LaneView) (why : KeepFault) → IsUnkept limits store.tries (Claim the_cell ∷ []) the_cell a b why → Tries a b
  unfolding IsUnkept
  unkept_tries a b keep_fault.Memory r = given_up a b r
  unkept_tries a b keep_fault.NumbersFull r = given_up a b r.0
  unkept_tries a b keep_fault.Contended r = given_up a b r.0
  unkept_tries a b keep_fault.Unplaced r = tries_calls limits a b (Claim the_cell ∷ Keep r.0 ∷ Abandon the_cell ∷ []) r.1 (three_acts the_cell r.0 (Abandon the_cell) tt (λ n stores. absurd (cc stores)))

  from_tries : {V : Type 0} (a b : LaneView) (result : Compute V (Unit {0})) → ComputesFrom limits store context ancestors key a b result → Tries a b
  unfolding ComputesFrom
  from_tries a b (computes.Computed number) r =
      tries_calls limits a b (Claim the_cell ∷ Keep number ∷ Fill the_cell number ∷ []) r.1.calls (three_acts the_cell number (Fill the_cell number) tt (λ n stores. let e : number ≡ n = cc stores in sym e))
  from_tries a b (computes.Found at number unused) r = meets_tries a b (look.Found at number) r
  from_tries a b (computes.Failed why) r = given_up a b r.2
  from_tries a b (computes.FaultKept number) r = tries_calls limits a b (Claim the_cell ∷ Keep number ∷ Fail the_cell number ∷ []) r.2.calls (three_acts the_cell number (Fail the_cell number) tt (λ n stores. absurd (cc stores)))
  from_tries a b (computes.FaultUnkept why cause) r = unkept_tries a b cause r.2
  from_tries a b (computes.FaultStands at number unused) r = meets_tries a b (look.Fault at number) r
  from_tries a b (computes.Unkept value cause) r = unkept_tries a b cause r.1
  from_tries a b (computes.Refused why unused) r = refused_tries a b why r

vain_tries : (store : StoreView) (context key attempts : ℕ) (a b : LaneView) → VainAttempts (claiming.ClaimsMissing (context_cells store) context key) attempts a b → Tries a b
vain_tries store context key zero a b same = subst (λ (l : LaneView). Tries a l) (sym same) (tries_same a)
vain_tries store context key (suc attempts) a b more =
    tries_then a more.0 b (vain_tries store context key attempts a more.0 more.1) (refused_tries store.id.cells.limits store context more.2.refused.0 key more.0 b more.2.why more.2.refused.2)

pub waits_tries : {V : Type 0} (store : StoreView) (context key : ℕ) (a b : Lane) (result : Compute V (Unit {0})) → ComputesAfterWaits store context key a b result → Tries a.view b.view
unfolding ComputesAfterWaits Computes
waits_tries store context key a b result waits =
    let last = waits.then_is in
    tries_then a.view waits.between b.view (vain_tries store context key waits.attempts a.view waits.between waits.in_vain) (from_tries a.cells.limits store context last.0 key waits.between b.view result last.2)

one_keep : (n : ℕ) → AreTries (Keep n ∷ [])
one_keep n act there = elim (contains_cons (Keep n) [] act there) [
  | inl same ↦ subst (λ x. IsTry x × ((m : ℕ) → value_stored x ≡ Some m → Contains {X = Act ℕ} (Keep n ∷ []) (Keep m))) same (tt, λ m stores. absurd (cc stores))
  | inr nothing ↦ absurd (contains_none act nothing)
]

pub keep_tries : (limits : Limits) (a b : LaneView) (n : ℕ) → Calls limits a b (Keep n ∷ []) → Tries a b
keep_tries limits a b n calls = tries_calls limits a b (Keep n ∷ []) calls (one_keep n)

-- and then nothing
pub kept_tries : (limits more : Limits) (a m b : LaneView) (n : ℕ) → Calls limits a m (Keep n ∷ []) → Calls more m b [] → Tries a b
kept_tries limits more a m b n first second = tries_then a m b (keep_tries limits a m n first) (tries_calls more m b [] second no_acts)

-- the number was drawn
pub drew_there : (limits : Limits) (a b : LaneView) (n : ℕ) → Calls limits a b (Keep n ∷ []) → (more : History) × (seen_by b ≡ seen_by a ++ more) × Contains more (by a.number (Keep n))
drew_there limits a b n calls =
    let goes : IsPrefix (seen_by a) (seen_by b) = seen_goes_on calls in
    let its : Contains (own a.number goes.0) (by a.number (Keep n)) =
    subst (λ (l : History). Contains l (by a.number (Keep n))) (sym (events_past calls)) (contains-map (by a.number) (Keep n ∷ []) (Keep n) (contains_here (Keep n) [])) in
    (goes.0, sym goes.1, contains_from_filter (λ (x : Event ℕ). lane_of x == a.number) goes.0 (by a.number (Keep n)) its)

-- the lane goes on, and no event that it makes meanwhile stores a value
pub record StoresNone (a b : LaneView) : Type 0 where
  pub more : History
  pub is : seen_by b ≡ seen_by a ++ more
  pub none : (e : Event ℕ) (n : ℕ) → Contains more e → e.lane ≡ a.number → value_stored e.act ≡ Some n → ⊥

none_calls : (limits : Limits) (a b : LaneView) (acts : List (Act ℕ)) → Calls limits a b acts → ((act : Act ℕ) (n : ℕ) → Contains acts act → value_stored act ≡ Some n → ⊥) → StoresNone a b
none_calls limits a b acts calls are =
    let goes : IsPrefix (seen_by a) (seen_by b) = seen_goes_on calls in
    record {
      more = goes.0;
      is = sym goes.1;
      none = λ e n there mine stores.
          are e.act n (one_of_acts a.number acts e (subst (λ (l : History). Contains l e) (events_past calls)
          (contains_filter (λ (x : Event ℕ). lane_of x == a.number) goes.0 e (eq-eqb (lane_of e) a.number mine) there))) stores;
    }

none_quiet : (limits : Limits) (a b : LaneView) → Calls limits a b [] → StoresNone a b
none_quiet limits a b calls = none_calls limits a b [] calls (λ act n there stores. contains_none act there)

pub removes_none : (store : StoreView) (context key : ℕ) (a b : Lane) (result : Result (Option ℕ) Refusal) → Removes store context key a b result → StoresNone a.view b.view
unfolding shared.Removes
removes_none store context key a b (Ok None) r = none_quiet a.cells.limits a.view b.view (r.replied (λ is. absurd (cc is))).calls
removes_none store context key a b (Ok (Some number)) r =
    let cell = cell_in store key context in
    none_calls a.cells.limits a.view b.view (Remove cell ∷ []) (r.replied (λ is. absurd (cc is))).calls
    (λ act n there stores. elim (contains_cons (Remove cell) [] act there) [
      | inl same ↦ absurd (cc (ap value_stored same ∙ stores))
      | inr nothing ↦ contains_none act nothing
    ])
removes_none store context key a b (Err (refusal.Busy at)) r = none_quiet a.cells.limits a.view b.view (r.replied (λ is. absurd (cc is))).calls
removes_none store context key a b (Err (refusal.Closed at)) r = none_quiet a.cells.limits a.view b.view (r.replied (λ is. absurd (cc is))).calls
removes_none store context key a b (Err refusal.Contended) r = none_quiet a.cells.limits a.view b.view (r.overtaken refl).calls
removes_none store context key a b (Err refusal.Exhausted) r = none_quiet a.cells.limits a.view b.view (r.replied (λ is. absurd (cc is))).calls
removes_none store context key a b (Err refusal.DirectoryFull) r = none_quiet a.cells.limits a.view b.view (r.replied (λ is. absurd (cc is))).calls
removes_none store context key a b (Err refusal.Unplaced) r = none_quiet a.cells.limits a.view b.view (r.replied (λ is. absurd (cc is))).calls
removes_none store context key a b (Err refusal.Memory) r = none_quiet a.cells.limits a.view b.view (r.replied (λ is. absurd (cc is))).calls
