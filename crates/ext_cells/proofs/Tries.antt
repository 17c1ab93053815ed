-- A call that tries: a first load, and then exchanges that met other words.
use Rattle.std.proofs.Common.{◌≡◌, ◌≢◌, inl, ℕ, ◌+◌, ◌≤◌, [], ◌∷◌, ◌++◌, length, sym, refl, ap, ◌∙◌, subst, arith, append_assoc, append-nil, length-append}
use base.Growing.{prefix_refl, prefix_trans}
use Rattle.ext_model.specs.declared.event.Act.{Act}
use Rattle.ext_model.specs.History.{History, Limits, by, lane_of, own, IsAllowed, IsLegal}
use Rattle.ext_history.specs.Histories.{first_or, seen_by, moved, call_fronts, first_front, IsStepped}
use Rattle.ext_model.specs.CallActs.{LaneView, Calls, HoldsAtPoint, IsOvertaken, GoesOn}
use Rattle.ext_history.proofs.Legal.{legal_push}
use Rattle.ext_history.proofs.Fronts.{moved_fronts, moved_once, moved_seen}
use Rattle.ext_history.proofs.Lanes.{own_append, own_past}
use Rattle.ext_history.proofs.Composed.{same_number, seen_goes_on, first_is_seen, steps_compose, steps_stay, first_decides}
use Rattle.ext_model.proofs.Composed.{calls_compose, later_answers}
use Rattle.ext_history.proofs.Single.{step_calls, event_calls, event_holds}
use Rattle.ext_cells.specs.Lanes.{CellsId, Lane}
use Rattle.ext_cells.specs.InnerTableSteps.{IsWordAt}
use Rattle.ext_cells.specs.InnerSteps.{stepped, Finds}
use Rattle.ext_cells.proofs.CellWords.{one_word}
use Rattle.ext_cells.proofs.Rising.{Rises, no_rise, one_rise}

not_empty : (m : History) → (m ≡ [] → ⊥) → 1 ≤ length m
not_empty [] ne = absurd (ne refl)
not_empty (x ∷ m) ne = omega arith

-- the call has made its first step and this many exchanges that met other words, and no event
pub record Tries (limits : Limits) (before now : LaneView) (index word count : ℕ) : Type 0 where
  pub calls : Calls limits before now []
  pub legal : IsLegal limits (seen_by now)
  pub stepped : IsStepped before now
  pub within : index ≤ limits.cells
  pub word_is : IsWordAt limits (seen_by now) index word
  pub passed : (more : History) × (seen_by now ≡ first_front before now ++ more) × (own before.number more ≡ []) × (count ≤ length more)
  pub rises : Rises limits (first_front before now) (seen_by now) index count
  pub steps : length (call_fronts before now) ≡ count + 1

-- the same of a lane, which stays one of its cells
pub record TriesOn (before now : Lane) (index word count : ℕ) : Type 0 where
  pub cells : now.cells ≡ before.cells
  pub tries : Tries before.cells.limits before.view now.view index word count

pub first_try : (limits : Limits) (before now : LaneView) (index word : ℕ) (h : History) → index ≤ limits.cells → Finds limits before index word h → now ≡ moved before (h ∷ []) → Tries limits before now index word 0
first_try limits before now index word h within f e =
    let after : LaneView = moved before (h ∷ []) in
    let steps = moved_once before h in
    let first : first_front before after ≡ h = ap (first_or (seen_by before)) (moved_fronts before (h ∷ [])) in
    subst (λ l. Tries limits before l index word 0) (sym e) (record {
      calls = (step_calls f.on).0;
      legal = subst (IsLegal limits) (sym (moved_seen before (h ∷ []))) f.on.legal;
      stepped = omega (arith, steps);
      within = within;
      word_is = subst (λ z. IsWordAt limits z index word) (sym (moved_seen before (h ∷ []))) f.word_is;
      passed = ([], moved_seen before (h ∷ []) ∙ sym first ∙ sym (append-nil (first_front before after)), refl, omega arith);
      rises = no_rise limits (first_front before after) (seen_by after) index (moved_seen before (h ∷ []) ∙ sym first);
      steps = omega (arith, steps);
    })

pub next_try : (limits : Limits) (before now next : LaneView) (index word found count : ℕ) (h : History) → Tries limits before now index word count → found ≢ word → Finds limits now index found h → next ≡ moved now (h ∷ [])
    → Tries limits before next index found (count + 1)
next_try limits before now next index word found count h t ne f e = subst (λ l. Tries limits before l index found (count + 1)) (sym e) go
  where
    after : LaneView
    after = moved now (h ∷ [])

    go : Tries limits before (moved now (h ∷ [])) index found (count + 1)
    go =
        let two = (step_calls f.on).0 in
        let next : LaneView = moved now (h ∷ []) in
        let m : History = f.on.begins.0 in
        let longer : seen_by now ++ m ≡ h = f.on.begins.1 in
        let number = same_number t.calls in
        let none : own before.number m ≡ [] = own_past lane_of before.number (seen_by now) m (ap (own before.number) longer ∙ subst (λ k. own k h ≡ own k (seen_by now)) number f.on.own_same) in
        let some : 1 ≤ length m = not_empty m (λ is. ne (one_word limits h index found word t.within f.word_is (subst (λ z. IsWordAt limits z index word) (sym (append-nil (seen_by now)) ∙ (ap (λ z. seen_by now ++ z) (sym is) ∙ longer)) t.word_is))) in
        let more : History = t.passed.0 in
        let many = t.passed.3 in
        let both = length-append more m in
        let steps : length (call_fronts before next) ≡ length (call_fronts before now) + length (call_fronts now next) = steps_compose t.calls two in
        let had = t.steps in
        let one = moved_once now h in
        record {
          calls = calls_compose limits before now next [] [] t.calls two;
          legal = subst (IsLegal limits) (sym (moved_seen now (h ∷ []))) f.on.legal;
          stepped = steps_stay t.calls two (inl t.stepped);
          within = t.within;
          word_is = subst (λ z. IsWordAt limits z index found) (sym (moved_seen now (h ∷ []))) f.word_is;
          passed = (
            more ++ m,
            moved_seen now (h ∷ []) ∙ sym longer ∙ ap (λ z. z ++ m) t.passed.1 ∙ append_assoc (first_front before now) more m ∙ ap (λ z. z ++ (more ++ m)) (sym (first_decides t.calls two t.stepped)),
            own_append lane_of before.number more m ∙ (λ i. t.passed.2 i ++ none i),
            omega (arith, many, both, some),
          );
          rises =
              let P : History → History → Type 0 = λ f g. Rises limits f g index (count + 1) in
              let risen = one_rise limits (first_front before now) (seen_by now) m index word found count t.word_is (subst (λ z. IsWordAt limits z index found) (sym longer) f.word_is) ne t.rises in
              subst (λ z. P z (seen_by next)) (sym (first_decides t.calls two t.stepped)) (subst (P (first_front before now)) (longer ∙ sym (moved_seen now (h ∷ []))) risen);
          steps = omega (arith, steps, had, one);
        }

module _ (limits : Limits) (before now : LaneView) (index word count : ℕ) (t : Tries limits before now index word count) where
  -- the call may be answered by what it has seen
  pub answered : (Fact : History → Type 0) → Fact (seen_by now) → HoldsAtPoint limits before now [] Fact
  answered Fact fact = record {
    calls = t.calls;
    stepped = t.stepped;
    point = (seen_by now, (first_is_seen t.calls, prefix_refl (seen_by now)), fact);
  }

  -- other lanes were in the way of each exchange
  pub overtaken : (tries : ℕ) → tries ≤ count → IsOvertaken limits tries before now
  overtaken tries few = let many = t.passed.3 in record {
    calls = t.calls;
    passed = (t.passed.0, t.passed.1, t.passed.2, omega (arith, many, few));
  }

  -- an exchange that met the words ends the call with its event
  pub made : (next : LaneView) (act : Act ℕ) (h : History) (Fact : History → Type 0) → GoesOn limits now h → next ≡ moved now ((h ++ by now.number act ∷ []) ∷ []) → Fact h
      → HoldsAtPoint limits before next (act ∷ []) Fact
  made next act h Fact on e fact =
      later_answers limits before now next (act ∷ []) Fact t.calls (subst (λ l. HoldsAtPoint limits now l (act ∷ []) Fact) (sym e) (event_holds on (by now.number act) Fact refl fact))

  -- a history that the lane finds next goes on from what it had seen before the call
  pub goes_on : (h : History) → GoesOn limits now h → GoesOn limits before h
  goes_on h on = record {
    legal = on.legal;
    begins = prefix_trans (seen_by before) (seen_by now) h (seen_goes_on t.calls) on.begins;
    own_same = subst (λ k. own k h ≡ own k (seen_by now)) (same_number t.calls) on.own_same ∙ (t.calls.own_events ∙ append-nil (own before.number (seen_by before)));
  }

  -- as does what it has seen
  pub seen_on : GoesOn limits before (seen_by now)
  seen_on = record {
    legal = t.legal;
    begins = seen_goes_on t.calls;
    own_same = t.calls.own_events ∙ append-nil (own before.number (seen_by before));
  }

pub first_on : (before now : Lane) (index word : ℕ) (h : History) → index ≤ before.cells.limits.cells → Finds before.cells.limits before.view index word h → now ≡ stepped before h → TriesOn before now index word 0
first_on before now index word h within f e = record { cells = ap (λ z. z.cells) e; tries = first_try before.cells.limits before.view now.view index word h within f (ap (λ z. z.view) e) }

pub next_on : (before now next : Lane) (index word found count : ℕ) (h : History) → TriesOn before now index word count → found ≢ word → Finds now.cells.limits now.view index found h → next ≡ stepped now h → TriesOn before next index found (count + 1)
next_on before now next index word found count h t ne f e = record {
  cells = ap (λ z. z.cells) e ∙ t.cells;
  tries = next_try before.cells.limits before.view now.view next.view index word found count h t.tries ne (subst (λ l. Finds l now.view index found h) (ap (λ z. z.limits) t.cells) f) (ap (λ z. z.view) e);
}

-- the call has made a front for each exchange and one before them
pub steps_on : (before now : Lane) (index word count : ℕ) → TriesOn before now index word count → length (call_fronts before.view now.view) ≡ count + 1
steps_on before now index word count t = t.tries.steps

-- and one more for the exchange that it ends with
pub steps_next : {found : ℕ} (before now next : Lane) (index word count : ℕ) (h : History) (act : Act ℕ) → TriesOn before now index word count → Finds now.cells.limits now.view index found h
    → next ≡ stepped now (h ++ by now.view.number act ∷ []) → length (call_fronts before.view next.view) ≡ count + 2
steps_next {found} before now next index word count h act t f e =
    let limits = before.cells.limits in
    let f' : Finds limits now.view index found h = subst (λ l. Finds l now.view index found h) (ap (λ z. z.limits) t.cells) f in
    let after : LaneView = moved now.view ((h ++ by now.view.number act ∷ []) ∷ []) in
    let two = (event_calls f'.on (by now.view.number act) refl).0 in
    let all : length (call_fronts before.view after) ≡ length (call_fronts before.view now.view) + length (call_fronts now.view after) = steps_compose t.tries.calls two in
    let had = t.tries.steps in
    let one = moved_once now.view (h ++ by now.view.number act ∷ []) in
    subst (λ (l : LaneView). length (call_fronts before.view l) ≡ count + 2) (sym (ap (λ (z : Lane). z.view) e)) (omega (arith, all, had, one))

-- what the lane has seen once it has made an act is legal
pub made_legal : (before now next : Lane) (index word count : ℕ) (h : History) (act : Act ℕ) → TriesOn before now index word count → IsLegal now.cells.limits h → IsAllowed now.cells.limits h (by now.view.number act)
    → next.view ≡ moved now.view ((h ++ by now.view.number act ∷ []) ∷ []) → IsLegal before.cells.limits (seen_by next.view)
made_legal before now next index word count h act t legal allowed e =
    let more : History = h ++ by now.view.number act ∷ [] in
    let pushed : IsLegal now.cells.limits more = legal_push h (by now.view.number act) legal allowed in
    subst (λ z. IsLegal before.cells.limits z) (sym (ap seen_by e ∙ moved_seen now.view (more ∷ []))) (subst (λ (z : CellsId). IsLegal z.limits more) t.cells pushed)
