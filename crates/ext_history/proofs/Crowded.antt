-- Other lanes in the way: calls that were overtaken or crowded.
use Rattle.std.proofs.Common.{◌≡◌, ℕ, ◌+◌, ◌≤◌, List, [], ◌∷◌, ◌++◌, length, sym, ap, ◌∙◌, subst, arith, append_assoc, append-nil}
use mathlib.Core.List.{append_cancel_left}
use Rattle.ext_history.specs.Histories.{own, others, LaneView, last_after, first_or, seen_by, Follow, call_fronts, first_front, IsStepped, Calls, IsOvertaken, IsCrowdedAt, IsCrowded}
use Rattle.ext_history.proofs.Fronts.{follow_last, first_to_last}
use Rattle.ext_history.proofs.Lanes.{own_past, own_between, others_append, others_all}
use Rattle.ext_history.proofs.Composed.{same_number, seen_is, first_goes_on, fronts_compose, follow_on, first_decides, first_is_earlier}

module _ {E : Type 0} (lane_of : E → ℕ) (tries : ℕ) where
  crowded_cases : (n : ℕ) (h now later : List E) (fs gs : List (List E)) → Follow (last_after h fs) gs → now ≡ last_after h fs → later ≡ last_after (last_after h fs) gs
      → ((more : List E) × (now ≡ first_or h fs ++ more) × (tries ≤ others lane_of n more)) → (more : List E) × (later ≡ first_or h (fs ++ gs) ++ more) × (tries ≤ others lane_of n more)
  crowded_cases n h now later [] gs two now_is later_is over =
      let none : over.0 ≡ [] = append_cancel_left h over.0 [] (sym over.1 ∙ (now_is ∙ sym (append-nil h))) in
      let s = first_to_last h gs two in
      let k : others lane_of n over.0 ≡ 0 = ap (others lane_of n) none in
      let t : tries ≤ others lane_of n over.0 = over.2 in
      (s.0, later_is ∙ sym s.1, omega (arith, k, t))
  crowded_cases n h now later (f ∷ fs) gs two now_is later_is over =
      let end = follow_last (last_after f fs) gs two in
      let y : List E = end.0 in
      let k : others lane_of n (over.0 ++ y) ≡ others lane_of n over.0 + others lane_of n y = others_append lane_of n over.0 y in
      let t : tries ≤ others lane_of n over.0 = over.2 in
      (over.0 ++ y, later_is ∙ (sym end.1 ∙ (ap (λ z. z ++ y) (sym now_is ∙ over.1) ∙ append_assoc f over.0 y)), omega (arith, k, t))

module _ {E : Type 0} {lane_of : E → ℕ} (tries : ℕ) where
  -- a call that was overtaken is crowded
  pub overtaken_crowded : {a b : LaneView E} → IsOvertaken lane_of tries a b → IsCrowded lane_of tries a b
  overtaken_crowded {a} over =
      let more : List E = over.passed.0 in
      let many : tries ≤ length more = over.passed.3 in
      let all : others lane_of a.number more ≡ length more = others_all lane_of a.number more over.passed.2 in
      (more, over.passed.1, omega (arith, many, all))

  -- and a call that was crowded and made no event is overtaken
  pub crowded_overtaken : {a b : LaneView E} → Calls lane_of a b [] → IsCrowded lane_of tries a b → IsOvertaken lane_of tries a b
  crowded_overtaken {a} {b} one over =
      let n = a.number in
      let still : own lane_of n (seen_by b) ≡ own lane_of n (seen_by a) = one.own_events ∙ append-nil (own lane_of n (seen_by a)) in
      let first : own lane_of n (first_front a b) ≡ own lane_of n (seen_by a) = own_between lane_of n (seen_by a) (first_front a b) (seen_by b) (first_goes_on one) (over.0, sym over.1) still in
      let none : own lane_of n over.0 ≡ [] = own_past lane_of n (first_front a b) over.0 (ap (own lane_of n) (sym over.1) ∙ (still ∙ sym first)) in
      let all : others lane_of n over.0 ≡ length over.0 = others_all lane_of n over.0 none in
      let many : tries ≤ others lane_of n over.0 = over.2 in
      record { calls = one; passed = (over.0, over.1, none, omega (arith, all, many)) }

  module _ {a b c : LaneView E} {xs ys : List E} (one : Calls lane_of a b xs) (two : Calls lane_of b c ys) where
    -- both of two calls are crowded up to a point up to which the second was,
    pub crowded_at_second : (p : List E) → IsCrowdedAt lane_of tries b c p → IsCrowdedAt lane_of tries a c p
    crowded_at_second p over =
        let start = first_is_earlier one two in
        let x : List E = start.0 in
        let n = a.number in
        let many : tries ≤ others lane_of n over.0 = subst (λ k. tries ≤ others lane_of k over.0) (same_number one) over.2 in
        let t : others lane_of n (x ++ over.0) ≡ others lane_of n x + others lane_of n over.0 = others_append lane_of n x over.0 in
        (x ++ over.0, over.1 ∙ (ap (λ z. z ++ over.0) (sym start.1) ∙ append_assoc (first_front a c) x over.0), omega (arith, many, t))

    -- or up to which the first was, where that made a step
    pub crowded_at_first : IsStepped a b → (p : List E) → IsCrowdedAt lane_of tries a b p → IsCrowdedAt lane_of tries a c p
    crowded_at_first some p over = (over.0, over.1 ∙ ap (λ z. z ++ over.0) (sym (first_decides one two some)), over.2)

    pub crowded_by_second : IsCrowded lane_of tries b c → IsCrowded lane_of tries a c
    crowded_by_second over = crowded_at_second (seen_by c) over

    pub crowded_by_first : IsCrowded lane_of tries a b → IsCrowded lane_of tries a c
    crowded_by_first over =
        subst (λ fs. (more : List E) × (seen_by c ≡ first_or (seen_by a) fs ++ more) × (tries ≤ others lane_of a.number more)) (sym (fronts_compose one two))
        (crowded_cases lane_of tries a.number (seen_by a) (seen_by b) (seen_by c) (call_fronts a b) (call_fronts b c) (follow_on one two) (seen_is one)
        (seen_is two ∙ ap (λ z. last_after z (call_fronts b c)) (seen_is one)) over)
