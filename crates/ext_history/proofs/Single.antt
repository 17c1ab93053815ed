-- Calls of one step, of a lane that the history goes on from.
use Rattle.std.proofs.Common.{◌≡◌, ℕ, List, [], ◌∷◌, ◌++◌, refl, sym, subst, ap, ◌∙◌, arith, append-nil}
use mathlib.Core.List.{IsPrefix}
use base.Growing.{prefix_refl, prefix_trans}
use Rattle.ext_history.specs.Histories.{own, LaneView, first_or, seen_by, moved, IsStepped, IsAnswerPoint, Calls, HoldsAtPoint, GoesOn}
use Rattle.ext_history.proofs.Fronts.{moved_fronts, moved_once, moved_seen}
use Rattle.ext_history.proofs.Lanes.{own_push, own_past}
use Rattle.ext_history.proofs.Composed.{calls_moved}

pub stepped : {E : Type 0} (lane : LaneView E) (h : List E) → IsStepped lane (moved lane (h ∷ []))
stepped lane h = let once = moved_once lane h in omega (arith, once)

module _ {E : Type 0} {lane_of : E → ℕ} {IsAllowed : List E → E → Type 0} {lane : LaneView E} {h : List E} (on : GoesOn lane_of IsAllowed lane h) where
  -- what is new in the history is by other lanes
  pub none_own : own lane_of lane.number on.begins.0 ≡ []
  none_own = own_past lane_of lane.number (seen_by lane) on.begins.0 (ap (own lane_of lane.number) on.begins.1 ∙ on.own_same)

  -- a step that finds a history
  pub step_calls : Calls lane_of lane (moved lane (h ∷ [])) [] × IsAnswerPoint lane (moved lane (h ∷ [])) [] h
  step_calls = (
    calls_moved lane_of lane (h ∷ []) [] (on.begins, tt) (on.own_same ∙ sym (append-nil (own lane_of lane.number (seen_by lane)))),
    (
      subst (λ fs. IsPrefix (first_or (seen_by lane) fs) h) (sym (moved_fronts lane (h ∷ []))) (prefix_refl h),
      subst (IsPrefix h) (sym (moved_seen lane (h ∷ []))) (prefix_refl h),
    ),
  )

  -- a step that adds an event of the lane
  pub event_calls : (e : E) → lane_of e ≡ lane.number → Calls lane_of lane (moved lane ((h ++ e ∷ []) ∷ [])) (e ∷ []) × IsAnswerPoint lane (moved lane ((h ++ e ∷ []) ∷ [])) (e ∷ []) h
  event_calls e mine =
      let n = lane.number in
      let own_is : own lane_of n (h ++ e ∷ []) ≡ own lane_of n (seen_by lane) ++ e ∷ [] = own_push lane_of n h e mine ∙ ap (λ z. z ++ e ∷ []) on.own_same in (
        calls_moved lane_of lane ((h ++ e ∷ []) ∷ []) (e ∷ []) (prefix_trans (seen_by lane) h (h ++ e ∷ []) on.begins (e ∷ [], refl), tt) own_is,
        (on.begins, moved_seen lane ((h ++ e ∷ []) ∷ [])),
      )

  -- a fact of the history that is found holds at the point of the call
  pub step_holds : (Fact : List E → Type 0) → Fact h → HoldsAtPoint lane_of lane (moved lane (h ∷ [])) [] Fact
  step_holds Fact fact = record { calls = step_calls.0; stepped = stepped lane h; point = (h, step_calls.1, fact) }

  pub event_holds : (e : E) (Fact : List E → Type 0) → lane_of e ≡ lane.number → Fact h → HoldsAtPoint lane_of lane (moved lane ((h ++ e ∷ []) ∷ [])) (e ∷ []) Fact
  event_holds e Fact mine fact =
      let c = event_calls e mine in
      record { calls = c.0; stepped = stepped lane (h ++ e ∷ []); point = (h, c.1, fact) }
