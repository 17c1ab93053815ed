-- Calls that follow one another, by their acts: the events of the second call are by the lane as it was before the first.
-- What does not speak of the second call's events is cited from `ext_history`.
use Rattle.std.proofs.Common.{◌≡◌, ℕ, List, [], ◌++◌, sym, ap, ◌∙◌, subst}
use Rattle.std.proofs.lemmas.List.{map-append}
use Rattle.ext_history.proofs.Composed as calls
use Rattle.ext_history.proofs.Answered as answers
use Rattle.ext_history.specs.Histories as histories
use Rattle.ext_model.specs.declared.event.Act.{Act}
use Rattle.ext_model.specs.History.{History, Limits, by, lane_of}
use Rattle.ext_model.specs.CallActs.{LaneView, events_by, IsAnswerPoint, IsPointAfter, Calls, HoldsAtPoint}

module _ (limits : Limits) (a b : LaneView) (xs : List (Act ℕ)) (one : Calls limits a b xs) where
  -- acts as events of the lane before the call are those of the lane after it
  same_events : (acts : List (Act ℕ)) → events_by b.number acts ≡ events_by a.number acts
  same_events acts = ap (λ n. events_by n acts) (calls.same_number one)

  both_events : (acts : List (Act ℕ)) → events_by a.number xs ++ events_by b.number acts ≡ events_by a.number (xs ++ acts)
  both_events acts = ap (λ z. events_by a.number xs ++ z) (same_events acts) ∙ sym (map-append (by a.number) xs acts)

-- two calls are one, which makes the events of both
pub calls_compose : (limits : Limits) (a b c : LaneView) (xs ys : List (Act ℕ)) → Calls limits a b xs → Calls limits b c ys → Calls limits a c (xs ++ ys)
calls_compose limits a b c xs ys one two = subst (histories.Calls lane_of a c) (both_events limits a b xs one ys) (calls.calls_compose one two)

pub point_of_second : (limits : Limits) (a b c : LaneView) (xs ys : List (Act ℕ)) → Calls limits a b xs → Calls limits b c ys → (zs : List (Act ℕ)) (p : History) → IsPointAfter b c zs p → IsPointAfter a c (xs ++ zs) p
point_of_second limits a b c xs ys one two zs p at =
    subst (λ events. histories.IsPointAfter lane_of a c events p) (both_events limits a b xs one zs) (calls.point_of_second one two at)

pub later_point : (limits : Limits) (a b c : LaneView) (acts : List (Act ℕ)) (p : History) → Calls limits a b [] → Calls limits b c acts → IsAnswerPoint b c acts p → IsAnswerPoint a c acts p
later_point limits a b c acts p one two at = subst (λ events. histories.IsAnswerPoint a c events p) (same_events limits a b [] one acts) (calls.later_point one two p at)

-- what a call met, both have met, where the other call made no event and came before it
pub later_answers : (limits : Limits) (a b c : LaneView) (acts : List (Act ℕ)) (Fact : History → Type 0) → Calls limits a b [] → HoldsAtPoint limits b c acts Fact → HoldsAtPoint limits a c acts Fact
later_answers limits a b c acts Fact one m =
    subst (λ events. histories.HoldsAtPoint lane_of a c events Fact) (same_events limits a b [] one acts) (answers.later_answers one m)
