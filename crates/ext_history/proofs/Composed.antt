-- Calls that follow one another: their fronts, events and points are those of one call.
use Rattle.std.proofs.Common.{◌≡◌, ℕ, ◌+◌, ◌⊎◌, inl, inr, List, [], ◌∷◌, ◌++◌, sym, ap, ◌∙◌, subst, append_assoc, append-nil, length, length-append}
use mathlib.Core.List.{IsPrefix, append_cancel_left, append_cancel_right}
use base.Growing.{prefix_refl, prefix_trans}
use Rattle.ext_history.specs.Histories.{own, IsLegal, LaneView, last_after, first_or, seen_by, Follow, moved, call_fronts, first_front, IsStepped, IsPoint, IsAnswerPoint, IsPointAfter, Calls}
use Rattle.ext_history.proofs.Fronts.{follow_last, follow_append, first_follows, first_to_last, first_append, first_or_later, steps_first, steps_second, moved_fronts, moved_seen, moved_none, moved_again}
use Rattle.ext_history.proofs.Lanes.{own_append, own_added, own_between}
use Rattle.ext_history.proofs.Legal.{legal_begun}

module _ {E : Type 0} (lane_of : E → ℕ) where
  -- a lane with these further fronts, which go on from one another, has made a call
  pub calls_moved : (before : LaneView E) (added : List (List E)) (events : List E) → Follow (seen_by before) added
      → own lane_of before.number (last_after (seen_by before) added) ≡ own lane_of before.number (seen_by before) ++ events → Calls lane_of before (moved before added) events
  calls_moved before added events follow own_is =
      let s : seen_by (moved before added) ≡ last_after (seen_by before) added = moved_seen before added in
      record {
        fronts = ap (moved before) (sym (moved_fronts before added));
        follow = subst (Follow (seen_by before)) (sym (moved_fronts before added)) follow;
        own_events = ap (own lane_of before.number) s ∙ own_is;
      }

  -- a lane that was not called made a call without an event
  pub calls_none : (lane : LaneView E) → Calls lane_of lane lane []
  calls_none lane =
      subst (λ l. Calls lane_of lane l []) (moved_none lane)
      (calls_moved lane [] [] tt (sym (append-nil (own lane_of lane.number (seen_by lane)))))

-- the points of a call are legal, where what the lane has seen after it is
pub point_legal : {E : Type 0} {IsAllowed : List E → E → Type 0} {a b : LaneView E} → IsLegal IsAllowed (seen_by b) → (p : List E) → IsPoint a b p → IsLegal IsAllowed p
point_legal {b = b} legal p at = legal_begun p (seen_by b) at.until legal

-- ---- one call

module _ {E : Type 0} {lane_of : E → ℕ} {a b : LaneView E} {xs : List E} (one : Calls lane_of a b xs) where
  pub same_number : b.number ≡ a.number
  same_number = ap (λ (l : LaneView E). l.number) one.fronts

  pub seen_is : seen_by b ≡ last_after (seen_by a) (call_fronts a b)
  seen_is = ap seen_by one.fronts ∙ moved_seen a (call_fronts a b)

  pub seen_goes_on : IsPrefix (seen_by a) (seen_by b)
  seen_goes_on = subst (IsPrefix (seen_by a)) (sym seen_is) (follow_last (seen_by a) (call_fronts a b) one.follow)

  pub first_goes_on : IsPrefix (seen_by a) (first_front a b)
  first_goes_on = first_follows (seen_by a) (call_fronts a b) one.follow

  pub first_is_seen : IsPrefix (first_front a b) (seen_by b)
  first_is_seen = subst (IsPrefix (first_front a b)) (sym seen_is) (first_to_last (seen_by a) (call_fronts a b) one.follow)

  -- the call's events are by the lane,
  pub events_own : own lane_of a.number xs ≡ xs
  events_own = own_added lane_of a.number (seen_by a) (seen_by b) xs one.own_events

  -- and past what it had seen the lane has no others
  pub events_past : own lane_of a.number seen_goes_on.0 ≡ xs
  events_past =
      let n = a.number in
      let begins = seen_goes_on in
      append_cancel_left (own lane_of n (seen_by a)) (own lane_of n begins.0) xs
      (sym (own_append lane_of n (seen_by a) begins.0) ∙ (ap (own lane_of n) begins.1 ∙ one.own_events))

  pub seen_is_point : IsPointAfter lane_of a b xs (seen_by b)
  seen_is_point = record { since = seen_goes_on; until = prefix_refl (seen_by b); own_events = one.own_events }

-- ---- two calls, one after the other

module _ {E : Type 0} {lane_of : E → ℕ} {a b c : LaneView E} {xs ys : List E} (one : Calls lane_of a b xs) (two : Calls lane_of b c ys) where
  pub fronts_compose : call_fronts a c ≡ call_fronts a b ++ call_fronts b c
  fronts_compose =
      ap (call_fronts a) (two.fronts ∙ (ap (λ l. moved l (call_fronts b c)) one.fronts ∙ moved_again a (call_fronts a b) (call_fronts b c)))
      ∙ moved_fronts a (call_fronts a b ++ call_fronts b c)

  -- and as many
  pub steps_compose : length (call_fronts a c) ≡ length (call_fronts a b) + length (call_fronts b c)
  steps_compose = ap length fronts_compose ∙ length-append (call_fronts a b) (call_fronts b c)

  pub follow_on : Follow (last_after (seen_by a) (call_fronts a b)) (call_fronts b c)
  follow_on = subst (λ z. Follow z (call_fronts b c)) (seen_is one) two.follow

  -- the lane's events, where those of the second call come after those of the first
  own_then : (zs p : List E) → own lane_of b.number p ≡ own lane_of b.number (seen_by b) ++ zs → own lane_of a.number p ≡ own lane_of a.number (seen_by a) ++ (xs ++ zs)
  own_then zs p is =
      let n = a.number in
      subst (λ k. own lane_of k p ≡ own lane_of k (seen_by b) ++ zs) (same_number one) is ∙ (ap (λ z. z ++ zs) one.own_events ∙ append_assoc (own lane_of n (seen_by a)) xs zs)

  -- two calls are one, which makes the events of both
  pub calls_compose : Calls lane_of a c (xs ++ ys)
  calls_compose = record {
    fronts = two.fronts ∙ (ap (λ l. moved l (call_fronts b c)) one.fronts ∙ (moved_again a (call_fronts a b) (call_fronts b c) ∙ ap (moved a) (sym fronts_compose)));
    follow = subst (Follow (seen_by a)) (sym fronts_compose) (follow_append (seen_by a) (call_fronts a b) (call_fronts b c) one.follow follow_on);
    own_events = own_then ys (seen_by c) two.own_events;
  }

  pub first_decides : IsStepped a b → first_front a c ≡ first_front a b
  first_decides some = ap (first_or (seen_by a)) fronts_compose ∙ first_append (seen_by a) (call_fronts a b) (call_fronts b c) some

  -- the first step of both is not after the first step of the second
  pub first_is_earlier : IsPrefix (first_front a c) (first_front b c)
  first_is_earlier =
      subst (λ (z : List (List E) × List E). IsPrefix (first_or (seen_by a) z.0) (first_or z.1 (call_fronts b c))) (λ k. (sym fronts_compose k, sym (seen_is one) k))
      (first_or_later (seen_by a) (call_fronts a b) (call_fronts b c) one.follow follow_on)

  pub steps_stay : IsStepped a b ⊎ IsStepped b c → IsStepped a c
  steps_stay some = elim some [
    | inl first ↦ steps_first (call_fronts a b) (call_fronts b c) (call_fronts a c) fronts_compose first
    | inr second ↦ steps_second (call_fronts a b) (call_fronts b c) (call_fronts a c) fronts_compose second
  ]

  pub point_of_second : {zs p : List E} → IsPointAfter lane_of b c zs p → IsPointAfter lane_of a c (xs ++ zs) p
  point_of_second {zs} {p} at = record {
    since = prefix_trans (seen_by a) (seen_by b) p (seen_goes_on one) at.since;
    until = at.until;
    own_events = own_then zs p at.own_events;
  }

  pub point_of_first : {zs p : List E} → IsPointAfter lane_of a b zs p → IsPointAfter lane_of a c zs p
  point_of_first {zs} {p} at = record { since = at.since; until = prefix_trans p (seen_by b) (seen_by c) at.until (seen_goes_on two); own_events = at.own_events }

-- ---- where answers are given

module _ {E : Type 0} {lane_of : E → ℕ} {a b : LaneView E} where
  point_by : (events p : List E) → Calls lane_of a b events → IsAnswerPoint a b events p → IsPoint a b p
  point_by [] p one at = record { since = prefix_trans (seen_by a) (first_front a b) p (first_goes_on one) at.0; until = at.1 }
  point_by (e ∷ events) p one at = record { since = at.0; until = (e ∷ events, sym at.1) }

  -- where an answer is given is a point of the call
  pub answer_point : {events : List E} → Calls lane_of a b events → (p : List E) → IsAnswerPoint a b events p → IsPoint a b p
  answer_point {events} one p at = point_by events p one at

  pub quiet_point : Calls lane_of a b [] → (p : List E) → IsAnswerPoint a b [] p → IsPointAfter lane_of a b [] p
  quiet_point one p at =
      let n = a.number in
      let from : IsPrefix (seen_by a) p = prefix_trans (seen_by a) (first_front a b) p (first_goes_on one) at.0 in
      let still : own lane_of n (seen_by b) ≡ own lane_of n (seen_by a) = one.own_events ∙ append-nil (own lane_of n (seen_by a)) in
      record { since = from; until = at.1; own_events = own_between lane_of n (seen_by a) p (seen_by b) from at.1 still ∙ sym (append-nil (own lane_of n (seen_by a))) }

  before_events : (events p : List E) → Calls lane_of a b events → IsPrefix (seen_by a) p → seen_by b ≡ p ++ events → IsPointAfter lane_of a b [] p
  before_events events p one from is =
      let n = a.number in
      let all : own lane_of n p ++ events ≡ own lane_of n (seen_by a) ++ events =
      ap (λ z. own lane_of n p ++ z) (sym (events_own one)) ∙ (sym (own_append lane_of n p events) ∙ (ap (own lane_of n) (sym is) ∙ one.own_events)) in
      record {
        since = from;
        until = (events, sym is);
        own_events = append_cancel_right (own lane_of n p) (own lane_of n (seen_by a)) events all ∙ sym (append-nil (own lane_of n (seen_by a)));
      }

  first_by : (events p : List E) → Calls lane_of a b events → IsAnswerPoint a b events p → IsPointAfter lane_of a b [] p
  first_by [] p one at = quiet_point one p at
  first_by (e ∷ events) p one at = before_events (e ∷ events) p one at.0 at.1

  -- an answer is given where the lane has made none of the call's events
  pub answer_first : {events : List E} → Calls lane_of a b events → (p : List E) → IsAnswerPoint a b events p → IsPointAfter lane_of a b [] p
  answer_first {events} one p at = first_by events p one at

module _ {E : Type 0} {lane_of : E → ℕ} {a b c : LaneView E} (one : Calls lane_of a b []) where
  later_by : (events p : List E) → Calls lane_of b c events → IsAnswerPoint b c events p → IsAnswerPoint a c events p
  later_by [] p two at = (prefix_trans (first_front a c) (first_front b c) p (first_is_earlier one two) at.0, at.1)
  later_by (e ∷ events) p two at = (prefix_trans (seen_by a) (seen_by b) p (seen_goes_on one) at.0, at.1)

  pub later_point : {events : List E} → Calls lane_of b c events → (p : List E) → IsAnswerPoint b c events p → IsAnswerPoint a c events p
  later_point {events} two p at = later_by events p two at

  pub earlier_point : Calls lane_of b c [] → IsStepped a b → (p : List E) → IsAnswerPoint a b [] p → IsAnswerPoint a c [] p
  earlier_point two some p at = (subst (λ z. IsPrefix z p) (sym (first_decides one two some)) at.0, prefix_trans p (seen_by b) (seen_by c) at.1 (seen_goes_on two))
