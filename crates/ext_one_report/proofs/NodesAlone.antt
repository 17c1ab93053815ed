-- What a lane that is alone on some places finds there.
use Rattle.std.proofs.Common.{◌≡◌, ℕ, inl, inr, [], ◌∷◌, ◌++◌, Contains, refl, ap, sym, subst, ◌∙◌, nat_eq, eq-eqb, append_assoc, ◌==◌}
use mathlib.Core.List.{IsPrefix, append_cancel_left}
use Rattle.ext_history.specs.Histories.{seen_by}
use Rattle.ext_history.proofs.Lanes.{own_append}
use Rattle.ext_history.proofs.Lists.{bools, contains_none, contains_here, contains_later, contains_cons, contains_filter}
use Rattle.ext_model.specs.declared.event.Event.{Event}
use Rattle.ext_model.specs.Events.{is_on}
use Rattle.ext_model.specs.History.{History, lane_of, own}
use Rattle.ext_model.specs.CallActs.{LaneView, IsPointAfter}
use Rattle.ext_model.proofs.Versions.{none_on, quiet_from_none}
use Rattle.ext_plan_plain.specs.ValueStates.{ValueState}
use Rattle.ext_one_report.proofs.MatchingWords.{RunView, Places, Matches, AreNotAt, cell_of}
use Rattle.ext_one_report.proofs.StepsWords.{IsAlone}
use Rattle.ext_one_report.proofs.Matching.{others_keep_matches}

pub contains_left : (xs ys : History) (e : Event ℕ) → Contains xs e → Contains (xs ++ ys) e
contains_left [] ys e there = absurd (contains_none e there)
contains_left (x ∷ xs) ys e there =
    elim (contains_cons x xs e there) [
      | inl same ↦ subst (λ k. Contains (x ∷ (xs ++ ys)) k) same (contains_here x (xs ++ ys))
      | inr later ↦ contains_later x (xs ++ ys) e (contains_left xs ys e later)
    ]

contains_right : (xs ys : History) (e : Event ℕ) → Contains ys e → Contains (xs ++ ys) e
contains_right [] ys e there = there
contains_right (x ∷ xs) ys e there = contains_later x (xs ++ ys) e (contains_right xs ys e there)

-- ---- a lane that is alone over two calls is so over each

pub alone_first : (run : RunView) (places : Places) (a m b : LaneView) → IsPrefix (seen_by m) (seen_by b) → IsAlone run places a b → IsAlone run places a m
alone_first run places a m b goes_on alone = record {
  own = λ first is context key number here has e there on.
      let all : seen_by b ≡ seen_by a ++ (first ++ goes_on.0) = sym goes_on.1 ∙ (ap (λ l. l ++ goes_on.0) is ∙ append_assoc (seen_by a) first goes_on.0) in
      alone.own (first ++ goes_on.0) all context key number here has e (contains_left first goes_on.0 e there) on;
}

pub alone_later : (run : RunView) (places : Places) (a m b : LaneView) → IsPrefix (seen_by a) (seen_by m) → m.number ≡ a.number → IsAlone run places a b → IsAlone run places m b
alone_later run places a m b goes_on same alone = record {
  own = λ later is context key number here has e there on.
      let all : seen_by b ≡ seen_by a ++ (goes_on.0 ++ later) = is ∙ (ap (λ l. l ++ later) (sym goes_on.1) ∙ append_assoc (seen_by a) goes_on.0 later) in
      alone.own (goes_on.0 ++ later) all context key number here has e (contains_right goes_on.0 later e there) on ∙ sym same;
}

module _ (run : RunView) (places : Places) (a b : LaneView) (alone : IsAlone run places a b) where
  -- up to a point at which none of its own events is at the places, there is none there
  pub quiet_to : (first second mine : History) → seen_by b ≡ seen_by a ++ (first ++ second) → own a.number first ≡ mine → AreNotAt run places mine → AreNotAt run places first
  quiet_to first second mine is own_is apart = record {
    quiet = λ context key number here has. quiet_from_none first (cell_of run number context) (λ e there.
        elim (bools (is_on nat_eq (cell_of run number context) e.act)) [
          | inr off ↦ off
          | inl on ↦
              let by_lane : e.lane ≡ a.number = alone.own (first ++ second) is context key number here has e (contains_left first second e there) on in
              let among : Contains (own a.number first) e = contains_filter (λ (x : Event ℕ). x.lane == a.number) first e (eq-eqb e.lane a.number by_lane) there in
              none_on mine (cell_of run number context) (apart.quiet context key number here has) e (subst (λ l. Contains l e) own_is among)
        ]);
  }

  -- so what matched before matches at a point after such events
  pub matches_after : (mine p : History) (s : ValueState) → IsPrefix (seen_by a) p → IsPrefix p (seen_by b) → own a.number p ≡ own a.number (seen_by a) ++ mine → AreNotAt run places mine
      → Matches run places (seen_by a) s → Matches run places p s
  matches_after mine p s since until own_is apart matches =
      let n = a.number in
      let first = since.0 in
      let second = until.0 in
      let is : seen_by b ≡ seen_by a ++ (first ++ second) = sym until.1 ∙ (ap (λ l. l ++ second) (sym since.1) ∙ append_assoc (seen_by a) first second) in
      let made : own n first ≡ mine = append_cancel_left (own n (seen_by a)) (own n first) mine (sym (own_append lane_of n (seen_by a) first) ∙ (ap (own n) since.1 ∙ own_is)) in
      subst (λ h. Matches run places h s) since.1 (others_keep_matches run places (seen_by a) first s (quiet_to first second mine is made apart) matches)

  -- and at one at which it has made no event
  pub matches_to : (p : History) (s : ValueState) → IsPointAfter a b [] p → Matches run places (seen_by a) s → Matches run places p s
  matches_to p s at matches = matches_after [] p s at.since at.until at.own_events (record { quiet = λ context key number here has. refl }) matches
