-- Lanes that are alone at some places, and at open ones, over a part of a run; and what their first one is shown there.
use Rattle.std.proofs.Common.{◌≡◌, ℕ, suc, ◌+◌, ◌<◌, ◌≤◌, inl, inr, true, List, [], ◌∷◌, ◌++◌, length, length-append, Contains, Some, ap, sym, subst, ◌∙◌, arith, nat_eq, eq-eqb, eqb-true, refl, ◌==◌}
use Rattle.std.specs.Prelude.{All, slice_get}
use mathlib.Core.List.{IsPrefix}
use Rattle.std.proofs.lemmas.List.Elements.{All-cons, All-head, All-nil, All-tail}
use Rattle.std.proofs.lemmas.Option.{slice_get_within}
use Rattle.ext_history.proofs.Lists.{bools, contains_cons, contains_from_filter, contains_none}
use Rattle.ext_model.specs.declared.event.Event.{Event}
use Rattle.ext_model.specs.declared.event.Act.{Act}
use Rattle.ext_model.specs.Events.{is_at, is_on, place_of}
use Rattle.ext_model.specs.History.{History, lane_of}
use Rattle.ext_tree.specs.Keys.{KeyValue}
use Rattle.ext_plan.specs.Plans.{PlanText}
use Rattle.ext_plan.specs.PlanCalls.{steps_of_call}
use Rattle.ext_engine.specs.Meeting.{HasSeenWithin, first_seen}
use Rattle.ext_engine.specs.Order.{AllGoOn, CallsGoOn, IsMadeIn}
use Rattle.ext_engine.proofs.Acts.{Acts, heads_go, same_made, shorter}
use Rattle.ext_one_report.specs.Alone.{IsSeenMeanwhile, IsTheirsOr}
use Rattle.ext_one_report.proofs.Events.{among_more, behind_part, in_whole}
use Rattle.ext_one_report.proofs.Parts.{part}
use Rattle.ext_one_report.proofs.Sees.{at_place}
use Rattle.ext_plan_parallel.specs.StoreCalls.{PlanLane}
use Rattle.ext_one_report.proofs.MatchingWords.{HasNumberIn, Places, RunView, cell_of}
use Rattle.ext_one_report.proofs.StepsWords.{IsAlone, IsLaneIn}
use Rattle.ext_one_report.proofs.Calls.{lane_before, steps_go}
use Rattle.ext_one_report.proofs.Open.{Computes, Given, OnlyComputed, Open}
use Rattle.ext_one_report.proofs.FullRuns.{CallsInView}
use Rattle.ext_one_report.proofs.SharedNodesWords.{AreComputed, AreOwn}

-- ---- what lanes know

-- calls that know only what is so in a view let lanes go on
pub view_moves : (plan : PlanText) (view : RunView) → CallsGoOn (CallsInView plan view)
view_moves plan view node call held a outcome b made = let makes = made.fully.made in steps_go view.store plan.keys makes.path (steps_of_call plan call) a outcome b makes.steps

-- what lanes know before, they know in the end
pub lanes_in : (run : RunView) (xs ys : List PlanLane) → AllGoOn xs ys → All (IsLaneIn run) ys → All (IsLaneIn run) xs
lanes_in run [] [] go all = All-nil (IsLaneIn run)
lanes_in run [] (b ∷ ys) go all = absurd go
lanes_in run (a ∷ xs) [] go all = absurd go
lanes_in run (a ∷ xs) (b ∷ ys) go all =
    All-cons (IsLaneIn run) a xs (lane_before run a b go.0 (All-head (IsLaneIn run) b ys all)) (lanes_in run xs ys go.1 (All-tail (IsLaneIn run) b ys all))

-- ---- a part of a run

module _ (h : History) (xs ys zs ws : List PlanLane) (pre : Acts h xs ys) (go : AllGoOn ys zs) (post : Acts h zs ws) where
  -- what is seen in the part is seen in the whole,
  seen_part : (place : ℕ) → IsSeenMeanwhile place ys zs → IsSeenMeanwhile place xs ws
  seen_part place seen =
      let low = shorter (first_seen xs) (first_seen ys) (heads_go xs ys pre.goes) in
      let high = shorter (first_seen zs) (first_seen ws) (heads_go zs ws post.goes) in
      let since = seen.since in
      let until = seen.until in
      record { since = omega (arith, low, since); until = omega (arith, high, until) }

  -- and what is seen in the part, and was made in the whole, was made in the part
  made_part : (place : ℕ) → IsSeenMeanwhile place ys zs → IsMadeIn h place xs ws → IsMadeIn h place ys zs
  made_part place seen made =
      let Others : ℕ → Type 0 = λ p. p ≡ place → ⊥ in
      let whole : IsTheirsOr h Others xs ws = record {
        each = λ p at. elim (bools (nat_eq p place)) [
          | inl same ↦ inl (subst (λ q. IsMadeIn h q xs ws) (sym (eqb-true p place same)) made)
          | inr apart ↦ inr (λ e. cc (sym (eq-eqb p place e) ∙ apart))
        ];
      } in
      elim ((part h Others xs ys zs ws pre go post whole).each place seen) [ inl now ↦ now | inr other ↦ absurd (other refl) ]

  pub own_part : (run : RunView) (places : Places) → AreOwn run h places xs ws → AreOwn run h places ys zs
  own_part run places own = record {
    own = λ context number place key event is has seen there on. made_part place seen (own.own context number place key event is has (seen_part place seen) there on);
  }

  pub computed_part : (run : RunView) (open_at : Open) → AreComputed run h open_at xs ws → AreComputed run h open_at ys zs
  computed_part run open_at computed = record {
    computed = λ context number place key v event is has seen there on. computed.computed context number place key v event is has (seen_part place seen) there on;
  }

-- ---- what is shown

pub place_in : (more : History) (e : Event ℕ) → Contains more e → (k : ℕ) × (slice_get more k ≡ Some e)
place_in [] e there = absurd (contains_none e there)
place_in (x ∷ more) e there = elim (contains_cons x more e there) [
  | inl same ↦ (0, ap Some same)
  | inr later ↦ let r = place_in more e later in (suc r.0, r.1)
]

-- an event that has come stands in the history, and is seen meanwhile
pub record HasCome (h : History) (xs ys : List PlanLane) (e : Event ℕ) : Type 0 where
  pub place : ℕ
  pub seen : IsSeenMeanwhile place xs ys
  pub there : slice_get h place ≡ Some e

pub has_come : (h : History) (xs ys : List PlanLane) (more : History) → IsPrefix (first_seen ys) h → first_seen ys ≡ first_seen xs ++ more → (e : Event ℕ) → Contains more e → HasCome h xs ys e
has_come h xs ys more within is e there =
    let k = place_in more e there in
    let since = first_seen xs in
    let place = length since + k.0 in
    let in_ys : slice_get (first_seen ys) place ≡ Some e = subst (λ (l : History). slice_get l place ≡ Some e) (sym is) (behind_part since more k.0 place refl ∙ k.1) in
    let size = ap length is in
    let sum = length-append since more in
    let less = slice_get_within more k.0 e k.1 in
    record {
      place = place;
      seen = record { since = omega arith; until = omega (arith, size, sum, less) };
      there = subst (λ (l : History). slice_get l place ≡ Some e) within.1 (in_whole (first_seen ys) within.0 place e in_ys);
    }

-- and what is seen meanwhile has come
pub is_more : (h since until : History) (on : IsPrefix since until) → IsPrefix until h → (place : ℕ) (e : Event ℕ) → slice_get h place ≡ Some e → length since ≤ place → place < length until → Contains on.0 e
is_more h since until on within place e there low high =
    contains_from_filter (λ (x : Event ℕ). lane_of x == e.lane) on.0 e (among_more e.lane since until h on within place e there low high refl)

pub is_on_place : (cell : ℕ) (act : Act ℕ) → place_of act ≡ Some cell → is_on nat_eq cell act ≡ true
is_on_place cell act is = ap (λ o. is_at nat_eq cell o) is ∙ eq-eqb cell cell refl

module _ (run : RunView) (h : History) where
  -- what comes at open places computes what is left there
  pub computed_more : (open_at : Open) (xs ys : List PlanLane) (more : History) → IsPrefix (first_seen ys) h → first_seen ys ≡ first_seen xs ++ more → AreComputed run h open_at xs ys
      → (context : ℕ) (key : KeyValue) (number : ℕ) (v : Given) → open_at context key ≡ Some v → HasNumberIn run key number
      → (e : Event ℕ) → Contains more e → is_on nat_eq (cell_of run number context) e.act ≡ true → Computes run v e.act
  computed_more open_at xs ys more within is computed context key number v opened has e there on =
      let come = has_come h xs ys more within is e there in
      computed.computed context number come.place key v e opened has come.seen come.there (at_place (cell_of run number context) (place_of e.act) on)

  module _ (a b : PlanLane) (rest : List PlanLane) (within : HasSeenWithin h b) where
    -- the first lane of such is alone,
    pub first_is_alone : (places : Places) → AreOwn run h places (a ∷ rest) (b ∷ rest) → IsAlone run places a.cells.view b.cells.view
    first_is_alone places own = record {
      own = λ more is context key number here has e there on.
          let come = has_come h (a ∷ rest) (b ∷ rest) more within is e there in
          elim (own.own context number come.place key e here has come.seen come.there (at_place (cell_of run number context) (place_of e.act) on)) [
            | inr none ↦ absurd (same_made h rest come.place none)
            | inl one ↦
                let both : Some one.event ≡ Some e = sym one.there ∙ come.there in
                let same : one.event ≡ e = cc both in
                sym (ap (λ (x : Event ℕ). x.lane) same) ∙ one.own_event
          ];
    }

    -- and is shown at open places only what computes there
    pub first_is_shown : (open_at : Open) → AreComputed run h open_at (a ∷ rest) (b ∷ rest) → OnlyComputed run open_at a.cells.view b.cells.view
    first_is_shown open_at computed = record {
      each = λ more is context key number v opened has e there on. computed_more open_at (a ∷ rest) (b ∷ rest) more within is computed context key number v opened has e there on;
    }
