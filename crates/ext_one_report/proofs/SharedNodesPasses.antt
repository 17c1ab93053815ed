-- From one moment of a node's run to a later one: some open places are settled on the way, and the others are left as they were.
use Rattle.std.proofs.Common.{◌≡◌, ℕ, ◌+◌, inl, inr, true, false, not, List, [], None, Some, refl, ap, sym, ◌∙◌, arith}
use Rattle.std.specs.Prelude.{slice_get}
use mathlib.Core.List.{IsPrefix}
use base.Growing.{prefix_trans}
use Rattle.ext_model.specs.declared.event.Event.{Event}
use Rattle.ext_model.specs.Events.{place_of}
use Rattle.ext_model.specs.History.{History, IsLegal, slots_in}
use Rattle.ext_tree.specs.Keys.{KeyValue}
use Rattle.ext_plan.specs.Plans.{PlanText}
use Rattle.ext_one_report.specs.Changing.{events_at}
use Rattle.ext_engine.specs.Meeting.{first_seen}
use Rattle.ext_engine.specs.Order.{AllGoOn, IsMadeIn}
use Rattle.ext_engine.proofs.Acts.{Acts, all_made_then, heads_go, same_made, shorter}
use Rattle.ext_engine.proofs.Seen.{acts_then}
use Rattle.ext_one_report.proofs.Parts.{no_acts}
use Rattle.ext_plan_parallel.specs.StoreCalls.{PlanLane}
use Rattle.ext_plan_plain.specs.ValueStates.{ValueState}
use Rattle.ext_one_report.proofs.MatchingWords.{HasNumberIn, Places, RunView, cell_of, plain_meaning, plain_slot}
use Rattle.ext_one_report.proofs.Fills.{Fills, IsFilledIn}
use Rattle.ext_one_report.proofs.FillsLanes.{filled_first, filled_second, filled_then}
use Rattle.ext_one_report.proofs.FillsLaws.{fills_then}
use Rattle.ext_one_report.proofs.Open.{AreNear, Computes, Given, Open, Stands, is_left, of_value, some_or_none}
use Rattle.ext_one_report.proofs.OpenSteps.{StandsInBoth}
use Rattle.ext_one_report.proofs.Shared.{unshared}
use Rattle.ext_one_report.proofs.Levels.{AreLevel}
use Rattle.ext_one_report.proofs.SharedNodesWords.{AreComputed, AreOwn}
use Rattle.ext_one_report.proofs.CloseSame.{numbered_or_not}
use Rattle.ext_one_report.proofs.LanesAlone.{computed_part, own_part}
use Rattle.ext_one_report.proofs.NodePlaces.{and_of, away, away_first, level_fewer, within_any}
use Rattle.ext_one_report.proofs.SharedNodesCells.{Between, none_between, stands_stay, still_stands}
use Rattle.ext_one_report.proofs.SharedNodesPlaces.{not_both, one_value, unshared_is, unshared_parts}
use Rattle.ext_one_report.proofs.OpenGoing.{stands_matched}

-- ---- what is seen in a part of it

module _ (run : RunView) (h : History) where
  pub own_fewer : (places fewer : Places) (xs ys : List PlanLane) → ((context : ℕ) (key : KeyValue) → fewer context key ≡ true → places context key ≡ true) → AreOwn run h places xs ys → AreOwn run h fewer xs ys
  own_fewer places fewer xs ys among whole = record { own = λ context number place key event is has seen there on. whole.own context number place key event (among context key is) has seen there on }

  -- all events at an open place that are seen meanwhile compute what is computed there
  pub computed_between : (o : Open) (xs ys : List PlanLane) → AreComputed run h o xs ys → (context number : ℕ) (key : KeyValue) (v : Given) → o context key ≡ Some v → HasNumberIn run key number
      → Between h (first_seen xs) (first_seen ys) (cell_of run number context) (Computes run v)
  computed_between o xs ys all context number key v is has place event low high there on = all.computed context number place key v event is has (record { since = low; until = high }) there on

-- ---- two moments

module _ (plan : PlanText) (run : RunView) (h : History) (touched : Places) where
  -- From these lanes and this plain state, with these places open, to those: the same stands there at all that is touched and not open still, but in contexts of `done`
  pub record Passes (done : List ℕ) (o : Open) (xs : List PlanLane) (s : ValueState) (later : Open) (ys : List PlanLane) (t : ValueState) : Type 0 where
    pub fewer : (context : ℕ) (key : KeyValue) (v : Given) → later context key ≡ Some v → o context key ≡ Some v
    pub level : AreLevel plan run (away plan done (unshared touched later)) (first_seen ys) t
    pub near : AreNear run later (first_seen ys) t
    pub stand : (context : ℕ) (key : KeyValue) (v : Given) → o context key ≡ Some v → later context key ≡ None → StandsInBoth run v context key (first_seen ys) t
    pub unchanged : (context : ℕ) (key : KeyValue) (v : Given) → later context key ≡ Some v → plain_slot t context key ≡ plain_slot s context key
    pub untouched : (context number place : ℕ) (key : KeyValue) (v : Given) (event : Event ℕ) → later context key ≡ Some v → is_left v ≡ true → HasNumberIn run key number
        → slice_get h place ≡ Some event → place_of event.act ≡ Some (cell_of run number context) → IsMadeIn h place xs ys → ⊥

  -- a value or a fault that stands stays, where the same stands later and nothing happens meanwhile
  pub stands_on : (places others : Places) (g f : History) (s t : ValueState) (context : ℕ) (key : KeyValue) (v : Given) → places context key ≡ true → others context key ≡ true → AreLevel plan run places g s
      → AreLevel plan run others f t → ((number : ℕ) → HasNumberIn run key number → events_at (cell_of run number context) f ≡ events_at (cell_of run number context) g)
      → StandsInBoth run v context key g s → StandsInBoth run v context key f t
  stands_on places others g f s t context key v is still before after quiet both =
      let lanes : (number : ℕ) → HasNumberIn run key number → Stands run.meaning v (slots_in (cell_of run number) f context) =
      λ number has. still_stands run v g f (cell_of run number context) (quiet number has) (both.lanes number has) in
      elim (numbered_or_not run key) [
        | inl number ↦ record {
          lanes = lanes;
          plain = stands_matched run.meaning (plain_meaning t.values) v (slots_in (cell_of run number.0) f context) (plain_slot t context key) (lanes number.0 number.1) (after.matches.slots context key number.0 still number.1);
        }
        | inr none ↦ absurd (cc (sym (before.matches.unnumbered context key is none) ∙ both.plain.there))
      ]

  -- nothing has passed
  pub passes_none : (o : Open) (xs : List PlanLane) (s : ValueState) → AreLevel plan run (unshared touched o) (first_seen xs) s → AreNear run o (first_seen xs) s → Passes [] o xs s o xs s
  passes_none o xs s level near = record {
    fewer = λ context key v is. is;
    level = level_fewer plan run (unshared touched o) (away plan [] (unshared touched o)) (first_seen xs) s (λ context key is. away_first plan [] (unshared touched o) context key is) level;
    near = near;
    stand = λ context key v is none. not_both (o context key) v none is;
    unchanged = λ context key v is. refl;
    untouched = λ context number place key v event is left has there on made. same_made h xs place made;
  }

  module _ (limits_legal : IsLegal run.store.id.cells.limits h) (o : Open) (places_touched : (context : ℕ) (key : KeyValue) (v : Given) → o context key ≡ Some v → touched context key ≡ true) where
    -- where it stands nothing happens while all that happens is that it is computed
    pub quiet_from : (xs ys zs : List PlanLane) → AreComputed run h o xs zs → IsPrefix (first_seen xs) (first_seen ys) → IsPrefix (first_seen ys) (first_seen zs) → IsPrefix (first_seen zs) h
        → (t : ValueState) (context number : ℕ) (key : KeyValue) (v : Given) → o context key ≡ Some v → HasNumberIn run key number → StandsInBoth run v context key (first_seen ys) t
        → events_at (cell_of run number context) (first_seen zs) ≡ events_at (cell_of run number context) (first_seen ys)
    quiet_from xs ys zs computed first second within t context number key v is has both =
        stands_stay h (first_seen ys) (first_seen zs) second within (cell_of run number context) run run.store.id.cells.limits v limits_legal (both.lanes number has)
        (λ place event low high there on. let a = shorter (first_seen xs) (first_seen ys) first in
        computed_between run h o xs zs computed context number key v is has place event (omega (arith, a, low)) high there on)

    -- the lanes are alone at all that is not open any more
    pub own_now : (done : List ℕ) (later : Open) (xs ys zs ws : List PlanLane) (s t : ValueState) → Acts h xs ys → Acts h ys zs → Acts h zs ws → IsPrefix (first_seen ws) h
        → AreOwn run h (unshared touched o) xs ws → AreComputed run h o xs ws → Passes done o xs s later ys t → AreOwn run h (unshared touched later) ys zs
    own_now done later xs ys zs ws s t pre go post within own computed passes = record {
      own = λ context number place key event is has seen there on.
          let parts = unshared_parts touched later context key is in
          elim (some_or_none (o context key)) [
            | inl none ↦ (own_part h xs ys zs ws pre go.goes post run (unshared touched o) own).own context number place key event (unshared_is touched o context key parts.0 none) has seen there on
            | inr some ↦
                let stands = passes.stand context key some.0 some.1 parts.1 in
                let low = heads_go ys zs go.goes in
                let on_zs = heads_go zs ws post.goes in
                let part = computed_part h xs xs zs ws (no_acts h xs) (acts_then h xs ys zs pre go).goes post run o computed in
                let zs_in = prefix_trans (first_seen zs) (first_seen ws) h on_zs within in
                let same = quiet_from xs ys zs part (heads_go xs ys pre.goes) low zs_in t context number key some.0 some.1 has stands in
                absurd (none_between h (first_seen ys) (first_seen zs) low zs_in (cell_of run number context) same place event seen.since seen.until there on)
          ];
    }

    -- first to one moment, and then to another
    pub passes_then : (done more : List ℕ) (later last : Open) (xs ys zs : List PlanLane) (s t w : ValueState) → ((context : ℕ) (key : KeyValue) (v : Given) → o context key ≡ Some v → within_any plan done context ≡ false)
        → ((context : ℕ) (key : KeyValue) (v : Given) → o context key ≡ Some v → within_any plan more context ≡ false) → AllGoOn xs ys → AllGoOn ys zs → IsPrefix (first_seen zs) h → AreComputed run h o xs zs
        → Passes done o xs s later ys t → Passes more later ys t last zs w → Passes more o xs s last zs w
    passes_then done more later last xs ys zs s t w off off_more first second within computed one two = record {
      fewer = λ context key v is. one.fewer context key v (two.fewer context key v is);
      level = two.level;
      near = two.near;
      stand = λ context key v is none. elim (some_or_none (later context key)) [
        | inr some ↦
            let same = one_value (o context key) some.0 v (one.fewer context key some.0 some.1) is in
            two.stand context key v (some.1 ∙ ap (λ x. Some x) same) none
        | inl before ↦
            let stands = one.stand context key v is before in
            let touches = places_touched context key v is in
            stands_on (away plan done (unshared touched later)) (away plan more (unshared touched last)) (first_seen ys) (first_seen zs) t w context key v
            (and_of (unshared touched later context key) (not (within_any plan done context)) (unshared_is touched later context key touches before) (ap not (off context key v is)))
            (and_of (unshared touched last context key) (not (within_any plan more context)) (unshared_is touched last context key touches none) (ap not (off_more context key v is))) one.level two.level
            (λ number has. quiet_from xs ys zs computed (heads_go xs ys first) (heads_go ys zs second) within t context number key v is has stands) stands
      ];
      unchanged = λ context key v is. two.unchanged context key v is ∙ one.unchanged context key v (two.fewer context key v is);
      untouched = λ context number place key v event is left has there on made. elim (all_made_then h xs ys zs place first made) [
        | inl early ↦ one.untouched context number place key v event (two.fewer context key v is) left has there on early
        | inr late ↦ two.untouched context number place key v event is left has there on late
      ];
    }

    -- what is filled up to one moment, and then up to another
    pub fills_pass : (done : List ℕ) (later last : Open) (xs ys zs : List PlanLane) (s t : ValueState) (lanes plain more others : ℕ) → Acts h xs ys → Acts h ys zs → IsPrefix (first_seen zs) h → AreComputed run h o xs zs
        → ((context : ℕ) (key : KeyValue) (v : Given) → last context key ≡ Some v → later context key ≡ Some v) → Passes done o xs s later ys t
        → Fills (IsFilledIn run h xs ys) o later s lanes plain → Fills (IsFilledIn run h ys zs) later last t more others → Fills (IsFilledIn run h xs zs) o last s (lanes + more) (plain + others)
    fills_pass done later last xs ys zs s t lanes plain more others first second within computed fewer passes one two =
        fills_then (IsFilledIn run h xs ys) (IsFilledIn run h ys zs) (IsFilledIn run h xs zs) o later last s t lanes plain more others passes.fewer fewer passes.unchanged
        (λ spot v is filled. filled_then run h xs ys zs first.goes spot filled) (λ spot filled. filled_first run h xs ys zs second.goes spot filled) (λ spot filled. filled_second run h xs ys zs first.goes spot filled)
        (λ spot settled filled.
        let stands = passes.stand spot.0 spot.1 (of_value settled.value) settled.was_open settled.closed in
        let seen = second.seen filled.place filled.made in
        let low = heads_go ys zs second.goes in
        let same = quiet_from xs ys zs computed (heads_go xs ys first.goes) low within t spot.0 filled.number spot.1 (of_value settled.value) settled.was_open filled.has stands in
        none_between h (first_seen ys) (first_seen zs) low within (cell_of run filled.number spot.0) same filled.place filled.event seen.0 seen.1 filled.there (ap place_of filled.act)) one two
