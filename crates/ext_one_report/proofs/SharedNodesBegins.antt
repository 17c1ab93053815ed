-- How a concurrent child begins, on its lanes and in the plain run, where those before it in the plain run have settled some of the places that are open for them.
use Rattle.std.proofs.Common.{◌≡◌, ◌≢◌, ℕ, ◌<◌, ◌≤◌, ◌==◌, inl, inr, true, false, drop, List, [], ◌∷◌, append-nil, length, take, None, Some, sym, subst, ◌∙◌, arith, eq-eqb}
use Rattle.std.specs.Prelude.{All, Contains, slice_get}
use mathlib.Core.List.{IsPrefix}
use base.Growing.{prefix_trans}
use Rattle.std.proofs.lemmas.Bool.{eqb-true}
use Rattle.std.proofs.lemmas.List.Elements.{All-contains, All-head, All-tail, Contains-get_or}
use Rattle.ext_history.proofs.Lists.{bools}
use Rattle.ext_history.proofs.Once.{Once}
use Rattle.ext_model.specs.declared.event.Event.{Event}
use Rattle.ext_model.specs.Events.{place_of}
use Rattle.ext_model.specs.History.{slots_in}
use Rattle.ext_tree.specs.Keys.{KeyValue}
use Rattle.ext_tree.specs.Trees.{IsPathOf}
use Rattle.ext_races.specs.MadeSteps.{plan_path}
use Rattle.ext_engine.specs.Meeting.{first_seen}
use Rattle.ext_engine.specs.Order.{IsMadeIn}
use Rattle.ext_engine.proofs.Acts.{shorter}
use Rattle.ext_one_report.specs.Changing.{events_at}
use Rattle.ext_one_report.proofs.Containers.{children_differ}
use Rattle.ext_one_report.proofs.Kept.{same_there}
use Rattle.ext_plan_plain.specs.PlainRun.{RunState}
use Rattle.ext_one_report.proofs.MatchingWords.{HasNumberIn, Places, cell_of, plain_meaning, plain_slot}
use Rattle.ext_one_report.proofs.StandingsWords.{AreMatched, KnowsMore}
use Rattle.ext_one_report.proofs.OnCells.{same_slot}
use Rattle.ext_one_report.proofs.Standings.{matched_empty}
use Rattle.ext_one_report.specs.Within.{is_within}
use Rattle.ext_one_report.proofs.PlainFrames.{IsOpen, LeavesElse}
use Rattle.ext_one_report.proofs.Open.{AreNear, Computes, Given, MayStand, Open, StandsOrNot, is_left, is_open, some_or_none}
use Rattle.ext_one_report.proofs.OpenSteps.{StandsInBoth}
use Rattle.ext_one_report.proofs.Shared.{unshared}
use Rattle.ext_one_report.proofs.OpenStep.{knows_more, open_value, or_not_more, value_is_open}
use Rattle.ext_one_report.proofs.Levels.{AreLevel}
use Rattle.ext_one_report.proofs.SharedNodesWords.{AreComputed, AreOwn, BeginsNear}
use Rattle.ext_one_report.proofs.ChildLists.{among_first, apart_before, once-left}
use Rattle.ext_one_report.proofs.NodePlaces.{any_none, any_of, both_ways, carried, or_either, within_any, within_none}
use Rattle.ext_one_report.proofs.NodePlain.{IsFine, child_leaves, children_fine, children_leave}
use Rattle.ext_one_report.proofs.NodeTrees.{its_path}
use Rattle.ext_one_report.proofs.SharedNodesBasis.{above_unchanged, has_path, in_plan, not_shared, plan_tree, run_tree, shared_elsewhere}
use Rattle.ext_one_report.proofs.SharedFresh.{fresh_beside}
use Rattle.ext_one_report.proofs.SharedNodesBody.{Body, ClosedFor, Ground, IsChild, acts_at, after_all, all_once, beside_child, begun_at, cell, child_at, children_stay, closed_child, closed_for, closed_off, computed_at, conc, cs, ended_at, ends_in, free, frozen_to, here, in_nodes, job_at, maker, maker_changes, none_is, not_free, open_of, open_parts, over, over_at, path_in, s_of, shared_below, since, since_until, step, touches, turn_ones, u_of, until, until_in_h, up_to}
use Rattle.ext_one_report.proofs.SharedNodesCells.{between_fewer, near_stay, none_between}
use Rattle.ext_one_report.proofs.ComputedAbove.{IsClosedAbove, all_clear, clear_is}
use Rattle.ext_one_report.proofs.SharedNodesPlaces.{none_stands_or_not, not_both, one_value, stands_or_not, unshared_is, unshared_parts}

module _ (g : Ground) (b : Body g) where
  -- ---- the plain run

  abbrev pub before_it : ℕ → RunState
  before_it i = after_all g b.r (take i (cs g b))

  pub all_children : (xs : List ℕ) → ((x : ℕ) → Contains xs x → Contains (cs g b) x) → All (IsChild g) xs
  all_children xs in_all = λ k d less. beside_child g _ (in_all _ (Contains-get_or xs k d less))

  pub first_ones : (i x : ℕ) → Contains (take i (cs g b)) x → Contains (cs g b) x
  first_ones i x there = among_first (cs g b) i x there

  pub once_beside : Once (cs g b)
  once_beside = once-left (cs g b) (turn_ones g) (all_once g)

  pub all_fine : (xs : List ℕ) (r : RunState) → All (IsChild g) xs → IsFine g.plan r → IsFine g.plan (after_all g r xs)
  all_fine xs r children fine = children_fine g.plan g.touched g.changes g.basis.read g.basis.covered g.levels g.node g.path (path_in g) xs r children fine

  pub all_leave : (xs : List ℕ) (r : RunState) → All (IsChild g) xs → IsFine g.plan r → LeavesElse (any_of g.changes xs) (within_any g.plan xs) r.state (after_all g r xs).state
  all_leave xs r children fine = children_leave g.plan g.touched g.changes g.basis.read g.basis.covered g.levels g.node g.path (path_in g) xs r children fine

  pub one_leaves : (r : RunState) (c : ℕ) → IsChild g c → IsFine g.plan r → LeavesElse (g.changes c) (is_within g.plan c) r.state (step g r c).state
  one_leaves r c parent fine = child_leaves g.plan g.touched g.changes g.basis.read g.basis.covered g.levels g.node g.path (path_in g) r c parent fine

  pub fine_before : (i : ℕ) → IsFine g.plan (before_it i)
  fine_before i = all_fine (take i (cs g b)) b.r (all_children (take i (cs g b)) (first_ones i)) b.fine

  pub leaves_to : (i : ℕ) → LeavesElse (any_of g.changes (take i (cs g b))) (within_any g.plan (take i (cs g b))) b.r.state (before_it i).state
  leaves_to i = all_leave (take i (cs g b)) b.r (all_children (take i (cs g b)) (first_ones i)) b.fine

  -- a place that a child shares is in the context of no concurrent child
  pub off_all : (xs : List ℕ) → ((x : ℕ) → Contains xs x → Contains (cs g b) x) → (c context : ℕ) (key : KeyValue) (v : Given) → Contains (cs g b) c → g.shares c context key ≡ Some v → within_any g.plan xs context ≡ false
  off_all xs in_all c context key v c_in is =
      within_none g.plan xs context (λ x there within.
      shared_elsewhere g.plan g.run g.locks g.h g.touched g.changes g.changed g.shares g.basis g.node c x context key v (beside_child g c c_in) (beside_child g x (in_all x there)) is within)

  -- at first nothing stands under numbers without a key, where the container touches a place
  pub clear_first : (context : ℕ) (key : KeyValue) → g.touched g.node context key ≡ true → IsOpen context b.r.state
  clear_first context key is = elim (some_or_none (b.o context key)) [
    | inl none ↦ λ number past. b.level.numbered.beyond context key number (unshared_is (g.touched g.node) b.o context key is none) past
    | inr some ↦ λ number past. b.near.numbered.beyond context key number (value_is_open b.o context key some.0 some.1) past
  ]

  -- in the plain run nothing stands at the place above an open one
  pub none_first : (c : ℕ) → Contains (cs g b) c → (context at : ℕ) (key : KeyValue) (v : Given) (above : List ℕ) → free g b context key ≡ true → IsPathOf g.run.store.tree context (context ∷ above)
      → Contains above at → plain_slot b.r.state at key ≡ None
  none_first c c_in context at key v above fr path_is there =
      let P : ℕ → Type 0 = λ k. plain_slot b.r.state k key ≡ None in
      elim (some_or_none (b.o context key)) [
        | inr some ↦ All-contains P above at (b.near.above context key some.0 above some.1 path_is) there
        | inl none ↦
            let its = its_path g.plan (plan_tree g.plan g.run g.locks g.h g.touched g.changes g.changed g.shares g.basis) context (context ∷ above)
            (in_plan g.plan g.run g.locks g.h g.touched g.changes g.changed g.shares g.basis context (context ∷ above) path_is) in
            let clear = clear_of context key none fr in
            All-contains P above at (All-tail P context above (subst (All P) (sym its) (clear_is b.r.state (plan_path g.plan context) key clear))) there
      ]
    where
      clear_of : (context : ℕ) (key : KeyValue) → b.o context key ≡ None → free g b context key ≡ true → all_clear b.r.state (plan_path g.plan context) key ≡ true
      clear_of context key none fr = elim (or_either (is_open b.o context key) (all_clear b.r.state (plan_path g.plan context) key) fr) [
        | inl opens ↦ let some = open_value b.o context key opens in not_both (b.o context key) some.0 none some.1
        | inr clear ↦ clear
      ]

  -- what is free and not open for the container is empty in the plain run
  pub empty_first : (context : ℕ) (key : KeyValue) → context < length g.plan.nodes → b.o context key ≡ None → free g b context key ≡ true → plain_slot b.r.state context key ≡ None
  empty_first context key less none fr = elim (or_either (is_open b.o context key) (all_clear b.r.state (plan_path g.plan context) key) fr) [
    | inl opens ↦ let some = open_value b.o context key opens in not_both (b.o context key) some.0 none some.1
    | inr clear ↦
        let P : ℕ → Type 0 = λ k. plain_slot b.r.state k key ≡ None in
        let path = has_path g.plan g.run g.locks g.h g.touched g.changes g.changed g.shares g.basis context less in
        All-head P context path.above (subst (All P) (sym path.same) (clear_is b.r.state (plan_path g.plan context) key clear))
  ]

  -- and so it is on the lanes
  pub absent_first : (context number : ℕ) (key : KeyValue) → g.touched g.node context key ≡ true → b.o context key ≡ None → free g b context key ≡ true → HasNumberIn g.run key number
      → slots_in (cell_of g.run number) (since g b) context ≡ None
  absent_first context number key touched none fr has =
      let matched = b.level.matches.slots context key number (unshared_is (g.touched g.node) b.o context key touched none) has in
      (matched_empty g.run.meaning (plain_meaning b.r.state.values) (slots_in (cell_of g.run number) (since g b) context) (plain_slot b.r.state context key) matched).1
      (empty_first context key (in_nodes g b g.node context key touched) none fr)

  -- ---- what is so when a child begins in the plain run

  -- Of the first of the concurrent children, which have run in the plain run up to this state: at the places that they have settled the value or the fault stands; at those that are open still nothing is changed, and
  -- none of them made an event, but where nothing is kept; and at those that are not free the same stands as on the lanes at first
  pub record Gone (i : ℕ) (q : RunState) : Type 0 where
    pub settled : Places
    pub were : (context : ℕ) (key : KeyValue) → settled context key ≡ true → (v : Given) × (c : ℕ) × Contains (cs g b) c × (g.shares c context key ≡ Some v) × (free g b context key ≡ true)
    pub named : (context : ℕ) (key : KeyValue) → settled context key ≡ true → ((number : ℕ) → ¬ HasNumberIn g.run key number) → ⊥
    pub stand : (context : ℕ) (key : KeyValue) (v : Given) (c : ℕ) → settled context key ≡ true → Contains (cs g b) c → g.shares c context key ≡ Some v → StandsInBoth g.run v context key (until g b) q.state
    pub unchanged : (context : ℕ) (key : KeyValue) (v : Given) (c : ℕ) → settled context key ≡ false → free g b context key ≡ true → Contains (cs g b) c → g.shares c context key ≡ Some v
        → plain_slot q.state context key ≡ plain_slot b.r.state context key
    pub untouched : (j context number place : ℕ) (key : KeyValue) (v : Given) (c : ℕ) (event : Event ℕ) → j < i → settled context key ≡ false → free g b context key ≡ true → Contains (cs g b) c
        → g.shares c context key ≡ Some v → is_left v ≡ true → HasNumberIn g.run key number → slice_get g.h place ≡ Some event → place_of event.act ≡ Some (cell g b number context) → IsMadeIn g.h place (s_of g b j).first (u_of g b j).first → ⊥
    pub kept : (context number : ℕ) (key : KeyValue) (v : Given) (c : ℕ) → free g b context key ≡ false → Contains (cs g b) c → g.shares c context key ≡ Some v → HasNumberIn g.run key number
        → AreMatched g.run.meaning (plain_meaning q.state.values) (slots_in (cell_of g.run number) (since g b) context) (plain_slot q.state context key)
    pub kept_none : (context : ℕ) (key : KeyValue) (v : Given) (c : ℕ) → free g b context key ≡ false → Contains (cs g b) c → g.shares c context key ≡ Some v → ((number : ℕ) → ¬ HasNumberIn g.run key number)
        → plain_slot q.state context key ≡ None

  -- ---- a child that begins

  module _ (i : ℕ) (less : i < length (cs g b)) (gone : Gone i (before_it i)) where
    abbrev c : ℕ
    c = child_at g b i

    c_in : Contains (cs g b) c
    c_in = here g b i less

    abbrev o : Open
    o = open_of g b c

    -- an event at a place that it touches and does not share is its own,
    pub its_own : (context number place : ℕ) (key : KeyValue) (event : Event ℕ) → g.touched c context key ≡ true → g.shares c context key ≡ None → HasNumberIn g.run key number → length (since g b) ≤ place
        → place < length (until g b) → slice_get g.h place ≡ Some event → place_of event.act ≡ Some (cell g b number context) → IsMadeIn g.h place (s_of g b i).first (u_of g b i).first
    its_own context number place key event touched none has low high there on =
        let by = maker g b context number place key event (up_to g b c context key c_in touched) (closed_for g b c context key c_in touched none) has low high there on in
        elim (bools (by.i == i)) [
          | inl same ↦ subst (λ j. IsMadeIn g.h place (s_of g b j).first (u_of g b j).first) (eqb-true by.i i same) by.made
          | inr differ ↦
              let other : by.i ≢ i = λ e. both_ways (by.i == i) (eq-eqb by.i i e) differ in
              let apart = children_differ (over g) (run_tree g.plan g.run g.locks g.h g.touched g.changes g.changed g.shares g.basis) g.node g.path g.path_is i by.i less by.less other in
              both_ways (g.changes (child_at g b by.i) context key) (maker_changes g b by.i by.less context number place key event (in_nodes g b c context key touched) has there on by.made)
              (not_shared g.plan g.run g.locks g.h g.touched g.changes g.changed g.shares g.basis g.node (child_at g b by.i) c context key (conc g b (child_at g b by.i) (here g b by.i by.less)) (conc g b c c_in)
              (λ e. apart (sym e)) touched none)
        ]

    pub start_until : IsPrefix (first_seen (s_of g b i).first) (until g b)
    start_until = prefix_trans (first_seen (s_of g b i).first) (first_seen (u_of g b i).first) (until g b) (over_at g b i less) (ended_at g b i less)

    -- so nothing happens there before it begins
    pub same_start : (context number : ℕ) (key : KeyValue) → g.touched c context key ≡ true → g.shares c context key ≡ None → HasNumberIn g.run key number
        → events_at (cell g b number context) (first_seen (s_of g b i).first) ≡ events_at (cell g b number context) (since g b)
    same_start context number key touched none has =
        let on = begun_at g b i less in
        same_there g.h (since g b) (first_seen (s_of g b i).first) (cell g b number context) on (prefix_trans (first_seen (s_of g b i).first) (until g b) g.h start_until (until_in_h g b)) (λ place event low high there at.
        let short = shorter (first_seen (s_of g b i).first) (until g b) start_until in
        let made = its_own context number place key event touched none has low (omega (arith, high, short)) there at in
        let late = ((acts_at g b i less).seen place made).0 in
        omega (arith, late, high))

    begins_own : AreOwn g.run g.h (unshared (g.touched c) o) (s_of g b i).first (u_of g b i).first
    begins_own = record {
      own = λ context number place key event is has seen there on.
          let parts = unshared_parts (g.touched c) o context key is in
          let first = shorter (since g b) (first_seen (s_of g b i).first) (begun_at g b i less) in
          let last = shorter (first_seen (u_of g b i).first) (until g b) (ended_at g b i less) in
          let from = seen.since in
          let to = seen.until in
          let low : length (since g b) ≤ place = omega (arith, first, from) in
          let high : place < length (until g b) = omega (arith, last, to) in
          elim (some_or_none (g.shares c context key)) [
            | inl none ↦ its_own context number place key event parts.0 none has low high there on
            | inr some ↦
                let off = not_free g b c context key some.0 some.1 parts.1 in
                absurd (none_between g.h (since g b) (until g b) (since_until g b) (until_in_h g b) (cell g b number context) (frozen_to g b (until g b) (since_until g b) ([], append-nil (until g b)) c c_in context number key some.0 some.1 has off)
                place event low high there on)
          ];
    }

    begins_computed : AreComputed g.run g.h o (s_of g b i).first (u_of g b i).first
    begins_computed = record {
      computed = λ context number place key v event is has seen there on.
          let parts = open_parts g b c context key v is in
          let first = shorter (since g b) (first_seen (s_of g b i).first) (begun_at g b i less) in
          let last = shorter (first_seen (u_of g b i).first) (until g b) (ended_at g b i less) in
          let from = seen.since in
          let to = seen.until in
          computed_at g b c c_in context number key v parts.1 has place event (omega (arith, first, from)) (omega (arith, last, to)) there on;
    }

    -- ---- where the same stands

    -- no child before it has a place of it in its own context
    pub off_before : (context : ℕ) (key : KeyValue) → g.touched c context key ≡ true → within_any g.plan (take i (cs g b)) context ≡ false
    off_before context key is =
        within_none g.plan (take i (cs g b)) context (λ x there within.
        g.basis.covered.siblings g.node x c context key (beside_child g x (first_ones i x there)) (beside_child g c c_in) (apart_before (cs g b) i x once_beside less there) within is)

    -- and none changes what it touches and does not share
    pub unchanged_before : (context : ℕ) (key : KeyValue) → g.touched c context key ≡ true → g.shares c context key ≡ None → any_of g.changes (take i (cs g b)) context key ≡ false
    unchanged_before context key is none =
        any_none g.changes (take i (cs g b)) context key (λ x there ch.
        both_ways (g.changes x context key) ch
        (not_shared g.plan g.run g.locks g.h g.touched g.changes g.changed g.shares g.basis g.node x c context key (conc g b x (first_ones i x there)) (conc g b c c_in) (apart_before (cs g b) i x once_beside less there) is none))

    pub clear_before : (context : ℕ) (key : KeyValue) → g.touched c context key ≡ true → IsOpen context (before_it i).state
    clear_before context key is = (leaves_to i).stays_open context (off_before context key is) (clear_first context key (up_to g b c context key c_in is))

    begins_slots : (context : ℕ) (key : KeyValue) (number : ℕ) → unshared (g.touched c) o context key ≡ true → HasNumberIn g.run key number
        → AreMatched g.run.meaning (plain_meaning (before_it i).state.values) (slots_in (cell_of g.run number) (first_seen (s_of g b i).first) context) (plain_slot (before_it i).state context key)
    begins_slots context key number is has =
        let parts = unshared_parts (g.touched c) o context key is in
        let wide = up_to g b c context key c_in parts.0 in
        elim (some_or_none (g.shares c context key)) [
          | inl none ↦
              carried (any_of g.changes (take i (cs g b))) (within_any g.plan (take i (cs g b))) b.r.state (before_it i).state (leaves_to i) g.run (since g b) (first_seen (s_of g b i).first) context key number
              (unchanged_before context key parts.0 none) (off_before context key parts.0) (clear_first context key wide) (same_start context number key parts.0 none has)
              (b.level.matches.slots context key number (unshared_is (g.touched g.node) b.o context key wide (closed_for g b c context key c_in parts.0 none)) has)
          | inr some ↦
              let off = not_free g b c context key some.0 some.1 parts.1 in
              let same = same_slot (since g b) (first_seen (s_of g b i).first) (cell g b number context)
              (sym (frozen_to g b (first_seen (s_of g b i).first) (begun_at g b i less) start_until c c_in context number key some.0 some.1 has off)) in
              subst (λ x. AreMatched g.run.meaning (plain_meaning (before_it i).state.values) x (plain_slot (before_it i).state context key)) same (gone.kept context number key some.0 c off c_in some.1 has)
        ]

    begins_none : (context : ℕ) (key : KeyValue) → unshared (g.touched c) o context key ≡ true → ((number : ℕ) → ¬ HasNumberIn g.run key number) → plain_slot (before_it i).state context key ≡ None
    begins_none context key is without =
        let parts = unshared_parts (g.touched c) o context key is in
        let wide = up_to g b c context key c_in parts.0 in
        elim (some_or_none (g.shares c context key)) [
          | inl none ↦
              (leaves_to i).slots context key (unchanged_before context key parts.0 none) (off_before context key parts.0) (clear_first context key wide)
              ∙ b.level.matches.unnumbered context key (unshared_is (g.touched g.node) b.o context key wide (closed_for g b c context key c_in parts.0 none)) without
          | inr some ↦ gone.kept_none context key some.0 c (not_free g b c context key some.0 some.1 parts.1) c_in some.1 without
        ]

    begins_level : AreLevel g.plan g.run (unshared (g.touched c) o) (first_seen (s_of g b i).first) (before_it i).state
    begins_level = record {
      matches = record { slots = begins_slots; unnumbered = begins_none };
      numbered = record {
        beyond = λ context key number is past. clear_before context key (unshared_parts (g.touched c) o context key is).0 number past;
        drawn = sym (fine_before i).gave.values;
      };
      memory = (fine_before i).memory;
      keeps = b.level.keeps ∙ sym (leaves_to i).keeps;
      gave = (fine_before i).gave;
      of_plan = (fine_before i).of_plan;
    }

    -- ---- open places

    knows : KnowsMore (plain_meaning b.r.state.values) (plain_meaning (before_it i).state.values)
    knows = knows_more (any_of g.changes (take i (cs g b))) (within_any g.plan (take i (cs g b))) b.r.state (before_it i).state (leaves_to i)

    near_first : (context number : ℕ) (key : KeyValue) (v : Given) → free g b context key ≡ true → g.shares c context key ≡ Some v → HasNumberIn g.run key number
        → MayStand g.run.meaning v (slots_in (cell_of g.run number) (since g b) context)
    near_first context number key v fr is has =
        let touched = touches g b c context key v is in
        elim (some_or_none (b.o context key)) [
          | inr some ↦
              let same = one_value (g.shares c context key) some.0 v (shared_below g b c context key some.0 c_in touched some.1) is in
              subst (λ w. MayStand g.run.meaning w (slots_in (cell_of g.run number) (since g b) context)) same (b.near.lanes context key number some.0 some.1 has)
          | inl none ↦
              let nothing = absent_first context number key (up_to g b c context key c_in touched) none fr has in
              subst (λ x. MayStand g.run.meaning v x) (sym nothing) tt
        ]

    plain_first : (context : ℕ) (key : KeyValue) (v : Given) → free g b context key ≡ true → g.shares c context key ≡ Some v → StandsOrNot (plain_meaning b.r.state.values) v (plain_slot b.r.state context key)
    plain_first context key v fr is =
        let touched = touches g b c context key v is in
        elim (some_or_none (b.o context key)) [
          | inr some ↦
              let same = one_value (g.shares c context key) some.0 v (shared_below g b c context key some.0 c_in touched some.1) is in
              subst (λ w. StandsOrNot (plain_meaning b.r.state.values) w (plain_slot b.r.state context key)) same (b.near.plain context key some.0 some.1)
          | inl none ↦ none_stands_or_not (plain_meaning b.r.state.values) v (plain_slot b.r.state context key) (empty_first context key (in_nodes g b c context key touched) none fr)
        ]

    begins_plain : (context : ℕ) (key : KeyValue) (v : Given) → o context key ≡ Some v → StandsOrNot (plain_meaning (before_it i).state.values) v (plain_slot (before_it i).state context key)
    begins_plain context key v is =
        let parts = open_parts g b c context key v is in
        elim (bools (gone.settled context key)) [
          | inl on ↦ stands_or_not (plain_meaning (before_it i).state.values) v (plain_slot (before_it i).state context key) (gone.stand context key v c on c_in parts.1).plain
          | inr off ↦
              subst (λ x. StandsOrNot (plain_meaning (before_it i).state.values) v x) (sym (gone.unchanged context key v c off parts.0 c_in parts.1))
              (or_not_more (plain_meaning b.r.state.values) (plain_meaning (before_it i).state.values) v (plain_slot b.r.state context key) knows (plain_first context key v parts.0 parts.1))
        ]

    begins_above : (context : ℕ) (key : KeyValue) (v : Given) (above : List ℕ) → o context key ≡ Some v → IsPathOf g.run.store.tree context (context ∷ above) → All (λ at. plain_slot (before_it i).state at key ≡ None) above
    begins_above context key v above is path_is =
        let parts = open_parts g b c context key v is in
        let in_ids = in_plan g.plan g.run g.locks g.h g.touched g.changes g.changed g.shares g.basis context (context ∷ above) path_is in
        let xs = take i (cs g b) in
        let each : (at : ℕ) → Contains above at → plain_slot (before_it i).state at key ≡ None =
        λ at there.
        let one = All-contains (λ k. (g.touched c k key ≡ true) × (g.shares c k key ≡ None) × (g.changes c k key ≡ false)) above at (g.basis.shared.above c context key v above parts.1 in_ids) there in
        let wide = up_to g b c at key c_in one.0 in
        (leaves_to i).slots at key
        (any_none g.changes xs at key (λ x among ch.
        both_ways (g.changes x at key) ch (above_unchanged g.plan g.run g.locks g.h g.touched g.changes g.changed g.shares g.basis g.node x c context at key v above (conc g b x (first_ones i x among)) (conc g b c c_in) parts.1 in_ids there)))
        (off_before at key one.0) (clear_first at key wide) ∙ none_first c c_in context at key v above parts.0 path_is there in
        λ k d inside. each _ (Contains-get_or above k d inside)

    begins_near : AreNear g.run o (first_seen (s_of g b i).first) (before_it i).state
    begins_near = record {
      lanes = λ context key number v is has.
          let parts = open_parts g b c context key v is in
          near_stay g.h (since g b) (first_seen (s_of g b i).first) (begun_at g b i less) (prefix_trans (first_seen (s_of g b i).first) (until g b) g.h start_until (until_in_h g b)) (cell g b number context) g.run v
          (near_first context number key v parts.0 parts.1 has)
          (between_fewer g.h (since g b) (until g b) (since g b) (first_seen (s_of g b i).first) (cell g b number context) (Computes g.run v) ([], append-nil (since g b)) start_until
          (computed_at g b c c_in context number key v parts.1 has));
      plain = begins_plain;
      above = begins_above;
      numbered = record {
        beyond = λ context key number is past.
            let some = open_value o context key is in
            clear_before context key (touches g b c context key some.0 (open_parts g b c context key some.0 some.1).1) number past;
        drawn = sym (fine_before i).gave.values;
      };
    }

    -- ---- what was computed above it

    begins_closed : IsClosedAbove g.plan (drop 1 (plan_path g.plan c)) o (before_it i).state
    begins_closed =
        let first : ClosedFor g o b.r = record { none = λ context key computed. none_is g b c context key (closed_off g b context key computed); stands = b.closed.stands } in
        closed_child g c o (before_it i) (beside_child g c c_in) (children_stay g (take i (cs g b)) o b.r (all_children (take i (cs g b)) (first_ones i)) first)

    pub begins : BeginsNear g.plan g.run g.locks g.h g.touched g.changes g.changed g.shares c o (s_of g b i) (u_of g b i) (before_it i)
    begins = record {
      within = ends_in g b i less;
      lanes = (job_at g b i less).lanes;
      apart = (job_at g b i less).apart;
      open_is = λ context key v is. (open_parts g b c context key v is).1;
      own = begins_own;
      computed = begins_computed;
      level = begins_level;
      near = begins_near;
      closed = begins_closed;
      results = (fine_before i).count;
      fresh = λ context inside within.
          fresh_beside g.plan g.touched g.changes g.basis.covered g.node c context (beside_child g c c_in) inside within (take i (cs g b)) b.r.state (before_it i).state
          (λ x there. (beside_child g x (first_ones i x there), apart_before (cs g b) i x once_beside less there)) (leaves_to i) (b.fresh c context (beside_child g c c_in) inside within);
    }
