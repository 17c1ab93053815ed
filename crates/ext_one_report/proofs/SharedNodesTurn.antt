-- The other children of a container, one after another: from before one of them to after it, and so for all.
use Rattle.std.proofs.Common.{◌≡◌, ◌≢◌, ℕ, ◌+◌, ◌<◌, arith, inl, inr, true, false, not, drop, List, [], ◌∷◌, length, None, Some, refl, ap, sym, subst, ◌∙◌}
use Rattle.std.specs.Prelude.{All, Contains, if◌then◌else◌}
use mathlib.Core.List.{IsPrefix}
use base.Growing.{prefix_trans}
use Rattle.std.proofs.lemmas.List.Elements.{All-contains, Contains-get_or}
use Rattle.ext_history.proofs.Legal.{legal_begun}
use Rattle.ext_history.proofs.Lists.{bools, contains_cons, contains_here, contains_later}
use Rattle.ext_model.specs.Events.{place_of}
use Rattle.ext_model.specs.History.{slots_in}
use Rattle.ext_one_report.proofs.Numbers.{enough_numbers}
use Rattle.ext_tree.specs.Keys.{KeyValue}
use Rattle.ext_races.specs.MadeSteps.{plan_path}
use Rattle.ext_engine.specs.Meeting.{HasSeenWithin, first_seen}
use Rattle.ext_engine.specs.Order.{ChildRun}
use Rattle.ext_engine.specs.TreeRun.{Lanes, Ran}
use Rattle.ext_engine.proofs.Seen.{acts_then}
use Rattle.ext_engine.proofs.Acts.{Acts, heads_go}
use Rattle.ext_one_report.specs.Changing.{events_at}
use Rattle.ext_one_report.proofs.Kept.{same_there}
use Rattle.ext_one_report.proofs.OnCells.{same_slot}
use Rattle.ext_one_report.proofs.Orders.{HaveDrawn, Orders, StandWith}
use Rattle.ext_one_report.proofs.OrdersBounds.{have_drawn}
use Rattle.ext_one_report.proofs.OrdersLaws.{stood_there}
use Rattle.ext_one_report.proofs.Parts.{first_within, no_acts}
use Rattle.ext_plan_parallel.specs.declared.steps.stored_value.StoredValue.{StoredValue}
use Rattle.ext_plan_parallel.specs.StoreCalls.{PlanLane}
use Rattle.ext_plan_plain.specs.PlainRun.{RunState}
use Rattle.ext_plan_plain.specs.ValueStates.{ValueState}
use Rattle.ext_one_report.proofs.MatchingWords.{HasNumberIn, Places, cell_of, plain_meaning, plain_slot}
use Rattle.ext_one_report.proofs.StandingsWords.{AreMatched}
use Rattle.ext_one_report.proofs.StepsWords.{IsLaneIn}
use Rattle.ext_one_report.specs.Within.{is_within}
use Rattle.ext_one_report.proofs.PlainFrames.{IsOpen, LeavesElse}
use Rattle.ext_one_report.proofs.Fills.{Fills, IsFilledIn, computed_of, computed_told}
use Rattle.ext_one_report.proofs.FillsCounts.{fills_wider}
use Rattle.ext_one_report.proofs.Open.{AreNear, Given, Open, StandsOrNot, also, of_value, some_or_none, still_open}
use Rattle.ext_one_report.proofs.Shared.{unshared}
use Rattle.ext_one_report.proofs.OpenStep.{knows_more, open_value, or_not_more, value_is_open}
use Rattle.ext_one_report.proofs.Levels.{AreLevel, outside}
use Rattle.ext_one_report.proofs.SharedNodesWords.{AreComputed, AreOwn, BeginsNear}
use Rattle.ext_one_report.proofs.ChildLists.{only}
use Rattle.ext_one_report.proofs.ComputedAbove.{NoneOpenAbove}
use Rattle.ext_one_report.proofs.NodePlaces.{and_of, any_of, away, away_first, away_from, away_is, both_ways, carried, level_fewer, never, or_first, or_second, within_any}
use Rattle.ext_one_report.proofs.NodePlain.{IsFine, child_fine, child_leaves}
use Rattle.ext_one_report.proofs.SharedNodesBasis.{in_plan, made_changes, unchanged, up}
use Rattle.ext_one_report.proofs.KeptAbove.{fewer_closed}
use Rattle.ext_one_report.proofs.LanesAlone.{computed_part}
use Rattle.ext_one_report.proofs.LanesApart.{AreApart, apart_before}
use Rattle.ext_one_report.proofs.SharedClosesOpen.{computed_fewer}
use Rattle.ext_one_report.proofs.SharedFresh.{IsFresh}
use Rattle.ext_one_report.proofs.SharedNodesBeside.{above_same, off_above, off_node}
use Rattle.ext_one_report.proofs.SharedNodesBody.{ChildrenEnd, ClosedFor, Ends, Ground, IsChild, child_stays, closed_child, over, path_in, step}
use Rattle.ext_one_report.proofs.SharedNodesCells.{near_stay}
use Rattle.ext_one_report.proofs.SharedNodesPasses.{Passes, computed_between, fills_pass, own_now, passes_then}
use Rattle.ext_one_report.proofs.SharedNodesPlaces.{not_both, still_cases, still_none, still_parts, unshared_is, unshared_parts}

-- the open places that are touched
abbrev pub only_touched : Places → Open → Open
only_touched touched o context key = if touched context key then o context key else None

pub touched_open : (touched : Places) (o : Open) (context : ℕ) (key : KeyValue) (v : Given) → touched context key ≡ true → o context key ≡ Some v → only_touched touched o context key ≡ Some v
touched_open touched o context key v on is = ap (λ b. if b then o context key else None) on ∙ is

pub touched_parts : (touched : Places) (o : Open) (context : ℕ) (key : KeyValue) (v : Given) → only_touched touched o context key ≡ Some v → (touched context key ≡ true) × (o context key ≡ Some v)
touched_parts touched o context key v is = elim (bools (touched context key)) [
  | inl on ↦ (on, sym (ap (λ b. if b then o context key else None) on) ∙ is)
  | inr off ↦ not_both (only_touched touched o context key) v (ap (λ b. if b then o context key else None) off) is
]

pub touched_none : (touched : Places) (o : Open) (context : ℕ) (key : KeyValue) → touched context key ≡ true → only_touched touched o context key ≡ None → o context key ≡ None
touched_none touched o context key on none = sym (ap (λ b. if b then o context key else None) on) ∙ none

none_touched : (touched : Places) (o : Open) (context : ℕ) (key : KeyValue) → o context key ≡ None → only_touched touched o context key ≡ None
none_touched touched o context key none = elim (bools (touched context key)) [
  | inl on ↦ ap (λ b. if b then o context key else None) on ∙ none
  | inr off ↦ ap (λ b. if b then o context key else None) off
]

-- ---- a container between its first and its last moment

-- The lanes and the plain run when a container begins, and the lanes when it ends
pub record Whole (g : Ground) : Type 0 where
  pub o : Open
  pub among : (context : ℕ) (key : KeyValue) (v : Given) → o context key ≡ Some v → g.shares g.node context key ≡ Some v
  pub first : List PlanLane
  pub last : List PlanLane
  pub s : ValueState
  pub own : AreOwn g.run g.h (unshared (g.touched g.node) o) first last
  pub computed : AreComputed g.run g.h o first last
  pub within : All (HasSeenWithin g.h) last
  pub known : All (IsLaneIn g.run) last
  pub apart : AreApart last
  -- what was computed above it is not open
  pub none_above : NoneOpenAbove g.plan (drop 1 g.path) o

module _ (g : Ground) (w : Whole g) where
  last_in : IsPrefix (first_seen w.last) g.h
  last_in = first_within g.h w.last w.within

  pub open_touched : (context : ℕ) (key : KeyValue) (v : Given) → w.o context key ≡ Some v → g.touched g.node context key ≡ true
  open_touched context key v is = g.basis.shared.touched_there g.node context key v (w.among context key v is)

  -- what has passed since the container began
  abbrev pub Since : List ℕ → Open → List PlanLane → ValueState → Type 0
  Since done later ys t = Passes g.plan g.run g.h (g.touched g.node) done w.o w.first w.s later ys t

  -- so the lanes are alone at all that is not open any more, for the rest of its run
  pub own_then : (done : List ℕ) (later : Open) (ys zs : List PlanLane) (t : ValueState) → Acts g.h w.first ys → Acts g.h ys zs → Acts g.h zs w.last → Since done later ys t
      → AreOwn g.run g.h (unshared (g.touched g.node) later) ys zs
  own_then done later ys zs t pre acts post since =
      own_now g.plan g.run g.h (g.touched g.node) g.basis.legal w.o open_touched done later w.first ys zs w.last w.s t pre acts post last_in w.own w.computed since

  pub computed_then : (later : Open) (ys zs : List PlanLane) → Acts g.h w.first ys → Acts g.h ys zs → Acts g.h zs w.last → ((context : ℕ) (key : KeyValue) (v : Given) → later context key ≡ Some v → w.o context key ≡ Some v)
      → AreComputed g.run g.h later ys zs
  computed_then later ys zs pre acts post fewer = computed_fewer g.run g.h w.o later ys zs fewer (computed_part g.h w.first ys zs w.last pre acts.goes post g.run w.o w.computed)

  -- and what passes next passes since
  pub since_then : (done more : List ℕ) (later final : Open) (ys zs : List PlanLane) (t q : ValueState) → ((x : ℕ) → Contains done x → IsChild g x) → ((x : ℕ) → Contains more x → IsChild g x)
      → Acts g.h w.first ys → Acts g.h ys zs → Acts g.h zs w.last → Since done later ys t → Passes g.plan g.run g.h (g.touched g.node) more later ys t final zs q → Since more final zs q
  since_then done more later final ys zs t q done_children more_children pre acts post one two =
      passes_then g.plan g.run g.h (g.touched g.node) g.basis.legal w.o open_touched done more later final w.first ys zs w.s t q
      (λ context key v is. off_node g context key v (w.among context key v is) done done_children) (λ context key v is. off_node g context key v (w.among context key v is) more more_children)
      pre.goes acts.goes (prefix_trans (first_seen zs) (first_seen w.last) g.h (heads_go zs w.last post.goes) last_in)
      (computed_part g.h w.first w.first zs w.last (no_acts g.h w.first) (acts_then g.h w.first ys zs pre acts).goes post g.run w.o w.computed) one two

  -- what is filled in a part of its run, and then in the next
  pub fills_next : (done : List ℕ) (o mid final : Open) (xs ys zs : List PlanLane) (s t : ValueState) (lanes plain more others : ℕ) → Acts g.h w.first xs → Acts g.h xs ys → Acts g.h ys zs → Acts g.h zs w.last
      → ((context : ℕ) (key : KeyValue) (v : Given) → o context key ≡ Some v → w.o context key ≡ Some v) → ((context : ℕ) (key : KeyValue) (v : Given) → final context key ≡ Some v → mid context key ≡ Some v)
      → Passes g.plan g.run g.h (g.touched g.node) done o xs s mid ys t
      → Fills (IsFilledIn g.run g.h xs ys) o mid s lanes plain → Fills (IsFilledIn g.run g.h ys zs) mid final t more others → Fills (IsFilledIn g.run g.h xs zs) o final s (lanes + more) (plain + others)
  fills_next done o mid final xs ys zs s t lanes plain more others pre first second post of fewer passes one two =
      fills_pass g.plan g.run g.h (g.touched g.node) g.basis.legal o (λ context key v is. open_touched context key v (of context key v is)) done mid final xs ys zs s t lanes plain more others first second
      (prefix_trans (first_seen zs) (first_seen w.last) g.h (heads_go zs w.last post.goes) last_in) (computed_then o xs zs pre (acts_then g.h xs ys zs first second) post of) fewer passes one two

  -- ---- one child

  module _ (each : ChildrenEnd g) (c : ℕ) (parent : IsChild g c) (before : List ℕ) (others : (x : ℕ) → Contains before x → IsChild g x × (x ≢ c)) (o : Open) (s : Lanes StoredValue) (ran : List Ran) (m : Lanes StoredValue) (r : RunState)
      (child : ChildRun (over g) g.depth c s ran m) (m_within : All (HasSeenWithin g.h) m.first) (m_known : All (IsLaneIn g.run) m.first) (pre : Acts g.h w.first s.first) (acts : Acts g.h s.first m.first)
      (post : Acts g.h m.first w.last) (fine : IsFine g.plan r) (since : Since before o s.first r.state) (drawn : (step g r c).state.store.drawn < enough_numbers g.plan.size) (closed : ClosedFor g o r)
      (fresh : (context : ℕ) → context < length g.plan.nodes → is_within g.plan c context ≡ true → IsFresh context r.state) where
    abbrev oc : Open
    oc = only_touched (g.touched c) o

    up_c : (context : ℕ) (key : KeyValue) → g.touched c context key ≡ true → g.touched g.node context key ≡ true
    up_c context key is = up g.plan g.run g.locks g.h g.touched g.changes g.changed g.shares g.basis g.node c context key parent is

    among_c : (context : ℕ) (key : KeyValue) (v : Given) → o context key ≡ Some v → g.shares g.node context key ≡ Some v
    among_c context key v is = w.among context key v (since.fewer context key v is)

    touched_node : (context : ℕ) (key : KeyValue) (v : Given) → o context key ≡ Some v → g.touched g.node context key ≡ true
    touched_node context key v is = open_touched context key v (since.fewer context key v is)

    own_c : AreOwn g.run g.h (unshared (g.touched g.node) o) s.first m.first
    own_c = own_then before o s.first m.first r.state pre acts post since

    computed_c : AreComputed g.run g.h o s.first m.first
    computed_c = computed_then o s.first m.first pre acts post since.fewer

    -- the places of the child are in no context of those before it
    away_before : (context : ℕ) (key : KeyValue) → unshared (g.touched c) oc context key ≡ true → away g.plan before (unshared (g.touched g.node) o) context key ≡ true
    away_before context key is =
        let parts = unshared_parts (g.touched c) oc context key is in
        away_is g.plan before (unshared (g.touched g.node) o) context key (unshared_is (g.touched g.node) o context key (up_c context key parts.0) (touched_none (g.touched c) o context key parts.0 parts.1))
        (λ x there within. g.basis.covered.siblings g.node x c context key (others x there).0 parent (others x there).1 within parts.0)

    begins_c : BeginsNear g.plan g.run g.locks g.h g.touched g.changes g.changed g.shares c oc s m r
    begins_c = record {
      within = m_within;
      lanes = m_known;
      apart = apart_before m.first w.last post.goes w.apart;
      open_is = λ context key v is.
          let parts = touched_parts (g.touched c) o context key v is in
          g.basis.shared.below g.node c context key v parent (among_c context key v parts.1) parts.0 (λ computed. not_both (o context key) v (closed.none context key computed) parts.1);
      own = record {
        own = λ context number place key event is has seen there on.
            let parts = unshared_parts (g.touched c) oc context key is in
            own_c.own context number place key event (unshared_is (g.touched g.node) o context key (up_c context key parts.0) (touched_none (g.touched c) o context key parts.0 parts.1)) has seen there on;
      };
      computed = record { computed = λ context number place key v event is has seen there on. computed_c.computed context number place key v event (touched_parts (g.touched c) o context key v is).1 has seen there on };
      level = level_fewer g.plan g.run (away g.plan before (unshared (g.touched g.node) o)) (unshared (g.touched c) oc) (first_seen s.first) r.state away_before since.level;
      near = record {
        lanes = λ context key number v is has. since.near.lanes context key number v (touched_parts (g.touched c) o context key v is).1 has;
        plain = λ context key v is. since.near.plain context key v (touched_parts (g.touched c) o context key v is).1;
        above = λ context key v above is path_is. since.near.above context key v above (touched_parts (g.touched c) o context key v is).1 path_is;
        numbered = record {
          beyond = λ context key number is past.
              let some = open_value oc context key is in
              since.near.numbered.beyond context key number (value_is_open o context key some.0 (touched_parts (g.touched c) o context key some.0 some.1).1) past;
          drawn = since.near.numbered.drawn;
        };
      };
      closed = closed_child g c oc r parent (fewer_closed g.plan (plan_path g.plan g.node) o oc r.state (λ context key v is. (touched_parts (g.touched c) o context key v is).1) closed);
      results = fine.count;
      fresh = fresh;
    }

    pub ends_c : Ends g.plan g.run g.locks g.h g.touched g.changes g.changed g.shares c oc s ran m r (step g r c)
    ends_c = each c oc s ran m r parent child begins_c drawn

    abbrev settled : Places
    settled = ends_c.ends.settled

    abbrev pub later_c : Open
    later_c = still_open ends_c.ends.settled o

    leaves_c : LeavesElse (g.changes c) (is_within g.plan c) r.state (step g r c).state
    leaves_c = child_leaves g.plan g.touched g.changes g.basis.read g.basis.covered g.levels g.node g.path (path_in g) r c parent fine

    fine_c : IsFine g.plan (step g r c)
    fine_c = child_fine g.plan g.touched g.changes g.basis.read g.basis.covered g.levels g.node g.path (path_in g) r c parent fine

    -- what was computed above it stands behind it too
    pub closed_c : ClosedFor g later_c (step g r c)
    closed_c =
        fewer_closed g.plan (plan_path g.plan g.node) o later_c (step g r c).state (λ context key v is. (still_parts settled o context key v is).1) (child_stays g c o r parent closed)

    -- what it settles it touches, and was open
    settled_was : (context : ℕ) (key : KeyValue) → settled context key ≡ true → (v : Given) × (g.touched c context key ≡ true) × (o context key ≡ Some v)
    settled_was context key on =
        let was = ends_c.ends.were_open context key on in
        let parts = touched_parts (g.touched c) o context key was.0 was.1 in
        (was.0, parts.0, parts.1)

    within_c : (context : ℕ) (key : KeyValue) → away g.plan (c ∷ before) (unshared (g.touched g.node) later_c) context key ≡ true → is_within g.plan c context ≡ false
    within_c context key is = never (is_within g.plan c context) (away_from g.plan (c ∷ before) (unshared (g.touched g.node) later_c) context key is c (contains_here c before))

    -- a place that it touches, and that is not open any more, is one where the same stands after it,
    its_place : (context : ℕ) (key : KeyValue) → is_within g.plan c context ≡ false → g.touched c context key ≡ true → later_c context key ≡ None → outside g.plan c (also settled (unshared (g.touched c) oc)) context key ≡ true
    its_place context key off touched none =
        and_of (also settled (unshared (g.touched c) oc) context key) (not (is_within g.plan c context)) (elim (still_cases settled o context key none) [
          | inl on ↦ or_second (unshared (g.touched c) oc context key) (settled context key) on
          | inr closed ↦ or_first (unshared (g.touched c) oc context key) (settled context key) (unshared_is (g.touched c) oc context key touched (none_touched (g.touched c) o context key closed.1))
        ]) (ap not off)

    -- and at one that it does not touch nothing is changed
    module _ (context : ℕ) (key : KeyValue) (is : away g.plan (c ∷ before) (unshared (g.touched g.node) later_c) context key ≡ true) (not_touched : g.touched c context key ≡ false) where
      parts : (g.touched g.node context key ≡ true) × (later_c context key ≡ None)
      parts = unshared_parts (g.touched g.node) later_c context key (away_first g.plan (c ∷ before) (unshared (g.touched g.node) later_c) context key is)

      was_closed : o context key ≡ None
      was_closed = elim (still_cases settled o context key parts.1) [
        | inl on ↦ both_ways (g.touched c context key) (settled_was context key on).1 not_touched
        | inr not_settled ↦ not_settled.1
      ]

      place : away g.plan before (unshared (g.touched g.node) o) context key ≡ true
      place = away_is g.plan before (unshared (g.touched g.node) o) context key (unshared_is (g.touched g.node) o context key parts.0 was_closed)
          (λ x there within. away_from g.plan (c ∷ before) (unshared (g.touched g.node) later_c) context key is x (contains_later c before x there) within)

      off : g.changes c context key ≡ false
      off = unchanged g.plan g.run g.locks g.h g.touched g.changes g.changed g.shares g.basis g.node c context key not_touched

      clear : IsOpen context r.state
      clear = λ number past. since.level.numbered.beyond context key number place past

      quiet : (number : ℕ) → HasNumberIn g.run key number → events_at (cell_of g.run number context) (first_seen m.first) ≡ events_at (cell_of g.run number context) (first_seen s.first)
      quiet number has =
          same_there g.h (first_seen s.first) (first_seen m.first) (cell_of g.run number context) (heads_go s.first m.first acts.goes) (first_within g.h m.first m_within) (λ event_place event low high there on.
          let made = own_c.own context number event_place key event (unshared_is (g.touched g.node) o context key parts.0 was_closed) has (record { since = low; until = high }) there on in
          both_ways (g.changes c context key)
          (made_changes g.plan g.run g.locks g.h g.touched g.changes g.changed g.shares g.basis g.depth c s ran m child m_within context number event_place key event (g.basis.covered.within g.node context key parts.0) has there on made) off)

      other_slots : (number : ℕ) → HasNumberIn g.run key number
          → AreMatched g.run.meaning (plain_meaning (step g r c).state.values) (slots_in (cell_of g.run number) (first_seen m.first) context) (plain_slot (step g r c).state context key)
      other_slots number has =
          carried (g.changes c) (is_within g.plan c) r.state (step g r c).state leaves_c g.run (first_seen s.first) (first_seen m.first) context key number off (within_c context key is) clear (quiet number has)
          (since.level.matches.slots context key number place has)

      other_none : ((number : ℕ) → ¬ HasNumberIn g.run key number) → plain_slot (step g r c).state context key ≡ None
      other_none without = leaves_c.slots context key off (within_c context key is) clear ∙ since.level.matches.unnumbered context key place without

    level_c : AreLevel g.plan g.run (away g.plan (c ∷ before) (unshared (g.touched g.node) later_c)) (first_seen m.first) (step g r c).state
    level_c = record {
      matches = record {
        slots = λ context key number is has. elim (bools (g.touched c context key)) [
          | inr not_touched ↦ other_slots context key is not_touched number has
          | inl touched ↦ ends_c.ends.level.matches.slots context key number (its_place context key (within_c context key is) touched
              (unshared_parts (g.touched g.node) later_c context key (away_first g.plan (c ∷ before) (unshared (g.touched g.node) later_c) context key is)).1) has
        ];
        unnumbered = λ context key is without. elim (bools (g.touched c context key)) [
          | inr not_touched ↦ other_none context key is not_touched without
          | inl touched ↦ ends_c.ends.level.matches.unnumbered context key (its_place context key (within_c context key is) touched
              (unshared_parts (g.touched g.node) later_c context key (away_first g.plan (c ∷ before) (unshared (g.touched g.node) later_c) context key is)).1) without
        ];
      };
      numbered = record {
        beyond = λ context key number is past.
            let both = unshared_parts (g.touched g.node) later_c context key (away_first g.plan (c ∷ before) (unshared (g.touched g.node) later_c) context key is) in
            leaves_c.stays_open context (within_c context key is) (elim (some_or_none (o context key)) [
              | inl none ↦ λ n p. since.level.numbered.beyond context key n
                  (away_is g.plan before (unshared (g.touched g.node) o) context key (unshared_is (g.touched g.node) o context key both.0 none)
                  (λ x there within. away_from g.plan (c ∷ before) (unshared (g.touched g.node) later_c) context key is x (contains_later c before x there) within)) p
              | inr some ↦ λ n p. since.near.numbered.beyond context key n (value_is_open o context key some.0 some.1) p
            ]) number past;
        drawn = sym fine_c.gave.values;
      };
      memory = fine_c.memory;
      keeps = since.level.keeps ∙ sym leaves_c.keeps;
      gave = fine_c.gave;
      of_plan = fine_c.of_plan;
    }

    -- ---- what is open still

    -- it is in no context of the child's
    off_open : (context : ℕ) (key : KeyValue) (v : Given) → o context key ≡ Some v → is_within g.plan c context ≡ false
    off_open context key v is = never (is_within g.plan c context) (λ within.
        both_ways (within_any g.plan (c ∷ []) context) (or_first (is_within g.plan c context) (within_any g.plan [] context) within)
        (off_node g context key v (among_c context key v is) (c ∷ []) (λ x there. subst (IsChild g) (only c x there) parent)))

    clear_open : (context : ℕ) (key : KeyValue) (v : Given) → o context key ≡ Some v → IsOpen context r.state
    clear_open context key v is = λ number past. since.near.numbered.beyond context key number (value_is_open o context key v is) past

    plain_c : (context : ℕ) (key : KeyValue) (v : Given) → later_c context key ≡ Some v → plain_slot (step g r c).state context key ≡ plain_slot r.state context key
    plain_c context key v is =
        let both = still_parts settled o context key v is in
        elim (bools (g.touched c context key)) [
          | inl touched ↦ ends_c.ends.unchanged context key v both.0 (touched_open (g.touched c) o context key v touched both.1)
          | inr not_touched ↦
              leaves_c.slots context key (unchanged g.plan g.run g.locks g.h g.touched g.changes g.changed g.shares g.basis g.node c context key not_touched) (off_open context key v both.1) (clear_open context key v both.1)
        ]

    near_c : AreNear g.run later_c (first_seen m.first) (step g r c).state
    near_c = record {
      lanes = λ context key number v is has.
          let both = still_parts settled o context key v is in
          near_stay g.h (first_seen s.first) (first_seen m.first) (heads_go s.first m.first acts.goes) (first_within g.h m.first m_within) (cell_of g.run number context) g.run v
          (since.near.lanes context key number v both.1 has) (computed_between g.run g.h o s.first m.first computed_c context number key v both.1 has);
      plain = λ context key v is.
          let both = still_parts settled o context key v is in
          subst (λ x. StandsOrNot (plain_meaning (step g r c).state.values) v x) (sym (plain_c context key v is))
          (or_not_more (plain_meaning r.state.values) (plain_meaning (step g r c).state.values) v (plain_slot r.state context key) (knows_more (g.changes c) (is_within g.plan c) r.state (step g r c).state leaves_c)
          (since.near.plain context key v both.1));
      above = λ context key v above is path_is.
          let both = still_parts settled o context key v is in
          let shares = among_c context key v both.1 in
          let in_ids = in_plan g.plan g.run g.locks g.h g.touched g.changes g.changed g.shares g.basis context (context ∷ above) path_is in
          let Q : ℕ → Type 0 = λ k. plain_slot r.state k key ≡ None in
          let P : ℕ → Type 0 = λ k. (g.touched g.node k key ≡ true) × (g.shares g.node k key ≡ None) × (g.changes g.node k key ≡ false) in
          let one_child : (x : ℕ) → Contains (c ∷ []) x → IsChild g x = λ x there. subst (IsChild g) (only c x there) parent in
          let one : (at : ℕ) → Contains above at → plain_slot (step g r c).state at key ≡ None =
          λ at there.
          let its = All-contains P above at (g.basis.shared.above g.node context key v above shares in_ids) there in
          let same = never (g.changes c at key) (λ ch. both_ways (any_of g.changes (c ∷ []) at key) (or_first (g.changes c at key) (any_of g.changes [] at key) ch) (above_same g context at key v above shares in_ids there (c ∷ []) one_child)) in
          let away_c = never (is_within g.plan c at) (λ within. both_ways (within_any g.plan (c ∷ []) at) (or_first (is_within g.plan c at) (within_any g.plan [] at) within) (off_above g context at key v above shares in_ids there (c ∷ []) one_child)) in
          let closed_at : o at key ≡ None = elim (some_or_none (o at key)) [ inl none ↦ none | inr some ↦ not_both (g.shares g.node at key) some.0 its.1 (among_c at key some.0 some.1) ] in
          let clear_at : IsOpen at r.state =
          λ number past. since.level.numbered.beyond at key number
          (and_of (unshared (g.touched g.node) o at key) (not (within_any g.plan before at)) (unshared_is (g.touched g.node) o at key its.0 closed_at)
          (ap not (off_above g context at key v above shares in_ids there before (λ x among. (others x among).0)))) past in
          leaves_c.slots at key same away_c clear_at ∙ All-contains Q above at (since.near.above context key v above both.1 path_is) there in
          λ k d inside. one _ (Contains-get_or above k d inside);
      numbered = record {
        beyond = λ context key number is past.
            let some = open_value later_c context key is in
            let both = still_parts settled o context key some.0 some.1 in
            leaves_c.stays_open context (off_open context key some.0 both.1) (clear_open context key some.0 both.1) number past;
        drawn = sym fine_c.gave.values;
      };
    }

    pub passes_c : Passes g.plan g.run g.h (g.touched g.node) (c ∷ before) o s.first r.state later_c m.first (step g r c).state
    passes_c = record {
      fewer = λ context key v is. (still_parts settled o context key v is).1;
      level = level_c;
      near = near_c;
      stand = λ context key v is none. elim (still_cases settled o context key none) [
        | inr not_settled ↦ not_both (o context key) v not_settled.1 is
        | inl on ↦ ends_c.ends.stand context key v on (touched_open (g.touched c) o context key v (settled_was context key on).1 is)
      ];
      unchanged = plain_c;
      untouched = λ context number event_place key v event is left has there on made.
          let both = still_parts settled o context key v is in
          let ch = made_changes g.plan g.run g.locks g.h g.touched g.changes g.changed g.shares g.basis g.depth c s ran m child m_within context number event_place key event
          (g.basis.covered.within g.node context key (touched_node context key v both.1)) has there on made in
          ends_c.ends.untouched.none context number event_place key v event (touched_open (g.touched c) o context key v (g.basis.covered.touches c context key ch) both.1) both.0 left has there on made;
    }

    pub since_c : Since (c ∷ before) later_c m.first (step g r c).state
    since_c = since_then before (c ∷ before) o later_c s.first m.first r.state (step g r c).state (λ x there. (others x there).0)
        (λ x there. elim (contains_cons c before x there) [ inl same ↦ subst (IsChild g) same parent | inr early ↦ (others x early).0 ]) pre acts post since passes_c

    -- it fills no other open places than those that it touches
    pub fills_c : Fills (IsFilledIn g.run g.h s.first m.first) o later_c r.state (computed_of ran) (computed_told ran (step g r c).results)
    fills_c =
        fills_wider (IsFilledIn g.run g.h s.first m.first) oc o (still_open settled oc) later_c r.state (computed_of ran) (computed_told ran (step g r c).results)
        (λ spot is. record {
          value = is.value;
          was_open = (touched_parts (g.touched c) o spot.0 spot.1 (of_value is.value) is.was_open).1;
          closed = elim (still_cases settled oc spot.0 spot.1 is.closed) [
            | inl on ↦ still_none settled o spot.0 spot.1 on
            | inr none ↦ not_both (oc spot.0 spot.1) (of_value is.value) none.1 is.was_open
          ];
        })
        (λ spot is. elim (still_cases settled o spot.0 spot.1 is.closed) [
          | inl on ↦ record {
            value = is.value;
            was_open = touched_open (g.touched c) o spot.0 spot.1 (of_value is.value) (settled_was spot.0 spot.1 on).1 is.was_open;
            closed = still_none settled oc spot.0 spot.1 on;
          }
          | inr none ↦ not_both (o spot.0 spot.1) (of_value is.value) none.1 is.was_open
        ])
        (λ spot v is filled.
        let ch = made_changes g.plan g.run g.locks g.h g.touched g.changes g.changed g.shares g.basis g.depth c s ran m child m_within spot.0 filled.number filled.place spot.1 filled.event
        (g.basis.covered.within g.node spot.0 spot.1 (touched_node spot.0 spot.1 (of_value v) is)) filled.has filled.there (ap place_of filled.act) filled.made in
        (v, touched_open (g.touched c) o spot.0 spot.1 (of_value v) (g.basis.covered.touches c spot.0 spot.1 ch) is)) ends_c.ends.fills

    -- ---- numbers

    -- the lanes and the plain run before it have drawn what stands
    drew_c : HaveDrawn g.run (λ context key. true) (first_seen s.first) r.state
    drew_c =
        let on = prefix_trans (first_seen s.first) (first_seen m.first) g.h (heads_go s.first m.first acts.goes) (first_within g.h m.first m_within) in
        have_drawn g.plan g.run (λ context key. true) g.run.store.id.cells.limits (first_seen s.first) r.state (legal_begun (first_seen s.first) g.h on g.basis.legal) since.level.of_plan

    abbrev pub places_c : Places
    places_c = away g.plan (c ∷ before) (unshared (g.touched g.node) o)

    -- what was not open before it is not open after it
    place_later : (context : ℕ) (key : KeyValue) → places_c context key ≡ true → away g.plan (c ∷ before) (unshared (g.touched g.node) later_c) context key ≡ true
    place_later context key is =
        let parts = unshared_parts (g.touched g.node) o context key (away_first g.plan (c ∷ before) (unshared (g.touched g.node) o) context key is) in
        away_is g.plan (c ∷ before) (unshared (g.touched g.node) later_c) context key (unshared_is (g.touched g.node) later_c context key parts.0 (none_later context key parts.1))
        (λ x there within. away_from g.plan (c ∷ before) (unshared (g.touched g.node) o) context key is x there within)
      where
        none_later : (context : ℕ) (key : KeyValue) → o context key ≡ None → later_c context key ≡ None
        none_later context key none = elim (some_or_none (later_c context key)) [
          | inl is ↦ is
          | inr some ↦ not_both (o context key) some.0 none (still_parts settled o context key some.0 some.1).1
        ]

    -- what the child touches of them it touches alone
    its_own_place : (context : ℕ) (key : KeyValue) → places_c context key ≡ true → g.touched c context key ≡ true → outside g.plan c (unshared (g.touched c) oc) context key ≡ true
    its_own_place context key is touched =
        let parts = unshared_parts (g.touched g.node) o context key (away_first g.plan (c ∷ before) (unshared (g.touched g.node) o) context key is) in
        and_of (unshared (g.touched c) oc context key) (not (is_within g.plan c context)) (unshared_is (g.touched c) oc context key touched (none_touched (g.touched c) o context key parts.1))
        (ap not (within_c context key (place_later context key is)))

    -- and at the others the same stands as before
    other_stood : (context : ℕ) (key : KeyValue) (a b : ℕ) → places_c context key ≡ true → g.touched c context key ≡ false → StandWith g.run context key (first_seen m.first) (step g r c).state a b
        → StandWith g.run context key (first_seen s.first) r.state a b
    other_stood context key a b is not_touched stands =
        let place = place_later context key is in
        stood_there g.run (first_seen s.first) (first_seen m.first) r.state (step g r c).state context key a b
        (λ number has. same_slot (first_seen m.first) (first_seen s.first) (cell_of g.run number context) (quiet context key place not_touched number has))
        (leaves_c.slots context key (off context key place not_touched) (within_c context key place) (clear context key place not_touched)) stands

    pub orders_c : Orders g.run places_c (first_seen s.first) (first_seen m.first) r.state (step g r c).state
    orders_c = record {
      each = λ context key a b v is stands means fails. elim (bools (g.touched c context key)) [
        | inl touched ↦ ends_c.ends.orders.each context key a b v (its_own_place context key is touched) stands means fails
        | inr not_touched ↦ inl (other_stood context key a b is not_touched stands)
      ];
      pairs = λ context key other a b d e v w is also stands more means meant fails failed differ new new' less. elim (bools (g.touched c context key)) [
        | inr not_touched ↦
            let few = (drew_c.drew context key a b v refl (other_stood context key a b is not_touched stands) means).0 in
            let late = new.0 in
            absurd (omega (arith, few, late))
        | inl touched ↦ elim (bools (g.touched c context other)) [
          | inr not_touched ↦
              let few = (drew_c.drew context other d e w refl (other_stood context other d e also not_touched more) meant).0 in
              let late = new'.0 in
              absurd (omega (arith, few, late))
          | inl touched' ↦
              ends_c.ends.orders.pairs context key other a b d e v w (its_own_place context key is touched) (its_own_place context other also touched') stands more means meant fails failed differ new new' less
        ]
      ];
    }
