-- The concurrent children of a container that share places: who made the events there, which of the places are open for them, and where nothing happens.
use Rattle.std.proofs.Common.{◌≡◌, ℕ, ◌<◌, ◌≤◌, inl, inr, true, false, ◌||◌, drop, fold, List, [], ◌∷◌, ◌++◌, length, None, Some, ap, sym, subst, ◌∙◌, arith}
use Rattle.std.specs.Prelude.{All, Contains, if◌then◌else◌, slice_get, slice_index_or}
use mathlib.Core.List.{IsPrefix}
use Rattle.std.proofs.lemmas.List.Elements.{All-contains, All-head, All-tail, Contains-get_or, filter_passes}
use Rattle.ext_history.proofs.Lists.{bools, contains_cons}
use Rattle.ext_history.proofs.Once.{Once, once-from_pairs, once-parted}
use Rattle.ext_model.specs.declared.event.Event.{Event}
use Rattle.ext_model.specs.declared.look.Look.TheVariants as look
use Rattle.ext_model.specs.CallActs.{look_after}
use Rattle.ext_model.specs.Events.{place_of}
use Rattle.ext_model.specs.History.{History, slots_in}
use Rattle.ext_one_report.proofs.Numbers.{enough_numbers}
use Rattle.ext_tree.specs.Keys.{KeyValue}
use Rattle.ext_tree.specs.Trees.{Id, IsParentOf, IsPathOf, IsTree, children_of}
use Rattle.ext_tree.proofs.TreeLaws.{parents_list_children}
use Rattle.ext_locks.specs.Opening.{LocksView}
use Rattle.ext_plan.specs.Plans.{PlanText}
use Rattle.ext_plan.specs.PlanCalls.{concurrent_of}
use Rattle.ext_plan.specs.ReadPlans.{ids_of_nodes}
use Rattle.ext_races.specs.MadeSteps.{plan_path}
use Rattle.ext_engine.specs.RunLaws.{HasRun}
use Rattle.ext_engine.specs.Meeting.{HasSeenWithin, first_seen}
use Rattle.ext_engine.specs.Order.{CallsGoOn, ChildRun, IsMadeIn}
use Rattle.ext_engine.specs.TreeRun.{BodyRun, Lanes, Ran, TreeSetting, concurrent_children, same_thread_children}
use Rattle.ext_engine.proofs.Above.{Under, within_tree}
use Rattle.ext_engine.proofs.Acts.{Acts}
use Rattle.ext_one_report.specs.Changing.{events_at}
use Rattle.ext_one_report.proofs.Containers.{are_children, is_concurrent_child}
use Rattle.ext_one_report.proofs.Kept.{same_there}
use Rattle.ext_plan_parallel.specs.declared.steps.stored_value.StoredValue.{StoredValue}
use Rattle.ext_plan_plain.specs.PlainRun.{RunState, node_run}
use Rattle.ext_plan_plain.proofs.Nodes.{child_path}
use Rattle.ext_one_report.proofs.MatchingWords.{HasNumberIn, Places, RunView, cell_of, plain_meaning, plain_slot}
use Rattle.ext_one_report.proofs.StepsWords.{IsLaneIn}
use Rattle.ext_one_report.proofs.Calls.{lane_before}
use Rattle.ext_one_report.proofs.Standings.{matched_empty}
use Rattle.ext_one_report.proofs.Open.{AreNear, Computes, Given, Open, is_open, some_or_none}
use Rattle.ext_one_report.proofs.Shared.{unshared}
use Rattle.ext_one_report.proofs.SharedFresh.{IsFresh}
use Rattle.ext_one_report.specs.Within.{is_within}
use Rattle.ext_one_report.proofs.OpenStep.{open_value, value_is_open}
use Rattle.ext_one_report.proofs.FullRuns.{setting_in}
use Rattle.ext_one_report.proofs.Levels.{AreLevel}
use Rattle.ext_one_report.proofs.SharedNodesWords.{AreComputed, AreOwn, BeginsNear, EndsNear, IsSharedBasis}
use Rattle.ext_one_report.proofs.LanesAlone.{view_moves}
use Rattle.ext_one_report.proofs.LanesApart.{AreApart}
use Rattle.ext_one_report.proofs.NodePlaces.{both_ways, never, or_either, or_first, or_second}
use Rattle.ext_one_report.proofs.NodePlain.{IsFine}
use Rattle.ext_one_report.proofs.NodeTrees.{its_path}
use Rattle.ext_one_report.proofs.SharedEvents.{shared_is_computed, shared_is_looked_for}
use Rattle.ext_one_report.proofs.SharedEventsFrozen.{frozen_is_quiet}
use Rattle.ext_one_report.proofs.SharedNodesBasis.{HasPath, IsConcurrent, above_unchanged, has_path, in_plan, in_run, made_changes, run_tree, shares_too, up}
use Rattle.ext_one_report.proofs.SharedNodesCells.{Between, quiet_up_to}
use Rattle.ext_one_report.proofs.ComputedAbove.{IsClosedAbove, IsStoredIn, all_clear}
use Rattle.ext_one_report.proofs.KeptAbove.{child_closed}
use Rattle.ext_one_report.proofs.SharedNodesPlaces.{absent_is, is_clear_there, never_claimed, not_both, one_value, unshared_is}
use Rattle.ext_one_report.proofs.SharedNodesRuns.{Job, acts, at_end, at_start, begun, ended, ends_within, job, lasts, made_by, made_in, one_maker as made_once, over as lasts_over, ran_of, until_in}

-- a node has ended near, and all that ran is at or below it
pub record Ends (plan : PlanText) (run : RunView) (locks : LocksView) (h : History) (touched changes : ℕ → Places) (changed : ℕ → List ℕ) (shares : ℕ → Open)
    (child : ℕ) (o : Open) (s : Lanes StoredValue) (ran : List Ran) (u : Lanes StoredValue) (a b : RunState) : Type 0 where
  pub ends : EndsNear plan run locks h touched changes changed shares child o s ran u a b
  pub under : (k : ℕ) → HasRun ran k → Under (ids_of_nodes plan.nodes) child k

-- ---- a container

-- what is so of a container, whatever its run
pub record Ground : Type 0 where
  pub plan : PlanText
  pub run : RunView
  pub locks : LocksView
  pub h : History
  pub touched : ℕ → Places
  pub changes : ℕ → Places
  pub changed : ℕ → List ℕ
  pub shares : ℕ → Open
  pub basis : IsSharedBasis plan run locks h touched changes changed shares
  pub depth : ℕ
  pub levels : ℕ
  pub node : ℕ
  pub path : List ℕ
  pub path_is : IsPathOf run.store.tree node path

module _ (g : Ground) where
  abbrev pub over : TreeSetting StoredValue ℕ
  over = setting_in g.plan g.run g.locks

  abbrev pub ids : List Id
  ids = ids_of_nodes g.plan.nodes

  abbrev pub IsChild : ℕ → Type 0
  IsChild child = IsParentOf ids g.node child

  abbrev pub step : RunState → ℕ → RunState
  step r child = node_run g.plan g.levels (child ∷ g.path) r

  abbrev pub after_all : RunState → List ℕ → RunState
  after_all r children = fold (λ r child. node_run g.plan g.levels (child ∷ g.path) r) r children

  -- each child with the nodes below it ends near
  abbrev pub ChildrenEnd : Type 0
  ChildrenEnd =
      (child : ℕ) (o : Open) (s : Lanes StoredValue) (ran : List Ran) (u : Lanes StoredValue) (r : RunState) → IsChild child → ChildRun over g.depth child s ran u
      → BeginsNear g.plan g.run g.locks g.h g.touched g.changes g.changed g.shares child o s u r → (step r child).state.store.drawn < enough_numbers g.plan.size
      → Ends g.plan g.run g.locks g.h g.touched g.changes g.changed g.shares child o s ran u r (step r child)

  abbrev pub beside_ones : List ℕ
  beside_ones = concurrent_children over g.node

  abbrev pub turn_ones : List ℕ
  turn_ones = same_thread_children over g.node

  pub path_in : IsPathOf ids g.node g.path
  path_in = in_plan g.plan g.run g.locks g.h g.touched g.changes g.changed g.shares g.basis g.node g.path g.path_is

  child_in : (c : ℕ) → IsParentOf g.run.store.tree g.node c → IsChild c
  child_in c parent = subst (λ (l : List Id). IsParentOf l g.node c) g.basis.tree parent

  tree_is : IsTree g.run.store.tree
  tree_is = run_tree g.plan g.run g.locks g.h g.touched g.changes g.changed g.shares g.basis

  pub beside_child : (c : ℕ) → Contains beside_ones c → IsChild c
  beside_child c among = child_in c (is_concurrent_child over tree_is g.node g.path g.path_is c among)

  pub turn_child : (c : ℕ) → Contains turn_ones c → IsChild c
  turn_child c among = child_in c (All-contains (IsParentOf g.run.store.tree g.node) turn_ones c (are_children over tree_is g.node g.path g.path_is) among)

  pub concurrent : (c : ℕ) → Contains beside_ones c → IsConcurrent g.plan g.run g.locks g.h g.touched g.changes g.changed g.shares g.basis g.node c
  concurrent c among = (beside_child c among, All-contains (λ x. concurrent_of g.plan x ≡ true) beside_ones c (filter_passes (concurrent_of g.plan) (children_of g.run.store.tree g.node)) among)

  -- what the callbacks of the container and of nodes above it computed stands behind its children too
  abbrev pub ClosedFor : Open → RunState → Type 0
  ClosedFor o r = IsClosedAbove g.plan (plan_path g.plan g.node) o r.state

  pub child_on : (c : ℕ) → IsChild c → IsPathOf ids c (c ∷ g.path)
  child_on c parent = child_path ids g.node c g.path path_in parent

  pub child_stays : (c : ℕ) (o : Open) (r : RunState) → IsChild c → ClosedFor o r → ClosedFor o (step r c)
  child_stays c o r parent closed =
      child_closed g.plan g.basis.read g.levels c (plan_path g.plan g.node) (c ∷ g.path) (child_on c parent)
      (λ n there. subst (λ l. Contains l n) (sym (its_path g.plan g.basis.read.runnable.tree g.node g.path path_in)) there) o r closed

  pub children_stay : (xs : List ℕ) (o : Open) (r : RunState) → All IsChild xs → ClosedFor o r → ClosedFor o (after_all r xs)
  children_stay [] o r children closed = closed
  children_stay (c ∷ xs) o r children closed = children_stay xs o (step r c) (All-tail IsChild c xs children) (child_stays c o r (All-head IsChild c xs children) closed)

  -- the nodes above a child are the container and those above it
  pub closed_child : (c : ℕ) (o : Open) (r : RunState) → IsChild c → ClosedFor o r → IsClosedAbove g.plan (drop 1 (plan_path g.plan c)) o r.state
  closed_child c o r parent closed =
      let tree = g.basis.read.runnable.tree in
      let above : plan_path g.plan g.node ≡ drop 1 (plan_path g.plan c) =
      sym (its_path g.plan tree g.node g.path path_in) ∙ ap (λ l. drop 1 l) (its_path g.plan tree c (c ∷ g.path) (child_on c parent)) in
      subst (λ l. IsClosedAbove g.plan l o r.state) above closed

  pub all_once : Once (beside_ones ++ turn_ones)
  all_once =
      let children = children_of g.run.store.tree g.node in
      let order = (parents_list_children g.run.store.tree g.node (within_tree g.run.store.tree g.node g.path tree_is g.path_is)).order in
      once-parted (concurrent_of g.plan) children (once-from_pairs (λ a b. a < b) (λ x less. omega (arith, less)) children order)

-- ---- its body

-- The body of a container, where these places are open when it begins
pub record Body (g : Ground) : Type 0 where
  pub opened : Lanes StoredValue
  pub below : List Ran
  pub after : Lanes StoredValue
  pub body : BodyRun (over g) (ChildRun (over g) g.depth) g.node opened below after
  pub within : All (HasSeenWithin g.h) body.joined
  pub known : All (IsLaneIn g.run) body.joined
  pub apart : AreApart body.joined
  pub o : Open
  pub among : (context : ℕ) (key : KeyValue) (v : Given) → o context key ≡ Some v → g.shares g.node context key ≡ Some v
  pub own : AreOwn g.run g.h (unshared (g.touched g.node) o) opened.first body.joined
  pub computed : AreComputed g.run g.h o opened.first body.joined
  pub r : RunState
  pub fine : IsFine g.plan r
  pub level : AreLevel g.plan g.run (unshared (g.touched g.node) o) (first_seen opened.first) r.state
  pub near : AreNear g.run o (first_seen opened.first) r.state
  -- what its own callbacks and those of nodes above computed is not open, and stands in the plain run
  pub closed : IsClosedAbove g.plan (plan_path g.plan g.node) o r.state
  -- nothing stands in the contexts of its children and of those below them
  pub fresh : (child context : ℕ) → IsChild g child → context < length g.plan.nodes → is_within g.plan child context ≡ true → IsFresh context r.state

module _ (g : Ground) (b : Body g) where
  abbrev pub cs : List ℕ
  cs = beside_ones g

  abbrev pub child_at : ℕ → ℕ
  child_at i = slice_index_or cs i 0

  abbrev pub since : History
  since = first_seen b.opened.first

  abbrev pub until : History
  until = first_seen b.body.joined

  abbrev pub cell : ℕ → ℕ → ℕ
  cell number context = cell_of g.run number context

  pub goes : CallsGoOn (over g).call_gives
  goes = view_moves g.plan g.run

  -- the run of each concurrent child
  abbrev pub s_of : ℕ → Lanes StoredValue
  s_of i = at_start (over g) goes g.h g.depth g.node b.opened b.below b.after b.body b.within (IsLaneIn g.run) (lane_before g.run) b.known b.apart i

  abbrev pub u_of : ℕ → Lanes StoredValue
  u_of i = at_end (over g) goes g.h g.depth g.node b.opened b.below b.after b.body b.within (IsLaneIn g.run) (lane_before g.run) b.known b.apart i

  abbrev pub ran_at : ℕ → List Ran
  ran_at i = ran_of (over g) goes g.h g.depth g.node b.opened b.below b.after b.body b.within (IsLaneIn g.run) (lane_before g.run) b.known b.apart i

  abbrev pub JobAt : ℕ → Type 0
  JobAt i = Job (over g) goes g.h g.depth g.node b.opened b.below b.after b.body b.within (IsLaneIn g.run) (lane_before g.run) b.known b.apart i (s_of i) (ran_at i) (u_of i)

  pub job_at : (i : ℕ) → i < length cs → JobAt i
  job_at i less = job (over g) goes g.h g.depth g.node b.opened b.below b.after b.body b.within (IsLaneIn g.run) (lane_before g.run) b.known b.apart i less

  pub ends_in : (i : ℕ) → i < length cs → All (HasSeenWithin g.h) (u_of i).first
  ends_in i less = ends_within (over g) goes g.h g.depth g.node b.opened b.below b.after b.body b.within (IsLaneIn g.run) (lane_before g.run) b.known b.apart i less

  pub acts_at : (i : ℕ) → i < length cs → Acts g.h (s_of i).first (u_of i).first
  acts_at i less = acts (over g) goes g.h g.depth g.node b.opened b.below b.after b.body b.within (IsLaneIn g.run) (lane_before g.run) b.known b.apart i less

  pub begun_at : (i : ℕ) → i < length cs → IsPrefix since (first_seen (s_of i).first)
  begun_at i less = begun (over g) goes g.h g.depth g.node b.opened b.below b.after b.body b.within (IsLaneIn g.run) (lane_before g.run) b.known b.apart i less

  pub over_at : (i : ℕ) → i < length cs → IsPrefix (first_seen (s_of i).first) (first_seen (u_of i).first)
  over_at i less = lasts_over (over g) goes g.h g.depth g.node b.opened b.below b.after b.body b.within (IsLaneIn g.run) (lane_before g.run) b.known b.apart i less

  pub ended_at : (i : ℕ) → i < length cs → IsPrefix (first_seen (u_of i).first) until
  ended_at i less = ended (over g) goes g.h g.depth g.node b.opened b.below b.after b.body b.within (IsLaneIn g.run) (lane_before g.run) b.known b.apart i less

  pub since_until : IsPrefix since until
  since_until = lasts (over g) goes g.h g.depth g.node b.opened b.below b.after b.body b.within (IsLaneIn g.run) (lane_before g.run) b.known b.apart

  pub until_in_h : IsPrefix until g.h
  until_in_h = until_in (over g) goes g.h g.depth g.node b.opened b.below b.after b.body b.within (IsLaneIn g.run) (lane_before g.run) b.known b.apart

  pub here : (i : ℕ) → i < length cs → Contains cs (child_at i)
  here i less = Contains-get_or cs i 0 less

  pub conc : (c : ℕ) → Contains cs c → IsConcurrent g.plan g.run g.locks g.h g.touched g.changes g.changed g.shares g.basis g.node c
  conc c c_in = concurrent g c c_in

  pub up_to : (c context : ℕ) (key : KeyValue) → Contains cs c → g.touched c context key ≡ true → g.touched g.node context key ≡ true
  up_to c context key c_in is = up g.plan g.run g.locks g.h g.touched g.changes g.changed g.shares g.basis g.node c context key (beside_child g c c_in) is

  pub in_nodes : (n context : ℕ) (key : KeyValue) → g.touched n context key ≡ true → context < length g.plan.nodes
  in_nodes n context key is = g.basis.covered.within n context key is

  pub touches : (c context : ℕ) (key : KeyValue) (v : Given) → g.shares c context key ≡ Some v → g.touched c context key ≡ true
  touches c context key v is = g.basis.shared.touched_there c context key v is

  -- ---- which places are open for the children

  -- it is open for the container, or nothing stands in the plain run at the place and above it
  abbrev pub free : Places
  free context key = is_open b.o context key || all_clear b.r.state (plan_path g.plan context) key

  abbrev pub open_of : ℕ → Open
  open_of c context key = if free context key then g.shares c context key else None

  pub open_is : (c context : ℕ) (key : KeyValue) (v : Given) → free context key ≡ true → g.shares c context key ≡ Some v → open_of c context key ≡ Some v
  open_is c context key v is shares = ap (λ x. if x then g.shares c context key else None) is ∙ shares

  pub open_parts : (c context : ℕ) (key : KeyValue) (v : Given) → open_of c context key ≡ Some v → (free context key ≡ true) × (g.shares c context key ≡ Some v)
  open_parts c context key v is = elim (bools (free context key)) [
    | inl on ↦ (on, sym (ap (λ x. if x then g.shares c context key else None) on) ∙ is)
    | inr off ↦ not_both (open_of c context key) v (ap (λ x. if x then g.shares c context key else None) off) is
  ]

  pub none_is : (c context : ℕ) (key : KeyValue) → free context key ≡ false → open_of c context key ≡ None
  none_is c context key off = ap (λ x. if x then g.shares c context key else None) off

  pub unshared_none : (c context : ℕ) (key : KeyValue) → g.shares c context key ≡ None → open_of c context key ≡ None
  unshared_none c context key none = elim (bools (free context key)) [
    | inl on ↦ ap (λ x. if x then g.shares c context key else None) on ∙ none
    | inr off ↦ none_is c context key off
  ]

  -- what is shared and not open is not free
  pub not_free : (c context : ℕ) (key : KeyValue) (v : Given) → g.shares c context key ≡ Some v → open_of c context key ≡ None → free context key ≡ false
  not_free c context key v is none = elim (bools (free context key)) [
    | inl on ↦ not_both (open_of c context key) v none (open_is c context key v on is)
    | inr off ↦ off
  ]

  -- what is not free is not open for the container
  pub not_open : (context : ℕ) (key : KeyValue) → free context key ≡ false → b.o context key ≡ None
  not_open context key off = elim (some_or_none (b.o context key)) [
    | inl none ↦ none
    | inr some ↦ both_ways (free context key) (or_first (is_open b.o context key) (all_clear b.r.state (plan_path g.plan context) key) (value_is_open b.o context key some.0 some.1)) off
  ]

  -- no place that was computed above the children is free, and so none is open for one of them
  pub closed_off : (context : ℕ) (key : KeyValue) → IsStoredIn g.plan (plan_path g.plan g.node) context key → free context key ≡ false
  closed_off context key computed =
      never (free context key) (λ on. elim (or_either (is_open b.o context key) (all_clear b.r.state (plan_path g.plan context) key) on) [
        | inl opens ↦ let some = open_value b.o context key opens in not_both (b.o context key) some.0 (b.closed.none context key computed) some.1
        | inr clear ↦ both_ways (all_clear b.r.state (plan_path g.plan context) key) clear (b.closed.stands context key computed)
      ])

  -- what a child touches that is open for the container, it shares: nothing was computed there before it
  pub shared_below : (c context : ℕ) (key : KeyValue) (v : Given) → Contains cs c → g.touched c context key ≡ true → b.o context key ≡ Some v → g.shares c context key ≡ Some v
  shared_below c context key v c_in is opens =
      g.basis.shared.below g.node c context key v (beside_child g c c_in) (b.among context key v opens) is (λ computed. not_both (b.o context key) v (b.closed.none context key computed) opens)

  pub closed_for : (c context : ℕ) (key : KeyValue) → Contains cs c → g.touched c context key ≡ true → g.shares c context key ≡ None → b.o context key ≡ None
  closed_for c context key c_in is none = elim (some_or_none (b.o context key)) [
    | inl closed ↦ closed
    | inr some ↦ not_both (g.shares c context key) some.0 none (shared_below c context key some.0 c_in is some.1)
  ]

  -- all children that share a place compute the same there
  pub same_value : (c x context : ℕ) (key : KeyValue) (v w : Given) → Contains cs c → Contains cs x → g.shares c context key ≡ Some v → g.shares x context key ≡ Some w → v ≡ w
  same_value c x context key v w c_in x_in first second = g.basis.shared.same g.node c x context key v w (beside_child g c c_in) (beside_child g x x_in) first second

  -- ---- who made events

  pub record MadeBy (place : ℕ) : Type 0 where
    pub i : ℕ
    pub less : i < length cs
    pub made : IsMadeIn g.h place (s_of i).first (u_of i).first

  pub maker_of : (place : ℕ) → IsMadeIn g.h place b.opened.first b.body.joined → MadeBy place
  maker_of place made =
      let by = made_by (over g) goes g.h g.depth g.node b.opened b.below b.after b.body b.within (IsLaneIn g.run) (lane_before g.run) b.known b.apart place made in
      record { i = by.0; less = by.1; made = by.2 }

  -- and the event is made by no other
  pub one_maker : (i j place : ℕ) → i < length cs → j < length cs → IsMadeIn g.h place (s_of i).first (u_of i).first → IsMadeIn g.h place (s_of j).first (u_of j).first → i ≡ j
  one_maker i j place less below made also =
      made_once (over g) goes g.h g.depth g.node b.opened b.below b.after b.body b.within (IsLaneIn g.run) (lane_before g.run) b.known b.apart i j place less below made also

  -- and meanwhile
  pub made_meanwhile : (i place : ℕ) → i < length cs → IsMadeIn g.h place (s_of i).first (u_of i).first → IsMadeIn g.h place b.opened.first b.body.joined
  made_meanwhile i place less made =
      made_in (over g) goes g.h g.depth g.node b.opened b.below b.after b.body b.within (IsLaneIn g.run) (lane_before g.run) b.known b.apart i place less made

  pub maker : (context number place : ℕ) (key : KeyValue) (event : Event ℕ) → g.touched g.node context key ≡ true → b.o context key ≡ None → HasNumberIn g.run key number → length since ≤ place → place < length until
      → slice_get g.h place ≡ Some event → place_of event.act ≡ Some (cell number context) → MadeBy place
  maker context number place key event is none has low high there on =
      maker_of place (b.own.own context number place key event (unshared_is (g.touched g.node) b.o context key is none) has (record { since = low; until = high }) there on)

  pub maker_changes : (i : ℕ) → i < length cs → (context number place : ℕ) (key : KeyValue) (event : Event ℕ) → context < length g.plan.nodes → HasNumberIn g.run key number → slice_get g.h place ≡ Some event
      → place_of event.act ≡ Some (cell number context) → IsMadeIn g.h place (s_of i).first (u_of i).first → g.changes (child_at i) context key ≡ true
  maker_changes i less context number place key event few has there on made =
      made_changes g.plan g.run g.locks g.h g.touched g.changes g.changed g.shares g.basis g.depth (child_at i) (s_of i) (ran_at i) (u_of i) (job_at i less).run (ends_in i less)
      context number place key event few has there on made

  -- a child that makes an event at a place that another shares shares it too
  pub maker_shares : (c : ℕ) → Contains cs c → (context number : ℕ) (key : KeyValue) (v : Given) → g.shares c context key ≡ Some v → HasNumberIn g.run key number → (place : ℕ) (event : Event ℕ) → slice_get g.h place ≡ Some event
      → place_of event.act ≡ Some (cell number context) → (i : ℕ) → i < length cs → IsMadeIn g.h place (s_of i).first (u_of i).first → g.shares (child_at i) context key ≡ Some v
  maker_shares c c_in context number key v is has place event there on i less made =
      shares_too g.plan g.run g.locks g.h g.touched g.changes g.changed g.shares g.basis g.node (child_at i) c context key v (conc (child_at i) (here i less)) (conc c c_in) is
      (maker_changes i less context number place key event (in_nodes c context key (touches c context key v is)) has there on made)

  -- each event at a place that a child shares computes what they compute there
  pub computed_at : (c : ℕ) → Contains cs c → (context number : ℕ) (key : KeyValue) (v : Given) → g.shares c context key ≡ Some v → HasNumberIn g.run key number → Between g.h since until (cell number context) (Computes g.run v)
  computed_at c c_in context number key v is has place event low high there on =
      let touched = touches c context key v is in
      elim (some_or_none (b.o context key)) [
        | inr some ↦
            let same = one_value (g.shares c context key) some.0 v (shared_below c context key some.0 c_in touched some.1) is in
            subst (λ w. Computes g.run w event.act) same (b.computed.computed context number place key some.0 event some.1 has (record { since = low; until = high }) there on)
        | inl none ↦
            let by = maker context number place key event (up_to c context key c_in touched) none has low high there on in
            shared_is_computed g.plan g.run g.locks g.h g.touched g.changes g.changed g.shares g.depth (child_at by.i) (s_of by.i) (ran_at by.i) (u_of by.i) g.basis (job_at by.i by.less).run (ends_in by.i by.less)
            context number place key v event (maker_shares c c_in context number key v is has place event there on by.i by.less by.made) has there on by.made
      ]

  -- ---- where nothing happens

  path_of : (context : ℕ) → context < length g.plan.nodes → HasPath g.plan g.run g.locks g.h g.touched g.changes g.changed g.shares g.basis context
  path_of context less = has_path g.plan g.run g.locks g.h g.touched g.changes g.changed g.shares g.basis context less

  module _ (c : ℕ) (c_in : Contains cs c) (context number : ℕ) (key : KeyValue) (v : Given) (is : g.shares c context key ≡ Some v) (has : HasNumberIn g.run key number) (above : List ℕ)
      (path_is : IsPathOf (ids g) context (context ∷ above)) where
    -- what stands above it
    pub record IsAbove (at : ℕ) : Type 0 where
      pub touched : g.touched g.node at key ≡ true
      pub closed : b.o at key ≡ None
      pub unchanged : (i : ℕ) → i < length cs → g.changes (child_at i) at key ≡ false

    pub is_above : (at : ℕ) → Contains above at → IsAbove at
    is_above at there =
        let P : ℕ → Type 0 = λ k. (g.touched c k key ≡ true) × (g.shares c k key ≡ None) × (g.changes c k key ≡ false) in
        let one = All-contains P above at (g.basis.shared.above c context key v above is path_is) there in
        record {
          touched = up_to c at key c_in one.0;
          closed = closed_for c at key c_in one.0 one.1;
          unchanged = λ i less.
              above_unchanged g.plan g.run g.locks g.h g.touched g.changes g.changed g.shares g.basis g.node (child_at i) c context at key v above (conc (child_at i) (here i less)) (conc c c_in) is path_is there;
        }

    quiet_above : (at : ℕ) → Contains above at → events_at (cell number at) until ≡ events_at (cell number at) since
    quiet_above at there =
        let one = is_above at there in
        same_there g.h since until (cell number at) since_until until_in_h (λ place event low high stands on.
        let by = maker at number place key event one.touched one.closed has low high stands on in
        both_ways (g.changes (child_at by.i) at key) (maker_changes by.i by.less at number place key event (in_nodes g.node at key one.touched) has stands on by.made) (one.unchanged by.i by.less))

    -- in the plain run nothing stands there where the look-up is absent on the lanes
    all_none : b.o context key ≡ None → look_after (cell_of g.run number) (context ∷ above) since ≡ look.Absent → All (λ k. plain_slot b.r.state k key ≡ None) (context ∷ above)
    all_none none absent =
        let none_there = absent_is (slots_in (cell_of g.run number) since) (context ∷ above) absent in
        let each : (at : ℕ) → Contains (context ∷ above) at → plain_slot b.r.state at key ≡ None =
        λ at there.
        let place : unshared (g.touched g.node) b.o at key ≡ true = elim (contains_cons context above at there) [
          | inl same ↦ subst (λ k. unshared (g.touched g.node) b.o k key ≡ true) same (unshared_is (g.touched g.node) b.o context key (up_to c context key c_in (touches c context key v is)) none)
          | inr later ↦ let one = is_above at later in unshared_is (g.touched g.node) b.o at key one.touched one.closed
        ] in
        (matched_empty g.run.meaning (plain_meaning b.r.state.values) (slots_in (cell_of g.run number) since at) (plain_slot b.r.state at key) (b.level.matches.slots at key number place has)).0
        (All-contains (λ k. slots_in (cell_of g.run number) since k ≡ None) (context ∷ above) at none_there there) in
        λ k d less. each _ (Contains-get_or (context ∷ above) k d less)

    frozen_there : context ∷ above ≡ plan_path g.plan context → free context key ≡ false → events_at (cell number context) until ≡ events_at (cell number context) since
    frozen_there same off =
        let none = not_open context key off in
        let touched = up_to c context key c_in (touches c context key v is) in
        frozen_is_quiet g.run g.h since until context number above v g.basis.legal since_until until_in_h
        (λ place event seen there on. computed_at c c_in context number key v is has place event seen.since seen.until there on)
        (λ place event seen there claims.
        let on : place_of event.act ≡ Some (cell number context) = ap place_of claims in
        let by = maker context number place key event touched none has seen.since seen.until there on in
        shared_is_looked_for g.plan g.run g.locks g.h g.touched g.changes g.changed g.shares g.depth (child_at by.i) (s_of by.i) (ran_at by.i) (u_of by.i) since g.basis (job_at by.i by.less).run
        (job_at by.i by.less).inside.begins (ends_in by.i by.less) context number place key v above event (maker_shares c c_in context number key v is has place event there on by.i by.less by.made) has there on
        (in_run g.plan g.run g.locks g.h g.touched g.changes g.changed g.shares g.basis context (context ∷ above) path_is) by.made)
        (λ k d less. quiet_above _ (Contains-get_or above k d less))
        (λ lane claimed. never_claimed g.run.meaning (plain_meaning b.r.state.values) (slots_in (cell_of g.run number) since context) (plain_slot b.r.state context key) lane
        (b.level.matches.slots context key number (unshared_is (g.touched g.node) b.o context key touched none) has) claimed)
        (λ absent.
        let clear : all_clear b.r.state (plan_path g.plan context) key ≡ true =
        subst (λ l. all_clear b.r.state l key ≡ true) same (is_clear_there b.r.state (context ∷ above) key (all_none none absent)) in
        both_ways (free context key) (or_second (is_open b.o context key) (all_clear b.r.state (plan_path g.plan context) key) clear) off)

  -- nothing happens at a place that a child shares and that is not free,
  pub frozen : (c : ℕ) → Contains cs c → (context number : ℕ) (key : KeyValue) (v : Given) → g.shares c context key ≡ Some v → HasNumberIn g.run key number → free context key ≡ false
      → events_at (cell number context) until ≡ events_at (cell number context) since
  frozen c c_in context number key v is has off =
      let path = path_of context (in_nodes c context key (touches c context key v is)) in
      frozen_there c c_in context number key v is has path.above path.path_is path.same off

  -- up to any moment between
  pub frozen_to : (m : History) → IsPrefix since m → IsPrefix m until → (c : ℕ) → Contains cs c → (context number : ℕ) (key : KeyValue) (v : Given) → g.shares c context key ≡ Some v → HasNumberIn g.run key number
      → free context key ≡ false → events_at (cell number context) m ≡ events_at (cell number context) since
  frozen_to m first second c c_in context number key v is has off = quiet_up_to g.h since until m (cell number context) first second until_in_h (frozen c c_in context number key v is has off)
