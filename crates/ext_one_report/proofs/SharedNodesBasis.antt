-- What a comparison of nodes that share values stands on: the tree, which events nodes make, and which places children share.
use Rattle.ext_one_report.proofs.Open.{Given, Open}
use Rattle.std.proofs.Common.{◌≡◌, ◌≢◌, ℕ, ◌<◌, ◌==◌, inl, inr, true, false, List, ◌∷◌, length, None, Some, refl, ap, sym, subst, ◌∙◌, arith, eq-eqb}
use Rattle.std.specs.Prelude.{All, Contains, slice_get}
use Rattle.std.proofs.lemmas.Bool.{eqb-true}
use Rattle.std.proofs.lemmas.List.Elements.{All-contains}
use Rattle.ext_history.proofs.Lists.{bools}
use Rattle.ext_model.specs.declared.event.Event.{Event}
use Rattle.ext_model.specs.Events.{place_of}
use Rattle.ext_model.specs.History.{History}
use Rattle.ext_tree.specs.Keys.{KeyValue}
use Rattle.ext_tree.specs.Trees.{Id, IsParentOf, IsPathOf, IsTree}
use Rattle.ext_locks.specs.Opening.{LocksView}
use Rattle.ext_plan.specs.Plans.{PlanText}
use Rattle.ext_plan.specs.PlanCalls.{concurrent_of}
use Rattle.ext_plan.specs.ReadPlans.{ids_of_nodes}
use Rattle.ext_races.specs.MadeSteps.{plan_path}
use Rattle.ext_engine.specs.Meeting.{HasSeenWithin}
use Rattle.ext_engine.specs.Order.{ChildRun, IsMadeIn}
use Rattle.ext_engine.specs.TreeRun.{Lanes, Ran, TreeSetting}
use Rattle.ext_engine.proofs.Above.{under_root}
use Rattle.ext_one_report.proofs.Changing.{runs_change_only}
use Rattle.ext_plan_parallel.specs.declared.steps.stored_value.StoredValue.{StoredValue}
use Rattle.ext_one_report.proofs.MatchingWords.{HasNumberIn, Places, RunView, cell_of}
use Rattle.ext_one_report.specs.Within.{is_within}
use Rattle.ext_one_report.proofs.FullRuns.{setting_in}
use Rattle.ext_one_report.proofs.SharedNodesWords.{IsSharedBasis}
use Rattle.ext_one_report.proofs.LanesAlone.{view_moves}
use Rattle.ext_one_report.proofs.NodePlaces.{both_ways, never}
use Rattle.ext_one_report.proofs.NodeTrees.{its_path, long}
use Rattle.ext_one_report.proofs.SharedNodesPlaces.{not_both, one_value}

module _ (plan : PlanText) (run : RunView) (locks : LocksView) (h : History) (touched changes : ℕ → Places) (changed : ℕ → List ℕ) (shares : ℕ → Open)
    (basis : IsSharedBasis plan run locks h touched changes changed shares) where
  abbrev pub over : TreeSetting StoredValue ℕ
  over = setting_in plan run locks

  abbrev pub ids : List Id
  ids = ids_of_nodes plan.nodes

  pub plan_tree : IsTree ids
  plan_tree = basis.read.runnable.tree

  pub run_tree : IsTree run.store.tree
  run_tree = subst IsTree (sym basis.tree) plan_tree

  pub in_plan : (node : ℕ) (path : List ℕ) → IsPathOf run.store.tree node path → IsPathOf ids node path
  in_plan node path is = subst (λ (l : List Id). IsPathOf l node path) basis.tree is

  pub in_run : (node : ℕ) (path : List ℕ) → IsPathOf ids node path → IsPathOf run.store.tree node path
  in_run node path is = subst (λ (l : List Id). IsPathOf l node path) (sym basis.tree) is

  -- the contexts above one of the plan
  pub record HasPath (context : ℕ) : Type 0 where
    pub above : List ℕ
    pub path_is : IsPathOf ids context (context ∷ above)
    pub same : context ∷ above ≡ plan_path plan context

  pub has_path : (context : ℕ) → context < length plan.nodes → HasPath context
  has_path context less =
      let size = long plan plan_tree in
      let root = under_root ids plan_tree context (omega (arith, less, size)) in
      record { above = root.walk; path_is = (refl, root.is_walk); same = its_path plan plan_tree context (context ∷ root.walk) (refl, root.is_walk) }

  -- ---- events

  -- an event at a place that is made in a run of a node is at a place that the node changes
  pub made_changes : (depth node : ℕ) (s : Lanes StoredValue) (ran : List Ran) (u : Lanes StoredValue) → ChildRun over depth node s ran u → All (HasSeenWithin h) u.first
      → (context number place : ℕ) (key : KeyValue) (event : Event ℕ) → context < length plan.nodes → HasNumberIn run key number → slice_get h place ≡ Some event
      → place_of event.act ≡ Some (cell_of run number context) → IsMadeIn h place s.first u.first → changes node context key ≡ true
  made_changes depth node s ran u child within context number place key event less has there is made =
      basis.at_places node context number key has less (runs_change_only over changed (view_moves plan run) run_tree basis.only h depth node s ran u child within place (cell_of run number context) event made there is)

  -- ---- children of one node

  module _ (node : ℕ) where
    abbrev pub IsChild : ℕ → Type 0
    IsChild child = IsParentOf ids node child

    pub up : (child context : ℕ) (key : KeyValue) → IsChild child → touched child context key ≡ true → touched node context key ≡ true
    up child context key parent is = basis.covered.touched_above node child context key parent is

    -- one that does not touch a place does not change it
    pub unchanged : (child context : ℕ) (key : KeyValue) → touched child context key ≡ false → changes child context key ≡ false
    unchanged child context key off = never (changes child context key) (λ ch. both_ways (touched child context key) (basis.covered.touches child context key ch) off)

    -- a place that a child shares is touched by it, in a context that is neither the child's, nor that of another child, nor below
    pub shared_touched : (child context : ℕ) (key : KeyValue) (v : Given) → shares child context key ≡ Some v → touched child context key ≡ true
    shared_touched child context key v is = basis.shared.touched_there child context key v is

    pub shared_elsewhere : (child other context : ℕ) (key : KeyValue) (v : Given) → IsChild child → IsChild other → shares child context key ≡ Some v → is_within plan other context ≡ true → ⊥
    shared_elsewhere child other context key v first second is within = elim (bools (other == child)) [
      | inl same ↦
          let e = eqb-true other child same in
          both_ways (is_within plan child context) (subst (λ n. is_within plan n context ≡ true) e within) (basis.shared.outside child context key v is)
      | inr differ ↦
          basis.covered.siblings node other child context key second first (λ e. both_ways (other == child) (eq-eqb other child e) differ) within (shared_touched child context key v is)
    ]

    -- ---- concurrent ones

    abbrev pub IsConcurrent : ℕ → Type 0
    IsConcurrent child = IsChild child × (concurrent_of plan child ≡ true)

    -- where one changes what another touches, both share it
    pub both_share : (child other context : ℕ) (key : KeyValue) → IsConcurrent child → IsConcurrent other → child ≢ other → changes child context key ≡ true → touched other context key ≡ true
        → (v : Given) × (shares child context key ≡ Some v) × (shares other context key ≡ Some v)
    both_share child other context key first second differ ch is = basis.shared.beside node child other context key first.0 second.0 differ first.1 second.1 ch is

    -- so what one touches that it does not share, no other changes,
    pub not_shared : (child other context : ℕ) (key : KeyValue) → IsConcurrent child → IsConcurrent other → child ≢ other → touched other context key ≡ true → shares other context key ≡ None → changes child context key ≡ false
    not_shared child other context key first second differ is none =
        never (changes child context key) (λ ch. let both = both_share child other context key first second differ ch is in not_both (shares other context key) both.0 none both.2)

    -- and where one shares a place, another that changes it shares it too, and computes the same there
    pub shares_too : (child other context : ℕ) (key : KeyValue) (v : Given) → IsConcurrent child → IsConcurrent other → shares other context key ≡ Some v → changes child context key ≡ true → shares child context key ≡ Some v
    shares_too child other context key v first second is ch = elim (bools (child == other)) [
      | inl same ↦ subst (λ n. shares n context key ≡ Some v) (sym (eqb-true child other same)) is
      | inr differ ↦
          let both = both_share child other context key first second (λ e. both_ways (child == other) (eq-eqb child other e) differ) ch (shared_touched other context key v is) in
          both.1 ∙ ap (λ w. Some w) (one_value (shares other context key) both.0 v both.2 is)
    ]

    -- above a place that one shares none of them changes anything under the key
    pub above_unchanged : (child other context at : ℕ) (key : KeyValue) (v : Given) (above : List ℕ) → IsConcurrent child → IsConcurrent other → shares other context key ≡ Some v → IsPathOf ids context (context ∷ above)
        → Contains above at → changes child at key ≡ false
    above_unchanged child other context at key v above first second is path_is among =
        let P : ℕ → Type 0 = λ c. (touched other c key ≡ true) × (shares other c key ≡ None) × (changes other c key ≡ false) in
        let there = All-contains P above at (basis.shared.above other context key v above is path_is) among in
        elim (bools (child == other)) [
          | inl same ↦ subst (λ n. changes n at key ≡ false) (sym (eqb-true child other same)) there.2
          | inr differ ↦ not_shared child other at key first second (λ e. both_ways (child == other) (eq-eqb child other e) differ) there.0 there.1
        ]
