-- A store with the tree of a plan, and locks with its names, are those over which the suite of the plan may be run.
use Rattle.std.proofs.Common.{◌≡◌, ◌<◌, ℕ, zero, suc, true, List, [], ◌∷◌, map, length, Some, None, Contains, All, subst, sym, ap, arith, true≢false}
use Rattle.std.specs.Prelude.{HoldsAt, IfSome, Option, is_some, slice_get}
use Rattle.std.proofs.lemmas.List.{length-map}
use Rattle.std.proofs.lemmas.List.Elements.{All-map, All-weaker}
use Rattle.ext_engine.specs.TreeRun.{IsRunnable, IsNamedLock}
use Rattle.ext_locks.specs.Opening.{LocksView}
use Rattle.ext_plan.specs.ReadPlans.{TestsHaveNoChildren, ids_of_nodes}
use Rattle.ext_plan.specs.LockNames.{lock_name, lock_names}
use Rattle.ext_plan.specs.PlanCalls.{locks_of, test_in, test_of}
use Rattle.ext_plan.specs.Plans.{LockText, NodeText, PlanText, StepText, read, read_write}
use Rattle.ext_plan.proofs.Named.{locks_are_there}
use Rattle.ext_store.specs.Stores.{StoreView}
use Rattle.ext_tree.specs.Trees.{children_of}
use Rattle.ext_plan_parallel.specs.PlanSuites.{asked, suite_of}

asked_is_named : (names : List (List ℕ)) (lock : LockText) → Contains names (lock_name lock) → IsNamedLock names (asked lock).name
asked_is_named names (read name) h = h
asked_is_named names (read_write name) h = h

of_test : (P : Type 0) (test : Option (List StepText)) → is_some test ≡ true → IfSome test (λ _. P) → P
of_test P None is h = absurd (true≢false (sym is))
of_test P (Some steps) is h = h

of_test_at : (P : Type 0) (nodes : List NodeText) (at : ℕ) → is_some (test_in (slice_get nodes at)) ≡ true → HoldsAt (λ node. IfSome node.test (λ _. P)) nodes at → P
of_test_at P [] at is h = absurd (true≢false (sym is))
of_test_at P (node ∷ nodes) zero is h = of_test P node.test is (h node)
of_test_at P (node ∷ nodes) (suc at) is h = of_test_at P nodes at is h

module _ (plan : PlanText) (store : StoreView) (locks : LocksView) (tree : store.tree ≡ ids_of_nodes plan.nodes) where
  names_there : ((name : List ℕ) → Contains (lock_names plan.nodes) name → Contains locks.names name) → (node : ℕ) → All (λ a. IsNamedLock locks.names a.name) (map asked (locks_of plan node))
  names_there names node =
      All-map (λ a. IsNamedLock locks.names a.name) asked (locks_of plan node)
      (All-weaker _ _ (λ lock h. asked_is_named locks.names lock (names (lock_name lock) h)) (locks_of plan node) (locks_are_there plan.nodes node))

  no_children : TestsHaveNoChildren plan → (node : ℕ) → node < length store.tree → is_some (test_of plan node) ≡ true → children_of store.tree node ≡ []
  no_children alone node within is =
      let count = ap length tree in
      let below : node < length plan.nodes = omega (arith, within, count, length-map plan.nodes (λ n. n.id)) in
      subst (λ ids. children_of ids node ≡ []) (sym tree) (of_test_at (children_of (ids_of_nodes plan.nodes) node ≡ []) plan.nodes node is (alone node below))

  pub tree_runnable : ((name : List ℕ) → Contains (lock_names plan.nodes) name → Contains locks.names name) → TestsHaveNoChildren plan → IsRunnable store locks (suite_of plan)
  tree_runnable names alone = record { names = λ node within. names_there names node; below = λ node within is. no_children alone node within is }
