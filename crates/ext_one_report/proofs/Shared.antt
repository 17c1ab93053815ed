-- Which places nodes share with nodes beside them, where all of them compute the same value or fail alike: of a plan in which nodes that may run beside one another touch a place that one of
-- them may change only so.
-- Javadoc `ExtensionContext.Store`, `getOrComputeIfAbsent`; what a step touches, and when two touches agree, are definitions of [ext_races].
use Rattle.std.specs.Prelude.{ℕ, ◌≡◌, ◌≢◌, ◌⊎◌, Bool, true, false, ◌&&◌, ◌||◌, List, [], ◌∷◌, ◌++◌, drop, All, Contains, Option, Some, None, find}
use Rattle.std.specs.List.{flat_map, list_any}
use Rattle.ext_tree.specs.Keys.{KeyValue}
use Rattle.ext_tree.specs.Trees.{IsParentOf, IsPathOf}
use Rattle.ext_lifecycle.specs.declared.call.Call.{Call}
use Rattle.ext_lifecycle.specs.Callbacks.{test_call}
use Rattle.ext_plan.specs.Plans.{PlanText, StepKeyText, StepText}
use Rattle.ext_plan.specs.PlanCalls.{concurrent_of, steps_of_call}
use Rattle.ext_plan.specs.ReadPlans.{ids_of_nodes}
use Rattle.ext_plan.specs.StepCalls.{start_of}
use Rattle.ext_plan.specs.StoreKeys.{key_of_step}
use Rattle.ext_plan.specs.Values.{ValueText}
use Rattle.ext_races.specs.Touches.{TouchText, touches_made}
use Rattle.ext_one_report.specs.Shares.{is_at, is_beside_at}
use Rattle.ext_races.specs.MadeSteps.{calls_after, calls_before, calls_of, plan_path}
use Rattle.ext_one_report.proofs.PlanCells.{changed_by}
use Rattle.ext_one_report.proofs.MatchingWords.{Places, RunView}
use Rattle.ext_one_report.specs.Within.{is_within}
use Rattle.ext_one_report.proofs.ComputedAbove.{IsStoredIn, NoneOpenAbove}
use Rattle.ext_one_report.proofs.OfPlan.{IsLeftBeside, IsLeftWithin}
use Rattle.ext_one_report.proofs.Orders.{Fails}
use Rattle.ext_one_report.proofs.Open.{ComputesOpen, FailsOpen, Given, IsKeptBy, Open, given_by, of_value}
use Rattle.ext_one_report.proofs.OpenCalls.{CallFitsOpen, NoneOpen}

-- ---- what nodes share

-- the places that are touched, and are not shared
abbrev pub unshared : Places → Open → Places
unshared touched shared context key = keeps (shared context key)
  where
    keeps : Option Given → Bool
    keeps None = touched context key
    keeps (Some v) = false

-- what is computed by the touch
abbrev pub given_of : PlanText → Option TouchText → Option Given
given_of plan None = None
given_of plan (Some touch) = Some (given_by plan.keep_faults touch.acts touch.text)

-- the touch is of this place, by this node or one below it, and a node beside it touches the place too; one of both may change it
abbrev pub is_open_at : PlanText → ℕ → ℕ → KeyValue → TouchText → Bool
is_open_at plan node context key touch = is_at plan node context key touch && list_any (λ u. is_beside_at plan node context key u && (touch.changes || u.changes)) (touches_made plan)

-- the places that a node shares with nodes beside it, and what is computed at each of them
unfoldable pub given_in : PlanText → ℕ → Open
given_in plan node context key = given_of plan (find (is_open_at plan node context key) (touches_made plan))

-- each place at which the node shares a value is one at which a node above it computes
abbrev pub SharesAbove : PlanText → (ℕ → Open) → ℕ → Type 0
SharesAbove plan shares node = (context : ℕ) (key : KeyValue) (v : ValueText) → shares node context key ≡ Some (of_value v) → IsStoredIn plan (drop 1 (plan_path plan node)) context key

-- `shares` has the places at which each node, or a node below it, computes what a node beside it computes too
module _ (plan : PlanText) (run : RunView) (touched changes : ℕ → Places) (shares : ℕ → Open) where
  pub record AreShared : Type 0 where
    -- the node touches them, in contexts above its own
    pub touched_there : (node context : ℕ) (key : KeyValue) (v : Given) → shares node context key ≡ Some v → touched node context key ≡ true
    pub outside : (node context : ℕ) (key : KeyValue) (v : Given) → shares node context key ≡ Some v → is_within plan node context ≡ false
    -- what is left there is what a store of the plan keeps
    pub kept : (node context : ℕ) (key : KeyValue) (v : Given) → shares node context key ≡ Some v → IsKeptBy plan.keep_faults v
    -- it touches the places of the key above them too, which are not shared and which it does not change
    pub above : (node context : ℕ) (key : KeyValue) (v : Given) (path : List ℕ) → shares node context key ≡ Some v → IsPathOf (ids_of_nodes plan.nodes) context (context ∷ path)
        → All (λ c. (touched node c key ≡ true) × (shares node c key ≡ None) × (changes node c key ≡ false)) path
    -- each step of its calls that changes one of them computes what is computed there, or fails as all do
    pub computes : (node : ℕ) (path : List ℕ) (call : Call) (step : StepText) (key : StepKeyText) (up : ℕ) (v : Given) → IsPathOf (ids_of_nodes plan.nodes) node path → Contains (calls_of plan node) call
        → Contains (steps_of_call plan call) step → changed_by step ≡ Some (key, up) → shares node (start_of (drop up path)) (key_of_step plan.keys key) ≡ Some v
        → ComputesOpen plan.keys path (shares node) step ⊎ FailsOpen plan.keys path (shares node) step
    -- and each step that looks at one of them comes behind one that computes it, in its own call, in one before the body, or in one before all children of a node above. So calls fit whichever of
    -- these places are open, but those of nodes above: calls up to the body where none is whose value the callbacks before them compute,
    pub befores : (node : ℕ) (path : List ℕ) (before : List Call) (call : Call) (more : List Call) (open_at : Open) → IsPathOf (ids_of_nodes plan.nodes) node path
        → calls_before plan node ++ test_call node ∷ [] ≡ before ++ call ∷ more
        → ((context : ℕ) (key : KeyValue) (v : Given) → open_at context key ≡ Some v → shares node context key ≡ Some v) → NoneOpenAbove plan (drop 1 path) open_at
        → NoneOpen plan.keys path open_at (flat_map (steps_of_call plan) before)
        → CallFitsOpen run plan path (unshared (touched node) open_at) open_at call
    -- and those after it
    pub afters : (node : ℕ) (path : List ℕ) (call : Call) (open_at : Open) → IsPathOf (ids_of_nodes plan.nodes) node path → Contains (calls_after plan node) call
        → ((context : ℕ) (key : KeyValue) (v : Given) → open_at context key ≡ Some v → shares node context key ≡ Some v) → NoneOpenAbove plan (drop 1 path) open_at
        → CallFitsOpen run plan path (unshared (touched node) open_at) open_at call
    -- a child shares what its parent does, where it changes it, or where it touches it and nothing is computed there before it
    pub below_changed : (parent child context : ℕ) (key : KeyValue) (v : Given) → IsParentOf (ids_of_nodes plan.nodes) parent child → shares parent context key ≡ Some v → changes child context key ≡ true
        → shares child context key ≡ Some v
    pub below : (parent child context : ℕ) (key : KeyValue) (v : Given) → IsParentOf (ids_of_nodes plan.nodes) parent child → shares parent context key ≡ Some v → touched child context key ≡ true
        → ¬ IsStoredIn plan (plan_path plan parent) context key → shares child context key ≡ Some v
    -- children that run beside one another share each place that one of them changes and another touches
    pub beside : (parent child other context : ℕ) (key : KeyValue) → IsParentOf (ids_of_nodes plan.nodes) parent child → IsParentOf (ids_of_nodes plan.nodes) parent other → child ≢ other
        → concurrent_of plan child ≡ true → concurrent_of plan other ≡ true → changes child context key ≡ true → touched other context key ≡ true
        → (v : Given) × (shares child context key ≡ Some v) × (shares other context key ≡ Some v)
    -- and all that share a place of one parent compute the same there
    pub same : (parent child other context : ℕ) (key : KeyValue) (v w : Given) → IsParentOf (ids_of_nodes plan.nodes) parent child → IsParentOf (ids_of_nodes plan.nodes) parent other
        → shares child context key ≡ Some v → shares other context key ≡ Some w → v ≡ w
    -- where the close of such a value fails, a step of a node that changes the place may leave it there, and so may a step beside the node, unless it is computed above
    pub fails_below : (node context : ℕ) (key : KeyValue) (v : ValueText) → shares node context key ≡ Some (of_value v) → changes node context key ≡ true → Fails v → IsLeftWithin plan node context v.text
    pub fails_beside : (node context : ℕ) (key : KeyValue) (v : ValueText) → shares node context key ≡ Some (of_value v) → ¬ IsStoredIn plan (drop 1 (plan_path plan node)) context key → Fails v
        → IsLeftBeside plan node context v.text
