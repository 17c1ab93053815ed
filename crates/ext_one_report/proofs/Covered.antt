-- Which places the nodes of a plan touch and may change, by the touches of its steps; and the cells that each node changes itself, where keys have some numbers.
-- Javadoc `ExtensionContext.Store` and JUnit 5 User Guide, "Parallel Execution"; what a step touches is a definition of [ext_races Touches].
use Rattle.ext_one_report.specs.Shares.{is_at, may_change_at}
use Rattle.std.specs.Prelude.{ℕ, ◌≡◌, Bool, true, false, ◌||◌, ◌&&◌, List, [], ◌∷◌, ◌++◌, length, map, drop, nat_lt, Option, Some, None}
use Rattle.std.specs.List.{flat_map, list_any, position, range_with_len}
use Rattle.ext_tree.specs.Keys.{AreKeyNotesOf, IsKeyNumber, KeyValue, KnownPlace}
use Rattle.ext_tree.specs.Traits.{key_eq}
use Rattle.ext_store.specs.Stores.{StoreView, cell_in}
use Rattle.ext_locks.specs.Opening.{LocksView}
use Rattle.ext_plan.specs.Plans.{KeyText, PlanText, StepKeyText}
use Rattle.ext_plan.specs.PlanCalls.{steps_of_call}
use Rattle.ext_plan.specs.ReadPlans.{IsReadPlan, ids_of_nodes}
use Rattle.ext_plan.specs.StepCalls.{start_of}
use Rattle.ext_plan.specs.StoreKeys.{key_of_step}
use Rattle.ext_races.specs.MadeSteps.{calls_of, plan_path}
use Rattle.ext_races.specs.Touches.{touches_made}
use Rattle.ext_engine.specs.TreeRun.{TreeSetting}
use Rattle.ext_one_report.specs.Changing.{IsBelow}
use Rattle.ext_one_report.proofs.PlanCells.{HaveChanged, changed_by}
use Rattle.ext_one_report.proofs.MatchingWords.{Places}
use Rattle.ext_one_report.proofs.Covers.{AreCovered}
use Rattle.ext_one_report.specs.Within.{is_within}

-- ---- places

-- the context is one of the plan's: that of the node, or of a node below it
abbrev pub is_closed_by : PlanText → ℕ → ℕ → Bool
is_closed_by plan node context = is_within plan node context && nat_lt context (length plan.nodes)

-- The places that a node touches, itself or by the nodes below it: those of the touches of their steps, and all of their own contexts, which are closed when they end
unfoldable pub touched_in : PlanText → ℕ → Places
touched_in plan node context key = is_closed_by plan node context || list_any (is_at plan node context key) (touches_made plan)

-- and those that it may change
unfoldable pub changed_in : PlanText → ℕ → Places
changed_in plan node context key = is_closed_by plan node context || list_any (may_change_at plan node context key) (touches_made plan)

-- ---- cells

-- the place is known to hold the key
abbrev pub holds_key : KeyValue → Option KeyValue → Bool
holds_key key None = false
holds_key key (Some other) = key_eq key other

-- the number of a key, where it has one
abbrev pub number_of : List KnownPlace → KeyValue → Option ℕ
number_of numbering key = position (λ known. holds_key key known.key) numbering

-- the cell of that number in a context
abbrev pub cell_at : StoreView → ℕ → Option ℕ → List ℕ
cell_at store context None = []
cell_at store context (Some number) = cell_in store number context ∷ []

-- the cell of the place that a step changes whose call runs on this path
abbrev pub cell_changed : StoreView → List KeyText → List KnownPlace → List ℕ → Option (StepKeyText × ℕ) → List ℕ
cell_changed store keys numbering path None = []
cell_changed store keys numbering path (Some place) = cell_at store (start_of (drop place.1 path)) (number_of numbering (key_of_step keys place.0))

-- all cells of a context
abbrev pub cells_of_context : StoreView → ℕ → List ℕ
cells_of_context store context = map (λ key. cell_in store key context) (range_with_len 0 (length store.id.keys))

-- the cells that a node changes itself: those of its own context, and those that the steps of its calls change
unfoldable pub cells : PlanText → StoreView → List KnownPlace → ℕ → List ℕ
cells plan store numbering node =
    cells_of_context store node
    ++ flat_map (λ call. flat_map (λ step. cell_changed store plan.keys numbering (plan_path plan node) (changed_by step)) (steps_of_call plan call)) (calls_of plan node)

-- ---- laws

-- these places cover each plan
abbrev pub PlansAreCovered : Type 0
PlansAreCovered = (plan : PlanText) → IsReadPlan plan → AreCovered plan (touched_in plan) (changed_in plan)

-- these cells are those that the nodes of the plan change
abbrev pub CellsAreChanged : Type 0
CellsAreChanged =
    (plan : PlanText) (store : StoreView) (locks : LocksView) (numbering : List KnownPlace) → IsReadPlan plan → store.tree ≡ ids_of_nodes plan.nodes
    → HaveChanged plan store locks numbering (cells plan store numbering)

-- where a cell of a key and a context is one that a node, or a node below it, changes, the node may change the place
abbrev pub CellsAreAtPlaces : {V A : Type 0} → TreeSetting V A → Type 0
CellsAreAtPlaces t =
    (plan : PlanText) (store : StoreView) (numbering : List KnownPlace) (node context number : ℕ) (key : KeyValue) → IsReadPlan plan → store.tree ≡ ids_of_nodes plan.nodes → t.store.tree ≡ store.tree
    → AreKeyNotesOf store.id.keys numbering → IsKeyNumber numbering key number → IsBelow t (cells plan store numbering) node (cell_in store number context) → changed_in plan node context key ≡ true
