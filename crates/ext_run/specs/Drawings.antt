-- What is drawn of a plan that is read but not run: a line for each node, depth first, indented by two spaces more than
-- its parent's,
--
--     TYPE:VALUE, concurrent, isolated, READ NAME, READ_WRITE NAME, test of N steps
--
-- TYPE and VALUE are those of the last segment of the node's id, decoded. What does not apply is left out: a node
-- without `concurrent` runs on its parent's thread, and one without `test` is a container. Numbers are decimal. The
-- format is not from JUnit.
use Rattle.std.specs.Prelude.{◌≡◌, ℕ, Bool, true, false, codes, List, [], ◌++◌, length, Option, Some, None, Result, Ok, Err, if◌then◌else◌}
use Rattle.std.specs.Fmt.{decimal}
use Rattle.std.specs.List.{flat_map, slice_get}
use Rattle.ext_lifecycle.specs.Modes.{is_concurrent}
use Rattle.ext_plan_reading.specs.Plans.{LockText, NodeText, PlanText, StepText, read, read_write}
use Rattle.ext_plan_reading.specs.ReadPlans.{ids_of_nodes}
use Rattle.ext_report.specs.TreeLines.{depth_first, tree_head}
use Rattle.ext_run.specs.declared.fault.RunFault.{RunFault}
use Rattle.ext_run.specs.Checks.{RefusedUnrun}

abbrev pub word_if : Bool → List ℕ → List ℕ
word_if applies word = if applies then word else []

-- A lock that the node names.
abbrev pub lock_words : LockText → List ℕ
lock_words (read name) = codes ", READ " ++ name
lock_words (read_write name) = codes ", READ_WRITE " ++ name

-- How many steps a test has.
abbrev pub test_words : Option (List StepText) → List ℕ
test_words None = []
test_words (Some steps) = codes ", test of " ++ decimal (length steps) ++ codes " steps"

-- What follows a node's name.
unfoldable pub node_words : NodeText → List ℕ
node_words node =
    word_if (is_concurrent node.mode) (codes ", concurrent") ++ word_if node.isolated (codes ", isolated")
    ++ flat_map lock_words node.locks ++ test_words node.test

abbrev pub drawn_line : NodeText → List ℕ
drawn_line node = tree_head node.id ++ node_words node ++ codes "\n"

abbrev pub node_line : Option NodeText → List ℕ
node_line None = []
node_line (Some node) = drawn_line node

abbrev pub drawing_of : PlanText → List ℕ
drawing_of plan = flat_map (λ context. node_line (slice_get plan.nodes context)) (depth_first (ids_of_nodes plan.nodes))

-- ---- what is written of a plan that was read

-- The text of the plan that was read. A refused plan has none.
abbrev pub IsTextOf : (PlanText → List ℕ) → Result PlanText RunFault → List ℕ → Type 0
IsTextOf of (Ok plan) text = text ≡ of plan
IsTextOf of (Err fault) text = ⊥

-- A function returned the text of what was read, or a fault that fits it.
abbrev pub TextAs : {X : Type 0} → (X → List ℕ) → (PlanText → List ℕ) → Result X RunFault → Result PlanText RunFault
    → Type 0
TextAs view of (Ok x) plan = IsTextOf of plan (view x)
TextAs view of (Err fault) plan = RefusedUnrun fault plan
