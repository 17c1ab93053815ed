-- The nodes of a plan: first their fields and ids; then, if the ids form a tree, their modes, their locks and the steps
-- of their callbacks and tests.
use Rattle.std.specs.Prelude.{ℕ, zero, suc, nat_le, Bool, false, not, ◌&&◌, ◌||◌, ◌==◌, codes, List, [], ◌∷◌, ◌++◌, length, map, flat_map, Option, Some, None, is_some, Result, Ok, Err}
use Rattle.std.specs.Fmt.{decimal}
use Rattle.toml.specs.Data.{Members, get_member, as_bool, as_str}
use Rattle.ext_ids.specs.declared.fault.IdFault.{IdFault}
use Rattle.ext_ids.specs.Grammar.{Pair}
use Rattle.ext_ids.specs.Reading.{read_id}
use Rattle.ext_model.specs.Sizes.{most_contexts}
use Rattle.ext_model.specs.declared.size.Size.{Size}
use Rattle.ext_tree.specs.Decided.{is_tree}
use Rattle.ext_tree.specs.Trees.{children_of, Id}
use Rattle.ext_plan.specs.Plans.{StepText, NodeText}
use Rattle.ext_plan_reading.specs.declared.fault.PlanFault.{PlanFault}
use Rattle.ext_plan_reading.specs.declared.fault.PlanFault.TheVariants as faults
use Rattle.ext_plan_reading.specs.declared.fault.PlanPart.TheVariants as plan_parts
use Rattle.ext_plan_reading.specs.Faults.{some_or, check, ◌>>=◌}
use Rattle.ext_plan_reading.specs.Fields.{has_only, text_at, texts_in, repeats_in, field_or, optional}
use Rattle.ext_plan_reading.specs.CallbackReading.{CallbackTexts, callback_texts_at, are_of_container, node_callbacks_at}
use Rattle.ext_plan_reading.specs.Depths.{Outline, least_test_depth}
use Rattle.ext_plan_reading.specs.LockReading.{locks_at}
use Rattle.ext_plan_reading.specs.ModeReading.{mode_at}
use Rattle.ext_plan_reading.specs.StepReading.{steps_at}

abbrev pub node_fields : List (List ℕ)
node_fields =
    codes "id" ∷ codes "test" ∷ codes "repeat" ∷ codes "mode" ∷ codes "isolated" ∷ codes "locks" ∷ codes "before_all"
    ∷ codes "after_all" ∷ codes "before_each" ∷ codes "after_each" ∷ []

-- A node of the table of this number: its fields have their types, and its mode, its locks and its steps are texts.
pub record Sketch : Type 0 where
  pub table : ℕ
  pub id : List Pair
  pub mode : Option (List ℕ)
  pub isolated : Bool
  pub locks : Option (List (List ℕ))
  pub callbacks : CallbackTexts
  pub test : Option (List (List ℕ))
  pub repeat : Option ℕ

-- The segments of an id, or this fault if the text is none.
abbrev pub id_or : PlanFault → Result (List Pair) IdFault → Result (List Pair) PlanFault
id_or e (Ok id) = Ok id
id_or e (Err _) = Err e

-- The node of a table; `node` is its number. Only tests are repeated, and only where an id can have a segment more.
unfoldable pub sketch_at : ℕ → Members → Result Sketch PlanFault
sketch_at node fields = do
  _ ← check (faults.UnknownField (plan_parts.Node node)) (has_only node_fields fields)
  text ← some_or (faults.BadField (plan_parts.Node node)) (text_at (codes "id") fields)
  mode ← optional as_str (faults.BadField (plan_parts.Node node)) (get_member (codes "mode") fields)
  isolated ← field_or false as_bool (faults.BadField (plan_parts.Node node)) (get_member (codes "isolated") fields)
  locks ← optional texts_in (faults.BadField (plan_parts.Node node)) (get_member (codes "locks") fields)
  callbacks ← callback_texts_at node fields
  test ← optional texts_in (faults.BadField (plan_parts.Node node)) (get_member (codes "test") fields)
  repeat ← optional repeats_in (faults.BadField (plan_parts.Node node)) (get_member (codes "repeat") fields)
  _ ← check (faults.BadField (plan_parts.Node node)) (not (is_some repeat && not (is_some test)))
  id ← id_or (faults.BadId node) (read_id text)
  _ ← check (faults.BadId node) (not (is_some repeat && nat_le 16 (length id)))
  Ok (record {
    table = node;
    id = id;
    mode = mode;
    isolated = isolated;
    locks = locks;
    callbacks = callbacks;
    test = test;
    repeat = repeat;
  })

-- These nodes, followed by those of the tables.
unfoldable pub sketches_after : List Sketch → List Members → Result (List Sketch) PlanFault
sketches_after before [] = Ok before
sketches_after before (fields ∷ more) = do
  sketch ← sketch_at (length before) fields
  sketches_after (before ++ sketch ∷ []) more

-- ---- repeated tests

-- A repetition of a test, by its number, as JUnit names it. Its container has the locks and callbacks of the table.
abbrev pub repetition : Sketch → ℕ → Sketch
repetition test number = record test {
  id = test.id ++ (codes "test-template-invocation", codes "#" ++ decimal number) ∷ [];
  isolated = false;
  locks = None;
  callbacks = record { before_all = None; after_all = None; before_each = None; after_each = None };
}

-- The first repetitions of a test, so many.
abbrev pub repetitions : Sketch → ℕ → List Sketch
repetitions test zero = []
repetitions test (suc number) = repetitions test number ++ repetition test (suc number) ∷ []

-- The nodes of a table with this `repeat`: a test that is repeated is a container, with its repetitions behind it.
abbrev pub repeated : Sketch → Option ℕ → List Sketch
repeated sketch None = sketch ∷ []
repeated sketch (Some count) = record sketch { test = None } ∷ repetitions sketch count

-- All nodes that the tables stand for.
abbrev pub with_repetitions : List Sketch → List Sketch
with_repetitions sketches = flat_map (λ s. repeated s s.repeat) sketches

-- ---- callbacks and tests

abbrev pub ids_of : List Sketch → List Id
ids_of sketches = map (λ s. s.id) sketches

-- The nodes' ids, and which of them are tests.
abbrev pub outlines_of : List Sketch → List Outline
outlines_of sketches = map (λ s. (s.id, is_some s.test)) sketches

abbrev pub has_children : List Id → ℕ → Bool
has_children ids node = not (length (children_of ids node) == 0)

-- The node is a test but has children, or callbacks that only a container may have.
abbrev pub is_bad_test : Bool → Sketch → Bool
is_bad_test parent sketch = is_some sketch.test && (parent || are_of_container sketch.callbacks)

-- The test of a node, with the steps that its texts write, if it is one. `depth` is the number of segments of its id.
unfoldable pub test_at : List (List ℕ) → ℕ → ℕ → Option (List (List ℕ)) → Result (Option (List StepText)) PlanFault
test_at labels depth node None = Ok None
test_at labels depth node (Some texts) = do
  steps ← steps_at labels depth node texts
  Ok (Some steps)

-- The node of a sketch. `parent` says whether it has children; `least` is the least depth of a test at or below it.
unfoldable pub node_at : List (List ℕ) → Bool → ℕ → Sketch → Result NodeText PlanFault
node_at labels parent least sketch = do
  _ ← check (faults.BadTest sketch.table) (not (is_bad_test parent sketch))
  mode ← mode_at sketch.table sketch.mode
  locks ← locks_at sketch.table sketch.locks
  callbacks ← node_callbacks_at labels (length sketch.id) least sketch.table sketch.callbacks
  test ← test_at labels (length sketch.id) sketch.table sketch.test
  Ok (record {
    id = sketch.id;
    mode = mode;
    isolated = sketch.isolated;
    locks = locks;
    test = test;
    before_all = callbacks.before_all;
    after_all = callbacks.after_all;
    before_each = callbacks.before_each;
    after_each = callbacks.after_each;
  })

-- These nodes, followed by those of the sketches; `all` are the sketches of all nodes.
unfoldable pub nodes_after : List (List ℕ) → List Sketch → List NodeText → List Sketch
    → Result (List NodeText) PlanFault
nodes_after labels all before [] = Ok before
nodes_after labels all before (sketch ∷ more) = do
  node ← node_at labels (has_children (ids_of all) (length before))
      (least_test_depth (outlines_of all) sketch.id) sketch
  nodes_after labels all (before ++ node ∷ []) more

-- The nodes of tables in a plan of this size: the fields and id of each, then the tree of the ids, then the rest.
unfoldable pub nodes_of_tables : Size → List (List ℕ) → List Members → Result (List NodeText) PlanFault
nodes_of_tables size labels tables = do
  sketches ← sketches_after [] tables
  all ← Ok (with_repetitions sketches)
  _ ← check faults.BadTree (is_tree (most_contexts size) (ids_of all))
  nodes_after labels all [] all
