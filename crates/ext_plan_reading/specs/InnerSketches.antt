-- What the reader's own helpers hold, apart from where it lies in memory, and what those helpers answer that can only
-- run out of memory. Only contracts of private functions cite it.
use Rattle.std.specs.Prelude.{◌≡◌, ℕ, ◌<◌, List, [], length, map, Option, option_map, IfSome, Result, Ok, Err, Vec}
use Rattle.std.specs.BTreeMap.{BTreeMap, get_by}
use Rattle.std.specs.Cmp.Lexicographic.{slice_cmp}
use Rattle.std.specs.Ordering.{nat_cmp}
use Rattle.std.specs.Borrow.{Bor}
use Rattle.std.specs.declared.alloc.Global.{Global}
use Rattle.ext_model.specs.Sizes.{most_contexts}
use Rattle.ext_model.specs.declared.size.Size.{Size}
use Rattle.ext_tree.specs.Decided.{is_tree}
use Rattle.ext_plan.specs.Plans.{NodeText, callbacks_view}
use Rattle.ext_plan_reading.specs.declared.callbacks.CallbackSketch.{CallbackSketch}
use Rattle.ext_plan_reading.specs.declared.callbacks.NodeCallbacks.{NodeCallbacks}
use Rattle.ext_plan_reading.specs.declared.fault.PlanFault.{PlanFault}
use Rattle.ext_plan_reading.specs.declared.fault.PlanFault.TheVariants as faults
use Rattle.ext_plan_reading.specs.declared.nodes.NodeSketch.{NodeSketch}
use Rattle.ext_plan_reading.specs.CallbackReading.{CallbackTexts, CallbackSteps}
use Rattle.ext_plan_reading.specs.Faults.{check, ◌>>=◌}
use Rattle.ext_plan_reading.specs.NodeReading.{Sketch, ids_of, nodes_after}

abbrev pub words_view : Vec (Bor (List ℕ)) Global → List (List ℕ)
words_view v = map (λ t. t.now) v.items

-- The number of a text in a map from texts.
abbrev pub number_in : BTreeMap (Bor (List ℕ)) ℕ → List ℕ → Option ℕ
number_in numbers text = get_by (λ label. slice_cmp nat_cmp text label.now) numbers

abbrev pub lists_view : Vec (Vec (Bor (List ℕ)) Global) Global → List (List (List ℕ))
lists_view v = map words_view v.items

abbrev pub callback_texts_view : CallbackSketch → CallbackTexts
callback_texts_view c = record {
  before_all = option_map lists_view c.before_all;
  after_all = option_map lists_view c.after_all;
  before_each = option_map lists_view c.before_each;
  after_each = option_map lists_view c.after_each;
}

abbrev pub callback_steps_view : NodeCallbacks → CallbackSteps
callback_steps_view c = record {
  before_all = callbacks_view c.before_all;
  after_all = callbacks_view c.after_all;
  before_each = callbacks_view c.before_each;
  after_each = callbacks_view c.after_each;
}

-- A node between the two passes over a plan.
abbrev pub sketch_view : NodeSketch → Sketch
sketch_view n = record {
  table = n.table;
  id = n.id;
  mode = option_map (λ t. t.now) n.mode;
  isolated = n.isolated;
  locks = option_map words_view n.locks;
  callbacks = callback_texts_view n.callbacks;
  test = option_map words_view n.test;
  repeat = n.repeat;
}

-- The nodes of these sketches, of which some may be repetitions: the tree of the ids, then the rest of each.
abbrev pub nodes_of_sketches : Size → List (List ℕ) → List Sketch → Result (List NodeText) PlanFault
nodes_of_sketches size labels all = do
  _ ← check faults.BadTree (is_tree (most_contexts size) (ids_of all))
  nodes_after labels all [] all

-- A test that is to be repeated leaves room for a segment more.
abbrev pub HasRoom : Sketch → Type 0
HasRoom sketch = IfSome sketch.repeat (λ _. length sketch.id < 16)

-- A function that can't be refused returned what reading gives, seen by `view`, unless memory ran out.
abbrev pub GivesAll : {X Y : Type 0} → (X → Y) → Result X PlanFault → Y → Type 0
GivesAll view (Ok x) read = read ≡ view x
GivesAll view (Err e) read = e ≡ faults.Memory
