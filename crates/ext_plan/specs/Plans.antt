-- A plan, apart from where it lies in memory: its keys by their labels, its nodes by their ids, and the steps of their
-- callbacks and tests. Texts are bytes.
use Rattle.std.specs.Prelude.{ℕ, Bool, List, [], map, Option, option_map, Vec, String, string_bytes}
use Rattle.std.specs.declared.alloc.Global.{Global}
use Rattle.ext_ids.specs.Grammar.{Pair}
use Rattle.ext_lifecycle.specs.declared.call.Kind.{Kind}
use Rattle.ext_lifecycle.specs.declared.call.Kind.TheVariants as kinds
use Rattle.ext_lifecycle.specs.declared.mode.Mode.{Mode}
use Rattle.ext_model.specs.declared.size.Size.{Size}
use Rattle.ext_plan.specs.declared.plan.Plan.{Plan}
use Rattle.ext_plan.specs.declared.plan.PlanKey.{PlanKey}
use Rattle.ext_plan.specs.declared.plan.PlanLock.{PlanLock}
use Rattle.ext_plan.specs.declared.plan.PlanLock.TheVariants as locks
use Rattle.ext_plan.specs.declared.plan.PlanNode.{PlanNode}
use Rattle.ext_plan.specs.declared.plan.Step.{Step}
use Rattle.ext_plan.specs.declared.plan.Step.TheVariants as steps
use Rattle.ext_plan.specs.declared.plan.StepKey.{StepKey}
use Rattle.ext_plan.specs.declared.plan.StepKey.TheVariants as step_keys
use Rattle.ext_plan.specs.declared.step_parts.StepParts.{StepParts}
use Rattle.ext_plan.specs.declared.step_parts.StepParts.TheVariants as parts
use Rattle.ext_plan.specs.declared.word.Word.{Word}
use Rattle.ext_plan.specs.declared.word.Word.TheVariants as words

-- A declared key: the label by which steps name it, its name, and the parts of its namespace if that was created.
pub record KeyText : Type 0 where
  pub label : List ℕ
  pub name : List ℕ
  pub namespace : Option (List (List ℕ))

-- The key that a step names, by the number of its label among the plan's keys, or by its name in the global namespace.
pub data StepKeyText : Type 0 where
  label : ℕ → StepKeyText
  named : List ℕ → StepKeyText

-- A step. Those that call the store have a first word, the key that they name, a text, which is empty if the step has
-- none, and how many contexts up they act. The other two only end their test or callback, with this text.
pub data StepText : Type 0 where
  keyed : Word → StepKeyText → List ℕ → ℕ → StepText
  fail : List ℕ → StepText
  abort : List ℕ → StepText

-- A resource lock by its name, for reading or for writing.
pub data LockText : Type 0 where
  read : List ℕ → LockText
  read_write : List ℕ → LockText

-- A node: its id; whether it may run beside its siblings, and whether it is isolated; the locks that it names; its
-- callbacks of each kind, each a list of steps; and its steps, if it is a test.
pub record NodeText : Type 0 where
  pub id : List Pair
  pub mode : Mode
  pub isolated : Bool
  pub locks : List LockText
  pub before_all : List (List StepText)
  pub after_all : List (List StepText)
  pub before_each : List (List StepText)
  pub after_each : List (List StepText)
  pub test : Option (List StepText)

-- The callbacks of this kind that the node registers. A test's body is none.
abbrev pub callbacks_of : Kind → NodeText → List (List StepText)
callbacks_of kinds.BeforeAll node = node.before_all
callbacks_of kinds.BeforeEach node = node.before_each
callbacks_of kinds.Test node = []
callbacks_of kinds.AfterEach node = node.after_each
callbacks_of kinds.AfterAll node = node.after_all

pub record PlanText : Type 0 where
  pub keep_faults : Bool
  pub key_places : ℕ
  pub size : Size
  pub keys : List KeyText
  pub nodes : List NodeText

-- ---- a plan in memory as contracts see it

abbrev pub texts_view : Vec (String Global) Global → List (List ℕ)
texts_view v = map string_bytes v.items

abbrev pub key_view : PlanKey → KeyText
key_view k = record {
  label = string_bytes k.label;
  name = string_bytes k.name;
  namespace = option_map texts_view k.namespace;
}

abbrev pub step_key_view : StepKey → StepKeyText
step_key_view (step_keys.Label number) = label number
step_key_view (step_keys.Named name) = named (string_bytes name)

abbrev pub step_view : Step → StepText
step_view (steps.Put key text up) = keyed words.Put (step_key_view key) (string_bytes text) up
step_view (steps.PutCloseable key text up) = keyed words.PutCloseable (step_key_view key) (string_bytes text) up
step_view (steps.Want key text up) = keyed words.Want (step_key_view key) (string_bytes text) up
step_view (steps.None key up) = keyed words.None (step_key_view key) [] up
step_view (steps.Remove key up) = keyed words.Remove (step_key_view key) [] up
step_view (steps.Compute key text up) = keyed words.Compute (step_key_view key) (string_bytes text) up
step_view (steps.ComputeCloseable key text up) = keyed words.ComputeCloseable (step_key_view key) (string_bytes text) up
step_view (steps.ComputeFail key text up) = keyed words.ComputeFail (step_key_view key) (string_bytes text) up
step_view (steps.Fail text) = fail (string_bytes text)
step_view (steps.Abort text) = abort (string_bytes text)

-- The step that these parts make.
abbrev pub parts_view : StepParts → StepText
parts_view (parts.Keyed step) = keyed step.word (step_key_view step.key.now) step.text.now step.up
parts_view (parts.Fail text) = fail text.now
parts_view (parts.Abort text) = abort text.now

abbrev pub steps_view : Vec Step Global → List StepText
steps_view v = map step_view v.items

abbrev pub callbacks_view : Vec (Vec Step Global) Global → List (List StepText)
callbacks_view v = map steps_view v.items

abbrev pub lock_view : PlanLock → LockText
lock_view (locks.Read name) = read (string_bytes name)
lock_view (locks.ReadWrite name) = read_write (string_bytes name)

abbrev pub locks_view : Vec PlanLock Global → List LockText
locks_view v = map lock_view v.items

abbrev pub node_view : PlanNode → NodeText
node_view n = record {
  id = n.id;
  mode = n.mode;
  isolated = n.isolated;
  locks = locks_view n.locks;
  before_all = callbacks_view n.before_all;
  after_all = callbacks_view n.after_all;
  before_each = callbacks_view n.before_each;
  after_each = callbacks_view n.after_each;
  test = option_map steps_view n.test;
}

abbrev pub keys_view : List PlanKey → List KeyText
keys_view ks = map key_view ks

abbrev pub nodes_view : List PlanNode → List NodeText
nodes_view ns = map node_view ns

abbrev pub plan_view : Plan → PlanText
plan_view p = record {
  keep_faults = p.keep_faults;
  key_places = p.key_places;
  size = p.size;
  keys = keys_view p.keys.items;
  nodes = nodes_view p.nodes.items;
}
