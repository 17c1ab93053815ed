-- What is noted of a plan, as most likely a mistake, and in which order. JUnit has no such list.
use Rattle.std.specs.Prelude.{ℕ, ◌==◌, ◌&&◌, ◌||◌, not, Bool, List, [], ◌∷◌, ◌++◌, length, nat_lt, take, map, Option, Some, None, is_some, if◌then◌else◌}
use Rattle.std.specs.List.{count_by, flat_map, list_any}
use Rattle.std.specs.Str.{bytes_eq}
use Rattle.ext_lifecycle.specs.declared.call.Call.{Call}
use Rattle.ext_lifecycle.specs.declared.call.Kind.{Kind}
use Rattle.ext_lifecycle.specs.declared.call.Kind.TheVariants as kinds
use Rattle.ext_tree.specs.Keys.{KeyValue}
use Rattle.ext_tree.specs.Trees.{children_of}
use Rattle.ext_plan.specs.Plans.{KeyText, NodeText, PlanText, StepText}
use Rattle.ext_plan.specs.LockNames.{lock_name, lock_names}
use Rattle.ext_plan.specs.PlanCalls.{concurrent_of}
use Rattle.ext_plan.specs.ReadPlans.{ids_of_nodes}
use Rattle.ext_plan.specs.StoreKeys.{is_there, named_key}
use Rattle.ext_plan_reading.specs.Nearest.{nearest}
use Rattle.ext_lint.specs.Heights.{is_uneven}
use Rattle.ext_lint.specs.Live.{has_test}
use Rattle.ext_lint.specs.NodeSteps.{NodeStepText, numbered, node_steps}
use Rattle.ext_lint.specs.Said.{SaidText, asks, is_key_said, is_said, keys_said, said_by, said_of, stores, wants}

pub data NoteText : Type 0 where
  -- The callback that begins with this step has no test at or below its node.
  idle : NodeStepText → NoteText
  -- This step wants a text that no step of the plan stores under its key; or it is a `none` or `remove` of a key under
  -- which no step stores, and steps store under one with a near name.
  missing : NodeStepText → SaidText → NoteText
  -- This step acts on its callback's node or a node above it for some tests at or below the node, and other tests there
  -- stand at another depth.
  uneven : NodeStepText → NoteText
  -- This callback or test has no steps.
  empty : Call → NoteText
  -- The plan has no test.
  untested : NoteText
  -- This node is concurrent, and neither another child of its parent nor one of its own is.
  solitary : ℕ → NoteText
  -- No step names the key with this label.
  unnamed : List ℕ → NoteText
  -- The steps name more keys than there are places.
  crowded : NoteText
  -- One test alone names the lock with this name.
  lone : List ℕ → NoteText

-- ---- of one step

-- Where these are stored, a step stores what is wanted; or, for a key alone, one stores under it, or under none with a
-- near name.
abbrev pub is_met_by : List SaidText → SaidText → Bool
is_met_by stored s = if wants s.word then is_said stored s.key s.text
    else (is_key_said stored s.key || not (is_some (nearest (map (λ other. other.name) stored) s.name)))

module _ (plan : PlanText) where
  abbrev pub is_idle : NodeStepText → Bool
  is_idle p = (p.at == 0) && not (has_test plan p.node)

  -- What these steps store, and what they want.
  abbrev pub stored_by : List NodeStepText → List SaidText
  stored_by steps = said_by plan.keys (keys_said plan) stores steps

  abbrev pub asked_by : List NodeStepText → List SaidText
  asked_by steps = said_by plan.keys (keys_said plan) asks steps

  -- What a step asks for was noted already, if a step before it asked for it; or a step of the plan stores it.
  abbrev pub is_known : (ℕ → List ℕ → Bool) → SaidText → Bool
  is_known asked s = asked s.key s.text || is_met_by (stored_by (node_steps plan)) s

  abbrev pub idle_if : NodeStepText → List NoteText
  idle_if p = if is_idle p then idle p ∷ [] else []

  abbrev pub missing_if : (ℕ → List ℕ → Bool) → NodeStepText → Option SaidText → List NoteText
  missing_if asked p None = []
  missing_if asked p (Some s) = if asks s.word && not (is_known asked s) then missing p s ∷ [] else []

  -- The notes of a step, where this was asked for before.
  abbrev pub notes_of_step : (ℕ → List ℕ → Bool) → NodeStepText → List NoteText
  notes_of_step asked p = idle_if p ++ missing_if asked p (said_of plan.keys (keys_said plan) p.step)

  -- The notes of the step with this number among all steps.
  abbrev pub notes_at : ℕ → NodeStepText → List NoteText
  notes_at at p = notes_of_step (is_said (asked_by (take at (node_steps plan)))) p

  abbrev pub step_notes : List NoteText
  step_notes = numbered notes_at 0 (node_steps plan)

  abbrev pub uneven_if : NodeStepText → List NoteText
  uneven_if p = if is_uneven plan p then uneven p ∷ [] else []

  abbrev pub uneven_notes : List NoteText
  uneven_notes = flat_map uneven_if (node_steps plan)

-- ---- of callbacks and tests without steps

abbrev pub empty_if : Call → List StepText → List NoteText
empty_if call steps = if length steps == 0 then empty call ∷ [] else []

-- Of the callback with this index.
abbrev pub empty_at : ℕ → Kind → ℕ → List StepText → List NoteText
empty_at node kind index steps = empty_if (record { kind = kind; from = node; index = index }) steps

abbrev pub empty_of_kind : ℕ → Kind → List (List StepText) → List NoteText
empty_of_kind node kind callbacks = numbered (empty_at node kind) 0 callbacks

abbrev pub empty_of_test : ℕ → Option (List StepText) → List NoteText
empty_of_test node None = []
empty_of_test node (Some steps) = empty_at node kinds.Test 0 steps

abbrev pub empty_of_node : ℕ → NodeText → List NoteText
empty_of_node number node =
    empty_of_kind number kinds.BeforeAll node.before_all
    ++ empty_of_kind number kinds.BeforeEach node.before_each
    ++ empty_of_test number node.test
    ++ empty_of_kind number kinds.AfterEach node.after_each
    ++ empty_of_kind number kinds.AfterAll node.after_all

abbrev pub callback_notes : PlanText → List NoteText
callback_notes plan = numbered empty_of_node 0 plan.nodes

abbrev pub test_notes : List NodeText → List NoteText
test_notes nodes = if list_any (λ node. is_some node.test) nodes then [] else untested ∷ []

-- ---- of modes

module _ (plan : PlanText) where
  -- The node is concurrent, and none of its children is.
  abbrev pub is_solitary : ℕ → Bool
  is_solitary node = concurrent_of plan node && not (list_any (concurrent_of plan) (children_of (ids_of_nodes plan.nodes) node))

  abbrev pub solitary_if : ℕ → List NoteText
  solitary_if node = if is_solitary node then solitary node ∷ [] else []

  -- Of nodes with one parent, where one of them is concurrent.
  abbrev pub sibling_notes : List ℕ → List NoteText
  sibling_notes siblings = if count_by (concurrent_of plan) siblings == 1 then flat_map solitary_if siblings else []

  abbrev pub child_notes : ℕ → NodeText → List NoteText
  child_notes number node = sibling_notes (children_of (ids_of_nodes plan.nodes) number)

  -- Of the root, and of the children of each node.
  abbrev pub mode_notes : List NoteText
  mode_notes = sibling_notes (0 ∷ []) ++ numbered child_notes 0 plan.nodes

-- ---- of keys and locks

abbrev pub key_note : List KeyValue → KeyText → List NoteText
key_note keys k = if not (is_there keys (named_key k)) then unnamed k.label ∷ [] else []

abbrev pub key_notes : List KeyValue → List KeyText → List NoteText
key_notes keys declared = flat_map (key_note keys) declared

abbrev pub crowd_notes : ℕ → List KeyValue → List NoteText
crowd_notes key_places keys = if nat_lt key_places (length keys) then crowded ∷ [] else []

abbrev pub names_lock : List ℕ → NodeText → Bool
names_lock name node = list_any (λ lock. bytes_eq name (lock_name lock)) node.locks

-- One node names the lock, and is a test.
abbrev pub is_lone : List NodeText → List ℕ → Bool
is_lone nodes name =
    (count_by (names_lock name) nodes == 1) && list_any (λ node. is_some node.test && names_lock name node) nodes

abbrev pub lock_note : List NodeText → List ℕ → List NoteText
lock_note nodes name = if is_lone nodes name then lone name ∷ [] else []

abbrev pub lock_notes : List NodeText → List NoteText
lock_notes nodes = flat_map (lock_note nodes) (lock_names nodes)

-- ---- of the plan

-- More keys than a plan can have places for are the only note.
abbrev pub notes : PlanText → List NoteText
notes plan = if nat_lt 1024 (length (keys_said plan)) then crowded ∷ []
    else step_notes plan ++ uneven_notes plan ++ callback_notes plan ++ test_notes plan.nodes ++ mode_notes plan
    ++ key_notes (keys_said plan) plan.keys ++ crowd_notes plan.key_places (keys_said plan) ++ lock_notes plan.nodes
