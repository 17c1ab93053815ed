-- What the steps of a plan say of keys and texts: which texts they store under which key, and which they want there.
-- A key's number is its index among the different keys that the steps name.
use Rattle.std.specs.Prelude.{ℕ, ◌==◌, ◌&&◌, Bool, true, false, List, [], ◌∷◌, map, Option, Some, None, if◌then◌else◌}
use Rattle.std.specs.List.{flat_map, list_any}
use Rattle.std.specs.Str.{bytes_eq}
use Rattle.ext_tree.specs.Keys.{KeyValue}
use Rattle.ext_plan.specs.Plans.{KeyText, PlanText, StepText, keyed, fail, abort, step_key_view}
use Rattle.ext_plan.specs.StepCalls.{label_of}
use Rattle.ext_plan.specs.StoreKeys.{key_of_step, number_of_key}
use Rattle.ext_plan.specs.declared.word.Word.{Word}
use Rattle.ext_plan.specs.declared.word.Word.TheVariants as words
use Rattle.ext_races.specs.MadeSteps.{MadeText, made_by}
use Rattle.ext_races.specs.Touches.{keys_of_steps}
use Rattle.ext_lint.specs.NodeSteps.{NodeStepText, node_steps}

-- ---- the keys that steps name

-- A step without those before it, which its key does not depend on.
abbrev pub alone : NodeStepText → MadeText
alone p = made_by p.node [] p.step

-- These keys, followed by the other keys that the steps name.
abbrev pub keys_with : List KeyText → List KeyValue → List NodeStepText → List KeyValue
keys_with declared keys steps = keys_of_steps declared keys (map alone steps)

-- The different keys that a plan's steps name, in the order in which they first do.
abbrev pub keys_said : PlanText → List KeyValue
keys_said plan = keys_with plan.keys [] (node_steps plan)

-- ---- what a step says

-- The number of the key, the word by which the step names it, and the step's text.
pub record SaidText : Type 0 where
  pub word : Word
  pub key : ℕ
  pub name : List ℕ
  pub text : List ℕ

abbrev pub said_of : List KeyText → List KeyValue → StepText → Option SaidText
said_of declared keys (keyed word key text up) = Some (record {
  word = word;
  key = number_of_key keys (key_of_step declared key);
  name = label_of declared key;
  text = text;
})
said_of declared keys (fail text) = None
said_of declared keys (abort text) = None

-- A step with this word may store its text.
abbrev pub stores : Word → Bool
stores words.Put = true
stores words.PutCloseable = true
stores words.Want = false
stores words.None = false
stores words.Remove = false
stores words.Compute = true
stores words.ComputeCloseable = true
stores words.ComputeFail = false

-- A step with this word wants to find its text.
abbrev pub wants : Word → Bool
wants words.Put = false
wants words.PutCloseable = false
wants words.Want = true
wants words.None = false
wants words.Remove = false
wants words.Compute = false
wants words.ComputeCloseable = false
wants words.ComputeFail = false

-- A step with this word asks for its text, or names its key alone, as one that is there.
abbrev pub asks : Word → Bool
asks words.Put = false
asks words.PutCloseable = false
asks words.Want = true
asks words.None = true
asks words.Remove = true
asks words.Compute = false
asks words.ComputeCloseable = false
asks words.ComputeFail = false

abbrev pub said_if : (Word → Bool) → Option SaidText → List SaidText
said_if test None = []
said_if test (Some said) = if test said.word then said ∷ [] else []

-- What those of the steps say whose words pass.
abbrev pub said_by : List KeyText → List KeyValue → (Word → Bool) → List NodeStepText → List SaidText
said_by declared keys test steps = flat_map (λ p. said_if test (said_of declared keys p.step)) steps

-- One of them speaks of this key.
abbrev pub is_key_said : List SaidText → ℕ → Bool
is_key_said said key = list_any (λ s. s.key == key) said

-- One of them says this text of this key.
abbrev pub is_said : List SaidText → ℕ → List ℕ → Bool
is_said said key text = list_any (λ s. (s.key == key) && bytes_eq s.text text) said
