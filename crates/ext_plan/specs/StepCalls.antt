-- The arguments with which a step calls the store: its first word, the word by which it names its key, the path of the
-- context on which it acts, and its key.
use Rattle.std.specs.Prelude.{ℕ, Bool, true, not, List, length, nat_lt, drop}
use Rattle.std.specs.List.{slice_index_or}
use Rattle.ext_tree.specs.Keys.{KeyValue}
use Rattle.ext_plan.specs.Plans.{KeyText, StepKeyText, label, named, keys_view}
use Rattle.ext_plan.specs.StoreKeys.{declared_key, key_of_step}
use Rattle.ext_plan.specs.declared.call_key.CallKey.{CallKey}
use Rattle.ext_plan.specs.declared.call_key.CallKey.TheVariants as call_keys
use Rattle.ext_plan.specs.declared.step_call.StepCall.{StepCall}
use Rattle.ext_plan.specs.declared.step_keys.StepKeys.{StepKeys}

-- The word by which a step names its key: its label or its name.
abbrev pub label_of : List KeyText → StepKeyText → List ℕ
label_of keys (label number) = (declared_key keys number).label
label_of keys (named name) = name

-- The store's key is made for this step, because no label of the plan has it.
abbrev pub is_made : List KeyText → StepKeyText → Bool
is_made keys (label number) = not (nat_lt number (length keys))
is_made keys (named name) = true

-- The context with which a path begins.
abbrev pub start_of : List ℕ → ℕ
start_of path = slice_index_or path 0 0

pub record CallText : Type 0 where
  pub name : List ℕ
  pub label : List ℕ
  pub path : List ℕ
  pub key : KeyValue

-- The call of a step with this first word and key, on a path from which it acts `up` contexts further up.
abbrev pub call_of : List KeyText → List ℕ → List ℕ → StepKeyText → ℕ → CallText
call_of keys path name key up =
    record { name = name; label = label_of keys key; path = drop up path; key = key_of_step keys key }

abbrev pub call_view : StepCall → CallText
call_view c = record { name = c.name.now; label = c.label.now; path = c.path.now; key = c.key.now }

abbrev pub call_key : CallKey → KeyValue
call_key (call_keys.Declared key) = key.now
call_key (call_keys.Made key) = key

-- The plan's declared keys.
abbrev pub keys_in : StepKeys → List KeyText
keys_in k = keys_view k.keys.now
