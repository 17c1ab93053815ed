-- The store's keys that a plan's labels and steps name, and which of them are different. Two labels may name one key,
-- and so may a label and a name. `Keys` of ext_tree says when two keys are equal.
use Rattle.std.specs.Prelude.{ℕ, zero, suc, if◌then◌else◌, Bool, List, [], ◌∷◌, ◌++◌, ◌≢◌, length, Option, Some, None, IfSome}
use Rattle.std.specs.List.{list_any, slice_index_or}
use Rattle.ext_tree.specs.Keys.{NamespaceValue, KeyValue, global_namespace, created_namespace, key_of}
use Rattle.ext_tree.specs.Traits.{key_eq}
use Rattle.ext_plan.specs.Plans.{KeyText, StepKeyText, label, named}

-- The namespace with these parts, or the global one if there are none.
abbrev pub namespace_of : Option (List (List ℕ)) → NamespaceValue
namespace_of None = global_namespace
namespace_of (Some parts) = created_namespace parts

-- The store's key that a label names.
abbrev pub named_key : KeyText → KeyValue
named_key key = key_of (namespace_of key.namespace) key.name

-- The declared key with this number among the plan's keys. Past the last, the label and the name are empty.
abbrev pub declared_key : List KeyText → ℕ → KeyText
declared_key keys number = slice_index_or keys number (record { label = []; name = []; namespace = None })

-- The store's key that a step names: that of its label, or the one with its name in the global namespace.
abbrev pub key_of_step : List KeyText → StepKeyText → KeyValue
key_of_step keys (label number) = named_key (declared_key keys number)
key_of_step keys (named name) = key_of global_namespace name

abbrev pub is_there : List KeyValue → KeyValue → Bool
is_there keys key = list_any (key_eq key) keys

-- The keys, followed by this one unless it is there already.
abbrev pub with_key : List KeyValue → KeyValue → List KeyValue
with_key keys key = if is_there keys key then keys else keys ++ key ∷ []

-- These keys, followed by those that the labels name and that are not there yet.
abbrev pub keys_with : List KeyValue → List KeyText → List KeyValue
keys_with before [] = before
keys_with before (key ∷ more) = keys_with (with_key before (named_key key)) more

-- The different keys that the labels name.
abbrev pub different_keys : List KeyText → List KeyValue
different_keys keys = keys_with [] keys

-- The number of a key among the keys: its index.
abbrev pub number_of_key : List KeyValue → KeyValue → ℕ
number_of_key [] key = zero
number_of_key (first ∷ more) key = if key_eq first key then zero else suc (number_of_key more key)

-- A created namespace has a part.
abbrev pub HasParts : KeyText → Type 0
HasParts key = IfSome key.namespace (λ parts. length parts ≢ 0)
