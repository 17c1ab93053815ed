-- The fields of a TOML table as the kit's `toml` reads it: which there are, and their types.
use Rattle.std.specs.Prelude.{ℕ, ◌+◌, ◌*◌, ◌/◌, nat_le, ℤ, pos, negsuc, Bool, true, ◌&&◌, if◌then◌else◌, List, [], ◌∷◌, ◌++◌, Option, Some, None, option_and_then, option_map, Result, Ok}
use Rattle.std.specs.List.{list_any}
use Rattle.std.specs.Str.{bytes_eq}
use Rattle.toml.specs.Data.{Data, array, Items, no_items, item, Members, no_members, member, get_member, as_integer, as_str, as_table}
use Rattle.ext_plan_reading.specs.declared.fault.PlanFault.{PlanFault}
use Rattle.ext_plan_reading.specs.Faults.{some_or}

-- Each field of the table has one of the names.
abbrev pub has_only : List (List ℕ) → Members → Bool
has_only names no_members = true
has_only names (member name value more) = list_any (λ n. bytes_eq n name) names && has_only names more

-- The text under a name, if a text is there.
abbrev pub text_at : List ℕ → Members → Option (List ℕ)
text_at name fields = option_and_then as_str (get_member name fields)

-- These things, followed by what the items hold, if each item holds one.
abbrev pub all_after : {A : Type 0} → (Data → Option A) → List A → Items → Option (List A)
all_after held before no_items = Some before
all_after held before (item value more) = option_and_then (λ x. all_after held (before ++ x ∷ []) more) (held value)

-- What the items of an array hold, if each item holds it.
abbrev pub array_of : {A : Type 0} → (Data → Option A) → Data → Option (List A)
array_of held (array items) = all_after held [] items
array_of held _ = None

-- The texts of an array of texts.
abbrev pub texts_in : Data → Option (List (List ℕ))
texts_in value = array_of as_str value

-- A whole number from 1 to `most`.
abbrev pub up_to : ℕ → ℤ → Option ℕ
up_to most (pos number) = if nat_le 1 number && nat_le number most then Some number else None
up_to most (negsuc n) = None

-- How often a test is repeated: 1 to 65,535 times.
abbrev pub repeats_in : Data → Option ℕ
repeats_in value = option_and_then (up_to 65535) (as_integer value)

-- How many places for keys a number of keys needs, in whole blocks of 32, if it is from 1 to 1,024.
abbrev pub places_in : Data → Option ℕ
places_in value = option_map (λ keys. (keys + 31) / 32 * 32) (option_and_then (up_to 1024) (as_integer value))

-- What an optional field holds, by default this, or this fault if it holds something else.
abbrev pub field_or : {A : Type 0} → A → (Data → Option A) → PlanFault → Option Data → Result A PlanFault
field_or default held e None = Ok default
field_or default held e (Some value) = some_or e (held value)

-- The same of a field without a default.
abbrev pub optional : {A : Type 0} → (Data → Option A) → PlanFault → Option Data → Result (Option A) PlanFault
optional held e found = field_or None (λ value. option_map Some (held value)) e found
