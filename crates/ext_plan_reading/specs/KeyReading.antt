-- The keys of a plan. Each has a label, a word that no key before it has, and may have a name and a namespace.
use Rattle.std.specs.Prelude.{ℕ, ◌==◌, Bool, true, not, ◌&&◌, codes, List, [], ◌∷◌, ◌++◌, length, position, Result, Ok, Option, Some, None, unwrap_or}
use Rattle.std.specs.Str.{bytes_eq}
use Rattle.toml.specs.Data.{Members, get_member, as_str}
use Rattle.ext_plan.specs.Labels.{labels_of, is_label, is_word}
use Rattle.ext_plan.specs.Plans.{KeyText}
use Rattle.ext_plan_reading.specs.declared.fault.PlanFault.{PlanFault}
use Rattle.ext_plan_reading.specs.declared.fault.PlanFault.TheVariants as faults
use Rattle.ext_plan_reading.specs.declared.fault.PlanPart.TheVariants as plan_parts
use Rattle.ext_plan_reading.specs.Faults.{some_or, check, ◌>>=◌}
use Rattle.ext_plan_reading.specs.Fields.{has_only, text_at, texts_in, optional}

abbrev pub key_fields : List (List ℕ)
key_fields = codes "label" ∷ codes "name" ∷ codes "namespace" ∷ []

-- The index of a label among the labels.
abbrev pub label_number : List (List ℕ) → List ℕ → Option ℕ
label_number labels text = position (bytes_eq text) labels

-- A namespace that is given has a part.
abbrev pub has_parts : Option (List (List ℕ)) → Bool
has_parts None = true
has_parts (Some parts) = not (length parts == 0)

-- The key of a table, the one with this number after those with these labels. Without a name its name is the label.
unfoldable pub key_at : ℕ → List (List ℕ) → Members → Result KeyText PlanFault
key_at number labels fields = do
  _ ← check (faults.UnknownField (plan_parts.Key number)) (has_only key_fields fields)
  label ← some_or (faults.BadField (plan_parts.Key number)) (text_at (codes "label") fields)
  name ← optional as_str (faults.BadField (plan_parts.Key number)) (get_member (codes "name") fields)
  namespace ← optional texts_in (faults.BadField (plan_parts.Key number)) (get_member (codes "namespace") fields)
  _ ← check (faults.BadLabel number) (is_word label && has_parts namespace && not (is_label labels label))
  Ok (record { label = label; name = unwrap_or name label; namespace = namespace })

-- These keys, followed by those of the tables.
unfoldable pub keys_after : List KeyText → List Members → Result (List KeyText) PlanFault
keys_after before [] = Ok before
keys_after before (fields ∷ more) = do
  key ← key_at (length before) (labels_of before) fields
  keys_after (before ++ key ∷ []) more
