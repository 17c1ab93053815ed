-- What holds of the keys of a plan that was read.
use Rattle.std.proofs.Common.{◌≡◌, ◌≢◌, get_or, ℕ, ◌<◌, true, false, ◌&&◌, List, [], ◌∷◌, ◌++◌, length, Option, Some, None, Ok, unwrap_or, All, refl, arith}
use Rattle.std.specs.Prelude.{codes, not, IfSome}
use Rattle.std.proofs.lemmas.Bool.{and_parts, not-true, eqb-false}
use Rattle.std.proofs.lemmas.Slice.Eq.{bytes_eq-Decides}
use Rattle.std.proofs.lemmas.List.Elements.{All-push}
use Rattle.std.proofs.lemmas.List.Quantifiers.{all_pairs_push}
use Rattle.std.proofs.lemmas.List.Folds.{list_any_at}
use Rattle.std.specs.List.{AllPairs}
use Rattle.std.specs.Str.{bytes_eq}
use Rattle.toml.specs.Data.{Members, get_member, as_str}
use Rattle.ext_plan.specs.Plans.{KeyText}
use Rattle.ext_plan.specs.StoreKeys.{HasParts}
use Rattle.ext_plan.specs.Labels.{labels_of, is_label, is_word}
use Rattle.ext_plan.proofs.Lists.{map-push}
use Rattle.ext_plan_reading.specs.declared.fault.PlanFault.TheVariants as faults
use Rattle.ext_plan_reading.specs.declared.fault.PlanPart.TheVariants as plan_parts
use Rattle.ext_plan_reading.specs.Faults.{some_or, check}
use Rattle.ext_plan_reading.specs.Fields.{has_only, text_at, texts_in, optional}
use Rattle.ext_plan_reading.specs.KeyReading.{key_fields, has_parts, key_at, keys_after}
use Rattle.ext_plan_reading.proofs.Gave.{ok_value, both_gave, passed}

differs : (labels : List (List ℕ)) (label : List ℕ) → is_label labels label ≡ false → (k : ℕ) (d : List ℕ) → k < length labels → get_or labels k d ≢ label
differs labels label new k d h same =
    let equal : bytes_eq label (get_or labels k d) ≡ true = rw same ((bytes_eq-Decides label label).1 refl) in
    let found = list_any_at (bytes_eq label) labels k d h equal in
    absurd cc

some_parts : (namespace : Option (List (List ℕ))) → has_parts namespace ≡ true → IfSome namespace (λ parts. length parts ≢ 0)
some_parts None h = tt
some_parts (Some parts) h = eqb-false _ _ (not-true _ h)

-- labels that are words, no two the same, and namespaces with parts
pub record AreOwn (keys : List KeyText) : Type 0 where
  pub words : All (λ label. is_word label ≡ true) (labels_of keys)
  pub different : AllPairs (λ label other. label ≢ other) (labels_of keys)
  pub parts : All HasParts keys

-- a key that was read
record IsOwn (labels : List (List ℕ)) (key : KeyText) : Type 0 where
  pub word : is_word key.label ≡ true
  pub fresh : is_label labels key.label ≡ false
  pub parts : HasParts key

key_is_own : (number : ℕ) (labels : List (List ℕ)) (fields : Members) (key : KeyText) → key_at number labels fields ≡ Ok key → IsOwn labels key
unfolding key_at
key_is_own number labels fields key h =
    let known_fields = both_gave (check (faults.UnknownField (plan_parts.Key number)) (has_only key_fields fields)) _ _ h in
    let label = both_gave (some_or (faults.BadField (plan_parts.Key number)) (text_at (codes "label") fields)) _ _ known_fields.2 in
    let name = both_gave (optional as_str (faults.BadField (plan_parts.Key number)) (get_member (codes "name") fields)) _ _ label.2 in
    let namespace = both_gave (optional texts_in (faults.BadField (plan_parts.Key number)) (get_member (codes "namespace") fields)) _ _ name.2 in
    let good = both_gave (check (faults.BadLabel number) (is_word label.0 && has_parts namespace.0 && not (is_label labels label.0))) _ _ namespace.2 in
    let all = and_parts (is_word label.0 && has_parts namespace.0) (not (is_label labels label.0)) (passed _ (is_word label.0 && has_parts namespace.0 && not (is_label labels label.0)) good.0 good.1) in
    let both = and_parts (is_word label.0) (has_parts namespace.0) all.0 in
    rw (← ok_value (record { label = label.0; name = unwrap_or name.0 label.0; namespace = namespace.0 }) key _ refl good.2)
    (record { word = both.0; fresh = not-true _ all.1; parts = some_parts namespace.0 both.1 })

pub keys_are_own : (before : List KeyText) (tables : List Members) (keys : List KeyText) → keys_after before tables ≡ Ok keys → AreOwn before → AreOwn keys
unfolding keys_after
keys_are_own before [] keys h own = rw (← ok_value before keys _ refl h) own
keys_are_own before (fields ∷ more) keys h own =
    let key = both_gave (key_at (length before) (labels_of before) fields) _ _ h in
    let is = key_is_own _ _ fields key.0 key.1 in
    let labels = map-push (λ k. k.label) before key.0 in
    let added : AreOwn (before ++ key.0 ∷ []) = record {
      words = rw labels (All-push (λ label. is_word label ≡ true) (labels_of before) key.0.label own.words is.word);
      different = rw labels (all_pairs_push (λ label other. label ≢ other) (labels_of before) key.0.label own.different (differs (labels_of before) key.0.label is.fresh));
      parts = All-push HasParts before key.0 own.parts is.parts;
    } in
    keys_are_own (before ++ key.0 ∷ []) more keys key.2 added

pub no_keys : AreOwn []
no_keys = record {
  words = λ k d less. absurd (omega (arith, less));
  different = λ i j d low high. absurd (omega (arith, high));
  parts = λ k d less. absurd (omega (arith, less));
}
