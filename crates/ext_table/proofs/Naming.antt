-- The names of locks, among which one is looked for.
use Rattle.std.proofs.Common.{◌≡◌, ◌≢◌, ℕ, zero, suc, ◌+◌, ◌<◌, ◌≤◌, ◌++◌, List, [], ◌∷◌, length, get_or, ap, subst, sym, refl, ◌∙◌, inl, inr, arith}
use Rattle.std.specs.Prelude.{All, Contains, Some, String, slice_get, string_bytes}
use Rattle.std.specs.declared.alloc.Global.{Global}
use Rattle.std.proofs.lemmas.Bool.{cases_lt}
use Rattle.std.proofs.lemmas.List.{length-map, get_or_default}
use Rattle.std.proofs.lemmas.Option.{slice_get-get_or}
use Rattle.ext_table.specs.Tables.{texts_in}
use Rattle.ext_table.specs.declared.row.NamedLock.{NamedLock}

text_at : (names : List (String Global)) (k : ℕ) (known : String Global) → k < length names → known ≡ get_or names k known → get_or (texts_in names) k [] ≡ string_bytes known
text_at [] k known within is = absurd (omega (arith, within))
text_at (n ∷ names) zero known within is = ap (λ s. string_bytes s) (sym is)
text_at (n ∷ names) (suc k) known within is = text_at names k known (omega (arith, within)) is

pub found_text : (names : List (String Global)) (k : ℕ) (known : String Global) (name : List ℕ) → k < length names → known ≡ get_or names k known → string_bytes known ≡ name → slice_get (texts_in names) k ≡ Some name
found_text names k known name within is same =
    slice_get-get_or (texts_in names) k [] (subst (λ n. k < n) (sym (length-map names (λ (s : String Global). string_bytes s))) within) ∙ ap Some (text_at names k known within is ∙ same)

pub none_yet : (names : List (String Global)) (i : ℕ) (known : String Global) (name : List ℕ) → i < length names → known ≡ get_or names i known → string_bytes known ≢ name → ((k : ℕ) → k < i → get_or (texts_in names) k [] ≢ name) → (k : ℕ) → k < i + 1 → get_or (texts_in names) k [] ≢ name
none_yet names i known name within is differs before k lt same = elim (cases_lt k i) [ inl less ↦ before k less same | inr ge ↦ differs (sym (text_at names i known within is) ∙ ap (λ n. get_or (texts_in names) n []) (omega (arith, lt, ge)) ∙ same) ]

pub not_among : (names : List (String Global)) (i : ℕ) (name : List ℕ) → length names ≤ i → ((k : ℕ) → k < i → get_or (texts_in names) k [] ≢ name) → ¬ Contains (texts_in names) name
not_among names i name all before among =
    let long = length-map names (λ (s : String Global). string_bytes s) in
    before among.0 (omega (arith, all, long, among.1)) (get_or_default (texts_in names) among.0 [] name among.1 ∙ among.2)

pub pushed_at : (texts : List (List ℕ)) (name : List ℕ) (count : ℕ) → count ≡ length texts → slice_get (texts ++ name ∷ []) count ≡ Some name
pushed_at [] name count is = ap (λ n. slice_get (name ∷ []) n) is
pushed_at (t ∷ texts) name count is = ap (λ n. slice_get (t ∷ (texts ++ name ∷ [])) n) is ∙ pushed_at texts name (length texts) refl

-- All locks are still among the names.
pub still_known : (before after : ℕ) (locks : List NamedLock) → before ≤ after → All (λ lock. lock.name < before) locks → All (λ lock. lock.name < after) locks
still_known before after locks more all k d within = let h = all k d within in omega (arith, more, h)
