-- Results that carry a fact, and reads of lists.
use Rattle.std.proofs.Common.{◌≡◌, ℕ, List, length, Option, Some, None, Result, Ok, Err, OnOk, Bor, refl, sym}
use Rattle.std.specs.Prelude.{slice_get, is_some, option_map}
use Rattle.std.specs.Option.{option_copied}
use Rattle.std.specs.Slice.{IsGetResult}
use Rattle.std.proofs.lemmas.Option.{slice_get_past, slice_get_read}

pub OnOk-map : {A E : Type 0} {P Q : Type 0} (r : Result A E) → OnOk r P → (P → Q) → OnOk r Q
OnOk-map (Ok x) h f = f h
OnOk-map (Err e) h f = tt

pub copied_get : {X : Type 0} (xs : List X) (i : ℕ) (r : Option (Bor X)) → IsGetResult xs i i r → option_copied r ≡ slice_get xs i
copied_get xs i None h = sym (slice_get_past xs i h.3)
copied_get xs i (Some x) h = sym (slice_get_read xs (length xs) i x.now refl h.3.0 h.1)

pub is_some-map : {A B : Type 0} (f : A → B) (o : Option A) → is_some (option_map f o) ≡ is_some o
is_some-map f None = refl
is_some-map f (Some x) = refl
