-- Labels in memory and as texts, and their numbers in a map.
use Rattle.std.proofs.Common.{◌≡◌, ℕ, ◌<◌, Bool, true, false, cond, not, ◌||◌, nat_lt, List, [], ◌∷◌, ◌++◌, length, Some, is_some, refl, sym, ap, subst, ◌∙◌, arith, Bor}
use Rattle.std.specs.List.{list_any, position, position_or_len}
use Rattle.std.specs.Str.{bytes_eq}
use Rattle.std.specs.BTreeMap.{BTreeMap, UpdatesBy}
use Rattle.std.specs.Cmp.Lexicographic.{slice_cmp, bytes_decides, nat_list_eq_equiv}
use Rattle.std.specs.Ordering.{nat_cmp}
use Rattle.std.proofs.lemmas.Bool.{false≢true, lt-ltb}
use Rattle.std.proofs.lemmas.Grind.{common_steps}
use Rattle.std.proofs.lemmas.List.Folds.{position_or_len_push}
use Rattle.std.proofs.lemmas.List.Sums.{prefix_len-le-length}
use Rattle.std.proofs.lemmas.Map.Text.{btree_map_updates_str}
use Rattle.ext_plan.specs.Labels.{is_label}
use Rattle.ext_plan_reading.specs.KeyReading.{label_number}
use Rattle.ext_plan_reading.specs.InnerSketches.{number_in}

-- where no element passes, the first index is the one behind the last
none_passes_at : {X : Type 0} (p : X → Bool) (x : X) (xs : List X) (b : Bool) → p x ≡ b → (list_any p xs ≡ false → position_or_len p xs ≡ length xs)
    → (b || list_any p xs) ≡ false → position_or_len p (x ∷ xs) ≡ length (x ∷ xs)
none_passes_at p x xs true e ih h = absurd (false≢true (sym h))
none_passes_at p x xs false e ih h = let same = ih h in rw e (omega (arith, same))

pub none_passes : {X : Type 0} (p : X → Bool) (xs : List X) → list_any p xs ≡ false → position_or_len p xs ≡ length xs
none_passes p [] h = refl
none_passes p (x ∷ xs) h = none_passes_at p x xs (p x) refl (none_passes p xs) h

-- where an element passes, the first one that does stands in the list
one_passes_at : {X : Type 0} (p : X → Bool) (x : X) (xs : List X) (b : Bool) → p x ≡ b → (list_any p xs ≡ true → position_or_len p xs < length xs)
    → (b || list_any p xs) ≡ true → position_or_len p (x ∷ xs) < length (x ∷ xs)
one_passes_at p x xs true e ih h = rw e (omega arith)
one_passes_at p x xs false e ih h = let less = ih h in rw e (omega (arith, less))

pub one_passes : {X : Type 0} (p : X → Bool) (xs : List X) → list_any p xs ≡ true → position_or_len p xs < length xs
one_passes p [] h = absurd (false≢true h)
one_passes p (x ∷ xs) h = one_passes_at p x xs (p x) refl (one_passes p xs) h

less_than_itself : (n : ℕ) → nat_lt n n ≡ false
less_than_itself n = grind (arith, common_steps)

-- an index is found exactly where an element passes
is_some-position_at : {X : Type 0} (p : X → Bool) (xs : List X) (b : Bool) → list_any p xs ≡ b → is_some (position p xs) ≡ b
is_some-position_at p xs true e = let less = one_passes p xs e in rw (lt-ltb (position_or_len p xs) (length xs) less) refl
is_some-position_at p xs false e = rw (none_passes p xs e, less_than_itself (length xs)) refl

pub is_some-position : {X : Type 0} (p : X → Bool) (xs : List X) → is_some (position p xs) ≡ list_any p xs
is_some-position p xs = is_some-position_at p xs (list_any p xs) refl

-- an element behind the others is found where none before it is
position_new : {X : Type 0} (p : X → Bool) (xs : List X) (x : X) → list_any p xs ≡ false → p x ≡ true → position p (xs ++ x ∷ []) ≡ Some (length xs)
position_new p xs x none passes =
    let last = none_passes p xs none in
    let index = position_or_len_push p xs x in
    grind (arith, common_steps)

-- and changes no index where it is not found
position_other : {X : Type 0} (p : X → Bool) (xs : List X) (x : X) → p x ≡ false → position p (xs ++ x ∷ []) ≡ position p xs
position_other p xs x fails =
    let within = prefix_len-le-length (λ y. not (p y)) xs in
    let index = position_or_len_push p xs x in
    grind (arith, common_steps)

-- the map has the number of each label and of no other text
abbrev pub HasNumbers : BTreeMap (Bor (List ℕ)) ℕ → List (List ℕ) → Type 0
HasNumbers numbers labels = (text : List ℕ) → number_in numbers text ≡ label_number labels text

pub is_known : (numbers : BTreeMap (Bor (List ℕ)) ℕ) (labels : List (List ℕ)) → HasNumbers numbers labels → (text : List ℕ) → is_some (number_in numbers text) ≡ is_label labels text
is_known numbers labels has text = ap is_some (has text) ∙ is_some-position (bytes_eq text) labels

-- the number of a text once a new label stands behind the others
pushed_at : (labels : List (List ℕ)) (label text : List ℕ) → is_label labels label ≡ false → (b : Bool) → bytes_eq label text ≡ b
    → cond b (Some (length labels)) (label_number labels text) ≡ label_number (labels ++ label ∷ []) text
pushed_at labels label text new true e = subst (λ t. Some (length labels) ≡ label_number (labels ++ label ∷ []) t) ((bytes_decides label text).0 e) (sym (position_new (bytes_eq label) labels label new (nat_list_eq_equiv.refl label)))
pushed_at labels label text new false e = sym (position_other (bytes_eq text) labels label (nat_list_eq_equiv.symm text label ∙ e))

pub pushed : (old new : BTreeMap (Bor (List ℕ)) ℕ) (labels : List (List ℕ)) (label : List ℕ) (n : ℕ) → n ≡ length labels → HasNumbers old labels → is_label labels label ≡ false
    → UpdatesBy (λ x y. slice_cmp nat_cmp x.now y.now) (λ k. slice_cmp nat_cmp label k.now) old new (Some n) → HasNumbers new (labels ++ label ∷ [])
pushed old new labels label n is has is_new updates text =
    btree_map_updates_str label old new (Some n) updates text
    ∙ ap (λ m. cond (bytes_eq label text) (Some m) (number_in old text)) is
    ∙ ap (λ before. cond (bytes_eq label text) (Some (length labels)) before) (has text)
    ∙ pushed_at labels label text is_new (bytes_eq label text) refl
