-- Nodes that are taken out of a table, and what they stand in then.
use Rattle.std.proofs.Common.{◌≡◌, ◌≢◌, ℕ, zero, suc, ◌+◌, ◌<◌, ◌≤◌, ◌++◌, List, [], ◌∷◌, length, take, get_or, set, map, replicate, ap, subst, sym, refl, ◌∙◌, arith, inl, inr, ◌⊎◌}
use Rattle.std.specs.Prelude.{All, Option, Some, None, slice_get}
use Rattle.std.proofs.lemmas.List.{take_more, get_or_default, get_or_push, length_push, get_or-set_same, get_or-set_other, length-map, map-append}
use Rattle.std.proofs.lemmas.List.Elements.{All-cons, All-nil}
use Rattle.std.proofs.lemmas.Bool.{cases_lt}
use Rattle.std.proofs.lemmas.Option.{get_or_from_slice_get, slice_get-get_or, slice_get_within}
use Rattle.ext_selection.specs.Nodes.{AreIndices}
use Rattle.ext_table.specs.Arranging.{AreRenumbered, IsRenumbered}
use Rattle.ext_table.specs.declared.row.Row.{Row}

-- ---- slots

-- None of the first `count` indices is this one.
abbrev pub IsNew : List ℕ → ℕ → ℕ → Type 0
IsNew indices count index = (j : ℕ) → j < count → get_or indices j 0 ≢ index

-- What stands at other indices than the first `count` is still in its slot.
abbrev pub AreLeft : {X : Type 0} → List X → List ℕ → ℕ → List (Option X) → Type 0
AreLeft items indices count slots = (index : ℕ) → IsNew indices count index → get_or slots index None ≡ slice_get items index

pub all_left : {X : Type 0} (items : List X) (index : ℕ) → get_or (map (λ x. Some x) items) index None ≡ slice_get items index
all_left [] index = refl
all_left (x ∷ items) zero = refl
all_left (x ∷ items) (suc index) = all_left items index

pub at_zero : (indices : List ℕ) (i index : ℕ) → (i < length indices) × (index ≡ get_or indices i index) → index ≡ get_or indices i 0
at_zero indices i index at = at.1 ∙ get_or_default indices i index 0 at.0

pub new_index : (count : ℕ) (indices : List ℕ) (i index : ℕ) → AreIndices count indices → (i < length indices) × (index ≡ get_or indices i index) → IsNew indices i index
new_index count indices i index are at j before same = are.once j i 0 before at.0 (same ∙ at_zero indices i index at)

pub within_index : (count : ℕ) (indices : List ℕ) (i index : ℕ) → AreIndices count indices → (i < length indices) × (index ≡ get_or indices i index) → index < count
within_index count indices i index are at = subst (λ p. p < count) (sym at.1) (are.within i index at.0)

-- Something is in the slot.
pub not_empty : {X : Type 0} (items : List X) (indices : List ℕ) (slots : List (Option X)) (i index : ℕ) → AreIndices (length items) indices → (i < length indices) × (index ≡ get_or indices i index) → AreLeft items indices i slots
    → get_or slots index None ≡ None → ⊥
not_empty items [] slots i index are at left empty = omega (arith, at.0)
not_empty [] (p ∷ indices) slots i index are at left empty = omega (arith, within_index 0 (p ∷ indices) i index are at)
not_empty (x ∷ items) (p ∷ indices) slots i index are at left empty =
    let there = slice_get-get_or (x ∷ items) index x (within_index (length (x ∷ items)) (p ∷ indices) i index are at) in
    let is : None ≡ Some (get_or (x ∷ items) index x) = sym empty ∙ left index (new_index (length (x ∷ items)) (p ∷ indices) i index are at) ∙ there in
    cc

pub taken_more : {X : Type 0} (items : List X) (indices : List ℕ) (slots : List (Option X)) (taken : List X) (i index : ℕ) (item : X) → AreIndices (length items) indices → (i < length indices) × (index ≡ get_or indices i index) → AreLeft items indices i slots
    → get_or slots index None ≡ Some item → map (λ x. Some x) taken ≡ map (slice_get items) (take i indices) → map (λ x. Some x) (taken ++ item ∷ []) ≡ map (slice_get items) (take (i + 1) indices)
taken_more items indices slots taken i index item are at left is so_far =
    map-append (λ x. Some x) taken (item ∷ []) ∙ ap (λ l. l ++ Some item ∷ []) so_far
    ∙ ap (λ o. map (slice_get items) (take i indices) ++ o ∷ []) (sym is ∙ left index (new_index (length items) indices i index are at))
    ∙ sym (ap (map (slice_get items)) (take_more indices i index at.0 ∙ ap (λ n. take i indices ++ n ∷ []) (sym at.1)) ∙ map-append (slice_get items) (take i indices) (index ∷ []))

pub left_more : {X : Type 0} (items : List X) (indices : List ℕ) (slots : List (Option X)) (i index : ℕ) → (next : List (Option X)) → (i < length indices) × (index ≡ get_or indices i index) → AreLeft items indices i slots → next ≡ set slots index None → AreLeft items indices (i + 1) next
left_more items indices slots i index next at left is other new =
    ap (λ s. get_or s other None) is ∙ get_or-set_other slots index other None None (λ same. new i (omega arith) (sym (at_zero indices i index at) ∙ sym same))
    ∙ left other (λ j before. new j (omega (arith, before)))

-- ---- renumbering

-- The first `count` indices have their new numbers, and all others have 0.
pub record AreMoved (indices : List ℕ) (count : ℕ) (moved : List ℕ) : Type 0 where
  pub there : (j : ℕ) → j < count → j < length indices → get_or moved (get_or indices j 0) 0 ≡ j
  pub none : (index : ℕ) → ((j : ℕ) → j < count → slice_get indices j ≢ Some index) → get_or moved index 0 ≡ 0

zeros_at : (count index : ℕ) → get_or (replicate {A = ℕ} count 0) index 0 ≡ 0
zeros_at zero index = refl
zeros_at (suc count) zero = refl
zeros_at (suc count) (suc index) = zeros_at count index

pub none_moved : (indices : List ℕ) (count : ℕ) → AreMoved indices 0 (replicate count 0)
none_moved indices count = record { there = λ j h w. absurd (omega (arith, h)); none = λ index h. zeros_at count index }

pub moved_row : {T : Type 0} (indices : List ℕ) (at : ℕ) (moved : List ℕ) (row : Row T) → AreMoved indices at moved → IsRenumbered indices at row (record row { above = get_or moved row.above 0 })
moved_row indices at moved row are = record {
  same = refl;
  stands = λ new before is. subst (λ p. get_or moved p 0 ≡ new) (get_or_from_slice_get indices new row.above 0 is) (are.there new before (slice_get_within indices new row.above is));
  stands_not = λ no. are.none row.above no;
}

lt_or_eq : (j i : ℕ) → j < i + 1 → (j < i) ⊎ (j ≡ i)
lt_or_eq j i h = elim (cases_lt j i) [ inl lt ↦ inl lt | inr ge ↦ inr (omega (arith, h, ge)) ]

there_more : (count : ℕ) (indices : List ℕ) (i : ℕ) (moved : List ℕ) → AreIndices count indices → length moved ≡ count → i < length indices → AreMoved indices i moved → (j : ℕ) → j < i + 1 → j < length indices → (j < i) ⊎ (j ≡ i)
    → get_or (set moved (get_or indices i 0) i) (get_or indices j 0) 0 ≡ j
there_more count indices i moved are long within so_far j before inside (inl lt) =
    get_or-set_other moved (get_or indices i 0) (get_or indices j 0) i 0 (are.once j i 0 lt within) ∙ so_far.there j lt inside
there_more count indices i moved are long within so_far j before inside (inr same) =
    subst (λ k. get_or (set moved (get_or indices i 0) i) (get_or indices k 0) 0 ≡ k) (sym same)
    (get_or-set_same moved (get_or indices i 0) i 0 (subst (λ n. get_or indices i 0 < n) (sym long) (are.within i 0 within)))

slice_get_front : {X : Type 0} (xs : List X) (y : X) (k : ℕ) → k < length xs → slice_get (xs ++ y ∷ []) k ≡ slice_get xs k
slice_get_front [] y k h = absurd (omega (arith, h))
slice_get_front (x ∷ xs) y zero h = refl
slice_get_front (x ∷ xs) y (suc k) h = slice_get_front xs y k (omega (arith, h))

pushed_within : {T : Type 0} (done : List (Row T)) (new : Row T) (k : ℕ) (b : Row T) (i : ℕ) → length done ≡ i → slice_get (done ++ new ∷ []) k ≡ Some b → k < i + 1
pushed_within done new k b i long is =
    let within = slice_get_within (done ++ new ∷ []) k b is in
    omega (arith, within, length_push done new, long)

row_cases : {T : Type 0} (indices : List ℕ) (rows done : List (Row T)) (i : ℕ) (row new : Row T) → (i < length rows) × (row ≡ get_or rows i row) → length done ≡ i → IsRenumbered indices i row new
    → ((at : ℕ) (a b : Row T) → slice_get rows at ≡ Some a → slice_get done at ≡ Some b → IsRenumbered indices at a b)
    → (at : ℕ) (a b : Row T) → slice_get rows at ≡ Some a → slice_get (done ++ new ∷ []) at ≡ Some b → (at < i) ⊎ (at ≡ i) → IsRenumbered indices at a b
row_cases indices rows done i row new at long one so_far k a b was is (inl lt) = so_far k a b was (sym (slice_get_front done new k (omega (arith, long, lt))) ∙ is)
row_cases indices rows done i row new at long one so_far k a b was is (inr same) =
    let row_is : row ≡ a = at.1 ∙ get_or_from_slice_get rows i a row (subst (λ n. slice_get rows n ≡ Some a) same was) in
    let new_is : new ≡ b = sym (get_or_push done new new i long) ∙ get_or_from_slice_get (done ++ new ∷ []) i b new (subst (λ n. slice_get (done ++ new ∷ []) n ≡ Some b) same is) in
    subst (λ n. IsRenumbered indices n a b) (sym same) (subst (λ r. IsRenumbered indices i a r) new_is (subst (λ r. IsRenumbered indices i r new) row_is one))

-- The node at this index has its new number.
pub moved_more : (count : ℕ) (indices : List ℕ) (i : ℕ) (moved : List ℕ) → AreIndices count indices → length moved ≡ count → i < length indices → AreMoved indices i moved → AreMoved indices (i + 1) (set moved (get_or indices i 0) i)
moved_more count indices i moved are long within so_far = record {
  there = λ j before inside. there_more count indices i moved are long within so_far j before inside (lt_or_eq j i before);
  none = λ index no. get_or-set_other moved (get_or indices i 0) index i 0 (λ same. no i (omega arith) (slice_get-get_or indices i 0 within ∙ ap Some (sym same)))
      ∙ so_far.none index (λ j before. no j (omega (arith, before)));
}

-- There are no more indices.
pub moved_no_more : (indices : List ℕ) (i : ℕ) (moved : List ℕ) → length indices ≤ i → AreMoved indices i moved → AreMoved indices (i + 1) moved
moved_no_more indices i moved past so_far = record {
  there = λ j before inside. so_far.there j (omega (arith, inside, past)) inside;
  none = λ index no. so_far.none index (λ j before. no j (omega (arith, before)));
}

-- One row more.
pub row_more : {T : Type 0} (indices : List ℕ) (rows done next : List (Row T)) (i : ℕ) (row new : Row T) → (i < length rows) × (row ≡ get_or rows i row) → length done ≡ i → IsRenumbered indices i row new → next ≡ done ++ new ∷ []
    → ((at : ℕ) (a b : Row T) → slice_get rows at ≡ Some a → slice_get done at ≡ Some b → IsRenumbered indices at a b)
    → (at : ℕ) (a b : Row T) → slice_get rows at ≡ Some a → slice_get next at ≡ Some b → IsRenumbered indices at a b
row_more indices rows done next i row new at long one pushed so_far k a b was is =
    let is_there : slice_get (done ++ new ∷ []) k ≡ Some b = ap (λ l. slice_get l k) (sym pushed) ∙ is in
    row_cases indices rows done i row new at long one so_far k a b was is_there (lt_or_eq k i (pushed_within done new k b i long is_there))

pub none_there : {X : Type 0} (xs : List X) (k : ℕ) (x : X) → xs ≡ [] → slice_get xs k ≡ Some x → ⊥
none_there xs k x e is = let within = slice_get_within xs k x is in omega (arith, ap length e, within)

-- ---- what stays

pub all_moved : {X : Type 0} (P : X → Type 0) (rows moved : List X) (indices : List ℕ) → map (λ x. Some x) moved ≡ map (slice_get rows) indices → All P rows → All P moved
all_moved P rows [] indices is all = All-nil P
all_moved P rows (m ∷ moved) [] is all = (cc)
all_moved P rows (m ∷ moved) (index ∷ indices) is all =
    let there : slice_get rows index ≡ Some m = (cc) in
    let rest : map (λ x. Some x) moved ≡ map (slice_get rows) indices = (cc) in
    All-cons P m moved (subst P (get_or_from_slice_get rows index m m there) (all index m (slice_get_within rows index m there))) (all_moved P rows moved indices rest all)

pub all_renumbered : {T : Type 0} (P : Row T → Type 0) → ((a b : Row T) → b ≡ record a { above = b.above } → P a → P b) → (indices : List ℕ) (rows done : List (Row T)) → AreRenumbered indices rows done → All P rows → All P done
all_renumbered P keeps indices rows done are all k d within =
    let inside : k < length rows = omega (arith, are.count, within) in
    keeps (get_or rows k d) (get_or done k d)
    (are.each k (get_or rows k d) (get_or done k d) (slice_get-get_or rows k d inside) (slice_get-get_or done k d within)).same (all k d inside)

pub as_many : {A B : Type 0} (xs : List A) (bs : List B) (these : List A) (those : List B) (indices : List ℕ) → map (λ x. Some x) these ≡ map (slice_get xs) indices → map (λ x. Some x) those ≡ map (slice_get bs) indices → length these ≡ length those
as_many xs bs these those indices is are =
    sym (length-map these (λ x. Some x)) ∙ ap length is ∙ length-map indices (slice_get xs) ∙ sym (length-map indices (slice_get bs)) ∙ sym (ap length are) ∙ length-map those (λ x. Some x)
