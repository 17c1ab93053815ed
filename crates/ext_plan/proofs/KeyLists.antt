-- Different keys and their numbers, as one label after another names them.
use Rattle.std.proofs.Common.{◌≡◌, ◌+◌, ◌<◌, ◌≤◌, suc, Bool, true, false, List, [], ◌∷◌, ◌++◌, length, Some, Contains, refl, sym, ap, ◌∙◌, arith, append_assoc, append-nil, length-append, true≢false}
use Rattle.std.specs.Prelude.{if◌then◌else◌}
use Rattle.std.proofs.lemmas.Map.Views.{list_any-from_Contains}
use Rattle.indexmap.proofs.CallerLemmas.{Contains-list_any}
use Rattle.ext_tree.specs.Keys.{KeyValue, HasNumber}
use Rattle.ext_tree.specs.Traits.{key_eq, key_eq_equiv}
use Rattle.ext_tree.proofs.Equalities.{keys_Decides}
use Rattle.ext_plan.specs.Plans.{KeyText}
use Rattle.ext_plan.specs.StoreKeys.{named_key, is_there, with_key, keys_with, number_of_key}

-- ---- whether a key is there

equal_back : (a b : KeyValue) (r : Bool) → key_eq a b ≡ r → key_eq b a ≡ r
equal_back a b true h = (keys_Decides b a).1 (sym ((keys_Decides a b).0 h))
equal_back a b false h = by _ refl
  where
    by : (r : Bool) → key_eq b a ≡ r → key_eq b a ≡ false
    by true e = absurd (true≢false (sym ((keys_Decides a b).1 (sym ((keys_Decides b a).0 e))) ∙ h))
    by false e = e

pub is_contained : (keys : List KeyValue) (key : KeyValue) → is_there keys key ≡ true → Contains keys key
is_contained keys key h = Contains-list_any key_eq (λ a b. (keys_Decides a b).0) keys key h

pub not_contained : (keys : List KeyValue) (key : KeyValue) → is_there keys key ≡ false → Contains keys key → ⊥
not_contained keys key h c = true≢false (sym (list_any-from_Contains key_eq_equiv key keys c) ∙ h)

pub not_there : (keys : List KeyValue) (key : KeyValue) → (Contains keys key → ⊥) → is_there keys key ≡ false
not_there keys key no_key = by _ refl
  where
    by : (r : Bool) → is_there keys key ≡ r → is_there keys key ≡ false
    by true e = absurd (no_key (is_contained keys key e))
    by false e = e

there_before_at : (keys more : List KeyValue) (key first : KeyValue) (r : Bool) → key_eq key first ≡ r → is_there (first ∷ keys) key ≡ true → (is_there keys key ≡ true → is_there (keys ++ more) key ≡ true) → is_there (first ∷ keys ++ more) key ≡ true
there_before_at keys more key first true e h next = rw e refl
there_before_at keys more key first false e h next = rw e (next (rw e at h))

there_before : (keys more : List KeyValue) (key : KeyValue) → is_there keys key ≡ true → is_there (keys ++ more) key ≡ true
there_before [] more key h = absurd (true≢false (sym h))
there_before (first ∷ keys) more key h = there_before_at keys more key first _ refl h (there_before keys more key)

there_last_at : (keys : List KeyValue) (key first : KeyValue) (r : Bool) → key_eq key first ≡ r → is_there (keys ++ key ∷ []) key ≡ true → is_there (first ∷ keys ++ key ∷ []) key ≡ true
there_last_at keys key first true e next = rw e refl
there_last_at keys key first false e next = rw e next

there_last : (keys : List KeyValue) (key : KeyValue) → is_there (keys ++ key ∷ []) key ≡ true
there_last [] key = rw ((keys_Decides key key).1 refl) refl
there_last (first ∷ keys) key = there_last_at keys key first _ refl (there_last keys key)

-- ---- the number of a key

-- a key that is there, but not in front, is behind
there_behind : (keys : List KeyValue) (key first : KeyValue) (r : Bool) → key_eq first key ≡ false → is_there (first ∷ keys) key ≡ r → is_there keys key ≡ r
there_behind keys key first r e h = rw (equal_back first key false e) at h

has_key_number_at : (keys : List KeyValue) (key first : KeyValue) (r : Bool) → key_eq first key ≡ r → is_there (first ∷ keys) key ≡ true → (is_there keys key ≡ true → HasNumber keys key (number_of_key keys key)) → HasNumber (first ∷ keys) key (number_of_key (first ∷ keys) key)
has_key_number_at keys key first true e h next = rw e (ap Some ((keys_Decides first key).0 e))
has_key_number_at keys key first false e h next = rw e (next (there_behind keys key first true e h))

pub has_key_number : (keys : List KeyValue) (key : KeyValue) → is_there keys key ≡ true → HasNumber keys key (number_of_key keys key)
has_key_number [] key h = absurd (true≢false (sym h))
has_key_number (first ∷ keys) key h = has_key_number_at keys key first _ refl h (has_key_number keys key)

key_number_within_at : (keys : List KeyValue) (key first : KeyValue) (r : Bool) → key_eq first key ≡ r → is_there (first ∷ keys) key ≡ true → (is_there keys key ≡ true → number_of_key keys key < length keys) → number_of_key (first ∷ keys) key < length (first ∷ keys)
key_number_within_at keys key first true e h next = rw e (omega arith)
key_number_within_at keys key first false e h next = rw e (let less : number_of_key keys key < length keys = next (there_behind keys key first true e h) in omega (arith, less))

pub key_number_within : (keys : List KeyValue) (key : KeyValue) → is_there keys key ≡ true → number_of_key keys key < length keys
key_number_within [] key h = absurd (true≢false (sym h))
key_number_within (first ∷ keys) key h = key_number_within_at keys key first _ refl h (key_number_within keys key)

key_number_last_at : (keys : List KeyValue) (key first : KeyValue) (r : Bool) → key_eq first key ≡ r → is_there (first ∷ keys) key ≡ false → (is_there keys key ≡ false → number_of_key (keys ++ key ∷ []) key ≡ length keys) → number_of_key (first ∷ keys ++ key ∷ []) key ≡ length (first ∷ keys)
key_number_last_at keys key first true e h next = absurd (true≢false (rw (equal_back first key true e) at h))
key_number_last_at keys key first false e h next = rw e (ap suc (next (there_behind keys key first false e h)))

pub key_number_last : (keys : List KeyValue) (key : KeyValue) → is_there keys key ≡ false → number_of_key (keys ++ key ∷ []) key ≡ length keys
key_number_last [] key h = rw ((keys_Decides key key).1 refl) refl
key_number_last (first ∷ keys) key h = key_number_last_at keys key first _ refl h (key_number_last keys key)

-- ---- one key more, and many

-- the keys stand where they did, with others behind them
abbrev Grows : List KeyValue → List KeyValue → Type 0
Grows keys new = (more : List KeyValue) × (new ≡ keys ++ more)

with_key_at : (keys : List KeyValue) (key : KeyValue) (r : Bool) → is_there keys key ≡ r → with_key keys key ≡ (if r then keys else keys ++ key ∷ [])
with_key_at keys key r e = ap (λ b. if b then keys else keys ++ key ∷ []) e

pub with_old : (keys : List KeyValue) (key : KeyValue) → is_there keys key ≡ true → with_key keys key ≡ keys
with_old keys key e = with_key_at keys key true e

pub with_new : (keys : List KeyValue) (key : KeyValue) → is_there keys key ≡ false → with_key keys key ≡ keys ++ key ∷ []
with_new keys key e = with_key_at keys key false e

grows_one : (keys : List KeyValue) (key : KeyValue) → Grows keys (with_key keys key)
grows_one keys key = by _ refl
  where
    by : (r : Bool) → is_there keys key ≡ r → Grows keys (with_key keys key)
    by true e = ([], with_old keys key e ∙ sym (append-nil keys))
    by false e = (key ∷ [], with_new keys key e)

grows_all : (before : List KeyValue) (keys : List KeyText) → Grows before (keys_with before keys)
grows_all before [] = ([], sym (append-nil before))
grows_all before (key ∷ more) =
    let one = grows_one before (named_key key) in
    let all = grows_all (with_key before (named_key key)) more in
    (one.0 ++ all.0, all.1 ∙ ap (λ keys. keys ++ all.0) one.1 ∙ append_assoc before one.0 all.0)

pub there_with : (keys : List KeyValue) (key : KeyValue) → is_there (with_key keys key) key ≡ true
there_with keys key = by _ refl
  where
    by : (r : Bool) → is_there keys key ≡ r → is_there (with_key keys key) key ≡ true
    by true e = ap (λ ks. is_there ks key) (with_old keys key e) ∙ e
    by false e = ap (λ ks. is_there ks key) (with_new keys key e) ∙ there_last keys key

pub there_kept : (before : List KeyValue) (keys : List KeyText) (key : KeyValue) → is_there before key ≡ true → is_there (keys_with before keys) key ≡ true
there_kept before keys key h = let g = grows_all before keys in ap (λ ks. is_there ks key) g.1 ∙ there_before before g.0 key h

pub length_kept : (before : List KeyValue) (keys : List KeyText) → length before ≤ length (keys_with before keys)
length_kept before keys = let g = grows_all before keys in let e = ap length g.1 in omega (arith, e, length-append before g.0)

pub length_with_new : (keys : List KeyValue) (key : KeyValue) → is_there keys key ≡ false → length (with_key keys key) ≡ length keys + 1
length_with_new keys key e = ap length (with_new keys key e) ∙ length-append keys (key ∷ [])
