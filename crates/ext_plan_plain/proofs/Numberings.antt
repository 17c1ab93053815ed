-- What a key has, and what it has once it was named.
use Rattle.std.proofs.Common.{◌≡◌, ℕ, zero, suc, Option, Some, Bool, true, false, List, [], ◌∷◌, ◌++◌, length, Contains, refl, ap, sym, ◌∙◌}
use Rattle.std.specs.Prelude.{nat_lt, if◌then◌else◌}
use Rattle.std.specs.Option.{unwrap_or}
use Rattle.ext_tree.specs.Keys.{KeyValue, AreDifferent, HasNumber}
use Rattle.ext_tree.proofs.Numbers.{contains_at, one_place}
use Rattle.ext_plan.specs.StoreKeys.{is_there, number_of_key}
use Rattle.ext_plan.proofs.KeyLists.{has_key_number, not_contained, not_there, key_number_last, there_with, with_new}
use Rattle.ext_plan_plain.specs.ValueStates.{Numbering, known, next, full, numbering_of}

pub record IsKnown (keys : List KeyValue) (key : KeyValue) (number : ℕ) : Type 0 where
  pub there : is_there keys key ≡ true
  pub place : number ≡ number_of_key keys key

pub record IsNext (places : ℕ) (keys : List KeyValue) (key : KeyValue) (number : ℕ) : Type 0 where
  pub there : is_there keys key ≡ false
  pub room : nat_lt (length keys) places ≡ true
  pub place : number ≡ length keys

pub record IsFull (places : ℕ) (keys : List KeyValue) (key : KeyValue) : Type 0 where
  pub there : is_there keys key ≡ false
  pub room : nat_lt (length keys) places ≡ false

-- ---- from what it has

known_by : (places : ℕ) (keys : List KeyValue) (key : KeyValue) (number : ℕ) (there room : Bool) → is_there keys key ≡ there
    → (let has : Numbering = if there then known (number_of_key keys key) else if room then next (length keys) else full in has ≡ known number → IsKnown keys key number)
known_by places keys key number true room there = λ is. record { there = there; place = cc }
known_by places keys key number false true there = λ is. absurd cc
known_by places keys key number false false there = λ is. absurd cc

pub known_is : (places : ℕ) (keys : List KeyValue) (key : KeyValue) (number : ℕ) → numbering_of places keys key ≡ known number → IsKnown keys key number
known_is places keys key number is = known_by places keys key number (is_there keys key) (nat_lt (length keys) places) refl is

next_by : (places : ℕ) (keys : List KeyValue) (key : KeyValue) (number : ℕ) (there room : Bool) → is_there keys key ≡ there → nat_lt (length keys) places ≡ room
    → (let has : Numbering = if there then known (number_of_key keys key) else if room then next (length keys) else full in has ≡ next number → IsNext places keys key number)
next_by places keys key number true room there within = λ is. absurd cc
next_by places keys key number false true there within = λ is. record { there = there; room = within; place = cc }
next_by places keys key number false false there within = λ is. absurd cc

pub next_is : (places : ℕ) (keys : List KeyValue) (key : KeyValue) (number : ℕ) → numbering_of places keys key ≡ next number → IsNext places keys key number
next_is places keys key number is = next_by places keys key number (is_there keys key) (nat_lt (length keys) places) refl refl is

full_by : (places : ℕ) (keys : List KeyValue) (key : KeyValue) (there room : Bool) → is_there keys key ≡ there → nat_lt (length keys) places ≡ room
    → (let has : Numbering = if there then known (number_of_key keys key) else if room then next (length keys) else full in has ≡ full → IsFull places keys key)
full_by places keys key true room there within = λ is. absurd cc
full_by places keys key false true there within = λ is. absurd cc
full_by places keys key false false there within = λ is. record { there = there; room = within }

pub full_is : (places : ℕ) (keys : List KeyValue) (key : KeyValue) → numbering_of places keys key ≡ full → IsFull places keys key
full_is places keys key is = full_by places keys key (is_there keys key) (nat_lt (length keys) places) refl refl is

-- ---- to what it has

pub is_known : (places : ℕ) (keys : List KeyValue) (key : KeyValue) → is_there keys key ≡ true → numbering_of places keys key ≡ known (number_of_key keys key)
is_known places keys key there = ap (λ b. if b then known (number_of_key keys key) else if nat_lt (length keys) places then next (length keys) else full) there

is_new : (places : ℕ) (keys : List KeyValue) (key : KeyValue) (room : Bool) → is_there keys key ≡ false → nat_lt (length keys) places ≡ room → numbering_of places keys key ≡ (if room then next (length keys) else full)
is_new places keys key room there within =
    ap (λ b. if b then known (number_of_key keys key) else if nat_lt (length keys) places then next (length keys) else full) there
    ∙ ap (λ b. if b then next (length keys) else full) within

pub is_next : (places : ℕ) (keys : List KeyValue) (key : KeyValue) → (Contains keys key → ⊥) → nat_lt (length keys) places ≡ true → numbering_of places keys key ≡ next (length keys)
is_next places keys key absent room = is_new places keys key true (not_there keys key absent) room

pub is_full : (places : ℕ) (keys : List KeyValue) (key : KeyValue) → (Contains keys key → ⊥) → nat_lt (length keys) places ≡ false → numbering_of places keys key ≡ full
is_full places keys key absent room = is_new places keys key false (not_there keys key absent) room

-- ---- once it was named

pub there_then : (keys : List KeyValue) (key : KeyValue) → is_there keys key ≡ false → is_there (keys ++ key ∷ []) key ≡ true
there_then keys key absent = sym (ap (λ ks. is_there ks key) (with_new keys key absent)) ∙ there_with keys key

-- the key that got a number has it
pub known_then : (places : ℕ) (keys : List KeyValue) (key : KeyValue) (number : ℕ) → numbering_of places keys key ≡ next number → numbering_of places (keys ++ key ∷ []) key ≡ known number
known_then places keys key number is =
    let new = next_is places keys key number is in
    is_known places (keys ++ key ∷ []) key (there_then keys key new.there) ∙ ap known (key_number_last keys key new.there ∙ sym new.place)

-- a number stays when further keys get theirs
pub number_stays : (keys more : List KeyValue) (key : KeyValue) (number : ℕ) → HasNumber keys key number → HasNumber (keys ++ more) key number
number_stays [] more key number has = absurd cc
number_stays (first ∷ keys) more key zero has = has
number_stays (first ∷ keys) more key (suc number) has = number_stays keys more key number has

-- ---- a key that has a number

pub there_by : (keys : List KeyValue) (key : KeyValue) (there : Bool) → is_there keys key ≡ there → Contains keys key → is_there keys key ≡ true
there_by keys key true is contains = is
there_by keys key false is contains = absurd (not_contained keys key is contains)

pub knows : (places : ℕ) (keys : List KeyValue) (key : KeyValue) (number : ℕ) → AreDifferent keys → HasNumber keys key number → numbering_of places keys key ≡ known number
knows places keys key number different has =
    let there = there_by keys key (is_there keys key) refl (contains_at keys key number has) in
    is_known places keys key there ∙ ap known (one_place keys different key (number_of_key keys key) number (has_key_number keys key there) has)

-- what a look-up of its number says
pub found_is : (places : ℕ) (keys : List KeyValue) (key : KeyValue) (number : ℕ) (r : Option ℕ) → r ≡ Some number → HasNumber keys key number → ((n : ℕ) → HasNumber keys key n → r ≡ Some n) → numbering_of places keys key ≡ known number
found_is places keys key number r is has found =
    let there = there_by keys key (is_there keys key) refl (contains_at keys key number has) in
    let same : Some (number_of_key keys key) ≡ Some number = sym (found (number_of_key keys key) (has_key_number keys key there)) ∙ is in
    is_known places keys key there ∙ ap (λ o. known (unwrap_or o 0)) same
