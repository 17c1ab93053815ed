-- The laws of notes.
use Rattle.std.proofs.Common.{ℕ, zero, suc, ◌≡◌, ◌∙◌, List, [], ◌∷◌, Some, None, sym, ap, arith, refl}
use Rattle.ext_values.specs.Slots.{IsNumber}
use Rattle.ext_values.specs.Known.{Known, AreNotesOf, Learns, known_at, nothing_known, slots_of}
use Rattle.ext_values.specs.KnownLaws.{NothingIsKnown}

-- ---- nothing known

slots_of-nothing_known : (V : Type 0) (slots : List ℕ) → AreNotesOf slots (nothing_known {V = V} slots)
slots_of-nothing_known V [] = refl
slots_of-nothing_known V (slot ∷ slots) = ap (λ l. slot ∷ l) (slots_of-nothing_known V slots)

pub notes_of_nothing : {V : Type 0} (notes : List (Known V)) (slots : List ℕ) → notes ≡ nothing_known slots → AreNotesOf slots notes
notes_of_nothing {V} notes slots is = ap (λ l. slots_of l) is ∙ slots_of-nothing_known V slots

known_at-nothing_known : (V : Type 0) (slots : List ℕ) (number : ℕ) → known_at (nothing_known {V = V} slots) number ≡ None
known_at-nothing_known V slots zero = refl
known_at-nothing_known V [] (suc index) = refl
known_at-nothing_known V (slot ∷ slots) (suc zero) = refl
known_at-nothing_known V (slot ∷ slots) (suc (suc index)) = known_at-nothing_known V slots (suc index)

pub nothing_is_known : (V : Type 0) → NothingIsKnown V
nothing_is_known V = record { slots = slots_of-nothing_known V; values = known_at-nothing_known V }

-- ---- known numbers

-- a value is known of numbers of slots alone
pub known_within : {V : Type 0} (notes : List (Known V)) (number : ℕ) (value : V) → known_at notes number ≡ Some value → IsNumber (slots_of notes) number
known_within notes zero value known = absurd (cc)
known_within [] (suc index) value known = absurd (cc)
known_within (x ∷ notes) (suc zero) value known = (omega arith, omega arith)
known_within (x ∷ notes) (suc (suc index)) value known = let rest = known_within notes (suc index) value known in (omega arith, let last = rest.1 in omega arith)

-- ---- notes are told by what is known

same_known : {V : Type 0} (x y : Known V) → x.slot ≡ y.slot → x.value ≡ y.value → x ≡ y
same_known x y slot value = λ i. record { slot = slot i; value = value i }

module _ {V : Type 0} where
  later : (x y : Known V) (notes second : List (Known V)) → ((number : ℕ) → known_at (x ∷ notes) number ≡ known_at (y ∷ second) number) → (number : ℕ) → known_at notes number ≡ known_at second number
  later x y notes second same zero = refl
  later x y notes second same (suc index) = same (suc (suc index))

  pub notes_tell : (notes second : List (Known V)) → slots_of notes ≡ slots_of second → ((number : ℕ) → known_at notes number ≡ known_at second number) → notes ≡ second
  notes_tell [] [] slots same = refl
  notes_tell [] (y ∷ second) slots same = absurd (cc)
  notes_tell (x ∷ notes) [] slots same = absurd (cc)
  notes_tell (x ∷ notes) (y ∷ second) slots same =
      let first : x.slot ≡ y.slot = cc in
      let rest : slots_of notes ≡ slots_of second = cc in
      let tail = notes_tell notes second rest (later x y notes second same) in
      let head = same_known x y first (same 1) in λ i. head i ∷ tail i

  -- of each number the same is known after the same value was learnt
  same_learnt : (before after second : List (Known V)) (number : ℕ) (value : V) → Learns before after number value → Learns before second number value → (m : ℕ) → known_at after m ≡ known_at second m
  same_learnt before after second number value one two m = grind (arith, one.others m, two.others m, one.learnt, two.learnt)

  pub learning_tells : (before after second : List (Known V)) (number : ℕ) (value : V) → Learns before after number value → Learns before second number value → after ≡ second
  learning_tells before after second number value one two =
      notes_tell after second (one.slots ∙ sym two.slots) (same_learnt before after second number value one two)
