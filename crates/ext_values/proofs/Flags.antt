-- Which numbers are known, after one more value was learnt.
use Rattle.std.proofs.Common.{ℕ, ◌≡◌, ◌-◌, ◌<◌, ◌∙◌, true, false, List, [], ◌∷◌, Some, is_some, length, get_or, set, replicate, sym, ap, arith, refl}
use Rattle.std.proofs.lemmas.List.{map-set, get_or_default}
use Rattle.ext_values.specs.Slots.{IsNumber}
use Rattle.ext_values.specs.Known.{Known, AreNotesOf, Learns, are_known, nothing_known, unknown}
use Rattle.ext_values.proofs.Learning.{length-notes, learns}
use Rattle.ext_values.proofs.NotesLaws.{learning_tells}

-- of notes that know nothing no number is known
pub none_known : (V : Type 0) (slots : List ℕ) → are_known (nothing_known {V = V} slots) ≡ replicate (length slots) false
none_known V [] = refl
none_known V (slot ∷ slots) = ap (λ l. false ∷ l) (none_known V slots)

module _ {V : Type 0} where
  -- where a value was learnt, its number is known, and of every other number what was
  pub one_more_known : (before after : List (Known V)) (names : List ℕ) (number : ℕ) (value : V) → AreNotesOf names before → IsNumber names number → Learns before after number value
      → set (are_known before) (number - 1) true ≡ are_known after
  one_more_known before after names number value of within learnt =
      let entry = get_or before (number - 1) (unknown 0) in
      let written : Known V = record { slot = entry.slot; value = Some value } in
      let some : 0 < number = within.0 in
      let long : length before ≡ length names = length-notes before names of in
      let below : number - 1 < length before = let last = within.1 in omega arith in
      let is : entry ≡ get_or before (number - 1) entry = get_or_default before (number - 1) (unknown 0) entry below in
      let told : Learns before (set before (number - 1) written) number value = learns before before names refl of number entry written is refl value within refl in
      let same : set before (number - 1) written ≡ after = learning_tells before (set before (number - 1) written) after number value told learnt in
      sym (map-set (λ (x : Known V). is_some x.value) before (number - 1) written) ∙ ap (λ l. are_known l) same
