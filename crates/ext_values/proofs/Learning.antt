-- What is known after one entry of the notes was written.
use Rattle.std.proofs.Common.{ℕ, zero, suc, ◌≡◌, ◌≢◌, ◌-◌, ◌<◌, ◌∙◌, List, Some, length, get_or, set, sym, ap, subst, refl, arith}
use Rattle.std.proofs.Math.Seq.{map-set_same}
use Rattle.std.proofs.lemmas.List.{get_or-set_same, get_or-set_other, get_or_default, length-map}
use Rattle.ext_values.specs.Slots.{IsNumber}
use Rattle.std.specs.Prelude.{Result, Ok, Err}
use Rattle.std.specs.Result.{OnErr, OnOk}
use Rattle.ext_values.specs.Known.{Known, AreNotesOf, Learns, LearnsOne, known_at, slots_of, unknown}

module _ {V : Type 0} where
  -- there is an entry for each slot
  pub length-notes : (notes : List (Known V)) (names : List ℕ) → AreNotesOf names notes → length notes ≡ length names
  length-notes notes names of = sym (length-map notes (λ (x : Known V). x.slot)) ∙ ap length of

  -- what is known of a number stands in the entry before which there are number - 1
  pub known_at-entry : (notes : List (Known V)) (index : ℕ) (entry : Known V) → index < length notes → entry ≡ get_or notes index entry → known_at notes (suc index) ≡ entry.value
  known_at-entry notes index entry below is =
      ap (λ (x : Known V). x.value) (get_or_default notes index (unknown 0) entry below ∙ sym is)

  -- an entry of the same slot, written over another, leaves the slots as they are
  slots_of-set : (notes : List (Known V)) (index : ℕ) (entry written : Known V) → entry ≡ get_or notes index entry → written.slot ≡ entry.slot → slots_of (set notes index written) ≡ slots_of notes
  slots_of-set notes index entry written is same =
      map-set_same (λ (x : Known V). x.slot) notes index written entry (same ∙ ap (λ (x : Known V). x.slot) is)

  learns_at : (notes : List (Known V)) (index : ℕ) (entry written : Known V) (value : V) → index < length notes → entry ≡ get_or notes index entry → written.slot ≡ entry.slot → written.value ≡ Some value → Learns notes (set notes index written) (suc index) value
  learns_at notes index entry written value below is same known = record {
    slots = slots_of-set notes index entry written is same;
    learnt = ap (λ (x : Known V). x.value) (get_or-set_same notes index written (unknown 0) below) ∙ known;
    others = elsewhere;
  }
    where
      elsewhere : (m : ℕ) → m ≢ suc index → known_at (set notes index written) m ≡ known_at notes m
      elsewhere zero apart = refl
      elsewhere (suc m) apart =
          let other : m ≢ index = λ e. apart (ap suc e) in
          ap (λ (x : Known V). x.value) (get_or-set_other notes index m written (unknown 0) other)

-- the entries are those of the notes, which are of slots with these names, and one entry of a number is written
module _ {V : Type 0} (entries notes : List (Known V)) (names : List ℕ) (view : entries ≡ notes) (of : AreNotesOf names notes) (number : ℕ) (entry written : Known V) (is : entry ≡ get_or entries (number - 1) entry)
    (same : written.slot ≡ entry.slot) where
  pub slots_stay : AreNotesOf names (set entries (number - 1) written)
  slots_stay = slots_of-set entries (number - 1) entry written is same ∙ (ap (λ l. slots_of l) view ∙ of)

  pub learns : (value : V) → IsNumber names number → written.value ≡ Some value → Learns notes (set entries (number - 1) written) number value
  learns value within known =
      let some : 0 < number = within.0 in
      let long : length entries ≡ length names = ap length view ∙ length-notes notes names of in
      let below : number - 1 < length entries = let last = within.1 in omega arith in
      let e : suc (number - 1) ≡ number = omega arith in
      subst (λ l. Learns l (set entries (number - 1) written) number value) view
      (subst (λ n. Learns entries (set entries (number - 1) written) n value) e (learns_at entries (number - 1) entry written value below is same known))

-- a value is learnt, whether the call placed it or found another one
pub learns_either : {V T E : Type 0} {before after : List (Known V)} {number : ℕ} (r : Result T E) (value : V) → OnOk r (Learns before after number value) → OnErr r (LearnsOne before after number) → LearnsOne before after number
learns_either (Ok done) value placed taken = (value, placed)
learns_either (Err back) value placed taken = taken

-- so of a refused call
pub err_always : {T E P : Type 0} (r : Result T E) → P → OnErr r P
err_always (Ok done) p = tt
err_always (Err back) p = p
