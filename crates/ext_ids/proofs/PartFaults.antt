-- `type_fault` and `value_fault`: what a part is refused for is what is wrong there.
use Rattle.std.proofs.Common.{◌≡◌, ℕ, zero, suc, ◌+◌, ◌≤◌, Bool, true, false, ◌||◌, List, [], ◌∷◌, ◌++◌, length, Err, Option, Some, None, refl, ap, sym, ◌∙◌, arith, append_assoc, ⊎_elim, length-append}
use Rattle.std.proofs.Math.Bool.{or-true}
use Rattle.ext_ids.specs.declared.fault.IdFault.{IdFault}
use Rattle.ext_ids.specs.declared.scan.Part.{Part}
use Rattle.ext_ids.specs.declared.scan.Part.TheVariants as parts
use Rattle.ext_ids.specs.Grammar.{spelled, part_text, escape_of}
use Rattle.ext_ids.specs.Reading.{part_end}
use Rattle.ext_ids.specs.Faults.{type_fault, value_fault, has_character}
use Rattle.ext_ids.proofs.Characters.{Mark, plain, percent, plus, opening, closing_mark, colon, slash, mark_of, spelled_plain, plain_step, item_read, escape_cases}

abbrev pub part_fault : Part → ℕ → Bool → List ℕ → Option IdFault
part_fault parts.Type at some text = type_fault at some text
part_fault parts.Value at some text = value_fault at some text

-- a part is right up to a place, and wrong there
pub record PartFault (part : Part) (at : ℕ) (some : Bool) (text : List ℕ) (what : IdFault) : Type 0 where
  pub value : List ℕ
  pub rest : List ℕ
  pub spells : text ≡ part_text value ++ rest
  pub fault : part_fault part (at + length (part_text value)) (some || has_character value) rest ≡ Some what

or_false : (some : Bool) → (some || false) ≡ some
or_false true = refl
or_false false = refl

here : (part : Part) (at : ℕ) (some : Bool) (text : List ℕ) (what : IdFault) → part_fault part at some text ≡ Some what → PartFault part at some text what
here part at some text what e = record {
  value = [];
  rest = text;
  spells = refl;
  fault = let none : at + 0 ≡ at = omega arith in ap (λ k. part_fault part k (some || false) text) none ∙ ap (λ b. part_fault part at b text) (or_false some) ∙ e;
}

later : (part : Part) (at : ℕ) (some : Bool) (text more : List ℕ) (c : ℕ) (what : IdFault) → text ≡ spelled c ++ more → PartFault part (at + length (spelled c)) true more what → PartFault part at some text what
later part at some text more c what front r = record {
  value = c ∷ r.value;
  rest = r.rest;
  spells = front ∙ ap (λ xs. spelled c ++ xs) r.spells ∙ sym (append_assoc (spelled c) (part_text r.value) r.rest);
  fault =
      let place : at + length (part_text (c ∷ r.value)) ≡ at + length (spelled c) + length (part_text r.value) = omega (arith, length-append (spelled c) (part_text r.value)) in
      ap (λ k. part_fault part k (some || true) r.rest) place ∙ ap (λ b. part_fault part (at + length (spelled c) + length (part_text r.value)) b r.rest) (or-true some) ∙ r.fault;
}

at_end : (part : Part) (at : ℕ) (some : Bool) (what : IdFault) → part_end part at some [] ≡ Err what → PartFault part at some [] what
at_end parts.Type at some what e = here parts.Type at some [] what cc
at_end parts.Value at some what e = here parts.Value at some [] what cc

bad_escape : (part : Part) (at : ℕ) (some : Bool) (text : List ℕ) (what : IdFault) → escape_of text ≡ None → part_end part at some (37 ∷ text) ≡ Err what → PartFault part at some (37 ∷ text) what
bad_escape parts.Type at some text what none e = let bad = rw none at e in here parts.Type at some (37 ∷ text) what (rw none cc)
bad_escape parts.Value at some text what none e = let bad = rw none at e in here parts.Value at some (37 ∷ text) what (rw none cc)

refused_marked : (fuel : ℕ) (part : Part) (at : ℕ) (some : Bool) (b : ℕ) (text : List ℕ) (what : IdFault) → ((p : Part) (a : ℕ) (s : Bool) (t : List ℕ) → length t ≤ fuel → part_end p a s t ≡ Err what → PartFault p a s t what)
    → Mark b → length text ≤ fuel → part_end part at some (b ∷ text) ≡ Err what → PartFault part at some (b ∷ text) what
refused_marked fuel part at some b text what before (plain _ h) short e =
    later part at some (b ∷ text) text b what (rw (spelled_plain b h) refl)
    (before part (at + length (spelled b)) true text short (rw (spelled_plain b h) (sym (plain_step part at some b text h) ∙ e)))
refused_marked fuel part at some b text what before percent short e = ⊎_elim
    (λ none. bad_escape part at some text what none e)
    (λ x. later part at some (37 ∷ text) x.more x.character what x.spells
    (before part _ true x.more (omega (arith, x.shorter)) (sym (item_read part at some x.character x.more) ∙ ap (part_end part at some) (sym x.spells) ∙ e)))
    (escape_cases text)
refused_marked fuel parts.Type at some b text what before plus short e = here parts.Type at some _ what cc
refused_marked fuel parts.Type at some b text what before opening short e = here parts.Type at some _ what cc
refused_marked fuel parts.Type at some b text what before slash short e = here parts.Type at some _ what cc
refused_marked fuel parts.Value at some b text what before plus short e = here parts.Value at some _ what cc
refused_marked fuel parts.Value at some b text what before opening short e = here parts.Value at some _ what cc
refused_marked fuel parts.Value at some b text what before slash short e = here parts.Value at some _ what cc
refused_marked fuel parts.Type at true b text what before closing_mark short e = here parts.Type at true _ what cc
refused_marked fuel parts.Type at false b text what before closing_mark short e = here parts.Type at false _ what cc
refused_marked fuel parts.Value at true b text what before closing_mark short e = absurd cc
refused_marked fuel parts.Value at false b text what before closing_mark short e = here parts.Value at false _ what cc
refused_marked fuel parts.Type at true b text what before colon short e = absurd cc
refused_marked fuel parts.Type at false b text what before colon short e = here parts.Type at false _ what cc
refused_marked fuel parts.Value at true b text what before colon short e = here parts.Value at true _ what cc
refused_marked fuel parts.Value at false b text what before colon short e = here parts.Value at false _ what cc

refused_within : (fuel : ℕ) (part : Part) (at : ℕ) (some : Bool) (text : List ℕ) (what : IdFault) → length text ≤ fuel → part_end part at some text ≡ Err what → PartFault part at some text what
refused_within fuel part at some [] what short e = at_end part at some what e
refused_within zero part at some (b ∷ text) what short e = absurd (omega arith)
refused_within (suc fuel) part at some (b ∷ text) what short e =
    refused_marked fuel part at some b text what (λ p a s t. refused_within fuel p a s t what) (mark_of b) (omega arith) e

pub refused_part : (part : Part) (at : ℕ) (some : Bool) (text : List ℕ) (what : IdFault) → part_end part at some text ≡ Err what → PartFault part at some text what
refused_part part at some text what e = refused_within (length text) part at some text what (omega arith) e
