-- `part_text`, a part as it is written: it is read to its closing mark and decoded to what was spelled, and what is read as a part was spelled so.
use Rattle.std.proofs.Common.{◌≡◌, ◌≢◌, ℕ, zero, suc, ◌+◌, ◌≤◌, Bool, true, false, List, [], ◌∷◌, ◌++◌, length, Result, Ok, Err, is_ok, refl, ap, sym, ◌∙◌, arith, append_assoc, ⊎_elim, length-append}
use Rattle.std.proofs.lemmas.Bool.{false≢true, true≢false}
use Rattle.ext_ids.specs.declared.fault.IdFault.{IdFault}
use Rattle.ext_ids.specs.declared.scan.Part.{Part}
use Rattle.ext_ids.specs.declared.scan.Part.TheVariants as parts
use Rattle.ext_ids.specs.Grammar.{spelled, part_text}
use Rattle.ext_ids.specs.Reading.{part_end, closing, unescaped}
use Rattle.ext_ids.proofs.Characters.{Mark, plain, percent, plus, opening, closing_mark, colon, slash, mark_of, spelled_plain, plain_step, item_read, escape_cases}

unescaped_marked : (b : ℕ) (rest : List ℕ) → Mark b → unescaped 0 (spelled b ++ rest) ≡ b ∷ unescaped 0 rest
unescaped_marked b rest (plain _ h) = rw (spelled_plain b h) (rw h.percent refl)
unescaped_marked b rest percent = refl
unescaped_marked b rest plus = refl
unescaped_marked b rest opening = refl
unescaped_marked b rest closing_mark = refl
unescaped_marked b rest colon = refl
unescaped_marked b rest slash = refl

-- a part is decoded to what was spelled
pub unescaped_part : (part : List ℕ) → unescaped 0 (part_text part) ≡ part
unescaped_part [] = refl
unescaped_part (b ∷ part) = unescaped_marked b (part_text part) (mark_of b) ∙ ap (λ bs. b ∷ bs) (unescaped_part part)

closes : (part : Part) (at : ℕ) (rest : List ℕ) → part_end part at true (closing part ∷ rest) ≡ Ok at
closes parts.Type at rest = refl
closes parts.Value at rest = refl

reads_on : (part : Part) (at : ℕ) (value rest : List ℕ) → part_end part at true (part_text value ++ closing part ∷ rest) ≡ Ok (at + length (part_text value))
reads_on part at [] rest = closes part at rest ∙ ap Ok (omega arith)
reads_on part at (b ∷ value) rest =
    ap (part_end part at true) (append_assoc (spelled b) (part_text value) (closing part ∷ rest))
    ∙ item_read part at true b (part_text value ++ closing part ∷ rest)
    ∙ reads_on part (at + length (spelled b)) value rest
    ∙ ap Ok (omega (arith, length-append (spelled b) (part_text value)))

-- a part with a character is read to its closing mark
pub reads_part : (part : Part) (at : ℕ) (value rest : List ℕ) → value ≢ [] → part_end part at false (part_text value ++ closing part ∷ rest) ≡ Ok (at + length (part_text value))
reads_part part at [] rest some = absurd (some refl)
reads_part part at (b ∷ value) rest some =
    ap (part_end part at false) (append_assoc (spelled b) (part_text value) (closing part ∷ rest))
    ∙ item_read part at false b (part_text value ++ closing part ∷ rest)
    ∙ reads_on part (at + length (spelled b)) value rest
    ∙ ap Ok (omega (arith, length-append (spelled b) (part_text value)))

-- a part that was read is the spelling of one
pub record ReadPart (part : Part) (at : ℕ) (some : Bool) (text : List ℕ) (end : ℕ) : Type 0 where
  pub value : List ℕ
  pub rest : List ℕ
  pub spells : text ≡ part_text value ++ closing part ∷ rest
  pub ends : end ≡ at + length (part_text value)
  pub filled : some ≡ false → value ≢ []

-- one character before
one_before : (part : Part) (at : ℕ) (some : Bool) (text more : List ℕ) (c end : ℕ) → text ≡ spelled c ++ more → ReadPart part (at + length (spelled c)) true more end → ReadPart part at some text end
one_before part at some text more c end front r = record {
  value = c ∷ r.value;
  rest = r.rest;
  spells = front ∙ ap (λ xs. spelled c ++ xs) r.spells ∙ sym (append_assoc (spelled c) (part_text r.value) (closing part ∷ r.rest));
  ends = r.ends ∙ omega (arith, length-append (spelled c) (part_text r.value));
  filled = λ _ none. cc;
}

no_place : (what : IdFault) (end : ℕ) → Err what ≡ Ok end → ⊥
no_place what end e = false≢true (ap is_ok e)

same_place : (at end : ℕ) (r : Result ℕ IdFault) → r ≡ Ok at → r ≡ Ok end → end ≡ at
same_place at end r is e = ap place (sym e ∙ is)
  where
    place : Result ℕ IdFault → ℕ
    place (Ok n) = n
    place (Err what) = 0

found_marked : (fuel : ℕ) (part : Part) (at : ℕ) (some : Bool) (b : ℕ) (text : List ℕ) (end : ℕ) → ((p : Part) (a : ℕ) (s : Bool) (t : List ℕ) → length t ≤ fuel → part_end p a s t ≡ Ok end → ReadPart p a s t end)
    → Mark b → length text ≤ fuel → part_end part at some (b ∷ text) ≡ Ok end → ReadPart part at some (b ∷ text) end
found_marked fuel part at some b text end before (plain _ h) short e =
    one_before part at some (b ∷ text) text b end (rw (spelled_plain b h) refl)
    (before part (at + length (spelled b)) true text short (rw (spelled_plain b h) (sym (plain_step part at some b text h) ∙ e)))
found_marked fuel part at some b text end before percent short e = ⊎_elim
    (λ none. absurd (let bad = rw none at e in no_place _ end bad))
    (λ x. one_before part at some (37 ∷ text) x.more x.character end x.spells
    (before part _ true x.more (omega (arith, x.shorter)) (sym (item_read part at some x.character x.more) ∙ ap (part_end part at some) (sym x.spells) ∙ e)))
    (escape_cases text)
found_marked fuel part at some b text end before plus short e = absurd (no_place _ end e)
found_marked fuel part at some b text end before opening short e = absurd (no_place _ end e)
found_marked fuel part at some b text end before slash short e = absurd (no_place _ end e)
found_marked fuel parts.Type at true b text end before closing_mark short e = absurd (no_place _ end e)
found_marked fuel parts.Type at false b text end before closing_mark short e = absurd (no_place _ end e)
found_marked fuel parts.Value at true b text end before closing_mark short e = record { value = []; rest = text; spells = refl; ends = same_place at end (Ok at) refl e ∙ omega arith; filled = λ t. absurd (true≢false t) }
found_marked fuel parts.Value at false b text end before closing_mark short e = absurd (no_place _ end e)
found_marked fuel parts.Type at true b text end before colon short e = record { value = []; rest = text; spells = refl; ends = same_place at end (Ok at) refl e ∙ omega arith; filled = λ t. absurd (true≢false t) }
found_marked fuel parts.Type at false b text end before colon short e = absurd (no_place _ end e)
found_marked fuel parts.Value at true b text end before colon short e = absurd (no_place _ end e)
found_marked fuel parts.Value at false b text end before colon short e = absurd (no_place _ end e)

found_within : (fuel : ℕ) (part : Part) (at : ℕ) (some : Bool) (text : List ℕ) (end : ℕ) → length text ≤ fuel → part_end part at some text ≡ Ok end → ReadPart part at some text end
found_within fuel part at some [] end short e = absurd (no_place _ end e)
found_within zero part at some (b ∷ text) end short e = absurd (omega arith)
found_within (suc fuel) part at some (b ∷ text) end short e =
    found_marked fuel part at some b text end (λ p a s t. found_within fuel p a s t end) (mark_of b) (omega arith) e

pub found_part : (part : Part) (at : ℕ) (some : Bool) (text : List ℕ) (end : ℕ) → part_end part at some text ≡ Ok end → ReadPart part at some text end
found_part part at some text end e = found_within (length text) part at some text end (omega arith) e
