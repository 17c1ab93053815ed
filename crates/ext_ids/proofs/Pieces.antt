-- Texts in pieces, at places: what stands at a place, what follows a piece, and the piece between two places.
use Rattle.std.proofs.Common.{◌≡◌, ℕ, ◌+◌, ◌-◌, ◌<◌, false, List, [], ◌∷◌, ◌++◌, length, take, drop, slice_range, slice_index, get_or, Ok, refl, ap, sym, ◌∙◌, arith, length-drop}
use Rattle.std.proofs.lemmas.List.{drop-drop, get_or-drop}
use Rattle.std.proofs.Math.Seq.{take-append_seam, drop-append_seam}
use Rattle.ext_ids.specs.Grammar.{part_text, IsPartText}
use Rattle.ext_ids.specs.Reading.{part_end, closing}
use Rattle.ext_ids.specs.declared.scan.Part.{Part}
use Rattle.ext_ids.proofs.Parts.{ReadPart, found_part}

-- a text after a piece of it
pub cut : (text piece more : List ℕ) (at n : ℕ) → drop at text ≡ piece ++ more → n ≡ at + length piece → drop n text ≡ more
cut text piece more at n e same =
    ap (λ k. drop k text) same ∙ sym (drop-drop (length piece) at text) ∙ ap (drop (length piece)) e ∙ drop-append_seam piece more

-- the byte at a place, and how long the text then is
pub first : (text more : List ℕ) (at b : ℕ) → drop at text ≡ b ∷ more → slice_index text at ≡ b
first text more at b e =
    let zero_more : at ≡ at + 0 = omega arith in
    ap (λ n. get_or text n 0) zero_more ∙ sym (get_or-drop at text 0 0) ∙ ap (λ xs. get_or xs 0 0) e

pub counted : (text more : List ℕ) (at b : ℕ) → drop at text ≡ b ∷ more → length text ≡ at + 1 + length more
counted text more at b e =
    let left : length text - at ≡ length more + 1 = sym (length-drop at text) ∙ ap length e ∙ omega arith in omega arith

-- a byte that is no zero, and what follows it
stands_first : (xs : List ℕ) (b : ℕ) → 0 < b → get_or xs 0 0 ≡ b → xs ≡ b ∷ drop 1 xs
stands_first [] b some e = absurd (omega arith)
stands_first (x ∷ xs) b some e = ap (λ y. y ∷ xs) e

pub stands_at : (text : List ℕ) (at b : ℕ) → 0 < b → slice_index text at ≡ b → drop at text ≡ b ∷ drop (at + 1) text
stands_at text at b some e =
    let zero_more : at + 0 ≡ at = omega arith in
    stands_first (drop at text) b some (get_or-drop at text 0 0 ∙ ap (λ n. get_or text n 0) zero_more ∙ e) ∙ ap (λ xs. b ∷ xs) (drop-drop 1 at text)

-- the piece between two places
pub taken : (text piece more : List ℕ) (from end : ℕ) → drop from text ≡ piece ++ more → end ≡ from + length piece → slice_range text from end ≡ piece
taken text piece more from end e same =
    let count : end - from ≡ length piece = omega arith in
    ap (λ n. take n (drop from text)) count ∙ ap (take (length piece)) e ∙ take-append_seam piece more

pub sliced : (text : List ℕ) (from end : ℕ) (part : Part) (r : ReadPart part from false (drop from text) end) → slice_range text from end ≡ part_text r.value
sliced text from end part r = taken text (part_text r.value) (closing part ∷ r.rest) from end r.spells r.ends

-- what was read as a part spells one
pub part_between : (text : List ℕ) (from end : ℕ) (part : Part) → part_end part from false (drop from text) ≡ Ok end → IsPartText (slice_range text from end)
part_between text from end part e =
    let r = found_part part from false (drop from text) end e in
    record { part = r.value; some = r.filled refl; spells = sliced text from end part r }
