-- The laws of specs/SpellingLaws: one reading, one spelling, characters spelled one by one, and each text decided.
use Rattle.std.proofs.Common.{inl, inr, ◌⊎◌, Result, Err, ◌≡◌, ℕ, ◌<◌, List, [], ◌∷◌, ◌++◌, Ok, refl, ap, sym, ◌∙◌, encode_utf8, arith}
use Rattle.std.specs.Prelude.{encode_utf8_all}
use Rattle.std.specs.List.{flat_map, AllByRecursion}
use Rattle.ext_ids.specs.Grammar.{Pair, IsIdText, part_text, spelled}
use Rattle.ext_ids.specs.Reading.{read_id}
use Rattle.ext_ids.specs.SpellingLaws.{TextTellsPairs, PairsTellText, SpellsCharacters, EachTextIsDecided}
use Rattle.ext_ids.specs.declared.fault.IdFault.{IdFault}
use Rattle.ext_ids.specs.Faults.{HasFault}
use Rattle.ext_ids.proofs.IdsFound.{id_found}
use Rattle.ext_ids.proofs.Refusals.{id_refused}
use Rattle.ext_ids.proofs.Firsts.{id_first}
use Rattle.std.proofs.lemmas.Str.{encode_ascii, encodes-append}
use Rattle.std.proofs.lemmas.List.{append-nil}
use Rattle.std.proofs.lemmas.List.Concat.{flat_map-append}
use Rattle.ext_ids.proofs.IdsRead.{id_read}
use Rattle.ext_ids.proofs.Characters.{Mark, plain, percent, plus, opening, closing_mark, colon, slash, mark_of, spelled_plain}
use Rattle.ext_ids.proofs.Encoding.{encoded_plain}

pub text_tells_pairs : TextTellsPairs
text_tells_pairs text ps qs p q =
    let one : read_id text ≡ Ok ps = id_read text ps p in
    let two : read_id text ≡ Ok qs = id_read text qs q in
    cc

pub pairs_tell_text : PairsTellText
pairs_tell_text pairs h = record { spelling = record { id = h; spells = refl }; only = λ text k. k.spells }

-- ASCII stands as it is
ascii : (xs : List ℕ) → AllByRecursion (λ c. c < 128) xs → encode_utf8_all xs ≡ xs
ascii [] h = refl
ascii (x ∷ xs) h = rw (encode_ascii x h.0, ascii xs h.1) refl

mark_spelled : (c high low : ℕ) → c < 128 → high < 128 → low < 128 → spelled c ≡ 37 ∷ high ∷ low ∷ [] → part_text (encode_utf8 c) ≡ encode_utf8_all (spelled c)
mark_spelled c high low small one two e =
    ap part_text (encode_ascii c small)
    ∙ append-nil (spelled c)
    ∙ e
    ∙ sym (ascii (37 ∷ high ∷ low ∷ []) (omega arith, (one, (two, tt))))
    ∙ ap encode_utf8_all (sym e)

-- a character is a mark, and its escape is ASCII, or its bytes stand as they are
one_character : (c : ℕ) → Mark c → part_text (encode_utf8 c) ≡ encode_utf8_all (spelled c)
one_character c (plain _ h) = encoded_plain c h ∙ sym (ap encode_utf8_all (spelled_plain c h) ∙ append-nil (encode_utf8 c))
one_character c percent = mark_spelled 37 50 53 (omega arith) (omega arith) (omega arith) refl
one_character c plus = mark_spelled 43 50 66 (omega arith) (omega arith) (omega arith) refl
one_character c opening = mark_spelled 91 53 66 (omega arith) (omega arith) (omega arith) refl
one_character c closing_mark = mark_spelled 93 53 68 (omega arith) (omega arith) (omega arith) refl
one_character c colon = mark_spelled 58 51 65 (omega arith) (omega arith) (omega arith) refl
one_character c slash = mark_spelled 47 50 70 (omega arith) (omega arith) (omega arith) refl

pub spells_characters : SpellsCharacters
spells_characters [] = refl
spells_characters (c ∷ cs) =
    flat_map-append spelled (encode_utf8 c) (encode_utf8_all cs)
    ∙ ap (λ xs. xs ++ part_text (encode_utf8_all cs)) (one_character c (mark_of c))
    ∙ ap (λ xs. encode_utf8_all (spelled c) ++ xs) (spells_characters cs)
    ∙ sym (encodes-append (spelled c) (flat_map spelled cs))

-- a text reads as pairs, which are its id, or is refused, for its fault
decided : (text : List ℕ) (read : Result (List Pair) IdFault) → read_id text ≡ read → ((pairs : List Pair) × IsIdText text pairs) ⊎ ((fault : IdFault) × HasFault text fault)
decided text (Ok pairs) e = inl (pairs, id_found text pairs e)
decided text (Err fault) e = inr (fault, id_refused text fault e)

pub each_text_is_decided : EachTextIsDecided
each_text_is_decided text = record {
  one_of_both = decided text (read_id text) refl;
  not_both = λ pairs fault h k. let one = id_read text pairs h in let two = id_first text fault k in cc;
  one_fault = λ fault second h k. let one = id_first text fault h in let two = id_first text second k in cc;
}
