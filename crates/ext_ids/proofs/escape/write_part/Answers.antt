use Rattle.std.proofs.Common.{rules, ◌≡◌, ◌++◌, ◌∙◌, ℕ, List, ap, sym, append_assoc, encode_utf8}
use Rattle.std.specs.Str.Iter.{chars_rest}
use Rattle.std.proofs.lemmas.List.Concat.{flat_map-append}
use Rattle.ext_ids.specs.Grammar.{spelled, part_text}
use Rattle.ext_ids.proofs.escape.write_part.Goals as goal

-- one more character is written
one_more : (text written character rest all : List ℕ) → written ≡ text ++ part_text character → all ≡ character ++ rest → written ++ part_text rest ≡ text ++ part_text all
one_more text written character rest all grown step =
    ap (λ t. t ++ part_text rest) grown ∙ append_assoc text (part_text character) (part_text rest)
    ∙ ap (λ p. text ++ p) (sym (flat_map-append spelled character rest) ∙ ap part_text (sym step))

pub loop-c-preserved : goal.loop-c-preserved
loop-c-preserved c =
    let step : chars_rest c.loop-c.c-iterator ≡ encode_utf8 c.in-Some.c ++ chars_rest c.next.new.self = search rules in
    one_more _ _ (encode_utf8 c.in-Some.c) (chars_rest c.next.new.self) (chars_rest c.loop-c.c-iterator) c.in_ok-write_character.ensures step ∙ c.loop-c.invariant
