-- A text that is written one character at a time, each by itself.
use Rattle.std.proofs.Common.{◌≡◌, ℕ, codes, List, [], ◌∷◌, ◌++◌, length, encode_utf8, arith, sym, ap, ◌∙◌, append-nil, append_assoc}
use Rattle.std.specs.Str.{IsAscii, IsUtf8}
use Rattle.std.proofs.lemmas.Str.{chars-IsAscii, chars-nil, chars_past_char}
use Rattle.std.proofs.lemmas.Str.Ascii.{IsAscii-cons, IsAscii-nil}
use Rattle.std.specs.List.{flat_map}
use Rattle.ext_runner.specs.InnerTelling.{indented, indented_character}

-- the first character comes first
first-comes : (rest all : List ℕ) (c : ℕ) → IsUtf8 all → all ≡ encode_utf8 c ++ rest → indented all ≡ indented_character c ++ indented rest
first-comes rest all c utf8 step = ap (flat_map indented_character) (chars_past_char all rest c utf8 step)

pub indented-more : (text written rest all whole : List ℕ) (c : ℕ) → IsUtf8 all → all ≡ encode_utf8 c ++ rest → written ≡ text ++ indented_character c → text ++ indented all ≡ whole → written ++ indented rest ≡ whole
indented-more text written rest all whole c utf8 step grown before =
    ap (λ t. t ++ indented rest) grown ∙ append_assoc text (indented_character c) (indented rest) ∙ ap (λ t. text ++ t) (sym (first-comes rest all c utf8 step)) ∙ before

pub none-left : (text rest whole : List ℕ) → length rest ≡ 0 → text ++ indented rest ≡ whole → text ≡ whole
none-left text [] whole none before = sym (append-nil text) ∙ ap (λ cs. text ++ flat_map indented_character cs) (sym chars-nil) ∙ before
none-left text (b ∷ rest) whole none before = absurd (omega (arith, none))

no_memory-ascii : IsAscii (codes "no memory")
no_memory-ascii = IsAscii-cons 110 (111 ∷ 32 ∷ 109 ∷ 101 ∷ 109 ∷ 111 ∷ 114 ∷ 121 ∷ []) (omega arith) (IsAscii-cons 111 (32 ∷ 109 ∷ 101 ∷ 109 ∷ 111 ∷ 114 ∷ 121 ∷ []) (omega arith) (IsAscii-cons 32 (109 ∷ 101 ∷ 109 ∷ 111 ∷ 114 ∷ 121 ∷ []) (omega arith) (IsAscii-cons 109 (101 ∷ 109 ∷ 111 ∷ 114 ∷ 121 ∷ []) (omega arith) (IsAscii-cons 101 (109 ∷ 111 ∷ 114 ∷ 121 ∷ []) (omega arith) (IsAscii-cons 109 (111 ∷ 114 ∷ 121 ∷ []) (omega arith) (IsAscii-cons 111 (114 ∷ 121 ∷ []) (omega arith) (IsAscii-cons 114 (121 ∷ []) (omega arith) (IsAscii-cons 121 [] (omega arith) IsAscii-nil))))))))

-- a lack of memory is written on one line
pub no_memory_stays : indented (codes "no memory") ≡ codes "no memory"
unfolding lib.Utf8.encode
no_memory_stays = ap (flat_map indented_character) (chars-IsAscii (codes "no memory") no_memory-ascii)
