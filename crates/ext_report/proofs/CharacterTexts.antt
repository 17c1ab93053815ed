-- A text that is written one character at a time, each by itself.
use Rattle.std.proofs.Common.{◌≡◌, ℕ, List, [], ◌∷◌, ◌++◌, length, encode_utf8, arith, sym, ap, ◌∙◌, append-nil, append_assoc}
use Rattle.std.specs.Str.{IsUtf8, chars}
use Rattle.std.proofs.lemmas.Str.{chars-nil, chars_past_char}
use Rattle.std.specs.List.{flat_map}

-- a text whose characters are each written so
abbrev pub spelled : (ℕ → List ℕ) → List ℕ → List ℕ
spelled character text = flat_map character (chars text)

-- the first character comes first
text-step : (character : ℕ → List ℕ) (rest all : List ℕ) (c : ℕ) → IsUtf8 all → all ≡ encode_utf8 c ++ rest → spelled character all ≡ character c ++ spelled character rest
text-step character rest all c utf8 step = ap (flat_map character) (chars_past_char all rest c utf8 step)

pub character-more : (character : ℕ → List ℕ) (text written rest all whole : List ℕ) (c : ℕ) → IsUtf8 all → all ≡ encode_utf8 c ++ rest → written ≡ text ++ character c → text ++ spelled character all ≡ whole → written ++ spelled character rest ≡ whole
character-more character text written rest all whole c utf8 step grown before =
    ap (λ t. t ++ spelled character rest) grown ∙ append_assoc text (character c) (spelled character rest) ∙ ap (λ t. text ++ t) (sym (text-step character rest all c utf8 step)) ∙ before

pub none-left : (character : ℕ → List ℕ) (text rest whole more : List ℕ) → length rest ≡ 0 → text ++ spelled character rest ≡ whole ++ spelled character more → text ≡ whole ++ spelled character more
none-left character text [] whole more none before = sym (append-nil text) ∙ ap (λ cs. text ++ flat_map character cs) (sym chars-nil) ∙ before
none-left character text (b ∷ rest) whole more none before = absurd (omega (arith, none))
