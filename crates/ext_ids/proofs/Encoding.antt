-- `part_text` of a character in UTF-8: what is no mark stands as its bytes are.
use Rattle.std.proofs.Common.{◌≡◌, ℕ, suc, ◌<◌, ◌≤◌, List, [], ◌∷◌, length, get_or, refl, sym, subst, arith, encode_utf8, ⊎_elim}
use Rattle.std.proofs.lemmas.Bool.{ne_eqb, cases_lt}
use Rattle.std.proofs.lemmas.Str.{inside_one}
use Rattle.std.proofs.lemmas.List.{append-nil}
use Rattle.ext_ids.specs.Grammar.{part_text}
use Rattle.ext_ids.proofs.Characters.{IsPlain, spelled_plain}

high_plain : (b : ℕ) → 128 ≤ b → IsPlain b
high_plain b h = record {
  percent = ne_eqb b 37 (λ e. omega arith);
  plus = ne_eqb b 43 (λ e. omega arith);
  opening = ne_eqb b 91 (λ e. omega arith);
  closing_mark = ne_eqb b 93 (λ e. omega arith);
  colon = ne_eqb b 58 (λ e. omega arith);
  slash = ne_eqb b 47 (λ e. omega arith);
}

all_plain : (xs : List ℕ) → ((k : ℕ) → k < length xs → IsPlain (get_or xs k 0)) → part_text xs ≡ xs
all_plain [] h = refl
all_plain (x ∷ xs) h = rw (spelled_plain x (h 0 (omega arith)), all_plain xs (λ k l. h (suc k) (omega arith))) refl

-- a character that is no mark is written as itself
pub encoded_plain : (c : ℕ) → IsPlain c → part_text (encode_utf8 c) ≡ encode_utf8 c
encoded_plain c h = all_plain (encode_utf8 c) (λ k l. ⊎_elim
    (λ low. subst IsPlain (inside_one c [] (encode_utf8 c) k (sym (append-nil (encode_utf8 c))) l low) h)
    (λ high. high_plain _ high)
    (cases_lt (get_or (encode_utf8 c) k 0) 128))
