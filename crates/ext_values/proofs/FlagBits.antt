-- Flags in the bits of words: none set, read, and one set.
use Rattle.std.proofs.Common.{ℕ, ◌≡◌, ◌≢◌, ◌*◌, ◌/◌, ◌%◌, ◌^◌, ◌<◌, ◌∙◌, ◌==◌, Bool, true, false, List, length, get_or, set, replicate, bit_and, bit_or, inl, inr, sym, ap, arith, w64}
use Rattle.std.specs.Int.{bit_at, div_ceil}
use Rattle.std.proofs.lemmas.Bool.{cases_eq}
use Rattle.std.proofs.lemmas.List.{get_or-set_same, get_or-set_other, get_or-replicate, get_or_default, length-replicate, length-set}
use Rattle.std.proofs.lemmas.List.FromFn.{length-map-range_with_len, get_or-map-range_with_len, fill_by_all}
use Rattle.std.proofs.lemmas.Nat.Bits.{bit_at-zero, bit_at_set_same, bit_at_set_other, shr_and_one}
use Rattle.ext_values.specs.InnerFlags.{flag_at, flags_of}

pub length-flags : (count : ℕ) (words : List ℕ) → length (flags_of count words) ≡ count
length-flags count words = length-map-range_with_len (λ k. flag_at words k) 0 count

get_or-flags : (count : ℕ) (words : List ℕ) (index : ℕ) → index < count → get_or (flags_of count words) index false ≡ flag_at words index
get_or-flags count words index below = get_or-map-range_with_len (λ k. flag_at words k) 0 count index index false below (omega arith)

-- in words of zeros no flag is set
pub none_set : (count n : ℕ) → n ≡ div_ceil count 64 → flags_of count (replicate n 0) ≡ replicate count false
none_set count n enough = sym (fill_by_all (λ k. flag_at (replicate n 0) k) (replicate count false) count false (length-replicate count false) each)
  where
    each : (k : ℕ) → k < count → get_or (replicate count false) k false ≡ flag_at (replicate n 0) k
    each k within =
        let word : get_or (replicate n 0) (k / 64) 0 ≡ 0 = get_or-replicate n (k / 64) 0 0 (omega arith) in
        get_or-replicate count k false false within ∙ sym (ap (λ w. bit_at w (k % 64) == 1) word ∙ ap (λ b. b == 1) (bit_at-zero (k % 64)))

-- the word, once the bit of the flag with this index was set
abbrev with_flag : ℕ → ℕ → ℕ
with_flag word index = bit_or word (1 * 2 ^ (index % 64) % 2 ^ 64)

-- the flags are those of the words, and one of them has this index
module _ (count : ℕ) (words : List ℕ) (flags : List Bool) (view : flags_of count words ≡ flags) (enough : length words ≡ div_ceil count 64) (index : ℕ) (within : index < length flags) where
  index_below : index < count
  index_below = let same = ap length view in let long = length-flags count words in omega arith

  -- there is a word for the flag
  pub word_within : index / 64 < length words
  word_within = let below = index_below in omega arith

  -- the flag's word
  module _ (word : ℕ) (is : word ≡ get_or words (index / 64) word) where
    word_is : get_or words (index / 64) 0 ≡ word
    word_is = get_or_default words (index / 64) 0 word word_within ∙ sym is

    pub flag_read : (bit_and (word / 2 ^ (index % 64)) 1 == 1) ≡ get_or flags index false
    flag_read =
        ap (λ bit. bit == 1) (shr_and_one word (index % 64))
        ∙ (sym (get_or-flags count words index index_below ∙ ap (λ w. bit_at w (index % 64) == 1) word_is) ∙ ap (λ l. get_or l index false) view)

    -- the words, once the flag's bit was set
    abbrev written : List ℕ
    written = set words (index / 64) (with_flag word index)

    flag_at-set : flag_at written index ≡ true
    flag_at-set =
        ap (λ w. bit_at w (index % 64) == 1) (get_or-set_same words (index / 64) (with_flag word index) 0 word_within)
        ∙ ap (λ b. b == 1) (bit_at_set_same w64 word (index % 64) (omega arith))

    -- another flag of the same word
    flag_beside : (k : ℕ) → k ≢ index → k / 64 ≡ index / 64 → flag_at written k ≡ flag_at words k
    flag_beside k other same =
        let now : get_or written (k / 64) 0 ≡ with_flag word index = ap (λ i. get_or written i 0) same ∙ get_or-set_same words (index / 64) (with_flag word index) 0 word_within in
        let before : get_or words (k / 64) 0 ≡ word = ap (λ i. get_or words i 0) same ∙ word_is in
        let elsewhere : k % 64 ≢ index % 64 = λ e. other (omega arith) in
        ap (λ w. bit_at w (k % 64) == 1) now
        ∙ (ap (λ b. b == 1) (bit_at_set_other w64 word (index % 64) (omega arith) (k % 64) elsewhere) ∙ sym (ap (λ w. bit_at w (k % 64) == 1) before))

    other_flag : (k : ℕ) → k ≢ index → flag_at written k ≡ flag_at words k
    other_flag k other = elim (cases_eq (k / 64) (index / 64)) [
      | inl same ↦ flag_beside k other same
      | inr apart ↦ ap (λ w. bit_at w (k % 64) == 1) (get_or-set_other words (index / 64) (k / 64) (with_flag word index) 0 apart)
    ]

    -- the flag is set, and every other flag stays
    pub flag_set : flags_of count written ≡ set flags index true
    flag_set = sym (fill_by_all (λ k. flag_at written k) (set (flags_of count words) index true) count false (length-set (flags_of count words) index true ∙ length-flags count words) each) ∙ ap (λ l. set l index true) view
      where
        each : (k : ℕ) → k < count → get_or (set (flags_of count words) index true) k false ≡ flag_at written k
        each k below = elim (cases_eq k index) [
          | inl same ↦
              let long = length-flags count words in
              ap (λ i. get_or (set (flags_of count words) index true) i false) same
              ∙ (get_or-set_same (flags_of count words) index true false (omega arith) ∙ (sym flag_at-set ∙ sym (ap (λ i. flag_at written i) same)))
          | inr other ↦ get_or-set_other (flags_of count words) index k true false other ∙ (get_or-flags count words k below ∙ sym (other_flag k other))
        ]
