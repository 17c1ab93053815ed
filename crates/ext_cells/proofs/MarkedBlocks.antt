-- The word of a block, as marks lay it out, and one cell of it.
use Rattle.std.proofs.Common.{◌≡◌, ◌≢◌, ℕ, suc, ◌+◌, ◌*◌, ◌/◌, ◌%◌, ◌^◌, ◌<◌, ◌⊎◌, inl, inr, Bool, true, false, List, get_or, refl, ap, sym, subst, ◌∙◌, arith, nat_eq, eq-eqb}
use Rattle.std.proofs.Math.Nat.{mul_assoc, pow-suc}
use Rattle.std.specs.Prelude.{◌↔◌, if◌then◌else◌, nat_lt}
use Rattle.std.specs.Int.{bit_at}
use Rattle.std.specs.Int.Bits.{bit_and, bit_or}
use Rattle.std.proofs.lemmas.Nat.{and_shr, pow_pos}
use Rattle.std.proofs.lemmas.Nat.Bits.{and_pow, bit_at_and, bit_at_lowest, bit_at_or, bit_at-lt, bit_at-pow_same, bit_at-pow_other, bit_at-suc}
use Rattle.std.proofs.lemmas.Bool.{eqb-true, le-ltb, lt-ltb, ne_eqb}
use Rattle.std.proofs.lemmas.Bool.Decides.{eqb_tells}
use Rattle.ext_cells.specs.Standings.{Standing, At, Open, Ended}
use Rattle.ext_cells.specs.InnerMarks.{block_index, is_ended, end_of, mark_of, bits_of, has_mark, with_mark, standing_by, standing_in, stands}
use Rattle.ext_cells.proofs.Passing.{not_both}

-- ---- bits

set_here : (n k : ℕ) → bit_at (bit_or n (2 ^ k)) k ≡ 1
set_here n k =
    let all = bit_at_or n (2 ^ k) k in
    let one = bit_at-pow_same k in
    let few = bit_at-lt n k in omega (arith, all, one, few)

set_elsewhere : (n k i : ℕ) → i ≢ k → bit_at (bit_or n (2 ^ k)) i ≡ bit_at n i
set_elsewhere n k i ne =
    let all = bit_at_or n (2 ^ k) i in
    let none = bit_at-pow_other k i ne in omega (arith, all, none)

-- one bit behind the first, and the first
both_bits : (n k : ℕ) → bit_and n (2 ^ suc k + 1) ≡ bit_at n (suc k) * 2 ^ suc k + bit_at n 0
both_bits n k =
    let mask = 2 ^ suc k + 1 in
    let twice : 2 ^ suc k ≡ 2 ^ k * 2 = pow-suc 2 k in
    let half : mask / 2 ≡ 2 ^ k = omega (arith, twice) in
    let high : bit_and n mask / 2 ≡ bit_at n (suc k) * 2 ^ k =
    and_shr n mask 1 ∙ (ap (bit_and (n / 2)) half ∙ (and_pow (n / 2) k ∙ ap (λ b. b * 2 ^ k) (sym (bit_at-suc n k)))) in
    let odd : bit_at mask 0 ≡ 1 = bit_at_lowest mask ∙ omega (arith, twice) in
    let low : bit_and n mask % 2 ≡ bit_at n 0 =
    sym (bit_at_lowest (bit_and n mask)) ∙ (bit_at_and n mask 0 ∙ (let few = bit_at-lt n 0 in omega (arith, odd, few))) in
    let product : bit_at n (suc k) * 2 ^ suc k ≡ bit_at n (suc k) * 2 ^ k * 2 = ap (λ p. bit_at n (suc k) * p) twice ∙ sym (mul_assoc (bit_at n (suc k)) (2 ^ k) 2) in
    omega (arith, high, low, product)

bits_told : (block cell : ℕ) → bit_and block (bits_of cell) ≡ bit_at block (mark_of cell) * 2 ^ mark_of cell + bit_at block 0
bits_told block cell =
    let one_more : suc (cell % 32) ≡ mark_of cell = omega arith in
    subst (λ k. bit_and block (2 ^ k + 1) ≡ bit_at block k * 2 ^ k + bit_at block 0) one_more (both_bits block (cell % 32))

-- a cell's bits in its block's word: more than the end's if it has a mark, else the end's
bits_cases : (block cell : ℕ) → ((has_mark block cell ≡ true) × (1 < bit_and block (bits_of cell))) ⊎ ((has_mark block cell ≡ false) × (bit_and block (bits_of cell) ≡ bit_at block 0))
bits_cases block cell =
    let told = bits_told block cell in
    let twice : 2 ^ mark_of cell ≡ 2 ^ (cell % 32) * 2 = ap (λ k. 2 ^ k) (omega arith) ∙ pow-suc 2 (cell % 32) in
    let some = pow_pos (cell % 32) in
    elim (eqb_tells (bit_at block (mark_of cell)) 1) [
      | inl t ↦ let product = ap (λ b. b * 2 ^ mark_of cell) t.1 in inl (t.0, omega (arith, told, twice, some, product))
      | inr t ↦
          let few = bit_at-lt block (mark_of cell) in
          let ne = t.1 in
          let none : bit_at block (mark_of cell) ≡ 0 = omega (arith, few, ne) in
          let product = ap (λ b. b * 2 ^ mark_of cell) none in inr (t.0, omega (arith, told, product))
    ]

pub mark_told : (block cell : ℕ) → nat_lt 1 (bit_and block (bits_of cell)) ≡ has_mark block cell
mark_told block cell = elim (bits_cases block cell) [
  | inl t ↦ lt-ltb 1 (bit_and block (bits_of cell)) t.1 ∙ sym t.0
  | inr t ↦ let few = bit_at-lt block 0 in let is = t.1 in le-ltb 1 (bit_and block (bits_of cell)) (omega (arith, is, few)) ∙ sym t.0
]

-- ---- one cell and its block's word

one_index : {a b : ℕ} → At a ≡ At b → a ≡ b
one_index e = cc e

at_own : (marked ended : Bool) (cell at : ℕ) → standing_by marked ended cell ≡ At at → (at ≡ cell) × (marked ≡ true)
at_own true ended cell at is = (sym (one_index is), refl)
at_own false true cell at is = absurd (cc is)
at_own false false cell at is = absurd (cc is)

pub when_open : (marked ended : Bool) (cell : ℕ) → standing_by marked ended cell ≡ Open → (marked ≡ false) × (ended ≡ false)
when_open true ended cell is = absurd (cc is)
when_open false true cell is = absurd (cc is)
when_open false false cell is = (refl, refl)

open_if_clear : (block cell : ℕ) → bit_and block (bits_of cell) ≡ 0 → standing_in block cell ≡ Open
open_if_clear block cell clear = elim (bits_cases block cell) [
  | inl t ↦ let more = t.1 in absurd (omega (arith, more, clear))
  | inr t ↦
      let same = t.1 in
      let going : is_ended block ≡ false = ne_eqb (bit_at block 0) 1 (λ e. absurd (omega (arith, same, clear, e))) in
      (λ i. standing_by (t.0 i) (going i) cell)
]

clear_if_open : (block cell : ℕ) → standing_in block cell ≡ Open → bit_and block (bits_of cell) ≡ 0
clear_if_open block cell open_now =
    let clear = when_open (has_mark block cell) (is_ended block) cell open_now in
    elim (bits_cases block cell) [
      | inl t ↦ absurd (not_both clear.0 t.0)
      | inr t ↦ elim (eqb_tells (bit_at block 0) 1) [
        | inl e ↦ absurd (not_both clear.1 e.0)
        | inr e ↦ let same = t.1 in let ne = e.1 in let few = bit_at-lt block 0 in omega (arith, same, ne, few)
      ]
    ]

pub open_told : (block cell : ℕ) → (nat_eq (bit_and block (bits_of cell)) 0 ≡ true) ↔ (standing_in block cell ≡ Open)
open_told block cell = (
  λ is. open_if_clear block cell (eqb-true (bit_and block (bits_of cell)) 0 is),
  λ is. eq-eqb (bit_and block (bits_of cell)) 0 (clear_if_open block cell is),
)

-- a cell stands where its own number is, alone
pub own_index : (cells : ℕ) (words : List ℕ) (cell at : ℕ) → stands cells words cell ≡ At at → (at ≡ cell) × (has_mark (get_or words (block_index cells cell) 0) cell ≡ true)
own_index cells words cell at is =
    at_own (has_mark (get_or words (block_index cells cell) 0) cell) (is_ended (get_or words (block_index cells cell) 0)) cell at is

pub mark_is_set : (block cell : ℕ) → has_mark (with_mark block cell) cell ≡ true
mark_is_set block cell = ap (λ n. nat_eq n 1) (set_here block (mark_of cell))

pub marked_stands : (block cell : ℕ) → has_mark block cell ≡ true → standing_in block cell ≡ At cell
marked_stands block cell is = ap (λ b. standing_by b (is_ended block) cell) is

pub mark_leaves : (block cell other : ℕ) → mark_of other ≢ mark_of cell → has_mark (with_mark block cell) other ≡ has_mark block other
mark_leaves block cell other ne = ap (λ n. nat_eq n 1) (set_elsewhere block (mark_of cell) (mark_of other) ne)

mark_leaves_end : (block cell : ℕ) → is_ended (with_mark block cell) ≡ is_ended block
mark_leaves_end block cell = ap (λ n. nat_eq n 1) (set_elsewhere block (mark_of cell) 0 (λ e. absurd (omega (arith, e))))

pub mark_leaves_others : (block cell other : ℕ) → mark_of other ≢ mark_of cell → standing_in (with_mark block cell) other ≡ standing_in block other
mark_leaves_others block cell other ne = (λ i. standing_by (mark_leaves block cell other ne i) (mark_leaves_end block cell i) other)

end_is_set : (block : ℕ) → is_ended (end_of block) ≡ true
end_is_set block = ap (λ n. nat_eq n 1) (set_here block 0)

pub end_leaves : (block cell : ℕ) → has_mark (end_of block) cell ≡ has_mark block cell
end_leaves block cell = ap (λ n. nat_eq n 1) (set_elsewhere block 0 (mark_of cell) (λ e. absurd (omega (arith, e))))

abbrev pub is_open : Standing → Bool
is_open (At index) = false
is_open Open = true
is_open Ended = false

pub open_is : (standing : Standing) → is_open standing ≡ true → standing ≡ Open
open_is (At index) is = absurd (cc is)
open_is Open is = refl
open_is Ended is = absurd (cc is)

-- what was open has ended then, and all else stands as it did
pub after_end : (marked ended : Bool) (cell : ℕ)
    → ((is_open (standing_by marked ended cell) ≡ true) × (standing_by marked true cell ≡ Ended)) ⊎ ((is_open (standing_by marked ended cell) ≡ false) × (standing_by marked true cell ≡ standing_by marked ended cell))
after_end true ended cell = inr (refl, refl)
after_end false true cell = inr (refl, refl)
after_end false false cell = inl (refl, refl)

pub ended_in : (block cell : ℕ) → standing_in (end_of block) cell ≡ standing_by (has_mark block cell) true cell
ended_in block cell = (λ i. standing_by (end_leaves block cell i) (end_is_set block i) cell)

-- two cells of one block have different marks
pub marks_differ : (cells cell other : ℕ) → block_index cells other ≡ block_index cells cell → other ≢ cell → mark_of other ≢ mark_of cell
marks_differ cells cell other same ne e = absurd (omega (arith, same, ne, e))

-- ---- what is bare

abbrev pub bare_by : Bool → ℕ → Bool
bare_by marked word = if marked then true else nat_eq word 0

pub bare_if_marked : (marked : Bool) (word : ℕ) → marked ≡ true → bare_by marked word ≡ true
bare_if_marked marked word is = ap (λ b. bare_by b word) is

pub bare_if_zero : (marked : Bool) (word : ℕ) → word ≡ 0 → bare_by marked word ≡ true
bare_if_zero true word is = refl
bare_if_zero false word is = eq-eqb word 0 is

pub bare_word : (marked : Bool) (word : ℕ) → bare_by marked word ≡ true → marked ≡ false → word ≡ 0
bare_word true word is isnt = absurd (cc isnt)
bare_word false word is isnt = elim (eqb_tells word 0) [
  | inl t ↦ t.1
  | inr t ↦ absurd (not_both t.0 is)
]
