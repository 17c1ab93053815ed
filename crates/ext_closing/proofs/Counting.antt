-- How many steps the seals of a close make at most, counted in fronts.
use Rattle.std.proofs.Common.{◌≡◌, ◌≤◌, ℕ, ◌+◌, ◌-◌, ◌*◌, ◌/◌, ◌%◌, ◌∙◌, ap, sym, length, arith, length-drop}
use Rattle.std.proofs.Math.Nat.{add-mul, mul-le-mul_right, mul_assoc}
use Rattle.ext_cells.specs.Lanes.{Lane}
use Rattle.ext_store.specs.LaneCalls.{steps_of}

pub fronts_within : (a c : Lane) (n : ℕ) → steps_of a c ≤ n → length c.view.fronts ≤ length a.view.fronts + n
fronts_within a c n few = let long = length-drop (length a.view.fronts) c.view.fronts in omega (arith, long, few)

pub steps_within : (a c : Lane) (n : ℕ) → length c.view.fronts ≤ length a.view.fronts + n → steps_of a c ≤ n
steps_within a c n few = let long = length-drop (length a.view.fronts) c.view.fronts in omega (arith, long, few)

pub one_more_within : (a b c key tries : ℕ) → b ≤ a + key * tries → c ≤ b + tries → c ≤ a + (key + 1) * tries
one_more_within a b c key tries first second = let e = add-mul key 1 tries in omega (arith, first, second)

-- the blocks of 32 keys from one on, of which the first was ended before
pub blocks_within : (a c keys first block tries : ℕ) → keys % 32 ≡ 0 → block ≤ keys / 32 → c ≤ a + (block * (32 * tries) + (block - (first + 1))) → c ≤ a + (keys * tries + (keys / 32 - (first + 1)))
blocks_within a c keys first block tries whole within few =
    let n = keys / 32 in
    let all : n * 32 ≡ keys = omega (arith, whole) in
    let most = mul-le-mul_right (32 * tries) within in
    let keyed : n * (32 * tries) ≡ keys * tries = sym (mul_assoc n 32 tries) ∙ ap (λ k. k * tries) all in
    omega (arith, most, keyed, few, within)

-- the first of them
pub first_within : (a c first tries : ℕ) → c ≤ a + 32 * tries → c ≤ a + ((first + 1) * (32 * tries) + (first + 1 - (first + 1)))
first_within a c first tries few = let e = add-mul first 1 (32 * tries) in omega (arith, e, few)

-- and one more
pub one_block_within : (a b c first block tries : ℕ) → first + 1 ≤ block → b ≤ a + (block * (32 * tries) + (block - (first + 1))) → c ≤ b + (32 * tries + 1) → c ≤ a + ((block + 1) * (32 * tries) + (block + 1 - (first + 1)))
one_block_within a b c first block tries past so_far more = let e = add-mul block 1 (32 * tries) in omega (arith, e, past, so_far, more)
