-- No test at or below a node has fewer segments in its id than the least number of them.
use Rattle.std.proofs.Common.{◌≡◌, ℕ, zero, suc, ◌<◌, ◌≤◌, Bool, true, false, ◌&&◌, List, [], ◌∷◌, ◌++◌, length, get_or, arith, refl, ap, ◌∙◌}
use Rattle.std.specs.Prelude.{fold, min, if◌then◌else◌}
use Rattle.std.proofs.Math.Nat.{min-le_left, min-le_right}
use Rattle.ext_ids.proofs.Pairs.{pair_eq-Decides}
use Rattle.ext_tree.specs.Trees.{Id}
use Rattle.ext_plan.specs.ReadPlans.{IsAtOrBelow}
use Rattle.ext_plan_reading.specs.Depths.{Outline, is_at_or_below, with_depth, least_test_depth}

begins : (above rest : Id) → is_at_or_below above (above ++ rest) ≡ true
begins [] rest = refl
begins (pair ∷ above) rest = rw ((pair_eq-Decides pair pair).1 refl) (begins above rest)

-- the test tells it
pub below_is_true : (above id : Id) → IsAtOrBelow above id → is_at_or_below above id ≡ true
below_is_true above id below = ap (is_at_or_below above) below.1 ∙ begins above below.0

lower : (b : Bool) (least depth : ℕ) → (if b then min least depth else least) ≤ least
lower true least depth = min-le_left least depth
lower false least depth = omega arith

pub at_most : (above : Id) (least : ℕ) (nodes : List Outline) → fold (with_depth above) least nodes ≤ least
at_most above least [] = omega arith
at_most above least (node ∷ nodes) =
    let one = lower (node.1 && is_at_or_below above node.0) least (length node.0) in
    let rest = at_most above (with_depth above least node) nodes in
    omega (arith, one, rest)

counted : (b : Bool) (least depth : ℕ) → b ≡ true → (if b then min least depth else least) ≤ depth
counted true least depth h = min-le_right least depth
counted false least depth h = absurd cc

-- from a least so far
pub least_from : (above : Id) (least : ℕ) (nodes : List Outline) (k : ℕ) (d : Outline) → k < length nodes
    → ((get_or nodes k d).1 && is_at_or_below above (get_or nodes k d).0) ≡ true → fold (with_depth above) least nodes ≤ length (get_or nodes k d).0
least_from above least [] k d less is = absurd (omega (arith, less))
least_from above least (node ∷ nodes) zero d less is =
    let one = counted (node.1 && is_at_or_below above node.0) least (length node.0) is in
    let rest = at_most above (with_depth above least node) nodes in
    omega (arith, one, rest)
least_from above least (node ∷ nodes) (suc k) d less is = least_from above (with_depth above least node) nodes k d (omega (arith, less)) is

pub least_is_below : (nodes : List Outline) (above : Id) (k : ℕ) (d : Outline) → k < length nodes → (get_or nodes k d).1 ≡ true → IsAtOrBelow above (get_or nodes k d).0
    → least_test_depth nodes above ≤ length (get_or nodes k d).0
least_is_below nodes above k d less test below = least_from above 16 nodes k d less (rw (test, below_is_true above (get_or nodes k d).0 below) refl)
