-- The lanes that opening gives out.
use Rattle.std.proofs.Common.{◌≡◌, ◌<◌, ℕ, zero, suc, ◌+◌, List, [], ◌∷◌, ◌++◌, arith, refl, sym, ap, subst, ◌∙◌, Some}
use Rattle.atomic_table.specs.Seated.{TableId}
use Rattle.ext_model.specs.History.{IsAllowed}
use Rattle.ext_history.proofs.Legal.{legal_empty}
use Rattle.ext_cells.specs.declared.limits.CellLimits.{CellLimits}
use Rattle.ext_cells.specs.declared.view.View.{View}
use Rattle.ext_cells.specs.Lanes.{CellsId, Lane, fresh_lane, fresh_lanes}
use Rattle.ext_cells.specs.InnerViews.{limits_of, born}
use Rattle.ext_cells.proofs.Lanes.{lane_of, IsLaneView}

-- the first lane, which has given out the numbers below k
abbrev pub giver : CellLimits → ℕ → View
giver limits k = record { limits = limits; lane = Some 0; given = Some k; fronts = []; told = []; indexed = []; block = 0; least = 0 }

lanes_next : (id : CellsId) (k m : ℕ) → fresh_lanes id k (suc m) ≡ fresh_lanes id k m ++ fresh_lane id (k + m) ∷ []
lanes_next id k zero = let e : k ≡ k + 0 = omega arith in ap (λ n. fresh_lane id n ∷ []) e
lanes_next id k (suc m) = let e : (k + 1) + m ≡ k + suc m = omega arith in
    ap (λ (l : List Lane). fresh_lane id k ∷ l) (lanes_next id (k + 1) m ∙ ap (λ n. fresh_lanes id (k + 1) m ++ fresh_lane id n ∷ []) e)

-- one more lane
pub given_one : (table table' : TableId) (limits : CellLimits) (number k : ℕ) (v : View) (old new : List Lane) → table' ≡ table → v ≡ born (giver limits number) → number ≡ k + 1
    → old ≡ fresh_lanes (record { table = table; limits = limits_of limits }) 1 k → new ≡ old ++ lane_of table' v number ∷ []
    → new ≡ fresh_lanes (record { table = table; limits = limits_of limits }) 1 (suc k)
given_one table table' limits number k v old new same is counts olds news =
    let id : CellsId = record { table = table; limits = limits_of limits } in
    let at : number ≡ 1 + k = omega (arith, counts) in
    let lane : lane_of table' v number ≡ fresh_lane id (1 + k) = λ i. lane_of (same i) (is i) (at i) in
    news ∙ (λ i. olds i ++ lane i ∷ []) ∙ sym (lanes_next id 1 k)

pub born_lane : (v w : View) (limits : CellLimits) (k : ℕ) → v ≡ born w → w ≡ giver limits k → k < limits.lanes → IsLaneView v k
born_lane v w limits k is gives below = subst (λ u. IsLaneView u k) (sym (is ∙ ap born gives)) (refl, legal_empty (IsAllowed (limits_of limits)), tt, below)

pub giver_lane : (v : View) (limits : CellLimits) (k : ℕ) → v ≡ giver limits k → 0 < limits.lanes → IsLaneView v 0
giver_lane v limits k is below = subst (λ u. IsLaneView u 0) (sym is) (refl, legal_empty (IsAllowed (limits_of limits)), tt, below)
