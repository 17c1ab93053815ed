-- A look-up in a store that keeps no faults meets none.
use Rattle.std.proofs.Common.{◌≡◌, ℕ, List, sym, subst, ap, ◌∙◌, Contains}
use Rattle.std.specs.Prelude.{Result, Ok, Err, IfOk, IsFalse}
use Rattle.ext_model.specs.declared.look.Look.{Look}
use Rattle.ext_model.specs.declared.look.Look.TheVariants as look
use Rattle.ext_model.specs.History.{History, Limits, slots_in, IsLegal}
use Rattle.ext_model.specs.CallActs.{look_after}
use Rattle.ext_history.specs.Histories.{seen_by}
use Rattle.ext_history.proofs.Lists.{contains_none}
use Rattle.ext_history.proofs.Composed.{answer_point, point_legal}
use Rattle.ext_model.proofs.Lookups.{met_fault_stands}
use Rattle.ext_model.proofs.Faults.{fault_was_kept, no_faults}
use Rattle.ext_cells.specs.Lanes.{Lane, CellsId}
use Rattle.ext_store_core.specs.declared.fault.Refusal.{Refusal}
use Rattle.ext_store_core.specs.ContextCalls.{ContextCells, cell_in, IsFaultlessLook}
use Rattle.ext_store_core.specs.InnerLooking.{Looks, LooksAt}

-- no look-up meets one after a legal history
pub none_met : (limits : Limits) (p : History) (cell_of : ℕ → ℕ) (path : List ℕ) (at number : ℕ) → IsFalse limits.keep_faults → IsLegal limits p → look_after cell_of path p ≡ look.Fault at number → ⊥
none_met limits p cell_of path at number off legal met =
    let stands = met_fault_stands (slots_in cell_of p) path at number met in
    let kept = fault_was_kept p (cell_of at) number legal stands in
    contains_none number (subst (λ xs. Contains xs number) (no_faults limits p off legal) kept)

module _ (store : ContextCells) (path : List ℕ) (key : ℕ) (a b : Lane) (same : a.cells ≡ store.cells) (off : IsFalse store.cells.limits.keep_faults) (legal : IsLegal a.cells.limits (seen_by b.view)) where
  lane_off : IsFalse a.cells.limits.keep_faults
  lane_off = ap (λ (i : CellsId). i.limits.keep_faults) same ∙ off

  pub look_faultless : (met : Look) → LooksAt store path key a b met → IsFaultlessLook met
  look_faultless (look.Found at number) x = tt
  look_faultless (look.Fault at number) x = none_met a.cells.limits x.point.0 (cell_in store key) path at number lane_off (point_legal legal x.point.0 (answer_point x.calls x.point.0 x.point.1)) (sym x.point.2)
  look_faultless look.Absent x = tt
  look_faultless (look.Busy at) x = tt
  look_faultless (look.Closed at) x = tt

  pub looks_faultless : (r : Result Look Refusal) → Looks store path key a b r → IfOk r IsFaultlessLook
  looks_faultless (Ok met) x = look_faultless met x
  looks_faultless (Err why) x = tt
