-- What a compute says that waited, and its frame.
use Rattle.std.proofs.Common.{◌≡◌, ℕ, zero, suc, List, [], ◌∷◌, ◌++◌, refl, sym, subst}
use Rattle.std.specs.Prelude.{Result, Ok, All}
use Rattle.std.proofs.lemmas.List.Elements.{All-append}
use Rattle.ext_model.specs.declared.event.Act.TheVariants.{Claim, Abandon}
use Rattle.ext_model.specs.CallActs.{LaneView, IsHeld}
use Rattle.ext_model.proofs.Composed.{calls_compose}
use Rattle.ext_tree.specs.Trees.{IsPathOf}
use Rattle.ext_cells.specs.Lanes.{CellsId, Lane}
use Rattle.ext_store_core.specs.declared.claim.Unused.{Unused}
use Rattle.ext_store_core.proofs.Claimed.{StoresNone, none_stored, nor_this, claim_acts}
use Rattle.ext_store_core.proofs.Missing.{missing_along}
use Rattle.ext_store_core.proofs.Waited.{claims_given_up, gave_up, vain_in_words}
use Rattle.ext_store.specs.declared.computed.Compute.{Compute}
use Rattle.ext_store_core.specs.ContextCalls.{ContextCells, cell_in}
use Rattle.ext_store_core.specs.Claiming.{ClaimsFrom, given_up_events}
use Rattle.ext_store_core.specs.Waiting as cells
use Rattle.ext_store.specs.Stores.{StoreId, StoreView, StoreLane, IsLaneOf, IsOnCells, context_cells}
use Rattle.ext_store.specs.LaneCalls.{Frame}
use Rattle.ext_store.specs.Computing.{ClaimsAlong, ClaimsMissing, Computes, ComputesAlong, ComputesFrom}
use Rattle.ext_store.specs.Waiting.{ComputesAfterWaits, ComputesAlongAfterWaits}
use Rattle.ext_store.proofs.Composing.{storing_there}

-- a compute along a path, from where its claim was made
pub computes_later : {V : Type 0} (store : StoreView) (path : List ℕ) (key : ℕ) (a c : Lane) (b : LaneView) (claimed : Result ℕ Unused) (w : cells.ClaimsAlongAfterWaits (context_cells store) path key a.view b claimed) (r : Compute V (Unit {0}))
    → a.cells ≡ store.id.cells
    → ((context : ℕ) (ancestors : List ℕ) → ClaimsFrom (context_cells store) context ancestors key w.between b claimed → ComputesFrom store.id.cells.limits store context ancestors key w.between c.view r)
    → ComputesAlongAfterWaits store path key a c r
unfolding ComputesAlong ComputesAlongAfterWaits
computes_later store [] key a c b claimed w r is from = absurd w.then_is
computes_later store (context ∷ ancestors) key a c b claimed w r is from = record {
  attempts = w.attempts;
  between = w.between;
  in_vain = w.in_vain;
  then_is = subst (λ (z : CellsId). ComputesFrom z.limits store context ancestors key w.between c.view r) (sym is) (from context ancestors w.then_is);
}

-- the same for the path of a context
missing_computes : {V : Type 0} (store : StoreView) (context key : ℕ) (path : List ℕ) (a c : Lane) (r : Compute V (Unit {0})) → IsPathOf store.tree context path → ComputesAlong store path key a c r → Computes store context key a c r
unfolding Computes ComputesAlong
missing_computes store context key [] a c r is along = absurd is
missing_computes store context key (first ∷ rest) a c r is along = (
  rest,
  (refl, is.1),
  subst (λ at. ComputesFrom a.cells.limits store at rest key a.view c.view r) is.0 along,
)

pub missing_computes_later : {V : Type 0} (store : StoreView) (context key : ℕ) (path : List ℕ) (a c : Lane) (r : Compute V (Unit {0})) → IsPathOf store.tree context path → ComputesAlongAfterWaits store path key a c r → ComputesAfterWaits store context key a c r
unfolding ComputesAfterWaits ComputesAlongAfterWaits
missing_computes_later store context key path a c r is w = record {
  attempts = w.attempts;
  between = w.between;
  in_vain = vain_in_words (ClaimsAlong store path key) (ClaimsMissing store context key) (λ x y s. missing_along (context_cells store) context key path x y s is) w.attempts a.view w.between w.in_vain;
  then_is = missing_computes store context key path (record { cells = a.cells; view = w.between }) c r is w.then_is;
}

-- the claim is held
pub waits_held : (store : ContextCells) (path : List ℕ) (key : ℕ) (a b : LaneView) (claim : ℕ) → cells.ClaimsAlongAfterWaits store path key a b (Ok claim) → IsHeld b claim
waits_held store [] key a b claim w = absurd w.then_is
waits_held store (context ∷ ancestors) key a b claim w = w.then_is.1

-- ---- the frame of claims that were given up, and then of the last one

giving_up_stores : (store : ContextCells) (context key rounds : ℕ) → All StoresNone (claims_given_up store context key rounds)
giving_up_stores store context key zero = none_stored
giving_up_stores store context key (suc rounds) =
    All-append StoresNone (claims_given_up store context key rounds) (given_up_events store context key) (giving_up_stores store context key rounds)
    (nor_this (Claim (cell_in store key context)) (Abandon (cell_in store key context) ∷ []) refl (nor_this (Abandon (cell_in store key context)) [] refl none_stored))

pub waits_frame : {V : Type 0} (id : StoreId) (inside a b : StoreLane V) → inside ≡ a → IsLaneOf id a → b.cells.cells ≡ inside.cells.cells → IsOnCells inside b
    → (store : ContextCells) → store.cells ≡ id.cells → (path : List ℕ) (key : ℕ) (r : Result ℕ Unused) → cells.ClaimsAlongAfterWaits store path key inside.cells.view b.cells.view r → Frame id [] a b
waits_frame id inside a b is mine same on_cells store own [] key r w = absurd w.then_is
waits_frame id inside a b is mine same on_cells store own (context ∷ ancestors) key r w =
    let made = claim_acts store context ancestors key w.between b.cells.view r w.then_is in
    let before = gave_up store context ancestors key w.attempts inside.cells.view w.between w.in_vain in
    let given = claims_given_up store context key before.0 in
    let all = calls_compose store.cells.limits inside.cells.view w.between b.cells.view given made.0 before.1 made.2 in
    storing_there id inside a b is mine same on_cells store own (given ++ made.0) (All-append StoresNone given made.0 (giving_up_stores store context key before.0) made.1) all
