-- Lanes that were just opened can be used by a run of a tree.
use Rattle.std.proofs.Common.{◌≡◌, ◌+◌, ◌≤◌, ℕ, zero, suc, List, ◌∙◌, length, map, arith, refl, sym, subst, ap, add-one}
use Rattle.std.specs.Prelude.{All}
use Rattle.std.proofs.lemmas.List.{length_push}
use Rattle.std.proofs.lemmas.List.Elements.{All-nil, All-push}
use Rattle.ext_cells.specs.Lanes.{CellsId, fresh_lanes}
use Rattle.ext_store.specs.Stores.{StoreView, StoreLane, IsLaneOf, fresh_store_lane}
use Rattle.ext_locks.specs.Opening as locking
use Rattle.ext_locks.specs.Opening.{LocksView}
use Rattle.ext_locks.specs.Views.{Lane}
use Rattle.ext_engine.specs.TreeRun.{IsIdle, IsUsable}

-- ---- how many there are

pub fresh_count : (V : Type 0) (slots fault_slots keys : List ℕ) (cells : CellsId) (first n : ℕ) → length (map (fresh_store_lane {V = V} slots fault_slots keys) (fresh_lanes cells first n)) ≡ n
fresh_count V slots fault_slots keys cells first zero = refl
fresh_count V slots fault_slots keys cells first (suc n) = ap suc (fresh_count V slots fault_slots keys cells (first + 1) n)

pub lock_count : (table : _) (lanes n : ℕ) → length (locking.fresh_lanes table lanes n) ≡ n
lock_count table lanes zero = refl
lock_count table lanes (suc n) = length_push (locking.fresh_lanes table lanes n) (locking.fresh_lane table lanes n) ∙ (ap (λ k. k + 1) (lock_count table lanes n) ∙ add-one n)

-- ---- that they hold nothing

pub fresh_idle : (locks : LocksView) (lanes n : ℕ) → All (IsIdle locks) (locking.fresh_lanes locks.table lanes n)
fresh_idle locks lanes zero = All-nil (IsIdle locks)
fresh_idle locks lanes (suc n) =
    All-push (IsIdle locks) (locking.fresh_lanes locks.table lanes n) (locking.fresh_lane locks.table lanes n) (fresh_idle locks lanes n)
    (record { of_table = refl; nothing = record { each = λ lock mode. refl } })

-- ---- that they can be used

-- all lanes of a store that was opened for so many, and as many lanes of the locks that hold nothing
pub idle_usable : {V : Type 0} (store : StoreView) (locks : LocksView) (lanes : ℕ) (first : List (StoreLane V)) (second : List Lane) → (1 ≤ lanes) × (lanes ≤ 32)
    → first ≡ map (fresh_store_lane store.id.slots store.id.fault_slots store.id.keys) (fresh_lanes store.id.cells 0 lanes) → All (IsLaneOf store.id) first → length second ≡ lanes → All (IsIdle locks) second
    → IsUsable store locks (record { first = first; second = second })
idle_usable {V} store locks lanes first second few is own others idle =
    let count : length first ≡ lanes = ap length is ∙ fresh_count V store.id.slots store.id.fault_slots store.id.keys store.id.cells 0 lanes in
    let low = few.0 in let high = few.1 in
    record {
      some = omega (arith, count, low);
      same = others ∙ sym count;
      few = omega (arith, count, high);
      lanes = own;
      idle = idle;
    }

-- all lanes of the store and all of the locks, where both were opened for so many
pub fresh_usable : {V : Type 0} (store : StoreView) (locks : LocksView) (lanes : ℕ) (first : List (StoreLane V)) (second : List Lane) → (1 ≤ lanes) × (lanes ≤ 32)
    → first ≡ map (fresh_store_lane store.id.slots store.id.fault_slots store.id.keys) (fresh_lanes store.id.cells 0 lanes) → All (IsLaneOf store.id) first → second ≡ locking.fresh_lanes locks.table lanes lanes
    → IsUsable store locks (record { first = first; second = second })
fresh_usable store locks lanes first second few is own are =
    idle_usable store locks lanes first second few is own (ap length are ∙ lock_count locks.table lanes lanes) (subst (λ l. All (IsIdle locks) l) (sym are) (fresh_idle locks lanes lanes))
