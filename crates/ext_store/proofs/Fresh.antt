-- The lanes and the closers of a store that was opened are its own.
use Rattle.std.proofs.Common.{[], ◌∷◌, ◌++◌, ◌∙◌, ap, add-one, ◌≡◌, ℕ, zero, suc, ◌+◌, ◌≤◌, List, map, length, refl, sym, subst, arith}
use Rattle.std.specs.Prelude.{All}
use Rattle.std.proofs.lemmas.List.Elements.{All-nil, All-cons, All-push}
use Rattle.ext_model.specs.declared.look.Fault.{Fault}
use Rattle.ext_tree.proofs.KeyPlacing.{key_places_of-nothing}
use Rattle.ext_values.proofs.NotesLaws.{nothing_is_known}
use Rattle.ext_cells.specs.Lanes.{CellsId, Lane, fresh_lane, fresh_lanes}
use Rattle.ext_store.specs.Stores.{StoreId, StoreView, StoreLane, CloserView, IsLaneOf, IsCloserOf, fresh_store_lane, closers_below}

fresh_own : {V : Type 0} (id : StoreId) (first n : ℕ) → All (IsLaneOf {V = V} id) (map (fresh_store_lane id.slots id.fault_slots id.keys) (fresh_lanes id.cells first n))
fresh_own {V} id first zero = All-nil (IsLaneOf {V = V} id)
fresh_own {V} id first (suc n) =
    All-cons (IsLaneOf {V = V} id) (fresh_store_lane id.slots id.fault_slots id.keys (fresh_lane id.cells first)) (map (fresh_store_lane id.slots id.fault_slots id.keys) (fresh_lanes id.cells (first + 1) n))
    (record { cells = refl; slots = (nothing_is_known V).slots id.slots; fault_slots = (nothing_is_known Fault).slots id.fault_slots; keys = key_places_of-nothing id.keys }) (fresh_own id (first + 1) n)

pub lanes_own : {V : Type 0} (id : StoreId) (lanes : List (StoreLane V)) (cell_lanes : List Lane) (n : ℕ) → lanes ≡ map (fresh_store_lane id.slots id.fault_slots id.keys) cell_lanes → cell_lanes ≡ fresh_lanes id.cells 0 n → All (IsLaneOf id) lanes
lanes_own {V} id lanes cell_lanes n is fresh = subst (All (IsLaneOf id)) (sym is) (subst (λ ls. All (IsLaneOf {V = V} id) (map (fresh_store_lane id.slots id.fault_slots id.keys) ls)) (sym fresh) (fresh_own id 0 n))

below_own : (store : StoreView) (n : ℕ) → n ≤ length store.tree → All (IsCloserOf store) (closers_below store.id.cells n)
below_own store zero few = All-nil (IsCloserOf store)
below_own store (suc n) few =
    All-push (IsCloserOf store) (closers_below store.id.cells n) (record { cells = store.id.cells; context = n }) (below_own store n (omega (arith, few))) (record { cells = refl; context = omega (arith, few) })

pub closers_own : (store : StoreView) (closers : List CloserView) (n : ℕ) → n ≡ length store.tree → closers ≡ closers_below store.id.cells n → All (IsCloserOf store) closers
closers_own store closers n all is = subst (All (IsCloserOf store)) (sym is) (below_own store n (omega (arith, all)))

-- one more closer
pub closers_push : (cells other : CellsId) (closers more : List CloserView) (n : ℕ) → closers ≡ closers_below cells n → other ≡ cells → more ≡ closers ++ record { cells = other; context = n } ∷ [] → more ≡ closers_below cells (n + 1)
closers_push cells other closers more n are same is = is ∙ ((λ k. are k ++ record { cells = same k; context = n } ∷ []) ∙ ap (closers_below cells) (sym (add-one n)))
