-- Tables that have some nodes of another, in another order. An own rule.
use Rattle.std.specs.Prelude.{◌≡◌, ◌≢◌, ℕ, ◌<◌, Option, Some, None, List, length, map, slice_get, slice_index_or}
use Rattle.ext_table.specs.declared.row.Row.{Row}

-- What is in the slot at this index.
abbrev pub taken_from : {X : Type 0} → List (Option X) → ℕ → Option X
taken_from slots index = slice_index_or slots index None

module _ {T : Type 0} (indices : List ℕ) where
  -- What is said of a node stays, but for the index of the node that it stands in: that is now where its own stands
  -- among those before it, or else 0.
  pub record IsRenumbered (at : ℕ) (before after : Row T) : Type 0 where
    pub same : after ≡ record before { above = after.above }
    pub stands : (new : ℕ) → new < at → slice_get indices new ≡ Some before.above → after.above ≡ new
    pub stands_not : ((new : ℕ) → new < at → slice_get indices new ≢ Some before.above) → after.above ≡ 0

  pub record AreRenumbered (before after : List (Row T)) : Type 0 where
    pub count : length after ≡ length before
    pub each : (at : ℕ) (old new : Row T) → slice_get before at ≡ Some old → slice_get after at ≡ Some new
        → IsRenumbered at old new

-- The table has the ids at these indices, in this order, and the rows, renumbered.
pub record IsArranged {Id T : Type 0} (ids : List Id) (rows : List (Row T)) (indices : List ℕ) (new_ids : List Id)
    (new_rows : List (Row T)) : Type 0 where
  pub ids_are : map (λ id. Some id) new_ids ≡ map (slice_get ids) indices
  pub moved : List (Row T)
  pub rows_are : map (λ row. Some row) moved ≡ map (slice_get rows) indices
  pub renumbered : AreRenumbered indices moved new_rows
