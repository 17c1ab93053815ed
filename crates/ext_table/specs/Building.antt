-- What the calls of a table add to it, and what they say of its last node. An own rule.
use Rattle.std.specs.Prelude.{◌≡◌, ◌⊎◌, ℕ, zero, suc, ◌-◌, ◌++◌, ◌∷◌, Bool, Contains, true, false, Option, Some, None, Result, Ok, Err, List, [], codes, length, slice_get, slice_set, take}
use Rattle.std.specs.declared.alloc.AllocError.{AllocError}
use Rattle.ext_ids.specs.Making.{parts_fault}
use Rattle.ext_ids.specs.declared.making.PartFault.{PartFault}
use Rattle.ext_tree.specs.Trees.{Id}
use Rattle.ext_locks.specs.declared.event.LockMode.{LockMode}
use Rattle.ext_lifecycle.specs.declared.mode.Mode.{Mode}
use Rattle.ext_lifecycle.specs.declared.mode.Mode.TheVariants as modes
use Rattle.ext_table.specs.declared.row.NamedLock.{NamedLock}
use Rattle.ext_table.specs.declared.row.Row.{Row}
use Rattle.ext_table.specs.declared.table.TableFault.{TableFault}
use Rattle.ext_table.specs.declared.table.TableFault.TheVariants as table_faults
use Rattle.ext_table.specs.declared.table.TestTable.{TestTable}

-- A row of a node that stands in this one, of which no more is said.
pub record IsNewRow {T : Type 0} (test : Option T) (mode : Mode) (above : ℕ) (row : Row T) : Type 0 where
  pub test_is : row.test ≡ test
  pub no_share : row.share ≡ None
  pub no_before_all : row.before_all.items ≡ []
  pub no_before_each : row.before_each.items ≡ []
  pub no_after_each : row.after_each.items ≡ []
  pub no_after_all : row.after_all.items ≡ []
  pub mode_is : row.mode ≡ mode
  pub mode_below_is : row.mode_below ≡ mode
  pub not_isolated : row.is_isolated ≡ false
  pub no_locks : row.locks.items ≡ []
  pub no_attempts : row.attempts ≡ None
  pub no_slow_after : row.slow_after ≡ None
  pub not_in_reserve : row.is_in_reserve ≡ false
  pub above_is : row.above ≡ above

-- ---- nodes

-- The index of the last node of the level above. There is none above level 0.
abbrev pub above_of : ℕ → List ℕ → Option ℕ
above_of zero last = None
above_of (suc level) last = slice_get last level

-- Why there is no table of this engine.
abbrev pub IsNoTable : List ℕ → TableFault → Type 0
IsNoTable engine (table_faults.Part why) = parts_fault ((codes "engine", engine) ∷ []) ≡ Some why
IsNoTable engine table_faults.NothingAbove = ⊥
IsNoTable engine table_faults.Memory = Unit {0}

module _ {T : Type 0} where
  -- The tables say the same.
  pub record IsSame (before after : TestTable T) : Type 0 where
    pub ids_are : after.ids.items ≡ before.ids.items
    pub rows_are : after.rows.items ≡ before.rows.items
    pub names_are : after.lock_names.items ≡ before.lock_names.items
    pub last_are : after.last.items ≡ before.last.items

  -- A node with this id and this row comes behind the others, and is the last one of its level.
  pub record HasPushed (level : ℕ) (id : Id) (row : Row T) (before after : TestTable T) : Type 0 where
    pub ids_are : after.ids.items ≡ before.ids.items ++ id ∷ []
    pub rows_are : after.rows.items ≡ before.rows.items ++ row ∷ []
    pub names_are : after.lock_names.items ≡ before.lock_names.items
    pub last_are : after.last.items ≡ take level before.last.items ++ length before.rows.items ∷ []

  abbrev pub IsPushed : ℕ → Id → Row T → TestTable T → TestTable T → Result (Unit {0}) AllocError → Type 0
  IsPushed level id row before after (Ok done) = HasPushed level id row before after
  IsPushed level id row before after (Err why) = IsSame before after

  -- A table of the engine alone.
  pub record IsNewTable (engine : List ℕ) (table : TestTable T) : Type 0 where
    pub ids_are : table.ids.items ≡ ((codes "engine", engine) ∷ []) ∷ []
    pub row : Row T
    pub row_is : IsNewRow None modes.Concurrent 0 row
    pub rows_are : table.rows.items ≡ row ∷ []
    pub names_are : table.lock_names.items ≡ []
    pub last_are : table.last.items ≡ 0 ∷ []

  -- A node of this type and name is added to the last node of the level above.
  pub record AddsNode (level : ℕ) (kind name : List ℕ) (test : Option T) (before after : TestTable T) : Type 0 where
    pub above : ℕ
    pub above_is : above_of level before.last.items ≡ Some above
    pub outer_id : Id
    pub outer_id_is : slice_get before.ids.items above ≡ Some outer_id
    pub outer : Row T
    pub outer_is : slice_get before.rows.items above ≡ Some outer
    pub row : Row T
    pub row_is : IsNewRow test outer.mode_below above row
    pub added : HasPushed level (outer_id ++ (kind, name) ∷ []) row before after

  -- The fault of the id that the node would have.
  pub record HasNoId (level : ℕ) (kind name : List ℕ) (before : TestTable T) (why : PartFault) : Type 0 where
    pub above : ℕ
    pub above_is : above_of level before.last.items ≡ Some above
    pub outer_id : Id
    pub outer_id_is : slice_get before.ids.items above ≡ Some outer_id
    pub fault : parts_fault (outer_id ++ (kind, name) ∷ []) ≡ Some why

  -- Why a node is not added.
  abbrev pub IsNotAdded : ℕ → List ℕ → List ℕ → TestTable T → TableFault → Type 0
  IsNotAdded level kind name before table_faults.NothingAbove = above_of level before.last.items ≡ None
  IsNotAdded level kind name before (table_faults.Part why) = HasNoId level kind name before why
  IsNotAdded level kind name before table_faults.Memory = Unit {0}

  -- The node is added; or it is not, and the table is as it was.
  abbrev pub AddsAs : ℕ → List ℕ → List ℕ → Option T → TestTable T → TestTable T → Result (Unit {0}) TableFault
      → Type 0
  AddsAs level kind name test before after (Ok done) = AddsNode level kind name test before after
  AddsAs level kind name test before after (Err why) = IsSame before after × IsNotAdded level kind name before why

-- ---- what is said of the last node

-- The last row changes like this, and no other. Where there is none, nothing changes.
pub record ChangesLast {T : Type 0} (Changes : Row T → Row T → Type 0) (before after : List (Row T)) : Type 0 where
  pub none : before ≡ [] → after ≡ []
  pub last : (row : Row T) → slice_get before (length before - 1) ≡ Some row
      → (changed : Row T) × Changes row changed × (after ≡ slice_set before (length before - 1) changed)

-- A lock of this name is named behind the others, by an index at which its name stands; or the call was refused.
abbrev pub IsNamed : Bool → List (List ℕ) → List ℕ → LockMode → List NamedLock → List NamedLock → Type 0
IsNamed true names name mode before after = (index : ℕ) × (slice_get names index ≡ Some name)
    × (after ≡ before ++ record { name = index; mode = mode } ∷ [])
IsNamed false names name mode before after = after ≡ before

-- The names stay, or this one is new, and comes behind the others. A call that was refused adds none.
abbrev pub IsGrown : Bool → List (List ℕ) → List ℕ → List (List ℕ) → Type 0
IsGrown true before name after = (after ≡ before) ⊎ ((¬ Contains before name) × (after ≡ before ++ name ∷ []))
IsGrown false before name after = after ≡ before
