-- Which texts are read as ids (JUnit Platform, Javadoc `UniqueId`), why others are not, and why nothing is opened. The
-- limits and the order of the refusals are not from JUnit.
use Rattle.std.specs.Prelude.{◌≡◌, ◌≢◌, ℕ, ◌<◌, List, [], ◌∷◌, ◌++◌, Ok, All, length, map, take, slice_index_or}
use Rattle.ext_ids.specs.Reading.{read_id, FailsAs}
use Rattle.ext_ids.specs.declared.fault.IdFault.{IdFault}
use Rattle.ext_locks.specs.Opening as locking
use Rattle.ext_store.specs.Stores.{AreStoreLimits, CloserView}
use Rattle.ext_store.specs.declared.limits.Limits.{Limits}
use Rattle.ext_store.specs.declared.limits.StoreFault.{StoreFault}
use Rattle.ext_store.specs.declared.limits.StoreFault.TheVariants as store_faults
use Rattle.ext_model.specs.Sizes.{most_contexts, most_lanes}
use Rattle.ext_model.specs.declared.size.Size.{Size}
use Rattle.ext_tree.specs.Trees.{Id, IsTreeWithin, HasFault}
use Rattle.ext_tree.specs.declared.fault.TreeFault.{TreeFault}
use Rattle.ext_tree.specs.declared.fault.TreeFault.TheVariants as tree_faults
use Rattle.ext_engine.specs.declared.opening.OpenFault.{OpenFault}
use Rattle.ext_engine.specs.declared.opening.OpenFault.TheVariants as faults

-- ---- texts of ids

-- Each text is read as the id with its index.
abbrev pub AreRead : List (List ℕ) → List Id → Type 0
AreRead texts ids = map (λ text. read_id text) texts ≡ map (λ id. Ok id) ids

-- The text with this index is the first that is not read as an id, for this fault; or memory ran out there.
pub record IsFirstUnread (texts : List (List ℕ)) (at : ℕ) (why : IdFault) : Type 0 where
  pub within : at < length texts
  pub before : List Id
  pub read : AreRead (take at texts) before
  pub fault : FailsAs why (read_id (slice_index_or texts at []))

abbrev pub IsNotRead : List (List ℕ) → OpenFault → Type 0
IsNotRead texts (faults.Id at why) = IsFirstUnread texts at why
IsNotRead texts (faults.Tree why) = ⊥
IsNotRead texts (faults.Store why) = ⊥
IsNotRead texts (faults.Locks why) = ⊥

-- ---- the opening

-- The ids are no tree of this size, for this fault; or they are one, and memory ran out.
abbrev pub IsNoTree : Size → List Id → TreeFault → Type 0
IsNoTree size ids tree_faults.Memory = IsTreeWithin (most_contexts size) ids
IsNoTree size ids why = HasFault (most_contexts size) ids why

-- The limits are not those of a store; or they are, and memory ran out.
abbrev pub IsNoStore : Limits → StoreFault → Type 0
IsNoStore limits store_faults.BadLimit =
    ¬ AreStoreLimits limits.size limits.keys limits.lanes limits.tries limits.numbers
IsNoStore limits store_faults.Memory = AreStoreLimits limits.size limits.keys limits.lanes limits.tries limits.numbers

-- Why no store is opened: the first reason that applies.
abbrev pub IsStoreFault : List Id → Limits → OpenFault → Type 0
IsStoreFault ids limits (faults.Id at why) = ⊥
IsStoreFault ids limits (faults.Tree why) = IsNoTree limits.size ids why
IsStoreFault ids limits (faults.Store why) = IsTreeWithin (most_contexts limits.size) ids × IsNoStore limits why
IsStoreFault ids limits (faults.Locks why) = ⊥

-- Why nothing is opened: the first reason that applies.
abbrev pub IsNotOpened : List Id → List (List ℕ) → Limits → OpenFault → Type 0
IsNotOpened ids names limits (faults.Id at why) = ⊥
IsNotOpened ids names limits (faults.Tree why) = IsNoTree limits.size ids why
IsNotOpened ids names limits (faults.Store why) = IsTreeWithin (most_contexts limits.size) ids × IsNoStore limits why
IsNotOpened ids names limits (faults.Locks why) =
    IsTreeWithin (most_contexts limits.size) ids
    × AreStoreLimits limits.size limits.keys limits.lanes limits.tries limits.numbers
    × locking.IsNotOpened (most_lanes limits.size) names limits.lanes limits.tries why

-- ---- what is taken out of what was opened

-- The first closer of this context is taken out, and the others stay in order.
pub record IsTaken (context : ℕ) (before : List CloserView) (closer : CloserView) (after : List CloserView)
    : Type 0 where
  pub context_is : closer.context ≡ context
  pub front : List CloserView
  pub rest : List CloserView
  pub stood : before ≡ front ++ closer ∷ rest
  pub left : after ≡ front ++ rest
  pub first : All (λ other. other.context ≢ context) front

-- There is no closer of this context, and all stay.
pub record HasNone (context : ℕ) (before after : List CloserView) : Type 0 where
  pub left : after ≡ before
  pub none : All (λ other. other.context ≢ context) before
