-- What the library answers, by number, and which code stands for which refusal of the store.
use Rattle.std.specs.Prelude.{ℕ}
use Rattle.ext_c.specs.declared.code.Code.{Code}
use Rattle.ext_c.specs.declared.code.Code.TheVariants as code
use Rattle.ext_store_core.specs.declared.fault.Refusal.{Refusal}
use Rattle.ext_store_core.specs.declared.fault.Refusal.TheVariants as refusal
use Rattle.ext_store.specs.declared.fault.KeepFault.{KeepFault}
use Rattle.ext_store.specs.declared.fault.KeepFault.TheVariants as keep
use Rattle.ext_closing.specs.declared.fault.CloseFault.{CloseFault}
use Rattle.ext_closing.specs.declared.fault.CloseFault.TheVariants as close
use Rattle.ext_tree.specs.declared.fault.TreeFault.{TreeFault}
use Rattle.ext_tree.specs.declared.fault.TreeFault.TheVariants as tree
use Rattle.ext_ids.specs.declared.fault.IdFault.{IdFault}
use Rattle.ext_ids.specs.declared.fault.IdFault.TheVariants as id

-- The number of each code, as C sees it.
abbrev pub code_number : Code → ℕ
code_number code.Done = 0
code_number code.Absent = 1
code_number code.FaultStands = 2
code_number code.Run = 3
code_number code.GivenUp = 4
code_number code.Busy = 5
code_number code.Closed = 6
code_number code.Contended = 7
code_number code.Exhausted = 8
code_number code.DirectoryFull = 9
code_number code.NumbersFull = 10
code_number code.NoMemory = 11
code_number code.Unplaced = 12
code_number code.Unshown = 13
code_number code.Unjoined = 14
code_number code.Claiming = 15
code_number code.NoClaim = 16
code_number code.NoLane = 17
code_number code.NoCloser = 18
code_number code.NotEmpty = 19
code_number code.BadContext = 20
code_number code.BadKey = 21
code_number code.BadLimit = 22
code_number code.BadLengths = 23
code_number code.BadText = 24
code_number code.BadId = 25
code_number code.BadTree = 26
code_number code.TooMany = 27
code_number code.TooFewPlaces = 28

-- Why a call of the store is refused.
abbrev pub refusal_code : Refusal → Code
refusal_code (refusal.Busy context) = code.Busy
refusal_code (refusal.Closed context) = code.Closed
refusal_code refusal.Contended = code.Contended
refusal_code refusal.Exhausted = code.Exhausted
refusal_code refusal.DirectoryFull = code.DirectoryFull
refusal_code refusal.Unplaced = code.Unplaced
refusal_code refusal.Memory = code.NoMemory

-- Why a value or a fault is not kept.
abbrev pub keep_code : KeepFault → Code
keep_code keep.Memory = code.NoMemory
keep_code keep.NumbersFull = code.NumbersFull
keep_code keep.Contended = code.Contended
keep_code keep.Unplaced = code.Unplaced

-- Why a context is not closed.
abbrev pub close_code : CloseFault → Code
close_code (close.Busy key) = code.Busy
close_code (close.Contended key) = code.Contended
close_code (close.Unjoined number) = code.Unjoined

-- Why ids are no tree.
abbrev pub tree_code : TreeFault → Code
tree_code tree.NoRoot = code.BadTree
tree_code (tree.TwoRoots at) = code.BadTree
tree_code (tree.NoParent at) = code.BadTree
tree_code (tree.Twice at) = code.BadTree
tree_code tree.TooMany = code.TooMany
tree_code tree.Memory = code.NoMemory

-- Why a text is no id.
abbrev pub id_code : IdFault → Code
id_code id.Empty = code.BadId
id_code (id.NoOpen at) = code.BadId
id_code (id.NoSeparator at) = code.BadId
id_code (id.NoClose at) = code.BadId
id_code (id.BadEscape at) = code.BadId
id_code (id.RawCharacter at) = code.BadId
id_code (id.EmptyPart at) = code.BadId
id_code id.TooDeep = code.BadId
id_code id.Memory = code.NoMemory
