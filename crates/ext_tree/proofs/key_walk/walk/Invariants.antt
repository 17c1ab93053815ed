use Rattle.std.proofs.Common.{map}
use Rattle.once_cell.specs.Once.{cell_name}
use Rattle.ext_tree.specs.Keys.{AreKeyNotesOf, KeepsKeys, PassedBefore, PlacesOnly}
use Rattle.ext_tree.specs.InnerIndexing.{AreNotes}
use Rattle.ext_tree.proofs.key_walk.walk.Given as goal

abbrev pub invariant-loop-number : goal.invariant-loop-number
invariant-loop-number l = record {
  of : AreKeyNotesOf (map cell_name l.places) l.entries;
  notes : AreNotes l.entries l.index.hints.items l.index.next;
  kept : KeepsKeys l.fn.entries l.entries;
  passed : PassedBefore l.entries l.key l.number;
  placed : PlacesOnly l.key l.fn.entries l.entries;
}
