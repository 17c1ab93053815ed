use Rattle.std.proofs.Common.{◌≡◌, ℕ, length, vec_len}
use Rattle.std.specs.Prelude.{Some, slice_get}
use Rattle.ext_selection.specs.Nodes.{AreIndices}
use Rattle.ext_table.specs.Arranging.{IsRenumbered}
use Rattle.ext_table.specs.declared.row.Row.{Row}
use Rattle.ext_table.proofs.Arranging.{AreMoved}
use Rattle.ext_table.proofs.arranged.renumbered.Given as goal

abbrev pub invariant-loop-row : goal.invariant-loop-row
invariant-loop-row g l = record {
  done_long : length l.done.items ≡ length l.yielded;
  done_len : vec_len l.done ≡ length l.yielded;
  moved_long : length l.moved ≡ l.count;
  moved : AreIndices l.count l.indices → AreMoved l.indices (length l.yielded) l.moved;
  each : AreIndices l.count l.indices → (at : ℕ) (a b : Row g.row.T.Denot) → slice_get l.fn.rows.items at ≡ Some a → slice_get l.done.items at ≡ Some b → IsRenumbered l.indices at a b;
}
