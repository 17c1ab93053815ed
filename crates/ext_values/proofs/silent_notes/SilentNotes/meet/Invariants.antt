use Rattle.std.proofs.Common.{◌≡◌}
use Rattle.ext_values.proofs.Agreeing.{AgreeBelow}
use Rattle.ext_values.proofs.silent_notes.SilentNotes.meet.Given as goal

abbrev pub invariant-loop-index : goal.invariant-loop-index
invariant-loop-index g l =
    record { notes : l.self-inside.entries.items ≡ l.fn.self; others : l.other-inside.entries.items ≡ l.fn.other; agree : AgreeBelow l.index l.fn.self l.fn.other }
