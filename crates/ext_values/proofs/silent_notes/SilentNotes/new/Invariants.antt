use Rattle.std.proofs.Common.{◌≡◌, vec_len, vec_capacity, take}
use Rattle.ext_values.specs.Known.{nothing_known}
use Rattle.ext_values.proofs.silent_notes.SilentNotes.new.Given as goal

abbrev pub invariant-loop-index : goal.invariant-loop-index
invariant-loop-index g l = record { filled : vec_len l.entries ≡ l.index; room : vec_capacity l.entries ≡ l.capacity; entries : l.entries.items ≡ nothing_known (take l.index l.fn.values) }
