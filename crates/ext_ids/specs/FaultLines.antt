-- The line that is printed for each fault: its code, and its offset if it has one. Texts are lists of bytes, numbers are
-- decimal.
use Rattle.std.specs.Prelude.{ℕ, codes, List, ◌++◌}
use Rattle.std.specs.Fmt.{decimal}
use Rattle.ext_ids.specs.declared.fault.IdFault.{IdFault}
use Rattle.ext_ids.specs.declared.fault.IdFault.TheVariants as faults

abbrev pub line_of : IdFault → List ℕ
line_of faults.Empty = codes "id: I1"
line_of (faults.NoOpen at) = codes "id: I2 at " ++ decimal at
line_of (faults.NoSeparator at) = codes "id: I3 at " ++ decimal at
line_of (faults.NoClose at) = codes "id: I4 at " ++ decimal at
line_of (faults.BadEscape at) = codes "id: I5 at " ++ decimal at
line_of (faults.RawCharacter at) = codes "id: I6 at " ++ decimal at
line_of (faults.EmptyPart at) = codes "id: I7 at " ++ decimal at
line_of faults.TooDeep = codes "id: I8"
line_of faults.Memory = codes "id: I9"
