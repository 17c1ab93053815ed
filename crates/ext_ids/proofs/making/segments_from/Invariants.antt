use Rattle.std.proofs.Common.{◌≡◌, take}
use Rattle.ext_ids.specs.Making.{pairs_of}
use Rattle.ext_ids.proofs.making.segments_from.Given as goal

abbrev pub invariant-loop-part : goal.invariant-loop-part
invariant-loop-part l = l.segments.items ≡ pairs_of (take l.part-index l.parts)
