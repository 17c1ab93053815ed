use Rattle.std.proofs.Common.{◌≡◌, map, take, string_bytes}
use Rattle.ext_ids.specs.Making.{pairs_of}
use Rattle.ext_run.specs.IdText.{parts_of}
use Rattle.ext_run.proofs.id_lines.parts_of.Given as goal

abbrev pub invariant-loop-word : goal.invariant-loop-word
invariant-loop-word l = pairs_of l.parts.items ≡ parts_of (map string_bytes (take l.word-index l.words))
