use Rattle.std.proofs.Common.{◌≡◌, ◌++◌, drop, string_bytes}
use Rattle.std.specs.List.{flat_map}
use Rattle.ext_ids.specs.Grammar.{further_text}
use Rattle.ext_ids.proofs.segment.write_further.Given as goal

abbrev pub invariant-loop-segment : goal.invariant-loop-segment
invariant-loop-segment l =
    string_bytes l.text ++ flat_map further_text (drop l.segment-index l.segments) ≡ string_bytes l.fn.text ++ flat_map further_text l.segments
