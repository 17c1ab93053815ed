use Rattle.std.proofs.Common.{◌≡◌, ◌≤◌, ◌-◌, length}
use Rattle.ext_ids.specs.Reading.{read_id, segments_at}
use Rattle.ext_ids.proofs.Steps.{with_front}
use Rattle.ext_ids.proofs.id.segments_of.Given as goal

abbrev pub invariant-loop : goal.invariant-loop
invariant-loop l = record {
  within : l.at ≤ length l.text;
  rest : read_id l.text ≡ with_front l.segments.items (segments_at (16 - l.counter) l.text l.at);
}
