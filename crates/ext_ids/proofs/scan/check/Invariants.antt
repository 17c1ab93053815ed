use Rattle.std.proofs.Common.{◌≡◌, ◌≤◌, ◌-◌, length, IsOk, Err}
use Rattle.ext_ids.specs.declared.fault.IdFault.{IdFault}
use Rattle.ext_ids.specs.Reading.{read_id, segments_at}
use Rattle.ext_ids.proofs.scan.check.Given as goal

abbrev pub invariant-loop : goal.invariant-loop
invariant-loop l = record {
  within : l.at ≤ length l.text;
  ok : IsOk (segments_at (16 - l.counter) l.text l.at) → IsOk (read_id l.text);
  fault : (e : IdFault) → segments_at (16 - l.counter) l.text l.at ≡ Err e → read_id l.text ≡ Err e;
}
