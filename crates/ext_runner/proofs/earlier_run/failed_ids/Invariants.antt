use Rattle.std.proofs.Common.{◌≡◌, is_some, map, string_bytes, true}
use Rattle.std.specs.Prelude.{All}
use Rattle.serde_json.specs.Read.{read}
use Rattle.ext_runner.specs.InnerEarlierRuns.{failed_ids}
use Rattle.ext_runner.proofs.earlier_run.failed_ids.Given as goal

abbrev pub invariant-loop-line : goal.invariant-loop-line
invariant-loop-line l = record {
  ids : map string_bytes l.ids.items ≡ failed_ids l.are_tests (map (λ line. line.now) l.yielded);
  all_read : All (λ line. is_some (read line) ≡ true) (map (λ line. line.now) l.yielded);
}
