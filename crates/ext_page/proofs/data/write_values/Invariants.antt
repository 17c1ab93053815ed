use Rattle.std.proofs.Common.{◌≡◌, ◌++◌, take}
use Rattle.std.specs.List.{flat_map}
use Rattle.ext_page.specs.Data.{value_tokens}
use Rattle.ext_page.proofs.data.write_values.Given as goal

abbrev pub invariant-loop-value : goal.invariant-loop-value
invariant-loop-value l = record {
  before : l.writer.before ≡ l.initial.writer.before;
  tokens : l.writer.tokens ≡ l.initial.writer.tokens ++ flat_map value_tokens (take l.value-index l.values);
}
