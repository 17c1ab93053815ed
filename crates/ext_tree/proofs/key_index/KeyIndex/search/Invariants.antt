use Rattle.std.proofs.Common.{◌≡◌}
use Rattle.ext_tree.proofs.KeyIndexing.{PassesBefore}
use Rattle.ext_tree.proofs.key_index.KeyIndex.search.Given as goal

abbrev pub invariant-loop-step : goal.invariant-loop-step
invariant-loop-step l = record { unchanged : l.entries ≡ l.fn.entries; passes : PassesBefore l.fn.entries l.self.hints.items l.key l.step }
