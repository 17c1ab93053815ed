use Rattle.std.proofs.Common.{◌≡◌, All, map, take}
use Rattle.ext_selection.specs.InnerStarts.{IsStartRank}
use Rattle.ext_selection.proofs.grouping.start_ranks.Given as goal

abbrev pub invariant-loop-at : goal.invariant-loop-at
invariant-loop-at l = record {
  same : map (λ rank. rank.index) l.ranks.items ≡ take l.at l.order;
  each : All (IsStartRank l.order l.starts) l.ranks.items;
}
