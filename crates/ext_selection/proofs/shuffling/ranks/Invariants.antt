use Rattle.std.proofs.Common.{◌≡◌, All, map, take}
use Rattle.ext_selection.specs.Shuffling.{drawn_at}
use Rattle.ext_selection.specs.InnerRanks.{IsRank}
use Rattle.ext_selection.proofs.shuffling.ranks.Given as goal

abbrev pub invariant-loop-index : goal.invariant-loop-index
invariant-loop-index l = record {
  same : map (λ rank. rank.index) l.ranks.items ≡ take l.index-index l.indices;
  each : All (IsRank l.nodes (drawn_at l.fn.seed l.ids) l.depths) l.ranks.items;
}
