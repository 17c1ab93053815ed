use Rattle.std.proofs.Common.{◌≡◌, drop, map}
use Rattle.ext_shared.specs.Closing.{closing_order}
use Rattle.ext_shared.proofs.closing.closing_order.Given as goal

abbrev pub invariant-loop-index : goal.invariant-loop-index
invariant-loop-index l = map (λ name. name.now) l.order.items ≡ closing_order (drop l.index (map (λ line. line.now) l.lines.items))
