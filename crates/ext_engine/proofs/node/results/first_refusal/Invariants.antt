use Rattle.std.proofs.Common.{take}
use Rattle.std.specs.Prelude.{All, IsOk}
use Rattle.ext_engine.proofs.node.results.first_refusal.Given as goal

-- none so far was refused
abbrev pub invariant-loop-outcome : goal.invariant-loop-outcome
invariant-loop-outcome l = All (λ r. IsOk r) (take l.outcome-index l.outcomes)
