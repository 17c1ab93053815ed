use Rattle.std.proofs.Common.{arith}
use Rattle.ext_races.proofs.passing.forget_path.Goals as goal

pub bounds-passed-context : goal.bounds-passed-context
bounds-passed-context c =
    let within = c.requires c.loop-context.context-index 0 (omega arith) in
    omega (arith, within)
