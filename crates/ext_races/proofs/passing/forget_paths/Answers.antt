use Rattle.std.proofs.Common.{◌<◌, arith, length}
use Rattle.std.proofs.lemmas.List.Elements.{All-weaker}
use Rattle.ext_races.proofs.passing.forget_paths.Goals as goal

pub forget_path-requires : goal.forget_path-requires
forget_path-requires c =
    let count = c.requires in
    All-weaker (λ k. k < length c.args.tree.now) (λ k. k < length c.loop-touch.passed) (λ k less. omega (arith, less, count)) c.path_in.result.now c.path_in.ensures.within
