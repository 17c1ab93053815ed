use Rattle.std.proofs.Common.{◌∙◌, ap, arith}
use Rattle.ext_races.specs.InnerStanding.{compute_at}
use Rattle.ext_races.proofs.Above.{listed}
use Rattle.ext_races.proofs.standing.computed_by.Goals as goal

pub returns-in-Some : goal.returns-in-Some
returns-in-Some c =
    let found = c.in-Some.ensures.lookup in
    let is = listed c.args.lists.now c.args.node c.in-Some.computes.now (omega arith) found.1 in
    c.compute_at.ensures ∙ ap (λ xs. compute_at xs c.args.key) (c.as_slice.ensures.value ∙ is)
