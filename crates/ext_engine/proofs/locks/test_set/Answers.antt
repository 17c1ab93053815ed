use Rattle.std.proofs.Common.{subst}
use Rattle.ext_locks.specs.Names.{IsNotMerged}
use Rattle.ext_engine.proofs.Requests.{is-merged}
use Rattle.ext_engine.proofs.locks.test_set.Goals as goal

pub unreachable-requires : goal.unreachable-requires
unreachable-requires g c =
    let names = c.args.locks.now.names in let fault = c.in-Err.field-0 in
    is-merged names (g.S.Suite.suite_view c.args.suite.now) c.args.path.now c.in_ok-requests.requests.items fault c.requires.names c.in_ok-requests.ensures (subst (λ l. IsNotMerged names l fault) c.as_slice.ensures.value c.in-Err.ensures.fault)
