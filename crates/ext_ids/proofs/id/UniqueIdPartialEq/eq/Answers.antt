use Rattle.ext_ids.proofs.Pairs.{ids_Decides}
use Rattle.ext_ids.proofs.id.UniqueIdPartialEq.eq.Goals as goal

pub returns-clause-same : goal.returns-clause-same
returns-clause-same c = rw (c.eq.ensures, c.self.view_is, c.other.view_is) (ids_Decides c.args.self.now c.args.other.now)
