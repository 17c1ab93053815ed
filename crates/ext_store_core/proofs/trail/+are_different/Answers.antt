use Rattle.ext_store_core.proofs.Trails.{first_decides, others_decide}
use Rattle.ext_store_core.proofs.trail.+are_different.Goals as goal

pub returns-then-not-contains : goal.returns-then-not-contains
returns-then-not-contains t c = others_decide c.in-Some.first.now c.in-Some.rest.now c.args.path.now c.in-Some.ensures.cases.0 c.contains.result c.contains.ensures.value c.are_different.result c.if-not-contains.true c.are_different.ensures

pub returns-else-not-contains : goal.returns-else-not-contains
returns-else-not-contains t c = first_decides c.in-Some.first.now c.in-Some.rest.now c.args.path.now c.in-Some.ensures.cases.0 c.contains.result c.contains.ensures.value c.if-not-contains.false
