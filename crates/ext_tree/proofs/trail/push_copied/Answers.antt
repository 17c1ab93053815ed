use Rattle.ext_tree.proofs.Lookups.{pushed}
use Rattle.ext_tree.proofs.trail.push_copied.Goals as goal

pub returns : goal.returns
returns c = pushed c.args.id.now _ _ c.args.i _ _ _ _ c.segment.ensures c.in_ok-kind.ensures c.in_ok-value.ensures c.requires.next c.in_ok-push.ensures.items
