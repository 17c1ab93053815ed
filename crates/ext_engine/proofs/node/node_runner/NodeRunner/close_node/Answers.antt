use Rattle.std.proofs.Common.{map, refl}
use Rattle.ext_closing.specs.Closing.{fault_in}
use Rattle.ext_engine.proofs.node.node_runner.NodeRunner.close_node.Goals as goal

pub returns-in-Ok-clause-closes : goal.returns-in-Ok-clause-closes
returns-in-Ok-clause-closes g c =
    let closed = c.in-Ok.ensures.closes in (
      map fault_in closed.closes.answers,
      record {
        closer = c.args.closer;
        closer_is = c.requires.closer;
        context_is = c.requires.context;
        action = c.action-action.result;
        action_is = c.action-action.ensures;
        action_left = c.close_again.new.action;
        closed = c.in-Ok.closes;
        closes = closed;
        faults_are = refl;
      },
      closed.closes.counts,
    )

pub returns-clause-unjoined : goal.returns-clause-unjoined
returns-clause-unjoined g c = record {
  closer = c.args.closer;
  closer_is = c.requires.closer;
  context_is = c.requires.context;
  action = c.action-action.result;
  action_is = c.action-action.ensures;
  number = c.in-Err.number;
  left_open = c.in-Err.ensures.unjoined;
  told = refl;
}
