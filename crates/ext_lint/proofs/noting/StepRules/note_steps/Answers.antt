use Rattle.std.proofs.Common.{arith, map}
use Rattle.ext_plan.specs.Plans.{plan_view}
use Rattle.ext_lint.specs.InnerLists.{has, note_view}
use Rattle.ext_lint.proofs.Steps.{notes_more, asked_more}
use Rattle.ext_lint.proofs.noting.StepRules.note_steps.Goals as goal

pub loop-node_step-preserved : goal.loop-node_step-preserved
loop-node_step-preserved c =
    let plan = plan_view c.args.self.now.plan.now in
    record {
      notes = notes_more plan (map note_view c.args.notes.now.items) (map note_view c.loop-node_step.notes.items) (map note_view c.note_step.new.notes.items) (has c.loop-node_step.asked) c.args.steps.now c.loop-node_step.node_step-index c.node_step-item.result (omega arith) c.node_step-item.is c.requires c.in_ok-note_step.ensures.notes c.loop-node_step.invariant.asked c.loop-node_step.invariant.notes;
      asked = asked_more plan (has c.loop-node_step.asked) (has c.note_step.new.asked) c.args.steps.now c.loop-node_step.node_step-index c.node_step-item.result (omega arith) c.node_step-item.is c.in_ok-note_step.ensures.asked c.loop-node_step.invariant.asked;
    }
