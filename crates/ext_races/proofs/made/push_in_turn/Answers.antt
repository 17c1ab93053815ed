use Rattle.std.proofs.Common.{[], refl, sym, ap, ◌∙◌, append-nil, arith, map}
use Rattle.ext_plan.specs.Plans.{plan_view, step_view}
use Rattle.ext_races.specs.InnerMade.{counted, made_views}
use Rattle.ext_races.proofs.After.{counts_more, turn_more}
use Rattle.ext_races.proofs.made.push_in_turn.Goals as goal

pub loop-call-init : goal.loop-call-init
loop-call-init c = record { made = sym (append-nil (made_views [] c.args.made.now.items)); counts = refl }

pub loop-call-preserved : goal.loop-call-preserved
loop-call-preserved c =
    let plan = plan_view c.args.plan.now in
    let calls = c.args.calls.now in
    let at = c.loop-call.call-index in
    let made = c.loop-call.made.items in
    let after = c.push_steps.new.made.items in
    let begins = c.loop-call.begins in
    let steps = map step_view c.steps_of-steps.result.now in
    record {
      made = turn_more plan c.args.node calls at _ made after begins steps (omega arith) c.steps_of-steps.ensures (made_views [] c.args.made.now.items) c.in_ok-push_steps.ensures.made c.loop-call.invariant.counts c.loop-call.invariant.made;
      counts = ap (λ b. counted b after) c.still-begins.ensures ∙ c.in_ok-push_steps.ensures.counted
          ∙ counts_more plan c.args.node calls at _ made after begins steps (omega arith) c.steps_of-steps.ensures c.loop-call.invariant.counts;
    }
