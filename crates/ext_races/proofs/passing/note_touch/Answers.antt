use Rattle.std.proofs.Common.{ap, arith, length}
use Rattle.ext_plan.specs.Plans.{plan_view}
use Rattle.ext_races.specs.Touches.{touch_view}
use Rattle.ext_races.proofs.Noted.{below_more, below_none, keeps_more, kept_all, noted_all}
use Rattle.ext_races.proofs.passing.note_touch.Goals as goal

pub loop-at-init : goal.loop-at-init
loop-at-init c = record { kept = kept_all _; noted = below_none _ _ _ _ }

pub note_turn-requires : goal.note_turn-requires
note_turn-requires c =
    let within = c.path_in-path.ensures.within c.loop-at.at 0 (omega arith) in
    let same = ap length c.tree.ensures in
    omega (arith, within, same, c.requires)

pub loop-at-preserved : goal.loop-at-preserved
loop-at-preserved c = record {
  kept = keeps_more _ _ _ c.loop-at.invariant.kept c.note_turn.ensures.kept;
  noted = below_more (plan_view c.args.plan.now) _ _ c.path_in-path.result.now (touch_view c.args.touch.now) c.loop-at.at (omega arith) c.note_turn.ensures.kept c.note_turn.ensures.noted c.loop-at.invariant.noted;
}

pub returns-clause-noted : goal.returns-clause-noted
returns-clause-noted c =
    let past = c.loop-at-test.false in
    noted_all (plan_view c.args.plan.now) c.loop-at.passed c.tree.result.now c.path_in-path.result.now (touch_view c.args.touch.now) c.loop-at.at c.tree.ensures c.path_in-path.ensures.path (omega (arith, past)) c.loop-at.invariant.noted
