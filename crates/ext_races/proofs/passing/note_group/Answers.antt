use Rattle.std.proofs.Common.{◌≡◌, arith, map, subst, take}
use Rattle.std.proofs.lemmas.List.{take_all}
use Rattle.ext_plan.specs.Plans.{plan_view}
use Rattle.ext_races.specs.InnerPassing.{AreNoted}
use Rattle.ext_races.specs.Touches.{touch_view}
use Rattle.ext_races.proofs.Noted.{touches_more, touches_none}
use Rattle.ext_races.proofs.passing.note_group.Goals as goal

pub loop-touch-init : goal.loop-touch-init
loop-touch-init c = touches_none _ _

pub loop-touch-preserved : goal.loop-touch-preserved
loop-touch-preserved c =
    touches_more (plan_view c.args.plan.now) c.loop-touch.passed c.note_touch.new.passed c.args.group.now c.loop-touch.touch-index _ (omega arith) c.note_touch.ensures.kept c.note_touch.ensures.noted
    c.loop-touch.invariant

pub returns : goal.returns
returns c =
    let group = c.args.group.now in
    let past = c.loop-touch-test.false in
    let whole : take c.loop-touch.touch-index group ≡ group = take_all c.loop-touch.touch-index group past in
    subst (λ g. AreNoted (plan_view c.args.plan.now) c.loop-touch.passed (map touch_view g)) whole c.loop-touch.invariant
