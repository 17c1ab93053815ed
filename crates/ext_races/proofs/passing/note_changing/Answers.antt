use Rattle.std.proofs.Common.{◌≡◌, ◌∙◌, ◌+◌, arith, map, subst, sym, take, true≢false}
use Rattle.std.proofs.lemmas.List.{take_all}
use Rattle.ext_plan.specs.Plans.{plan_view}
use Rattle.ext_races.specs.InnerPassing.{AreNoted, changing}
use Rattle.ext_races.specs.Touches.{touch_view}
use Rattle.ext_races.proofs.Noted.{changing_more, changing_none, kept_all}
use Rattle.ext_races.proofs.passing.note_changing.Goals as goal
use Rattle.ext_races.proofs.passing.note_changing.Goals.{else-touch, then-touch}

pub loop-touch-init : goal.loop-touch-init
loop-touch-init c = changing_none _ _

pub loop-touch-preserved : goal.loop-touch-preserved
loop-touch-preserved c =
    let plan = plan_view c.args.plan.now in
    let group = c.args.group.now in
    let i = c.loop-touch.touch-index in
    let before = c.loop-touch.passed in
    let all = changing (map touch_view (take (i + 1) group)) in
    elim c.if-touch.branch [
      | then-touch w ↦ subst (λ p. AreNoted plan p all) (sym w.passed-is) (changing_more plan before w.note_touch.new.passed group i _ (omega arith) w.note_touch.ensures.kept (λ changes. w.note_touch.ensures.noted) c.loop-touch.invariant)
      | else-touch w ↦ subst (λ p. AreNoted plan p all) (sym w.passed-is) (changing_more plan before before group i _ (omega arith) (kept_all before) (λ changes. absurd (true≢false (sym changes ∙ w.if-touch.false))) c.loop-touch.invariant)
    ]

pub returns : goal.returns
returns c =
    let group = c.args.group.now in
    let past = c.loop-touch-test.false in
    let whole : take c.loop-touch.touch-index group ≡ group = take_all c.loop-touch.touch-index group past in
    subst (λ g. AreNoted (plan_view c.args.plan.now) c.loop-touch.passed (changing (map touch_view g))) whole c.loop-touch.invariant
