use Rattle.std.proofs.Common.{◌∙◌, ◌≤◌, ap, arith, length, map, sym, Vec, Global}
use Rattle.ext_plan.specs.Plans.{plan_view}
use Rattle.ext_races.specs.Touches.{touch_view}
use Rattle.ext_races.proofs.Noted.{listed_next, listed_over}
use Rattle.ext_races.proofs.Listed.{group_full, group_looks}
use Rattle.ext_races.specs.declared.race.Race.{Race}
use Rattle.ext_races.proofs.listing.list_group.Goals as goal
use Rattle.ext_races.proofs.listing.list_group.Goals.{then-may_meet+in_ok-list_touch, else-may_meet}

pub returns-then-len-most : goal.returns-then-len-most
returns-then-len-most c =
    let ok = c.args.listed.now.ok in
    let full : c.args.most ≤ length c.args.listed.now.items = omega (arith, ok) in
    sym (group_full (plan_view c.args.plan.now) c.args.most (map touch_view c.args.group.now) c.args.listed.now.items full)

pub returns-then-not-changes_any : goal.returns-then-not-changes_any
returns-then-not-changes_any c = sym (group_looks (plan_view c.args.plan.now) c.args.most c.args.group.now c.args.listed.now.items (sym c.changes_any.ensures ∙ c.if-not-changes_any.true))

pub loop-touch-preserved : goal.loop-touch-preserved
loop-touch-preserved c =
    let plan = plan_view c.args.plan.now in
    let group = c.args.group.now in
    let start = c.args.listed.now.items in
    elim c.if-may_meet.branch [
      | then-may_meet+in_ok-list_touch w ↦ listed_next plan c.args.most group start c.loop-touch.listed.items _ c.loop-touch.touch-index _ (omega arith) c.loop-touch.invariant (ap (λ (v : Vec Race Global). v.items) w.listed-is ∙ w.in_ok-list_touch.ensures)
      | else-may_meet w ↦
          listed_over plan c.note_group.new.passed c.args.most group start c.loop-touch.listed.items _ c.loop-touch.touch-index _ c.note_group.ensures (omega arith) (sym c.may_meet.ensures ∙ w.if-may_meet.false) c.loop-touch.invariant
          (ap (λ (v : Vec Race Global). v.items) w.listed-is)
    ]
