use Rattle.std.proofs.Common.{◌∷◌, ◌++◌, [], ◌∙◌, map, take, ap, subst, sym, arith}
use Rattle.std.specs.Prelude.{option_map}
use Rattle.ext_races.specs.Acts.{act_view}
use Rattle.ext_races.specs.InnerGroups.{IsAdded, groups_view}
use Rattle.ext_races.specs.InnerStanding.{compute_view}
use Rattle.ext_races.specs.Touches.{look_at, touch_view}
use Rattle.ext_races.proofs.Grouped.{added_more}
use Rattle.ext_races.proofs.Lists.{map-take_at}
use Rattle.ext_races.proofs.groups.add_above.Goals as goal

pub loop-context-preserved : goal.loop-context-preserved
loop-context-preserved c =
    let f = look_at c.args.node c.args.key (act_view c.args.act.now) (option_map compute_view c.args.found.now) in
    let above = c.args.above.now in
    let i = c.loop-context.context-index in
    let first = groups_view c.args.groups.now.items in
    let after = groups_view c.add.new.groups.items in
    let all = added_more c.args.keys (map f (take i above)) (touch_view c.look_at-touch.result ∷ []) first (groups_view c.loop-context.groups.items) after c.loop-context.invariant c.in_ok-add.ensures in
    subst (λ touches. IsAdded c.args.keys touches first after) (ap (λ t. map f (take i above) ++ t ∷ []) c.look_at-touch.ensures ∙ sym (map-take_at f above i 0 (omega arith))) all
