use Rattle.std.proofs.Common.{suc, ◌∷◌, [], ◌∙◌, ap, sym, subst, arith, All, vec_len}
use Rattle.std.specs.Prelude.{option_map}
use Rattle.std.proofs.lemmas.List.{length-map}
use Rattle.ext_races.specs.Acts.{act_view}
use Rattle.ext_races.specs.InnerGroups.{HasGroups, IsAdded, group_view, groups_view}
use Rattle.ext_races.specs.InnerStanding.{compute_view}
use Rattle.ext_races.specs.Touches.{touch_view, touches_above, touches_along}
use Rattle.ext_races.proofs.Grouped.{added_more}
use Rattle.ext_races.proofs.groups.add_act.Goals as goal

pub add_above-requires-clause-path : goal.add_above-requires-clause-path
add_above-requires-clause-path c = λ k d less.
    let along = c.in-Some.ensures.cases.0 in
    let here = (subst (All (HasGroups c.args.keys (vec_len c.args.groups.now))) along c.requires.path) (suc k) d (omega (arith, less)) in
    let count = c.in_ok-add-in-Some.ensures.count in
    let old = length-map c.args.groups.now.items group_view in
    let new = length-map c.add.new.groups.items group_view in
    let old_ok = c.args.groups.now.ok in
    let new_ok = c.add.new.groups.ok in
    omega (arith, here, count, old, new, old_ok, new_ok)

pub returns-in_ok-add_above-in-Some : goal.returns-in_ok-add_above-in-Some
returns-in_ok-add_above-in-Some c =
    let act = act_view c.args.act.now in
    let found = option_map compute_view c.args.found.now in
    let first = groups_view c.args.groups.now.items in
    let after = groups_view c.add_above.new.groups.items in
    let above = touches_above c.args.node c.args.key act found c.in-Some.above.now in
    let all = added_more c.args.keys (touch_view c.touch_first-touch.result ∷ []) above first (groups_view c.add.new.groups.items) after c.in_ok-add-in-Some.ensures c.in_ok-add_above-in-Some.ensures in
    subst (λ touches. IsAdded c.args.keys touches first after) (ap (λ t. t ∷ above) c.touch_first-touch.ensures.touch ∙ ap (touches_along c.args.node c.args.key act found) (sym c.in-Some.ensures.cases.0)) all
