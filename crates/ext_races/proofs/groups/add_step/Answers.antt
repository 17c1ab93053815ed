use Rattle.std.proofs.Common.{◌<◌, ◌∙◌, All, drop, arith, length, take, ap, sym, subst}
use Rattle.std.specs.Prelude.{◌||◌, None, option_map, if◌then◌else◌}
use Rattle.std.proofs.lemmas.List.{length-map}
use Rattle.ext_plan.specs.Plans.{step_view}
use Rattle.ext_plan.specs.StepCalls.{keys_in}
use Rattle.ext_plan.specs.StepWords.{changes}
use Rattle.ext_plan.specs.StoreKeys.{key_of_step}
use Rattle.ext_races.specs.Acts.{act_view}
use Rattle.ext_races.specs.InnerGroups.{IsAdded, group_view, groups_view}
use Rattle.ext_races.specs.InnerMade.{before_in, left_by, made_behind, made_view}
use Rattle.ext_races.specs.InnerReach.{Tells, below_at, is_computed}
use Rattle.ext_races.specs.InnerStanding.{compute_view, stands}
use Rattle.ext_races.specs.Touches.{reach}
use Rattle.ext_races.proofs.Reaches.{all_seen, begun, found, no_act, noted_tells, reached}
use Rattle.ext_races.proofs.StepTouches.{has_groups, key_there, touches_are}
use Rattle.ext_races.proofs.groups.add_step.Goals as goal

pub key_number-requires : goal.key_number-requires
key_number-requires c =
    key_there (keys_in c.args.keys.now) c.args.directory.now (made_view c.args.step.now) (act_view c.in-Some.act) (sym c.in-Some.ensures) c.requires.key

pub add_act-requires-clause-path : goal.add_act-requires-clause-path
add_act-requires-clause-path c =
    let act = act_view c.in-Some.act in
    let all = all_seen (λ n. n < length c.args.tree.now) (changes act.word) (below_at c.as_slice-2.result.now c.in_ok-key.key) c.path_in-path.result.now c.path_in-path.ensures.within in
    rw c.len.ensures.count (has_groups (length c.args.directory.now) _ _ c.in-Some.act.up c.reach-seen.result.now c.ancestor-path.result.now c.requires.count (subst (All (λ n. n < length c.args.tree.now)) (sym c.reach-seen.ensures) all) c.ancestor-path.ensures)

pub returns-in_default-clause-tells : goal.returns-in_default-clause-tells
returns-in_default-clause-tells c = λ before tells.
    let declared = keys_in c.args.keys.now in
    let directory = c.args.directory.now in
    let step = c.args.step.now in
    let started = begun declared directory before step c.args.below.now.items c.begin.new.below.items tells c.begin.ensures.count c.begin.ensures.kept c.begin.ensures.whole in
    no_act declared directory (before_in before step) (step_view step.step.now) c.begin.new.below.items (sym c.in_default.ensures) started

pub returns-clause-tells : goal.returns-clause-tells
returns-clause-tells c = λ before tells.
    let declared = keys_in c.args.keys.now in
    let directory = c.args.directory.now in
    let step = c.args.step.now in
    let act = act_view c.in-Some.act in
    let started = begun declared directory before step c.args.below.now.items c.begin.new.below.items tells c.begin.ensures.count c.begin.ensures.kept c.begin.ensures.whole in
    let there = key_there declared directory (made_view step) act (sym c.in-Some.ensures) c.requires.key in
    subst (Tells declared directory (left_by before step)) (sym c.note.ensures)
    (noted_tells declared directory (before_in before step) (step_view step.step.now) act c.begin.new.below.items c.in_ok-key.key (sym c.in-Some.ensures) there c.in_ok-key.ensures.number started)

pub returns-clause-count : goal.returns-clause-count
returns-clause-count c =
    let count = c.in_ok-add_act.ensures.count in
    let old = length-map c.args.groups.now.items group_view in
    let new = length-map c.add_act.new.groups.items group_view in
    let old_ok = c.args.groups.now.ok in
    let new_ok = c.add_act.new.groups.ok in
    omega (arith, count, old, new, old_ok, new_ok)

pub returns-clause-added : goal.returns-clause-added
returns-clause-added c = λ before above tells stands_so.
    let declared = keys_in c.args.keys.now in
    let directory = c.args.directory.now in
    let step = c.args.step.now in
    let act = act_view c.in-Some.act in
    let first = groups_view c.args.groups.now.items in
    let after = groups_view c.add_act.new.groups.items in
    let path = c.path_in-path.result.now in
    let started = begun declared directory before step c.args.below.now.items c.begin.new.below.items tells c.begin.ensures.count c.begin.ensures.kept c.begin.ensures.whole in
    let there = key_there declared directory (made_view step) act (sym c.in-Some.ensures) c.requires.key in
    let seen = c.reach-seen.ensures ∙ ap (λ below. if changes act.word then path else take (below_at below c.in_ok-key.key) path) c.as_slice-2.ensures.value
    ∙ reached declared directory (before_in before step) c.begin.new.below.items act c.in_ok-key.key path started there c.in_ok-key.ensures.number c.path_in-path.ensures.few
    ∙ ap (λ p. reach declared (before_in before step) p act) (c.path_in-path.ensures.path c.requires.node) in
    let along = c.ancestor-path.ensures ∙ ap (drop c.in-Some.act.up) seen in
    let stood = ap (stands c.args.standing.now path) c.in_ok-key.ensures.number ∙ stands_so.each step.node path (key_of_step declared act.key) c.requires.node (c.path_in-path.ensures.walk c.requires.node) there in
    let above_it = c.found_above-found.ensures ∙ ap (λ below. if changes act.word || is_computed below c.in_ok-key.key then None else stands c.args.standing.now path c.in_ok-key.key) c.as_slice.ensures.value
    ∙ found declared directory (before_in before step) c.begin.new.below.items act c.in_ok-key.key (above step.node) (stands c.args.standing.now path c.in_ok-key.key) started there c.in_ok-key.ensures.number stood in
    let same = touches_are c.args.tree.now declared directory above (made_behind before step) act c.in_ok-key.key (option_map compute_view c.found_above-found.result) c.ancestor-path.result.now (sym c.in-Some.ensures) c.in_ok-key.ensures.number above_it along in
    rw (← c.len.ensures.count) (subst (λ touches. IsAdded c.len.result touches first after) same c.in_ok-add_act.ensures)
