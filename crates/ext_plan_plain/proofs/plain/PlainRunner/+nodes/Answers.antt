use Rattle.std.proofs.Common.{◌∙◌, ◌<◌, ◌+◌, true, false, drop, length, get_or, refl, ap, sym, subst, arith}
use Rattle.std.proofs.lemmas.List.{drop_all}
use Rattle.ext_lifecycle.specs.FaultTexts.{results_view}
use Rattle.ext_tree.specs.Trees.{IsTree}
use Rattle.ext_plan_plain.specs.declared.setting.Setting.{Setting}
use Rattle.ext_plan_plain.specs.InnerSteps.{ChildrenRun, NodeRuns, any_child, plan_in, run_view}
use Rattle.ext_plan.specs.PlanCalls.{concurrent_of}
use Rattle.ext_plan_plain.specs.PlainRun.{body_run, node_run}
use Rattle.ext_plan_plain.proofs.Nodes.{child_is}
use Rattle.ext_plan_plain.proofs.Outcomes.{OnOk-map}
use Rattle.ext_plan_plain.proofs.Runs.{StillRuns, afters-setting, all-run, befores-setting, both-run, container-runs, no_levels-run, node-by, none-run, none-runs, still-run, still-waits}
use Rattle.ext_plan_plain.proofs.plain.PlainRunner.+nodes.Goals as goal
use Rattle.ext_plan_plain.proofs.plain.PlainRunner.+nodes.Goals.{run_children-then-is_concurrent-concurrent+in_ok-run_node, run_children-else-is_concurrent-concurrent}

-- ---- a container's body

pub run_body-returns-clause-run : goal.run_body-returns-clause-run
run_body-returns-clause-run g t c =
    let old = c.args.self.now in
    let setting = old.caller.setting in
    OnOk-map c.run_children-2.result c.run_children-2.ensures.run (λ second.
    subst (λ go. ChildrenRun setting c.args.at any_child (body_run (plan_in setting) (node_run (plan_in setting) c.args.levels) go) (run_view old) (run_view c.run_children-2.new.self)) (sym c.if-not-go.false)
    (both-run setting c.run_children.new.self.caller.setting c.args.at c.args.levels (run_view old) (run_view c.run_children.new.self) (run_view c.run_children-2.new.self) c.requires.tree c.requires.within c.in_ok-run_children.ensures.setting c.in_ok-run_children.ensures.run second))

pub run_body-returns-then-not-go-clause-run : goal.run_body-returns-then-not-go-clause-run
run_body-returns-then-not-go-clause-run g t c = none-runs c.args.self.now.caller.setting c.args.at c.args.levels c.args.go (run_view c.args.self.now) c.if-not-go.true

pub run_children-run_node-requires : goal.run_children-run_node-requires
run_children-run_node-requires g t c =
    let setting = c.args.self.now.caller.setting in
    let inv = c.loop-child.invariant in
    let parent = child_is setting.tree.now c.args.at c.children-children.result.now c.loop-child.child-index 0 c.requires.within c.children-children.ensures c.loop-child-test.true in
    λ κs inside. (omega (arith, c.decreases), (inside, (subst (λ (s : Setting). get_or c.children-children.result.now c.loop-child.child-index 0 < length s.tree.now) (sym inv.setting) parent.child_within, subst (λ (s : Setting). IsTree s.tree.now) (sym inv.setting) c.requires.tree)))

pub run_children-loop-child-init : goal.run_children-loop-child-init
run_children-loop-child-init g t c =
    let setting = c.args.self.now.caller.setting in
    let children = c.children-children.result.now in
    record { setting = refl; so_far = none-run setting c.args.at c.args.levels c.args.concurrent children children (run_view c.args.self.now) refl }

pub run_children-loop-child-preserved : goal.run_children-loop-child-preserved
run_children-loop-child-preserved g t c =
    let setting = c.args.self.now.caller.setting in
    let inv = c.loop-child.invariant in
    let children = c.children-children.result.now in
    let i = c.loop-child.child-index in
    let child = get_or children i 0 in
    let levels = c.args.levels in
    let parent = child_is setting.tree.now c.args.at children i 0 c.requires.within c.children-children.ensures c.loop-child-test.true in
    let is = c.is_concurrent.ensures ∙ ap (λ (s : Setting). concurrent_of (plan_in s) child) inv.setting in
    elim c.if-is_concurrent-concurrent.branch [
      | run_children-then-is_concurrent-concurrent+in_ok-run_node w ↦
          let next = run_view w.run_node.new.self in
          let ran = subst (λ (s : Setting). NodeRuns s child (node_run (plan_in s) levels) (run_view c.loop-child.self) next) inv.setting w.in_ok-run_node.ensures.run in
          record {
            setting = ap (λ x. x.caller.setting) w.self-is ∙ w.in_ok-run_node.ensures.setting ∙ inv.setting;
            so_far = subst (λ r. StillRuns setting c.args.at levels c.args.concurrent children (drop (i + 1) children) (run_view c.args.self.now) r) (sym (ap run_view w.self-is))
                (still-run setting c.args.at levels c.args.concurrent c.is_concurrent.result children i (run_view c.args.self.now) (run_view c.loop-child.self) next c.requires.tree c.children-children.ensures c.loop-child-test.true parent is w.if-is_concurrent-concurrent.true ran inv.so_far);
          }
      | run_children-else-is_concurrent-concurrent w ↦ record {
        setting = ap (λ x. x.caller.setting) w.self-is ∙ inv.setting;
        so_far = subst (λ r. StillRuns setting c.args.at levels c.args.concurrent children (drop (i + 1) children) (run_view c.args.self.now) r) (sym (ap run_view w.self-is))
            (still-waits setting c.args.at levels c.args.concurrent c.is_concurrent.result children i (run_view c.args.self.now) (run_view c.loop-child.self) c.loop-child-test.true is w.if-is_concurrent-concurrent.false inv.so_far);
      }
    ]

pub run_children-returns-clause-run : goal.run_children-returns-clause-run
run_children-returns-clause-run g t c =
    let setting = c.args.self.now.caller.setting in
    let children = c.children-children.result.now in
    let none = drop_all c.loop-child.child-index children (omega (arith, c.loop-child-test.false)) in
    all-run setting c.args.at c.args.levels c.args.concurrent children (drop c.loop-child.child-index children) (run_view c.args.self.now) (run_view c.loop-child.self) c.children-children.ensures none c.loop-child.invariant.so_far

-- ---- a container

pub run_container-run_body-requires : goal.run_container-run_body-requires
run_container-run_body-requires g t c =
    let setting = c.args.self.now.caller.setting in
    let made = c.run_befores-tally.ensures.calls in
    let kept = befores-setting setting c.args.at c.path-path.result.now _ _ _ made.0 c.path-path.ensures.path (record { setting_is = refl; node_is = refl }) made.1 in
    λ κs inside. (omega (arith, c.decreases), (inside, (subst (λ (s : Setting). c.args.at < length s.tree.now) (sym kept) c.requires.within, subst (λ (s : Setting). IsTree s.tree.now) (sym kept) c.requires.tree)))

pub run_container-run_afters-requires-clause-ready : goal.run_container-run_afters-requires-clause-ready
run_container-run_afters-requires-clause-ready g t c =
    let setting = c.args.self.now.caller.setting in
    let made = c.run_befores-tally.ensures.calls in
    let kept = c.in_ok-run_body.ensures.setting ∙ befores-setting setting c.args.at c.path-path.result.now _ _ _ made.0 c.path-path.ensures.path (record { setting_is = refl; node_is = refl }) made.1 in
    record { tree = subst (λ (s : Setting). IsTree s.tree.now) (sym kept) c.requires.tree; within = subst (λ (s : Setting). c.args.at < length s.tree.now) (sym kept) c.requires.within }

pub run_container-run_afters-requires-clause-room : goal.run_container-run_afters-requires-clause-room
run_container-run_afters-requires-clause-room g t c = c.run_befores-tally.ensures.room (length c.as_slice-4.result.now) (omega (arith, c.in_ok-befores.ensures.few, c.in_ok-afters.ensures.few, c.as_slice-3.ensures.len, c.as_slice-4.ensures.len))

pub run_container-end_node-requires : goal.run_container-end_node-requires
run_container-end_node-requires g t c = record {
  room = c.run_afters.ensures.room 1 (c.run_befores-tally.ensures.room (length c.as_slice-4.result.now + 1) (omega (arith, c.in_ok-befores.ensures.few, c.in_ok-afters.ensures.few, c.as_slice-3.ensures.len, c.as_slice-4.ensures.len)));
}

pub run_container-returns-clause-run : goal.run_container-returns-clause-run
run_container-returns-clause-run g t c =
    let old = c.args.self.now in
    let setting = old.caller.setting in
    let first = c.run_befores-tally.ensures.calls in
    let third = c.run_afters.ensures.calls in
    let body = c.in_ok-run_body.ensures in
    OnOk-map c.end_node.result c.end_node.ensures.end (λ ended.
    container-runs setting c.args.at c.path-path.result.now _ _ _ _ _ c.run_befores-tally.new.caller c.run_body.new.self.caller _ c.run_afters.new.caller first.0 third.0 c.run_afters.new.tally
    (results_view old.results.items) (results_view c.run_body.new.self.results.items) c.is_successful.result (λ s. node_run (plan_in s) c.args.levels) _
    c.requires.tree c.path-path.ensures.path c.as_slice.ensures.contexts c.as_slice-2.ensures.contexts (c.as_slice-3.ensures.value ∙ c.in_ok-befores.ensures.calls) (c.as_slice-4.ensures.value ∙ c.in_ok-afters.ensures.calls)
    (record { setting_is = refl; node_is = refl }) first.1 (c.is_successful.ensures first.0 first.2) body.run body.setting refl refl refl refl third.1 (third.2 first.0 first.2) ended)

pub run_container-returns-clause-setting : goal.run_container-returns-clause-setting
run_container-returns-clause-setting g t c =
    let old = c.args.self.now in
    let setting = old.caller.setting in
    let first = c.run_befores-tally.ensures.calls in
    let third = c.run_afters.ensures.calls in
    let opened = befores-setting setting c.args.at c.path-path.result.now _ _ _ first.0 c.path-path.ensures.path (record { setting_is = refl; node_is = refl }) first.1 in
    let kept = c.in_ok-run_body.ensures.setting ∙ opened in
    OnOk-map c.end_node.result c.end_node.ensures.setting (λ same. same ∙ afters-setting setting c.args.at c.path-path.result.now _ _ _ third.0 c.path-path.ensures.path (record { setting_is = kept; node_is = refl }) third.1)

-- ---- a node

pub run_node-returns-then-levels-eq0-clause-run : goal.run_node-returns-then-levels-eq0-clause-run
run_node-returns-then-levels-eq0-clause-run g t c = no_levels-run c.args.self.now.caller.setting c.args.at c.args.levels (run_view c.args.self.now) c.if-levels-eq0.true

pub run_node-returns-then-is_test-clause-run : goal.run_node-returns-then-is_test-clause-run
run_node-returns-then-is_test-clause-run g t c =
    let setting = c.args.self.now.caller.setting in
    let old = run_view c.args.self.now in
    OnOk-map c.run_test.result c.run_test.ensures.run (λ ran. node-by setting c.args.at c.args.levels true old (run_view c.run_test.new.self) c.if-levels-eq0.false (sym c.is_test.ensures ∙ c.if-is_test.true) ran)

pub run_node-returns-clause-run : goal.run_node-returns-clause-run
run_node-returns-clause-run g t c =
    let setting = c.args.self.now.caller.setting in
    let old = run_view c.args.self.now in
    OnOk-map c.run_container.result c.run_container.ensures.run (λ ran. node-by setting c.args.at c.args.levels false old (run_view c.run_container.new.self) c.if-levels-eq0.false (sym c.is_test.ensures ∙ c.if-is_test.false) ran)
