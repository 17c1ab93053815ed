use Rattle.std.proofs.Common.{◌≡◌, ◌∙◌, ap}
use Rattle.ext_plan.specs.Plans.{plan_view}
use Rattle.ext_races.specs.MadeSteps.{path_of, plan_path}
use Rattle.ext_races.proofs.Calls.{after_are, before_are}
use Rattle.ext_races.proofs.made.calls_of.Goals as goal

pub returns : goal.returns
returns c =
    let plan = plan_view c.args.plan.now in
    let path : c.path_in-path.result.now ≡ plan_path plan c.args.node = c.path_in-path.ensures.path (rw c.tree.ensures c.requires.node) ∙ ap (λ ids. path_of ids c.args.node) c.tree.ensures in
    record {
      calls = before_are plan c.args.node c.path_in-path.result.now c.is_test.result path c.is_test.ensures c.in_ok-calls.calls.items c.push.new.self.items c.in_ok-calls.ensures.befores c.in_ok-push.ensures.items;
      afters = after_are plan c.args.node c.path_in-path.result.now c.is_test.result path c.is_test.ensures c.in_ok-calls.afters.items c.in_ok-calls.ensures.afters;
    }
