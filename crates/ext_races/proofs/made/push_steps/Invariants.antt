use Rattle.std.proofs.Common.{◌≡◌, [], ◌++◌, map, take}
use Rattle.std.specs.Prelude.{◌==◌, ◌&&◌}
use Rattle.ext_plan.specs.Plans.{step_view}
use Rattle.ext_races.specs.InnerMade.{counted, made_views}
use Rattle.ext_races.specs.MadeSteps.{made_after}
use Rattle.ext_races.proofs.made.push_steps.Given as goal

abbrev pub invariant-loop-at : goal.invariant-loop-at
invariant-loop-at l = record {
  made : made_views [] l.made.items ≡ made_views [] l.fn.made.items ++ made_after l.node (counted l.begins l.fn.made.items) (map step_view (take l.at l.steps));
  counts : counted (l.begins && (l.at == 0)) l.made.items ≡ counted l.begins l.fn.made.items ++ map step_view (take l.at l.steps);
}
