use Rattle.std.proofs.Common.{◌≡◌, ◌≤◌, length, drop, map}
use Rattle.ext_plan.specs.StepCalls.{keys_in}
use Rattle.ext_races.specs.InnerNaming.{keys_listed, keys_of}
use Rattle.ext_races.specs.InnerMade.{made_view}
use Rattle.ext_races.specs.Touches.{keys_of_steps}
use Rattle.ext_races.proofs.naming.keys_named.Given as goal

abbrev pub invariant-loop-step : goal.invariant-loop-step
invariant-loop-step l = record {
  rest : keys_listed (keys_in l.keys) (map made_view l.made) ≡ keys_of_steps (keys_in l.keys) l.directory (map made_view (drop l.step-index l.made));
  names : keys_of (keys_in l.keys) l.names.items ≡ l.directory;
  few : length l.directory ≤ l.most;
}
