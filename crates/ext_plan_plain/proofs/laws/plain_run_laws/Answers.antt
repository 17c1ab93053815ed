use Rattle.std.proofs.Common.{refl, arith}
use Rattle.ext_plan_plain.proofs.Below.{runs_below}
use Rattle.ext_plan_plain.proofs.Sound.{result_of_each_node, tests_of_plan}
use Rattle.ext_plan_plain.proofs.Reached.{each_node_runs, runs_body, runs_node, skips_body}
use Rattle.ext_plan_plain.proofs.Named.{number-kept, numbers-once, unnumbered}
use Rattle.ext_plan_plain.proofs.Numberings.{knows}
use Rattle.ext_plan_plain.proofs.Rooms.{has_room, only-named}
use Rattle.ext_plan_plain.proofs.LimitsStay.{keeps-limits}
use Rattle.ext_plan_plain.proofs.Seals.{node-free, node-sealed}
use Rattle.ext_plan_plain.proofs.KeptFaults.{kept_fault_stands, no_fault_stays, node-faultless}
use Rattle.ext_plan_plain.proofs.Lacking.{does_or_lacks}
use Rattle.ext_plan_plain.proofs.Skipping.{skips_below}
use Rattle.ext_plan_plain.proofs.Unfailed.{runs_as_planned}
use Rattle.ext_plan_plain.proofs.Values.{node-values, put_is_found}
use Rattle.ext_plan_plain.proofs.laws.plain_run_laws.Goals as goal

pub returns : goal.returns
returns c = record {
  results = result_of_each_node;
  tests = tests_of_plan;
  lacking = does_or_lacks;
  planned = runs_as_planned;
  each_node = each_node_runs;
  runs = runs_node;
  body = runs_body;
  skipped = skips_body;
  parents = runs_below;
  ancestors = skips_below;
  opening = λ keeps places numbers. (λ place claimed. claimed, refl, λ place number is. cc, record { different = λ n m d less within. absurd (omega (arith, within)); few = omega arith });
  unclaimed = node-free;
  sealed = node-sealed;
  values = node-values;
  limits = keeps-limits;
  numbered_once = numbers-once;
  numbers = number-kept;
  known = knows;
  unnumbered = unnumbered;
  named_alone = only-named;
  room = has_room;
  found = put_is_found;
  kept_fault = kept_fault_stands;
  no_fault = no_fault_stays;
  faultless = node-faultless;
}
