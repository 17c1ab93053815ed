use Rattle.ext_plan_parallel.proofs.Found.{lanes_number_alike, runs_find}
use Rattle.ext_plan_parallel.proofs.Moves.{plans_go_on}
use Rattle.ext_plan_parallel.proofs.laws.parallel_laws.Goals as goal

pub returns-clause-go_on : goal.returns-clause-go_on
returns-clause-go_on c = plans_go_on

pub returns-clause-found : goal.returns-clause-found
returns-clause-found c = runs_find

pub returns-clause-numbered : goal.returns-clause-numbered
returns-clause-numbered c = lanes_number_alike
