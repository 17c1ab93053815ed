-- What asks for a plan asks for what that means.
use Rattle.std.proofs.Common.{List}
use Rattle.clap.specs.Walk.{Row}
use Rattle.extrun.specs.CommandWords.{AsksOfPlan}
use Rattle.extrun.specs.declared.command.FileNames.{FileNames}
use Rattle.extrun.specs.declared.command.Request.{Request}
use Rattle.extrun.specs.declared.command.Request.TheVariants as requests
use Rattle.extrun.specs.declared.command.Task.{Task}

pub asks-weaker : (rows : List Row) (Asks More : Task → FileNames → Type 0) → ((task : Task) (files : FileNames) → Asks task files → More task files) → (request : Request) → AsksOfPlan rows Asks request → AsksOfPlan rows More request
asks-weaker rows Asks More weaker (requests.Plan task files brief) asks = (weaker task files asks.0, asks.1)
asks-weaker rows Asks More weaker (requests.Id text brief) asks = asks
asks-weaker rows Asks More weaker (requests.MakeId parts) asks = asks
asks-weaker rows Asks More weaker requests.Help asks = asks
asks-weaker rows Asks More weaker requests.Refused asks = asks
asks-weaker rows Asks More weaker requests.Unwritten asks = asks
asks-weaker rows Asks More weaker requests.Memory asks = asks
