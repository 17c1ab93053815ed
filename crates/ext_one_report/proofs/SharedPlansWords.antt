-- Which places the nodes of a plan share, by the touches of its steps; and plans without races, whose nodes share values.
-- Javadoc `ExtensionContext.Store`, `getOrComputeIfAbsent`; what a step touches, and when two touches agree, are definitions of [ext_races].
use Rattle.ext_one_report.specs.Shares.{shares_in, SharesNothing}
use Rattle.ext_races.specs.OneReports.{KeepsApart, SharesValues}
use Rattle.std.specs.Prelude.{ℕ, ◌≡◌}
use Rattle.ext_plan.specs.Plans.{PlanText}
use Rattle.ext_plan.specs.ReadPlans.{IsReadPlan, ids_of_nodes}
use Rattle.ext_one_report.proofs.MatchingWords.{RunView}
use Rattle.ext_one_report.proofs.Covered.{changed_in, touched_in}
use Rattle.ext_one_report.proofs.Shared.{AreShared, SharesAbove, given_in}

-- the nodes of a plan that share values share these
abbrev pub PlansAreShared : Type 0
PlansAreShared =
    (plan : PlanText) (run : RunView) → IsReadPlan plan → SharesValues plan → run.store.tree ≡ ids_of_nodes plan.nodes → AreShared plan run (touched_in plan) (changed_in plan) (given_in plan)

-- where no value is told, each that they share is computed above
abbrev pub ValuesAreAbove : Type 0
ValuesAreAbove = (plan : PlanText) → IsReadPlan plan → SharesValues plan → (node : ℕ) → SharesNothing (shares_in plan node) → SharesAbove plan (given_in plan) node

-- plans whose nodes keep apart are such, and no node of them shares a value
abbrev pub ApartSharesValues : Type 0
ApartSharesValues = (plan : PlanText) → KeepsApart plan → SharesValues plan

abbrev pub ApartSharesNothing : Type 0
ApartSharesNothing = (plan : PlanText) → IsReadPlan plan → KeepsApart plan → (node : ℕ) → SharesNothing (shares_in plan node)
