-- The end of a context: its seals keep what is known of the values that stand.
use Rattle.std.proofs.Common.{ℕ, zero, suc}
use Rattle.ext_plan_plain.specs.ValueStates.{ValueState}
use Rattle.ext_plan_plain.specs.ContextEnds.{seal_keys}
use Rattle.ext_one_report.proofs.OfPlan.{IsLeftBy, Leaving}
use Rattle.ext_one_report.proofs.OfPlanStates.{of_sealed}
use Rattle.ext_one_report.proofs.OfPlanSteps.{IsReady}

-- ---- all places of a context are sealed

pub seals_of : (leaving : Leaving) (keys at : ℕ) (s : ValueState) → IsLeftBy leaving s → IsLeftBy leaving (seal_keys keys at s)
unfolding seal_keys
seals_of leaving zero at s h = h
seals_of leaving (suc key) at s h = of_sealed leaving (at, key) (seal_keys key at s) (seals_of leaving key at s h)

pub seals_ready : (leaving : Leaving) (keys at : ℕ) (s : ValueState) → IsReady leaving s → IsReady leaving (seal_keys keys at s)
unfolding seal_keys
seals_ready leaving zero at s h = h
seals_ready leaving (suc key) at s h =
    let before = seals_ready leaving key at s h in
    record { memory = before.memory; of = of_sealed leaving (at, key) (seal_keys key at s) before.of }
