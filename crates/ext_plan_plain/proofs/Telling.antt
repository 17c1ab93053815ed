-- Whether a step lacked memory, told over steps that follow one another.
use Rattle.std.proofs.Common.{◌≡◌, Bool, List, sym, ◌∙◌}
use Rattle.ext_plan_plain.specs.InnerSteps.{TellsLacks}
use Rattle.ext_plan_plain.specs.ValueStates.{Memory}

-- between no steps
pub tells-none : (lacked : Bool) (memory : List Memory) (Spared : Type 0) → TellsLacks lacked lacked memory memory Spared
tells-none lacked memory Spared = record { kept = λ unlacked. unlacked; nothing = λ unlacked none. none; spared = λ spared unlacked. unlacked }

-- before some steps, between and after them
pub tells-both : (before between after : Bool) (first second later : List Memory) (One Two Spared : Type 0) → (Spared → One) → (Spared → Two)
    → TellsLacks before between first second One → TellsLacks between after second later Two → TellsLacks before after first later Spared
tells-both before between after first second later One Two Spared to_one to_two one two = record {
  kept = λ unlacked. one.kept (two.kept unlacked);
  nothing = λ unlacked none. one.nothing (two.kept unlacked) (two.nothing unlacked none);
  spared = λ spared unlacked. two.spared (to_two spared) (one.spared (to_one spared) unlacked);
}

-- where the flags are those before and after
pub tells-same : (before before' after after' : Bool) (first second : List Memory) (One Spared : Type 0) → before' ≡ before → after' ≡ after → (Spared → One)
    → TellsLacks before after first second One → TellsLacks before' after' first second Spared
tells-same before before' after after' first second One Spared before_is after_is to_one one = record {
  kept = λ unlacked. before_is ∙ one.kept (sym after_is ∙ unlacked);
  nothing = λ unlacked. one.nothing (sym after_is ∙ unlacked);
  spared = λ spared unlacked. after_is ∙ one.spared (to_one spared) (sym before_is ∙ unlacked);
}
