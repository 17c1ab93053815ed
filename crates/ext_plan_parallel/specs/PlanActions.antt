-- How the values of a plan's run are closed (Javadoc `ExtensionContext.Store.CloseableResource`). `Values` of ext_plan
-- says which closes fail.
use Rattle.std.specs.Prelude.{◌≡◌, ◌⊎◌, ℕ, List, Option, Some, None, Result, Ok, Err}
use Rattle.ext_model.specs.declared.look.Fault.{Fault}
use Rattle.ext_model.specs.declared.look.Fault.TheVariants as faults
use Rattle.ext_lifecycle.specs.FaultTexts.{fault_text}

-- A close that must fail answers the fault with this text, or that there was no memory for the text. Any other
-- succeeds.
abbrev pub AnswersClose : Option (List ℕ) → Result (Unit {0}) Fault → Type 0
AnswersClose None answer = answer ≡ Ok tt
AnswersClose (Some text) answer = (fault : Fault) × (answer ≡ Err fault)
    × ((fault_text fault ≡ text) ⊎ (fault ≡ faults.Memory))
