-- How steps end, from what the calls of the store and the words of steps say.
use Rattle.std.proofs.Common.{◌≡◌, ℕ, List, false, subst, sym, ap, ◌∙◌, inl, inr}
use Rattle.std.specs.Prelude.{Result, Ok, Err, IfOk, IfErr}
use Rattle.std.specs.declared.alloc.AllocError.{AllocError}
use Rattle.ext_model.specs.declared.look.Fault.{Fault}
use Rattle.ext_model.specs.declared.look.Look.{Look}
use Rattle.ext_model.specs.declared.look.Look.TheVariants as look
use Rattle.ext_lifecycle.specs.declared.outcome.Outcome.{Outcome}
use Rattle.ext_lifecycle.specs.declared.outcome.Verdict.{Verdict}
use Rattle.ext_lifecycle.specs.declared.outcome.Verdict.TheVariants as verdicts
use Rattle.ext_lifecycle.specs.Endings.{successful, aborted, failed, is_successful}
use Rattle.ext_lifecycle.specs.FaultTexts.{VerdictText, verdict_text}
use Rattle.ext_values.specs.Known.{Known}
use Rattle.ext_cells.specs.Lanes.{Lane}
use Rattle.ext_store.specs.Stores.{StoreView}
use Rattle.ext_store.specs.LaneCalls.{Gets}
use Rattle.ext_plan.specs.Verdicts.{SeenText}
use Rattle.ext_plan_parallel.specs.Saying.{no_memory, Says, Ends}
use Rattle.ext_plan_parallel.specs.StoreCalls.{PlanLane, PlanNotes, ShowsNumber, ShowsFault, Shows, Sees}

-- what is shown goes by what the lane knew before the look-up
shows_from : (before between after : PlanLane) (answer : Look) (seen : SeenText) → between.known ≡ before.known → between.faults ≡ before.faults → Shows answer between seen after → Shows answer before seen after
shows_from before between after (look.Found at number) seen known faults shown = (shown.0 ∙ faults, subst (λ (k : PlanNotes). ShowsNumber number k seen after.known) known shown.1)
shows_from before between after (look.Fault at number) seen known faults shown = (shown.0 ∙ known, subst (λ (k : List (Known Fault)). ShowsFault number k seen after.faults) faults shown.1)
shows_from before between after look.Absent seen known faults shown = ((shown.0.0 ∙ known, shown.0.1 ∙ faults), shown.1)
shows_from before between after (look.Busy at) seen known faults shown = shown
shows_from before between after (look.Closed at) seen known faults shown = ((shown.0.0 ∙ known, shown.0.1 ∙ faults), shown.1)

-- a look-up, and after it what shows what was found
pub sees_shown : (store : StoreView) (context key : ℕ) (before between after : PlanLane) (met answer : Look) (seen : SeenText)
    → met ≡ answer → Gets store context key before.cells between.cells (Ok met) → between.known ≡ before.known → between.faults ≡ before.faults → after.cells ≡ between.cells → Shows answer between seen after
    → Sees store context key before seen after
sees_shown store context key before between after met answer seen is looked known faults cells shown = record {
  answer = answer;
  looked = subst (λ (x : Look × Lane). Gets store context key before.cells x.1 (Ok x.0)) (λ i. (is i, sym cells i)) looked;
  shown = shows_from before between after answer seen known faults shown;
}

-- ---- verdicts

says_text : (said : VerdictText) (verdict : Verdict) → verdict_text verdict ≡ said → Says said verdict
says_text successful verdict is = is
says_text (aborted text) verdict is = inl is
says_text (failed text) verdict is = inl is

says_memory : (said : VerdictText) (verdict : Verdict) → is_successful said ≡ false → verdict ≡ no_memory → Says said verdict
says_memory successful verdict fails is = absurd (cc)
says_memory (aborted text) verdict fails is = inr is
says_memory (failed text) verdict fails is = inr is

says_either : (said : VerdictText) (made : Result Verdict AllocError) (verdict : Verdict)
    → IfOk made (λ v. verdict_text v ≡ said) → IfErr made (λ _. is_successful said ≡ false) → IfOk made (λ v. verdict ≡ v) → IfErr made (λ _. verdict ≡ no_memory)
    → Says said verdict
says_either said (Ok v) verdict text fails same memory = says_text said verdict (ap verdict_text same ∙ text)
says_either said (Err e) verdict text fails same memory = says_memory said verdict fails memory

-- a step ends with a verdict that was made, or for want of memory
pub ends_with : (said : VerdictText) (made : Result Verdict AllocError) (verdict : Verdict) (computed found : ℕ) (outcome : Outcome)
    → IfOk made (λ v. verdict_text v ≡ said) → IfErr made (λ _. is_successful said ≡ false) → IfOk made (λ v. verdict ≡ v) → IfErr made (λ _. verdict ≡ no_memory)
    → outcome.verdict ≡ verdict → outcome.computed ≡ computed → outcome.found ≡ found
    → Ends said computed found outcome
ends_with said made verdict computed found outcome text fails same memory is computed_are found_are = record {
  says = subst (λ v. Says said v) (sym is) (says_either said made verdict text fails same memory);
  computed_are = computed_are;
  found_are = found_are;
}

-- a step that is successful
pub ends_well : (computed found : ℕ) (outcome : Outcome) → outcome.verdict ≡ verdicts.Successful → outcome.computed ≡ computed → outcome.found ≡ found → Ends successful computed found outcome
ends_well computed found outcome is computed_are found_are = record { says = ap verdict_text is; computed_are = computed_are; found_are = found_are }
