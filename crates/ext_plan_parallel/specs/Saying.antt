-- What a step on a store for several threads says: its verdict has the text of what happened, or says that there was no
-- memory for that text.
use Rattle.std.specs.Prelude.{◌≡◌, ◌⊎◌, ℕ, List}
use Rattle.ext_model.specs.declared.look.Fault.TheVariants as faults
use Rattle.ext_lifecycle.specs.declared.outcome.Outcome.{Outcome}
use Rattle.ext_lifecycle.specs.declared.outcome.Verdict.{Verdict}
use Rattle.ext_lifecycle.specs.declared.outcome.Verdict.TheVariants as verdicts
use Rattle.ext_lifecycle.specs.Endings.{successful, aborted, failed}
use Rattle.ext_lifecycle.specs.FaultTexts.{VerdictText, verdict_text}
use Rattle.ext_plan.specs.declared.reason.Reason.TheVariants as reasons
use Rattle.ext_plan.specs.Verdicts.{refused}
use Rattle.ext_store_core.specs.declared.fault.Refusal.{Refusal}
use Rattle.ext_store_core.specs.declared.fault.Refusal.TheVariants as refusal
use Rattle.ext_store.specs.declared.fault.KeepFault.{KeepFault}
use Rattle.ext_store.specs.declared.fault.KeepFault.TheVariants as keep_fault

abbrev pub no_memory : Verdict
no_memory = verdicts.Failed faults.Memory

-- The verdict says this, or that there was no memory for its text. A success has no text.
abbrev pub Says : VerdictText → Verdict → Type 0
Says successful verdict = verdict_text verdict ≡ successful
Says (aborted text) verdict = (verdict_text verdict ≡ aborted text) ⊎ (verdict ≡ no_memory)
Says (failed text) verdict = (verdict_text verdict ≡ failed text) ⊎ (verdict ≡ no_memory)

-- The outcome says this, and counts this many computed and found values.
pub record Ends (said : VerdictText) (computed found : ℕ) (outcome : Outcome) : Type 0 where
  pub says : Says said outcome.verdict
  pub computed_are : outcome.computed ≡ computed
  pub found_are : outcome.found ≡ found

-- There was no memory for what the step does.
abbrev pub EndsNoMemory : Outcome → Type 0
EndsNoMemory outcome = (outcome.verdict ≡ no_memory) × (outcome.computed ≡ 0) × (outcome.found ≡ 0)

-- ---- refusals of the waiting forms

-- The end of a step with this name and label whose call was refused. Waiting forms are never refused for a running
-- factory or other lanes in the way, and a key is never left without a place.
abbrev pub EndsRefused : List ℕ → List ℕ → Refusal → Outcome → Type 0
EndsRefused name label (refusal.Busy at) outcome = ⊥
EndsRefused name label (refusal.Closed at) outcome = Ends (refused name label reasons.Closed) 0 0 outcome
EndsRefused name label refusal.Contended outcome = ⊥
EndsRefused name label refusal.Exhausted outcome = Ends (refused name label reasons.Exhausted) 0 0 outcome
EndsRefused name label refusal.DirectoryFull outcome = Ends (refused name label reasons.DirectoryFull) 0 0 outcome
EndsRefused name label refusal.Unplaced outcome = ⊥
EndsRefused name label refusal.Memory outcome = EndsNoMemory outcome

-- The end of a step whose value was not kept.
abbrev pub EndsUnkept : List ℕ → List ℕ → KeepFault → Outcome → Type 0
EndsUnkept name label keep_fault.Memory outcome = EndsNoMemory outcome
EndsUnkept name label keep_fault.NumbersFull outcome = Ends (refused name label reasons.NumbersFull) 0 0 outcome
EndsUnkept name label keep_fault.Contended outcome = ⊥
EndsUnkept name label keep_fault.Unplaced outcome = Ends (refused name label reasons.Unplaced) 0 0 outcome
