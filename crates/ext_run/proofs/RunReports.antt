-- What a run gives, from its parts.
use Rattle.std.proofs.Common.{◌≡◌, ◌≤◌, ℕ, Bool, true, false, List, [], ◌∷◌, length, map, Option, Some, None, Result, Ok, Err, IfOk, IfErr, refl, ap, sym, subst, ◌∙◌}
use Rattle.std.specs.Prelude.{IfSome}
use Rattle.std.specs.Result.{IsErrAnd}
use Rattle.std.proofs.lemmas.Bool.{le-ltb}
use Rattle.std.specs.Str.{IsUtf8, is_utf8}
use Rattle.std.proofs.lemmas.Str.{IsUtf8-from_is_utf8, is_utf8-from_IsUtf8}
use Rattle.ext_lifecycle.specs.declared.node_result.NodeResult.{NodeResult}
use Rattle.ext_lifecycle.specs.FaultTexts.{fault_text, result_view, results_view}
use Rattle.ext_lifecycle.specs.Results.{as_result, map_fault}
use Rattle.ext_model.specs.declared.size.Size.{Size}
use Rattle.ext_plan_reading.specs.declared.fault.PlanFault.{PlanFault}
use Rattle.ext_plan_reading.specs.declared.fault.PlanFault.TheVariants as plan
use Rattle.ext_plan_reading.specs.Plans.{PlanText}
use Rattle.ext_plan_reading.specs.Faults.{Fails, Gives}
use Rattle.ext_plan_reading.specs.Reading.{plan_of_text}
use Rattle.ext_run.specs.declared.fault.RunFault.{RunFault}
use Rattle.ext_run.specs.declared.fault.RunFault.TheVariants as faults
use Rattle.ext_run.specs.declared.options.Options.{Options}
use Rattle.ext_run.specs.declared.options.Summary.{Summary}
use Rattle.ext_run.specs.Reports.{RunReport, input_limit, plan_of_bytes, plan_of_input, plan_or_fault, IsRunFault, RefusedAs, RefusedPlan}
use Rattle.ext_run.specs.InnerOutputs.{IsPlanFault}

pub plan_of_utf8 : (size : Size) (input : List ℕ) → IsUtf8 input → plan_of_bytes size input ≡ plan_or_fault (plan_of_text size input)
unfolding plan_of_bytes
plan_of_utf8 size input h = rw (is_utf8-from_IsUtf8 input h) refl

not_true : (b : Bool) → (b ≡ true → ⊥) → b ≡ false
not_true true h = absurd (h refl)
not_true false h = refl

pub plan_of_others : (size : Size) (input : List ℕ) → (IsUtf8 input → ⊥) → plan_of_bytes size input ≡ Err (faults.Plan plan.NotUtf8)
unfolding plan_of_bytes
plan_of_others size input h = rw (not_true (is_utf8 input) (λ e. h (IsUtf8-from_is_utf8 input e))) refl

-- a refused plan is refused with its fault
refused_with : (fault : PlanFault) (read : Result PlanText PlanFault) → Fails fault read → RefusedPlan fault (plan_or_fault read)
refused_with plan.Memory read h = tt
refused_with plan.NotUtf8 read h = rw h refl
refused_with plan.NotToml read h = rw h refl
refused_with (plan.UnknownField part) read h = rw h refl
refused_with (plan.BadField part) read h = rw h refl
refused_with (plan.BadLabel key) read h = rw h refl
refused_with (plan.BadId node) read h = rw h refl
refused_with plan.BadTree read h = rw h refl
refused_with (plan.BadStep node) read h = rw h refl
refused_with (plan.BadLock node) read h = rw h refl
refused_with (plan.BadTest node) read h = rw h refl
refused_with plan.TooMany read h = rw h refl

-- what reading the text of these bytes gives
module _ {X : Type 0} (view : X → PlanText) (size : Size) (bytes text : List ℕ) (utf8 : IsUtf8 bytes) (same : text ≡ bytes) where
  bytes_are : plan_of_bytes size bytes ≡ plan_or_fault (plan_of_text size text)
  bytes_are = plan_of_utf8 size bytes utf8 ∙ ap (λ t. plan_or_fault (plan_of_text size t)) (sym same)

  pub bytes_read : (r : Result X PlanFault) → Gives view r (plan_of_text size text) → IfOk r (λ x. plan_of_bytes size bytes ≡ Ok (view x))
  bytes_read (Ok x) given = bytes_are ∙ ap plan_or_fault given
  bytes_read (Err e) given = tt

  pub bytes_refused : (r : Result X PlanFault) → Gives view r (plan_of_text size text) → IfErr r (λ fault. RefusedPlan fault (plan_of_bytes size bytes))
  bytes_refused (Ok x) given = tt
  bytes_refused (Err e) given = subst (RefusedPlan e) (sym bytes_are) (refused_with e (plan_of_text size text) given)

-- a fault of the run of a plan that was read
pub RefusedAs-read : (options : Options) (text : PlanText) (fault : RunFault) → IsPlanFault options text fault → RefusedAs options fault (Ok text)
RefusedAs-read options text faults.Read why = absurd why
RefusedAs-read options text faults.Write why = absurd why
RefusedAs-read options text faults.TooLong why = absurd why
RefusedAs-read options text (faults.Plan fault) why = absurd why
RefusedAs-read options text (faults.Engine fault) why = why
RefusedAs-read options text faults.Memory why = tt

pub IsRunFault-read : (options : Options) (text : PlanText) (fault : RunFault) → IsPlanFault options text fault → IsRunFault fault
IsRunFault-read options text faults.Read why = why
IsRunFault-read options text faults.Write why = tt
IsRunFault-read options text faults.TooLong why = why
IsRunFault-read options text (faults.Plan fault) why = why
IsRunFault-read options text (faults.Engine fault) why = tt
IsRunFault-read options text faults.Memory why = tt

pub run_report_is : (report report' : List ℕ) (failed failed' lacked : Bool) → report ≡ report' → failed ≡ failed'
    → (let old : RunReport = record { report = report; failed = failed; lacked = lacked } in let new : RunReport = record { report = report'; failed = failed'; lacked = lacked } in old ≡ new)
run_report_is report report' failed failed' lacked e f = ap (λ r. record { report = r; failed = failed; lacked = lacked }) e ∙ ap (λ b. record { report = report'; failed = b; lacked = lacked }) f

-- what is told of the results, with the texts of their faults
pub with_texts : (results : List NodeResult) → results_view results ≡ map (map_fault fault_text) (map as_result results)
with_texts [] = refl
with_texts (r ∷ results) = ap (λ l. result_view r ∷ l) (with_texts results)

-- ---- an input that was read whole

plan_of_short : (size : Size) (input : List ℕ) → length input ≤ input_limit size → plan_of_input size input ≡ plan_of_bytes size input
unfolding plan_of_input
plan_of_short size input short = rw (le-ltb (input_limit size) (length input) short) refl

-- what was read of it
module _ (size : Size) (whole : Option (List ℕ)) (items bytes : List ℕ) (same : IfSome whole (λ input. items ≡ input)) (short : length items ≤ input_limit size) (all : bytes ≡ items) where
  pub of_whole : (P : Result PlanText RunFault → Type 0) → P (plan_of_bytes size bytes) → IfSome whole (λ input. P (plan_of_input size input))
  of_whole P h = each whole same where
    each : (given : Option (List ℕ)) → IfSome given (λ input. items ≡ input) → IfSome given (λ input. P (plan_of_input size input))
    each None is = tt
    each (Some input) is = subst P (sym (ap (plan_of_input size) (sym is) ∙ plan_of_short size items short ∙ ap (plan_of_bytes size) (sym all))) h

  -- what was written of it, if this holds of the plan that was read
  pub written : (Gives : Result PlanText RunFault → RunReport → Type 0) (text : PlanText) (r : Result Summary RunFault) (Written : List ℕ → Type 0) → plan_of_bytes size bytes ≡ Ok text
      → IfOk r (λ s. (x : List ℕ) × Gives (Ok text) (record { report = x; failed = s.failed; lacked = s.lacked }) × Written x)
      → IfOk r (λ s. IfSome whole (λ input. (x : List ℕ) × Gives (plan_of_input size input) (record { report = x; failed = s.failed; lacked = s.lacked }) × Written x))
  written Gives text (Err e) Written read done = tt
  written Gives text (Ok s) Written read done =
      of_whole (λ p. (x : List ℕ) × Gives p (record { report = x; failed = s.failed; lacked = s.lacked }) × Written x)
      (subst (λ p. (x : List ℕ) × Gives p (record { report = x; failed = s.failed; lacked = s.lacked }) × Written x) (sym read) done)

-- ---- the report of a plan that was read

pub reported : (Gives : RunReport → Type 0) (report wrote : List ℕ) (failed lacked : Bool) (Written : List ℕ → Type 0) → Gives (record { report = report; failed = failed; lacked = lacked }) → wrote ≡ report → Written wrote
    → (x : List ℕ) × Gives (record { report = x; failed = failed; lacked = lacked }) × Written x
reported Gives report wrote failed lacked Written given is done = (report, given, subst Written is done)

-- the write of it failed
pub unwritten : {A : Type 0} (options : Options) (text : PlanText) (r : Result A RunFault) (given : RunFault) → IsErrAnd r (λ e. e ≡ given) → given ≡ faults.Write → IfErr r (λ fault. RefusedAs options fault (Ok text))
unwritten options text (Ok x) given errs is = tt
unwritten options text (Err e) given errs is = subst (λ fault. RefusedAs options fault (Ok text)) (sym (errs ∙ is)) refl
