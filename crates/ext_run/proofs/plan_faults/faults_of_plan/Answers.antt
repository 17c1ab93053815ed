use Rattle.std.proofs.Common.{◌≡◌, ℕ, List, [], ◌∷◌, IsUtf8, refl}
use Rattle.std.proofs.lemmas.Bool.{false_from_ne_true}
use Rattle.std.specs.Str.{is_utf8}
use Rattle.std.proofs.lemmas.Str.{is_utf8-from_IsUtf8, IsUtf8-from_is_utf8}
use Rattle.ext_model.specs.declared.size.Size.{Size}
use Rattle.ext_plan_reading.specs.AllFaults.{faults_of_text}
use Rattle.ext_plan_reading.specs.declared.fault.PlanFault.TheVariants as plan
use Rattle.ext_run.specs.PlanFaults.{faults_of_bytes}
use Rattle.ext_run.proofs.plan_faults.faults_of_plan.Goals as goal

of_text : (size : Size) (input : List ℕ) → IsUtf8 input → faults_of_bytes size input ≡ faults_of_text size input
unfolding faults_of_bytes
of_text size input h = rw (is_utf8-from_IsUtf8 input h) refl

of_others : (size : Size) (input : List ℕ) → (IsUtf8 input → ⊥) → faults_of_bytes size input ≡ plan.NotUtf8 ∷ []
unfolding faults_of_bytes
of_others size input h = rw (false_from_ne_true (is_utf8 input) (λ e. h (IsUtf8-from_is_utf8 input e))) refl

pub returns-in-Ok : goal.returns-in-Ok
returns-in-Ok c =
    let text = c.in-Ok.ensures.cases in
    rw (of_text c.args.size c.args.input.now text.1, ← text.0) c.all_faults.ensures.exact

pub returns-in-Err : goal.returns-in-Err
returns-in-Err c = rw (of_others c.args.size c.args.input.now c.in-Err.ensures.cases.0) c.no_text.ensures
