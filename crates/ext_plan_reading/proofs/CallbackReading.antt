-- What holds of the callbacks of a node that was read.
use Rattle.std.proofs.Common.{◌≡◌, ℕ, ◌+◌, ◌≤◌, true, false, List, [], ◌∷◌, ◌++◌, length, Option, Some, None, Ok, All, refl, ap, arith, length-append}
use Rattle.std.specs.Prelude.{is_some, nat_le}
use Rattle.std.proofs.lemmas.Bool.{leb-true}
use Rattle.std.proofs.lemmas.List.Elements.{All-push, All-nil}
use Rattle.ext_plan.specs.Plans.{StepText}
use Rattle.ext_plan.specs.Steps.{callback_limit}
use Rattle.ext_plan_reading.specs.declared.fault.PlanFault.TheVariants as faults
use Rattle.ext_plan_reading.specs.CallbackReading.{CallbackTexts, CallbackSteps, callbacks_after, callbacks_at, node_callbacks_at}
use Rattle.ext_plan_reading.specs.Faults.{check}
use Rattle.ext_plan_reading.specs.StepReading.{steps_at}
use Rattle.ext_plan_reading.proofs.Gave.{ok_value, both_gave, passed}
use Rattle.ext_plan_reading.proofs.StepReading.{AreFitting, steps_read}

-- ---- one field

-- the callbacks of a field: their steps fit, they are not too many, and where the field is not given there are none
pub record FieldFits (labels depth : ℕ) (texts : Option (List (List (List ℕ)))) (callbacks : List (List StepText)) : Type 0 where
  pub fit : All (AreFitting labels depth) callbacks
  pub few : length callbacks ≤ callback_limit
  pub none : is_some texts ≡ false → callbacks ≡ []

callbacks_fit : (labels : List (List ℕ)) (depth node : ℕ) (before : List (List StepText)) (lists : List (List (List ℕ))) (callbacks : List (List StepText))
    → All (AreFitting (length labels) depth) before → callbacks_after labels depth node before lists ≡ Ok callbacks → All (AreFitting (length labels) depth) callbacks
unfolding callbacks_after
callbacks_fit labels depth node before [] callbacks all h = rw (← ok_value before callbacks _ refl h) all
callbacks_fit labels depth node before (texts ∷ more) callbacks all h =
    let steps = both_gave (steps_at labels depth node texts) _ _ h in
    let fit = steps_read labels depth node texts steps.0 steps.1 in
    callbacks_fit labels depth node (before ++ steps.0 ∷ []) more callbacks (All-push (AreFitting (length labels) depth) before steps.0 all fit) steps.2

callbacks_counted : (labels : List (List ℕ)) (depth node : ℕ) (before : List (List StepText)) (lists : List (List (List ℕ))) (callbacks : List (List StepText))
    → callbacks_after labels depth node before lists ≡ Ok callbacks → length callbacks ≡ length before + length lists
unfolding callbacks_after
callbacks_counted labels depth node before [] callbacks h = let same = ap length (ok_value before callbacks _ refl h) in omega (arith, same)
callbacks_counted labels depth node before (texts ∷ more) callbacks h =
    let steps = both_gave (steps_at labels depth node texts) _ _ h in
    let rest = callbacks_counted labels depth node (before ++ steps.0 ∷ []) more callbacks steps.2 in
    omega (arith, rest, length-append before (steps.0 ∷ []))

given : {P : Type 0} → true ≡ false → P
given h = absurd cc

field_fits : (labels : List (List ℕ)) (depth node : ℕ) (texts : Option (List (List (List ℕ)))) (callbacks : List (List StepText))
    → callbacks_at labels depth node texts ≡ Ok callbacks → FieldFits (length labels) depth texts callbacks
unfolding callbacks_at
field_fits labels depth node None callbacks h =
    rw (← ok_value [] callbacks _ refl h) (record { fit = All-nil (AreFitting (length labels) depth); few = omega arith; none = λ _. refl })
field_fits labels depth node (Some lists) callbacks h =
    let few = both_gave (check (faults.BadStep node) (nat_le (length lists) callback_limit)) _ _ h in
    let count = callbacks_counted labels depth node [] lists callbacks few.2 in
    record {
      fit = callbacks_fit labels depth node [] lists callbacks (All-nil (AreFitting (length labels) depth)) few.2;
      few = omega (arith, count, leb-true _ _ (passed _ (nat_le (length lists) callback_limit) few.0 few.1));
      none = λ e. given e;
    }

-- ---- all fields of a node

pub record CallbacksFit (labels own least : ℕ) (texts : CallbackTexts) (callbacks : CallbackSteps) : Type 0 where
  pub before_all : FieldFits labels own texts.before_all callbacks.before_all
  pub after_all : FieldFits labels own texts.after_all callbacks.after_all
  pub before_each : FieldFits labels least texts.before_each callbacks.before_each
  pub after_each : FieldFits labels least texts.after_each callbacks.after_each

pub callbacks_read : (labels : List (List ℕ)) (own least node : ℕ) (texts : CallbackTexts) (callbacks : CallbackSteps)
    → node_callbacks_at labels own least node texts ≡ Ok callbacks → CallbacksFit (length labels) own least texts callbacks
unfolding node_callbacks_at
callbacks_read labels own least node texts callbacks h =
    let before_all = both_gave (callbacks_at labels own node texts.before_all) _ _ h in
    let after_all = both_gave (callbacks_at labels own node texts.after_all) _ _ before_all.2 in
    let before_each = both_gave (callbacks_at labels least node texts.before_each) _ _ after_all.2 in
    let after_each = both_gave (callbacks_at labels least node texts.after_each) _ _ before_each.2 in
    rw (← ok_value (record { before_all = before_all.0; after_all = after_all.0; before_each = before_each.0; after_each = after_each.0 }) callbacks _ refl after_each.2) (record {
      before_all = field_fits labels own node texts.before_all before_all.0 before_all.1;
      after_all = field_fits labels own node texts.after_all after_all.0 after_all.1;
      before_each = field_fits labels least node texts.before_each before_each.0 before_each.1;
      after_each = field_fits labels least node texts.after_each after_each.0 after_each.1;
    })
