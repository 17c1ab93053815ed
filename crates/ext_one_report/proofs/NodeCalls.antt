-- Which places the calls of a node touch.
use Rattle.std.proofs.Common.{◌≡◌, ℕ, zero, suc, ◌<◌, Bool, true, false, List, [], ◌∷◌, drop, length, arith}
use Rattle.std.specs.Prelude.{All, Contains}
use Rattle.std.proofs.lemmas.List.Elements.{Contains-get_or}
use Rattle.ext_history.proofs.Lists.{contains_here, contains_later}
use Rattle.ext_tree.specs.Keys.{KeyValue}
use Rattle.ext_plan.specs.Plans.{KeyText, StepKeyText, StepText, keyed, fail, abort}
use Rattle.ext_plan.specs.StepCalls.{start_of}
use Rattle.ext_plan.specs.Steps.{height}
use Rattle.ext_plan.specs.StepWords.{looks_along}
use Rattle.ext_plan.specs.StoreKeys.{key_of_step}
use Rattle.ext_one_report.proofs.CallsWords.{StepWithin}
use Rattle.ext_one_report.proofs.MatchingWords.{Places}
use Rattle.ext_one_report.proofs.StepsWords.{TouchesWithin}

start_on : (path : List ℕ) (up : ℕ) → up < length path → Contains path (start_of (drop up path))
start_on [] up less = absurd (omega (arith, less))
start_on (c ∷ path) zero less = contains_here c path
start_on (c ∷ path) (suc up) less = contains_later c path (start_of (drop up path)) (start_on path up (omega (arith, less)))

drop_on : (path : List ℕ) (up context : ℕ) → Contains (drop up path) context → Contains path context
drop_on path zero context there = there
drop_on [] (suc up) context there = there
drop_on (c ∷ path) (suc up) context there = contains_later c path context (drop_on path up context there)

pub each_of : {A : Type 0} (P Q : A → Type 0) (xs : List A) → ((x : A) → P x → Q x) → All P xs → All Q xs
each_of P Q xs each all = λ k d within. each _ (all k d within)

module _ (keys : List KeyText) (path : List ℕ) (places more : Places) (each : (context : ℕ) (key : KeyValue) → Contains path context → places context key ≡ true → more context key ≡ true) where
  touches_more : (looks : Bool) (key : StepKeyText) (up : ℕ) → up < length path → TouchesWithin looks keys path places key up → TouchesWithin looks keys path more key up
  touches_more true key up less all = λ k d within. each _ (key_of_step keys key) (drop_on path up _ (Contains-get_or (drop up path) k d within)) (all k d within)
  touches_more false key up less is = each (start_of (drop up path)) (key_of_step keys key) (start_on path up less) is

  pub step_more : (step : StepText) → height step < length path → StepWithin keys path places step → StepWithin keys path more step
  step_more (keyed word key text up) less is = touches_more (looks_along word) key up less is
  step_more (fail text) less is = tt
  step_more (abort text) less is = tt
