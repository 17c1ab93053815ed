-- How the closes of a context end, as texts: by what the numbers stand for that the seals keep.
use Rattle.std.proofs.Common.{◌≡◌, ℕ, Bool, true, false, List, [], ◌∷◌, ◌++◌, map, Contains, Option, None, Some, refl, ap, sym, ◌∙◌, append-nil, append_assoc}
use Rattle.std.specs.Prelude.{if◌then◌else◌, option_map}
use Rattle.std.specs.List.{FoldsTo}
use Rattle.std.proofs.lemmas.List.{map-append}
use Rattle.ext_values.specs.Known.{known_at}
use Rattle.ext_lifecycle.specs.FaultTexts.{fault_text}
use Rattle.ext_closing.specs.Closing.{Answer, CallIf, Closing, ClosesOne, fault_in}
use Rattle.ext_plan.specs.Values.{ValueText, close_fault}
use Rattle.ext_plan_plain.specs.ValueStates.{value_of}
use Rattle.ext_plan_plain.specs.ContextEnds.{closeables, if_closeable}
use Rattle.ext_plan_parallel.specs.declared.steps.stored_value.StoredValue.{StoredValue}
use Rattle.ext_plan_parallel.specs.StoreCalls.{PlanLane, stored_view}
use Rattle.ext_one_report.specs.FullRuns.{AnswersText, ClosesFully}
use Rattle.ext_one_report.proofs.CloseLists.{there_of, with_some}

-- a value where it is closeable
abbrev pub closeable : Option ValueText → Option ValueText
closeable None = None
closeable (Some value) = if value.closeable then Some value else None

-- what a close of a value answered, as a text
abbrev pub text_in : Answer → Option (List ℕ)
text_in answer = option_map fault_text (fault_in answer)

-- ---- the plain run

if_there : (value : Option ValueText) (more : List ValueText) → if_closeable value more ≡ with_some (closeable value) more
if_there None more = refl
if_there (Some value) more = by_bool value.closeable
  where
    by_bool : (b : Bool) → (if b then value ∷ more else more) ≡ with_some (if b then Some value else None) more
    by_bool true = refl
    by_bool false = refl

pub closeables_are : (values : List ValueText) (numbers : List ℕ) → closeables values numbers ≡ there_of (λ number. closeable (value_of values number)) numbers
closeables_are values [] = refl
closeables_are values (number ∷ more) =
    if_there (value_of values number) (closeables values more) ∙ ap (with_some (closeable (value_of values number))) (closeables_are values more)

-- ---- the lanes

answer_told : (text : Option (List ℕ)) (answer : Answer) → AnswersText text answer → text_in answer ≡ text
answer_told None answer is = ap text_in is
answer_told (Some text) answer is = ap text_in is.1 ∙ ap Some is.2

-- the answers so far, as texts
abbrev pub texts : Closing ℕ → List (Option (List ℕ))
texts closing = map text_in closing.answers

call_told : (b : Bool) (number : ℕ) (value : StoredValue) (before after : Closing ℕ) → CallIf (λ v. v.value.closeable) ClosesFully b number value before after
    → texts after ≡ texts before ++ map close_fault (with_some (if b then Some (stored_view value) else None) [])
call_told true number value before after call =
    let answer = call.0 in
    ap (map text_in) call.2
    ∙ (map-append text_in before.answers (answer ∷ []) ∙ ap (λ x. texts before ++ x ∷ []) (answer_told (close_fault (stored_view value)) answer call.1.0))
call_told false number value before after call = ap texts call ∙ sym (append-nil (texts before))

module _ (lanes : List PlanLane) (meaning : ℕ → Option ValueText)
    (knows : (lane : PlanLane) → Contains lanes lane → (number : ℕ) (value : StoredValue) → known_at lane.known number ≡ Some value → meaning number ≡ Some (stored_view value)) where
  some_append : (x : Option ValueText) (more : List ValueText) → map close_fault (with_some x more) ≡ map close_fault (with_some x []) ++ map close_fault more
  some_append None more = refl
  some_append (Some value) more = refl

  pub closes_told : (numbers : List ℕ) (before after : Closing ℕ) → FoldsTo (ClosesOne (λ v. v.value.closeable) ClosesFully lanes) before numbers after
      → texts after ≡ texts before ++ map close_fault (there_of (λ number. closeable (meaning number)) numbers)
  closes_told [] before after same = ap texts (sym same) ∙ sym (append-nil (texts before))
  closes_told (number ∷ numbers) before after folds =
      let between = folds.0 in
      let value = folds.1.0 in
      let is : closeable (Some (stored_view value)) ≡ closeable (meaning number) = ap closeable (sym (knows folds.1.1.lane folds.1.1.in_hand number value folds.1.1.known)) in
      let one : texts between ≡ texts before ++ map close_fault (with_some (closeable (meaning number)) []) =
      call_told value.value.closeable number value before between folds.1.2 ∙ ap (λ x. texts before ++ map close_fault (with_some x [])) is in
      let rest = there_of (λ number. closeable (meaning number)) numbers in
      closes_told numbers between after folds.2
      ∙ (ap (λ l. l ++ map close_fault rest) one
      ∙ (append_assoc (texts before) (map close_fault (with_some (closeable (meaning number)) [])) (map close_fault rest) ∙ ap (λ l. texts before ++ l) (sym (some_append (closeable (meaning number)) rest))))
