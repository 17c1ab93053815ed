-- A store's replies, from what the calls of the one-thread store ensure.
use Rattle.std.proofs.Common.{Bool, true, false, ◌≡◌, ℕ, ◌+◌, ◌-◌, List, [], ◌∷◌, ◌++◌, length, take, arith, Option, Some, None, Ok, Err, refl, ap, ◌∙◌}
use Rattle.std.specs.Prelude.{if◌then◌else◌}
use Rattle.std.proofs.lemmas.List.{take-append-le, take_all}
use Rattle.ext_model.specs.declared.plain_fault.PlainFault.{PlainFault}
use Rattle.ext_plan.specs.declared.reason.Reason.TheVariants as reasons
use Rattle.ext_model.specs.Events.{Reply, Happens, Answers, Refuses, NumbersFull, Busy, Closed, Standing, FaultStanding, Exhausted, Barred}
use Rattle.ext_model.specs.State.{State}
use Rattle.ext_model.specs.Plain.{Place, number_drawn, result_of}
use Rattle.ext_plan_plain.specs.ValueStates.{ValueState, refusal}
use Rattle.ext_tree.specs.Keys.{KeyValue}
use Rattle.ext_plan.specs.Values.{ValueText}

pub state_is : (keeps : Bool) (p q m n : ℕ) (a b : State Place) (keys : List KeyValue) (v w : List ValueText) → p ≡ q → m ≡ n → a ≡ b → v ≡ w
    → (let old : ValueState = record { keep_faults = keeps; places = p; numbers = m; store = a; keys = keys; values = v; memory = [] } in
    let new : ValueState = record { keep_faults = keeps; places = q; numbers = n; store = b; keys = keys; values = w; memory = [] } in old ≡ new)
state_is keeps p q m n a b keys v w c d e f =
    λ i. record { keep_faults = keeps; places = c i; numbers = d i; store = e i; keys = keys; values = f i; memory = [] }

-- an answer that isn't a fault is none of the refusals
pub reply_ok : {A : Type 0} (value : Option ℕ → A) (r : Reply) (x : A) → result_of value r ≡ Some (Ok x) → refusal r ≡ None
reply_ok value (Happens answer) x h = refl
reply_ok value (Answers answer) x h = refl
reply_ok value (Refuses NumbersFull) x h = absurd cc
reply_ok value (Refuses Busy) x h = absurd cc
reply_ok value (Refuses Closed) x h = absurd cc
reply_ok value (Refuses (Standing number)) x h = absurd cc
reply_ok value (Refuses (FaultStanding number)) x h = absurd cc
reply_ok value (Refuses Exhausted) x h = absurd cc
reply_ok value (Refuses Barred) x h = absurd cc

-- a number is refused only where all are drawn
pub keep_refused : (b : Bool) (answer : Option ℕ) (fault : PlainFault) → result_of number_drawn (if b then Happens answer else Refuses NumbersFull) ≡ Some (Err fault) → refusal (if b then Happens answer else Refuses NumbersFull) ≡ Some reasons.NumbersFull
keep_refused true answer fault is = absurd cc
keep_refused false answer fault is = refl

-- the last of a list is taken off again
pub popped : {A : Type 0} (xs : List A) (x : A) (n : ℕ) → n ≡ length xs + 1 → take (n - 1) (xs ++ x ∷ []) ≡ xs
popped xs x n is =
    let count : n - 1 ≡ length xs = omega (arith, is) in
    ap (λ k. take k (xs ++ x ∷ [])) count ∙ take-append-le (length xs) xs (x ∷ []) (omega arith) ∙ take_all (length xs) xs (omega arith)
