-- Calls and closes of a node whose result does not tell that it may have lacked something found all that they asked for.
use Rattle.std.proofs.Common.{◌≡◌, ◌≢◌, ◌∙◌, inl, inr, ℕ, Bool, true, false, codes, List, [], ◌∷◌, ◌++◌, map, get_or, Option, Some, None, refl, ap, sym, subst, append_assoc, ◌⊎◌}
use Rattle.std.specs.Prelude.{IfSome, Ok, Err, ◌||◌}
use Rattle.std.specs.List.{AllByRecursion}
use Rattle.std.specs.Str.{bytes_eq}
use Rattle.std.proofs.lemmas.Bool.Decides.{Decides-eqb}
use Rattle.std.proofs.lemmas.Slice.Eq.{ends_is}
use Rattle.ext_model.specs.declared.look.Fault.{Fault}
use Rattle.ext_model.specs.declared.look.Fault.TheVariants as faults
use Rattle.ext_model.specs.Lacks.{ends_as_refused, fault_tells_lack, tells_lack}
use Rattle.ext_lifecycle.specs.declared.call.Call.{Call}
use Rattle.ext_lifecycle.specs.declared.outcome.Outcome.{Outcome}
use Rattle.ext_lifecycle.specs.declared.outcome.Verdict.{Verdict}
use Rattle.ext_lifecycle.specs.Endings.{Ending, successful, aborted, failed, ending_tells, endings_tell, with_fault}
use Rattle.ext_lifecycle.specs.FaultTexts.{fault_text}
use Rattle.ext_lifecycle.specs.Lifecycle.{ending_of}
use Rattle.ext_lifecycle.specs.Results.{ResultOf, close_ending, result_of}
use Rattle.ext_lifecycle.proofs.OtherFaults.{text-tells}
use Rattle.ext_locks.specs.Sets.{HeldView}
use Rattle.ext_plan.specs.declared.reason.Reason.{Reason}
use Rattle.ext_plan.specs.declared.reason.Reason.TheVariants as reasons
use Rattle.ext_plan.specs.Plans.{PlanText, StepText, KeyText, StepKeyText}
use Rattle.ext_plan.specs.PlanCalls.{steps_of_call}
use Rattle.ext_plan.specs.StepCalls.{label_of}
use Rattle.ext_plan.specs.Steps.{step_key}
use Rattle.ext_plan.specs.StepTexts.{refused_text, words}
use Rattle.ext_plan.specs.Verdicts.{refused}
use Rattle.ext_plan_plain.proofs.Spared.{neither}
use Rattle.ext_store.specs.Stores.{StoreView}
use Rattle.ext_closing.specs.Closing.{Answer, fault_in}
use Rattle.ext_plan_parallel.specs.ParallelRun.{MakesCall}
use Rattle.ext_plan_parallel.specs.PlanActions.{AnswersClose}
use Rattle.ext_plan_parallel.specs.Saying.{no_memory}
use Rattle.ext_plan_parallel.specs.StoreCalls.{PlanLane}
use Rattle.ext_one_report.specs.FullRuns.{AnswersText, CallsFully, FindsAll, IsForRoom, StepFinds, name_of}

-- ---- texts

-- one of six is true
second-of : (a b c d e f : Bool) → b ≡ true → (a || b || c || d || e || f) ≡ true
second-of true b c d e f is = refl
second-of false true c d e f is = refl
second-of false false c d e f is = absurd cc

third-of : (a b c d e f : Bool) → c ≡ true → (a || b || c || d || e || f) ≡ true
third-of true b c d e f is = refl
third-of false true c d e f is = refl
third-of false false true d e f is = refl
third-of false false false d e f is = absurd cc

fourth-of : (a b c d e f : Bool) → d ≡ true → (a || b || c || d || e || f) ≡ true
fourth-of true b c d e f is = refl
fourth-of false true c d e f is = refl
fourth-of false false true d e f is = refl
fourth-of false false false true e f is = refl
fourth-of false false false false e f is = absurd cc

fifth-of : (a b c d e f : Bool) → e ≡ true → (a || b || c || d || e || f) ≡ true
fifth-of true b c d e f is = refl
fifth-of false true c d e f is = refl
fifth-of false false true d e f is = refl
fifth-of false false false true e f is = refl
fifth-of false false false false true f is = refl
fifth-of false false false false false f is = absurd cc

last-of : (a b c d e f : Bool) → f ≡ true → (a || b || c || d || e || f) ≡ true
last-of true b c d e f is = refl
last-of false true c d e f is = refl
last-of false false true d e f is = refl
last-of false false false true e f is = refl
last-of false false false false true f is = refl
last-of false false false false false f is = is

ends-so : (name label : List ℕ) (why : Reason) → ends_as_refused (refused_text name label (words why)) (words why) ≡ true
unfolding refused_text
ends-so name label why =
    let front = name ++ codes " " ++ label in
    (ends_is Decides-eqb (front ++ codes ": " ++ words why) (codes ": " ++ words why) _ refl).1 front (append_assoc front (codes ": ") (words why))

-- a step that is refused for want of room says so
refusal-tells : (name label : List ℕ) (why : Reason) → IsForRoom why → tells_lack (refused_text name label (words why)) ≡ true
refusal-tells name label reasons.Busy for_room = absurd for_room
refusal-tells name label reasons.Closed for_room = absurd for_room
refusal-tells name label reasons.Exhausted for_room =
    let t = refused_text name label (words reasons.Exhausted) in
    second-of (bytes_eq t (codes "no memory")) (ends_as_refused t (words reasons.Exhausted)) (ends_as_refused t (words reasons.NumbersFull)) (ends_as_refused t (words reasons.DirectoryFull)) (ends_as_refused t (words reasons.Unplaced))
    (ends_as_refused t (words reasons.NotShown)) (ends-so name label reasons.Exhausted)
refusal-tells name label reasons.NumbersFull for_room =
    let t = refused_text name label (words reasons.NumbersFull) in
    third-of (bytes_eq t (codes "no memory")) (ends_as_refused t (words reasons.Exhausted)) (ends_as_refused t (words reasons.NumbersFull)) (ends_as_refused t (words reasons.DirectoryFull)) (ends_as_refused t (words reasons.Unplaced))
    (ends_as_refused t (words reasons.NotShown)) (ends-so name label reasons.NumbersFull)
refusal-tells name label reasons.DirectoryFull for_room =
    let t = refused_text name label (words reasons.DirectoryFull) in
    fourth-of (bytes_eq t (codes "no memory")) (ends_as_refused t (words reasons.Exhausted)) (ends_as_refused t (words reasons.NumbersFull)) (ends_as_refused t (words reasons.DirectoryFull)) (ends_as_refused t (words reasons.Unplaced))
    (ends_as_refused t (words reasons.NotShown)) (ends-so name label reasons.DirectoryFull)
refusal-tells name label reasons.Unplaced for_room =
    let t = refused_text name label (words reasons.Unplaced) in
    fifth-of (bytes_eq t (codes "no memory")) (ends_as_refused t (words reasons.Exhausted)) (ends_as_refused t (words reasons.NumbersFull)) (ends_as_refused t (words reasons.DirectoryFull)) (ends_as_refused t (words reasons.Unplaced))
    (ends_as_refused t (words reasons.NotShown)) (ends-so name label reasons.Unplaced)
refusal-tells name label reasons.NotShown for_room =
    let t = refused_text name label (words reasons.NotShown) in
    last-of (bytes_eq t (codes "no memory")) (ends_as_refused t (words reasons.Exhausted)) (ends_as_refused t (words reasons.NumbersFull)) (ends_as_refused t (words reasons.DirectoryFull)) (ends_as_refused t (words reasons.Unplaced))
    (ends_as_refused t (words reasons.NotShown)) (ends-so name label reasons.NotShown)

memory-tells : fault_tells_lack faults.Memory ≡ true
memory-tells = refl

-- ---- endings that tell of no lack

abbrev pub IsSpared : Ending Fault → Type 0
IsSpared ending = ending_tells fault_tells_lack ending ≡ false

abbrev pub AllSpared : List (Ending Fault) → Type 0
AllSpared endings = AllByRecursion IsSpared endings

pub spared-append : (xs ys : List (Ending Fault)) → AllSpared (xs ++ ys) → AllSpared xs × AllSpared ys
spared-append [] ys all = (tt, all)
spared-append (x ∷ xs) ys all = let rest = spared-append xs ys all.1 in ((all.0, rest.0), rest.1)

-- ---- what is told of a node

each-spared : (all : List (Ending Fault)) → endings_tell fault_tells_lack all ≡ false → AllSpared all
each-spared [] spared = tt
each-spared (e ∷ all) spared = let both = neither (ending_tells fault_tells_lack e) (endings_tell fault_tells_lack all) spared in (both.0, each-spared all both.1)

-- a node that does not tell that it may have lacked something
abbrev pub NodeSpared : ResultOf Fault → Type 0
NodeSpared r = r.lacked ≡ false

pub endings-spared : (node : ℕ) (is_test : Bool) (calls : List (Ending Fault)) (computed found : ℕ) (closes : List (Option Fault)) → NodeSpared (result_of node is_test calls computed found closes)
    → AllSpared calls × AllSpared (map close_ending closes)
endings-spared node is_test calls computed found closes spared = spared-append calls (map close_ending closes) (each-spared (calls ++ map close_ending closes) spared)

-- ---- calls

not-memory : (verdict : Verdict) → IsSpared (ending_of verdict) → verdict ≢ no_memory
not-memory verdict spared is = let bad : true ≡ false = sym memory-tells ∙ subst (λ v. IsSpared (ending_of v)) is spared in absurd cc

room-by : (e : Ending Fault) (name label : List ℕ) (why : Reason) → IsSpared e → IsForRoom why → with_fault fault_text e ≢ refused name label why
room-by successful name label why spared for_room is = absurd cc
room-by (aborted fault) name label why spared for_room is = absurd cc
room-by (failed fault) name label why spared for_room is =
    let same : fault_text fault ≡ refused_text name label (words why) = cc is in
    let bad : true ≡ false = sym (refusal-tells name label why for_room) ∙ ap tells_lack (sym same) ∙ sym (text-tells fault) ∙ spared in
    absurd cc

finds-all : (name label : List ℕ) (outcome : Outcome) → IsSpared (ending_of outcome.verdict) → FindsAll name label outcome
finds-all name label outcome spared = record { memory = not-memory outcome.verdict spared; room = λ why for_room. room-by (ending_of outcome.verdict) name label why spared for_room }

finds-by : (keys : List KeyText) (step : StepText) (key : Option StepKeyText) (outcome : Outcome) → IsSpared (ending_of outcome.verdict) → IfSome key (λ k. FindsAll (name_of step) (label_of keys k) outcome)
finds-by keys step None outcome spared = tt
finds-by keys step (Some key) outcome spared = finds-all (name_of step) (label_of keys key) outcome spared

step-finds : (keys : List KeyText) (outcome : Outcome) (step : StepText) → IsSpared (ending_of outcome.verdict) → StepFinds keys outcome step
step-finds keys outcome step spared = (not-memory outcome.verdict spared, finds-by keys step (step_key step) outcome spared)

pub call-fully : (plan : PlanText) (store : StoreView) (node : ℕ) (call : Call) (held : Option HeldView) (a : PlanLane) (o : Outcome) (b : PlanLane) → MakesCall plan store node call held a o b → IsSpared (ending_of o.verdict)
    → CallsFully plan store node call held a o b
call-fully plan store node call held a o b made spared = record { made = made; finds = λ i d within. step-finds plan.keys o (get_or (steps_of_call plan call) i d) spared }

-- ---- closes

abbrev pub AnswerSpared : Answer → Type 0
AnswerSpared (Ok done) = Unit {0}
AnswerSpared (Err fault) = fault_tells_lack fault ≡ false

pub answers-spared : (answers : List Answer) → AllSpared (map close_ending (map fault_in answers)) → AllByRecursion AnswerSpared answers
answers-spared [] all = tt
answers-spared (Ok done ∷ answers) all = (tt, answers-spared answers all.1)
answers-spared (Err fault ∷ answers) all = (all.0, answers-spared answers all.1)

close-says : (text : List ℕ) (answer : Answer) (fault : Fault) → answer ≡ Err fault → (fault_text fault ≡ text) ⊎ (fault ≡ faults.Memory) → AnswerSpared answer → fault_text fault ≡ text
close-says text answer fault is (inl same) spared = same
close-says text answer fault is (inr memory) spared =
    let bad : true ≡ false = sym memory-tells ∙ ap fault_tells_lack (sym memory) ∙ subst AnswerSpared is spared in
    absurd cc

pub close-answers : (fails : Option (List ℕ)) (answer : Answer) → AnswersClose fails answer → AnswerSpared answer → AnswersText fails answer
close-answers None answer answers spared = answers
close-answers (Some text) answer answers spared = (answers.0, answers.1, close-says text answer answers.0 answers.1 answers.2 spared)
