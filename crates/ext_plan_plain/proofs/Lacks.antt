-- How a step ends that lacks memory.
use Rattle.std.proofs.Common.{◌≡◌, ℕ, Bool, true, false, List, Result, Ok, Err, IfErr, Option, Some, None, refl, ap, sym, subst, ◌∙◌}
use Rattle.std.specs.Prelude.{if◌then◌else◌}
use Rattle.std.specs.Result.{IsErrAnd}
use Rattle.std.proofs.lemmas.Result.{err_from_is_err_and}
use Rattle.ext_model.specs.declared.event.Act.{Act}
use Rattle.ext_model.specs.declared.event.Act.TheVariants.{Abandon, Claim, Fill, Fail}
use Rattle.ext_model.specs.declared.event.Event.{Event}
use Rattle.ext_model.specs.Events.{Reply, Happens, Answers, Refuses}
use Rattle.ext_model.specs.Plain.{Place, state_by}
use Rattle.ext_lifecycle.specs.declared.outcome.Outcome.{Outcome}
use Rattle.ext_lifecycle.specs.Endings.{successful, aborted, failed, is_successful}
use Rattle.ext_lifecycle.specs.declared.outcome.Verdict.TheVariants as verdicts
use Rattle.ext_lifecycle.specs.FaultTexts.{VerdictText, verdict_text}
use Rattle.ext_plan.specs.declared.reason.Reason.{Reason}
use Rattle.ext_plan.specs.Values.{ValueText}
use Rattle.ext_plan.specs.Verdicts.{refused, unless_refused}
use Rattle.ext_model.specs.declared.look.Look.TheVariants as look
use Rattle.ext_plan_plain.specs.declared.lack.Lack.{Lack}
use Rattle.ext_plan_plain.specs.declared.lack.Lack.TheVariants as lacks
use Rattle.ext_plan_plain.specs.ValueStates.{Memory, enough, no_key, no_value, no_number, no_place, no_words, ValueState, after_act, refusal, why_refused, next_number, keep_value}
use Rattle.ext_plan_plain.specs.StepRuns.{StepEnd, act_ends, claim_and, compute_by, compute_looked, computefail_by, computefail_looked, factory_gave, factory_failed, ended, no_memory, or_refused, said_by, without_words}
use Rattle.ext_plan_plain.specs.InnerSteps.{Fails, Gives, IsKeptAs, LacksFailed, LacksGiven, Says, answer_end, counted_found, lack_end, lacking, memory_of, step_end}

-- a call answers that it lacked this
pub at_lack : (F : Memory → StepEnd) (r : Result Outcome Lack) (new : ValueState) (told lack : Lack) → IsErrAnd r (λ l. l ≡ told) → told ≡ lack → lack_end new lack ≡ F (lacking lack)
    → answer_end new r ≡ F (memory_of r)
at_lack F r new told lack errs same is =
    let p = err_from_is_err_and r errs in
    let P : Lack → Type 0 = λ l. lack_end new l ≡ F (lacking l) in
    let Q : Result Outcome Lack → Type 0 = λ r. answer_end new r ≡ F (memory_of r) in
    subst Q (sym p.1) (subst P (sym (p.2 ∙ same)) is)

-- ---- what a step says

-- without its words it lacks what it lacks in the step's definition
without : (v : VerdictText) → is_successful v ≡ false → without_words v ≡ no_memory
without successful fails = absurd cc
without (aborted text) fails = refl
without (failed text) fails = refl

unsaid : (v : VerdictText) (old new : ValueState) → is_successful v ≡ false → new ≡ old → ended no_memory new ≡ said_by no_words (ended v old)
unsaid v old new fails same = ap (ended no_memory) same ∙ ap (λ w. ended w old) (sym (without v fails))

-- of a step that found a value where it would have computed one
pub found_unsaid : (v : VerdictText) (s : ValueState) → is_successful v ≡ false → lack_end s (lacks.Words 1) ≡ said_by no_words (counted_found v s)
found_unsaid v s fails = ap (λ w. counted_found w s) (sym (without v fails))

-- a refusal is no success
pub never-successful : {A E : Type 0} (r : Result A E) (name label : List ℕ) (why : Reason) → IfErr r (λ e. is_successful (refused name label why) ≡ false)
never-successful (Ok x) name label why = tt
never-successful (Err e) name label why = refl

-- a step that ends so where it finds enough, and lacks its words where it finds none for them, has the end that it says
pub says-by : (F : Memory → StepEnd) (r : Result Outcome Lack) (v : VerdictText) (old new : ValueState) → Says v r → new ≡ old → F enough ≡ ended v old → F no_words ≡ said_by no_words (ended v old)
    → answer_end new r ≡ F (memory_of r)
says-by F (Ok outcome) v old new says same whole unsaid_is = says new ∙ ap (ended v) same ∙ sym whole
says-by F (Err lack) v old new says same whole unsaid_is =
    let P : Lack → Type 0 = λ l. lack_end new l ≡ F (lacking l) in
    subst P (sym says.0) (unsaid v old new says.1 same ∙ sym unsaid_is)

-- the end of its last act
pub act-says : (F : Memory → StepEnd) (r : Result Outcome Lack) (name label : List ℕ) (act : Act Place) (old new : ValueState) (why : Option Reason) → Says (unless_refused name label why) r
    → why ≡ why_refused act old → new ≡ after_act act old → F enough ≡ act_ends name label act old → F no_words ≡ said_by no_words (act_ends name label act old)
    → answer_end new r ≡ F (memory_of r)
act-says F r name label act old new why says is same = says-by F r (unless_refused name label (why_refused act old)) (after_act act old) new (subst (λ w. Says (unless_refused name label w) r) is says) same

-- or that a call was refused, which changed nothing
pub refusal-says : (F : Memory → StepEnd) (r : Result Outcome Lack) (name label : List ℕ) (why : Reason) (refusal : Option Reason) (old new : ValueState) (goes_on : StepEnd) → Says (refused name label why) r
    → refusal ≡ Some why → new ≡ old → F enough ≡ or_refused name label refusal old goes_on → F no_words ≡ said_by no_words (or_refused name label refusal old goes_on)
    → answer_end new r ≡ F (memory_of r)
refusal-says F r name label why refusal old new goes_on says is same whole unsaid_is =
    says-by F r (refused name label why) old new says same (whole ∙ ap (λ w. or_refused name label w old goes_on) is) (unsaid_is ∙ ap (λ w. said_by no_words (or_refused name label w old goes_on)) is)

-- ---- a step that computes

pub given-by : (name label : List ℕ) (place : Place) (value : ValueText) (old claimed new : ValueState) (r : Result Outcome Lack) → why_refused (Claim place) old ≡ None → claimed ≡ after_act (Claim place) old
    → Gives name label place value claimed new r → answer_end new r ≡ compute_by (memory_of r) name label place value old look.Absent
given-by name label place value old claimed new (Ok outcome) won is h =
    h
    ∙ ap (factory_gave name label place value) is
    ∙ ap (λ w. or_refused name label w old (factory_gave name label place value (after_act (Claim place) old))) (sym won)
given-by name label place value old claimed new (Err lacks.Value) won is h =
    ap (ended no_memory) h
    ∙ ap (λ s. ended no_memory (after_act (Abandon place) s)) is
    ∙ ap (λ w. or_refused name label w old (ended no_memory (after_act (Abandon place) (after_act (Claim place) old)))) (sym won)
given-by name label place value old claimed new (Err lacks.Place) won is h = absurd h
given-by name label place value old claimed new (Err (lacks.Words found)) won is h =
    h
    ∙ ap (λ s. said_by no_words (factory_gave name label place value s)) is
    ∙ ap (λ w. said_by no_words (or_refused name label w old (factory_gave name label place value (after_act (Claim place) old)))) (sym won)

-- no number was left: the claim goes
pub refusal-gives : (name label : List ℕ) (place : Place) (value : ValueText) (old new : ValueState) (why : Reason) (r : Result Outcome Lack) → Says (refused name label why) r
    → why_refused (next_number old) old ≡ Some why → new ≡ after_act (Abandon place) old → Gives name label place value old new r
refusal-gives name label place value old new why (Ok outcome) says is same =
    let kept = keep_value value old in
    let filled : StepEnd = record { state = after_act (Fill place kept.store.drawn) kept; verdict = successful; computed = 1; found = 0 } in
    says new ∙ ap (ended (refused name label why)) same ∙ ap (λ w. or_refused name label w (after_act (Abandon place) old) filled) (sym is)
refusal-gives name label place value old new why (Err lack) says is same =
    let kept = keep_value value old in
    let filled : StepEnd = record { state = after_act (Fill place kept.store.drawn) kept; verdict = successful; computed = 1; found = 0 } in
    let P : Lack → Type 0 = λ l. LacksGiven l name label place value old new in
    subst P (sym says.0) (ap (ended no_memory) same ∙ ap (λ w. said_by no_words (or_refused name label w (after_act (Abandon place) old) filled)) (sym is))

-- the place could be claimed, but for memory
pub unplaced : (name label : List ℕ) (place : Place) (old new : ValueState) → why_refused (Claim place) old ≡ None → new ≡ old
    → ended no_memory new ≡ or_refused name label (why_refused (Claim place) old) old (ended no_memory old)
unplaced name label place old new won same = ap (ended no_memory) same ∙ ap (λ w. or_refused name label w old (ended no_memory old)) (sym won)

-- ---- a step whose factory fails

pub failed-by : (name label : List ℕ) (place : Place) (text : List ℕ) (old claimed new : ValueState) (r : Result Outcome Lack) → why_refused (Claim place) old ≡ None → claimed ≡ after_act (Claim place) old
    → Fails name label place text claimed new r → answer_end new r ≡ computefail_by (memory_of r) name label place text old look.Absent
failed-by name label place text old claimed new (Ok outcome) won is h =
    h
    ∙ ap (factory_failed name label place text) is
    ∙ ap (λ w. or_refused name label w old (factory_failed name label place text (after_act (Claim place) old))) (sym won)
failed-by name label place text old claimed new (Err lacks.Value) won is h =
    let lost = claim_and name label place (λ claimed. ended no_memory (after_act (Abandon place) claimed)) old in
    let keeps : old.keep_faults ≡ true = sym (ap (λ (s : ValueState). s.keep_faults) is) ∙ h.0 in
    ap (ended no_memory) h.1
    ∙ ap (λ s. ended no_memory (after_act (Abandon place) s)) is
    ∙ ap (λ w. or_refused name label w old (ended no_memory (after_act (Abandon place) (after_act (Claim place) old)))) (sym won)
    ∙ ap (λ b. if b then lost else computefail_looked name label place text old look.Absent) (sym keeps)
failed-by name label place text old claimed new (Err lacks.Place) won is h = absurd h
failed-by name label place text old claimed new (Err (lacks.Words found)) won is h =
    h
    ∙ ap (λ s. said_by no_words (factory_failed name label place text s)) is
    ∙ ap (λ w. said_by no_words (or_refused name label w old (factory_failed name label place text (after_act (Claim place) old)))) (sym won)

-- faults are kept, and no number was left: the claim goes
pub refusal-fails : (name label : List ℕ) (place : Place) (text : List ℕ) (old new : ValueState) (why : Reason) (r : Result Outcome Lack) → Says (refused name label why) r → old.keep_faults ≡ true
    → why_refused (next_number old) old ≡ Some why → new ≡ after_act (Abandon place) old → Fails name label place text old new r
refusal-fails name label place text old new why (Ok outcome) says keeps is same =
    let kept = keep_value (record { text = text; closeable = false }) old in
    let stored : StepEnd = ended successful (after_act (Fail place kept.store.drawn) kept) in
    let gone = after_act (Abandon place) old in
    says new
    ∙ ap (ended (refused name label why)) same
    ∙ ap (λ w. or_refused name label w gone stored) (sym is)
    ∙ ap (λ b. if b then or_refused name label (why_refused (next_number old) old) gone stored else ended successful gone) (sym keeps)
refusal-fails name label place text old new why (Err lack) says keeps is same =
    let kept = keep_value (record { text = text; closeable = false }) old in
    let stored : StepEnd = ended successful (after_act (Fail place kept.store.drawn) kept) in
    let gone = after_act (Abandon place) old in
    let P : Lack → Type 0 = λ l. LacksFailed l name label place text old new in
    subst P (sym says.0) (
    ap (ended no_memory) same
    ∙ ap (λ w. said_by no_words (or_refused name label w gone stored)) (sym is)
    ∙ ap (λ b. said_by no_words (if b then or_refused name label (why_refused (next_number old) old) gone stored else ended successful gone)) (sym keeps)
    )

-- a step that says nothing has passed
pub passes : (o : Outcome) (s : ValueState) → o.verdict ≡ verdicts.Successful → o.computed ≡ 0 → o.found ≡ 0 → step_end s o ≡ ended successful s
passes o s is computed found =
    ap (λ v. record { state = s; verdict = verdict_text v; computed = o.computed; found = o.found }) is
    ∙ ap (λ n. record { state = s; verdict = successful; computed = n; found = o.found }) computed
    ∙ ap (λ n. record { state = s; verdict = successful; computed = 0; found = n }) found

-- its fault is kept
pub fault-kept : (name label : List ℕ) (place : Place) (text : List ℕ) (old mid new : ValueState) (number : ℕ) (outcome : Outcome) → old.keep_faults ≡ true → IsKeptAs (record { text = text; closeable = false }) old mid number
    → new ≡ after_act (Fail place number) mid → step_end new outcome ≡ ended successful new → step_end new outcome ≡ factory_failed name label place text old
fault-kept name label place text old mid new number outcome keeps is same passed =
    let kept = keep_value (record { text = text; closeable = false }) old in
    let stored : StepEnd = ended successful (after_act (Fail place kept.store.drawn) kept) in
    let gone = after_act (Abandon place) old in
    passed
    ∙ ap (ended successful) same
    ∙ ap (λ n. ended successful (after_act (Fail place n) mid)) is.drawn
    ∙ ap (λ (m : ValueState). ended successful (after_act (Fail place m.store.drawn) m)) is.state
    ∙ ap (λ w. or_refused name label w gone stored) (sym is.allowed)
    ∙ ap (λ b. if b then or_refused name label (why_refused (next_number old) old) gone stored else ended successful gone) (sym keeps)

-- its fault comes back
pub fault-back : (name label : List ℕ) (place : Place) (text : List ℕ) (old new : ValueState) (outcome : Outcome) → old.keep_faults ≡ false
    → new ≡ after_act (Abandon place) old → step_end new outcome ≡ ended successful new → step_end new outcome ≡ factory_failed name label place text old
fault-back name label place text old new outcome keeps same passed =
    let kept = keep_value (record { text = text; closeable = false }) old in
    let stored : StepEnd = ended successful (after_act (Fail place kept.store.drawn) kept) in
    let gone = after_act (Abandon place) old in
    passed
    ∙ ap (ended successful) same
    ∙ ap (λ b. if b then or_refused name label (why_refused (next_number old) old) gone stored else ended successful gone) (sym keeps)

same-if : (b : Bool) (end : StepEnd) → end ≡ (if b then end else end)
same-if true end = refl
same-if false end = refl

-- a value that is found is shown, whatever the step finds of memory
pub computefail-found : (found : Memory) (name label : List ℕ) (place : Place) (text : List ℕ) (s : ValueState) (at number : ℕ)
    → said_by found (computefail_looked name label place text s (look.Found at number)) ≡ computefail_by found name label place text s (look.Found at number)
computefail-found enough name label place text s at number = refl
computefail-found no_key name label place text s at number = refl
computefail-found no_number name label place text s at number = refl
computefail-found no_value name label place text s at number = same-if s.keep_faults (computefail_looked name label place text s (look.Found at number))
computefail-found no_place name label place text s at number = refl
computefail-found no_words name label place text s at number = refl

-- and so is a kept fault that is met
pub computefail-met : (found : Memory) (name label : List ℕ) (place : Place) (text : List ℕ) (s : ValueState) (at number : ℕ)
    → said_by found (computefail_looked name label place text s (look.Fault at number)) ≡ computefail_by found name label place text s (look.Fault at number)
computefail-met enough name label place text s at number = refl
computefail-met no_key name label place text s at number = refl
computefail-met no_number name label place text s at number = refl
computefail-met no_value name label place text s at number = same-if s.keep_faults (computefail_looked name label place text s (look.Fault at number))
computefail-met no_place name label place text s at number = refl
computefail-met no_words name label place text s at number = refl

pub compute-met : (found : Memory) (name label : List ℕ) (place : Place) (value : ValueText) (s : ValueState) (at number : ℕ)
    → said_by found (compute_looked name label place value s (look.Fault at number)) ≡ compute_by found name label place value s (look.Fault at number)
compute-met enough name label place value s at number = refl
compute-met no_key name label place value s at number = refl
compute-met no_number name label place value s at number = refl
compute-met no_value name label place value s at number = refl
compute-met no_place name label place value s at number = refl
compute-met no_words name label place value s at number = refl

-- an act that is refused changes nothing
pub refused-same : (r : Reply) (s : ValueState) (e : Event Place) (why : Reason) → refusal r ≡ Some why → (let new : ValueState = record s { store = state_by r s.store e } in new ≡ s)
refused-same (Happens answer) s e why is = absurd cc
refused-same (Answers answer) s e why is = absurd cc
refused-same (Refuses reason) s e why is = refl
