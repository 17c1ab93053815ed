-- A step that calls the store, by what its key and its number came to.
use Rattle.std.proofs.Common.{◌≡◌, ℕ, Bool, true, false, List, Result, Ok, Err, Some, None, inl, inr, refl, ap, sym, subst, ◌∙◌}
use Rattle.std.specs.Prelude.{◌&&◌, if◌then◌else◌}
use Rattle.ext_lifecycle.specs.declared.outcome.Outcome.{Outcome}
use Rattle.ext_tree.specs.Keys.{KeyValue}
use Rattle.ext_plan.specs.declared.word.Word.{Word}
use Rattle.ext_plan.specs.declared.word.Word.TheVariants as words
use Rattle.ext_plan.specs.declared.reason.Reason.{Reason}
use Rattle.ext_plan.specs.declared.reason.Reason.TheVariants as reasons
use Rattle.ext_plan.specs.StepCalls.{CallText, start_of}
use Rattle.ext_plan.specs.Values.{ValueText}
use Rattle.ext_plan.specs.Verdicts.{refused}
use Rattle.ext_plan_plain.specs.declared.lack.Lack.{Lack}
use Rattle.ext_plan_plain.specs.declared.lack.Lack.TheVariants as lacks
use Rattle.ext_plan_plain.specs.declared.lack.StepLack.{StepLack}
use Rattle.ext_plan_plain.specs.ValueStates.{Memory, enough, no_words, full, numbering_of, with_number, ValueState, keep_value, next_number, why_refused}
use Rattle.ext_plan_plain.specs.StepRuns.{StepEnd, ended, no_memory, said_by, lacks_key, lacks_number, lacks_value, made_by, number_by, numbered_by, kept_or_refused, put_by, put_in, acts_by, call_by, first_kept, value_first}
use Rattle.ext_plan_plain.specs.InnerSteps.{Declares, HasBeenNumbered, HasNoNumber, IsKeptAs, IsNotKept, Says, answer_end, end_of_step, lifted, memory_of, memory_of_step}
use Rattle.ext_plan_plain.proofs.Lacks.{says-by}

-- what is done once the key has its number lacks neither memory for the key nor for the number
has-key : (r : Result Outcome Lack) → lacks_key (memory_of r) ≡ false
has-key (Ok outcome) = refl
has-key (Err lacks.Value) = refl
has-key (Err lacks.Place) = refl
has-key (Err (lacks.Words found)) = refl

has-number : (r : Result Outcome Lack) → lacks_number (memory_of r) ≡ false
has-number (Ok outcome) = refl
has-number (Err lacks.Value) = refl
has-number (Err lacks.Place) = refl
has-number (Err (lacks.Words found)) = refl

-- the answer of a whole step
pub lifted-end : (F : Memory → StepEnd) (new : ValueState) (r : Result Outcome Lack) (w : Result Outcome StepLack) → w ≡ lifted r → answer_end new r ≡ F (memory_of r) → end_of_step new w ≡ F (memory_of_step w)
lifted-end F new (Ok outcome) w is ends = subst (λ (w : Result Outcome StepLack). end_of_step new w ≡ F (memory_of_step w)) (sym is) ends
lifted-end F new (Err lack) w is ends = subst (λ (w : Result Outcome StepLack). end_of_step new w ≡ F (memory_of_step w)) (sym is) ends

-- ---- the number of a key

-- the key has its number, and the step goes on
numbered-on : (found : Memory) (name label : List ℕ) (key : KeyValue) (goes_on : ℕ → ValueState → StepEnd) (old mid : ValueState) (number : ℕ) (end : StepEnd) → lacks_number found ≡ false → HasBeenNumbered key old mid number
    → end ≡ goes_on number mid → end ≡ numbered_by found name label key goes_on old
numbered-on found name label key goes_on old mid number end has (inl had) is = is ∙ ap (goes_on number) had.1 ∙ sym (ap (number_by found name label key goes_on old) had.0)
numbered-on found name label key goes_on old mid number end has (inr got) is =
    is
    ∙ ap (goes_on number) got.1
    ∙ sym (ap (λ b. if b then ended no_memory old else goes_on number (with_number key old)) has)
    ∙ sym (ap (number_by found name label key goes_on old) got.0)

-- all numbers are given
numbered-full : (found : Memory) (name label : List ℕ) (key : KeyValue) (goes_on : ℕ → ValueState → StepEnd) (old : ValueState) → numbering_of old.places old.keys key ≡ full
    → numbered_by found name label key goes_on old ≡ said_by found (ended (refused name label reasons.DirectoryFull) old)
numbered-full found name label key goes_on old is = ap (number_by found name label key goes_on old) is

-- the key was made
made-on : (found : Memory) (made : Bool) (old : ValueState) (goes_on end : StepEnd) → lacks_key found ≡ false → end ≡ goes_on → end ≡ made_by found made old goes_on
made-on found made old goes_on end has is = is ∙ sym (ap (λ b. if b && made then ended no_memory old else goes_on) has)

-- ---- a step that first numbers its key

pub full-says : (made : Bool) (call : CallText) (goes_on : Memory → ℕ → ValueState → StepEnd) (old mid : ValueState) (answer : Result ℕ Reason) (why : Reason) (r : Result Outcome Lack) (w : Result Outcome StepLack)
    → Declares call.key old mid (Ok answer) → answer ≡ Err why → Says (refused call.name call.label why) r → w ≡ lifted r
    → end_of_step mid w ≡ made_by (memory_of_step w) made old (numbered_by (memory_of_step w) call.name call.label call.key (goes_on (memory_of_step w)) old)
full-says made call goes_on old mid answer why r w told refuses says same =
    let no : HasNoNumber call.key old mid why = subst (λ (a : Result ℕ Reason). Declares call.key old mid (Ok a)) refuses told in
    let F : Memory → StepEnd = λ m. made_by m made old (numbered_by m call.name call.label call.key (goes_on m) old) in
    let said : Says (refused call.name call.label reasons.DirectoryFull) r = subst (λ y. Says (refused call.name call.label y) r) no.reason says in
    lifted-end F mid r w same
    (says-by F r (refused call.name call.label reasons.DirectoryFull) old mid said no.state
    (numbered-full enough call.name call.label call.key (goes_on enough) old no.numbering) (numbered-full no_words call.name call.label call.key (goes_on no_words) old no.numbering))

pub numbered-goes : (made : Bool) (call : CallText) (goes_on : Memory → ℕ → ValueState → StepEnd) (old mid new : ValueState) (answer : Result ℕ Reason) (number : ℕ) (r : Result Outcome Lack) (w : Result Outcome StepLack)
    → Declares call.key old mid (Ok answer) → answer ≡ Ok number → answer_end new r ≡ goes_on (memory_of r) number mid → w ≡ lifted r
    → end_of_step new w ≡ made_by (memory_of_step w) made old (numbered_by (memory_of_step w) call.name call.label call.key (goes_on (memory_of_step w)) old)
numbered-goes made call goes_on old mid new answer number r w told answers ends same =
    let found = memory_of r in
    let has : HasBeenNumbered call.key old mid number = subst (λ (a : Result ℕ Reason). Declares call.key old mid (Ok a)) answers told in
    let F : Memory → StepEnd = λ m. made_by m made old (numbered_by m call.name call.label call.key (goes_on m) old) in
    lifted-end F new r w same
    (made-on found made old (numbered_by found call.name call.label call.key (goes_on found) old) (answer_end new r) (has-key r)
    (numbered-on found call.name call.label call.key (goes_on found) old mid number (answer_end new r) (has-number r) has ends))

-- ---- a step that first keeps its value

-- what it does by what it finds of memory, once its key is made or was declared
abbrev pub puts : Bool → CallText → ValueText → ValueState → Memory → StepEnd
puts made call value old found = made_by found made old (put_by found call.name call.label (start_of call.path) call.key value old)

pub unkept-says : (made : Bool) (call : CallText) (value : ValueText) (old mid : ValueState) (why : Reason) (r : Result Outcome Lack) (w : Result Outcome StepLack)
    → IsNotKept old mid why → Says (refused call.name call.label why) r → w ≡ lifted r → end_of_step mid w ≡ puts made call value old (memory_of_step w)
unkept-says made call value old mid why r w kept says same =
    let at = start_of call.path in
    let stored : Memory → StepEnd = λ m. numbered_by m call.name call.label call.key (λ number. put_in m call.name call.label (at, number)) (keep_value value old) in
    let whole : (m : Memory) → kept_or_refused m call.name call.label (why_refused (next_number old) old) old (stored m) ≡ said_by m (ended (refused call.name call.label why) old) =
    λ m. ap (λ y. kept_or_refused m call.name call.label y old (stored m)) kept.refused in
    lifted-end (puts made call value old) mid r w same (says-by (puts made call value old) r (refused call.name call.label why) old mid says kept.state (whole enough) (whole no_words))

-- the value is kept, and no number is left for its key
pub kept-full-says : (made : Bool) (call : CallText) (value : ValueText) (old kept mid : ValueState) (drawn : ℕ) (answer : Result ℕ Reason) (why : Reason) (r : Result Outcome Lack) (w : Result Outcome StepLack)
    → IsKeptAs value old kept drawn → Declares call.key kept mid (Ok answer) → answer ≡ Err why → Says (refused call.name call.label why) r → w ≡ lifted r
    → end_of_step mid w ≡ puts made call value old (memory_of_step w)
kept-full-says made call value old kept mid drawn answer why r w keeps told refuses says same =
    let k = call.key in
    let no : HasNoNumber k kept mid why = subst (λ (a : Result ℕ Reason). Declares k kept mid (Ok a)) refuses told in
    let stores : Memory → ℕ → ValueState → StepEnd = λ m number. put_in m call.name call.label (start_of call.path, number) in
    let numbering : numbering_of old.places old.keys k ≡ full = sym (ap (λ (s : ValueState). numbering_of s.places s.keys k) keeps.state) ∙ no.numbering in
    let v = refused call.name call.label reasons.DirectoryFull in
    let stored : Memory → StepEnd = λ m. numbered_by m call.name call.label k (stores m) (keep_value value old) in
    let whole : (m : Memory) → kept_or_refused m call.name call.label (why_refused (next_number old) old) old (stored m) ≡ said_by m (ended v (keep_value value old)) =
    λ m. ap (λ y. kept_or_refused m call.name call.label y old (stored m)) keeps.allowed ∙ numbered-full m call.name call.label k (stores m) (keep_value value old) numbering in
    let said : Says v r = subst (λ y. Says (refused call.name call.label y) r) no.reason says in
    lifted-end (puts made call value old) mid r w same (says-by (puts made call value old) r v (keep_value value old) mid said (no.state ∙ keeps.state) (whole enough) (whole no_words))

-- the value is kept, its key has a number, and its own number is put or refused
pub kept-goes : (made : Bool) (call : CallText) (value : ValueText) (old kept mid new : ValueState) (drawn : ℕ) (answer : Result ℕ Reason) (number : ℕ) (r : Result Outcome Lack) (w : Result Outcome StepLack)
    → IsKeptAs value old kept drawn → Declares call.key kept mid (Ok answer) → answer ≡ Ok number
    → answer_end new r ≡ put_in (memory_of r) call.name call.label (start_of call.path, number) mid → lacks_value (memory_of r) ≡ false → w ≡ lifted r
    → end_of_step new w ≡ puts made call value old (memory_of_step w)
kept-goes made call value old kept mid new drawn answer number r w keeps told answers ends has same =
    let k = call.key in
    let found = memory_of r in
    let begun = keep_value value old in
    let stores : ℕ → ValueState → StepEnd = λ number. put_in found call.name call.label (start_of call.path, number) in
    let numbered : HasBeenNumbered k begun mid number = subst (λ s. HasBeenNumbered k s mid number) keeps.state (subst (λ (a : Result ℕ Reason). Declares k kept mid (Ok a)) answers told) in
    let stored = numbered_by found call.name call.label k stores begun in
    let goes : answer_end new r ≡ stored = numbered-on found call.name call.label k stores begun mid number (answer_end new r) (has-number r) numbered ends in
    let after : answer_end new r ≡ put_by found call.name call.label (start_of call.path) k value old =
    goes
    ∙ sym (ap (λ y. kept_or_refused found call.name call.label y old stored) keeps.allowed)
    ∙ sym (ap (λ b. if b then ended no_memory old else kept_or_refused found call.name call.label (why_refused (next_number old) old) old stored) has) in
    lifted-end (puts made call value old) new r w same (made-on found made old (put_by found call.name call.label (start_of call.path) k value old) (answer_end new r) (has-key r) after)

-- ---- the call of a step, by what its word says

pub acts-call : (found : Memory) (word : Word) (call : CallText) (text : List ℕ) (s : ValueState) → value_first word text ≡ None
    → numbered_by found call.name call.label call.key (acts_by found word call text) s ≡ call_by found word call text s
acts-call found word call text s is = sym (ap (λ v. first_kept found call.name call.label v (numbered_by found call.name call.label call.key (acts_by found word call text)) s) is)

pub puts-call : (found : Memory) (word : Word) (call : CallText) (text : List ℕ) (value : ValueText) (s : ValueState) → value_first word text ≡ Some value
    → put_by found call.name call.label (start_of call.path) call.key value s ≡ call_by found word call text s
puts-call found words.Put call text value s is = ap (λ v. put_by found call.name call.label (start_of call.path) call.key v s) (let e : value ≡ record { text = text; closeable = false } = cc in e)
puts-call found words.PutCloseable call text value s is = ap (λ v. put_by found call.name call.label (start_of call.path) call.key v s) (let e : value ≡ record { text = text; closeable = true } = cc in e)
puts-call found words.Want call text value s is = absurd cc
puts-call found words.None call text value s is = absurd cc
puts-call found words.Remove call text value s is = absurd cc
puts-call found words.Compute call text value s is = absurd cc
puts-call found words.ComputeCloseable call text value s is = absurd cc
puts-call found words.ComputeFail call text value s is = absurd cc

-- a key that gets its number draws none
drawn-by : (key : KeyValue) (old mid : ValueState) (number : ℕ) → HasBeenNumbered key old mid number → old.store.drawn ≡ mid.store.drawn
drawn-by key old mid number (inl had) = sym (ap (λ (s : ValueState). s.store.drawn) had.1)
drawn-by key old mid number (inr got) = sym (ap (λ (s : ValueState). s.store.drawn) got.1)

pub numbered-drawn : (key : KeyValue) (old mid : ValueState) (answer : Result ℕ Reason) (number : ℕ) → Declares key old mid (Ok answer) → answer ≡ Ok number → old.store.drawn ≡ mid.store.drawn
numbered-drawn key old mid answer number told is = drawn-by key old mid number (subst (λ (a : Result ℕ Reason). Declares key old mid (Ok a)) is told)
