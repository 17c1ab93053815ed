-- In a plain run a step that puts a value and succeeds leaves it where it puts it; one that computes a value leaves something where it computes, or found it there or above; and so does a call with such a step.
-- Javadoc `ExtensionContext.Store`, `put` and `getOrComputeIfAbsent`; what a step does stands in [ext_plan_plain StepRuns].
use Rattle.std.proofs.Common.{◌≡◌, ◌<◌, ◌⊎◌, ℕ, zero, suc, inl, inr, Bool, true, false, true≢false, not, List, [], ◌∷◌, drop, length, Option, None, Some, is_some, refl, ap, sym, subst, ◌∙◌, arith}
use Rattle.std.specs.Prelude.{All, Contains, ◌&&◌, if◌then◌else◌}
use Rattle.std.proofs.lemmas.List.{length-drop}
use Rattle.std.proofs.lemmas.List.Elements.{All-contains_itself, All-head, All-tail, All-weaker}
use Rattle.ext_history.proofs.Lists.{bools, contains_cons, contains_later, contains_none}
use Rattle.ext_model.specs.declared.event.Act.TheVariants.{Abandon, Claim, Fill, Put}
use Rattle.ext_model.specs.declared.look.Look.{Look}
use Rattle.ext_model.specs.declared.look.Look.TheVariants as look
use Rattle.ext_model.specs.declared.slot.Slot.{Slot}
use Rattle.ext_model.specs.declared.slot.Slot.TheVariants as slot
use Rattle.ext_model.specs.State.{State}
use Rattle.ext_model.specs.Events.{put_reply}
use Rattle.ext_model.specs.Plain.{Place, any_lane, next_state, same_place, state_by, under}
use Rattle.ext_model.proofs.Changes.{here}
use Rattle.ext_model.proofs.Lookups.{empty_path}
use Rattle.ext_tree.specs.Keys.{KeyValue}
use Rattle.ext_tree.specs.Trees.{Id, IsPathOf}
use Rattle.ext_lifecycle.specs.Endings.{aborted, failed, is_successful, successful}
use Rattle.ext_lifecycle.specs.FaultTexts.{VerdictText}
use Rattle.ext_plan.specs.declared.reason.Reason.{Reason}
use Rattle.ext_plan.specs.declared.word.Word.{Word}
use Rattle.ext_plan.specs.declared.word.Word.TheVariants as words
use Rattle.ext_plan.specs.Plans.{KeyText, PlanText, StepKeyText, StepText, abort, fail, keyed}
use Rattle.ext_plan.specs.ReadPlans.{NodesAreTree, ids_of_nodes}
use Rattle.ext_plan.specs.StepCalls.{label_of, start_of}
use Rattle.ext_plan.specs.StepWords.{gives_value, word_text}
use Rattle.ext_plan.specs.Verdicts.{unless_refused}
use Rattle.ext_plan.specs.StoreKeys.{is_there, key_of_step, number_of_key}
use Rattle.ext_plan.specs.Values.{ValueText}
use Rattle.ext_plan.proofs.KeyLists.{key_number_last}
use Rattle.ext_races.specs.Acts.{ActText, stores}
use Rattle.ext_races.specs.MadeSteps.{MadeText, calls_after, calls_before, calls_of, made_after, made_by, made_in_turn, made_of_node, parent_in, path_from, plan_path, steps_before, steps_made}
use Rattle.ext_races.specs.MadeSteps as made_steps
use Rattle.ext_races.proofs.Paths.{path_is}
use Rattle.ext_plan_plain.specs.ValueStates.{Memory, Numbering, ValueState, after_act, enough, found_later, full, keep_value, known, next, next_found, next_number, numbering_of, refusal, why_refused, with_number}
use Rattle.ext_plan_plain.specs.StepRuns.{StepEnd, and_then, compute_looked, compute_numbered, factory_gave, found_along, kept_or_refused, next_step, number_by, numbered_by, or_refused, put_by, put_kept, step_by, step_run, steps_run, unless_ended}
use Rattle.ext_plan_plain.proofs.Lacking.{does_or_lacks}
use Rattle.ext_plan_plain.proofs.Numberings.{known_is, next_is, there_then}
use Rattle.ext_plan_plain.proofs.Seals.{filled_here}
use Rattle.ext_plan_plain.proofs.Stepping.{steps_run-cons}
use Rattle.ext_one_report.proofs.Calls.{path_above}
use Rattle.ext_one_report.proofs.ComputedAbove.{StoresAt, all_clear, clear_is}
use Rattle.ext_one_report.proofs.FrameNodes.{within_path}
use Rattle.ext_one_report.proofs.Matching.{plain_there}
use Rattle.ext_one_report.proofs.MatchingWords.{plain_slot}
use Rattle.ext_one_report.proofs.WordCases.{of_puts}
use Rattle.ext_one_report.proofs.KeptSteps.{Keeps, Spares, compute_kept, steps_keep}

-- ---- a path with something on it

pub clear_kept : (Held : ℕ → Type 0) (key : KeyValue) (s t : ValueState) → Keeps Held key s t → (path : List ℕ) → All Held path → all_clear s path key ≡ false → all_clear t path key ≡ false
clear_kept Held key s t keeps [] held off = absurd (true≢false off)
clear_kept Held key s t keeps (context ∷ path) held off = elim (bools (is_some (plain_slot s context key))) [
  | inl some ↦ ap (λ b. not b && all_clear t path key) (keeps context (All-head Held context path held) some)
  | inr none ↦
      let above : all_clear s path key ≡ false = sym (ap (λ b. not b && all_clear s path key) none) ∙ off in
      and_off (not (is_some (plain_slot t context key))) (all_clear t path key) (clear_kept Held key s t keeps path (All-tail Held context path held) above)
]
  where
    and_off : (a b : Bool) → b ≡ false → (a && b) ≡ false
    and_off true b is = is
    and_off false b is = refl

-- ---- a step that computes a value

-- something stands on the path, or in its first context, which is the root's where the path has none
abbrev Left : KeyValue → List ℕ → ValueState → Type 0
Left key path s = (all_clear s path key ≡ false) ⊎ (is_some (plain_slot s (start_of path) key) ≡ true)

-- what succeeds was not refused
or_passed : (Q : StepEnd → Type 0) (name label : List ℕ) (why : Option Reason) (s : ValueState) (goes : StepEnd) → (why ≡ None → is_successful goes.verdict ≡ true → Q goes)
    → is_successful (or_refused name label why s goes).verdict ≡ true → Q (or_refused name label why s goes)
or_passed Q name label None s goes each good = each refl good
or_passed Q name label (Some why) s goes each good = absurd (cc good)

module _ (key : KeyValue) (name label path : List ℕ) (value : ValueText) where
  -- once its key has its number
  module _ (s : ValueState) (there : is_there s.keys key ≡ true) where
    abbrev its_number : ℕ
    its_number = number_of_key s.keys key

    abbrev its_place : Place
    its_place = (start_of path, its_number)

    abbrev end_by : Look → StepEnd
    end_by found = compute_looked name label its_place value s found

    abbrev Own : StepEnd → Type 0
    Own end = is_some (plain_slot end.state (start_of path) key) ≡ true

    claim_left : is_successful (end_by look.Absent).verdict ≡ true → Own (end_by look.Absent)
    claim_left =
        let claimed = after_act (Claim its_place) s in
        let kept = keep_value value claimed in
        or_passed Own name label (why_refused (Claim its_place) s) s (factory_gave name label its_place value claimed)
        (λ won. or_passed Own name label (why_refused (next_number claimed) claimed) (after_act (Abandon its_place) claimed) _
        (λ room good. ap is_some (plain_there (after_act (Fill its_place kept.store.drawn) kept) (start_of path) key there ∙ filled_here its_place value s won)))

    absent_left : (found : Look) → found ≡ look.Absent → is_successful (end_by found).verdict ≡ true → Own (end_by found)
    absent_left found is = subst (λ f. is_successful (end_by f).verdict ≡ true → Own (end_by f)) (sym is) claim_left

    numbered_left : is_successful (compute_numbered enough name label path value its_number s).verdict ≡ true → Left key path (compute_numbered enough name label path value its_number s).state
    numbered_left good = elim (bools (all_clear s path key)) [
      | inl clear ↦
          let none : All (λ c. under s.store its_number c ≡ None) path =
          All-weaker (λ c. plain_slot s c key ≡ None) (λ c. under s.store its_number c ≡ None) (λ c is. sym (plain_there s c key there) ∙ is) path (clear_is s path key clear) in
          inr (absent_left (found_along its_number path s) (empty_path (under s.store its_number) path none) good)
      | inr off ↦ inl (clear_kept (Contains path) key s (compute_numbered enough name label path value its_number s).state (compute_kept (Contains path) key s its_place name label value (found_along its_number path s)) path (All-contains_itself path) off)
    ]

-- what is so once its key has its number is so of a step that gets it
module _ (key : KeyValue) (name label path : List ℕ) (goes : ℕ → ValueState → StepEnd)
    (left : (t : ValueState) → is_there t.keys key ≡ true → is_successful (goes (number_of_key t.keys key) t).verdict ≡ true → Left key path (goes (number_of_key t.keys key) t).state) where
  number_left : (s : ValueState) → (let end = numbered_by enough name label key goes s in is_successful end.verdict ≡ true → Left key path end.state)
  number_left s = by_number s (numbering_of s.places s.keys key) refl
    where
      by_place : (t : ValueState) (number : ℕ) → is_there t.keys key ≡ true → number ≡ number_of_key t.keys key → is_successful (goes number t).verdict ≡ true → Left key path (goes number t).state
      by_place t number there is = subst (λ n. is_successful (goes n t).verdict ≡ true → Left key path (goes n t).state) (sym is) (left t there)

      by_number : (t : ValueState) (numbering : Numbering) → numbering_of t.places t.keys key ≡ numbering
          → (let end = number_by enough name label key goes t numbering in is_successful end.verdict ≡ true → Left key path end.state)
      by_number t (known number) is = let has = known_is t.places t.keys key number is in by_place t number has.there has.place
      by_number t (next number) is =
          let new = next_is t.places t.keys key number is in
          by_place (with_number key t) number (there_then t.keys key new.there) (new.place ∙ sym (key_number_last t.keys key new.there))
      by_number t full is = λ good. absurd (cc good)

value_left : (key : KeyValue) (name label path : List ℕ) (value : ValueText) (s : ValueState)
    → (let end = numbered_by enough name label key (compute_numbered enough name label path value) s in is_successful end.verdict ≡ true → Left key path end.state)
value_left key name label path value = number_left key name label path (compute_numbered enough name label path value) (numbered_left key name label path value)

-- ---- a step that puts a value

put_stands : (numbers : ℕ) (s : State Place) (place : Place) (number : ℕ) → refusal (put_reply false (s.slots place)) ≡ None → is_some ((next_state numbers s any_lane (Put place number)).slots place) ≡ true
put_stands numbers s place number = by (s.slots place)
  where
    stored : is_some (if same_place place place then Some (slot.Entry number) else s.slots place) ≡ true
    stored = ap (λ b. is_some (if b then Some (slot.Entry number) else s.slots place)) (here place)

    by : (x : Option Slot) → refusal (put_reply false x) ≡ None → is_some ((state_by (put_reply false x) s (record { lane = any_lane; act = Put place number })).slots place) ≡ true
    by None won = stored
    by (Some (slot.Entry last)) won = stored
    by (Some (slot.Fault last)) won = stored
    by (Some (slot.Claim lane)) won = absurd (cc won)
    by (Some (slot.Sealed kept)) won = absurd (cc won)

was_passed : (name label : List ℕ) (why : Option Reason) → is_successful (unless_refused name label why) ≡ true → why ≡ None
was_passed name label None good = refl
was_passed name label (Some why) good = absurd (cc good)

module _ (key : KeyValue) (name label path : List ℕ) where
  abbrev puts_it : ℕ → ValueState → StepEnd
  puts_it number = put_kept name label (start_of path, number)

  kept_left : (t : ValueState) → is_there t.keys key ≡ true → is_successful (puts_it (number_of_key t.keys key) t).verdict ≡ true → Left key path (puts_it (number_of_key t.keys key) t).state
  kept_left t there good =
      let place : Place = (start_of path, number_of_key t.keys key) in
      let act = Put place t.store.drawn in
      let won = was_passed name label (why_refused act t) good in
      inr (ap is_some (plain_there (after_act act t) (start_of path) key there) ∙ put_stands t.numbers t.store place t.store.drawn won)

  roomed_left : (why : Option Reason) (s t : ValueState) → (let end = kept_or_refused enough name label why s (numbered_by enough name label key puts_it t) in is_successful end.verdict ≡ true → Left key path end.state)
  roomed_left None s t = number_left key name label path puts_it kept_left t
  roomed_left (Some why) s t = λ good. absurd (cc good)

  put_left : (value : ValueText) (s : ValueState) → (let end = put_by enough name label (start_of path) key value s in is_successful end.verdict ≡ true → Left key path end.state)
  put_left value s = roomed_left (why_refused (next_number s) s) s (keep_value value s)

-- ---- a step that stores a value

module _ (declared : List KeyText) (path : List ℕ) where
  computed_left : (word : Word) (key_text : StepKeyText) (text : List ℕ) (up : ℕ) (s : ValueState) → gives_value word ≡ true
      → (let end = step_run declared path (keyed word key_text text up) s in is_successful end.verdict ≡ true → Left (key_of_step declared key_text) (drop up path) end.state)
  computed_left words.Put key_text text up s gives = absurd (cc gives)
  computed_left words.PutCloseable key_text text up s gives = absurd (cc gives)
  computed_left words.Want key_text text up s gives = absurd (cc gives)
  computed_left words.None key_text text up s gives = absurd (cc gives)
  computed_left words.Remove key_text text up s gives = absurd (cc gives)
  computed_left words.Compute key_text text up s gives = value_left (key_of_step declared key_text) (word_text words.Compute) (label_of declared key_text) (drop up path) (record { text = text; closeable = false }) s
  computed_left words.ComputeCloseable key_text text up s gives = value_left (key_of_step declared key_text) (word_text words.ComputeCloseable) (label_of declared key_text) (drop up path) (record { text = text; closeable = true }) s
  computed_left words.ComputeFail key_text text up s gives = absurd (cc gives)

  word_left : (put : Bool) (word : Word) (key_text : StepKeyText) (text : List ℕ) (up : ℕ) (s : ValueState) → stores put word ≡ true
      → (let end = step_run declared path (keyed word key_text text up) s in is_successful end.verdict ≡ true → Left (key_of_step declared key_text) (drop up path) end.state)
  word_left false word key_text text up s stored = computed_left word key_text text up s stored
  word_left true word key_text text up s stored =
      of_puts (λ w. let end = step_run declared path (keyed w key_text text up) s in is_successful end.verdict ≡ true → Left (key_of_step declared key_text) (drop up path) end.state)
      (put_left (key_of_step declared key_text) (word_text words.Put) (label_of declared key_text) (drop up path) (record { text = text; closeable = false }) s)
      (put_left (key_of_step declared key_text) (word_text words.PutCloseable) (label_of declared key_text) (drop up path) (record { text = text; closeable = true }) s) word stored

  -- whatever it finds of memory
  found_left : (found : Memory) (put : Bool) (word : Word) (key_text : StepKeyText) (text : List ℕ) (up : ℕ) (s : ValueState) → stores put word ≡ true
      → (let end = step_by declared found path (keyed word key_text text up) s in is_successful end.verdict ≡ true → Left (key_of_step declared key_text) (drop up path) end.state)
  found_left found put word key_text text up s stored good = elim (does_or_lacks declared found path (keyed word key_text text up) s) [
    | inl same ↦
        subst (λ (end : StepEnd). Left (key_of_step declared key_text) (drop up path) end.state) (sym same)
        (word_left put word key_text text up s stored (ap (λ (end : StepEnd). is_successful end.verdict) (sym same) ∙ good))
    | inr lacks ↦ absurd (true≢false (sym good ∙ ap is_successful lacks))
  ]

-- ---- what succeeds among the steps of a call

-- what was not ended by its first step went on
gone_on : (v : VerdictText) (first : StepEnd) (go_on : ValueState → StepEnd) → first.verdict ≡ v → is_successful (unless_ended v first go_on).verdict ≡ true
    → (is_successful first.verdict ≡ true) × (unless_ended v first go_on ≡ and_then first (go_on first.state))
gone_on successful first go_on is good = (ap is_successful is, refl)
gone_on (aborted text) first go_on is good = absurd (true≢false (sym good ∙ ap is_successful is))
gone_on (failed text) first go_on is good = absurd (true≢false (sym good ∙ ap is_successful is))

-- something stands on a path behind a step that succeeds, wherever it runs
abbrev pub Leaves : List KeyText → List ℕ → KeyValue → List ℕ → StepText → Type 0
Leaves declared path key along step = (s : ValueState) → is_successful (next_step declared path step s).verdict ≡ true → all_clear (next_step declared path step s).state along key ≡ false

module _ (Held : ℕ → Type 0) (key : KeyValue) (declared : List KeyText) (path along : List ℕ) (held : All Held along) where
  -- so it does behind a call with that step that succeeds
  pub steps_left : (steps : List StepText) (step : StepText) (s : ValueState) → ((other : StepText) → Contains steps other → Spares Held declared key path other) → Contains steps step → Leaves declared path key along step
      → is_successful (steps_run declared path steps s).verdict ≡ true → all_clear (steps_run declared path steps s).state along key ≡ false
  steps_left [] step s spare there leaves good = absurd (contains_none step there)
  steps_left (first ∷ more) step s spare there leaves good =
      let one = next_step declared path first s in
      let whole = steps_run-cons declared path first more s in
      let went = gone_on one.verdict one (steps_run declared path more) refl (ap (λ (end : StepEnd). is_successful end.verdict) (sym whole) ∙ good) in
      let all : steps_run declared path (first ∷ more) s ≡ and_then one (steps_run declared path more one.state) = whole ∙ went.1 in
      let spare_more : (other : StepText) → Contains more other → Spares Held declared key path other = λ other later. spare other (contains_later first more other later) in
      let good_more : is_successful (steps_run declared path more one.state).verdict ≡ true = ap (λ (end : StepEnd). is_successful end.verdict) (sym all) ∙ good in
      subst (λ (end : StepEnd). all_clear end.state along key ≡ false) (sym all) (elim (contains_cons first more step there) [
        | inl same ↦
            clear_kept Held key one.state (steps_run declared path more one.state).state (steps_keep Held key declared path more one.state spare_more) along held
            (subst (λ other. Leaves declared path key along other) (sym same) leaves s went.0)
        | inr later ↦ steps_left more step one.state spare_more later leaves good_more
      ])

-- ---- where a step stores is on the path of its node

first_some : (s : ValueState) (context : ℕ) (above : List ℕ) (key : KeyValue) → is_some (plain_slot s context key) ≡ true → all_clear s (context ∷ above) key ≡ false
first_some s context above key is = ap (λ b. not b && all_clear s above key) is

-- the path of a context begins with it
own_first : (ids : List Id) (n context : ℕ) (s : ValueState) (key : KeyValue) → 0 < n → is_some (plain_slot s context key) ≡ true → all_clear s (path_from ids n context) key ≡ false
unfolding path_from
own_first ids zero context s key some is = absurd (omega (arith, some))
own_first ids (suc n) context s key some is = first_some s context (made_steps.path_above (path_from ids n) (parent_in ids context)) key is

some_on : (s : ValueState) (path : List ℕ) (key : KeyValue) → all_clear s path key ≡ false → 0 < length path
some_on s [] key off = absurd (true≢false off)
some_on s (context ∷ path) key off = omega arith

left_above : (plan : PlanText) → NodesAreTree plan → (node : ℕ) (path : List ℕ) (up : ℕ) (s : ValueState) (key : KeyValue) → IsPathOf (ids_of_nodes plan.nodes) node path → Left key (drop up path) s
    → all_clear s (plan_path plan (start_of (drop up path))) key ≡ false
left_above plan tree node path up s key is (inl off) =
    let ids = ids_of_nodes plan.nodes in
    let long = length-drop up path in
    let some = some_on s (drop up path) key off in
    let its : IsPathOf ids (start_of (drop up path)) (drop up path) = path_above ids path node up is (omega (arith, long, some)) in
    subst (λ p. all_clear s p key ≡ false) (path_is ids tree (start_of (drop up path)) (drop up path) (within_path ids (start_of (drop up path)) (drop up path) tree its) its) off
left_above plan tree node path up s key is (inr own) = own_first (ids_of_nodes plan.nodes) (length (ids_of_nodes plan.nodes)) (start_of (drop up path)) s key tree.first.some own

-- a step that stores a value and succeeds leaves something there or above
pub computes_leave : (plan : PlanText) → NodesAreTree plan → (node : ℕ) (path : List ℕ) (step : StepText) (context : ℕ) (key : KeyValue) → IsPathOf (ids_of_nodes plan.nodes) node path → StoresAt plan path step context key
    → Leaves plan.keys path key (plan_path plan context) step
computes_leave plan tree node path (keyed word key_text text up) context key is computes s good =
    let act : ActText = record { word = word; key = key_text; text = text; up = up } in
    let same : act ≡ computes.act = cc computes.is in
    let stored : stores computes.put word ≡ true = ap (λ (a : ActText). stores computes.put a.word) same ∙ computes.stored in
    let at : start_of (drop up path) ≡ context = ap (λ (a : ActText). start_of (drop a.up path)) same ∙ computes.at in
    let its : key_of_step plan.keys key_text ≡ key = ap (λ (a : ActText). key_of_step plan.keys a.key) same ∙ computes.named in
    let t : ValueState = record s { memory = found_later s.memory } in
    let after = (next_step plan.keys path (keyed word key_text text up) s).state in
    let left : Left (key_of_step plan.keys key_text) (drop up path) after = found_left plan.keys path (next_found s.memory) computes.put word key_text text up t stored good in
    subst (λ c. all_clear after (plan_path plan c) key ≡ false) at (left_above plan tree node path up after key is (subst (λ k. Left k (drop up path) after) its left))
computes_leave plan tree node path (fail text) context key is computes s good = absurd (cc computes.is)
computes_leave plan tree node path (abort text) context key is computes s good = absurd (cc computes.is)
