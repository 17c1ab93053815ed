-- In a plain run each step that does not remove a key in some contexts leaves something there wherever something stood under it, and so does the end of each context.
-- Javadoc `ExtensionContext.Store`; what a step does stands in [ext_plan_plain StepRuns].
use Rattle.std.proofs.Common.{◌≡◌, ℕ, zero, suc, inl, inr, Bool, true, false, true≢false, List, [], ◌∷◌, drop, Option, None, Some, is_some, refl, ap, sym, subst, ◌∙◌}
use Rattle.std.specs.Prelude.{Contains, ◌&&◌, if◌then◌else◌}
use Rattle.ext_history.proofs.Lists.{bools, contains_here, contains_later}
use Rattle.ext_model.specs.declared.event.Act.{Act}
use Rattle.ext_model.specs.declared.event.Act.TheVariants.{Put, Remove, Claim, Fill, Fail, Abandon, Seal}
use Rattle.ext_model.specs.declared.look.Look.{Look}
use Rattle.ext_model.specs.declared.look.Look.TheVariants as look
use Rattle.ext_model.specs.declared.slot.Slot.{Slot}
use Rattle.ext_model.specs.State.{State}
use Rattle.ext_model.specs.Events.{Reply, Happens, Answers, Refuses, is_on, slot_after}
use Rattle.ext_model.specs.Plain.{Place, any_lane, same_place, state_by}
use Rattle.ext_model.proofs.Changes.{same_place_is}
use Rattle.ext_model.proofs.Steps.{abandon_undoes_claim, others_stay}
use Rattle.ext_tree.specs.Keys.{KeyValue}
use Rattle.ext_tree.specs.Traits.{key_eq}
use Rattle.ext_tree.proofs.Equalities.{keys_Decides}
use Rattle.ext_lifecycle.specs.Endings.{aborted, failed, successful}
use Rattle.ext_lifecycle.specs.FaultTexts.{VerdictText}
use Rattle.ext_plan.specs.declared.reason.Reason.{Reason}
use Rattle.ext_plan.specs.declared.word.Word.{Word}
use Rattle.ext_plan.specs.declared.word.Word.TheVariants as words
use Rattle.ext_plan.specs.Plans.{KeyText, StepKeyText, StepText, abort, fail, keyed}
use Rattle.ext_plan.specs.StepCalls.{CallText, call_of, is_made, start_of}
use Rattle.ext_plan.specs.StepWords.{word_text}
use Rattle.ext_plan.specs.StoreKeys.{is_there, key_of_step, number_of_key}
use Rattle.ext_plan.specs.Values.{ValueText}
use Rattle.ext_plan.specs.Verdicts.{none_verdict, want_verdict}
use Rattle.ext_plan.proofs.KeyLists.{key_number_last}
use Rattle.ext_races.specs.Acts.{ActText, act_of}
use Rattle.ext_races.specs.Touches.{removes_key}
use Rattle.ext_plan_plain.specs.ValueStates.{Memory, Numbering, ValueState, after_act, enough, found_later, full, keep_value, known, next, next_found, next_number, no_key, no_number, no_place, no_value, no_words, numbering_of, reply_to, why_refused, with_number}
use Rattle.ext_plan_plain.specs.ContextEnds.{seal_keys}
use Rattle.ext_plan_plain.specs.StepRuns.{StepEnd, act_ends, acts_by, call_by, claim_and, compute_by, compute_looked, computefail_by, computefail_looked, ended, factory_failed, factory_gave, first_kept, found_along, if_absent, if_empty, kept_or_refused, lacks_key, lacks_number, lacks_place, lacks_value, next_step, no_memory, number_by, numbered_by, or_refused, put_in, put_kept, said_by, seen_by, step_by, steps_run, unless_ended, value_first}
use Rattle.ext_plan_plain.proofs.Numberings.{known_is, next_is, there_then}
use Rattle.ext_plan_plain.proofs.Seals.{was_empty}
use Rattle.ext_plan_plain.proofs.Stepping.{steps_run-cons, steps_run-nil}
use Rattle.ext_one_report.proofs.Matching.{one_of_place, place_stays, plain_none, plain_there, there_more}
use Rattle.ext_one_report.proofs.MatchingWords.{plain_slot}

-- ---- acts

-- something stays where something stood
abbrev FillsStill : Act Place → Type 0
FillsStill act = (x : Option Slot) → is_some x ≡ true → is_some (slot_after any_lane act x) ≡ true

some_if : (b : Bool) (x y : Option Slot) → is_some x ≡ true → is_some y ≡ true → is_some (if b then x else y) ≡ true
some_if true x y here there = here
some_if false x y here there = there

some_by : (r : Reply) (s : State Place) (act : Act Place) (place : Place) → FillsStill act → is_some (s.slots place) ≡ true → is_some ((state_by r s (record { lane = any_lane; act = act })).slots place) ≡ true
some_by (Happens answer) s act place fills some = some_if (is_on same_place place act) (slot_after any_lane act (s.slots place)) (s.slots place) (fills (s.slots place) some) some
some_by (Answers answer) s act place fills some = some
some_by (Refuses why) s act place fills some = some

-- ---- one key

-- the key has its number where something stands under it
some_there : (s : ValueState) (context : ℕ) (key : KeyValue) → is_some (plain_slot s context key) ≡ true → is_there s.keys key ≡ true
some_there s context key some = elim (bools (is_there s.keys key)) [
  | inl there ↦ there
  | inr none ↦ absurd (true≢false (sym some ∙ ap is_some (plain_none s context key none)))
]

-- in each of these contexts something stands under the key in the later state, where it did in the one before
abbrev pub Keeps : (ℕ → Type 0) → KeyValue → ValueState → ValueState → Type 0
Keeps Held key s t = (context : ℕ) → Held context → is_some (plain_slot s context key) ≡ true → is_some (plain_slot t context key) ≡ true

module _ (Held : ℕ → Type 0) (key : KeyValue) where
  pub keeps_then : (s t u : ValueState) → Keeps Held key s t → Keeps Held key t u → Keeps Held key s u
  keeps_then s t u first second = λ context held some. second context held (first context held some)

  slots_keep : (s t : ValueState) → t.keys ≡ s.keys → ((context : ℕ) → Held context → is_there s.keys key ≡ true → is_some (s.store.slots (context, number_of_key s.keys key)) ≡ true → is_some (t.store.slots (context, number_of_key s.keys key)) ≡ true)
      → Keeps Held key s t
  slots_keep s t keys each = λ context held some.
      let there = some_there s context key some in
      let stood : is_some (s.store.slots (context, number_of_key s.keys key)) ≡ true = ap is_some (sym (plain_there s context key there)) ∙ some in
      let now : plain_slot t context key ≡ t.store.slots (context, number_of_key t.keys key) = plain_there t context key (ap (λ ks. is_there ks key) keys ∙ there) in
      ap is_some now ∙ (ap (λ ks. is_some (t.store.slots (context, number_of_key ks key))) keys ∙ each context held there stood)

  act_keeps : (act : Act Place) (s : ValueState) → FillsStill act → Keeps Held key s (after_act act s)
  act_keeps act s fills = slots_keep s (after_act act s) refl (λ context held there some. some_by (reply_to act s) s.store act (context, number_of_key s.keys key) fills some)

  value_keeps : (value : ValueText) (s : ValueState) → Keeps Held key s (keep_value value s)
  value_keeps value s = slots_keep s (keep_value value s) refl (λ context held there some. some_by (reply_to (next_number s) s) s.store (next_number s) (context, number_of_key s.keys key) (λ x is. is) some)

  -- a claim that is given up
  undone_keeps : (place : Place) (s : ValueState) → why_refused (Claim place) s ≡ None → Keeps Held key s (after_act (Abandon place) (after_act (Claim place) s))
  undone_keeps place s won =
      let same = abandon_undoes_claim s.numbers s.store any_lane place (was_empty (s.store.slots place) won) in
      slots_keep s (after_act (Abandon place) (after_act (Claim place) s)) refl (λ context held there some. ap (λ (st : State Place). is_some (st.slots (context, number_of_key s.keys key))) same ∙ some)

  -- another key is removed, or one elsewhere
  remove_keeps : (context number : ℕ) (other : KeyValue) (s : ValueState) → is_there s.keys other ≡ true → number ≡ number_of_key s.keys other → (Held context → key_eq other key ≡ false) → Keeps Held key s (after_act (Remove (context, number)) s)
  remove_keeps context number other s also is differ = slots_keep s (after_act (Remove (context, number)) s) refl (λ at held there some. ap is_some (others_stay s.numbers s.store any_lane (Remove (context, number)) (at, number_of_key s.keys key) (apart at held there)) ∙ some)
    where
      apart : (at : ℕ) → Held at → is_there s.keys key ≡ true → same_place (context, number) (at, number_of_key s.keys key) ≡ false
      apart at held there = elim (bools (same_place (context, number) (at, number_of_key s.keys key))) [
        | inl same ↦
            let both = same_place_is (context, number) (at, number_of_key s.keys key) same in
            let one : number ≡ number_of_key s.keys key = ap (λ (p : Place). p.1) both in
            let here : at ≡ context = sym (ap (λ (p : Place). p.0) both) in
            absurd (true≢false (sym ((keys_Decides other key).1 (one_of_place s.keys other key also there (sym is ∙ one))) ∙ differ (subst Held here held)))
        | inr off ↦ off
      ]

  -- a key gets its number
  named_keeps : (first : KeyValue) (s : ValueState) → Keeps Held key s (with_number first s)
  named_keeps first s = λ context held some.
      let there = some_there s context key some in
      ap is_some (plain_there (with_number first s) context key (there_more s.keys key first there)
      ∙ (ap (λ n. s.store.slots (context, n)) (place_stays s.keys (first ∷ []) key there) ∙ sym (plain_there s context key there)))
      ∙ some

-- ---- a step that does not remove the key

module _ (Held : ℕ → Type 0) (key : KeyValue) (s : ValueState) where
  abbrev pub Kept : StepEnd → Type 0
  Kept end = Keeps Held key s end.state

  or_kept : (name label : List ℕ) (why : Option Reason) (t : ValueState) (goes : StepEnd) → Keeps Held key s t → (why ≡ None → Kept goes) → Kept (or_refused name label why t goes)
  or_kept name label None t goes still goes_on = goes_on refl
  or_kept name label (Some why) t goes still goes_on = still

  said_kept : (found : Memory) (end : StepEnd) → Kept end → Kept (said_by found end)
  said_kept enough end is = is
  said_kept no_key end is = is
  said_kept no_value end is = is
  said_kept no_number end is = is
  said_kept no_place end is = is
  said_kept no_words end is = is

  either_kept : (b : Bool) (x y : StepEnd) → Kept x → Kept y → Kept (if b then x else y)
  either_kept true x y p q = p
  either_kept false x y p q = q

  empty_kept : (stands : Option Slot) (empty other : StepEnd) → Kept empty → Kept other → Kept (if_empty stands empty other)
  empty_kept None empty other p q = p
  empty_kept (Some slot) empty other p q = q

  absent_kept : (found : Look) (absent other : StepEnd) → Kept absent → Kept other → Kept (if_absent found absent other)
  absent_kept (look.Found at number) absent other p q = q
  absent_kept (look.Fault at number) absent other p q = q
  absent_kept look.Absent absent other p q = p
  absent_kept (look.Busy at) absent other p q = q
  absent_kept (look.Closed at) absent other p q = q

  abbrev itself : Keeps Held key s s
  itself = λ context held some. some

  put_kept_so : (found : Memory) (name label : List ℕ) (place : Place) → Kept (put_in found name label place s)
  put_kept_so found name label place =
      let lacks = ended no_memory s in
      let stored = put_kept name label place s in
      let put : Kept stored = act_keeps Held key (Put place s.store.drawn) s (λ x is. refl) in
      said_kept found (if lacks_place found then if_empty (s.store.slots place) lacks stored else stored)
      (either_kept (lacks_place found) (if_empty (s.store.slots place) lacks stored) stored (empty_kept (s.store.slots place) lacks stored itself put) put)

  -- under a claim
  module _ (place : Place) where
    abbrev claimed : ValueState
    claimed = after_act (Claim place) s

    stored_keeps : (value : ValueText) (act : Act Place) → FillsStill act → Keeps Held key s (after_act act (keep_value value claimed))
    stored_keeps value act fills =
        let kept = keep_value value claimed in
        keeps_then Held key s claimed (after_act act kept) (act_keeps Held key (Claim place) s (λ x is. refl))
        (keeps_then Held key claimed kept (after_act act kept) (value_keeps Held key value claimed) (act_keeps Held key act kept fills))

    gave_kept : (name label : List ℕ) (value : ValueText) → why_refused (Claim place) s ≡ None → Kept (factory_gave name label place value claimed)
    gave_kept name label value won =
        or_kept name label (why_refused (next_number claimed) claimed) (after_act (Abandon place) claimed) _ (undone_keeps Held key place s won)
        (λ room. stored_keeps value (Fill place (keep_value value claimed).store.drawn) (λ x is. refl))

    failed_kept : (name label text : List ℕ) → why_refused (Claim place) s ≡ None → Kept (factory_failed name label place text claimed)
    failed_kept name label text won =
        let value : ValueText = record { text = text; closeable = false } in
        let kept = keep_value value claimed in
        let gone = after_act (Abandon place) claimed in
        let stored = ended successful (after_act (Fail place kept.store.drawn) kept) in
        let away : Keeps Held key s gone = undone_keeps Held key place s won in
        either_kept claimed.keep_faults (or_refused name label (why_refused (next_number claimed) claimed) gone stored) (ended successful gone)
        (or_kept name label (why_refused (next_number claimed) claimed) gone stored away (λ room. stored_keeps value (Fail place kept.store.drawn) (λ x is. refl))) away

    claim_kept : (name label : List ℕ) (factory : ValueState → StepEnd) → (why_refused (Claim place) s ≡ None → Kept (factory claimed)) → Kept (claim_and name label place factory s)
    claim_kept name label factory each = or_kept name label (why_refused (Claim place) s) s (factory claimed) itself each

    pub compute_kept : (name label : List ℕ) (value : ValueText) (found : Look) → Kept (compute_looked name label place value s found)
    compute_kept name label value (look.Found at number) = itself
    compute_kept name label value (look.Fault at number) = itself
    compute_kept name label value look.Absent = claim_kept name label (factory_gave name label place value) (gave_kept name label value)
    compute_kept name label value (look.Busy at) = itself
    compute_kept name label value (look.Closed at) = itself

    fail_kept : (name label text : List ℕ) (found : Look) → Kept (computefail_looked name label place text s found)
    fail_kept name label text (look.Found at number) = itself
    fail_kept name label text (look.Fault at number) = itself
    fail_kept name label text look.Absent = claim_kept name label (factory_failed name label place text) (failed_kept name label text)
    fail_kept name label text (look.Busy at) = itself
    fail_kept name label text (look.Closed at) = itself

    -- without memory
    lost_kept : (name label : List ℕ) → Kept (claim_and name label place (λ t. ended no_memory (after_act (Abandon place) t)) s)
    lost_kept name label = claim_kept name label (λ t. ended no_memory (after_act (Abandon place) t)) (undone_keeps Held key place s)

    unplaced_kept : (name label : List ℕ) → Kept (or_refused name label (why_refused (Claim place) s) s (ended no_memory s))
    unplaced_kept name label = or_kept name label (why_refused (Claim place) s) s (ended no_memory s) itself (λ won. itself)

    compute_by_kept : (memory : Memory) (name label : List ℕ) (value : ValueText) (found : Look) → Kept (compute_by memory name label place value s found)
    compute_by_kept enough name label value found = compute_kept name label value found
    compute_by_kept no_key name label value found = compute_kept name label value found
    compute_by_kept no_number name label value found = compute_kept name label value found
    compute_by_kept no_value name label value found = absent_kept found _ (compute_looked name label place value s found) (lost_kept name label) (compute_kept name label value found)
    compute_by_kept no_place name label value found = absent_kept found _ (compute_looked name label place value s found) (unplaced_kept name label) (compute_kept name label value found)
    compute_by_kept no_words name label value found = compute_kept name label value found

    fail_by_kept : (memory : Memory) (name label text : List ℕ) (found : Look) → Kept (computefail_by memory name label place text s found)
    fail_by_kept enough name label text found = fail_kept name label text found
    fail_by_kept no_key name label text found = fail_kept name label text found
    fail_by_kept no_number name label text found = fail_kept name label text found
    fail_by_kept no_value name label text found =
        let whole = computefail_looked name label place text s found in
        let lost = claim_and name label place (λ t. ended no_memory (after_act (Abandon place) t)) s in
        either_kept s.keep_faults (if_absent found lost whole) whole (absent_kept found lost whole (lost_kept name label) (fail_kept name label text found)) (fail_kept name label text found)
    fail_by_kept no_place name label text found = absent_kept found _ (computefail_looked name label place text s found) (unplaced_kept name label) (fail_kept name label text found)
    fail_by_kept no_words name label text found = fail_kept name label text found

  number_kept : (found : Memory) (name label : List ℕ) (other : KeyValue) (goes : ℕ → ValueState → StepEnd) (numbering : Numbering) → numbering_of s.places s.keys other ≡ numbering
      → ((number : ℕ) (t : ValueState) → is_there t.keys other ≡ true → number ≡ number_of_key t.keys other → Keeps Held key t (goes number t).state) → Kept (number_by found name label other goes s numbering)
  number_kept found name label other goes (known number) is each = let has = known_is s.places s.keys other number is in each number s has.there has.place
  number_kept found name label other goes (next number) is each =
      let new = next_is s.places s.keys other number is in
      let t = with_number other s in
      either_kept (lacks_number found) (ended no_memory s) (goes number t) itself
      (keeps_then Held key s t (goes number t).state (named_keeps Held key other s) (each number t (there_then s.keys other new.there) (new.place ∙ sym (key_number_last s.keys other new.there))))
  number_kept found name label other goes full is each = said_kept found _ itself

  refused_kept : (found : Memory) (name label : List ℕ) (why : Option Reason) (goes : StepEnd) → Kept goes → Kept (kept_or_refused found name label why s goes)
  refused_kept found name label None goes is = is
  refused_kept found name label (Some why) goes is = said_kept found _ itself

  first_so : (found : Memory) (name label : List ℕ) (value : Option ValueText) (goes : ValueState → StepEnd) → ((t : ValueState) → Keeps Held key t (goes t).state) → Kept (first_kept found name label value goes s)
  first_so found name label None goes each = each s
  first_so found name label (Some value) goes each =
      let kept = keep_value value s in
      let stored = goes kept in
      either_kept (lacks_value found) (ended no_memory s) (kept_or_refused found name label (why_refused (next_number s) s) s stored) itself
      (refused_kept found name label (why_refused (next_number s) s) stored (keeps_then Held key s kept stored.state (value_keeps Held key value s) (each kept)))

  -- once its key has its number
  acts_kept : (declared : List KeyText) (found : Memory) (word : Word) (key_text : StepKeyText) (call : CallText) (text : List ℕ) (up number : ℕ) → call.key ≡ key_of_step declared key_text → (removes_key declared key (act_of (keyed word key_text text up)) ≡ true → Held (start_of call.path) → ⊥)
      → is_there s.keys call.key ≡ true → number ≡ number_of_key s.keys call.key → Kept (acts_by found word call text number s)
  acts_kept declared found words.Put key_text call text up number same spares there is = put_kept_so found call.name call.label (start_of call.path, number)
  acts_kept declared found words.PutCloseable key_text call text up number same spares there is = put_kept_so found call.name call.label (start_of call.path, number)
  acts_kept declared found words.Want key_text call text up number same spares there is = said_kept found (ended (want_verdict call.name call.label text (seen_by s.values (found_along number call.path s))) s) itself
  acts_kept declared found words.None key_text call text up number same spares there is = said_kept found (ended (none_verdict call.name call.label (seen_by s.values (found_along number call.path s))) s) itself
  acts_kept declared found words.Remove key_text call text up number same spares there is =
      said_kept found (act_ends call.name call.label (Remove (start_of call.path, number)) s)
      (remove_keeps Held key (start_of call.path) number call.key s there is (λ held. elim (bools (key_eq call.key key)) [
        | inl on ↦ absurd (spares (ap (λ k. key_eq k key) (sym same) ∙ on) held)
        | inr off ↦ off
      ]))
  acts_kept declared found words.Compute key_text call text up number same spares there is =
      compute_by_kept (start_of call.path, number) found call.name call.label (record { text = text; closeable = false }) (found_along number call.path s)
  acts_kept declared found words.ComputeCloseable key_text call text up number same spares there is =
      compute_by_kept (start_of call.path, number) found call.name call.label (record { text = text; closeable = true }) (found_along number call.path s)
  acts_kept declared found words.ComputeFail key_text call text up number same spares there is =
      fail_by_kept (start_of call.path, number) found call.name call.label text (found_along number call.path s)

-- where a step of a node with this path acts
abbrev pub acts_at : List ℕ → Option ActText → ℕ
acts_at path None = 0
acts_at path (Some act) = start_of (drop act.up path)

-- the step does not remove the key in one of these contexts
abbrev pub Spares : (ℕ → Type 0) → List KeyText → KeyValue → List ℕ → StepText → Type 0
Spares Held declared key path step = removes_key declared key (act_of step) ≡ true → Held (acts_at path (act_of step)) → ⊥

module _ (Held : ℕ → Type 0) (key : KeyValue) (declared : List KeyText) (path : List ℕ) where
  step_keeps : (found : Memory) (step : StepText) (s : ValueState) → Spares Held declared key path step → Keeps Held key s (step_by declared found path step s).state
  step_keeps found (keyed word key_text text up) s spares =
      let call = call_of declared path (word_text word) key_text up in
      let acts : ℕ → ValueState → StepEnd = acts_by found word call text in
      either_kept Held key s (lacks_key found && is_made declared key_text) (ended no_memory s) (call_by found word call text s) (itself Held key s)
      (first_so Held key s found call.name call.label (value_first word text) (numbered_by found call.name call.label call.key acts)
      (λ t. number_kept Held key t found call.name call.label call.key acts (numbering_of t.places t.keys call.key) refl
      (λ number u there is. acts_kept Held key u declared found word key_text call text up number refl spares there is)))
  step_keeps found (fail text) s spares = said_kept Held key s found (ended (failed text) s) (itself Held key s)
  step_keeps found (abort text) s spares = said_kept Held key s found (ended (aborted text) s) (itself Held key s)

  next_keeps : (step : StepText) (s : ValueState) → Spares Held declared key path step → Keeps Held key s (next_step declared path step s).state
  next_keeps step s spares = step_keeps (next_found s.memory) step (record s { memory = found_later s.memory }) spares

  ended_kept : (s : ValueState) (v : VerdictText) (first : StepEnd) (go_on : ValueState → StepEnd) → Keeps Held key s first.state → ((t : ValueState) → Keeps Held key t (go_on t).state) → Keeps Held key s (unless_ended v first go_on).state
  ended_kept s successful first go_on one rest = keeps_then Held key s first.state (go_on first.state).state one (rest first.state)
  ended_kept s (aborted text) first go_on one rest = one
  ended_kept s (failed text) first go_on one rest = one

  pub steps_keep : (steps : List StepText) (s : ValueState) → ((step : StepText) → Contains steps step → Spares Held declared key path step) → Keeps Held key s (steps_run declared path steps s).state
  steps_keep [] s spare = subst (λ (end : StepEnd). Keeps Held key s end.state) (sym (steps_run-nil declared path s)) (itself Held key s)
  steps_keep (step ∷ more) s spare =
      subst (λ (end : StepEnd). Keeps Held key s end.state) (sym (steps_run-cons declared path step more s))
      (ended_kept s (next_step declared path step s).verdict (next_step declared path step s) (steps_run declared path more) (next_keeps step s (spare step (contains_here step more)))
      (λ t. steps_keep more t (λ other there. spare other (contains_later step more other there))))

pub seals_keep : (Held : ℕ → Type 0) (key : KeyValue) (count at : ℕ) (s : ValueState) → Keeps Held key s (seal_keys count at s)
unfolding seal_keys
seals_keep Held key zero at s = λ context held some. some
seals_keep Held key (suc number) at s =
    let before = seal_keys number at s in
    keeps_then Held key s before (after_act (Seal (at, number)) before) (seals_keep Held key number at s) (act_keeps Held key (Seal (at, number)) before (λ x is. refl))
