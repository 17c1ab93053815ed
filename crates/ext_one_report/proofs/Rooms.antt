-- Each step of a plain run draws one number at most, and numbers one key at most.
use Rattle.std.proofs.Common.{◌≡◌, ◌≤◌, ◌<◌, ℕ, ◌+◌, suc, inl, inr, Bool, true, false, List, [], ◌∷◌, ◌++◌, length, length-append, Option, None, Some, Contains, refl, sym, subst, ◌∙◌, arith}
use Rattle.std.specs.Prelude.{All, IfSome, if◌then◌else◌, nat_lt}
use Rattle.std.proofs.lemmas.Bool.{ltb-true}
use Rattle.std.proofs.lemmas.List.Elements.{All-push}
use Rattle.ext_history.proofs.Lists.{bools}
use Rattle.ext_model.specs.declared.event.Act.TheVariants.{Put, Remove, Claim, Fill, Fail, Abandon, Seal}
use Rattle.ext_model.specs.declared.look.Look.{Look}
use Rattle.ext_model.specs.declared.look.Look.TheVariants as look
use Rattle.ext_model.specs.Plain.{Place}
use Rattle.ext_tree.specs.Keys.{KeyValue}
use Rattle.ext_lifecycle.specs.Endings.{successful, is_successful}
use Rattle.ext_plan.specs.declared.reason.Reason.{Reason}
use Rattle.ext_plan.specs.declared.word.Word.{Word}
use Rattle.ext_plan.specs.declared.word.Word.TheVariants as words
use Rattle.ext_plan.specs.Plans.{KeyText, StepKeyText, StepText, keyed, fail, abort}
use Rattle.ext_plan.specs.StepWords.{word_text}
use Rattle.ext_plan.specs.StepCalls.{CallText, call_of, start_of}
use Rattle.ext_plan.specs.Steps.{step_key}
use Rattle.ext_plan.specs.StoreKeys.{is_there, key_of_step}
use Rattle.ext_plan.specs.Values.{ValueText}
use Rattle.ext_plan.proofs.KeyLists.{not_contained}
use Rattle.ext_plan_plain.specs.ValueStates.{Numbering, ValueState, after_act, enough, full, keep_value, known, next, next_number, numbering_of, why_refused, with_number}
use Rattle.ext_plan_plain.specs.StepRuns.{StepEnd, acts_by, call_by, claim_and, compute_looked, compute_numbered, computefail_looked, ended, factory_failed, factory_gave, found_along, kept_or_refused, number_by, numbered_by, or_refused, put_by, put_in, step_run, steps_run}
use Rattle.ext_plan_plain.specs.PlainRunLaws.{HasValues, NamesOneOf, NumbersKeys}
use Rattle.ext_plan_plain.proofs.Kept.{IsKept, IsKeptNaming, step-kept-by, steps-kept-by}
use Rattle.ext_plan_plain.proofs.Named.{OfKeys, numbers-once, of-keys}
use Rattle.ext_plan_plain.proofs.Numberings.{is_full}
use Rattle.ext_plan_plain.proofs.LimitsStay.{keeps-limits}
use Rattle.ext_plan_plain.proofs.Rooms.{has_room}
use Rattle.ext_plan_plain.proofs.Values.{act-values, keep-drawn}
use Rattle.ext_one_report.proofs.StepsWords.{HasRoom}
use Rattle.ext_one_report.proofs.CallsWords.{StepsHaveRoom}
use Rattle.ext_one_report.proofs.Calls.{all_first, all_later, plain_goes, plain_stops, step_memory}
use Rattle.ext_plan_plain.proofs.Stepping.{steps_run-nil}

-- Each number that was drawn is that of a value, each key has one number at most, only keys of this list have any, there
-- is a place for each of them, and so many numbers can be drawn
pub record GaveFew (names : List KeyValue) (numbers : ℕ) (s : ValueState) : Type 0 where
  pub values : HasValues s
  pub keys : NumbersKeys s
  pub named : All (Contains names) s.keys
  pub room : length names ≤ s.places
  pub limit : s.numbers ≡ numbers

-- ---- a step keeps one value at most

one_longer : (values : List ValueText) (value : ValueText) → length (values ++ value ∷ []) ≡ length values + 1
one_longer values value = length-append values (value ∷ [])

module _ (n : ℕ) where
  -- no more values than n
  abbrev Few : ValueState → Type 0
  Few s = length s.values ≤ n

  or_few : (name label : List ℕ) (why : Option Reason) (s : ValueState) (goes : StepEnd) → Few s → Few goes.state → Few (or_refused name label why s goes).state
  or_few name label None s goes h g = g
  or_few name label (Some why) s goes h g = h

  kept_few : (name label : List ℕ) (why : Option Reason) (s : ValueState) (goes : StepEnd) → Few s → Few goes.state → Few (kept_or_refused enough name label why s goes).state
  kept_few name label None s goes h g = g
  kept_few name label (Some why) s goes h g = h

  number_few : (name label : List ℕ) (key : KeyValue) (goes : ℕ → ValueState → StepEnd) (s : ValueState) (numbering : Numbering) → Few s → ((number : ℕ) (t : ValueState) → t.values ≡ s.values → Few (goes number t).state)
      → Few (number_by enough name label key goes s numbering).state
  number_few name label key goes s (known number) h each = each number s refl
  number_few name label key goes s (next number) h each = each number (with_number key s) refl
  number_few name label key goes s full h each = h

  either_few : (b : Bool) (x y : StepEnd) → Few x.state → Few y.state → Few (if b then x else y).state
  either_few true x y g h = g
  either_few false x y g h = h

  gave_few : (name label : List ℕ) (place : Place) (value : ValueText) (s : ValueState) → length s.values + 1 ≤ n → Few (factory_gave name label place value s).state
  gave_few name label place value s room =
      let kept = keep_value value s in
      or_few name label (why_refused (next_number s) s) (after_act (Abandon place) s) _ (omega (arith, room)) (omega (arith, room, one_longer s.values value))

  failed_few : (name label : List ℕ) (place : Place) (text : List ℕ) (s : ValueState) → length s.values + 1 ≤ n → Few (factory_failed name label place text s).state
  failed_few name label place text s room =
      let value : ValueText = record { text = text; closeable = false } in
      let kept = keep_value value s in
      let gone = after_act (Abandon place) s in
      let stored = ended successful (after_act (Fail place kept.store.drawn) kept) in
      either_few s.keep_faults (or_refused name label (why_refused (next_number s) s) gone stored) (ended successful gone)
      (or_few name label (why_refused (next_number s) s) gone stored (omega (arith, room)) (omega (arith, room, one_longer s.values value))) (omega (arith, room))

  claim_few : (name label : List ℕ) (place : Place) (factory : ValueState → StepEnd) (s : ValueState) → length s.values + 1 ≤ n → ((t : ValueState) → length t.values + 1 ≤ n → Few (factory t).state) → Few (claim_and name label place factory s).state
  claim_few name label place factory s room each =
      or_few name label (why_refused (Claim place) s) s (factory (after_act (Claim place) s)) (omega (arith, room)) (each (after_act (Claim place) s) room)

  compute_few : (name label : List ℕ) (place : Place) (value : ValueText) (s : ValueState) (found : Look) → length s.values + 1 ≤ n → Few (compute_looked name label place value s found).state
  compute_few name label place value s (look.Found at number) room = omega (arith, room)
  compute_few name label place value s (look.Fault at number) room = omega (arith, room)
  compute_few name label place value s look.Absent room = claim_few name label place (factory_gave name label place value) s room (gave_few name label place value)
  compute_few name label place value s (look.Busy at) room = omega (arith, room)
  compute_few name label place value s (look.Closed at) room = omega (arith, room)

  fail_few : (name label : List ℕ) (place : Place) (text : List ℕ) (s : ValueState) (found : Look) → length s.values + 1 ≤ n → Few (computefail_looked name label place text s found).state
  fail_few name label place text s (look.Found at number) room = omega (arith, room)
  fail_few name label place text s (look.Fault at number) room = omega (arith, room)
  fail_few name label place text s look.Absent room = claim_few name label place (factory_failed name label place text) s room (failed_few name label place text)
  fail_few name label place text s (look.Busy at) room = omega (arith, room)
  fail_few name label place text s (look.Closed at) room = omega (arith, room)

  -- a call whose key is numbered first
  numbered_few : (call : CallText) (goes : ℕ → ValueState → StepEnd) (s : ValueState) → length s.values + 1 ≤ n → ((number : ℕ) (t : ValueState) → length t.values + 1 ≤ n → Few (goes number t).state)
      → Few (numbered_by enough call.name call.label call.key goes s).state
  numbered_few call goes s room each =
      number_few call.name call.label call.key goes s (numbering_of s.places s.keys call.key) (omega (arith, room)) (λ number t same. each number t (subst (λ v. length v + 1 ≤ n) (sym same) room))

  -- one whose value is kept first
  put_few : (call : CallText) (value : ValueText) (s : ValueState) → length s.values + 1 ≤ n → Few (put_by enough call.name call.label (start_of call.path) call.key value s).state
  put_few call value s room =
      let kept = keep_value value s in
      let more : Few kept = omega (arith, room, one_longer s.values value) in
      kept_few call.name call.label (why_refused (next_number s) s) s _ (omega (arith, room))
      (number_few call.name call.label call.key (λ number. put_in enough call.name call.label (start_of call.path, number)) kept (numbering_of kept.places kept.keys call.key) more (λ number t same. subst (λ v. length v ≤ n) (sym same) more))

  computes_few : (call : CallText) (value : ValueText) (s : ValueState) → length s.values + 1 ≤ n → Few (numbered_by enough call.name call.label call.key (compute_numbered enough call.name call.label call.path value) s).state
  computes_few call value s room =
      numbered_few call (compute_numbered enough call.name call.label call.path value) s room
      (λ number t more. compute_few call.name call.label (start_of call.path, number) value t (found_along number call.path t) more)

  fewer : (t : ValueState) → length t.values + 1 ≤ n → Few t
  fewer t more = omega (arith, more)

  call_few : (word : Word) (call : CallText) (text : List ℕ) (s : ValueState) → length s.values + 1 ≤ n → Few (call_by enough word call text s).state
  call_few words.Put call text s room = put_few call (record { text = text; closeable = false }) s room
  call_few words.PutCloseable call text s room = put_few call (record { text = text; closeable = true }) s room
  call_few words.Compute call text s room = computes_few call (record { text = text; closeable = false }) s room
  call_few words.ComputeCloseable call text s room = computes_few call (record { text = text; closeable = true }) s room
  call_few words.ComputeFail call text s room =
      numbered_few call (acts_by enough words.ComputeFail call text) s room (λ number t more. fail_few call.name call.label (start_of call.path, number) text t (found_along number call.path t) more)
  call_few word call text s room = numbered_few call (acts_by enough word call text) s room (λ number t more. fewer t more)

  step_few : (keys : List KeyText) (path : List ℕ) (step : StepText) (s : ValueState) → length s.values + 1 ≤ n → Few (step_run keys path step s).state
  step_few keys path (keyed word key text up) s room = call_few word (call_of keys path (word_text word) key up) text s room
  step_few keys path (fail text) s room = omega (arith, room)
  step_few keys path (abort text) s room = omega (arith, room)

-- ---- what was given

keep_values : (value : ValueText) (s : ValueState) → why_refused (next_number s) s ≡ None → HasValues s → HasValues (keep_value value s)
keep_values value s room h = let longer = one_longer s.values value in let drawn = keep-drawn value s room in omega (arith, longer, drawn, h)

pub valued : IsKept HasValues
valued = record {
  finds = λ memory s h. h;
  puts = λ place number s h. act-values (Put place number) s refl h;
  removes = λ place s h. act-values (Remove place) s refl h;
  seals = λ place s h. act-values (Seal place) s refl h;
  keeps = keep_values;
  abandons = λ place s won h. act-values (Abandon place) (after_act (Claim place) s) refl (act-values (Claim place) s refl h);
  fills = λ place value s won room h.
      let claimed = after_act (Claim place) s in
      let kept = keep_value value claimed in
      act-values (Fill place kept.store.drawn) kept refl (keep_values value claimed room (act-values (Claim place) s refl h));
  fails = λ place value s keeps won room h.
      let claimed = after_act (Claim place) s in
      let kept = keep_value value claimed in
      act-values (Fail place kept.store.drawn) kept refl (keep_values value claimed room (act-values (Claim place) s refl h));
}

by_any : (P : ValueState → Type 0) (keys : List KeyText) (o : Option StepKeyText) → ((key : KeyValue) → IsKeptNaming P key) → IfSome o (λ key. IsKeptNaming P (key_of_step keys key))
by_any P keys None each = tt
by_any P keys (Some key) each = each (key_of_step keys key)

valued_naming : (key : KeyValue) → IsKeptNaming HasValues key
valued_naming key = record { gets = λ number s is h. h }

step_values : (keys : List KeyText) (path : List ℕ) (step : StepText) (s : ValueState) → HasValues s → HasValues (step_run keys path step s).state
step_values keys path step s h = step-kept-by HasValues valued keys enough path step s (by_any HasValues keys (step_key step) valued_naming) h

steps_values : (keys : List KeyText) (path : List ℕ) (steps : List StepText) (s : ValueState) → HasValues s → HasValues (steps_run keys path steps s).state
steps_values keys path steps s h = steps-kept-by HasValues valued keys path steps s (λ k d inside. by_any HasValues keys (step_key _) valued_naming) h

module _ (names : List KeyValue) (numbers : ℕ) where
  abbrev Within : List KeyValue → Type 0
  Within keys = All (Contains names) keys

  naming : (key : KeyValue) → Contains names key → IsKeptNaming (OfKeys Within) key
  naming key there = record { gets = λ number s is within. All-push (Contains names) s.keys key within there }

  by_named : (keys : List KeyText) (o : Option StepKeyText) → IfSome o (λ key. Contains names (key_of_step keys key)) → IfSome o (λ key. IsKeptNaming (OfKeys Within) (key_of_step keys key))
  by_named keys None there = tt
  by_named keys (Some key) there = naming (key_of_step keys key) there

  step_given : (keys : List KeyText) (path : List ℕ) (step : StepText) (s : ValueState) → GaveFew names numbers s → NamesOneOf names keys step → GaveFew names numbers (step_run keys path step s).state
  step_given keys path step s few named = record {
    values = step_values keys path step s few.values;
    keys = numbers-once.step keys enough path step s few.keys;
    named = step-kept-by (OfKeys Within) (of-keys Within) keys enough path step s (by_named keys (step_key step) named) few.named;
    room = subst (λ n. length names ≤ n) (sym (keeps-limits.step keys enough path step s).places) few.room;
    limit = (keeps-limits.step keys enough path step s).numbers ∙ few.limit;
  }

  pub few_are_given : (keys : List KeyText) (path : List ℕ) (steps : List StepText) (s : ValueState) → GaveFew names numbers s → All (NamesOneOf names keys) steps → GaveFew names numbers (steps_run keys path steps s).state
  few_are_given keys path steps s few named = record {
    values = steps_values keys path steps s few.values;
    keys = numbers-once.steps keys path steps s few.keys;
    named = steps-kept-by (OfKeys Within) (of-keys Within) keys path steps s (λ k d inside. by_named keys (step_key _) (named k d inside)) few.named;
    room = subst (λ n. length names ≤ n) (sym (keeps-limits.steps keys path steps s).places) few.room;
    limit = (keeps-limits.steps keys path steps s).numbers ∙ few.limit;
  }

  -- ---- room

  key_room : (s : ValueState) (key : KeyValue) → GaveFew names numbers s → Contains names key → is_there s.keys key ≡ false → length s.keys < s.places
  key_room s key few there none =
      elim (bools (nat_lt (length s.keys) s.places)) [
        | inl is ↦ ltb-true (length s.keys) s.places is
        | inr over ↦ absurd (has_room s.places names s.keys key few.room few.keys.different few.named there (is_full s.places s.keys key (not_contained s.keys key none) over))
      ]

  room_of : (keys : List KeyText) (o : Option StepKeyText) (s : ValueState) → GaveFew names numbers s → s.store.drawn < numbers → IfSome o (λ key. Contains names (key_of_step keys key)) → IfSome o (λ key. HasRoom (key_of_step keys key) s)
  room_of keys None s few drawn there = tt
  room_of keys (Some key) s few drawn there = record { numbers = subst (λ n. s.store.drawn < n) (sym few.limit) drawn; keys = key_room s (key_of_step keys key) few there }

drawn_few : (keys : List KeyText) (path : List ℕ) (step : StepText) (s : ValueState) → HasValues s → (step_run keys path step s).state.store.drawn ≤ s.store.drawn + 1
drawn_few keys path step s h =
    let few : length (step_run keys path step s).state.values ≤ length s.values + 1 = step_few (length s.values + 1) keys path step s (omega arith) in
    let later = step_values keys path step s h in
    omega (arith, few, later, h)

pub few_have_room : (names : List KeyValue) (numbers : ℕ) (keys : List KeyText) (path : List ℕ) (steps : List StepText) (s : ValueState)
    → GaveFew names numbers s → All (NamesOneOf names keys) steps → s.store.drawn + length steps ≤ numbers → StepsHaveRoom keys path steps s
few_have_room names numbers keys path [] s few named count = tt
few_have_room names numbers keys path (step ∷ more) s few named count =
    let one = all_first (NamesOneOf names keys) step more named in
    let drawn = drawn_few keys path step s few.values in (
      room_of names numbers keys (step_key step) s few (omega (arith, count)) one,
      λ on. few_have_room names numbers keys path more (step_run keys path step s).state (step_given names numbers keys path step s few one) (all_later (NamesOneOf names keys) step more named) (omega (arith, count, drawn)),
    )

pub steps_draw_few : (keys : List KeyText) (path : List ℕ) (steps : List StepText) (s : ValueState) → HasValues s → s.memory ≡ [] → (steps_run keys path steps s).state.store.drawn ≤ s.store.drawn + length steps
steps_draw_few keys path [] s h none = subst (λ (e : StepEnd). e.state.store.drawn ≤ s.store.drawn + 0) (sym (steps_run-nil keys path s)) (omega arith)
steps_draw_few keys path (step ∷ more) s h none =
    let next = step_run keys path step s in
    let drawn = drawn_few keys path step s h in
    elim (bools (is_successful next.verdict)) [
      | inl on ↦
          let rest = steps_draw_few keys path more next.state (step_values keys path step s h) (step_memory keys path step s none) in
          subst (λ (e : StepEnd). e.state.store.drawn ≤ s.store.drawn + suc (length more)) (sym (plain_goes keys path step more s none on)) (omega (arith, rest, drawn))
      | inr off ↦ subst (λ (e : StepEnd). e.state.store.drawn ≤ s.store.drawn + suc (length more)) (sym (plain_stops keys path step more s none off)) (omega (arith, drawn))
    ]
