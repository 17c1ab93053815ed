-- Each number that a plain run draws has a value, and what was put is found.
use Rattle.std.proofs.Common.{◌≡◌, ℕ, suc, ◌+◌, Bool, true, false, List, [], ◌∷◌, ◌++◌, length, drop, Option, Some, None, refl, ap, sym, subst, ◌∙◌, arith, add-one}
use Rattle.std.specs.Prelude.{codes, slice_get, nat_lt, if◌then◌else◌}
use Rattle.std.proofs.lemmas.Cmp.{nat_list_eq_equiv}
use Rattle.ext_model.specs.declared.event.Act.{Act}
use Rattle.ext_model.specs.declared.event.Act.TheVariants.{Put, Remove, Claim, Fill, Fail, Abandon, Seal}
use Rattle.ext_model.specs.declared.look.Look.TheVariants as look
use Rattle.ext_model.specs.declared.slot.Slot.{Slot}
use Rattle.ext_model.specs.declared.slot.Slot.TheVariants as slot
use Rattle.ext_model.specs.State.{State, lookup}
use Rattle.ext_model.specs.Events.{Reply, Happens, Answers, Refuses, NumbersFull, put_reply, drawn_after}
use Rattle.ext_model.specs.Plain.{Place, under, any_lane, state_by}
use Rattle.ext_model.proofs.Lookups.{put_found}
use Rattle.ext_plan.specs.declared.word.Word.TheVariants as words
use Rattle.ext_plan.specs.Plans.{KeyText, PlanText, StepKeyText, keyed}
use Rattle.ext_plan.specs.StoreKeys.{key_of_step}
use Rattle.ext_lifecycle.specs.Endings.{successful, failed}
use Rattle.ext_plan_plain.specs.ValueStates.{enough, ValueState, refusal, reply_to, after_act, why_refused, next_number, keep_value, value_of, Numbering, known, next, full, numbering_of, with_number}
use Rattle.ext_plan_plain.specs.StepRuns.{StepEnd, kept_or_refused, number_by, numbered_by, put_in, put_kept, seen_by, shown, step_run, want_numbered}
use Rattle.ext_plan_plain.specs.PlainRun.{RunState, node_run}
use Rattle.ext_plan_plain.specs.PlainRunLaws.{HasValues}
use Rattle.ext_plan_plain.proofs.Kept.{IsKept, IsKeptNumbered, node-kept}
use Rattle.ext_plan.specs.StepCalls.{label_of, start_of}
use Rattle.ext_plan_plain.proofs.Numberings.{known_then}
use Rattle.ext_plan.specs.declared.reason.Reason.{Reason}
use Rattle.ext_plan.specs.StepTexts.{other_text}
use Rattle.ext_plan.specs.Values.{ValueText}
use Rattle.ext_plan.specs.Verdicts.{unless_refused, want_verdict}

-- ---- a number is drawn where the draw isn't refused, and by no other act

drawn_by : (r : Reply) (s : State Place) (act : Act Place) → drawn_after act s.drawn ≡ s.drawn → (state_by r s (record { lane = any_lane; act = act })).drawn ≡ s.drawn
drawn_by (Happens answer) s act same = same
drawn_by (Answers answer) s act same = refl
drawn_by (Refuses why) s act same = refl

pub act-values : (act : Act Place) (s : ValueState) → drawn_after act s.store.drawn ≡ s.store.drawn → HasValues s → HasValues (after_act act s)
act-values act s same h = h ∙ sym (drawn_by (reply_to act s) s.store act same)

drawn_if : (b : Bool) (answer : Option ℕ) (s : ValueState) → refusal (if b then Happens answer else Refuses NumbersFull) ≡ None
    → (state_by (if b then Happens answer else Refuses NumbersFull) s.store (record { lane = any_lane; act = next_number s })).drawn ≡ suc s.store.drawn
drawn_if true answer s room = add-one s.store.drawn
drawn_if false answer s room = absurd cc

pub keep-drawn : (value : ValueText) (s : ValueState) → why_refused (next_number s) s ≡ None → (keep_value value s).store.drawn ≡ suc s.store.drawn
keep-drawn value s room = drawn_if (nat_lt s.store.drawn s.numbers) (Some (s.store.drawn + 1)) s room

-- ---- each number has a value

one_more : (values : List ValueText) (value : ValueText) → length (values ++ value ∷ []) ≡ suc (length values)
one_more [] value = refl
one_more (v ∷ values) value = ap suc (one_more values value)

keep-values : (value : ValueText) (s : ValueState) → why_refused (next_number s) s ≡ None → HasValues s → HasValues (keep_value value s)
keep-values value s room h = one_more s.values value ∙ ap suc h ∙ sym (keep-drawn value s room)

valued : IsKept HasValues
valued = record {
  finds = λ memory s h. h;
  puts = λ place number s h. act-values (Put place number) s refl h;
  removes = λ place s h. act-values (Remove place) s refl h;
  seals = λ place s h. act-values (Seal place) s refl h;
  keeps = keep-values;
  abandons = λ place s won h. act-values (Abandon place) (after_act (Claim place) s) refl (act-values (Claim place) s refl h);
  fills = λ place value s won room h.
      let claimed = after_act (Claim place) s in
      let kept = keep_value value claimed in
      act-values (Fill place kept.store.drawn) kept refl (keep-values value claimed room (act-values (Claim place) s refl h));
  fails = λ place value s keeps won room h.
      let claimed = after_act (Claim place) s in
      let kept = keep_value value claimed in
      act-values (Fail place kept.store.drawn) kept refl (keep-values value claimed room (act-values (Claim place) s refl h));
}

valued-numbered : IsKeptNumbered HasValues
valued-numbered = record { numbers = λ key number s is h. h }

pub node-values : (plan : PlanText) (levels : ℕ) (path : List ℕ) (run : RunState) → HasValues run.state → HasValues (node_run plan levels path run).state
node-values = node-kept HasValues valued valued-numbered

-- ---- what was put is found

pub last_value : (values : List ValueText) (value : ValueText) → slice_get (values ++ value ∷ []) (length values) ≡ Some value
last_value [] value = refl
last_value (v ∷ values) value = last_value values value

wanted : (name label text : List ℕ) (closeable : Bool) → want_verdict name label text (shown (Some (record { text = text; closeable = closeable }))) ≡ successful
wanted name label text closeable = ap (λ b. if b then successful else failed (other_text label text text)) (nat_list_eq_equiv.refl text)

put-happens : (x : Option Slot) (name label : List ℕ) → unless_refused name label (refusal (put_reply false x)) ≡ successful → (stood : Option ℕ) × (put_reply false x ≡ Happens stood)
put-happens None name label passed = (None, refl)
put-happens (Some (slot.Entry number)) name label passed = (Some number, refl)
put-happens (Some (slot.Fault number)) name label passed = (Some number, refl)
put-happens (Some (slot.Claim lane)) name label passed = absurd cc
put-happens (Some (slot.Sealed kept)) name label passed = absurd cc

-- from the state that has kept the value
kept-wanted : (own label : List ℕ) (at key : ℕ) (above : List ℕ) (text : List ℕ) (kept : ValueState) (values : List ValueText) → kept.values ≡ values ++ record { text = text; closeable = false } ∷ [] → kept.store.drawn ≡ suc (length values)
    → (put_kept (codes "put") own (at, key) kept).verdict ≡ successful
    → want_verdict (codes "want") label text (seen_by kept.values (lookup (under (after_act (Put (at, key) kept.store.drawn) kept).store key) (at ∷ above))) ≡ successful
kept-wanted own label at key above text kept values are drawn passed =
    let number = kept.store.drawn in
    let stored = put-happens (kept.store.slots (at, key)) (codes "put") own passed in
    let found : lookup (under (after_act (Put (at, key) number) kept).store key) (at ∷ above) ≡ look.Found at number =
    put_found kept.numbers kept.store any_lane at key number stored.0 [] above (λ k d within. absurd (omega (arith, within))) stored.1 in
    ap (λ found. want_verdict (codes "want") label text (seen_by kept.values found)) found
    ∙ ap (λ vs. want_verdict (codes "want") label text (shown (value_of vs number))) are
    ∙ ap (λ n. want_verdict (codes "want") label text (shown (value_of (values ++ record { text = text; closeable = false } ∷ []) n))) drawn
    ∙ ap (λ v. want_verdict (codes "want") label text (shown v)) (last_value values (record { text = text; closeable = false }))
    ∙ wanted (codes "want") label text false

-- the steps of a key that has its number

put-known : (keys : List KeyText) (path : List ℕ) (at : ℕ) (above : List ℕ) (key other : StepKeyText) (up : ℕ) (text : List ℕ) (kept : ValueState) (values : List ValueText) (number : ℕ) → key_of_step keys other ≡ key_of_step keys key
    → drop up path ≡ at ∷ above → numbering_of kept.places kept.keys (key_of_step keys key) ≡ known number → kept.values ≡ values ++ record { text = text; closeable = false } ∷ [] → kept.store.drawn ≡ suc (length values)
    → (let end = put_kept (codes "put") (label_of keys key) (start_of (drop up path), number) kept in end.verdict ≡ successful → (step_run keys path (keyed words.Want other text up) end.state).verdict ≡ successful)
put-known keys path at above key other up text kept values number same is knows are drawn = λ passed.
    let own = label_of keys key in
    let label = label_of keys other in
    let after = (put_kept (codes "put") own (start_of (drop up path), number) kept).state in
    let wants : ℕ → ValueState → StepEnd = want_numbered enough (codes "want") label (drop up path) text in
    ap (λ (e : StepEnd). e.verdict) (ap (number_by enough (codes "want") label (key_of_step keys other) wants after) (ap (numbering_of kept.places kept.keys) same ∙ knows))
    ∙ subst (λ p. (put_kept (codes "put") own (start_of p, number) kept).verdict ≡ successful
    → want_verdict (codes "want") label text (seen_by kept.values (lookup (under (after_act (Put (start_of p, number) kept.store.drawn) kept).store number) p)) ≡ successful) (sym is) (kept-wanted own label at number above text kept values are drawn) passed

put-named : (keys : List KeyText) (path : List ℕ) (at : ℕ) (above : List ℕ) (key other : StepKeyText) (up : ℕ) (text : List ℕ) (kept : ValueState) (values : List ValueText) (numbering : Numbering) → key_of_step keys other ≡ key_of_step keys key
    → drop up path ≡ at ∷ above → numbering_of kept.places kept.keys (key_of_step keys key) ≡ numbering → kept.values ≡ values ++ record { text = text; closeable = false } ∷ [] → kept.store.drawn ≡ suc (length values)
    → (let label = label_of keys key in let puts : ℕ → ValueState → StepEnd = λ number. put_in enough (codes "put") label (start_of (drop up path), number) in let end = number_by enough (codes "put") label (key_of_step keys key) puts kept numbering in
    end.verdict ≡ successful → (step_run keys path (keyed words.Want other text up) end.state).verdict ≡ successful)
put-named keys path at above key other up text kept values (known number) same is has are drawn = put-known keys path at above key other up text kept values number same is has are drawn
put-named keys path at above key other up text kept values (next number) same is has are drawn =
    let k = key_of_step keys key in
    put-known keys path at above key other up text (with_number k kept) values number same is (known_then kept.places kept.keys k number has) are drawn
put-named keys path at above key other up text kept values full same is has are drawn = λ passed. absurd cc

put-wanted : (keys : List KeyText) (path : List ℕ) (at : ℕ) (above : List ℕ) (key other : StepKeyText) (up : ℕ) (text : List ℕ) (s : ValueState) (why : Option Reason) → key_of_step keys other ≡ key_of_step keys key
    → drop up path ≡ at ∷ above → why_refused (next_number s) s ≡ why → HasValues s
    → (let value : ValueText = record { text = text; closeable = false } in let label = label_of keys key in let puts : ℕ → ValueState → StepEnd = λ number. put_in enough (codes "put") label (start_of (drop up path), number) in
    let end = kept_or_refused enough (codes "put") label why s (numbered_by enough (codes "put") label (key_of_step keys key) puts (keep_value value s)) in
    end.verdict ≡ successful → (step_run keys path (keyed words.Want other text up) end.state).verdict ≡ successful)
put-wanted keys path at above key other up text s None same is room h =
    let value : ValueText = record { text = text; closeable = false } in
    let kept = keep_value value s in
    put-named keys path at above key other up text kept s.values (numbering_of kept.places kept.keys (key_of_step keys key)) same is refl refl (keep-drawn value s room ∙ ap suc (sym h))
put-wanted keys path at above key other up text s (Some why) same is room h = λ passed. absurd cc

pub put_is_found : (keys : List KeyText) (path : List ℕ) (at : ℕ) (above : List ℕ) (key other : StepKeyText) (up : ℕ) (text : List ℕ) (s : ValueState) → key_of_step keys other ≡ key_of_step keys key → drop up path ≡ at ∷ above → HasValues s
    → (step_run keys path (keyed words.Put key text up) s).verdict ≡ successful
    → (step_run keys path (keyed words.Want other text up) (step_run keys path (keyed words.Put key text up) s).state).verdict ≡ successful
put_is_found keys path at above key other up text s same is h = put-wanted keys path at above key other up text s (why_refused (next_number s) s) same is refl h
