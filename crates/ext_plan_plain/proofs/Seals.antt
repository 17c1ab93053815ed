-- No step of a plain run leaves a claim, so that the end of each context seals all its keys.
use Rattle.std.proofs.Common.{◌≡◌, ℕ, zero, suc, ◌+◌, ◌<◌, Bool, true, false, List, Option, Some, None, is_some, refl, ap, sym, subst, ◌∙◌, arith, add-one, ⊎_elim}
use Rattle.std.specs.Prelude.{if◌then◌else◌}
use Rattle.std.proofs.lemmas.Bool.{cases_lt}
use Rattle.ext_model.specs.declared.event.Act.{Act}
use Rattle.ext_model.specs.declared.event.Act.TheVariants.{Put, Remove, Claim, Fill, Fail, Seal}
use Rattle.ext_model.specs.declared.event.Event.{Event}
use Rattle.ext_model.specs.declared.slot.Slot.{Slot}
use Rattle.ext_model.specs.declared.slot.Slot.TheVariants as slot
use Rattle.ext_model.specs.State.{State, IsClaimed, IsSealed}
use Rattle.ext_model.specs.Events.{Reply, Happens, Answers, Refuses, claim_reply, end_reply, seal_reply, slot_after}
use Rattle.ext_model.specs.Plain.{Place, same_place, any_lane, state_by, next_state}
use Rattle.ext_model.proofs.Changes.{here, same_place_is}
use Rattle.ext_model.proofs.Steps.{others_stay, seals_stay, abandon_undoes_claim}
use Rattle.ext_plan.specs.Plans.{PlanText}
use Rattle.ext_plan_plain.specs.ValueStates.{ValueState, refusal, reply_to, after_act, why_refused, next_number, keep_value}
use Rattle.ext_plan_plain.specs.ContextEnds.{seal_keys}
use Rattle.ext_plan_plain.specs.PlainRun.{RunState, container_run, node_end, node_run, test_node_run}
use Rattle.ext_plan_plain.specs.PlainRunLaws.{HasNoClaims}
use Rattle.ext_plan_plain.proofs.Ends.{body_end, container_end, test_end}
use Rattle.ext_plan_plain.proofs.Kept.{IsKept, IsKeptNumbered, container-open, node-kept, seals-kept, test-open}
use Rattle.ext_plan_plain.proofs.LimitsStay.{container-limits, test-limits}
use Rattle.ext_lifecycle.specs.FaultTexts.{NodeOutcome}
use Rattle.ext_plan.specs.Values.{ValueText}
use Rattle.ext_plan.specs.StepCalls.{start_of}
use Rattle.ext_plan.specs.PlanCalls.{test_of}
use Rattle.ext_plan_plain.specs.NodeCalls.{CallsEnd}

-- ---- no claim is left

either-free : (b : Bool) (x y : Option Slot) → ¬ IsClaimed x → ¬ IsClaimed y → ¬ IsClaimed (if b then x else y)
either-free true x y p q = p
either-free false x y p q = q

by_reply : (r : Reply) (s : State Place) (e : Event Place) (place : Place) → ¬ IsClaimed (s.slots place) → ¬ IsClaimed (slot_after e.lane e.act (s.slots place)) → ¬ IsClaimed ((state_by r s e).slots place)
by_reply (Happens answer) s e place old new = either-free _ _ _ new old
by_reply (Answers answer) s e place old new = old
by_reply (Refuses why) s e place old new = old

act-free : (act : Act Place) (s : ValueState) → HasNoClaims s → ((place : Place) → ¬ IsClaimed (slot_after any_lane act (s.store.slots place))) → HasNoClaims (after_act act s)
act-free act s old new = λ place. by_reply (reply_to act s) s.store (record { lane = any_lane; act = act }) place (old place) (new place)

-- a claim that isn't refused was of an empty place
pub was_empty : (x : Option Slot) → refusal (claim_reply false x) ≡ None → x ≡ None
was_empty None won = refl
was_empty (Some (slot.Entry number)) won = absurd cc
was_empty (Some (slot.Fault number)) won = absurd cc
was_empty (Some (slot.Claim lane)) won = absurd cc
was_empty (Some (slot.Sealed kept)) won = absurd cc

-- a claim that is followed by the draw of a number and a fill: the place has the number
claim_stands : (numbers : ℕ) (s : State Place) (place : Place) → s.slots place ≡ None → (next_state numbers s any_lane (Claim place)).slots place ≡ Some (slot.Claim any_lane)
claim_stands numbers s place empty =
    ap (λ x. (state_by (claim_reply false x) s (record { lane = any_lane; act = Claim place })).slots place) empty
    ∙ ap (λ b. if b then Some (slot.Claim any_lane) else s.slots place) (here place)

fill_stands : (numbers : ℕ) (s : State Place) (place : Place) (number : ℕ) → s.slots place ≡ Some (slot.Claim any_lane) → (next_state numbers s any_lane (Fill place number)).slots place ≡ Some (slot.Entry number)
fill_stands numbers s place number claimed =
    ap (λ x. (state_by (end_reply any_lane x) s (record { lane = any_lane; act = Fill place number })).slots place) claimed
    ∙ ap (λ b. if b then Some (slot.Entry number) else s.slots place) (here place)

pub filled_here : (place : Place) (value : ValueText) (s : ValueState) → why_refused (Claim place) s ≡ None
    → (let kept = keep_value value (after_act (Claim place) s) in (after_act (Fill place kept.store.drawn) kept).store.slots place ≡ Some (slot.Entry kept.store.drawn))
filled_here place value s won =
    let claimed = after_act (Claim place) s in
    let kept = keep_value value claimed in
    fill_stands kept.numbers kept.store place kept.store.drawn (others_stay claimed.numbers claimed.store any_lane (next_number claimed) place refl ∙ claim_stands s.numbers s.store place (was_empty (s.store.slots place) won))

filled_elsewhere : (place : Place) (value : ValueText) (s : ValueState) (p : Place) → same_place place p ≡ false
    → (let kept = keep_value value (after_act (Claim place) s) in (after_act (Fill place kept.store.drawn) kept).store.slots p ≡ s.store.slots p)
filled_elsewhere place value s p other =
    let claimed = after_act (Claim place) s in
    let kept = keep_value value claimed in
    others_stay kept.numbers kept.store any_lane (Fill place kept.store.drawn) p other
    ∙ others_stay claimed.numbers claimed.store any_lane (next_number claimed) p refl
    ∙ others_stay s.numbers s.store any_lane (Claim place) p other

fill-free : (place : Place) (value : ValueText) (s : ValueState) → why_refused (Claim place) s ≡ None → HasNoClaims s → (p : Place) (b : Bool) → same_place place p ≡ b
    → (let kept = keep_value value (after_act (Claim place) s) in ¬ IsClaimed ((after_act (Fill place kept.store.drawn) kept).store.slots p))
fill-free place value s won h p true same =
    let kept = keep_value value (after_act (Claim place) s) in
    let entry : ¬ IsClaimed ((after_act (Fill place kept.store.drawn) kept).store.slots place) = subst (λ x. ¬ IsClaimed x) (sym (filled_here place value s won)) (λ claimed. claimed) in
    subst (λ q. ¬ IsClaimed ((after_act (Fill place kept.store.drawn) kept).store.slots q)) (same_place_is place p same) entry
fill-free place value s won h p false other = subst (λ x. ¬ IsClaimed x) (sym (filled_elsewhere place value s p other)) (h p)

-- the same with a fail

fail_stands : (numbers : ℕ) (s : State Place) (place : Place) (number : ℕ) → s.slots place ≡ Some (slot.Claim any_lane) → (next_state numbers s any_lane (Fail place number)).slots place ≡ Some (slot.Fault number)
fail_stands numbers s place number claimed =
    ap (λ x. (state_by (end_reply any_lane x) s (record { lane = any_lane; act = Fail place number })).slots place) claimed
    ∙ ap (λ b. if b then Some (slot.Fault number) else s.slots place) (here place)

pub failed_here : (place : Place) (value : ValueText) (s : ValueState) → why_refused (Claim place) s ≡ None
    → (let kept = keep_value value (after_act (Claim place) s) in (after_act (Fail place kept.store.drawn) kept).store.slots place ≡ Some (slot.Fault kept.store.drawn))
failed_here place value s won =
    let claimed = after_act (Claim place) s in
    let kept = keep_value value claimed in
    fail_stands kept.numbers kept.store place kept.store.drawn (others_stay claimed.numbers claimed.store any_lane (next_number claimed) place refl ∙ claim_stands s.numbers s.store place (was_empty (s.store.slots place) won))

failed_elsewhere : (place : Place) (value : ValueText) (s : ValueState) (p : Place) → same_place place p ≡ false
    → (let kept = keep_value value (after_act (Claim place) s) in (after_act (Fail place kept.store.drawn) kept).store.slots p ≡ s.store.slots p)
failed_elsewhere place value s p other =
    let claimed = after_act (Claim place) s in
    let kept = keep_value value claimed in
    others_stay kept.numbers kept.store any_lane (Fail place kept.store.drawn) p other
    ∙ others_stay claimed.numbers claimed.store any_lane (next_number claimed) p refl
    ∙ others_stay s.numbers s.store any_lane (Claim place) p other

fail-free : (place : Place) (value : ValueText) (s : ValueState) → why_refused (Claim place) s ≡ None → HasNoClaims s → (p : Place) (b : Bool) → same_place place p ≡ b
    → (let kept = keep_value value (after_act (Claim place) s) in ¬ IsClaimed ((after_act (Fail place kept.store.drawn) kept).store.slots p))
fail-free place value s won h p true same =
    let kept = keep_value value (after_act (Claim place) s) in
    let fault : ¬ IsClaimed ((after_act (Fail place kept.store.drawn) kept).store.slots place) = subst (λ x. ¬ IsClaimed x) (sym (failed_here place value s won)) (λ claimed. claimed) in
    subst (λ q. ¬ IsClaimed ((after_act (Fail place kept.store.drawn) kept).store.slots q)) (same_place_is place p same) fault
fail-free place value s won h p false other = subst (λ x. ¬ IsClaimed x) (sym (failed_elsewhere place value s p other)) (h p)

free : IsKept HasNoClaims
free = record {
  finds = λ memory s h. h;
  puts = λ place number s h. act-free (Put place number) s h (λ p claimed. claimed);
  removes = λ place s h. act-free (Remove place) s h (λ p claimed. claimed);
  seals = λ place s h. act-free (Seal place) s h (λ p claimed. claimed);
  keeps = λ value s room h. act-free (next_number s) s h h;
  abandons = λ place s won h. subst (λ (t : State Place). (p : Place) → ¬ IsClaimed (t.slots p)) (sym (abandon_undoes_claim s.numbers s.store any_lane place (was_empty (s.store.slots place) won))) h;
  fills = λ place value s won room h. λ p. fill-free place value s won h p (same_place place p) refl;
  fails = λ place value s keeps won room h. λ p. fail-free place value s won h p (same_place place p) refl;
}

free-numbered : IsKeptNumbered HasNoClaims
free-numbered = record { numbers = λ key number s is h. h }

pub node-free : (plan : PlanText) (levels : ℕ) (path : List ℕ) (run : RunState) → HasNoClaims run.state → HasNoClaims (node_run plan levels path run).state
node-free = node-kept HasNoClaims free free-numbered

-- ---- where no claim stands, a seal seals

either-sealed : (b : Bool) (kept : Option ℕ) (other : Option Slot) → b ≡ true → IsSealed (if b then Some (slot.Sealed kept) else other)
either-sealed true kept other is = tt
either-sealed false kept other is = absurd (cc is)

sealed_by : (x : Option Slot) (s : State Place) (place : Place) → s.slots place ≡ x → ¬ IsClaimed x → IsSealed ((state_by (seal_reply x) s (record { lane = any_lane; act = Seal place })).slots place)
sealed_by None s place is unclaimed = either-sealed (same_place place place) _ _ (here place)
sealed_by (Some (slot.Entry number)) s place is unclaimed = either-sealed (same_place place place) _ _ (here place)
sealed_by (Some (slot.Fault number)) s place is unclaimed = either-sealed (same_place place place) _ _ (here place)
sealed_by (Some (slot.Claim lane)) s place is unclaimed = absurd (unclaimed tt)
sealed_by (Some (slot.Sealed kept)) s place is unclaimed = subst IsSealed (sym is) tt

stays_by : (numbers : ℕ) (x : Option Slot) (s : State Place) (act : Act Place) (place : Place) → s.slots place ≡ x → IsSealed x → IsSealed ((next_state numbers s any_lane act).slots place)
stays_by numbers None s act place is sealed = absurd sealed
stays_by numbers (Some (slot.Entry number)) s act place is sealed = absurd sealed
stays_by numbers (Some (slot.Fault number)) s act place is sealed = absurd sealed
stays_by numbers (Some (slot.Claim lane)) s act place is sealed = absurd sealed
stays_by numbers (Some (slot.Sealed kept)) s act place is sealed = subst IsSealed (sym (seals_stay numbers s any_lane act place kept is)) tt

seals-sealed : (count at key : ℕ) (s : ValueState) → HasNoClaims s → key < count → IsSealed ((seal_keys count at s).store.slots (at, key))
unfolding seal_keys
seals-sealed zero at key s no_claims within = absurd (omega (arith, within))
seals-sealed (suc last) at key s no_claims within =
    let before = seal_keys last at s in
    ⊎_elim
    (λ below. stays_by before.numbers _ before.store (Seal (at, last)) (at, key) refl (seals-sealed last at key s no_claims below))
    (λ past.
    let is : last ≡ key = omega (arith, past, within) in
    subst (λ k. IsSealed ((after_act (Seal (at, last)) before).store.slots (at, k))) is (sealed_by _ before.store (at, last) refl (seals-kept HasNoClaims free last at s no_claims (at, last))))
    (cases_lt key last)

-- a node's keys are sealed, whatever its calls left
end-sealed : (plan : PlanText) (key : ℕ) (at : ℕ) (is_test : Bool) (end : CallsEnd) (results : List NodeOutcome) → HasNoClaims end.state → key < end.state.places
    → IsSealed ((node_end at is_test end results).state.store.slots (at, key))
end-sealed plan key at is_test end results no_claims within = seals-sealed end.state.places at key end.state no_claims within

node-by-sealed : (b : Bool) (x y : RunState) (place : Place) → IsSealed (x.state.store.slots place) → IsSealed (y.state.store.slots place) → IsSealed ((if b then x else y).state.store.slots place)
node-by-sealed true x y place p q = p
node-by-sealed false x y place p q = q

pub node-sealed : (plan : PlanText) (levels key : ℕ) (path : List ℕ) (run : RunState) → HasNoClaims run.state → key < run.state.places
    → IsSealed ((node_run plan (levels + 1) path run).state.store.slots (start_of path, key))
unfolding node_run
node-sealed plan levels key path run no_claims within =
    let at = start_of path in
    let tested = end-sealed plan key at true (test_end plan at path run) run.results (test-open HasNoClaims free free-numbered plan at path run no_claims) (subst (λ n. key < n) (sym (test-limits plan at path run).places) within) in
    let contained = end-sealed plan key at false (container_end plan (node_run plan levels) at path run) (body_end plan (node_run plan levels) at path run).results (container-open HasNoClaims free free-numbered plan (node_run plan levels) (node-free plan levels) at path run no_claims)
    (subst (λ n. key < n) (sym (container-limits plan levels at path run).places) within) in
    subst (λ n. IsSealed ((node_run plan n path run).state.store.slots (at, key))) (sym (add-one levels))
    (node-by-sealed (is_some (test_of plan at)) (test_node_run plan at path run) (container_run plan (node_run plan levels) at path run) (at, key) tested contained)
