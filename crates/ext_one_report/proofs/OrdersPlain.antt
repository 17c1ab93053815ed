-- What a step of a plain run leaves in one place: what stood there, or a new number.
use Rattle.std.proofs.Common.{◌≡◌, ◌<◌, ◌≤◌, ◌+◌, ◌⊎◌, ℕ, inl, inr, Bool, true, false, List, [], ◌∷◌, Option, None, Some, refl, ap, sym, ◌∙◌, arith, if◌then◌else◌}
use Rattle.std.proofs.lemmas.List.Elements.{All-nil}
use Rattle.ext_model.specs.declared.event.Act.{Act}
use Rattle.ext_model.specs.declared.event.Act.TheVariants.{Abandon, Claim, Fail, Fill}
use Rattle.ext_model.specs.declared.look.Look.{Look}
use Rattle.ext_model.specs.declared.look.Look.TheVariants as look
use Rattle.ext_model.specs.declared.slot.Slot.{Slot}
use Rattle.ext_model.specs.declared.slot.Slot.TheVariants as slot
use Rattle.ext_model.specs.Events.{is_on, slot_after}
use Rattle.ext_model.specs.Plain.{Place, any_lane, plain_reply, same_place, under}
use Rattle.ext_model.proofs.Lookups.{nearest_decides}
use Rattle.ext_plan.specs.declared.reason.Reason.{Reason}
use Rattle.ext_plan.specs.Values.{ValueText}
use Rattle.ext_plan_plain.specs.StepRuns.{StepEnd, compute_looked, computefail_looked, ended, factory_failed, factory_gave, found_along, or_refused}
use Rattle.ext_lifecycle.specs.Endings.{successful}
use Rattle.ext_plan_plain.specs.ValueStates.{ValueState, after_act, keep_value, next_number, reply_to, why_refused}
use Rattle.ext_plan_plain.proofs.Values.{keep-drawn}
use Rattle.ext_one_report.proofs.FrameSlots.{reply_drawn}
use Rattle.ext_one_report.proofs.Matching.{draw_slots}
use Rattle.ext_one_report.proofs.OfPlan.{value_in}
use Rattle.ext_one_report.proofs.OfPlanStates.{IsLess, IsStored, less_by, less_claim, less_none, stored_by, stored_entry, stored_fault}

-- from one state to a later one
pub record Newer (place : Place) (t u : ValueState) : Type 0 where
  pub rises : t.store.drawn ≤ u.store.drawn
  pub stands : (n : ℕ) → value_in (u.store.slots place) ≡ Some n → (value_in (t.store.slots place) ≡ Some n) ⊎ (t.store.drawn < n)

module _ (place : Place) (t : ValueState) where
  pub newer_itself : Newer place t t
  newer_itself = record { rises = omega arith; stands = λ n is. inl is }

  pub newer_less : (act : Act Place) (u : ValueState) → ((x : Option Slot) → IsLess x (slot_after any_lane act x)) → Newer place t u → Newer place t (after_act act u)
  newer_less act u less newer = record {
    rises = let before = newer.rises in let now = reply_drawn (reply_to act u) u.store act in omega (arith, before, now);
    stands = λ n is. newer.stands n ((less_by (reply_to act u) u.store (record { lane = any_lane; act = act }) place (less (u.store.slots place))).value n is);
  }

  pub newer_kept : (value : ValueText) (u : ValueState) → Newer place t u → Newer place t (keep_value value u)
  newer_kept value u newer = record {
    rises = let before = newer.rises in let now = reply_drawn (reply_to (next_number u) u) u.store (next_number u) in omega (arith, before, now);
    stands = λ n is. newer.stands n (ap value_in (sym (draw_slots (plain_reply u.numbers u.store any_lane (next_number u)) u.store any_lane (u.store.drawn + 1) place)) ∙ is);
  }

  pub newer_stored : (act : Act Place) (u : ValueState) → t.store.drawn < u.store.drawn → ((x : Option Slot) → is_on same_place place act ≡ true → IsStored place u.store.drawn place x (slot_after any_lane act x)) → Newer place t u
      → Newer place t (after_act act u)
  newer_stored act u late stored newer = record {
    rises = let before = newer.rises in let now = reply_drawn (reply_to act u) u.store act in omega (arith, before, now);
    stands = λ n is. elim ((stored_by (reply_to act u) u.store (record { lane = any_lane; act = act }) place u.store.drawn place (λ on. stored (u.store.slots place) on)).value n is) [
      | inl old ↦ newer.stands n old
      | inr new ↦ let same = new.1 in inr (omega (arith, same, late))
    ];
  }

  or_when : (name label : List ℕ) (why : Option Reason) (s : ValueState) (goes : StepEnd) → Newer place t s → (why ≡ None → Newer place t goes.state) → Newer place t (or_refused name label why s goes).state
  or_when name label None s goes p q = q refl
  or_when name label (Some why) s goes p q = p

  either : (b : Bool) (x y : StepEnd) → Newer place t x.state → Newer place t y.state → Newer place t (if b then x else y).state
  either true x y p q = p
  either false x y p q = q

  gave : (name label : List ℕ) (value : ValueText) (u : ValueState) → Newer place t u → Newer place t (factory_gave name label place value u).state
  gave name label value u newer =
      let kept = keep_value value u in
      or_when name label (why_refused (next_number u) u) (after_act (Abandon place) u) _ (newer_less (Abandon place) u less_none newer)
      (λ room.
      let count = keep-drawn value u room in
      let before = newer.rises in
      newer_stored (Fill place kept.store.drawn) kept (omega (arith, count, before)) (λ x on. stored_entry place kept.store.drawn place x refl) (newer_kept value u newer))

  failed : (name label : List ℕ) (text : List ℕ) (u : ValueState) → Newer place t u → Newer place t (factory_failed name label place text u).state
  failed name label text u newer =
      let value : ValueText = record { text = text; closeable = false } in
      let kept = keep_value value u in
      let gone = after_act (Abandon place) u in
      let stored = ended successful (after_act (Fail place kept.store.drawn) kept) in
      let away = newer_less (Abandon place) u less_none newer in
      either u.keep_faults (or_refused name label (why_refused (next_number u) u) gone stored) (ended successful gone)
      (or_when name label (why_refused (next_number u) u) gone stored away
      (λ room.
      let count = keep-drawn value u room in
      let before = newer.rises in
      newer_stored (Fail place kept.store.drawn) kept (omega (arith, count, before)) (λ x on. stored_fault place kept.store.drawn place x refl) (newer_kept value u newer)))
      away

  claimed : Newer place t (after_act (Claim place) t)
  claimed = newer_less (Claim place) t (λ x. less_claim x any_lane) newer_itself

  pub compute_newer : (name label : List ℕ) (value : ValueText) (found : Look) → Newer place t (compute_looked name label place value t found).state
  compute_newer name label value (look.Found at number) = newer_itself
  compute_newer name label value (look.Fault at number) = newer_itself
  compute_newer name label value look.Absent = or_when name label (why_refused (Claim place) t) t (factory_gave name label place value (after_act (Claim place) t)) newer_itself (λ won. gave name label value (after_act (Claim place) t) claimed)
  compute_newer name label value (look.Busy at) = newer_itself
  compute_newer name label value (look.Closed at) = newer_itself

  pub fail_newer : (name label : List ℕ) (text : List ℕ) (found : Look) → Newer place t (computefail_looked name label place text t found).state
  fail_newer name label text (look.Found at number) = newer_itself
  fail_newer name label text (look.Fault at number) = newer_itself
  fail_newer name label text look.Absent = or_when name label (why_refused (Claim place) t) t (factory_failed name label place text (after_act (Claim place) t)) newer_itself (λ won. failed name label text (after_act (Claim place) t) claimed)
  fail_newer name label text (look.Busy at) = newer_itself
  fail_newer name label text (look.Closed at) = newer_itself

-- where a value stands a look-up ends
pub look_ends : (context raw : ℕ) (above : List ℕ) (t : ValueState) (n : ℕ) → value_in (t.store.slots (context, raw)) ≡ Some n
    → ((m : ℕ) × (found_along raw (context ∷ above) t ≡ look.Found context m)) ⊎ (found_along raw (context ∷ above) t ≡ look.Closed context)
look_ends context raw above t n is = by (t.store.slots (context, raw)) refl is
  where
    by : (x : Option Slot) → t.store.slots (context, raw) ≡ x → value_in x ≡ Some n → ((m : ℕ) × (found_along raw (context ∷ above) t ≡ look.Found context m)) ⊎ (found_along raw (context ∷ above) t ≡ look.Closed context)
    by None at has = absurd (cc has)
    by (Some (slot.Entry m)) at has = inl (m, nearest_decides (under t.store raw) [] context above (slot.Entry m) (All-nil (λ k. under t.store raw k ≡ None)) at)
    by (Some (slot.Fault m)) at has = absurd (cc has)
    by (Some (slot.Claim lane)) at has = absurd (cc has)
    by (Some (slot.Sealed kept)) at has = inr (nearest_decides (under t.store raw) [] context above (slot.Sealed kept) (All-nil (λ k. under t.store raw k ≡ None)) at)
