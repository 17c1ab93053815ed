-- A compute of a plain run where nothing is found and whose factory fails: what is left where its fault is kept, and where it is not.
use Rattle.std.proofs.Common.{◌≡◌, ℕ, ◌<◌, true, false, List, refl, ap, sym, ◌∙◌, None, Some}
use Rattle.std.specs.Prelude.{if◌then◌else◌}
use Rattle.ext_model.specs.declared.event.Act.{Act}
use Rattle.ext_model.specs.declared.event.Act.TheVariants.{Claim, Fail, Abandon}
use Rattle.ext_model.specs.declared.slot.Slot.TheVariants as slot
use Rattle.ext_model.specs.State.{State}
use Rattle.ext_model.specs.Events.{Happens, claim_reply, end_reply}
use Rattle.ext_model.specs.History.{History}
use Rattle.ext_model.specs.Plain.{Place, any_lane, next_state, state_by}
use Rattle.ext_model.proofs.Changes.{here}
use Rattle.ext_model.proofs.Steps.{abandon_undoes_claim}
use Rattle.ext_tree.specs.Keys.{KeyValue}
use Rattle.ext_lifecycle.specs.Endings.{successful}
use Rattle.ext_plan.specs.StoreKeys.{is_there, number_of_key}
use Rattle.ext_plan.specs.Values.{ValueText}
use Rattle.ext_plan_plain.specs.ValueStates.{ValueState, after_act, next_number, reply_to, value_of, refusal as plain_refusal}
use Rattle.ext_plan_plain.specs.StepRuns.{StepEnd, ended, factory_failed, or_refused}
use Rattle.ext_one_report.proofs.MatchingWords.{RunView, Places, Matches, IsNumbered, plain_slot, text_of, after_event}
use Rattle.ext_one_report.proofs.Matching.{draw_happens, event_keeps_numbered, place_then, plain_there, values_keep_matches, values_keep_numbered}
use Rattle.ext_one_report.proofs.OwnCell.{but, others_event}
use Rattle.ext_one_report.proofs.Claimed.{claimed, filled_value, kept_claimed, still_claimed}

-- the words of a fault, as the value under which a plain run keeps them
abbrev pub words_value : List ℕ → ValueText
words_value text = record { text = text; closeable = false }

module _ (t : ValueState) (context : ℕ) (key : KeyValue) (there : is_there t.keys key ≡ true) (empty : t.store.slots (context, number_of_key t.keys key) ≡ None) (text : List ℕ)
    (left : t.store.drawn < t.numbers) (places : Places) (numbered : IsNumbered places t) where
  -- the state under the claim, and with the words of the fault
  abbrev under_claim : ValueState
  under_claim = claimed t context key there empty

  abbrev pub with_words : ValueState
  with_words = kept_claimed t context key there empty (words_value text) left places numbered

  -- and once the fault stands in the place
  abbrev pub faulted : ValueState
  faulted = after_event any_lane (Fail (context, number_of_key t.keys key) with_words.store.drawn) with_words

  -- where faults are kept it is kept,
  pub fault_kept : (name label : List ℕ) → t.keep_faults ≡ true → factory_failed name label (context, number_of_key t.keys key) text under_claim ≡ ended successful faulted
  fault_kept name label keeps =
      let place : Place = (context, number_of_key t.keys key) in
      let act : Act Place = Fail place with_words.store.drawn in
      let happens : reply_to act with_words ≡ Happens None = ap (end_reply any_lane) (still_claimed t context key there empty (words_value text) left places numbered) in
      let kept_end : StepEnd = ended successful (after_act act with_words) in
      let back_end : StepEnd = ended successful (after_act (Abandon place) under_claim) in
      ap (λ b. if b then or_refused name label (plain_refusal (reply_to (next_number under_claim) under_claim)) (after_act (Abandon place) under_claim) kept_end else back_end) keeps
      ∙ (ap (λ r. or_refused name label (plain_refusal r) (after_act (Abandon place) under_claim) kept_end) (draw_happens under_claim left)
      ∙ ap (λ r. ended successful (record with_words { store = state_by r with_words.store (record { lane = any_lane; act = act }) })) happens)

  -- and where they are not nothing is left
  pub fault_not_kept : (name label : List ℕ) → t.keep_faults ≡ false → factory_failed name label (context, number_of_key t.keys key) text under_claim ≡ ended successful t
  fault_not_kept name label keeps =
      let place : Place = (context, number_of_key t.keys key) in
      let act : Act Place = Fail place with_words.store.drawn in
      let kept_end : StepEnd = ended successful (after_act act with_words) in
      let back_end : StepEnd = ended successful (after_act (Abandon place) under_claim) in
      let happens : reply_to (Claim place) t ≡ Happens None = ap (claim_reply false) empty in
      let claimed_so : next_state t.numbers t.store any_lane (Claim place) ≡ under_claim.store = ap (λ r. state_by r t.store (record { lane = any_lane; act = Claim place })) happens in
      ap (λ b. if b then or_refused name label (plain_refusal (reply_to (next_number under_claim) under_claim)) (after_act (Abandon place) under_claim) kept_end else back_end) keeps
      ∙ (ap (λ (st : State Place). ended successful (record t { store = next_state t.numbers st any_lane (Abandon place) })) (sym claimed_so)
      ∙ ap (λ (st : State Place). ended successful (record t { store = st })) (abandon_undoes_claim t.numbers t.store any_lane place empty))

  pub faulted_slot : plain_slot faulted context key ≡ Some (slot.Fault with_words.store.drawn)
  faulted_slot = plain_there faulted context key there ∙ place_then with_words.store any_lane (Fail (context, number_of_key t.keys key) with_words.store.drawn) (context, number_of_key t.keys key) true (here (context, number_of_key t.keys key))

  pub faulted_words : text_of (value_of faulted.values with_words.store.drawn) ≡ Some text
  faulted_words = ap text_of (filled_value t context key there empty (words_value text) left places numbered)

  pub faulted_others : (run : RunView) (h : History) → Matches run (but places context key) h t → Matches run (but places context key) h faulted
  faulted_others run h matches =
      let place : Place = (context, number_of_key t.keys key) in
      others_event run places context key h with_words any_lane (Fail place with_words.store.drawn) there refl
      (values_keep_matches run (but places context key) h (words_value text) under_claim (others_event run places context key h t any_lane (Claim place) there refl matches))

  pub faulted_numbered : IsNumbered places faulted
  faulted_numbered =
      let place : Place = (context, number_of_key t.keys key) in
      event_keeps_numbered places with_words any_lane (Fail place with_words.store.drawn) context key there refl
      (values_keep_numbered places (words_value text) under_claim left (event_keeps_numbered places t any_lane (Claim place) context key there refl numbered))
