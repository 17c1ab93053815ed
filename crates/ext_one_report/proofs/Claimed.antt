-- A compute of a plain run where nothing is found: its claim, and what its factory leaves.
use Rattle.std.proofs.Common.{◌≡◌, ℕ, suc, ◌+◌, ◌<◌, true, false, cond, List, ◌∷◌, length, refl, ap, sym, ◌∙◌, add-one, Option, None, Some, is_some, find}
use Rattle.ext_model.specs.declared.event.Act.{Act}
use Rattle.ext_model.specs.declared.event.Act.TheVariants.{Claim, Fill, Abandon}
use Rattle.ext_model.specs.declared.look.Look.TheVariants as look
use Rattle.ext_model.specs.declared.slot.Slot.{Slot}
use Rattle.ext_model.specs.declared.slot.Slot.TheVariants as slot
use Rattle.ext_model.specs.State.{look_at, look_in, lookup}
use Rattle.ext_model.specs.Events.{Happens, claim_reply, end_reply}
use Rattle.ext_model.specs.History.{History}
use Rattle.ext_model.specs.Plain.{Place, any_lane, state_by}
use Rattle.ext_model.proofs.Changes.{here}
use Rattle.ext_tree.specs.Keys.{KeyValue}
use Rattle.ext_lifecycle.specs.Endings.{successful}
use Rattle.ext_plan.specs.StoreKeys.{is_there, number_of_key}
use Rattle.ext_plan.specs.Values.{ValueText}
use Rattle.ext_plan_plain.specs.ValueStates.{ValueState, after_act, keep_value, next_number, reply_to, value_of, refusal as plain_refusal}
use Rattle.ext_plan_plain.specs.StepRuns.{StepEnd, claim_and, factory_gave, or_refused}
use Rattle.ext_one_report.proofs.MatchingWords.{RunView, Places, Matches, IsNumbered, plain_slot, after_event}
use Rattle.ext_one_report.proofs.Matching.{draw_happens, draw_slots, event_keeps_numbered, kept_drawn, place_then, plain_there, value_last, values_keep_matches, values_keep_numbered}
use Rattle.ext_one_report.proofs.OwnCell.{but, others_event}

-- ---- look-ups that find nothing

look_in_some : (at : ℕ) (x : Slot) → look_in at (Some x) ≡ look.Absent → ⊥
look_in_some at (slot.Entry number) is = absurd (cc is)
look_in_some at (slot.Fault number) is = absurd (cc is)
look_in_some at (slot.Claim lane) is = absurd (cc is)
look_in_some at (slot.Sealed kept) is = absurd (cc is)

some_first : (slots : ℕ → Option Slot) (at : ℕ) (path : List ℕ) (o : Option Slot) → slots at ≡ o → lookup slots (at ∷ path) ≡ look.Absent → o ≡ None
some_first slots at path None is none = refl
some_first slots at path (Some x) is none =
    let first : lookup slots (at ∷ path) ≡ look_in at (Some x) = ap (λ b. look_at slots (cond b (Some at) (find (λ c. is_some (slots c)) path))) (ap is_some is) ∙ ap (look_in at) is in
    absurd (look_in_some at x (sym first ∙ none))

-- where a look-up finds nothing, nothing stands in its first context,
pub absent_first : (slots : ℕ → Option Slot) (at : ℕ) (path : List ℕ) → lookup slots (at ∷ path) ≡ look.Absent → slots at ≡ None
absent_first slots at path none = some_first slots at path (slots at) refl none

-- and one along the rest of its path finds nothing
pub absent_rest : (slots : ℕ → Option Slot) (at : ℕ) (path : List ℕ) → lookup slots (at ∷ path) ≡ look.Absent → lookup slots path ≡ look.Absent
absent_rest slots at path none =
    sym (ap (λ b. look_at slots (cond b (Some at) (find (λ c. is_some (slots c)) path))) (ap is_some (absent_first slots at path none))) ∙ none

-- ---- the claim, and the value of the factory

module _ (t : ValueState) (context : ℕ) (key : KeyValue) (there : is_there t.keys key ≡ true) (empty : t.store.slots (context, number_of_key t.keys key) ≡ None) where
  -- the state under the claim
  abbrev pub claimed : ValueState
  claimed = after_event any_lane (Claim (context, number_of_key t.keys key)) t

  pub claims_first : (name label : List ℕ) (factory : ValueState → StepEnd) → claim_and name label (context, number_of_key t.keys key) factory t ≡ factory claimed
  claims_first name label factory =
      let place : Place = (context, number_of_key t.keys key) in
      let happens : reply_to (Claim place) t ≡ Happens None = ap (claim_reply false) empty in
      ap (λ r. or_refused name label (plain_refusal r) t (factory (record t { store = state_by r t.store (record { lane = any_lane; act = Claim place }) }))) happens

  claim_stands : claimed.store.slots (context, number_of_key t.keys key) ≡ Some (slot.Claim any_lane)
  claim_stands = place_then t.store any_lane (Claim (context, number_of_key t.keys key)) (context, number_of_key t.keys key) true (here (context, number_of_key t.keys key))

  module _ (v : ValueText) (left : t.store.drawn < t.numbers) (places : Places) (numbered : IsNumbered places t) where
    -- the state with the value under its number
    abbrev pub kept_claimed : ValueState
    kept_claimed = keep_value v claimed

    -- and once it fills the place
    abbrev pub filled : ValueState
    filled = after_event any_lane (Fill (context, number_of_key t.keys key) kept_claimed.store.drawn) kept_claimed

    pub still_claimed : kept_claimed.store.slots (context, number_of_key t.keys key) ≡ Some (slot.Claim any_lane)
    still_claimed = draw_slots (reply_to (next_number claimed) claimed) claimed.store any_lane (claimed.store.drawn + 1) (context, number_of_key t.keys key) ∙ claim_stands

    pub factory_gives : (name label : List ℕ) → factory_gave name label (context, number_of_key t.keys key) v claimed ≡ record { state = filled; verdict = successful; computed = 1; found = 0 }
    factory_gives name label =
        let place : Place = (context, number_of_key t.keys key) in
        let act : Act Place = Fill place kept_claimed.store.drawn in
        let happens : reply_to act kept_claimed ≡ Happens None = ap (end_reply any_lane) still_claimed in
        ap (λ r. or_refused name label (plain_refusal r) (after_act (Abandon place) claimed) (record { state = after_act act kept_claimed; verdict = successful; computed = 1; found = 0 })) (draw_happens claimed left)
        ∙ ap (λ r. record { state = record kept_claimed { store = state_by r kept_claimed.store (record { lane = any_lane; act = act }) }; verdict = successful; computed = 1; found = 0 }) happens

    pub filled_slot : plain_slot filled context key ≡ Some (slot.Entry kept_claimed.store.drawn)
    filled_slot = plain_there filled context key there ∙ place_then kept_claimed.store any_lane (Fill (context, number_of_key t.keys key) kept_claimed.store.drawn) (context, number_of_key t.keys key) true (here (context, number_of_key t.keys key))

    pub filled_value : value_of filled.values kept_claimed.store.drawn ≡ Some v
    filled_value =
        let number_is : kept_claimed.store.drawn ≡ suc (length t.values) = kept_drawn v claimed left ∙ (ap (λ n. n + 1) numbered.drawn ∙ add-one (length t.values)) in
        ap (λ n. value_of filled.values n) number_is ∙ value_last t.values v

    pub filled_others : (run : RunView) (h : History) → Matches run (but places context key) h t → Matches run (but places context key) h filled
    filled_others run h matches =
        let place : Place = (context, number_of_key t.keys key) in
        others_event run places context key h kept_claimed any_lane (Fill place kept_claimed.store.drawn) there refl
        (values_keep_matches run (but places context key) h v claimed (others_event run places context key h t any_lane (Claim place) there refl matches))

    pub filled_numbered : IsNumbered places filled
    filled_numbered =
        let place : Place = (context, number_of_key t.keys key) in
        event_keeps_numbered places kept_claimed any_lane (Fill place kept_claimed.store.drawn) context key there refl
        (values_keep_numbered places v claimed left (event_keeps_numbered places t any_lane (Claim place) context key there refl numbered))
