-- A step of a plain run that computes at an open place: where nothing stands above it, the value stands there afterwards, or the kept fault; or its factory fails, and nothing changes.
use Rattle.std.proofs.Common.{◌≡◌, ℕ, ◌+◌, ◌<◌, ◌⊎◌, inl, inr, true, false, cond, List, [], ◌∷◌, drop, length, refl, ap, sym, subst, ◌∙◌, arith, Option, None, Some, is_some, find}
use Rattle.std.specs.List.{slice_index_or}
use Rattle.std.specs.Prelude.{All, Contains, ◌≢◌, if◌then◌else◌, nat_lt}
use Rattle.std.proofs.lemmas.Bool.Decides.{nat_tests}
use Rattle.std.proofs.lemmas.Slice.Eq.{bytes_eq-Decides}
use Rattle.ext_history.proofs.Lists.{bools, contains_cons, contains_none}
use Rattle.ext_model.specs.declared.slot.Slot.{Slot}
use Rattle.ext_model.specs.declared.slot.Slot.TheVariants as slot
use Rattle.ext_model.specs.Plain.{Place, under}
use Rattle.ext_model.specs.State.{State, look_at, look_in, lookup}
use Rattle.ext_model.proofs.Lookups.{empty_path}
use Rattle.ext_tree.specs.Keys.{KeyValue}
use Rattle.ext_lifecycle.specs.Endings.{successful}
use Rattle.ext_plan.specs.Plans.{KeyText, StepKeyText, StepText}
use Rattle.ext_plan.specs.StepCalls.{label_of, start_of}
use Rattle.ext_plan.specs.StoreKeys.{is_there, key_of_step, number_of_key}
use Rattle.ext_plan.specs.Values.{ValueText}
use Rattle.ext_plan.specs.Verdicts.{fail_verdict, none_verdict, seen_fault}
use Rattle.ext_plan.proofs.KeyLists.{key_number_last, not_contained}
use Rattle.ext_plan_plain.specs.ValueStates.{ValueState, enough, value_of, with_number}
use Rattle.ext_plan_plain.specs.StepRuns.{StepEnd, compute_looked, compute_numbered, computefail_looked, computefail_numbered, ended, factory_failed, factory_gave, found_along, number_by, numbered_by, shown_fault, step_run}
use Rattle.ext_plan_plain.proofs.Numberings.{is_known, is_next, there_then}
use Rattle.ext_one_report.proofs.PlanCells.{changed_by}
use Rattle.ext_one_report.proofs.MatchingWords.{IsNumbered, Places, TextMeaning, plain_meaning, plain_slot, text_of}
use Rattle.ext_one_report.proofs.StepsWords.{HasRoom}
use Rattle.ext_one_report.proofs.Claimed.{claims_first, factory_gives, filled, filled_numbered, filled_slot, filled_value}
use Rattle.ext_one_report.proofs.FailClaimed.{fault_kept, fault_not_kept, faulted, faulted_numbered, faulted_slot, faulted_words}
use Rattle.ext_one_report.proofs.Matching.{plain_there}
use Rattle.ext_one_report.proofs.PlainFrames.{IsOpen, LeavesElse, no_context}
use Rattle.ext_one_report.proofs.CountSteps.{single}
use Rattle.ext_one_report.proofs.FrameSlots.{leaves_itself, leaves_named}
use Rattle.ext_one_report.proofs.FrameSteps.{steps_leave}
use Rattle.ext_one_report.proofs.Open.{Given, Stands, StandsOrNot, of_fault, of_nothing, of_value}

-- ---- look-ups where nothing stands above

pub look_first : (slots : ℕ → Option Slot) (context : ℕ) (above : List ℕ) → All (λ c. slots c ≡ None) above → (x : Option Slot) → slots context ≡ x → lookup slots (context ∷ above) ≡ look_in context x
look_first slots context above none None is =
    ap (λ b. look_at slots (cond b (Some context) (find (λ c. is_some (slots c)) above))) (ap is_some is) ∙ empty_path slots above none
look_first slots context above none (Some y) is =
    ap (λ b. look_at slots (cond b (Some context) (find (λ c. is_some (slots c)) above))) (ap is_some is) ∙ ap (look_in context) is

-- ---- one step leaves all other places

pub step_leaves : (keys : List KeyText) (path : List ℕ) (step : StepText) (changes : Places) (s : ValueState)
    → ((key : StepKeyText) (up : ℕ) → changed_by step ≡ Some (key, up) → changes (start_of (drop up path)) (key_of_step keys key) ≡ true)
    → s.memory ≡ [] → LeavesElse changes no_context s (step_run keys path step s).state
step_leaves keys path step changes s may memory =
    subst (LeavesElse changes no_context s) (single keys path step s memory) (steps_leave keys path (step ∷ []) changes s (λ other key up there is. may key up (of_one other key up there is)) memory)
  where
    of_one : (other : StepText) (key : StepKeyText) (up : ℕ) → Contains (step ∷ []) other → changed_by other ≡ Some (key, up) → changed_by step ≡ Some (key, up)
    of_one other key up there is = elim (contains_cons step [] other there) [
      | inl same ↦ ap changed_by same ∙ is
      | inr none ↦ absurd (contains_none other none)
    ]

-- ---- the key of the step

-- The state in which the key has its number: the same stands everywhere
pub record IsNamedThere (key : KeyValue) (s : ValueState) : Type 0 where
  pub state : ValueState
  pub there : is_there state.keys key ≡ true
  pub goes : (name label : List ℕ) (goes_on : ℕ → ValueState → StepEnd) → numbered_by enough name label key goes_on s ≡ goes_on (number_of_key state.keys key) state
  pub leaves : LeavesElse (λ context other. false) no_context s state
  pub store : state.store ≡ s.store
  pub numbers : state.numbers ≡ s.numbers
  pub values : state.values ≡ s.values

less_is : (a b : ℕ) → a < b → nat_lt a b ≡ true
less_is a b less = grind (arith, nat_tests)

pub named_there : (key : KeyValue) (s : ValueState) → (is_there s.keys key ≡ false → length s.keys < s.places) → IsNamedThere key s
named_there key s room =
    elim (bools (is_there s.keys key)) [
      | inl there ↦ record {
        state = s;
        there = there;
        goes = λ name label goes_on. ap (number_by enough name label key goes_on s) (is_known s.places s.keys key there);
        leaves = leaves_itself (λ context other. false) no_context s;
        store = refl;
        numbers = refl;
        values = refl;
      }
      | inr none ↦ record {
        state = with_number key s;
        there = there_then s.keys key none;
        goes = λ name label goes_on.
            ap (number_by enough name label key goes_on s) (is_next s.places s.keys key (not_contained s.keys key none) (less_is (length s.keys) s.places (room none)))
            ∙ ap (λ n. goes_on n (with_number key s)) (sym (key_number_last s.keys key none));
        leaves = leaves_named (λ context other. false) no_context key s none;
        store = refl;
        numbers = refl;
        values = refl;
      }
    ]

-- ---- how such a step ends

-- how many values it computes or finds
abbrev pub counted : Given → ℕ
counted (of_value v) = 1
counted (of_fault text) = 0
counted (of_nothing text) = 0

-- it computes a value where nothing stood there before
abbrev pub ComputesWhereNone : Given → Option Slot → StepEnd → Type 0
ComputesWhereNone (of_value v) before end = ((end.computed ≡ 1) × (before ≡ None)) ⊎ ((end.computed ≡ 0) × (before ≢ None))
ComputesWhereNone (of_fault text) before end = Unit {0}
ComputesWhereNone (of_nothing text) before end = Unit {0}

-- What it computes stands there
pub record PlainEnds (context : ℕ) (key : KeyValue) (v : Given) (before : Option Slot) (end : StepEnd) : Type 0 where
  pub says : end.verdict ≡ successful
  pub counts : end.computed + end.found ≡ counted v
  pub fills : ComputesWhereNone v before end
  pub stands : Stands (plain_meaning end.state.values) v (plain_slot end.state context key)
  pub drawn : end.state.store.drawn ≡ length end.state.values

-- or its factory fails and nothing is kept
pub record PlainFails (s : ValueState) (end : StepEnd) : Type 0 where
  pub says : end.verdict ≡ successful
  pub computed : end.computed ≡ 0
  pub found : end.found ≡ 0
  pub leaves : LeavesElse (λ context key. false) no_context s end.state
  pub drawn : end.state.store.drawn ≡ length end.state.values

some_not_none : (x : Slot) → Some x ≢ None
some_not_none x = λ is. cc is

-- of no places each state is numbered that has a value for each number
nowhere : (t : ValueState) → t.store.drawn ≡ length t.values → IsNumbered (λ context key. false) t
nowhere t drawn = record { beyond = λ context key number is past. absurd (cc is); drawn = drawn }

-- a step whose factory fails succeeds where it meets its own fault
pub own_fault : (name label text : List ℕ) → fail_verdict name label text (seen_fault text) ≡ successful
own_fault name label text = ap (λ b. if b then successful else none_verdict name label (seen_fault text)) ((bytes_eq-Decides text text).1 refl)

fault_shown_is : (o : Option ValueText) (text : List ℕ) → text_of o ≡ Some text → shown_fault o ≡ seen_fault text
fault_shown_is None text is = absurd (cc is)
fault_shown_is (Some v) text is = let same : v.text ≡ text = cc is in ap seen_fault same

-- where nothing is kept nothing stands
none_there : (meaning : TextMeaning) (text : List ℕ) (x : Option Slot) → StandsOrNot meaning (of_nothing text) x → x ≡ None
none_there meaning text None or_not = refl
none_there meaning text (Some (slot.Entry number)) or_not = absurd or_not
none_there meaning text (Some (slot.Fault number)) or_not = absurd or_not
none_there meaning text (Some (slot.Claim lane)) or_not = absurd or_not
none_there meaning text (Some (slot.Sealed kept)) or_not = absurd or_not

-- ---- the compute

module _ (name label : List ℕ) (context : ℕ) (above : List ℕ) (key : KeyValue) (t : ValueState) (there : is_there t.keys key ≡ true) (left : t.store.drawn < t.numbers)
    (drawn : t.store.drawn ≡ length t.values) (none : All (λ c. plain_slot t c key ≡ None) above) where
  finds : (x : Option Slot) → plain_slot t context key ≡ x → found_along (number_of_key t.keys key) (context ∷ above) t ≡ look_in context x
  finds x is = look_first (under t.store (number_of_key t.keys key)) context above (λ i d less. sym (plain_there t _ key there) ∙ none i d less) x (sym (plain_there t context key there) ∙ is)

  empty_there : plain_slot t context key ≡ None → t.store.slots (context, number_of_key t.keys key) ≡ None
  empty_there is = sym (plain_there t context key there) ∙ is

  -- ---- of a value

  module _ (v : ValueText) where
    abbrev value_end : StepEnd
    value_end = compute_looked name label (context, number_of_key t.keys key) v t (found_along (number_of_key t.keys key) (context ∷ above) t)

    -- nothing stood there, and the value is computed
    computes : plain_slot t context key ≡ None → PlainEnds context key (of_value v) None value_end
    computes is =
        let empty = empty_there is in
        let numbered : IsNumbered (λ c k. false) t = nowhere t drawn in
        let after : ValueState = filled t context key there empty v left (λ c k. false) numbered in
        let end_is : value_end ≡ record { state = after; verdict = successful; computed = 1; found = 0 } =
        ap (compute_looked name label (context, number_of_key t.keys key) v t) (finds None is)
        ∙ (claims_first t context key there empty name label (factory_gave name label (context, number_of_key t.keys key) v) ∙ factory_gives t context key there empty v left (λ c k. false) numbered name label) in
        let numbered_then = filled_numbered t context key there empty v left (λ c k. false) numbered in
        subst (PlainEnds context key (of_value v) None) (sym end_is) (record {
          says = refl;
          counts = refl;
          fills = inl (refl, refl);
          stands = record { number = _; there = filled_slot t context key there empty v left (λ c k. false) numbered; means = filled_value t context key there empty v left (λ c k. false) numbered };
          drawn = numbered_then.drawn;
        })

    -- the value stood there, and is found
    found : (number : ℕ) → plain_slot t context key ≡ Some (slot.Entry number) → (plain_meaning t.values).values number ≡ Some v → PlainEnds context key (of_value v) (Some (slot.Entry number)) value_end
    found number is means =
        let end_is : value_end ≡ record { state = t; verdict = successful; computed = 0; found = 1 } = ap (compute_looked name label (context, number_of_key t.keys key) v t) (finds (Some (slot.Entry number)) is) in
        subst (PlainEnds context key (of_value v) (Some (slot.Entry number))) (sym end_is)
        (record { says = refl; counts = refl; fills = inr (refl, some_not_none (slot.Entry number)); stands = record { number = number; there = is; means = means }; drawn = drawn })

    value_either : (x : Option Slot) → plain_slot t context key ≡ x → StandsOrNot (plain_meaning t.values) (of_value v) x → PlainEnds context key (of_value v) x value_end
    value_either None is or_not = computes is
    value_either (Some (slot.Entry number)) is or_not = found number is or_not
    value_either (Some (slot.Fault number)) is or_not = absurd or_not
    value_either (Some (slot.Claim lane)) is or_not = absurd or_not
    value_either (Some (slot.Sealed kept)) is or_not = absurd or_not

  -- ---- whose factory fails

  module _ (text : List ℕ) where
    abbrev fault_end : StepEnd
    fault_end = computefail_looked name label (context, number_of_key t.keys key) text t (found_along (number_of_key t.keys key) (context ∷ above) t)

    -- nothing stood there, and the fault is kept
    faults : t.keep_faults ≡ true → plain_slot t context key ≡ None → PlainEnds context key (of_fault text) None fault_end
    faults keeps is =
        let empty = empty_there is in
        let numbered : IsNumbered (λ c k. false) t = nowhere t drawn in
        let after : ValueState = faulted t context key there empty text left (λ c k. false) numbered in
        let end_is : fault_end ≡ ended successful after =
        ap (computefail_looked name label (context, number_of_key t.keys key) text t) (finds None is)
        ∙ (claims_first t context key there empty name label (factory_failed name label (context, number_of_key t.keys key) text) ∙ fault_kept t context key there empty text left (λ c k. false) numbered name label keeps) in
        let numbered_then = faulted_numbered t context key there empty text left (λ c k. false) numbered in
        subst (PlainEnds context key (of_fault text) None) (sym end_is) (record {
          says = refl;
          counts = refl;
          fills = tt;
          stands = record { number = _; there = faulted_slot t context key there empty text left (λ c k. false) numbered; means = faulted_words t context key there empty text left (λ c k. false) numbered };
          drawn = numbered_then.drawn;
        })

    -- it stood there, and is met
    meets : (number : ℕ) → plain_slot t context key ≡ Some (slot.Fault number) → (plain_meaning t.values).faults number ≡ Some text → PlainEnds context key (of_fault text) (Some (slot.Fault number)) fault_end
    meets number is means =
        let end_is : fault_end ≡ ended successful t =
        ap (computefail_looked name label (context, number_of_key t.keys key) text t) (finds (Some (slot.Fault number)) is)
        ∙ (ap (λ seen. ended (fail_verdict name label text seen) t) (fault_shown_is (value_of t.values number) text means) ∙ ap (λ verdict. ended verdict t) (own_fault name label text)) in
        subst (PlainEnds context key (of_fault text) (Some (slot.Fault number))) (sym end_is)
        (record { says = refl; counts = refl; fills = tt; stands = record { number = number; there = is; means = means }; drawn = drawn })

    fault_either : t.keep_faults ≡ true → (x : Option Slot) → plain_slot t context key ≡ x → StandsOrNot (plain_meaning t.values) (of_fault text) x → PlainEnds context key (of_fault text) x fault_end
    fault_either keeps None is or_not = faults keeps is
    fault_either keeps (Some (slot.Entry number)) is or_not = absurd or_not
    fault_either keeps (Some (slot.Fault number)) is or_not = meets number is or_not
    fault_either keeps (Some (slot.Claim lane)) is or_not = absurd or_not
    fault_either keeps (Some (slot.Sealed kept)) is or_not = absurd or_not

    -- nothing stood there, and nothing is kept
    gives_back : t.keep_faults ≡ false → plain_slot t context key ≡ None → fault_end ≡ ended successful t
    gives_back keeps is =
        let empty = empty_there is in
        ap (computefail_looked name label (context, number_of_key t.keys key) text t) (finds None is)
        ∙ (claims_first t context key there empty name label (factory_failed name label (context, number_of_key t.keys key) text)
        ∙ fault_not_kept t context key there empty text left (λ c k. false) (nowhere t drawn) name label keeps)

-- ---- the step

-- where nothing stands above, and at the place itself what is computed or nothing
module _ (keys : List KeyText) (name : List ℕ) (key : StepKeyText) (context : ℕ) (above : List ℕ) (s : ValueState) (room : HasRoom (key_of_step keys key) s) (drawn : s.store.drawn ≡ length s.values)
    (clear : IsOpen context s) (clear_above : All (λ c. IsOpen c s) above) (none : All (λ c. plain_slot s c (key_of_step keys key) ≡ None) above) where
  abbrev its_key : KeyValue
  its_key = key_of_step keys key

  abbrev its_label : List ℕ
  its_label = label_of keys key

  abbrev it : IsNamedThere its_key s
  it = named_there its_key s room.keys

  left_then : it.state.store.drawn < it.state.numbers
  left_then = subst (λ n. it.state.store.drawn < n) (sym it.numbers) (subst (λ (st : State Place). st.drawn < s.numbers) (sym it.store) room.numbers)

  drawn_then : it.state.store.drawn ≡ length it.state.values
  drawn_then = ap (λ (st : State Place). st.drawn) it.store ∙ (drawn ∙ ap length (sym it.values))

  none_then : All (λ c. plain_slot it.state c its_key ≡ None) above
  none_then = λ i d less. it.leaves.slots (slice_index_or above i d) its_key refl refl (clear_above i d less) ∙ none i d less

  slot_then : plain_slot it.state context its_key ≡ plain_slot s context its_key
  slot_then = it.leaves.slots context its_key refl refl clear

  near_then : (v : Given) → StandsOrNot (plain_meaning s.values) v (plain_slot s context its_key) → StandsOrNot (plain_meaning it.state.values) v (plain_slot s context its_key)
  near_then v near = subst (λ vs. StandsOrNot (plain_meaning vs) v (plain_slot s context its_key)) (sym it.values) near

  -- a value is computed there,
  pub plain_ends : (v : ValueText) → StandsOrNot (plain_meaning s.values) (of_value v) (plain_slot s context its_key)
      → PlainEnds context its_key (of_value v) (plain_slot s context its_key) (numbered_by enough name its_label its_key (compute_numbered enough name its_label (context ∷ above) v) s)
  plain_ends v near =
      subst (PlainEnds context its_key (of_value v) (plain_slot s context its_key)) (sym (it.goes name its_label (compute_numbered enough name its_label (context ∷ above) v)))
      (value_either name its_label context above its_key it.state it.there left_then drawn_then none_then v (plain_slot s context its_key) slot_then (near_then (of_value v) near))

  -- a fault that is kept,
  pub plain_faults : (text : List ℕ) → s.keep_faults ≡ true → StandsOrNot (plain_meaning s.values) (of_fault text) (plain_slot s context its_key)
      → PlainEnds context its_key (of_fault text) (plain_slot s context its_key) (numbered_by enough name its_label its_key (computefail_numbered enough name its_label (context ∷ above) text) s)
  plain_faults text keeps near =
      subst (PlainEnds context its_key (of_fault text) (plain_slot s context its_key)) (sym (it.goes name its_label (computefail_numbered enough name its_label (context ∷ above) text)))
      (fault_either name its_label context above its_key it.state it.there left_then drawn_then none_then text (it.leaves.keeps ∙ keeps) (plain_slot s context its_key) slot_then (near_then (of_fault text) near))

  -- or a fault that is not
  pub plain_fails : (text : List ℕ) → s.keep_faults ≡ false → StandsOrNot (plain_meaning s.values) (of_nothing text) (plain_slot s context its_key)
      → PlainFails s (numbered_by enough name its_label its_key (computefail_numbered enough name its_label (context ∷ above) text) s)
  plain_fails text keeps near =
      let end_is : numbered_by enough name its_label its_key (computefail_numbered enough name its_label (context ∷ above) text) s ≡ ended successful it.state =
      it.goes name its_label (computefail_numbered enough name its_label (context ∷ above) text)
      ∙ gives_back name its_label context above its_key it.state it.there left_then drawn_then none_then text (it.leaves.keeps ∙ keeps) (slot_then ∙ none_there (plain_meaning s.values) text (plain_slot s context its_key) near) in
      subst (PlainFails s) (sym end_is) (record { says = refl; computed = refl; found = refl; leaves = it.leaves; drawn = drawn_then })
