-- What keeps the places of two runs alike.
use Rattle.std.proofs.Common.{◌≡◌, ℕ, zero, suc, ◌+◌, ◌<◌, ◌≤◌, ◌⊎◌, inl, inr, Bool, true, false, List, [], ◌∷◌, ◌++◌, length, Contains, refl, ap, sym, subst, ◌∙◌, arith, nat_eq, Option, None, Some, eq-eqb}
use Rattle.std.specs.Prelude.{if◌then◌else◌, nat_lt, slice_get}
use Rattle.std.proofs.lemmas.Bool.Decides.{nat_tests}
use Rattle.std.proofs.lemmas.List.{length_push}
use Rattle.ext_history.proofs.Lists.{bools, contains_cons, contains_here, contains_later}
use Rattle.ext_model.specs.declared.event.Act.{Act}
use Rattle.ext_model.specs.declared.event.Act.TheVariants.{Keep, Put, Remove, Claim, Fill, Fail, Abandon, Seal}
use Rattle.ext_model.specs.State.{State}
use Rattle.ext_model.specs.Events.{Reply, Happens, Answers, Refuses, NumbersFull, apply, drawn_after, is_at, is_on, place_of, slot_after}
use Rattle.ext_model.specs.History.{History, by, slots_in, state_after}
use Rattle.ext_model.specs.Plain.{Place, any_lane, plain_reply, same_place, state_by}
use Rattle.ext_model.proofs.Changes.{same_place_is, here}
use Rattle.ext_model.proofs.Versions.{after-append, slot_stays}
use Rattle.ext_model.proofs.Words.{after-push}
use Rattle.ext_tree.specs.Keys.{KeyValue, key_at}
use Rattle.ext_tree.specs.Traits.{key_eq}
use Rattle.ext_tree.proofs.Equalities.{keys_Decides}
use Rattle.ext_tree.proofs.KeyPlacing.{key_within, length-places, one_key, one_number}
use Rattle.ext_plan.specs.StoreKeys.{is_there, number_of_key}
use Rattle.ext_plan.specs.Values.{ValueText}
use Rattle.ext_plan.proofs.KeyLists.{has_key_number, is_contained, not_contained, key_number_last, key_number_within}
use Rattle.ext_plan_plain.specs.ValueStates.{ValueState, keep_value, next_number, value_of, value_opening, with_number}
use Rattle.ext_plan_plain.proofs.Numberings.{there_by}
use Rattle.ext_one_report.proofs.StandingsWords.{Meaning, AreMatched, KnowsMore, nothing}
use Rattle.ext_one_report.proofs.MatchingWords.{RunView, IsRunView, HasNumberIn, Places, Matches, AreNotAt, IsNumbered, cell_of, plain_meaning, plain_slot, text_of, AreEqualEvents, after_event}
use Rattle.ext_one_report.proofs.Standings.{matched_acts, matched_by_more}
use Rattle.ext_one_report.proofs.StoreCells.{cell_apart}

-- ---- numbers of keys in a plain run

behind : (first key : KeyValue) (keys : List KeyValue) → key_eq first key ≡ false → is_there (first ∷ keys) key ≡ true → is_there keys key ≡ true
behind first key keys other there =
    elim (contains_cons first keys key (is_contained (first ∷ keys) key there)) [
      | inl same ↦ absurd (cc (sym ((keys_Decides first key).1 same) ∙ other))
      | inr later ↦ there_by keys key (is_there keys key) refl later
    ]

-- a place stays when further keys get theirs
pub place_stays : (keys more : List KeyValue) (key : KeyValue) → is_there keys key ≡ true → number_of_key (keys ++ more) key ≡ number_of_key keys key
place_stays [] more key there = absurd (cc there)
place_stays (first ∷ keys) more key there =
    elim (bools (key_eq first key)) [
      | inl same ↦ ap (λ b. if b then zero else suc (number_of_key (keys ++ more) key)) same ∙ sym (ap (λ b. if b then zero else suc (number_of_key keys key)) same)
      | inr other ↦ ap (λ b. if b then zero else suc (number_of_key (keys ++ more) key)) other
          ∙ (ap suc (place_stays keys more key (behind first key keys other there)) ∙ sym (ap (λ b. if b then zero else suc (number_of_key keys key)) other))
    ]

contains_more : (keys : List KeyValue) (key last : KeyValue) → Contains keys key → Contains (keys ++ last ∷ []) key
contains_more [] key last there = absurd (omega (arith, there.1))
contains_more (first ∷ keys) key last there =
    elim (contains_cons first keys key there) [
      | inl same ↦ subst (λ k. Contains (first ∷ (keys ++ last ∷ [])) k) same (contains_here first (keys ++ last ∷ []))
      | inr later ↦ contains_later first (keys ++ last ∷ []) key (contains_more keys key last later)
    ]

contains_fewer : (keys : List KeyValue) (key last : KeyValue) → Contains (keys ++ last ∷ []) key → (last ≡ key) ⊎ Contains keys key
contains_fewer [] key last there = contains_cons last [] key there
contains_fewer (first ∷ keys) key last there =
    elim (contains_cons first (keys ++ last ∷ []) key there) [
      | inl same ↦ inr (subst (λ k. Contains (first ∷ keys) k) same (contains_here first keys))
      | inr later ↦ elim (contains_fewer keys key last later) [
        | inl is ↦ inl is
        | inr before ↦ inr (contains_later first keys key before)
      ]
    ]

pub there_more : (keys : List KeyValue) (key last : KeyValue) → is_there keys key ≡ true → is_there (keys ++ last ∷ []) key ≡ true
there_more keys key last there = there_by (keys ++ last ∷ []) key (is_there (keys ++ last ∷ []) key) refl (contains_more keys key last (is_contained keys key there))

-- keys with one place are one
pub one_of_place : (keys : List KeyValue) (a b : KeyValue) → is_there keys a ≡ true → is_there keys b ≡ true → number_of_key keys a ≡ number_of_key keys b → a ≡ b
one_of_place keys a b there also same =
    let e : Some a ≡ Some b = sym (has_key_number keys a there) ∙ (ap (slice_get keys) same ∙ has_key_number keys b also) in cc e

-- ---- what stands in a plain run

pub plain_there : (s : ValueState) (context : ℕ) (key : KeyValue) → is_there s.keys key ≡ true → plain_slot s context key ≡ s.store.slots (context, number_of_key s.keys key)
plain_there s context key there = ap (λ b. if b then s.store.slots (context, number_of_key s.keys key) else None) there

pub plain_none : (s : ValueState) (context : ℕ) (key : KeyValue) → is_there s.keys key ≡ false → plain_slot s context key ≡ None
plain_none s context key none = ap (λ b. if b then s.store.slots (context, number_of_key s.keys key) else None) none

-- a key that gets its number changes nothing that stands
slot_numbered : (places : Places) (s : ValueState) (first : KeyValue) (context : ℕ) (key : KeyValue) → places context key ≡ true → is_there s.keys first ≡ false → IsNumbered places s → plain_slot (with_number first s) context key ≡ plain_slot s context key
slot_numbered places s first context key is new numbered =
    elim (bools (is_there s.keys key)) [
      | inl there ↦ plain_there (with_number first s) context key (there_more s.keys key first there)
          ∙ (ap (λ n. s.store.slots (context, n)) (place_stays s.keys (first ∷ []) key there) ∙ sym (plain_there s context key there))
      | inr none ↦ elim (bools (is_there (s.keys ++ first ∷ []) key)) [
        | inl now ↦
            let same : first ≡ key = elim (contains_fewer s.keys key first (is_contained (s.keys ++ first ∷ []) key now)) [
              | inl one ↦ one
              | inr before ↦ absurd (not_contained s.keys key none before)
            ] in
            let last : number_of_key (s.keys ++ first ∷ []) key ≡ length s.keys = subst (λ k. number_of_key (s.keys ++ first ∷ []) k ≡ length s.keys) same (key_number_last s.keys first new) in
            plain_there (with_number first s) context key now
            ∙ (ap (λ n. s.store.slots (context, n)) last ∙ (numbered.beyond context key (length s.keys) is (omega arith) ∙ sym (plain_none s context key none)))
        | inr still ↦ plain_none (with_number first s) context key still ∙ sym (plain_none s context key none)
      ]
    ]

pub keys_keep_matches : (run : RunView) (places : Places) (h : History) (key : KeyValue) (s : ValueState) → is_there s.keys key ≡ false → IsNumbered places s → Matches run places h s → Matches run places h (with_number key s)
keys_keep_matches run places h first s new numbered matches = record {
  slots = λ context key number is has. subst (λ x. AreMatched run.meaning (plain_meaning s.values) (slots_in (cell_of run number) h context) x) (sym (slot_numbered places s first context key is new numbered))
      (matches.slots context key number is has);
  unnumbered = λ context key is none. slot_numbered places s first context key is new numbered ∙ matches.unnumbered context key is none;
}

pub keys_keep_numbered : (places : Places) (key : KeyValue) (s : ValueState) → IsNumbered places s → IsNumbered places (with_number key s)
keys_keep_numbered places key s numbered = record {
  beyond = λ context its number is past. numbered.beyond context its number is (shorter s.keys number past);
  drawn = numbered.drawn;
}
  where
    shorter : (keys : List KeyValue) (number : ℕ) → length (keys ++ key ∷ []) ≤ number → length keys ≤ number
    shorter keys number past = let more = length_push keys key in omega (arith, past, more)

-- ---- values that are kept

value_stays : (values more : List ValueText) (number : ℕ) (v : ValueText) → value_of values number ≡ Some v → value_of (values ++ more) number ≡ Some v
value_stays values more zero v is = is
value_stays [] more (suc n) v is = absurd (cc is)
value_stays (first ∷ values) more (suc zero) v is = is
value_stays (first ∷ values) more (suc (suc n)) v is = value_stays values more (suc n) v is

pub value_last : (values : List ValueText) (v : ValueText) → value_of (values ++ v ∷ []) (suc (length values)) ≡ Some v
value_last [] v = refl
value_last (first ∷ values) v = value_last values v

text_stays : (o more : Option ValueText) (text : List ℕ) → ((v : ValueText) → o ≡ Some v → more ≡ Some v) → text_of o ≡ Some text → text_of more ≡ Some text
text_stays None more text stays is = absurd (cc is)
text_stays (Some v) more text stays is = ap text_of (stays v refl) ∙ is

pub values_known : (values more : List ValueText) → KnowsMore (plain_meaning values) (plain_meaning (values ++ more))
values_known values more = record {
  values = λ number v is. value_stays values more number v is;
  faults = λ number text is. text_stays (value_of values number) (value_of (values ++ more) number) text (λ v known. value_stays values more number v known) is;
}

pub knows_itself : {V F : Type 0} (meaning : Meaning V F) → KnowsMore meaning meaning
knows_itself meaning = record { values = λ number v is. is; faults = λ number f is. is }

-- a draw changes no place
pub draw_slots : (r : Reply) (s : State Place) (lane number : ℕ) (place : Place) → (state_by r s (record { lane = lane; act = Keep number })).slots place ≡ s.slots place
draw_slots (Happens answer) s lane number place = refl
draw_slots (Answers answer) s lane number place = refl
draw_slots (Refuses why) s lane number place = refl

pub kept_slot : (value : ValueText) (s : ValueState) (context : ℕ) (key : KeyValue) → plain_slot (keep_value value s) context key ≡ plain_slot s context key
kept_slot value s context key =
    ap (λ x. if is_there s.keys key then x else None) (draw_slots (plain_reply s.numbers s.store any_lane (next_number s)) s.store any_lane (s.store.drawn + 1) (context, number_of_key s.keys key))

pub values_keep_matches : (run : RunView) (places : Places) (h : History) (value : ValueText) (s : ValueState) → Matches run places h s → Matches run places h (keep_value value s)
values_keep_matches run places h value s matches = record {
  slots = λ context key number is has. subst (λ x. AreMatched run.meaning (plain_meaning (s.values ++ value ∷ [])) (slots_in (cell_of run number) h context) x) (sym (kept_slot value s context key))
      (matched_by_more run.meaning (plain_meaning s.values) run.meaning (plain_meaning (s.values ++ value ∷ [])) _ _ (knows_itself run.meaning) (values_known s.values (value ∷ [])) (matches.slots context key number is has));
  unnumbered = λ context key is none. kept_slot value s context key ∙ matches.unnumbered context key is none;
}

-- where a number is left it is drawn
pub draw_happens : (s : ValueState) → s.store.drawn < s.numbers → plain_reply s.numbers s.store any_lane (next_number s) ≡ Happens (Some (s.store.drawn + 1))
draw_happens s left = ap (λ b. if b then Happens (Some (s.store.drawn + 1)) else Refuses NumbersFull) (test (s.store.drawn) s.numbers left)
  where
    test : (a b : ℕ) → a < b → nat_lt a b ≡ true
    test a b less = grind (arith, nat_tests)

pub kept_drawn : (value : ValueText) (s : ValueState) → s.store.drawn < s.numbers → (keep_value value s).store.drawn ≡ s.store.drawn + 1
kept_drawn value s left = ap (λ r. (state_by r s.store (record { lane = any_lane; act = next_number s })).drawn) (draw_happens s left)

pub values_keep_numbered : (places : Places) (value : ValueText) (s : ValueState) → s.store.drawn < s.numbers → IsNumbered places s → IsNumbered places (keep_value value s)
values_keep_numbered places value s left numbered = record {
  beyond = λ context key number is past. draw_slots (plain_reply s.numbers s.store any_lane (next_number s)) s.store any_lane (s.store.drawn + 1) (context, number) ∙ numbered.beyond context key number is past;
  drawn = kept_drawn value s left ∙ longer s.values s.store.drawn numbered.drawn;
}
  where
    longer : (values : List ValueText) (drawn : ℕ) → drawn ≡ length values → drawn + 1 ≡ length (values ++ value ∷ [])
    longer values drawn is = let more = length_push values value in omega (arith, is, more)

-- ---- the first state

pub first_matches : (run : RunView) (places : Places) (keeps : Bool) (keys numbers : ℕ) → Matches run places [] (value_opening keeps keys numbers)
first_matches run places keeps keys numbers = record { slots = λ context key number is has. record { standing = nothing; here = refl; there = refl }; unnumbered = λ context key is none. refl }

pub first_is_numbered : (places : Places) (keeps : Bool) (keys numbers : ℕ) → IsNumbered places (value_opening keeps keys numbers)
first_is_numbered places keeps keys numbers = record { beyond = λ context key number is past. refl; drawn = refl }

-- ---- fewer places

pub matches_at_fewer : (run : RunView) (places fewer : Places) (h : History) (s : ValueState) → ((context : ℕ) (key : KeyValue) → fewer context key ≡ true → places context key ≡ true) → Matches run places h s → Matches run fewer h s
matches_at_fewer run places fewer h s within matches = record {
  slots = λ context key number is has. matches.slots context key number (within context key is) has;
  unnumbered = λ context key is none. matches.unnumbered context key (within context key is) none;
}

pub numbered_at_fewer : (places fewer : Places) (s : ValueState) → ((context : ℕ) (key : KeyValue) → fewer context key ≡ true → places context key ≡ true) → IsNumbered places s → IsNumbered fewer s
numbered_at_fewer places fewer s within numbered = record { beyond = λ context key number is past. numbered.beyond context key number (within context key is) past; drawn = numbered.drawn }

-- ---- events elsewhere

pub others_keep_matches : (run : RunView) (places : Places) (h more : History) (s : ValueState) → AreNotAt run places more → Matches run places h s → Matches run places (h ++ more) s
others_keep_matches run places h more s others matches = record {
  slots = λ context key number is has.
      let cell = cell_of run number context in
      let stays : slots_in (cell_of run number) (h ++ more) context ≡ slots_in (cell_of run number) h context =
      ap (λ (t : State ℕ). t.slots cell) (after-append h more) ∙ slot_stays more (state_after h) cell (others.quiet context key number is has) in
      subst (λ x. AreMatched run.meaning (plain_meaning s.values) x (plain_slot s context key)) (sym stays) (matches.slots context key number is has);
  unnumbered = matches.unnumbered;
}

-- ---- equal events

pub number_within : (run : RunView) (key : KeyValue) (number : ℕ) → IsRunView run → HasNumberIn run key number → number < length run.store.id.keys
number_within run key number view has =
    let within : number < length run.numbering = key_within run.numbering number key has.there in
    let same : length run.numbering ≡ length run.store.id.keys = length-places run.numbering run.store.id.keys view.places in
    omega (arith, within, same)

pub cells_apart : (run : RunView) (a b : ℕ) (key other : KeyValue) (m n : ℕ) → IsRunView run → HasNumberIn run key m → HasNumberIn run other n → cell_of run m a ≡ cell_of run n b → (a ≡ b) × (key ≡ other)
cells_apart run a b key other m n view has also same =
    let parts = cell_apart run.store a b m n (number_within run key m view has) (number_within run other n view also) same in
    (parts.0, one_key run.numbering m key other has.there (subst (λ k. key_at run.numbering k ≡ Some other) (sym parts.1) also.there))

-- what an event leaves in a cell, and in a place
slot_then : (h : History) (lane : ℕ) (act : Act ℕ) (cell : ℕ) (b : Bool) → is_on nat_eq cell act ≡ b
    → (state_after (h ++ by lane act ∷ [])).slots cell ≡ (if b then slot_after lane act ((state_after h).slots cell) else (state_after h).slots cell)
slot_then h lane act cell b on = ap (λ (t : State ℕ). t.slots cell) (after-push h (by lane act)) ∙ ap (λ c. if c then slot_after lane act ((state_after h).slots cell) else (state_after h).slots cell) on

pub place_then : (s : State Place) (lane : ℕ) (act : Act Place) (place : Place) (b : Bool) → is_on same_place place act ≡ b
    → (apply same_place s (record { lane = lane; act = act })).slots place ≡ (if b then slot_after lane act (s.slots place) else s.slots place)
place_then s lane act place b on = ap (λ c. if c then slot_after lane act (s.slots place) else s.slots place) on

test_is : (a b : ℕ) → nat_eq a b ≡ true → a ≡ b
test_is a b is = grind (arith, nat_tests)

module _ (run : RunView) (places : Places) (h : History) (s : ValueState) (lane other : ℕ) (act : Act ℕ) (act' : Act Place) (view : IsRunView run) (equal : AreEqualEvents run s act act') (matches : Matches run places h s) where
  on_cell : (cell : ℕ) → is_on nat_eq cell act ≡ nat_eq (cell_of run equal.number equal.context) cell
  on_cell cell = ap (is_at nat_eq cell) equal.at_cell

  on_place : (place : Place) → is_on same_place place act' ≡ same_place (equal.context, number_of_key s.keys equal.key) place
  on_place place = ap (is_at same_place place) equal.at_place

  -- at the place of the events
  event_there : (context : ℕ) (key : KeyValue) (number : ℕ) → places context key ≡ true → HasNumberIn run key number → nat_eq (cell_of run equal.number equal.context) (cell_of run number context) ≡ true
      → AreMatched run.meaning (plain_meaning s.values) (slots_in (cell_of run number) (h ++ by lane act ∷ []) context) (plain_slot (after_event other act' s) context key)
  event_there context key number is has on =
      let apart = cells_apart run equal.context context equal.key key equal.number number view equal.numbered has (test_is _ _ on) in
      let there : is_there s.keys key ≡ true = subst (λ k. is_there s.keys k ≡ true) apart.1 equal.there in
      let place : Place = (context, number_of_key s.keys key) in
      let same : same_place (equal.context, number_of_key s.keys equal.key) place ≡ true =
      subst (λ (p : Place). same_place p place ≡ true) (λ i. (sym apart.0 i, number_of_key s.keys (sym apart.1 i))) (here place) in
      let before = matches.slots context key number is has in
      let before' : AreMatched run.meaning (plain_meaning s.values) ((state_after h).slots (cell_of run number context)) (s.store.slots place) =
      subst (λ x. AreMatched run.meaning (plain_meaning s.values) (slots_in (cell_of run number) h context) x) (plain_there s context key there) before in
      let after = matched_acts run.meaning (plain_meaning s.values) _ _ lane other act act' before' equal.same in
      subst (λ x. AreMatched run.meaning (plain_meaning s.values) x (plain_slot (after_event other act' s) context key)) (sym (slot_then h lane act (cell_of run number context) true (on_cell _ ∙ on)))
      (subst (λ x. AreMatched run.meaning (plain_meaning s.values) (slot_after lane act ((state_after h).slots (cell_of run number context))) x)
      (sym (plain_there (after_event other act' s) context key there ∙ place_then s.store other act' place true (on_place place ∙ same))) after)

  -- and elsewhere
  event_not_there : (context : ℕ) (key : KeyValue) (number : ℕ) → places context key ≡ true → HasNumberIn run key number → nat_eq (cell_of run equal.number equal.context) (cell_of run number context) ≡ false
      → AreMatched run.meaning (plain_meaning s.values) (slots_in (cell_of run number) (h ++ by lane act ∷ []) context) (plain_slot (after_event other act' s) context key)
  event_not_there context key number is has off =
      let place : Place = (context, number_of_key s.keys key) in
      let stays : plain_slot (after_event other act' s) context key ≡ plain_slot s context key =
      elim (bools (is_there s.keys key)) [
        | inr none ↦ plain_none (after_event other act' s) context key none ∙ sym (plain_none s context key none)
        | inl there ↦ elim (bools (same_place (equal.context, number_of_key s.keys equal.key) place)) [
          | inr apart ↦ plain_there (after_event other act' s) context key there ∙ (place_then s.store other act' place false (on_place place ∙ apart) ∙ sym (plain_there s context key there))
          | inl same ↦
              let one : (equal.context, number_of_key s.keys equal.key) ≡ place = same_place_is (equal.context, number_of_key s.keys equal.key) place same in
              let key_is : equal.key ≡ key = one_of_place s.keys equal.key key equal.there there (ap (λ (p : Place). p.1) one) in
              let number_is : equal.number ≡ number = one_number run.numbering run.numbering (one_key run.numbering) key equal.number number (subst (λ k. HasNumberIn run k equal.number) key_is equal.numbered) has in
              let cell_is : cell_of run equal.number equal.context ≡ cell_of run number context = λ i. cell_of run (number_is i) ((one i).0) in
              absurd (cc (sym (eq-eqb _ _ cell_is) ∙ off))
        ]
      ] in
      subst (λ x. AreMatched run.meaning (plain_meaning s.values) x (plain_slot (after_event other act' s) context key)) (sym (slot_then h lane act (cell_of run number context) false (on_cell _ ∙ off)))
      (subst (λ x. AreMatched run.meaning (plain_meaning s.values) (slots_in (cell_of run number) h context) x) (sym stays) (matches.slots context key number is has))

  -- a key without a number has nothing still
  unnumbered_then : (context : ℕ) (key : KeyValue) → places context key ≡ true → ((number : ℕ) → ¬ HasNumberIn run key number) → plain_slot (after_event other act' s) context key ≡ None
  unnumbered_then context key is none =
      let place : Place = (context, number_of_key s.keys key) in
      elim (bools (is_there s.keys key)) [
        | inr absent ↦ plain_none (after_event other act' s) context key absent
        | inl there ↦ elim (bools (same_place (equal.context, number_of_key s.keys equal.key) place)) [
          | inr apart ↦
              plain_there (after_event other act' s) context key there
              ∙ (place_then s.store other act' place false (on_place place ∙ apart) ∙ (sym (plain_there s context key there) ∙ matches.unnumbered context key is none))
          | inl same ↦
              let one : (equal.context, number_of_key s.keys equal.key) ≡ place = same_place_is (equal.context, number_of_key s.keys equal.key) place same in
              let key_is : equal.key ≡ key = one_of_place s.keys equal.key key equal.there there (ap (λ (p : Place). p.1) one) in
              absurd (none equal.number (subst (λ k. HasNumberIn run k equal.number) key_is equal.numbered))
        ]
      ]

  pub equal_events_keep_matches : Matches run places (h ++ by lane act ∷ []) (after_event other act' s)
  equal_events_keep_matches = record {
    slots = λ context key number is has. elim (bools (nat_eq (cell_of run equal.number equal.context) (cell_of run number context))) [
      | inl on ↦ event_there context key number is has on
      | inr off ↦ event_not_there context key number is has off
    ];
    unnumbered = unnumbered_then;
  }

-- an event at a place draws no number
drawn_stays : (act : Act Place) (at : Place) (drawn : ℕ) → place_of act ≡ Some at → drawn_after act drawn ≡ drawn
drawn_stays (Keep number) at drawn is = absurd (cc is)
drawn_stays (Put place number) at drawn is = refl
drawn_stays (Remove place) at drawn is = refl
drawn_stays (Claim place) at drawn is = refl
drawn_stays (Fill place number) at drawn is = refl
drawn_stays (Fail place number) at drawn is = refl
drawn_stays (Abandon place) at drawn is = refl
drawn_stays (Seal place) at drawn is = refl

-- an event at the place of a key that has its number keeps the state numbered
pub event_keeps_numbered : (places : Places) (s : ValueState) (lane : ℕ) (act : Act Place) (context : ℕ) (key : KeyValue) → is_there s.keys key ≡ true → place_of act ≡ Some (context, number_of_key s.keys key)
    → IsNumbered places s → IsNumbered places (after_event lane act s)
event_keeps_numbered places s lane act at_context key there at_place numbered = record {
  beyond = λ context its number is past.
      let at : Place = (at_context, number_of_key s.keys key) in
      let place : Place = (context, number) in
      elim (bools (same_place at place)) [
        | inl same ↦
            let number_is : number_of_key s.keys key ≡ number = ap (λ (p : Place). p.1) (same_place_is at place same) in
            let less : number_of_key s.keys key < length s.keys = key_number_within s.keys key there in
            absurd (omega (arith, number_is, less, past))
        | inr apart ↦ place_then s.store lane act place false (ap (is_at same_place place) at_place ∙ apart) ∙ numbered.beyond context its number is past
      ];
  drawn = drawn_stays act (at_context, number_of_key s.keys key) s.store.drawn at_place ∙ numbered.drawn;
}

pub equal_events_keep_numbered : (run : RunView) (places : Places) (s : ValueState) (other : ℕ) (act : Act ℕ) (act' : Act Place) → AreEqualEvents run s act act' → IsNumbered places s → IsNumbered places (after_event other act' s)
equal_events_keep_numbered run places s other act act' equal numbered = event_keeps_numbered places s other act' equal.context equal.key equal.there equal.at_place numbered
