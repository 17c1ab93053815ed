-- A lane that is alone on some places and acts on one cell of them: what stands there is what its own events leave.
use Rattle.std.proofs.Common.{◌≡◌, ℕ, inl, inr, Bool, true, false, [], ◌∷◌, ◌++◌, Contains, fold, refl, ap, sym, subst, ◌∙◌, arith, nat_eq, eq-eqb, append_assoc, Some, ◌==◌}
use Rattle.std.specs.Prelude.{◌&&◌, not}
use Rattle.std.proofs.lemmas.Bool.Decides.{nat_tests}
use mathlib.Core.List.{IsPrefix, append_cancel_left}
use Rattle.ext_history.specs.Histories.{seen_by}
use Rattle.ext_history.proofs.Lanes.{own_append}
use Rattle.ext_history.proofs.Lists.{bools, contains_here, contains_later}
use Rattle.ext_model.specs.declared.event.Act.{Act}
use Rattle.ext_model.specs.declared.event.Event.{Event}
use Rattle.ext_model.specs.State.{State}
use Rattle.ext_model.specs.Events.{is_at, is_on, place_of}
use Rattle.ext_model.specs.History.{History, lane_of, own, slots_in, state_after}
use Rattle.ext_model.specs.Plain.{Place, same_place}
use Rattle.ext_model.specs.CallActs.{LaneView}
use Rattle.ext_model.proofs.Changes.{same_place_is}
use Rattle.ext_model.proofs.Versions.{after-append}
use Rattle.ext_tree.specs.Keys.{KeyValue}
use Rattle.ext_tree.specs.Traits.{key_eq}
use Rattle.ext_tree.proofs.Equalities.{keys_Decides}
use Rattle.ext_tree.proofs.KeyPlacing.{one_key, one_number}
use Rattle.ext_plan.specs.StoreKeys.{is_there, number_of_key}
use Rattle.ext_plan_plain.specs.ValueStates.{ValueState}
use Rattle.ext_one_report.specs.Changing.{events_at}
use Rattle.ext_one_report.proofs.StandingsWords.{AreMatched}
use Rattle.ext_one_report.proofs.MatchingWords.{RunView, IsRunView, HasNumberIn, Places, Matches, AreNotAt, cell_of, plain_meaning, plain_slot, after_event}
use Rattle.ext_one_report.proofs.StepsWords.{IsAlone}
use Rattle.ext_one_report.proofs.OnCells.{passes, passes_not, quiet_at, slot_from, then_there}
use Rattle.ext_one_report.proofs.Matching.{cells_apart, one_of_place, place_then, plain_none, plain_there}
use Rattle.ext_one_report.proofs.NodesAlone.{contains_left, matches_after}

-- ---- all places but one

abbrev pub but : Places → ℕ → KeyValue → Places
but places context key c k = places c k && not (nat_eq c context && key_eq k key)

both_true : (a b : Bool) → a && b ≡ true → (a ≡ true) × (b ≡ true)
both_true true b is = (refl, is)
both_true false b is = absurd (cc is)

not_true : (b : Bool) → not b ≡ true → b ≡ false
not_true true is = absurd (cc is)
not_true false is = refl

number_is : (a b : ℕ) → nat_eq a b ≡ true → a ≡ b
number_is a b is = grind (arith, nat_tests)

pub within_but : (places : Places) (context : ℕ) (key : KeyValue) (c : ℕ) (k : KeyValue) → but places context key c k ≡ true → places c k ≡ true
within_but places context key c k is = (both_true (places c k) _ is).0

pub is_other : (places : Places) (context : ℕ) (key : KeyValue) (c : ℕ) (k : KeyValue) → but places context key c k ≡ true → context ≡ c → key ≡ k → ⊥
is_other places context key c k is same one =
    let off : nat_eq c context && key_eq k key ≡ false = not_true _ (both_true (places c k) _ is).1 in
    let on : nat_eq c context && key_eq k key ≡ true = ap (λ b. b && key_eq k key) (eq-eqb c context (sym same)) ∙ (keys_Decides k key).1 (sym one) in
    absurd (cc (sym on ∙ off))

-- what matches at the place and at all others matches
pub matches_join : (run : RunView) (places : Places) (context : ℕ) (key : KeyValue) (number : ℕ) (h : History) (t : ValueState) → HasNumberIn run key number
    → AreMatched run.meaning (plain_meaning t.values) (slots_in (cell_of run number) h context) (plain_slot t context key) → Matches run (but places context key) h t → Matches run places h t
matches_join run places context key number h t has there matches = record {
  slots = λ c k n is has'. elim (bools (nat_eq c context && key_eq k key)) [
    | inr off ↦ matches.slots c k n (ap (λ b. b && not (nat_eq c context && key_eq k key)) is ∙ ap not off) has'
    | inl on ↦
        let parts = both_true (nat_eq c context) (key_eq k key) on in
        let c_is : context ≡ c = sym (number_is c context parts.0) in
        let k_is : key ≡ k = sym ((keys_Decides k key).0 parts.1) in
        let n_is : number ≡ n = one_number run.numbering run.numbering (one_key run.numbering) key number n has (subst (λ x. HasNumberIn run x n) (sym k_is) has') in
        subst (λ (x : ℕ × (KeyValue × ℕ)). AreMatched run.meaning (plain_meaning t.values) (slots_in (cell_of run x.1.1) h x.0) (plain_slot t x.0 x.1.0)) (λ i. (c_is i, (k_is i, n_is i))) there
  ];
  unnumbered = λ c k is none. elim (bools (nat_eq c context && key_eq k key)) [
    | inr off ↦ matches.unnumbered c k (ap (λ b. b && not (nat_eq c context && key_eq k key)) is ∙ ap not off) none
    | inl on ↦
        let k_is : key ≡ k = sym ((keys_Decides k key).0 (both_true (nat_eq c context) (key_eq k key) on).1) in
        absurd (none number (subst (λ x. HasNumberIn run x number) k_is has))
  ];
}

pub matches_but : (run : RunView) (places : Places) (context : ℕ) (key : KeyValue) (h : History) (t : ValueState) → Matches run places h t → Matches run (but places context key) h t
matches_but run places context key h t matches = record {
  slots = λ c k n is has. matches.slots c k n (within_but places context key c k is) has;
  unnumbered = λ c k is none. matches.unnumbered c k (within_but places context key c k is) none;
}

-- ---- own events on one cell

-- none of these is on another cell
abbrev pub OnlyAt : ℕ → History → Type 0
OnlyAt cell mine = (other : ℕ) → nat_eq cell other ≡ false → events_at other mine ≡ []

-- events on a cell, all of which are by one lane, are those among the lane's own
pub at_own : (cell lane : ℕ) (h : History) → ((e : Event ℕ) → Contains h e → is_on nat_eq cell e.act ≡ true → e.lane ≡ lane) → events_at cell h ≡ events_at cell (own lane h)
at_own cell lane [] all = refl
at_own cell lane (e ∷ h) all =
    let on_it : Event ℕ → Bool = λ x. is_on nat_eq cell x.act in
    let by_it : Event ℕ → Bool = λ x. x.lane == lane in
    let later : events_at cell h ≡ events_at cell (own lane h) = at_own cell lane h (λ x there on. all x (contains_later e h x there) on) in
    elim (bools (on_it e)) [
      | inl on ↦
          let mine : by_it e ≡ true = eq-eqb e.lane lane (all e (contains_here e h) on) in
          passes on_it e h on ∙ (ap (λ l. e ∷ l) later ∙ (sym (passes on_it e (own lane h) on) ∙ sym (ap (events_at cell) (passes by_it e h mine))))
      | inr off ↦ elim (bools (by_it e)) [
        | inl mine ↦ passes_not on_it e h off ∙ (later ∙ (sym (passes_not on_it e (own lane h) off) ∙ sym (ap (events_at cell) (passes by_it e h mine))))
        | inr theirs ↦ passes_not on_it e h off ∙ (later ∙ sym (ap (events_at cell) (passes_not by_it e h theirs)))
      ]
    ]

module _ (run : RunView) (places : Places) (view : IsRunView run) (context : ℕ) (key : KeyValue) (number : ℕ) (within : places context key ≡ true) (has : HasNumberIn run key number)
    (a b : LaneView) (alone : IsAlone run places a b) (mine p : History) (only : OnlyAt (cell_of run number context) mine)
    (since : IsPrefix (seen_by a) p) (until : IsPrefix p (seen_by b)) (own_is : own a.number p ≡ own a.number (seen_by a) ++ mine) where
  alone_but : IsAlone run (but places context key) a b
  alone_but = record { own = λ more is c k n here has' e there on. alone.own more is c k n (within_but places context key c k here) has' e there on }

  apart_mine : AreNotAt run (but places context key) mine
  apart_mine = record {
    quiet = λ c k n here has'. elim (bools (nat_eq (cell_of run number context) (cell_of run n c))) [
      | inr off ↦ quiet_at mine (cell_of run n c) (only (cell_of run n c) off)
      | inl on ↦
          let apart = cells_apart run context c key k number n view has has' (number_is _ _ on) in
          absurd (is_other places context key c k here apart.0 apart.1)
    ];
  }

  -- at all other places the same stands
  pub others_after : (t : ValueState) → Matches run places (seen_by a) t → Matches run (but places context key) p t
  others_after t matches = matches_after run (but places context key) a b alone_but mine p t since until own_is apart_mine (matches_but run places context key (seen_by a) t matches)

  -- and in the cell what its own events leave
  pub slot_by_own : (state_after p).slots (cell_of run number context) ≡ fold then_there ((state_after (seen_by a)).slots (cell_of run number context)) (events_at (cell_of run number context) mine)
  slot_by_own =
      let cell : ℕ = cell_of run number context in
      let n : ℕ = a.number in
      let first : History = since.0 in
      let all : seen_by b ≡ seen_by a ++ (first ++ until.0) = sym until.1 ∙ (ap (λ l. l ++ until.0) (sym since.1) ∙ append_assoc (seen_by a) first until.0) in
      let made : own n first ≡ mine = append_cancel_left (own n (seen_by a)) (own n first) mine (sym (own_append lane_of n (seen_by a) first) ∙ (ap (own n) since.1 ∙ own_is)) in
      let by_lane : (e : Event ℕ) → Contains first e → is_on nat_eq cell e.act ≡ true → e.lane ≡ n = λ e there on. alone.own (first ++ until.0) all context key number within has e (contains_left first until.0 e there) on in
      let there : events_at cell first ≡ events_at cell mine = at_own cell n first by_lane ∙ ap (events_at cell) made in
      ap (λ h. (state_after h).slots cell) (sym since.1)
      ∙ (ap (λ (s : State ℕ). s.slots cell) (after-append (seen_by a) first) ∙ (slot_from first (state_after (seen_by a)) cell ∙ ap (fold then_there ((state_after (seen_by a)).slots cell)) there))

-- ---- an event of a plain run at one place

pub others_event : (run : RunView) (places : Places) (context : ℕ) (key : KeyValue) (h : History) (t : ValueState) (lane : ℕ) (act : Act Place) → is_there t.keys key ≡ true
    → place_of act ≡ Some (context, number_of_key t.keys key) → Matches run (but places context key) h t → Matches run (but places context key) h (after_event lane act t)
others_event run places context key h t lane act there at matches = record {
  slots = λ c k n here has.
      subst (λ x. AreMatched run.meaning (plain_meaning t.values) (slots_in (cell_of run n) h c) x) (sym (stays c k here)) (matches.slots c k n here has);
  unnumbered = λ c k here none. stays c k here ∙ matches.unnumbered c k here none;
}
  where
    stays : (c : ℕ) (k : KeyValue) → but places context key c k ≡ true → plain_slot (after_event lane act t) c k ≡ plain_slot t c k
    stays c k here =
        let place : Place = (c, number_of_key t.keys k) in
        let own_place : Place = (context, number_of_key t.keys key) in
        elim (bools (is_there t.keys k)) [
          | inr none ↦ plain_none (after_event lane act t) c k none ∙ sym (plain_none t c k none)
          | inl also ↦ elim (bools (same_place own_place place)) [
            | inr apart ↦ plain_there (after_event lane act t) c k also ∙ (place_then t.store lane act place false (ap (is_at same_place place) at ∙ apart) ∙ sym (plain_there t c k also))
            | inl same ↦
                let one : own_place ≡ place = same_place_is own_place place same in
                absurd (is_other places context key c k here (ap (λ (x : Place). x.0) one) (one_of_place t.keys key k there also (ap (λ (x : Place). x.1) one)))
          ]
        ]
