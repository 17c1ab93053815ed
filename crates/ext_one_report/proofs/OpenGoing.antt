-- A lane and a plain run beside one another go on: from a moment to a later one, at which more places are settled.
use Rattle.std.proofs.Common.{◌≡◌, ℕ, ◌+◌, inl, inr, true, false, true≢false, List, [], ◌++◌, Contains, Option, None, Some, refl, ap, sym, subst, ◌∙◌, arith, nat_eq, append_assoc}
use Rattle.std.specs.Prelude.{◌||◌, ◌≢◌}
use Rattle.std.proofs.lemmas.List.Elements.{Contains-append_cases, Contains-append_right}
use mathlib.Core.List.{IsPrefix, append_cancel_left}
use Rattle.ext_history.specs.Histories.{seen_by}
use Rattle.ext_history.proofs.Legal.{legal_begun}
use Rattle.ext_history.proofs.Lists.{bools}
use Rattle.ext_model.specs.declared.event.Event.{Event}
use Rattle.ext_model.specs.declared.slot.Slot.{Slot}
use Rattle.ext_model.specs.CallActs.{LaneView}
use Rattle.ext_model.specs.Events.{is_on}
use Rattle.ext_model.specs.History.{History, IsLegal, IsQuiet, Limits, slots_in, state_after}
use Rattle.ext_model.specs.State.{State}
use Rattle.ext_model.proofs.Versions.{after-append, none_on, slot_stays}
use Rattle.ext_tree.specs.Keys.{KeyValue}
use Rattle.ext_store.specs.Stores.{IsLaneOf}
use Rattle.ext_engine.specs.Order.{LaneGoesOn}
use Rattle.ext_plan_plain.specs.ValueStates.{ValueState}
use Rattle.ext_plan_parallel.specs.StoreCalls.{PlanLane}
use Rattle.ext_one_report.proofs.MatchingWords.{HasNumberIn, IsNumbered, Matches, Places, RunView, TextMeaning, cell_of, plain_meaning}
use Rattle.ext_one_report.proofs.StandingsWords.{AreMatched, fault, fault_stands, standing_of, value, value_stands}
use Rattle.ext_one_report.proofs.Standings.{holds}
use Rattle.ext_one_report.proofs.StepsWords.{IsAlone}
use Rattle.ext_one_report.proofs.NodesAlone.{alone_first, alone_later, contains_left}
use Rattle.ext_one_report.proofs.Calls.{lane_before}
use Rattle.ext_one_report.proofs.Matching.{matches_at_fewer, numbered_at_fewer}
use Rattle.ext_one_report.proofs.OrdersBounds.{matched_drawn}
use Rattle.ext_one_report.proofs.OrdersHistory.{prefix_rises}
use Rattle.ext_one_report.proofs.OrdersLaws.{orders_fewer, orders_then}
use Rattle.ext_one_report.proofs.Fills.{Fills, IsFilledBy, IsSettled, Spot}
use Rattle.ext_one_report.proofs.FillsLaws.{fills_then}
use Rattle.ext_one_report.proofs.Open.{AreNear, Given, OnlyComputed, Open, Stands, also, is_left, of_fault, of_nothing, of_value, still_open}
use Rattle.ext_one_report.proofs.OpenSteps.{AreBesideOpen, StandsInBoth}
use Rattle.ext_one_report.proofs.OpenCalls.{LeavesNear}
use Rattle.ext_one_report.proofs.OpenFills.{filled_first, filled_in_one, filled_second, fills_on}
use Rattle.ext_one_report.proofs.OpenFits.{also_twice, beside_settled, opens, or_cases, or_left, or_neither, or_right, still_twice, was_open}
use Rattle.ext_one_report.proofs.Standing.{standing_stays}

-- ---- what is computed at open places

pub computed_first : (run : RunView) (open_at : Open) (a m b : LaneView) → IsPrefix (seen_by m) (seen_by b) → OnlyComputed run open_at a b → OnlyComputed run open_at a m
computed_first run open_at a m b goes_on computed = record {
  each = λ first is context key number v opened has e there on.
      let all : seen_by b ≡ seen_by a ++ (first ++ goes_on.0) = sym goes_on.1 ∙ (ap (λ l. l ++ goes_on.0) is ∙ append_assoc (seen_by a) first goes_on.0) in
      computed.each (first ++ goes_on.0) all context key number v opened has e (contains_left first goes_on.0 e there) on;
}

pub computed_later : (run : RunView) (open_at : Open) (a m b : LaneView) → IsPrefix (seen_by a) (seen_by m) → OnlyComputed run open_at a b → OnlyComputed run open_at m b
computed_later run open_at a m b goes_on computed = record {
  each = λ later is context key number v opened has e there on.
      let all : seen_by b ≡ seen_by a ++ (goes_on.0 ++ later) = is ∙ (ap (λ l. l ++ later) (sym goes_on.1) ∙ append_assoc (seen_by a) goes_on.0 later) in
      computed.each (goes_on.0 ++ later) all context key number v opened has e (Contains-append_right goes_on.0 later e there) on;
}

computed_fewer : (run : RunView) (open_at : Open) (settled : Places) (a b : LaneView) → OnlyComputed run open_at a b → OnlyComputed run (still_open settled open_at) a b
computed_fewer run open_at settled a b computed = record {
  each = λ more is context key number v opened has e there on. computed.each more is context key number v (was_open (settled context key) (open_at context key) v opened).1 has e there on;
}

-- ---- up to a moment between

pub beside_first : (run : RunView) (path : List ℕ) (places : Places) (open_at : Open) (a m b : PlanLane) (s : ValueState) → LaneGoesOn m b → AreBesideOpen run path places open_at a b s → AreBesideOpen run path places open_at a m s
beside_first run path places open_at a m b s further both = record {
  view = both.view;
  of = both.of;
  lane = lane_before run m b further both.lane;
  legal = legal_begun (seen_by m.cells.view) (seen_by b.cells.view) further.seen both.legal;
  tree = both.tree;
  path_is = both.path_is;
  beside = both.beside;
  alone = alone_first run places a.cells.view m.cells.view b.cells.view further.seen both.alone;
  computed = computed_first run open_at a.cells.view m.cells.view b.cells.view further.seen both.computed;
  memory = both.memory;
  keeps = both.keeps;
  matches = both.matches;
  numbered = both.numbered;
  near = both.near;
}

-- ---- where a value or a fault stands in both

-- where the same stands in both, and the value or the fault in the one, it stands in the other
pub stands_matched : (ours theirs : TextMeaning) (v : Given) (x y : Option Slot) → Stands ours v x → AreMatched ours theirs x y → Stands theirs v y
stands_matched ours theirs (of_value v) x y stands matched =
    let there = holds theirs y (value v) (matched.there ∙ (sym matched.here ∙ (ap (standing_of ours) stands.there ∙ ap value_stands stands.means))) in
    record { number = there.0; there = there.1; means = there.2 }
stands_matched ours theirs (of_fault text) x y stands matched =
    let there = holds theirs y (fault text) (matched.there ∙ (sym matched.here ∙ (ap (standing_of ours) stands.there ∙ ap fault_stands stands.means))) in
    record { number = there.0; there = there.1; means = there.2 }
stands_matched ours theirs (of_nothing text) x y stands matched = absurd stands.means

pub stays_quiet : (h more : History) (cell : ℕ) → IsQuiet cell more → (state_after (h ++ more)).slots cell ≡ (state_after h).slots cell
stays_quiet h more cell quiet = ap (λ (s : State ℕ). s.slots cell) (after-append h more) ∙ slot_stays more (state_after h) cell quiet

module _ (run : RunView) (path : List ℕ) (places : Places) (open_at : Open) (a m b : PlanLane) (s t : ValueState)
    (both : AreBesideOpen run path places open_at a b s) (goes : LaneGoesOn a m) (further : LaneGoesOn m b) where
  abbrev limits : Limits
  limits = run.store.id.cells.limits

  from_between : OnlyComputed run open_at m.cells.view b.cells.view
  from_between = computed_later run open_at a.cells.view m.cells.view b.cells.view goes.seen both.computed

  module _ (one : LeavesNear run places open_at a s m t) where
    -- nothing happens any more where a value or a fault stands
    settled_quiet : (c : ℕ) (k : KeyValue) (n : ℕ) → one.settled c k ≡ true → HasNumberIn run k n → (more : History) → seen_by b.cells.view ≡ seen_by m.cells.view ++ more → IsQuiet (cell_of run n c) more
    settled_quiet c k n here has more is =
        let was = one.were_open c k here in
        standing_stays run limits was.0 (cell_of run n c) (seen_by m.cells.view) more (subst (IsLegal limits) is both.legal) ((one.stand c k was.0 here was.1).lanes n has)
        (λ e there on. from_between.each more is c k n was.0 was.1 has e there on)

    -- so the lane is alone there
    settled_alone : IsAlone run (also one.settled places) m.cells.view b.cells.view
    settled_alone = record {
      own = λ more is c k n here has e there on. elim (or_cases (places c k) (one.settled c k) here) [
        | inl place ↦ (alone_later run places a.cells.view m.cells.view b.cells.view goes.seen goes.number both.alone).own more is c k n place has e there on
        | inr settled ↦ let off = none_on more (cell_of run n c) (settled_quiet c k n settled has more is) e there in absurd (cc (sym on ∙ off))
      ];
    }

    -- and they are beside one another from then on
    pub beside_later : IsLaneOf run.store.id m → t.memory ≡ [] → t.keep_faults ≡ s.keep_faults → AreBesideOpen run path (also one.settled places) (still_open one.settled open_at) m b t
    beside_later of memory faults = record {
      view = both.view;
      of = of;
      lane = both.lane;
      legal = both.legal;
      tree = both.tree;
      path_is = both.path_is;
      beside = beside_settled run places open_at one.settled both.beside;
      alone = settled_alone;
      computed = computed_fewer run open_at one.settled m.cells.view b.cells.view from_between;
      memory = memory;
      keeps = both.keeps ∙ sym faults;
      matches = one.matches;
      numbered = one.numbered;
      near = one.near;
    }

  -- ---- and what is left in the end

  module _ (u : ValueState) (one : LeavesNear run places open_at a s m t) (two : LeavesNear run (also one.settled places) (still_open one.settled open_at) m t b u) where
    abbrev first : Places
    first = one.settled

    abbrev second : Places
    second = two.settled

    -- what stood at the moment between stands still
    stood : (c : ℕ) (k : KeyValue) (v : Given) → first c k ≡ true → open_at c k ≡ Some v → StandsInBoth run v c k (seen_by b.cells.view) u
    stood c k v here opened =
        let lanes : (n : ℕ) → HasNumberIn run k n → Stands run.meaning v (slots_in (cell_of run n) (seen_by b.cells.view) c) = λ n has.
        let quiet = settled_quiet one c k n here has further.seen.0 (sym further.seen.1) in
        let same : slots_in (cell_of run n) (seen_by b.cells.view) c ≡ slots_in (cell_of run n) (seen_by m.cells.view) c =
        ap (λ h. (state_after h).slots (cell_of run n c)) (sym further.seen.1) ∙ stays_quiet (seen_by m.cells.view) further.seen.0 (cell_of run n c) quiet in
        subst (Stands run.meaning v) (sym same) ((one.stand c k v here opened).lanes n has) in
        let name = one.named c k here in
        let among : also second (also first places) c k ≡ true = or_left (places c k || first c k) (second c k) (or_right (places c k) (first c k) here) in
        record {
          lanes = lanes;
          plain = stands_matched run.meaning (plain_meaning u.values) v _ _ (lanes name.0 name.1) (two.matches.slots c k name.0 among name.1);
        }

    -- the settled places of both, and all others as they were
    pub left_then : LeavesNear run places open_at a s b u
    left_then = record {
      settled = also second first;
      matches = subst (λ (p : Places). Matches run p (seen_by b.cells.view) u) (also_twice places first second) two.matches;
      numbered = subst (λ (p : Places). IsNumbered p u) (also_twice places first second) two.numbered;
      near = subst (λ (o : Open). AreNear run o (seen_by b.cells.view) u) (still_twice open_at first second) two.near;
      were_open = λ c k here. elim (or_cases (first c k) (second c k) here) [
        | inl on ↦ one.were_open c k on
        | inr on ↦ let was = two.were_open c k on in (was.0, (was_open (first c k) (open_at c k) was.0 was.1).1)
      ];
      named = λ c k here. elim (or_cases (first c k) (second c k) here) [
        | inl on ↦ one.named c k on
        | inr on ↦ two.named c k on
      ];
      stand = λ c k v here opened. elim (bools (first c k)) [
        | inl on ↦ stood c k v on opened
        | inr off ↦ elim (or_cases (first c k) (second c k) here) [
          | inl on ↦ stood c k v on opened
          | inr on ↦ two.stand c k v on (opens (first c k) (open_at c k) v off opened)
        ]
      ];
      unchanged = λ c k v off opened.
          let apart = or_neither (first c k) (second c k) off in
          two.unchanged c k v apart.1 (opens (first c k) (open_at c k) v apart.0 opened) ∙ one.unchanged c k v apart.0 opened;
      untouched = λ c k n v off opened leaves has more is e there on. untouched_by c k n v (or_neither (first c k) (second c k) off) opened leaves has more is e there on;
      rises = (let early = one.rises in let late = two.rises in omega (arith, early, late));
      orders = orders_then run places (seen_by a.cells.view) (seen_by m.cells.view) (seen_by b.cells.view) s t u (prefix_rises (seen_by a.cells.view) (seen_by m.cells.view) goes.seen) one.rises
          (matched_drawn run places run.store.id.cells.limits (seen_by m.cells.view) t (legal_begun (seen_by m.cells.view) (seen_by b.cells.view) further.seen both.legal)
          (matches_at_fewer run (also first places) places (seen_by m.cells.view) t (λ c k is. or_left (places c k) (first c k) is) one.matches)
          (numbered_at_fewer (also first places) places t (λ c k is. or_left (places c k) (first c k) is) one.numbered)) one.orders
          (orders_fewer run (also first places) places (seen_by m.cells.view) (seen_by b.cells.view) t u (λ c k is. or_left (places c k) (first c k) is) two.orders);
    }
      where
        untouched_by : (c : ℕ) (k : KeyValue) (n : ℕ) (v : Given) → (first c k ≡ false) × (second c k ≡ false) → open_at c k ≡ Some v → is_left v ≡ true → HasNumberIn run k n
            → (more : History) → seen_by b.cells.view ≡ seen_by a.cells.view ++ more → (e : Event ℕ) → Contains more e → is_on nat_eq (cell_of run n c) e.act ≡ true → e.lane ≢ a.cells.view.number
        untouched_by c k n v apart opened leaves has more is e there on =
            let start = seen_by a.cells.view in
            let all : start ++ more ≡ start ++ (goes.seen.0 ++ further.seen.0) =
            sym is ∙ (sym further.seen.1 ∙ (ap (λ l. l ++ further.seen.0) (sym goes.seen.1) ∙ append_assoc start goes.seen.0 further.seen.0)) in
            elim (Contains-append_cases goes.seen.0 further.seen.0 e (subst (λ l. Contains l e) (append_cancel_left start more _ all) there)) [
              | inl early ↦ one.untouched c k n v apart.0 opened leaves has goes.seen.0 (sym goes.seen.1) e early on
              | inr late ↦ λ own. two.untouched c k n v apart.1 (opens (first c k) (open_at c k) v apart.0 opened) leaves has further.seen.0 (sym further.seen.1) e late on (own ∙ sym goes.number)
            ]

    pub then_settled : left_then.settled ≡ also second first
    unfolding left_then
    then_settled = refl

    -- where a value stands nothing is filled any more
    settled_unfilled : (spot : Spot) → IsSettled open_at (still_open first open_at) spot → IsFilledBy run m b spot → ⊥
    settled_unfilled spot gone filled = elim (bools (first spot.0 spot.1)) [
      | inl on ↦
          let cell : ℕ = cell_of run filled.number spot.0 in
          let off = none_on filled.more cell (settled_quiet one spot.0 spot.1 filled.number on filled.has filled.more filled.is) filled.event filled.there in
          true≢false (sym (fills_on cell filled.value filled.event.act filled.act) ∙ off)
      | inr off ↦ let none : Some (of_value gone.value) ≡ None = sym (opens (first spot.0 spot.1) (open_at spot.0 spot.1) (of_value gone.value) off gone.was_open) ∙ gone.closed in absurd (cc none)
    ]

    -- what both have filled
    pub both_fill : (lanes plain more others : ℕ) → Fills (IsFilledBy run a m) open_at (still_open first open_at) s lanes plain
        → Fills (IsFilledBy run m b) (still_open first open_at) (still_open second (still_open first open_at)) t more others
        → Fills (IsFilledBy run a b) open_at (still_open left_then.settled open_at) s (lanes + more) (plain + others)
    both_fill lanes plain more others fills then =
        subst (λ (p : Places). Fills (IsFilledBy run a b) open_at (still_open p open_at) s (lanes + more) (plain + others)) (sym then_settled)
        (subst (λ (o : Open). Fills (IsFilledBy run a b) open_at o s (lanes + more) (plain + others)) (still_twice open_at first second)
        (fills_then (IsFilledBy run a m) (IsFilledBy run m b) (IsFilledBy run a b) open_at (still_open first open_at) (still_open second (still_open first open_at)) s t lanes plain more others
        (λ c k v is. (was_open (first c k) (open_at c k) v is).1)
        (λ c k v is. (was_open (second c k) (still_open first open_at c k) v is).1)
        (λ c k v is. let was = was_open (first c k) (open_at c k) v is in one.unchanged c k v was.0 was.1)
        (λ spot v is filled. filled_in_one run a m b goes further spot filled)
        (filled_first run a m b goes further)
        (filled_second run a m b goes further)
        settled_unfilled fills then))
