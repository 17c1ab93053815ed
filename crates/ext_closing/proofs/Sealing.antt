-- The seals of a context, one after the other: what was sealed stays, and the numbers are those of all seals so far.
use Rattle.std.proofs.Common.{◌≡◌, ◌≢◌, ◌<◌, ◌≤◌, inl, inr, ℕ, zero, suc, ◌+◌, ◌*◌, ◌-◌, ◌/◌, ◌%◌, true, false, List, [], ◌∷◌, ◌++◌, length, refl, ap, sym, subst, ◌∙◌, arith, Option, None, Some, nat_eq, add-one, Contains}
use Rattle.std.specs.Prelude.{if◌then◌else◌, Result, Ok, Err, IfOk, IfErr}
use Rattle.std.specs.Int.{bit_at}
use Rattle.std.proofs.Common.{below_more}
use Rattle.std.proofs.lemmas.Bool.Decides.{nat_tests}
use Rattle.std.proofs.lemmas.Nat.Bits.{bit_at_lowest, bit_at-suc, bit_at-zero}
use Rattle.std.proofs.lemmas.List.{map-append}
use Rattle.std.proofs.lemmas.List.Elements.{Contains-append_cases, Contains-append_right, Contains-push_cases}
use mathlib.Core.List.{IsPrefix}
use Rattle.ext_model.specs.declared.event.Act.TheVariants.{Seal}
use Rattle.ext_model.specs.declared.event.Event.{Event}
use Rattle.ext_model.specs.declared.slot.Slot.{Slot}
use Rattle.ext_model.specs.declared.slot.Slot.TheVariants as slot
use Rattle.ext_model.specs.State.{standing_value}
use Rattle.ext_model.specs.Events.{Happens, Answers, seal_reply, apply, is_on}
use Rattle.ext_model.specs.History.{History, Limits, by, lane_of, own, state_after, slots_in, version_of, IsAllowed, IsLegal}
use Rattle.ext_history.specs.Histories.{seen_by}
use Rattle.ext_model.specs.CallActs.{LaneView, Calls, Seals, events_by}
use Rattle.ext_model.specs.Closing.{IsClosed, kept_by, put_in_kept, remaining}
use Rattle.ext_model.proofs.Words.{after-push}
use Rattle.ext_model.proofs.Standing.{is_sealed, none_after_seal, nothing_after_seal}
use Rattle.ext_model.proofs.Versions.{version-append}
use Rattle.ext_model.proofs.Claims.{quiet_slot}
use Rattle.ext_history.proofs.Composed.{calls_none, events_past, seen_goes_on}
use Rattle.ext_history.proofs.Legal.{legal_begun, legal_induct, legal_push}
use Rattle.ext_history.proofs.Lists.{contains_none, contains_cons, contains_from_filter}
use Rattle.ext_history.proofs.Once.{contains-map, distinct_from_once, once-append, once_from_distinct}
use Rattle.ext_model.proofs.Composed.{calls_compose}
use Rattle.ext_model.proofs.Remaining.{stays_closed, remaining_stays}
use Rattle.ext_cells.specs.Lanes.{CellsId, Lane}
use Rattle.ext_cells.specs.CellCalls.{IsUnmarked}
use Rattle.ext_store.specs.Stores.{StoreView, StoreLane, IsLaneOf, StillKeeps, cell_in}
use Rattle.ext_store.specs.ContextCalls.{SealsCell, SealsUnused, IsBusyThere, seals_of}
use Rattle.ext_closing.specs.Sealing.{numbers_left, slots_seen, AreSealed, IsUnused, SealOvertaken, SealsMarked, MakesSeals, StopsAt}
use Rattle.ext_closing.specs.declared.fault.CloseFault.{CloseFault}
use Rattle.ext_closing.specs.declared.fault.CloseFault.TheVariants.{Busy, Contended, Unjoined}
use Rattle.ext_closing.specs.InnerSteps.{AreUnused, SealsNext, SealsOn, SealsRest, SealedSoFar, SealingEnds}
use Rattle.ext_closing.proofs.Counting.{one_more_within}
use Rattle.ext_closing.proofs.Ordering.{alone_of, place_passed, place_sealed}

-- ---- one seal

seal_happens : (x : Option Slot) (kept : Option ℕ) → seal_reply x ≡ Happens kept → Some (slot.Sealed (standing_value x)) ≡ Some (slot.Sealed kept)
seal_happens None kept is = cc is
seal_happens (Some (slot.Entry number)) kept is = cc is
seal_happens (Some (slot.Fault number)) kept is = cc is
seal_happens (Some (slot.Claim lane)) kept is = absurd (cc is)
seal_happens (Some (slot.Sealed stood)) kept is = absurd (cc is)

seal_answers : (x : Option Slot) (kept : Option ℕ) → seal_reply x ≡ Answers kept → x ≡ Some (slot.Sealed kept)
seal_answers None kept is = absurd (cc is)
seal_answers (Some (slot.Entry number)) kept is = absurd (cc is)
seal_answers (Some (slot.Fault number)) kept is = absurd (cc is)
seal_answers (Some (slot.Claim lane)) kept is = absurd (cc is)
seal_answers (Some (slot.Sealed stood)) kept is = cc is

sealed_now : (p : History) (lane cell : ℕ) (kept : Option ℕ) → seal_reply ((state_after p).slots cell) ≡ Happens kept → (state_after (p ++ by lane (Seal cell) ∷ [])).slots cell ≡ Some (slot.Sealed kept)
sealed_now p lane cell kept is =
    let here : nat_eq cell cell ≡ true = grind (arith, nat_tests) in
    let s : (apply nat_eq (state_after p) (by lane (Seal cell))).slots cell ≡ Some (slot.Sealed (standing_value ((state_after p).slots cell))) =
    ap (λ b. if b then Some (slot.Sealed (standing_value ((state_after p).slots cell))) else (state_after p).slots cell) here in
    rw (after-push p (by lane (Seal cell))) (s ∙ seal_happens ((state_after p).slots cell) kept is)

stays_sealed : {limits : Limits} (p g : History) (cell : ℕ) (kept : Option ℕ) → IsLegal limits g → IsPrefix p g → (state_after p).slots cell ≡ Some (slot.Sealed kept) → (state_after g).slots cell ≡ Some (slot.Sealed kept)
stays_sealed {limits} p g cell kept legal before is =
    let on : IsLegal limits (p ++ before.0) = subst (IsLegal limits) (sym before.1) legal in
    ap (λ h. (state_after h).slots cell) (sym before.1) ∙ quiet_slot p before.0 cell (none_after_seal p before.0 cell on (ap is_sealed is)) ∙ is

-- what a lane sealed is sealed
was_sealed : {limits : Limits} (h : History) (lane cell : ℕ) → IsLegal limits h → Contains h (by lane (Seal cell)) → is_sealed ((state_after h).slots cell) ≡ true
was_sealed {limits} h lane cell legal there = legal_induct (IsAllowed limits) Fact (λ none. absurd (contains_none _ none)) step h legal there
  where
    Fact : History → Type 0
    Fact g = Contains g (by lane (Seal cell)) → is_sealed ((state_after g).slots cell) ≡ true

    step : (g : History) (e : Event ℕ) → IsLegal limits g → Fact g → IsAllowed limits g e → Fact (g ++ e ∷ [])
    step g e old fact allowed there = elim (Contains-push_cases g e (by lane (Seal cell)) there) [
      | inl earlier ↦
          let sealed = fact earlier in
          ap is_sealed (quiet_slot g (e ∷ []) cell (none_after_seal g (e ∷ []) cell (legal_push g e old allowed) sealed)) ∙ sealed
      | inr same ↦
          let made = subst (IsAllowed limits g) same allowed in
          subst (λ x. is_sealed ((state_after (g ++ x ∷ [])).slots cell) ≡ true) (sym same) (ap is_sealed (sealed_now g lane cell made.happens.0 made.happens.1))
    ]

module _ (limits : Limits) (cell : ℕ) (before after : LaneView) (kept : Option ℕ) where
  -- after the call the cell is sealed in what the lane has seen,
  seals_slot : IsLegal limits (seen_by after) → Seals limits cell before after kept → (state_after (seen_by after)).slots cell ≡ Some (slot.Sealed kept)
  seals_slot legal (inl made) =
      let p = made.point in
      ap (λ h. (state_after h).slots cell) p.1.1 ∙ sealed_now p.0 before.number cell kept p.2
  seals_slot legal (inr found) =
      let p = found.point in
      stays_sealed p.0 (seen_by after) cell kept legal p.1.1 (seal_answers ((state_after p.0).slots cell) kept p.2)

  -- which goes on from what it had seen
  seals_go_on : Seals limits cell before after kept → IsPrefix (seen_by before) (seen_by after)
  seals_go_on (inl made) = seen_goes_on made.calls
  seals_go_on (inr found) = seen_goes_on found.calls

-- ---- the seals of one call

module _ (store : StoreView) (context : ℕ) (before after : Lane) where
  abbrev pub makes_none : Calls before.cells.limits before.view after.view [] → MakesSeals store context before after
  makes_none calls = record { sealed = []; once = distinct_from_once [] tt; keys = λ key there. absurd (contains_none key there); calls = calls }

  -- of one key, if it is one
  pub record SealsOne (key : ℕ) : Type 0 where
    pub made : MakesSeals store context before after
    pub only : (other : ℕ) → Contains made.sealed other → other ≡ key

  one_only : (key other : ℕ) → Contains (key ∷ []) other → other ≡ key
  one_only key other there = elim (contains_cons key [] other there) [ inl is ↦ sym is | inr none ↦ absurd (contains_none other none) ]

  makes_one : (key : ℕ) (kept : Option ℕ) → key < length store.id.keys → SealsCell store context key before after kept → SealsOne key
  makes_one key kept below (inl made) = record {
    made = record {
      sealed = key ∷ [];
      once = distinct_from_once (key ∷ []) ((λ there. contains_none key there), tt);
      keys = λ other there. subst (λ k. k < length store.id.keys) (sym (one_only key other there)) below;
      calls = made.calls;
    };
    only = λ other there. one_only key other there;
  }
  makes_one key kept below (inr found) = record { made = makes_none found.calls; only = λ other there. absurd (contains_none other there) }

  -- of the keys of a block that nobody used
  abbrev makes_unused : (block marks : ℕ) → block * 32 + 32 ≤ length store.id.keys → SealsUnused store context block marks before after → MakesSeals store context before after
  makes_unused block marks below unused = record {
    sealed = unused.sealed;
    once = unused.once;
    keys = λ key there. let row = (unused.unmarked key there).block_is in omega (arith, row, below);
    calls = unused.calls;
  }

-- ---- those of two calls

module _ (store : StoreView) (context : ℕ) (before between after : Lane) (same : between.cells ≡ before.cells) (legal : IsLegal between.cells.limits (seen_by after.view)) (one : MakesSeals store context before between) where
  -- no key is sealed twice
  pub none_again : (keys : List ℕ) → Calls between.cells.limits between.view after.view (seals_of store context keys) → (key : ℕ) → Contains one.sealed key → Contains keys key → ⊥
  none_again keys calls key first second =
      let limits = between.cells.limits in
      let on = seen_goes_on calls in
      let cell = cell_in store key context in
      let old = before.view.number in
      let lane = between.view.number in
      let seals : (n : ℕ) (ks : List ℕ) → Contains ks key → Contains (events_by n (seals_of store context ks)) (by n (Seal cell)) =
      λ n ks there. contains-map (by n) (seals_of store context ks) (Seal cell) (contains-map (λ k. Seal (cell_in store k context)) ks key there) in
      let own_old : Contains (own old (seen_by between.view)) (by old (Seal cell)) =
      subst (λ h. Contains h (by old (Seal cell))) (sym one.calls.own_events) (Contains-append_right (own old (seen_by before.view)) (events_by old (seals_of store context one.sealed)) (by old (Seal cell)) (seals old one.sealed first)) in
      let sealed : is_sealed ((state_after (seen_by between.view)).slots cell) ≡ true =
      was_sealed (seen_by between.view) old cell (legal_begun (seen_by between.view) (seen_by after.view) on legal) (contains_from_filter _ (seen_by between.view) (by old (Seal cell)) own_old) in
      let legal_on : IsLegal limits (seen_by between.view ++ on.0) = subst (IsLegal limits) (sym on.1) legal in
      let own_made : Contains (own lane on.0) (by lane (Seal cell)) = subst (λ h. Contains h (by lane (Seal cell))) (sym (events_past calls)) (seals lane keys second) in
      let happened : Contains on.0 (by lane (Seal cell)) = contains_from_filter _ on.0 (by lane (Seal cell)) own_made in
      let off : is_on nat_eq cell (Seal cell) ≡ false = nothing_after_seal (seen_by between.view) on.0 cell legal_on sealed (by lane (Seal cell)) happened in
      let here : nat_eq cell cell ≡ true = grind (arith, nat_tests) in
      absurd (cc (here, off))

  abbrev pub makes_both : MakesSeals store context between after → MakesSeals store context before after
  makes_both two = record {
    sealed = one.sealed ++ two.sealed;
    once = distinct_from_once (one.sealed ++ two.sealed)
        (once-append one.sealed two.sealed (once_from_distinct one.sealed one.once) (once_from_distinct two.sealed two.once) (λ key first second. none_again two.sealed two.calls key first second));
    keys = λ key there. elim (Contains-append_cases one.sealed two.sealed key there) [ inl first ↦ one.keys key first | inr second ↦ two.keys key second ];
    calls = subst (Calls before.cells.limits before.view after.view) (sym (map-append (λ k. Seal (cell_in store k context)) one.sealed two.sealed))
        (calls_compose before.cells.limits before.view between.view after.view (seals_of store context one.sealed) (seals_of store context two.sealed) one.calls
        (subst (λ (cells : CellsId). Calls cells.limits between.view after.view (seals_of store context two.sealed)) same two.calls));
  }

-- ---- what is sealed stays

module _ (store : StoreView) (context : ℕ) (limits : Limits) (between after : Lane) (on : IsPrefix (seen_by between.view) (seen_by after.view)) (legal : IsLegal limits (seen_by after.view)) where
  legal_on : IsLegal limits (seen_by between.view ++ on.0)
  legal_on = subst (IsLegal limits) (sym on.1) legal

  still_sealed : (keys : ℕ) → AreSealed store context keys between → AreSealed store context keys after
  still_sealed keys sealed =
      subst (λ h. IsClosed (slots_in (λ key. cell_in store key context) h) keys) on.1
      (stays_closed (seen_by between.view) on.0 (λ key. cell_in store key context) keys legal_on sealed)

  still_remaining : (keys : ℕ) → AreSealed store context keys between → remaining (slots_seen store context after) keys ≡ remaining (slots_seen store context between) keys
  still_remaining keys sealed =
      ap (λ h. remaining (slots_in (λ key. cell_in store key context) h) keys) (sym on.1)
      ∙ remaining_stays (seen_by between.view) on.0 (λ key. cell_in store key context) keys legal_on sealed

  stays_unused : (key : ℕ) → IsUnused store context between key → IsUnused store context after key
  stays_unused key unused =
      let cell = cell_in store key context in
      let none = none_after_seal (seen_by between.view) on.0 cell legal_on (ap is_sealed unused.slot) in
      let all = version-append (seen_by between.view) on.0 cell in
      let was = unused.version in
      record {
        version = ap (λ h. version_of h cell) (sym on.1) ∙ omega (arith, none, all, was);
        slot = stays_sealed (seen_by between.view) (seen_by after.view) cell None legal on unused.slot;
      }

-- ---- before any seal

pub none_sealed : (store : StoreView) (context : ℕ) (lane : Lane) (numbers : List ℕ) → numbers ≡ [] → SealedSoFar store context 0 lane lane numbers
none_sealed store context lane numbers none = record {
  same = refl;
  made = makes_none store context lane lane (calls_none lane_of lane.view);
  sealed = λ key below. absurd (omega (arith, below));
  beyond = λ key there. absurd (contains_none key there);
  numbers_are = none;
}

-- ---- keys that were sealed by the step of their block

module _ (store : StoreView) (context : ℕ) (before lane : Lane) (numbers : List ℕ) where
  one_unused : (key : ℕ) → IsUnused store context lane key → SealedSoFar store context key before lane numbers → SealedSoFar store context (key + 1) before lane numbers
  one_unused key here so_far =
      let up : key + 1 ≡ suc key = add-one key in
      let all : AreSealed store context (key + 1) lane = below_more _ _ so_far.sealed (None, here.slot) in
      subst (λ keys. SealedSoFar store context keys before lane numbers) (sym up) (record {
        same = so_far.same;
        made = so_far.made;
        sealed = subst (λ keys. AreSealed store context keys lane) up all;
        beyond = λ other there past. so_far.beyond other there (omega (arith, past));
        numbers_are = so_far.numbers_are ∙ ap (λ o. put_in_kept o (remaining (slots_seen store context lane) key)) (sym (ap kept_by here.slot));
      })

  -- so many of them
  pub all_unused : (n key : ℕ) → ((other : ℕ) → key ≤ other → other < key + n → IsUnused store context lane other)
      → SealedSoFar store context key before lane numbers → SealedSoFar store context (key + n) before lane numbers
  all_unused zero key unused so_far = subst (λ keys. SealedSoFar store context keys before lane numbers) (let e : key ≡ key + 0 = omega arith in e) so_far
  all_unused (suc n) key unused so_far =
      let next = one_unused key (unused key (omega arith) (omega arith)) so_far in
      subst (λ keys. SealedSoFar store context keys before lane numbers) (let e : key + 1 + n ≡ key + suc n = omega arith in e)
      (all_unused n (key + 1) (λ other past below. unused other (omega (arith, past)) (omega (arith, below))) next)

-- ---- marks

-- a key of the block whose mark is not set
unmarked_at : (block marks place : ℕ) → place < 32 → bit_at marks place ≡ 0 → IsUnmarked block marks (block * 32 + place)
unmarked_at block marks place less zero_is =
    let same : place ≡ (block * 32 + place) % 32 = omega (arith, less) in
    record { block_is = omega (arith, less); mark = subst (λ k. bit_at marks k ≡ 0) same zero_is }

-- no key from here on is marked, where no mark is left
none_left : (block marks left place : ℕ) → left ≡ 0 → ((i : ℕ) → bit_at left i ≡ bit_at marks (place + i)) → (key : ℕ) → block * 32 + place ≤ key → key < block * 32 + 32 → IsUnmarked block marks key
none_left block marks left place none bits key past below =
    let i = key - (block * 32 + place) in
    let bit : bit_at marks (place + i) ≡ 0 = sym (bits i) ∙ ap (λ n. bit_at n i) none ∙ bit_at-zero i in
    let same : place + i ≡ key % 32 = omega (arith, past, below) in
    record { block_is = omega (arith, past, below); mark = subst (λ k. bit_at marks k ≡ 0) same bit }

-- ---- a call that goes on

module _ (store : StoreView) (context : ℕ) (between after : Lane) (same : after.cells ≡ between.cells) (legal : IsLegal between.cells.limits (seen_by after.view)) where
  pub still_unused : (block marks : ℕ) → IsPrefix (seen_by between.view) (seen_by after.view) → AreUnused store context block marks between → AreUnused store context block marks after
  still_unused block marks on unused = λ key none. stays_unused store context between.cells.limits between after on legal key (unused key none)

  -- after the seals of the keys of a block that nobody used
  pub with_unused : (block marks keys : ℕ) → block * 32 + 32 ≤ length store.id.keys → SealsUnused store context block marks between after → (before : Lane) (numbers : List ℕ)
      → SealedSoFar store context keys before between numbers → SealedSoFar store context keys before after numbers
  with_unused block marks keys below unused before numbers so_far =
      let on = seen_goes_on unused.calls in
      let limits = between.cells.limits in
      record {
        same = same ∙ so_far.same;
        made = makes_both store context before between after so_far.same legal so_far.made (makes_unused store context between after block marks below unused);
        sealed = still_sealed store context limits between after on legal keys so_far.sealed;
        beyond = λ key there past. elim (Contains-append_cases so_far.made.sealed unused.sealed key there) [
          | inl first ↦ stays_unused store context limits between after on legal key (so_far.beyond key first past)
          | inr second ↦ unused.unused key (unused.unmarked key second)
        ];
        numbers_are = so_far.numbers_are ∙ sym (still_remaining store context limits between after on legal keys so_far.sealed);
      }

  -- where none of them is marked, that is all
  pub with_all_unused : (block marks : ℕ) → block * 32 + 32 ≤ length store.id.keys → marks ≡ 0 → SealsUnused store context block marks between after → (before : Lane) (numbers : List ℕ)
      → SealedSoFar store context (block * 32) before between numbers → SealedSoFar store context ((block + 1) * 32) before after numbers
  with_all_unused block marks below none unused before numbers so_far =
      let up : block * 32 + 32 ≡ (block + 1) * 32 = omega arith in
      let bits : (i : ℕ) → bit_at marks i ≡ bit_at marks (0 + i) = λ i. ap (bit_at marks) (let e : i ≡ 0 + i = omega arith in e) in
      subst (λ n. SealedSoFar store context n before after numbers) up
      (all_unused store context before after numbers 32 (block * 32) (λ key past under. unused.unused key (none_left block marks marks 0 none bits key (omega (arith, past)) under))
      (with_unused block marks (block * 32) below unused before numbers so_far))

  module _ (key : ℕ) (below : key < length store.id.keys) (before : Lane) (numbers : List ℕ) (so_far : SealedSoFar store context key before between numbers) where
    -- after the seal of the next key
    pub one_more_sealed : (kept : Option ℕ) → SealsCell store context key between after kept → SealedSoFar store context (key + 1) before after (put_in_kept kept numbers)
    one_more_sealed kept seal =
        let limits = between.cells.limits in
        let on = seals_go_on limits (cell_in store key context) between.view after.view kept seal in
        let here : slots_seen store context after key ≡ Some (slot.Sealed kept) = seals_slot limits (cell_in store key context) between.view after.view kept legal seal in
        let up : key + 1 ≡ suc key = add-one key in
        let all : AreSealed store context (key + 1) after = below_more _ _ (still_sealed store context limits between after on legal key so_far.sealed) (kept, here) in
        let one = makes_one store context between after key kept below seal in
        subst (λ keys. SealedSoFar store context keys before after (put_in_kept kept numbers)) (sym up) (record {
          same = same ∙ so_far.same;
          made = makes_both store context before between after so_far.same legal so_far.made one.made;
          sealed = subst (λ keys. AreSealed store context keys after) up all;
          beyond = λ other there past. elim (Contains-append_cases so_far.made.sealed one.made.sealed other there) [
            | inl first ↦ stays_unused store context limits between after on legal other (so_far.beyond other first (omega (arith, past)))
            | inr second ↦ let is = one.only other second in absurd (omega (arith, is, past))
          ];
          numbers_are =
              ap (put_in_kept kept) (so_far.numbers_are ∙ sym (still_remaining store context limits between after on legal key so_far.sealed))
              ∙ ap (λ o. put_in_kept o (remaining (slots_seen store context after) key)) (sym (ap kept_by here));
        })

    -- the next key's seal was refused
    stops : (IsRefused : Lane → Lane → Type 0) → IsRefused between after → StopsAt store context key IsRefused before after
    stops IsRefused refused = record { key_is = below; between = between; made = so_far.made; sealed = so_far.sealed; beyond = so_far.beyond; refused = refused }

    quiet_end : Calls between.cells.limits between.view after.view [] → AreSealed store context key after × MakesSeals store context before after
    quiet_end calls = (
      still_sealed store context between.cells.limits between after (seen_goes_on calls) legal key so_far.sealed,
      makes_both store context before between after so_far.same legal so_far.made (makes_none store context between after calls),
    )

    pub refused_end : (why : CloseFault) → SealsNext store context key between after (Err why) → SealingEnds store context before after (Some why)
    refused_end (Busy at) next =
        let e = quiet_end next.1.calls in
        subst (λ k. SealingEnds store context before after (Some (Busy k))) (sym next.0) (record { stops = stops (IsBusyThere store context key) next.1; sealed = e.0; made = e.1 })
    refused_end (Contended at) next =
        let e = quiet_end next.1.in_the_way.calls in
        subst (λ k. SealingEnds store context before after (Some (Contended k))) (sym next.0) (record { stops = stops (SealOvertaken store context key) next.1; sealed = e.0; made = e.1 })
    refused_end (Unjoined number) next = absurd next

-- ---- a block of the keys

-- a block up to this place, and the marks that are left
pub record BlockSoFar {V : Type 0} (store : StoreView) (context block marks left place : ℕ) (first lane : StoreLane V) (old numbers : List ℕ) : Type 0 where
  pub so_far : SealsOn store context (block * 32) (block * 32 + place) first.cells lane.cells old numbers
  pub unused : AreUnused store context block marks lane.cells
  pub bits : (i : ℕ) → bit_at left i ≡ bit_at marks (place + i)
  pub few : length numbers ≤ block * 32 + place
  pub steps : length lane.cells.view.fronts ≤ length first.cells.view.fronts + place * (store.tries + 1)
  pub alone : ℕ
  pub in_order : SealsMarked store context block marks place alone first.cells lane.cells
  pub costs : length lane.cells.view.fronts ≤ length first.cells.view.fronts + alone * (store.tries + 1)
  pub known : lane.known ≡ first.known
  pub faults : lane.faults ≡ first.faults
  pub keys : lane.keys ≡ first.keys
  pub lane_is : IsLaneOf store.id lane
  pub kept : StillKeeps first lane

pub legal_as : (before after : Lane) → after.cells ≡ before.cells → IsLegal after.cells.limits (seen_by after.view) → IsLegal before.cells.limits (seen_by after.view)
legal_as before after same legal = subst (λ (id : CellsId). IsLegal id.limits (seen_by after.view)) same legal

module _ {V : Type 0} (store : StoreView) (context block marks : ℕ) (below : block * 32 + 32 ≤ length store.id.keys) (first : StoreLane V) (mine : IsLaneOf store.id first) (old : List ℕ) where
  -- before any of them
  pub block_begun : AreUnused store context block marks first.cells → length old ≤ block * 32 → BlockSoFar store context block marks marks 0 first first old old
  block_begun unused few =
      let up : block * 32 ≡ block * 32 + 0 = omega arith in
      record {
        so_far = λ before so_far. subst (λ n. SealedSoFar store context n before first.cells old) up so_far;
        unused = unused;
        bits = λ i. ap (bit_at marks) (let e : i ≡ 0 + i = omega arith in e);
        few = omega (arith, few);
        steps = omega arith;
        alone = 0;
        in_order = (refl, refl);
        costs = omega arith;
        known = refl;
        faults = refl;
        keys = refl;
        lane_is = mine;
        kept = λ number kept. kept;
      }

  module _ (left place : ℕ) (less : place < 32) (lane : StoreLane V) (numbers : List ℕ) (h : BlockSoFar store context block marks left place first lane old numbers) where
    next_bits : (i : ℕ) → bit_at (left / 2) i ≡ bit_at marks (place + 1 + i)
    next_bits i = sym (bit_at-suc left i) ∙ h.bits (suc i) ∙ ap (bit_at marks) (let e : place + suc i ≡ place + 1 + i = omega arith in e)

    up : block * 32 + place + 1 ≡ block * 32 + (place + 1)
    up = omega arith

    pub key_within : block * 32 + place < length store.id.keys
    key_within = omega (arith, below, less)

    bit_is : left % 2 ≡ bit_at marks place
    bit_is =
        let low = bit_at_lowest left in
        let lowest : bit_at left 0 ≡ bit_at marks place = h.bits 0 ∙ ap (bit_at marks) (let e : place + 0 ≡ place = omega arith in e) in
        omega (arith, low, lowest)

    -- a place without a mark
    pub block_passed : left % 2 ≢ 1 → BlockSoFar store context block marks (left / 2) (place + 1) first lane old numbers
    block_passed even =
        let zero_is : bit_at marks place ≡ 0 = omega (arith, bit_is, even) in
        let none : IsUnmarked block marks (block * 32 + place) = unmarked_at block marks place less zero_is in
        record {
          so_far = λ before so_far. subst (λ n. SealedSoFar store context n before lane.cells numbers) up
              (one_unused store context before lane.cells numbers (block * 32 + place) (h.unused (block * 32 + place) none) (h.so_far before so_far));
          unused = h.unused;
          bits = next_bits;
          few = let few = h.few in omega (arith, few);
          steps = one_more_within _ _ _ place (store.tries + 1) h.steps (omega arith);
          alone = h.alone;
          in_order = place_passed store context block marks place h.alone first.cells lane.cells h.in_order zero_is;
          costs = h.costs;
          known = h.known;
          faults = h.faults;
          keys = h.keys;
          lane_is = h.lane_is;
          kept = h.kept;
        }

    module _ (next : StoreLane V) (own : IsLaneOf store.id next) (legal : IsLegal next.cells.cells.limits (seen_by next.cells.view)) where
      same : next.cells.cells ≡ lane.cells.cells
      same = own.cells ∙ sym h.lane_is.cells

      legal_now : IsLegal lane.cells.cells.limits (seen_by next.cells.view)
      legal_now = legal_as lane.cells next.cells same legal

      -- a place that has one, whose key was sealed or refused
      one_alone : left % 2 ≡ 1 → (r : Result (Option ℕ) CloseFault) → SealsNext store context (block * 32 + place) lane.cells next.cells r
          → length next.cells.view.fronts ≤ length lane.cells.view.fronts + (store.tries + 1) → SealsMarked store context block marks (place + 1) (h.alone + 1) first.cells next.cells
      one_alone odd r seal steps =
          place_sealed store context block marks place h.alone first.cells lane.cells h.in_order (let e : bit_at marks place ≡ 1 = omega (arith, bit_is, odd) in e) next.cells
          (alone_of store context (block * 32 + place) lane.cells next.cells r seal steps)

      pub rest_refused : left % 2 ≡ 1 → (r : Result (Option ℕ) CloseFault) → SealsNext store context (block * 32 + place) lane.cells next.cells r
          → length next.cells.view.fronts ≤ length lane.cells.view.fronts + (store.tries + 1) → SealsRest store context block marks first.cells next.cells
      rest_refused odd r seal steps = record {
        places = place + 1;
        few = omega (arith, less);
        alone = h.alone + 1;
        marked = one_alone odd r seal steps;
        steps = one_more_within _ _ _ h.alone (store.tries + 1) h.costs steps;
      }

      -- sealed
      pub block_sealed : left % 2 ≡ 1 → (kept : Option ℕ) (more : List ℕ) → SealsNext store context (block * 32 + place) lane.cells next.cells (Ok kept) → more ≡ put_in_kept kept numbers → length more ≤ length numbers + 1
          → length next.cells.view.fronts ≤ length lane.cells.view.fronts + (store.tries + 1) → next.known ≡ lane.known → next.faults ≡ lane.faults → next.keys ≡ lane.keys → StillKeeps lane next
          → BlockSoFar store context block marks (left / 2) (place + 1) first next old more
      block_sealed odd kept more seal is one steps known faults keys keeps =
          record {
            so_far = λ before so_far.
                subst (λ (x : ℕ × List ℕ). SealedSoFar store context x.0 before next.cells x.1) (λ i. (up i, sym is i))
                (one_more_sealed store context lane.cells next.cells same legal_now (block * 32 + place) key_within before numbers (h.so_far before so_far) kept seal);
            unused = still_unused store context lane.cells next.cells same legal_now block marks (seals_go_on lane.cells.cells.limits (cell_in store (block * 32 + place) context) lane.cells.view next.cells.view kept seal) h.unused;
            bits = next_bits;
            few = let few = h.few in omega (arith, few, one);
            steps = one_more_within _ _ _ place (store.tries + 1) h.steps steps;
            alone = h.alone + 1;
            in_order = one_alone odd (Ok kept) seal steps;
            costs = one_more_within _ _ _ h.alone (store.tries + 1) h.costs steps;
            known = known ∙ h.known;
            faults = faults ∙ h.faults;
            keys = keys ∙ h.keys;
            lane_is = own;
            kept = λ number was. keeps number (h.kept number was);
          }

      -- or not
      pub block_refused : (why : CloseFault) → SealsNext store context (block * 32 + place) lane.cells next.cells (Err why) → (before : Lane)
          → SealedSoFar store context (block * 32) before first.cells old → SealingEnds store context before next.cells (Some why)
      block_refused why refused before so_far = refused_end store context lane.cells next.cells same legal_now (block * 32 + place) key_within before numbers (h.so_far before so_far) why refused

  pub rest_done : (left place : ℕ) → place ≤ 32 → (lane : StoreLane V) (numbers : List ℕ) → BlockSoFar store context block marks left place first lane old numbers
      → SealsRest store context block marks first.cells lane.cells
  rest_done left place less lane numbers h = record { places = place; few = less; alone = h.alone; marked = h.in_order; steps = h.costs }

  -- where no mark is left
  pub block_done : (left place : ℕ) → place ≤ 32 → left ≡ 0 → (lane : StoreLane V) (numbers : List ℕ) → BlockSoFar store context block marks left place first lane old numbers
      → SealsOn store context (block * 32) (block * 32 + 32) first.cells lane.cells old numbers
  block_done left place less none lane numbers h = λ before so_far.
      let end : block * 32 + place + (32 - place) ≡ block * 32 + 32 = omega (arith, less) in
      subst (λ n. SealedSoFar store context n before lane.cells numbers) end
      (all_unused store context before lane.cells numbers (32 - place) (block * 32 + place)
      (λ key past under. h.unused key (none_left block marks left place none h.bits key past (omega (arith, under, end)))) (h.so_far before so_far))

-- ---- all keys

module _ (store : StoreView) (context keys : ℕ) (before after : Lane) (numbers : List ℕ) (all : keys ≡ length store.id.keys) (so_far : SealedSoFar store context keys before after numbers) where
  pub all_ended : SealingEnds store context before after None
  all_ended = record { stops = tt; sealed = subst (λ n. AreSealed store context n after) all so_far.sealed; made = so_far.made }

  pub all_left : numbers ≡ numbers_left store context after
  all_left = subst (λ n. numbers ≡ remaining (slots_seen store context after) n) all so_far.numbers_are

-- ---- of a result

pub if_ok : {A E : Type 0} {P Q : A → Type 0} (r : Result A E) → ((a : A) → P a → Q a) → IfOk r P → IfOk r Q
if_ok (Ok a) so is = so a is
if_ok (Err e) so is = tt

pub if_err : {A E : Type 0} {P Q : E → Type 0} (r : Result A E) → ((e : E) → P e → Q e) → IfErr r P → IfErr r Q
if_err (Ok a) so is = tt
if_err (Err e) so is = so e is
