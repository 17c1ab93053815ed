-- What is known while a lane tries to take a lock.
use Rattle.std.proofs.Common.{◌≡◌, ◌≢◌, ◌⊎◌, ◌==◌, ℕ, zero, suc, ◌+◌, ◌-◌, ◌^◌, ◌<◌, ◌≤◌, Bool, true, false, if◌then◌else◌, [], ◌∷◌, ◌++◌, length, refl, sym, ap, ◌∙◌, subst, ⊎_elim, inl, inr, arith, length-append}
use Rattle.std.specs.Int.{bit_at}
use Rattle.std.specs.Int.RustNames.{bit_and}
use Rattle.std.proofs.lemmas.Nat.{and_le_r}
use Rattle.std.proofs.lemmas.Nat.Bits.{bit_at_and, bit_at_ones, bit_at_ones_above, bit_at-zero, bit_at-lt, same_from_bits_below}
use Rattle.std.proofs.lemmas.Bool.{both_ways, cases_lt, cases_eq, eqb-false}
use Rattle.atomic_table.specs.declared.shared.Seat.{Seat}
use Rattle.ext_history.specs.Histories.{others, seen, first_or, first_front, IsStepped, IsCrowded}
use Rattle.ext_history.proofs.Lanes.{others_append, others_more}
use Rattle.ext_history.proofs.Fronts.{moved_fronts}
use Rattle.ext_history.proofs.Composed.{seen_goes_on, first_decides, steps_stay}
use Rattle.ext_locks.specs.declared.event.LockMode.{LockMode}
use Rattle.ext_locks.specs.declared.event.LockMode.TheVariants.{Read, ReadWrite}
use Rattle.ext_locks.specs.declared.seat.SeatView.{SeatView}
use Rattle.ext_locks.specs.declared.refusal.LockRefusal.TheVariants.{Taken, Contended}
use Rattle.ext_locks.specs.History.{LockHistory, event, lane_of, is_about, holds, own}
use Rattle.ext_locks.specs.Views.{LaneView, Calls}
use Rattle.ext_locks.specs.InnerWords.{as_bit, IsWord, IsFreeWord}
use Rattle.ext_locks.specs.InnerRule.{lane_view, seeing, Loaded, Stepped, TakesIf}
use Rattle.ext_locks.specs.Refusals.{excludes_mode, IsTakenBy}
use Rattle.ext_locks.specs.InnerSteps.{Makes, AddsAtMost, SameHeld, HeldBut, Missed}
use Rattle.ext_locks.proofs.Words.{free_word}
use Rattle.ext_locks.proofs.Holding.{loaded_held, stepped_held}
use Rattle.ext_locks.proofs.Fronts.{seen_now, loaded_legal, loaded_stepped, makes_self, makes_then, makes_quiet, loaded_makes, stepped_makes}

-- a number of 64 bits, whose upper 32 are clear
low_bits : (n : ℕ) → n < 2 ^ 64 → ((i : ℕ) → i < 32 → bit_at n (32 + i) ≡ 0) → n < 2 ^ 32
low_bits n small clear =
    let same = same_from_bits_below 64 n (bit_and n (2 ^ 32 - 1)) small (let a = and_le_r n (2 ^ 32 - 1) in omega arith) each in
    let a = and_le_r n (2 ^ 32 - 1) in
    omega arith
  where
    each : (i : ℕ) → i < 64 → bit_at n i ≡ bit_at (bit_and n (2 ^ 32 - 1)) i
    each i below =
        ⊎_elim
        (λ few. let e = bit_at_and n (2 ^ 32 - 1) i in let o = bit_at_ones 32 i few in let t = bit_at-lt n i in omega arith)
        (λ many.
        let e = bit_at_and n (2 ^ 32 - 1) i in
        let o = bit_at_ones_above 32 i many in
        let z : bit_at n i ≡ 0 = subst (λ j. bit_at n j ≡ 0) (let m = many in omega arith) (clear (i - 32) (omega arith)) in
        omega arith)
        (cases_lt i 32)

-- a word without a writer, and one without any holder
no_writer_word : (h : LockHistory) (k n : ℕ) → IsWord h k n → ((i : ℕ) → i < 32 → holds h k ReadWrite i ≡ false) → n < 2 ^ 32
no_writer_word h k n w none = low_bits n w.small (λ i few. w.bits ReadWrite i few ∙ ap as_bit (none i few))

no_holder_word : (h : LockHistory) (k n : ℕ) → IsWord h k n → ((i : ℕ) → i < 32 → holds h k Read i ≡ false) → ((i : ℕ) → i < 32 → holds h k ReadWrite i ≡ false) → n ≡ 0
no_holder_word h k n w reads writes = same_from_bits_below 64 n 0 w.small (omega arith) each
  where
    each : (i : ℕ) → i < 64 → bit_at n i ≡ bit_at 0 i
    each i below =
        ⊎_elim
        (λ few. w.bits Read i few ∙ (ap as_bit (reads i few) ∙ sym (bit_at-zero i)))
        (λ many. subst (λ j. bit_at n j ≡ bit_at 0 j) (let m = many in omega arith) (w.bits ReadWrite (i - 32) (omega arith) ∙ (ap as_bit (writes (i - 32) (omega arith)) ∙ sym (bit_at-zero (32 + (i - 32))))))
        (cases_lt i 32)

-- the first of so many lanes that holds, where one does
record Holder (f : ℕ → Bool) : Type 0 where
  pub at : ℕ
  pub is : f at ≡ true

holder : (f : ℕ → Bool) (n : ℕ) → Holder f ⊎ ((i : ℕ) → i < n → f i ≡ false)
holder f zero = inr (λ i below. absurd (omega arith))
holder f (suc n) = ⊎_elim inl (λ none. last none (f n) refl) (holder f n)
  where
    last : ((i : ℕ) → i < n → f i ≡ false) → (b : Bool) → f n ≡ b → Holder f ⊎ ((i : ℕ) → i < suc n → f i ≡ false)
    last none true is = inl (record { at = n; is = is })
    last none false isnt = inr (λ i below. ⊎_elim (λ (e : i ≡ n). subst (λ j. f j ≡ false) (sym e) isnt) (λ ne. none i (omega arith)) (cases_eq i n))

taken_by : (h : LockHistory) (k l : ℕ) (m held : LockMode) → ((x : LockMode) → holds h k x l ≡ false) → excludes_mode held m ≡ true → Holder (λ i. holds h k held i) → IsTakenBy h l k m
taken_by h k l m held none excludes it = record {
  other = it.at;
  held = held;
  apart = λ e. both_ways _ (none held) (subst (λ i. holds h k held i ≡ true) e it.is);
  holds_it = it.is;
  excludes = excludes;
}

-- a lock whose word is not free is held by another lane
pub taken_word : (m : LockMode) (h : LockHistory) (k n l : ℕ) → IsWord h k n → (IsFreeWord m n → ⊥) → ((x : LockMode) → holds h k x l ≡ false) → IsTakenBy h l k m
taken_word Read h k n l w isnt none = ⊎_elim (taken_by h k l Read ReadWrite none refl) (λ writes. absurd (isnt (no_writer_word h k n w writes))) (holder (λ i. holds h k ReadWrite i) 32)
taken_word ReadWrite h k n l w isnt none =
    ⊎_elim (taken_by h k l ReadWrite ReadWrite none refl)
    (λ writes. ⊎_elim (taken_by h k l ReadWrite Read none refl) (λ reads. absurd (isnt (no_holder_word h k n w reads writes))) (holder (λ i. holds h k Read i) 32))
    (holder (λ i. holds h k ReadWrite i) 32)

-- the same history has one word
one_word : (h : LockHistory) (k n m : ℕ) → IsWord h k n → IsWord h k m → n ≡ m
one_word h k n m a b = same_from_bits_below 64 n m a.small b.small each
  where
    each : (i : ℕ) → i < 64 → bit_at n i ≡ bit_at m i
    each i below =
        ⊎_elim
        (λ few. a.bits Read i few ∙ sym (b.bits Read i few))
        (λ many. subst (λ j. bit_at n j ≡ bit_at m j) (let l = many in omega arith) (a.bits ReadWrite (i - 32) (omega arith) ∙ sym (b.bits ReadWrite (i - 32) (omega arith))))
        (cases_lt i 32)

-- ---- the loop

-- since the seat was at `start`, so many exchanges failed, and the last load found this word
pub record Tried (start now : Seat (Unit {0}) SeatView) (l k found n : ℕ) : Type 0 where
  pub makes : Makes start now l []
  pub held : SameHeld start.me.0.fronts now.me.0.fronts l
  pub word : IsWord (seen now.me.0.fronts) k found
  pub few : (other : ℕ) → 32 ≤ other → own other (seen now.me.0.fronts) ≡ []
  pub count : n + others lane_of l (seen start.me.0.fronts) ≤ others lane_of l (seen now.me.0.fronts)
  pub steps : AddsAtMost n start.me.0.fronts now.me.0.fronts

loaded_word : (v w : SeatView) (l k n : ℕ) → Loaded v l k n w → IsWord (seen w.fronts) k n
loaded_word v w l k n it = subst (λ h. IsWord h k n) (sym (seen_now v w it.history it.view)) it.word

loaded_few : (v w : SeatView) (l k n : ℕ) → Loaded v l k n w → (other : ℕ) → 32 ≤ other → own other (seen w.fronts) ≡ []
loaded_few v w l k n it other many = ap (λ h. own other h) (seen_now v w it.history it.view) ∙ it.meets.few other many

pub tried_first : (s t : Seat (Unit {0}) SeatView) (l k n : ℕ) → Loaded s.me.0 l k n t.me.0 → Tried t t l k n 0
tried_first s t l k n it = record {
  makes = makes_self t l (loaded_legal s.me.0 t.me.0 l k n it);
  held = record { each = λ lock mode. refl };
  word = loaded_word s.me.0 t.me.0 l k n it;
  few = loaded_few s.me.0 t.me.0 l k n it;
  count = omega arith;
  steps = omega arith;
}

-- a load adds a front, and so does an exchange
one_more : (v w : SeatView) (h : LockHistory) → w ≡ seeing v h → length w.fronts ≡ length v.fronts + 1
one_more v w h is = ap (λ x. length x.fronts) is ∙ length-append v.fronts (h ∷ [])

pub loaded_adds : (v w : SeatView) (l k n : ℕ) → Loaded v l k n w → length w.fronts ≡ length v.fronts + 1
loaded_adds v w l k n it = one_more v w it.history it.view

pub stepped_adds : (v w : SeatView) (l k : ℕ) (m : LockMode) (t : Bool) → Stepped v l k m t w → length w.fronts ≡ length v.fronts + 1
stepped_adds v w l k m t it = one_more v w (it.history ++ event l k m t ∷ []) it.view

pub tried_again : (start s t : Seat (Unit {0}) SeatView) (l k found next n : ℕ) (m : LockMode) → Tried start s l k found n → t.table_id ≡ s.table_id → (b : Bool) → (next == found) ≡ b → b ≡ false → TakesIf b s.me.0 l k m next t.me.0
    → Tried start t l k next (n + 1)
tried_again start s t l k found next n m tried same true is isnt it = absurd (cc)
tried_again start s t l k found next n m tried same false is isnt it = record {
  makes = makes_quiet start s t l [] tried.makes (loaded_makes s t l k next same it);
  held = record { each = λ lock mode. (loaded_held s.me.0 t.me.0 l k next it).each lock mode ∙ tried.held.each lock mode };
  word = loaded_word s.me.0 t.me.0 l k next it;
  few = loaded_few s.me.0 t.me.0 l k next it;
  count = (
      let more = others_more lane_of l (seen s.me.0.fronts) it.history it.meets.on.begins it.meets.on.own_same other in
      let c = tried.count in
      let e = ap (others lane_of l) (seen_now s.me.0 t.me.0 it.history it.view) in
      omega arith);
  steps = (let was = tried.steps in let e = loaded_adds s.me.0 t.me.0 l k next it in omega arith);
}
  where
    other : it.history ≢ seen s.me.0.fronts
    other at_once = eqb-false _ _ is (one_word it.history k next found it.word (subst (λ h. IsWord h k found) (sym at_once) tried.word))

exchange_adds : (b : Bool) (v w : SeatView) (l k n : ℕ) (m : LockMode) → TakesIf b v l k m n w → length w.fronts ≡ length v.fronts + 1
exchange_adds true v w l k n m it = stepped_adds v w l k m true it
exchange_adds false v w l k n m it = loaded_adds v w l k n it

taken_then : (start s t : Seat (Unit {0}) SeatView) (l k found next n : ℕ) (m : LockMode) → Tried start s l k found n → t.table_id ≡ s.table_id → (b : Bool) → b ≡ true → TakesIf b s.me.0 l k m next t.me.0
    → Makes start t l (event l k m true ∷ []) × HeldBut start.me.0.fronts t.me.0.fronts l k m true
taken_then start s t l k found next n m tried same true is it = (
  makes_then start s t l [] (event l k m true ∷ []) tried.makes (stepped_makes s t l k m true same it),
  record { each = λ lock mode. (stepped_held s.me.0 t.me.0 l k m true it).each lock mode ∙ ap (λ x. if is_about (event l k m true) lock mode l then true else x) (tried.held.each lock mode) },
)
taken_then start s t l k found next n m tried same false isnt it = absurd (cc)

-- a load's one front is the first
loaded_first : (v w : SeatView) (l k n : ℕ) (it : Loaded v l k n w) → first_front (lane_view v l) (lane_view w l) ≡ it.history
loaded_first v w l k n it =
    subst (λ x. first_front (lane_view v l) (lane_view x l) ≡ it.history) (sym it.view)
    (ap (first_or (seen v.fronts)) (moved_fronts (lane_view v l) (it.history ∷ [])))

-- the whole of a call that began with a load
module _ (before start now : Seat (Unit {0}) SeatView) (l k first found n : ℕ) (b : start.table_id ≡ before.table_id) (it : Loaded before.me.0 l k first start.me.0) (tried : Tried start now l k found n) where
  pub all_makes : Makes before now l []
  all_makes = makes_then before start now l [] [] (loaded_makes before start l k first b it) tried.makes

  pub all_held : SameHeld before.me.0.fronts now.me.0.fronts l
  all_held = record { each = λ lock mode. tried.held.each lock mode ∙ (loaded_held before.me.0 start.me.0 l k first it).each lock mode }

  pub all_steps : (tries : ℕ) → n ≤ tries → AddsAtMost (tries + 1) before.me.0.fronts now.me.0.fronts
  all_steps tries most = let e = loaded_adds before.me.0 start.me.0 l k first it in let s = tried.steps in omega arith

  abbrev pub B : LaneView
  B = lane_view before.me.0 l

  abbrev pub S : LaneView
  S = lane_view start.me.0 l

  abbrev pub N : LaneView
  N = lane_view now.me.0 l

  loaded : Calls B S []
  loaded = (loaded_makes before start l k first b it).calls.calls

  then_tried : Calls S N []
  then_tried = tried.makes.calls.calls

  first_step : IsStepped B S
  first_step = loaded_stepped before.me.0 start.me.0 l k first it

  all_stepped : IsStepped B N
  all_stepped = steps_stay loaded then_tried (inl first_step)

  -- the call's first front is what it saw at first
  first_is : first_front B N ≡ seen start.me.0.fronts
  first_is =
      first_decides loaded then_tried first_step
      ∙ (loaded_first before.me.0 start.me.0 l k first it ∙ sym (seen_now before.me.0 start.me.0 it.history it.view))

  crowded : (tries : ℕ) → tries ≤ n → IsCrowded lane_of tries B N
  crowded tries most =
      let goes = seen_goes_on then_tried in
      let more : LockHistory = goes.0 in
      let all : others lane_of l (seen start.me.0.fronts ++ more) ≡ others lane_of l (seen start.me.0.fronts) + others lane_of l more = others_append lane_of l (seen start.me.0.fronts) more in
      let same : others lane_of l (seen start.me.0.fronts ++ more) ≡ others lane_of l (seen now.me.0.fronts) = ap (others lane_of l) goes.1 in
      (more, sym goes.1 ∙ ap (λ h. h ++ more) (sym first_is), (let c = tried.count in omega (arith, all, same, c, most)))

  pub all_contended : (m : LockMode) (tries : ℕ) → tries ≤ n → IsFreeWord m found → Missed (Contended k) B N m tries
  all_contended m tries most free = record { stepped = all_stepped; stood = (free_word m (seen now.me.0.fronts) k found free tried.word tried.few, crowded tries most) }

  pub all_taken : (m : LockMode) (tries : ℕ) → (IsFreeWord m found → ⊥) → ((x : LockMode) → holds (seen before.me.0.fronts) k x l ≡ false) → Missed (Taken k) B N m tries
  all_taken m tries isnt none = record { stepped = all_stepped; stood = taken_word m (seen now.me.0.fronts) k found l tried.word isnt (λ x. all_held.each k x ∙ none x) }

  pub then_taken : (after : Seat (Unit {0}) SeatView) (next : ℕ) (m : LockMode) → after.table_id ≡ now.table_id → (x : Bool) → x ≡ true → TakesIf x now.me.0 l k m next after.me.0
      → Makes before after l (event l k m true ∷ []) × HeldBut before.me.0.fronts after.me.0.fronts l k m true
  then_taken after next m same x is step =
      let t = taken_then start now after l k found next n m tried same x is step in (
        makes_then before start after l [] (event l k m true ∷ []) (loaded_makes before start l k first b it) t.0,
        record { each = λ lock mode. t.1.each lock mode ∙ ap (λ y. if is_about (event l k m true) lock mode l then true else y) ((loaded_held before.me.0 start.me.0 l k first it).each lock mode) },
      )

  pub then_steps : (after : Seat (Unit {0}) SeatView) (next tries : ℕ) (m : LockMode) (x : Bool) → TakesIf x now.me.0 l k m next after.me.0 → n < tries → AddsAtMost (tries + 1) before.me.0.fronts after.me.0.fronts
  then_steps after next tries m x step few =
      let a = exchange_adds x now.me.0 after.me.0 l k next m step in
      let e = loaded_adds before.me.0 start.me.0 l k first it in
      let s = tried.steps in
      omega arith
