-- What the store of a plain run shows of its places: an act does the same to what is shown as to what is stored.
use Rattle.std.proofs.Common.{◌≡◌, ◌⊎◌, inl, inr, ℕ, ◌+◌, ◌<◌, ◌≤◌, Bool, true, false, not, cond, List, [], ◌∷◌, length, drop, slice_index, Option, Some, None, refl, ap, sym, subst, ◌∙◌, arith}
use Rattle.std.specs.Prelude.{◌&&◌, nat_lt, if◌then◌else◌, Result, Ok, Err, OnOk, OnErr, IfSome, slice_get}
use Rattle.std.specs.BTreeSet.{BTreeSet, IsKeyInRange, IsKeyRangeOf, IsUnchanged, Updates}
use Rattle.std.specs.declared.ops.Bound.{Bound}
use Rattle.std.specs.declared.ops.Bound.TheVariants.{Included, Excluded}
use Rattle.std.specs.BTreeMap.{is_at}
use Rattle.std.specs.List.{list_any}
use Rattle.std.specs.Cmp.{nat_cmp_is}
use Rattle.std.specs.Ordering.{nat_cmp, is_eq, is_gt, ordering_then}
use Rattle.std.specs.declared.cmp.Ordering.TheVariants.{Less, Equal}
use Rattle.std.proofs.lemmas.Bool.Decides.{nat_tests}
use Rattle.std.proofs.lemmas.Cmp.{by_ranked, ranked}
use Rattle.ext_model.specs.declared.event.Act.{Act}
use Rattle.ext_model.specs.declared.event.Act.TheVariants.{Keep, Put, Remove, Claim, Fill, Fail, Abandon, Seal}
use Rattle.ext_model.specs.declared.event.Event.{Event}
use Rattle.ext_model.specs.declared.look.Look.{Look}
use Rattle.ext_model.specs.declared.look.Look.TheVariants as look
use Rattle.ext_model.specs.declared.plain_fault.PlainFault.{PlainFault}
use Rattle.ext_model.specs.declared.plain_fault.PlainFault.TheVariants as fault
use Rattle.ext_model.specs.declared.slot.Slot.{Slot}
use Rattle.ext_model.specs.declared.slot.Slot.TheVariants as slot
use Rattle.ext_model.specs.State.{State, look_in, lookup}
use Rattle.ext_model.specs.Events.{Reply, Happens, Answers, Refuses, put_reply, remove_reply, claim_reply, end_reply, seal_reply, slot_after, is_on}
use Rattle.ext_model.specs.Closing.{kept_by}
use Rattle.ext_model.specs.Plain.{Place, Plain, place_cmp, same_place, state_of, state_by, any_lane, plain_reply, next_state, result_of, what_stood, IsReply, IsStep, UnlessMemory}
use Rattle.ext_model.proofs.Changes.{same_state, same_place_is, here}
use Rattle.ext_model.proofs.Lookups.{lookup_here, lookup_past}
use Rattle.ext_model.proofs.Steps.{others_stay}
use Rattle.ext_plan_plain.specs.declared.place_store.PlaceStore.{PlaceStore}
use Rattle.ext_plan_plain.specs.InnerPlaces.{ends_in, is_spared, or_sealed, shown, sparing, numbers_in, HasEnded, IsAnswer, IsNextUsed}
use Rattle.ext_plan_plain.specs.InnerUsed.{is_used, IsNoted}

-- ---- an act at a place that isn't spared

open_slot : (b : Bool) (x : Option Slot) → b ≡ false → or_sealed b x ≡ x
open_slot b x is = ap (λ c. or_sealed c x) is

reply_same : (spared : Place → Bool) (n : ℕ) (s : State Place) (lane : ℕ) (act : Act Place) → ((q : Place) → is_on same_place q act ≡ true → spared q ≡ false)
    → plain_reply n (sparing spared s) lane act ≡ plain_reply n s lane act
reply_same spared n s lane (Keep number) free = refl
reply_same spared n s lane (Put at number) free = ap (put_reply false) (open_slot (spared at) (s.slots at) (free at (here at)))
reply_same spared n s lane (Remove at) free = ap (remove_reply false) (open_slot (spared at) (s.slots at) (free at (here at)))
reply_same spared n s lane (Claim at) free = ap (claim_reply false) (open_slot (spared at) (s.slots at) (free at (here at)))
reply_same spared n s lane (Fill at number) free = ap (end_reply lane) (open_slot (spared at) (s.slots at) (free at (here at)))
reply_same spared n s lane (Fail at number) free = ap (end_reply lane) (open_slot (spared at) (s.slots at) (free at (here at)))
reply_same spared n s lane (Abandon at) free = ap (end_reply lane) (open_slot (spared at) (s.slots at) (free at (here at)))
reply_same spared n s lane (Seal at) free = ap seal_reply (open_slot (spared at) (s.slots at) (free at (here at)))

slot_by : (on spared : Bool) (f : Option Slot → Option Slot) (x : Option Slot) → (on ≡ true → spared ≡ false)
    → or_sealed spared (if on then f x else x) ≡ (if on then f (or_sealed spared x) else or_sealed spared x)
slot_by true spared f x free = open_slot spared (f x) (free refl) ∙ ap f (sym (open_slot spared x (free refl)))
slot_by false spared f x free = refl

state_by_same : (spared : Place → Bool) (r : Reply) (s : State Place) (e : Event Place) → ((q : Place) → is_on same_place q e.act ≡ true → spared q ≡ false)
    → sparing spared (state_by r s e) ≡ state_by r (sparing spared s) e
state_by_same spared (Happens answer) s e free = same_state _ _ (λ q. slot_by (is_on same_place q e.act) (spared q) (slot_after e.lane e.act) (s.slots q) (free q)) refl
state_by_same spared (Answers answer) s e free = refl
state_by_same spared (Refuses why) s e free = refl

-- an act does to what is shown what it does to what is stored
moves : (spared : Place → Bool) (n : ℕ) (s : State Place) (lane : ℕ) (act : Act Place) → ((q : Place) → is_on same_place q act ≡ true → spared q ≡ false)
    → sparing spared (next_state n s lane act) ≡ next_state n (sparing spared s) lane act
moves spared n s lane act free =
    let e : Event Place = record { lane = lane; act = act } in
    state_by_same spared (plain_reply n s lane act) s e free
    ∙ ap (λ r. state_by r (sparing spared s) e) (sym (reply_same spared n s lane act free))

-- ---- which places are used

both-false : (e k : Bool) → (e && (k && false)) ≡ false
both-false true true = refl
both-false true false = refl
both-false false true = refl
both-false false false = refl

-- a used place isn't spared
pub used_open : (s : PlaceStore) (place : Place) → is_used s.used place ≡ true → is_spared s place ≡ false
used_open s place used = ap (λ u. ends_in s.ended place.0 && (nat_lt place.1 s.places && not u)) used ∙ both-false (ends_in s.ended place.0) (nat_lt place.1 s.places)

-- nothing stands at an unused place after an act on a used one
pub noted_after : (n : ℕ) (old new : Plain) (used : BTreeSet Place) (lane : ℕ) (act : Act Place) → ((q : Place) → is_on same_place q act ≡ true → is_used used q ≡ true) → state_of new ≡ next_state n (state_of old) lane act → IsNoted old used → IsNoted new used
noted_after n old new used lane act on moved noted = record {
  empty = λ q unused.
      let off : is_on same_place q act ≡ false = elim (is_on same_place q act) as (λ b. is_on same_place q act ≡ b → b ≡ false) [
        | true ↦ λ is. absurd (cc (sym unused ∙ on q is))
        | false ↦ λ is. refl
      ] refl in
      ap (λ (t : State Place). t.slots q) moved ∙ others_stay n (state_of old) lane act q off ∙ noted.empty q unused;
}

-- the same for a removal, wherever it is
pub noted_removed : (n : ℕ) (old new : Plain) (used : BTreeSet Place) (lane : ℕ) (place : Place) → state_of new ≡ next_state n (state_of old) lane (Remove place) → IsNoted old used → IsNoted new used
noted_removed n old new used lane place moved noted =
    elim (is_used used place) as (λ b. is_used used place ≡ b → IsNoted new used) [
      | true ↦ λ is. noted_after n old new used lane (Remove place) (λ q on. subst (λ p. is_used used p ≡ true) (same_place_is place q on) is) moved noted
      | false ↦ λ unused.
          let same : state_of new ≡ state_of old = moved ∙ ap (λ x. state_by (remove_reply false x) (state_of old) (record { lane = lane; act = Remove place })) (noted.empty place unused) in
          record { empty = λ q is. ap (λ (t : State Place). t.slots q) same ∙ noted.empty q is }
    ] refl

-- ---- claims

claim_under : (b : Bool) (x : Option Slot) (lane : ℕ) → or_sealed b x ≡ Some (slot.Claim lane) → x ≡ Some (slot.Claim lane)
claim_under true None lane is = absurd (cc is)
claim_under true (Some stands) lane is = is
claim_under false x lane is = is

-- a claim that is shown is stored,
pub claimed : (s : PlaceStore) (place : Place) (lane : ℕ) → (shown s).slots place ≡ Some (slot.Claim lane) → (state_of s.store).slots place ≡ Some (slot.Claim lane)
claimed s place lane is = claim_under (is_spared s place) ((state_of s.store).slots place) lane is

-- at a used place
pub claimed_used : (s : PlaceStore) (place : Place) (lane : ℕ) → IsNoted s.store s.used → (shown s).slots place ≡ Some (slot.Claim lane) → is_used s.used place ≡ true
claimed_used s place lane noted is =
    elim (is_used s.used place) as (λ b. is_used s.used place ≡ b → b ≡ true) [
      | true ↦ λ used. refl
      | false ↦ λ unused. absurd (cc (sym (noted.empty place unused) ∙ claimed s place lane is))
    ] refl

-- ---- a place is noted as used

noted_by : (same e k u : Bool) (x : Option Slot) → (same ≡ true → (e && (k && not u)) ≡ false) → or_sealed (e && (k && not (cond same true u))) x ≡ or_sealed (e && (k && not u)) x
noted_by true e k u x free = open_slot _ x (both-false e k) ∙ sym (open_slot _ x (free refl))
noted_by false e k u x free = refl

-- what is shown stays, where the place isn't spared
pub noting_shows : (old : PlaceStore) (used : BTreeSet Place) (place : Place) → ((q : Place) → is_used used q ≡ cond (same_place place q) true (is_used old.used q)) → is_spared old place ≡ false
    → sparing (λ q. ends_in old.ended q.0 && (nat_lt q.1 old.places && not (is_used used q))) (state_of old.store) ≡ shown old
noting_shows old used place more free =
    same_state _ _
    (λ q.
    let x = (state_of old.store).slots q in
    ap (λ u. or_sealed (ends_in old.ended q.0 && (nat_lt q.1 old.places && not u)) x) (more q)
    ∙ noted_by (same_place place q) (ends_in old.ended q.0) (nat_lt q.1 old.places) (is_used old.used q) x (λ same. subst (λ p. is_spared old p ≡ false) (same_place_is place q same) free))
    refl

unused_by : (same u : Bool) → cond same true u ≡ false → u ≡ false
unused_by true u is = absurd (cc is)
unused_by false u is = is

-- a place more that is used
pub noted_more : (store : Plain) (old new : BTreeSet Place) (place : Place) → ((q : Place) → is_used new q ≡ cond (same_place place q) true (is_used old q)) → IsNoted store old → IsNoted store new
noted_more store old new place used noted = record {
  empty = λ q unused. noted.empty q (unused_by (same_place place q) (is_used old q) (sym (used q) ∙ unused));
}

-- the same whether there was memory for it or not
pub noted_inserted : {E : Type 0} (r : Result Bool E) (store : Plain) (old new : BTreeSet Place) (place : Place) → OnOk r (Updates place_cmp old new place true) → OnErr r (IsUnchanged old new) → IsNoted store old → IsNoted store new
noted_inserted (Ok added) store old new place updates kept noted = noted_more store old new place updates.0 noted
noted_inserted (Err refused) store old new place updates kept noted = record {
  empty = λ q unused. noted.empty q (ap (λ keys. list_any (is_at (place_cmp q)) keys) (sym kept) ∙ unused);
}

-- ---- a context ends

same_number_is : (x y : ℕ) → is_eq (nat_cmp x y) ≡ true → y ≡ x
same_number_is x y is = grind (arith, nat_tests, is)

same_number : (x : ℕ) → is_eq (nat_cmp x x) ≡ true
same_number x = grind (arith, nat_tests)

below_is : (x y : ℕ) → nat_lt x y ≡ true → x < y
below_is x y is = grind (arith, nat_tests, is)

lt_true : (x y : ℕ) → x < y → nat_lt x y ≡ true
lt_true x y less = grind (arith, nat_tests, less)

-- the spared places after the end: those of the context that are unused, and those that were
spared_by : (same e k u : Bool) (x : Option Slot) → (u ≡ false → x ≡ None)
    → (or_sealed (cond same true e && (k && not u)) x ≡ or_sealed (e && (k && not u)) x)
    ⊎ ((same ≡ true) × ((k ≡ true) × ((or_sealed (e && (k && not u)) x ≡ None) × (or_sealed (cond same true e && (k && not u)) x ≡ Some (slot.Sealed None)))))
spared_by false e k u x empty = inl refl
spared_by true true k u x empty = inl refl
spared_by true false false u x empty = inl refl
spared_by true false true true x empty = inl refl
spared_by true false true false x empty = inr (refl, (refl, (empty refl, ap (or_sealed true) (empty refl))))

pub has_ended : (at : ℕ) (old new : PlaceStore) → new.store ≡ old.store → new.used ≡ old.used → new.places ≡ old.places → ((c : ℕ) → ends_in new.ended c ≡ cond (is_eq (nat_cmp at c)) true (ends_in old.ended c))
    → IsNoted old.store old.used → HasEnded at old new
has_ended at old new store used places ended noted =
    let after : (q : Place) → (shown new).slots q ≡ or_sealed (cond (is_eq (nat_cmp at q.0)) true (ends_in old.ended q.0) && (nat_lt q.1 old.places && not (is_used old.used q))) ((state_of old.store).slots q) = λ q.
    let x = (state_of old.store).slots q in
    ap (λ st. or_sealed (is_spared new q) ((state_of st).slots q)) store
    ∙ ap (λ us. or_sealed (ends_in new.ended q.0 && (nat_lt q.1 new.places && not (is_used us q))) x) used
    ∙ ap (λ n. or_sealed (ends_in new.ended q.0 && (nat_lt q.1 n && not (is_used old.used q))) x) places
    ∙ ap (λ e. or_sealed (e && (nat_lt q.1 old.places && not (is_used old.used q))) x) (ended q.0) in
    record {
      drawn = ap (λ st. (state_of st).drawn) store;
      each = λ q. elim (spared_by (is_eq (nat_cmp at q.0)) (ends_in old.ended q.0) (nat_lt q.1 old.places) (is_used old.used q) ((state_of old.store).slots q) (noted.empty q)) [
        | inl same ↦ inl (after q ∙ same)
        | inr w ↦ inr (record {
          context = same_number_is at q.0 w.0;
          key = below_is q.1 old.places w.1.0;
          empty = w.1.1.0;
          sealed = after q ∙ w.1.1.1;
        })
      ];
      spares = record {
        unused = λ key within is.
            let unused : is_used old.used (at, key) ≡ false = sym (ap (λ us. is_used us (at, key)) used) ∙ is in
            let below : nat_lt key old.places ≡ true = subst (λ n. nat_lt key n ≡ true) places (lt_true key new.places within) in
            let x = (state_of old.store).slots (at, key) in
            after (at, key)
            ∙ ap (λ c. or_sealed (cond c true (ends_in old.ended at) && (nat_lt key old.places && not (is_used old.used (at, key)))) x) (same_number at)
            ∙ ap (λ k. or_sealed (true && (k && not (is_used old.used (at, key)))) x) below
            ∙ ap (λ u. or_sealed (true && (true && not u)) x) unused
            ∙ ap (or_sealed true) (noted.empty (at, key) unused);
      };
    }

-- ---- the used keys of a context, in order

from_least : (at from : ℕ) (q : Place) → is_gt (place_cmp (at, from) q) ≡ false → (at < q.0) ⊎ ((at ≡ q.0) × (from ≤ q.1))
from_least at from q is =
    by_ranked (at < q.0) (at ≡ q.0) (q.0 < at) (nat_cmp at q.0) (ranked at q.0 (nat_cmp at q.0) refl)
    (λ _ less. inl less)
    (λ tied same. inr (
      same,
      by_ranked (from < q.1) (from ≡ q.1) (q.1 < from) (nat_cmp from q.1) (ranked from q.1 (nat_cmp from q.1) refl)
          (λ _ less. omega (arith, less))
          (λ _ equal. omega (arith, equal))
          (λ more _. absurd (cc (sym (ap (λ o. is_gt (ordering_then o (nat_cmp from q.1))) tied ∙ ap is_gt more) ∙ is))),
    ))
    (λ more _. absurd (cc (sym (ap (λ o. is_gt (ordering_then o (nat_cmp from q.1))) more) ∙ is)))

below_most : (at n : ℕ) (q : Place) → place_cmp q (at, n) ≡ Less → (q.0 < at) ⊎ ((q.0 ≡ at) × (q.1 < n))
below_most at n q is =
    by_ranked (q.0 < at) (q.0 ≡ at) (at < q.0) (nat_cmp q.0 at) (ranked q.0 at (nat_cmp q.0 at) refl)
    (λ _ less. inl less)
    (λ tied same. inr (
      same,
      by_ranked (q.1 < n) (q.1 ≡ n) (n < q.1) (nat_cmp q.1 n) (ranked q.1 n (nat_cmp q.1 n) refl)
          (λ _ less. less)
          (λ equal _. absurd (cc (sym (ap (λ o. ordering_then o (nat_cmp q.1 n)) tied ∙ equal) ∙ is)))
          (λ more _. absurd (cc (sym (ap (λ o. ordering_then o (nat_cmp q.1 n)) tied ∙ more) ∙ is))),
    ))
    (λ more _. absurd (cc (sym (ap (λ o. ordering_then o (nat_cmp q.1 n)) more) ∙ is)))

-- a place between two of a context is one of them
pub between_is : (at from n : ℕ) (q : Place) → is_gt (place_cmp (at, from) q) ≡ false → place_cmp q (at, n) ≡ Less → (q.0 ≡ at) × ((from ≤ q.1) × (q.1 < n))
between_is at from n q least below =
    elim (from_least at from q least) [
      | inl after ↦ elim (below_most at n q below) [
        | inl before ↦ absurd (omega (arith, after, before))
        | inr here_is ↦ let e = here_is.0 in absurd (omega (arith, after, e))
      ]
      | inr first ↦ elim (below_most at n q below) [
        | inl before ↦ let e = first.0 in absurd (omega (arith, before, e))
        | inr last ↦ (last.0, (first.1, last.1))
      ]
    ]

tied : (x : ℕ) → nat_cmp x x ≡ Equal
tied x = sym (nat_cmp_is x x Equal refl)

-- and the places of these keys are between
pub least_is : (at from key : ℕ) → from ≤ key → is_gt (place_cmp (at, from) (at, key)) ≡ false
least_is at from key least =
    ap (λ o. is_gt (ordering_then o (nat_cmp from key))) (tied at)
    ∙ by_ranked (from < key) (from ≡ key) (key < from) (nat_cmp from key) (ranked from key (nat_cmp from key) refl)
    (λ less _. ap is_gt less)
    (λ equal _. ap is_gt equal)
    (λ _ more. absurd (omega (arith, least, more)))

pub below_is_less : (at key n : ℕ) → key < n → place_cmp (at, key) (at, n) ≡ Less
below_is_less at key n below = ap (λ o. ordering_then o (nat_cmp key n)) (tied at) ∙ sym (nat_cmp_is key n Less below)

-- a key before the first used one isn't used
pub before_first : (used : BTreeSet Place) (at key other : ℕ) → (is_used used (at, other) ≡ true → is_gt (place_cmp (at, key) (at, other)) ≡ false) → other < key → is_used used (at, other) ≡ false
before_first used at key other first below =
    elim (is_used used (at, other)) as (λ b. is_used used (at, other) ≡ b → b ≡ false) [
      | true ↦ λ is. absurd (elim (from_least at key (at, other) (first is)) [
        | inl after ↦ omega (arith, after)
        | inr later ↦ let l = later.1 in omega (arith, l, below)
      ])
      | false ↦ λ is. refl
    ] refl

-- the first key of a context in a range of the used places
pub first_in_range : (s : PlaceStore) (at from : ℕ) (r t : List Place) (k : Place) → IsKeyRangeOf place_cmp (Included (at, from)) (Excluded (at, s.places)) s.used r → r ≡ k ∷ t → IsNextUsed s at from k.1
first_in_range s at from r t k range is =
    let lo : Bound Place = Included (at, from) in
    let hi : Bound Place = Excluded (at, s.places) in
    let first : IsKeyInRange place_cmp lo hi s.used k = subst (λ xs. IfSome (slice_get xs 0) (IsKeyInRange place_cmp lo hi s.used)) is range.1 in
    let among = between_is at from s.places k first.0.0 first.0.1 in
    let place : k ≡ (at, k.1) = λ i. (among.0 i, k.1) in
    let key : k.1 < s.places = among.1.1 in
    record {
      from = among.1.0;
      within = key;
      used = ap (is_used s.used) (sym place) ∙ first.1;
      between = λ other after before.
          let below : other < s.places = omega (arith, before, key) in
          before_first s.used at k.1 other
          (λ used. subst (λ p. is_gt (place_cmp p (at, other)) ≡ false) place
          (subst (λ xs. IfSome (slice_get xs 0) (λ p. is_gt (place_cmp p (at, other)) ≡ false)) is (range.2 (at, other) (least_is at from other after, below_is_less at other s.places below) used)))
          before;
    }

pub none_in_range : (s : PlaceStore) (at from : ℕ) (r : List Place) → IsKeyRangeOf place_cmp (Included (at, from)) (Excluded (at, s.places)) s.used r → r ≡ []
    → (key : ℕ) → from ≤ key → key < s.places → is_used s.used (at, key) ≡ false
none_in_range s at from r range is key least below = range.5 is (at, key) (least_is at from key least, below_is_less at key s.places below)

-- ---- look-ups

-- a context where something stands decides
pub look_decides : (slots : ℕ → Option Slot) (path : List ℕ) (i : ℕ) (l : Look) → i < length path → l ≡ look_in (slice_index path i) (slots (slice_index path i)) → (l ≡ look.Absent → ⊥) → l ≡ lookup slots (drop i path)
look_decides slots path i l within is found =
    let at = slice_index path i in
    elim (slots at) as (λ x. slots at ≡ x → l ≡ lookup slots (drop i path)) [
      | None ↦ λ none. absurd (found (is ∙ ap (look_in at) none))
      | Some x ↦ λ some. is ∙ ap (look_in at) some ∙ sym (lookup_here slots path i x within some)
    ] refl

nothing_in : (at : ℕ) (x : Option Slot) → look.Absent ≡ look_in at x → x ≡ None
nothing_in at None is = refl
nothing_in at (Some (slot.Entry number)) is = absurd (cc is)
nothing_in at (Some (slot.Fault number)) is = absurd (cc is)
nothing_in at (Some (slot.Claim lane)) is = absurd (cc is)
nothing_in at (Some (slot.Sealed kept)) is = absurd (cc is)

-- and one where nothing stands is passed
pub look_passes : (slots : ℕ → Option Slot) (path : List ℕ) (i : ℕ) → i < length path → look.Absent ≡ look_in (slice_index path i) (slots (slice_index path i)) → lookup slots (drop i path) ≡ lookup slots (drop (i + 1) path)
look_passes slots path i within is = lookup_past slots path i within (nothing_in (slice_index path i) _ is)

-- ---- the calls of the one-thread store below

free_at : (s : PlaceStore) (p q : Place) → is_spared s p ≡ false → same_place p q ≡ true → is_spared s q ≡ false
free_at s p q free same = subst (λ r. is_spared s r ≡ false) (same_place_is p q same) free

used_at : (used : BTreeSet Place) (p q : Place) → is_used used p ≡ true → same_place p q ≡ true → is_used used q ≡ true
used_at used p q is same = subst (λ r. is_used used r ≡ true) (same_place_is p q same) is

-- an act at this place
abbrev pub IsAt : Act Place → Place → Type 0
IsAt act p = (q : Place) → is_on same_place q act ≡ true → same_place p q ≡ true

pub answers : {A : Type 0} (value : Option ℕ → A) (lane : ℕ) (act : Act Place) (s : PlaceStore) (p : Place) (r : Result A PlainFault) → IsAt act p → is_spared s p ≡ false → IsReply value lane act s.store r → IsAnswer value lane act s r
answers value lane act s p r on free reply =
    ap (result_of value) (reply_same (is_spared s) s.store.numbers (state_of s.store) lane act (λ q is. free_at s p q free (on q is))) ∙ reply

pub moved : (lane : ℕ) (act : Act Place) (s : PlaceStore) (p : Place) (store : Plain) → IsAt act p → is_spared s p ≡ false → IsStep lane act s.store store
    → sparing (is_spared s) (state_of store) ≡ next_state (numbers_in s) (shown s) lane act
moved lane act s p store on free step = ap (sparing (is_spared s)) step ∙ moves (is_spared s) s.store.numbers (state_of s.store) lane act (λ q is. free_at s p q free (on q is))

-- the draw of a number is at no place
pub kept_moves : (number : ℕ) (s : PlaceStore) (store : Plain) → IsStep any_lane (Keep number) s.store store → sparing (is_spared s) (state_of store) ≡ next_state (numbers_in s) (shown s) any_lane (Keep number)
kept_moves number s store step = ap (sparing (is_spared s)) step ∙ moves (is_spared s) s.store.numbers (state_of s.store) any_lane (Keep number) (λ q is. absurd (cc is))

pub kept_noted : (number : ℕ) (s : PlaceStore) (store : Plain) → IsStep any_lane (Keep number) s.store store → IsNoted store s.used
kept_noted number s store step = noted_after s.store.numbers s.store store s.used any_lane (Keep number) (λ q is. absurd (cc is)) step s.noted

pub noted_step : (lane : ℕ) (act : Act Place) (s : PlaceStore) (p : Place) (store : Plain) → IsAt act p → is_used s.used p ≡ true → IsStep lane act s.store store → IsNoted store s.used
noted_step lane act s p store on used step = noted_after s.store.numbers s.store store s.used lane act (λ q is. used_at s.used p q used (on q is)) step s.noted

-- the same where there may have been no memory
pub noted_acted : {A : Type 0} (r : Result A PlainFault) (lane : ℕ) (act : Act Place) (s : PlaceStore) (p : Place) (store : Plain) → IsAt act p → is_used s.used p ≡ true → UnlessMemory r (IsStep lane act s.store store) → OnErr r (store ≡ s.store)
    → IsNoted store s.used
noted_acted (Ok value) lane act s p store on used step same = noted_step lane act s p store on used step
noted_acted (Err why) lane act s p store on used step same = subst (λ st. IsNoted st s.used) (sym same) s.noted

pub unless : {A : Type 0} (r : Result A PlainFault) {P Q : Type 0} → (P → Q) → UnlessMemory r P → UnlessMemory r Q
unless (Ok value) f p = f p
unless (Err fault.Busy) f p = f p
unless (Err fault.Closed) f p = f p
unless (Err (fault.Taken number)) f p = f p
unless (Err (fault.FaultStands number)) f p = f p
unless (Err fault.NumbersFull) f p = f p
unless (Err fault.Memory) f p = p

pub moved_as : (lane : ℕ) (act : Act Place) (old mid : PlaceStore) (t : State Place) → mid.store ≡ old.store → shown mid ≡ shown old → t ≡ next_state (numbers_in mid) (shown mid) lane act → t ≡ next_state (numbers_in old) (shown old) lane act
moved_as lane act old mid t store same step =
    step ∙ ap (λ (st : Plain). next_state st.numbers (shown mid) lane act) store ∙ ap (λ t. next_state (numbers_in old) t lane act) same

-- a seal that is refused keeps no number
refused_none : (x : Option Slot) (why : PlainFault) → result_of what_stood (seal_reply x) ≡ Some (Err why) → kept_by x ≡ None
refused_none None why reply = absurd (cc reply)
refused_none (Some (slot.Entry number)) why reply = absurd (cc reply)
refused_none (Some (slot.Fault number)) why reply = absurd (cc reply)
refused_none (Some (slot.Claim lane)) why reply = refl
refused_none (Some (slot.Sealed kept)) why reply = absurd (cc reply)

kept_none : (s : PlaceStore) (place : Place) (store : Plain) → is_spared s place ≡ false → store ≡ s.store → kept_by ((state_of s.store).slots place) ≡ None → kept_by ((sparing (is_spared s) (state_of store)).slots place) ≡ None
kept_none s place store free same none =
    ap (λ st. kept_by (or_sealed (is_spared s place) ((state_of st).slots place))) same ∙ ap kept_by (open_slot (is_spared s place) ((state_of s.store).slots place) free) ∙ none

pub seal_refused : (r : Result (Option ℕ) PlainFault) (s : PlaceStore) (place : Place) (store : Plain) → is_spared s place ≡ false → UnlessMemory r (IsReply what_stood any_lane (Seal place) s.store r)
    → (r ≡ Err fault.Memory → (state_of s.store).slots place ≡ None) → OnErr r (store ≡ s.store) → OnErr r (kept_by ((sparing (is_spared s) (state_of store)).slots place) ≡ None)
seal_refused (Ok kept) s place store free reply memory same = tt
seal_refused (Err fault.Busy) s place store free reply memory same = kept_none s place store free same (refused_none _ fault.Busy reply)
seal_refused (Err fault.Closed) s place store free reply memory same = kept_none s place store free same (refused_none _ fault.Closed reply)
seal_refused (Err (fault.Taken number)) s place store free reply memory same = kept_none s place store free same (refused_none _ (fault.Taken number) reply)
seal_refused (Err (fault.FaultStands number)) s place store free reply memory same = kept_none s place store free same (refused_none _ (fault.FaultStands number) reply)
seal_refused (Err fault.NumbersFull) s place store free reply memory same = kept_none s place store free same (refused_none _ fault.NumbersFull reply)
seal_refused (Err fault.Memory) s place store free reply memory same = kept_none s place store free same (ap kept_by (memory refl))
