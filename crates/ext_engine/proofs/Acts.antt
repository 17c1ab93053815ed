-- Which events lanes made between two states of them.
use Rattle.std.proofs.Common.{◌≡◌, ◌⊎◌, ◌<◌, ◌≤◌, ◌-◌, ◌==◌, inl, inr, ℕ, List, [], ◌∷◌, ◌++◌, Contains, Some, length, length-append, get_or, ap, refl, sym, subst, ◌∙◌, arith, eq-eqb}
use Rattle.std.specs.Prelude.{All, slice_get}
use Rattle.std.specs.List.{AllZip}
use mathlib.Core.List.{IsPrefix}
use Rattle.std.proofs.lemmas.Bool.{cases_lt}
use Rattle.std.proofs.lemmas.List.{get_or_append_left, get_or-append_right}
use Rattle.std.proofs.lemmas.List.Elements.{All-head, All-tail}
use Rattle.std.proofs.lemmas.Option.{get_or_from_slice_get}
use Rattle.ext_history.specs.Histories.{seen_by}
use Rattle.ext_history.proofs.Composed.{events_past, seen_goes_on}
use Rattle.ext_history.proofs.Lists.{contains_filter, contains_none}
use Rattle.ext_model.specs.declared.event.Event.{Event}
use Rattle.ext_model.specs.History.{History, lane_of, own}
use Rattle.ext_store.specs.Stores.{StoreView, StoreLane}
use Rattle.ext_engine.specs.Meeting.{HasSeen, HasSeenWithin, OnlyMeets, first_seen}
use Rattle.ext_engine.specs.Order.{AllGoOn, ComesBefore, LaneGoesOn, IsMadeBy, IsMadeIn, IsSeenByFirst}

pub shorter : (a b : History) → IsPrefix a b → length a ≤ length b
shorter a b on = let e = ap length on.1 in let l = length-append a on.0 in omega (arith, e, l)

-- an event of a history that stands behind one part of it and within a longer one is among what the longer one has more
among_more : (n : ℕ) (a b h : History) (on : IsPrefix a b) → IsPrefix b h → (index : ℕ) (e : Event ℕ) → slice_get h index ≡ Some e → length a ≤ index → index < length b → e.lane ≡ n → Contains (own n on.0) e
among_more n a b h on within index e there since until mine =
    let more = on.0 in
    let rest = within.0 in
    let whole : get_or h index e ≡ e = get_or_from_slice_get h index e e there in
    let left : get_or (b ++ rest) index e ≡ get_or b index e = get_or_append_left b rest e index until in
    let in_b : get_or b index e ≡ e = sym left ∙ (ap (λ (l : History). get_or l index e) within.1 ∙ whole) in
    let right : get_or (a ++ more) index e ≡ get_or more (index - length a) e = get_or-append_right a more (length a) index e refl since in
    let in_more : get_or more (index - length a) e ≡ e = sym right ∙ (ap (λ (l : History). get_or l index e) on.1 ∙ in_b) in
    let size = ap length on.1 in
    let sum = length-append a more in
    contains_filter (λ (x : Event ℕ). lane_of x == n) more e (eq-eqb (lane_of e) n mine) (index - length a, omega (arith, size, sum, since, until), in_more)

-- what the first lane has seen goes on
pub heads_go : {V : Type 0} (xs ys : List (StoreLane V)) → AllGoOn xs ys → IsPrefix (first_seen xs) (first_seen ys)
heads_go [] [] go = ([], refl)
heads_go [] (b ∷ ys) go = absurd go
heads_go (a ∷ xs) [] go = absurd go
heads_go (a ∷ xs) (b ∷ ys) go = go.0.seen

module _ {V : Type 0} (h : History) where
  -- ---- one lane

  -- a lane that only met others made no event
  met_made : (store : StoreView) (a b : StoreLane V) (index : ℕ) → OnlyMeets store a b → HasSeenWithin h b → IsMadeBy h index a b → ⊥
  met_made store a b index met within made =
      let n = a.cells.view.number in
      let on = seen_goes_on met.calls in
      let none : own n on.0 ≡ [] = events_past met.calls in
      contains_none made.event (subst (λ (l : History). Contains l made.event) none
      (among_more n (seen_by a.cells.view) (seen_by b.cells.view) h on within index made.event made.there made.since made.until made.own_event))

  made_then : (a b c : StoreLane V) (index : ℕ) → LaneGoesOn a b → IsMadeBy h index a c → IsMadeBy h index a b ⊎ IsMadeBy h index b c
  made_then a b c index go made = elim (cases_lt index (length (seen_by b.cells.view))) [
    | inl below ↦ inl (record { event = made.event; there = made.there; own_event = made.own_event; since = made.since; until = below })
    | inr past ↦ inr (record { event = made.event; there = made.there; own_event = made.own_event ∙ sym go.number; since = past; until = made.until })
  ]

  -- ---- lanes

  pub all_met_made : (store : StoreView) (xs ys : List (StoreLane V)) (index : ℕ) → AllZip (OnlyMeets store) xs ys → All (HasSeenWithin h) ys → IsMadeIn h index xs ys → ⊥
  all_met_made store [] ys index met within made = made
  all_met_made store (a ∷ xs) [] index met within made = made
  all_met_made store (a ∷ xs) (b ∷ ys) index met within made = elim made [
    | inl one ↦ met_made store a b index met.0 (All-head (HasSeenWithin h) b ys within) one
    | inr more ↦ all_met_made store xs ys index met.1 (All-tail (HasSeenWithin h) b ys within) more
  ]

  pub all_made_then : (xs ys zs : List (StoreLane V)) (index : ℕ) → AllGoOn xs ys → IsMadeIn h index xs zs → IsMadeIn h index xs ys ⊎ IsMadeIn h index ys zs
  all_made_then [] ys zs index go made = absurd made
  all_made_then (a ∷ xs) [] zs index go made = absurd go
  all_made_then (a ∷ xs) (b ∷ ys) [] index go made = absurd made
  all_made_then (a ∷ xs) (b ∷ ys) (c ∷ zs) index go made = elim made [
    | inl one ↦ elim (made_then a b c index go.0 one) [ inl first ↦ inl (inl first) | inr second ↦ inr (inl second) ]
    | inr more ↦ elim (all_made_then xs ys zs index go.1 more) [ inl first ↦ inl (inr first) | inr second ↦ inr (inr second) ]
  ]

  -- lanes that stand as they stood made no event
  pub same_made : (xs : List (StoreLane V)) (index : ℕ) → IsMadeIn h index xs xs → ⊥
  same_made [] index made = made
  same_made (a ∷ xs) index made = elim made [
    | inl one ↦ let since = one.since in let until = one.until in absurd (omega (arith, since, until))
    | inr more ↦ same_made xs index more
  ]

  -- lanes that have all seen this when they begin, and no more than that when they end
  pub shown_made : (since until : History) (xs ys : List (StoreLane V)) (index : ℕ) → All (HasSeen since) xs → All (HasSeenWithin until) ys → IsMadeIn h index xs ys → (length since ≤ index) × (index < length until)
  shown_made since until [] ys index begins ends made = absurd made
  shown_made since until (a ∷ xs) [] index begins ends made = absurd made
  shown_made since until (a ∷ xs) (b ∷ ys) index begins ends made = elim made [
    | inl one ↦
        let low = shorter since (seen_by a.cells.view) (All-head (HasSeen since) a xs begins) in
        let high = shorter (seen_by b.cells.view) until (All-head (HasSeenWithin until) b ys ends) in
        let from = one.since in
        let to = one.until in
        (omega (arith, low, from), omega (arith, high, to))
    | inr more ↦ shown_made since until xs ys index (All-tail (HasSeen since) a xs begins) (All-tail (HasSeenWithin until) b ys ends) more
  ]

  -- ---- lanes that go on, whose events the first of them has seen

  pub record Acts (xs ys : List (StoreLane V)) : Type 0 where
    pub goes : AllGoOn xs ys
    pub seen : IsSeenByFirst h xs ys

  pub first_made : (a b : StoreLane V) (rest : List (StoreLane V)) → IsSeenByFirst h (a ∷ rest) (b ∷ rest)
  first_made a b rest index made = elim made [
    | inl one ↦ (one.since, one.until)
    | inr more ↦ absurd (same_made rest index more)
  ]

  pub acts_before : (xs ys zs : List (StoreLane V)) → Acts xs ys → Acts ys zs → ComesBefore h xs ys ys zs
  acts_before xs ys zs one two first second early late =
      let a = (one.seen first early).1 in
      let b = (two.seen second late).0 in
      omega (arith, a, b)
