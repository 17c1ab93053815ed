-- Lanes of different numbers: an event is made by one of them, and so by those of one share only.
use Rattle.std.proofs.Common.{◌≡◌, inl, inr, ℕ, zero, suc, ◌+◌, ◌≤◌, List, [], ◌∷◌, Contains, Some, map, take, drop, ap, sym, subst, ◌∙◌, arith, refl}
use Rattle.std.specs.Prelude.{slice_get}
use Rattle.ext_history.proofs.Lists.{contains_cons, contains_here, contains_later, contains_none}
use Rattle.ext_history.proofs.Once.{Once}
use Rattle.ext_model.specs.declared.event.Event.{Event}
use Rattle.ext_model.specs.History.{History}
use Rattle.ext_cells.specs.Lanes.{CellsId, fresh_lanes}
use Rattle.ext_store.specs.Stores.{StoreLane, fresh_store_lane}
use Rattle.ext_engine.specs.Order.{AllGoOn, IsMadeBy, IsMadeIn, LaneGoesOn}
use Rattle.ext_engine.proofs.Acts.{shorter}

module _ {V : Type 0} where
  abbrev number_of : StoreLane V → ℕ
  number_of lane = lane.cells.view.number

  -- no two of them have one number
  abbrev pub AreApart : List (StoreLane V) → Type 0
  AreApart lanes = Once (map (λ lane. lane.cells.view.number) lanes)

  -- lanes keep their numbers
  same_numbers : (xs ys : List (StoreLane V)) → AllGoOn xs ys → map number_of xs ≡ map number_of ys
  same_numbers [] [] go = refl
  same_numbers [] (b ∷ ys) go = absurd go
  same_numbers (a ∷ xs) [] go = absurd go
  same_numbers (a ∷ xs) (b ∷ ys) go = ap (λ n. n ∷ map number_of xs) (sym go.0.number) ∙ ap (λ l. number_of b ∷ l) (same_numbers xs ys go.1)

  pub apart_before : (xs ys : List (StoreLane V)) → AllGoOn xs ys → AreApart ys → AreApart xs
  apart_before xs ys go apart = subst Once (sym (same_numbers xs ys go)) apart

  pub apart_after : (xs ys : List (StoreLane V)) → AllGoOn xs ys → AreApart xs → AreApart ys
  apart_after xs ys go apart = subst Once (same_numbers xs ys go) apart

  -- ---- parts

  among_taken : (n m : ℕ) (xs : List (StoreLane V)) → Contains (map number_of (take n xs)) m → Contains (map number_of xs) m
  among_taken zero m xs there = absurd (contains_none m there)
  among_taken (suc n) m [] there = absurd (contains_none m there)
  among_taken (suc n) m (x ∷ xs) there = elim (contains_cons (number_of x) (map number_of (take n xs)) m there) [
    | inl here ↦ subst (λ k. Contains (map number_of (x ∷ xs)) k) here (contains_here (number_of x) (map number_of xs))
    | inr later ↦ contains_later (number_of x) (map number_of xs) m (among_taken n m xs later)
  ]

  among_left : (n m : ℕ) (xs : List (StoreLane V)) → Contains (map number_of (drop n xs)) m → Contains (map number_of xs) m
  among_left zero m xs there = there
  among_left (suc n) m [] there = there
  among_left (suc n) m (x ∷ xs) there = contains_later (number_of x) (map number_of xs) m (among_left n m xs there)

  pub apart_taken : (n : ℕ) (xs : List (StoreLane V)) → AreApart xs → AreApart (take n xs)
  apart_taken zero xs apart = tt
  apart_taken (suc n) [] apart = tt
  apart_taken (suc n) (x ∷ xs) apart = ((λ there. apart.0 (among_taken n (number_of x) xs there)), apart_taken n xs apart.1)

  pub apart_left : (n : ℕ) (xs : List (StoreLane V)) → AreApart xs → AreApart (drop n xs)
  apart_left zero xs apart = apart
  apart_left (suc n) [] apart = apart
  apart_left (suc n) (x ∷ xs) apart = apart_left n xs apart.1

module _ {V : Type 0} (h : History) where
  -- ---- who made an event

  -- what one of them made is an event of its number
  maker_among : (xs ys : List (StoreLane V)) (place : ℕ) (e : Event ℕ) → slice_get h place ≡ Some e → IsMadeIn h place xs ys → Contains (map (λ lane. lane.cells.view.number) xs) e.lane
  maker_among [] ys place e there made = absurd made
  maker_among (a ∷ xs) [] place e there made = absurd made
  maker_among (a ∷ xs) (b ∷ ys) place e there (inl one) =
      let n = a.cells.view.number in
      let same : Some e ≡ Some one.event = sym there ∙ one.there in
      let is : e ≡ one.event = cc same in
      subst (λ k. Contains (n ∷ map (λ lane. lane.cells.view.number) xs) k) (sym (ap (λ (x : Event ℕ). x.lane) is ∙ one.own_event)) (contains_here n (map (λ lane. lane.cells.view.number) xs))
  maker_among (a ∷ xs) (b ∷ ys) place e there (inr more) = contains_later a.cells.view.number (map (λ lane. lane.cells.view.number) xs) e.lane (maker_among xs ys place e there more)

  made_there : (xs ys : List (StoreLane V)) (place : ℕ) → IsMadeIn h place xs ys → (e : Event ℕ) × (slice_get h place ≡ Some e)
  made_there [] ys place made = absurd made
  made_there (a ∷ xs) [] place made = absurd made
  made_there (a ∷ xs) (b ∷ ys) place (inl one) = (one.event, one.there)
  made_there (a ∷ xs) (b ∷ ys) place (inr more) = made_there xs ys place more

  -- so no event is made by lanes of two shares
  pub shares_apart : (n : ℕ) (xs ys zs : List (StoreLane V)) (place : ℕ) → AreApart xs → IsMadeIn h place (take n xs) ys → IsMadeIn h place (drop n xs) zs → ⊥
  shares_apart n xs ys zs place apart first second =
      let some = made_there (take n xs) ys place first in
      apart_both n xs some.0.lane apart (maker_among (take n xs) ys place some.0 some.1 first) (maker_among (drop n xs) zs place some.0 some.1 second)
    where
      apart_both : (n : ℕ) (xs : List (StoreLane V)) (m : ℕ) → AreApart xs → Contains (map (λ lane. lane.cells.view.number) (take n xs)) m → Contains (map (λ lane. lane.cells.view.number) (drop n xs)) m → ⊥
      apart_both zero xs m apart first second = contains_none m first
      apart_both (suc n) [] m apart first second = contains_none m first
      apart_both (suc n) (x ∷ xs) m apart first second = elim (contains_cons x.cells.view.number (map (λ lane. lane.cells.view.number) (take n xs)) m first) [
        | inl here ↦ apart.0 (subst (λ k. Contains (map (λ lane. lane.cells.view.number) xs) k) (sym here) (among_left n m xs second))
        | inr later ↦ apart_both n xs m apart.1 later second
      ]

  -- ---- what is made in a part is made in the whole

  one_first : (a b c : StoreLane V) (place : ℕ) → LaneGoesOn b c → IsMadeBy h place a b → IsMadeBy h place a c
  one_first a b c place go made =
      let high = shorter _ _ go.seen in
      let until = made.until in
      record { event = made.event; there = made.there; own_event = made.own_event; since = made.since; until = omega (arith, high, until) }

  one_then : (a b c : StoreLane V) (place : ℕ) → LaneGoesOn a b → IsMadeBy h place b c → IsMadeBy h place a c
  one_then a b c place go made =
      let low = shorter _ _ go.seen in
      let since = made.since in
      record { event = made.event; there = made.there; own_event = made.own_event ∙ go.number; since = omega (arith, low, since); until = made.until }

  pub made_first : (xs ys zs : List (StoreLane V)) (place : ℕ) → AllGoOn ys zs → IsMadeIn h place xs ys → IsMadeIn h place xs zs
  made_first [] ys zs place go made = made
  made_first (a ∷ xs) [] zs place go made = absurd made
  made_first (a ∷ xs) (b ∷ ys) [] place go made = absurd go
  made_first (a ∷ xs) (b ∷ ys) (c ∷ zs) place go (inl one) = inl (one_first a b c place go.0 one)
  made_first (a ∷ xs) (b ∷ ys) (c ∷ zs) place go (inr more) = inr (made_first xs ys zs place go.1 more)

  pub made_later : (xs ys zs : List (StoreLane V)) (place : ℕ) → AllGoOn xs ys → IsMadeIn h place ys zs → IsMadeIn h place xs zs
  made_later xs [] zs place go made = absurd made
  made_later [] (b ∷ ys) zs place go made = absurd go
  made_later (a ∷ xs) (b ∷ ys) [] place go made = absurd made
  made_later (a ∷ xs) (b ∷ ys) (c ∷ zs) place go (inl one) = inl (one_then a b c place go.0 one)
  made_later (a ∷ xs) (b ∷ ys) (c ∷ zs) place go (inr more) = inr (made_later xs ys zs place go.1 more)

  pub made_taken : (n : ℕ) (xs ys : List (StoreLane V)) (place : ℕ) → IsMadeIn h place (take n xs) (take n ys) → IsMadeIn h place xs ys
  made_taken zero xs ys place made = absurd made
  made_taken (suc n) [] ys place made = absurd made
  made_taken (suc n) (a ∷ xs) [] place made = absurd made
  made_taken (suc n) (a ∷ xs) (b ∷ ys) place (inl one) = inl one
  made_taken (suc n) (a ∷ xs) (b ∷ ys) place (inr more) = inr (made_taken n xs ys place more)

  pub made_left : (n : ℕ) (xs ys : List (StoreLane V)) (place : ℕ) → IsMadeIn h place (drop n xs) (drop n ys) → IsMadeIn h place xs ys
  made_left zero xs ys place made = made
  made_left (suc n) [] ys place made = absurd made
  made_left (suc n) (a ∷ xs) [] place made = absurd (none_left (drop n xs) made)
    where
      none_left : (zs : List (StoreLane V)) → IsMadeIn h place zs [] → ⊥
      none_left [] made = made
      none_left (z ∷ zs) made = made
  made_left (suc n) (a ∷ xs) (b ∷ ys) place made = inr (made_left n xs ys place made)

-- ---- fresh ones

-- they are numbered one after another
fresh_past : (V : Type 0) (slots fault_slots keys : List ℕ) (cells : CellsId) (first n m : ℕ)
    → Contains (map (λ lane. lane.cells.view.number) (map (fresh_store_lane {V = V} slots fault_slots keys) (fresh_lanes cells first n))) m → first ≤ m
fresh_past V slots fault_slots keys cells first zero m there = absurd (contains_none m there)
fresh_past V slots fault_slots keys cells first (suc n) m there =
    elim (contains_cons first (map (λ lane. lane.cells.view.number) (map (fresh_store_lane {V = V} slots fault_slots keys) (fresh_lanes cells (first + 1) n))) m there) [
      | inl here ↦ omega (arith, here)
      | inr later ↦ let past = fresh_past V slots fault_slots keys cells (first + 1) n m later in omega (arith, past)
    ]

pub fresh_apart : (V : Type 0) (slots fault_slots keys : List ℕ) (cells : CellsId) (first n : ℕ) → AreApart (map (fresh_store_lane {V = V} slots fault_slots keys) (fresh_lanes cells first n))
fresh_apart V slots fault_slots keys cells first zero = tt
fresh_apart V slots fault_slots keys cells first (suc n) =
    ((λ there. let past = fresh_past V slots fault_slots keys cells (first + 1) n first there in absurd (omega (arith, past))), fresh_apart V slots fault_slots keys cells (first + 1) n)
