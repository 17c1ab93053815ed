-- Which of the falling numbers is the greatest that no lane in hand knows: the first.
use Rattle.std.proofs.Common.{◌≡◌, ◌<◌, ◌≤◌, ℕ, zero, suc, List, [], ◌∷◌, length, get_or, subst, ◌∙◌, arith, Option, None, Some, IfSome, IfNone}
use Rattle.std.specs.Prelude.{is_some, true, false}
use Rattle.std.proofs.lemmas.List.{get_or_default}
use Rattle.ext_model.specs.Closing.{IsBelow, IsFalling}
use Rattle.ext_values.specs.Known.{known_at}
use Rattle.ext_store.specs.Stores.{StoreLane}
use Rattle.ext_closing.specs.Lanes.{IsJoined, IsUnknown, IsGreatestUnjoined}
use Rattle.ext_closing.proofs.Knowing.{is_there}

-- ---- falling numbers

below_first : (first : ℕ) (rest : List ℕ) (k : ℕ) → IsBelow first rest → IsFalling rest → k < length rest → get_or rest k 0 < first
below_first first [] k below falls within = absurd (omega (arith, within))
below_first first (next ∷ rest) zero below falls within = below
below_first first (next ∷ rest) (suc k) below falls within =
    let less : next < first = below in
    let later : get_or rest k 0 < next = below_first next rest k falls.0 falls.1 (omega (arith, within)) in
    omega (arith, less, later)

falls_on : (xs : List ℕ) (i k : ℕ) → IsFalling xs → i ≤ k → k < length xs → get_or xs k 0 ≤ get_or xs i 0
falls_on [] i k falls after within = absurd (omega (arith, within))
falls_on (x ∷ xs) zero zero falls after within = omega arith
falls_on (x ∷ xs) zero (suc k) falls after within = let less : get_or xs k 0 < x = below_first x xs k falls.0 falls.1 (omega (arith, within)) in omega (arith, less)
falls_on (x ∷ xs) (suc i) zero falls after within = absurd (omega (arith, after))
falls_on (x ∷ xs) (suc i) (suc k) falls after within = falls_on xs i k falls.1 (omega (arith, after)) (omega (arith, within))

-- the greater ones stand before
stands_before : (xs : List ℕ) (i k : ℕ) → IsFalling xs → k < length xs → get_or xs i 0 < get_or xs k 0 → k < i
stands_before xs i k falls within greater = let on : i ≤ k → get_or xs k 0 ≤ get_or xs i 0 = λ after. falls_on xs i k falls after within in grind arith

-- ---- what a look for a lane that knows a number found

joined_at : {V : Type 0} (lanes : List (StoreLane V)) (number at : ℕ) → at < length lanes → ((lane : StoreLane V) → is_some (known_at (get_or lanes at lane).known number) ≡ true) → IsJoined lanes number
joined_at [] number at within knows = absurd (omega (arith, within))
joined_at {V} (first ∷ others) number at within knows =
    let lane : StoreLane V = get_or (first ∷ others) at first in
    let it = is_there (known_at lane.known number) (knows first) in
    (it.0, record { lane = lane; in_hand = (at, within, get_or_default (first ∷ others) at lane first within); known = it.1 })

module _ {V : Type 0} (lanes : List (StoreLane V)) (number : ℕ) where
  pub joined_where : (found : Option ℕ) → is_some found ≡ true → IfSome found (λ at. at < length lanes) → IfSome found (λ at. (lane : StoreLane V) → is_some (known_at (get_or lanes at lane).known number) ≡ true)
      → IsJoined lanes number
  joined_where None some within knows = absurd (cc some)
  joined_where (Some at) some within knows = joined_at lanes number at within knows

  pub unknown_where : (found : Option ℕ) → is_some found ≡ false → IfNone found (IsUnknown lanes number) → IsUnknown lanes number
  unknown_where None none unknown = unknown
  unknown_where (Some at) none unknown = absurd (cc none)

-- ---- the loop

-- those before a place are joined
abbrev pub AreJoinedBefore : {V : Type 0} → List (StoreLane V) → List ℕ → ℕ → Type 0
AreJoinedBefore lanes numbers i = (k : ℕ) → k < i → IsJoined lanes (get_or numbers k 0)

module _ {V : Type 0} (lanes : List (StoreLane V)) (numbers : List ℕ) where
  pub all_joined : (i : ℕ) → length numbers ≤ i → AreJoinedBefore lanes numbers i → (k d : ℕ) → k < length numbers → IsJoined lanes (get_or numbers k d)
  all_joined i past joined k d within = subst (IsJoined lanes) (get_or_default numbers k 0 d within) (joined k (omega (arith, past, within)))

  pub greatest : (i : ℕ) → IsFalling numbers → i < length numbers → AreJoinedBefore lanes numbers i → IsUnknown lanes (get_or numbers i 0) → IsGreatestUnjoined lanes numbers (get_or numbers i 0)
  greatest i falls within joined unknown = record {
    remains = (i, within, get_or_default numbers i (get_or numbers i 0) 0 within);
    unknown = unknown;
    greater = λ other there more.
        let is : get_or numbers there.0 0 ≡ other = get_or_default numbers there.0 0 other there.1 ∙ there.2 in
        let before : there.0 < i = stands_before numbers i there.0 falls there.1 (omega (arith, is, more)) in
        subst (IsJoined lanes) is (joined there.0 before);
  }
