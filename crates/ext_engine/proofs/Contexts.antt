-- Which contexts the closers of a list are of.
use Rattle.std.proofs.Common.{◌≡◌, ◌≢◌, ℕ, ◌<◌, inl, inr, ◌∙◌, zero, suc, List, [], ◌∷◌, ◌++◌, length, take, drop, ap, sym, subst, arith}
use Rattle.std.specs.Prelude.{All, Contains, slice_index_or}
use Rattle.std.proofs.lemmas.List.{map_push}
use Rattle.std.proofs.lemmas.List.Elements.{All-head, All-tail, Contains-append_left, Contains-push, Contains-push_cases}
use Rattle.ext_store.specs.Stores.{CloserView}
use Rattle.ext_engine.specs.InnerClosers.{contexts}

-- ---- one taken out

pub not-among : (node : ℕ) (xs : List CloserView) → All (λ c. c.context ≢ node) xs → Contains (contexts xs) node → ⊥
not-among node [] all h = omega (arith, h.1)
not-among node (x ∷ xs) all (zero, l, e) = All-head (λ c. c.context ≢ node) x xs all e
not-among node (x ∷ xs) all (suc k, l, e) = not-among node xs (All-tail (λ c. c.context ≢ node) x xs all) (k, omega (arith, l), e)

cons-in : (x : ℕ) (xs : List ℕ) (k : ℕ) → Contains xs k → Contains (x ∷ xs) k
cons-in x xs k (i, l, e) = (suc i, omega (arith, l), e)

-- a closer of the node is taken out: one of each other context is left
pub kept-but : (xs : List CloserView) (at k node : ℕ) → at < length xs → ((d : CloserView) → (slice_index_or xs at d).context ≡ node) → k ≢ node → Contains (contexts xs) k → Contains (contexts (take at xs ++ drop (suc at) xs)) k
kept-but [] at k node l is differs h = absurd (omega (arith, l))
kept-but (x ∷ xs) zero k node l is differs (zero, m, e) = absurd (differs (sym e ∙ is x))
kept-but (x ∷ xs) zero k node l is differs (suc j, m, e) = (j, omega (arith, m), e)
kept-but (x ∷ xs) (suc at) k node l is differs (zero, m, e) = (0, omega arith, e)
kept-but (x ∷ xs) (suc at) k node l is differs (suc j, m, e) =
    cons-in x.context (contexts (take at xs ++ drop (suc at) xs)) k (kept-but xs at k node (omega (arith, l)) is differs (j, omega (arith, m), e))

-- ---- one more seen

-- of the closers seen, one of each context that passes is kept
pub record KeepsAll (Passes : ℕ → Type 0) (seen kept : List CloserView) : Type 0 where
  pub each : (k : ℕ) → Passes k → Contains (contexts seen) k → Contains (contexts kept) k

module _ (Passes : ℕ → Type 0) (seen kept : List CloserView) (c : CloserView) (so_far : KeepsAll Passes seen kept) where
  pub keeps-in : (next : List CloserView) → next ≡ kept ++ c ∷ [] → KeepsAll Passes (seen ++ c ∷ []) next
  keeps-in next pushed = record {
    each = λ k passes h.
        let P : List ℕ → Type 0 = λ l. Contains l k in
        let is = ap contexts pushed ∙ map_push (λ (x : CloserView). x.context) kept c in
        subst P (sym is) (elim (Contains-push_cases (contexts seen) c.context k (subst P (map_push (λ (x : CloserView). x.context) seen c) h)) [
          | inl there ↦ Contains-append_left (contexts kept) (c.context ∷ []) k (so_far.each k passes there)
          | inr here ↦ subst (λ n. Contains (contexts kept ++ c.context ∷ []) n) here (Contains-push (contexts kept) c.context)
        ]);
  }

  pub keeps-out : (Passes c.context → ⊥) → KeepsAll Passes (seen ++ c ∷ []) kept
  keeps-out fails = record {
    each = λ k passes h.
        let P : List ℕ → Type 0 = λ l. Contains l k in
        elim (Contains-push_cases (contexts seen) c.context k (subst P (map_push (λ (x : CloserView). x.context) seen c) h)) [
          | inl there ↦ so_far.each k passes there
          | inr here ↦ absurd (fails (subst Passes (sym here) passes))
        ];
  }

-- a fact of all is one of that in the middle
pub all-mid : {X : Type 0} (P : X → Type 0) (before : List X) (x : X) (after all : List X) → before ++ x ∷ after ≡ all → All P all → P x
all-mid {X} P before x after all is h =
    let Q : List X → Type 0 = λ l. All P l in
    mid before (subst Q (sym is) h)
  where
    mid : (b : List X) → All P (b ++ x ∷ after) → P x
    mid [] g = All-head P x after g
    mid (y ∷ b) g = mid b (All-tail P y (b ++ x ∷ after) g)
