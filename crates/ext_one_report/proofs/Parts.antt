-- What is seen while a part of something is done, of what is seen while the whole is.
use Rattle.std.proofs.Common.{◌⊎◌, inl, inr, ℕ, ◌<◌, ◌≤◌, List, [], ◌∷◌, zero, suc, length, take, drop, refl, subst, arith}
use Rattle.std.specs.Prelude.{All}
use mathlib.Core.List.{IsPrefix}
use Rattle.std.proofs.lemmas.List.Elements.{All-head}
use Rattle.ext_history.specs.Histories.{seen_by}
use Rattle.ext_model.specs.History.{History}
use Rattle.ext_store.specs.Stores.{StoreLane}
use Rattle.ext_engine.specs.Meeting.{HasSeen, HasSeenWithin, first_seen}
use Rattle.ext_engine.specs.NodeRun.{OnFirst}
use Rattle.ext_engine.specs.Order.{AllGoOn, LaneGoesOn, IsMadeIn}
use Rattle.ext_engine.proofs.Acts.{Acts, all_made_then, first_made, heads_go, same_made, shorter}
use Rattle.ext_engine.proofs.Going.{all_same}
use Rattle.ext_one_report.specs.Alone.{IsSeenMeanwhile, IsTheirsOr}

module _ {V : Type 0} where
  -- what is seen while lanes act between two histories stands between these
  pub within_seen : (since until : History) (xs ys : List (StoreLane V)) (place : ℕ) → AllGoOn xs ys → All (HasSeen since) xs → All (HasSeenWithin until) ys → IsSeenMeanwhile place xs ys
      → (length since ≤ place) × (place < length until)
  within_seen since until [] [] place go begins ends seen = let u = seen.until in absurd (omega (arith, u))
  within_seen since until [] (b ∷ ys) place go begins ends seen = absurd go
  within_seen since until (a ∷ xs) [] place go begins ends seen = absurd go
  within_seen since until (a ∷ xs) (b ∷ ys) place go begins ends seen =
      let low = shorter since (seen_by a.cells.view) (All-head (HasSeen since) a xs begins) in
      let high = shorter (seen_by b.cells.view) until (All-head (HasSeenWithin until) b ys ends) in
      let from = seen.since in
      let to = seen.until in
      (omega (arith, low, from), omega (arith, high, to))

  pub first_within : (h : History) (xs : List (StoreLane V)) → All (HasSeenWithin h) xs → IsPrefix (first_seen xs) h
  first_within h [] all = (h, refl)
  first_within h (a ∷ xs) all = All-head (HasSeenWithin h) a xs all

module _ {V : Type 0} (h : History) where
  -- a lane that goes on, alone
  pub one_acts : (a b : StoreLane V) → LaneGoesOn a b → Acts h (a ∷ []) (b ∷ [])
  one_acts a b go = record { goes = (go, tt); seen = first_made h a b [] }

  pub no_acts : (xs : List (StoreLane V)) → Acts h xs xs
  no_acts xs = record { goes = all_same xs; seen = λ place made. absurd (same_made h xs place made) }

  -- what lanes made was made by those of the one share, or by those of the other
  pub made_parts : (n : ℕ) (xs ys : List (StoreLane V)) (place : ℕ) → IsMadeIn h place xs ys → IsMadeIn h place (take n xs) (take n ys) ⊎ IsMadeIn h place (drop n xs) (drop n ys)
  made_parts zero xs ys place made = inr made
  made_parts (suc n) [] ys place made = absurd made
  made_parts (suc n) (a ∷ xs) [] place made = absurd made
  made_parts (suc n) (a ∷ xs) (b ∷ ys) place made = elim made [
    | inl one ↦ inl (inl one)
    | inr more ↦ elim (made_parts n xs ys place more) [ inl early ↦ inl (inr early) | inr late ↦ inr late ]
  ]

  -- ---- parts

  module _ (Others : ℕ → Type 0) where
    pub part : (xs ys zs ws : List (StoreLane V)) → Acts h xs ys → AllGoOn ys zs → Acts h zs ws → IsTheirsOr h Others xs ws → IsTheirsOr h Others ys zs
    part xs ys zs ws pre go post whole = record {
      each = λ place seen.
          let low = shorter (first_seen xs) (first_seen ys) (heads_go xs ys pre.goes) in
          let high = shorter (first_seen zs) (first_seen ws) (heads_go zs ws post.goes) in
          let since = seen.since in
          let until = seen.until in
          let here : IsSeenMeanwhile place xs ws = record { since = omega (arith, low, since); until = omega (arith, high, until) } in
          elim (whole.each place here) [
            | inr other ↦ inr other
            | inl made ↦ elim (all_made_then h xs ys ws place pre.goes made) [
              | inl early ↦ let e = (pre.seen place early).1 in absurd (omega (arith, e, since))
              | inr more ↦ elim (all_made_then h ys zs ws place go more) [
                | inl now ↦ inl now
                | inr late ↦ let e = (post.seen place late).0 in absurd (omega (arith, e, until))
              ]
            ]
          ];
    }

    -- ---- the first lane

    pub of_first : (a b : StoreLane V) (rest : List (StoreLane V)) → IsTheirsOr h Others (a ∷ rest) (b ∷ rest) → IsTheirsOr h Others (a ∷ []) (b ∷ [])
    of_first a b rest whole = record {
      each = λ place seen. elim (whole.each place (record { since = seen.since; until = seen.until })) [
        | inr other ↦ inr other
        | inl made ↦ elim made [ inl one ↦ inl (inl one) | inr more ↦ absurd (same_made h rest place more) ]
      ];
    }

    pub change_first : (R R' : StoreLane V → StoreLane V → Type 0) (xs ys : List (StoreLane V)) → ((a b : StoreLane V) → HasSeenWithin h b → IsTheirsOr h Others (a ∷ []) (b ∷ []) → R a b → R' a b) → All (HasSeenWithin h) ys → IsTheirsOr h Others xs ys
        → OnFirst R xs ys → OnFirst R' xs ys
    change_first R R' xs ys turn within whole on =
        let ends : HasSeenWithin h on.left = All-head (HasSeenWithin h) on.left on.rest (subst (All (HasSeenWithin h)) on.first_is within) in
        let here : IsTheirsOr h Others (on.lane ∷ on.rest) (on.left ∷ on.rest) =
        subst (λ l. IsTheirsOr h Others (on.lane ∷ on.rest) l) on.first_is (subst (λ l. IsTheirsOr h Others l ys) on.first_was whole) in
        record { lane = on.lane; left = on.left; rest = on.rest; first_was = on.first_was; change = turn on.lane on.left ends (of_first on.lane on.left on.rest here) on.change; first_is = on.first_is }
