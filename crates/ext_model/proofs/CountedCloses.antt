-- Closes that are counted, one more at a time: the first that failed, and how many did.
use Rattle.std.proofs.Common.{◌≡◌, ℕ, ◌+◌, ◌-◌, ◌≤◌, true, false, cond, List, [], ◌∷◌, ◌++◌, length, Option, Some, None, is_some, refl, ap, sym, subst, ◌∙◌, arith, length-append}
use Rattle.std.specs.Prelude.{Bool, ◌||◌}
use Rattle.std.proofs.lemmas.List.Folds.{list_any-append}
use Rattle.std.proofs.lemmas.List.Sums.{sum_by-append}
use Rattle.ext_model.specs.declared.closed.Closed.{Closed}
use Rattle.ext_model.specs.declared.look.Fault.{Fault}
use Rattle.ext_model.specs.Closed.{or_else, first_of, close_faults, closed_of}
use Rattle.ext_model.specs.Lacks.{fault_tells_lack, may_tell, one_tells}

module _ {F : Type 0} where
  -- ---- the first of two

  pub or_else-none : (a : Option F) → or_else a None ≡ a
  or_else-none None = refl
  or_else-none (Some fault) = refl

  pub or_else-first : (a b : Option F) → is_some a ≡ true → or_else a b ≡ a
  or_else-first None b is = absurd cc
  or_else-first (Some fault) b is = refl

  pub or_else-second : (a b : Option F) → is_some a ≡ false → or_else a b ≡ b
  or_else-second None b is = refl
  or_else-second (Some fault) b is = absurd cc

  pub or_else-assoc : (a b c : Option F) → or_else (or_else a b) c ≡ or_else a (or_else b c)
  or_else-assoc None b c = refl
  or_else-assoc (Some fault) b c = refl

  -- ---- how many failed

  abbrev pub close_weight : Option F → ℕ
  close_weight None = 0
  close_weight (Some fault) = 1

  close_weighed : (c : Option F) → close_faults (c ∷ []) ≡ close_weight c
  close_weighed None = refl
  close_weighed (Some fault) = refl

  close_faults-append : (cs ds : List (Option F)) → close_faults (cs ++ ds) ≡ close_faults cs + close_faults ds
  close_faults-append cs ds = sum_by-append (λ w. cond (is_some w) 1 0) cs ds

  pub close_faults-cons : (c : Option F) (cs : List (Option F)) → close_faults (c ∷ cs) ≡ close_weight c + close_faults cs
  close_faults-cons c cs = close_faults-append (c ∷ []) cs ∙ ap (λ n. n + close_faults cs) (close_weighed c)

  pub close_faults-more : (cs : List (Option F)) (c : Option F) → close_faults (cs ++ c ∷ []) ≡ close_faults cs + close_weight c
  close_faults-more cs c = close_faults-append cs (c ∷ []) ∙ ap (λ n. close_faults cs + n) (close_weighed c)

  -- ---- the first fault and the count belong together

  abbrev pub IsCountOf : Option F → ℕ → Type 0
  IsCountOf (Some fault) n = 1 ≤ n
  IsCountOf None n = n ≡ 0

  counted-cons : (c g : Option F) (n : ℕ) → IsCountOf g n → IsCountOf (or_else c g) (close_weight c + n)
  counted-cons None g n h = let same : n ≡ 0 + n = omega arith in subst (IsCountOf g) same h
  counted-cons (Some x) g n h = omega arith

  pub closes-counted : (cs : List (Option F)) → IsCountOf (first_of cs) (close_faults cs)
  closes-counted [] = refl
  closes-counted (c ∷ cs) = subst (IsCountOf (first_of (c ∷ cs))) (sym (close_faults-cons c cs)) (counted-cons c (first_of cs) (close_faults cs) (closes-counted cs))

  pub some-counted : (g : Option F) (n : ℕ) → IsCountOf g n → is_some g ≡ true → 1 ≤ n
  some-counted None n h is = absurd cc
  some-counted (Some fault) n h is = h

  pub none-counted : (g : Option F) (n : ℕ) → IsCountOf g n → is_some g ≡ false → n ≡ 0
  none-counted None n h is = h
  none-counted (Some fault) n h is = absurd cc

  -- ---- the first that failed, of one close more

  first_of-append : (cs ds : List (Option F)) → first_of (cs ++ ds) ≡ or_else (first_of cs) (first_of ds)
  first_of-append [] ds = refl
  first_of-append (c ∷ cs) ds = ap (or_else c) (first_of-append cs ds) ∙ sym (or_else-assoc c (first_of cs) (first_of ds))

  pub first_of-more : (cs : List (Option F)) (c : Option F) → first_of (cs ++ c ∷ []) ≡ or_else (first_of cs) c
  first_of-more cs c = first_of-append cs (c ∷ []) ∙ ap (or_else (first_of cs)) (or_else-none c)

-- ---- whether one tells of a lack

pub or-false : (b : Bool) → (b || false) ≡ b
or-false true = refl
or-false false = refl

pub one_tells-more : {F : Type 0} (tells : F → Bool) (cs : List (Option F)) (c : Option F) → one_tells tells (cs ++ c ∷ []) ≡ (one_tells tells cs || may_tell tells c)
one_tells-more tells cs c = list_any-append (may_tell tells) cs (c ∷ []) ∙ ap (λ b. one_tells tells cs || b) (or-false (may_tell tells c))

-- a further close, by what stood before
pub closed_of-more : (old new : Closed) (cs : List (Option Fault)) (c : Option Fault) → old ≡ closed_of cs → new.closed ≡ old.closed + 1 → new.first_fault ≡ or_else old.first_fault c
    → new.lacked ≡ (old.lacked || may_tell fault_tells_lack c) → ((n : ℕ) → IsCountOf old.first_fault n → old.more_faults ≡ n - 1 → new.more_faults ≡ (n + close_weight c) - 1) → new ≡ closed_of (cs ++ c ∷ [])
closed_of-more old new cs c is closed first lacked more =
    let counted : IsCountOf old.first_fault (close_faults cs) = subst (λ o. IsCountOf o.first_fault (close_faults cs)) (sym is) (closes-counted cs) in
    let count : length (cs ++ c ∷ []) ≡ length cs + 1 = rw length-append refl in
    ap (λ n. record { closed = n; first_fault = new.first_fault; more_faults = new.more_faults; lacked = new.lacked }) (closed ∙ ap (λ o. o.closed + 1) is ∙ sym count)
    ∙ ap (λ f. record { closed = length (cs ++ c ∷ []); first_fault = f; more_faults = new.more_faults; lacked = new.lacked }) (first ∙ ap (λ o. or_else o.first_fault c) is ∙ sym (first_of-more cs c))
    ∙ ap (λ n. record { closed = length (cs ++ c ∷ []); first_fault = first_of (cs ++ c ∷ []); more_faults = n; lacked = new.lacked })
    (more (close_faults cs) counted (ap (λ o. o.more_faults) is) ∙ ap (λ n. n - 1) (sym (close_faults-more cs c)))
    ∙ ap (λ b. record { closed = length (cs ++ c ∷ []); first_fault = first_of (cs ++ c ∷ []); more_faults = close_faults (cs ++ c ∷ []) - 1; lacked = b })
    (lacked ∙ ap (λ o. o.lacked || may_tell fault_tells_lack c) is ∙ sym (one_tells-more fault_tells_lack cs c))
