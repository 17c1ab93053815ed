-- How calls ended, one list after another, and with other faults.
use Rattle.std.proofs.Common.{◌≡◌, ℕ, ◌+◌, ◌-◌, ◌≤◌, Bool, true, false, not, cond, List, [], ◌∷◌, ◌++◌, map, Option, Some, None, is_some, refl, ap, sym, subst, ◌∙◌, arith}
use Rattle.std.specs.Prelude.{◌&&◌, ◌||◌}
use Rattle.std.proofs.lemmas.List.Folds.{list_any-append}
use Rattle.std.proofs.lemmas.List.Sums.{sum_by-append}
use Rattle.ext_model.specs.Closed.{or_else, first_of, close_faults}
use Rattle.ext_model.specs.Lacks.{may_tell, one_tells}
use Rattle.ext_model.proofs.CountedCloses.{IsCountOf, close_faults-cons, close_weight, closes-counted, or-false, or_else-assoc, or_else-none}
use Rattle.ext_lifecycle.specs.declared.status.Status.{Status}
use Rattle.ext_lifecycle.specs.declared.status.Status.TheVariants as statuses
use Rattle.ext_lifecycle.specs.Endings.{Ending, successful, aborted, failed, Total, is_successful, all_successful, fault_in, abort_in, first_fault, first_abort, unsuccessful, ending_tells, endings_tell, total_by, total_of}
use Rattle.ext_lifecycle.specs.InnerTotals.{with_ending, with_closes}
use Rattle.ext_lifecycle.specs.Results.{close_ending}

-- the status of a node of which every call so far was successful
abbrev pub passed : Status → Bool
passed statuses.Successful = true
passed statuses.Aborted = false
passed statuses.Failed = false
passed statuses.Skipped = false

module _ {F : Type 0} where
  -- ---- one list after another

  pub first_fault-append : (es fs : List (Ending F)) → first_fault (es ++ fs) ≡ or_else (first_fault es) (first_fault fs)
  first_fault-append [] fs = refl
  first_fault-append (e ∷ es) fs = ap (or_else (fault_in e)) (first_fault-append es fs) ∙ sym (or_else-assoc (fault_in e) (first_fault es) (first_fault fs))

  pub first_abort-append : (es fs : List (Ending F)) → first_abort (es ++ fs) ≡ or_else (first_abort es) (first_abort fs)
  first_abort-append [] fs = refl
  first_abort-append (e ∷ es) fs = ap (or_else (abort_in e)) (first_abort-append es fs) ∙ sym (or_else-assoc (abort_in e) (first_abort es) (first_abort fs))

  -- how much an ending adds to the count
  abbrev pub weight : Ending F → ℕ
  weight successful = 0
  weight (aborted fault) = 1
  weight (failed fault) = 1

  weighed : (e : Ending F) → unsuccessful (e ∷ []) ≡ weight e
  weighed successful = refl
  weighed (aborted fault) = refl
  weighed (failed fault) = refl

  pub unsuccessful-append : (es fs : List (Ending F)) → unsuccessful (es ++ fs) ≡ unsuccessful es + unsuccessful fs
  unsuccessful-append es fs = sum_by-append (λ w. cond (not (is_successful w)) 1 0) es fs

  pub unsuccessful-cons : (e : Ending F) (es : List (Ending F)) → unsuccessful (e ∷ es) ≡ weight e + unsuccessful es
  unsuccessful-cons e es = unsuccessful-append (e ∷ []) es ∙ ap (λ n. n + unsuccessful es) (weighed e)

  -- ---- the first fault, the first abort and the count belong together

  abbrev pub AreCounted : Option F → Option F → ℕ → Type 0
  AreCounted (Some fault) abort n = 1 ≤ n
  AreCounted None (Some abort) n = 1 ≤ n
  AreCounted None None n = n ≡ 0

  abort-counted : (f : Option F) (x : F) (n : ℕ) → AreCounted f (Some x) (1 + n)
  abort-counted None x n = omega arith
  abort-counted (Some y) x n = omega arith

  counted-cons : (e : Ending F) (f a : Option F) (n : ℕ) → AreCounted f a n → AreCounted (or_else (fault_in e) f) (or_else (abort_in e) a) (weight e + n)
  counted-cons successful f a n h = let same : n ≡ 0 + n = omega arith in subst (AreCounted f a) same h
  counted-cons (aborted x) f a n h = abort-counted f x n
  counted-cons (failed x) f a n h = omega arith

  pub counted : (es : List (Ending F)) → AreCounted (first_fault es) (first_abort es) (unsuccessful es)
  counted [] = refl
  counted (e ∷ es) =
      subst (AreCounted (first_fault (e ∷ es)) (first_abort (e ∷ es))) (sym (unsuccessful-cons e es)) (counted-cons e (first_fault es) (first_abort es) (unsuccessful es) (counted es))

  -- ---- one ending more

  same_total : (s : Status) (f : Option F) (m n : ℕ) → m ≡ n → ◌≡◌ {A = Total F} (record { status = s; fault = f; more = m }) (record { status = s; fault = f; more = n })
  same_total s f m n e = ap (λ k. record { status = s; fault = f; more = k }) e

  total_by-more : (f a : Option F) (n : ℕ) (e : Ending F) → AreCounted f a n → total_by (or_else f (fault_in e)) (or_else a (abort_in e)) (n + weight e) ≡ with_ending (total_by f a n) e
  total_by-more None None n successful h = refl
  total_by-more None None n (aborted x) h = same_total statuses.Aborted (Some x) ((n + 1) - 1) 0 (omega (arith, h))
  total_by-more None None n (failed x) h = same_total statuses.Failed (Some x) ((n + 1) - 1) 0 (omega (arith, h))
  total_by-more None (Some y) n successful h = same_total statuses.Aborted (Some y) ((n + 0) - 1) (n - 1) (omega arith)
  total_by-more None (Some y) n (aborted x) h = same_total statuses.Aborted (Some y) ((n + 1) - 1) ((n - 1) + 1) (omega (arith, h))
  total_by-more None (Some y) n (failed x) h = same_total statuses.Failed (Some x) ((n + 1) - 1) ((n - 1) + 1) (omega (arith, h))
  total_by-more (Some z) a n successful h = same_total statuses.Failed (Some z) ((n + 0) - 1) (n - 1) (omega arith)
  total_by-more (Some z) a n (aborted x) h = same_total statuses.Failed (Some z) ((n + 1) - 1) ((n - 1) + 1) (omega (arith, h))
  total_by-more (Some z) a n (failed x) h = same_total statuses.Failed (Some z) ((n + 1) - 1) ((n - 1) + 1) (omega (arith, h))

  total_by-same : (f f' a a' : Option F) (n n' : ℕ) → f ≡ f' → a ≡ a' → n ≡ n' → total_by f a n ≡ total_by f' a' n'
  total_by-same f f' a a' n n' ef ea en = ap (λ x. total_by x a n) ef ∙ ap (λ x. total_by f' x n) ea ∙ ap (total_by f' a') en

  pub total_of-more : (es : List (Ending F)) (e : Ending F) → total_of (es ++ e ∷ []) ≡ with_ending (total_of es) e
  total_of-more es e =
      total_by-same _ _ _ _ _ _ (first_fault-append es (e ∷ []) ∙ ap (or_else (first_fault es)) (or_else-none (fault_in e))) (first_abort-append es (e ∷ []) ∙ ap (or_else (first_abort es)) (or_else-none (abort_in e)))
      (unsuccessful-append es (e ∷ []) ∙ ap (λ n. unsuccessful es + n) (weighed e))
      ∙ total_by-more (first_fault es) (first_abort es) (unsuccessful es) e (counted es)

  -- ---- closes after calls

  fault-of-close : (c : Option F) → fault_in (close_ending c) ≡ c
  fault-of-close None = refl
  fault-of-close (Some fault) = refl

  abort-of-close : (c : Option F) → abort_in (close_ending c) ≡ None
  abort-of-close None = refl
  abort-of-close (Some fault) = refl

  weight-of-close : (c : Option F) → weight (close_ending c) ≡ close_weight c
  weight-of-close None = refl
  weight-of-close (Some fault) = refl

  pub first_fault-closes : (cs : List (Option F)) → first_fault (map close_ending cs) ≡ first_of cs
  first_fault-closes [] = refl
  first_fault-closes (c ∷ cs) = ap (λ f. or_else f (first_fault (map close_ending cs))) (fault-of-close c) ∙ ap (or_else c) (first_fault-closes cs)

  pub first_abort-closes : (cs : List (Option F)) → first_abort (map close_ending cs) ≡ None
  first_abort-closes [] = refl
  first_abort-closes (c ∷ cs) = ap (λ f. or_else f (first_abort (map close_ending cs))) (abort-of-close c) ∙ first_abort-closes cs

  pub unsuccessful-closes : (cs : List (Option F)) → unsuccessful (map close_ending cs) ≡ close_faults cs
  unsuccessful-closes [] = refl
  unsuccessful-closes (c ∷ cs) =
      unsuccessful-cons (close_ending c) (map close_ending cs) ∙ ap (λ n. n + unsuccessful (map close_ending cs)) (weight-of-close c) ∙ ap (λ n. close_weight c + n) (unsuccessful-closes cs) ∙ sym (close_faults-cons c cs)

  total_by-closed : (f a g : Option F) (n m : ℕ) → AreCounted f a n → IsCountOf g m → total_by (or_else f g) a (n + m) ≡ with_closes (total_by f a n) g (m - 1)
  total_by-closed None None None n m h k = refl
  total_by-closed None (Some y) None n m h k = same_total statuses.Aborted (Some y) ((n + m) - 1) (n - 1) (omega (arith, k))
  total_by-closed (Some z) a None n m h k = same_total statuses.Failed (Some z) ((n + m) - 1) (n - 1) (omega (arith, k))
  total_by-closed None None (Some x) n m h k = same_total statuses.Failed (Some x) ((n + m) - 1) (0 + (m - 1)) (omega (arith, h, k))
  total_by-closed None (Some y) (Some x) n m h k = same_total statuses.Failed (Some x) ((n + m) - 1) (((n - 1) + 1) + (m - 1)) (omega (arith, h, k))
  total_by-closed (Some z) a (Some x) n m h k = same_total statuses.Failed (Some z) ((n + m) - 1) (((n - 1) + 1) + (m - 1)) (omega (arith, h, k))

  pub total_of-closed : (es : List (Ending F)) (cs : List (Option F)) → total_of (es ++ map close_ending cs) ≡ with_closes (total_of es) (first_of cs) (close_faults cs - 1)
  total_of-closed es cs =
      total_by-same _ _ _ _ _ _ (first_fault-append es (map close_ending cs) ∙ ap (or_else (first_fault es)) (first_fault-closes cs))
      (first_abort-append es (map close_ending cs) ∙ ap (or_else (first_abort es)) (first_abort-closes cs) ∙ or_else-none (first_abort es))
      (unsuccessful-append es (map close_ending cs) ∙ ap (λ n. unsuccessful es + n) (unsuccessful-closes cs))
      ∙ total_by-closed (first_fault es) (first_abort es) (first_of cs) (unsuccessful es) (close_faults cs) (counted es) (closes-counted cs)

  -- ---- whether one tells of a lack

  module _ (tells : F → Bool) where
    pub endings_tell-more : (es : List (Ending F)) (e : Ending F) → endings_tell tells (es ++ e ∷ []) ≡ (endings_tell tells es || ending_tells tells e)
    endings_tell-more es e = list_any-append (ending_tells tells) es (e ∷ []) ∙ ap (λ b. endings_tell tells es || b) (or-false (ending_tells tells e))

    close_tells : (c : Option F) → ending_tells tells (close_ending c) ≡ may_tell tells c
    close_tells None = refl
    close_tells (Some fault) = refl

    closes_tell : (cs : List (Option F)) → endings_tell tells (map close_ending cs) ≡ one_tells tells cs
    closes_tell [] = refl
    closes_tell (c ∷ cs) = ap (λ b. b || endings_tell tells (map close_ending cs)) (close_tells c) ∙ ap (λ b. may_tell tells c || b) (closes_tell cs)

    pub endings_tell-closed : (es : List (Ending F)) (cs : List (Option F)) → endings_tell tells (es ++ map close_ending cs) ≡ (endings_tell tells es || one_tells tells cs)
    endings_tell-closed es cs = list_any-append (ending_tells tells) es (map close_ending cs) ∙ ap (λ b. endings_tell tells es || b) (closes_tell cs)

  -- ---- the status tells whether all were successful

  passed-by : (e : Ending F) (f a : Option F) (b : Bool) (m n : ℕ) → passed (total_by f a m).status ≡ b → passed (total_by (or_else (fault_in e) f) (or_else (abort_in e) a) n).status ≡ (is_successful e && b)
  passed-by successful None None b m n e = e
  passed-by successful None (Some x) b m n e = e
  passed-by successful (Some x) a b m n e = e
  passed-by (aborted x) None a b m n e = refl
  passed-by (aborted x) (Some y) a b m n e = refl
  passed-by (failed x) f a b m n e = refl

  pub passed-all : (es : List (Ending F)) → passed (total_of es).status ≡ all_successful es
  passed-all [] = refl
  passed-all (e ∷ es) = passed-by e (first_fault es) (first_abort es) (all_successful es) _ _ (passed-all es)
