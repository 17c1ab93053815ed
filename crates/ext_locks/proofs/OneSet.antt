-- Requests have one merged set.
use Rattle.std.proofs.Common.{◌≡◌, ◌⊎◌, ◌==◌, ◌&&◌, ◌||◌, ℕ, suc, ◌+◌, ◌-◌, ◌<◌, ◌≤◌, Bool, true, false, List, [], ◌∷◌, map, refl, sym, ap, ◌∙◌, subst, ⊎_elim, inl, inr, true≢false, arith}
use Rattle.std.specs.Prelude.{slice_index}
use Rattle.std.specs.List.Sorted.{IsStrictlyIncreasing}
use Rattle.std.proofs.lemmas.Bool.{cases_lt, eq-eqb, ne_eqb, and_from, and_parts, eqb-true}
use Rattle.std.proofs.lemmas.Option.{slice_get_within, get_or_from_slice_get}
use Rattle.ext_locks.specs.declared.event.LockMode.{LockMode}
use Rattle.ext_locks.specs.declared.event.LockMode.TheVariants.{Read, ReadWrite}
use Rattle.ext_locks.specs.declared.request.Resource.{Resource}
use Rattle.ext_locks.specs.declared.request.Resource.TheVariants.{Global, Named}
use Rattle.ext_locks.specs.declared.request.LockRequest.{LockRequest}
use Rattle.ext_locks.specs.History.{same_mode}
use Rattle.ext_locks.specs.Sets.{is_lock, wants}
use Rattle.ext_locks.specs.Names.{AreDifferent, IsNumberOf, is_as_strong, AsksFor, IsGranted, IsMerged}
use Rattle.ext_locks.proofs.Histories.{same_mode_self, same_mode-true}

-- ---- lists of locks whose numbers rise

-- the numbers rise, from this one on
abbrev pub Rises : ℕ → List (ℕ × LockMode) → Type 0
Rises n [] = Unit {0}
Rises n (x ∷ set) = (n ≤ x.0) × Rises (suc x.0) set

rises : (n : ℕ) (x : ℕ × LockMode) (set : List (ℕ × LockMode)) → n ≤ x.0 → IsStrictlyIncreasing (x.0 ∷ map (λ (lock : ℕ × LockMode). lock.0) set) → Rises n (x ∷ set)
rises n x [] low inc = (low, tt)
rises n x (y ∷ set) low inc = (
  low,
  rises (suc x.0) y set (let first = inc 0 (omega arith) in omega arith)
      (λ k below. subst (λ j. slice_index (y.0 ∷ map (λ (lock : ℕ × LockMode). lock.0) set) k < slice_index (x.0 ∷ y.0 ∷ map (λ (lock : ℕ × LockMode). lock.0) set) j)
      (let e : suc k + 1 ≡ suc (k + 1) = omega arith in e) (inc (suc k) (omega arith))),
)

rises_all : (set : List (ℕ × LockMode)) → IsStrictlyIncreasing (map (λ (lock : ℕ × LockMode). lock.0) set) → Rises 0 set
rises_all [] inc = tt
rises_all (x ∷ set) inc = rises 0 x set (omega arith) inc

or_right : (a b : Bool) → a ≡ false → (a || b) ≡ true → b ≡ true
or_right true b isnt is = absurd (true≢false isnt)
or_right false b isnt is = is

or_left : (a b : Bool) → b ≡ false → (a || b) ≡ true → a ≡ true
or_left true b isnt is = refl
or_left false b isnt is = absurd (true≢false (sym is ∙ isnt))

or_more : (a b : Bool) → b ≡ true → (a || b) ≡ true
or_more true b is = refl
or_more false b is = is

or_here : (a b : Bool) → a ≡ true → (a || b) ≡ true
or_here true b is = refl
or_here false b is = absurd (true≢false (sym is))

-- a number below all of them has no lock
low_unwanted : (n : ℕ) (set : List (ℕ × LockMode)) (lock : ℕ) (mode : LockMode) → Rises n set → lock < n → wants set lock mode ≡ true → ⊥
low_unwanted n [] lock mode up low is = true≢false (sym is)
low_unwanted n (x ∷ set) lock mode up low is =
    low_unwanted (suc x.0) set lock mode up.1 (let b = up.0 in omega arith) (or_right _ _ (ap (λ b. b && same_mode x.1 mode) (ne_eqb x.0 lock (let b = up.0 in omega arith))) is)

-- the first lock, where it is wanted there
record Here (x : ℕ × LockMode) (lock : ℕ) (mode : LockMode) : Type 0 where
  pub number : x.0 ≡ lock
  pub mode_is : x.1 ≡ mode

here : (x : ℕ × LockMode) (lock : ℕ) (mode : LockMode) → is_lock lock mode x ≡ true → Here x lock mode
here x lock mode is = let p = and_parts (x.0 == lock) (same_mode x.1 mode) is in record { number = eqb-true _ _ p.0; mode_is = same_mode-true _ _ p.1 }

where_wanted : (x : ℕ × LockMode) (set : List (ℕ × LockMode)) (lock : ℕ) (mode : LockMode) → wants (x ∷ set) lock mode ≡ true → Here x lock mode ⊎ (wants set lock mode ≡ true)
where_wanted x set lock mode is = go (is_lock lock mode x) refl is
  where
    go : (b : Bool) → is_lock lock mode x ≡ b → (b || wants set lock mode) ≡ true → Here x lock mode ⊎ (wants set lock mode ≡ true)
    go true at it = inl (here x lock mode at)
    go false at it = inr it

-- a lock is wanted in one mode
one_mode : (n : ℕ) (set : List (ℕ × LockMode)) (lock : ℕ) (a b : LockMode) → Rises n set → wants set lock a ≡ true → wants set lock b ≡ true → a ≡ b
one_mode n [] lock a b up p q = absurd (true≢false (sym p))
one_mode n (x ∷ set) lock a b up p q =
    ⊎_elim
    (λ (s : Here x lock a). ⊎_elim
    (λ (t : Here x lock b). sym s.mode_is ∙ t.mode_is)
    (λ t. absurd (low_unwanted (suc x.0) set lock b up.1 (let e = s.number in omega arith) t))
    (where_wanted x set lock b q))
    (λ s. ⊎_elim
    (λ (t : Here x lock b). absurd (low_unwanted (suc x.0) set lock a up.1 (let e = t.number in omega arith) s))
    (λ t. one_mode (suc x.0) set lock a b up.1 s t)
    (where_wanted x set lock b q))
    (where_wanted x set lock a p)

first_wanted : (x : ℕ × LockMode) (set : List (ℕ × LockMode)) → wants (x ∷ set) x.0 x.1 ≡ true
first_wanted x set = or_here _ _ (and_from _ _ (eq-eqb x.0 x.0 refl) (same_mode_self x.1))

-- what is wanted past the first lock of one list is wanted past that of the other
wanted_past : (x y : ℕ × LockMode) (set other : List (ℕ × LockMode)) → Rises (suc x.0) set → x.0 ≡ y.0 → ((lock : ℕ) (mode : LockMode) → wants (x ∷ set) lock mode ≡ true → wants (y ∷ other) lock mode ≡ true)
    → (lock : ℕ) (mode : LockMode) → wants set lock mode ≡ true → wants other lock mode ≡ true
wanted_past x y set other up same all lock mode is =
    ⊎_elim
    (λ (h : Here y lock mode). absurd (low_unwanted (suc x.0) set lock mode up (let e = h.number in omega arith) is))
    (λ w. w)
    (where_wanted y other lock mode (all lock mode (or_more _ _ is)))

-- two lists that want the same locks are equal
same_locks : (n m : ℕ) (set other : List (ℕ × LockMode)) → Rises n set → Rises m other → ((lock : ℕ) (mode : LockMode) → wants set lock mode ≡ true → wants other lock mode ≡ true)
    → ((lock : ℕ) (mode : LockMode) → wants other lock mode ≡ true → wants set lock mode ≡ true) → set ≡ other
same_locks n m [] [] up over to from = refl
same_locks n m [] (y ∷ other) up over to from = absurd (true≢false (sym (from y.0 y.1 (first_wanted y other))))
same_locks n m (x ∷ set) [] up over to from = absurd (true≢false (sym (to x.0 x.1 (first_wanted x set))))
same_locks n m (x ∷ set) (y ∷ other) up over to from =
    let number = first_number in
    let mode = one_mode m (y ∷ other) y.0 x.1 y.1 over (subst (λ k. wants (y ∷ other) k x.1 ≡ true) number (to x.0 x.1 (first_wanted x set))) (first_wanted y other) in
    let tail = same_locks (suc x.0) (suc y.0) set other up.1 over.1 (wanted_past x y set other up.1 number to) (wanted_past y x other set over.1 (sym number) from) in
    (λ i. (number i, mode i) ∷ tail i)
  where
    first_number : x.0 ≡ y.0
    first_number =
        ⊎_elim
        (λ low. absurd (low_unwanted y.0 (y ∷ other) x.0 x.1 (omega arith, over.1) low (to x.0 x.1 (first_wanted x set))))
        (λ (high : y.0 ≤ x.0). ⊎_elim
        (λ low. absurd (low_unwanted x.0 (x ∷ set) y.0 y.1 (omega arith, up.1) low (from y.0 y.1 (first_wanted y other))))
        (λ (low : x.0 ≤ y.0). omega arith)
        (cases_lt y.0 x.0))
        (cases_lt x.0 y.0)

-- ---- merged sets

-- a resource has one number
one_number : (names : List (List ℕ)) (resource : Resource) (lock other : ℕ) → AreDifferent names → IsNumberOf names resource lock → IsNumberOf names resource other → lock ≡ other
one_number names Global lock other apart a b = a ∙ sym b
one_number names (Named name) lock other apart a b =
    let p = slice_get_within names (lock - 1) name.now a.name_at in
    let q = slice_get_within names (other - 1) name.now b.name_at in
    let u = a.positive in
    let v = b.positive in
    ⊎_elim
    (λ low. absurd (apart (lock - 1) (other - 1) name.now low q (get_or_from_slice_get names (lock - 1) name.now name.now a.name_at ∙ sym (get_or_from_slice_get names (other - 1) name.now name.now b.name_at))))
    (λ (high : other - 1 ≤ lock - 1). ⊎_elim
    (λ low. absurd (apart (other - 1) (lock - 1) name.now low p (get_or_from_slice_get names (other - 1) name.now name.now b.name_at ∙ sym (get_or_from_slice_get names (lock - 1) name.now name.now a.name_at))))
    (λ (low : lock - 1 ≤ other - 1). omega arith)
    (cases_lt (other - 1) (lock - 1)))
    (cases_lt (lock - 1) (other - 1))

both_strong : (a b : LockMode) → is_as_strong a b ≡ true → is_as_strong b a ≡ true → a ≡ b
both_strong Read Read p q = refl
both_strong Read ReadWrite p q = absurd (true≢false (sym p))
both_strong ReadWrite Read p q = absurd (true≢false (sym q))
both_strong ReadWrite ReadWrite p q = refl

-- what a set wants, in a mode that is as strong
record Stronger (set : List (ℕ × LockMode)) (lock : ℕ) (mode : LockMode) : Type 0 where
  pub wanted_as : LockMode
  pub wanted : wants set lock wanted_as ≡ true
  pub strong : is_as_strong wanted_as mode ≡ true

module _ (names : List (List ℕ)) (requests : List LockRequest) (apart : AreDifferent names) where
  granted_as : (other : List (ℕ × LockMode)) (lock : ℕ) (mode : LockMode) (r : LockRequest) → AsksFor names lock mode r → IsGranted names other r → Stronger other lock mode
  granted_as other lock mode r asks g = record {
    wanted_as = g.mode;
    wanted = subst (λ k. wants other k g.mode ≡ true) (one_number names r.resource g.lock lock apart g.number asks.number) g.wanted;
    strong = subst (λ m. is_as_strong g.mode m ≡ true) asks.mode_is g.strong;
  }

  also : (set other : List (ℕ × LockMode)) → IsMerged names requests set → IsMerged names requests other → (lock : ℕ) (mode : LockMode) → wants set lock mode ≡ true → Stronger other lock mode
  also set other a b lock mode is = let r = a.asked lock mode is in granted_as other lock mode r.1 r.4 (subst (IsGranted names other) r.3 (b.granted r.0 r.1 r.2))

  covers : (set other : List (ℕ × LockMode)) → IsMerged names requests set → IsMerged names requests other → (lock : ℕ) (mode : LockMode) → wants set lock mode ≡ true → wants other lock mode ≡ true
  covers set other a b lock mode is =
      let there = also set other a b lock mode is in
      let back = also other set b a lock there.wanted_as there.wanted in
      let same = one_mode 0 set lock back.wanted_as mode (rises_all set a.ordered) back.wanted is in
      subst (λ m. wants other lock m ≡ true) (both_strong there.wanted_as mode there.strong (subst (λ m. is_as_strong m there.wanted_as ≡ true) same back.strong)) there.wanted

  pub one_merged : (set other : List (ℕ × LockMode)) → IsMerged names requests set → IsMerged names requests other → set ≡ other
  one_merged set other a b = same_locks 0 0 set other (rises_all set a.ordered) (rises_all other b.ordered) (covers set other a b) (covers other set b a)
