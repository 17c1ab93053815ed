-- What holds of the shares that are cut off one after another.
use Rattle.std.proofs.Common.{◌≡◌, ℕ, ◌+◌, ◌-◌, ◌*◌, ◌/◌, ◌%◌, ◌<◌, ◌≤◌, min, suc, List, [], ◌∷◌, length, map, ap, ap₂, ◌∙◌, sym, subst, arith, length-drop}
use native.Mathlib.Nat.{suc-mul, zero-mul}
use mathlib.Core.Logic.{⊎_elim}
use Rattle.std.proofs.lemmas.Bool.{cases_lt}
use Rattle.std.proofs.lemmas.Nat.{div-add-mod', mod_below}
use Rattle.std.specs.Prelude.{All}
use Rattle.std.proofs.lemmas.List.{drop-drop}
use Rattle.ext_crew.specs.Dealing.{Share, front, back, InTurn, WorkedFrom}
use Rattle.ext_crew.specs.InnerHands.{IsCut, EachShare, EachShareChanges, AllShares, AllSharesChange}
use Rattle.ext_crew.specs.declared.jobs.done.Done.{Done}
use Rattle.std.proofs.lemmas.List.Elements.{All-head, All-tail, All-cons}

-- a part of what is left is a part of the whole
pub back-back : {A B : Type 0} (n m : ℕ) (s : Share A B) → back n (back m s) ≡ back (m + n) s
back-back {A} {B} n m s =
    let join : List A → List B → Share A B = λ a b. record { first = a; second = b } in
    ap₂ join (drop-drop n m s.first) (drop-drop n m s.second)

-- what is left is cut in the same way
pub cut-rest : {A B : Type 0} (size longer count : ℕ) (s : Share A B) → IsCut size longer (suc count) s → IsCut size (longer - 1) count (back (size + min 1 longer) s)
cut-rest size longer count s cut =
    let m = size + min 1 longer in
    let a = length-drop m s.first in
    let b = length-drop m s.second in
    let k = suc-mul count size in
    (omega arith, omega arith, omega arith)

pub share_fits : {A B : Type 0} (size longer count : ℕ) (s : Share A B) → IsCut size longer (suc count) s → size + min 1 longer ≤ length s.first
share_fits size longer count s cut = let k = suc-mul count size in omega arith

module _ {H A B : Type 0} (P : H → Share A B → Type 0) (Q : H → Type 0) (C : Share A B → Type 0) (size : ℕ) (some : 0 < size) (at : (h : H) (u : Share A B) → Q h → C u → P h u) where
  -- what holds of each hand at each part holds of each hand and its share
  pub each_from : (longer : ℕ) (hands : List H) (s : Share A B) → IsCut size longer (length hands) s → All Q hands
      → ((from n : ℕ) → 0 < n → from + n ≤ length s.first → C (front n (back from s))) → EachShare P size longer hands s
  each_from longer [] s cut all parts = tt
  each_from longer (h ∷ hs) s cut all parts =
      let m = size + min 1 longer in
      let fits = share_fits size longer (length hs) s cut in
      let left = length-drop m s.first in (
        at h (front m s) (All-head Q h hs all) (parts 0 m (omega arith) (omega arith)),
        each_from (longer - 1) hs (back m s) (cut-rest size longer (length hs) s cut) (All-tail Q h hs all)
            (λ from n p l. subst (λ (u : Share A B). C (front n u)) (sym (back-back from m s)) (parts (m + from) n p (omega arith))),
      )

-- the same as a record, where P is read off the goal
pub shares_from : {H A B : Type 0} {P : H → Share A B → Type 0} (Q : H → Type 0) (C : Share A B → Type 0) {size longer : ℕ} {hands : List H} {s : Share A B}
    → 0 < size → IsCut size longer (length hands) s → All Q hands
    → ((from n : ℕ) → 0 < n → from + n ≤ length s.first → C (front n (back from s)))
    → ((h : H) (u : Share A B) → Q h → C u → P h u) → AllShares P size longer hands s
shares_from {P = P} Q C {size} {longer} {hands} {s} some cut all parts at = record { each = each_from P Q C size some at longer hands s cut all parts }

module _ {H A B : Type 0} (R : H → Share A B → H → Share A B → Type 0) (size : ℕ) where
  -- what each worker has done takes its share from before to after
  pub worked_from : {O : Type 0} (runs : ℕ → Share A B → O → Share A B → Type 0) (Q : H → Type 0) (done : H → List (Done O))
      → ((h : H) (s : Share A B) (k : H) (t : Share A B) → Q h → R h s k t → InTurn runs (done k) s t)
      → (longer : ℕ) (hs : List H) (s : Share A B) (ks : List H) (t : Share A B) → All Q hs → EachShareChanges R size longer hs s ks t
      → WorkedFrom runs size longer (map done ks) s t
  worked_from runs Q done at longer [] s [] t all changes = changes
  worked_from runs Q done at longer [] s (k ∷ ks) t all changes = absurd changes
  worked_from runs Q done at longer (h ∷ hs) s [] t all changes = absurd changes
  worked_from runs Q done at longer (h ∷ hs) s (k ∷ ks) t all changes =
      let m = size + min 1 longer in
      (at h (front m s) k (front m t) (All-head Q h hs all) changes.0, worked_from runs Q done at (longer - 1) hs (back m s) ks (back m t) (All-tail Q h hs all) changes.1)

  -- and what such a call says of a hand holds of each
  all_hands : (Q : H → Type 0) → ((h : H) (s : Share A B) (k : H) (t : Share A B) → R h s k t → Q k)
      → (longer : ℕ) (hs : List H) (s : Share A B) (ks : List H) (t : Share A B) → EachShareChanges R size longer hs s ks t → All Q ks
  all_hands Q at longer [] s [] t changes = λ k d l. absurd (omega arith)
  all_hands Q at longer [] s (k ∷ ks) t changes = absurd changes
  all_hands Q at longer (h ∷ hs) s [] t changes = absurd changes
  all_hands Q at longer (h ∷ hs) s (k ∷ ks) t changes =
      let m = size + min 1 longer in
      All-cons Q k ks (at h (front m s) k (front m t) changes.0) (all_hands Q at (longer - 1) hs (back m s) ks (back m t) changes.1)

  -- the same of the records
  pub worked-from : {O : Type 0} (runs : ℕ → Share A B → O → Share A B → Type 0) (Q : H → Type 0) (done : H → List (Done O)) {longer : ℕ} {hs : List H} {s : Share A B} {ks : List H} {t : Share A B}
      → All Q hs → AllSharesChange R size longer hs s ks t → ((h : H) (u : Share A B) (k : H) (v : Share A B) → Q h → R h u k v → InTurn runs (done k) u v)
      → WorkedFrom runs size longer (map done ks) s t
  worked-from runs Q done {longer} {hs} {s} {ks} {t} all changes at = worked_from runs Q done at longer hs s ks t all changes.each

  pub all-hands : (Q : H → Type 0) {longer : ℕ} {hs : List H} {s : Share A B} {ks : List H} {t : Share A B}
      → AllSharesChange R size longer hs s ks t → ((h : H) (u : Share A B) (k : H) (v : Share A B) → R h u k v → Q k) → All Q ks
  all-hands Q {longer} {hs} {s} {ks} {t} changes at = all_hands Q at longer hs s ks t changes.each

-- what holds of a hand and a share holds of the same, as references show them
pub moved_share : {H A B : Type 0} (X : H → Share A B → Type 0) {h k : H} {s t : Share A B} → k ≡ h → t.first ≡ s.first → t.second ≡ s.second → X h s → X k t
moved_share {H} {A} {B} X {h} {k} {s} {t} e f d x =
    let P : H → Type 0 = λ u. X u s in
    let Q : List A → Type 0 = λ u. X k (record { first = u; second = s.second }) in
    let R : List B → Type 0 = λ u. X k (record { first = t.first; second = u }) in
    subst R (sym d) (subst Q (sym f) (subst P (sym e) x))

-- where there are no more shares than elements, no share is empty
pub some_each : (n count : ℕ) → 0 < count → count ≤ n → 0 < n / count
some_each n count some few =
    let whole : n / count * count + n % count ≡ n = div-add-mod' n count in
    let rest : n % count < count = mod_below n count some in
    ⊎_elim (λ (l : 0 < n / count). l) (λ (l : n / count ≤ 0).
    let none : n / count ≡ 0 = omega arith in
    let zero : n / count * count ≡ 0 = ap (λ k. k * count) none ∙ zero-mul count in
    absurd (omega (arith, whole, rest, zero, few)))
    (cases_lt 0 (n / count))
