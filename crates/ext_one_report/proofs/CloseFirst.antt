-- The first close that fails is that of the greatest number among those that do.
use Rattle.std.proofs.Common.{◌≡◌, ℕ, ◌≤◌, ◌<◌, inl, inr, Bool, true, false, List, [], ◌∷◌, map, Contains, Option, None, Some, refl, ap, sym, subst, ◌∙◌, arith}
use Rattle.std.specs.Prelude.{codes, if◌then◌else◌}
use Rattle.ext_history.proofs.Lists.{contains_cons, contains_here, contains_later, contains_none}
use Rattle.ext_model.specs.Closed.{first_of}
use Rattle.ext_model.specs.Closing.{IsBelow, IsFalling}
use Rattle.ext_plan.specs.StepTexts.{close_text}
use Rattle.ext_plan.specs.Values.{ValueText, begins_with, close_fault}
use Rattle.ext_one_report.proofs.CloseFaults.{closeable}
use Rattle.ext_one_report.proofs.CloseLists.{there_of, with_some}

-- ---- a value

-- a closeable value stands for itself
pub closeable_is : (found : Option ValueText) (v : ValueText) → closeable found ≡ Some v → (found ≡ Some v) × (v.closeable ≡ true)
closeable_is None v is = absurd (cc is)
closeable_is (Some w) v is = by w.closeable refl is
  where
    by : (b : Bool) → w.closeable ≡ b → (if b then Some w else None) ≡ Some v → (Some w ≡ Some v) × (v.closeable ≡ true)
    by true closes same = (same, let e : w ≡ v = cc same in sym (ap (λ (x : ValueText). x.closeable) e) ∙ closes)
    by false closes same = absurd (cc same)

-- a close that fails does so by the value's text, which it tells
pub fault_is : (v : ValueText) (text : List ℕ) → close_fault v ≡ Some text → (begins_with (codes "bad") v.text ≡ true) × (close_text v.text ≡ text)
fault_is v text is = by (begins_with (codes "bad") v.text) refl is
  where
    by : (b : Bool) → begins_with (codes "bad") v.text ≡ b → (let o : Option (List ℕ) = (if b then Some (close_text v.text) else None) in o ≡ Some text)
        → (begins_with (codes "bad") v.text ≡ true) × (close_text v.text ≡ text)
    by true bad told = (bad, let e : close_text v.text ≡ text = cc told in e)
    by false bad told = absurd (cc told)

-- ---- the first of a falling list

below_all : (bound : ℕ) (xs : List ℕ) (n : ℕ) → IsBelow bound xs → IsFalling xs → Contains xs n → n < bound
below_all bound [] n below falls there = absurd (contains_none n there)
below_all bound (x ∷ xs) n below falls there = elim (contains_cons x xs n there) [
  | inl same ↦ subst (λ k. k < bound) same below
  | inr later ↦ let more = below_all x xs n falls.0 falls.1 later in omega (arith, more, below)
]

-- the number of the first value whose close fails, in a list of numbers
pub record FirstBad (v : ℕ → Option ValueText) (numbers : List ℕ) (text : List ℕ) : Type 0 where
  pub number : ℕ
  pub there : Contains numbers number
  pub value : ValueText
  pub is : v number ≡ Some value
  pub fails : close_fault value ≡ Some text
  pub greatest : (other : ℕ) (w : ValueText) (told : List ℕ) → Contains numbers other → v other ≡ Some w → close_fault w ≡ Some told → other ≤ number

module _ (v : ℕ → Option ValueText) where
  abbrev told : List ℕ → Option (List ℕ)
  told numbers = first_of (map close_fault (there_of v numbers))

  -- one more in front whose close does not fail
  behind : (number : ℕ) (numbers : List ℕ) (text : List ℕ) → ((w : ValueText) (other : List ℕ) → v number ≡ Some w → close_fault w ≡ Some other → ⊥) → FirstBad v numbers text → FirstBad v (number ∷ numbers) text
  behind number numbers text none first = record {
    number = first.number;
    there = contains_later number numbers first.number first.there;
    value = first.value;
    is = first.is;
    fails = first.fails;
    greatest = λ other w said there is fails. elim (contains_cons number numbers other there) [
      | inl same ↦ absurd (none w said (subst (λ k. v k ≡ Some w) (sym same) is) fails)
      | inr later ↦ first.greatest other w said later is fails
    ];
  }

  pub first_bad : (numbers : List ℕ) (text : List ℕ) → IsFalling numbers → told numbers ≡ Some text → FirstBad v numbers text
  first_bad [] text falls is = absurd (cc is)
  first_bad (number ∷ numbers) text falls is = by_value (first_bad numbers text falls.1) (v number) refl is
    where
      by_fault : (told numbers ≡ Some text → FirstBad v numbers text) → (value : ValueText) → v number ≡ Some value → (fault : Option (List ℕ)) → close_fault value ≡ fault → first_of (fault ∷ map close_fault (there_of v numbers)) ≡ Some text
          → FirstBad v (number ∷ numbers) text
      by_fault again value has None good said =
          behind number numbers text
          (λ w other has' fails.
          let both : Some value ≡ Some w = sym has ∙ has' in
          let same : value ≡ w = cc both in
          absurd (cc (sym good ∙ (ap close_fault same ∙ fails))))
          (again said)
      by_fault again value has (Some fault) bad said = record {
        number = number;
        there = contains_here number numbers;
        value = value;
        is = has;
        fails = bad ∙ said;
        greatest = λ other w told there is' fails. elim (contains_cons number numbers other there) [
          | inl same ↦ omega (arith, same)
          | inr later ↦ let less = below_all number numbers other falls.0 falls.1 later in omega (arith, less)
        ];
      }

      by_value : (told numbers ≡ Some text → FirstBad v numbers text) → (found : Option ValueText) → v number ≡ found → first_of (map close_fault (with_some found (there_of v numbers))) ≡ Some text → FirstBad v (number ∷ numbers) text
      by_value again None none said =
          behind number numbers text (λ w other has fails. absurd (cc (sym none ∙ has))) (again said)
      by_value again (Some value) has said = by_fault again value has (close_fault value) refl said
