-- What is told of a node one of whose calls or closes failed with a fault of some kind: a fault of that kind, or another one, beside which there are further ones.
use Rattle.std.proofs.Common.{◌≡◌, ◌+◌, ◌≤◌, ◌-◌, lt-ltb, ℕ, Bool, true, false, List, [], ◌∷◌, ◌++◌, Option, Some, refl, arith, inl, inr, ◌⊎◌, ⊎_elim}
use Rattle.std.specs.Prelude.{cond, nat_lt, not, ◌||◌}
use Rattle.std.proofs.lemmas.List.Sums.{sum_by-cons}
use Rattle.ext_lifecycle.specs.Endings.{Ending, first_fault, is_successful, successful, aborted, failed, unsuccessful}

pub either-true : (a b : Bool) → (a ≡ true) ⊎ (b ≡ true) → (a || b) ≡ true
either-true true b h = refl
either-true false b h = ⊎_elim (λ is. absurd cc) (λ is. is) h

-- of several calls that weren't successful all but one are counted besides
pub some-more : (count : ℕ) → 2 ≤ count → nat_lt 0 (count - 1) ≡ true
some-more count some = lt-ltb 0 (count - 1) (omega (arith, some))

module _ {F : Type 0} (kind : F → Bool) where
  -- the fault that is told is of this kind, or so many are not all
  pub record TellsFault (fault : Option F) (count : ℕ) : Type 0 where
    pub one : F
    pub fault_is : fault ≡ Some one
    pub some : 1 ≤ count
    pub why : (kind one ≡ true) ⊎ (2 ≤ count)

  one-more : (e : Ending F) (rest : List (Ending F)) → is_successful e ≡ false → unsuccessful (e ∷ rest) ≡ 1 + unsuccessful rest
  one-more successful rest fails = absurd cc
  one-more (aborted fault) rest fails = sum_by-cons (λ e. cond (not (is_successful e)) 1 0) (aborted fault) rest
  one-more (failed fault) rest fails = sum_by-cons (λ e. cond (not (is_successful e)) 1 0) (failed fault) rest

  pub fault-told : (fault : F) → kind fault ≡ true → (before after : List (Ending F)) → TellsFault (first_fault (before ++ failed fault ∷ after)) (unsuccessful (before ++ failed fault ∷ after))
  fault-told fault is [] after = record { one = fault; fault_is = refl; some = omega (arith, one-more (failed fault) after refl); why = inl is }
  fault-told fault is (successful ∷ before) after =
      let rest = fault-told fault is before after in
      record { one = rest.one; fault_is = rest.fault_is; some = rest.some; why = rest.why }
  fault-told fault is (aborted other ∷ before) after =
      let rest = fault-told fault is before after in
      let more = one-more (aborted other) (before ++ failed fault ∷ after) refl in
      record { one = rest.one; fault_is = rest.fault_is; some = omega (arith, more, rest.some); why = inr (omega (arith, more, rest.some)) }
  fault-told fault is (failed other ∷ before) after =
      let rest = fault-told fault is before after in
      let more = one-more (failed other) (before ++ failed fault ∷ after) refl in
      record { one = other; fault_is = refl; some = omega (arith, more, rest.some); why = inr (omega (arith, more, rest.some)) }
