-- Each number is stored at most once, and by the lane that drew it.
use Rattle.std.proofs.Common.{◌≡◌, ℕ, Bool, true, false, List, [], ◌∷◌, ◌++◌, inl, inr, refl, sym, subst, arith, Option, None, Some, Contains, nat_eq, append-nil, IfSome}
use Rattle.std.specs.List.{IsDistinct, list_any, cons_option}
use Rattle.std.specs.Cmp.{nat_eq_equiv}
use Rattle.std.proofs.lemmas.List.Elements.{Contains-push_cases, Contains-append_left, filter_map-append}
use Rattle.std.proofs.lemmas.Map.Keys.{IsDistinct-push}
use Rattle.std.proofs.lemmas.Map.Views.{Contains-from_any}
use Rattle.std.proofs.lemmas.Bool.Decides.{nat_tests}
use Rattle.ext_model.specs.declared.event.Act.TheVariants.{Keep}
use Rattle.ext_model.specs.declared.event.Event.{Event}
use Rattle.ext_model.specs.History.{History, Limits, by, stored, stored_number, IsAllowed, IsLegal}
use Rattle.ext_history.proofs.Legal.{legal_steps}

-- each number that an event of the history stored was drawn by that event's lane
abbrev pub DrewOwn : History → Type 0
DrewOwn h = (e : Event ℕ) → Contains h e → IfSome (stored_number e.act) (λ number. Contains h (by e.lane (Keep number)))

later_too : (lane : ℕ) (o : Option ℕ) (h : History) (x : Event ℕ) → IfSome o (λ number. Contains h (by lane (Keep number))) → IfSome o (λ number. Contains (h ++ x ∷ []) (by lane (Keep number)))
later_too lane None h x own = tt
later_too lane (Some number) h x own = Contains-append_left h (x ∷ []) _ own

pub drew_own : {limits : Limits} (h : History) → IsLegal limits h → DrewOwn h
drew_own h legal = legal_steps DrewOwn step [] h legal (λ e there. absurd (omega (arith, there.1)))
  where
    step : {limits : Limits} (before : History) (e : Event ℕ) → IsAllowed limits before e → DrewOwn before → DrewOwn (before ++ e ∷ [])
    step before e a own x there = elim (Contains-push_cases before e x there) [
      | inl old ↦ later_too x.lane (stored_number x.act) before e (own x old)
      | inr new ↦ let P : Event ℕ → Type 0 = λ y. IfSome (stored_number y.act) (λ number. Contains (before ++ e ∷ []) (by y.lane (Keep number))) in subst P new (later_too e.lane (stored_number e.act) before e a.drew)
    ]

same_number : (x y : ℕ) → nat_eq x y ≡ true → x ≡ y
same_number x y e = grind (arith, nat_tests)

absent : (xs : List ℕ) (n : ℕ) (b : Bool) → list_any (nat_eq n) xs ≡ b → ¬ (Contains xs n) → b ≡ false
absent xs n true is none = absurd (none (Contains-from_any same_number n xs is))
absent xs n false is none = refl

one_more : (xs : List ℕ) (o : Option ℕ) → IsDistinct nat_eq xs → IfSome o (λ number. ¬ (Contains xs number)) → IsDistinct nat_eq (xs ++ cons_option o [])
one_more xs None distinct fresh = subst (IsDistinct nat_eq) (sym (append-nil xs)) distinct
one_more xs (Some number) distinct fresh = IsDistinct-push nat_eq_equiv xs number distinct (absent xs number _ refl fresh)

-- no number is stored twice
pub stored_once : {limits : Limits} (h : History) → IsLegal limits h → IsDistinct nat_eq (stored h)
unfolding IsDistinct
stored_once h legal = legal_steps (λ g. IsDistinct nat_eq (stored g)) step [] h legal none
  where
    step : {limits : Limits} (before : History) (e : Event ℕ) → IsAllowed limits before e → IsDistinct nat_eq (stored before) → IsDistinct nat_eq (stored (before ++ e ∷ []))
    step before e a distinct = subst (IsDistinct nat_eq) (sym (filter_map-append (λ (x : Event ℕ). stored_number x.act) before (e ∷ []))) (one_more (stored before) (stored_number e.act) distinct a.fresh)

    none : IsDistinct nat_eq []
    none = tt
