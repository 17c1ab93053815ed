-- Numbers are drawn once, and from 1 on.
use Rattle.std.proofs.Common.{◌≡◌, ℕ, ◌+◌, ◌≤◌, Bool, true, false, List, [], ◌∷◌, ◌++◌, refl, sym, subst, arith, Option, None, Some, Contains, nat_eq, append-nil, IfSome}
use Rattle.std.specs.List.{IsDistinct, list_any, cons_option}
use Rattle.std.specs.Cmp.{nat_eq_equiv}
use Rattle.std.proofs.lemmas.List.Elements.{filter_map-append}
use Rattle.std.proofs.lemmas.Map.Keys.{IsDistinct-push}
use Rattle.std.proofs.lemmas.Map.Views.{Contains-from_any}
use Rattle.std.proofs.lemmas.Bool.Decides.{nat_tests}
use Rattle.ext_model.specs.declared.event.Act.{Act}
use Rattle.ext_model.specs.declared.event.Act.TheVariants.{Keep, Put, Remove, Claim, Fill, Fail, Abandon, Seal}
use Rattle.ext_model.specs.declared.event.Event.{Event}
use Rattle.ext_model.specs.History.{History, Limits, by, drawn_number, state_after, IsAllowed, IsLegal}
use Rattle.ext_history.proofs.Legal.{legal_induct}
use Rattle.ext_history.proofs.Lists.{contains_from_filter_map}
use Rattle.ext_model.proofs.Numbers.{bounded}
use Rattle.ext_cells.specs.CellLaws.{numbers_drawn}
use Rattle.ext_cells.proofs.CellWords.{kept_least}

-- an act that draws a number is the keep of it
is_keep : (act : Act ℕ) (number : ℕ) → drawn_number act ≡ Some number → act ≡ Keep number
is_keep (Keep n) number e = cc e
is_keep (Put at n) number e = absurd (cc e)
is_keep (Remove at) number e = absurd (cc e)
is_keep (Claim at) number e = absurd (cc e)
is_keep (Fill at n) number e = absurd (cc e)
is_keep (Fail at n) number e = absurd (cc e)
is_keep (Abandon at) number e = absurd (cc e)
is_keep (Seal at) number e = absurd (cc e)

-- a number that was drawn was drawn by a lane
pub drawn_by : (h : History) (number : ℕ) → Contains (numbers_drawn h) number → (lane : ℕ) × Contains h (by lane (Keep number))
drawn_by h number there =
    let e = contains_from_filter_map (λ (x : Event ℕ). drawn_number x.act) h number there in
    let same : e.0 ≡ by e.0.lane (Keep number) = let act = is_keep e.0.act number e.2 in λ i. record { lane = e.0.lane; act = act i } in
    (e.0.lane, subst (Contains h) same e.1)

pub from_one : {limits : Limits} (h : History) (number : ℕ) → IsLegal limits h → Contains (numbers_drawn h) number → (1 ≤ number) × (number ≤ limits.numbers)
from_one h number legal there =
    let drew = drawn_by h number there in
    let b = bounded h legal in
    let below = b.kept drew.0 number drew.1 in
    let most = b.drawn in
    (kept_least h legal drew.0 number drew.1, omega (arith, below, most))

pub same_number : (x y : ℕ) → nat_eq x y ≡ true → x ≡ y
same_number x y e = grind (arith, nat_tests)

pub absent : (xs : List ℕ) (n : ℕ) (b : Bool) → list_any (nat_eq n) xs ≡ b → ¬ (Contains xs n) → b ≡ false
absent xs n true is none = absurd (none (Contains-from_any same_number n xs is))
absent xs n false is none = refl

one_more : (xs : List ℕ) (o : Option ℕ) → IsDistinct nat_eq xs → ((number : ℕ) → o ≡ Some number → ¬ (Contains xs number)) → IsDistinct nat_eq (xs ++ cons_option o [])
one_more xs None distinct fresh = subst (IsDistinct nat_eq) (sym (append-nil xs)) distinct
one_more xs (Some number) distinct fresh = IsDistinct-push nat_eq_equiv xs number distinct (absent xs number _ refl (fresh number refl))

next_is : (limits : Limits) (h : History) (act : Act ℕ) (lane number : ℕ) → IsAllowed limits h (by lane act) → drawn_number act ≡ Some number → number ≡ (state_after h).drawn + 1
next_is limits h act lane number allowed is = subst (λ o. IfSome o (λ n. n ≡ (state_after h).drawn + 1)) is allowed.next

-- no number is drawn twice
pub drawn_once : {limits : Limits} (h : History) → IsLegal limits h → IsDistinct nat_eq (numbers_drawn h)
unfolding IsDistinct
drawn_once {limits} h legal = legal_induct (IsAllowed limits) (λ g. IsDistinct nat_eq (numbers_drawn g)) none step h legal
  where
    none : IsDistinct nat_eq []
    none = tt

    step : (g : History) (e : Event ℕ) → IsLegal limits g → IsDistinct nat_eq (numbers_drawn g) → IsAllowed limits g e → IsDistinct nat_eq (numbers_drawn (g ++ e ∷ []))
    step g e legal distinct allowed =
        let fresh : (number : ℕ) → drawn_number e.act ≡ Some number → ¬ (Contains (numbers_drawn g) number) = λ number is there.
        let drew = drawn_by g number there in
        let below = (bounded g legal).kept drew.0 number drew.1 in
        let next = next_is limits g e.act e.lane number allowed is in
        absurd (omega (arith, below, next)) in
        subst (IsDistinct nat_eq) (sym (filter_map-append (λ (x : Event ℕ). drawn_number x.act) g (e ∷ []))) (one_more (numbers_drawn g) (drawn_number e.act) distinct fresh)
