-- A number is drawn by one lane, and only that lane stores it. So what a lane knows of its own number holds in the whole history.
use Rattle.std.proofs.Common.{◌≡◌, ℕ, ◌+◌, ◌≤◌, inl, inr, ap, sym, subst, ◌∙◌, arith, [], ◌∷◌, ◌++◌, Some, Contains, IfSome, eq-eqb}
use Rattle.std.specs.Prelude.{◌==◌}
use Rattle.std.proofs.lemmas.List.Elements.{Contains-push_cases}
use Rattle.ext_model.specs.declared.event.Act.TheVariants.{Keep}
use Rattle.ext_model.specs.declared.event.Event.{Event}
use Rattle.ext_model.specs.History.{History, Limits, by, own, stored_number, state_after, IsAllowed, IsLegal}
use Rattle.ext_model.specs.CallActs.{MayStore}
use Rattle.ext_history.proofs.Lists.{contains_none, contains_filter, contains_from_filter, contains_filter_map, contains_from_filter_map}
use Rattle.ext_history.proofs.Legal.{legal_induct}
use Rattle.ext_model.proofs.Numbers.{bounded}
use Rattle.ext_model.proofs.Stored.{drew_own}

-- one lane drew it
abbrev pub OneDrew : History → Type 0
OneDrew h = (a b number : ℕ) → Contains h (by a (Keep number)) → Contains h (by b (Keep number)) → a ≡ b

-- a number that is drawn now was not drawn before
not_before : (limits : Limits) (h : History) (e : Event ℕ) (a b number : ℕ) → IsLegal limits h → IsAllowed limits h e → e ≡ by a (Keep number) → Contains h (by b (Keep number)) → ⊥
not_before limits h e a b number legal allowed is old =
    let P : Event ℕ → Type 0 = λ x. IsAllowed limits h x in
    let now : IsAllowed limits h (by a (Keep number)) = subst P is allowed in
    let next : number ≡ (state_after h).drawn + 1 = now.next in
    let least : number ≤ (state_after h).drawn = (bounded h legal).kept b number old in
    omega (arith, next, least)

pub drawn_once : {limits : Limits} (h : History) → IsLegal limits h → OneDrew h
drawn_once {limits} h legal = legal_induct (IsAllowed limits) OneDrew (λ a b number x y. absurd (contains_none _ x)) step h legal
  where
    step : (g : History) (e : Event ℕ) → IsLegal limits g → OneDrew g → IsAllowed limits g e → OneDrew (g ++ e ∷ [])
    step g e legal one allowed a b number x y = elim (Contains-push_cases g e (by a (Keep number)) x) [
      | inl old ↦ elim (Contains-push_cases g e (by b (Keep number)) y) [
        | inl older ↦ one a b number old older
        | inr now ↦ absurd (not_before limits g e b a number legal allowed now old)
      ]
      | inr is ↦ elim (Contains-push_cases g e (by b (Keep number)) y) [
        | inl old ↦ absurd (not_before limits g e a b number legal allowed is old)
        | inr now ↦ ap (λ (x : Event ℕ). x.lane) (sym is ∙ now)
      ]
    ]

-- what stores a number was done by the lane that drew it
pub storer : {limits : Limits} (h : History) (e : Event ℕ) (lane number : ℕ) → IsLegal limits h → Contains h (by lane (Keep number)) → Contains h e → stored_number e.act ≡ Some number → e.lane ≡ lane
storer h e lane number legal drew there is =
    let own_drew : Contains h (by e.lane (Keep number)) = subst (λ o. IfSome o (λ n. Contains h (by e.lane (Keep n)))) is (drew_own h legal e there) in
    drawn_once h legal e.lane lane number own_drew drew

pub own_may_store : {limits : Limits} (h : History) (lane number : ℕ) → IsLegal limits h → MayStore lane number (own lane h) → MayStore lane number h
own_may_store h lane number legal may =
    let drew : Contains h (by lane (Keep number)) = contains_from_filter (λ (e : Event ℕ). e.lane == lane) h (by lane (Keep number)) may.drew in
    record {
      drew = drew;
      fresh = λ there.
          let s = contains_from_filter_map (λ (e : Event ℕ). stored_number e.act) h number there in
          let mine : s.0.lane ≡ lane = storer h s.0 lane number legal drew s.1 s.2 in
          may.fresh (contains_filter_map (λ (e : Event ℕ). stored_number e.act) (own lane h) s.0 number s.2 (contains_filter (λ (e : Event ℕ). e.lane == lane) h s.0 (eq-eqb s.0.lane lane mine) s.1));
    }
