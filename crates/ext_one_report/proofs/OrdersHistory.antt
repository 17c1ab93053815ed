-- Numbers in a history: later ones are greater, and a value that stands in a cell stood there before, or was stored later.
use Rattle.std.proofs.Common.{◌≡◌, ℕ, ◌<◌, ◌≤◌, ◌⊎◌, inl, inr, Bool, true, [], ◌∷◌, ◌++◌, Contains, Option, None, Some, refl, ap, sym, subst, ◌∙◌, arith, append-nil, append_assoc, nat_eq, eq-eqb, if◌then◌else◌}
use Rattle.std.proofs.lemmas.Bool.Decides.{nat_tests}
use mathlib.Core.List.{IsPrefix}
use Rattle.ext_history.proofs.Lists.{bools, contains_cons, contains_here, contains_later, contains_none}
use Rattle.ext_model.specs.declared.event.Act.{Act}
use Rattle.ext_model.specs.declared.event.Act.TheVariants.{Keep, Put, Remove, Claim, Fill, Fail, Abandon, Seal}
use Rattle.ext_model.specs.declared.event.Event.{Event}
use Rattle.ext_model.specs.declared.slot.Slot.{Slot}
use Rattle.ext_model.specs.Events.{drawn_after, is_at, is_on, place_of, slot_after}
use Rattle.ext_model.specs.History.{History, IsAllowed, IsLegal, Limits, by, state_after}
use Rattle.ext_model.proofs.Words.{drawn-push, slots-push}
use Rattle.ext_one_report.proofs.OfPlan.{value_in}
use Rattle.ext_one_report.proofs.OfPlanStates.{value_stood}

-- ---- how many have been drawn

rises : (act : Act ℕ) (drawn : ℕ) → drawn ≤ drawn_after act drawn
rises (Keep number) drawn = omega arith
rises (Put at number) drawn = omega arith
rises (Remove at) drawn = omega arith
rises (Claim at) drawn = omega arith
rises (Fill at number) drawn = omega arith
rises (Fail at number) drawn = omega arith
rises (Abandon at) drawn = omega arith
rises (Seal at) drawn = omega arith

one_rises : (g : History) (e : Event ℕ) → (state_after g).drawn ≤ (state_after (g ++ e ∷ [])).drawn
one_rises g e = let is = drawn-push g e in let more = rises e.act (state_after g).drawn in omega (arith, is, more)

more_rises : (g more : History) → (state_after g).drawn ≤ (state_after (g ++ more)).drawn
more_rises g [] = subst (λ (h : History). (state_after g).drawn ≤ (state_after h).drawn) (sym (append-nil g)) (omega arith)
more_rises g (e ∷ more) =
    let one = one_rises g e in
    let rest = more_rises (g ++ e ∷ []) more in
    subst (λ (h : History). (state_after g).drawn ≤ (state_after h).drawn) (append_assoc g (e ∷ []) more) (omega (arith, one, rest))

pub prefix_rises : (g h : History) → IsPrefix g h → (state_after g).drawn ≤ (state_after h).drawn
prefix_rises g h on = subst (λ (k : History). (state_after g).drawn ≤ (state_after k).drawn) on.1 (more_rises g on.0)

-- a number that is drawn later is greater than all that were drawn before
pub later_drawn : (limits : Limits) (g more : History) (lane n : ℕ) → IsLegal limits (g ++ more) → Contains more (by lane (Keep n)) → (state_after g).drawn < n
later_drawn limits g [] lane n legal there = absurd (contains_none (by lane (Keep n)) there)
later_drawn limits g (e ∷ more) lane n legal there = elim (contains_cons e more (by lane (Keep n)) there) [
  | inl same ↦
      let allowed : IsAllowed limits g (by lane (Keep n)) = subst (IsAllowed limits g) same (legal.each g e more refl) in
      let next = allowed.next in
      omega (arith, next)
  | inr later ↦
      let one = one_rises g e in
      let rest = later_drawn limits (g ++ e ∷ []) more lane n (subst (IsLegal limits) (sym (append_assoc g (e ∷ []) more)) legal) later in
      omega (arith, one, rest)
]

-- ---- values in cells

-- the number that an act stores for a value
abbrev pub value_stored : Act ℕ → Option ℕ
value_stored (Keep number) = None
value_stored (Put at number) = Some number
value_stored (Remove at) = None
value_stored (Claim at) = None
value_stored (Fill at number) = Some number
value_stored (Fail at number) = None
value_stored (Abandon at) = None
value_stored (Seal at) = None

left_value : (lane : ℕ) (act : Act ℕ) (old : Option Slot) (a : ℕ) → value_in (slot_after lane act old) ≡ Some a → (value_stored act ≡ Some a) ⊎ (value_in old ≡ Some a)
left_value lane (Keep number) old a is = inr is
left_value lane (Put at number) old a is = inl is
left_value lane (Remove at) old a is = absurd (cc is)
left_value lane (Claim at) old a is = absurd (cc is)
left_value lane (Fill at number) old a is = inl is
left_value lane (Fail at number) old a is = absurd (cc is)
left_value lane (Abandon at) old a is = absurd (cc is)
left_value lane (Seal at) old a is = inr (value_stood old a is)

pub on_place : (cell : ℕ) (place : Option ℕ) → is_at nat_eq cell place ≡ true → place ≡ Some cell
on_place cell None on = absurd (cc on)
on_place cell (Some at) on = let e : at ≡ cell = grind (arith, nat_tests) in ap Some e

-- an act at the cell is on it
pub on_cell : (cell : ℕ) (act : Act ℕ) → place_of act ≡ Some cell → is_on nat_eq cell act ≡ true
on_cell cell act is = ap (is_at nat_eq cell) is ∙ eq-eqb cell cell refl

-- one of these events stored the value in the cell
pub record WasStored (events : History) (cell a : ℕ) : Type 0 where
  pub event : Event ℕ
  pub there : Contains events event
  pub on : place_of event.act ≡ Some cell
  pub stores : value_stored event.act ≡ Some a

one_stored : (g : History) (e : Event ℕ) (cell a : ℕ) → value_in ((state_after (g ++ e ∷ [])).slots cell) ≡ Some a
    → (value_in ((state_after g).slots cell) ≡ Some a) ⊎ ((place_of e.act ≡ Some cell) × (value_stored e.act ≡ Some a))
one_stored g e cell a is =
    let old = (state_after g).slots cell in
    let new = slot_after e.lane e.act old in
    let chosen : value_in (if is_on nat_eq cell e.act then new else old) ≡ Some a = ap value_in (sym (slots-push g e cell)) ∙ is in
    elim (bools (is_on nat_eq cell e.act)) [
      | inl on ↦ elim (left_value e.lane e.act old a (subst (λ (b : Bool). value_in (if b then new else old) ≡ Some a) on chosen)) [
        | inl stores ↦ inr (on_place cell (place_of e.act) on, stores)
        | inr stood ↦ inl stood
      ]
      | inr off ↦ inl (subst (λ (b : Bool). value_in (if b then new else old) ≡ Some a) off chosen)
    ]

pub stood_or_stored : (g more : History) (cell a : ℕ) → value_in ((state_after (g ++ more)).slots cell) ≡ Some a → (value_in ((state_after g).slots cell) ≡ Some a) ⊎ WasStored more cell a
stood_or_stored g [] cell a is = inl (subst (λ (h : History). value_in ((state_after h).slots cell) ≡ Some a) (append-nil g) is)
stood_or_stored g (e ∷ more) cell a is =
    elim (stood_or_stored (g ++ e ∷ []) more cell a (subst (λ (h : History). value_in ((state_after h).slots cell) ≡ Some a) (sym (append_assoc g (e ∷ []) more)) is)) [
      | inr w ↦ inr (record { event = w.event; there = contains_later e more w.event w.there; on = w.on; stores = w.stores })
      | inl stands ↦ elim (one_stored g e cell a stands) [
        | inl stood ↦ inl stood
        | inr now ↦ inr (record { event = e; there = contains_here e more; on = now.0; stores = now.1 })
      ]
    ]
