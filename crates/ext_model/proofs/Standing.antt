-- What stands stays: a number, of a value or of a fault, until it is removed, and a seal for good.
use Rattle.std.proofs.Common.{◌≡◌, ℕ, zero, ◌⊎◌, Bool, true, false, cond, [], ◌∷◌, ◌++◌, inl, inr, refl, ap, sym, subst, arith, Option, None, Some, append_assoc, Contains, nat_eq}
use Rattle.std.specs.Prelude.{if◌then◌else◌}
use Rattle.std.proofs.lemmas.Bool.Decides.{nat_tests}
use Rattle.ext_model.specs.declared.event.Act.{Act}
use Rattle.ext_model.specs.declared.event.Act.TheVariants.{Keep, Put, Remove, Claim, Fill, Fail, Abandon, Seal}
use Rattle.ext_model.specs.declared.event.Event.{Event}
use Rattle.ext_model.specs.declared.slot.Slot.{Slot}
use Rattle.ext_model.specs.declared.slot.Slot.TheVariants as slot
use Rattle.ext_model.specs.Events.{Happens, put_reply, remove_reply, claim_reply, end_reply, seal_reply, slot_after, is_on, apply}
use Rattle.ext_model.specs.History.{History, Limits, state_after, version_of, by, IsAllowed, IsLegal}
use Rattle.ext_history.proofs.Lists.{contains_later}
use Rattle.ext_model.proofs.Words.{after-push}
use Rattle.ext_model.proofs.Versions.{version-cons, none_on}

-- a number stands, or the cell is sealed
abbrev pub is_filled : Option Slot → Bool
is_filled None = false
is_filled (Some (slot.Entry number)) = true
is_filled (Some (slot.Fault number)) = true
is_filled (Some (slot.Claim lane)) = false
is_filled (Some (slot.Sealed kept)) = true

abbrev pub is_sealed : Option Slot → Bool
is_sealed None = false
is_sealed (Some (slot.Entry number)) = false
is_sealed (Some (slot.Fault number)) = false
is_sealed (Some (slot.Claim lane)) = false
is_sealed (Some (slot.Sealed kept)) = true

no_claim : (worn : Bool) (x : Option Slot) (answer : Option ℕ) → is_filled x ≡ true → claim_reply worn x ≡ Happens answer → ⊥
no_claim worn None answer filled happens = absurd (cc filled)
no_claim worn (Some (slot.Entry number)) answer filled happens = cc happens
no_claim worn (Some (slot.Fault number)) answer filled happens = cc happens
no_claim worn (Some (slot.Claim lane)) answer filled happens = absurd (cc filled)
no_claim worn (Some (slot.Sealed kept)) answer filled happens = cc happens

no_end : (lane : ℕ) (x : Option Slot) (answer : Option ℕ) → is_filled x ≡ true → end_reply lane x ≡ Happens answer → ⊥
no_end lane None answer filled happens = absurd (cc filled)
no_end lane (Some (slot.Entry number)) answer filled happens = cc happens
no_end lane (Some (slot.Fault number)) answer filled happens = cc happens
no_end lane (Some (slot.Claim by)) answer filled happens = absurd (cc filled)
no_end lane (Some (slot.Sealed kept)) answer filled happens = cc happens

either_filled : (b : Bool) (x y : Option Slot) → (b ≡ true → is_filled x ≡ true) → is_filled y ≡ true → is_filled (if b then x else y) ≡ true
either_filled true x y p q = p refl
either_filled false x y p q = q

filled_at : (before : History) (cell : ℕ) → is_filled ((state_after before).slots cell) ≡ true → (at : ℕ) → nat_eq at cell ≡ true → is_filled ((state_after before).slots at) ≡ true
filled_at before cell filled at is = let e : at ≡ cell = grind (arith, nat_tests) in subst (λ k. is_filled ((state_after before).slots k) ≡ true) (sym e) filled

module _ {limits : Limits} (before : History) (lane cell : ℕ) (filled : is_filled ((state_after before).slots cell) ≡ true) where
  -- an event that is no remove of a cell leaves it filled
  stays_filled : (act : Act ℕ) → IsAllowed limits before (by lane act) → (act ≡ Remove cell) ⊎ (is_filled ((apply nat_eq (state_after before) (by lane act)).slots cell) ≡ true)
  stays_filled (Keep number) a = inr filled
  stays_filled (Put at number) a = inr (either_filled (nat_eq at cell) _ _ (λ is. refl) filled)
  stays_filled (Remove at) a =
      elim (nat_eq at cell) as (λ b. nat_eq at cell ≡ b → (Remove at ≡ Remove cell) ⊎ (is_filled (if b then None else (state_after before).slots cell) ≡ true)) [
        | true ↦ λ is. let e : at ≡ cell = grind (arith, nat_tests) in inl (ap Remove e)
        | false ↦ λ is. inr filled
      ] refl
  stays_filled (Claim at) a = inr (either_filled (nat_eq at cell) _ _ (λ is. absurd (no_claim _ _ _ (filled_at before cell filled at is) a.happens.1)) filled)
  stays_filled (Fill at number) a = inr (either_filled (nat_eq at cell) _ _ (λ is. refl) filled)
  stays_filled (Fail at number) a = inr (either_filled (nat_eq at cell) _ _ (λ is. refl) filled)
  stays_filled (Abandon at) a = inr (either_filled (nat_eq at cell) _ _ (λ is. absurd (no_end _ _ _ (filled_at before cell filled at is) a.happens.1)) filled)
  stays_filled (Seal at) a = inr (either_filled (nat_eq at cell) _ _ (λ is. refl) filled)

-- an event that is never allowed where a number stands or a seal does
record NeedsEmpty (limits : Limits) (cell : ℕ) (e : Event ℕ) : Type 0 where
  never : (before : History) → is_filled ((state_after before).slots cell) ≡ true → IsAllowed limits before e → ⊥

fill_needs : {limits : Limits} (lane cell number : ℕ) → NeedsEmpty limits cell (by lane (Fill cell number))
fill_needs lane cell number = record { never = λ before filled a. no_end _ _ _ filled a.happens.1 }

claim_needs : {limits : Limits} (lane cell : ℕ) → NeedsEmpty limits cell (by lane (Claim cell))
claim_needs lane cell = record { never = λ before filled a. no_claim _ _ _ filled a.happens.1 }

-- where a number stands and such an event comes later, it is removed in between
removed_before : {limits : Limits} (before between : History) (last : Event ℕ) (cell : ℕ) (later : History) → NeedsEmpty limits cell last
    → IsLegal limits (before ++ (between ++ last ∷ later)) → is_filled ((state_after before).slots cell) ≡ true
    → (remover : ℕ) × Contains between (by remover (Remove cell))
removed_before before [] last cell later needs legal filled = absurd (needs.never before filled (legal.each before last later refl))
removed_before {limits} before (e ∷ between) last cell later needs legal filled =
    let a = legal.each before e (between ++ last ∷ later) refl in
    elim (stays_filled before e.lane cell filled e.act a) [
      | inl is ↦ (e.lane, (zero, omega arith, ap (λ act. by e.lane act) is))
      | inr still ↦
          let regrouped = append_assoc before (e ∷ []) (between ++ last ∷ later) in
          let r = removed_before (before ++ e ∷ []) between last cell later needs (subst (IsLegal limits) (sym regrouped) legal) (rw (after-push before e) still) in
          (r.0, contains_later e between (by r.0 (Remove cell)) r.1)
    ]

-- in a legal history a remove of a cell stands between two fills of it
pub remove_between_fills : {limits : Limits} (before between later : History) (lane cell number lane' number' : ℕ)
    → IsLegal limits (before ++ by lane (Fill cell number) ∷ (between ++ by lane' (Fill cell number') ∷ later))
    → (remover : ℕ) × Contains between (by remover (Remove cell))
remove_between_fills {limits} before between later lane cell number lane' number' legal =
    let e = by lane (Fill cell number) in
    let regrouped = append_assoc before (e ∷ []) (between ++ by lane' (Fill cell number') ∷ later) in
    let here : nat_eq cell cell ≡ true = grind (arith, nat_tests) in
    let s : (apply nat_eq (state_after before) e).slots cell ≡ Some (slot.Entry number) = ap (λ b. if b then Some (slot.Entry number) else (state_after before).slots cell) here in
    let filled : is_filled ((state_after (before ++ e ∷ [])).slots cell) ≡ true = rw (after-push before e, s) refl in
    removed_before (before ++ e ∷ []) between (by lane' (Fill cell number')) cell later (fill_needs lane' cell number') (subst (IsLegal limits) (sym regrouped) legal) filled

-- and between a fail of it and the next claim
pub remove_after_fail : {limits : Limits} (before between later : History) (lane cell number lane' : ℕ)
    → IsLegal limits (before ++ by lane (Fail cell number) ∷ (between ++ by lane' (Claim cell) ∷ later))
    → (remover : ℕ) × Contains between (by remover (Remove cell))
remove_after_fail {limits} before between later lane cell number lane' legal =
    let e = by lane (Fail cell number) in
    let regrouped = append_assoc before (e ∷ []) (between ++ by lane' (Claim cell) ∷ later) in
    let here : nat_eq cell cell ≡ true = grind (arith, nat_tests) in
    let s : (apply nat_eq (state_after before) e).slots cell ≡ Some (slot.Fault number) = ap (λ b. if b then Some (slot.Fault number) else (state_after before).slots cell) here in
    let filled : is_filled ((state_after (before ++ e ∷ [])).slots cell) ≡ true = rw (after-push before e, s) refl in
    removed_before (before ++ e ∷ []) between (by lane' (Claim cell)) cell later (claim_needs lane' cell) (subst (IsLegal limits) (sym regrouped) legal) filled

-- ---- seals

no_event : (b : Bool) → (b ≡ true → ⊥) → b ≡ false
no_event true never = absurd (never refl)
no_event false never = refl

no_put : (worn : Bool) (x : Option Slot) (answer : Option ℕ) → is_sealed x ≡ true → put_reply worn x ≡ Happens answer → ⊥
no_put worn None answer sealed happens = absurd (cc sealed)
no_put worn (Some (slot.Entry number)) answer sealed happens = absurd (cc sealed)
no_put worn (Some (slot.Fault number)) answer sealed happens = absurd (cc sealed)
no_put worn (Some (slot.Claim lane)) answer sealed happens = absurd (cc sealed)
no_put worn (Some (slot.Sealed kept)) answer sealed happens = cc happens

no_remove : (worn : Bool) (x : Option Slot) (answer : Option ℕ) → is_sealed x ≡ true → remove_reply worn x ≡ Happens answer → ⊥
no_remove worn None answer sealed happens = absurd (cc sealed)
no_remove worn (Some (slot.Entry number)) answer sealed happens = absurd (cc sealed)
no_remove worn (Some (slot.Fault number)) answer sealed happens = absurd (cc sealed)
no_remove worn (Some (slot.Claim lane)) answer sealed happens = absurd (cc sealed)
no_remove worn (Some (slot.Sealed kept)) answer sealed happens = cc happens

no_seal : (x : Option Slot) (answer : Option ℕ) → is_sealed x ≡ true → seal_reply x ≡ Happens answer → ⊥
no_seal None answer sealed happens = absurd (cc sealed)
no_seal (Some (slot.Entry number)) answer sealed happens = absurd (cc sealed)
no_seal (Some (slot.Fault number)) answer sealed happens = absurd (cc sealed)
no_seal (Some (slot.Claim lane)) answer sealed happens = absurd (cc sealed)
no_seal (Some (slot.Sealed kept)) answer sealed happens = cc happens

sealed_filled : (x : Option Slot) → is_sealed x ≡ true → is_filled x ≡ true
sealed_filled None sealed = absurd (cc sealed)
sealed_filled (Some (slot.Entry number)) sealed = refl
sealed_filled (Some (slot.Fault number)) sealed = refl
sealed_filled (Some (slot.Claim lane)) sealed = absurd (cc sealed)
sealed_filled (Some (slot.Sealed kept)) sealed = refl

sealed_at : (before : History) (cell : ℕ) → is_sealed ((state_after before).slots cell) ≡ true → (at : ℕ) → nat_eq at cell ≡ true → is_sealed ((state_after before).slots at) ≡ true
sealed_at before cell sealed at is = let e : at ≡ cell = grind (arith, nat_tests) in subst (λ k. is_sealed ((state_after before).slots k) ≡ true) (sym e) sealed

module _ {limits : Limits} (before : History) (lane cell : ℕ) (sealed : is_sealed ((state_after before).slots cell) ≡ true) where
  -- no event is allowed on a sealed cell
  none_on_sealed : (act : Act ℕ) → IsAllowed limits before (by lane act) → is_on nat_eq cell act ≡ false
  none_on_sealed (Keep number) a = refl
  none_on_sealed (Put at number) a = no_event _ (λ is. no_put _ _ _ (sealed_at before cell sealed at is) a.happens.1)
  none_on_sealed (Remove at) a = no_event _ (λ is. no_remove _ _ _ (sealed_at before cell sealed at is) a.happens.1)
  none_on_sealed (Claim at) a = no_event _ (λ is. no_claim _ _ _ (sealed_filled _ (sealed_at before cell sealed at is)) a.happens.1)
  none_on_sealed (Fill at number) a = no_event _ (λ is. no_end _ _ _ (sealed_filled _ (sealed_at before cell sealed at is)) a.happens.1)
  none_on_sealed (Fail at number) a = no_event _ (λ is. no_end _ _ _ (sealed_filled _ (sealed_at before cell sealed at is)) a.happens.1)
  none_on_sealed (Abandon at) a = no_event _ (λ is. no_end _ _ _ (sealed_filled _ (sealed_at before cell sealed at is)) a.happens.1)
  none_on_sealed (Seal at) a = no_event _ (λ is. no_seal _ _ (sealed_at before cell sealed at is) a.happens.1)

-- after a cell was sealed no event is on it
pub none_after_seal : {limits : Limits} (h rest : History) (cell : ℕ) → IsLegal limits (h ++ rest) → is_sealed ((state_after h).slots cell) ≡ true → version_of rest cell ≡ 0
none_after_seal h [] cell legal sealed = refl
none_after_seal {limits} h (e ∷ rest) cell legal sealed =
    let a = legal.each h e rest refl in
    let off : is_on nat_eq cell e.act ≡ false = none_on_sealed h e.lane cell sealed e.act a in
    let regrouped = append_assoc h (e ∷ []) rest in
    let s : (apply nat_eq (state_after h) e).slots cell ≡ (state_after h).slots cell = ap (λ b. if b then slot_after e.lane e.act ((state_after h).slots cell) else (state_after h).slots cell) off in
    let r : version_of rest cell ≡ 0 = none_after_seal (h ++ e ∷ []) rest cell (subst (IsLegal limits) (sym regrouped) legal) (rw (after-push h e, s) sealed) in
    let bit : ◌≡◌ {A = ℕ} (cond (is_on nat_eq cell e.act) 1 0) 0 = ap (λ b. cond b 1 0) off in
    omega (arith, version-cons e rest cell, r, bit)

-- so nothing is put, claimed or filled there in a legal history that goes on
pub nothing_after_seal : {limits : Limits} (h rest : History) (cell : ℕ) → IsLegal limits (h ++ rest) → is_sealed ((state_after h).slots cell) ≡ true
    → (e : Event ℕ) → Contains rest e → is_on nat_eq cell e.act ≡ false
nothing_after_seal h rest cell legal sealed e there = none_on rest cell (none_after_seal h rest cell legal sealed) e there
