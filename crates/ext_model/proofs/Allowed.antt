-- What is allowed, act by act.
use Rattle.std.proofs.Common.{◌≡◌, ℕ, ◌+◌, ◌≤◌, ◌<◌, Bool, true, false, refl, ap, ◌∙◌, arith, eqb-true, eq-eqb, Option, None, Some}
use Rattle.std.specs.Prelude.{nat_lt, if◌then◌else◌, ◌==◌, ◌↔◌}
use Rattle.std.proofs.lemmas.Bool.{lt-ltb, le-ltb, ltb-true, ltb-false}
use Rattle.ext_model.specs.declared.event.Act.{Act}
use Rattle.ext_model.specs.declared.event.Act.TheVariants.{Keep, Put, Remove, Claim, Fill, Fail, Abandon, Seal}
use Rattle.ext_model.specs.declared.slot.Slot.{Slot}
use Rattle.ext_model.specs.declared.slot.Slot.TheVariants as slot
use Rattle.ext_model.specs.Events.{Happens, Refuses, NumbersFull, Barred, keep_reply, put_reply, remove_reply, claim_reply, end_reply, seal_reply}
use Rattle.ext_model.specs.History.{History, Limits, by, state_after, IsAllowed}
use Rattle.ext_model.specs.Allowed.{IsOpen, IsPresent, Permits, MayHappen}

-- ---- what a reply that happens says

keep_says : (numbers drawn : ℕ) (b : Bool) (answer : Option ℕ) → nat_lt drawn numbers ≡ b → (if b then Happens (Some (drawn + 1)) else Refuses NumbersFull) ≡ Happens answer → drawn < numbers
keep_says numbers drawn true answer is happens = ltb-true drawn numbers is
keep_says numbers drawn false answer is happens = absurd (cc happens)

put_says : (worn : Bool) (x : Option Slot) (answer : Option ℕ) → put_reply worn x ≡ Happens answer → IsOpen x × (worn ≡ false)
put_says true None answer happens = absurd (cc happens)
put_says false None answer happens = (tt, refl)
put_says true (Some (slot.Entry number)) answer happens = absurd (cc happens)
put_says true (Some (slot.Fault number)) answer happens = absurd (cc happens)
put_says false (Some (slot.Entry number)) answer happens = (tt, refl)
put_says false (Some (slot.Fault number)) answer happens = (tt, refl)
put_says worn (Some (slot.Claim lane)) answer happens = absurd (cc happens)
put_says worn (Some (slot.Sealed kept)) answer happens = absurd (cc happens)

remove_says : (worn : Bool) (x : Option Slot) (answer : Option ℕ) → remove_reply worn x ≡ Happens answer → IsPresent x × (worn ≡ false)
remove_says worn None answer happens = absurd (cc happens)
remove_says true (Some (slot.Entry number)) answer happens = absurd (cc happens)
remove_says true (Some (slot.Fault number)) answer happens = absurd (cc happens)
remove_says false (Some (slot.Entry number)) answer happens = (tt, refl)
remove_says false (Some (slot.Fault number)) answer happens = (tt, refl)
remove_says worn (Some (slot.Claim lane)) answer happens = absurd (cc happens)
remove_says worn (Some (slot.Sealed kept)) answer happens = absurd (cc happens)

claim_says : (worn : Bool) (x : Option Slot) (answer : Option ℕ) → claim_reply worn x ≡ Happens answer → (x ≡ None) × (worn ≡ false)
claim_says true None answer happens = absurd (cc happens)
claim_says false None answer happens = (refl, refl)
claim_says worn (Some (slot.Entry number)) answer happens = absurd (cc happens)
claim_says worn (Some (slot.Fault number)) answer happens = absurd (cc happens)
claim_says worn (Some (slot.Claim lane)) answer happens = absurd (cc happens)
claim_says worn (Some (slot.Sealed kept)) answer happens = absurd (cc happens)

own_claim : (lane by : ℕ) (b : Bool) (answer : Option ℕ) → (by == lane) ≡ b → (if b then Happens None else Refuses Barred) ≡ Happens answer → Some (slot.Claim by) ≡ Some (slot.Claim lane)
own_claim lane by true answer is happens = ap (λ n. Some (slot.Claim n)) (eqb-true by lane is)
own_claim lane by false answer is happens = absurd (cc happens)

end_says : (lane : ℕ) (x : Option Slot) (answer : Option ℕ) → end_reply lane x ≡ Happens answer → x ≡ Some (slot.Claim lane)
end_says lane None answer happens = absurd (cc happens)
end_says lane (Some (slot.Entry number)) answer happens = absurd (cc happens)
end_says lane (Some (slot.Fault number)) answer happens = absurd (cc happens)
end_says lane (Some (slot.Claim by)) answer happens = own_claim lane by _ answer refl happens
end_says lane (Some (slot.Sealed kept)) answer happens = absurd (cc happens)

seal_says : (x : Option Slot) (answer : Option ℕ) → seal_reply x ≡ Happens answer → IsOpen x
seal_says None answer happens = tt
seal_says (Some (slot.Entry number)) answer happens = tt
seal_says (Some (slot.Fault number)) answer happens = tt
seal_says (Some (slot.Claim lane)) answer happens = absurd (cc happens)
seal_says (Some (slot.Sealed kept)) answer happens = absurd (cc happens)

-- ---- what makes a reply happen

keep_does : (numbers drawn : ℕ) → drawn < numbers → keep_reply numbers drawn ≡ Happens (Some (drawn + 1))
keep_does numbers drawn less = ap (λ b. if b then Happens (Some (drawn + 1)) else Refuses NumbersFull) (lt-ltb drawn numbers less)

put_does : (worn : Bool) (x : Option Slot) → worn ≡ false → IsOpen x → (answer : Option ℕ) × (put_reply worn x ≡ Happens answer)
put_does true x fresh open_there = absurd (cc fresh)
put_does false None fresh open_there = (None, refl)
put_does false (Some (slot.Entry number)) fresh open_there = (Some number, refl)
put_does false (Some (slot.Fault number)) fresh open_there = (Some number, refl)
put_does false (Some (slot.Claim lane)) fresh open_there = absurd open_there
put_does false (Some (slot.Sealed kept)) fresh open_there = absurd open_there

remove_does : (worn : Bool) (x : Option Slot) → worn ≡ false → IsPresent x → (answer : Option ℕ) × (remove_reply worn x ≡ Happens answer)
remove_does true x fresh present = absurd (cc fresh)
remove_does false None fresh present = absurd present
remove_does false (Some (slot.Entry number)) fresh present = (Some number, refl)
remove_does false (Some (slot.Fault number)) fresh present = (Some number, refl)
remove_does false (Some (slot.Claim lane)) fresh present = absurd present
remove_does false (Some (slot.Sealed kept)) fresh present = absurd present

claim_does : (worn : Bool) (x : Option Slot) → worn ≡ false → x ≡ None → (answer : Option ℕ) × (claim_reply worn x ≡ Happens answer)
claim_does worn x fresh empty = (None, ap (λ b. claim_reply b x) fresh ∙ ap (claim_reply false) empty)

end_does : (lane : ℕ) (x : Option Slot) → x ≡ Some (slot.Claim lane) → (answer : Option ℕ) × (end_reply lane x ≡ Happens answer)
end_does lane x claimed = (None, ap (end_reply lane) claimed ∙ ap (λ b. if b then Happens None else Refuses Barred) (eq-eqb lane lane refl))

seal_does : (x : Option Slot) → IsOpen x → (answer : Option ℕ) × (seal_reply x ≡ Happens answer)
seal_does None open_there = (None, refl)
seal_does (Some (slot.Entry number)) open_there = (Some number, refl)
seal_does (Some (slot.Fault number)) open_there = (None, refl)
seal_does (Some (slot.Claim lane)) open_there = absurd open_there
seal_does (Some (slot.Sealed kept)) open_there = absurd open_there

-- ---- both ways

module _ (limits : Limits) (h : History) (lane : ℕ) where
  permitted : (act : Act ℕ) → IsAllowed limits h (by lane act) → Permits limits h lane act
  permitted (Keep number) a =
      let less = keep_says limits.numbers (state_after h).drawn _ a.happens.0 refl a.happens.1 in
      let next : number ≡ (state_after h).drawn + 1 = a.next in
      (next, omega (arith, less, next))
  permitted (Put at number) a = let s = put_says _ _ a.happens.0 a.happens.1 in (a.within, s.0, ltb-false _ _ s.1, record { drew = a.drew; fresh = a.fresh })
  permitted (Remove at) a = let s = remove_says _ _ a.happens.0 a.happens.1 in (a.within, s.0, ltb-false _ _ s.1)
  permitted (Claim at) a = let s = claim_says _ _ a.happens.0 a.happens.1 in (a.within, s.0, ltb-false _ _ s.1)
  permitted (Fill at number) a = (a.within, end_says lane _ a.happens.0 a.happens.1, record { drew = a.drew; fresh = a.fresh })
  permitted (Fail at number) a = (a.within, end_says lane _ a.happens.0 a.happens.1, record { drew = a.drew; fresh = a.fresh }, a.keeps)
  permitted (Abandon at) a = (a.within, end_says lane _ a.happens.0 a.happens.1)
  permitted (Seal at) a = (a.within, seal_says _ a.happens.0 a.happens.1)

  pub may_happen : (act : Act ℕ) → IsAllowed limits h (by lane act) → MayHappen limits h lane act
  may_happen act a = (a.lane, permitted act a)

  may_be : lane < limits.lanes → (act : Act ℕ) → Permits limits h lane act → IsAllowed limits h (by lane act)
  may_be mine (Keep number) m =
      let next : number ≡ (state_after h).drawn + 1 = m.0 in
      let few : number ≤ limits.numbers = m.1 in
      record { lane = mine; within = tt; happens = (Some ((state_after h).drawn + 1), keep_does limits.numbers (state_after h).drawn (omega (arith, next, few))); next = next; drew = tt; fresh = tt; keeps = tt }
  may_be mine (Put at number) m = record { lane = mine; within = m.0; happens = put_does _ _ (le-ltb _ _ m.2) m.1; next = tt; drew = m.3.drew; fresh = m.3.fresh; keeps = tt }
  may_be mine (Remove at) m = record { lane = mine; within = m.0; happens = remove_does _ _ (le-ltb _ _ m.2) m.1; next = tt; drew = tt; fresh = tt; keeps = tt }
  may_be mine (Claim at) m = record { lane = mine; within = m.0; happens = claim_does _ _ (le-ltb _ _ m.2) m.1; next = tt; drew = tt; fresh = tt; keeps = tt }
  may_be mine (Fill at number) m = record { lane = mine; within = m.0; happens = end_does lane _ m.1; next = tt; drew = m.2.drew; fresh = m.2.fresh; keeps = tt }
  may_be mine (Fail at number) m = record { lane = mine; within = m.0; happens = end_does lane _ m.1; next = tt; drew = m.2.drew; fresh = m.2.fresh; keeps = m.3 }
  may_be mine (Abandon at) m = record { lane = mine; within = m.0; happens = end_does lane _ m.1; next = tt; drew = tt; fresh = tt; keeps = tt }
  may_be mine (Seal at) m = record { lane = mine; within = m.0; happens = seal_does _ m.1; next = tt; drew = tt; fresh = tt; keeps = tt }

  pub allowed : (act : Act ℕ) → MayHappen limits h lane act → IsAllowed limits h (by lane act)
  allowed act m = may_be m.0 act m.1

pub allowed_by_cases : (limits : Limits) (h : History) (lane : ℕ) (act : Act ℕ) → IsAllowed limits h (by lane act) ↔ MayHappen limits h lane act
allowed_by_cases limits h lane act = (may_happen limits h lane act, allowed limits h lane act)
