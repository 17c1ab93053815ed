-- What stands at an open place stays there, and where it may stand it may stand later.
use Rattle.std.proofs.Common.{◌≡◌, ℕ, inl, inr, Bool, true, false, cond, [], ◌∷◌, ◌++◌, Contains, fold, refl, ap, sym, subst, ◌∙◌, arith, append_assoc, Option, Some, nat_eq}
use Rattle.std.specs.Prelude.{if◌then◌else◌}
use Rattle.std.proofs.lemmas.Bool.Decides.{nat_tests}
use Rattle.ext_history.proofs.Lists.{bools, contains_here, contains_later}
use Rattle.ext_model.specs.declared.event.Act.{Act}
use Rattle.ext_model.specs.declared.event.Act.TheVariants.{Keep, Put, Remove, Claim, Fill, Fail, Abandon, Seal}
use Rattle.ext_model.specs.declared.event.Event.{Event}
use Rattle.ext_model.specs.declared.slot.Slot.{Slot}
use Rattle.ext_model.specs.declared.slot.Slot.TheVariants as slot
use Rattle.ext_model.specs.State.{State}
use Rattle.ext_model.specs.Events.{apply, is_on, slot_after}
use Rattle.ext_model.specs.History.{History, IsAllowed, IsLegal, IsQuiet, Limits, by, state_after, version_of}
use Rattle.ext_model.proofs.Allowed.{may_happen}
use Rattle.ext_model.proofs.Versions.{after-append, version-cons}
use Rattle.ext_model.proofs.Words.{after-push}
use Rattle.ext_one_report.proofs.MatchingWords.{RunView}
use Rattle.ext_one_report.proofs.Open.{Computes, Given, MayStand, left_slot, of_fault, of_nothing, of_value}
use Rattle.ext_one_report.proofs.OpenSteps.{ComputingKeepsNear, StandingStays}

-- ---- one event

-- what an event of those who compute leaves in its cell
leaves_near : (run : RunView) (v : Given) (cell lane : ℕ) (act : Act ℕ) (x : Option Slot) → is_on nat_eq cell act ≡ true → Computes run v act → MayStand run.meaning v (slot_after lane act x)
leaves_near run v cell lane (Keep number) x on computes = absurd computes
leaves_near run v cell lane (Put at number) x on computes = absurd computes
leaves_near run v cell lane (Remove at) x on computes = absurd computes
leaves_near run v cell lane (Claim at) x on computes = tt
leaves_near run v cell lane (Fill at number) x on computes = computes
leaves_near run v cell lane (Fail at number) x on computes = computes
leaves_near run v cell lane (Abandon at) x on computes = tt
leaves_near run v cell lane (Seal at) x on computes = absurd computes

-- what stands in a cell, by another name of the cell
stands_at : (h : History) (cell at : ℕ) (x : Slot) → (state_after h).slots cell ≡ Some x → nat_eq at cell ≡ true → (state_after h).slots at ≡ Some x
stands_at h cell at x there on = let same : at ≡ cell = grind (arith, nat_tests) in ap (λ c. (state_after h).slots c) same ∙ there

-- what is left is no claim
no_claim : (v : Given) (number lane : ℕ) → left_slot v number ≡ slot.Claim lane → ⊥
no_claim (of_value w) number lane is = cc is
no_claim (of_fault text) number lane is = cc is
no_claim (of_nothing text) number lane is = cc is

not_claimed : (v : Given) (number lane : ℕ) (x : Option Slot) → x ≡ Some (left_slot v number) → x ≡ Some (slot.Claim lane) → ⊥
not_claimed v number lane x there claimed = let both : Some (left_slot v number) ≡ Some (slot.Claim lane) = sym there ∙ claimed in no_claim v number lane (cc both)

-- Where it stands there is none: a claim needs an empty cell, and what ends a claim needs one
none_computes : (run : RunView) (limits : Limits) (v : Given) (cell number : ℕ) (h : History) (lane : ℕ) (act : Act ℕ) → (state_after h).slots cell ≡ Some (left_slot v number)
    → IsAllowed limits h (by lane act) → is_on nat_eq cell act ≡ true → Computes run v act → ⊥
none_computes run limits v cell number h lane (Keep n) there allowed on computes = computes
none_computes run limits v cell number h lane (Put at n) there allowed on computes = computes
none_computes run limits v cell number h lane (Remove at) there allowed on computes = computes
none_computes run limits v cell number h lane (Claim at) there allowed on computes =
    cc (sym (stands_at h cell at (left_slot v number) there on) ∙ (may_happen limits h lane (Claim at) allowed).1.1)
none_computes run limits v cell number h lane (Fill at n) there allowed on computes =
    not_claimed v number lane _ (stands_at h cell at (left_slot v number) there on) (may_happen limits h lane (Fill at n) allowed).1.1
none_computes run limits v cell number h lane (Fail at n) there allowed on computes =
    not_claimed v number lane _ (stands_at h cell at (left_slot v number) there on) (may_happen limits h lane (Fail at n) allowed).1.1
none_computes run limits v cell number h lane (Abandon at) there allowed on computes =
    not_claimed v number lane _ (stands_at h cell at (left_slot v number) there on) (may_happen limits h lane (Abandon at) allowed).1.1
none_computes run limits v cell number h lane (Seal at) there allowed on computes = computes

-- ---- later events

near_from : (run : RunView) (v : Given) (cell : ℕ) (more : History) (s : State ℕ) → MayStand run.meaning v (s.slots cell)
    → ((e : Event ℕ) → Contains more e → is_on nat_eq cell e.act ≡ true → Computes run v e.act) → MayStand run.meaning v ((fold (apply nat_eq) s more).slots cell)
near_from run v cell [] s near computed = near
near_from run v cell (e ∷ more) s near computed =
    let slot_of : Bool → Option Slot = λ b. if b then slot_after e.lane e.act (s.slots cell) else s.slots cell in
    let next : MayStand run.meaning v (slot_of (is_on nat_eq cell e.act)) =
    elim (bools (is_on nat_eq cell e.act)) [
      | inl on ↦ subst (λ b. MayStand run.meaning v (slot_of b)) (sym on) (leaves_near run v cell e.lane e.act (s.slots cell) on (computed e (contains_here e more) on))
      | inr off ↦ subst (λ b. MayStand run.meaning v (slot_of b)) (sym off) near
    ] in
    near_from run v cell more (apply nat_eq s e) next (λ x there on. computed x (contains_later e more x there) on)

-- where the value may stand, it may after events of those who compute it
pub keeps_near : (run : RunView) (v : Given) (cell : ℕ) (h more : History) → MayStand run.meaning v ((state_after h).slots cell)
    → ((e : Event ℕ) → Contains more e → is_on nat_eq cell e.act ≡ true → Computes run v e.act) → MayStand run.meaning v ((state_after (h ++ more)).slots cell)
keeps_near run v cell h more near computed =
    subst (λ (s : State ℕ). MayStand run.meaning v (s.slots cell)) (sym (after-append h more)) (near_from run v cell more (state_after h) near computed)

-- where it stands, there is none
pub stays_there : (run : RunView) (limits : Limits) (v : Given) (cell number : ℕ) (more h : History) → IsLegal limits (h ++ more) → (state_after h).slots cell ≡ Some (left_slot v number)
    → ((e : Event ℕ) → Contains more e → is_on nat_eq cell e.act ≡ true → Computes run v e.act) → IsQuiet cell more
stays_there run limits v cell number [] h legal there computed = refl
stays_there run limits v cell number (e ∷ more) h legal there computed =
    let off : is_on nat_eq cell e.act ≡ false = elim (bools (is_on nat_eq cell e.act)) [
      | inl on ↦ absurd (none_computes run limits v cell number h e.lane e.act there (legal.each h e more refl) on (computed e (contains_here e more) on))
      | inr off ↦ off
    ] in
    let stays : (apply nat_eq (state_after h) e).slots cell ≡ (state_after h).slots cell = ap (λ b. if b then slot_after e.lane e.act ((state_after h).slots cell) else (state_after h).slots cell) off in
    let next : (state_after (h ++ e ∷ [])).slots cell ≡ Some (left_slot v number) = ap (λ (s : State ℕ). s.slots cell) (after-push h e) ∙ (stays ∙ there) in
    let later : version_of more cell ≡ 0 =
    stays_there run limits v cell number more (h ++ e ∷ []) (subst (IsLegal limits) (sym (append_assoc h (e ∷ []) more)) legal) next (λ x among on. computed x (contains_later e more x among) on) in
    let bit : ◌≡◌ {A = ℕ} (cond (is_on nat_eq cell e.act) 1 0) 0 = ap (λ b. cond b 1 0) off in
    omega (arith, version-cons e more cell, later, bit)

-- ---- as the lemmas on steps want it

pub standing_stays : StandingStays
standing_stays run limits v cell h more legal stands computed = stays_there run limits v cell stands.number more h legal stands.there computed

pub computing_keeps_near : ComputingKeepsNear
computing_keeps_near run limits v cell h more legal near computed = keeps_near run v cell h more near computed
