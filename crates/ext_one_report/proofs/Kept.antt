-- What is alone on a cell, and makes no event there, leaves there what was there.
use Rattle.std.proofs.Common.{◌≡◌, inl, inr, ℕ, ◌+◌, ◌<◌, ◌≤◌, suc, [], ◌∷◌, ◌++◌, Some, length, length-append, append-nil, ap, refl, sym, subst, ◌∙◌, arith}
use Rattle.std.specs.Prelude.{nat_eq, slice_get}
use mathlib.Core.List.{IsPrefix}
use Rattle.std.proofs.lemmas.List.Elements.{filter-append}
use Rattle.std.proofs.lemmas.Option.{slice_get_within}
use Rattle.ext_history.proofs.Lists.{bools}
use Rattle.ext_model.specs.declared.event.Event.{Event}
use Rattle.ext_model.specs.Events.{is_on, place_of}
use Rattle.ext_model.specs.History.{History}
use Rattle.ext_one_report.specs.Changing.{events_at}
use Rattle.ext_one_report.proofs.Events.{behind_part, in_whole}
use Rattle.ext_one_report.proofs.Sees.{at_place, filter_no}

-- ---- histories

nowhere : (cell : ℕ) (more : History) → ((k : ℕ) (e : Event ℕ) → slice_get more k ≡ Some e → place_of e.act ≡ Some cell → ⊥) → events_at cell more ≡ []
nowhere cell [] none = refl
nowhere cell (e ∷ more) none = elim (bools (is_on nat_eq cell e.act)) [
  | inl on ↦ absurd (none 0 e refl (at_place cell (place_of e.act) on))
  | inr off ↦ filter_no (λ x. is_on nat_eq cell x.act) e more off ∙ nowhere cell more (λ k x there is. none (suc k) x there is)
]

-- where a part of a history goes on to a longer one with no event on the cell, both have the same events there
pub same_there : (h a b : History) (cell : ℕ) → IsPrefix a b → IsPrefix b h → ((place : ℕ) (event : Event ℕ) → length a ≤ place → place < length b → slice_get h place ≡ Some event → place_of event.act ≡ Some cell → ⊥)
    → events_at cell b ≡ events_at cell a
same_there h a b cell on within none =
    let more = on.0 in
    let size = ap length on.1 in
    let sum = length-append a more in
    let rest : events_at cell more ≡ [] = nowhere cell more (λ k e there is.
    let place = length a + k in
    let less = slice_get_within more k e there in
    let in_b : slice_get b place ≡ Some e = subst (λ (l : History). slice_get l place ≡ Some e) on.1 (behind_part a more k place refl ∙ there) in
    let in_h : slice_get h place ≡ Some e = subst (λ (l : History). slice_get l place ≡ Some e) within.1 (in_whole b within.0 place e in_b) in
    none place e (omega arith) (omega (arith, less, size, sum)) in_h is) in
    let parts = filter-append (λ (e : Event ℕ). is_on nat_eq cell e.act) a more in
    sym (ap (λ (l : History). events_at cell l) on.1) ∙ (parts ∙ (ap (λ l. events_at cell a ++ l) rest ∙ append-nil (events_at cell a)))
