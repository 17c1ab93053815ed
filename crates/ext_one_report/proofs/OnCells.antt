-- What a history leaves in a cell is what its events on that cell leave.
use Rattle.std.proofs.Common.{◌≡◌, ℕ, inl, inr, Bool, true, false, cond, List, [], ◌∷◌, ◌++◌, length, fold, refl, ap, sym, ◌∙◌, Option, None, nat_eq}
use Rattle.std.specs.Prelude.{filter}
use Rattle.std.proofs.lemmas.List.{nil_from_length}
use Rattle.std.proofs.lemmas.List.Elements.{filter-append}
use Rattle.std.proofs.lemmas.List.Sums.{length-filter}
use Rattle.ext_history.proofs.Lists.{bools}
use Rattle.ext_model.specs.declared.event.Event.{Event}
use Rattle.ext_model.specs.declared.slot.Slot.{Slot}
use Rattle.ext_model.specs.State.{State, opening}
use Rattle.ext_model.specs.Events.{slot_after, is_on, apply}
use Rattle.ext_model.specs.History.{History, IsQuiet, state_after, version_of}
use Rattle.ext_one_report.specs.Changing.{events_at}

-- ---- filters

pub passes : {A : Type 0} (p : A → Bool) (x : A) (xs : List A) → p x ≡ true → filter p (x ∷ xs) ≡ x ∷ filter p xs
passes p x xs is = ap (λ b. cond b (x ∷ filter p xs) (filter p xs)) is

pub passes_not : {A : Type 0} (p : A → Bool) (x : A) (xs : List A) → p x ≡ false → filter p (x ∷ xs) ≡ filter p xs
passes_not p x xs is = ap (λ b. cond b (x ∷ filter p xs) (filter p xs)) is

-- ---- one cell

-- what stands in a cell after an event on it
abbrev pub then_there : Option Slot → Event ℕ → Option Slot
then_there x e = slot_after e.lane e.act x

pub slot_from : (h : History) (s : State ℕ) (cell : ℕ) → (fold (apply nat_eq) s h).slots cell ≡ fold then_there (s.slots cell) (events_at cell h)
slot_from [] s cell = refl
slot_from (e ∷ h) s cell =
    let there : Event ℕ → Bool = λ x. is_on nat_eq cell x.act in
    let chosen : Bool → Option Slot = λ b. cond b (slot_after e.lane e.act (s.slots cell)) (s.slots cell) in
    elim (bools (there e)) [
      | inl on ↦ slot_from h (apply nat_eq s e) cell ∙ (ap (λ x. fold then_there x (events_at cell h)) (ap chosen on) ∙ sym (ap (fold then_there (s.slots cell)) (passes there e h on)))
      | inr off ↦ slot_from h (apply nat_eq s e) cell ∙ (ap (λ x. fold then_there x (events_at cell h)) (ap chosen off) ∙ sym (ap (fold then_there (s.slots cell)) (passes_not there e h off)))
    ]

pub same_slot : (g h : History) (cell : ℕ) → events_at cell g ≡ events_at cell h → (state_after g).slots cell ≡ (state_after h).slots cell
same_slot g h cell same = slot_from g opening cell ∙ (ap (fold then_there None) same ∙ sym (slot_from h opening cell))

version_is : (h : History) (cell : ℕ) → length (events_at cell h) ≡ version_of h cell
version_is h cell = length-filter (λ (e : Event ℕ). is_on nat_eq cell e.act) h

-- a cell without a version has no events
pub none_at : (h : History) (cell : ℕ) → IsQuiet cell h → events_at cell h ≡ []
none_at h cell quiet = nil_from_length (events_at cell h) (version_is h cell ∙ quiet)

pub quiet_at : (h : History) (cell : ℕ) → events_at cell h ≡ [] → IsQuiet cell h
quiet_at h cell none = sym (version_is h cell) ∙ ap length none

pub at-append : (g h : History) (cell : ℕ) → events_at cell (g ++ h) ≡ events_at cell g ++ events_at cell h
at-append g h cell = filter-append (λ (e : Event ℕ). is_on nat_eq cell e.act) g h
