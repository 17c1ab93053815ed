-- The numbers of values and those of kept faults: what stands as one was never stored as the other.
use Rattle.std.proofs.Common.{◌≡◌, ℕ, ◌⊎◌, Bool, true, false, List, [], ◌∷◌, ◌++◌, inl, inr, refl, ap, sym, subst, ◌∙◌, Option, None, Some, Contains, nat_eq, append-nil, IfSome}
use Rattle.std.specs.Prelude.{if◌then◌else◌, IsTrue, IsFalse, ◌↔◌}
use Rattle.std.specs.List.{cons_option}
use Rattle.std.proofs.lemmas.List.Elements.{Contains-push, Contains-push_cases, Contains-append_left, filter_map-append}
use Rattle.ext_model.specs.declared.event.Act.{Act}
use Rattle.ext_model.specs.declared.event.Act.TheVariants.{Keep, Put, Remove, Claim, Fill, Fail, Abandon, Seal}
use Rattle.ext_model.specs.declared.event.Event.{Event}
use Rattle.ext_model.specs.declared.slot.Slot.{Slot}
use Rattle.ext_model.specs.declared.slot.Slot.TheVariants as slot
use Rattle.ext_model.specs.State.{standing_value}
use Rattle.ext_model.specs.Events.{is_on, slot_after}
use Rattle.ext_model.specs.History.{History, Limits, slots_in, state_after, stored, stored_number, faults, fault_number, IsAllowed, IsLegal}
use Rattle.ext_model.specs.Closing.{remaining}
use Rattle.ext_history.proofs.Lists.{contains_none}
use Rattle.ext_history.proofs.Legal.{legal_steps}
use Rattle.ext_model.proofs.Words.{slots-push}
use Rattle.ext_model.proofs.Remaining.{remaining_kept}

-- the number of the value that stands, or that a seal keeps
abbrev pub value_number : Option Slot → Option ℕ
value_number None = None
value_number (Some (slot.Entry number)) = Some number
value_number (Some (slot.Fault number)) = None
value_number (Some (slot.Claim lane)) = None
value_number (Some (slot.Sealed kept)) = kept

-- ---- lists that may get a number more

there_before : (xs : List ℕ) (o : Option ℕ) (n : ℕ) → Contains xs n → Contains (xs ++ cons_option o []) n
there_before xs o n there = Contains-append_left xs (cons_option o []) n there

there_now : (xs : List ℕ) (o : Option ℕ) (n : ℕ) → o ≡ Some n → Contains (xs ++ cons_option o []) n
there_now xs None n is = absurd (cc is)
there_now xs (Some m) n is = let e : m ≡ n = cc is in subst (λ k. Contains (xs ++ m ∷ []) k) e (Contains-push xs m)

there_cases : (xs : List ℕ) (o : Option ℕ) (n : ℕ) → Contains (xs ++ cons_option o []) n → Contains xs n ⊎ (o ≡ Some n)
there_cases xs None n there = inl (subst (λ ys. Contains ys n) (append-nil xs) there)
there_cases xs (Some m) n there = elim (Contains-push_cases xs m n there) [
  | inl old ↦ inl old
  | inr new ↦ inr (ap Some new)
]

stored-push : (h : History) (e : Event ℕ) → stored (h ++ e ∷ []) ≡ stored h ++ cons_option (stored_number e.act) []
stored-push h e = filter_map-append (λ (x : Event ℕ). stored_number x.act) h (e ∷ [])

faults-push : (h : History) (e : Event ℕ) → faults (h ++ e ∷ []) ≡ faults h ++ cons_option (fault_number e.act) []
faults-push h e = filter_map-append (λ (x : Event ℕ). fault_number x.act) h (e ∷ [])

-- ---- what one act leaves

standing_is_value : (old : Option Slot) (n : ℕ) → standing_value old ≡ Some n → value_number old ≡ Some n
standing_is_value None n is = absurd (cc is)
standing_is_value (Some (slot.Entry number)) n is = is
standing_is_value (Some (slot.Fault number)) n is = absurd (cc is)
standing_is_value (Some (slot.Claim lane)) n is = absurd (cc is)
standing_is_value (Some (slot.Sealed kept)) n is = absurd (cc is)

-- a value's number that stands after an act was stored by it, and as no fault, or it stood there before
left_value : (lane : ℕ) (act : Act ℕ) (old : Option Slot) (n : ℕ) → value_number (slot_after lane act old) ≡ Some n → (stored_number act ≡ Some n) × (fault_number act ≡ None) ⊎ (value_number old ≡ Some n)
left_value lane (Keep number) old n is = inr is
left_value lane (Put at number) old n is = inl (is, refl)
left_value lane (Remove at) old n is = absurd (cc is)
left_value lane (Claim at) old n is = absurd (cc is)
left_value lane (Fill at number) old n is = inl (is, refl)
left_value lane (Fail at number) old n is = absurd (cc is)
left_value lane (Abandon at) old n is = absurd (cc is)
left_value lane (Seal at) old n is = inr (standing_is_value old n is)

-- and a fault's was kept by it, or stood there before
left_fault : (lane : ℕ) (act : Act ℕ) (old : Option Slot) (n : ℕ) → slot_after lane act old ≡ Some (slot.Fault n) → (fault_number act ≡ Some n) ⊎ (old ≡ Some (slot.Fault n))
left_fault lane (Keep number) old n is = inr is
left_fault lane (Put at number) old n is = absurd (cc is)
left_fault lane (Remove at) old n is = absurd (cc is)
left_fault lane (Claim at) old n is = absurd (cc is)
left_fault lane (Fill at number) old n is = absurd (cc is)
left_fault lane (Fail at number) old n is = inl (cc is)
left_fault lane (Abandon at) old n is = absurd (cc is)
left_fault lane (Seal at) old n is = absurd (cc is)

-- the number of a fault counts as stored
fault_is_stored : (act : Act ℕ) (n : ℕ) → fault_number act ≡ Some n → stored_number act ≡ Some n
fault_is_stored (Keep number) n is = absurd (cc is)
fault_is_stored (Put at number) n is = absurd (cc is)
fault_is_stored (Remove at) n is = absurd (cc is)
fault_is_stored (Claim at) n is = absurd (cc is)
fault_is_stored (Fill at number) n is = absurd (cc is)
fault_is_stored (Fail at number) n is = is
fault_is_stored (Abandon at) n is = absurd (cc is)
fault_is_stored (Seal at) n is = absurd (cc is)

either_value : (b : Bool) (x y : Option Slot) (n : ℕ) → value_number (if b then x else y) ≡ Some n → (value_number x ≡ Some n) ⊎ (value_number y ≡ Some n)
either_value true x y n is = inl is
either_value false x y n is = inr is

either_fault : (b : Bool) (x y : Option Slot) (n : ℕ) → (if b then x else y) ≡ Some (slot.Fault n) → (x ≡ Some (slot.Fault n)) ⊎ (y ≡ Some (slot.Fault n))
either_fault true x y n is = inl is
either_fault false x y n is = inr is

no_number : (o : Option ℕ) (n : ℕ) → o ≡ Some n → o ≡ None → ⊥
no_number None n some none = absurd (cc some)
no_number (Some m) n some none = absurd (cc none)

-- ---- values and faults are apart

-- in these events the numbers of kept faults were stored, and no number of a value that stands is one of them
pub record AreApart (h : History) : Type 0 where
  pub fault_stored : (n : ℕ) → Contains (faults h) n → Contains (stored h) n
  pub fault_kept : (cell n : ℕ) → (state_after h).slots cell ≡ Some (slot.Fault n) → Contains (faults h) n
  pub value_stored : (cell n : ℕ) → value_number ((state_after h).slots cell) ≡ Some n → Contains (stored h) n
  pub value_apart : (cell n : ℕ) → value_number ((state_after h).slots cell) ≡ Some n → ¬ (Contains (faults h) n)

module _ {limits : Limits} (before : History) (e : Event ℕ) (a : IsAllowed limits before e) (apart : AreApart before) where
  never_before : (n : ℕ) → stored_number e.act ≡ Some n → Contains (stored before) n → ⊥
  never_before n is there = let fresh : IfSome (Some n) (λ number. ¬ (Contains (stored before) number)) = subst (λ o. IfSome o (λ number. ¬ (Contains (stored before) number))) is a.fresh in fresh there

  stood : (cell n : ℕ) → value_number ((state_after (before ++ e ∷ [])).slots cell) ≡ Some n → (stored_number e.act ≡ Some n) × (fault_number e.act ≡ None) ⊎ (value_number ((state_after before).slots cell) ≡ Some n)
  stood cell n is = elim (either_value (is_on nat_eq cell e.act) _ _ n (ap value_number (sym (slots-push before e cell)) ∙ is)) [
    | inl now ↦ left_value e.lane e.act ((state_after before).slots cell) n now
    | inr old ↦ inr old
  ]

  faulted : (cell n : ℕ) → (state_after (before ++ e ∷ [])).slots cell ≡ Some (slot.Fault n) → (fault_number e.act ≡ Some n) ⊎ ((state_after before).slots cell ≡ Some (slot.Fault n))
  faulted cell n is = elim (either_fault (is_on nat_eq cell e.act) _ _ n (sym (slots-push before e cell) ∙ is)) [
    | inl now ↦ left_fault e.lane e.act ((state_after before).slots cell) n now
    | inr old ↦ inr old
  ]

  stored_now : (n : ℕ) → Contains (stored before) n ⊎ (stored_number e.act ≡ Some n) → Contains (stored (before ++ e ∷ [])) n
  stored_now n (inl old) = subst (λ xs. Contains xs n) (sym (stored-push before e)) (there_before (stored before) (stored_number e.act) n old)
  stored_now n (inr new) = subst (λ xs. Contains xs n) (sym (stored-push before e)) (there_now (stored before) (stored_number e.act) n new)

  kept_now : (n : ℕ) → Contains (faults before) n ⊎ (fault_number e.act ≡ Some n) → Contains (faults (before ++ e ∷ [])) n
  kept_now n (inl old) = subst (λ xs. Contains xs n) (sym (faults-push before e)) (there_before (faults before) (fault_number e.act) n old)
  kept_now n (inr new) = subst (λ xs. Contains xs n) (sym (faults-push before e)) (there_now (faults before) (fault_number e.act) n new)

  kept_then : (n : ℕ) → Contains (faults (before ++ e ∷ [])) n → Contains (faults before) n ⊎ (fault_number e.act ≡ Some n)
  kept_then n there = there_cases (faults before) (fault_number e.act) n (subst (λ xs. Contains xs n) (faults-push before e) there)

  not_both : (cell n : ℕ) → (stored_number e.act ≡ Some n) × (fault_number e.act ≡ None) ⊎ (value_number ((state_after before).slots cell) ≡ Some n) → Contains (faults before) n ⊎ (fault_number e.act ≡ Some n) → ⊥
  not_both cell n (inl now) (inl old) = never_before n now.0 (apart.fault_stored n old)
  not_both cell n (inl now) (inr new) = no_number _ n new now.1
  not_both cell n (inr was) (inl old) = apart.value_apart cell n was old
  not_both cell n (inr was) (inr new) = never_before n (fault_is_stored e.act n new) (apart.value_stored cell n was)

  apart_step : AreApart (before ++ e ∷ [])
  apart_step = record {
    fault_stored = λ n there. elim (kept_then n there) [
      | inl old ↦ stored_now n (inl (apart.fault_stored n old))
      | inr new ↦ stored_now n (inr (fault_is_stored e.act n new))
    ];
    fault_kept = λ cell n is. elim (faulted cell n is) [
      | inl now ↦ kept_now n (inr now)
      | inr old ↦ kept_now n (inl (apart.fault_kept cell n old))
    ];
    value_stored = λ cell n is. elim (stood cell n is) [
      | inl now ↦ stored_now n (inr now.0)
      | inr old ↦ stored_now n (inl (apart.value_stored cell n old))
    ];
    value_apart = λ cell n is there. not_both cell n (stood cell n is) (kept_then n there);
  }

pub are_apart : {limits : Limits} (h : History) → IsLegal limits h → AreApart h
are_apart h legal =
    legal_steps AreApart apart_step [] h legal (record {
      fault_stored = λ n there. absurd (contains_none n there);
      fault_kept = λ cell n is. absurd (cc is);
      value_stored = λ cell n is. absurd (cc is);
      value_apart = λ cell n is. absurd (cc is);
    })

-- ---- what follows

pub fault_was_kept : {limits : Limits} (h : History) (cell number : ℕ) → IsLegal limits h → (state_after h).slots cell ≡ Some (slot.Fault number) → Contains (faults h) number
fault_was_kept h cell number legal is = (are_apart h legal).fault_kept cell number is

pub value_is_no_fault : {limits : Limits} (h : History) (cell number : ℕ) → IsLegal limits h → (state_after h).slots cell ≡ Some (slot.Entry number) → ¬ (Contains (faults h) number)
value_is_no_fault h cell number legal is = (are_apart h legal).value_apart cell number (ap value_number is)

pub seal_keeps_no_fault : {limits : Limits} (h : History) (cell number : ℕ) → IsLegal limits h → (state_after h).slots cell ≡ Some (slot.Sealed (Some number)) → ¬ (Contains (faults h) number)
seal_keeps_no_fault h cell number legal is = (are_apart h legal).value_apart cell number (ap value_number is)

pub remaining_is_no_fault : {limits : Limits} (h : History) (cell_of : ℕ → ℕ) (keys number : ℕ) → IsLegal limits h → Contains (remaining (slots_in cell_of h) keys) number → ¬ (Contains (faults h) number)
remaining_is_no_fault h cell_of keys number legal there =
    let kept = remaining_kept (slots_in cell_of h) keys number there in seal_keeps_no_fault h (cell_of kept.0) number legal kept.2

-- a store that keeps no faults has none
none_kept : (keeps : Bool) (o : Option ℕ) → IsFalse keeps → IfSome o (λ number. IsTrue keeps) → o ≡ None
none_kept keeps None off may = refl
none_kept keeps (Some number) off may = let e : true ≡ false = sym may ∙ off in absurd (cc e)

pub no_faults : (limits : Limits) (h : History) → IsFalse limits.keep_faults → IsLegal limits h → faults h ≡ []
no_faults limits h off legal = legal_steps (λ g. faults g ≡ []) step [] h legal refl
  where
    step : (before : History) (e : Event ℕ) → IsAllowed limits before e → faults before ≡ [] → faults (before ++ e ∷ []) ≡ []
    step before e a none = faults-push before e ∙ ap (λ o. faults before ++ cons_option o []) (none_kept limits.keep_faults (fault_number e.act) off a.keeps) ∙ append-nil (faults before) ∙ none

-- where no fault was kept, none of the events keeps one
not_kept : (before : History) (e : Event ℕ) (later : History) → faults (before ++ e ∷ later) ≡ [] → fault_number e.act ≡ None
not_kept before e later none = first (faults before) (fault_number e.act) (faults later) (sym (filter_map-append (λ (x : Event ℕ). fault_number x.act) before (e ∷ later)) ∙ none)
  where
    first : (xs : List ℕ) (o : Option ℕ) (ys : List ℕ) → xs ++ cons_option o ys ≡ [] → o ≡ None
    first xs None ys is = refl
    first [] (Some n) ys is = absurd (cc is)
    first (x ∷ xs) (Some n) ys is = absurd (cc is)

may_be_kept : (o : Option ℕ) → IfSome o (λ number. IsTrue true)
may_be_kept None = tt
may_be_kept (Some number) = refl

none_is_kept : (o : Option ℕ) → o ≡ None → IfSome o (λ number. IsTrue false)
none_is_kept None is = tt
none_is_kept (Some number) is = absurd (cc is)

-- so to keep faults adds the events that keep one, and changes nothing else
pub keeping_adds_fails : (limits : Limits) (h : History) → IsLegal (record limits { keep_faults = false }) h ↔ (IsLegal (record limits { keep_faults = true }) h × (faults h ≡ []))
keeping_adds_fails limits h = (λ legal. (more legal, no_faults (record limits { keep_faults = false }) h refl legal), λ both. fewer both.0 both.1)
  where
    more : IsLegal (record limits { keep_faults = false }) h → IsLegal (record limits { keep_faults = true }) h
    more legal = record {
      each = λ before e later is.
          let a = legal.each before e later is in
          record { lane = a.lane; within = a.within; happens = a.happens; next = a.next; drew = a.drew; fresh = a.fresh; keeps = may_be_kept (fault_number e.act) };
    }

    fewer : IsLegal (record limits { keep_faults = true }) h → faults h ≡ [] → IsLegal (record limits { keep_faults = false }) h
    fewer legal none = record {
      each = λ before e later is.
          let a = legal.each before e later is in
          record { lane = a.lane; within = a.within; happens = a.happens; next = a.next; drew = a.drew; fresh = a.fresh; keeps = none_is_kept (fault_number e.act) (not_kept before e later (ap faults (sym is) ∙ none)) };
    }
