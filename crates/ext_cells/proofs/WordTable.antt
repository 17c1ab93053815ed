-- The table of words beside what one thread replies: act by act, and by what stands at the cell.
use Rattle.std.proofs.Common.{◌≡◌, ◌∙◌, ℕ, ◌+◌, ◌<◌, ◌^◌, Bool, true, false, [], ◌∷◌, ◌++◌, refl, sym, ap, subst, arith, Option, None, Some}
use Rattle.std.specs.Prelude.{Result, Ok, nat_eq, if◌then◌else◌}
use Rattle.std.proofs.lemmas.Bool.{eq-eqb}
use Rattle.ext_model.specs.declared.event.Act.{Act}
use Rattle.ext_model.specs.declared.event.Act.TheVariants.{Keep, Put, Remove, Claim, Fill, Fail, Abandon, Seal}
use Rattle.ext_model.specs.declared.slot.Slot.{Slot}
use Rattle.ext_model.specs.declared.slot.Slot.TheVariants as slot
use Rattle.ext_model.specs.Events as events
use Rattle.ext_model.specs.Events.{place_of, slot_after, is_at}
use Rattle.ext_model.specs.History.{History, Limits, by, state_after, version_of, reply_after, IsLegal}
use Rattle.ext_model.specs.CellWords.{number_code, slot_word, word, word_of}
use Rattle.ext_model.proofs.Numbers.{bounded}
use Rattle.ext_model.proofs.Versions.{word_parts}
use Rattle.ext_model.proofs.Words.{word-event}
use Rattle.ext_cells.specs.declared.cell_state.CellState.{CellState}
use Rattle.ext_cells.specs.declared.cell_state.CellState.TheVariants.{Empty, Computing, Present, Sealed, Failed}
use Rattle.ext_cells.specs.WordChanges.{code, exhausted_if, unless, after_word, word_with}
use Rattle.ext_cells.specs.InnerDeciding.{state_of}
use Rattle.ext_cells.specs.CellLaws.{Agrees}
use Rattle.ext_cells.proofs.CellWords.{code_is}

-- ---- by what stands

-- what one thread replies to an act on a cell where this stands at this version
abbrev reply_at : ℕ → Act ℕ → Option Slot → ℕ → events.Reply
reply_at lane act s version = events.reply 0 (λ at. version) (record { slots = λ at. s; drawn = 0 }) lane act

worn_or : (b : Bool) (answer : Option ℕ) (next : ℕ) → Agrees (events.happens_unless b answer) (unless (exhausted_if b) next) next
worn_or true answer next = refl
worn_or false answer next = refl

same : (at cell : ℕ) → Some at ≡ Some cell → at ≡ cell
same at cell e = cc e

own_or : (b : Bool) (next : ℕ) → (let said : Result ℕ _ = Ok next in Agrees (if b then events.Happens None else events.Refuses events.Barred) said next)
own_or true next = refl
own_or false next = tt

-- the table says what one thread replies, whatever stands there
at_cell : (lane cell : ℕ) (act : Act ℕ) (s : Option Slot) (version : ℕ) → place_of act ≡ Some cell
    → Agrees (reply_at lane act s version) (after_word act (state_of s) (number_code s) version) (slot_word (slot_after lane act s) (version + 1))
at_cell lane cell (Keep n) s v on = absurd (cc on)
at_cell lane cell (Put at n) None v on = worn_or _ None _
at_cell lane cell (Put at n) (Some (slot.Entry m)) v on = worn_or _ (Some m) _
at_cell lane cell (Put at n) (Some (slot.Fault m)) v on = worn_or _ (Some m) _
at_cell lane cell (Put at n) (Some (slot.Claim owner)) v on = refl
at_cell lane cell (Put at n) (Some (slot.Sealed kept)) v on = refl
at_cell lane cell (Remove at) None v on = tt
at_cell lane cell (Remove at) (Some (slot.Entry m)) v on = worn_or _ (Some m) _
at_cell lane cell (Remove at) (Some (slot.Fault m)) v on = worn_or _ (Some m) _
at_cell lane cell (Remove at) (Some (slot.Claim owner)) v on = refl
at_cell lane cell (Remove at) (Some (slot.Sealed kept)) v on = refl
at_cell lane cell (Claim at) None v on = worn_or _ None _
at_cell lane cell (Claim at) (Some (slot.Entry m)) v on = tt
at_cell lane cell (Claim at) (Some (slot.Fault m)) v on = tt
at_cell lane cell (Claim at) (Some (slot.Claim owner)) v on = refl
at_cell lane cell (Claim at) (Some (slot.Sealed kept)) v on = refl
at_cell lane cell (Fill at n) None v on = tt
at_cell lane cell (Fill at n) (Some (slot.Entry m)) v on = tt
at_cell lane cell (Fill at n) (Some (slot.Fault m)) v on = tt
at_cell lane cell (Fill at n) (Some (slot.Claim owner)) v on = own_or _ _
at_cell lane cell (Fill at n) (Some (slot.Sealed kept)) v on = tt
at_cell lane cell (Fail at n) None v on = tt
at_cell lane cell (Fail at n) (Some (slot.Entry m)) v on = tt
at_cell lane cell (Fail at n) (Some (slot.Fault m)) v on = tt
at_cell lane cell (Fail at n) (Some (slot.Claim owner)) v on = own_or _ _
at_cell lane cell (Fail at n) (Some (slot.Sealed kept)) v on = tt
at_cell lane cell (Abandon at) None v on = tt
at_cell lane cell (Abandon at) (Some (slot.Entry m)) v on = tt
at_cell lane cell (Abandon at) (Some (slot.Fault m)) v on = tt
at_cell lane cell (Abandon at) (Some (slot.Claim owner)) v on = own_or _ _
at_cell lane cell (Abandon at) (Some (slot.Sealed kept)) v on = tt
at_cell lane cell (Seal at) None v on = refl
at_cell lane cell (Seal at) (Some (slot.Entry m)) v on = refl
at_cell lane cell (Seal at) (Some (slot.Fault m)) v on = refl
at_cell lane cell (Seal at) (Some (slot.Claim owner)) v on = refl
at_cell lane cell (Seal at) (Some (slot.Sealed kept)) v on = tt

-- what one thread replies is read off the act's own cell
own_reply : (limits : Limits) (h : History) (lane cell : ℕ) (act : Act ℕ) → place_of act ≡ Some cell → reply_after limits h lane act ≡ reply_at lane act ((state_after h).slots cell) (version_of h cell)
own_reply limits h lane cell (Keep n) on = absurd (cc on)
own_reply limits h lane cell (Put at n) on = ap (λ k. events.put_reply (events.is_worn (version_of h k)) ((state_after h).slots k)) (same at cell on)
own_reply limits h lane cell (Remove at) on = ap (λ k. events.remove_reply (events.is_worn (version_of h k)) ((state_after h).slots k)) (same at cell on)
own_reply limits h lane cell (Claim at) on = ap (λ k. events.claim_reply (events.is_worn_for_claim (version_of h k)) ((state_after h).slots k)) (same at cell on)
own_reply limits h lane cell (Fill at n) on = ap (λ k. events.end_reply lane ((state_after h).slots k)) (same at cell on)
own_reply limits h lane cell (Fail at n) on = ap (λ k. events.end_reply lane ((state_after h).slots k)) (same at cell on)
own_reply limits h lane cell (Abandon at) on = ap (λ k. events.end_reply lane ((state_after h).slots k)) (same at cell on)
own_reply limits h lane cell (Seal at) on = ap (λ k. events.seal_reply ((state_after h).slots k)) (same at cell on)

-- ---- by the history

one_code : (a b : CellState) → code a ≡ code b → a ≡ b
one_code Empty Empty e = refl
one_code Empty Computing e = absurd (omega (arith, e))
one_code Empty Present e = absurd (omega (arith, e))
one_code Empty Sealed e = absurd (omega (arith, e))
one_code Empty Failed e = absurd (omega (arith, e))
one_code Computing Empty e = absurd (omega (arith, e))
one_code Computing Computing e = refl
one_code Computing Present e = absurd (omega (arith, e))
one_code Computing Sealed e = absurd (omega (arith, e))
one_code Computing Failed e = absurd (omega (arith, e))
one_code Present Empty e = absurd (omega (arith, e))
one_code Present Computing e = absurd (omega (arith, e))
one_code Present Present e = refl
one_code Present Sealed e = absurd (omega (arith, e))
one_code Present Failed e = absurd (omega (arith, e))
one_code Sealed Empty e = absurd (omega (arith, e))
one_code Sealed Computing e = absurd (omega (arith, e))
one_code Sealed Present e = absurd (omega (arith, e))
one_code Sealed Sealed e = refl
one_code Sealed Failed e = absurd (omega (arith, e))
one_code Failed Empty e = absurd (omega (arith, e))
one_code Failed Computing e = absurd (omega (arith, e))
one_code Failed Present e = absurd (omega (arith, e))
one_code Failed Sealed e = absurd (omega (arith, e))
one_code Failed Failed e = refl

small_code : (a : CellState) → code a < 16
small_code Empty = omega arith
small_code Computing = omega arith
small_code Present = omega arith
small_code Sealed = omega arith
small_code Failed = omega arith

module _ (limits : Limits) (h : History) (lane cell : ℕ) (act : Act ℕ) (state : CellState) (number version : ℕ)
    (few : limits.numbers < 2 ^ 20) (legal : IsLegal limits h) (on : place_of act ≡ Some cell) (fits : number < 2 ^ 20) (is : word_of h cell ≡ word_with state number version) where
  -- the parts of the cell's word are those of what stands there
  parts : (code (state_of ((state_after h).slots cell)) ≡ code state) × (number_code ((state_after h).slots cell) ≡ number) × (version_of h cell ≡ version)
  parts =
      let s = (state_after h).slots cell in
      let least = (bounded h legal).slots cell in
      let e : word (code (state_of s)) (number_code s) (version_of h cell) ≡ word (code state) number version = ap (λ k. word k (number_code s) (version_of h cell)) (sym (code_is s)) ∙ is in
      word_parts (code (state_of s)) (number_code s) (version_of h cell) (code state) number version (small_code (state_of s)) (small_code state) (omega (arith, least, few)) fits e

  pub follows_reply : Agrees (reply_after limits h lane act) (after_word act state number version) (slot_word (slot_after lane act ((state_after h).slots cell)) (version_of h cell + 1))
  follows_reply =
      let s = (state_after h).slots cell in
      let v = version_of h cell in
      let next = slot_word (slot_after lane act s) (v + 1) in
      let same_state : state_of s ≡ state = one_code (state_of s) state parts.0 in
      let said : after_word act (state_of s) (number_code s) v ≡ after_word act state number version = λ i. after_word act (same_state i) (parts.1 i) (parts.2 i) in
      subst (λ r. Agrees r (after_word act state number version) next) (sym (own_reply limits h lane cell act on))
      (subst (λ r. Agrees (reply_at lane act s v) r next) said (at_cell lane cell act s v on))

  pub follows_event : Agrees (reply_after limits h lane act) (after_word act state number version) (word_of (h ++ by lane act ∷ []) cell)
  follows_event =
      subst (Agrees (reply_after limits h lane act) (after_word act state number version))
      (sym (word-event h (by lane act) cell (ap (is_at nat_eq cell) on ∙ eq-eqb cell cell refl))) follows_reply
