-- What the close of a node's context on several lanes leaves in cells where the lanes are alone.
use Rattle.std.proofs.Common.{◌≡◌, ◌≢◌, ◌<◌, ◌⊎◌, ◌+◌, ℕ, true, inl, inr, List, [], ◌∷◌, ◌++◌, length, Contains, Option, None, Some, refl, ap, sym, subst, ◌∙◌, arith, append-nil, append_assoc, length-append}
use Rattle.std.specs.Prelude.{All, nat_eq, slice_get}
use Rattle.std.proofs.lemmas.List.Elements.{All-head}
use Rattle.std.proofs.lemmas.Option.{slice_get-get_or}
use Rattle.ext_history.specs.Histories.{seen_by}
use Rattle.ext_history.proofs.Composed.{seen_goes_on}
use Rattle.ext_history.proofs.Lists.{bools, contains_here, contains_later}
use Rattle.ext_history.proofs.Legal.{legal_begun}
use Rattle.ext_model.specs.declared.event.Act.{Act}
use Rattle.ext_model.specs.declared.event.Act.TheVariants.{Seal}
use Rattle.ext_model.specs.declared.event.Event.{Event}
use Rattle.ext_model.specs.declared.slot.Slot.{Slot}
use Rattle.ext_model.specs.declared.slot.Slot.TheVariants as slot
use Rattle.ext_model.specs.State.{standing_value}
use Rattle.ext_model.specs.Events.{is_on, place_of, slot_after}
use Rattle.ext_model.specs.CallActs.{Calls}
use Rattle.ext_model.specs.History.{History, IsLegal, IsQuiet, Limits, state_after}
use Rattle.ext_model.proofs.Claims.{quiet_slot, slot_off, slot_on}
use Rattle.ext_model.proofs.Standing.{is_sealed, none_after_seal}
use Rattle.ext_model.proofs.Versions.{quiet_from_none}
use Rattle.ext_cells.specs.Lanes.{Lane}
use Rattle.ext_store.specs.Stores.{StoreLane, StoreView, cell_in}
use Rattle.ext_closing.specs.Sealing.{MakesSeals}
use Rattle.ext_store.specs.ContextCalls.{seals_of}
use Rattle.ext_engine.specs.Meeting.{HasSeenWithin}
use Rattle.ext_engine.specs.Order.{IsMadeIn}
use Rattle.ext_engine.proofs.Acts.{same_made}
use Rattle.ext_one_report.specs.Alone.{IsSeenMeanwhile}
use Rattle.ext_one_report.proofs.Changing.{one_of_seals}
use Rattle.ext_one_report.proofs.Events.{behind_part, in_whole, made_acts}
use Rattle.ext_one_report.proofs.Sees.{at_place}
use Rattle.ext_one_report.proofs.Closes.{seal_of}

-- ---- histories

-- all events of the history on the cell are seals
abbrev SealsOnly : ℕ → History → Type 0
SealsOnly cell more = (e : Event ℕ) → Contains more e → is_on nat_eq cell e.act ≡ true → e.act ≡ Seal cell

-- then what stood there stands there still, or its seal does
sealed_or_same : (limits : Limits) (h more : History) (cell : ℕ) → IsLegal limits (h ++ more) → SealsOnly cell more
    → ((state_after (h ++ more)).slots cell ≡ (state_after h).slots cell) ⊎ ((state_after (h ++ more)).slots cell ≡ Some (slot.Sealed (standing_value ((state_after h).slots cell))))
sealed_or_same limits h [] cell legal only = inl (ap (λ g. (state_after g).slots cell) (append-nil h))
sealed_or_same limits h (e ∷ more) cell legal only =
    let regrouped : (h ++ e ∷ []) ++ more ≡ h ++ e ∷ more = append_assoc h (e ∷ []) more in
    let legal' : IsLegal limits ((h ++ e ∷ []) ++ more) = subst (IsLegal limits) (sym regrouped) legal in
    let whole : (state_after (h ++ e ∷ more)).slots cell ≡ (state_after ((h ++ e ∷ []) ++ more)).slots cell = ap (λ g. (state_after g).slots cell) (sym regrouped) in
    elim (bools (is_on nat_eq cell e.act)) [
      | inl on ↦
          let seal : e.act ≡ Seal cell = only e (contains_here e more) on in
          let after : (state_after (h ++ e ∷ [])).slots cell ≡ Some (slot.Sealed (standing_value ((state_after h).slots cell))) =
          slot_on h e cell on ∙ ap (λ a. slot_after e.lane a ((state_after h).slots cell)) seal in
          inr (whole ∙ (quiet_slot (h ++ e ∷ []) more cell (none_after_seal (h ++ e ∷ []) more cell legal' (ap is_sealed after)) ∙ after))
      | inr off ↦
          let stays : (state_after (h ++ e ∷ [])).slots cell ≡ (state_after h).slots cell = slot_off h e cell off in
          elim (sealed_or_same limits (h ++ e ∷ []) more cell legal' (λ x there on. only x (contains_later e more x there) on)) [
            | inl same ↦ inl (whole ∙ (same ∙ stays))
            | inr sealed ↦ inr (whole ∙ (sealed ∙ ap (λ x. Some (slot.Sealed (standing_value x))) stays))
          ]
    ]

-- so where a seal stands in the end, it is that of what stood there
sealed_from : (x y : Option Slot) (kept : Option ℕ) → ((lane : ℕ) → x ≢ Some (slot.Claim lane)) → (is_sealed x ≡ true → y ≡ x) → y ≡ Some (slot.Sealed kept)
    → (y ≡ x) ⊎ (y ≡ Some (slot.Sealed (standing_value x))) → y ≡ seal_of x
sealed_from None y kept free stays is (inl same) = absurd (cc (sym same ∙ is))
sealed_from None y kept free stays is (inr seal) = seal
sealed_from (Some (slot.Entry number)) y kept free stays is (inl same) = absurd (cc (sym same ∙ is))
sealed_from (Some (slot.Entry number)) y kept free stays is (inr seal) = seal
sealed_from (Some (slot.Fault number)) y kept free stays is (inl same) = absurd (cc (sym same ∙ is))
sealed_from (Some (slot.Fault number)) y kept free stays is (inr seal) = seal
sealed_from (Some (slot.Claim lane)) y kept free stays is either = absurd (free lane refl)
sealed_from (Some (slot.Sealed k)) y kept free stays is either = stays refl

pub seal_left : (limits : Limits) (h more : History) (cell : ℕ) (kept : Option ℕ) → IsLegal limits (h ++ more) → SealsOnly cell more → ((lane : ℕ) → (state_after h).slots cell ≢ Some (slot.Claim lane))
    → (state_after (h ++ more)).slots cell ≡ Some (slot.Sealed kept) → (state_after (h ++ more)).slots cell ≡ seal_of ((state_after h).slots cell)
seal_left limits h more cell kept legal only free is =
    sealed_from ((state_after h).slots cell) ((state_after (h ++ more)).slots cell) kept free (λ sealed. quiet_slot h more cell (none_after_seal h more cell legal sealed)) is (sealed_or_same limits h more cell legal only)

-- ---- seals

-- each event on this cell that is seen meanwhile was made by these lanes
pub record IsOwnOn {V : Type 0} (h : History) (cell : ℕ) (before after : List (StoreLane V)) : Type 0 where
  pub own : (place : ℕ) (event : Event ℕ) → IsSeenMeanwhile place before after → slice_get h place ≡ Some event → place_of event.act ≡ Some cell → IsMadeIn h place before after

-- the first lane of a close, as its steps leave it
abbrev pub with_cells : {V : Type 0} → StoreLane V → Lane → StoreLane V
with_cells a cells = record { cells = cells; known = a.known; faults = a.faults; keys = a.keys }

-- the act seals the context
abbrev pub IsSealOf : StoreView → ℕ → Act ℕ → Type 0
IsSealOf store node act = (key : ℕ) × (key < length store.id.keys) × (Seal (cell_in store key node) ≡ act)

module _ {V : Type 0} (store : StoreView) (h : History) (node : ℕ) (lane : StoreLane V) (cells : Lane) (rest : List (StoreLane V))
    (made : MakesSeals store node lane.cells cells) (within : All (HasSeenWithin h) (with_cells lane cells ∷ rest)) where
  abbrev Old : History
  Old = seen_by lane.cells.view

  abbrev New : History
  New = seen_by cells.view

  abbrev Left : List (StoreLane V)
  Left = with_cells lane cells ∷ rest

  abbrev calls : Calls lane.cells.cells.limits lane.cells.view cells.view (seals_of store node made.sealed)
  calls = made.calls

  -- each event that the lanes made is a seal of the context,
  pub made_is_seal : (place : ℕ) (e : Event ℕ) → slice_get h place ≡ Some e → IsMadeIn h place (lane ∷ rest) Left → IsSealOf store node e.act
  made_is_seal place e in_h by = elim by [
    | inr none ↦ absurd (same_made h rest place none)
    | inl one ↦
        let acts = seals_of store node made.sealed in
        let here : HasSeenWithin h (with_cells lane cells) = All-head (HasSeenWithin h) (with_cells lane cells) rest within in
        let seal = one_of_seals store node made.sealed one.event.act (made_acts lane.cells.cells.limits acts lane (with_cells lane cells) h place calls here one) in
        let both : Some one.event ≡ Some e = sym one.there ∙ in_h in
        let same : one.event ≡ e = cc both in
        (seal.0, made.keys seal.0 seal.1, seal.2 ∙ ap (λ (x : Event ℕ). x.act) same)
  ]

  -- and so is each that came on a cell where they are alone
  event_is : (e : Event ℕ) (cell : ℕ) → Contains (seen_goes_on calls).0 e → place_of e.act ≡ Some cell → IsOwnOn h cell (lane ∷ rest) Left → IsSealOf store node e.act
  event_is e cell there on own =
      let more = (seen_goes_on calls).0 in
      let whole : Old ++ more ≡ New = (seen_goes_on calls).1 in
      let place = length Old + there.0 in
      let less = there.1 in
      let stands : slice_get more there.0 ≡ Some e = slice_get-get_or more there.0 e less ∙ ap Some there.2 in
      let in_new : slice_get New place ≡ Some e = subst (λ (l : History). slice_get l place ≡ Some e) whole (behind_part Old more there.0 place refl ∙ stands) in
      let here : HasSeenWithin h (with_cells lane cells) = All-head (HasSeenWithin h) (with_cells lane cells) rest within in
      let in_h : slice_get h place ≡ Some e = subst (λ (l : History). slice_get l place ≡ Some e) here.1 (in_whole New here.0 place e in_new) in
      let size = ap length whole in
      let sum = length-append Old more in
      made_is_seal place e in_h (own.own place e (record { since = omega arith; until = omega (arith, less, size, sum) }) in_h on)

  seals_only : (cell : ℕ) → IsOwnOn h cell (lane ∷ rest) Left → SealsOnly cell (seen_goes_on calls).0
  seals_only cell own e there on =
      let at = at_place cell (place_of e.act) on in
      let seal = event_is e cell there at own in
      let same : Some (cell_in store seal.0 node) ≡ Some cell = ap place_of seal.2 ∙ at in
      sym seal.2 ∙ ap Seal (cc same)

  none_there : (cell : ℕ) → IsOwnOn h cell (lane ∷ rest) Left → ((key : ℕ) → key < length store.id.keys → cell ≢ cell_in store key node) → IsQuiet cell (seen_goes_on calls).0
  none_there cell own other = quiet_from_none (seen_goes_on calls).0 cell (λ e there. elim (bools (is_on nat_eq cell e.act)) [
    | inl on ↦
        let at = at_place cell (place_of e.act) on in
        let seal = event_is e cell there at own in
        let same : Some (cell_in store seal.0 node) ≡ Some cell = ap place_of seal.2 ∙ at in
        absurd (other seal.0 seal.1 (sym (cc same)))
    | inr off ↦ off
  ])

  -- what stood in a cell that is none of the context stands there still
  pub cell_stays : (cell : ℕ) → IsOwnOn h cell (lane ∷ rest) Left → ((key : ℕ) → key < length store.id.keys → cell ≢ cell_in store key node) → (state_after New).slots cell ≡ (state_after Old).slots cell
  cell_stays cell own other = ap (λ g. (state_after g).slots cell) (sym (seen_goes_on calls).1) ∙ quiet_slot Old (seen_goes_on calls).0 cell (none_there cell own other)

  -- and in one of the context, which is sealed in the end, its seal does
  pub cell_sealed : (limits : Limits) → IsLegal limits h → (cell : ℕ) (kept : Option ℕ) → IsOwnOn h cell (lane ∷ rest) Left → ((holder : ℕ) → (state_after Old).slots cell ≢ Some (slot.Claim holder)) → (state_after New).slots cell ≡ Some (slot.Sealed kept)
      → (state_after New).slots cell ≡ seal_of ((state_after Old).slots cell)
  cell_sealed limits legal cell kept own free is =
      let more = (seen_goes_on calls).0 in
      let whole : Old ++ more ≡ New = (seen_goes_on calls).1 in
      let here : HasSeenWithin h (with_cells lane cells) = All-head (HasSeenWithin h) (with_cells lane cells) rest within in
      let legal_there : IsLegal limits (Old ++ more) = subst (IsLegal limits) (sym whole) (legal_begun New h here legal) in
      let there : (state_after (Old ++ more)).slots cell ≡ Some (slot.Sealed kept) = ap (λ g. (state_after g).slots cell) whole ∙ is in
      ap (λ g. (state_after g).slots cell) (sym whole) ∙ seal_left limits Old more cell kept legal_there (seals_only cell own) free there
