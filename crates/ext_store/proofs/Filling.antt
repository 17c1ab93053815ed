-- What keeping a value and storing its number in a claimed cell says, from what its two steps say.
use Rattle.std.proofs.Common.{◌≡◌, ◌≢◌, ℕ, List, [], ◌∷◌, false, sym, refl, ap, ◌∙◌, subst, nat_eq}
use Rattle.std.specs.Prelude.{Option, None, Some, All}
use Rattle.std.proofs.lemmas.List.Elements.{All-nil, All-cons}
use Rattle.ext_model.specs.declared.event.Act.{Act}
use Rattle.ext_model.specs.declared.event.Act.TheVariants.{Keep, Fill, Fail, Abandon}
use Rattle.ext_model.specs.Events as events
use Rattle.ext_model.specs.Events.{is_on}
use Rattle.ext_model.specs.History.{Limits, stored_number, reply_after, IsLegal}
use Rattle.ext_history.specs.Histories.{seen_by}
use Rattle.ext_model.specs.CallActs.{Calls, HoldsAtPoint, IsOvertaken, IsHeld}
use Rattle.ext_history.proofs.Composed.{point_of_first, answer_first}
use Rattle.ext_history.proofs.Crowded.{overtaken_crowded, crowded_by_first}
use Rattle.ext_model.proofs.Composed.{calls_compose}
use Rattle.ext_model.proofs.Held.{claim_held}
use Rattle.ext_values.specs.Known.{known_at}
use Rattle.ext_cells.specs.Lanes.{CellsId, Lane}
use Rattle.ext_cells.specs.CellCalls.{IsOvertakenAt}
use Rattle.ext_store.specs.declared.fault.KeepFault.{KeepFault}
use Rattle.ext_store.specs.declared.fault.KeepFault.TheVariants as fault
use Rattle.ext_store.specs.Stores.{StoreView, StoreLane, IsKeptBy, StillKeeps}
use Rattle.ext_store.specs.LaneCalls as calls
use Rattle.ext_store.specs.LaneCalls.{KeepFails}
use Rattle.ext_store.specs.Computing.{Fills, Fails, IsUnkept}
use Rattle.ext_store_core.proofs.Claimed.{StoresNone}
use Rattle.ext_store.proofs.Keeping.{one_kept}
use Rattle.ext_store.proofs.Outdrawn.{outdrawn, outdrawn_first}
use Rattle.ext_store_core.proofs.Parts.{happens_first, happens_alone}

-- what a lane keeps it keeps on, while its calls store nothing,
module _ {V : Type 0} (limits : Limits) (before after : StoreLane V) where
  pub storing_none : (acts : List (Act ℕ)) → All StoresNone acts → Calls limits before.cells.view after.cells.view acts → after.known ≡ before.known → StillKeeps before after
  storing_none acts none one same = (λ number kept. one_kept limits before after acts number one (λ k d less e. no_number number (sym (none k d less) ∙ e)) (ap (λ k. known_at k number) same) kept)
    where
      no_number : (number : ℕ) → (let x : Option ℕ = None in x ≡ Some number) → ⊥
      no_number number e = cc e

  -- or another one
  pub filled_keeps : (at stored : ℕ) → Calls limits before.cells.view after.cells.view (Fill at stored ∷ []) → after.known ≡ before.known → (number : ℕ) → number ≢ stored → IsKeptBy before number → IsKeptBy after number
  filled_keeps at stored one same number other kept =
      one_kept limits before after (Fill at stored ∷ []) number one (All-cons (λ x. stored_number x ≡ Some number → ⊥) (Fill at stored) [] (λ e. other (one_number e)) (All-nil _)) (ap (λ k. known_at k number) same) kept
    where
      one_number : (let x : Option ℕ = Some stored in x ≡ Some number) → number ≡ stored
      one_number e = cc e

  pub failed_keeps : (at stored : ℕ) → Calls limits before.cells.view after.cells.view (Fail at stored ∷ []) → after.known ≡ before.known → (number : ℕ) → number ≢ stored → IsKeptBy before number → IsKeptBy after number
  failed_keeps at stored one same number other kept =
      one_kept limits before after (Fail at stored ∷ []) number one (All-cons (λ x. stored_number x ≡ Some number → ⊥) (Fail at stored) [] (λ e. other (one_number e)) (All-nil _)) (ap (λ k. known_at k number) same) kept
    where
      one_number : (let x : Option ℕ = Some stored in x ≡ Some number) → number ≡ stored
      one_number e = cc e

module _ (store : StoreView) (a b : Lane) (is : a.cells ≡ store.id.cells) (cell : ℕ) where
  abbrev limits : Limits
  limits = store.id.cells.limits

  -- the drawing of a number, by the store's own limits
  drew : (number : ℕ) → calls.HoldsAtPoint a b (Keep number ∷ []) (λ p. calls.reply_to a (Keep number) p ≡ events.Happens (Some number))
      → HoldsAtPoint store.id.cells.limits a.view b.view (Keep number ∷ []) (λ p. reply_after store.id.cells.limits p a.view.number (Keep number) ≡ events.Happens (Some number))
  drew number = subst (λ (z : CellsId). HoldsAtPoint z.limits a.view b.view (Keep number ∷ []) (λ p. reply_after z.limits p a.view.number (Keep number) ≡ events.Happens (Some number))) is

  held_after : IsLegal store.id.cells.limits (seen_by b.view) → (acts : List (Act ℕ)) → All (λ act. is_on nat_eq cell act ≡ false) acts → Calls store.id.cells.limits a.view b.view acts → IsHeld a.view cell → IsHeld b.view cell
  held_after lawful acts off one held = (claim_held limits a.view b.view acts cell lawful one off held).0

  off_keep : (number : ℕ) → All (λ act. is_on nat_eq cell act ≡ false) (Keep number ∷ [])
  off_keep number = All-cons (λ act. is_on nat_eq cell act ≡ false) (Keep number) [] refl (All-nil _)

  -- the claim stands on while a number is drawn, or none
  pub kept_held : (number : ℕ) → IsLegal store.id.cells.limits (seen_by b.view) → calls.HoldsAtPoint a b (Keep number ∷ []) (λ p. calls.reply_to a (Keep number) p ≡ events.Happens (Some number)) → IsHeld a.view cell → IsHeld b.view cell
  kept_held number lawful h held = held_after lawful (Keep number ∷ []) (off_keep number) (drew number h).calls held

  pub fails_held : (why : KeepFault) → IsLegal store.id.cells.limits (seen_by b.view) → KeepFails store a b why → IsHeld a.view cell → IsHeld b.view cell
  unfolding KeepFails
  fails_held fault.Memory lawful h held = subst (λ (l : Lane). IsHeld l.view cell) (sym h) held
  fails_held fault.NumbersFull lawful h held = held_after lawful [] (All-nil _) (subst (λ (z : CellsId). Calls z.limits a.view b.view []) is h.calls) held
  fails_held fault.Contended lawful h held = held_after lawful [] (All-nil _) (subst (λ (z : CellsId). Calls z.limits a.view b.view []) is h.calls) held
  fails_held fault.Unplaced lawful h held = held_after lawful (Keep h.0 ∷ []) (off_keep h.0) (drew h.0 h.1).calls held

  module _ (c : Lane) where
    pub fills : (number : ℕ) → calls.HoldsAtPoint a b (Keep number ∷ []) (λ p. calls.reply_to a (Keep number) p ≡ events.Happens (Some number))
        → Calls store.id.cells.limits b.view c.view (Fill cell number ∷ []) → Fills store.id.cells.limits [] cell a.view c.view number
    fills number h two = let one = drew number h in record {
      calls = calls_compose limits a.view b.view c.view (Keep number ∷ []) (Fill cell number ∷ []) one.calls two;
      drawn = happens_first limits a.view b.view c.view (Keep number ∷ []) (Fill cell number ∷ []) one.calls two [] (Keep number) (Some number) (happens_alone limits a.view b.view (Keep number) (Some number) one);
    }

    pub fails_with : (number : ℕ) → calls.HoldsAtPoint a b (Keep number ∷ []) (λ p. calls.reply_to a (Keep number) p ≡ events.Happens (Some number))
        → Calls store.id.cells.limits b.view c.view (Fail cell number ∷ []) → Fails store.id.cells.limits [] cell a.view c.view number
    fails_with number h two = let one = drew number h in record {
      calls = calls_compose limits a.view b.view c.view (Keep number ∷ []) (Fail cell number ∷ []) one.calls two;
      drawn = happens_first limits a.view b.view c.view (Keep number ∷ []) (Fail cell number ∷ []) one.calls two [] (Keep number) (Some number) (happens_alone limits a.view b.view (Keep number) (Some number) one);
    }

    pub unkept : (why : KeepFault) → KeepFails store a b why → (why ≡ fault.Contended → IsOvertakenAt store.tries a b (Keep 0)) → Calls store.id.cells.limits b.view c.view (Abandon cell ∷ []) → IsUnkept store.id.cells.limits store.tries [] cell a.view c.view why
    unfolding IsUnkept KeepFails
    unkept fault.Memory h last two = subst (λ (l : Lane). Calls limits l.view c.view (Abandon cell ∷ [])) h two
    unkept fault.NumbersFull h last two =
        let full : HoldsAtPoint limits a.view b.view [] (λ p. reply_after limits p a.view.number (Keep 0) ≡ events.Refuses events.NumbersFull) =
        subst (λ (z : CellsId). HoldsAtPoint z.limits a.view b.view [] (λ p. reply_after z.limits p a.view.number (Keep 0) ≡ events.Refuses events.NumbersFull)) is h in (
          calls_compose limits a.view b.view c.view [] (Abandon cell ∷ []) full.calls two,
          (
            full.point.0,
            point_of_first full.calls two (answer_first full.calls full.point.0 full.point.1),
            full.point.2,
          ),
        )
    unkept fault.Contended h last two =
        let over : IsOvertaken limits store.tries a.view b.view = subst (λ (z : CellsId). IsOvertaken z.limits store.tries a.view b.view) is h in (
          calls_compose limits a.view b.view c.view [] (Abandon cell ∷ []) over.calls two,
          crowded_by_first store.tries over.calls two (overtaken_crowded store.tries over),
          outdrawn_first limits store.tries a.view b.view c.view [] (Abandon cell ∷ []) over.calls two (outdrawn limits store.tries a b [] (ap (λ (z : CellsId). z.limits) is) over.calls (last refl)),
        )
    unkept fault.Unplaced h last two =
        let one = drew h.0 h.1 in (
          h.0,
          calls_compose limits a.view b.view c.view (Keep h.0 ∷ []) (Abandon cell ∷ []) one.calls two,
          happens_first limits a.view b.view c.view (Keep h.0 ∷ []) (Abandon cell ∷ []) one.calls two [] (Keep h.0) (Some h.0) (happens_alone limits a.view b.view (Keep h.0) (Some h.0) one),
        )
