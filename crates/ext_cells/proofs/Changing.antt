-- A put, a remove, a claim or a seal: what a decision on the cell's word means for the lane's call.
use Rattle.std.proofs.Common.{◌≡◌, inl, inr, ℕ, ◌^◌, ◌<◌, Bool, true, false, [], ◌∷◌, ◌++◌, sym, ap, ◌∙◌, subst, arith, Option, None, Some, IfSome}
use Rattle.std.specs.Prelude.{Result, Ok, Err, unwrap_or}
use Rattle.ext_model.specs.declared.event.Act.{Act}
use Rattle.ext_model.specs.declared.event.Act.TheVariants.{Keep, Put, Remove, Claim, Fill, Fail, Abandon, Seal}
use Rattle.ext_model.specs.declared.slot.Slot.{Slot}
use Rattle.ext_model.specs.declared.slot.Slot.TheVariants as slot
use Rattle.ext_model.specs.Events as events
use Rattle.ext_model.specs.Events.{place_of}
use Rattle.ext_model.specs.History.{History, Limits, by, stored_number, state_after, version_of, reply_after, IsAllowed}
use Rattle.ext_model.specs.CallActs.{MayStore, LaneView, HoldsAtPoint, GoesOn, MayStoreNow}
use Rattle.ext_model.specs.Plain.{what_stood}
use Rattle.ext_history.specs.Histories.{seen_by, moved}
use Rattle.ext_history.proofs.Composed.{same_number}
use Rattle.ext_model.proofs.Held.{goes_on_store}
use Rattle.ext_model.proofs.Numbers.{bounded}
use Rattle.ext_cells.specs.declared.refusal.CellRefusal.{CellRefusal}
use Rattle.ext_cells.specs.declared.refusal.CellRefusal.TheVariants as refusal
use Rattle.ext_cells.specs.declared.decision.Decision.TheVariants.{Change, Done}
use Rattle.ext_cells.specs.declared.stood.Stood.{Stood}
use Rattle.ext_cells.specs.Lanes.{Lane}
use Rattle.ext_cells.specs.CellCalls.{result_of, change_reply}
use Rattle.ext_cells.specs.InnerDeciding.{IsCellWord, IsChange, reply_on, Decides}
use Rattle.ext_cells.specs.InnerSteps.{Finds, MayGoOn, IsChangeOf, answer_to, idle_reply, Changes}
use Rattle.ext_cells.specs.InnerTableSteps.{index_in}
use Rattle.ext_cells.proofs.CellWords.{cell_word, word_after}
use Rattle.ext_cells.proofs.Tries.{TriesOn, answered, made, goes_on, seen_on}

-- what one thread replies to a change, by the cell
reply_is : (limits : Limits) (h : History) (lane cell : ℕ) (act : Act ℕ) → IsChangeOf cell act → reply_after limits h lane act ≡ reply_on act ((state_after h).slots cell) (version_of h cell)
reply_is limits h lane cell (Keep n) is = absurd is
reply_is limits h lane cell (Put at n) is = ap (λ k. events.put_reply (events.is_worn (version_of h k)) ((state_after h).slots k)) is
reply_is limits h lane cell (Remove at) is = ap (λ k. events.remove_reply (events.is_worn (version_of h k)) ((state_after h).slots k)) is
reply_is limits h lane cell (Claim at) is = ap (λ k. events.claim_reply (events.is_worn_for_claim (version_of h k)) ((state_after h).slots k)) is
reply_is limits h lane cell (Fill at n) is = absurd is
reply_is limits h lane cell (Fail at n) is = absurd is
reply_is limits h lane cell (Abandon at) is = absurd is
reply_is limits h lane cell (Seal at) is = ap (λ k. events.seal_reply ((state_after h).slots k)) is

pub place_is : (cell : ℕ) (act : Act ℕ) → IsChangeOf cell act → place_of act ≡ Some cell
place_is cell (Keep n) is = absurd is
place_is cell (Put at n) is = ap Some is
place_is cell (Remove at) is = ap Some is
place_is cell (Claim at) is = ap Some is
place_is cell (Fill at n) is = absurd is
place_is cell (Fail at n) is = absurd is
place_is cell (Abandon at) is = absurd is
place_is cell (Seal at) is = ap Some is

pub index_in_is : (limits : Limits) (cell : ℕ) (act : Act ℕ) → place_of act ≡ Some cell → cell ≡ index_in limits act
index_in_is limits cell act is = sym (ap (λ o. unwrap_or o limits.cells) is)

-- a change that one thread makes is allowed, where the lane may store the number
allowed_by : (limits : Limits) (h : History) (lane cell : ℕ) (act : Act ℕ) (answer : Option ℕ) → IsChangeOf cell act → lane < limits.lanes → cell < limits.cells → IfSome (stored_number act) (λ number. MayStore lane number h)
    → reply_after limits h lane act ≡ events.Happens answer → IsAllowed limits h (by lane act)
allowed_by limits h lane cell (Keep n) answer is mine less store happens = absurd is
allowed_by limits h lane cell (Put at n) answer is mine less store happens = record { lane = mine; within = subst (λ k. k < limits.cells) (sym is) less; happens = (answer, happens); next = tt; drew = store.drew; fresh = store.fresh; keeps = tt }
allowed_by limits h lane cell (Remove at) answer is mine less store happens = record { lane = mine; within = subst (λ k. k < limits.cells) (sym is) less; happens = (answer, happens); next = tt; drew = tt; fresh = tt; keeps = tt }
allowed_by limits h lane cell (Claim at) answer is mine less store happens = record { lane = mine; within = subst (λ k. k < limits.cells) (sym is) less; happens = (answer, happens); next = tt; drew = tt; fresh = tt; keeps = tt }
allowed_by limits h lane cell (Fill at n) answer is mine less store happens = absurd is
allowed_by limits h lane cell (Fail at n) answer is mine less store happens = absurd is
allowed_by limits h lane cell (Abandon at) answer is mine less store happens = absurd is
allowed_by limits h lane cell (Seal at) answer is mine less store happens = record { lane = mine; within = subst (λ k. k < limits.cells) (sym is) less; happens = (answer, happens); next = tt; drew = tt; fresh = tt; keeps = tt }

may_store : (limits : Limits) (lane : LaneView) (h : History) (o : Option ℕ) → GoesOn limits lane h → IfSome o (MayStoreNow lane) → IfSome o (λ number. MayStore lane.number number h)
may_store limits lane h None on now = tt
may_store limits lane h (Some number) on now = goes_on_store limits lane number h on now

-- a number that the lane may store fits its bits
pub fits_bits : (limits : Limits) (lane : LaneView) (h : History) (number : ℕ) → limits.numbers < 2 ^ 20 → GoesOn limits lane h → MayStoreNow lane number → number < 2 ^ 20
fits_bits limits lane h number few on now =
    let store = goes_on_store limits lane number h on now in
    let b = bounded h on.legal in
    let least = b.kept lane.number number store.drew in
    let most = b.drawn in
    omega (arith, least, most, few)

is_change : (limits : Limits) (lane : LaneView) (h : History) (cell : ℕ) (act : Act ℕ) → limits.numbers < 2 ^ 20 → GoesOn limits lane h → IsChangeOf cell act → IfSome (stored_number act) (MayStoreNow lane) → IsChange act
is_change limits lane h cell (Keep n) small on is now = absurd is
is_change limits lane h cell (Put at n) small on is now = fits_bits limits lane h n small on now
is_change limits lane h cell (Remove at) small on is now = tt
is_change limits lane h cell (Claim at) small on is now = tt
is_change limits lane h cell (Fill at n) small on is now = absurd is
is_change limits lane h cell (Fail at n) small on is now = absurd is
is_change limits lane h cell (Abandon at) small on is now = absurd is
is_change limits lane h cell (Seal at) small on is now = tt

worn_contended : (b : Bool) (answer : Option ℕ) → (let y : Result (Option ℕ) CellRefusal = Err refusal.Contended in result_of what_stood (events.happens_unless b answer) ≡ y) → ⊥
worn_contended true answer e = cc e
worn_contended false answer e = cc e

-- no change is replied `Contended`
never_contended : (act : Act ℕ) (s : Option Slot) (version : ℕ) → IsChange act → (let y : Result (Option ℕ) CellRefusal = Err refusal.Contended in result_of what_stood (reply_on act s version) ≡ y) → ⊥
never_contended (Keep n) s v is e = is
never_contended (Put at n) None v is e = worn_contended _ None e
never_contended (Put at n) (Some (slot.Entry m)) v is e = worn_contended _ (Some m) e
never_contended (Put at n) (Some (slot.Fault m)) v is e = worn_contended _ (Some m) e
never_contended (Put at n) (Some (slot.Claim lane)) v is e = cc e
never_contended (Put at n) (Some (slot.Sealed kept)) v is e = cc e
never_contended (Remove at) None v is e = cc e
never_contended (Remove at) (Some (slot.Entry m)) v is e = worn_contended _ (Some m) e
never_contended (Remove at) (Some (slot.Fault m)) v is e = worn_contended _ (Some m) e
never_contended (Remove at) (Some (slot.Claim lane)) v is e = cc e
never_contended (Remove at) (Some (slot.Sealed kept)) v is e = cc e
never_contended (Claim at) None v is e = worn_contended _ None e
never_contended (Claim at) (Some (slot.Entry m)) v is e = cc e
never_contended (Claim at) (Some (slot.Fault m)) v is e = cc e
never_contended (Claim at) (Some (slot.Claim lane)) v is e = cc e
never_contended (Claim at) (Some (slot.Sealed kept)) v is e = cc e
never_contended (Fill at n) s v is e = is
never_contended (Fail at n) s v is e = is
never_contended (Abandon at) s v is e = is
never_contended (Seal at) None v is e = cc e
never_contended (Seal at) (Some (slot.Entry m)) v is e = cc e
never_contended (Seal at) (Some (slot.Fault m)) v is e = cc e
never_contended (Seal at) (Some (slot.Claim lane)) v is e = cc e
never_contended (Seal at) (Some (slot.Sealed kept)) v is e = cc e

same_refusal : (why : CellRefusal) → (let x : Result Stood CellRefusal = Err why in let y : Result Stood CellRefusal = Err refusal.Contended in x ≡ y) → (let x : Result (Option ℕ) CellRefusal = Err why in let y : Result (Option ℕ) CellRefusal = Err refusal.Contended in x ≡ y)
same_refusal why e = cc e

module _ (before now : Lane) (word count cell : ℕ) (act : Act ℕ) (small : before.cells.limits.numbers < 2 ^ 20) (less : cell < before.cells.limits.cells) (is : IsChangeOf cell act)
    (store : IfSome (stored_number act) (MayStoreNow before.view)) (c : TriesOn before now cell word count) where
  abbrev pub word_now : (stands : Option Slot) × (version : ℕ) × IsCellWord stands version word
  word_now = ((state_after (seen_by now.view)).slots cell, version_of (seen_by now.view) cell, cell_word (seen_by now.view) cell word small c.tries.legal c.tries.word_is less)

  pub act_now : IsChange act
  act_now = is_change before.cells.limits before.view (seen_by now.view) cell act small (seen_on before.cells.limits before.view now.view cell word count c.tries) is store

  module _ (next : ℕ) (stood : Stood) (decided : (stands : Option Slot) (version : ℕ) → IsCellWord stands version word → Decides act stands version (Change next stood)) where
    at_point : (h : History) → Finds before.cells.limits now.view cell word h → Decides act ((state_after h).slots cell) (version_of h cell) (Change next stood)
    at_point h f = decided ((state_after h).slots cell) (version_of h cell) (cell_word h cell word small f.on.legal f.word_is less)

    happens_at : (h : History) (lane : ℕ) → Finds before.cells.limits now.view cell word h → reply_after before.cells.limits h lane act ≡ events.Happens (answer_to act stood)
    happens_at h lane f = reply_is before.cells.limits h lane cell act is ∙ (at_point h f).0

    may_at : (h : History) → Finds before.cells.limits now.view cell word h → MayGoOn before.cells.limits now.view h cell next act
    may_at h f =
        let number : now.view.number ≡ before.view.number = same_number c.tries.calls in
        let on = goes_on before.cells.limits before.view now.view cell word count c.tries h f.on in
        let mine : IfSome (stored_number act) (λ n. MayStore now.view.number n h) = subst (λ k. IfSome (stored_number act) (λ n. MayStore k n h)) (sym number) (may_store before.cells.limits before.view h (stored_number act) on store) in
        record {
          allowed = allowed_by before.cells.limits h now.view.number cell act (answer_to act stood) is f.below less mine (happens_at h now.view.number f);
          word_is = word_after before.cells.limits h now.view.number act cell next (place_is cell act is) less ((at_point h f).1 now.view.number);
        }

    pub may_change : (h : History) → Finds now.cells.limits now.view cell word h → MayGoOn now.cells.limits now.view h cell next act
    may_change h f =
        let same = ap (λ z. z.limits) c.cells in
        subst (λ l. MayGoOn l now.view h cell next act) (sym same) (may_at h (subst (λ l. Finds l now.view cell word h) same f))

    pub changed : (tries : ℕ) (after : Lane) (h : History) → Finds now.cells.limits now.view cell word h → after.view ≡ moved now.view ((h ++ by now.view.number act ∷ []) ∷ []) → Changes tries before after act (Ok stood)
    changed tries after h f e =
        let f' = subst (λ l. Finds l now.view cell word h) (ap (λ z. z.limits) c.cells) f in
        inl (made before.cells.limits before.view now.view cell word count c.tries after.view act h (λ p. reply_after before.cells.limits p before.view.number act ≡ events.Happens (answer_to act stood)) f'.on e (happens_at h before.view.number f'))

  holds : (Fact : History → Type 0) → Fact (seen_by now.view) → HoldsAtPoint before.cells.limits before.view now.view [] Fact
  holds Fact fact = answered before.cells.limits before.view now.view cell word count c.tries Fact fact

  refused : (why : CellRefusal) → (let y : Result (Option ℕ) CellRefusal = Err why in result_of what_stood (reply_on act ((state_after (seen_by now.view)).slots cell) (version_of (seen_by now.view) cell)) ≡ y)
      → HoldsAtPoint before.cells.limits before.view now.view [] (λ p. change_reply before act p ≡ Err why)
  refused why e = holds (λ p. change_reply before act p ≡ Err why) (ap (result_of what_stood) (reply_is before.cells.limits (seen_by now.view) before.view.number cell act is) ∙ e)

  answered_by : (tries : ℕ) (reply : Result Stood CellRefusal) → Decides act ((state_after (seen_by now.view)).slots cell) (version_of (seen_by now.view) cell) (Done reply) → Changes tries before now act reply
  answered_by tries (Ok stood) d = inr (holds (λ p. reply_after before.cells.limits p before.view.number act ≡ idle_reply act stood) (reply_is before.cells.limits (seen_by now.view) before.view.number cell act is ∙ d))
  answered_by tries (Err refusal.Contended) d = absurd (never_contended act ((state_after (seen_by now.view)).slots cell) (version_of (seen_by now.view) cell) act_now d)
  answered_by tries (Err refusal.Busy) d = refused refusal.Busy d
  answered_by tries (Err refusal.Closed) d = refused refusal.Closed d
  answered_by tries (Err refusal.Exhausted) d = refused refusal.Exhausted d
  answered_by tries (Err refusal.NumbersFull) d = refused refusal.NumbersFull d
  answered_by tries (Err refusal.Memory) d = refused refusal.Memory d
  answered_by tries (Err refusal.BadLimit) d = refused refusal.BadLimit d

  -- a decision to answer is an answer by what was seen last
  pub done : (tries : ℕ) (reply : Result Stood CellRefusal) → ((stands : Option Slot) (version : ℕ) → IsCellWord stands version word → Decides act stands version (Done reply)) → Changes tries before now act reply
  done tries reply decided = answered_by tries reply (decided _ _ word_now.2)

  -- and one to change is the last word only where other lanes were in the way: the act would happen now
  pub would_happen : (next : ℕ) (stood : Stood) → ((stands : Option Slot) (version : ℕ) → IsCellWord stands version word → Decides act stands version (Change next stood))
      → (a : Option ℕ) × (reply_after before.cells.limits (seen_by now.view) before.view.number act ≡ events.Happens a)
  would_happen next stood decided = (answer_to act stood, reply_is before.cells.limits (seen_by now.view) before.view.number cell act is ∙ (decided _ _ word_now.2).0)

  -- a reply without an event is never `Contended`
  pub settled_otherwise : (reply : Result Stood CellRefusal) → ((stands : Option Slot) (version : ℕ) → IsCellWord stands version word → Decides act stands version (Done reply)) → reply ≡ Err refusal.Contended → ⊥
  settled_otherwise (Ok stood) decided e = cc e
  settled_otherwise (Err why) decided e = never_contended act word_now.0 word_now.1 act_now (decided word_now.0 word_now.1 word_now.2 ∙ same_refusal why e)
