-- What a call leaves of the numbers that a lane keeps, and what the drawing of a number says.
use Rattle.std.proofs.Common.{◌≡◌, ◌≢◌, ℕ, ◌+◌, ◌≤◌, length, length-drop, Bool, true, false, List, [], ◌∷◌, sym, refl, ap, ◌∙◌, subst, arith, nat_lt, Option, None, Some}
use Rattle.std.specs.Prelude.{Result, Ok, Err, All, IfErr, MatchResult, if◌then◌else◌}
use Rattle.std.proofs.lemmas.List.Elements.{All-nil, All-cons}
use Rattle.std.proofs.lemmas.Bool.Decides.{nat_tests}
use Rattle.ext_model.specs.declared.event.Act.{Act}
use Rattle.ext_model.specs.declared.event.Act.TheVariants.{Keep, Put, Remove}
use Rattle.ext_model.specs.Events as events
use Rattle.ext_model.specs.History.{Limits, state_after, stored_number}
use Rattle.ext_model.specs.Plain.{number_drawn}
use Rattle.ext_model.specs.CallActs.{Calls}
use Rattle.ext_values.specs.Known.{Learns, known_at}
use Rattle.ext_cells.specs.declared.refusal.CellRefusal.{CellRefusal}
use Rattle.ext_cells.specs.declared.refusal.CellRefusal.TheVariants as cell
use Rattle.ext_cells.specs.Lanes.{Lane}
use Rattle.ext_cells.specs.CellCalls as cells
use Rattle.ext_cells.proofs.Storable.{stays_storable}
use Rattle.ext_store_core.specs.declared.fault.Refusal.{Refusal}
use Rattle.ext_store_core.specs.ContextCalls.{ContextCells, cell_in}
use Rattle.ext_store.specs.Stores.{StoreView, StoreLane, IsKeptBy, StillKeeps, StillKeepsBut}
use Rattle.ext_store.specs.InnerKeeping.{keep_fault}
use Rattle.ext_store.specs.LaneCalls.{HoldsAtPoint, reply_to, steps_of, with_kept, put_acts, remove_acts, KeepFails}
use Rattle.ext_store.specs.Waiting.{IsDecided}

-- where two are there, they are one
pub one_number : (a b : ℕ) → (let x : Option ℕ = Some a in let y : Option ℕ = Some b in x ≡ y) → a ≡ b
one_number a b e = cc e

-- a value is known or none is
pub not_both : {V : Type 0} (o : Option V) (v : V) → o ≡ Some v → o ≡ None → ⊥
not_both o v some none = cc (some, none)

-- the act stores another number, or none
abbrev pub StoresNot : ℕ → Act ℕ → Type 0
StoresNot number act = stored_number act ≡ Some number → ⊥

module _ {V : Type 0} (limits : Limits) (before after : StoreLane V) where
  -- a number that the call did not store, and whose value stays known, is kept
  pub one_kept : (acts : List (Act ℕ)) (number : ℕ) → Calls limits before.cells.view after.cells.view acts → All (StoresNot number) acts
      → known_at after.known number ≡ known_at before.known number → IsKeptBy before number → IsKeptBy after number
  one_kept acts number calls none same kept = record {
    storable = stays_storable limits before.cells.view after.cells.view acts number calls none kept.storable;
    value = kept.value;
    known = same ∙ kept.known;
  }

  -- after a call without an event,
  pub quiet_keeps : Calls limits before.cells.view after.cells.view [] → after.known ≡ before.known → StillKeeps before after
  quiet_keeps calls same = (λ number kept. one_kept [] number calls (All-nil (StoresNot number)) (ap (λ k. known_at k number) same) kept)

  -- after one that stores no number,
  pub removed_keeps : (at : ℕ) → Calls limits before.cells.view after.cells.view (Remove at ∷ []) → after.known ≡ before.known → StillKeeps before after
  removed_keeps at calls same = (λ number kept. one_kept (Remove at ∷ []) number calls (All-cons (StoresNot number) (Remove at) [] (λ e. cc e) (All-nil (StoresNot number))) (ap (λ k. known_at k number) same) kept)

  -- after one that stores another,
  pub stored_keeps : (at stored : ℕ) → Calls limits before.cells.view after.cells.view (Put at stored ∷ []) → after.known ≡ before.known → StillKeepsBut stored before after
  stored_keeps at stored calls same = (λ number other kept.
      one_kept (Put at stored ∷ []) number calls (All-cons (StoresNot number) (Put at stored) [] (λ e. other (sym (one_number stored number e))) (All-nil (StoresNot number))) (ap (λ k. known_at k number) same) kept)

  -- after one that drew another, of which the lane learnt nothing,
  pub unplaced_keeps : (drawn : ℕ) → Calls limits before.cells.view after.cells.view (Keep drawn ∷ []) → after.known ≡ before.known → StillKeeps before after
  unplaced_keeps drawn calls same = (λ number kept. one_kept (Keep drawn ∷ []) number calls (All-cons (StoresNot number) (Keep drawn) [] (λ e. cc e) (All-nil (StoresNot number))) (ap (λ k. known_at k number) same) kept)

  -- and after one that drew another, of which the lane knows a value now,
  pub found_keeps : (drawn : ℕ) (value : V) → Calls limits before.cells.view after.cells.view (Keep drawn ∷ []) → Learns before.known after.known drawn value → ((m : ℕ) → IsKeptBy before m → m ≢ drawn) → StillKeeps before after
  found_keeps drawn value calls learns apart = (λ number kept.
      one_kept (Keep drawn ∷ []) number calls (All-cons (StoresNot number) (Keep drawn) [] (λ e. cc e) (All-nil (StoresNot number))) (learns.others number (apart number kept)) kept)

  -- as where it knew none before
  pub learnt_keeps : (drawn : ℕ) (value : V) → Calls limits before.cells.view after.cells.view (Keep drawn ∷ []) → Learns before.known after.known drawn value → known_at before.known drawn ≡ None → StillKeeps before after
  learnt_keeps drawn value calls learns free = found_keeps drawn value calls learns (λ number kept same. not_both _ kept.value (ap (λ m. known_at before.known m) (sym same) ∙ kept.known) free)

-- none where there was no call
pub no_steps : (lane : Lane) (most : ℕ) → steps_of lane lane ≤ most
no_steps lane most = omega (arith, length-drop (length lane.view.fronts) lane.view.fronts)

-- ---- puts and removes

-- a put that was refused hands its number back,
pub handed_back : (number : ℕ) (said : Result (Option ℕ) Refusal) (r : Result (Option ℕ) (ℕ × Refusal)) → r ≡ with_kept number said → IfErr r (λ e. e.0 ≡ number)
handed_back number said r is = subst (λ x. IfErr x (λ e. e.0 ≡ number)) (sym is) (back said)
  where
    back : (s : Result (Option ℕ) Refusal) → IfErr (with_kept number s) (λ e. e.0 ≡ number)
    back (Ok stood) = tt
    back (Err why) = refl

-- and says what the cells said
pub decided_back : (number : ℕ) (said : Result (Option ℕ) Refusal) (r : Result (Option ℕ) (ℕ × Refusal)) → r ≡ with_kept number said → IfErr said IsDecided → IfErr r (λ e. IsDecided e.1)
decided_back number said r is decided = subst (λ x. IfErr x (λ e. IsDecided e.1)) (sym is) (decides said decided)
  where
    decides : (s : Result (Option ℕ) Refusal) → IfErr s IsDecided → IfErr (with_kept number s) (λ e. IsDecided e.1)
    decides (Ok stood) d = tt
    decides (Err why) d = d

module _ {V : Type 0} (store : ContextCells) (context key : ℕ) (before after : StoreLane V) (same : after.known ≡ before.known) where
  pub put_keeps : (number : ℕ) (r : Result (Option ℕ) (ℕ × Refusal)) → Calls before.cells.cells.limits before.cells.view after.cells.view (put_acts (cell_in store key context) number r)
      → MatchResult r (λ _. StillKeepsBut number before after) (λ _. StillKeeps before after)
  put_keeps number (Ok stood) calls = stored_keeps before.cells.cells.limits before after (cell_in store key context) number calls same
  put_keeps number (Err e) calls = quiet_keeps before.cells.cells.limits before after calls same

  pub remove_keeps : (r : Result (Option ℕ) Refusal) → Calls before.cells.cells.limits before.cells.view after.cells.view (remove_acts (cell_in store key context) r) → StillKeeps before after
  remove_keeps (Ok None) calls = quiet_keeps before.cells.cells.limits before after calls same
  remove_keeps (Ok (Some number)) calls = removed_keeps before.cells.cells.limits before after (cell_in store key context) calls same
  remove_keeps (Err why) calls = quiet_keeps before.cells.cells.limits before after calls same

-- ---- keep

drawn_is : (numbers drawn n : ℕ) (b : Bool) → nat_lt drawn numbers ≡ b → (let r : Result ℕ CellRefusal = Ok n in r ≡ cells.result_of number_drawn (if b then events.Happens (Some (drawn + 1)) else events.Refuses events.NumbersFull))
    → ((if b then events.Happens (Some (drawn + 1)) else events.Refuses events.NumbersFull) ≡ events.Happens (Some n)) × (n ≡ drawn + 1) × (n ≤ numbers)
drawn_is numbers drawn n true less e = let same : n ≡ drawn + 1 = cc e in (ap (λ k. events.Happens (Some k)) (sym same), same, grind (arith, nat_tests))
drawn_is numbers drawn n false less e = absurd (cc e)

full_is : (drawn : ℕ) (b : Bool) (why : CellRefusal) → (let r : Result ℕ CellRefusal = Err why in r ≡ cells.result_of number_drawn (if b then events.Happens (Some (drawn + 1)) else events.Refuses events.NumbersFull))
    → (why ≡ cell.NumbersFull) × ((if b then events.Happens (Some (drawn + 1)) else events.Refuses events.NumbersFull) ≡ events.Refuses events.NumbersFull)
full_is drawn true why e = absurd (cc e)
full_is drawn false why e = (cc e, refl)

module _ (store : StoreView) (tries : ℕ) (before after : Lane) (same : tries ≡ store.tries) where
  pub drew : (n : ℕ) → cells.Answers tries before after cells.number_acts (cells.number_reply before) (Ok n) → HoldsAtPoint before after (Keep n ∷ []) (λ p. reply_to before (Keep n) p ≡ events.Happens (Some n))
  drew n a =
      let h = a.replied (λ e. cc e) in
      record { calls = h.calls; stepped = h.stepped; point = (h.point.0, h.point.1, (drawn_is before.cells.limits.numbers (state_after h.point.0).drawn n _ refl h.point.2).0) }

  pub drew_number : (n : ℕ) → cells.Answers tries before after cells.number_acts (cells.number_reply before) (Ok n) → (1 ≤ n) × (n ≤ before.cells.limits.numbers)
  drew_number n a =
      let h = a.replied (λ e. cc e) in
      let d = drawn_is before.cells.limits.numbers (state_after h.point.0).drawn n _ refl h.point.2 in
      let is = d.1 in (omega (arith, is), d.2)

  none_drawn : (why : CellRefusal) → (let r : Result ℕ CellRefusal = Err why in r ≢ Err cell.Contended) → cells.Answers tries before after cells.number_acts (cells.number_reply before) (Err why) → why ≡ cell.NumbersFull
  none_drawn why ne a = let h = a.replied ne in (full_is (state_after h.point.0).drawn _ why h.point.2).0

  pub drew_none : (why : CellRefusal) → cells.Answers tries before after cells.number_acts (cells.number_reply before) (Err why) → KeepFails store before after (keep_fault why)
  unfolding KeepFails
  drew_none cell.NumbersFull a =
      let h = a.replied (λ e. cc e) in
      record { calls = h.calls; stepped = h.stepped; point = (h.point.0, h.point.1, (full_is (state_after h.point.0).drawn _ cell.NumbersFull h.point.2).1) }
  drew_none cell.Contended a = rw (sym same) (a.overtaken refl)
  drew_none cell.Busy a = let e : cell.Busy ≡ cell.NumbersFull = none_drawn cell.Busy (λ e. cc e) a in absurd (cc e)
  drew_none cell.Closed a = let e : cell.Closed ≡ cell.NumbersFull = none_drawn cell.Closed (λ e. cc e) a in absurd (cc e)
  drew_none cell.Exhausted a = let e : cell.Exhausted ≡ cell.NumbersFull = none_drawn cell.Exhausted (λ e. cc e) a in absurd (cc e)
  drew_none cell.Memory a = let e : cell.Memory ≡ cell.NumbersFull = none_drawn cell.Memory (λ e. cc e) a in absurd (cc e)
  drew_none cell.BadLimit a = let e : cell.BadLimit ≡ cell.NumbersFull = none_drawn cell.BadLimit (λ e. cc e) a in absurd (cc e)
