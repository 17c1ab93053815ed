-- A close leaves as it was for how many values there is room; and a refused one has written nothing.
use Rattle.std.proofs.Common.{ℕ, ◌≡◌, ◌∙◌, List, [], ◌∷◌, Ok, ap, sym}
use Rattle.std.specs.Prelude.{Bool, true, false}
use Rattle.std.specs.List.{FoldsTo}
use Rattle.ext_model.specs.declared.closed.Closed.{Closed}
use Rattle.ext_store.specs.Stores.{CloserView, StoreLane, StoreView}
use Rattle.ext_closing.specs.Closes as closing
use Rattle.ext_closing.specs.Closing.{CallIf, Closing, ClosesOne}
use Rattle.ext_closing.specs.Lanes.{first_lane}
use Rattle.ext_closing.specs.Sealing.{numbers_left}
use Rattle.ext_c.specs.declared.handle.Handle.{Handle}
use Rattle.ext_c.specs.Writing.{WritesNext, Writings}

call_room : (b : Bool) (number : ℕ) (value : Handle) (before after : Closing Writings) → CallIf (λ (h : Handle). h.closeable) WritesNext b number value before after → after.action.room ≡ before.action.room
call_room true number value before after call = call.1.same_room
call_room false number value before after same = ap (λ (c : Closing Writings). c.action.room) same

calls_room : (lanes : List (StoreLane Handle)) (numbers : List ℕ) (before after : Closing Writings) → FoldsTo (ClosesOne (λ (h : Handle). h.closeable) WritesNext lanes) before numbers after
    → after.action.room ≡ before.action.room
calls_room lanes [] before after same = ap (λ (c : Closing Writings). c.action.room) (sym same)
calls_room lanes (number ∷ numbers) before after calls =
    let one = calls.1 in
    calls_room lanes numbers calls.0 after calls.2 ∙ call_room one.0.closeable number one.0 before calls.0 one.2

pub same_room : (store : StoreView) (closer : CloserView) (before : List (StoreLane Handle)) (first : Writings) (closed : Closed) (after : List (StoreLane Handle)) (last : Writings)
    → closing.Closes (λ (h : Handle). h.closeable) WritesNext store closer before first (Ok closed) after last → last.room ≡ first.room
same_room store closer before first closed after last happened =
    calls_room after (numbers_left store closer.context (first_lane store after)) (record { action = first; answers = [] }) (record { action = last; answers = happened.closes.answers })
    happened.closes.calls
