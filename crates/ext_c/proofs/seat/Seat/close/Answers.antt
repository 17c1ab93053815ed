use Rattle.std.proofs.Common.{ℕ, ◌<◌, ◌≤◌, ◌∙◌, length, sym, refl, ap, subst}
use Rattle.std.specs.Prelude.{Option, None, slice_index_or}
use Rattle.std.specs.Global.{Vec}
use Rattle.ext_store.specs.Stores.{CloserView, StoreLane}
use Rattle.ext_c.specs.declared.handle.Handle.{Handle}
use Rattle.ext_c.specs.Answers.{store_of}
use Rattle.ext_c.specs.Closing.{Asks, CloseSays, NotClosing, TellsRefused, room_for}
use Rattle.ext_c.proofs.Said.{claim_bars, close_done, close_refused, has_none}
use Rattle.ext_c.proofs.seat.Seat.close.Goals as goal

pub returns-then-is_some-clause-says : goal.returns-then-is_some-clause-says
returns-then-is_some-clause-says c = CloseSays.not_asked (claim_bars c.args.context (length c.args.values.now) c.args.self.now (sym c.is_some.ensures ∙ c.if-is_some.true)) refl refl refl

pub returns-then-values-room-clause-says : goal.returns-then-values-room-clause-says
returns-then-values-room-clause-says c =
    let few : length c.args.values.now < room_for (store_of c.args.self.now) = subst (λ (n : ℕ). length c.args.values.now < n) c.room.ensures.room c.if-values-room.true in
    CloseSays.not_asked (NotClosing.too_few (has_none c.args.self.now (sym c.is_some.ensures ∙ c.if-is_some.false)) few) refl refl refl

pub returns-in-Err-clause-says : goal.returns-in-Err-clause-says
returns-in-Err-clause-says c =
    let room : room_for (store_of c.args.self.now) ≤ length c.args.values.now = subst (λ (n : ℕ). n ≤ length c.args.values.now) c.room.ensures.room c.if-values-room.false in
    CloseSays.not_asked (c.in-Err.ensures.refused (length c.args.values.now) (has_none c.args.self.now (sym c.is_some.ensures ∙ c.if-is_some.false)) room) c.in-Err.ensures.unchanged refl refl

pub returns-in-Ok-ask-clause-says : goal.returns-in-Ok-ask-clause-says
returns-in-Ok-ask-clause-says c =
    let idle = has_none c.args.self.now (sym c.is_some.ensures ∙ c.if-is_some.false) in
    let room : room_for (store_of c.args.self.now) ≤ length c.args.values.now = subst (λ (n : ℕ). n ≤ length c.args.values.now) c.room.ensures.room c.if-values-room.false in
    let asks : Asks c.args.context (length c.args.values.now) c.args.self.now c.in-Ok.closer =
    record { may = record { idle = idle; room = room; listed = c.in-Ok.ensures.listed }; has = c.in-Ok.ensures.taken; own = c.in-Ok.ensures.context } in
    close_done c.args.context c.args.self.now c.take_closer.new.self c.in-Ok.closer c.args.values.now asks c.take_closer.ensures.store c.take_closer.ensures.lane
    c.ask.new.self c.ask.new.values c.ask.new.count c.in-Ok-ask.ensures.closed
    (record {
      gone = ap (λ (o : Vec (Option CloserView)). slice_index_or o.items c.args.context None) c.ask.ensures.closers ∙ c.in-Ok.ensures.gone;
      others = λ other ne. ap (λ (o : Vec (Option CloserView)). slice_index_or o.items other None) c.ask.ensures.closers ∙ c.in-Ok.ensures.others other ne;
      places = ap (λ (o : Vec (Option CloserView)). length o.items) c.ask.ensures.closers ∙ c.in-Ok.ensures.places;
    })

pub returns-in-Err-ask-clause-says : goal.returns-in-Err-ask-clause-says
returns-in-Err-ask-clause-says c =
    let idle = has_none c.args.self.now (sym c.is_some.ensures ∙ c.if-is_some.false) in
    let room : room_for (store_of c.args.self.now) ≤ length c.args.values.now = subst (λ (n : ℕ). n ≤ length c.args.values.now) c.room.ensures.room c.if-values-room.false in
    let asks : Asks c.args.context (length c.args.values.now) c.args.self.now c.in-Ok.closer =
    record { may = record { idle = idle; room = room; listed = c.in-Ok.ensures.listed }; has = c.in-Ok.ensures.taken; own = c.in-Ok.ensures.context } in
    close_refused c.args.context c.args.self.now c.take_closer.new.self c.in-Ok.closer c.args.values.now asks c.take_closer.ensures.store c.take_closer.ensures.lane
    c.mend.new.self c.ask.new.self.lane c.in-Err-ask.closer c.in-Err-ask.why c.mend.result c.ask.new.values c.ask.new.count
    c.in-Err-ask.ensures.refused c.in-Err-ask.ensures.handed_back c.in-Err-ask.ensures.untold.0 c.in-Err-ask.ensures.untold.1
    (subst (λ (l : StoreLane Handle). TellsRefused c.in-Err-ask.why l c.mend.new.self.lane c.mend.result) c.give_closer.ensures.lane c.mend.ensures.told)
    (c.mend.ensures.still ∙ ap (λ (l : StoreLane Handle). l.cells) c.give_closer.ensures.lane)
    (ap (λ (o : Vec (Option CloserView)). slice_index_or o.items c.args.context None) c.mend.ensures.closers ∙ c.give_closer.ensures.there)
    (λ other ne. ap (λ (o : Vec (Option CloserView)). slice_index_or o.items other None) c.mend.ensures.closers ∙ (c.give_closer.ensures.others other ne ∙ (ap (λ (o : Vec (Option CloserView)). slice_index_or o.items other None) c.ask.ensures.closers ∙ c.in-Ok.ensures.others other ne)))
    (ap (λ (o : Vec (Option CloserView)). length o.items) c.mend.ensures.closers ∙ (c.give_closer.ensures.places ∙ (ap (λ (o : Vec (Option CloserView)). length o.items) c.ask.ensures.closers ∙ c.in-Ok.ensures.places)))
