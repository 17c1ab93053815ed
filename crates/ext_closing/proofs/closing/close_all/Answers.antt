use Rattle.std.proofs.Common.{◌++◌, [], ◌∷◌, get_or, take, add-one, take-suc, sym, ap, ◌∙◌, subst, arith}
use Rattle.std.specs.Prelude.{All}
use Rattle.std.proofs.lemmas.List.{take_all}
use Rattle.ext_store.specs.Stores.{IsLaneOf}
use Rattle.ext_closing.specs.Lanes.{IsJoined}
use Rattle.ext_closing.specs.Closing.{ClosesNumbers}
use Rattle.ext_closing.proofs.closing.close_all.Goals as goal

pub close_one-requires-clause-lanes : goal.close_one-requires-clause-lanes
close_one-requires-clause-lanes g c = subst (λ lanes. All (IsLaneOf c.args.store.now.id) lanes) (sym c.loop-number.invariant.lanes) c.requires.lanes

pub close_one-requires-clause-joined : goal.close_one-requires-clause-joined
close_one-requires-clause-joined g c =
    subst (λ lanes. IsJoined lanes (get_or c.args.numbers.now c.loop-number.number-index 0)) (sym c.loop-number.invariant.lanes)
    (c.requires.joined c.loop-number.number-index 0 c.loop-number-test.true)

pub close_one-requires-clause-room : goal.close_one-requires-clause-room
close_one-requires-clause-room g c =
    let closed = c.loop-number.invariant.few in
    let within = c.loop-number-test.true in
    let few = c.requires.few in (omega (arith, closed, within, few), c.loop-number.invariant.fewer)

pub loop-number-preserved : goal.loop-number-preserved
loop-number-preserved g c =
    let closeable = g.V.StoreValue.is_closeable in
    let gives = g.A.CloseAction.close_gives in
    let inv = c.loop-number.invariant in
    let i = c.loop-number.number-index in
    let numbers = c.args.numbers.now in
    let first = c.args.action.now in
    let few = inv.few in
    let more = c.close_one.ensures.one_more in
    let so_far = subst (λ lanes. ClosesNumbers closeable gives lanes (take i numbers) first c.loop-number.action c.loop-number.closed) (sym inv.lanes) inv.closes in
    record {
      lanes = c.close_one.ensures.unchanged ∙ inv.lanes;
      closes = subst (λ ns. ClosesNumbers closeable gives c.args.lanes.now ns first c.close_one.new.action c.close_one.new.closed) (sym (ap (λ n. take n numbers) (add-one i) ∙ take-suc numbers i 0 c.loop-number-test.true))
          (subst (λ lanes. ClosesNumbers closeable gives lanes (take i numbers ++ get_or numbers i 0 ∷ []) first c.close_one.new.action c.close_one.new.closed) inv.lanes (c.close_one.ensures.closes (take i numbers) first so_far));
      few = omega (arith, few, more);
      fewer = c.close_one.ensures.few;
    }

pub returns-clause-closes : goal.returns-clause-closes
returns-clause-closes g c =
    let end = c.loop-number-test.false in
    subst (λ numbers. ClosesNumbers g.V.StoreValue.is_closeable g.A.CloseAction.close_gives c.args.lanes.now numbers c.args.action.now c.loop-number.action c.loop-number.closed)
    (take_all c.loop-number.number-index c.args.numbers.now (omega (arith, end))) c.loop-number.invariant.closes

pub returns-clause-unchanged : goal.returns-clause-unchanged
returns-clause-unchanged g c = c.loop-number.invariant.lanes
