use Rattle.std.proofs.Common.{[], ◌∷◌, ◌++◌, ◌∙◌, refl, sym, subst, arith}
use Rattle.std.specs.Prelude.{Ok}
use Rattle.std.proofs.lemmas.Fn.{FoldsTo-push}
use Rattle.ext_store.specs.Stores.{IsCloserOf}
use Rattle.ext_closing.specs.Closes.{IsRefused}
use Rattle.ext_closing.proofs.Again.{asked_again, first_legal}
use Rattle.ext_engine.proofs.Refusals.{same_close, refused_close, count_kept}
use Rattle.ext_engine.proofs.node.closing.close_again.Goals as goal

pub loop-init : goal.loop-init
loop-init g c = record { refused = ([], refl); own_lanes = c.requires.own_lanes; count = refl; action = refl; closer = refl }

pub close-requires-clause-lanes : goal.close-requires-clause-lanes
close-requires-clause-lanes g c = omega (arith, c.loop.invariant.count, c.requires.lanes)

pub close-requires-clause-own_lanes : goal.close-requires-clause-own_lanes
close-requires-clause-own_lanes g c = c.loop.invariant.own_lanes

pub close-requires-clause-closer : goal.close-requires-clause-closer
close-requires-clause-closer g c = subst (λ closer. IsCloserOf c.args.store.now closer) (sym c.loop.invariant.closer) c.requires.closer

pub returns-in-Ok-clause-closes : goal.returns-in-Ok-clause-closes
returns-in-Ok-clause-closes g c =
    let inv = c.loop.invariant in
    let count = count_kept c.loop.lanes c.close.new.lanes c.in-Ok.ensures.happened.lanes ∙ inv.count in
    asked_again g.V.StoreValue.is_closeable g.A.CloseAction.close_gives c.args.store.now c.args.closer c.args.lanes.now c.args.action.now c.in-Ok.closed c.close.new.lanes c.close.new.action
    (first_legal c.args.store.now c.close.new.lanes _ (omega (arith, count, c.requires.lanes)) c.in-Ok.ensures.own_lanes c.tell_proof.ensures.legal) c.requires.own_lanes
    (record {
      refusals = inv.refused.0;
      asked = c.loop.lanes;
      refused = inv.refused.1;
      close = same_close g.V.StoreValue.is_closeable g.A.CloseAction.close_gives c.args.store.now c.args.closer c.loop.left c.args.action.now c.loop.action c.close.new.action c.loop.lanes c.close.new.lanes (Ok c.in-Ok.closed) inv.closer inv.action c.in-Ok.ensures.happened;
    })

pub returns-in-Some-unjoined-clause-unjoined : goal.returns-in-Some-unjoined-clause-unjoined
returns-in-Some-unjoined-clause-unjoined g c =
    let inv = c.loop.invariant in
    let e = c.in-Err.ensures in
    record {
      refusals = inv.refused.0;
      asked = c.loop.lanes;
      refused = inv.refused.1;
      own_lanes = inv.own_lanes;
      unjoined = subst (λ why. IsRefused g.V.StoreValue.is_closeable g.A.CloseAction.close_gives c.args.store.now c.args.closer c.args.action.now c.loop.lanes why c.close.new.lanes) c.in-Some-unjoined.ensures.number
          (refused_close g.V.StoreValue.is_closeable g.A.CloseAction.close_gives c.args.store.now c.args.closer c.loop.left c.in-Err.back c.args.action.now c.loop.action c.close.new.action c.loop.lanes c.close.new.lanes c.in-Err.why inv.closer inv.action e.handed_back e.happened.not_called e.happened);
    }

pub loop-preserved : goal.loop-preserved
loop-preserved g c =
    let inv = c.loop.invariant in
    let e = c.in-Err.ensures in
    record {
      refused = (
        inv.refused.0 ++ c.in-Err.why ∷ [],
        FoldsTo-push (IsRefused g.V.StoreValue.is_closeable g.A.CloseAction.close_gives c.args.store.now c.args.closer c.args.action.now) c.args.lanes.now inv.refused.0 c.loop.lanes c.in-Err.why c.close.new.lanes inv.refused.1
            (refused_close g.V.StoreValue.is_closeable g.A.CloseAction.close_gives c.args.store.now c.args.closer c.loop.left c.in-Err.back c.args.action.now c.loop.action c.close.new.action c.loop.lanes c.close.new.lanes c.in-Err.why inv.closer inv.action e.handed_back e.happened.not_called e.happened),
      );
      own_lanes = e.own_lanes;
      count = count_kept c.loop.lanes c.close.new.lanes e.happened.lanes ∙ inv.count;
      action = e.happened.not_called ∙ inv.action;
      closer = e.handed_back ∙ inv.closer;
    }
