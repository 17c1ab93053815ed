use Rattle.std.proofs.Common.{◌≡◌, refl, sym, subst}
use Rattle.std.proofs.Math.ListN.{set}
use Rattle.ext_closing.specs.Lanes.{IsGreatestUnjoined}
use Rattle.ext_closing.specs.Closing.{ClosesNumbers}
use Rattle.ext_closing.proofs.InHand.{ends_from, first_steps, keeps_on, left_from, names_none, only_first, only_first_on, order_from, still_kept, still_own}
use Rattle.ext_closing.proofs.closing.close_from.Goals as goal

-- ---- how many steps

pub returns-in-Err-clause-steps : goal.returns-in-Err-clause-steps
returns-in-Err-clause-steps g c =
    first_steps c.args.lanes.now (set c.args.lanes.now 0 c.seal_from.new.lane) c.seal_from.new.lane c.index-lanes-sealing.result refl c.requires.lanes c.args.store.now _ c.in-Err.ensures.steps

pub returns-in-Some-clause-steps : goal.returns-in-Some-clause-steps
returns-in-Some-clause-steps g c =
    first_steps c.args.lanes.now (set c.args.lanes.now 0 c.seal_from.new.lane) c.seal_from.new.lane c.index-lanes-sealing.result refl c.requires.lanes c.args.store.now _ c.in_default.ensures.steps

pub returns-clause-steps : goal.returns-clause-steps
returns-clause-steps g c =
    first_steps c.args.lanes.now _ c.seal_from.new.lane c.index-lanes-sealing.result c.close_all.ensures.unchanged c.requires.lanes c.args.store.now _ c.in_default.ensures.steps

-- ---- in which order

pub returns-in-Err-clause-in_order : goal.returns-in-Err-clause-in_order
returns-in-Err-clause-in_order g c = λ before begun.
    order_from c.args.lanes.now (set c.args.lanes.now 0 c.seal_from.new.lane) c.seal_from.new.lane c.index-lanes-sealing.result refl c.requires.lanes
    c.args.store.now c.args.closer.context c.args.marked.block c.args.marked.marks _ begun.begun c.in-Err.ensures.in_order

pub returns-in-Some-clause-in_order : goal.returns-in-Some-clause-in_order
returns-in-Some-clause-in_order g c = λ before begun.
    order_from c.args.lanes.now (set c.args.lanes.now 0 c.seal_from.new.lane) c.seal_from.new.lane c.index-lanes-sealing.result refl c.requires.lanes
    c.args.store.now c.args.closer.context c.args.marked.block c.args.marked.marks _ begun.begun c.in_default.ensures.in_order

pub returns-clause-in_order : goal.returns-clause-in_order
returns-clause-in_order g c = λ before begun.
    order_from c.args.lanes.now c.close_all.new.lanes c.seal_from.new.lane c.index-lanes-sealing.result c.close_all.ensures.unchanged c.requires.lanes
    c.args.store.now c.args.closer.context c.args.marked.block c.args.marked.marks _ begun.begun c.in_default.ensures.in_order

-- ---- a key is refused

pub returns-in-Err-clause-happened : goal.returns-in-Err-clause-happened
returns-in-Err-clause-happened g c = λ before begun.
    let after = c.in-Err.ensures in
    let first = c.index-lanes-sealing.result in
    let left = set c.args.lanes.now 0 c.seal_from.new.lane in
    let same : left ≡ left = refl {a = left} in
    let some = c.requires.lanes in
    let ends = ends_from c.args.lanes.now left c.seal_from.new.lane first same some c.args.store.now c.args.closer.context _ _ begun.so_far _ after.ends in
    record {
      stops = ends.stops;
      sealed = ends.sealed;
      own_events = ends.made;
      closes = tt;
      unjoined = names_none _ _ c.in-Err.why after.refusal;
      handed_back = refl {a = c.args.closer};
      not_called = refl {a = c.args.action.now};
      lanes = only_first_on before c.args.lanes.now left begun.lanes (only_first c.args.lanes.now left c.seal_from.new.lane first same some after.known after.faults after.keys);
      own_lanes = still_own c.args.lanes.now left c.seal_from.new.lane first same some c.args.store.now.id after.lane c.requires.own_lanes;
      kept = keeps_on before c.args.lanes.now left begun.kept (still_kept c.args.lanes.now left c.seal_from.new.lane first same some after.kept);
    }

pub returns-in-Err-clause-kept : goal.returns-in-Err-clause-kept
returns-in-Err-clause-kept g c = still_kept c.args.lanes.now _ c.seal_from.new.lane c.index-lanes-sealing.result refl c.requires.lanes c.in-Err.ensures.kept

-- ---- a number is not joined

pub returns-in-Some-clause-happened : goal.returns-in-Some-clause-happened
returns-in-Some-clause-happened g c = λ before begun.
    let after = c.in_default.ensures in
    let first = c.index-lanes-sealing.result in
    let left = set c.args.lanes.now 0 c.seal_from.new.lane in
    let same : left ≡ left = refl {a = left} in
    let some = c.requires.lanes in
    let ends = ends_from c.args.lanes.now left c.seal_from.new.lane first same some c.args.store.now c.args.closer.context _ _ begun.so_far _ after.ends in
    record {
      stops = ends.stops;
      sealed = ends.sealed;
      own_events = ends.made;
      closes = tt;
      unjoined =
          subst (λ numbers. IsGreatestUnjoined left numbers c.in-Some.number)
          (left_from c.args.lanes.now left c.seal_from.new.lane first same some c.args.store.now c.args.closer.context _ _ begun.so_far _ c.as_slice-remaining.result.now c.as_slice-remaining.ensures.numbers after.numbers)
          c.in-Some.ensures.unjoined;
      handed_back = refl {a = c.args.closer};
      not_called = refl {a = c.args.action.now};
      lanes = only_first_on before c.args.lanes.now left begun.lanes (only_first c.args.lanes.now left c.seal_from.new.lane first same some after.known after.faults after.keys);
      own_lanes = still_own c.args.lanes.now left c.seal_from.new.lane first same some c.args.store.now.id after.lane c.requires.own_lanes;
      kept = keeps_on before c.args.lanes.now left begun.kept (still_kept c.args.lanes.now left c.seal_from.new.lane first same some after.kept);
    }

pub returns-in-Some-clause-kept : goal.returns-in-Some-clause-kept
returns-in-Some-clause-kept g c = still_kept c.args.lanes.now _ c.seal_from.new.lane c.index-lanes-sealing.result refl c.requires.lanes c.in_default.ensures.kept

-- ---- the values are closed

pub returns-clause-happened : goal.returns-clause-happened
returns-clause-happened g c = λ before begun.
    let after = c.in_default.ensures in
    let first = c.index-lanes-sealing.result in
    let some = c.requires.lanes in
    let same = c.close_all.ensures.unchanged in
    let closeable = g.V.StoreValue.is_closeable in
    let gives = g.A.CloseAction.close_gives in
    let ends = ends_from c.args.lanes.now c.close_all.new.lanes c.seal_from.new.lane first same some c.args.store.now c.args.closer.context _ _ begun.so_far _ after.ends in
    record {
      stops = ends.stops;
      sealed = ends.sealed;
      own_events = ends.made;
      closes =
          subst (λ numbers. ClosesNumbers closeable gives c.close_all.new.lanes numbers c.args.action.now c.close_all.new.action c.close_all.result)
          (left_from c.args.lanes.now c.close_all.new.lanes c.seal_from.new.lane first same some c.args.store.now c.args.closer.context _ _ begun.so_far _ c.as_slice-remaining.result.now c.as_slice-remaining.ensures.numbers after.numbers)
          (subst (λ lanes. ClosesNumbers closeable gives lanes c.as_slice-remaining.result.now c.args.action.now c.close_all.new.action c.close_all.result) (sym same) c.close_all.ensures.closes);
      unjoined = tt;
      handed_back = tt;
      not_called = tt;
      lanes = only_first_on before c.args.lanes.now c.close_all.new.lanes begun.lanes (only_first c.args.lanes.now c.close_all.new.lanes c.seal_from.new.lane first same some after.known after.faults after.keys);
      own_lanes = still_own c.args.lanes.now c.close_all.new.lanes c.seal_from.new.lane first same some c.args.store.now.id after.lane c.requires.own_lanes;
      kept = keeps_on before c.args.lanes.now c.close_all.new.lanes begun.kept (still_kept c.args.lanes.now c.close_all.new.lanes c.seal_from.new.lane first same some after.kept);
    }

pub returns-clause-kept : goal.returns-clause-kept
returns-clause-kept g c = still_kept c.args.lanes.now _ c.seal_from.new.lane c.index-lanes-sealing.result c.close_all.ensures.unchanged c.requires.lanes c.in_default.ensures.kept

-- ---- the lanes stay those of the store

pub returns-in-Some-clause-own_lanes : goal.returns-in-Some-clause-own_lanes
returns-in-Some-clause-own_lanes g c = still_own c.args.lanes.now _ c.seal_from.new.lane c.index-lanes-sealing.result refl c.requires.lanes c.args.store.now.id c.in_default.ensures.lane c.requires.own_lanes

pub close_all-requires-clause-lanes : goal.close_all-requires-clause-lanes
close_all-requires-clause-lanes g c = still_own c.args.lanes.now _ c.seal_from.new.lane c.index-lanes-sealing.result refl c.requires.lanes c.args.store.now.id c.in_default.ensures.lane c.requires.own_lanes

pub returns-clause-own_lanes : goal.returns-clause-own_lanes
returns-clause-own_lanes g c = still_own c.args.lanes.now _ c.seal_from.new.lane c.index-lanes-sealing.result c.close_all.ensures.unchanged c.requires.lanes c.args.store.now.id c.in_default.ensures.lane c.requires.own_lanes
