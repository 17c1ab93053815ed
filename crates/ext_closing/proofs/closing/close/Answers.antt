use Rattle.std.proofs.Common.{◌≡◌, refl, subst}
use Rattle.std.proofs.Math.ListN.{set}
use Rattle.ext_closing.specs.Closing.{ClosesNumbers}
use Rattle.ext_closing.proofs.Calling.{closes_none}
use Rattle.ext_closing.proofs.InHand.{first_begun, first_ends, first_order, keeps_on, none_left, only_first, still_kept, still_own}
use Rattle.ext_closing.proofs.closing.close.Goals as goal

-- ---- nobody used the context

pub returns-in_default-clause-happened : goal.returns-in_default-clause-happened
returns-in_default-clause-happened g c =
    let after = c.in_default.ensures in
    let first = c.index-lanes-first.result in
    let left = set c.args.lanes.now 0 c.first_marked.new.lane in
    let same : left ≡ left = refl {a = left} in
    let some = c.requires.lanes in
    let closeable = g.V.StoreValue.is_closeable in
    let gives = g.A.CloseAction.close_gives in
    let ends = first_ends c.args.lanes.now left c.first_marked.new.lane first same some c.args.store.now c.args.closer.context _ after.all.ends in
    record {
      stops = tt;
      sealed = ends.sealed;
      own_events = ends.made;
      closes =
          subst (λ numbers. ClosesNumbers closeable gives left numbers c.args.action.now c.args.action.now c.new.result)
          (none_left c.args.lanes.now left c.first_marked.new.lane first same some c.args.store.now c.args.closer.context after.all.none_left)
          (closes_none closeable gives left c.args.action.now c.new.result c.new.ensures);
      unjoined = tt;
      handed_back = tt;
      not_called = tt;
      lanes = only_first c.args.lanes.now left c.first_marked.new.lane first same some after.known after.faults after.keys;
      own_lanes = still_own c.args.lanes.now left c.first_marked.new.lane first same some c.args.store.now.id after.lane c.requires.own_lanes;
      kept = still_kept c.args.lanes.now left c.first_marked.new.lane first same some after.kept;
    }

pub returns-in_default-clause-kept : goal.returns-in_default-clause-kept
returns-in_default-clause-kept g c = still_kept c.args.lanes.now _ c.first_marked.new.lane c.index-lanes-first.result refl c.requires.lanes c.in_default.ensures.kept

pub returns-in_default-clause-in_order : goal.returns-in_default-clause-in_order
returns-in_default-clause-in_order g c =
    first_order c.args.lanes.now (set c.args.lanes.now 0 c.first_marked.new.lane) c.first_marked.new.lane c.index-lanes-first.result refl c.requires.lanes
    c.args.store.now c.args.closer.context c.in_default.ensures.all.in_order

-- ---- it is gone on from the first block that has a mark

pub returns-then-key_count-le64-clause-happened : goal.returns-then-key_count-le64-clause-happened
returns-then-key_count-le64-clause-happened g c =
    let after = c.in-Some.ensures in
    let first = c.index-lanes-first.result in
    let left = set c.args.lanes.now 0 c.first_marked.new.lane in
    let same : left ≡ left = refl {a = left} in
    let some = c.requires.lanes in
    c.close_from.ensures.happened c.args.lanes.now
    (first_begun c.args.lanes.now left c.first_marked.new.lane first same some c.args.store.now c.args.closer.context c.in-Some.marked after.marked
    (only_first c.args.lanes.now left c.first_marked.new.lane first same some after.known after.faults after.keys)
    (still_kept c.args.lanes.now left c.first_marked.new.lane first same some after.kept))

pub returns-else-key_count-le64-clause-happened : goal.returns-else-key_count-le64-clause-happened
returns-else-key_count-le64-clause-happened g c =
    let after = c.in-Some.ensures in
    let first = c.index-lanes-first.result in
    let left = set c.args.lanes.now 0 c.first_marked.new.lane in
    let same : left ≡ left = refl {a = left} in
    let some = c.requires.lanes in
    c.close_from-else-key_count-le64.ensures.happened c.args.lanes.now
    (first_begun c.args.lanes.now left c.first_marked.new.lane first same some c.args.store.now c.args.closer.context c.in-Some.marked after.marked
    (only_first c.args.lanes.now left c.first_marked.new.lane first same some after.known after.faults after.keys)
    (still_kept c.args.lanes.now left c.first_marked.new.lane first same some after.kept))

pub returns-then-key_count-le64-clause-in_order : goal.returns-then-key_count-le64-clause-in_order
returns-then-key_count-le64-clause-in_order g c =
    let after = c.in-Some.ensures in
    let first = c.index-lanes-first.result in
    let left = set c.args.lanes.now 0 c.first_marked.new.lane in
    let same : left ≡ left = refl {a = left} in
    let some = c.requires.lanes in
    c.close_from.ensures.in_order c.args.lanes.now
    (first_begun c.args.lanes.now left c.first_marked.new.lane first same some c.args.store.now c.args.closer.context c.in-Some.marked after.marked
    (only_first c.args.lanes.now left c.first_marked.new.lane first same some after.known after.faults after.keys)
    (still_kept c.args.lanes.now left c.first_marked.new.lane first same some after.kept))

pub returns-else-key_count-le64-clause-in_order : goal.returns-else-key_count-le64-clause-in_order
returns-else-key_count-le64-clause-in_order g c =
    let after = c.in-Some.ensures in
    let first = c.index-lanes-first.result in
    let left = set c.args.lanes.now 0 c.first_marked.new.lane in
    let same : left ≡ left = refl {a = left} in
    let some = c.requires.lanes in
    c.close_from-else-key_count-le64.ensures.in_order c.args.lanes.now
    (first_begun c.args.lanes.now left c.first_marked.new.lane first same some c.args.store.now c.args.closer.context c.in-Some.marked after.marked
    (only_first c.args.lanes.now left c.first_marked.new.lane first same some after.known after.faults after.keys)
    (still_kept c.args.lanes.now left c.first_marked.new.lane first same some after.kept))

pub returns-then-key_count-le64-clause-kept : goal.returns-then-key_count-le64-clause-kept
returns-then-key_count-le64-clause-kept g c =
    let left = set c.args.lanes.now 0 c.first_marked.new.lane in
    keeps_on c.args.lanes.now left c.close_from.new.lanes
    (still_kept c.args.lanes.now left c.first_marked.new.lane c.index-lanes-first.result refl c.requires.lanes c.in-Some.ensures.kept) c.close_from.ensures.kept

pub returns-else-key_count-le64-clause-kept : goal.returns-else-key_count-le64-clause-kept
returns-else-key_count-le64-clause-kept g c =
    let left = set c.args.lanes.now 0 c.first_marked.new.lane in
    keeps_on c.args.lanes.now left c.close_from-else-key_count-le64.new.lanes
    (still_kept c.args.lanes.now left c.first_marked.new.lane c.index-lanes-first.result refl c.requires.lanes c.in-Some.ensures.kept) c.close_from-else-key_count-le64.ensures.kept
