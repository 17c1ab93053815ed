use Rattle.std.proofs.Common.{rules, length, take, drop, suc, sym, subst, arith}
use Rattle.std.specs.Prelude.{reverse}
use Rattle.std.proofs.lemmas.List.{length-reverse, length_push}
use Rattle.std.proofs.lemmas.Iterator.Adapters.{YieldsList-from_rev_slice}
use Rattle.std.proofs.lemmas.Iterator.Consumers.{YieldsList-turn, YieldsList-end}
use Rattle.std.specs.List.{FoldsTo}
use Rattle.ext_table.specs.InnerSharing.{handed_by}
use Rattle.ext_table.specs.Sharing.{HandsAt, MissesOne, nothing_handed}
use Rattle.ext_table.proofs.Sharing.{begun_handed, begun_roomy, folds_all, folds_more, parts_at}
use Rattle.ext_table.proofs.suite.TableSuite.hand_along.Goals as goal

pub loop-at-init : goal.loop-at-init
loop-at-init g c = record {
  lane = c.requires.lane;
  roomy = begun_roomy c.args.handing.now c.requires.begun;
  few = omega (arith, c.requires.begun.none_long);
  each = sym (begun_handed c.args.handing.now c.args.lane.now c.requires.begun);
}

pub hand-requires-clause-lane : goal.hand-requires-clause-lane
hand-requires-clause-lane g c = c.loop-at.invariant.lane

pub hand-requires-clause-roomy : goal.hand-requires-clause-roomy
hand-requires-clause-roomy g c = c.loop-at.invariant.roomy

pub hand-requires-clause-room : goal.hand-requires-clause-room
hand-requires-clause-room g c =
    let road = YieldsList-from_rev_slice c.args.path.now (search rules) in
    let t = YieldsList-turn road c.loop-at.yielded c.loop-at.at-iterator c.loop-at.yielded_by c.next.result c.next.new.self c.in-Some.at c.in-Some.is c.next.ensures.steps in
    omega (arith, c.loop-at.invariant.few, t.0, length-reverse c.args.path.now, c.requires.few)

pub loop-at-preserved : goal.loop-at-preserved
loop-at-preserved g c =
    let road = YieldsList-from_rev_slice c.args.path.now (search rules) in
    let t = YieldsList-turn road c.loop-at.yielded c.loop-at.at-iterator c.loop-at.yielded_by c.next.result c.next.new.self c.in-Some.at c.in-Some.is c.next.ensures.steps in
    let long = length_push c.loop-at.yielded c.in-Some.at in
    let Hands = HandsAt c.args.self.now.rows.now c.args.store.now (g.E.Engine.make_gives c.args.self.now.engine.now) in
    record {
      lane = c.hand.ensures.lane;
      roomy = c.in-Ok.ensures.roomy;
      few = omega (arith, long, c.loop-at.invariant.few, c.in-Ok.ensures.one);
      each = subst (λ n. FoldsTo Hands (nothing_handed c.args.lane.now) (take n (reverse c.args.path.now)) (handed_by c.hand.new.handing c.hand.new.lane)) (sym long)
          (folds_more Hands (reverse c.args.path.now) (nothing_handed c.args.lane.now) (handed_by c.loop-at.handing c.loop-at.lane) (handed_by c.hand.new.handing c.hand.new.lane) (length c.loop-at.yielded) c.in-Some.at.now t c.loop-at.invariant.each c.in-Ok.ensures.handed);
    }

pub returns-clause-all : goal.returns-clause-all
returns-clause-all g c =
    let road = YieldsList-from_rev_slice c.args.path.now (search rules) in
    let t = YieldsList-end road c.loop-at.yielded c.loop-at.at-iterator c.loop-at.yielded_by c.next.result c.next.new.self c.in-None.is c.next.ensures.steps in
    let Hands = HandsAt c.args.self.now.rows.now c.args.store.now (g.E.Engine.make_gives c.args.self.now.engine.now) in
    record {
      path = c.args.path.now;
      path_is = c.requires.path;
      each = folds_all Hands (reverse c.args.path.now) (nothing_handed c.args.lane.now) (handed_by c.loop-at.handing c.loop-at.lane) (length c.loop-at.yielded) (omega (arith, t.1)) c.loop-at.invariant.each;
    }

pub returns-clause-lane : goal.returns-clause-lane
returns-clause-lane g c = c.loop-at.invariant.lane

pub returns-in-Err-clause-missed : goal.returns-in-Err-clause-missed
returns-in-Err-clause-missed g c =
    let road = YieldsList-from_rev_slice c.args.path.now (search rules) in
    let t = YieldsList-turn road c.loop-at.yielded c.loop-at.at-iterator c.loop-at.yielded_by c.next.result c.next.new.self c.in-Some.at c.in-Some.is c.next.ensures.steps in
    let Makes = g.E.Engine.make_gives c.args.self.now.engine.now in
    let i = length c.loop-at.yielded in (
      c.loop-at.lane,
      subst (λ h. MissesOne c.args.self.now.rows.now c.args.store.now Makes c.args.node c.args.lane.now c.in-Err.why (handed_by h c.loop-at.lane) c.hand.new.lane) (sym c.in-Err.ensures.kept) (record {
        path = c.args.path.now;
        path_is = c.requires.path;
        outer = take i (reverse c.args.path.now);
        missed = c.in-Some.at.now;
        inner = drop (suc i) (reverse c.args.path.now);
        path_parts = parts_at (reverse c.args.path.now) i c.in-Some.at.now t;
        each = c.loop-at.invariant.each;
        given = c.in-Err.ensures.missed.0;
        shares = c.in-Err.ensures.missed.1;
        misses = c.in-Err.ensures.missed.2;
      }),
    )
