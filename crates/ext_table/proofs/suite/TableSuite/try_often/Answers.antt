use Rattle.std.proofs.Common.{arith, ◌-◌, map, subst}
use Rattle.ext_table.proofs.Tries.{HaveFailed, none_failed, one_more_failed, failed_by, passed_by, tried}
use Rattle.ext_table.proofs.suite.TableSuite.try_often.Goals as goal

pub loop-attempt-init : goal.loop-attempt-init
loop-attempt-init g c =
    let gives = g.E.Engine.test_gives c.args.self.now.engine.now c.args.given.now (map (λ s. s.now) c.args.shared.now) in
    record { failed = none_failed gives (g.E.Engine.lane_gives c.args.self.now.engine.now c.args.node) c.args.lane.now; lane = c.requires.lane }

pub loop-attempt-preserved : goal.loop-attempt-preserved
loop-attempt-preserved g c =
    let gives = g.E.Engine.test_gives c.args.self.now.engine.now c.args.given.now (map (λ s. s.now) c.args.shared.now) in
    let moves = g.E.Engine.lane_gives c.args.self.now.engine.now c.args.node in
    let failed = failed_by c.run_on_lane-answer.result c.verdict_of.result c.in-Failed.fault c.verdict_of.ensures c.in-Failed.is in
    let more =
    one_more_failed gives moves (c.loop-attempt.attempt - 1) c.run_on_lane-answer.result c.args.lane.now c.loop-attempt.lane c.run_on_lane-answer.new.lane c.loop-attempt.invariant.failed c.run_on_lane-answer.ensures.test
    c.run_on_lane-answer.ensures.moved failed in
    record {
      failed = subst (λ n. HaveFailed gives moves n c.args.lane.now c.run_on_lane-answer.new.lane) (omega arith) more;
      lane = c.run_on_lane-answer.ensures.lane;
    }

pub returns-in_default : goal.returns-in_default
returns-in_default g c =
    let gives = g.E.Engine.test_gives c.args.self.now.engine.now c.args.given.now (map (λ s. s.now) c.args.shared.now) in
    let moves = g.E.Engine.lane_gives c.args.self.now.engine.now c.args.node in
    let passed = passed_by c.run_on_lane-answer.result c.verdict_of.result c.verdict_of.ensures c.in_default.not-Failed in
    record {
      lane = c.run_on_lane-answer.ensures.lane;
      tried = tried gives moves c.args.most (c.loop-attempt.attempt - 1) c.run_on_lane-answer.result c.verdict_of.result c.args.lane.now c.loop-attempt.lane c.run_on_lane-answer.new.lane c.loop-attempt.invariant.failed
          c.run_on_lane-answer.ensures.test c.run_on_lane-answer.ensures.moved (omega arith) (λ failed. absurd (passed failed)) c.verdict_of.ensures;
    }

pub returns-clause-tried : goal.returns-clause-tried
returns-clause-tried g c =
    let gives = g.E.Engine.test_gives c.args.self.now.engine.now c.args.given.now (map (λ s. s.now) c.args.shared.now) in
    let moves = g.E.Engine.lane_gives c.args.self.now.engine.now c.args.node in
    tried gives moves c.args.most (c.loop-attempt.attempt - 1) c.run_on_lane-answer-2.result c.verdict_of-2.result c.args.lane.now c.loop-attempt.lane c.run_on_lane-answer-2.new.lane c.loop-attempt.invariant.failed
    c.run_on_lane-answer-2.ensures.test c.run_on_lane-answer-2.ensures.moved (omega arith) (λ failed. omega arith) c.verdict_of-2.ensures
