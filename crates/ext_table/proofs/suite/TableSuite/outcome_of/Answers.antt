use Rattle.std.proofs.Common.{refl, subst, map, inl, inr}
use Rattle.ext_table.specs.InnerSharing.{handed_by}
use Rattle.ext_table.specs.TableCalls.{CallsKind}
use Rattle.ext_table.proofs.suite.TableSuite.outcome_of.Goals as goal

pub returns-in_default-clause-call : goal.returns-in_default-clause-call
returns-in_default-clause-call g c = inr (inr (record { untouched = refl; outcome_is = refl }))

pub returns-in-Ok-hand_all-clause-call : goal.returns-in-Ok-hand_all-clause-call
returns-in-Ok-hand_all-clause-call g c = inl (record {
  handed = handed_by c.hand_all.new.handing c.hand_all.new.lane;
  hands = c.in-Ok-hand_all.ensures.all;
  verdict = c.verdict_on-verdict.result;
  calls = subst (λ values. CallsKind (g.E.Engine.test_gives c.args.self.now.engine.now) (g.E.Engine.lane_gives c.args.self.now.engine.now c.args.node) c.args.self.now.attempts c.args.self.now.rows.now c.args.call.now.kind c.args.call.now.from c.args.call.now.index (map (λ s. s.now) values) c.hand_all.new.lane c.verdict_on-verdict.result c.verdict_on-verdict.new.lane) c.as_slice.ensures.value c.verdict_on-verdict.ensures.calls;
  outcome_is = refl;
})

pub returns-clause-call : goal.returns-clause-call
returns-clause-call g c = inr (inl (record {
  why = c.in-Err.why;
  handed = handed_by c.hand_all.new.handing c.in-Err.ensures.missed.0;
  misses = c.in-Err.ensures.missed.1;
  outcome_is = refl;
}))
