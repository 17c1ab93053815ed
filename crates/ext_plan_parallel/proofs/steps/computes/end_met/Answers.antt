use Rattle.ext_plan_parallel.proofs.Ends.{ends_with}
use Rattle.ext_plan_parallel.proofs.steps.computes.end_met.Goals as goal

pub returns-clause-ends : goal.returns-clause-ends
returns-clause-ends c = (
  _,
  c.show_fault-seen.ensures.shows,
  ends_with _ _ _ 0 0 _ c.none_verdict.ensures.verdict c.none_verdict.ensures.memory c.or_no_memory.ensures.verdict c.or_no_memory.ensures.memory c.counted.ensures.verdict c.counted.ensures.computed c.counted.ensures.found,
)
