use Rattle.std.proofs.Common.{◌≡◌, ◌≤◌, ◌++◌, map}
use Rattle.std.specs.Prelude.{vec_capacity}
use Rattle.std.specs.List.{flat_map}
use Rattle.ext_engine.specs.InnerResults.{ran_view, ran_in}
use Rattle.ext_engine.proofs.node.results.append_all.Given as goal

abbrev pub invariant-loop-outcome : goal.invariant-loop-outcome
invariant-loop-outcome l = record {
  can : goal.iterator-loop-outcome.can_next l.outcome-iterator;
  finite : goal.iterator-loop-outcome.is_finite l.outcome-iterator;
  items : l.yielded ++ l.outcome-iterator.rest.items ≡ l.fn.outcomes.items;
  ran : map ran_view l.ran.items ≡ map ran_view l.fn.ran.items ++ flat_map ran_in l.yielded;
  room : vec_capacity l.fn.ran ≤ vec_capacity l.ran;
}
