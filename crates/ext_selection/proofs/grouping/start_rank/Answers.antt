use Rattle.std.proofs.Common.{rules, arith}
use Rattle.std.proofs.lemmas.Option.{slice_get-get_or}
use Rattle.ext_selection.proofs.grouping.start_rank.Goals as goal

pub returns-clause-each : goal.returns-clause-each
returns-clause-each c = record {
  at = c.args.at;
  small = search rules;
  there = slice_get-get_or c.args.order.now c.args.at 0 c.requires;
  key = let is = c.start_at.ensures in let small = c.start_at.type_inv in omega (arith, is, small);
}
