use Rattle.std.proofs.Common.{rules, ◌<◌, length}
use Rattle.std.proofs.lemmas.Fn.{filter_same}
use Rattle.std.proofs.lemmas.List.Elements.{All-filter, All-same}
use Rattle.ext_report.proofs.reserve.leave_out_reserve.Goals as goal

pub returns-clause-left : goal.returns-clause-left
returns-clause-left c = filter_same _ _ _ (λ x b f' k. search rules) _ _ c.retain.ensures.filtered

pub returns-clause-in_tree : goal.returns-clause-in_tree
returns-clause-in_tree c = λ within.
    All-same (λ r. r.node < length c.args.tree.now) _ _ (returns-clause-left c) (All-filter _ (λ r. r.node < length c.args.tree.now) _ within)
