use Rattle.std.proofs.Common.{◌∙◌, rules, sym}
use Rattle.std.proofs.lemmas.Fn.{filter_same}
use Rattle.ext_races.proofs.Removed.{without_no_key}
use Rattle.ext_races.proofs.standing.forget_key.Goals as goal

pub returns-then-is_some : goal.returns-then-is_some
returns-then-is_some c = filter_same _ _ _ (λ x b f' k. search rules) _ _ c.retain.ensures.filtered

pub returns-else-is_some : goal.returns-else-is_some
returns-else-is_some c = sym (without_no_key c.args.key c.args.computes.now.items (sym c.is_some.ensures ∙ c.if-is_some.false))
