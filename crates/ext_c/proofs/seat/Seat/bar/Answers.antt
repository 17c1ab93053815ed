use Rattle.std.proofs.Common.{rules, ◌∙◌, sym}
use Rattle.ext_c.specs.Answers.{NotAsked}
use Rattle.ext_c.proofs.Said.{has_claim, has_none}
use Rattle.ext_c.proofs.seat.Seat.bar.Goals as goal

pub returns-then-is_some-clause-barred : goal.returns-then-is_some-clause-barred
returns-then-is_some-clause-barred c = has_claim c.args.context c.args.key c.args.self.now (sym c.is_some.ensures ∙ c.if-is_some.true)

pub returns-then-context-len-clause-barred : goal.returns-then-context-len-clause-barred
returns-then-context-len-clause-barred c = NotAsked.no_context (has_none c.args.self.now (sym c.is_some.ensures ∙ c.if-is_some.false)) (search rules)

pub returns-then-key-key_count-clause-barred : goal.returns-then-key-key_count-clause-barred
returns-then-key-key_count-clause-barred c = NotAsked.no_key (has_none c.args.self.now (sym c.is_some.ensures ∙ c.if-is_some.false)) (search rules)
