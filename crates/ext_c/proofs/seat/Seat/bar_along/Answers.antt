use Rattle.std.proofs.Common.{rules, ◌∙◌, sym}
use Rattle.ext_c.specs.Answers.{NotAskedAlong}
use Rattle.ext_c.proofs.Said.{has_claim_along, has_none}
use Rattle.ext_c.proofs.seat.Seat.bar_along.Goals as goal

pub returns-then-is_some-clause-barred : goal.returns-then-is_some-clause-barred
returns-then-is_some-clause-barred c = has_claim_along c.args.path.now c.args.key c.args.self.now (sym c.is_some.ensures ∙ c.if-is_some.true)

pub returns-then-is_empty-clause-barred : goal.returns-then-is_empty-clause-barred
returns-then-is_empty-clause-barred c = NotAskedAlong.no_path (has_none c.args.self.now (sym c.is_some.ensures ∙ c.if-is_some.false)) (search rules)

pub returns-then-not-is_trail-clause-barred : goal.returns-then-not-is_trail-clause-barred
returns-then-not-is_trail-clause-barred c = NotAskedAlong.no_path (has_none c.args.self.now (sym c.is_some.ensures ∙ c.if-is_some.false)) (search rules)

pub returns-then-key-key_count-clause-barred : goal.returns-then-key-key_count-clause-barred
returns-then-key-key_count-clause-barred c = NotAskedAlong.no_key (has_none c.args.self.now (sym c.is_some.ensures ∙ c.if-is_some.false)) (search rules)
