use Rattle.std.proofs.Common.{rules, ◌≡◌, true, false, is_some, refl, ap, sym, ◌∙◌, arith}
use Rattle.std.specs.Prelude.{◌||◌}
use Rattle.ext_model.specs.Closed.{or_else}
use Rattle.ext_model.specs.Lacks.{fault_tells_lack, may_tell}
use Rattle.ext_model.proofs.CountedCloses.{close_weight, closed_of-more, or-false, or_else-none, or_else-first, or_else-second, some-counted, none-counted}
use Rattle.ext_model.proofs.closed.Closed.add.Goals as goal

pub returns-in_default-clause-counted : goal.returns-in_default-clause-counted
returns-in_default-clause-counted c = λ cs is.
    let first = c.args.self.now.first_fault in
    let weighs : close_weight c.args.close ≡ 0 = ap close_weight c.in_default.is in
    closed_of-more c.args.self.now _ cs c.args.close is refl (sym (ap (or_else first) c.in_default.is ∙ or_else-none first)) (sym (ap (λ x. c.args.self.now.lacked || may_tell fault_tells_lack x) c.in_default.is ∙ or-false c.args.self.now.lacked)) (λ n counted more. omega (arith, weighs, more))

pub returns-then-is_some-clause-counted : goal.returns-then-is_some-clause-counted
returns-then-is_some-clause-counted c = λ cs is.
    let first = c.args.self.now.first_fault in
    let there : is_some first ≡ true = search rules in
    let weighs : close_weight c.args.close ≡ 1 = ap close_weight c.in-Some.is in
    closed_of-more c.args.self.now _ cs c.args.close is refl (sym (or_else-first first c.args.close there)) (ap (λ b. c.args.self.now.lacked || b) (c.tells_lack.ensures ∙ ap (may_tell fault_tells_lack) (sym c.in-Some.is))) (λ n counted more. omega (arith, weighs, more, some-counted first n counted there))

pub returns-else-is_some-clause-counted : goal.returns-else-is_some-clause-counted
returns-else-is_some-clause-counted c = λ cs is.
    let first = c.args.self.now.first_fault in
    let missing : is_some first ≡ false = search rules in
    let weighs : close_weight c.args.close ≡ 1 = ap close_weight c.in-Some.is in
    closed_of-more c.args.self.now _ cs c.args.close is refl (sym c.in-Some.is ∙ sym (or_else-second first c.args.close missing)) (ap (λ b. c.args.self.now.lacked || b) (c.tells_lack.ensures ∙ ap (may_tell fault_tells_lack) (sym c.in-Some.is))) (λ n counted more. omega (arith, weighs, more, none-counted first n counted missing))
