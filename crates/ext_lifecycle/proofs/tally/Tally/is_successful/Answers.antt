use Rattle.std.proofs.Common.{◌≡◌, true, false, ap, ◌∙◌, sym}
use Rattle.ext_lifecycle.specs.Lifecycle.{endings_of}
use Rattle.ext_lifecycle.proofs.EndingLaws.{passed, passed-all}
use Rattle.ext_lifecycle.proofs.tally.Tally.is_successful.Goals as goal

pub returns-in-Successful : goal.returns-in-Successful
returns-in-Successful c = λ outcomes is.
    let e : passed c.args.self.now.status ≡ true = ap passed c.in-Successful.is in
    sym e ∙ ap (λ t. passed t.status) is ∙ passed-all (endings_of outcomes)

pub returns-in-Aborted : goal.returns-in-Aborted
returns-in-Aborted c = λ outcomes is.
    let e : passed c.args.self.now.status ≡ false = ap passed c.in-Aborted.is in
    sym e ∙ ap (λ t. passed t.status) is ∙ passed-all (endings_of outcomes)

pub returns-in-Failed : goal.returns-in-Failed
returns-in-Failed c = λ outcomes is.
    let e : passed c.args.self.now.status ≡ false = ap passed c.in-Failed.is in
    sym e ∙ ap (λ t. passed t.status) is ∙ passed-all (endings_of outcomes)

pub returns-in-Skipped : goal.returns-in-Skipped
returns-in-Skipped c = λ outcomes is.
    let e : passed c.args.self.now.status ≡ false = ap passed c.in-Skipped.is in
    sym e ∙ ap (λ t. passed t.status) is ∙ passed-all (endings_of outcomes)
