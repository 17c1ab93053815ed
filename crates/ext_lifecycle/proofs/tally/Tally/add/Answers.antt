use Rattle.std.proofs.Common.{ap, sym, ◌∙◌, arith}
use Rattle.std.specs.Prelude.{◌||◌}
use Rattle.ext_model.specs.Lacks.{fault_tells_lack}
use Rattle.ext_model.proofs.CountedCloses.{or-false}
use Rattle.ext_lifecycle.specs.Endings.{ending_tells}
use Rattle.ext_lifecycle.specs.InnerTotals.{total_in, with_ending}
use Rattle.ext_lifecycle.specs.Lifecycle.{ending_of}
use Rattle.ext_lifecycle.proofs.Tallying.{tally_of-more}
use Rattle.ext_lifecycle.proofs.tally.Tally.add.Goals as goal

pub returns-in-Successful-clause-tally : goal.returns-in-Successful-clause-tally
returns-in-Successful-clause-tally c = λ os is.
    tally_of-more c.args.self.now _ os c.args.outcome is (ap (λ v. with_ending (total_in c.args.self.now) (ending_of v)) (sym c.in-Successful.is)) (omega (arith, c.from.ensures)) (omega (arith, c.from-2.ensures)) (sym (or-false c.args.self.now.lacked) ∙ ap (λ v. c.args.self.now.lacked || ending_tells fault_tells_lack (ending_of v)) (sym c.in-Successful.is))

pub returns-in-Aborted-clause-tally : goal.returns-in-Aborted-clause-tally
returns-in-Aborted-clause-tally c = λ os is.
    tally_of-more c.args.self.now _ os c.args.outcome is (c.add_abort.ensures.total ∙ ap (λ v. with_ending (total_in c.args.self.now) (ending_of v)) (sym c.in-Aborted.is))
    (omega (arith, c.from.ensures, c.add_abort.ensures.computed)) (omega (arith, c.from-2.ensures, c.add_abort.ensures.found))
    (c.add_abort.ensures.lacked ∙ ap (λ v. c.args.self.now.lacked || ending_tells fault_tells_lack (ending_of v)) (sym c.in-Aborted.is))

pub returns-in-Failed-clause-tally : goal.returns-in-Failed-clause-tally
returns-in-Failed-clause-tally c = λ os is.
    tally_of-more c.args.self.now _ os c.args.outcome is (c.add_fault.ensures.total ∙ ap (λ v. with_ending (total_in c.args.self.now) (ending_of v)) (sym c.in-Failed.is))
    (omega (arith, c.from.ensures, c.add_fault.ensures.computed)) (omega (arith, c.from-2.ensures, c.add_fault.ensures.found))
    (c.add_fault.ensures.lacked ∙ ap (λ v. c.args.self.now.lacked || ending_tells fault_tells_lack (ending_of v)) (sym c.in-Failed.is))
