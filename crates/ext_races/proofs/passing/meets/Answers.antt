use Rattle.std.proofs.Common.{◌∙◌, None, ap, arith, sym}
use Rattle.std.proofs.lemmas.List.{get_or_past}
use Rattle.ext_races.specs.InnerPassing.{meets}
use Rattle.ext_races.proofs.Noted.{any_read}
use Rattle.ext_races.proofs.passing.meets.Goals as goal

pub returns-then-container-passed : goal.returns-then-container-passed
returns-then-container-passed c = sym (ap (meets c.args.differing) (get_or_past c.args.passed.now c.args.container None (omega arith)))

pub returns : goal.returns
returns c = c.several_meet.ensures ∙ ap (meets c.args.differing) (any_read c.args.passed.now c.args.container _ None (omega arith))
