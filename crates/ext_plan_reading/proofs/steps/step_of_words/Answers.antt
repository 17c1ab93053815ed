use Rattle.std.proofs.Common.{[], arith}
use Rattle.std.proofs.lemmas.Bool.{ltb-true, ltb-false}
use Rattle.ext_plan_reading.proofs.Lists.{three}
use Rattle.ext_plan_reading.proofs.StepWords.{too_few, too_many}
use Rattle.ext_plan_reading.proofs.steps.step_of_words.Goals as goal
use Rattle.ext_plan_reading.proofs.steps.step_of_words.Goals.{in_default-via-then-words-lt2, in_default-via-else-words-lt2+else-words-lt3+else-words-lt4+else-words-lt5+else-words-lt6}

pub returns-in-len3 : goal.returns-in-len3
returns-in-len3 c =
    let words = three (λ w. w.now) c.args.words.now (record { ref_ptr = (0, 0); now = [] }) c.in-len3.len_at_least c.in-len3.len_below in
    rw words c.text_step.ensures

pub returns-in_default : goal.returns-in_default
returns-in_default c = elim c.in_default.branch [
  | in_default-via-then-words-lt2 w ↦ too_few c.args.labels.now (λ w. w.now) c.args.words.now (omega (arith, ltb-true))
  | in_default-via-else-words-lt2+else-words-lt3+else-words-lt4+else-words-lt5+else-words-lt6 w ↦ too_many c.args.labels.now (λ w. w.now) c.args.words.now (omega (arith, ltb-false))
]
