use Rattle.std.proofs.Common.{◌∙◌, ap, map}
use Rattle.ext_plan_reading.proofs.StepWords.{no_step, step_of-words}
use Rattle.ext_plan_reading.proofs.steps.step_of.Goals as goal

pub returns-then-has_empty : goal.returns-then-has_empty
returns-then-has_empty c = no_step c.args.labels.now c.args.text.now c.as_slice.result.now (ap (map (λ w. w.now)) c.as_slice.ensures.value ∙ c.words_of-words.ensures) c.if-has_empty.ensures

pub returns : goal.returns
returns c =
    let words = step_of-words c.args.labels.now c.args.text.now c.as_slice.result.now (ap (map (λ w. w.now)) c.as_slice.ensures.value ∙ c.words_of-words.ensures) c.if-has_empty.ensures in
    rw (words, c.as_slice.ensures.value, ← c.as_slice-2.ensures.value) c.step_of_words.ensures
