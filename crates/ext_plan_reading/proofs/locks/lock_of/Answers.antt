use Rattle.std.proofs.Common.{◌∙◌, ap, map}
use Rattle.ext_plan_reading.proofs.StepWords.{lock_of-words}
use Rattle.ext_plan_reading.proofs.locks.lock_of.Goals as goal

pub returns : goal.returns
returns c = rw (lock_of-words c.args.text.now _ (ap (map (λ w. w.now)) c.as_slice.ensures.value ∙ c.words_of-words.ensures)) c.lock_of_words.ensures
