use Rattle.std.proofs.Common.{◌++◌, ◌∙◌, ap, string_bytes}
use Rattle.std.specs.List.{flat_map}
use Rattle.ext_plan_reading.specs.Plans.{lock_view}
use Rattle.ext_run.specs.Drawings.{lock_words}
use Rattle.ext_run.proofs.Drawn.{words-written}
use Rattle.ext_run.proofs.drawing.write_words.Goals as goal

pub returns : goal.returns
returns c =
    let before = string_bytes c.write_word-2.new.text in
    words-written c.args.node.now c.is_concurrent.result (string_bytes c.args.text.now) (string_bytes c.write_word.new.text) before
    (string_bytes c.write_locks.new.text) (string_bytes c.write_test.new.text) c.is_concurrent.ensures c.in_ok-write_word.ensures c.in_ok-write_word-2.ensures
    (c.in_ok-write_locks.ensures ∙ ap (λ locks. before ++ flat_map (λ lock. lock_words (lock_view lock)) locks) c.as_slice.ensures.value) c.in_ok-write_test.ensures
