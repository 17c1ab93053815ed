use Rattle.std.proofs.Common.{◌++◌, ◌∙◌, ap, codes, string_bytes, sym}
use Rattle.ext_plan_reading.specs.Plans.{lock_view}
use Rattle.ext_plan_plain.proofs.Outcomes.{OnOk-map}
use Rattle.ext_run.specs.Drawings.{lock_words}
use Rattle.ext_run.proofs.drawing.write_lock.Goals as goal

pub returns-in-ReadWrite : goal.returns-in-ReadWrite
returns-in-ReadWrite c =
    let text = string_bytes c.args.text.now in
    OnOk-map c.write_two-in-ReadWrite.result c.write_two-in-ReadWrite.ensures (λ e.
    e ∙ ap (λ name. text ++ (codes ", READ_WRITE " ++ name)) c.as_str-in-ReadWrite.ensures.value ∙ ap (λ lock. text ++ lock_words (lock_view lock)) (sym c.in-ReadWrite.is))
