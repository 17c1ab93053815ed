use Rattle.std.proofs.Common.{◌∙◌, sym}
use Rattle.std.proofs.lemmas.Bool.{true≢false}
use Rattle.ext_races.specs.Touches.{touch_view}
use Rattle.ext_races.proofs.Noted.{kept_all, set_keeps, set_noted}
use Rattle.ext_races.proofs.passing.note_turn.Goals as goal

pub returns-then-is_concurrent-clause-kept : goal.returns-then-is_concurrent-clause-kept
returns-then-is_concurrent-clause-kept c = set_keeps _ c.args.container _ _ c.requires c.with_touch-now.ensures.kept

pub returns-then-is_concurrent-clause-noted : goal.returns-then-is_concurrent-clause-noted
returns-then-is_concurrent-clause-noted c = λ runs. set_noted _ c.args.container _ c.args.child (touch_view c.args.touch.now) c.requires c.with_touch-now.ensures.noted

pub returns-else-is_concurrent-clause-kept : goal.returns-else-is_concurrent-clause-kept
returns-else-is_concurrent-clause-kept c = kept_all _

pub returns-else-is_concurrent-clause-noted : goal.returns-else-is_concurrent-clause-noted
returns-else-is_concurrent-clause-noted c = λ runs. absurd (true≢false (sym runs ∙ sym c.mode.ensures ∙ sym c.is_concurrent.ensures ∙ c.if-is_concurrent.false))
