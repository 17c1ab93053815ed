-- When two touches clash: one may change the place that the other touches. Two computes of one place with the same word
-- and text agree instead, since a run reports the same whoever runs the factory. So does such a compute with a look-up
-- that finds what another one of that word and text computed there. Two closeable values in one context under different
-- keys clash, too, if both closes fail with different texts: the close with the greater number is reported first, and
-- numbers are drawn in the order of the run.
use Rattle.std.specs.Prelude.{codes, Bool, not, ◌&&◌, ◌==◌, if◌then◌else◌}
use Rattle.std.specs.Str.{bytes_eq}
use Rattle.ext_plan.specs.Values.{begins_with}
use Rattle.ext_plan.specs.StepWords.{computes, leaves_closeable, word_eq}
use Rattle.ext_races.specs.Touches.{TouchText}

-- Each computes one place, or finds what was computed there, with one word and one text.
abbrev pub agree : TouchText → TouchText → Bool
agree t u = computes t.acts && word_eq t.acts u.acts && bytes_eq t.text u.text

-- The touch may leave a value whose close fails.
abbrev pub may_fail : TouchText → Bool
may_fail t = t.changes && leaves_closeable t.word && begins_with (codes "bad") t.text

-- Either of their closes may be reported first.
abbrev pub closes_differ : TouchText → TouchText → Bool
closes_differ t u = may_fail t && may_fail u && not (bytes_eq t.text u.text)

-- The first may change a place that the second touches, and they don't agree; or the report would show which of their
-- closes came first.
abbrev pub clashes : TouchText → TouchText → Bool
clashes t u = t.changes && (t.context == u.context) && (if t.key == u.key then not (agree t u) else closes_differ t u)
