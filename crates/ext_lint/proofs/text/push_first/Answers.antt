use Rattle.std.proofs.Common.{rules, append_assoc, arith, map}
use Rattle.ext_plan.specs.Plans.{plan_view}
use Rattle.ext_lint.specs.InnerLists.{said_view}
use Rattle.ext_lint.specs.NoteLines.{note_line}
use Rattle.ext_lint.proofs.Lines.{first_alone, first_and_more}
use Rattle.ext_lint.proofs.text.push_first.Goals as goal

pub returns-then-notes-gt-LINES : goal.returns-then-notes-gt-LINES
returns-then-notes-gt-LINES c =
    let many = c.if-notes-gt-LINES.true in
    let lines = first_and_more (note_line (plan_view c.args.plan.now) (map said_view c.args.stored.now)) c.args.notes.now (omega (arith, many)) in
    rw (← lines) (search (rules, append_assoc))

pub returns : goal.returns
returns c =
    let few = c.if-notes-gt-LINES.false in
    let lines = first_alone (note_line (plan_view c.args.plan.now) (map said_view c.args.stored.now)) c.args.notes.now (omega (arith, few)) in
    rw (← lines) (search (rules, append_assoc))
