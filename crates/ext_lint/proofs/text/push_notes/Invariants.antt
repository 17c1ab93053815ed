use Rattle.std.proofs.Common.{◌≡◌, ◌++◌, drop, map, string_bytes}
use Rattle.std.specs.List.{flat_map}
use Rattle.ext_plan.specs.Plans.{plan_view}
use Rattle.ext_lint.specs.InnerLists.{note_view, said_view}
use Rattle.ext_lint.specs.NoteLines.{note_line}
use Rattle.ext_lint.proofs.text.push_notes.Given as goal

abbrev pub invariant-loop-note : goal.invariant-loop-note
invariant-loop-note l = string_bytes l.fn.text ++ flat_map (note_line (plan_view l.plan) (map said_view l.stored)) (map note_view l.notes)
    ≡ string_bytes l.text ++ flat_map (note_line (plan_view l.plan) (map said_view l.stored)) (map note_view (drop l.note-index l.notes))
