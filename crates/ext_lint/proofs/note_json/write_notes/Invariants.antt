use Rattle.std.proofs.Common.{◌≡◌, ◌++◌, drop, map}
use Rattle.std.specs.List.{flat_map}
use Rattle.ext_plan.specs.Plans.{plan_view}
use Rattle.ext_lint.specs.InnerLists.{note_view, said_view}
use Rattle.ext_lint.specs.NoteJson.{note_object}
use Rattle.ext_lint.proofs.note_json.write_notes.Given as goal

abbrev pub invariant-loop-note : goal.invariant-loop-note
invariant-loop-note l = record {
  before : l.writer.before ≡ l.initial.writer.before;
  tokens : l.initial.writer.tokens ++ flat_map (note_object (plan_view l.plan) (map said_view l.stored)) (map note_view l.notes)
      ≡ l.writer.tokens ++ flat_map (note_object (plan_view l.plan) (map said_view l.stored)) (map note_view (drop l.note-index l.notes));
}
