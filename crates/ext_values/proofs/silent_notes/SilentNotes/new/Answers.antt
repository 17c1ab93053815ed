use Rattle.std.proofs.Common.{◌≤◌, ◌∙◌, ap, arith, length}
use Rattle.std.proofs.lemmas.List.{take_all}
use Rattle.ext_values.specs.Known.{nothing_known}
use Rattle.ext_values.proofs.NotesLaws.{notes_of_nothing}
use Rattle.ext_values.proofs.silent_notes.SilentNotes.new.Goals as goal

pub returns-clause-of : goal.returns-clause-of
returns-clause-of g c =
    let all : length c.args.values.now ≤ c.loop-index.index = omega arith in
    notes_of_nothing c.loop-index.entries.items c.args.values.now
    (c.loop-index.invariant.entries ∙ ap (λ l. nothing_known l) (take_all c.loop-index.index c.args.values.now all))
