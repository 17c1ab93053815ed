use Rattle.std.proofs.lemmas.Result.{on_ok_weaker}
use Rattle.ext_values.proofs.Learning.{err_always, learns, slots_stay}
use Rattle.ext_values.proofs.silent_notes.SilentNotes.place.Goals as goal

pub returns-clause-placed : goal.returns-clause-placed
returns-clause-placed g c =
    on_ok_weaker c.place.result
    (learns c.self.inside.entries.items c.args.self.now c.args.values.now c.self.view_is c.requires.of c.args.number c.index_mut.result.now c.place.new.self c.index_mut.ensures.value c.place.ensures.slot c.args.value.value c.requires.number)
    c.place.ensures.placed

pub returns-clause-of : goal.returns-clause-of
returns-clause-of g c = slots_stay c.self.inside.entries.items c.args.self.now c.args.values.now c.self.view_is c.requires.of c.args.number c.index_mut.result.now c.place.new.self c.index_mut.ensures.value c.place.ensures.slot

pub returns-clause-taken : goal.returns-clause-taken
returns-clause-taken g c =
    let known = c.place.ensures.known in
    err_always c.place.result (
      known.0,
      learns c.self.inside.entries.items c.args.self.now c.args.values.now c.self.view_is c.requires.of c.args.number c.index_mut.result.now c.place.new.self c.index_mut.ensures.value c.place.ensures.slot known.0 c.requires.number known.1,
    )
