use Rattle.ext_closing.proofs.Knowing.{shown_back}
use Rattle.ext_closing.proofs.closing.known_value.Goals as goal

pub returns-clause-unchanged : goal.returns-clause-unchanged
returns-clause-unchanged g c =
    let shown = c.in-Some-show.ensures in
    shown_back c.args.lanes.now c.in-Some.at c.index-lanes-at.result c.show.new.lane c.args.number c.in-Some-show.value.now c.in-Some.ensures.within c.in-Some.ensures.knows shown.known shown.found shown.steps shown.faults shown.keys
