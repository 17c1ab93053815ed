use Rattle.std.proofs.Common.{subst}
use Rattle.ext_history.specs.Histories.{seen_by}
use Rattle.ext_model.specs.History.{IsLegal}
use Rattle.ext_cells.specs.Lanes.{CellsId}
use Rattle.ext_store_core.proofs.LookUps.{looks_answer, looks_overtaken}
use Rattle.ext_store_core.proofs.Faultless.{looks_faultless}
use Rattle.ext_store_core.proofs.store_core.StoreCore.get_along.Goals as goal

pub returns-clause-answer : goal.returns-clause-answer
returns-clause-answer c = record {
  looked = looks_answer c.args.self.now c.args.path.now c.args.key c.args.lane.now c.look_along-looked.new.lane c.look_along-looked.result c.requires.some c.look_along-looked.ensures.look;
  in_the_way = looks_overtaken c.args.self.now c.args.path.now c.args.key c.args.lane.now c.look_along-looked.new.lane c.look_along-looked.result c.look_along-looked.ensures.look;
}

pub returns-clause-lane : goal.returns-clause-lane
returns-clause-lane c = c.look_along-looked.ensures.lane

pub returns-clause-no_faults : goal.returns-clause-no_faults
returns-clause-no_faults c off = looks_faultless c.args.self.now c.args.path.now c.args.key c.args.lane.now c.look_along-looked.new.lane c.requires.lane off (subst (λ (z : CellsId). IsLegal z.limits (seen_by c.look_along-looked.new.lane.view)) c.look_along-looked.ensures.lane c.tell_proof.ensures.legal) c.look_along-looked.result c.look_along-looked.ensures.look
