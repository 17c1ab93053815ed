use Rattle.std.proofs.Common.{subst}
use Rattle.std.specs.Prelude.{Ok}
use Rattle.ext_history.specs.Histories.{seen_by}
use Rattle.ext_model.specs.History.{IsLegal}
use Rattle.ext_cells.specs.Lanes.{CellsId}
use Rattle.ext_store_core.proofs.LookUps.{looks_answer}
use Rattle.ext_store_core.proofs.Faultless.{look_faultless}
use Rattle.ext_store_core.proofs.store_core.StoreCore.get_along_wait.Goals as goal

pub returns-clause-answer : goal.returns-clause-answer
returns-clause-answer g c = record {
  looked = looks_answer c.args.self.now c.args.path.now c.args.key c.args.lane.now c.wait_along-looked.new.lane (Ok c.wait_along-looked.result) c.requires.some c.wait_along-looked.ensures.look;
  in_the_way = λ e. absurd (cc e);
}

pub returns-clause-lane : goal.returns-clause-lane
returns-clause-lane g c = c.wait_along-looked.ensures.lane

pub returns-clause-no_faults : goal.returns-clause-no_faults
returns-clause-no_faults g c off = look_faultless c.args.self.now c.args.path.now c.args.key c.args.lane.now c.wait_along-looked.new.lane c.requires.lane off (subst (λ (z : CellsId). IsLegal z.limits (seen_by c.wait_along-looked.new.lane.view)) c.wait_along-looked.ensures.lane c.tell_proof.ensures.legal) c.wait_along-looked.result c.wait_along-looked.ensures.look
