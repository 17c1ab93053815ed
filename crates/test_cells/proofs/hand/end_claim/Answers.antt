use Rattle.ext_cells.proofs.Ending.{held_while_drawing}
use Rattle.test_cells.proofs.hand.end_claim.Goals as goal

pub fill-requires-clause-held : goal.fill-requires-clause-held
fill-requires-clause-held c = held_while_drawing _ c.args.lane.now c.next_number.new.lane c.args.claim _ c.next_number.ensures.lane c.tell_proof.ensures.legal c.next_number.ensures.reply c.requires.held

pub abandon-requires-clause-held : goal.abandon-requires-clause-held
abandon-requires-clause-held c = held_while_drawing _ c.args.lane.now c.next_number.new.lane c.args.claim _ c.next_number.ensures.lane c.tell_proof-in-Err.ensures.legal c.next_number.ensures.reply c.requires.held
