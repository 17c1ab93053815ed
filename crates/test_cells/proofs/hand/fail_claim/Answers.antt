use Rattle.ext_cells.proofs.Ending.{held_while_drawing}
use Rattle.test_cells.proofs.hand.fail_claim.Goals as goal

pub fail-requires-clause-held : goal.fail-requires-clause-held
fail-requires-clause-held c = held_while_drawing _ c.args.lane.now c.next_number.new.lane c.args.claim _ c.next_number.ensures.lane c.tell_proof.ensures.legal c.next_number.ensures.reply c.requires.held

pub abandon-requires-clause-held : goal.abandon-requires-clause-held
abandon-requires-clause-held c = held_while_drawing _ c.args.lane.now c.next_number.new.lane c.args.claim _ c.next_number.ensures.lane c.tell_proof-in-Err.ensures.legal c.next_number.ensures.reply c.requires.held
