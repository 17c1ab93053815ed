use Rattle.ext_c.proofs.Faults.{none_known}
use Rattle.ext_c.proofs.seat.Seat.tell_fault.Goals as goal

pub returns-in_default-handle_of-clause-unknown : goal.returns-in_default-handle_of-clause-unknown
returns-in_default-handle_of-clause-unknown c =
    λ _. none_known c.args.self.now.lane.faults c.show_fault.new.lane.faults c.args.number c.in-Some.fault.now c.show_fault.ensures.faults c.in-Some.ensures.found.learnt c.in_default-handle_of.ensures.none
