use Rattle.std.proofs.Common.{refl}
use Rattle.ext_c.proofs.Said.{remove_said}
use Rattle.ext_c.proofs.seat.Seat.remove.Goals as goal

pub returns-clause-says : goal.returns-clause-says
returns-clause-says c =
    remove_said c.args.context c.args.key c.args.self.now c.take_out-removed.new.self c.tell_remove.new.self c.take_out-removed.ensures.known c.take_out-removed.ensures.faults
    c.tell_remove.ensures.still (c.in_default.ensures.idle refl) c.args.taken.now c.tell_remove.new.taken c.tell_remove.result c.take_out-removed.result c.take_out-removed.ensures.answer c.tell_remove.ensures.told
