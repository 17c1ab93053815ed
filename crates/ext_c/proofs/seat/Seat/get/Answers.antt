use Rattle.std.proofs.Common.{refl}
use Rattle.ext_c.proofs.Said.{look_said}
use Rattle.ext_c.proofs.seat.Seat.get.Goals as goal

pub returns-clause-says : goal.returns-clause-says
returns-clause-says c =
    look_said c.args.self.now c.look-looked.new.self c.tell_look.new.self c.look-looked.ensures.known c.look-looked.ensures.faults
    c.tell_look.ensures.still (c.in_default.ensures.idle refl) c.args.found.now c.tell_look.new.found c.tell_look.result _ _ c.look-looked.result c.look-looked.ensures.answer c.tell_look.ensures.told
