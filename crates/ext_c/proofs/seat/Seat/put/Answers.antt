use Rattle.std.proofs.Common.{refl}
use Rattle.ext_c.specs.Answers.{PutSays}
use Rattle.ext_c.proofs.Said.{put_said}
use Rattle.ext_c.proofs.seat.Seat.put.Goals as goal

pub returns-in-Err-clause-says : goal.returns-in-Err-clause-says
returns-in-Err-clause-says c = PutSays.unkept (c.in_default.ensures.idle refl) c.in-Err.why c.in-Err.ensures.answer c.of_keep.ensures refl

pub returns-clause-says : goal.returns-clause-says
returns-clause-says c =
    put_said c.args.context c.args.key c.args.handle c.args.self.now c.keep.new.self c.put_kept-put.new.self c.tell_put.new.self c.args.stood.now c.tell_put.new.stood c.tell_put.result c.in-Ok.kept c.put_kept-put.result
    (c.in_default.ensures.idle refl) c.keep.ensures.store c.in-Ok.ensures.answer c.put_kept-put.ensures.answer c.put_kept-put.ensures.known c.put_kept-put.ensures.faults c.tell_put.ensures.still c.tell_put.ensures.told
