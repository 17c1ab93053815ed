use Rattle.std.proofs.Common.{refl}
use Rattle.ext_c.proofs.Said.{begin_run, claim_said}
use Rattle.ext_c.proofs.seat.Seat.begin_along.Goals as goal

pub returns-in-None-clause-says : goal.returns-in-None-clause-says
returns-in-None-clause-says c =
    begin_run _ _ c.args.self.now c.claim_along.new.self c.args.found.now c.claim_along.new.self.claim (c.in_default.ensures.idle refl) refl (c.in-None.ensures.has refl) (c.in-None.ensures.claimed refl)

pub returns-in-Some-claim_along-clause-says : goal.returns-in-Some-claim_along-clause-says
returns-in-Some-claim_along-clause-says c =
    claim_said c.args.self.now c.claim_along.new.self c.tell_unused.new.self c.claim_along.ensures.known c.claim_along.ensures.faults
    c.tell_unused.ensures.still (c.in_default.ensures.idle refl) c.args.found.now c.tell_unused.new.found c.tell_unused.result _ _ c.in-Some-claim_along.why c.in-Some-claim_along.ensures.unclaimed.1 c.tell_unused.ensures.told c.tell_unused.ensures.claim
