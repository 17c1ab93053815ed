use Rattle.std.proofs.Common.{refl}
use Rattle.ext_c.proofs.Said.{begin_run, claim_said}
use Rattle.ext_c.proofs.seat.Seat.begin.Goals as goal

pub returns-in-None-clause-says : goal.returns-in-None-clause-says
returns-in-None-clause-says c =
    begin_run _ _ c.args.self.now c.claim_missing.new.self c.args.found.now c.claim_missing.new.self.claim (c.in_default.ensures.idle refl) refl (c.in-None.ensures.has refl) (c.in-None.ensures.claimed refl)

pub returns-in-Some-claim_missing-clause-says : goal.returns-in-Some-claim_missing-clause-says
returns-in-Some-claim_missing-clause-says c =
    claim_said c.args.self.now c.claim_missing.new.self c.tell_unused.new.self c.claim_missing.ensures.known c.claim_missing.ensures.faults
    c.tell_unused.ensures.still (c.in_default.ensures.idle refl) c.args.found.now c.tell_unused.new.found c.tell_unused.result _ _ c.in-Some-claim_missing.why c.in-Some-claim_missing.ensures.unclaimed.1 c.tell_unused.ensures.told c.tell_unused.ensures.claim
