use Rattle.std.proofs.Common.{refl}
use Rattle.ext_store.specs.LaneCalls.{Frame}
use Rattle.ext_c.specs.Answers.{KeySays}
use Rattle.ext_c.proofs.seat.Seat.number_of.Goals as goal

pub returns-in-Ok-clause-learns : goal.returns-in-Ok-clause-learns
unfolding Frame
returns-in-Ok-clause-learns c =
    let stays = c.number.ensures.stays in
    record { store = refl; closers = refl; claim = refl; cells = c.number.ensures.still; known = stays.known; faults = stays.faults; keys = stays.frame.keys }

pub returns-in-Err-clause-says : goal.returns-in-Err-clause-says
returns-in-Err-clause-says c = KeySays.refused c.in-Err.why c.in-Err.ensures.refused c.number.ensures.placed refl c.of_refusal.ensures

pub returns-in-Err-clause-learns : goal.returns-in-Err-clause-learns
unfolding Frame
returns-in-Err-clause-learns c =
    let stays = c.number.ensures.stays in
    record { store = refl; closers = refl; claim = refl; cells = c.number.ensures.still; known = stays.known; faults = stays.faults; keys = stays.frame.keys }
