use denote.Exit.{no}
use denote.Param.Send.{IsSend, arg_send, param_send, sendable}
use denote.Param.SendFields.{declared_send}
use Rattle.std.proofs.Crossing.{crosses}
use Rattle.ext_c.specs.contracts.seat.Seat as seat
use Rattle.ext_c.proofs.crossing.parts_cross.Goals as goal

-- a seat from its parts, in their order: the store, the lane, the claim and the closers
whole : (c : goal.After-crosses-4) → IsSend seat.the_row
whole c =
    declared_send seat.the_type (
      record { owned = c.crosses.ensures.owned; leaving = λ k x w. tt },
      (record { owned = c.crosses-2.ensures.owned; leaving = λ k x w. tt }, (search (sendable, crosses) depth 40, (search (sendable, crosses) depth 40, tt))),
    )

pub crosses-requires-5-send-T : goal.crosses-requires-5-send-T
crosses-requires-5-send-T c κs = param_send 0 _ (arg_send _ no seat.the_row (whole c))
