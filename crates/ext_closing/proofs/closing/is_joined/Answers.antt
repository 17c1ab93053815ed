use Rattle.std.proofs.Common.{sym, ◌∙◌}
use Rattle.ext_closing.proofs.Joining.{joined_where, unknown_where}
use Rattle.ext_closing.proofs.closing.is_joined.Goals as goal

pub returns-clause-joined : goal.returns-clause-joined
returns-clause-joined g c = λ known. joined_where c.args.lanes.now c.args.number c.lane_knowing.result (sym c.is_some.ensures ∙ known) c.lane_knowing.ensures.within c.lane_knowing.ensures.knows

pub returns-clause-unknown : goal.returns-clause-unknown
returns-clause-unknown g c = λ unknown. unknown_where c.args.lanes.now c.args.number c.lane_knowing.result (sym c.is_some.ensures ∙ unknown) c.lane_knowing.ensures.none
