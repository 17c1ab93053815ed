use Rattle.std.proofs.Common.{◌≡◌, string_bytes, take}
use Rattle.std.specs.List.{flat_map, slice_get}
use Rattle.ext_plan_reading.specs.Plans.{nodes_view}
use Rattle.ext_run.specs.Drawings.{node_line}
use Rattle.ext_run.proofs.drawing.drawing_in.Given as goal

abbrev pub invariant-loop-index : goal.invariant-loop-index
invariant-loop-index l = string_bytes l.text ≡ flat_map (λ context. node_line (slice_get (nodes_view l.nodes) context)) (take l.index-index l.order)
