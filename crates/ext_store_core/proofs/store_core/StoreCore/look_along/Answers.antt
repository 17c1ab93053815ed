use Rattle.std.proofs.Common.{◌*◌, ◌∙◌, ap, subst}
use Rattle.ext_cells.specs.CellCalls.{cells_in, StoodNearest}
use Rattle.ext_store_core.specs.ContextCalls.{ContextCells}
use Rattle.ext_store_core.proofs.Trails.{trail_cells, trail_within, trail_different}
use Rattle.ext_store_core.proofs.LookUps.{looks_found, looks_absent}
use Rattle.ext_store_core.proofs.store_core.StoreCore.look_along.Goals as goal

pub nearest-requires-clause-known : goal.nearest-requires-clause-known
nearest-requires-clause-known c =
    trail_within c.args.self.now (c.blocks-blocks.result * 32) c.args.key _ c.args.path.now c.blocks-blocks.ensures.places c.requires.key (ap (λ (s : ContextCells). s.cells.limits.cells) c.self.view_is ∙ c.tell_proof.ensures.cells) c.requires.path

pub nearest-requires-clause-different : goal.nearest-requires-clause-different
nearest-requires-clause-different c = trail_different c.args.self.now c.args.path.now c.requires.path

pub returns-in-Ok-Some-clause-look : goal.returns-in-Ok-Some-clause-look
returns-in-Ok-Some-clause-look c =
    looks_found _ c.args.path.now _ c.args.lane.now c.nearest.new.lane _ (trail_cells c.args.self.now (c.blocks-blocks.result * 32) c.args.key c.args.path.now c.blocks-blocks.ensures.places) c.in-Ok-Some.nearest _
    (subst (StoodNearest c.args.lane.now c.nearest.new.lane (cells_in c.args.path.now (c.blocks-blocks.result * 32) c.args.key)) c.in-Ok-Some.field-0-is c.in-Ok-Some.ensures.nearest) c.found_at.ensures

pub returns-in-Ok-None-clause-look : goal.returns-in-Ok-None-clause-look
returns-in-Ok-None-clause-look c =
    looks_absent _ c.args.path.now _ c.args.lane.now c.nearest.new.lane _ (trail_cells c.args.self.now (c.blocks-blocks.result * 32) c.args.key c.args.path.now c.blocks-blocks.ensures.places)
    (subst (StoodNearest c.args.lane.now c.nearest.new.lane (cells_in c.args.path.now (c.blocks-blocks.result * 32) c.args.key)) c.in-Ok-None.field-0-is c.in-Ok-None.ensures.nearest)

pub returns-in-Ok-Some-clause-lane : goal.returns-in-Ok-Some-clause-lane
returns-in-Ok-Some-clause-lane c = c.nearest.ensures.lane

pub returns-in-Ok-None-clause-lane : goal.returns-in-Ok-None-clause-lane
returns-in-Ok-None-clause-lane c = c.nearest.ensures.lane

pub returns-in-Err-Contended-clause-lane : goal.returns-in-Err-Contended-clause-lane
returns-in-Err-Contended-clause-lane c = c.nearest.ensures.lane
