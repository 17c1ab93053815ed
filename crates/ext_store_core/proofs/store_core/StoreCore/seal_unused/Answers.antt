use Rattle.std.proofs.Common.{ap, arith, ◌∙◌}
use Rattle.ext_cells.specs.Lanes.{CellsId}
use Rattle.ext_store_core.specs.ContextCalls.{ContextCells}
use Rattle.ext_store_core.proofs.Blocks.{block_fits, cells_fit, seals_unused}
use Rattle.ext_store_core.proofs.store_core.StoreCore.seal_unused.Goals as goal

pub end_block-requires-clause-block : goal.end_block-requires-clause-block
end_block-requires-clause-block c =
    block_fits c.args.self.now c.args.context c.blocks-blocks.result c.args.block c.blocks-blocks.ensures.places _ c.requires.block
    (cells_fit c.args.self.now c.args.context _ (ap (λ (s : ContextCells). s.cells.limits.cells) c.self.view_is ∙ c.tell_proof.ensures.cells) c.requires.context)

pub returns-clause-answer : goal.returns-clause-answer
returns-clause-answer c =
    let places = c.blocks-blocks.ensures.places in
    let within = c.requires.block in
    seals_unused c.args.self.now c.args.context c.blocks-blocks.result c.args.block places c.end_block.result c.args.lane.now c.end_block.new.lane c.end_block.ensures.ended
    (omega (arith, places, within))
    (cells_fit c.args.self.now c.args.context _ (ap (λ (id : CellsId). id.limits.cells) c.requires.lane ∙ c.tell_proof.ensures.cells) c.requires.context)
