use Rattle.std.proofs.Common.{◌+◌, ◌*◌, ◌∙◌, sym, arith}
use Rattle.std.specs.Prelude.{Some}
use Rattle.ext_cells.specs.Lanes.{Lane}
use Rattle.ext_closing.specs.InnerSteps.{SealedSoFar, SealingEnds, SealsOn}
use Rattle.ext_closing.proofs.Counting.{fronts_within}
use Rattle.ext_closing.proofs.Ordering.{one_more_done}
use Rattle.ext_closing.proofs.Sealing.{if_err, if_ok, legal_as, with_unused}
use Rattle.ext_closing.proofs.seals.seal_block.Goals as goal

pub returns-clause-sealed : goal.returns-clause-sealed
returns-clause-sealed g c =
    let u = c.seal_unused-left in
    let store = c.args.store.now in
    let context = c.args.closer.now.context in
    let from = c.args.block * 32 in
    let old = c.args.numbers.now in
    let new = c.seal_marked.new in
    let same = u.ensures.stays.lane.cells ∙ sym c.requires.lane.cells in
    if_ok {P = λ done. SealsOn store context from (from + 32) u.new.lane.cells new.lane.cells old new.numbers} {Q = λ done. SealsOn store context from (from + 32) c.args.lane.now.cells new.lane.cells old new.numbers}
    c.seal_marked.result
    (λ done is before so_far. is before
    (with_unused store context c.args.lane.now.cells u.new.lane.cells same (legal_as c.args.lane.now.cells u.new.lane.cells same c.tell_proof.ensures.legal)
    c.args.block u.result from c.requires.block u.ensures.answer before old so_far))
    c.seal_marked.ensures.sealed

pub returns-clause-stops : goal.returns-clause-stops
returns-clause-stops g c =
    let u = c.seal_unused-left in
    let store = c.args.store.now in
    let context = c.args.closer.now.context in
    let from = c.args.block * 32 in
    let old = c.args.numbers.now in
    let new = c.seal_marked.new in
    let same = u.ensures.stays.lane.cells ∙ sym c.requires.lane.cells in
    if_err {P = λ why. (before : Lane) → SealedSoFar store context from before u.new.lane.cells old → SealingEnds store context before new.lane.cells (Some why)}
    {Q = λ why. (before : Lane) → SealedSoFar store context from before c.args.lane.now.cells old → SealingEnds store context before new.lane.cells (Some why)}
    c.seal_marked.result
    (λ why is before so_far. is before
    (with_unused store context c.args.lane.now.cells u.new.lane.cells same (legal_as c.args.lane.now.cells u.new.lane.cells same c.tell_proof.ensures.legal)
    c.args.block u.result from c.requires.block u.ensures.answer before old so_far))
    c.seal_marked.ensures.stops

pub returns-clause-in_order : goal.returns-clause-in_order
returns-clause-in_order g c = λ before done.
    let u = c.seal_unused-left in
    one_more_done c.args.store.now c.args.closer.now.context c.args.block u.result before u.new.lane.cells c.seal_marked.new.lane.cells
    (record { between = c.args.lane.now.cells; done = done; unused = u.ensures.answer; step = u.ensures.steps }) c.seal_marked.ensures.in_order

pub returns-clause-steps : goal.returns-clause-steps
returns-clause-steps g c =
    let u = c.seal_unused-left in
    let one = u.ensures.steps in
    let first = fronts_within c.args.lane.now.cells u.new.lane.cells 1 (omega (arith, one)) in
    let more = c.seal_marked.ensures.steps in
    omega (arith, first, more)
