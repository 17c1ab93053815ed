use Rattle.std.proofs.Common.{◌≡◌, ◌+◌, ◌*◌, ◌/◌, ℕ, List, sym, subst, arith}
use Rattle.std.specs.Prelude.{Err}
use Rattle.ext_store.specs.Stores.{StoreLane}
use Rattle.ext_closing.specs.InnerSteps.{SealedSoFar}
use Rattle.ext_closing.proofs.Sealing.{BlockSoFar, block_begun, block_done, block_passed, block_refused, block_sealed, rest_done, rest_refused}
use Rattle.ext_closing.proofs.seals.seal_marked.Goals as goal
use Rattle.ext_closing.proofs.seals.seal_marked.Goals.{then-left-eq1+in-Ok, else-left-eq1}

pub loop-place-init : goal.loop-place-init
loop-place-init g c =
    block_begun c.args.store.now c.args.closer.now.context c.args.marked.block c.args.marked.marks c.requires.marked.within c.args.lane.now c.requires.lane c.args.numbers.now
    c.requires.marked.unused c.requires.few

pub returns-then-left-eq0-clause-sealed : goal.returns-then-left-eq0-clause-sealed
returns-then-left-eq0-clause-sealed g c =
    block_done c.args.store.now c.args.closer.now.context c.args.marked.block c.args.marked.marks c.requires.marked.within c.args.lane.now c.requires.lane c.args.numbers.now
    c.loop-place.left c.loop-place.place (omega (arith, c.loop-place-test.true)) (omega (arith, c.if-left-eq0.true)) c.loop-place.lane c.loop-place.numbers c.loop-place.invariant

pub returns-then-left-eq0-clause-in_order : goal.returns-then-left-eq0-clause-in_order
returns-then-left-eq0-clause-in_order g c =
    rest_done c.args.store.now c.args.closer.now.context c.args.marked.block c.args.marked.marks c.requires.marked.within c.args.lane.now c.requires.lane c.args.numbers.now
    c.loop-place.left c.loop-place.place (omega (arith, c.loop-place-test.true)) c.loop-place.lane c.loop-place.numbers c.loop-place.invariant

pub returns-in-Err-clause-in_order : goal.returns-in-Err-clause-in_order
returns-in-Err-clause-in_order g c =
    let next = c.in-Err.ensures in
    rest_refused c.args.store.now c.args.closer.now.context c.args.marked.block c.args.marked.marks c.requires.marked.within c.args.lane.now c.requires.lane c.args.numbers.now
    c.loop-place.left c.loop-place.place c.loop-place-test.true c.loop-place.lane c.loop-place.numbers c.loop-place.invariant c.seal_key.new.lane next.lane next.legal
    c.if-left-eq1.true (Err c.in-Err.why) next.answer next.steps

pub returns-in-Err-clause-stops : goal.returns-in-Err-clause-stops
returns-in-Err-clause-stops g c =
    let next = c.in-Err.ensures in
    block_refused c.args.store.now c.args.closer.now.context c.args.marked.block c.args.marked.marks c.requires.marked.within c.args.lane.now c.requires.lane c.args.numbers.now
    c.loop-place.left c.loop-place.place c.loop-place-test.true c.loop-place.lane c.loop-place.numbers c.loop-place.invariant c.seal_key.new.lane next.lane next.legal c.in-Err.why next.answer

pub loop-place-preserved : goal.loop-place-preserved
loop-place-preserved g c =
    let Holds : StoreLane g.row.V.Denot × List ℕ → Type 0 =
    λ x. BlockSoFar c.args.store.now c.args.closer.now.context c.args.marked.block c.args.marked.marks (c.loop-place.left / 2) (c.loop-place.place + 1) c.args.lane.now x.0 c.args.numbers.now x.1 in
    elim c.if-left-eq1.branch [
      | then-left-eq1+in-Ok w ↦
          let next = w.in-Ok.ensures in
          let put = w.put_in_kept.ensures in
          subst Holds (λ i. (sym w.lane-is i, sym w.numbers-is i))
          (block_sealed c.args.store.now c.args.closer.now.context c.args.marked.block c.args.marked.marks c.requires.marked.within c.args.lane.now c.requires.lane c.args.numbers.now
          c.loop-place.left c.loop-place.place c.loop-place-test.true c.loop-place.lane c.loop-place.numbers c.loop-place.invariant w.seal_key.new.lane next.lane next.legal
          w.if-left-eq1.true w.in-Ok.kept w.put_in_kept.new.self next.answer put.numbers put.few next.steps next.known next.faults next.keys next.kept)
      | else-left-eq1 w ↦
          subst Holds (λ i. (sym w.lane-is i, sym w.numbers-is i))
          (block_passed c.args.store.now c.args.closer.now.context c.args.marked.block c.args.marked.marks c.requires.marked.within c.args.lane.now c.requires.lane c.args.numbers.now
          c.loop-place.left c.loop-place.place c.loop-place-test.true c.loop-place.lane c.loop-place.numbers c.loop-place.invariant w.if-left-eq1.false)
    ]

pub returns-clause-sealed : goal.returns-clause-sealed
returns-clause-sealed g c =
    let end : c.args.marked.block * 32 + c.loop-place.place ≡ c.args.marked.block * 32 + 32 = omega (arith, c.loop-place-test.false, c.loop-place.auto.place-end) in
    λ before so_far. subst (λ n. SealedSoFar c.args.store.now c.args.closer.now.context n before c.loop-place.lane.cells c.loop-place.numbers) end (c.loop-place.invariant.so_far before so_far)

pub returns-clause-in_order : goal.returns-clause-in_order
returns-clause-in_order g c =
    rest_done c.args.store.now c.args.closer.now.context c.args.marked.block c.args.marked.marks c.requires.marked.within c.args.lane.now c.requires.lane c.args.numbers.now
    c.loop-place.left c.loop-place.place (omega (arith, c.loop-place.auto.place-end)) c.loop-place.lane c.loop-place.numbers c.loop-place.invariant
