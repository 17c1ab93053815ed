use Rattle.std.proofs.Common.{◌≡◌, ◌∙◌, ◌+◌, ◌*◌, List, length, sym, subst, arith, ℕ}
use Rattle.ext_closing.specs.InnerSteps.{SealedSoFar}
use Rattle.ext_closing.proofs.Sealing.{all_ended, all_left}
use Rattle.ext_closing.proofs.Ordering.{in_order, one_more_done}
use Rattle.ext_closing.proofs.Counting.{blocks_within, first_within, one_block_within}
use Rattle.ext_closing.proofs.seals.seal_from.Goals as goal

pub loop-block-init : goal.loop-block-init
loop-block-init g c =
    let first = c.in_default.ensures in
    let few = first.few in
    let up : c.args.marked.block * 32 + 32 ≡ (c.args.marked.block + 1) * 32 = omega arith in
    record {
      so_far = λ before so_far.
          subst (λ n. SealedSoFar c.args.store.now c.args.closer.now.context n before c.seal_marked.new.lane.cells c.seal_marked.new.numbers) up
          (first.sealed before (subst (λ (ns : List ℕ). SealedSoFar c.args.store.now c.args.closer.now.context (c.args.marked.block * 32) before c.args.lane.now.cells ns) (sym c.requires.none) so_far));
      done = λ before begun. one_more_done c.args.store.now c.args.closer.now.context c.args.marked.block c.args.marked.marks before c.args.lane.now.cells c.seal_marked.new.lane.cells begun first.in_order;
      past = omega arith;
      within = omega (arith, c.requires.marked.within);
      few = omega (arith, few);
      steps = first_within _ _ c.args.marked.block (c.args.store.now.tries + 1) first.steps;
      known = first.known;
      faults = first.faults;
      keys = first.keys;
      lane = first.lane;
      kept = first.kept;
    }

pub loop-block-preserved : goal.loop-block-preserved
loop-block-preserved g c =
    let next = c.in_default-seal_block.ensures in
    let inv = c.loop-block.invariant in
    let few = next.few in
    let past = inv.past in
    let up : c.loop-block.block * 32 + 32 ≡ (c.loop-block.block + 1) * 32 = omega arith in
    record {
      so_far = λ before so_far. subst (λ n. SealedSoFar c.args.store.now c.args.closer.now.context n before c.seal_block.new.lane.cells c.seal_block.new.numbers) up (next.sealed before (inv.so_far before so_far));
      done = λ before begun. next.in_order before (inv.done before begun);
      past = omega (arith, past);
      within = omega (arith, c.loop-block-test.true, c.key_count-keys.ensures.count);
      few = omega (arith, few);
      steps = one_block_within _ _ _ c.args.marked.block c.loop-block.block (c.args.store.now.tries + 1) inv.past inv.steps next.steps;
      known = next.known ∙ inv.known;
      faults = next.faults ∙ inv.faults;
      keys = next.keys ∙ inv.keys;
      lane = next.lane;
      kept = λ number kept. next.kept number (inv.kept number kept);
    }

-- ---- a key is refused

pub returns-in-Err-clause-ends : goal.returns-in-Err-clause-ends
returns-in-Err-clause-ends g c = λ before so_far.
    c.in-Err.ensures.stops before
    (subst (λ (ns : List ℕ). SealedSoFar c.args.store.now c.args.closer.now.context (c.args.marked.block * 32) before c.args.lane.now.cells ns) (sym c.requires.none) so_far)

pub returns-in-Err-clause-in_order : goal.returns-in-Err-clause-in_order
returns-in-Err-clause-in_order g c = λ before begun.
    in_order c.args.store.now c.args.closer.now.context (c.args.marked.block + 1) before c.seal_marked.new.lane.cells (omega (arith, c.requires.marked.within))
    (one_more_done c.args.store.now c.args.closer.now.context c.args.marked.block c.args.marked.marks before c.args.lane.now.cells c.seal_marked.new.lane.cells begun c.in-Err.ensures.in_order)

pub returns-in-Err-seal_block-clause-in_order : goal.returns-in-Err-seal_block-clause-in_order
returns-in-Err-seal_block-clause-in_order g c = λ before begun.
    in_order c.args.store.now c.args.closer.now.context (c.loop-block.block + 1) before c.seal_block.new.lane.cells (omega (arith, c.loop-block-test.true, c.key_count-keys.ensures.count))
    (c.in-Err-seal_block.ensures.in_order before (c.loop-block.invariant.done before begun))

pub returns-in-Err-seal_block-clause-ends : goal.returns-in-Err-seal_block-clause-ends
returns-in-Err-seal_block-clause-ends g c = λ before so_far. c.in-Err-seal_block.ensures.stops before (c.loop-block.invariant.so_far before so_far)

pub returns-in-Err-seal_block-clause-steps : goal.returns-in-Err-seal_block-clause-steps
returns-in-Err-seal_block-clause-steps g c =
    let count = c.key_count-keys.ensures.count in
    let here = c.loop-block-test.true in
    let inv = c.loop-block.invariant in
    blocks_within _ _ _ c.args.marked.block (c.loop-block.block + 1) (c.args.store.now.tries + 1) c.key_count-keys.ensures.blocks.whole (omega (arith, count, here))
    (one_block_within _ _ _ c.args.marked.block c.loop-block.block (c.args.store.now.tries + 1) inv.past inv.steps c.in-Err-seal_block.ensures.steps)

-- ---- all keys are sealed

pub returns-clause-in_order : goal.returns-clause-in_order
returns-clause-in_order g c = λ before begun.
    let inv = c.loop-block.invariant in
    let within = inv.within in
    in_order c.args.store.now c.args.closer.now.context c.loop-block.block before c.loop-block.lane.cells (omega (arith, within)) (inv.done before begun)

pub returns-clause-ends : goal.returns-clause-ends
returns-clause-ends g c =
    let inv = c.loop-block.invariant in
    let within = inv.within in
    let all : c.loop-block.block * 32 ≡ length c.args.store.now.id.keys = omega (arith, within, c.loop-block-test.false, c.key_count-keys.ensures.count, c.key_count-keys.ensures.blocks.whole) in
    λ before so_far. all_ended c.args.store.now c.args.closer.now.context (c.loop-block.block * 32) before c.loop-block.lane.cells c.loop-block.numbers all (inv.so_far before so_far)

pub returns-clause-numbers : goal.returns-clause-numbers
returns-clause-numbers g c =
    let inv = c.loop-block.invariant in
    let within = inv.within in
    let all : c.loop-block.block * 32 ≡ length c.args.store.now.id.keys = omega (arith, within, c.loop-block-test.false, c.key_count-keys.ensures.count, c.key_count-keys.ensures.blocks.whole) in
    λ before so_far. all_left c.args.store.now c.args.closer.now.context (c.loop-block.block * 32) before c.loop-block.lane.cells c.loop-block.numbers all (inv.so_far before so_far)

pub returns-clause-steps : goal.returns-clause-steps
returns-clause-steps g c =
    let inv = c.loop-block.invariant in
    let within = inv.within in
    blocks_within _ _ _ c.args.marked.block c.loop-block.block (c.args.store.now.tries + 1) c.key_count-keys.ensures.blocks.whole (omega (arith, within)) inv.steps
