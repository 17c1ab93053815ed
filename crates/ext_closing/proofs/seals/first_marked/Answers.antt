use Rattle.std.proofs.Common.{◌≡◌, ◌≤◌, ◌+◌, ◌*◌, ◌∙◌, [], length, refl, sym, arith}
use Rattle.ext_closing.proofs.Counting.{fronts_within}
use Rattle.ext_closing.proofs.Ordering.{in_order, none_done, none_marked, one_more_done}
use Rattle.ext_closing.proofs.Sealing.{all_ended, all_left, legal_as, none_sealed, with_all_unused, with_unused}
use Rattle.ext_closing.proofs.seals.first_marked.Goals as goal

pub loop-block-init : goal.loop-block-init
loop-block-init g c = record {
  so_far = none_sealed c.args.store.now c.args.closer.now.context c.args.lane.now.cells [] refl;
  done = none_done c.args.store.now c.args.closer.now.context c.args.lane.now.cells;
  steps = omega arith;
  known = refl;
  faults = refl;
  keys = refl;
  lane = c.requires.lane;
  kept = λ number kept. kept;
}

pub loop-block-preserved : goal.loop-block-preserved
loop-block-preserved g c =
    let u = c.seal_unused-marks in
    let inv = c.loop-block.invariant in
    let same = u.ensures.stays.lane.cells ∙ sym inv.lane.cells in
    let below : c.loop-block.block * 32 + 32 ≤ length c.args.store.now.id.keys = omega (arith, c.loop-block-test.true, c.key_count-keys.ensures.count, c.key_count-keys.ensures.blocks.whole) in
    let one = u.ensures.steps in
    let steps = inv.steps in
    let next = fronts_within c.loop-block.lane.cells u.new.lane.cells 1 (omega (arith, one)) in
    record {
      so_far = with_all_unused c.args.store.now c.args.closer.now.context c.loop-block.lane.cells u.new.lane.cells same (legal_as c.loop-block.lane.cells u.new.lane.cells same c.tell_proof.ensures.legal)
          c.loop-block.block u.result below (omega (arith, c.if-marks-ne0.false)) u.ensures.answer c.args.lane.now.cells [] inv.so_far;
      done = one_more_done c.args.store.now c.args.closer.now.context c.loop-block.block u.result c.args.lane.now.cells u.new.lane.cells u.new.lane.cells
          (record { between = c.loop-block.lane.cells; done = inv.done; unused = u.ensures.answer; step = u.ensures.steps })
          (none_marked c.args.store.now c.args.closer.now.context c.loop-block.block u.result u.new.lane.cells);
      steps = omega (arith, steps, next);
      known = u.ensures.stays.known ∙ inv.known;
      faults = u.ensures.stays.faults ∙ inv.faults;
      keys = u.ensures.keys ∙ inv.keys;
      lane = u.ensures.stays.lane;
      kept = λ number kept. u.ensures.stays.kept number (inv.kept number kept);
    }

pub returns-then-marks-ne0-clause-marked : goal.returns-then-marks-ne0-clause-marked
returns-then-marks-ne0-clause-marked g c =
    let u = c.seal_unused-marks in
    let inv = c.loop-block.invariant in
    let same = u.ensures.stays.lane.cells ∙ sym inv.lane.cells in
    let below : c.loop-block.block * 32 + 32 ≤ length c.args.store.now.id.keys = omega (arith, c.loop-block-test.true, c.key_count-keys.ensures.count, c.key_count-keys.ensures.blocks.whole) in
    let one = u.ensures.steps in
    let steps = inv.steps in
    let next = fronts_within c.loop-block.lane.cells u.new.lane.cells 1 (omega (arith, one)) in
    record {
      is_marked = record { within = below; unused = λ key none. u.ensures.answer.unused key none };
      so_far = with_unused c.args.store.now c.args.closer.now.context c.loop-block.lane.cells u.new.lane.cells same (legal_as c.loop-block.lane.cells u.new.lane.cells same c.tell_proof.ensures.legal)
          c.loop-block.block u.result (c.loop-block.block * 32) below u.ensures.answer c.args.lane.now.cells [] inv.so_far;
      begun = record { between = c.loop-block.lane.cells; done = inv.done; unused = u.ensures.answer; step = u.ensures.steps };
      steps = omega (arith, steps, next);
    }

pub returns-clause-all : goal.returns-clause-all
returns-clause-all g c =
    let all : c.loop-block.block * 32 ≡ length c.args.store.now.id.keys = omega (arith, c.loop-block-test.false, c.loop-block.auto.block-end, c.key_count-keys.ensures.count, c.key_count-keys.ensures.blocks.whole) in
    let steps = c.loop-block.invariant.steps in
    let so_far = c.loop-block.invariant.so_far in
    record {
      ends = all_ended c.args.store.now c.args.closer.now.context (c.loop-block.block * 32) c.args.lane.now.cells c.loop-block.lane.cells [] all so_far;
      none_left = sym (all_left c.args.store.now c.args.closer.now.context (c.loop-block.block * 32) c.args.lane.now.cells c.loop-block.lane.cells [] all so_far);
      in_order = in_order c.args.store.now c.args.closer.now.context c.loop-block.block c.args.lane.now.cells c.loop-block.lane.cells (omega (arith, all)) c.loop-block.invariant.done;
      steps = omega (arith, steps, c.loop-block.auto.block-end, c.key_count-keys.ensures.count);
    }
