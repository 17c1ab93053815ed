use Rattle.std.proofs.Common.{eq-eqb, refl, arith}
use Rattle.std.proofs.lemmas.Bool.{ne_eqb, both_ways}
use Rattle.ext_locks.proofs.Trying.{tried_first, all_makes, all_held, all_taken, all_contended, all_steps, then_taken, then_steps, tried_again}
use Rattle.ext_locks.proofs.taking.take_lock.Goals as goal

pub loop-attempt-init : goal.loop-attempt-init
loop-attempt-init c = tried_first c.args.seat.now c.load-found.new.seat _ _ _ c.load-found.ensures.step

pub returns-then-not-is_free-clause-missed : goal.returns-then-not-is_free-clause-missed
returns-then-not-is_free-clause-missed c = all_makes c.args.seat.now c.load-found.new.seat c.loop-attempt.seat _ _ _ _ _ c.load-found.ensures.table c.load-found.ensures.step c.loop-attempt.invariant

pub returns-then-not-is_free-clause-unheld : goal.returns-then-not-is_free-clause-unheld
returns-then-not-is_free-clause-unheld c = all_held c.args.seat.now c.load-found.new.seat c.loop-attempt.seat _ _ _ _ _ c.load-found.ensures.table c.load-found.ensures.step c.loop-attempt.invariant

pub returns-then-not-is_free-clause-why : goal.returns-then-not-is_free-clause-why
returns-then-not-is_free-clause-why c =
    all_taken c.args.seat.now c.load-found.new.seat c.loop-attempt.seat _ _ _ _ _ c.load-found.ensures.table c.load-found.ensures.step c.loop-attempt.invariant c.args.mode c.args.tries (λ free. both_ways _ c.if-not-is_free.true (c.is_free.ensures.1 free)) c.requires.unheld

pub returns-then-next-found-clause-taken : goal.returns-then-next-found-clause-taken
returns-then-next-found-clause-taken c =
    (then_taken c.args.seat.now c.load-found.new.seat c.loop-attempt.seat _ _ _ _ _ c.load-found.ensures.table c.load-found.ensures.step c.loop-attempt.invariant c.take_if-next.new.seat _ _ c.take_if-next.ensures.table _ (eq-eqb _ _ c.if-next-found.true) c.take_if-next.ensures.step).0

pub returns-then-next-found-clause-held : goal.returns-then-next-found-clause-held
returns-then-next-found-clause-held c =
    (then_taken c.args.seat.now c.load-found.new.seat c.loop-attempt.seat _ _ _ _ _ c.load-found.ensures.table c.load-found.ensures.step c.loop-attempt.invariant c.take_if-next.new.seat _ _ c.take_if-next.ensures.table _ (eq-eqb _ _ c.if-next-found.true) c.take_if-next.ensures.step).1

pub loop-attempt-preserved : goal.loop-attempt-preserved
loop-attempt-preserved c =
    tried_again c.load-found.new.seat c.loop-attempt.seat c.take_if-next.new.seat _ _ _ _ _ _ c.loop-attempt.invariant c.take_if-next.ensures.table _ refl (ne_eqb _ _ c.if-next-found.false) c.take_if-next.ensures.step

pub returns-then-is_free-clause-missed : goal.returns-then-is_free-clause-missed
returns-then-is_free-clause-missed c = all_makes c.args.seat.now c.load-found.new.seat c.loop-attempt.seat _ _ _ _ _ c.load-found.ensures.table c.load-found.ensures.step c.loop-attempt.invariant

pub returns-then-is_free-clause-unheld : goal.returns-then-is_free-clause-unheld
returns-then-is_free-clause-unheld c = all_held c.args.seat.now c.load-found.new.seat c.loop-attempt.seat _ _ _ _ _ c.load-found.ensures.table c.load-found.ensures.step c.loop-attempt.invariant

pub returns-else-is_free-clause-missed : goal.returns-else-is_free-clause-missed
returns-else-is_free-clause-missed c = all_makes c.args.seat.now c.load-found.new.seat c.loop-attempt.seat _ _ _ _ _ c.load-found.ensures.table c.load-found.ensures.step c.loop-attempt.invariant

pub returns-else-is_free-clause-unheld : goal.returns-else-is_free-clause-unheld
returns-else-is_free-clause-unheld c = all_held c.args.seat.now c.load-found.new.seat c.loop-attempt.seat _ _ _ _ _ c.load-found.ensures.table c.load-found.ensures.step c.loop-attempt.invariant

pub returns-then-is_free-clause-why : goal.returns-then-is_free-clause-why
returns-then-is_free-clause-why c =
    all_contended c.args.seat.now c.load-found.new.seat c.loop-attempt.seat _ _ _ _ _ c.load-found.ensures.table c.load-found.ensures.step c.loop-attempt.invariant c.args.mode c.args.tries (omega arith) (c.is_free-2.ensures.0 c.if-is_free.true)

pub returns-else-is_free-clause-why : goal.returns-else-is_free-clause-why
returns-else-is_free-clause-why c =
    all_taken c.args.seat.now c.load-found.new.seat c.loop-attempt.seat _ _ _ _ _ c.load-found.ensures.table c.load-found.ensures.step c.loop-attempt.invariant c.args.mode c.args.tries (λ free. both_ways _ c.if-is_free.false (c.is_free-2.ensures.1 free)) c.requires.unheld

pub returns-then-not-is_free-clause-steps : goal.returns-then-not-is_free-clause-steps
returns-then-not-is_free-clause-steps c = all_steps c.args.seat.now c.load-found.new.seat c.loop-attempt.seat _ _ _ _ _ c.load-found.ensures.table c.load-found.ensures.step c.loop-attempt.invariant c.args.tries (omega arith)

pub returns-then-next-found-clause-steps : goal.returns-then-next-found-clause-steps
returns-then-next-found-clause-steps c = then_steps c.args.seat.now c.load-found.new.seat c.loop-attempt.seat _ _ _ _ _ c.load-found.ensures.table c.load-found.ensures.step c.loop-attempt.invariant c.take_if-next.new.seat _ _ _ _ c.take_if-next.ensures.step (omega arith)

pub returns-then-is_free-clause-steps : goal.returns-then-is_free-clause-steps
returns-then-is_free-clause-steps c = all_steps c.args.seat.now c.load-found.new.seat c.loop-attempt.seat _ _ _ _ _ c.load-found.ensures.table c.load-found.ensures.step c.loop-attempt.invariant c.args.tries (omega arith)

pub returns-else-is_free-clause-steps : goal.returns-else-is_free-clause-steps
returns-else-is_free-clause-steps c = all_steps c.args.seat.now c.load-found.new.seat c.loop-attempt.seat _ _ _ _ _ c.load-found.ensures.table c.load-found.ensures.step c.loop-attempt.invariant c.args.tries (omega arith)
