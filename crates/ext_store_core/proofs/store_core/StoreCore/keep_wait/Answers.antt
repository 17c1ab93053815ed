use Rattle.std.proofs.Common.{◌≡◌, rules, ap, subst}
use Rattle.std.specs.Prelude.{Ok, Err}
use Rattle.ext_cells.specs.declared.refusal.CellRefusal.TheVariants as cell
use Rattle.ext_cells.specs.CellCalls as cells
use Rattle.ext_store_core.proofs.DrawnAgain.{after_one_more}
use Rattle.ext_store_core.proofs.Waited.{draws_later}
use Rattle.ext_store_core.proofs.store_core.StoreCore.keep_wait.Goals as goal

pub returns-in-Ok-clause-reply : goal.returns-in-Ok-clause-reply
returns-in-Ok-clause-reply c = draws_later c.args.self.now.tries c.args.lane.now c.loop.lane c.keep.new.lane (Ok c.in-Ok.number) c.loop.invariant.waited (λ e. cc e) c.in-Ok.ensures.reply

pub returns-then-ne-clause-reply : goal.returns-then-ne-clause-reply
returns-then-ne-clause-reply c = draws_later c.args.self.now.tries c.args.lane.now c.loop.lane c.keep.new.lane (Err c.in-Err.why) c.loop.invariant.waited (search rules) c.in-Err.ensures.reply

pub loop-preserved : goal.loop-preserved
loop-preserved c =
    let why : c.in-Err.why ≡ cell.Contended = search rules in
    after_one_more c.args.self.now.tries c.loop.counter c.args.lane.now c.loop.lane c.keep.new.lane c.tell_proof.ensures.tries c.loop.invariant c.keep.ensures.lane
    (subst (λ w. cells.Answers c.args.self.now.tries c.loop.lane c.keep.new.lane cells.number_acts (cells.number_reply c.loop.lane) (Err w)) why c.in-Err.ensures.reply)
    (c.in-Err.ensures.contended (ap Err why)) c.keep.ensures.steps
