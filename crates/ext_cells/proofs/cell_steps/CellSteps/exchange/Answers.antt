use Rattle.std.proofs.Common.{refl, ap, sym, subst}
use Rattle.ext_cells.specs.InnerSteps.{IsMarked}
use Rattle.ext_cells.proofs.MarkSteps.{Ready, ready_marked, ready_used, may_still, missed_so, made_so}
use Rattle.ext_cells.proofs.cell_steps.CellSteps.exchange.Goals.{else-old-eq0-via-then-old-eq0+else-not-mark, else-old-eq0-via-else-old-eq0}
use Rattle.ext_cells.proofs.cell_steps.CellSteps.exchange.Goals as goal

ready : (g : _) (c : goal.After-change-arg-1 g) → Ready c.args.seat.now.me.0 c.else-old-eq0.seat.me.0 c.args.self.now.table.shared.key.cells c.args.index
ready g c = elim c.else-old-eq0.branch [
  | else-old-eq0-via-then-old-eq0+else-not-mark w ↦ ready_marked c.args.seat.now.me.0 c.else-old-eq0.seat.me.0 _ c.args.index (subst (λ z. IsMarked c.args.seat.now.me.0 z c.args.index) (sym (ap (λ z. z.me.0) w.seat-is)) (w.mark.ensures.marked w.if-not-mark.false))
  | else-old-eq0-via-else-old-eq0 w ↦ ready_used c.args.seat.now.me.0 c.else-old-eq0.seat.me.0 _ c.args.cells c.args.index c.args.old (ap (λ z. z.me.0) w.seat-is) c.requires.cells.known c.requires.cell c.requires.seen w.if-old-eq0.false (c.requires.standing c.requires.cell)
]

pub change-requires-clause-known : goal.change-requires-clause-known
change-requires-clause-known g c = (ready g c).known

pub change-requires-clause-may : goal.change-requires-clause-may
change-requires-clause-may g c = (c.requires.may.0, may_still c.args.seat.now.me.0 c.else-old-eq0.seat.me.0 c.args.self.now.table.shared.key.cells c.args.index (ready g c) c.requires.may.0 c.args.act c.args.old c.args.new c.requires.may.1)

pub returns-clause-made : goal.returns-clause-made
returns-clause-made g c hit =
    made_so c.args.seat.now.me.0 c.else-old-eq0.seat.me.0 c.args.self.now.table.shared.key.cells c.args.index (ready g c.before) c.args.self.now.table.shared.table_id.slots c.args.old c.args.new c.change.result c.args.act
    c.else-old-eq0.seat.me c.change.new.seat.me refl hit c.change.ensures.step

pub returns-clause-missed : goal.returns-clause-missed
returns-clause-missed g c ne =
    missed_so c.args.seat.now.me.0 c.else-old-eq0.seat.me.0 c.args.self.now.table.shared.key.cells c.args.index (ready g c.before) c.args.self.now.table.shared.table_id.slots c.args.old c.args.new c.change.result c.args.act
    c.else-old-eq0.seat.me c.change.new.seat.me refl ne c.change.ensures.step
