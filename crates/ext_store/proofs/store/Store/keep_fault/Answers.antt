use Rattle.std.proofs.Common.{◌∙◌, ap, subst}
use Rattle.std.specs.Prelude.{ℕ}
use Rattle.ext_model.specs.declared.event.Act.TheVariants.{Keep}
use Rattle.ext_cells.specs.Lanes.{CellsId, Lane}
use Rattle.ext_cells.specs.CellCalls.{ComesLast}
use Rattle.ext_store.specs.declared.fault.KeepFault.TheVariants as fault
use Rattle.ext_store.proofs.Contended.{keep_last, unkept_last}
use Rattle.ext_store.specs.Stores.{StoreView, StoreLane}
use Rattle.ext_store.specs.InnerKeeping.{SlotsDrawn}
use Rattle.ext_store.proofs.Placing.{drawn_fits}
use Rattle.ext_store.proofs.Faulting.{fault_by_drawn, no_fault_memory}
use Rattle.ext_store.proofs.store.Store.keep_fault.Goals as goal

pub slot_drawn_fault-requires-clause-drawn : goal.slot_drawn_fault-requires-clause-drawn
slot_drawn_fault-requires-clause-drawn g c =
    drawn_fits c.args.self.now c.self.inside.shared.tries (ap (λ (s : StoreView). s.tries) c.self.view_is) c.lane.inside.cells c.keep-drawn.new.lane c.keep-drawn.result c.keep-drawn.ensures.reply _
    (ap (λ (l : StoreLane g.row.V.Denot). l.cells.cells.limits.numbers) c.lane.view_is ∙ (ap (λ (i : CellsId). i.limits.numbers) c.requires.lane.cells ∙ c.tell_proof.ensures.faults c.requires.faults))

pub returns-clause-answer : goal.returns-clause-answer
returns-clause-answer g c =
    (fault_by_drawn c.args.self.now c.self.inside.shared.tries (ap (λ (s : StoreView). s.tries) c.self.view_is) c.args.fault (record { cells = c.lane.inside.cells; known = c.lane.inside.notes; faults = c.lane.inside.faults; keys = c.lane.inside.keys }) c.args.lane.now c.lane.view_is c.requires.lane
    c.keep-drawn.new.lane c.keep-drawn.ensures.lane c.tell_proof-2.ensures.legal c.slot_drawn_fault.new.notes c.keep-drawn.result c.keep-drawn.ensures.reply c.keep-drawn.ensures.storable c.slot_drawn_fault.result
    (subst (λ v. SlotsDrawn v c.keep-drawn.result c.lane.inside.faults c.slot_drawn_fault.new.notes c.slot_drawn_fault.result) c.in-Ok.ensures.ok c.slot_drawn_fault.ensures)).answer

pub returns-clause-known : goal.returns-clause-known
returns-clause-known g c =
    (fault_by_drawn c.args.self.now c.self.inside.shared.tries (ap (λ (s : StoreView). s.tries) c.self.view_is) c.args.fault (record { cells = c.lane.inside.cells; known = c.lane.inside.notes; faults = c.lane.inside.faults; keys = c.lane.inside.keys }) c.args.lane.now c.lane.view_is c.requires.lane
    c.keep-drawn.new.lane c.keep-drawn.ensures.lane c.tell_proof-2.ensures.legal c.slot_drawn_fault.new.notes c.keep-drawn.result c.keep-drawn.ensures.reply c.keep-drawn.ensures.storable c.slot_drawn_fault.result
    (subst (λ v. SlotsDrawn v c.keep-drawn.result c.lane.inside.faults c.slot_drawn_fault.new.notes c.slot_drawn_fault.result) c.in-Ok.ensures.ok c.slot_drawn_fault.ensures)).known

pub returns-clause-apart : goal.returns-clause-apart
returns-clause-apart g c =
    (fault_by_drawn c.args.self.now c.self.inside.shared.tries (ap (λ (s : StoreView). s.tries) c.self.view_is) c.args.fault (record { cells = c.lane.inside.cells; known = c.lane.inside.notes; faults = c.lane.inside.faults; keys = c.lane.inside.keys }) c.args.lane.now c.lane.view_is c.requires.lane
    c.keep-drawn.new.lane c.keep-drawn.ensures.lane c.tell_proof-2.ensures.legal c.slot_drawn_fault.new.notes c.keep-drawn.result c.keep-drawn.ensures.reply c.keep-drawn.ensures.storable c.slot_drawn_fault.result
    (subst (λ v. SlotsDrawn v c.keep-drawn.result c.lane.inside.faults c.slot_drawn_fault.new.notes c.slot_drawn_fault.result) c.in-Ok.ensures.ok c.slot_drawn_fault.ensures)).apart

pub returns-clause-frame : goal.returns-clause-frame
returns-clause-frame g c =
    (fault_by_drawn c.args.self.now c.self.inside.shared.tries (ap (λ (s : StoreView). s.tries) c.self.view_is) c.args.fault (record { cells = c.lane.inside.cells; known = c.lane.inside.notes; faults = c.lane.inside.faults; keys = c.lane.inside.keys }) c.args.lane.now c.lane.view_is c.requires.lane
    c.keep-drawn.new.lane c.keep-drawn.ensures.lane c.tell_proof-2.ensures.legal c.slot_drawn_fault.new.notes c.keep-drawn.result c.keep-drawn.ensures.reply c.keep-drawn.ensures.storable c.slot_drawn_fault.result
    (subst (λ v. SlotsDrawn v c.keep-drawn.result c.lane.inside.faults c.slot_drawn_fault.new.notes c.slot_drawn_fault.result) c.in-Ok.ensures.ok c.slot_drawn_fault.ensures)).frame

-- ---- where there is no memory

pub returns-in-Err-clause-answer : goal.returns-in-Err-clause-answer
returns-in-Err-clause-answer g c = (no_fault_memory c.args.self.now c.args.fault c.in-Err.failed.value c.args.lane.now c.requires.lane c.in-Err.ensures.value_returned).answer

pub returns-in-Err-clause-known : goal.returns-in-Err-clause-known
returns-in-Err-clause-known g c = (no_fault_memory c.args.self.now c.args.fault c.in-Err.failed.value c.args.lane.now c.requires.lane c.in-Err.ensures.value_returned).known

pub returns-in-Err-clause-apart : goal.returns-in-Err-clause-apart
returns-in-Err-clause-apart g c = (no_fault_memory c.args.self.now c.args.fault c.in-Err.failed.value c.args.lane.now c.requires.lane c.in-Err.ensures.value_returned).apart

pub returns-in-Err-clause-frame : goal.returns-in-Err-clause-frame
returns-in-Err-clause-frame g c = (no_fault_memory c.args.self.now c.args.fault c.in-Err.failed.value c.args.lane.now c.requires.lane c.in-Err.ensures.value_returned).frame

-- ---- what comes last

pub returns-clause-contended : goal.returns-clause-contended
returns-clause-contended g c =
    subst (λ (z : ℕ × Lane). ComesLast (c.args.fault, fault.Contended) z.0 z.1 c.keep-drawn.new.lane (Keep 0) c.slot_drawn_fault.result) (λ i. (ap (λ (s : StoreView). s.tries) c.self.view_is i, (c.lane.view_is i).cells))
    (keep_last c.self.inside.shared.tries c.lane.inside.cells c.keep-drawn.new.lane (Keep 0) _ c.args.fault c.lane.inside.faults c.slot_drawn_fault.new.notes c.keep-drawn.result c.slot_drawn_fault.result
    (drawn_fits c.args.self.now c.self.inside.shared.tries (ap (λ (s : StoreView). s.tries) c.self.view_is) c.lane.inside.cells c.keep-drawn.new.lane c.keep-drawn.result c.keep-drawn.ensures.reply _
    (ap (λ (l : StoreLane g.row.V.Denot). l.cells.cells.limits.numbers) c.lane.view_is ∙ (ap (λ (i : CellsId). i.limits.numbers) c.requires.lane.cells ∙ c.tell_proof.ensures.faults c.requires.faults)))
    (subst (λ v. SlotsDrawn v c.keep-drawn.result c.lane.inside.faults c.slot_drawn_fault.new.notes c.slot_drawn_fault.result) c.in-Ok.ensures.ok c.slot_drawn_fault.ensures)
    c.keep-drawn.ensures.contended)

pub returns-in-Err-clause-contended : goal.returns-in-Err-clause-contended
returns-in-Err-clause-contended g c = unkept_last c.args.self.now.tries c.args.lane.now.cells c.args.lane.now.cells (Keep 0) c.args.fault c.in-Err.failed.value
