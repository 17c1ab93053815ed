use Rattle.std.proofs.Common.{◌∙◌, ap, subst}
use Rattle.ext_cells.specs.Lanes.{CellsId}
use Rattle.ext_store.specs.Stores.{StoreView, StoreLane}
use Rattle.ext_store.specs.InnerKeeping.{SlotsDrawn}
use Rattle.ext_store.proofs.Placing.{drawn_fits}
use Rattle.ext_store.proofs.Faulting.{fault_by_drawn, no_fault_memory}
use Rattle.ext_store.proofs.store.Store.keep_fault_decided.Goals as goal

pub slot_drawn_fault-requires-clause-drawn : goal.slot_drawn_fault-requires-clause-drawn
slot_drawn_fault-requires-clause-drawn g c =
    drawn_fits c.args.self.now c.self.inside.shared.tries (ap (λ (s : StoreView). s.tries) c.self.view_is) c.lane.inside.cells c.keep_wait-drawn.new.lane c.keep_wait-drawn.result c.keep_wait-drawn.ensures.reply _
    (ap (λ (l : StoreLane g.row.V.Denot). l.cells.cells.limits.numbers) c.lane.view_is ∙ (ap (λ (i : CellsId). i.limits.numbers) c.requires.lane.cells ∙ c.tell_proof.ensures.faults c.requires.faults))

pub returns-clause-answer : goal.returns-clause-answer
returns-clause-answer g c =
    (fault_by_drawn c.args.self.now c.self.inside.shared.tries (ap (λ (s : StoreView). s.tries) c.self.view_is) c.args.fault (record { cells = c.lane.inside.cells; known = c.lane.inside.notes; faults = c.lane.inside.faults; keys = c.lane.inside.keys }) c.args.lane.now c.lane.view_is c.requires.lane
    c.keep_wait-drawn.new.lane c.keep_wait-drawn.ensures.lane c.tell_proof-2.ensures.legal c.slot_drawn_fault.new.notes c.keep_wait-drawn.result c.keep_wait-drawn.ensures.reply c.keep_wait-drawn.ensures.storable c.slot_drawn_fault.result
    (subst (λ v. SlotsDrawn v c.keep_wait-drawn.result c.lane.inside.faults c.slot_drawn_fault.new.notes c.slot_drawn_fault.result) c.in-Ok.ensures.ok c.slot_drawn_fault.ensures)).answer

pub returns-clause-known : goal.returns-clause-known
returns-clause-known g c =
    (fault_by_drawn c.args.self.now c.self.inside.shared.tries (ap (λ (s : StoreView). s.tries) c.self.view_is) c.args.fault (record { cells = c.lane.inside.cells; known = c.lane.inside.notes; faults = c.lane.inside.faults; keys = c.lane.inside.keys }) c.args.lane.now c.lane.view_is c.requires.lane
    c.keep_wait-drawn.new.lane c.keep_wait-drawn.ensures.lane c.tell_proof-2.ensures.legal c.slot_drawn_fault.new.notes c.keep_wait-drawn.result c.keep_wait-drawn.ensures.reply c.keep_wait-drawn.ensures.storable c.slot_drawn_fault.result
    (subst (λ v. SlotsDrawn v c.keep_wait-drawn.result c.lane.inside.faults c.slot_drawn_fault.new.notes c.slot_drawn_fault.result) c.in-Ok.ensures.ok c.slot_drawn_fault.ensures)).known

pub returns-clause-apart : goal.returns-clause-apart
returns-clause-apart g c =
    (fault_by_drawn c.args.self.now c.self.inside.shared.tries (ap (λ (s : StoreView). s.tries) c.self.view_is) c.args.fault (record { cells = c.lane.inside.cells; known = c.lane.inside.notes; faults = c.lane.inside.faults; keys = c.lane.inside.keys }) c.args.lane.now c.lane.view_is c.requires.lane
    c.keep_wait-drawn.new.lane c.keep_wait-drawn.ensures.lane c.tell_proof-2.ensures.legal c.slot_drawn_fault.new.notes c.keep_wait-drawn.result c.keep_wait-drawn.ensures.reply c.keep_wait-drawn.ensures.storable c.slot_drawn_fault.result
    (subst (λ v. SlotsDrawn v c.keep_wait-drawn.result c.lane.inside.faults c.slot_drawn_fault.new.notes c.slot_drawn_fault.result) c.in-Ok.ensures.ok c.slot_drawn_fault.ensures)).apart

pub returns-clause-frame : goal.returns-clause-frame
returns-clause-frame g c =
    (fault_by_drawn c.args.self.now c.self.inside.shared.tries (ap (λ (s : StoreView). s.tries) c.self.view_is) c.args.fault (record { cells = c.lane.inside.cells; known = c.lane.inside.notes; faults = c.lane.inside.faults; keys = c.lane.inside.keys }) c.args.lane.now c.lane.view_is c.requires.lane
    c.keep_wait-drawn.new.lane c.keep_wait-drawn.ensures.lane c.tell_proof-2.ensures.legal c.slot_drawn_fault.new.notes c.keep_wait-drawn.result c.keep_wait-drawn.ensures.reply c.keep_wait-drawn.ensures.storable c.slot_drawn_fault.result
    (subst (λ v. SlotsDrawn v c.keep_wait-drawn.result c.lane.inside.faults c.slot_drawn_fault.new.notes c.slot_drawn_fault.result) c.in-Ok.ensures.ok c.slot_drawn_fault.ensures)).frame

-- ---- where there is no memory

pub returns-in-Err-clause-answer : goal.returns-in-Err-clause-answer
returns-in-Err-clause-answer g c = (no_fault_memory c.args.self.now c.args.fault c.in-Err.failed.value c.args.lane.now c.requires.lane c.in-Err.ensures.value_returned).answer

pub returns-in-Err-clause-known : goal.returns-in-Err-clause-known
returns-in-Err-clause-known g c = (no_fault_memory c.args.self.now c.args.fault c.in-Err.failed.value c.args.lane.now c.requires.lane c.in-Err.ensures.value_returned).known

pub returns-in-Err-clause-apart : goal.returns-in-Err-clause-apart
returns-in-Err-clause-apart g c = (no_fault_memory c.args.self.now c.args.fault c.in-Err.failed.value c.args.lane.now c.requires.lane c.in-Err.ensures.value_returned).apart

pub returns-in-Err-clause-frame : goal.returns-in-Err-clause-frame
returns-in-Err-clause-frame g c = (no_fault_memory c.args.self.now c.args.fault c.in-Err.failed.value c.args.lane.now c.requires.lane c.in-Err.ensures.value_returned).frame
