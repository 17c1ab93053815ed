use Rattle.std.proofs.Common.{◌∙◌, ap, subst}
use Rattle.ext_cells.specs.Lanes.{CellsId, Lane}
use Rattle.ext_store.specs.Stores.{StoreView, StoreLane}
use Rattle.ext_store.specs.InnerKeeping.{SlotsDrawn}
use Rattle.ext_store.proofs.Placing.{kept_by_drawn, drawn_fits, no_memory}
use Rattle.ext_model.specs.declared.event.Act.TheVariants.{Keep}
use Rattle.ext_cells.specs.CellCalls.{ComesLast}
use Rattle.ext_store.specs.declared.fault.KeepFault.TheVariants as fault
use Rattle.ext_store.proofs.Contended.{keep_last, unkept_last}
use Rattle.std.specs.Prelude.{ℕ}
use Rattle.ext_store.proofs.store.Store.keep.Goals as goal

pub slot_drawn-requires-clause-drawn : goal.slot_drawn-requires-clause-drawn
slot_drawn-requires-clause-drawn g c =
    drawn_fits c.args.self.now c.self.inside.shared.tries (ap (λ (s : StoreView). s.tries) c.self.view_is) c.lane.inside.cells c.keep-drawn.new.lane c.keep-drawn.result c.keep-drawn.ensures.reply _
    (ap (λ (l : StoreLane g.row.V.Denot). l.cells.cells.limits.numbers) c.lane.view_is ∙ (ap (λ (i : CellsId). i.limits.numbers) c.requires.lane.cells ∙ c.tell_proof.ensures.numbers))

pub returns-clause-answer : goal.returns-clause-answer
returns-clause-answer g c =
    (kept_by_drawn c.args.self.now c.self.inside.shared.tries (ap (λ (s : StoreView). s.tries) c.self.view_is) c.args.value (record { cells = c.lane.inside.cells; known = c.lane.inside.notes; faults = c.lane.inside.faults; keys = c.lane.inside.keys }) c.args.lane.now c.lane.view_is c.requires.lane
    c.keep-drawn.new.lane c.keep-drawn.ensures.lane c.tell_proof-2.ensures.legal c.slot_drawn.new.notes c.keep-drawn.result c.keep-drawn.ensures.reply c.keep-drawn.ensures.storable c.slot_drawn.result
    (subst (λ v. SlotsDrawn v c.keep-drawn.result c.lane.inside.notes c.slot_drawn.new.notes c.slot_drawn.result) c.in-Ok.ensures.ok c.slot_drawn.ensures)).answer

pub returns-clause-lane : goal.returns-clause-lane
returns-clause-lane g c =
    (kept_by_drawn c.args.self.now c.self.inside.shared.tries (ap (λ (s : StoreView). s.tries) c.self.view_is) c.args.value (record { cells = c.lane.inside.cells; known = c.lane.inside.notes; faults = c.lane.inside.faults; keys = c.lane.inside.keys }) c.args.lane.now c.lane.view_is c.requires.lane
    c.keep-drawn.new.lane c.keep-drawn.ensures.lane c.tell_proof-2.ensures.legal c.slot_drawn.new.notes c.keep-drawn.result c.keep-drawn.ensures.reply c.keep-drawn.ensures.storable c.slot_drawn.result
    (subst (λ v. SlotsDrawn v c.keep-drawn.result c.lane.inside.notes c.slot_drawn.new.notes c.slot_drawn.result) c.in-Ok.ensures.ok c.slot_drawn.ensures)).lane

pub returns-clause-known : goal.returns-clause-known
returns-clause-known g c =
    (kept_by_drawn c.args.self.now c.self.inside.shared.tries (ap (λ (s : StoreView). s.tries) c.self.view_is) c.args.value (record { cells = c.lane.inside.cells; known = c.lane.inside.notes; faults = c.lane.inside.faults; keys = c.lane.inside.keys }) c.args.lane.now c.lane.view_is c.requires.lane
    c.keep-drawn.new.lane c.keep-drawn.ensures.lane c.tell_proof-2.ensures.legal c.slot_drawn.new.notes c.keep-drawn.result c.keep-drawn.ensures.reply c.keep-drawn.ensures.storable c.slot_drawn.result
    (subst (λ v. SlotsDrawn v c.keep-drawn.result c.lane.inside.notes c.slot_drawn.new.notes c.slot_drawn.result) c.in-Ok.ensures.ok c.slot_drawn.ensures)).known

pub returns-clause-faults : goal.returns-clause-faults
returns-clause-faults g c =
    (kept_by_drawn c.args.self.now c.self.inside.shared.tries (ap (λ (s : StoreView). s.tries) c.self.view_is) c.args.value (record { cells = c.lane.inside.cells; known = c.lane.inside.notes; faults = c.lane.inside.faults; keys = c.lane.inside.keys }) c.args.lane.now c.lane.view_is c.requires.lane
    c.keep-drawn.new.lane c.keep-drawn.ensures.lane c.tell_proof-2.ensures.legal c.slot_drawn.new.notes c.keep-drawn.result c.keep-drawn.ensures.reply c.keep-drawn.ensures.storable c.slot_drawn.result
    (subst (λ v. SlotsDrawn v c.keep-drawn.result c.lane.inside.notes c.slot_drawn.new.notes c.slot_drawn.result) c.in-Ok.ensures.ok c.slot_drawn.ensures)).faults

pub returns-clause-kept : goal.returns-clause-kept
returns-clause-kept g c =
    (kept_by_drawn c.args.self.now c.self.inside.shared.tries (ap (λ (s : StoreView). s.tries) c.self.view_is) c.args.value (record { cells = c.lane.inside.cells; known = c.lane.inside.notes; faults = c.lane.inside.faults; keys = c.lane.inside.keys }) c.args.lane.now c.lane.view_is c.requires.lane
    c.keep-drawn.new.lane c.keep-drawn.ensures.lane c.tell_proof-2.ensures.legal c.slot_drawn.new.notes c.keep-drawn.result c.keep-drawn.ensures.reply c.keep-drawn.ensures.storable c.slot_drawn.result
    (subst (λ v. SlotsDrawn v c.keep-drawn.result c.lane.inside.notes c.slot_drawn.new.notes c.slot_drawn.result) c.in-Ok.ensures.ok c.slot_drawn.ensures)).kept

pub returns-clause-apart : goal.returns-clause-apart
returns-clause-apart g c =
    (kept_by_drawn c.args.self.now c.self.inside.shared.tries (ap (λ (s : StoreView). s.tries) c.self.view_is) c.args.value (record { cells = c.lane.inside.cells; known = c.lane.inside.notes; faults = c.lane.inside.faults; keys = c.lane.inside.keys }) c.args.lane.now c.lane.view_is c.requires.lane
    c.keep-drawn.new.lane c.keep-drawn.ensures.lane c.tell_proof-2.ensures.legal c.slot_drawn.new.notes c.keep-drawn.result c.keep-drawn.ensures.reply c.keep-drawn.ensures.storable c.slot_drawn.result
    (subst (λ v. SlotsDrawn v c.keep-drawn.result c.lane.inside.notes c.slot_drawn.new.notes c.slot_drawn.result) c.in-Ok.ensures.ok c.slot_drawn.ensures)).apart

pub returns-clause-frame : goal.returns-clause-frame
returns-clause-frame g c =
    (kept_by_drawn c.args.self.now c.self.inside.shared.tries (ap (λ (s : StoreView). s.tries) c.self.view_is) c.args.value (record { cells = c.lane.inside.cells; known = c.lane.inside.notes; faults = c.lane.inside.faults; keys = c.lane.inside.keys }) c.args.lane.now c.lane.view_is c.requires.lane
    c.keep-drawn.new.lane c.keep-drawn.ensures.lane c.tell_proof-2.ensures.legal c.slot_drawn.new.notes c.keep-drawn.result c.keep-drawn.ensures.reply c.keep-drawn.ensures.storable c.slot_drawn.result
    (subst (λ v. SlotsDrawn v c.keep-drawn.result c.lane.inside.notes c.slot_drawn.new.notes c.slot_drawn.result) c.in-Ok.ensures.ok c.slot_drawn.ensures)).frame

-- ---- where there is no memory

pub returns-in-Err-clause-answer : goal.returns-in-Err-clause-answer
returns-in-Err-clause-answer g c = (no_memory c.args.self.now c.args.value c.in-Err.failed.value c.args.lane.now c.requires.lane c.in-Err.ensures.value_returned).answer

pub returns-in-Err-clause-lane : goal.returns-in-Err-clause-lane
returns-in-Err-clause-lane g c = (no_memory c.args.self.now c.args.value c.in-Err.failed.value c.args.lane.now c.requires.lane c.in-Err.ensures.value_returned).lane

pub returns-in-Err-clause-known : goal.returns-in-Err-clause-known
returns-in-Err-clause-known g c = (no_memory c.args.self.now c.args.value c.in-Err.failed.value c.args.lane.now c.requires.lane c.in-Err.ensures.value_returned).known

pub returns-in-Err-clause-faults : goal.returns-in-Err-clause-faults
returns-in-Err-clause-faults g c = (no_memory c.args.self.now c.args.value c.in-Err.failed.value c.args.lane.now c.requires.lane c.in-Err.ensures.value_returned).faults

pub returns-in-Err-clause-kept : goal.returns-in-Err-clause-kept
returns-in-Err-clause-kept g c = (no_memory c.args.self.now c.args.value c.in-Err.failed.value c.args.lane.now c.requires.lane c.in-Err.ensures.value_returned).kept

pub returns-in-Err-clause-apart : goal.returns-in-Err-clause-apart
returns-in-Err-clause-apart g c = (no_memory c.args.self.now c.args.value c.in-Err.failed.value c.args.lane.now c.requires.lane c.in-Err.ensures.value_returned).apart

pub returns-in-Err-clause-frame : goal.returns-in-Err-clause-frame
returns-in-Err-clause-frame g c = (no_memory c.args.self.now c.args.value c.in-Err.failed.value c.args.lane.now c.requires.lane c.in-Err.ensures.value_returned).frame

-- ---- what comes last

pub returns-clause-contended : goal.returns-clause-contended
returns-clause-contended g c =
    subst (λ (z : ℕ × Lane). ComesLast (c.args.value, fault.Contended) z.0 z.1 c.keep-drawn.new.lane (Keep 0) c.slot_drawn.result) (λ i. (ap (λ (s : StoreView). s.tries) c.self.view_is i, (c.lane.view_is i).cells))
    (keep_last c.self.inside.shared.tries c.lane.inside.cells c.keep-drawn.new.lane (Keep 0) _ c.args.value c.lane.inside.notes c.slot_drawn.new.notes c.keep-drawn.result c.slot_drawn.result
    (drawn_fits c.args.self.now c.self.inside.shared.tries (ap (λ (s : StoreView). s.tries) c.self.view_is) c.lane.inside.cells c.keep-drawn.new.lane c.keep-drawn.result c.keep-drawn.ensures.reply _
    (ap (λ (l : StoreLane g.row.V.Denot). l.cells.cells.limits.numbers) c.lane.view_is ∙ (ap (λ (i : CellsId). i.limits.numbers) c.requires.lane.cells ∙ c.tell_proof.ensures.numbers)))
    (subst (λ v. SlotsDrawn v c.keep-drawn.result c.lane.inside.notes c.slot_drawn.new.notes c.slot_drawn.result) c.in-Ok.ensures.ok c.slot_drawn.ensures)
    c.keep-drawn.ensures.contended)

pub returns-in-Err-clause-contended : goal.returns-in-Err-clause-contended
returns-in-Err-clause-contended g c = unkept_last c.args.self.now.tries c.args.lane.now.cells c.args.lane.now.cells (Keep 0) c.args.value c.in-Err.failed.value
