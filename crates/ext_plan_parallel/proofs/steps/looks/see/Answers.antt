use Rattle.std.proofs.Common.{List, refl, subst, sym}
use Rattle.ext_model.specs.declared.look.Look.TheVariants as look
use Rattle.ext_tree.specs.Keys.{KnownPlace, IsKeyNumber}
use Rattle.ext_plan_parallel.proofs.Ends.{sees_shown}
use Rattle.ext_plan_parallel.proofs.Framed.{then_framed}
use Rattle.ext_plan_parallel.proofs.Keyed.{of_answer}
use Rattle.ext_plan_parallel.proofs.Placed.{look_refused}
use Rattle.ext_store.proofs.Numbered.{placed_still}
use Rattle.ext_plan_parallel.proofs.steps.looks.see.Goals as goal

pub returns-in-Ok-Found-clause-sees : goal.returns-in-Ok-Found-clause-sees
returns-in-Ok-Found-clause-sees g c =
    let n = of_answer _ _ _ _ _ c.in-Ok-Found.ensures.answer in
    (n.0, subst (λ (notes : List KnownPlace). IsKeyNumber notes c.args.key.now n.0) (sym c.show.ensures.keys) n.1, sees_shown _ _ n.0 c.args.lane.now c.get_wait.new.lane c.show.new.lane _ (look.Found c.in-Ok-Found.field-0-0 c.in-Ok-Found.number) _ c.in-Ok-Found.field-0-is n.2 c.in-Ok-Found.ensures.stays.known c.in-Ok-Found.ensures.stays.faults c.show.ensures.steps (c.show.ensures.faults, c.show.ensures.shows))

pub returns-in-Ok-Fault-clause-sees : goal.returns-in-Ok-Fault-clause-sees
returns-in-Ok-Fault-clause-sees g c =
    let n = of_answer _ _ _ _ _ c.in-Ok-Fault.ensures.answer in
    (n.0, subst (λ (notes : List KnownPlace). IsKeyNumber notes c.args.key.now n.0) (sym c.show_fault.ensures.keys) n.1, sees_shown _ _ n.0 c.args.lane.now c.get_wait.new.lane c.show_fault.new.lane _ (look.Fault c.in-Ok-Fault.field-0-0 c.in-Ok-Fault.number) _ c.in-Ok-Fault.field-0-is n.2 c.in-Ok-Fault.ensures.stays.known c.in-Ok-Fault.ensures.stays.faults c.show_fault.ensures.steps (c.show_fault.ensures.known, c.show_fault.ensures.shows))

pub returns-in-Ok-Absent-clause-sees : goal.returns-in-Ok-Absent-clause-sees
returns-in-Ok-Absent-clause-sees g c =
    let n = of_answer _ _ _ _ _ c.in-Ok-Absent.ensures.answer in
    (n.0, n.1, sees_shown _ _ n.0 c.args.lane.now c.get_wait.new.lane c.get_wait.new.lane _ look.Absent _ c.in-Ok-Absent.field-0-is n.2 c.in-Ok-Absent.ensures.stays.known c.in-Ok-Absent.ensures.stays.faults refl ((refl, refl), refl))

pub returns-in-Ok-Closed-clause-sees : goal.returns-in-Ok-Closed-clause-sees
returns-in-Ok-Closed-clause-sees g c =
    let n = of_answer _ _ _ _ _ c.in-Ok-Closed.ensures.answer in
    (n.0, n.1, sees_shown _ _ n.0 c.args.lane.now c.get_wait.new.lane c.get_wait.new.lane _ (look.Closed c.in-Ok-Closed.field-0-0) _ c.in-Ok-Closed.field-0-is n.2 c.in-Ok-Closed.ensures.stays.known c.in-Ok-Closed.ensures.stays.faults refl ((refl, refl), refl))

pub returns-in-Err-clause-refused : goal.returns-in-Err-clause-refused
returns-in-Err-clause-refused g c = (look_refused c.args.store.now _ _ _ _ _ c.in-Err.ensures.answer c.in-Err.ensures.decided, (c.in-Err.ensures.stays.known, c.in-Err.ensures.stays.faults))

pub returns-in-Ok-Found-clause-frame : goal.returns-in-Ok-Found-clause-frame
returns-in-Ok-Found-clause-frame g c = then_framed c.args.store.now c.args.lane.now c.get_wait.new.lane c.show.new.lane c.in-Ok-Found.ensures.stays.frame c.show.ensures.frame

pub returns-in-Ok-Fault-clause-frame : goal.returns-in-Ok-Fault-clause-frame
returns-in-Ok-Fault-clause-frame g c = then_framed c.args.store.now c.args.lane.now c.get_wait.new.lane c.show_fault.new.lane c.in-Ok-Fault.ensures.stays.frame c.show_fault.ensures.frame

pub returns-in-Ok-Absent-clause-frame : goal.returns-in-Ok-Absent-clause-frame
returns-in-Ok-Absent-clause-frame g c = c.in-Ok-Absent.ensures.stays.frame

pub returns-in-Ok-Closed-clause-frame : goal.returns-in-Ok-Closed-clause-frame
returns-in-Ok-Closed-clause-frame g c = c.in-Ok-Closed.ensures.stays.frame

pub returns-in-Err-clause-frame : goal.returns-in-Err-clause-frame
returns-in-Err-clause-frame g c = c.in-Err.ensures.stays.frame

pub returns-in-Ok-Found-clause-placed : goal.returns-in-Ok-Found-clause-placed
returns-in-Ok-Found-clause-placed g c = placed_still c.args.key.now c.args.lane.now.keys c.get_wait.new.lane.keys c.show.new.lane.keys c.in-Ok-Found.ensures.placed c.show.ensures.keys

pub returns-in-Ok-Fault-clause-placed : goal.returns-in-Ok-Fault-clause-placed
returns-in-Ok-Fault-clause-placed g c = placed_still c.args.key.now c.args.lane.now.keys c.get_wait.new.lane.keys c.show_fault.new.lane.keys c.in-Ok-Fault.ensures.placed c.show_fault.ensures.keys

pub returns-in-Ok-Absent-clause-placed : goal.returns-in-Ok-Absent-clause-placed
returns-in-Ok-Absent-clause-placed g c = c.in-Ok-Absent.ensures.placed

pub returns-in-Ok-Closed-clause-placed : goal.returns-in-Ok-Closed-clause-placed
returns-in-Ok-Closed-clause-placed g c = c.in-Ok-Closed.ensures.placed

pub returns-in-Err-clause-placed : goal.returns-in-Err-clause-placed
returns-in-Err-clause-placed g c = c.in-Err.ensures.placed
