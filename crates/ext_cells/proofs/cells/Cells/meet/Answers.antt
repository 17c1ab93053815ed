use Rattle.std.proofs.Common.{ap, sym, subst, refl, ◌∙◌}
use mathlib.Core.List.{IsPrefix}
use Rattle.ext_history.specs.Histories.{seen}
use Rattle.ext_cells.specs.declared.view.View.{View}
use Rattle.ext_cells.specs.InnerViews.{note, noted}
use Rattle.ext_cells.proofs.Meeting.{met_stays, met_call, met_step, met_cells, met_told}
use Rattle.ext_cells.proofs.cells.Cells.meet.Goals as goal

pub tell-requires-clause-from : goal.tell-requires-clause-from
tell-requires-clause-from c = ap (λ z. z.cells.table) c.first.view_is ∙ (ap (λ z. z.table) c.requires.first ∙ ap (λ z. z.id.table) (sym c.self.view_is))

pub tell-requires-clause-to : goal.tell-requires-clause-to
tell-requires-clause-to c = ap (λ z. z.cells.table) c.second.view_is ∙ (ap (λ z. z.table) c.requires.second ∙ ap (λ z. z.id.table) (sym c.self.view_is))

pub tell-requires-clause-lane : goal.tell-requires-clause-lane
tell-requires-clause-lane c = (c.second.inside.number, c.second.invariant.0)

pub invariant_of-second : goal.invariant_of-second
invariant_of-second c =
    let f = c.tell.ensures.told in
    let told = noted c.second.inside.seat.me.0 (note c.first.inside.seat.me.0) in
    met_stays c.second.inside.seat.me.0 (note c.first.inside.seat.me.0) told c.tell.new.to.me.0 c.self.inside.limits.cells f.0 f.1 c.second.inside.number c.second.invariant refl f.2 f.3

pub returns-clause-second_lane : goal.returns-clause-second_lane
returns-clause-second_lane c =
    let f = c.tell.ensures.told in
    let told = noted c.second.inside.seat.me.0 (note c.first.inside.seat.me.0) in
    met_cells c.second.inside.seat.me.0 (note c.first.inside.seat.me.0) told c.tell.new.to.me.0 c.self.inside.limits.cells f.0 f.1 c.second.inside.number c.second.invariant refl f.2 f.3
    c.second.inside.seat.table_id c.tell.new.to.table_id _ c.second.view_is c.tell.ensures.table

pub returns-clause-second_call : goal.returns-clause-second_call
returns-clause-second_call c =
    let f = c.tell.ensures.told in
    let told = noted c.second.inside.seat.me.0 (note c.first.inside.seat.me.0) in
    met_call c.second.inside.seat.me.0 (note c.first.inside.seat.me.0) told c.tell.new.to.me.0 c.self.inside.limits.cells f.0 f.1 c.second.inside.number c.second.invariant refl f.2 f.3
    c.second.inside.seat.table_id c.tell.new.to.table_id _ c.second.view_is

pub returns-clause-second_steps : goal.returns-clause-second_steps
returns-clause-second_steps c =
    let f = c.tell.ensures.told in
    let told = noted c.second.inside.seat.me.0 (note c.first.inside.seat.me.0) in
    met_step c.second.inside.seat.me.0 (note c.first.inside.seat.me.0) told c.tell.new.to.me.0 c.self.inside.limits.cells f.0 f.1 c.second.inside.number c.second.invariant refl f.2 f.3
    c.second.inside.seat.table_id c.tell.new.to.table_id _ c.second.view_is

pub returns-clause-met : goal.returns-clause-met
returns-clause-met c =
    let f = c.tell.ensures.told in
    let told = noted c.second.inside.seat.me.0 (note c.first.inside.seat.me.0) in
    let seen_by_first = met_told c.second.inside.seat.me.0 (note c.first.inside.seat.me.0) told c.tell.new.to.me.0 c.self.inside.limits.cells f.0 f.1 c.second.inside.number c.second.invariant refl f.2 f.3 c.first.inside.seat.me.0 refl in
    subst (λ (x : View). IsPrefix (seen x.fronts) (seen c.tell.new.to.me.0.fronts)) (sym (ap (λ z. z.0) c.tell.ensures.from.1)) seen_by_first
