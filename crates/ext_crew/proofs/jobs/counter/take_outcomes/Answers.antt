use Rattle.std.proofs.Common.{rules, ◌≡◌, ◌+◌, ◌++◌, ◌∷◌, [], ℕ, suc, Bool, false, List, length, map, take, get_or, ap, sym, ◌∙◌, arith}
use Rattle.std.proofs.lemmas.List.{length-map}
use Rattle.std.specs.Slots.{slots_items, slots_filled}
use lib.ListN.{get_elem?}
use mathlib.Core.Option.{some}
use Rattle.ext_crew.specs.InnerCounter.{outcome_in, outcomes_in}
use Rattle.ext_crew.specs.declared.jobs.slot.Slot.{Slot}
use Rattle.ext_crew.proofs.Draws.{ends_with}
use Rattle.std.proofs.Common.{take_all}
use Rattle.ext_crew.proofs.Slots.{false_up_to, outcomes-one_more, outcome_at}
use Rattle.ext_crew.proofs.jobs.counter.take_outcomes.Goals as goal

pub loop-slot-preserved : goal.loop-slot-preserved
loop-slot-preserved g c =
    let I = c.loop-slot.invariant in
    let xs : List (Slot g.row.T.Denot g.row.O.Denot) = slots_items c.close_with-closed.result.slots in
    let slot = c.loop-slot.slot in
    let E : List (Slot g.row.T.Denot g.row.O.Denot) → _ = λ l. get_elem? l slot in
    let at : get_elem? xs slot ≡ some c.take.result = sym (ap E I.same_slots) ∙ c.take.ensures.value in
    let A : List g.row.O.Denot → List g.row.O.Denot = λ l. l ++ outcomes_in (c.take.result ∷ []) in
    let N : ℕ → List g.row.O.Denot = λ n. outcomes_in (take n xs) in
    let next : suc slot ≡ slot + 1 = omega arith in
    record {
      same_length = search rules;
      same_slots = search rules;
      still_there = search rules;
      taken = λ k l. ap (λ (marks : List Bool). get_or marks k false) c.take.ensures.others.1 ∙ false_up_to (slots_filled c.loop-slot.closed.slots) slot k (omega (arith, l)) I.taken;
      few = search rules;
      room = search rules;
      outcomes = c.add_outcome.ensures.added ∙ (ap A I.outcomes ∙ (sym (outcomes-one_more xs slot c.take.result at) ∙ ap N next));
    }

pub returns-clause-drawn : goal.returns-clause-drawn
returns-clause-drawn g c = (ends_with c.args.table.shared.key.value.items c.args.first.id c.args.first.me.0 _ _ c.requires.first.1 c.close_with-closed.ensures.values.2).0

pub returns-clause-by_job : goal.returns-clause-by_job
returns-clause-by_job g c =
    let last = ends_with c.args.table.shared.key.value.items c.args.first.id c.args.first.me.0 _ _ c.requires.first.1 c.close_with-closed.ensures.values.2 in
    let xs : List (Slot g.row.T.Denot g.row.O.Denot) = slots_items c.close_with-closed.result.slots in
    let given = c.args.first.me.0.given in
    let count : length xs ≡ length c.args.table.shared.key.value.items = last.1 in
    let all : length xs ≡ c.loop-slot.slot = search rules in (
      map outcome_in xs,
      length-map xs outcome_in ∙ count,
      (λ k d l. let e = get_or given k d in outcome_at xs e.job e.outcome (last.2 k d l)),
      c.loop-slot.invariant.outcomes ∙ ap outcomes_in (take_all c.loop-slot.slot xs (omega (arith, all))),
    )
