use Rattle.std.proofs.Common.{rules, ◌≡◌, ◌<◌, ◌-◌, ◌+◌, ℕ, [], List, ap, ◌∙◌, subst, sym, arith}
use Rattle.std.specs.Prelude.{All}
use Rattle.std.proofs.lemmas.List.Elements.{All-push}
use Rattle.atomic_table.specs.Table.{Me}
use Rattle.ext_crew.specs.InnerCounter.{Hand, drawn, hirer, hired}
use Rattle.ext_crew.specs.InnerHands.{IsReady}
use Rattle.ext_crew.specs.declared.jobs.rule.Drawn.{Drawn}
use Rattle.ext_crew.specs.declared.jobs.slot.Slot.{Slot}
use Rattle.ext_crew.proofs.Draws.{hires}
use Rattle.ext_crew.proofs.hand.make_hands.Goals as goal

pub split_seat-requires : goal.split_seat-requires
split_seat-requires g c =
    let I = c.loop.invariant in
    let parts : c.loop.first.me.0.parts ≡ 33 - c.loop.counter = ap (λ m. m.0.parts) I.me in
    let below : c.loop.counter < c.args.workers = search rules in
    let few = c.requires.workers in (
      I.table ∙ c.requires.first.0,
      (let words = c.requires.counter.0 in omega (arith, words)),
      hires c.args.counter.now.key.value.items c.loop.first.id c.loop.first.me.0 (omega (arith, parts, below, few)) (ap (λ m. m.0.draws) I.me),
    )

pub loop-preserved : goal.loop-preserved
loop-preserved g c =
    let I = c.loop.invariant in
    let push = c.push_reserved.ensures in
    let split = c.split_seat.ensures in
    let items = c.args.counter.now.key.value.items in
    let table = c.args.counter.now.table_id in
    let L : Me (Slot g.row.T.Denot g.row.O.Denot) (Drawn g.row.T.Denot g.row.O.Denot) → Me (Slot g.row.T.Denot g.row.O.Denot) (Drawn g.row.T.Denot g.row.O.Denot) = λ m. (hirer m.0, m.1) in
    let N : Me (Slot g.row.T.Denot g.row.O.Denot) (Drawn g.row.T.Denot g.row.O.Denot) → Me (Slot g.row.T.Denot g.row.O.Denot) (Drawn g.row.T.Denot g.row.O.Denot) = λ m. (hired m.0, []) in
    let M : ℕ → Me (Slot g.row.T.Denot g.row.O.Denot) (Drawn g.row.T.Denot g.row.O.Denot) = λ n. (drawn n [] [] items, []) in
    let less : 33 - c.loop.counter - 1 ≡ 33 - (c.loop.counter + 1) = omega arith in
    let P : Hand g.row.T.Denot g.row.O.Denot → Type 0 = λ h. IsReady table items h in
    let A : List (Hand g.row.T.Denot g.row.O.Denot) → Type 0 = λ l. All P l in
    let ready : P c.split_seat.result = record { same_table = split.3 ∙ (I.table ∙ c.requires.first.0); me = split.4 ∙ ap N I.me } in
    record {
      made = search rules;
      room = search rules;
      ready = subst A (sym push.items) (All-push P c.loop.hands.items _ I.ready ready);
      table = split.0 ∙ I.table;
      me = split.2 ∙ (ap L I.me ∙ ap M less);
    }
