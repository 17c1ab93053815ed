use Rattle.std.proofs.Common.{suc, ap, ◌∙◌, arith}
use Rattle.ext_cells.specs.declared.view.View.{View}
use Rattle.ext_cells.specs.InnerViews.{giving, born}
use Rattle.ext_cells.specs.InnerMarks.{marks}
use Rattle.ext_cells.proofs.Seats.{splits_lane}
use Rattle.ext_cells.proofs.Given.{given_one, born_lane, giver_lane}
use Rattle.ext_cells.proofs.opening.give_out.Goals as goal

pub split_seat-seat-requires : goal.split_seat-seat-requires
split_seat-seat-requires c =
    let v = c.loop-number.invariant.view in
    let few = c.loop-number-test.true in
    let lanes = c.requires.lanes.1 in
    (c.loop-number.invariant.table, c.requires.words, splits_lane c.args.shared.now.key (marks c.args.shared.now.key.cells) _ _ c.loop-number.number 0 (ap (λ (x : View). x.given) v) (ap (λ (x : View). x.lane) v) (omega (arith, few, lanes)))

pub invariant_of-push : goal.invariant_of-push
invariant_of-push c =
    let few = c.loop-number-test.true in
    let lanes = c.requires.lanes.1 in
    born_lane c.split_seat-seat.result.me.0 c.loop-number.first.me.0 c.args.shared.now.key c.loop-number.number (ap (λ z. z.0) c.split_seat-seat.ensures.4) c.loop-number.invariant.view (omega (arith, few, lanes))

pub loop-number-preserved : goal.loop-number-preserved
loop-number-preserved c =
    let i = c.loop-number.invariant in
    let s = c.split_seat-seat.ensures in
    let counts = i.given.1 in record {
      table = s.0 ∙ i.table;
      view = ap (λ z. z.0) s.2 ∙ ap giving i.view;
      given = (
        suc i.given.0,
        omega (arith, counts),
        given_one c.args.shared.now.table_id c.split_seat-seat.result.table_id c.args.shared.now.key c.loop-number.number i.given.0 c.split_seat-seat.result.me.0 c.loop-number.others.items c.push.new.self.items
            (s.3 ∙ i.table) (ap (λ z. z.0) s.4 ∙ ap born i.view) counts i.given.2 c.in_ok-push.ensures.items,
      );
    }

pub invariant_of-insert : goal.invariant_of-insert
invariant_of-insert c =
    let some = c.requires.lanes.0 in
    let lanes = c.requires.lanes.1 in
    giver_lane c.loop-number.first.me.0 c.args.shared.now.key c.loop-number.number c.loop-number.invariant.view (omega (arith, some, lanes))
