use Rattle.std.proofs.Common.{◌≡◌, ◌<◌, ℕ, refl, ap, sym, subst, ◌∙◌, arith}
use Rattle.ext_cells.specs.declared.view.View.{View}
use Rattle.ext_cells.proofs.MarkSteps.{may_seek, may_mark, stands_open, first_sought, next_sought, now_marked, marking_open, marking_ended, marking_marked}
use Rattle.ext_cells.proofs.cell_steps.CellSteps.mark.Goals as goal

pub load-block-requires : goal.load-block-requires
load-block-requires g c =
    let is = c.requires.cells in
    let index = c.block_index-index.ensures.index in
    let words = is.words_are in
    let less = c.requires.cell in (
      c.requires.table,
      omega (arith, index, words, less),
      may_seek c.args.self.now.table.shared.key _ _ c.args.seat.now.me _ c.requires.lane.0 c.requires.lane.1 (is.limits_are ∙ sym is.known) g.A.Aim.cell c.args.cell c.requires.aim (subst (λ n. c.args.cell < n) (sym is.known) less),
    )

pub loop-cells-init : goal.loop-cells-init
loop-cells-init g c = record {
  table = c.load-block.ensures.0;
  state = first_sought c.args.seat.now.me.0 c.args.self.now.table.shared.table_id.slots _ c.args.cells c.block_index-index.result g.A.Aim.cell c.args.cell c.args.seat.now.me c.load-block.new.seat.me c.requires.cells.known c.block_index-index.ensures.index c.requires.aim c.load-block.result refl c.load-block.ensures.2;
}

pub returns-then-is_ended-clause-table : goal.returns-then-is_ended-clause-table
returns-then-is_ended-clause-table g c = c.loop-cells.invariant.table

pub returns-then-is_ended-clause-ended : goal.returns-then-is_ended-clause-ended
returns-then-is_ended-clause-ended g c _ =
    marking_ended c.args.seat.now.me.0 c.loop-cells.seat.me.0 c.block_index-index.result c.args.cell c.loop-cells.block (sym c.has_mark.ensures.mark ∙ c.loop-cells-test.true) (sym c.is_ended.ensures.ended ∙ c.if-is_ended.true) c.loop-cells.invariant.state

pub compare_exchange-found-requires : goal.compare_exchange-found-requires
compare_exchange-found-requires g c =
    let is = c.requires.cells in
    let at = c.block_index-index.ensures.index in
    let words = is.words_are in
    let less = c.requires.cell in
    let isnt = sym c.has_mark.ensures.mark ∙ c.loop-cells-test.true in
    let not = sym c.is_ended.ensures.ended ∙ c.if-is_ended.false in
    let m = marking_open c.args.seat.now.me.0 c.loop-cells.seat.me.0 c.block_index-index.result c.args.cell c.loop-cells.block isnt not c.loop-cells.invariant.state in
    let known : c.loop-cells.seat.me.0.limits.cells ≡ c.args.cells = ap (λ (z : View). z.limits.cells) m.1 ∙ is.known in (
      c.loop-cells.invariant.table ∙ c.requires.table,
      omega (arith, at, words, less),
      may_mark c.args.self.now.table.shared.key _ _ c.loop-cells.seat.me c.block_index-index.result c.requires.lane.0 (ap (λ (z : View). z.lane) m.1 ∙ c.requires.lane.1) (is.limits_are ∙ sym known) g.A.Aim.cell c.args.cell c.loop-cells.block c.with_mark-marked.result c.requires.aim
          (subst (λ n. c.args.cell < n) (sym known) less)
          (at ∙ ap (λ (n : ℕ). Rattle.ext_cells.specs.InnerMarks.block_index n c.args.cell) (sym known))
          (stands_open c.loop-cells.block c.args.cell isnt not)
          c.with_mark-marked.ensures.word,
    )

pub returns-then-found-block-clause-table : goal.returns-then-found-block-clause-table
returns-then-found-block-clause-table g c = c.compare_exchange-found.ensures.0 ∙ c.loop-cells.invariant.table

pub returns-then-found-block-clause-marked : goal.returns-then-found-block-clause-marked
returns-then-found-block-clause-marked g c _ =
    let isnt = sym c.has_mark.ensures.mark ∙ c.loop-cells-test.true in
    let not = sym c.is_ended.ensures.ended ∙ c.if-is_ended.false in
    let m = marking_open c.args.seat.now.me.0 c.loop-cells.seat.me.0 c.block_index-index.result c.args.cell c.loop-cells.block isnt not c.loop-cells.invariant.state in
    let known : c.loop-cells.seat.me.0.limits.cells ≡ c.args.cells = ap (λ (z : View). z.limits.cells) m.1 ∙ c.requires.cells.known in
    now_marked c.args.seat.now.me.0 c.args.self.now.table.shared.table_id.slots _ c.args.cells c.block_index-index.result g.A.Aim.cell c.args.cell c.loop-cells.seat.me c.compare_exchange-found.new.seat.me known c.block_index-index.ensures.index c.requires.aim
    m.0 c.loop-cells.block _ c.compare_exchange-found.result m.1 c.if-found-block.true c.compare_exchange-found.ensures.2

pub loop-cells-smaller : goal.loop-cells-smaller
loop-cells-smaller g c =
    let isnt = sym c.has_mark.ensures.mark ∙ c.loop-cells-test.true in
    let not = sym c.is_ended.ensures.ended ∙ c.if-is_ended.false in
    let m = marking_open c.args.seat.now.me.0 c.loop-cells.seat.me.0 c.block_index-index.result c.args.cell c.loop-cells.block isnt not c.loop-cells.invariant.state in
    let known : c.loop-cells.seat.me.0.limits.cells ≡ c.args.cells = ap (λ (z : View). z.limits.cells) m.1 ∙ c.requires.cells.known in
    let n = next_sought c.args.seat.now.me.0 c.args.self.now.table.shared.table_id.slots _ c.args.cells c.block_index-index.result g.A.Aim.cell c.args.cell c.loop-cells.seat.me c.compare_exchange-found.new.seat.me known c.block_index-index.ensures.index c.requires.aim
    m.0 c.loop-cells.block _ c.compare_exchange-found.result m.1 c.if-found-block.false c.compare_exchange-found.ensures.2 in
    let more : c.loop-cells.block < c.compare_exchange-found.result = n.1 in
    let fits = c.compare_exchange-found.type_inv in omega (arith, more, fits)

pub loop-cells-preserved : goal.loop-cells-preserved
loop-cells-preserved g c =
    let isnt = sym c.has_mark.ensures.mark ∙ c.loop-cells-test.true in
    let not = sym c.is_ended.ensures.ended ∙ c.if-is_ended.false in
    let m = marking_open c.args.seat.now.me.0 c.loop-cells.seat.me.0 c.block_index-index.result c.args.cell c.loop-cells.block isnt not c.loop-cells.invariant.state in
    let known : c.loop-cells.seat.me.0.limits.cells ≡ c.args.cells = ap (λ (z : View). z.limits.cells) m.1 ∙ c.requires.cells.known in record {
      table = c.compare_exchange-found.ensures.0 ∙ c.loop-cells.invariant.table;
      state = (next_sought c.args.seat.now.me.0 c.args.self.now.table.shared.table_id.slots _ c.args.cells c.block_index-index.result g.A.Aim.cell c.args.cell c.loop-cells.seat.me c.compare_exchange-found.new.seat.me known c.block_index-index.ensures.index c.requires.aim
          m.0 c.loop-cells.block _ c.compare_exchange-found.result m.1 c.if-found-block.false c.compare_exchange-found.ensures.2).0;
    }

pub returns-clause-table : goal.returns-clause-table
returns-clause-table g c = c.loop-cells.invariant.table

pub returns-clause-marked : goal.returns-clause-marked
returns-clause-marked g c _ = marking_marked c.args.seat.now.me.0 c.loop-cells.seat.me.0 c.block_index-index.result c.args.cell c.loop-cells.block (sym c.has_mark.ensures.mark ∙ c.loop-cells-test.false) c.loop-cells.invariant.state
