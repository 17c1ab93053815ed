use Rattle.std.proofs.Common.{ap, sym, ◌∙◌, arith, refl}
use Rattle.ext_cells.specs.InnerTableSteps.{by_index}
use Rattle.ext_cells.proofs.MarkedBlocks.{when_open}
use Rattle.ext_cells.proofs.Passing.{not_both}
use Rattle.ext_cells.proofs.MarkSteps.{may_lead, led_marked, led_ended, led_open, ended_left, knows_index, found_after}
use Rattle.ext_cells.proofs.cell_steps.CellSteps.read_at.Goals as goal

pub load-marks-requires : goal.load-marks-requires
load-marks-requires g c =
    let is = c.requires.cells in
    let index = c.requires.block in
    let words = is.words_are in
    let less = c.requires.cell in (
      c.requires.table,
      omega (arith, index, words, less),
      may_lead c.args.self.now.table.shared.key _ _ c.args.seat.now.me _ c.requires.lane.0 c.requires.lane.1 is.limits_are g.A.Aim.cell c.args.cell c.requires.aim less,
    )

pub load-requires-clause-lane : goal.load-requires-clause-lane
load-requires-clause-lane g c =
    let e = led_marked c.args.self.now.table.shared.table_id.slots _ c.args.seat.now.me.0.limits.cells c.args.block g.A.Aim.cell c.args.cell c.load-marks.result c.args.seat.now.me c.load-marks.new.seat.me refl c.requires.block c.requires.aim c.load-marks.ensures.2 (sym (c.is_marked.ensures.mark c.args.cell c.requires.bits) ∙ c.if-is_marked.true) in
    (c.requires.lane.0, ap (λ z. z.lane) e ∙ c.requires.lane.1)

pub load-requires-clause-known : goal.load-requires-clause-known
load-requires-clause-known g c =
    let e = led_marked c.args.self.now.table.shared.table_id.slots _ c.args.seat.now.me.0.limits.cells c.args.block g.A.Aim.cell c.args.cell c.load-marks.result c.args.seat.now.me c.load-marks.new.seat.me refl c.requires.block c.requires.aim c.load-marks.ensures.2 (sym (c.is_marked.ensures.mark c.args.cell c.requires.bits) ∙ c.if-is_marked.true) in
    by_index (knows_index c.args.seat.now.me.0 c.load-marks.new.seat.me.0 c.args.cell e)

pub returns-then-is_marked-clause-found : goal.returns-then-is_marked-clause-found
returns-then-is_marked-clause-found g c =
    let e = led_marked c.args.self.now.table.shared.table_id.slots _ c.args.seat.now.me.0.limits.cells c.args.block g.A.Aim.cell c.args.cell c.load-marks.result c.args.seat.now.me c.load-marks.new.seat.me refl c.requires.block c.requires.aim c.load-marks.ensures.2 (sym (c.is_marked.ensures.mark c.args.cell c.requires.bits) ∙ c.if-is_marked.true) in
    let f = c.load.ensures.found in
    found_after c.args.seat.now.me.0 c.load-marks.new.seat.me.0 _ _ _ _ c.args.cell _ f.0 e f.1 f.2

pub returns-then-is_open-clause-found : goal.returns-then-is_open-clause-found
returns-then-is_open-clause-found g c =
    let clear = when_open _ _ c.args.cell ((c.is_open.ensures.told c.args.cell c.requires.bits).0 c.if-is_open.true) in
    led_open c.args.self.now.table.shared.table_id.slots _ c.args.seat.now.me.0.limits.cells c.args.block g.A.Aim.cell c.args.cell c.load-marks.result c.args.seat.now.me c.load-marks.new.seat.me refl c.requires.block c.requires.aim c.load-marks.ensures.2
    clear.0 clear.1

pub returns-clause-found : goal.returns-clause-found
returns-clause-found g c =
    let isnt = sym (c.is_marked.ensures.mark c.args.cell c.requires.bits) ∙ c.if-is_marked.false in
    led_ended c.args.self.now.table.shared.table_id.slots _ c.args.seat.now.me.0.limits.cells c.args.block g.A.Aim.cell c.args.cell c.load-marks.result c.args.seat.now.me c.load-marks.new.seat.me refl c.requires.block c.requires.aim c.load-marks.ensures.2
    isnt (ended_left c.load-marks.result c.args.cell isnt (λ is. not_both c.if-is_open.false ((c.is_open.ensures.told c.args.cell c.requires.bits).1 is)))
