use Rattle.std.proofs.Common.{ap, subst, ◌∙◌, arith}
use Rattle.ext_cells.specs.InnerViews.{noted, shown}
use Rattle.ext_cells.specs.InnerTableSteps.{FoundBy}
use Rattle.ext_cells.proofs.Seats.{splits_note, joins_note}
use Rattle.ext_cells.proofs.CountSteps.{may_load_count, count_shown}
use Rattle.ext_cells.proofs.cell_steps.CellSteps.tell.Goals as goal

pub split_seat-note-requires : goal.split_seat-note-requires
split_seat-note-requires c = (c.requires.from, let w = c.requires.cells.words_are in omega (arith, w), splits_note _ _ _ _)

pub join_seat-requires : goal.join_seat-requires
join_seat-requires c = (
  c.requires.to,
  c.split_seat-note.ensures.3 ∙ c.requires.from,
  ap (λ z. z.1) c.split_seat-note.ensures.4,
  let w = c.requires.cells.words_are in omega (arith, w),
  joins_note _ _ _ _ _ _,
)

pub load-requires : goal.load-requires
load-requires c =
    let words = c.requires.cells.words_are in
    let lane = ap (λ z. z.0.lane) c.join_seat.ensures.2 ∙ c.requires.lane.1 in
    (c.join_seat.ensures.0 ∙ c.requires.to, omega (arith, words), may_load_count c.args.self.now.table.shared.key _ _ c.join_seat.new.seat.me c.args.cells c.requires.lane.0 c.requires.cells.limits_are lane)

pub returns-clause-told : goal.returns-clause-told
returns-clause-told c =
    let known = ap (λ z. z.0.limits.cells) c.join_seat.ensures.2 ∙ c.requires.cells.known in
    let on = c.load.ensures.2 in
    let f = count_shown c.join_seat.new.seat.me c.load.new.seat.me c.args.cells c.load.result on.0 known on on.1 in
    let is = ap (λ z. z.0) c.join_seat.ensures.2 ∙ ap (λ z. noted c.args.to.now.me.0 z.0) c.split_seat-note.ensures.4 in
    (on.0, f.0, subst (λ v. FoundBy v c.args.cells on.0 f.0) is f.1, f.2 ∙ ap (λ v. shown v f.0) is)
