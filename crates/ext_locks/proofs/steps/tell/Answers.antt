use Rattle.std.proofs.Common.{arith, ap, ◌∙◌}
use Rattle.ext_locks.proofs.Seats.{notes, joins}
use Rattle.ext_locks.proofs.steps.tell.Goals as goal

pub split_seat-note-requires : goal.split_seat-note-requires
split_seat-note-requires c = (c.requires.from, omega (arith, c.requires.to.same_locks), notes _ _ _ c.args.from.now.me.0)

pub join_seat-requires : goal.join_seat-requires
join_seat-requires c =
    let e = c.split_seat-note.ensures in (
      c.requires.to.same_table,
      e.3 ∙ c.requires.from,
      ap (λ m. m.1) e.4,
      omega (arith, c.requires.to.same_locks),
      joins _ _ _ _ c.args.to.now.me.0 c.split_seat-note.result.me.0,
    )
