use Rattle.std.proofs.Common.{◌≡◌, sym, None}
use Rattle.ext_cells.specs.WordChanges.{refusal_in}
use Rattle.ext_cells.proofs.Packing.{version_left}
use Rattle.ext_cells.proofs.cell_word.after.Goals as goal

pub next_word-requires-clause-version : goal.next_word-requires-clause-version
next_word-requires-clause-version c =
    let p = c.parts-state.ensures in
    let free : refusal_in c.parts-state.result.0 c.parts-state.result.2 c.args.act ≡ None = cc in
    version_left _ _ _ free (c.requires.act _ _ _ p.number (sym p.parts))

pub next_word-requires-clause-act : goal.next_word-requires-clause-act
next_word-requires-clause-act c = let p = c.parts-state.ensures in c.requires.act _ _ _ p.number (sym p.parts)
