use Rattle.std.proofs.Common.{◌∙◌, ap, sym}
use Rattle.once_cell.specs.Once.{cell_name}
use Rattle.ext_tree.specs.Keys.{KnownPlace}
use Rattle.ext_tree.proofs.KeyPlacing.{known_within, place_matches}
use Rattle.ext_tree.proofs.key_walk.known_key.Goals as goal

pub known-requires-clause-place : goal.known-requires-clause-place
known-requires-clause-place c =
    ap (λ (x : KnownPlace). x.place) (sym c.index-entries-number.is)
    ∙ place_matches cell_name c.args.entries.now c.args.places.now c.args.number c.index-entries-number.result c.index-places-number.result c.requires.places (known_within c.args.entries.now c.args.number c.requires.known) c.index-entries-number.is c.index-places-number.is
