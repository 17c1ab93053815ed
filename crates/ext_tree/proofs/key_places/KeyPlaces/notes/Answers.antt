use Rattle.std.proofs.Common.{◌∙◌, ap, map}
use Rattle.once_cell.specs.Once.{cell_name}
use Rattle.ext_tree.specs.Keys.{key_places_of}
use Rattle.ext_tree.proofs.KeyPlacing.{key_places_of-nothing}
use Rattle.ext_tree.proofs.key_places.KeyPlaces.notes.Goals as goal

pub returns-clause-of : goal.returns-clause-of
returns-clause-of c =
    ap (λ l. key_places_of l) (c.in_ok-of.ensures ∙ c.in_ok-entries.ensures)
    ∙ (key_places_of-nothing (map cell_name c.as_slice.result.now) ∙ (ap (λ l. map cell_name l) c.as_slice.ensures.value ∙ c.self.view_is))
