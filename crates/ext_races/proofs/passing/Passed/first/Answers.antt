use Rattle.std.proofs.Common.{◌∙◌, ap, sym, refl, inl, inr}
use Rattle.std.specs.Prelude.{not}
use Rattle.std.proofs.lemmas.Bool.{cases_Bool}
use Rattle.ext_races.proofs.passing.Passed.first.Goals as goal

pub returns : goal.returns
returns c = record { by = inr refl; like = elim (cases_Bool c.is_like.result) [ inl like ↦ inr (sym c.is_like.ensures ∙ like) | inr unlike ↦ inl (ap not unlike) ] }
