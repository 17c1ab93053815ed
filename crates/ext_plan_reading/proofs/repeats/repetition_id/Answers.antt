use Rattle.std.proofs.Common.{◌≡◌, List, ℕ, [], ◌∷◌, ◌++◌, codes, ap, ◌∙◌, subst, Err}
use Rattle.std.specs.Fmt.{decimal}
use Rattle.ext_ids.specs.Grammar.{Pair}
use Rattle.ext_ids.specs.Making.{Makes}
use Rattle.ext_plan_reading.proofs.Repetitions.{fits_behind}
use Rattle.ext_plan_reading.proofs.repeats.repetition_id.Goals as goal

-- the id with this value in its last segment
with_value : List Pair → List ℕ → List Pair
with_value id value = id ++ (codes "test-template-invocation", value) ∷ []

pub returns-in-Ok : goal.returns-in-Ok
unfolding with_value
returns-in-Ok c = c.in-Ok.ensures.made.1 ∙ ap (with_value c.args.id.now) (c.as_str.ensures.value ∙ c.in_ok-value.ensures.ok)

pub unreachable-requires : goal.unreachable-requires
unfolding with_value
unreachable-requires c =
    let made = subst (λ value. Makes (with_value c.args.id.now value) (Err c.in-Err.fault)) (c.as_str.ensures.value ∙ c.in_ok-value.ensures.ok) c.in-Err.ensures.made in
    fits_behind c.args.id.now (decimal c.args.number) c.in-Err.fault c.len-segments.ensures.id c.requires c.in_default.not-Memory made
