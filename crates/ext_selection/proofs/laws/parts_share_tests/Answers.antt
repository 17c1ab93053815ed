use Rattle.std.proofs.Common.{◌≡◌, ◌&&◌, ◌==◌, Bool, true, false, not, refl}
use Rattle.ext_selection.specs.Selection.{is_asked, has_match, is_listed}
use Rattle.ext_selection.specs.Shards.{part_in}
use Rattle.ext_selection.proofs.laws.parts_share_tests.Goals as goal

and_true : (a b : Bool) → (a && b) ≡ ((a && true) && b)
and_true true b = refl
and_true false b = refl

pub returns : goal.returns
returns c = λ selection shard id. and_true
    ((is_asked selection.exact selection.texts.items id && not (has_match selection.exact selection.skips.items id))
    && is_listed selection.failed id)
    (part_in shard.count id == shard.part)
