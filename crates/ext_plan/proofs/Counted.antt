-- Counting the different keys that labels name, one label after another.
use Rattle.std.proofs.Common.{ℕ, ◌≡◌, ◌<◌, false, List, length, sym, ap, arith}
use Rattle.std.specs.Prelude.{nat_le}
use Rattle.std.proofs.lemmas.Bool.{lt-leb}
use Rattle.ext_tree.specs.Keys.{KeyValue}
use Rattle.ext_plan.specs.Plans.{KeyText}
use Rattle.ext_plan.specs.StoreKeys.{named_key, with_key, keys_with}
use Rattle.ext_plan.proofs.KeyLists.{length_kept}

-- the keys so far are more than a directory holds, and so are all
pub are_many : (before all : List KeyValue) (key : KeyText) (most : ℕ) (more : List KeyText) → all ≡ keys_with (with_key before (named_key key)) more → most < length (with_key before (named_key key)) → false ≡ nat_le (length all) most
are_many before all key most more rest many =
    let kept = length_kept (with_key before (named_key key)) more in
    let count = ap length rest in
    sym (lt-leb (length all) most (omega (arith, many, kept, count)))
