use Rattle.std.proofs.Common.{◌≡◌, ◌∙◌, ℕ, Bool, false, List, Some, map, option_map, sym, ap}
use Rattle.std.proofs.lemmas.Option.{slice_get-map, get_or_from_slice_get}
use Rattle.std.specs.Prelude.{slice_get}
use Rattle.ext_ids.specs.Grammar.{Pair, id_text}
use Rattle.ext_selection.specs.Selection.{flag_at, is_wanted, wanted_of}
use Rattle.ext_selection.specs.declared.selection.Selection.{Selection}
use Rattle.ext_selection.proofs.laws.tests_stay_wanted.Goals as goal

wanted_at : (selection : Selection) (ids : List (List Pair)) (k : ℕ) (id : List Pair) → slice_get ids k ≡ Some id
    → flag_at (wanted_of selection ids) k ≡ is_wanted selection (id_text id)
wanted_at selection ids k id at =
    let wish : List Pair → Bool = λ i. is_wanted selection (id_text i) in
    get_or_from_slice_get (map wish ids) k (wish id) false (slice_get-map wish ids k ∙ ap (option_map wish) at)

pub returns : goal.returns
returns c = λ selection ids more k l id first second.
    wanted_at selection ids k id first ∙ sym (wanted_at selection more l id second)
