-- The keys of a plan's labels, made one after another.
use Rattle.std.proofs.Common.{◌≡◌, ◌<◌, ◌+◌, ℕ, List, [], ◌∷◌, ◌++◌, map, take, get_or, ap, sym, ◌∙◌}
use Rattle.std.proofs.lemmas.List.{take_more}
use Rattle.std.specs.Prelude.{length}
use Rattle.ext_tree.specs.Keys.{KeyValue}
use Rattle.ext_plan.specs.declared.plan.PlanKey.{PlanKey}
use Rattle.ext_plan.specs.StoreKeys.{named_key}
use Rattle.ext_plan.specs.Plans.{key_view, keys_view}
use Rattle.ext_plan.proofs.Lists.{map-push}

-- one key more
pub one_more_key : (keys : List PlanKey) (i : ℕ) (key : PlanKey) (made new : List KeyValue) (value : KeyValue) → i < length keys → key ≡ get_or keys i key
    → made ≡ map named_key (keys_view (take i keys)) → value ≡ named_key (key_view key) → new ≡ made ++ value ∷ [] → new ≡ map named_key (keys_view (take (i + 1) keys))
one_more_key keys i key made new value within is so_far one more =
    let taken : keys_view (take (i + 1) keys) ≡ keys_view (take i keys) ++ key_view key ∷ [] =
    ap keys_view (take_more keys i key within) ∙ map-push key_view (take i keys) _ ∙ ap (λ k. keys_view (take i keys) ++ key_view k ∷ []) (sym is) in
    more ∙ ap (λ ks. ks ++ value ∷ []) so_far ∙ ap (λ k. map named_key (keys_view (take i keys)) ++ k ∷ []) one
    ∙ sym (ap (map named_key) taken ∙ map-push named_key (keys_view (take i keys)) (key_view key))
