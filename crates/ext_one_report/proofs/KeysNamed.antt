-- The keys of a plan's steps are among those that it names.
use Rattle.std.proofs.Common.{◌≡◌, inl, inr, true, List, [], ◌∷◌, ◌++◌, Option, Some, None, All, IfSome, ap, ◌∙◌}
use Rattle.std.proofs.lemmas.Map.Views.{list_any-from_Contains}
use Rattle.std.proofs.lemmas.List.Elements.{All-cons, All-nil, Contains-append_left}
use Rattle.ext_history.proofs.Lists.{bools}
use Rattle.ext_tree.specs.Keys.{KeyValue}
use Rattle.ext_tree.specs.Traits.{key_eq_equiv}
use Rattle.ext_plan.specs.Plans.{KeyText}
use Rattle.ext_plan.specs.StoreKeys.{is_there, with_key}
use Rattle.ext_plan.proofs.KeyLists.{is_contained, there_with, with_new, with_old}
use Rattle.ext_races.specs.MadeSteps.{MadeText}
use Rattle.ext_races.specs.Touches.{key_of_made, keys_of_steps, with_key_of}

there_before : (keys : List KeyValue) (first key : KeyValue) → is_there keys key ≡ true → is_there (with_key keys first) key ≡ true
there_before keys first key there = elim (bools (is_there keys first)) [
  | inl old ↦ ap (λ ks. is_there ks key) (with_old keys first old) ∙ there
  | inr new ↦ ap (λ ks. is_there ks key) (with_new keys first new) ∙ list_any-from_Contains key_eq_equiv key (keys ++ first ∷ []) (Contains-append_left keys (first ∷ []) key (is_contained keys key there))
]

there_before_of : (keys : List KeyValue) (first : Option KeyValue) (key : KeyValue) → is_there keys key ≡ true → is_there (with_key_of keys first) key ≡ true
there_before_of keys None key there = there
there_before_of keys (Some first) key there = there_before keys first key there

there_kept : (declared : List KeyText) (keys : List KeyValue) (steps : List MadeText) (key : KeyValue) → is_there keys key ≡ true → is_there (keys_of_steps declared keys steps) key ≡ true
there_kept declared keys [] key there = there
there_kept declared keys (step ∷ more) key there = there_kept declared (with_key_of keys (key_of_made declared step)) more key (there_before_of keys (key_of_made declared step) key there)

there_first : (declared : List KeyText) (keys : List KeyValue) (more : List MadeText) (key : Option KeyValue) → IfSome key (λ k. is_there (keys_of_steps declared (with_key_of keys key) more) k ≡ true)
there_first declared keys more None = tt
there_first declared keys more (Some key) = there_kept declared (with_key keys key) more key (there_with keys key)

pub there_all : (declared : List KeyText) (keys : List KeyValue) (steps : List MadeText) → All (λ step. IfSome (key_of_made declared step) (λ key. is_there (keys_of_steps declared keys steps) key ≡ true)) steps
there_all declared keys [] = All-nil (λ step. IfSome (key_of_made declared step) (λ key. is_there keys key ≡ true))
there_all declared keys (step ∷ more) =
    All-cons (λ s. IfSome (key_of_made declared s) (λ key. is_there (keys_of_steps declared keys (step ∷ more)) key ≡ true)) step more
    (there_first declared keys more (key_of_made declared step)) (there_all declared (with_key_of keys (key_of_made declared step)) more)
