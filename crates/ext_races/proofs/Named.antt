-- The different keys that steps name, one step after another.
use Rattle.std.proofs.Common.{ℕ, All, IfSome, map, get_or, subst, ◌≡◌, ◌<◌, ◌≤◌, Bool, true, false, List, [], ◌∷◌, ◌++◌, length, Option, Some, None, sym, ap, ◌∙◌, arith, inl, inr}
use Rattle.std.specs.Prelude.{not, ◌==◌, if◌then◌else◌}
use Rattle.std.proofs.lemmas.Bool.{cases_Bool}
use Rattle.ext_tree.specs.Keys.{KeyValue}
use Rattle.ext_plan.specs.Plans.{KeyText}
use Rattle.ext_plan.specs.StoreKeys.{is_there, with_key}
use Rattle.ext_plan.proofs.KeyLists.{with_old, with_new, length_with_new, there_with, is_contained}
use Rattle.ext_plan.proofs.Lists.{All-map-at}
use Rattle.std.proofs.lemmas.List.Elements.{All-cons, All-nil, Contains-append_left}
use Rattle.std.proofs.lemmas.Map.Views.{list_any-from_Contains}
use Rattle.ext_tree.specs.Traits.{key_eq_equiv}
use Rattle.ext_races.specs.declared.made.MadeStep.{MadeStep}
use Rattle.ext_races.specs.InnerNaming.{keys_listed}
use Rattle.ext_races.specs.InnerMade.{made_view}
use Rattle.ext_races.specs.MadeSteps.{MadeText}
use Rattle.ext_races.specs.Touches.{key_of_made, keys_of_steps, with_key_of}

-- one key more stands at the end, if any does
pub added : (old new : List KeyValue) (key : KeyValue) (is_new : Bool) → new ≡ with_key old key → is_new ≡ not (length new == length old) → new ≡ (if is_new then old ++ key ∷ [] else old)
added old new key is_new grown said = elim (cases_Bool (is_there old key)) [
  | inl there ↦
      let same = grown ∙ with_old old key there in
      let long = ap length same in
      let no_key : is_new ≡ false = said ∙ grind (arith, long) in
      rw no_key same
  | inr missing ↦
      let more = grown ∙ with_new old key missing in
      let long = ap length grown ∙ length_with_new old key missing in
      let yes_key : is_new ≡ true = said ∙ grind (arith, long) in
      rw yes_key more
]

length_with : (keys : List KeyValue) (key : KeyValue) → length keys ≤ length (with_key keys key)
length_with keys key = elim (cases_Bool (is_there keys key)) [
  | inl there ↦ let same = ap length (with_old keys key there) in omega (arith, same)
  | inr missing ↦ let long = length_with_new keys key missing in omega (arith, long)
]

length_with_of : (keys : List KeyValue) (key : Option KeyValue) → length keys ≤ length (with_key_of keys key)
length_with_of keys None = omega arith
length_with_of keys (Some key) = length_with keys key

-- further steps take no key away
pub length_kept : (declared : List KeyText) (keys : List KeyValue) (steps : List MadeText) → length keys ≤ length (keys_of_steps declared keys steps)
length_kept declared keys [] = omega arith
length_kept declared keys (step ∷ more) =
    let one = length_with_of keys (key_of_made declared step) in
    let rest = length_kept declared (with_key_of keys (key_of_made declared step)) more in
    omega (arith, one, rest)

-- ---- the keys of the steps are there

there_before : (keys : List KeyValue) (first key : KeyValue) → is_there keys key ≡ true → is_there (with_key keys first) key ≡ true
there_before keys first key there = elim (cases_Bool (is_there keys first)) [
  | inl old ↦ ap (λ ks. is_there ks key) (with_old keys first old) ∙ there
  | inr new ↦ ap (λ ks. is_there ks key) (with_new keys first new) ∙ list_any-from_Contains key_eq_equiv key (keys ++ first ∷ []) (Contains-append_left keys (first ∷ []) key (is_contained keys key there))
]

there_before_of : (keys : List KeyValue) (first : Option KeyValue) (key : KeyValue) → is_there keys key ≡ true → is_there (with_key_of keys first) key ≡ true
there_before_of keys None key there = there
there_before_of keys (Some first) key there = there_before keys first key there

there_kept : (declared : List KeyText) (keys : List KeyValue) (steps : List MadeText) (key : KeyValue) → is_there keys key ≡ true → is_there (keys_of_steps declared keys steps) key ≡ true
there_kept declared keys [] key there = there
there_kept declared keys (step ∷ more) key there = there_kept declared (with_key_of keys (key_of_made declared step)) more key (there_before_of keys (key_of_made declared step) key there)

there_first : (declared : List KeyText) (keys : List KeyValue) (more : List MadeText) (key : Option KeyValue) → IfSome key (λ k. is_there (keys_of_steps declared (with_key_of keys key) more) k ≡ true)
there_first declared keys more None = tt
there_first declared keys more (Some key) = there_kept declared (with_key keys key) more key (there_with keys key)

there_all : (declared : List KeyText) (keys : List KeyValue) (steps : List MadeText) → All (λ step. IfSome (key_of_made declared step) (λ key. is_there (keys_of_steps declared keys steps) key ≡ true)) steps
there_all declared keys [] = All-nil (λ step. IfSome (key_of_made declared step) (λ key. is_there keys key ≡ true))
there_all declared keys (step ∷ more) =
    All-cons (λ s. IfSome (key_of_made declared s) (λ key. is_there (keys_of_steps declared keys (step ∷ more)) key ≡ true)) step more
    (there_first declared keys more (key_of_made declared step)) (there_all declared (with_key_of keys (key_of_made declared step)) more)

pub there_at : (declared : List KeyText) (directory : List KeyValue) (made : List MadeStep) (i : ℕ) (x : MadeStep) → directory ≡ keys_listed declared (map made_view made) → i < length made → x ≡ get_or made i x
    → IfSome (key_of_made declared (made_view x)) (λ key. is_there directory key ≡ true)
there_at declared directory made i x is less read =
    subst (λ keys. IfSome (key_of_made declared (made_view x)) (λ key. is_there keys key ≡ true)) (sym is)
    (All-map-at (λ step. IfSome (key_of_made declared step) (λ key. is_there (keys_listed declared (map made_view made)) key ≡ true)) made_view made i x less read (there_all declared [] (map made_view made)))
