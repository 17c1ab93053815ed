-- The number of a key, which is one past the last where it is not there.
use Rattle.std.proofs.Common.{◌≡◌, Bool, true, false, List, [], ◌∷◌, ◌∙◌, ap, arith, length, refl, sym, true≢false}
use Rattle.std.specs.Prelude.{◌||◌}
use Rattle.ext_tree.specs.Keys.{KeyValue}
use Rattle.ext_tree.specs.Traits.{key_eq, key_eq_equiv}
use Rattle.ext_plan.specs.StoreKeys.{is_there, number_of_key}

past_at : (first key : KeyValue) (more : List KeyValue) (b : Bool) → key_eq first key ≡ b → (is_there more key ≡ false → number_of_key more key ≡ length more)
    → is_there (first ∷ more) key ≡ false → number_of_key (first ∷ more) key ≡ length (first ∷ more)
past_at first key more true e next missing = absurd (true≢false (sym (ap (λ b. b || is_there more key) (key_eq_equiv.symm key first ∙ e)) ∙ missing))
past_at first key more false e next missing =
    let rest = next (sym (ap (λ b. b || is_there more key) (key_eq_equiv.symm key first ∙ e)) ∙ missing) in
    rw e (omega (arith, rest))

pub number_past : (keys : List KeyValue) (key : KeyValue) → is_there keys key ≡ false → number_of_key keys key ≡ length keys
number_past [] key missing = refl
number_past (first ∷ more) key missing = past_at first key more (key_eq first key) refl (number_past more key) missing
