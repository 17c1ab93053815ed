-- What a directory's answer says of the keys and their numbers.
use Rattle.std.proofs.Common.{◌≡◌, ◌<◌, ◌≤◌, ℕ, Bool, true, false, List, [], ◌∷◌, ◌++◌, length, Result, Ok, Err, IfOk, Contains, refl, sym, ap, ◌∙◌, arith, inl, inr}
use Rattle.std.specs.Prelude.{OnOk}
use Rattle.std.specs.Result.{result_unwrap_or}
use Rattle.std.proofs.lemmas.Bool.{cases_lt}
use Rattle.ext_tree.specs.declared.fault.TreeFault.{TreeFault}
use Rattle.ext_tree.specs.declared.fault.TreeFault.TheVariants as fault
use Rattle.ext_tree.specs.Keys.{KeyValue, HasNumber}
use Rattle.ext_plan.specs.StoreKeys.{is_there, with_key, number_of_key}
use Rattle.ext_plan.proofs.KeyLists.{has_key_number, key_number_last, not_contained, not_there, with_old, with_new, length_with_new}

-- what `declare` answers, as far as it is needed here
pub record Answer (old changed : List KeyValue) (key : KeyValue) (most : ℕ) (r : Result ℕ TreeFault) : Type 0 where
  pub again : (number : ℕ) → HasNumber old key number → (r ≡ Ok number) × (changed ≡ old)
  pub added : IfOk r (λ number. (Contains old key → ⊥) → (number ≡ length old) × (changed ≡ old ++ key ∷ []))
  pub full : (Contains old key → ⊥) → most ≤ length old → r ≡ Err fault.TooMany

-- the keys after it, and the key's number
record Grown (old changed : List KeyValue) (key : KeyValue) (most number : ℕ) : Type 0 where
  pub keys : changed ≡ with_key old key
  pub numbered : number ≡ number_of_key changed key
  pub few : length old ≤ most → length changed ≤ most

by_there : (old changed : List KeyValue) (key : KeyValue) (most number : ℕ) (there : Bool) → is_there old key ≡ there → Answer old changed key most (Ok number) → Grown old changed key most number
by_there old changed key most number true e answer =
    let again = answer.again (number_of_key old key) (has_key_number old key e) in
    let same : number ≡ number_of_key old key = ap (λ r. result_unwrap_or r 0) again.0 in
    record {
      keys = again.1 ∙ sym (with_old old key e);
      numbered = same ∙ ap (λ keys. number_of_key keys key) (sym again.1);
      few = λ small. rw again.1 small;
    }
by_there old changed key most number false e answer =
    let added = answer.added (not_contained old key e) in
    let longer = ap length (added.1 ∙ sym (with_new old key e)) ∙ length_with_new old key e in
    record {
      keys = added.1 ∙ sym (with_new old key e);
      numbered = added.0 ∙ sym (key_number_last old key e) ∙ ap (λ keys. number_of_key keys key) (sym added.1);
      few = λ small. elim (cases_lt (length old) most) [
        | inl room ↦ omega (arith, room, longer)
        | inr all ↦ absurd (refused number (answer.full (not_contained old key e) all))
      ];
    }
  where
    refused : (number : ℕ) → let r : Result ℕ TreeFault = Ok number in r ≡ Err fault.TooMany → ⊥
    refused number h = absurd cc

pub declared_keys : (old changed : List KeyValue) (key : KeyValue) (most : ℕ) (r : Result ℕ TreeFault) → Answer old changed key most r → OnOk r (changed ≡ with_key old key)
declared_keys old changed key most (Ok number) answer = (by_there old changed key most number _ refl answer).keys
declared_keys old changed key most (Err e) answer = tt

pub declared_few : (old changed : List KeyValue) (key : KeyValue) (most : ℕ) (r : Result ℕ TreeFault) → length old ≤ most → Answer old changed key most r → OnOk r (length changed ≤ most)
declared_few old changed key most (Ok number) small answer = (by_there old changed key most number _ refl answer).few small
declared_few old changed key most (Err e) small answer = tt

pub one_too_many : (old : List KeyValue) (key : KeyValue) (most : ℕ) → (Contains old key → ⊥) → most ≤ length old → most < length (with_key old key)
one_too_many old key most missing all = let longer = length_with_new old key (not_there old key missing) in omega (arith, all, longer)
