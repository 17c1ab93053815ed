-- What is counted of a list, and of what a function makes of it.
use Rattle.std.proofs.Common.{◌≡◌, ℕ, ◌+◌, Bool, List, [], ◌∷◌, cond, fold, map, refl}
use Rattle.std.specs.List.{count_by}

counted : {A B : Type 0} (f : A → B) (p : B → Bool) (n : ℕ) (xs : List A) → fold (λ n x. n + cond (p (f x)) 1 0) n xs ≡ fold (λ n y. n + cond (p y) 1 0) n (map f xs)
counted f p n [] = refl
counted f p n (x ∷ more) = counted f p (n + cond (p (f x)) 1 0) more

pub count_by-map : {A B : Type 0} (f : A → B) (p : B → Bool) (xs : List A) → count_by (λ x. p (f x)) xs ≡ count_by p (map f xs)
count_by-map f p xs = counted f p 0 xs
