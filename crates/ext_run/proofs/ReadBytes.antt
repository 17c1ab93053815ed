-- Reads one after another, and what ends them.
use Rattle.std.proofs.Common.{◌≡◌, ℕ, ◌<◌, List, [], ◌++◌, length, length-append, Option, Some, None, Result, Ok, Err, IfOk, IfErr, ap, sym, subst, ◌∙◌, append_assoc, append-nil, arith}
use Rattle.std.specs.Prelude.{IfSome}
use Rattle.std.specs.Result.{IsErrAnd}
use Rattle.std.specs.Io.KnownBytes.{Consumes, IsAtEnd, Keeps}
use Rattle.ext_run.specs.declared.fault.RunFault.{RunFault}
use Rattle.ext_run.specs.InnerOutputs.{Reads, StopsReading}

pub Consumes-more : (a b c : Option (List ℕ)) (xs ys : List ℕ) → Consumes a b xs → Consumes b c ys → Consumes a c (xs ++ ys)
Consumes-more None b c xs ys p q = tt
Consumes-more (Some zs) None c xs ys p q = absurd p
Consumes-more (Some zs) (Some bs) None xs ys p q = absurd q
Consumes-more (Some zs) (Some bs) (Some cs) xs ys p q = p ∙ ap (λ rest. xs ++ rest) q ∙ sym (append_assoc xs ys cs)

pub Consumes-none : (a b : Option (List ℕ)) → Keeps a b → Consumes a b []
Consumes-none None b same = tt
Consumes-none (Some xs) None same = absurd same
Consumes-none (Some xs) (Some ys) same = sym same

-- what was read to the end is the whole
pub Consumes-all : (a b : Option (List ℕ)) (xs : List ℕ) → Consumes a b xs → IsAtEnd b → IfSome a (λ whole. xs ≡ whole)
Consumes-all None b xs p end = tt
Consumes-all (Some zs) None xs p end = absurd p
Consumes-all (Some zs) (Some ys) xs p end = sym (p ∙ ap (λ rest. xs ++ rest) end ∙ append-nil xs)

-- and no longer than the whole
pub Consumes-long : (a b : Option (List ℕ)) (xs : List ℕ) (n : ℕ) → Consumes a b xs → n < length xs → IfSome a (λ whole. n < length whole)
Consumes-long None b xs n p long = tt
Consumes-long (Some zs) None xs n p long = absurd p
Consumes-long (Some zs) (Some ys) xs n p long = rw p (rw length-append (omega (arith, long)))

-- ---- a fault that a call handed on

pub not_ok : {A E : Type 0} (P : A → Type 0) (Q : E → Type 0) (r : Result A E) → IsErrAnd r Q → IfOk r P
not_ok P Q (Ok x) errs = absurd errs
not_ok P Q (Err e) errs = tt

pub fault_is : {A E : Type 0} (P : E → Type 0) (r : Result A E) (e : E) → IsErrAnd r (λ x. x ≡ e) → P e → IfErr r P
fault_is P (Ok x) e errs h = tt
fault_is P (Err x) e errs h = subst P (sym errs) h

pub fault_same : {A E : Type 0} (r : Result A E) (e f : E) → IsErrAnd r (λ x. x ≡ e) → r ≡ Err f → e ≡ f
fault_same r e f errs is = sym (subst (λ r. IsErrAnd r (λ x. x ≡ e)) is errs)

pub stops_at : (limit : ℕ) (before after : Option (List ℕ)) (old new : List ℕ) (r : Result ℕ RunFault) (fault : RunFault) → IsErrAnd r (λ e. e ≡ fault) → StopsReading limit before after old fault → Reads limit before after old new r
stops_at limit before after old new (Ok count) fault errs stops = absurd errs
stops_at limit before after old new (Err e) fault errs stops = subst (StopsReading limit before after old) (sym errs) stops
