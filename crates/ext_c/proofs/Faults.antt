-- The handle that was written into a fault's text is read out of it; where none is read none was written.
use Rattle.std.proofs.Common.{ℕ, ◌≡◌, ◌<◌, ◌^◌, ◌∙◌, List, ap, subst, sym, Ok, Err, Some, None}
use Rattle.std.specs.Prelude.{Option, Result, decimal}
use Rattle.ext_model.specs.declared.look.Fault.{Fault}
use Rattle.ext_values.specs.Known.{KeepsKnown, Known, known_at}
use Rattle.ext_c.specs.Faults.{IsFaultOf}
use Rattle.std.specs.Str.Parse.{ParsesUnsigned}
use Rattle.std.proofs.lemmas.Fmt.{parse-decimal}

abbrev ok_or : {E : Type 0} → ℕ → Result ℕ E → ℕ
ok_or d (Ok n) = n
ok_or d (Err e) = d

pub read_back : (E : Type 0) (own handle : ℕ) (text : List ℕ) → own < 2 ^ 64 → text ≡ decimal own → ParsesUnsigned {E = E} 64 10 text (Ok handle) → handle ≡ own
read_back E own handle text few is parses = ap (λ (r : Result ℕ E). ok_or 0 r) (parse-decimal 64 own text (Ok handle) few few is parses)

abbrev IsOk : {E : Type 0} → Result ℕ E → Type 0
IsOk (Ok n) = Unit {0}
IsOk (Err e) = ⊥

pub not_read : (E : Type 0) (own : ℕ) (text : List ℕ) (e : E) → own < 2 ^ 64 → text ≡ decimal own → ParsesUnsigned {E = E} 64 10 text (Err e) → ⊥
not_read E own text e few is parses = subst (λ (r : Result ℕ E). IsOk r) (sym (parse-decimal 64 own text (Err e) few few is parses)) tt

abbrev or_this : Fault → Option Fault → Fault
or_this own None = own
or_this own (Some other) = other

-- a lane knew no fault of the number that has a handle, where it knows one now that has none
pub none_known : (before after : List (Known Fault)) (number : ℕ) (fault : Fault) → KeepsKnown before after → known_at after number ≡ Some fault
    → ((own : ℕ) → own < 2 ^ 64 → IsFaultOf own fault → ⊥) → (why : Fault) (own : ℕ) → known_at before number ≡ Some why → own < 2 ^ 64 → IsFaultOf own why → ⊥
none_known before after number fault keeps learnt none why own known few is = none own few (subst (IsFaultOf own) (ap (or_this why) (sym (keeps number why known) ∙ learnt)) is)
