-- Readings that gave something.
use Rattle.std.proofs.Common.{◌≡◌, Bool, true, false, Option, Some, None, Result, Ok, Err, refl, ap, sym, ◌∙◌}
use Rattle.std.specs.Result.{result_unwrap_or}
use Rattle.ext_plan_reading.specs.declared.fault.PlanFault.{PlanFault}
use Rattle.ext_plan_reading.specs.Faults.{some_or, check, ◌>>=◌}

pub ok_value : {A : Type 0} (x y : A) (read : Result A PlanFault) → read ≡ Ok x → read ≡ Ok y → x ≡ y
ok_value x y read g h = ap (λ r. result_unwrap_or r x) (sym g ∙ h)

-- two readings gave something: so did the first, and the second from it
pub both_gave : {A B : Type 0} (first : Result A PlanFault) (next : A → Result B PlanFault) (y : B) → (first >>= next) ≡ Ok y → (x : A) × (first ≡ Ok x) × (next x ≡ Ok y)
both_gave (Ok x) next y h = (x, refl, h)
both_gave (Err e) next y h = absurd cc

pub was_some : {A : Type 0} (e : PlanFault) (o : Option A) (x : A) → some_or e o ≡ Ok x → o ≡ Some x
was_some e (Some y) x h = ap Some (ok_value y x _ refl h)
was_some e None x h = absurd cc

pub passed : (e : PlanFault) (b : Bool) (x : Unit {0}) → check e b ≡ Ok x → b ≡ true
passed e true x h = refl
passed e false x h = absurd cc
