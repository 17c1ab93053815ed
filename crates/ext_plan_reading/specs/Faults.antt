-- Reading step by step up to the first fault, and what a function answers that may run out of memory.
use Rattle.std.specs.Prelude.{◌≡◌, Bool, true, false, Option, Some, None, Result, Ok, Err}
use Rattle.ext_plan_reading.specs.declared.fault.PlanFault.{PlanFault}
use Rattle.ext_plan_reading.specs.declared.fault.PlanFault.TheVariants as faults

-- One reading after another. The first fault ends both.
infixl 10 ◌>>=◌
abbrev pub ◌>>=◌ : {A B : Type 0} → Result A PlanFault → (A → Result B PlanFault) → Result B PlanFault
(Ok x) >>= f = f x
(Err e) >>= f = Err e

-- The value, or this fault if there is none.
abbrev pub some_or : {A : Type 0} → PlanFault → Option A → Result A PlanFault
some_or e (Some x) = Ok x
some_or e None = Err e

-- Nothing, or this fault if the test fails.
abbrev pub check : PlanFault → Bool → Result (Unit {0}) PlanFault
check e true = Ok tt
check e false = Err e

-- ---- what a function answers

-- A fault is that of reading, except that memory may run out at any time.
abbrev pub Fails : {Y : Type 0} → PlanFault → Result Y PlanFault → Type 0
Fails faults.Memory read = Unit {0}
Fails why read = read ≡ Err why

-- A function returned what reading gives, seen by `view`, unless memory ran out.
abbrev pub Gives : {X Y : Type 0} → (X → Y) → Result X PlanFault → Result Y PlanFault → Type 0
Gives view (Ok x) read = read ≡ Ok (view x)
Gives view (Err e) read = Fails e read
