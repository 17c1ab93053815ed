-- A fact of what a result has, from another.
use Rattle.std.specs.Prelude.{Result, Ok, Err, IfOk, IfErr}

-- a fact of what a result has, if it has it, from another
pub if_ok : {T E : Type 0} {P Q : T → Type 0} (r : Result T E) → ((value : T) → P value → Q value) → IfOk r P → IfOk r Q
if_ok (Ok value) more fact = more value fact
if_ok (Err why) more fact = fact

pub if_err : {T E : Type 0} {P Q : E → Type 0} (r : Result T E) → ((why : E) → P why → Q why) → IfErr r P → IfErr r Q
if_err (Ok value) more fact = fact
if_err (Err why) more fact = more why fact
