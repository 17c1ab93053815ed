-- A kept fault of the store is a text, and a caller of this library has a handle of 64 bits. The text is the handle's
-- decimal digits.
use Rattle.std.specs.Prelude.{ℕ, ◌≡◌, decimal, string_bytes}
use Rattle.ext_model.specs.declared.look.Fault.{Fault}
use Rattle.ext_model.specs.declared.look.Fault.TheVariants as faults

-- The fault is the text of this handle.
abbrev pub IsFaultOf : ℕ → Fault → Type 0
IsFaultOf handle (faults.Text text) = string_bytes text ≡ decimal handle
IsFaultOf handle faults.Memory = ⊥
