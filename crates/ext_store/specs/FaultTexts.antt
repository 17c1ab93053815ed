-- What a fault says that is made of a printed text, and what a fault of a keep prints. Texts are lists of bytes. They
-- are not from JUnit.
use Rattle.std.specs.Prelude.{◌≡◌, Option, Some, IfSome, List, ℕ, codes, string_bytes}
use Rattle.ext_model.specs.declared.look.Fault.{Fault}
use Rattle.ext_model.specs.declared.look.Fault.TheVariants as model_faults
use Rattle.ext_store.specs.declared.fault.KeepFault.{KeepFault}
use Rattle.ext_store.specs.declared.fault.KeepFault.TheVariants as keep_faults

-- The fault has what is printed as its text, if that is specified; or there was no memory for a text.
abbrev pub IsToldBy : Option (List ℕ) → Fault → Type 0
IsToldBy printed (model_faults.Text said) = IfSome printed (λ text. string_bytes said ≡ text)
IsToldBy printed model_faults.Memory = Unit {0}

-- The same of a text.
abbrev pub IsTold : List ℕ → Fault → Type 0
IsTold text why = IsToldBy (Some text) why

-- The fault is a copy of this one, or there was no memory for its text.
abbrev pub IsCopyOf : Fault → Fault → Type 0
IsCopyOf (model_faults.Text said) copy = IsTold (string_bytes said) copy
IsCopyOf model_faults.Memory copy = copy ≡ model_faults.Memory

-- What a fault of a keep prints.
abbrev pub keep_fault_text : KeepFault → List ℕ
keep_fault_text keep_faults.Memory = codes "no memory"
keep_fault_text keep_faults.NumbersFull = codes "numbers full"
keep_fault_text keep_faults.Contended = codes "contended"
keep_fault_text keep_faults.Unplaced = codes "unplaced"
