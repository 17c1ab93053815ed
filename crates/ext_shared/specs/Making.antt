-- What becomes of what was to make a shared text. An own rule.
use Rattle.ext_shared.specs.declared.sharing.SharedFault.{SharedFault}
use Rattle.ext_shared.specs.declared.sharing.SharedFault.TheVariants.{Name, Folder, Make}

-- Where it is the fault with which the text was not made.
abbrev pub IfNotMade : {E : Type 0} → SharedFault E → (E → Type 0) → Type 0
IfNotMade Name P = Unit {0}
IfNotMade (Folder why) P = Unit {0}
IfNotMade (Make fault) P = P fault

abbrev pub IsNameFault : {E : Type 0} → SharedFault E → Type 0
IsNameFault Name = Unit {0}
IsNameFault (Folder why) = ⊥
IsNameFault (Make fault) = ⊥
