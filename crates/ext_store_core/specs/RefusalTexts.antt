-- What a refusal prints. Texts are lists of bytes, numbers are decimal. The texts are not from JUnit.
use Rattle.std.specs.Prelude.{ℕ, codes, List, ◌++◌}
use Rattle.std.specs.Fmt.{decimal}
use Rattle.ext_store_core.specs.declared.fault.Refusal.{Refusal}
use Rattle.ext_store_core.specs.declared.fault.Refusal.TheVariants as refusals

abbrev pub refusal_text : Refusal → List ℕ
refusal_text (refusals.Busy at) = codes "busy at context " ++ decimal at
refusal_text (refusals.Closed at) = codes "context " ++ decimal at ++ codes " is closed"
refusal_text refusals.Contended = codes "contended"
refusal_text refusals.Exhausted = codes "exhausted"
refusal_text refusals.DirectoryFull = codes "directory full"
refusal_text refusals.Unplaced = codes "unplaced"
refusal_text refusals.Memory = codes "no memory"
