-- Ids that are made of parts, as JUnit's `UniqueId.append` makes them: which parts make an id, and the first fault of
-- others. A part is a type and a value, decoded: any characters may stand in both, and marks are escaped where the id
-- is written.
use Rattle.std.specs.Prelude.{◌≡◌, ◌⊎◌, ◌↔◌, ℕ, ◌+◌, ◌==◌, nat_le, codes, List, [], ◌∷◌, ◌++◌, length, map, Option, Some, None, Result, Ok, Err, if◌then◌else◌}
use Rattle.std.specs.Borrow.{Bor}
use Rattle.std.specs.Fmt.{decimal}
use Rattle.std.specs.Option.{option_or}
use Rattle.ext_ids.specs.Grammar.{Pair, IsId}
use Rattle.ext_ids.specs.declared.making.PartFault.{PartFault}
use Rattle.ext_ids.specs.declared.making.PartFault.TheVariants as faults

-- Parts as a call is given them.
abbrev pub pairs_of : List (Bor (List ℕ) × Bor (List ℕ)) → List Pair
pairs_of parts = map (λ part. (part.0.now, part.1.now)) parts

-- The fault of the part that would be segment `at`.
abbrev pub fault_at : ℕ → Pair → Option PartFault
fault_at at part =
    if nat_le 16 at then Some faults.TooMany
    else if length part.0 == 0 then Some (faults.NoType at)
    else if length part.1 == 0 then Some (faults.NoValue at)
    else None

-- The first fault of parts, from the left, of which the first would be segment `at`.
abbrev pub first_fault : ℕ → List Pair → Option PartFault
first_fault at [] = None
first_fault at (part ∷ others) = option_or (fault_at at part) (first_fault (at + 1) others)

-- The fault of parts that make no id.
abbrev pub parts_fault : List Pair → Option PartFault
parts_fault [] = Some faults.NoPart
parts_fault (part ∷ others) = first_fault 0 (part ∷ others)

-- A call made the id of these parts, or refused them for their fault; or they make an id, and there was no memory.
abbrev pub Makes : List Pair → Result (List Pair) PartFault → Type 0
Makes parts (Ok id) = IsId parts × (id ≡ parts)
Makes parts (Err fault) = (parts_fault parts ≡ Some fault) ⊎ ((fault ≡ faults.Memory) × IsId parts)

-- Parts make an id exactly where they have no fault.
abbrev pub FaultsTellIds : Type 0
FaultsTellIds = (parts : List Pair) → (parts_fault parts ≡ None) ↔ IsId parts

-- The line that is printed for a fault.
abbrev pub line_of : PartFault → List ℕ
line_of faults.NoPart = codes "id: no part"
line_of (faults.NoType at) = codes "id: part " ++ decimal at ++ codes " has no type"
line_of (faults.NoValue at) = codes "id: part " ++ decimal at ++ codes " has no value"
line_of faults.TooMany = codes "id: more than 16 parts"
line_of faults.Memory = codes "id: I9"
