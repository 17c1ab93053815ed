-- The line that explains a fault: first in which part of the plan the fault is, then what it means.
use Rattle.std.specs.Prelude.{◌≡◌, ℕ, codes, List, ◌++◌}
use Rattle.std.specs.Fmt.{decimal}
use Rattle.ext_plan_reading.specs.declared.fault.PlanFault.{PlanFault}
use Rattle.ext_plan_reading.specs.declared.fault.PlanPart.{PlanPart}
use Rattle.ext_plan_reading.specs.declared.fault.PlanPart.TheVariants as plan_parts
use Rattle.ext_plan_reading.specs.FaultParts.{part_of}

-- A part in words.
abbrev pub part_words : PlanPart → List ℕ
part_words plan_parts.Whole = codes "the plan"
part_words (plan_parts.Key key) = codes "key " ++ decimal key
part_words (plan_parts.Node node) = codes "node " ++ decimal node

-- The line names the key or the node of the fault, and says something about it.
pub record Explains (fault : PlanFault) (line : List ℕ) : Type 0 where
  pub meaning : List ℕ
  pub part : line ≡ part_words (part_of fault) ++ codes ": " ++ meaning
