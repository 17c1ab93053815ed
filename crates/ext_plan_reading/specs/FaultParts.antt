-- In which part of a plan a fault is, and the fault's line: its code, then that part. Texts are lists of bytes, numbers are
-- decimal.
use Rattle.std.specs.Prelude.{ℕ, codes, List, [], ◌++◌}
use Rattle.std.specs.Fmt.{decimal}
use Rattle.ext_plan_reading.specs.declared.fault.PlanFault.{PlanFault}
use Rattle.ext_plan_reading.specs.declared.fault.PlanFault.TheVariants as faults
use Rattle.ext_plan_reading.specs.declared.fault.PlanPart.{PlanPart}
use Rattle.ext_plan_reading.specs.declared.fault.PlanPart.TheVariants as plan_parts

abbrev pub part_of : PlanFault → PlanPart
part_of faults.NotUtf8 = plan_parts.Whole
part_of faults.NotToml = plan_parts.Whole
part_of (faults.UnknownField part) = part
part_of (faults.BadField part) = part
part_of (faults.BadLabel key) = plan_parts.Key key
part_of (faults.BadId node) = plan_parts.Node node
part_of faults.BadTree = plan_parts.Whole
part_of (faults.BadStep node) = plan_parts.Node node
part_of (faults.BadLock node) = plan_parts.Node node
part_of (faults.BadTest node) = plan_parts.Node node
part_of faults.TooMany = plan_parts.Whole
part_of faults.Memory = plan_parts.Whole

-- The number of the fault's code.
abbrev pub code_of : PlanFault → ℕ
code_of faults.NotUtf8 = 1
code_of faults.NotToml = 2
code_of (faults.UnknownField part) = 3
code_of (faults.BadField part) = 4
code_of (faults.BadLabel key) = 5
code_of (faults.BadId node) = 6
code_of faults.BadTree = 7
code_of (faults.BadStep node) = 8
code_of (faults.BadLock node) = 9
code_of (faults.BadTest node) = 10
code_of faults.TooMany = 11
code_of faults.Memory = 12

-- A part after a code. The plan as a whole is not named.
abbrev pub part_text : PlanPart → List ℕ
part_text plan_parts.Whole = []
part_text (plan_parts.Key key) = codes " key " ++ decimal key
part_text (plan_parts.Node node) = codes " node " ++ decimal node

-- For instance `plan: P5 key 1`.
abbrev pub line_of : PlanFault → List ℕ
line_of fault = codes "plan: P" ++ decimal (code_of fault) ++ part_text (part_of fault)
