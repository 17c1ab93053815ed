-- How a request to a program over this crate ends: its exit status, and the line of a run's fault. The status is 0 if
-- the request was done and no node failed, 1 if a node failed, 2 if the command line, the plan or the id is refused,
-- and 3 if the work itself failed. Texts are lists of bytes.
use Rattle.std.specs.Prelude.{◌≡◌, ◌≢◌, ℕ, codes, List, ◌++◌, Some, Result, Ok, Err, if◌then◌else◌}
use Rattle.ext_ids.specs.declared.fault.IdFault.TheVariants as ids
use Rattle.ext_ids.specs.declared.making.PartFault.{PartFault}
use Rattle.ext_ids.specs.declared.making.PartFault.TheVariants as parts
use Rattle.ext_ids.specs.Faults.{HasFault}
use Rattle.ext_ids.specs.Grammar.{Pair, IsId}
use Rattle.ext_ids.specs.Making.{parts_fault}
use Rattle.ext_plan_parallel.specs.EngineFault.{EngineFault}
use Rattle.ext_plan_parallel.specs.EngineFault.TheVariants as engine
use Rattle.ext_plan_reading.specs.FaultParts.{line_of as plan_line}
use Rattle.ext_run.specs.declared.fault.RunFault.{RunFault}
use Rattle.ext_run.specs.declared.fault.RunFault.TheVariants as runs
use Rattle.ext_run.specs.declared.options.Summary.{Summary}
use Rattle.ext_run.specs.declared.request_fault.RequestFault.{RequestFault}
use Rattle.ext_run.specs.declared.request_fault.RequestFault.TheVariants as faults

-- The status of a run that gave no report.
abbrev pub status_of_run_fault : RunFault → ℕ
status_of_run_fault runs.Read = 3
status_of_run_fault runs.Write = 3
status_of_run_fault runs.TooLong = 2
status_of_run_fault (runs.Plan fault) = 2
status_of_run_fault (runs.Engine fault) = 3
status_of_run_fault runs.Memory = 3

-- The status of a request that was not done.
abbrev pub status_of_fault : RequestFault → ℕ
status_of_fault faults.CommandLine = 2
status_of_fault (faults.Id fault) = 2
status_of_fault (faults.Parts fault) = 2
status_of_fault (faults.Run fault) = status_of_run_fault fault

abbrev pub status_of : Result Summary RequestFault → ℕ
status_of (Ok summary) = if summary.failed then 1 else 0
status_of (Err fault) = status_of_fault fault

-- ---- the line of a fault

-- The code of a fault of the engine.
abbrev pub code_of : EngineFault → List ℕ
code_of engine.Memory = codes "E1"
code_of engine.NoThread = codes "E2"
code_of (engine.Unjoined context number) = codes "E3"

abbrev pub line_of : RunFault → List ℕ
line_of runs.Read = codes "read failed"
line_of runs.Write = codes "write failed"
line_of runs.TooLong = codes "plan too long"
line_of (runs.Plan fault) = plan_line fault
line_of (runs.Engine fault) = codes "run: " ++ code_of fault
line_of runs.Memory = codes "run: no memory"

-- ---- the request to read an id

-- Why a text is refused as an id: for the fault that it has. A lack of memory and a failed writer say nothing of it.
abbrev pub IsNoId : List ℕ → RequestFault → Type 0
IsNoId text faults.CommandLine = ⊥
IsNoId text (faults.Id fault) = fault ≢ ids.Memory → HasFault text fault
IsNoId text (faults.Parts fault) = ⊥
IsNoId text (faults.Run fault) = fault ≡ runs.Write

-- How the request ends for a text that is an id: it is done, memory was refused, or the writer failed.
abbrev pub IsIdEnd : Result Summary RequestFault → Type 0
IsIdEnd (Ok summary) = Unit {0}
IsIdEnd (Err faults.CommandLine) = ⊥
IsIdEnd (Err (faults.Id fault)) = fault ≡ ids.Memory
IsIdEnd (Err (faults.Parts fault)) = ⊥
IsIdEnd (Err (faults.Run fault)) = fault ≡ runs.Write

-- ---- the request to make an id of parts

-- The fault that these parts have, unless it is a lack of memory, which says nothing of them.
abbrev pub IsFaultOf : List Pair → PartFault → Type 0
IsFaultOf pairs fault = fault ≢ parts.Memory → parts_fault pairs ≡ Some fault

-- Why no id was made of these parts: for the fault that they have, or the writer failed.
abbrev pub IsNotMade : List Pair → RequestFault → Type 0
IsNotMade pairs faults.CommandLine = ⊥
IsNotMade pairs (faults.Id fault) = ⊥
IsNotMade pairs (faults.Parts fault) = IsFaultOf pairs fault
IsNotMade pairs (faults.Run fault) = fault ≡ runs.Write
