-- What private functions read, and which output or fault they answer. No public contract cites it.
use Rattle.std.specs.Prelude.{◌≡◌, ◌<◌, ◌≤◌, ℕ, ◌+◌, false, List, ◌++◌, length, Option, Result, Ok, Err}
use Rattle.std.specs.Io.KnownBytes.{Consumes, IsAtEnd}
use Rattle.ext_ids.specs.Grammar.{Pair, IsId}
use Rattle.ext_ids.specs.declared.making.PartFault.{PartFault}
use Rattle.ext_plan_parallel.specs.ParallelRun.{IsRefusedRun}
use Rattle.ext_plan_reading.specs.Plans.{PlanText}
use Rattle.ext_run.specs.declared.fault.RunFault.{RunFault}
use Rattle.ext_run.specs.declared.fault.RunFault.TheVariants as faults
use Rattle.ext_run.specs.declared.options.Options.{Options}
use Rattle.ext_run.specs.declared.runs.Output.{Output}
use Rattle.ext_run.specs.Checks.{IsCountsOf, RefusedUnrun}
use Rattle.ext_run.specs.IdText.{id_line}
use Rattle.ext_run.specs.Requests.{IsFaultOf}
use Rattle.ext_run.specs.Reports.{IsReadFault, RunReport}

-- ---- the input

-- `count` more bytes were read, 0 only at the end, and the input stays within this limit.
pub record ReadsMore (limit : ℕ) (before after : Option (List ℕ)) (old new : List ℕ) (count : ℕ) : Type 0 where
  pub bytes : List ℕ
  pub taken : Consumes before after bytes
  pub kept : new ≡ old ++ bytes
  pub counted : length bytes ≡ count
  pub short : length new ≤ limit
  pub ended : count ≡ 0 → IsAtEnd after

-- These bytes were read, and then reading stopped for this fault.
pub record StopsReading (limit : ℕ) (before after : Option (List ℕ)) (old : List ℕ) (fault : RunFault) : Type 0 where
  pub bytes : List ℕ
  pub taken : Consumes before after bytes
  pub short : length (old ++ bytes) ≤ limit + 1
  pub known : IsReadFault fault
  pub long : fault ≡ faults.TooLong → limit < length (old ++ bytes)

abbrev pub Reads : ℕ → Option (List ℕ) → Option (List ℕ) → List ℕ → List ℕ → Result ℕ RunFault → Type 0
Reads limit before after old new (Ok count) = ReadsMore limit before after old new count
Reads limit before after old new (Err fault) = StopsReading limit before after old fault

-- ---- the run

-- Why a plan that was read has no results: memory was refused, or its run on several lanes was.
abbrev pub IsPlanFault : Options → PlanText → RunFault → Type 0
IsPlanFault options plan faults.Read = ⊥
IsPlanFault options plan faults.Write = ⊥
IsPlanFault options plan faults.TooLong = ⊥
IsPlanFault options plan (faults.Plan fault) = ⊥
IsPlanFault options plan (faults.Engine fault) = (options.plain ≡ false) × IsRefusedRun plan options.lanes fault
IsPlanFault options plan faults.Memory = Unit {0}

-- ---- the report

abbrev pub output_view : Output → RunReport
output_view o = record { report = o.report.items; failed = o.failed; lacked = o.lacked }

-- ---- the line of a plan that is not run

-- A function returned the line of what was read, or a fault that fits it.
abbrev pub ChecksAs : {X : Type 0} → (X → List ℕ) → Result X RunFault → Result PlanText RunFault → Type 0
ChecksAs view (Ok x) read = IsCountsOf read (view x)
ChecksAs view (Err fault) read = RefusedUnrun fault read

-- ---- the line of an id that is made

-- A function returned the line of the id that these parts make, or their fault.
abbrev pub MakesLine : {X : Type 0} → (X → List ℕ) → List Pair → Result X PartFault → Type 0
MakesLine view pairs (Ok x) = IsId pairs × (view x ≡ id_line pairs)
MakesLine view pairs (Err fault) = IsFaultOf pairs fault
