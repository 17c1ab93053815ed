-- A fault as it is written, and how a call or a node ended, with its fault as it is written. A text stands for itself,
-- and a lack of memory is `no memory`.
use Rattle.std.specs.Prelude.{ℕ, codes, List, map, string_bytes}
use Rattle.ext_model.specs.declared.look.Fault.{Fault}
use Rattle.ext_model.specs.declared.look.Fault.TheVariants as faults
use Rattle.ext_lifecycle.specs.declared.node_result.NodeResult.{NodeResult}
use Rattle.ext_lifecycle.specs.declared.outcome.Verdict.{Verdict}
use Rattle.ext_lifecycle.specs.Endings.{Ending, with_fault}
use Rattle.ext_lifecycle.specs.Lifecycle.{ending_of}
use Rattle.ext_lifecycle.specs.Results.{ResultOf, as_result, map_fault}

abbrev pub fault_text : Fault → List ℕ
fault_text (faults.Text text) = string_bytes text
fault_text faults.Memory = codes "no memory"

-- How a call ended, with the text of its fault.
abbrev pub VerdictText : Type 0
VerdictText = Ending (List ℕ)

abbrev pub verdict_text : Verdict → VerdictText
verdict_text verdict = with_fault fault_text (ending_of verdict)

-- A node's result, with its fault as it is written.
abbrev pub NodeOutcome : Type 0
NodeOutcome = ResultOf (List ℕ)

abbrev pub result_view : NodeResult → NodeOutcome
result_view r = map_fault fault_text (as_result r)

abbrev pub results_view : List NodeResult → List NodeOutcome
results_view results = map result_view results
