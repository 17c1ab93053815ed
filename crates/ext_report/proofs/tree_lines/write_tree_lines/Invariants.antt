use Rattle.std.proofs.Common.{◌≡◌, ◌++◌, string_bytes, take}
use Rattle.std.specs.List.{flat_map}
use Rattle.ext_lifecycle.specs.FaultTexts.{results_view}
use Rattle.ext_report.specs.Groups.{shown}
use Rattle.ext_report.specs.Report.{outcome_part}
use Rattle.ext_report.specs.TreeLines.{tree_head}
use Rattle.ext_report.proofs.tree_lines.write_tree_lines.Given as goal

abbrev pub invariant-loop-node : goal.invariant-loop-node
invariant-loop-node l =
    string_bytes l.text ≡ string_bytes l.initial.text ++ flat_map (λ r. tree_head l.id ++ outcome_part l.extras r) (results_view (shown (take l.node-index l.results)))
