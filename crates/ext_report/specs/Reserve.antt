-- Which nodes were kept in reserve and did not come. The number of cases of a parametrised, a repeated or a dynamic
-- test may be known only during the run (JUnit 5 User Guide, "Parameterized Tests", "Repeated Tests" and "Dynamic
-- Tests"). Such a test has as many nodes in the tree as there may be cases, and those without a case are skipped. That
-- nodes are kept so, and told by a type of segment, is not from JUnit.
use Rattle.std.specs.Prelude.{ℕ, Bool, ◌&&◌, List}
use Rattle.std.specs.List.{list_any}
use Rattle.std.specs.Str.{bytes_eq}
use Rattle.ext_tree.specs.Trees.{Id, id_at}
use Rattle.ext_lifecycle.specs.declared.node_result.NodeResult.{NodeResult}
use Rattle.ext_lifecycle.specs.declared.status.Status.TheVariants as statuses
use Rattle.ext_report.specs.Report.{is_status}

-- The id has a segment of this type.
abbrev pub has_type : List ℕ → Id → Bool
has_type kind id = list_any (λ segment. bytes_eq segment.0 kind) id

-- The node was skipped, and stands at or below a segment of this type. A number past the tree's end is of no node.
abbrev pub did_not_come : List Id → List ℕ → NodeResult → Bool
did_not_come ids kind r = is_status r.status statuses.Skipped && has_type kind (id_at ids r.node)
