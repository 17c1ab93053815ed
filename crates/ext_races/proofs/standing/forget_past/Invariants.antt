use Rattle.std.proofs.Common.{◌≡◌, ℕ, take, vec_len}
use Rattle.std.specs.Prelude.{◌==◌, ◌&&◌}
use Rattle.std.specs.List.{list_any}
use Rattle.ext_races.specs.InnerStanding.{compute_at, computes_of, computes_view, is_number, unless}
use Rattle.ext_races.specs.MadeSteps.{path_of}
use Rattle.ext_races.proofs.standing.forget_past.Given as goal

abbrev pub invariant-loop-node : goal.invariant-loop-node
invariant-loop-node l = record {
  count : vec_len l.lists ≡ vec_len l.fn.lists;
  forgotten : (node number : ℕ) → compute_at (computes_of (computes_view l.lists.items) node) number
      ≡ unless (is_number l.key number && list_any (λ c. c == node) (take l.node-index l.nodes) && list_any (λ c. c == l.context) (path_of l.tree node)) (compute_at (computes_of (computes_view l.fn.lists.items) node) number);
}
