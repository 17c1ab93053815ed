use Rattle.std.proofs.Common.{◌≡◌, length, map, string_bytes, take}
use Rattle.ext_tree.specs.Trees.{id_at}
use Rattle.ext_page.specs.Nodes.{ArePlaces, HaveParents, name_text}
use Rattle.ext_page.proofs.nodes.PlacedNodes.of.Given as goal

abbrev pub invariant-loop-ran : goal.invariant-loop-ran
invariant-loop-ran l = record {
  count : length l.nodes.items ≡ l.ran-index;
  sizes : length l.places.items ≡ length l.tree;
  names : map (λ n. string_bytes n.name) l.nodes.items ≡ map (λ r. name_text (id_at l.tree r.node)) (take l.ran-index l.results);
  parents : HaveParents l.tree l.results l.nodes.items;
  places : ArePlaces (take l.ran-index l.results) l.places.items;
  statuses : map (λ n. n.status) l.nodes.items ≡ map (λ r. r.status) (take l.ran-index l.results);
  tests : map (λ n. n.is_test) l.nodes.items ≡ map (λ r. r.is_test) (take l.ran-index l.results);
}
