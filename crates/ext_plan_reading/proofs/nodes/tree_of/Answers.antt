use Rattle.std.proofs.Common.{arith, ap, map, length, subst}
use Rattle.std.proofs.lemmas.List.{length-map}
use Rattle.ext_tree.specs.Trees.{HasFault, IsTreeWithin}
use Rattle.ext_plan_reading.specs.InnerSketches.{sketch_view}
use Rattle.ext_plan_reading.proofs.TreeTests.{is_a_tree, is_no_tree}
use Rattle.ext_plan_reading.proofs.nodes.tree_of.Goals as goal

pub returns-in-Ok-clause-exact : goal.returns-in-Ok-clause-exact
returns-in-Ok-clause-exact c =
    let tree = subst (λ most. IsTreeWithin most c.as_slice.result.now) c.contexts.ensures c.in-Ok.ensures.found in
    rw (← c.in_ok-ids.ensures, ← c.as_slice.ensures.value) (is_a_tree c.args.size _ tree)

pub returns-in-Ok-clause-few : goal.returns-in-Ok-clause-few
returns-in-Ok-clause-few c =
    let same = length-map c.args.sketches.now sketch_view in
    let all = length-map (map sketch_view c.args.sketches.now) (λ s. s.id) in
    let ids = ap length c.in_ok-ids.ensures in
    let slice = ap length c.as_slice.ensures.value in
    let few = c.in-Ok.ensures.found.few in
    omega (arith, same, all, ids, slice, few, c.contexts.ensures)

pub returns : goal.returns
returns c =
    let fault = subst (λ most. HasFault most c.as_slice.result.now c.in-Err.fault) c.contexts.ensures (c.in-Err.ensures.fault c.in_default.not-Memory) in
    record {
      exact = rw (← c.in_ok-ids.ensures, ← c.as_slice.ensures.value) (is_no_tree c.args.size _ c.in-Err.fault fault);
      ids = tt;
      few = tt;
    }
