use Rattle.std.proofs.Common.{◌≡◌, ◌∙◌, ap, arith, refl, subst, take}
use Rattle.std.specs.Prelude.{◌==◌, ◌&&◌}
use Rattle.std.specs.List.{list_any}
use Rattle.std.proofs.lemmas.List.{take_all}
use Rattle.ext_races.specs.InnerStanding.{compute_at, computes_of, computes_view, is_number, unless}
use Rattle.ext_races.specs.MadeSteps.{path_of}
use Rattle.ext_races.proofs.Removed.{past_more, past_none, set_forgets}
use Rattle.ext_races.proofs.standing.forget_past.Goals as goal

pub loop-node-init : goal.loop-node-init
loop-node-init c = record {
  count = refl;
  forgotten = λ node number. past_none c.args.tree.now c.args.nodes.now c.args.context node number c.args.key (compute_at (computes_of (computes_view c.args.lists.now.items) node) number);
}

pub index_mut-requires : goal.index_mut-requires
index_mut-requires c =
    let within = c.requires.nodes c.loop-node.node-index 0 (omega arith) in
    let so_far = c.loop-node.invariant.count in
    let first = c.requires.count in
    omega (arith, within, so_far, first)

pub loop-node-preserved : goal.loop-node-preserved
loop-node-preserved c =
    let nodes = c.args.nodes.now in
    let i = c.loop-node.node-index in
    let lists = c.loop-node.lists in
    let tree = c.args.tree.now in
    let within = c.requires.nodes i 0 (omega arith) in
    record {
      count = c.loop-node.invariant.count;
      forgotten = λ node number.
          past_more tree nodes c.args.context node number c.args.key i 0 c.key_past-key.result (compute_at (computes_of (computes_view c.args.lists.now.items) node) number) _ _ (omega arith)
          (c.key_past-key.ensures number ∙ ap (λ p. is_number c.args.key number && list_any (λ at. at == c.args.context) p) (c.path_in.ensures.path within)) (c.loop-node.invariant.forgotten node number)
          (set_forgets lists.items _ c.index_mut.result.now c.forget_key.new.computes c.key_past-key.result (let ok = lists.ok in let so_far = c.loop-node.invariant.count in let first = c.requires.count in omega (arith, ok, within, so_far, first))
          c.index_mut.ensures.value c.forget_key.ensures node number);
    }

pub returns-clause-count : goal.returns-clause-count
returns-clause-count c = c.loop-node.invariant.count

pub returns-clause-forgotten : goal.returns-clause-forgotten
returns-clause-forgotten c = λ node number.
    let past = c.loop-node-test.false in
    let whole : take c.loop-node.node-index c.args.nodes.now ≡ c.args.nodes.now = take_all c.loop-node.node-index c.args.nodes.now past in
    subst (λ nodes. compute_at (computes_of (computes_view c.loop-node.lists.items) node) number
    ≡ unless (is_number c.args.key number && list_any (λ at. at == node) nodes && list_any (λ at. at == c.args.context) (path_of c.args.tree.now node)) (compute_at (computes_of (computes_view c.args.lists.now.items) node) number)) whole
    (c.loop-node.invariant.forgotten node number)
