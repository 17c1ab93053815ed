use Rattle.std.proofs.Common.{◌≤◌, ap, arith, length, subst}
use Rattle.ext_tree.specs.Trees.{id_at, IsPathOf}
use Rattle.ext_engine.proofs.Below.{items_below}
use Rattle.ext_engine.proofs.node.parts.container_parts.Goals as goal

pub returns : goal.returns
returns g c =
    let st = c.args.nodes.now.store.now in
    let node = c.args.item.node in
    let path = c.path-path.result.now in
    let deep : 1 ≤ c.args.depth = (let e = ap (λ ids. length (id_at ids node)) c.tree.ensures in omega (arith, c.requires.item.depth_is, c.path-path.ensures.depth, c.path-path.ensures.few, e)) in
    let befores = c.in_ok-befores.ensures in
    let children = c.in_ok-beside.ensures in
    let below = items_below st c.args.depth node in
    record {
      parts = (
        (
          c.take_own-closer.ensures.of_store,
          c.take_own-closer.ensures.of_node,
          (path, subst (λ ids. IsPathOf ids node path) c.tree.ensures c.path-path.ensures.path, befores.befores, befores.afters),
          befores.few.0,
          befores.few.1,
          record {
            concurrent = children.beside;
            same_thread = children.in_turn;
            beside_below = below c.in_ok-beside.beside.items c.requires.item.depth_is deep children.closers.0;
            in_turn_below = below c.in_ok-beside.in_turn.items c.requires.item.depth_is deep children.closers.1;
            few = children.few;
            none_yet = c.in_ok-outcomes.ensures.items;
            room = (let e = c.len.ensures in let f = c.in_ok-outcomes.ensures.capacity in omega (arith, e, f));
          },
          deep,
        ),
        tt,
      );
    }
