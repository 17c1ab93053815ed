use Rattle.std.proofs.Common.{◌<◌, length, subst, sym, rules}
use Rattle.ext_table.specs.Building.{HasPushed}
use Rattle.ext_table.proofs.Building.{held_at}
use Rattle.ext_table.proofs.table.TestTable.node.Goals as goal

pub returns-in-Ok-push : goal.returns-in-Ok-push
returns-in-Ok-push g c =
    let within : c.in-Some.above < length c.args.self.now.ids.items = search rules in
    record {
      above = c.in-Some.above;
      above_is = sym c.in-Some.ensures.index;
      outer_id = c.index.result.now;
      outer_id_is = held_at _ _ _ within c.index.ensures;
      outer = c.index-2.result.now;
      outer_is = held_at _ _ _ c.in-Some.ensures.within c.index-2.ensures;
      row = c.new_row-row.result;
      row_is = c.new_row-row.ensures;
      added = subst (λ id. HasPushed c.args.level id c.new_row-row.result c.args.self.now c.push.new.self) c.in-Ok.ensures.made.1 c.in-Ok-push.ensures;
    }
