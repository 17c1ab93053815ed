use Rattle.std.proofs.Common.{rules, refl}
use Rattle.ext_table.proofs.Building.{changed_last}
use Rattle.ext_table.proofs.table.TestTable.before_each.Goals as goal

pub returns-in-Some-clause-said : goal.returns-in-Some-clause-said
returns-in-Some-clause-said g c = changed_last _ c.args.self.now.rows.items _ c.in-Some.row.now _ (search rules) (c.in-Some.ensures.variant.0 refl) c.in-Some.ensures.value (refl, c.push_given.ensures)
