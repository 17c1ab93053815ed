use Rattle.std.proofs.Common.{◌≡◌, ◌∙◌, ◌<◌, length, ap, subst, sym, rules}
use Rattle.std.specs.Prelude.{All}
use Rattle.ext_selection.specs.Nodes.{AreIndices}
use Rattle.ext_table.specs.declared.row.NamedLock.{NamedLock}
use Rattle.ext_table.proofs.Arranging.{all_moved, all_renumbered, as_many}
use Rattle.ext_table.proofs.table.TestTable.arranged.Goals as goal

pub returns-clause-arranged : goal.returns-clause-arranged
returns-clause-arranged g c =
    let count : length c.args.self.rows.items ≡ c.len-count.result = search rules in
    record {
      ids_are = c.in_ok-ids.ensures (subst (λ n. AreIndices n c.args.indices.now) (sym c.args.self.same_count) c.requires);
      moved = c.in_ok-rows.rows.items;
      rows_are = c.in_ok-rows.ensures c.requires;
      renumbered = c.in_ok-rows-2.ensures (subst (λ n. AreIndices n c.args.indices.now) count c.requires);
    }

pub invariant_of-result : goal.invariant_of-result
invariant_of-result g c =
    let count : length c.args.self.rows.items ≡ c.len-count.result = search rules in
    let ids = c.in_ok-ids.ensures (subst (λ n. AreIndices n c.args.indices.now) (sym c.args.self.same_count) c.requires) in
    let rows = c.in_ok-rows.ensures c.requires in
    let done = c.in_ok-rows-2.ensures (subst (λ n. AreIndices n c.args.indices.now) count c.requires) in
    record {
      same_count = as_many c.args.self.ids.items c.args.self.rows.items c.in_ok-ids.ids.items c.in_ok-rows.rows.items c.args.indices.now ids rows ∙ sym done.count;
      known = all_renumbered (λ row. All (λ (lock : NamedLock). lock.name < length c.args.self.lock_names.items) row.locks.items) (λ a b same all. subst (λ locks. All (λ (lock : NamedLock). lock.name < length c.args.self.lock_names.items) locks.items) (sym (ap (λ r. r.locks) same)) all)
          c.args.indices.now c.in_ok-rows.rows.items c.in_ok-rows-2.rows.items done (all_moved (λ row. All (λ (lock : NamedLock). lock.name < length c.args.self.lock_names.items) row.locks.items) c.args.self.rows.items c.in_ok-rows.rows.items c.args.indices.now rows c.args.self.known);
      last_within = search rules;
    }
