use Rattle.std.proofs.Common.{◌∙◌, ◌++◌, [], ◌∷◌, ap, length}
use Rattle.ext_table.proofs.table.TestTable.new.Goals as goal

pub returns-in-Ok-push-clause-made : goal.returns-in-Ok-push-clause-made
returns-in-Ok-push-clause-made g c =
    let pushed = c.in-Ok-push.ensures in
    record {
      ids_are = pushed.ids_are ∙ ap (λ l. l ++ c.in-Ok.id ∷ []) c.new.ensures.items ∙ ap (λ id. id ∷ []) c.in-Ok.ensures.made.1;
      row = c.new_row-row.result;
      row_is = c.new_row-row.ensures;
      rows_are = pushed.rows_are ∙ ap (λ l. l ++ c.new_row-row.result ∷ []) c.new-2.ensures.items;
      names_are = pushed.names_are ∙ c.new-3.ensures.items;
      last_are = pushed.last_are ∙ ap (λ l. length l ∷ []) c.new-2.ensures.items;
    }
