use Rattle.std.proofs.Common.{rules, ◌≡◌, ◌∷◌, [], List, sym, subst}
use Rattle.atomic_table.specs.Table.{opening}
use Rattle.ext_crew.specs.InnerCounter.{Kept, drawn}
use Rattle.ext_crew.specs.declared.jobs.slot.Slot.{Slot}
use Rattle.ext_crew.proofs.Draws.{opens}
use Rattle.ext_crew.proofs.jobs.counter.open_counter.Goals as goal

pub new-requires : goal.new-requires
new-requires g c =
    let S : List (Slot g.row.T.Denot g.row.O.Denot) → Type 0 = λ xs. Kept c.args.items.items (opening (0 ∷ []) xs (drawn 33 [] [] c.args.items.items)) in
    let K : List g.row.T.Denot → Type 0 = λ xs. Kept xs (opening (0 ∷ []) c.in_ok-slots.slots.items (drawn 33 [] [] xs)) in
    let same : c.args.items.items ≡ c.of-key.result.value.items = search rules in
    subst K same (subst S (sym c.in_ok-slots.ensures) (opens c.args.items.items))
