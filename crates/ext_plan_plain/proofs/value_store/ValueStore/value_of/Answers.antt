use Rattle.std.proofs.Common.{◌≡◌, ◌∙◌, suc, arith, ap, sym, map}
use Rattle.std.specs.Prelude.{option_map}
use Rattle.std.proofs.lemmas.Option.{slice_get-map}
use Rattle.ext_plan_plain.specs.ValueStates.{value_of}
use Rattle.ext_plan_plain.proofs.Outcomes.{copied_get}
use Rattle.ext_plan_plain.proofs.value_store.ValueStore.value_of.Goals as goal
use Rattle.ext_plan.specs.Values.{value_view}

pub returns-in-Some : goal.returns-in-Some
returns-in-Some c =
    let values = c.args.self.now.values.items in
    let number : c.args.number ≡ suc c.in-Some.place = omega (arith, c.in-Some.ensures.0, c.in-Some.ensures.1) in
    let found = copied_get values c.in-Some.place c.get.result (rw c.deref.ensures.value at c.get.ensures.lookup) in
    ap (option_map value_view) (c.copied.ensures ∙ found)
    ∙ sym (slice_get-map value_view values c.in-Some.place)
    ∙ ap (value_of (map value_view values)) (sym number)
