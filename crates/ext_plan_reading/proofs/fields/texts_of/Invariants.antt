use Rattle.std.proofs.Common.{◌≡◌, drop, map, []}
use Rattle.toml.specs.View.{items_view}
use Rattle.toml.specs.Data.{as_str}
use Rattle.ext_plan_reading.specs.Fields.{all_after}
use Rattle.ext_plan_reading.proofs.fields.texts_of.Given as goal

abbrev pub invariant-loop-item : goal.invariant-loop-item
invariant-loop-item l =
    all_after as_str [] (items_view l.items) ≡ all_after as_str (map (λ t. t.now) l.texts.items) (items_view (drop l.item-index l.items))
