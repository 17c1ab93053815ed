use Rattle.std.proofs.Common.{◌≡◌, drop, []}
use Rattle.toml.specs.View.{items_view}
use Rattle.ext_plan_reading.specs.Fields.{all_after, texts_in}
use Rattle.ext_plan_reading.specs.InnerSketches.{lists_view}
use Rattle.ext_plan_reading.proofs.fields.text_lists_of.Given as goal

abbrev pub invariant-loop-item : goal.invariant-loop-item
invariant-loop-item l = all_after texts_in [] (items_view l.items) ≡ all_after texts_in (lists_view l.lists) (items_view (drop l.item-index l.items))
