use Rattle.std.proofs.Common.{◌∙◌, ◌++◌, arith, ap, sym, map}
use Rattle.std.proofs.lemmas.List.{drop_all}
use Rattle.toml.specs.View.{table_view}
use Rattle.ext_plan.proofs.Lists.{map-drop}
use Rattle.ext_plan_reading.specs.AllFaults.{key_faults}
use Rattle.ext_plan_reading.proofs.AllFaults.{all_keys, key_turn}
use Rattle.ext_plan_reading.proofs.stages.tables.key_faults.Goals as goal

pub loop-number-preserved : goal.loop-number-preserved
loop-number-preserved c =
    let more = map-drop (λ t. table_view t.now) c.args.tables.now c.loop-number.number c.index-tables-number.result (omega arith) c.index-tables-number.is in
    key_turn c.loop-number.faults.items c.add_key_fault.new.faults.items _ c.loop-number.number c.loop-number.labels c.add_key_fault.new.labels (table_view c.index-tables-number.result.now) _
    (ap (λ l. c.loop-number.faults.items ++ key_faults c.loop-number.number c.loop-number.labels l) (sym more) ∙ c.loop-number.invariant) c.in_ok-add_key_fault.ensures.faults c.in_ok-add_key_fault.ensures.labels

pub returns : goal.returns
returns c = all_keys c.loop-number.faults.items _ c.loop-number.number c.loop-number.labels _ (ap (map (λ t. table_view t.now)) (drop_all c.loop-number.number c.args.tables.now (omega arith))) c.loop-number.invariant
