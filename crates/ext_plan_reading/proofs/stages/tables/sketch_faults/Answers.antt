use Rattle.std.proofs.Common.{◌∙◌, ◌++◌, option_to_list, arith, ap, sym, map}
use Rattle.std.proofs.lemmas.List.{drop_all}
use Rattle.toml.specs.View.{table_view}
use Rattle.ext_plan.proofs.Lists.{map-drop}
use Rattle.ext_plan_reading.specs.AllFaults.{sketch_faults}
use Rattle.ext_plan_reading.specs.InnerSketches.{sketch_view}
use Rattle.ext_plan_reading.specs.NodeReading.{sketch_at}
use Rattle.ext_plan_reading.proofs.AllFaults.{all_sketches, read_fault, sketch_turn}
use Rattle.ext_plan_reading.proofs.stages.tables.sketch_faults.Goals as goal

pub loop-number-preserved : goal.loop-number-preserved
loop-number-preserved c =
    let fields = table_view c.index-tables-number.result.now in
    let more = map-drop (λ t. table_view t.now) c.args.tables.now c.loop-number.number c.index-tables-number.result (omega arith) c.index-tables-number.is in
    let fault = read_fault sketch_view c.sketch_of-read.result (sketch_at c.loop-number.number fields) c.err.result c.sketch_of-read.ensures c.err.ensures.value c.in_ok-add_fault.ensures.known in
    sketch_turn c.loop-number.faults.items c.add_fault.new.faults.items _ c.loop-number.number fields _
    (ap (λ l. c.loop-number.faults.items ++ sketch_faults c.loop-number.number l) (sym more) ∙ c.loop-number.invariant) (c.in_ok-add_fault.ensures.added ∙ ap (λ f. c.loop-number.faults.items ++ option_to_list f) fault)

pub returns : goal.returns
returns c = all_sketches c.loop-number.faults.items _ c.loop-number.number _ (ap (map (λ t. table_view t.now)) (drop_all c.loop-number.number c.args.tables.now (omega arith))) c.loop-number.invariant
