use Rattle.std.proofs.lemmas.Result.{err_from_is_err_and}
use Rattle.toml.specs.View.{table_view}
use Rattle.ext_plan_reading.specs.InnerTop.{top_view}
use Rattle.ext_plan_reading.proofs.TopReading.{top_goes, top_stops}
use Rattle.ext_plan_reading.proofs.Turns.{Fails-whole}
use Rattle.ext_plan_reading.proofs.read.plan_of.Goals as goal

pub returns-in_err-fields : goal.returns-in_err-fields
returns-in_err-fields c =
    let p = err_from_is_err_and c.from_residual.result c.from_residual.ensures.1 in
    rw (p.1, p.2) (Fails-whole _ _ _ (λ h. top_stops c.args.size (table_view c.args.top.now) _ h) c.in_err-fields.ensures.exact)

pub returns : goal.returns
returns c = rw (top_goes c.args.size (table_view c.args.top.now) (top_view c.in_ok-fields.fields) c.in_ok-fields.ensures.exact, ← c.as_slice.ensures.value, ← c.as_slice-2.ensures.value) c.plan_of_tables.ensures
