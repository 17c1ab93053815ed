use Rattle.ext_plan_reading.specs.Plans.{plan_view}
use Rattle.ext_run.proofs.RunReports.{bytes_read, bytes_refused, plan_of_others}
use Rattle.ext_run.proofs.reading.plan_of.Goals as goal

pub returns-in-Ok : goal.returns-in-Ok
returns-in-Ok c =
    let text = c.in-Ok.ensures.cases in
    let read = c.read_plan_within.ensures in
    record {
      read = bytes_read plan_view c.args.size c.args.bytes.now _ text.1 text.0 c.read_plan_within.result read.exact;
      refused = bytes_refused plan_view c.args.size c.args.bytes.now _ text.1 text.0 c.read_plan_within.result read.exact;
      plan = read.plan;
    }

pub returns-in-Err : goal.returns-in-Err
returns-in-Err c = record { read = tt; refused = plan_of_others c.args.size c.args.bytes.now c.in-Err.ensures.cases.0; plan = tt }
