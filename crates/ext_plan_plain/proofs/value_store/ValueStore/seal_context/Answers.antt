use Rattle.std.proofs.Common.{◌∙◌, map}
use Rattle.ext_plan.specs.Values.{value_view}
use Rattle.ext_plan_plain.proofs.ContextSeals.{ended_sealed, on_ok}
use Rattle.ext_plan_plain.proofs.value_store.ValueStore.seal_context.Goals as goal

pub returns-clause-state : goal.returns-clause-state
returns-clause-state c =
    let old = c.args.self.now in
    let same = ended_sealed c.args.at old.keep_faults old.keys (map value_view old.values.items) old.store c.end.new.self c.in_ok-end.ensures.limits c.in_ok-end.ensures.ended in
    on_ok c.seal_used.result (λ state. state ∙ same) c.seal_used.ensures.state
