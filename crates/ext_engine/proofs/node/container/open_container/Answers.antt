use Rattle.std.proofs.Common.{false, ◌∙◌}
use Rattle.std.specs.Prelude.{None}
use Rattle.ext_store.specs.Stores.{StoreLane}
use Rattle.ext_lifecycle.specs.declared.call.Call.{Call}
use Rattle.ext_lifecycle.specs.declared.outcome.Outcome.{Outcome}
use Rattle.ext_lifecycle.specs.Callbacks.{befores_of}
use Rattle.ext_engine.proofs.Firsts.{befores-on}
use Rattle.ext_engine.proofs.node.container.open_container.Goals as goal

pub returns-clause-befores : goal.returns-clause-befores
returns-clause-befores g c =
    let r = c.args.nodes.now in
    let node = c.args.item.node in
    let registered = g.S.Callbacks.registered r.suite.now in
    let parts = c.in_ok-closer.ensures.parts.0.2 in
    let makes : StoreLane g.row.V.Denot → Call → Outcome → StoreLane g.row.V.Denot → Type 0 = λ a call o b. g.S.Suite.call_gives r.suite.now r.store.now node call None a o b in
    let b = c.call_befores-tally.ensures.calls in
    record {
      path = parts.0;
      path_is = parts.1;
      befores = b.0;
      befores_made = befores-on makes c.args.lanes.now _ _ (befores_of registered false node parts.0) b.0 (c.as_slice.ensures.value ∙ parts.2) c.requires.lanes b.1;
      begun_by = record { tally_is = b.2; afters_are = parts.3; went_on_is = c.is_successful-went_on.ensures b.0 b.2 };
    }
