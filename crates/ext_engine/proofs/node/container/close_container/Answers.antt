use Rattle.std.proofs.Common.{Bool, false, ◌∙◌, ◌++◌, ap}
use Rattle.std.specs.Prelude.{None, slice_set}
use Rattle.ext_model.specs.declared.look.Fault.{Fault}
use Rattle.ext_store.specs.Stores.{StoreLane}
use Rattle.ext_lifecycle.specs.declared.call.Call.{Call}
use Rattle.ext_lifecycle.specs.declared.outcome.Outcome.{Outcome}
use Rattle.ext_lifecycle.specs.Callbacks.{afters_of}
use Rattle.ext_lifecycle.specs.Lifecycle.{computed_in, endings_of, found_in}
use Rattle.ext_lifecycle.specs.Results.{ResultOf, result_of}
use Rattle.ext_engine.specs.NodeRun.{Ran}
use Rattle.ext_engine.proofs.Firsts.{afters-on}
use Rattle.ext_engine.proofs.node.container.close_container.Goals as goal

pub returns-in-Ok-clause-ends : goal.returns-in-Ok-clause-ends
returns-in-Ok-clause-ends g c = λ path befores by.
    let r = c.args.nodes.now in
    let node = c.args.node in
    let registered = g.S.Callbacks.registered r.suite.now in
    let makes : StoreLane g.row.V.Denot → Call → Outcome → StoreLane g.row.V.Denot → Type 0 = λ a call o b. g.S.Suite.call_gives r.suite.now r.store.now node call None a o b in
    let a = c.call_afters.ensures.calls befores by.tally_is in
    let closed = c.in-Ok.ensures.closes in
    let made = befores ++ a.0 in
    let first : ResultOf Fault → Bool → Ran = λ x w. record { result = x; went_on = w } in
    record {
      afters = a.0;
      called = slice_set c.args.lanes.now 0 c.call_afters.new.lane;
      afters_made = afters-on makes c.args.lanes.now _ _ (afters_of registered false node path) a.0 (c.as_slice.ensures.value ∙ by.afters_are) c.requires.lanes a.1;
      faults = closed.0;
      closes = closed.1;
      own_is = ap (λ x. first x c.args.begun.went_on) (c.result-ended.ensures made closed.0 a.2 closed.2)
          ∙ ap (λ w. first (result_of node false (endings_of made) (computed_in made) (found_in made) closed.0) w) by.went_on_is;
    }

pub returns-clause-unclosed : goal.returns-clause-unclosed
returns-clause-unclosed g c = λ path befores by.
    let r = c.args.nodes.now in
    let node = c.args.node in
    let registered = g.S.Callbacks.registered r.suite.now in
    let makes : StoreLane g.row.V.Denot → Call → Outcome → StoreLane g.row.V.Denot → Type 0 = λ a call o b. g.S.Suite.call_gives r.suite.now r.store.now node call None a o b in
    let a = c.call_afters.ensures.calls befores by.tally_is in
    record {
      afters = a.0;
      called = slice_set c.args.lanes.now 0 c.call_afters.new.lane;
      afters_made = afters-on makes c.args.lanes.now _ _ (afters_of registered false node path) a.0 (c.as_slice.ensures.value ∙ by.afters_are) c.requires.lanes a.1;
      left_open = c.in-Err.ensures.unjoined;
    }
