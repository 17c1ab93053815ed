use Rattle.std.proofs.Common.{◌+◌, ◌++◌, Bool, length, refl, subst, arith}
use Rattle.ext_lifecycle.specs.Lifecycle.{MakesIf}
use Rattle.ext_lifecycle.proofs.lifecycle.run_calls.Goals as goal

pub run_body-requires-clause-room : goal.run_body-requires-clause-room
run_body-requires-clause-room g c = c.run_befores-tally.ensures.room 1 (omega (arith, c.requires.few))

pub run_afters-requires-clause-room : goal.run_afters-requires-clause-room
run_afters-requires-clause-room g c =
    c.run_body.ensures.room (length c.args.afters.now) (c.run_befores-tally.ensures.room (length c.args.afters.now + 1) (omega (arith, c.requires.few)))

pub returns-clause-calls : goal.returns-clause-calls
returns-clause-calls g c =
    let first = c.run_befores-tally.ensures.calls in
    let second = c.run_body.ensures.calls in
    let third = c.run_afters.ensures.calls in
    let body = second.3 first.0 first.2 in (
      (first.0 ++ second.1) ++ third.0,
      record {
        first = first.0;
        second = second.1;
        third = third.0;
        opened = c.run_befores-tally.new.caller;
        closing = c.run_body.new.caller;
        befores_made = first.1;
        body_made = subst (λ (go : Bool). MakesIf g.C.Caller.call_gives go c.args.body c.run_befores-tally.new.caller second.1 c.run_body.new.caller) body.0 second.2;
        afters_made = third.1;
        all = refl;
      },
      third.2 (first.0 ++ second.1) body.1,
    )

pub returns-clause-room : goal.returns-clause-room
returns-clause-room g c = λ n few.
    let afters = length c.args.afters.now in
    let befores = c.run_befores-tally.ensures.room ((afters + n) + 1) (omega (arith, few)) in
    c.run_afters.ensures.room n (c.run_body.ensures.room (afters + n) befores)
