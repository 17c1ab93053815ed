use Rattle.std.proofs.Common.{rules, ◌≡◌, ◌+◌, true, false, [], ◌∷◌, ◌++◌, length, refl, ap, ◌∙◌, arith}
use Rattle.ext_lifecycle.specs.Endings.{is_successful}
use Rattle.ext_lifecycle.specs.Lifecycle.{ending_of}
use Rattle.ext_lifecycle.proofs.Calling.{befores-go_on, befores-stop, befores-end, empty-list, roomy-less, roomy-same}
use Rattle.ext_lifecycle.proofs.lifecycle.run_befores.Goals as goal

pub loop-call-init : goal.loop-call-init
loop-call-init g c = record {
  ready = c.requires.ready;
  reference = refl;
  so_far = ([], c.new-tally.ensures.tally, record { each = λ os last m. m });
  room = λ n few. c.new-tally.ensures.room (length c.args.befores.now + n) few;
}

pub add-requires : goal.add-requires
add-requires g c =
    let taken : c.loop-call.rest.now ≡ c.in-Some.call.now ∷ c.in-Some.more.now = search rules in
    let l = ap length taken in
    record { room = roomy-less 1 (length c.loop-call.rest.now + 0) c.loop-call.tally (omega arith) (c.loop-call.invariant.room 0 (omega (arith, c.requires.few))) }

pub loop-call-smaller : goal.loop-call-smaller
loop-call-smaller g c =
    let taken : c.loop-call.rest.now ≡ c.in-Some.call.now ∷ c.in-Some.more.now = search rules in
    let l = ap length taken in omega arith

pub loop-call-preserved : goal.loop-call-preserved
loop-call-preserved g c =
    let I = c.loop-call.invariant in
    let taken : c.loop-call.rest.now ≡ c.in-Some.call.now ∷ c.in-Some.more.now = search rules in
    let l = ap length taken in
    let good : is_successful (ending_of c.call-outcome.result.verdict) ≡ true = search rules in
    record {
      ready = c.call-outcome.ensures.ready;
      reference = c.call-outcome.ensures.same_reference ∙ I.reference;
      so_far = (
        I.so_far.0 ++ c.call-outcome.result ∷ [],
        c.add.ensures.tally I.so_far.0 I.so_far.1,
        befores-go_on g.C.Caller.call_gives c.args.befores.now c.loop-call.rest.now c.in-Some.more.now c.in-Some.call.now c.args.caller.now c.loop-call.caller c.call-outcome.new.self I.so_far.0 c.call-outcome.result taken I.so_far.2 c.call-outcome.ensures.call good,
      );
      room = λ n few. c.add.ensures.room (length c.in-Some.more.now + n) (roomy-same (length c.loop-call.rest.now + n) ((length c.in-Some.more.now + n) + 1) c.loop-call.tally (omega arith) (I.room n few));
    }

pub returns-then-not-go_on-clause-calls : goal.returns-then-not-go_on-clause-calls
returns-then-not-go_on-clause-calls g c =
    let I = c.loop-call.invariant in
    let taken : c.loop-call.rest.now ≡ c.in-Some.call.now ∷ c.in-Some.more.now = search rules in
    let bad : is_successful (ending_of c.call-outcome.result.verdict) ≡ false = search rules in (
      I.so_far.0 ++ c.call-outcome.result ∷ [],
      befores-stop g.C.Caller.call_gives c.args.befores.now c.loop-call.rest.now c.in-Some.more.now c.in-Some.call.now c.args.caller.now c.loop-call.caller c.call-outcome.new.self I.so_far.0 c.call-outcome.result taken I.so_far.2 c.call-outcome.ensures.call bad,
      c.add.ensures.tally I.so_far.0 I.so_far.1,
    )

pub returns-then-not-go_on-clause-room : goal.returns-then-not-go_on-clause-room
returns-then-not-go_on-clause-room g c = λ n few.
    let I = c.loop-call.invariant in
    let taken : c.loop-call.rest.now ≡ c.in-Some.call.now ∷ c.in-Some.more.now = search rules in
    let l = ap length taken in
    roomy-less n (length c.in-Some.more.now + n) c.add.new.self (omega arith)
    (c.add.ensures.room (length c.in-Some.more.now + n) (roomy-same (length c.loop-call.rest.now + n) ((length c.in-Some.more.now + n) + 1) c.loop-call.tally (omega arith) (I.room n few)))

pub returns-in_default-clause-calls : goal.returns-in_default-clause-calls
returns-in_default-clause-calls g c =
    let I = c.loop-call.invariant in
    let none : c.loop-call.rest.now ≡ [] = empty-list _ c.in_default.ensures.cases in
    (I.so_far.0, befores-end g.C.Caller.call_gives c.args.befores.now c.loop-call.rest.now c.args.caller.now c.loop-call.caller I.so_far.0 none I.so_far.2, I.so_far.1)

pub returns-in_default-clause-room : goal.returns-in_default-clause-room
returns-in_default-clause-room g c = λ n few. roomy-less n (length c.loop-call.rest.now + n) c.loop-call.tally (omega arith) (c.loop-call.invariant.room n few)
