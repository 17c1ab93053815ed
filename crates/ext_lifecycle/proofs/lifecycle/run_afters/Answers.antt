use Rattle.std.proofs.Common.{rules, ◌≡◌, ◌+◌, [], ◌∷◌, ◌++◌, length, refl, ap, ◌∙◌, sym, arith, append_assoc, append-nil}
use Rattle.ext_lifecycle.specs.Lifecycle.{tally_of}
use Rattle.ext_lifecycle.proofs.Calling.{all-go_on, all-end, empty-list, roomy-less, roomy-same}
use Rattle.ext_lifecycle.proofs.lifecycle.run_afters.Goals as goal

pub loop-call-init : goal.loop-call-init
loop-call-init g c = record {
  ready = c.requires.ready;
  reference = refl;
  so_far = ([], record { each = λ os last m. m }, (λ before is. is ∙ ap tally_of (sym (append-nil before))));
  room = c.requires.room;
  further = λ n room. room;
}

pub add-requires : goal.add-requires
add-requires g c =
    let taken : c.loop-call.rest.now ≡ c.in-Some.call.now ∷ c.in-Some.more.now = search rules in
    let l = ap length taken in
    record { room = roomy-less 1 (length c.loop-call.rest.now) c.loop-call.tally (omega arith) c.loop-call.invariant.room }

pub loop-call-smaller : goal.loop-call-smaller
loop-call-smaller g c =
    let taken : c.loop-call.rest.now ≡ c.in-Some.call.now ∷ c.in-Some.more.now = search rules in
    let l = ap length taken in omega arith

pub loop-call-preserved : goal.loop-call-preserved
loop-call-preserved g c =
    let I = c.loop-call.invariant in
    let taken : c.loop-call.rest.now ≡ c.in-Some.call.now ∷ c.in-Some.more.now = search rules in
    let l = ap length taken in
    record {
      ready = c.call-outcome.ensures.ready;
      reference = c.call-outcome.ensures.same_reference ∙ I.reference;
      so_far = (
        I.so_far.0 ++ c.call-outcome.result ∷ [],
        all-go_on g.C.Caller.call_gives c.args.afters.now c.loop-call.rest.now c.in-Some.more.now c.in-Some.call.now c.args.caller.now c.loop-call.caller c.call-outcome.new.self I.so_far.0 c.call-outcome.result taken I.so_far.1 c.call-outcome.ensures.call,
        (λ before is. c.add.ensures.tally (before ++ I.so_far.0) (I.so_far.2 before is) ∙ ap tally_of (append_assoc before I.so_far.0 (c.call-outcome.result ∷ []))),
      );
      room = c.add.ensures.room (length c.in-Some.more.now) (roomy-same (length c.loop-call.rest.now) (length c.in-Some.more.now + 1) c.loop-call.tally (omega arith) I.room);
      further = λ n room. c.add.ensures.room (length c.in-Some.more.now + n) (roomy-same (length c.loop-call.rest.now + n) ((length c.in-Some.more.now + n) + 1) c.loop-call.tally (omega arith) (I.further n room));
    }

pub returns-clause-calls : goal.returns-clause-calls
returns-clause-calls g c =
    let s = c.loop-call.invariant.so_far in
    let none : c.loop-call.rest.now ≡ [] = empty-list _ c.in_default.ensures.cases in
    (s.0, all-end g.C.Caller.call_gives c.args.afters.now c.loop-call.rest.now c.args.caller.now c.loop-call.caller s.0 none s.1, s.2)

pub returns-clause-room : goal.returns-clause-room
returns-clause-room g c = λ n room. roomy-less n (length c.loop-call.rest.now + n) c.loop-call.tally (omega arith) (c.loop-call.invariant.further n room)
