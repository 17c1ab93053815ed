use Rattle.std.proofs.Common.{◌≡◌, ℕ, ◌+◌, ◌++◌, List, length}
use Rattle.ext_lifecycle.specs.Lifecycle.{IsRoomy, tally_of}
use Rattle.ext_lifecycle.specs.declared.outcome.Outcome.{Outcome}
use Rattle.ext_lifecycle.proofs.Calling.{AllTo}
use Rattle.ext_lifecycle.proofs.lifecycle.run_afters.Given as goal

abbrev pub invariant-loop-call : goal.invariant-loop-call
invariant-loop-call g l = record {
  ready : g.C.Caller.ready l.caller;
  reference : g.C.Caller.reference l.caller ≡ g.C.Caller.reference l.fn.caller;
  so_far : (done : List Outcome) × AllTo g.C.Caller.call_gives l.afters l.rest l.fn.caller l.caller done × ((before : List Outcome) → l.fn.tally ≡ tally_of before → l.tally ≡ tally_of (before ++ done));
  room : IsRoomy (length l.rest) l.tally;
  further : (n : ℕ) → IsRoomy (length l.afters + n) l.fn.tally → IsRoomy (length l.rest + n) l.tally;
}

abbrev pub decreases-loop-call : goal.decreases-loop-call
decreases-loop-call g l = length l.rest
