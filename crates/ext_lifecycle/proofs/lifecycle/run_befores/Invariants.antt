use Rattle.std.proofs.Common.{◌≡◌, ℕ, ◌+◌, ◌<◌, ◌^◌, List, length}
use Rattle.ext_lifecycle.specs.Lifecycle.{IsRoomy, tally_of}
use Rattle.ext_lifecycle.specs.declared.outcome.Outcome.{Outcome}
use Rattle.ext_lifecycle.proofs.Calling.{BeforesTo}
use Rattle.ext_lifecycle.proofs.lifecycle.run_befores.Given as goal

abbrev pub invariant-loop-call : goal.invariant-loop-call
invariant-loop-call g l = record {
  ready : g.C.Caller.ready l.caller;
  reference : g.C.Caller.reference l.caller ≡ g.C.Caller.reference l.fn.caller;
  so_far : (done : List Outcome) × (l.tally ≡ tally_of done) × BeforesTo g.C.Caller.call_gives l.befores l.rest l.fn.caller l.caller done;
  room : (n : ℕ) → length l.befores + n < 2 ^ 32 → IsRoomy (length l.rest + n) l.tally;
}

abbrev pub decreases-loop-call : goal.decreases-loop-call
decreases-loop-call g l = length l.rest
