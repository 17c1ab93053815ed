use Rattle.std.proofs.Common.{[], ◌∷◌, length, take, sym, ap, arith, length-append}
use Rattle.std.proofs.lemmas.List.{take_all}
use Rattle.std.proofs.lemmas.Option.{slice_get_past}
use Rattle.ext_locks.specs.Sets.{locks_of}
use Rattle.ext_locks.proofs.Lists.{get_lock, locks_more, locks_same}
use Rattle.ext_locks.proofs.set.LockSet.get.Goals as goal
use Rattle.ext_locks.proofs.set.LockSet.get.Goals.{in-Some+else-left-eq0, in_default}

pub returns-then-left-eq0 : goal.returns-then-left-eq0
returns-then-left-eq0 c =
    get_lock c.modes-modes.result.now c.args.self.now c.loop-lock.lock c.args.i c.in-Some.mode c.modes-modes.ensures c.in-Some.is
    (let e = c.loop-lock.invariant in let z = c.if-left-eq0.true in omega arith)

pub loop-lock-preserved : goal.loop-lock-preserved
loop-lock-preserved c =
    elim c.match-modes-lock.branch [
      | in-Some+else-left-eq0 w ↦ (
          let e = c.loop-lock.invariant in
          let l = w.left-is in
          let m = ap length (locks_more c.modes-modes.result.now c.loop-lock.lock w.in-Some.mode c.loop-lock-test.true w.in-Some.is) in
          let a = length-append (locks_of (take c.loop-lock.lock c.modes-modes.result.now)) ((c.loop-lock.lock, w.in-Some.mode) ∷ []) in
          omega arith)
      | in_default w ↦ (
          let e = c.loop-lock.invariant in
          let l = w.left-is in
          let m = ap length (locks_same c.modes-modes.result.now c.loop-lock.lock c.loop-lock-test.true w.in_default.is) in
          omega arith)
    ]

pub returns : goal.returns
returns c =
    let whole = take_all c.loop-lock.lock c.modes-modes.result.now c.loop-lock-test.false in
    sym (slice_get_past c.args.self.now c.args.i (let e = c.loop-lock.invariant in let l = ap (λ m. length (locks_of m)) whole in let v = ap length c.modes-modes.ensures in omega arith))
