use Rattle.std.proofs.Common.{◌≡◌, ◌++◌, map, take}
use Rattle.ext_engine.specs.Suites.{asks}
use Rattle.ext_engine.proofs.locks.push_locks.Given as goal

abbrev pub invariant-loop-i : goal.invariant-loop-i
invariant-loop-i g l = map asks l.requests.items ≡ map asks l.fn.requests.items ++ take l.i ((g.S.Suite.suite_view l.suite).locks l.node)
