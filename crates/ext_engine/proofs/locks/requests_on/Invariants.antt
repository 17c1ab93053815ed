use Rattle.std.proofs.Common.{◌≡◌, ◌∷◌, map, take, None}
use Rattle.std.specs.List.{flat_map}
use Rattle.ext_engine.specs.Suites.{asks, global_mode}
use Rattle.ext_engine.proofs.locks.requests_on.Given as goal

abbrev pub invariant-loop-node : goal.invariant-loop-node
invariant-loop-node g l =
    map asks l.requests.items ≡ record { name = None; mode = global_mode (g.S.Suite.suite_view l.suite) l.path } ∷ flat_map (g.S.Suite.suite_view l.suite).locks (take l.node-index l.path)
