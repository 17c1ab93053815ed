use Rattle.std.proofs.Common.{ℕ, ◌≡◌}
use Rattle.ext_store_core.specs.Claiming.{ClaimsAlong}
use Rattle.ext_store_core.specs.Waiting.{VainAttempts}
use Rattle.ext_store_core.proofs.store_core.StoreCore.claim_along_wait.Given as goal

abbrev pub invariant-loop : goal.invariant-loop
invariant-loop g l = record {
  cells : l.lane.cells ≡ l.fn.lane.cells;
  attempts : ℕ;
  in_vain : VainAttempts (ClaimsAlong l.self l.path l.key) attempts l.fn.lane.view l.lane.view;
}
