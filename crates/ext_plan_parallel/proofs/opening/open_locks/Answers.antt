use Rattle.std.proofs.Common.{rules, ◌≡◌, ◌≢◌, ◌∙◌, ℕ, List, [], ap, sym, subst, map}
use Rattle.std.specs.Prelude.{AllPairs}
use Rattle.std.specs.Borrow.{Bor}
use Rattle.ext_locks.specs.Names.{IsFirstTwice}
use Rattle.ext_plan.specs.Plans.{nodes_view}
use Rattle.ext_plan.proofs.Names.{lock_names-differ}
use Rattle.ext_plan_parallel.proofs.Names.{not_twice}
use Rattle.ext_plan_parallel.proofs.opening.open_locks.Goals as goal

pub unreachable-requires-in-Err-Twice : goal.unreachable-requires-in-Err-Twice
unreachable-requires-in-Err-Twice c =
    let names : map (λ (t : Bor (List ℕ)). t.now) c.as_slice.result.now ≡ _ = ap (map (λ (t : Bor (List ℕ)). t.now)) c.as_slice.ensures.value ∙ c.in_ok-names.ensures in
    let twice : IsFirstTwice (map (λ (t : Bor (List ℕ)). t.now) c.as_slice.result.now) c.in-Err-Twice.field-0-0 = search rules in
    not_twice _ _ [] (subst (AllPairs (λ a b. a ≢ b)) (sym names) (lock_names-differ (nodes_view c.args.plan.now.nodes.items))) twice
