use Rattle.std.proofs.Common.{rules, ◌≤◌, ℕ, List, subst, sym}
use Rattle.std.specs.Prelude.{All}
use Rattle.ext_crew.specs.Dealing.{Share, back}
use Rattle.ext_crew.proofs.Runs.{AllMeet, accepts-kept, calls-from, meet_join, meet_split, run-keeps}
use Rattle.test_cells.proofs.crew.all_stay_small.Goals as goal

abbrev IsSmall : ℕ → Type 0
IsSmall n = n ≤ 100

abbrev IsAny : ℕ → Type 0
IsAny n = Unit {0}

abbrev Left : Share ℕ ℕ → Share ℕ ℕ → Type 0
Left before after = AllMeet IsSmall IsAny after

pub run_children-requires-clause-accepts : goal.run_children-requires-clause-accepts
run_children-requires-clause-accepts g c κs within =
    let whole : Share ℕ ℕ = record { first = c.args.first.now; second = c.args.second.now } in
    accepts-kept _ _ c.args.items.items (AllMeet IsSmall IsAny)
    (λ job item s at all first second e f.
    let L : List ℕ → Type 0 = λ l. All IsSmall l in
    let small : L first.now = subst L (sym e) all.0 in
    search rules)
    (λ job item s o t at all calls. calls-from _ _ Left calls (search rules))
    whole
    (λ from size some_here room. (meet_split IsSmall IsAny size (back from whole) (meet_split IsSmall IsAny from whole (c.requires.small, λ k d l. tt)).1).0)

pub returns : goal.returns
returns g c =
    let whole : Share ℕ ℕ = record { first = c.args.first.now; second = c.args.second.now } in
    let after : Share ℕ ℕ = record { first = c.run_children.new.first; second = c.run_children.new.second } in
    record {
      small = (run-keeps _ (AllMeet IsSmall IsAny) (λ job s o t all r. calls-from _ _ Left r.calls (search rules)) (meet_split IsSmall IsAny) (meet_join IsSmall IsAny) _ _ whole after _ (c.requires.small, λ k d l. tt) c.in_ok-made.ensures.run).0;
    }
