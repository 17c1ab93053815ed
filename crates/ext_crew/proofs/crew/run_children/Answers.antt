use Rattle.std.proofs.Common.{ℕ, ◌≡◌, ◌∙◌, List, length, ap, subst}
use Rattle.std.specs.Prelude.{min}
use Rattle.ext_crew.specs.Dealing.{Runs, RunByDealing}
use Rattle.ext_crew.proofs.crew.run_children.Goals as goal

pub returns-clause-run : goal.returns-clause-run
returns-clause-run g c =
    let opened = c.in_ok-crew.ensures.0 in
    let first = c.args.first.now in
    let items = c.args.items.items in
    let key = c.in_ok-crew.crew.table.shared.key.value.items in
    let R : List g.row.T.Denot → ℕ → ℕ → Type 0 =
    λ l count workers. RunByDealing (Runs g.F.Fn c.args.run.now l) count workers (record { first = first; second = c.args.second.now }) c.run_crew.new.outcomes.items
    (record { first = c.run_crew.new.first; second = c.run_crew.new.second }) in
    let count : c.len-count.result ≡ length items = c.len-count.ensures ∙ c.args.items.ok.0 in
    let workers : length c.in_ok-crew.crew.hands.items ≡ min (length first) (length items) = opened.count ∙ c.min-workers.ensures ∙ ap (min (length first)) count in
    subst (λ l. R l (length items) (min (length first) (length items))) opened.same_items
    (subst (λ n. R key n (min (length first) (length items))) count (subst (λ n. R key c.len-count.result n) workers c.run_crew.ensures))
