use Rattle.std.proofs.Common.{rules, ℕ, ◌≡◌, ◌∙◌, ◌<◌, List, length, drop, map, ap, subst, sym}
use Rattle.std.specs.Prelude.{All, Some, slice_get, flat_map}
use Rattle.ext_crew.specs.InnerCounter.{Hand}
use Rattle.ext_crew.specs.declared.jobs.done.Done.{Done}
use Rattle.ext_crew.specs.InnerHands.{jobs_done, draws_of, given_of, HasWorked}
use Rattle.ext_crew.specs.Dealing.{times, IsDealing, Runs}
use Rattle.ext_crew.proofs.Dealt.{dealt}
use Rattle.ext_crew.proofs.Lists.{lent_back}
use Rattle.ext_crew.proofs.ByJob.{run-made}
use Rattle.ext_crew.proofs.Shares.{some_each}
use Rattle.ext_crew.proofs.crew.run_crew.Goals as goal

pub run_hands-requires-clause-size : goal.run_hands-requires-clause-size
run_hands-requires-clause-size g c κs within = some_each (length c.args.first.now) c.len-workers.result (search rules) (search rules)

pub join_hands-requires-clause-worked : goal.join_hands-requires-clause-worked
join_hands-requires-clause-worked g c =
    let new = c.run_hands.new.hands in
    let hands = c.args.crew.hands in
    let fits : length new ≡ hands.len = search rules in
    let back = lent_back hands.len new (drop (length new) hands.items) fits in
    let A : List (Hand g.row.T.Denot g.row.O.Denot) → Type 0 = λ l. All (λ h. HasWorked c.args.crew.table.shared.table_id c.args.crew.table.shared.key.value.items h) l in
    subst A (sym back) c.run_hands.ensures.jobs

pub returns : goal.returns
returns g c =
    let new = c.run_hands.new.hands in
    let hands = c.args.crew.hands in
    let items = c.args.crew.table.shared.key.value.items in
    let fits : length new ≡ hands.len = search rules in
    let back = lent_back hands.len new (drop (length new) hands.items) fits in
    let D : Hand g.row.T.Denot g.row.O.Denot → List (Done g.row.O.Denot) = λ h. given_of h in
    let F : Hand g.row.T.Denot g.row.O.Denot → List ℕ = λ h. draws_of h in
    let joined = c.join_hands.ensures in
    let drew : c.join_hands.new.first.me.0.draws ≡ flat_map F new = joined.draws ∙ ap (flat_map F) back in
    let gave : c.join_hands.new.first.me.0.given ≡ flat_map D new = joined.given ∙ ap (flat_map D) back in
    let last = c.take_outcomes.ensures in
    let by_job = last.by_job.0 in
    let workers = c.len-workers.result in
    let made : length new ≡ workers = search rules in
    let positive : 0 < workers = search rules in
    let count = c.requires.opened.counter.1 in
    let dealing : IsDealing c.args.count workers (map jobs_done new) =
    dealt c.args.crew.table.shared.table_id items new c.args.count workers count made positive c.run_hands.ensures.jobs (last.drawn.0, λ x. ap (times x) (sym drew) ∙ last.drawn.1 x) in
    let P : List (Done g.row.O.Denot) → Type 0 = λ l. All (λ d. slice_get by_job d.job ≡ Some (Some d.outcome)) l in
    run-made (Runs g.F.Fn c.args.run.now items) c.args.count workers _ new by_job c.take_outcomes.new.outcomes.items
    (record { first = c.args.first.now; second = c.args.second.now }) (record { first = c.run_hands.new.first; second = c.run_hands.new.second })
    dealing (last.by_job.1 ∙ count) (subst P gave last.by_job.2) last.by_job.3 c.run_hands.ensures.worked (search rules)
