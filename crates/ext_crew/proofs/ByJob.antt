-- The outcomes, taken out of their slots in order, stand in the order of their jobs.
use Rattle.std.proofs.Common.{◌≡◌, ℕ, ◌+◌, ◌/◌, ◌%◌, ◌<◌, ◌≤◌, cond, get_or, List, [], ◌∷◌, ◌++◌, length, map, ap, ◌∙◌, sym, refl, subst, arith}
use Rattle.std.specs.Prelude.{◌==◌, All, Option, Some, slice_get, flat_map, filter_map}
use Rattle.std.specs.List.{concat}
use Rattle.std.proofs.lemmas.List.{map-append}
use Rattle.std.proofs.lemmas.List.Elements.{All-head, All-tail}
use Rattle.std.proofs.lemmas.Bool.{cases_lt}
use Rattle.std.proofs.lemmas.Bool.Decides.{nat_tests}
use mathlib.Core.Logic.{⊎_elim}
use Rattle.ext_crew.specs.InnerCounter.{Hand}
use Rattle.ext_crew.specs.InnerHands.{given_of, jobs_done}
use Rattle.ext_crew.specs.Dealing.{Share, times, IsDealing, WorkedFrom, RunByDealing}
use Rattle.ext_crew.specs.declared.jobs.done.Done.{Done}
use Rattle.ext_crew.proofs.Lists.{all_apart, lists_together, full}

at_head : (j i n : ℕ) → 0 < cond (j == i) 1 0 + n → n ≤ 0 → j ≡ i
at_head j i n l e = grind (arith, nat_tests)

-- a number that stands in the list is that of a job
pub found : {O : Type 0} (done : List (Done O)) (i : ℕ) (P : Done O → Type 0) → 0 < times i (map (λ d. d.job) done) → All P done → (d : Done O) × (d.job ≡ i) × P d
found [] i P l all = absurd (omega arith)
found {O} (d ∷ done) i P l all =
    ⊎_elim
    (λ (e : 0 < times i (map (λ x. x.job) done)). found done i P e (All-tail P d done all))
    (λ (e : times i (map (λ x. x.job) done) ≤ 0). (d, at_head d.job i (times i (map (λ x. x.job) done)) l e, All-head P d done all))
    (cases_lt 0 (times i (map (λ x. x.job) done)))

-- the numbers of all lists, list by list and all together
pub numbers_together : {O : Type 0} (lists : List (List (Done O))) → concat (map (map (λ d. d.job)) lists) ≡ map (λ d. d.job) (flat_map (λ l. l) lists)
numbers_together [] = refl
numbers_together {O} (list ∷ lists) =
    let j : Done O → ℕ = λ d. d.job in
    ap (λ l. map j list ++ l) (numbers_together lists) ∙ sym (map-append j list (flat_map (λ l. l) lists))

-- where all jobs are dealt and each outcome is at its index, the outcomes stand in the order of the jobs
in_order : {O : Type 0} (jobs workers : ℕ) (lists : List (List (Done O))) (by_job : List (Option O)) (outcomes : List O)
    → IsDealing jobs workers (map (map (λ d. d.job)) lists) → length by_job ≡ jobs
    → All (λ d. slice_get by_job d.job ≡ Some (Some d.outcome)) (flat_map (λ l. l) lists) → outcomes ≡ filter_map (λ p. p) by_job
    → (length outcomes ≡ jobs) × All (λ list. All (λ d. slice_get outcomes d.job ≡ Some d.outcome) list) lists
in_order {O} jobs workers lists by_job outcomes dealt len own is =
    let all = flat_map (λ l. l) lists in
    let together = numbers_together lists in
    let P : Done O → Type 0 = λ d. slice_get by_job d.job ≡ Some (Some d.outcome) in
    let each : (i : ℕ) → i < length by_job → (o : O) × (slice_get by_job i ≡ Some (Some o)) = λ i l.
    let one : times i (map (λ d. d.job) all) ≡ 1 = ap (times i) (sym together) ∙ dealt.once i (omega (arith, l, len)) in
    let at = found all i P (omega (arith, one)) own in
    (at.0.outcome, subst (λ (n : ℕ). slice_get by_job n ≡ Some (Some at.0.outcome)) at.1 at.2) in
    let done = full by_job each in
    let Q : Done O → Type 0 = λ d. slice_get (filter_map (λ p. p) by_job) d.job ≡ Some d.outcome in
    let got : All Q all = λ k d l. done.1 (get_or all k d).job (get_or all k d).outcome (own k d l) in
    (ap length is ∙ (done.0 ∙ len), subst (λ (out : List O). All (λ list. All (λ d. slice_get out d.job ≡ Some d.outcome) list) lists) (sym is) (all_apart Q lists got))

numbers_apart : {T O : Type 0} (hands : List (Hand T O)) → map jobs_done hands ≡ map (map (λ d. d.job)) (map given_of hands)
numbers_apart [] = refl
numbers_apart (h ∷ hands) = ap (λ l. jobs_done h ∷ l) (numbers_apart hands)

-- the run that the workers have made
pub run-made : {A B T O : Type 0} (runs : ℕ → Share A B → O → Share A B → Type 0) (jobs workers all : ℕ) (hands : List (Hand T O)) (by_job : List (Option O)) (outcomes : List O) (s t : Share A B)
    → IsDealing jobs workers (map jobs_done hands) → length by_job ≡ jobs
    → All (λ d. slice_get by_job d.job ≡ Some (Some d.outcome)) (flat_map given_of hands) → outcomes ≡ filter_map (λ p. p) by_job
    → WorkedFrom runs (length s.first / workers) (length s.first % workers) (map given_of hands) s t → workers ≡ all
    → RunByDealing runs jobs all s outcomes t
run-made {A} {B} {T} {O} runs jobs workers all hands by_job outcomes s t dealt len own is worked count =
    let D : List (List ℕ) → Type 0 = λ l. IsDealing jobs workers l in
    let now : IsDealing jobs workers (map (map (λ d. d.job)) (map given_of hands)) = subst D (numbers_apart hands) dealt in
    let G : Hand T O → List (Done O) = λ h. given_of h in
    let A : List (Done O) → Type 0 = λ l. All (λ d. slice_get by_job d.job ≡ Some (Some d.outcome)) l in
    let ends = in_order jobs workers (map given_of hands) by_job outcomes now len (subst A (lists_together G hands) own) is in
    let R : ℕ → Type 0 = λ w. RunByDealing runs jobs w s outcomes t in
    let run : RunByDealing runs jobs workers s outcomes t = record { done = map given_of hands; dealt = now; worked = worked; outcome_count = ends.0; in_order = ends.1 } in
    subst R count run
