-- Which job of a dealing made an event that the lanes of all shares made.
use Rattle.std.proofs.Common.{◌≡◌, ◌≢◌, ◌⊎◌, inl, inr, ℕ, ◌+◌, ◌-◌, ◌/◌, ◌%◌, ◌≤◌, cond, min, List, [], ◌∷◌, ◌++◌, length, map, ap, sym, subst, refl, arith, eq-eqb}
use Rattle.std.specs.List.{concat}
use Rattle.std.proofs.lemmas.Bool.{cases_lt}
use Rattle.ext_model.specs.History.{History}
use Rattle.ext_crew.specs.declared.jobs.done.Done.{Done}
use Rattle.ext_crew.specs.Dealing.{InTurn, RunByDealing, WorkedFrom, front, back}
use Rattle.ext_crew.specs.Times.{times}
use Rattle.ext_crew.proofs.Totals.{times-append}
use Rattle.ext_engine.specs.Order.{AllGoOn, IsMadeIn}
use Rattle.ext_engine.specs.TreeRun.{Lanes}
use Rattle.ext_engine.proofs.Acts.{all_made_then, same_made}
use Rattle.ext_one_report.proofs.Parts.{made_parts}

abbrev jobs_of : {O : Type 0} → List (Done O) → List ℕ
jobs_of done = map (λ d. d.job) done

abbrev all_jobs : {O : Type 0} → List (List (Done O)) → List ℕ
all_jobs done = concat (map (map (λ d. d.job)) done)

times_here : (x : ℕ) (xs : List ℕ) → times x (x ∷ xs) ≡ 1 + times x xs
times_here x xs = ap (λ b. cond b 1 0 + times x xs) (eq-eqb x x refl)

module _ {V O : Type 0} (h : History) (runs : ℕ → Lanes V → O → Lanes V → Type 0) (go : (job : ℕ) (s : Lanes V) (o : O) (u : Lanes V) → runs job s o u → AllGoOn s.first u.first) where
  -- a run of this job made the event
  pub record ByJob (job place : ℕ) : Type 0 where
    pub before : Lanes V
    pub outcome : O
    pub after : Lanes V
    pub run : runs job before outcome after
    pub made : IsMadeIn h place before.first after.first

  -- that of one of these jobs did
  abbrev pub BySome : List ℕ → ℕ → Type 0
  BySome jobs place = (job : ℕ) × (1 ≤ times job jobs) × ByJob job place

  by_left : (xs ys : List ℕ) (place : ℕ) → BySome xs place → BySome (xs ++ ys) place
  by_left xs ys place by = let e = times-append by.0 xs ys in let l = by.1 in (by.0, omega (arith, e, l), by.2)

  by_right : (xs ys : List ℕ) (place : ℕ) → BySome ys place → BySome (xs ++ ys) place
  by_right xs ys place by = let e = times-append by.0 xs ys in let l = by.1 in (by.0, omega (arith, e, l), by.2)

  by_later : (x : ℕ) (xs : List ℕ) (place : ℕ) → BySome xs place → BySome (x ∷ xs) place
  by_later x xs place by = by_right (x ∷ []) xs place by

  by_here : (d : Done O) (s u : Lanes V) (xs : List ℕ) (place : ℕ) → runs d.job s d.outcome u → IsMadeIn h place s.first u.first → BySome (d.job ∷ xs) place
  by_here d s u xs place run made = let e = times_here d.job xs in (d.job, omega (arith, e), record { before = s; outcome = d.outcome; after = u; run = run; made = made })

  -- what the lanes of a share made while its jobs were done, one of these made
  by_turn : (done : List (Done O)) (s u : Lanes V) (place : ℕ) → InTurn runs done s u → IsMadeIn h place s.first u.first → BySome (jobs_of done) place
  by_turn [] s u place same made = absurd (same_made h s.first place (subst (λ (x : Lanes V). IsMadeIn h place s.first x.first) (sym same) made))
  by_turn (d ∷ done) s u place run made = elim (all_made_then h s.first run.0.first u.first place (go d.job s d.outcome run.0 run.1) made) [
    | inl now ↦ by_here d s run.0 (jobs_of done) place run.1 now
    | inr late ↦ by_later d.job (jobs_of done) place (by_turn done run.0 u place run.2 late)
  ]

  by_worked : (size longer : ℕ) (done : List (List (Done O))) (s u : Lanes V) (place : ℕ) → WorkedFrom runs size longer done s u → IsMadeIn h place s.first u.first → BySome (all_jobs done) place
  by_worked size longer [] s u place same made = absurd (same_made h s.first place (subst (λ (x : Lanes V). IsMadeIn h place s.first x.first) (sym same) made))
  by_worked size longer (list ∷ done) s u place run made =
      let m = size + min 1 longer in
      elim (made_parts h m s.first u.first place made) [
        | inl here ↦ by_left (jobs_of list) (all_jobs done) place (by_turn list (front m s) (front m u) place run.0 here)
        | inr there ↦ by_right (jobs_of list) (all_jobs done) place (by_worked size (longer - 1) done (back m s) (back m u) place run.1 there)
      ]

  pub by_dealt : (jobs workers : ℕ) (s u : Lanes V) (outcomes : List O) (place : ℕ) → RunByDealing runs jobs workers s outcomes u → IsMadeIn h place s.first u.first → (job : ℕ) × ByJob job place
  by_dealt jobs workers s u outcomes place run made =
      let by = by_worked (length s.first / workers) (length s.first % workers) run.done s u place run.worked made in
      (by.0, by.2)

  -- ---- a job, and the others

  module _ (Seen Others : ℕ → Type 0) where
    -- another job made the event
    abbrev pub ByOther : ℕ → ℕ → Type 0
    ByOther job place = (other : ℕ) × (other ≢ job) × ByJob other place

    -- each of these events was made in this run of the job, or by another job, or is one of others
    abbrev pub OrOther : ℕ → Lanes V → O → Lanes V → Type 0
    OrOther job s o u = runs job s o u × ((place : ℕ) → Seen place → IsMadeIn h place s.first u.first ⊎ (Others place ⊎ ByOther job place))

    -- what is known of some shares: each of these events was made by their lanes, or elsewhere by one of these jobs, or is one of others
    abbrev Known : List ℕ → Lanes V → Lanes V → Type 0
    Known elsewhere s u = (place : ℕ) → Seen place → IsMadeIn h place s.first u.first ⊎ (Others place ⊎ BySome elsewhere place)

    other_job : (job : ℕ) (jobs : List ℕ) (place : ℕ) → times job jobs ≡ 0 → BySome jobs place → ByOther job place
    other_job job jobs place none by = (by.0, (λ same. let e = ap (λ n. times n jobs) same in let l = by.1 in omega (arith, e, l, none)), by.2)

    turned : (done : List (Done O)) (s u : Lanes V) (elsewhere : List ℕ) → ((x : ℕ) → times x elsewhere + times x (jobs_of done) ≤ 1) → Known elsewhere s u → InTurn runs done s u → InTurn OrOther done s u
    turned [] s u elsewhere once known same = same
    turned (d ∷ done) s u elsewhere once known run =
        let split : (place : ℕ) → IsMadeIn h place s.first u.first → IsMadeIn h place s.first run.0.first ⊎ IsMadeIn h place run.0.first u.first =
        λ place made. all_made_then h s.first run.0.first u.first place (go d.job s d.outcome run.0 run.1) made in
        let sole = once d.job in
        let twice = times_here d.job (jobs_of done) in
        let not_elsewhere : times d.job elsewhere ≡ 0 = omega (arith, sole, twice) in
        let not_later : times d.job (jobs_of done) ≡ 0 = omega (arith, sole, twice) in
        let mine : (place : ℕ) → Seen place → IsMadeIn h place s.first run.0.first ⊎ (Others place ⊎ ByOther d.job place) = λ place seen. elim (known place seen) [
          | inl made ↦ elim (split place made) [
            | inl now ↦ inl now
            | inr late ↦ inr (inr (other_job d.job (jobs_of done) place not_later (by_turn done run.0 u place run.2 late)))
          ]
          | inr more ↦ elim more [ inl other ↦ inr (inl other) | inr by ↦ inr (inr (other_job d.job elsewhere place not_elsewhere by)) ]
        ] in
        let rest : Known (d.job ∷ elsewhere) run.0 u = λ place seen. elim (known place seen) [
          | inl made ↦ elim (split place made) [ inl now ↦ inr (inr (by_here d s run.0 elsewhere place run.1 now)) | inr late ↦ inl late ]
          | inr more ↦ elim more [ inl other ↦ inr (inl other) | inr by ↦ inr (inr (by_later d.job elsewhere place by)) ]
        ] in
        (run.0, (run.1, mine), turned done run.0 u (d.job ∷ elsewhere) (λ x. let o = once x in omega (arith, o)) rest run.2)

    worked : (size longer : ℕ) (done : List (List (Done O))) (s u : Lanes V) (elsewhere : List ℕ) → ((x : ℕ) → times x elsewhere + times x (all_jobs done) ≤ 1) → Known elsewhere s u
        → WorkedFrom runs size longer done s u → WorkedFrom OrOther size longer done s u
    worked size longer [] s u elsewhere once known same = same
    worked size longer (list ∷ done) s u elsewhere once known run =
        let m = size + min 1 longer in
        let rest = all_jobs done in
        let first : Known (elsewhere ++ rest) (front m s) (front m u) = λ place seen. elim (known place seen) [
          | inl made ↦ elim (made_parts h m s.first u.first place made) [
            | inl here ↦ inl here
            | inr there ↦ inr (inr (by_right elsewhere rest place (by_worked size (longer - 1) done (back m s) (back m u) place run.1 there)))
          ]
          | inr more ↦ elim more [ inl other ↦ inr (inl other) | inr by ↦ inr (inr (by_left elsewhere rest place by)) ]
        ] in
        let later : Known (elsewhere ++ jobs_of list) (back m s) (back m u) = λ place seen. elim (known place seen) [
          | inl made ↦ elim (made_parts h m s.first u.first place made) [
            | inl here ↦ inr (inr (by_right elsewhere (jobs_of list) place (by_turn list (front m s) (front m u) place run.0 here)))
            | inr there ↦ inl there
          ]
          | inr more ↦ elim more [ inl other ↦ inr (inl other) | inr by ↦ inr (inr (by_left elsewhere (jobs_of list) place by)) ]
        ] in (
          turned list (front m s) (front m u) (elsewhere ++ rest) (λ x. let o = once x in let a = times-append x elsewhere rest in let b = times-append x (jobs_of list) rest in omega (arith, o, a, b)) first run.0,
          worked size (longer - 1) done (back m s) (back m u) (elsewhere ++ jobs_of list) (λ x. let o = once x in let a = times-append x elsewhere (jobs_of list) in let b = times-append x (jobs_of list) rest in omega (arith, o, a, b)) later run.1,
        )

    pub dealt_apart : (jobs workers : ℕ) (s u : Lanes V) (outcomes : List O) → ((place : ℕ) → Seen place → IsMadeIn h place s.first u.first ⊎ Others place) → RunByDealing runs jobs workers s outcomes u
        → RunByDealing OrOther jobs workers s outcomes u
    dealt_apart jobs workers s u outcomes known run =
        let once : (x : ℕ) → times x [] + times x (all_jobs run.done) ≤ 1 = λ x. elim (cases_lt x jobs) [
          | inl below ↦ let e = run.dealt.once x below in omega (arith, e)
          | inr past ↦ let e = run.dealt.none x past in omega (arith, e)
        ] in
        let all : Known [] s u = λ place seen. elim (known place seen) [ inl made ↦ inl made | inr other ↦ inr (inl other) ] in
        record {
          done = run.done;
          dealt = run.dealt;
          worked = worked (length s.first / workers) (length s.first % workers) run.done s u [] once all run.worked;
          outcome_count = run.outcome_count;
          in_order = run.in_order;
        }
