-- One run of each job of a dealing: what the lanes of all shares made, the run of one job made, and of no other.
use Rattle.std.proofs.Common.{◌≡◌, inl, inr, ℕ, ◌+◌, ◌-◌, ◌/◌, ◌%◌, ◌<◌, ◌≤◌, ◌==◌, ◌⊎◌, cond, drop, min, take, Bool, true, false, List, [], ◌∷◌, ◌++◌, length, map, ap, refl, sym, subst, ◌∙◌, arith, eq-eqb}
use Rattle.std.specs.Prelude.{if◌then◌else◌}
use Rattle.std.specs.List.{concat}
use Rattle.std.proofs.lemmas.Bool.{cases_lt, eqb-true}
use Rattle.ext_history.proofs.Lists.{bools}
use Rattle.ext_model.specs.History.{History}
use Rattle.ext_crew.specs.declared.jobs.done.Done.{Done}
use Rattle.ext_crew.specs.Dealing.{InTurn, RunByDealing, WorkedFrom, front, back}
use Rattle.ext_crew.specs.Times.{times}
use Rattle.ext_crew.proofs.Totals.{times-append}
use Rattle.ext_engine.specs.Order.{IsMadeIn}
use Rattle.ext_engine.specs.TreeRun.{Lanes}
use Rattle.ext_engine.proofs.Acts.{Acts, acts_before, all_made_then, same_made}
use Rattle.ext_engine.proofs.Seen.{acts_then}
use Rattle.ext_one_report.proofs.LanesApart.{AreApart, apart_left, made_first, made_later, made_left, made_taken, shares_apart}
use Rattle.ext_one_report.proofs.Parts.{made_parts, no_acts}

-- ---- counts

abbrev jobs_of : {O : Type 0} → List (Done O) → List ℕ
jobs_of done = map (λ d. d.job) done

abbrev all_jobs : {O : Type 0} → List (List (Done O)) → List ℕ
all_jobs done = concat (map (map (λ d. d.job)) done)

times_there : (x y : ℕ) (xs : List ℕ) → y ≡ x → times x (y ∷ xs) ≡ 1 + times x xs
times_there x y xs same = ap (λ b. cond b 1 0 + times x xs) (eq-eqb y x same)

times_other : (x y : ℕ) (xs : List ℕ) → (y == x) ≡ false → times x (y ∷ xs) ≡ times x xs
times_other x y xs other = let e = ap (λ b. cond b 1 0 + times x xs) other in omega (arith, e)

-- a run of a job
pub record JobRun (V O : Type 0) : Type 0 where
  pub before : Lanes V
  pub outcome : O
  pub after : Lanes V

module _ {V O : Type 0} (h : History) (runs : ℕ → Lanes V → O → Lanes V → Type 0) (act : (job : ℕ) (s : Lanes V) (o : O) (u : Lanes V) → runs job s o u → Acts h s.first u.first) (some : O) where
  abbrev Is : ℕ → JobRun V O → Type 0
  Is job r = runs job r.before r.outcome r.after

  abbrev By : ℕ → JobRun V O → Type 0
  By place r = IsMadeIn h place r.before.first r.after.first

  -- each of these jobs has one run, and one of these runs alone made each event of the lanes
  record Named (jobs : List ℕ) (s u : Lanes V) : Type 0 where
    run_of : ℕ → JobRun V O
    is_run : (job : ℕ) → 1 ≤ times job jobs → Is job (run_of job)
    made : (place : ℕ) → IsMadeIn h place s.first u.first → (job : ℕ) × (1 ≤ times job jobs) × By place (run_of job)
    from : (job place : ℕ) → 1 ≤ times job jobs → By place (run_of job) → IsMadeIn h place s.first u.first
    one : (job other place : ℕ) → 1 ≤ times job jobs → 1 ≤ times other jobs → By place (run_of job) → By place (run_of other) → job ≡ other

  none_named : (s u : Lanes V) → s ≡ u → Named [] s u
  none_named s u same = record {
    run_of = λ job. record { before = s; outcome = some; after = u };
    is_run = λ job less. let none : times job [] ≡ 0 = refl in absurd (omega (arith, none, less));
    made = λ place made. absurd (same_made h s.first place (subst (λ (x : Lanes V). IsMadeIn h place s.first x.first) (sym same) made));
    from = λ job place less by. let none : times job [] ≡ 0 = refl in absurd (omega (arith, none, less));
    one = λ job other place less also by too. let none : times job [] ≡ 0 = refl in absurd (omega (arith, none, less));
  }

  -- one of two
  abbrev either : Bool → JobRun V O → JobRun V O → JobRun V O
  either b first second = if b then first else second

  turn_acts : (done : List (Done O)) (s u : Lanes V) → InTurn runs done s u → Acts h s.first u.first
  turn_acts [] s u same = subst (λ (x : Lanes V). Acts h s.first x.first) same (no_acts h s.first)
  turn_acts (d ∷ done) s u run = acts_then h s.first run.0.first u.first (act d.job s d.outcome run.0 run.1) (turn_acts done run.0 u run.2)

  turn_named : (done : List (Done O)) (s u : Lanes V) → ((x : ℕ) → times x (jobs_of done) ≤ 1) → InTurn runs done s u → Named (jobs_of done) s u
  turn_named [] s u once same = none_named s u same
  turn_named (d ∷ done) s u once run =
      let later = jobs_of done in
      let rest = turn_named done run.0 u (λ x. let all = once x in let e = times-append x (d.job ∷ []) later in omega (arith, all, e)) run.2 in
      let first : JobRun V O = record { before = s; outcome = d.outcome; after = run.0 } in
      let now_acts = act d.job s d.outcome run.0 run.1 in
      let late_acts = turn_acts done run.0 u run.2 in
      -- a run of these is the first, or one of the later ones
      let which : (job place : ℕ) → 1 ≤ times job (d.job ∷ later) → By place (either (d.job == job) first (rest.run_of job)) → ((d.job ≡ job) × By place first) ⊎ ((1 ≤ times job later) × By place (rest.run_of job)) =
      λ job place less by. elim (bools (d.job == job)) [
        | inl same ↦ inl (eqb-true d.job job same, subst (λ b. By place (either b first (rest.run_of job))) same by)
        | inr other ↦ let e = times_other job d.job later other in inr (omega (arith, e, less), subst (λ b. By place (either b first (rest.run_of job))) other by)
      ] in
      record {
        run_of = λ job. either (d.job == job) first (rest.run_of job);
        is_run = λ job less. elim (bools (d.job == job)) [
          | inl same ↦ subst (λ b. Is job (either b first (rest.run_of job))) (sym same) (subst (λ j. Is j first) (eqb-true d.job job same) run.1)
          | inr other ↦
              let e = times_other job d.job later other in
              subst (λ b. Is job (either b first (rest.run_of job))) (sym other) (rest.is_run job (omega (arith, e, less)))
        ];
        made = λ place made. elim (all_made_then h s.first run.0.first u.first place now_acts.goes made) [
          | inl now ↦
              let e = times_there d.job d.job later refl in
              (d.job, omega (arith, e), subst (λ b. By place (either b first (rest.run_of d.job))) (sym (eq-eqb d.job d.job refl)) now)
          | inr late ↦
              let r = rest.made place late in
              let l = r.1 in
              elim (bools (d.job == r.0)) [
                | inl same ↦ let e = times_there r.0 d.job later (eqb-true d.job r.0 same) in let o = once r.0 in absurd (omega (arith, e, o, l))
                | inr other ↦ let e = times_other r.0 d.job later other in (r.0, omega (arith, e, l), subst (λ b. By place (either b first (rest.run_of r.0))) (sym other) r.2)
              ]
        ];
        from = λ job place less by. elim (which job place less by) [
          | inl now ↦ made_first h s.first run.0.first u.first place late_acts.goes now.1
          | inr late ↦ made_later h s.first run.0.first u.first place now_acts.goes (rest.from job place late.0 late.1)
        ];
        one = λ job other place less also by too. elim (which job place less by) [
          | inl now ↦ elim (which other place also too) [
            | inl same ↦ sym now.0 ∙ same.0
            | inr late ↦ let e = acts_before h s.first run.0.first u.first now_acts late_acts place place now.1 (rest.from other place late.0 late.1) in absurd (omega (arith, e))
          ]
          | inr late ↦ elim (which other place also too) [
            | inl now ↦ let e = acts_before h s.first run.0.first u.first now_acts late_acts place place now.1 (rest.from job place late.0 late.1) in absurd (omega (arith, e))
            | inr both ↦ rest.one job other place late.0 both.0 late.1 both.1
          ]
        ];
      }

  worked_named : (size longer : ℕ) (done : List (List (Done O))) (s u : Lanes V) → ((x : ℕ) → times x (all_jobs done) ≤ 1) → AreApart s.first → WorkedFrom runs size longer done s u → Named (all_jobs done) s u
  worked_named size longer [] s u once apart same = none_named s u same
  worked_named size longer (list ∷ done) s u once apart run =
      let m = size + min 1 longer in
      let mine = jobs_of list in
      let others = all_jobs done in
      let one = turn_named list (front m s) (front m u) (λ x. let all = once x in let e = times-append x mine others in omega (arith, all, e)) run.0 in
      let rest = worked_named size (longer - 1) done (back m s) (back m u) (λ x. let all = once x in let e = times-append x mine others in omega (arith, all, e)) (apart_left m s.first apart) run.1 in
      -- a run of these is one of the first worker's, or of the others
      let which : (job place : ℕ) → 1 ≤ times job (mine ++ others) → By place (either (times job mine == 0) (rest.run_of job) (one.run_of job))
      → ((1 ≤ times job mine) × By place (one.run_of job)) ⊎ ((1 ≤ times job others) × By place (rest.run_of job)) =
      λ job place less by. elim (bools (times job mine == 0)) [
        | inl none ↦
            let e = times-append job mine others in
            let n = eqb-true (times job mine) 0 none in
            inr (omega (arith, e, n, less), subst (λ b. By place (either b (rest.run_of job) (one.run_of job))) none by)
        | inr some_there ↦ inl (positive (times job mine) some_there, subst (λ b. By place (either b (rest.run_of job) (one.run_of job))) some_there by)
      ] in
      record {
        run_of = λ job. either (times job mine == 0) (rest.run_of job) (one.run_of job);
        is_run = λ job less. elim (bools (times job mine == 0)) [
          | inl none ↦
              let e = times-append job mine others in
              let n = eqb-true (times job mine) 0 none in
              subst (λ b. Is job (either b (rest.run_of job) (one.run_of job))) (sym none) (rest.is_run job (omega (arith, e, n, less)))
          | inr some_there ↦
              subst (λ b. Is job (either b (rest.run_of job) (one.run_of job))) (sym some_there) (one.is_run job (positive (times job mine) some_there))
        ];
        made = λ place made. elim (made_parts h m s.first u.first place made) [
          | inl here ↦
              let r = one.made place here in
              let l = r.1 in
              let e = times-append r.0 mine others in
              (r.0, omega (arith, e, l), subst (λ b. By place (either b (rest.run_of r.0) (one.run_of r.0))) (sym (more (times r.0 mine) l)) r.2)
          | inr there ↦
              let r = rest.made place there in
              let l = r.1 in
              let e = times-append r.0 mine others in
              let o = once r.0 in
              let none : times r.0 mine ≡ 0 = omega (arith, e, l, o) in
              (r.0, omega (arith, e, l), subst (λ b. By place (either b (rest.run_of r.0) (one.run_of r.0))) (sym (eq-eqb (times r.0 mine) 0 none)) r.2)
        ];
        from = λ job place less by. elim (which job place less by) [
          | inl here ↦ made_taken h m s.first u.first place (one.from job place here.0 here.1)
          | inr there ↦ made_left h m s.first u.first place (rest.from job place there.0 there.1)
        ];
        one = λ job other place less also by too. elim (which job place less by) [
          | inl here ↦ elim (which other place also too) [
            | inl both ↦ one.one job other place here.0 both.0 here.1 both.1
            | inr there ↦ absurd (shares_apart h m s.first (take m u.first) (drop m u.first) place apart (one.from job place here.0 here.1) (rest.from other place there.0 there.1))
          ]
          | inr there ↦ elim (which other place also too) [
            | inl here ↦ absurd (shares_apart h m s.first (take m u.first) (drop m u.first) place apart (one.from other place here.0 here.1) (rest.from job place there.0 there.1))
            | inr both ↦ rest.one job other place there.0 both.0 there.1 both.1
          ]
        ];
      }
    where
      more : (n : ℕ) → 1 ≤ n → (n == 0) ≡ false
      more n less = elim (bools (n == 0)) [ inl none ↦ let e = eqb-true n 0 none in absurd (omega (arith, e, less)) | inr some_there ↦ some_there ]

      positive : (n : ℕ) → (n == 0) ≡ false → 1 ≤ n
      positive n some_there = elim (cases_lt 0 n) [
        | inl less ↦ omega (arith, less)
        | inr none ↦ let e : (n == 0) ≡ true = eq-eqb n 0 (omega (arith, none)) in let bad : true ≡ false = sym e ∙ some_there in absurd (cc bad)
      ]

  -- each job has one run, and one of these runs alone made each event of the lanes
  pub record AreRuns (jobs : ℕ) (s u : Lanes V) : Type 0 where
    pub run_of : ℕ → JobRun V O
    pub is_run : (job : ℕ) → job < jobs → Is job (run_of job)
    pub made : (place : ℕ) → IsMadeIn h place s.first u.first → (job : ℕ) × (job < jobs) × By place (run_of job)
    pub from : (job place : ℕ) → job < jobs → By place (run_of job) → IsMadeIn h place s.first u.first
    pub one : (job other place : ℕ) → job < jobs → other < jobs → By place (run_of job) → By place (run_of other) → job ≡ other

  pub dealt_runs : (jobs workers : ℕ) (s u : Lanes V) (outcomes : List O) → AreApart s.first → RunByDealing runs jobs workers s outcomes u → AreRuns jobs s u
  dealt_runs jobs workers s u outcomes apart run =
      let once : (x : ℕ) → times x (all_jobs run.done) ≤ 1 = λ x. elim (cases_lt x jobs) [
        | inl below ↦ let e = run.dealt.once x below in omega (arith, e)
        | inr past ↦ let e = run.dealt.none x past in omega (arith, e)
      ] in
      let all = worked_named (length s.first / workers) (length s.first % workers) run.done s u once apart run.worked in
      let there : (job : ℕ) → job < jobs → 1 ≤ times job (all_jobs run.done) = λ job less. let e = run.dealt.once job less in omega (arith, e) in
      record {
        run_of = all.run_of;
        is_run = λ job less. all.is_run job (there job less);
        made = λ place made.
            let r = all.made place made in
            let l = r.1 in
            elim (cases_lt r.0 jobs) [
              | inl below ↦ (r.0, below, r.2)
              | inr past ↦ let e = run.dealt.none r.0 past in absurd (omega (arith, e, l))
            ];
        from = λ job place less by. all.from job place (there job less) by;
        one = λ job other place less also by too. all.one job other place (there job less) (there other also) by too;
      }
