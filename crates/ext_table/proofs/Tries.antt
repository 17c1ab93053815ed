-- A test that is run until it does not fail.
use Rattle.std.proofs.Common.{◌≡◌, ◌≢◌, ℕ, ◌+◌, ◌<◌, ◌++◌, List, [], ◌∷◌, All, length, refl, sym, subst, ◌∙◌, add-one, arith}
use Rattle.std.specs.Prelude.{Result, Ok, Err}
use Rattle.std.proofs.lemmas.List.{length_push}
use Rattle.std.proofs.lemmas.List.Elements.{All-nil, All-push}
use Rattle.ext_model.specs.declared.look.Fault.{Fault}
use Rattle.ext_lifecycle.specs.declared.outcome.Verdict.{Verdict}
use Rattle.ext_lifecycle.specs.declared.outcome.Verdict.TheVariants as verdicts
use Rattle.ext_table.specs.Lending.{IsLent, IsMovedOnce}
use Rattle.ext_table.specs.Stops.{IsFailed, IsVerdictOf}
use Rattle.ext_table.specs.TableCalls.{IsTried}
use Rattle.ext_table.specs.declared.stop.Stop.{Stop}
use Rattle.ext_table.specs.declared.stop.Stop.TheVariants as stops
use Rattle.ext_table.proofs.Moves.{lent_more, not_lent}

module _ {L : Type 0} (Gives : Result (Unit {0}) Stop → Type 0) (Moves : L → L → Type 0) where
  -- So many answers so far, each that of a test that failed, and the lane was lent for each.
  pub record HaveFailed (count : ℕ) (before after : L) : Type 0 where
    pub earlier : List (Result (Unit {0}) Stop)
    pub all_failed : All IsFailed earlier
    pub each : All Gives earlier
    pub long : length earlier ≡ count
    pub lent : IsLent Moves (length earlier) before after

  pub none_failed : (before : L) → HaveFailed 0 before before
  none_failed before = record { earlier = []; all_failed = All-nil IsFailed; each = All-nil Gives; long = refl; lent = not_lent Moves before }

  lent_again : (earlier : List (Result (Unit {0}) Stop)) (answer : Result (Unit {0}) Stop) (before latest after : L) → IsLent Moves (length earlier) before latest → IsMovedOnce Moves latest after
      → IsLent Moves (length (earlier ++ answer ∷ [])) before after
  lent_again earlier answer before latest after so once =
      subst (λ n. IsLent Moves n before after) (sym (length_push earlier answer ∙ add-one (length earlier))) (lent_more Moves (length earlier) before latest after so once)

  pub one_more_failed : (count : ℕ) (answer : Result (Unit {0}) Stop) (before latest after : L) → HaveFailed count before latest → Gives answer → IsMovedOnce Moves latest after → IsFailed answer
      → HaveFailed (count + 1) before after
  one_more_failed count answer before latest after so gives once failed = record {
    earlier = so.earlier ++ answer ∷ [];
    all_failed = All-push IsFailed so.earlier answer so.all_failed failed;
    each = All-push Gives so.earlier answer so.each gives;
    long = omega (arith, length_push so.earlier answer, so.long);
    lent = lent_again so.earlier answer before latest after so.lent once;
  }

  pub tried : (most count : ℕ) (answer : Result (Unit {0}) Stop) (verdict : Verdict) (before latest after : L) → HaveFailed count before latest → Gives answer → IsMovedOnce Moves latest after → count < most
      → (IsFailed answer → count + 1 ≡ most) → IsVerdictOf answer verdict → IsTried Gives Moves most before verdict after
  tried most count answer verdict before latest after so gives once few end is = record {
    earlier = so.earlier;
    last = answer;
    all_failed = so.all_failed;
    each = All-push Gives so.earlier answer so.each gives;
    few = omega (arith, length_push so.earlier answer, so.long, few);
    lent = lent_again so.earlier answer before latest after so.lent once;
    to_the_end = λ failed. let e = end failed in omega (arith, length_push so.earlier answer, so.long, e);
    verdict_is = is;
  }

-- An answer whose verdict is that the test failed,
pub failed_by : (answer : Result (Unit {0}) Stop) (verdict : Verdict) (fault : Fault) → IsVerdictOf answer verdict → verdict ≡ verdicts.Failed fault → IsFailed answer
failed_by (Ok done) verdict fault is failed = absurd (cc (is, failed))
failed_by (Err (stops.Failed why)) verdict fault is failed = tt
failed_by (Err (stops.Aborted why)) verdict fault is failed = absurd (cc (is, failed))
failed_by (Err (stops.Error why)) verdict fault is failed = tt
failed_by (Err (stops.Io why)) verdict fault is failed = tt

-- and one whose verdict is another.
pub passed_by : (answer : Result (Unit {0}) Stop) (verdict : Verdict) → IsVerdictOf answer verdict → ((fault : Fault) → verdict ≢ verdicts.Failed fault) → ¬ IsFailed answer
passed_by (Ok done) verdict is other failed = failed
passed_by (Err (stops.Failed why)) verdict is other failed = other why is
passed_by (Err (stops.Aborted why)) verdict is other failed = failed
passed_by (Err (stops.Error why)) verdict is other failed = other is.0 is.2
passed_by (Err (stops.Io why)) verdict is other failed = other is.0 is.2
