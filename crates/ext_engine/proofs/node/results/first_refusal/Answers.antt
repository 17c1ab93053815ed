use Rattle.std.proofs.Common.{◌≡◌, ◌∷◌, [], ◌++◌, get_or, refl, take, sym, subst}
use Rattle.std.specs.Prelude.{All, IsOk}
use Rattle.std.proofs.lemmas.List.{take_all, take_more}
use Rattle.std.proofs.lemmas.List.Elements.{All-push}
use Rattle.ext_engine.proofs.Early.{first_at}
use Rattle.ext_engine.proofs.node.results.first_refusal.Goals as goal

pub returns-in-Err-clause-first : goal.returns-in-Err-clause-first
returns-in-Err-clause-first c =
    let outcomes = c.args.outcomes.now in let at = c.loop-outcome.outcome-index in
    first_at outcomes at c.in-Err.fault c.loop-outcome.invariant c.loop-outcome-test.true (subst (λ r. r ≡ get_or outcomes at r) c.in-Err.is c.outcome-item.is)

pub loop-outcome-preserved : goal.loop-outcome-preserved
loop-outcome-preserved c =
    let outcomes = c.args.outcomes.now in let at = c.loop-outcome.outcome-index in let one = c.outcome-item.result in
    let good : IsOk one = subst (λ r. IsOk r) (sym c.in_default.is) refl in
    subst (All (λ r. IsOk r)) (sym (take_more outcomes at one c.loop-outcome-test.true))
    (subst (λ r. All (λ x. IsOk x) (take at outcomes ++ r ∷ [])) c.outcome-item.is (All-push (λ r. IsOk r) (take at outcomes) one c.loop-outcome.invariant good))

pub returns-clause-all : goal.returns-clause-all
returns-clause-all c = subst (All (λ r. IsOk r)) (take_all c.loop-outcome.outcome-index c.args.outcomes.now c.loop-outcome-test.false) c.loop-outcome.invariant
