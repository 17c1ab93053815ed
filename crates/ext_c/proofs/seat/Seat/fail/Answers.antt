use Rattle.std.proofs.Common.{◌≡◌, ◌∙◌, false, true, sym, refl, subst}
use Rattle.ext_store.specs.Stores.{StoreView}
use Rattle.ext_c.specs.Answers.{FailSays}
use Rattle.ext_c.proofs.Said.{fail_without_memory}
use Rattle.ext_c.proofs.seat.Seat.fail.Goals as goal

pub returns-then-not-keeps_faults-clause-says : goal.returns-then-not-keeps_faults-clause-says
returns-then-not-keeps_faults-clause-says c =
    FailSays.given_up c.in-Some.claim (sym c.replace.ensures.value ∙ c.in-Some.is)
    (subst (λ (s : StoreView). s.id.cells.limits.keep_faults ≡ false) c.deref-shared.ensures (sym c.keeps_faults.ensures ∙ c.if-not-keeps_faults.true))
    c.abandon_quietly.ensures.abandoned refl refl

pub returns-in_default-fault_of-clause-says : goal.returns-in_default-fault_of-clause-says
returns-in_default-fault_of-clause-says c =
    fail_without_memory c.args.handle c.args.self.now _ c.args.number.now c.in-Some.claim c.of_keep.result (sym c.replace.ensures.value ∙ c.in-Some.is) (subst (λ (s : StoreView). s.id.cells.limits.keep_faults ≡ true) c.deref-shared.ensures (sym c.keeps_faults.ensures ∙ c.if-not-keeps_faults.false)) c.args.self.now.fits.cells
    c.abandon_quietly-in_default-fault_of.ensures.abandoned c.of_keep.ensures

pub returns-in-Ok-fail_claim-clause-says : goal.returns-in-Ok-fail_claim-clause-says
returns-in-Ok-fail_claim-clause-says c =
    FailSays.failed c.in-Some.claim c.in-Ok.fault (sym c.replace.ensures.value ∙ c.in-Some.is)
    (subst (λ (s : StoreView). s.id.cells.limits.keep_faults ≡ true) c.deref-shared.ensures (sym c.keeps_faults.ensures ∙ c.if-not-keeps_faults.false)) c.in-Ok.ensures c.in-Ok-fail_claim.ensures.failed c.in-Ok-fail_claim.ensures.learnt refl

pub returns-in-Err-clause-says : goal.returns-in-Err-clause-says
returns-in-Err-clause-says c =
    FailSays.unkept c.in-Some.claim c.in-Err.why (sym c.replace.ensures.value ∙ c.in-Some.is) (subst (λ (s : StoreView). s.id.cells.limits.keep_faults ≡ true) c.deref-shared.ensures (sym c.keeps_faults.ensures ∙ c.if-not-keeps_faults.false)) c.in-Err.ensures.unkept c.in-Err.ensures.decided refl c.of_keep-in-Err.ensures
