use Rattle.std.proofs.Common.{suc, ◌∙◌, sym, refl, true≢false, subst}
use Rattle.std.specs.Prelude.{Err}
use Rattle.ext_store_core.specs.Claiming.{ClaimsAlong}
use Rattle.ext_store_core.proofs.store_core.StoreCore.claim_along_wait.Goals as goal

pub returns-in-Ok-clause-claim : goal.returns-in-Ok-clause-claim
returns-in-Ok-clause-claim g c = record { attempts = c.loop.invariant.attempts; between = c.loop.lane.view; in_vain = c.loop.invariant.in_vain; then_is = c.in-Ok.ensures.claim }

pub returns-in-Err-Found-clause-claim : goal.returns-in-Err-Found-clause-claim
returns-in-Err-Found-clause-claim g c = record {
  attempts = c.loop.invariant.attempts;
  between = c.loop.lane.view;
  in_vain = c.loop.invariant.in_vain;
  then_is = subst (λ z. ClaimsAlong c.args.self.now c.args.path.now c.args.key c.loop.lane.view c.claim_along.new.lane.view (Err z)) c.in-Err-Found.field-0-is c.in-Err-Found.ensures.claim;
}

pub returns-in-Err-FaultStands-clause-claim : goal.returns-in-Err-FaultStands-clause-claim
returns-in-Err-FaultStands-clause-claim g c = record {
  attempts = c.loop.invariant.attempts;
  between = c.loop.lane.view;
  in_vain = c.loop.invariant.in_vain;
  then_is = subst (λ z. ClaimsAlong c.args.self.now c.args.path.now c.args.key c.loop.lane.view c.claim_along.new.lane.view (Err z)) c.in-Err-FaultStands.field-0-is c.in-Err-FaultStands.ensures.claim;
}

pub returns-then-is_decided-clause-claim : goal.returns-then-is_decided-clause-claim
returns-then-is_decided-clause-claim g c = record {
  attempts = c.loop.invariant.attempts;
  between = c.loop.lane.view;
  in_vain = c.loop.invariant.in_vain;
  then_is = subst (λ z. ClaimsAlong c.args.self.now c.args.path.now c.args.key c.loop.lane.view c.claim_along.new.lane.view (Err z)) c.in-Err-Refused.field-0-is c.in-Err-Refused.ensures.claim;
}

pub loop-init : goal.loop-init
loop-init g c = record { cells = refl; attempts = 0; in_vain = refl }

pub loop-preserved : goal.loop-preserved
loop-preserved g c = record {
  cells = c.claim_along.ensures.lane ∙ c.loop.invariant.cells;
  attempts = suc c.loop.invariant.attempts;
  in_vain = (
    c.loop.lane.view,
    c.loop.invariant.in_vain,
    record {
      why = c.in-Err-Refused.why;
      undecided = λ decided. true≢false (sym (c.is_decided.ensures.1 decided) ∙ c.if-is_decided.false);
      refused = subst (λ z. ClaimsAlong c.args.self.now c.args.path.now c.args.key c.loop.lane.view c.claim_along.new.lane.view (Err z)) c.in-Err-Refused.field-0-is c.in-Err-Refused.ensures.claim;
    },
  );
}
