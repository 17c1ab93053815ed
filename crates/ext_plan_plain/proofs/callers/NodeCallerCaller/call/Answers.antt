use Rattle.std.proofs.Common.{refl}
use Rattle.ext_plan_plain.proofs.CallsDone.{does}
use Rattle.ext_plan_plain.proofs.callers.NodeCallerCaller.call.Goals as goal

pub returns-clause-call : goal.returns-clause-call
returns-clause-call g c =
    let before = c.args.self.now in
    does before _ c.args.call.now c.run_steps-end.result.outcome _ _ _ _ c.run_steps-end.result.lacked c.run_steps-end.ensures.end c.run_steps-end.ensures.told c.has_lacked-self.ensures.before c.has_lacked-self.ensures.now c.has_lacked-self.ensures.neither c.requires.ready.tree c.path-path.ensures.path c.as_slice.ensures.contexts before.setting.keyed c.steps_of-steps.ensures.steps refl refl
