-- What a call of a node did, from what its steps did.
use Rattle.std.proofs.Common.{◌≡◌, ◌≢◌, ℕ, Bool, false, List, [], ap, ◌∙◌}
use Rattle.ext_lifecycle.specs.declared.call.Call.{Call}
use Rattle.ext_lifecycle.specs.declared.outcome.Outcome.{Outcome}
use Rattle.ext_lifecycle.specs.FaultTexts.{verdict_text}
use Rattle.ext_plan.specs.Plans.{KeyText, StepText}
use Rattle.ext_plan.specs.PlanCalls.{steps_of_call}
use Rattle.ext_tree.specs.Trees.{IsTree, IsPathOf}
use Rattle.ext_tree.proofs.TreeLaws.{paths_are_unique}
use Rattle.ext_plan_plain.specs.declared.callers.NodeCaller.{NodeCaller}
use Rattle.ext_plan_plain.specs.InnerSteps.{DoesCall, plan_in, state_view, step_end}
use Rattle.ext_plan_plain.specs.NodeCalls.{call_run}
use Rattle.ext_plan_plain.specs.StepRuns.{no_memory, steps_run}
use Rattle.ext_plan_plain.specs.ValueStates.{Memory, with_memory}

pub does : {L : Type 0} (before after : NodeCaller L) (call : Call) (outcome : Outcome) (keys : List KeyText) (path slice : List ℕ) (steps : List StepText) (lacked : Bool)
    → ((later : List Memory) → (memory : List Memory) × (step_end (with_memory later (state_view after.store)) outcome ≡ steps_run keys slice steps (with_memory memory (state_view before.store))) × (lacked ≡ false → later ≡ [] → memory ≡ []))
    → (verdict_text outcome.verdict ≢ no_memory → lacked ≡ false)
    → (after.lacked ≡ false → before.lacked ≡ false) → (after.lacked ≡ false → lacked ≡ false) → (before.lacked ≡ false → lacked ≡ false → after.lacked ≡ false)
    → IsTree before.setting.tree.now → IsPathOf before.setting.tree.now before.node path → slice ≡ path → keys ≡ (plan_in before.setting).keys → steps ≡ steps_of_call (plan_in before.setting) call
    → after.setting ≡ before.setting → after.node ≡ before.node → DoesCall before call outcome after
does before after call outcome keys path slice steps lacked ran failed kept told untold tree is_path sliced keyed stepped setting node = record {
  setting = setting;
  node = node;
  end = λ other other_path later.
      let one = ran later in
      let s = with_memory one.0 (state_view before.store) in (
        one.0,
        one.1
            ∙ ap (λ ks. steps_run ks slice steps s) keyed
            ∙ ap (λ ss. steps_run (plan_in before.setting).keys slice ss s) stepped
            ∙ ap (λ p. call_run (plan_in before.setting) p call s) (sliced ∙ paths_are_unique.one_path before.setting.tree.now before.node path other tree is_path other_path),
        record { kept = kept; nothing = λ unlacked none. one.2 (told unlacked) none; spared = λ spared unlacked. untold unlacked (failed spared) },
      );
}
