-- The steps of a call let their lane go on.
use Rattle.std.proofs.Common.{inl, inr, List, [], ◌∷◌, ℕ, ap, subst, sym}
use mathlib.Core.List.{IsPrefix}
use base.Growing.{prefix_refl}
use Rattle.ext_history.specs.Histories.{seen_by}
use Rattle.ext_history.proofs.Composed.{same_number, seen_goes_on}
use Rattle.ext_history.proofs.Lists.{bools}
use Rattle.ext_lifecycle.specs.declared.outcome.Outcome.{Outcome}
use Rattle.ext_lifecycle.specs.Endings.{is_successful}
use Rattle.ext_lifecycle.specs.Lifecycle.{ending_of}
use Rattle.ext_plan.specs.Plans.{KeyText, StepText}
use Rattle.ext_cells.specs.Lanes.{Lane}
use Rattle.ext_store.specs.LaneCalls.{Frame}
use Rattle.ext_store.specs.Stores.{StoreView}
use Rattle.ext_engine.specs.Order.{LaneGoesOn}
use Rattle.ext_engine.proofs.Going.{goes_same, goes_then}
use Rattle.ext_plan_parallel.specs.StoreCalls.{HasFrame, PlanLane}
use Rattle.ext_plan_parallel.specs.StoreSteps.{StepsRun}

goes_framed : (store : StoreView) (a b : PlanLane) → HasFrame store a b → LaneGoesOn a b
unfolding Frame
goes_framed store a b frame = elim frame.steps.1 [
  | inl still ↦ record {
    number = ap (λ (l : Lane). l.view.number) still.0;
    seen = subst (λ (l : Lane). IsPrefix (seen_by a.cells.view) (seen_by l.view)) (sym still.0) (prefix_refl (seen_by a.cells.view));
    known = frame.known;
    faults = frame.faults;
    keys = frame.keys;
  }
  | inr calls ↦ record { number = same_number calls; seen = seen_goes_on calls; known = frame.known; faults = frame.faults; keys = frame.keys }
]

pub steps_go : (store : StoreView) (keys : List KeyText) (path : List ℕ) (steps : List StepText) (a : PlanLane) (o : Outcome) (b : PlanLane) → StepsRun store keys path steps a o b → LaneGoesOn a b
unfolding StepsRun
steps_go store keys path [] a o b run = subst (λ x. LaneGoesOn a x) (sym run.0) (goes_same a)
steps_go store keys path (step ∷ more) a o b run =
    let one = goes_framed store a run.1 run.3 in
    elim (bools (is_successful (ending_of run.0.verdict))) [
      | inl on ↦ goes_then a run.1 b one (steps_go store keys path more run.1 (run.4.0 on).0 b (run.4.0 on).1)
      | inr off ↦ subst (λ x. LaneGoesOn a x) (sym (run.4.1 off).1) one
    ]
