-- Runs of plans: their calls are alone on the cells that are left to their nodes.
use Rattle.std.proofs.Common.{◌≡◌, ℕ, List, [], ◌∷◌, Contains, map, refl, ap, sym, subst}
use Rattle.std.specs.Prelude.{All}
use mathlib.Core.List.{IsPrefix}
use Rattle.std.proofs.lemmas.List.Elements.{All-head, All-tail, All-weaker}
use Rattle.ext_history.specs.Histories.{last_after}
use Rattle.ext_model.specs.History.{History, Limits}
use Rattle.ext_cells.specs.Lanes.{fresh_lanes}
use Rattle.ext_store.specs.Stores.{fresh_store_lane}
use Rattle.ext_lifecycle.specs.Results.{ResultOf}
use Rattle.ext_model.specs.declared.look.Fault.{Fault}
use Rattle.ext_plan.specs.PlanCalls.{steps_of_call}
use Rattle.ext_plan.specs.Plans.{PlanText}
use Rattle.ext_tree.specs.Keys.{KeepsKeys}
use Rattle.ext_tree.proofs.KeyPlacing.{keeps_both}
use Rattle.ext_engine.specs.Meeting.{HasSeenWithin}
use Rattle.ext_engine.specs.Order.{CallsGoOn, LaneGoesOn}
use Rattle.ext_engine.specs.TreeRun.{TreeRun, TreeSetting}
use Rattle.ext_engine.proofs.Finer.{tree_finer}
use Rattle.ext_engine.proofs.Going.{goes_met, goes_same, goes_sealed, goes_then}
use Rattle.ext_one_report.specs.Alone.{AreAllLanes}
use Rattle.ext_one_report.proofs.WholeAlone.{fresh_all}
use Rattle.ext_plan_parallel.specs.declared.steps.stored_value.StoredValue.{StoredValue}
use Rattle.ext_plan_parallel.specs.ParallelRun.{ParallelRun, setting_of_plan}
use Rattle.ext_plan_parallel.specs.StoreCalls.{PlanLane}
use Rattle.ext_one_report.proofs.PlanCells.{NumbersSo, StepsChangeOnly, setting_of_run}
use Rattle.ext_one_report.proofs.Going.{steps_go}
use Rattle.ext_one_report.proofs.Steps.{steps_on}

pub steps_change_only : StepsChangeOnly
steps_change_only plan store numbering path steps cells before outcome after run so has =
    let on = steps_on store plan.keys numbering (λ cell. Contains cells cell) path steps before outcome after run so (λ step there cell is. has step cell there is) in
    record { each = on.each }

-- what a lane has seen last is a part of each history of which all its fronts are parts
last_within : (h g : History) (fronts : List History) → IsPrefix g h → All (λ front. IsPrefix front h) fronts → IsPrefix (last_after g fronts) h
last_within h g [] is all = is
last_within h g (f ∷ fronts) is all = let P : History → Type 0 = λ front. IsPrefix front h in last_within h f fronts (All-head P f fronts all) (All-tail P f fronts all)

-- ---- a run of a plan

module _ (plan : PlanText) (lanes : ℕ) (results : List (ResultOf Fault)) (run : ParallelRun plan lanes results) where
  abbrev t : TreeSetting StoredValue ℕ
  t = setting_of_plan plan run.store run.locks

  abbrev pub run_setting : TreeSetting StoredValue ℕ
  run_setting = setting_of_run plan lanes results run

  moves : CallsGoOn t.call_gives
  moves node call held a o b made = steps_go run.store plan.keys made.path (steps_of_call plan call) a o b made.steps

  pub run_moves : CallsGoOn run_setting.call_gives
  run_moves node call held a o b gives = moves node call held a o b gives.0

  -- it is one on lanes that number keys as all do in the end
  pub numbered_run : TreeRun run_setting 16 0 run.first run.ran run.after
  numbered_run =
      tree_finer t (NumbersSo t run.numbered.numbering) LaneGoesOn goes_same goes_then moves (goes_met run.store) (goes_sealed run.store) (λ lane. KeepsKeys lane.keys run.numbered.numbering)
      (λ a b go so. keeps_both a.keys b.keys run.numbered.numbering go.keys so) (λ node call held a o b gives so. (gives, so)) 16 0 run.first run.ran run.after run.run run.numbered.parts

  pub run_within : All (HasSeenWithin run.shared.history) run.after.first
  run_within =
      All-weaker (λ (lane : PlanLane). All (λ front. IsPrefix front run.shared.history) lane.cells.view.fronts) (HasSeenWithin run.shared.history)
      (λ lane parts. last_within run.shared.history [] lane.cells.view.fronts (run.shared.history, refl) parts) run.after.first run.shared.parts

  pub run_lanes : AreAllLanes run.shared.history run.first.first run.after.first
  run_lanes =
      let id = run.store.id in
      let few : id.cells.limits.lanes ≡ lanes = ap (λ (l : Limits). l.lanes) run.store_is.limits in
      let fresh = subst (λ (n : ℕ). run.first.first ≡ map (fresh_store_lane id.slots id.fault_slots id.keys) (fresh_lanes id.cells 0 n)) (sym few) run.fresh in
      fresh_all id.cells.limits id.cells id.slots id.fault_slots id.keys run.shared.history run.first.first run.after.first fresh run.shared.legal run_within run.shared.own_events
