-- At each place that a lane of a run set stands a key that a step of the plan names.
use Rattle.std.proofs.Common.{◌≡◌, ◌⊎◌, inl, inr, ℕ, zero, suc, true, false, true≢false, List, [], ◌∷◌, Contains, Option, Some, None, refl, sym, subst, ◌∙◌, map}
use Rattle.std.specs.Prelude.{All}
use Rattle.std.specs.List.{AllZip}
use Rattle.std.proofs.lemmas.List.Elements.{All-nil, All-cons, All-head, All-tail}
use Rattle.ext_history.proofs.Lists.{bools, contains_here, contains_later}
use Rattle.ext_lifecycle.specs.declared.call.Call.{Call}
use Rattle.ext_lifecycle.specs.declared.outcome.Outcome.{Outcome}
use Rattle.ext_lifecycle.specs.Endings.{is_successful}
use Rattle.ext_lifecycle.specs.Lifecycle.{ending_of}
use Rattle.ext_locks.specs.Opening.{LocksView}
use Rattle.ext_locks.specs.Sets.{HeldView}
use Rattle.ext_tree.specs.Keys.{IsKeyNumber, KeepsKeys, no_key_known, placed_at}
use Rattle.ext_tree.proofs.KeyPlacing.{keeps_all, keeps_both, number_stays}
use Rattle.ext_plan.specs.Plans.{PlanText, StepKeyText, StepText}
use Rattle.ext_plan.specs.Steps.{step_key}
use Rattle.ext_plan.specs.StoreKeys.{key_of_step}
use Rattle.ext_plan.specs.PlanCalls.{steps_of_call}
use Rattle.ext_cells.specs.Lanes.{Lane}
use Rattle.ext_store.specs.Stores.{StoreView, fresh_store_lane}
use Rattle.ext_closing.specs.Sealing.{MakesSeals}
use Rattle.ext_engine.specs.Meeting.{OnlyMeets}
use Rattle.ext_engine.specs.TreeRun.{Lanes, Ran, TreeRun}
use Rattle.ext_engine.proofs.Relates.{tree_relates}
use Rattle.ext_plan_parallel.specs.declared.steps.stored_value.StoredValue.{StoredValue}
use Rattle.ext_plan_parallel.specs.Opened.{IsPlaceOfPlan, PlaceKeysOfPlan}
use Rattle.ext_plan_parallel.specs.ParallelRun.{setting_of_plan}
use Rattle.ext_plan_parallel.specs.PlanSuites.{RunsCall}
use Rattle.ext_plan_parallel.specs.StoreCalls.{PlanLane}
use Rattle.ext_plan_parallel.specs.StoreSteps.{PlacesItsKey, StepsRun}
use Rattle.ext_plan_parallel.proofs.Moves.{goes_framed}

module _ (plan : PlanText) where
  -- the place is as it was before, or that of a key of the plan
  abbrev AtPlace : PlanLane → PlanLane → ℕ → Type 0
  AtPlace a b number = (placed_at b.keys number ≡ placed_at a.keys number) ⊎ IsPlaceOfPlan plan b.keys number

  -- the lane knows the keys that it knew, and set none but places of keys of the plan
  record SetsOfPlan (a b : PlanLane) : Type 0 where
    pub keys : KeepsKeys a.keys b.keys
    pub placed : (number : ℕ) → AtPlace a b number

  sets_same : (a : PlanLane) → SetsOfPlan a a
  sets_same a = record { keys = keeps_all a.keys; placed = λ number. inl refl }

  at_then : (a b c : PlanLane) (number : ℕ) → KeepsKeys b.keys c.keys → AtPlace a b number → AtPlace b c number → AtPlace a c number
  at_then a b c number keeps (inl one) (inl two) = inl (two ∙ one)
  at_then a b c number keeps (inr one) (inl two) = inr (one.0, number_stays b.keys c.keys one.0 number keeps one.1, one.2)
  at_then a b c number keeps one (inr two) = inr two

  sets_then : (a b c : PlanLane) → SetsOfPlan a b → SetsOfPlan b c → SetsOfPlan a c
  sets_then a b c one two = record { keys = keeps_both a.keys b.keys c.keys one.keys two.keys; placed = λ number. at_then a b c number two.keys (one.placed number) (two.placed number) }

  sets_met : (store : StoreView) (a b : PlanLane) → OnlyMeets store a b → SetsOfPlan a b
  sets_met store a b met = record { keys = met.keys; placed = λ number. inl (met.placed number) }

  sets_sealed : (store : StoreView) (context : ℕ) (a : PlanLane) (cells : Lane) → MakesSeals store context a.cells cells → SetsOfPlan a (record { cells = cells; known = a.known; faults = a.faults; keys = a.keys })
  sets_sealed store context a cells made = record { keys = keeps_all a.keys; placed = λ number. inl refl }

  -- ---- steps

  module _ (call : Call) (step : StepText) (among : Contains (steps_of_call plan call) step) (a b : PlanLane) where
    at_key : (names : StepKeyText) → step_key step ≡ Some names → (number : ℕ) → (placed_at b.keys number ≡ placed_at a.keys number) ⊎ IsKeyNumber b.keys (key_of_step plan.keys names) number → AtPlace a b number
    at_key names is number (inl same) = inl same
    at_key names is number (inr numbered) = inr (key_of_step plan.keys names, numbered, record { call = call; step = step; among = among; names = names; step_names = is; key_is = refl })

    at_step : (named : Option StepKeyText) → step_key step ≡ named → PlacesItsKey plan.keys named a b → (number : ℕ) → AtPlace a b number
    at_step (Some names) is placed number = at_key names is number (placed number)
    at_step None is placed number = inl (placed number)

  sets_steps : (store : StoreView) (call : Call) (path : List ℕ) (steps : List StepText) → ((step : StepText) → Contains steps step → Contains (steps_of_call plan call) step) → (a : PlanLane) (o : Outcome) (b : PlanLane)
      → StepsRun store plan.keys path steps a o b → SetsOfPlan a b
  unfolding StepsRun
  sets_steps store call path [] among a o b run = subst (λ x. SetsOfPlan a x) (sym run.0) (sets_same a)
  sets_steps store call path (step ∷ more) among a o b run =
      let frame = goes_framed store a run.1 run.3 in
      let one : SetsOfPlan a run.1 = record { keys = frame.keys; placed = at_step call step (among step (contains_here step more)) a run.1 (step_key step) refl run.5 } in
      elim (bools (is_successful (ending_of run.0.verdict))) [
        | inl on ↦ sets_then a run.1 b one (sets_steps store call path more (λ s there. among s (contains_later step more s there)) run.1 (run.4.0 on).0 b (run.4.0 on).1)
        | inr off ↦ subst (λ x. SetsOfPlan a x) (sym (run.4.1 off).1) one
      ]

  sets_call : (store : StoreView) (node : ℕ) (call : Call) (held : Option HeldView) (a : PlanLane) (o : Outcome) (b : PlanLane) → RunsCall plan store node call a o b → SetsOfPlan a b
  sets_call store node call held a o b made = sets_steps store call made.path (steps_of_call plan call) (λ s there. there) a o b made.steps

  -- ---- a run

  -- a lane that has set no place
  abbrev HasPlacedNone : PlanLane → Type 0
  HasPlacedNone lane = (number : ℕ) → placed_at lane.keys number ≡ false

  fresh_places : (names : List ℕ) (number : ℕ) → placed_at (no_key_known names) number ≡ false
  fresh_places [] number = refl
  fresh_places (name ∷ names) zero = refl
  fresh_places (name ∷ names) (suc number) = fresh_places names number

  all_fresh : (slots fault_slots keys : List ℕ) (lanes : List Lane) → All HasPlacedNone (map (fresh_store_lane {V = StoredValue} slots fault_slots keys) lanes)
  all_fresh slots fault_slots keys [] = All-nil HasPlacedNone
  all_fresh slots fault_slots keys (lane ∷ lanes) =
      All-cons HasPlacedNone (fresh_store_lane slots fault_slots keys lane) (map (fresh_store_lane slots fault_slots keys) lanes) (fresh_places keys) (all_fresh slots fault_slots keys lanes)

  abbrev IsOfPlan : PlanLane → Type 0
  IsOfPlan lane = (number : ℕ) → placed_at lane.keys number ≡ true → IsPlaceOfPlan plan lane.keys number

  one_of_plan : (a b : PlanLane) (number : ℕ) → HasPlacedNone a → placed_at b.keys number ≡ true → AtPlace a b number → IsPlaceOfPlan plan b.keys number
  one_of_plan a b number none set (inl same) = absurd (true≢false (sym set ∙ (same ∙ none number)))
  one_of_plan a b number none set (inr is) = is

  all_of_plan : (xs ys : List PlanLane) → AllZip SetsOfPlan xs ys → All HasPlacedNone xs → All IsOfPlan ys
  all_of_plan [] [] sets fresh = All-nil IsOfPlan
  all_of_plan [] (b ∷ ys) sets fresh = absurd sets
  all_of_plan (a ∷ xs) [] sets fresh = absurd sets
  all_of_plan (a ∷ xs) (b ∷ ys) sets fresh =
      All-cons IsOfPlan b ys (λ number set. one_of_plan a b number (All-head HasPlacedNone a xs fresh) set (sets.0.placed number)) (all_of_plan xs ys sets.1 (All-tail HasPlacedNone a xs fresh))

  pub placed_by_run : (store : StoreView) (locks : LocksView) (lanes : List Lane) (depth node : ℕ) (first : Lanes StoredValue) (ran : List Ran) (after : Lanes StoredValue)
      → first.first ≡ map (fresh_store_lane store.id.slots store.id.fault_slots store.id.keys) lanes → TreeRun (setting_of_plan plan store locks) depth node first ran after → PlaceKeysOfPlan plan after.first
  placed_by_run store locks lanes depth node first ran after fresh run =
      all_of_plan first.first after.first
      (tree_relates (setting_of_plan plan store locks) SetsOfPlan sets_same sets_then (sets_call store) (sets_met store) (sets_sealed store) depth node first ran after run)
      (subst (λ (l : List PlanLane). All HasPlacedNone l) (sym fresh) (all_fresh store.id.slots store.id.fault_slots store.id.keys lanes))
