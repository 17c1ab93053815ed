-- Calls of a node that lack nothing, on lanes that know only what is so in the view: they may be compared with those of the plain run.
use Rattle.std.proofs.Common.{◌≡◌, ℕ, inl, inr, Bool, true, false, List, [], ◌∷◌, refl, ap, sym, subst}
use Rattle.std.specs.Prelude.{Option}
use Rattle.ext_history.proofs.Lists.{bools}
use Rattle.ext_lifecycle.specs.declared.call.Call.{Call}
use Rattle.ext_lifecycle.specs.declared.outcome.Outcome.{Outcome}
use Rattle.ext_lifecycle.specs.Callbacks.{test_call}
use Rattle.ext_lifecycle.specs.Endings.{all_successful, is_successful}
use Rattle.ext_lifecycle.specs.Lifecycle.{MakesAll, MakesBefores, MakesCalls, MakesIf, ending_of, endings_of}
use Rattle.ext_locks.specs.Opening.{LocksView}
use Rattle.ext_locks.specs.Sets.{HeldView}
use Rattle.ext_plan.specs.Plans.{PlanText}
use Rattle.ext_store.specs.Stores.{IsLaneOf}
use Rattle.ext_engine.specs.TreeRun.{MakesOn}
use Rattle.ext_plan_parallel.specs.StoreCalls.{PlanLane}
use Rattle.ext_one_report.proofs.CallListsWords.{CallsFind, Makes}
use Rattle.ext_one_report.proofs.MatchingWords.{RunView}
use Rattle.ext_one_report.proofs.TestCallsWords.{MakesTest, TestFinds, afters_round, befores_round}
use Rattle.ext_one_report.proofs.FullRuns.{setting_in}

module _ (plan : PlanText) (run : RunView) (locks : LocksView) (node : ℕ) (held : Option HeldView) where
  abbrev pub MakesFully : PlanLane → Call → Outcome → PlanLane → Type 0
  MakesFully = MakesOn (setting_in plan run locks) node held

  -- they are calls,
  pub all_made : (calls : List Call) (a : PlanLane) (os : List Outcome) (b : PlanLane) → MakesAll MakesFully calls a os b → MakesAll (Makes plan run.store node) calls a os b
  all_made [] a os b made = made
  all_made (call ∷ calls) a os b made = (made.0, made.1, made.2, made.3, made.4.fully.made, all_made calls made.2 made.1 b made.5)

  pub befores_made : (calls : List Call) (a : PlanLane) (os : List Outcome) (b : PlanLane) → MakesBefores MakesFully calls a os b → MakesBefores (Makes plan run.store node) calls a os b
  befores_made [] a os b made = made
  befores_made (call ∷ calls) a os b made = (made.0, made.1, made.2, made.3, made.4.fully.made, ((λ on. befores_made calls made.2 made.1 b (made.5.0 on)), made.5.1))

  if_made : (go : Bool) (call : Call) (a : PlanLane) (os : List Outcome) (b : PlanLane) → MakesIf MakesFully go call a os b → MakesIf (Makes plan run.store node) go call a os b
  if_made go call a os b made = record { made = λ on. all_made (call ∷ []) a os b (made.made on); skipped = made.skipped }

  -- none of them ends for want of anything,
  nothing_finds : (calls : List Call) (os : List Outcome) → os ≡ [] → CallsFind plan calls os
  nothing_finds [] os none = tt
  nothing_finds (call ∷ calls) os none = subst (CallsFind plan (call ∷ calls)) (sym none) tt

  pub all_find : (calls : List Call) (a : PlanLane) (os : List Outcome) (b : PlanLane) → MakesAll MakesFully calls a os b → CallsFind plan calls os
  all_find [] a os b made = tt
  all_find (call ∷ calls) a os b made = subst (CallsFind plan (call ∷ calls)) (sym made.3) (made.4.fully.finds, all_find calls made.2 made.1 b made.5)

  pub befores_find : (calls : List Call) (a : PlanLane) (os : List Outcome) (b : PlanLane) → MakesBefores MakesFully calls a os b → CallsFind plan calls os
  befores_find [] a os b made = tt
  befores_find (call ∷ calls) a os b made =
      let rest : CallsFind plan calls made.1 = elim (bools (is_successful (ending_of made.0.verdict))) [
        | inl on ↦ befores_find calls made.2 made.1 b (made.5.0 on)
        | inr off ↦ nothing_finds calls made.1 (made.5.1 off).0
      ] in
      subst (CallsFind plan (call ∷ calls)) (sym made.3) (made.4.fully.finds, rest)

  if_find : (go : Bool) (call : Call) (a : PlanLane) (os : List Outcome) (b : PlanLane) → MakesIf MakesFully go call a os b → CallsFind plan (call ∷ []) os
  if_find true call a os b made = all_find (call ∷ []) a os b (made.made refl)
  if_find false call a os b made = nothing_finds (call ∷ []) os (made.skipped refl).0

  -- so it is with all calls of a test,
  pub test_made : (path : List ℕ) (a : PlanLane) (os : List Outcome) (b : PlanLane) → MakesCalls MakesFully (befores_round plan node path) (test_call node) (afters_round plan node path) a os b
      → (made : MakesTest plan node path run.store a os b) × TestFinds plan node path run.store a os b made
  test_made path a os b made =
      let go = all_successful (endings_of made.first) in (
        record {
          first = made.first;
          second = made.second;
          third = made.third;
          opened = made.opened;
          closing = made.closing;
          befores_made = befores_made (befores_round plan node path) a made.first made.opened made.befores_made;
          body_made = if_made go (test_call node) made.opened made.second made.closing made.body_made;
          afters_made = all_made (afters_round plan node path) made.closing made.third b made.afters_made;
          all = made.all;
        },
        record {
          befores = befores_find (befores_round plan node path) a made.first made.opened made.befores_made;
          body = if_find go (test_call node) made.opened made.second made.closing made.body_made;
          afters = all_find (afters_round plan node path) made.closing made.third b made.afters_made;
        },
      )

  -- and where a call is made, the lane is one of the store
  pub first_of_all : (call : Call) (calls : List Call) (a : PlanLane) (os : List Outcome) (b : PlanLane) → MakesAll MakesFully (call ∷ calls) a os b → IsLaneOf run.store.id a
  first_of_all call calls a os b made = made.4.before_of

  pub first_of_befores : (call : Call) (calls : List Call) (a : PlanLane) (os : List Outcome) (b : PlanLane) → MakesBefores MakesFully (call ∷ calls) a os b → IsLaneOf run.store.id a
  first_of_befores call calls a os b made = made.4.before_of

  pub first_of_calls : (befores : List Call) (body : Call) (afters : List Call) (a : PlanLane) (os : List Outcome) (b : PlanLane) → MakesCalls MakesFully befores body afters a os b → IsLaneOf run.store.id a
  first_of_calls (call ∷ befores) body afters a os b made = first_of_befores call befores a made.first made.opened made.befores_made
  first_of_calls [] body afters a os b made =
      let none = made.befores_made in
      let one = made.body_made.made (ap (λ l. all_successful (endings_of l)) none.0) in
      subst (λ (x : PlanLane). IsLaneOf run.store.id x) none.1 (first_of_all body [] made.opened made.second made.closing one)
