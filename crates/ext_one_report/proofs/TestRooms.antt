-- The calls of a test in a plain run: which they are, what each of them keeps, and that there is room at each step where numbers are left at the end.
use Rattle.std.proofs.Common.{◌≡◌, ℕ, ◌<◌, true, List, [], ◌∷◌, ◌++◌, Contains, refl, ap, sym, subst, arith}
use Rattle.std.specs.Prelude.{All, is_some}
use Rattle.std.proofs.lemmas.List.Elements.{All-head, Contains-append_left, Contains-append_right}
use Rattle.ext_one_report.proofs.Numbers.{enough_numbers}
use Rattle.ext_tree.specs.Trees.{IsPathOf}
use Rattle.ext_lifecycle.specs.declared.call.Call.{Call}
use Rattle.ext_lifecycle.specs.Callbacks.{afters_of, befores_of, test_call}
use Rattle.ext_plan.specs.Plans.{PlanText}
use Rattle.ext_plan.specs.PlanCalls.{registered, steps_of_call, test_of}
use Rattle.ext_plan.specs.ReadPlans.{IsReadPlan, ids_of_nodes}
use Rattle.ext_races.specs.MadeSteps.{calls_after, calls_before, calls_of, plan_path}
use Rattle.ext_races.specs.Touches.{keys_named}
use Rattle.ext_races.proofs.Lists.{all_contained}
use Rattle.ext_plan_plain.specs.ValueStates.{ValueState}
use Rattle.ext_plan_plain.specs.NodeCalls.{CallsEnd, befores_run, call_run, no_calls, test_run}
use Rattle.ext_one_report.proofs.MatchingWords.{RunView}
use Rattle.ext_one_report.proofs.TestCallsWords.{TestHasRoom, afters_round, befores_round, plain_test}
use Rattle.ext_one_report.proofs.CallLists.{if_made}
use Rattle.ext_one_report.proofs.NodeCalls.{each_of}
use Rattle.ext_one_report.proofs.NodeRooms as calls
use Rattle.ext_one_report.proofs.NodeRooms.{all_draw, all_room, befores_draw, befores_room, steps_room}
use Rattle.ext_one_report.proofs.NodeTrees.{its_path}

module _ (plan : PlanText) (run : RunView) (read : IsReadPlan plan) (node : ℕ) (path : List ℕ) (its : IsPathOf (ids_of_nodes plan.nodes) node path) (is_test : is_some (test_of plan node) ≡ true) where
  -- ---- its calls are those of the plan

  abbrev pub Own : Call → Type 0
  Own = calls.Own plan run read node path its

  back : plan_path plan node ≡ path
  back = sym (its_path plan read.runnable.tree node path its)

  pub befores_are : calls_before plan node ≡ befores_round plan node path
  befores_are = λ i. befores_of (registered plan) (is_test i) node (back i)

  pub afters_are : calls_after plan node ≡ afters_round plan node path
  afters_are = λ i. afters_of (registered plan) (is_test i) node (back i)

  calls_are : calls_of plan node ≡ befores_round plan node path ++ test_call node ∷ [] ++ afters_round plan node path
  calls_are = λ i. befores_are i ++ test_call node ∷ [] ++ afters_are i

  abbrev opening : List Call
  opening = befores_round plan node path ++ test_call node ∷ []

  pub is_own : (call : Call) → Contains (opening ++ afters_round plan node path) call → Own call
  is_own call there = subst (λ l. Contains l call) (sym calls_are) there

  pub own_befores : All Own (befores_round plan node path)
  own_befores = all_contained Own (befores_round plan node path) (λ call there.
      is_own call (Contains-append_left opening (afters_round plan node path) call (Contains-append_left (befores_round plan node path) (test_call node ∷ []) call there)))

  one_own : All Own (test_call node ∷ [])
  one_own = all_contained Own (test_call node ∷ []) (λ call there.
      is_own call (Contains-append_left opening (afters_round plan node path) call (Contains-append_right (befores_round plan node path) (test_call node ∷ []) call there)))

  pub own_body : Own (test_call node)
  own_body = All-head Own (test_call node) [] one_own

  pub own_afters : All Own (afters_round plan node path)
  own_afters = all_contained Own (afters_round plan node path) (λ call there. is_own call (Contains-append_right opening (afters_round plan node path) call there))

  -- what is so of each of its callbacks after the body is so of all
  pub all_after : (P : Call → Type 0) → ((call : Call) → Contains (calls_after plan node) call → P call) → All P (afters_round plan node path)
  all_after P each = all_contained P (afters_round plan node path) (λ call there. each call (subst (λ (l : List Call). Contains l call) (sym afters_are) there))

  -- ---- what each call keeps

  abbrev Named : Call → Type 0
  Named = calls.NamesKeys plan run read node path its

  named : (call : Call) → Own call → Named call
  named = calls.names_keys plan run read node path its

  abbrev pub Holds : ValueState → Type 0
  Holds = calls.Holds plan run read node path its

  module _ (s : ValueState) (begins : Holds s) where
    abbrev first : CallsEnd
    first = befores_run plan true node path s

    abbrev second : CallsEnd
    second = test_run plan node path first

    abbrev last : CallsEnd
    last = plain_test plan node path s

    first_holds : Holds first.state
    first_holds = calls.befores_hold plan run read node path its (befores_round plan node path) (no_calls s) own_befores begins

    second_holds : Holds second.state
    second_holds = calls.befores_hold plan run read node path its (test_call node ∷ []) first one_own first_holds

    pub last_holds : Holds last.state
    last_holds = calls.all_hold plan run read node path its (afters_round plan node path) second own_afters second_holds

    -- where numbers are left at the end there were enough at each step
    pub room : last.state.store.drawn < enough_numbers plan.size → TestHasRoom plan node path s
    room drawn =
        let names = keys_named plan in
        let numbers = enough_numbers plan.size in
        let one = befores_draw plan path (test_call node ∷ []) first first_holds.memory in
        let more = all_draw plan path (afters_round plan node path) second second_holds.memory in
        record {
          befores = befores_room names numbers plan path (befores_round plan node path) (no_calls s) refl (each_of Own Named (befores_round plan node path) named own_befores) begins.gave begins.memory (omega (arith, one, more, drawn));
          body = λ good.
              let made : second.state.store.drawn ≡ (call_run plan path (test_call node) first.state).state.store.drawn =
              ap (λ (e : CallsEnd). e.state.store.drawn) (if_made (call_run plan path) first (test_call node) good) in
              steps_room names numbers plan.keys path (steps_of_call plan (test_call node)) first.state first_holds.gave (named (test_call node) own_body) first_holds.memory (omega (arith, made, more, drawn));
          afters = all_room names numbers plan path (afters_round plan node path) second (each_of Own Named (afters_round plan node path) named own_afters) second_holds.gave second_holds.memory drawn;
        }
