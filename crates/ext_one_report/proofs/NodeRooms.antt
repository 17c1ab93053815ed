-- Calls of a node in a plain run: where numbers are left after them there were enough at each, and what they keep.
use Rattle.std.proofs.Common.{◌≡◌, ℕ, ◌<◌, ◌≤◌, Bool, true, false, List, [], ◌∷◌, ◌++◌, length, refl, ap, sym, subst, ◌∙◌, arith}
use Rattle.std.specs.Prelude.{All, Contains, ◌&&◌, if◌then◌else◌}
use Rattle.std.proofs.lemmas.List.Elements.{All-cons, All-head, All-nil, All-tail}
use Rattle.ext_one_report.proofs.Numbers.{enough_numbers}
use Rattle.ext_tree.specs.Keys.{KeyValue}
use Rattle.ext_tree.specs.Trees.{IsPathOf}
use Rattle.ext_lifecycle.specs.declared.call.Call.{Call}
use Rattle.ext_lifecycle.specs.Endings.{all_successful, is_successful}
use Rattle.ext_lifecycle.specs.FaultTexts.{VerdictText}
use Rattle.ext_plan.specs.Plans.{KeyText, PlanText, StepText}
use Rattle.ext_plan.specs.PlanCalls.{steps_of_call}
use Rattle.ext_plan.specs.ReadPlans.{IsReadPlan, ids_of_nodes}
use Rattle.ext_races.specs.MadeSteps.{calls_of}
use Rattle.ext_races.specs.Touches.{keys_named}
use Rattle.ext_plan_plain.specs.PlainRunLaws.{NamesOneOf}
use Rattle.ext_plan_plain.specs.ValueStates.{ValueState}
use Rattle.ext_plan_plain.specs.StepRuns.{StepEnd, step_run, steps_run}
use Rattle.ext_plan_plain.specs.NodeCalls.{CallsEnd, and_call, call_run, make_all, make_befores, make_if_successful}
use Rattle.ext_one_report.proofs.CallListsWords.{BeforesHaveRoom, CallsHaveRoom}
use Rattle.ext_one_report.proofs.CallsWords.{StepsHaveRoom}
use Rattle.ext_one_report.proofs.MatchingWords.{RunView}
use Rattle.ext_one_report.proofs.Rooms.{GaveFew, few_are_given, few_have_room}
use Rattle.ext_one_report.proofs.CallLists.{if_made}
use Rattle.ext_one_report.proofs.Calls.{plain_goes, steps_faults, steps_memory}
use Rattle.ext_plan_plain.proofs.Stepping.{steps_run-nil}
use Rattle.ext_one_report.proofs.OfPlan.{IsOfPlan}
use Rattle.ext_one_report.proofs.FrameKeys.{calls_name_keys}
use Rattle.ext_one_report.proofs.FrameNodes.{within_nodes}
use Rattle.ext_one_report.proofs.FrameSteps.{steps_leave}
use Rattle.ext_one_report.proofs.OfPlanCalls.{call_of}

-- ---- what each call keeps

module _ (plan : PlanText) (path : List ℕ) (Q : Call → Type 0) (P : ValueState → Type 0) (keeps : (call : Call) (s : ValueState) → Q call → P s → P (call_run plan path call s).state) where
  pub all_keep : (calls : List Call) (e : CallsEnd) → All Q calls → P e.state → P (make_all (call_run plan path) calls e).state
  all_keep [] e all h = h
  all_keep (call ∷ calls) e all h = all_keep calls (and_call e (call_run plan path call e.state)) (All-tail Q call calls all) (keeps call e.state (All-head Q call calls all) h)

  pub befores_keep : (calls : List Call) (e : CallsEnd) → All Q calls → P e.state → P (make_befores (call_run plan path) calls e).state
  befores_keep [] e all h = h
  befores_keep (call ∷ calls) e all h =
      befores_keep calls (make_if_successful (call_run plan path) e call) (All-tail Q call calls all) (made_keep (all_successful e.calls))
    where
      made_keep : (go : Bool) → P (if go then and_call e (call_run plan path call e.state) else e).state
      made_keep true = keeps call e.state (All-head Q call calls all) h
      made_keep false = h

-- ---- numbers are not given back

pub steps_draw : (keys : List KeyText) (path : List ℕ) (steps : List StepText) (s : ValueState) → s.memory ≡ [] → s.store.drawn ≤ (steps_run keys path steps s).state.store.drawn
steps_draw keys path steps s none = (steps_leave keys path steps (λ context key. true) s (λ step key up there is. refl) none).drawn

module _ (plan : PlanText) (path : List ℕ) where
  abbrev does : Call → ValueState → StepEnd
  does = call_run plan path

  call_memory : (call : Call) (s : ValueState) → s.memory ≡ [] → (does call s).state.memory ≡ []
  call_memory call s none = steps_memory plan.keys path (steps_of_call plan call) s none

  -- all memory is found, and as many numbers were drawn
  abbrev HasDrawn : ℕ → ValueState → Type 0
  HasDrawn n s = (s.memory ≡ []) × (n ≤ s.store.drawn)

  has_drawn : (n : ℕ) (call : Call) (s : ValueState) → Unit {0} → HasDrawn n s → HasDrawn n (does call s).state
  has_drawn n call s any before =
      let low = before.1 in
      let one = steps_draw plan.keys path (steps_of_call plan call) s before.0 in
      (call_memory call s before.0, omega (arith, low, one))

  any_call : (calls : List Call) → All (λ (call : Call). Unit {0}) calls
  any_call calls = λ k d within. tt

  pub all_draw : (calls : List Call) (e : CallsEnd) → e.state.memory ≡ [] → e.state.store.drawn ≤ (make_all does calls e).state.store.drawn
  all_draw calls e none = (all_keep plan path (λ call. Unit {0}) (HasDrawn e.state.store.drawn) (has_drawn e.state.store.drawn) calls e (any_call calls) (none, omega arith)).1

  pub befores_draw : (calls : List Call) (e : CallsEnd) → e.state.memory ≡ [] → e.state.store.drawn ≤ (make_befores does calls e).state.store.drawn
  befores_draw calls e none = (befores_keep plan path (λ call. Unit {0}) (HasDrawn e.state.store.drawn) (has_drawn e.state.store.drawn) calls e (any_call calls) (none, omega arith)).1

-- ---- room

module _ (names : List KeyValue) (numbers : ℕ) where
  pub steps_room : (keys : List KeyText) (path : List ℕ) (steps : List StepText) (s : ValueState) → GaveFew names numbers s → All (NamesOneOf names keys) steps → s.memory ≡ []
      → (steps_run keys path steps s).state.store.drawn < numbers → StepsHaveRoom keys path steps s
  steps_room keys path [] s few named none left = tt
  steps_room keys path (step ∷ more) s few named none left =
      let P : StepText → Type 0 = NamesOneOf names keys in
      let one : All P (step ∷ []) = All-cons P step [] (All-head P step more named) (All-nil P) in
      let drawn = steps_draw keys path (step ∷ more) s none in
      let next = step_run keys path step s in
      let first = few_have_room names numbers keys path (step ∷ []) s few one (omega (arith, drawn, left)) in (
        first.0,
        λ on.
            let single : (steps_run keys path (step ∷ []) s).state ≡ (steps_run keys path [] next.state).state = ap (λ (e : StepEnd). e.state) (plain_goes keys path step [] s none on) in
            let same : (steps_run keys path [] next.state).state ≡ next.state = ap (λ (e : StepEnd). e.state) (steps_run-nil keys path next.state) in
            let given : GaveFew names numbers next.state = subst (λ (t : ValueState). GaveFew names numbers t) (single ∙ same) (few_are_given names numbers keys path (step ∷ []) s few one) in
            let clear : next.state.memory ≡ [] = ap (λ (t : ValueState). t.memory) (sym (single ∙ same)) ∙ steps_memory keys path (step ∷ []) s none in
            let whole : (steps_run keys path (step ∷ more) s).state.store.drawn ≡ (steps_run keys path more next.state).state.store.drawn = ap (λ (e : StepEnd). e.state.store.drawn) (plain_goes keys path step more s none on) in
            steps_room keys path more next.state given (All-tail P step more named) clear (omega (arith, whole, left)),
      )

  module _ (plan : PlanText) (path : List ℕ) where
    abbrev Named : Call → Type 0
    Named call = All (NamesOneOf names plan.keys) (steps_of_call plan call)

    pub all_room : (calls : List Call) (e : CallsEnd) → All Named calls → GaveFew names numbers e.state → e.state.memory ≡ []
        → (make_all (call_run plan path) calls e).state.store.drawn < numbers → CallsHaveRoom plan path calls e.state
    all_room [] e named few none left = tt
    all_room (call ∷ calls) e named few none left =
        let end = call_run plan path call e.state in
        let one = All-head Named call calls named in
        let clear = call_memory plan path call e.state none in
        let later = all_draw plan path calls (and_call e end) clear in (
          steps_room plan.keys path (steps_of_call plan call) e.state few one none (omega (arith, later, left)),
          all_room calls (and_call e end) (All-tail Named call calls named) (few_are_given names numbers plan.keys path (steps_of_call plan call) e.state few one) clear left,
        )

    good_so_far : (before : List VerdictText) (v : VerdictText) → all_successful before ≡ true → is_successful v ≡ true → all_successful (before ++ v ∷ []) ≡ true
    good_so_far [] v before one = ap (λ b. b && true) one
    good_so_far (p ∷ before) v all one = both (is_successful p) all (λ is. good_so_far before v is one)
      where
        both : (b : Bool) → (b && all_successful before) ≡ true → (all_successful before ≡ true → all_successful (before ++ v ∷ []) ≡ true) → (b && all_successful (before ++ v ∷ [])) ≡ true
        both true is rest = rest is
        both false is rest = absurd (cc is)

    pub befores_room : (calls : List Call) (e : CallsEnd) → all_successful e.calls ≡ true → All Named calls → GaveFew names numbers e.state → e.state.memory ≡ []
        → (make_befores (call_run plan path) calls e).state.store.drawn < numbers → BeforesHaveRoom plan path calls e.state
    befores_room [] e good named few none left = tt
    befores_room (call ∷ calls) e good named few none left =
        let end = call_run plan path call e.state in
        let one = All-head Named call calls named in
        let clear = call_memory plan path call e.state none in
        let first : make_befores (call_run plan path) (call ∷ calls) e ≡ make_befores (call_run plan path) calls (and_call e end) = ap (make_befores (call_run plan path) calls) (if_made (call_run plan path) e call good) in
        let whole : (make_befores (call_run plan path) (call ∷ calls) e).state.store.drawn ≡ (make_befores (call_run plan path) calls (and_call e end)).state.store.drawn = ap (λ (x : CallsEnd). x.state.store.drawn) first in
        let later = befores_draw plan path calls (and_call e end) clear in (
          steps_room plan.keys path (steps_of_call plan call) e.state few one none (omega (arith, later, left, whole)),
          λ on. befores_room calls (and_call e end) (good_so_far e.calls end.verdict good on) (All-tail Named call calls named)
              (few_are_given names numbers plan.keys path (steps_of_call plan call) e.state few one) clear (omega (arith, whole, left)),
        )

-- ---- the calls of a node of a plan

module _ (plan : PlanText) (run : RunView) (read : IsReadPlan plan) (node : ℕ) (path : List ℕ) (its : IsPathOf (ids_of_nodes plan.nodes) node path) where
  pub in_nodes : node < length plan.nodes
  in_nodes = within_nodes plan node path read.runnable.tree its

  abbrev pub Own : Call → Type 0
  Own = Contains (calls_of plan node)

  abbrev pub NamesKeys : Call → Type 0
  NamesKeys call = All (NamesOneOf (keys_named plan) plan.keys) (steps_of_call plan call)

  pub names_keys : (call : Call) → Own call → NamesKeys call
  names_keys call own = calls_name_keys plan node call in_nodes own

  -- what each of them keeps
  pub record Holds (s : ValueState) : Type 0 where
    pub memory : s.memory ≡ []
    pub keeps : run.store.id.cells.limits.keep_faults ≡ s.keep_faults
    pub gave : GaveFew (keys_named plan) (enough_numbers plan.size) s
    pub of_plan : IsOfPlan plan s

  holds : (call : Call) (s : ValueState) → Own call → Holds s → Holds (call_run plan path call s).state
  holds call s own before = record {
    memory = steps_memory plan.keys path (steps_of_call plan call) s before.memory;
    keeps = before.keeps ∙ sym (steps_faults plan.keys path (steps_of_call plan call) s);
    gave = few_are_given (keys_named plan) (enough_numbers plan.size) plan.keys path (steps_of_call plan call) s before.gave (names_keys call own);
    of_plan = call_of plan node path call s read its own before.memory before.of_plan;
  }

  pub befores_hold : (calls : List Call) (e : CallsEnd) → All Own calls → Holds e.state → Holds (make_befores (call_run plan path) calls e).state
  befores_hold calls e own before = befores_keep plan path Own Holds holds calls e own before

  pub all_hold : (calls : List Call) (e : CallsEnd) → All Own calls → Holds e.state → Holds (make_all (call_run plan path) calls e).state
  all_hold calls e own before = all_keep plan path Own Holds holds calls e own before
