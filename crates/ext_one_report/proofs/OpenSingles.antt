-- One step of a call: as a list of one step, which places it changes, and where its lane makes no events.
use Rattle.std.proofs.Common.{◌≡◌, ℕ, ◌+◌, ◌<◌, inl, inr, Bool, true, false, List, [], ◌∷◌, ◌++◌, length, drop, Contains, Option, None, Some, refl, ap, sym, subst, ◌∙◌, arith, nat_eq}
use Rattle.std.specs.Prelude.{All, IfSome, ◌≢◌, if◌then◌else◌, slice_get}
use Rattle.std.proofs.lemmas.Bool.Decides.{nat_tests}
use Rattle.std.proofs.lemmas.List.{get_or-append-add, length-append, length-drop}
use Rattle.std.proofs.lemmas.List.Elements.{All-cons}
use Rattle.std.proofs.lemmas.Option.{slice_get-get_or}
use Rattle.ext_history.specs.Histories.{seen_by}
use Rattle.ext_history.proofs.Lists.{bools, contains_cons, contains_none}
use Rattle.ext_model.specs.declared.event.Event.{Event}
use Rattle.ext_model.specs.Events.{is_at, is_on, place_of}
use Rattle.ext_model.specs.History.{History}
use Rattle.ext_tree.specs.Keys.{KeyValue}
use Rattle.ext_lifecycle.specs.declared.outcome.Outcome.{Outcome}
use Rattle.ext_lifecycle.specs.declared.outcome.Verdict.{Verdict}
use Rattle.ext_lifecycle.specs.declared.outcome.Verdict.TheVariants as verdicts
use Rattle.ext_lifecycle.specs.Endings.{successful, aborted, failed, is_successful}
use Rattle.ext_lifecycle.specs.FaultTexts.{VerdictText}
use Rattle.ext_lifecycle.specs.Lifecycle.{ending_of}
use Rattle.ext_plan.specs.Plans.{KeyText, StepKeyText, StepText, keyed, fail, abort}
use Rattle.ext_plan.specs.StepCalls.{start_of}
use Rattle.ext_plan.specs.Steps.{height, step_key}
use Rattle.ext_plan.specs.StepWords.{changes, looks_along}
use Rattle.ext_plan.specs.StoreKeys.{key_of_step}
use Rattle.ext_store.specs.Stores.{StoreView}
use Rattle.ext_engine.specs.Order.{IsMadeBy}
use Rattle.ext_plan_plain.specs.ValueStates.{ValueState}
use Rattle.ext_plan_plain.specs.StepRuns.{StepEnd, and_then, ended, step_run, steps_run}
use Rattle.ext_plan_plain.proofs.Stepping.{steps_run-nil}
use Rattle.ext_plan_parallel.specs.StoreCalls.{HasFrame, PlanLane}
use Rattle.ext_plan_parallel.specs.StoreSteps.{PlacesItsKey, StepRun, StepsRun}
use Rattle.ext_one_report.proofs.PlanCells.{IsCellOf, changed_by}
use Rattle.ext_one_report.proofs.Steps.{steps_on}
use Rattle.ext_one_report.proofs.CallsWords.{StepWithin}
use Rattle.ext_one_report.proofs.MatchingWords.{HasNumberIn, IsRunView, Places, RunView, cell_of}
use Rattle.ext_one_report.proofs.StepsWords.{IsLaneIn, LooksWithin, TouchesWithin}
use Rattle.ext_one_report.proofs.Calls.{plain_goes, plain_stops}
use Rattle.ext_one_report.proofs.Matching.{cells_apart}
use Rattle.ext_one_report.proofs.Open.{at_place}
use Rattle.ext_one_report.proofs.OpenFits.{at_itself, is_at_place}

-- ---- a list of one

pub one_of : {A : Type 0} (P : A → Type 0) (x : A) → P x → All P (x ∷ [])
one_of P x is = All-cons P x [] is (λ k d within. absurd (omega (arith, within)))

pub only_one : {A : Type 0} (x y : A) → Contains (x ∷ []) y → x ≡ y
only_one x y there = elim (contains_cons x [] y there) [
  | inl same ↦ same
  | inr none ↦ absurd (contains_none y none)
]

success_is : (v : VerdictText) → is_successful v ≡ true → v ≡ successful
success_is successful is = refl
success_is (aborted text) is = absurd (cc is)
success_is (failed text) is = absurd (cc is)

no_more : (e : StepEnd) → is_successful e.verdict ≡ true → and_then e (ended successful e.state) ≡ e
no_more e passed =
    let verdict : successful ≡ e.verdict = sym (success_is e.verdict passed) in
    let computed : e.computed + 0 ≡ e.computed = omega arith in
    let found : e.found + 0 ≡ e.found = omega arith in
    λ i. record { state = e.state; verdict = verdict i; computed = computed i; found = found i }

-- in the plain run
pub single_is : (keys : List KeyText) (path : List ℕ) (step : StepText) (s : ValueState) → s.memory ≡ [] → steps_run keys path (step ∷ []) s ≡ step_run keys path step s
single_is keys path step s none =
    let e = step_run keys path step s in
    elim (bools (is_successful e.verdict)) [
      | inl on ↦ plain_goes keys path step [] s none on ∙ (ap (and_then e) (steps_run-nil keys path e.state) ∙ no_more e on)
      | inr off ↦ plain_stops keys path step [] s none off
    ]

abbrev done : Outcome
done = record { verdict = verdicts.Successful; computed = 0; found = 0 }

verdict_is : (v : Verdict) → is_successful (ending_of v) ≡ true → v ≡ verdicts.Successful
verdict_is verdicts.Successful is = refl
verdict_is (verdicts.Aborted fault) is = absurd (cc is)
verdict_is (verdicts.Failed fault) is = absurd (cc is)

-- and on a lane
pub single_run : (store : StoreView) (keys : List KeyText) (path : List ℕ) (step : StepText) (a : PlanLane) (o : Outcome) (b : PlanLane) → StepRun store keys path step a o b → HasFrame store a b → PlacesItsKey keys (step_key step) a b
    → StepsRun store keys path (step ∷ []) a o b
unfolding StepsRun
single_run store keys path step a o b ran frame placed = (
  o,
  b,
  ran,
  frame,
  (
    λ on. (done, (refl, record { says = refl; computed_are = refl; found_are = refl }), record { verdict_is = verdict_is o.verdict on; computed_are = omega arith; found_are = omega arith }),
    λ off. (refl, refl),
  ),
  placed,
)

-- ---- the place that a step may change

abbrev pub changed_place : List KeyText → List ℕ → Option (StepKeyText × ℕ) → Places
changed_place keys path None = λ context key. false
changed_place keys path (Some changed) = at_place (start_of (drop changed.1 path)) (key_of_step keys changed.0)

-- the place is that of the key and the context that the step names
pub record IsChanged (keys : List KeyText) (path : List ℕ) (step : StepText) (context : ℕ) (key : KeyValue) : Type 0 where
  pub named : StepKeyText
  pub up : ℕ
  pub changes : changed_by step ≡ Some (named, up)
  pub context_is : context ≡ start_of (drop up path)
  pub key_is : key ≡ key_of_step keys named

pub is_changed : (keys : List KeyText) (path : List ℕ) (step : StepText) (context : ℕ) (key : KeyValue) → changed_place keys path (changed_by step) context key ≡ true → IsChanged keys path step context key
is_changed keys path step context key is = by (changed_by step) refl is
  where
    by : (o : Option (StepKeyText × ℕ)) → changed_by step ≡ o → changed_place keys path o context key ≡ true → IsChanged keys path step context key
    by None so on = absurd (cc on)
    by (Some changed) so on =
        let parts = is_at_place (start_of (drop changed.1 path)) (key_of_step keys changed.0) context key on in
        record { named = changed.0; up = changed.1; changes = so; context_is = parts.0; key_is = parts.1 }

pub may_change : (keys : List KeyText) (path : List ℕ) (step : StepText) (named : StepKeyText) (up : ℕ) → changed_by step ≡ Some (named, up)
    → changed_place keys path (changed_by step) (start_of (drop up path)) (key_of_step keys named) ≡ true
may_change keys path step name up is =
    ap (λ o. changed_place keys path o (start_of (drop up path)) (key_of_step keys name)) is ∙ at_itself (start_of (drop up path)) (key_of_step keys name)

-- it is among the places within which the step keeps
begins_within : (P : ℕ → Type 0) (contexts : List ℕ) → 0 < length contexts → All P contexts → P (start_of contexts)
begins_within P [] some all = absurd (omega (arith, some))
begins_within P (first ∷ rest) some all = all 0 first (omega arith)

looks_there : (keys : List KeyText) (path : List ℕ) (places : Places) (key : StepKeyText) (up : ℕ) → up < length path → LooksWithin keys path places key up → places (start_of (drop up path)) (key_of_step keys key) ≡ true
looks_there keys path places key up below looks =
    let long = length-drop up path in
    begins_within (λ c. places c (key_of_step keys key) ≡ true) (drop up path) (omega (arith, long, below)) looks

changed_there : (changing looks : Bool) (keys : List KeyText) (path : List ℕ) (places : Places) (key : StepKeyText) (up : ℕ) → up < length path → TouchesWithin looks keys path places key up
    → IfSome (if changing then Some (key, up) else None) (λ (changed : StepKeyText × ℕ). places (start_of (drop changed.1 path)) (key_of_step keys changed.0) ≡ true)
changed_there false looks keys path places key up below within = tt
changed_there true true keys path places key up below within = looks_there keys path places key up below within
changed_there true false keys path places key up below within = within

changed_within : (keys : List KeyText) (path : List ℕ) (places : Places) (step : StepText) → height step < length path → StepWithin keys path places step
    → IfSome (changed_by step) (λ changed. places (start_of (drop changed.1 path)) (key_of_step keys changed.0) ≡ true)
changed_within keys path places (keyed word key text up) below within = changed_there (changes word) (looks_along word) keys path places key up below within
changed_within keys path places (fail text) below within = tt
changed_within keys path places (abort text) below within = tt

pub changes_within : (keys : List KeyText) (path : List ℕ) (places : Places) (step : StepText) (context : ℕ) (key : KeyValue) → height step < length path → StepWithin keys path places step → IsChanged keys path step context key
    → places context key ≡ true
changes_within keys path places step context key below within it =
    let there : places (start_of (drop it.up path)) (key_of_step keys it.named) ≡ true =
    subst (λ o. IfSome o (λ changed. places (start_of (drop changed.1 path)) (key_of_step keys changed.0) ≡ true)) it.changes (changed_within keys path places step below within) in
    subst (λ (x : ℕ × KeyValue). places x.0 x.1 ≡ true) (λ i. (sym it.context_is i, sym it.key_is i)) there

-- ---- events of a lane

placed : (cell : ℕ) (o : Option ℕ) → is_at nat_eq cell o ≡ true → o ≡ Some cell
placed cell None is = absurd (cc is)
placed cell (Some at) is = let same : at ≡ cell = grind (arith, nat_tests) in ap Some same

-- a lane makes no event where the step changes nothing
pub elsewhere : (run : RunView) (keys : List KeyText) (path : List ℕ) (step : StepText) (a : PlanLane) (o : Outcome) (b : PlanLane) → IsRunView run → IsLaneIn run b → StepsRun run.store keys path (step ∷ []) a o b
    → (context : ℕ) (key : KeyValue) (number : ℕ) → (IsChanged keys path step context key → ⊥) → HasNumberIn run key number
    → (more : History) → seen_by b.cells.view ≡ seen_by a.cells.view ++ more → (e : Event ℕ) → Contains more e → is_on nat_eq (cell_of run number context) e.act ≡ true → e.lane ≢ a.cells.view.number
elsewhere run keys path step a o b view lane ran context key number apart has more is e there on own =
    let Such : ℕ → Type 0 = IsCellOf run.store keys run.numbering path step in
    let did = steps_on run.store keys run.numbering Such path (step ∷ []) a o b ran lane.keys
    (λ s among cell it. subst (λ (x : StepText). IsCellOf run.store keys run.numbering path x cell) (sym (only_one step s among)) it) in
    let start = seen_by a.cells.view in
    let place : ℕ = length start + there.0 in
    let long = length-append start more in
    let below : place < length (start ++ more) = omega (arith, long, there.1) in
    let stands : slice_get (seen_by b.cells.view) place ≡ Some e =
    ap (λ l. slice_get l place) is ∙ (slice_get-get_or (start ++ more) place e below ∙ ap Some (get_or-append-add start more there.0 e ∙ there.2)) in
    let made : IsMadeBy (seen_by b.cells.view) place a b = record {
      event = e;
      there = stands;
      own_event = own;
      since = omega arith;
      until = subst (λ (l : History). place < length l) (sym is) below;
    } in
    let it : IsCellOf run.store keys run.numbering path step (cell_of run number context) = did.each place (cell_of run number context) made (placed (cell_of run number context) (place_of e.act) on) in
    let same = cells_apart run context (start_of (drop it.up path)) key (key_of_step keys it.key) number it.number view has it.named it.cell_is in
    apart (record { named = it.key; up = it.up; changes = it.changes; context_is = same.0; key_is = same.1 })
