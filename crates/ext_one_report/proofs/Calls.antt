-- The steps of a call end as those of a plain run.
use Rattle.std.proofs.Common.{◌≡◌, ℕ, ◌+◌, ◌<◌, zero, suc, length, drop, inl, inr, Bool, true, false, true≢false, List, [], ◌∷◌, Option, None, Some, refl, ap, sym, subst, ◌∙◌, arith}
use Rattle.std.specs.Prelude.{All, IfSome}
use mathlib.Core.List.{IsPrefix}
use base.Growing.{prefix_refl}
use Rattle.ext_history.specs.Histories.{seen_by}
use Rattle.ext_history.proofs.Composed.{same_number, seen_goes_on}
use Rattle.ext_history.proofs.Lists.{bools}
use Rattle.ext_tree.specs.Keys.{KeyValue}
use Rattle.ext_tree.specs.Trees.{Id, IsPathOf, IsTree, IsWalk}
use Rattle.ext_tree.proofs.KeyPlacing.{keeps_both}
use Rattle.ext_lifecycle.specs.declared.outcome.Outcome.{Outcome}
use Rattle.ext_lifecycle.specs.declared.outcome.Verdict.{Verdict}
use Rattle.ext_lifecycle.specs.declared.outcome.Verdict.TheVariants as verdicts
use Rattle.ext_lifecycle.specs.Endings.{successful, aborted, failed, is_successful}
use Rattle.ext_lifecycle.specs.FaultTexts.{VerdictText, verdict_text}
use Rattle.ext_lifecycle.specs.Lifecycle.{ending_of}
use Rattle.ext_plan.specs.declared.word.Word.{Word}
use Rattle.ext_plan.specs.declared.word.Word.TheVariants as words
use Rattle.ext_plan.specs.Plans.{KeyText, StepText, keyed, fail, abort}
use Rattle.ext_plan.specs.StepCalls.{label_of, start_of}
use Rattle.ext_plan.specs.Steps.{height, step_key}
use Rattle.ext_plan.specs.StoreKeys.{key_of_step}
use Rattle.ext_store.specs.Stores.{StoreView, IsLaneOf}
use Rattle.ext_store.specs.LaneCalls.{Frame}
use Rattle.ext_cells.specs.Lanes.{CellsId, Lane}
use Rattle.ext_engine.specs.Order.{LaneGoesOn}
use Rattle.ext_engine.proofs.Going.{goes_same, goes_then}
use Rattle.ext_plan_plain.specs.ValueStates.{enough, ValueState, with_memory, next_found, found_later}
use Rattle.ext_plan_plain.specs.StepRuns.{StepEnd, and_then, next_step, step_by, step_run, steps_run, unless_ended}
use Rattle.ext_plan_plain.proofs.Kept.{IsKept, IsKeptNaming, step-kept-by, steps-kept-by}
use Rattle.ext_plan_plain.proofs.Memories.{step_by-with}
use Rattle.ext_plan_plain.proofs.Stepping.{steps_run-nil, steps_run-cons, steps-stop}
use Rattle.ext_plan_parallel.specs.Saying.{no_memory}
use Rattle.ext_plan_parallel.specs.StoreCalls.{HasFrame, PlanLane}
use Rattle.ext_plan_parallel.specs.StoreSteps.{StepRun, StepsRun}
use Rattle.ext_one_report.proofs.MatchingWords.{RunView, IsRunView, Places, Matches, IsNumbered}
use Rattle.ext_one_report.proofs.StepsWords.{EndAlike, IsAlone, IsLaneIn, WordEndsAlike}
use Rattle.ext_one_report.specs.FullRuns.{FindsAll, StepFinds, name_of}
use Rattle.ext_one_report.proofs.CallsWords.{AreComparedAll, StepHasRoom, StepWithin}
use Rattle.ext_one_report.proofs.NodesAlone.{alone_first, alone_later}
use Rattle.ext_one_report.proofs.StepLooks.{wants_end_alike, nones_end_alike}
use Rattle.ext_one_report.proofs.Changes.{removes_end_alike, puts_end_alike, closeable_puts_end_alike, fails_end_alike, aborts_end_alike}
use Rattle.ext_one_report.proofs.Computes.{values_end_alike, closeable_values_end_alike}
use Rattle.ext_one_report.proofs.FailComputes.{failures_end_alike}
use Rattle.ext_one_report.proofs.WordCases.{finds_none}

-- ---- one step of any form

if_some : {A : Type 0} (P : A → Type 0) (o : Option A) → ((x : A) → P x) → IfSome o P
if_some P None each = tt
if_some P (Some x) each = each x

-- the path from the context that a step goes up to is one of the store's tree
abbrev StepOnPath : StoreView → List ℕ → StepText → Type 0
StepOnPath store path step = IfSome (step_key step) (λ key. IsPathOf store.tree (start_of (drop (height step) path)) (drop (height step) path))

pub path_above : (ids : List Id) (path : List ℕ) (node up : ℕ) → IsPathOf ids node path → up < length path → IsPathOf ids (start_of (drop up path)) (drop up path)
path_above ids [] node up is within = absurd is
path_above ids (first ∷ walk) node zero is within = (refl, subst (λ c. IsWalk ids c walk) (sym is.0) is.1)
path_above ids (first ∷ []) node (suc up) is within = absurd (omega (arith, within))
path_above ids (first ∷ parent ∷ rest) node (suc up) is within = path_above ids (parent ∷ rest) parent up (refl, is.1.1) (omega (arith, within))

word_alike : (word : Word) → WordEndsAlike word
word_alike words.Put = puts_end_alike
word_alike words.PutCloseable = closeable_puts_end_alike
word_alike words.Want = wants_end_alike
word_alike words.None = nones_end_alike
word_alike words.Remove = removes_end_alike
word_alike words.Compute = values_end_alike
word_alike words.ComputeCloseable = closeable_values_end_alike
word_alike words.ComputeFail = failures_end_alike

module _ (run : RunView) (keys : List KeyText) (path : List ℕ) (places : Places) (a : PlanLane) (o : Outcome) (b : PlanLane) (s : ValueState)
    (view : IsRunView run) (lane : IsLaneIn run b) (tree : IsTree run.store.tree) (alone : IsAlone run places a.cells.view b.cells.view)
    (keeps : a.cells.cells.limits.keep_faults ≡ s.keep_faults) (matches : Matches run places (seen_by a.cells.view) s) (numbered : IsNumbered places s) where
  step_alike : (step : StepText) → StepOnPath run.store path step → StepWithin keys path places step → StepFinds keys o step → StepHasRoom keys step s
      → StepRun run.store keys path step a o b → EndAlike run places o b (step_run keys path step s)
  step_alike (keyed word key text up) on within finds room (inl does) = word_alike word key text up run keys path places a o b s within
      (record { view = view; lane = lane; tree = tree; path_is = on; alone = alone; finds = finds.1; room = room; keeps = keeps; matches = matches; numbered = numbered }) does
  step_alike (keyed word key text up) on within finds room (inr lacks) = absurd (finds.0 (finds_none keys word key a o b lacks).ends.0)
  step_alike (fail text) on within finds room ran = fails_end_alike text run keys path places a o b s finds.0 matches numbered ran
  step_alike (abort text) on within finds room ran = aborts_end_alike text run keys path places a o b s finds.0 matches numbered ran

-- ---- a plain run that finds all memory

-- it keeps faults or not as before,
keeps_as : (keeps : Bool) → IsKept (λ s. s.keep_faults ≡ keeps)
keeps_as keeps = record {
  finds = λ memory s h. h;
  puts = λ place number s h. h;
  removes = λ place s h. h;
  seals = λ place s h. h;
  keeps = λ value s room h. h;
  abandons = λ place s won h. h;
  fills = λ place value s won room h. h;
  fails = λ place value s kept won room h. h;
}

keeps_named : (keeps : Bool) (key : KeyValue) → IsKeptNaming (λ s. s.keep_faults ≡ keeps) key
keeps_named keeps key = record { gets = λ number s is h. h }

step_faults : (keys : List KeyText) (path : List ℕ) (step : StepText) (s : ValueState) → (step_run keys path step s).state.keep_faults ≡ s.keep_faults
step_faults keys path step s =
    step-kept-by (λ t. t.keep_faults ≡ s.keep_faults) (keeps_as s.keep_faults) keys enough path step s
    (if_some (λ key. IsKeptNaming (λ t. t.keep_faults ≡ s.keep_faults) (key_of_step keys key)) (step_key step) (λ key. keeps_named s.keep_faults (key_of_step keys key))) refl

pub steps_faults : (keys : List KeyText) (path : List ℕ) (steps : List StepText) (s : ValueState) → (steps_run keys path steps s).state.keep_faults ≡ s.keep_faults
steps_faults keys path steps s =
    steps-kept-by (λ t. t.keep_faults ≡ s.keep_faults) (keeps_as s.keep_faults) keys path steps s
    (λ k step within. if_some (λ key. IsKeptNaming (λ t. t.keep_faults ≡ s.keep_faults) (key_of_step keys key)) (step_key _) (λ key. keeps_named s.keep_faults (key_of_step keys key))) refl

-- finds all memory later too,
clean : (s : ValueState) → s.memory ≡ [] → with_memory [] s ≡ s
clean s none = ap (λ m. with_memory m s) (sym none)

pub step_memory : (keys : List KeyText) (path : List ℕ) (step : StepText) (s : ValueState) → s.memory ≡ [] → (step_run keys path step s).state.memory ≡ []
step_memory keys path step s none =
    let end = step_by-with [] keys enough path step s in
    sym (ap (λ (e : StepEnd). e.state.memory) (end ∙ ap (step_run keys path step) (clean s none)))

-- and makes its next step so
next_is : (keys : List KeyText) (path : List ℕ) (step : StepText) (s : ValueState) → s.memory ≡ [] → next_step keys path step s ≡ step_run keys path step s
next_is keys path step s none =
    ap (λ m. step_by keys (next_found m) path step (with_memory (found_later m) s)) none ∙ ap (step_run keys path step) (clean s none)

goes_on : (v : VerdictText) (first : StepEnd) (later : ValueState → StepEnd) → is_successful v ≡ true → unless_ended v first later ≡ and_then first (later first.state)
goes_on successful first later passed = refl
goes_on (aborted text) first later passed = absurd cc
goes_on (failed text) first later passed = absurd cc

-- after a step that is successful come the others
pub plain_goes : (keys : List KeyText) (path : List ℕ) (step : StepText) (more : List StepText) (s : ValueState) → s.memory ≡ [] → is_successful (step_run keys path step s).verdict ≡ true
    → steps_run keys path (step ∷ more) s ≡ and_then (step_run keys path step s) (steps_run keys path more (step_run keys path step s).state)
plain_goes keys path step more s none passed =
    steps_run-cons keys path step more s
    ∙ (ap (λ (e : StepEnd). unless_ended e.verdict e (steps_run keys path more)) (next_is keys path step s none)
    ∙ goes_on (step_run keys path step s).verdict (step_run keys path step s) (steps_run keys path more) passed)

-- and one that is not is the last
pub plain_stops : (keys : List KeyText) (path : List ℕ) (step : StepText) (more : List StepText) (s : ValueState) → s.memory ≡ [] → is_successful (step_run keys path step s).verdict ≡ false
    → steps_run keys path (step ∷ more) s ≡ step_run keys path step s
plain_stops keys path step more s none ends = steps-stop keys path step more s (step_run keys path step s) (sym (next_is keys path step s none)) ends

pub steps_memory : (keys : List KeyText) (path : List ℕ) (steps : List StepText) (s : ValueState) → s.memory ≡ [] → (steps_run keys path steps s).state.memory ≡ []
steps_memory keys path [] s none = ap (λ (e : StepEnd). e.state.memory) (steps_run-nil keys path s) ∙ none
steps_memory keys path (step ∷ more) s none =
    let next = step_run keys path step s in
    elim (bools (is_successful next.verdict)) [
      | inl on ↦ ap (λ (e : StepEnd). e.state.memory) (plain_goes keys path step more s none on) ∙ steps_memory keys path more next.state (step_memory keys path step s none)
      | inr off ↦ ap (λ (e : StepEnd). e.state.memory) (plain_stops keys path step more s none off) ∙ step_memory keys path step s none
    ]

-- ---- verdicts

pub told_so : (v : Verdict) → is_successful (verdict_text v) ≡ is_successful (ending_of v)
told_so verdicts.Successful = refl
told_so (verdicts.Aborted fault) = refl
told_so (verdicts.Failed fault) = refl

-- a step that is successful found all
pub success_finds : (keys : List KeyText) (step : StepText) (o : Outcome) → is_successful (ending_of o.verdict) ≡ true → StepFinds keys o step
success_finds keys step o on =
    let memory : o.verdict ≡ no_memory → ⊥ = λ is. true≢false (sym on ∙ ap (λ v. is_successful (ending_of v)) is) in (
      memory,
      if_some (λ key. FindsAll (name_of step) (label_of keys key) o) (step_key step) (λ key. record {
        memory = memory;
        room = λ why room is. true≢false (sym (told_so o.verdict ∙ on) ∙ ap is_successful is);
      }),
    )

some_weaker : {A : Type 0} (P Q : A → Type 0) (o : Option A) → ((x : A) → P x → Q x) → IfSome o P → IfSome o Q
some_weaker P Q None each is = tt
some_weaker P Q (Some x) each is = each x is

-- what is found is told by the verdict alone
pub finds_by : (keys : List KeyText) (step : StepText) (o p : Outcome) → o.verdict ≡ p.verdict → StepFinds keys o step → StepFinds keys p step
finds_by keys step o p is finds = (
  λ none. finds.0 (is ∙ none),
  some_weaker (λ key. FindsAll (name_of step) (label_of keys key) o) (λ key. FindsAll (name_of step) (label_of keys key) p) (step_key step)
      (λ key all. record { memory = λ none. all.memory (is ∙ none); room = λ why room said. all.room why room (ap verdict_text is ∙ said) }) finds.1,
)

-- ---- lanes

goes_framed : (store : StoreView) (a b : PlanLane) → HasFrame store a b → LaneGoesOn a b
unfolding Frame
goes_framed store a b frame = elim frame.steps.1 [
  | inl still ↦ record {
    number = ap (λ (l : Lane). l.view.number) still.0;
    seen = subst (λ (l : Lane). IsPrefix (seen_by a.cells.view) (seen_by l.view)) (sym still.0) (prefix_refl (seen_by a.cells.view));
    known = frame.known;
    faults = frame.faults;
    keys = frame.keys;
  }
  | inr calls ↦ record { number = same_number calls; seen = seen_goes_on calls; known = frame.known; faults = frame.faults; keys = frame.keys }
]

lane_framed : (store : StoreView) (a b : PlanLane) → HasFrame store a b → IsLaneOf store.id b
unfolding Frame
lane_framed store a b frame = frame.lane

pub steps_go : (store : StoreView) (keys : List KeyText) (path : List ℕ) (steps : List StepText) (a : PlanLane) (o : Outcome) (b : PlanLane) → StepsRun store keys path steps a o b → LaneGoesOn a b
unfolding StepsRun
steps_go store keys path [] a o b ran = subst (λ x. LaneGoesOn a x) (sym ran.0) (goes_same a)
steps_go store keys path (step ∷ more) a o b ran =
    let one = goes_framed store a ran.1 ran.3 in
    elim (bools (is_successful (ending_of ran.0.verdict))) [
      | inl on ↦ goes_then a ran.1 b one (steps_go store keys path more ran.1 (ran.4.0 on).0 b (ran.4.0 on).1)
      | inr off ↦ subst (λ x. LaneGoesOn a x) (sym (ran.4.1 off).1) one
    ]

pub steps_lane : (store : StoreView) (keys : List KeyText) (path : List ℕ) (steps : List StepText) (a : PlanLane) (o : Outcome) (b : PlanLane) → IsLaneOf store.id a → StepsRun store keys path steps a o b → IsLaneOf store.id b
unfolding StepsRun
steps_lane store keys path [] a o b is ran = subst (λ (x : PlanLane). IsLaneOf store.id x) (sym ran.0) is
steps_lane store keys path (step ∷ more) a o b is ran =
    let one = lane_framed store a ran.1 ran.3 in
    elim (bools (is_successful (ending_of ran.0.verdict))) [
      | inl on ↦ steps_lane store keys path more ran.1 (ran.4.0 on).0 b one (ran.4.0 on).1
      | inr off ↦ subst (λ (x : PlanLane). IsLaneOf store.id x) (sym (ran.4.1 off).1) one
    ]

-- what a lane knows before, it knows in the end
pub lane_before : (run : RunView) (a b : PlanLane) → LaneGoesOn a b → IsLaneIn run b → IsLaneIn run a
lane_before run a b goes lane = record {
  keys = keeps_both a.keys b.keys run.numbering goes.keys lane.keys;
  values = λ number value is. lane.values number value (goes.known number value is);
  faults = λ number fault is. lane.faults number fault (goes.faults number fault is);
}

-- ---- the steps of a call

pub all_first : {A : Type 0} (P : A → Type 0) (x : A) (xs : List A) → All P (x ∷ xs) → P x
all_first P x xs all = all 0 x (omega arith)

pub all_later : {A : Type 0} (P : A → Type 0) (x : A) (xs : List A) → All P (x ∷ xs) → All P xs
all_later P x xs all = λ k d within. all (suc k) d (omega (arith, within))

all_each : {A : Type 0} (P Q : A → Type 0) (xs : List A) → ((x : A) → P x → Q x) → All P xs → All Q xs
all_each P Q xs each all = λ k d within. each _ (all k d within)

pub steps_alike : (run : RunView) (keys : List KeyText) (path : List ℕ) (places : Places) (steps : List StepText) (a : PlanLane) (o : Outcome) (b : PlanLane) (s : ValueState)
    → AreComparedAll run keys path places steps a o b s → StepsRun run.store keys path steps a o b → EndAlike run places o b (steps_run keys path steps s)
unfolding StepsRun
steps_alike run keys path places [] a o b s both ran =
    subst (λ (end : StepEnd). EndAlike run places o b end) (sym (steps_run-nil keys path s)) (record {
      says = ran.1.says;
      computed = ran.1.computed_are;
      found = ran.1.found_are;
      matches = subst (λ (x : PlanLane). Matches run places (seen_by x.cells.view) s) (sym ran.0) both.beside.matches;
      numbered = both.beside.numbered;
    })
steps_alike run keys path places (step ∷ more) a o b s both ran =
    let first = ran.0 in
    let m = ran.1 in
    let next = step_run keys path step s in
    let on_path : StepOnPath run.store path step = if_some (λ key. IsPathOf run.store.tree (start_of (drop (height step) path)) (drop (height step) path)) (step_key step)
    (λ key. path_above run.store.tree path (start_of path) (height step) both.beside.path_is (all_first (λ x. height x < length path) step more both.heights)) in
    let touches = all_first (StepWithin keys path places) step more both.within in
    let keeps : a.cells.cells.limits.keep_faults ≡ s.keep_faults = ap (λ (c : CellsId). c.limits.keep_faults) both.beside.of.cells ∙ both.beside.keeps in
    let goes : LaneGoesOn a m = goes_framed run.store a m ran.3 in
    elim (bools (is_successful (ending_of first.verdict))) [
      | inl on ↦
          let rest = ran.4.0 on in
          let further : LaneGoesOn m b = steps_go run.store keys path more m rest.0 b rest.1 in
          let here : IsLaneIn run m = lane_before run m b further both.beside.lane in
          let alone : IsAlone run places a.cells.view m.cells.view = alone_first run places a.cells.view m.cells.view b.cells.view further.seen both.beside.alone in
          let one : EndAlike run places first m next =
          step_alike run keys path places a first m s both.beside.view here both.beside.tree alone keeps both.beside.matches both.beside.numbered step on_path touches (success_finds keys step first on) both.room.0 ran.2 in
          let passed : is_successful next.verdict ≡ true = ap is_successful (sym one.says) ∙ (told_so first.verdict ∙ on) in
          let later : AreComparedAll run keys path places more m rest.0 b next.state = record {
            beside = record {
              view = both.beside.view;
              of = lane_framed run.store a m ran.3;
              lane = both.beside.lane;
              tree = both.beside.tree;
              path_is = both.beside.path_is;
              alone = alone_later run places a.cells.view m.cells.view b.cells.view goes.seen goes.number both.beside.alone;
              memory = step_memory keys path step s both.beside.memory;
              keeps = both.beside.keeps ∙ sym (step_faults keys path step s);
              matches = one.matches;
              numbered = one.numbered;
            };
            heights = all_later (λ x. height x < length path) step more both.heights;
            within = all_later (StepWithin keys path places) step more both.within;
            finds = all_each (StepFinds keys o) (StepFinds keys rest.0) more (λ x. finds_by keys x o rest.0 rest.2.verdict_is) (all_later (StepFinds keys o) step more both.finds);
            room = both.room.1 passed;
          } in
          let others : EndAlike run places rest.0 b (steps_run keys path more next.state) = steps_alike run keys path places more m rest.0 b next.state later rest.1 in
          subst (λ (end : StepEnd). EndAlike run places o b end) (sym (plain_goes keys path step more s both.beside.memory passed)) (record {
            says = ap verdict_text rest.2.verdict_is ∙ others.says;
            computed = rest.2.computed_are ∙ (ap (λ n. n + rest.0.computed) one.computed ∙ ap (λ n. next.computed + n) others.computed);
            found = rest.2.found_are ∙ (ap (λ n. n + rest.0.found) one.found ∙ ap (λ n. next.found + n) others.found);
            matches = others.matches;
            numbered = others.numbered;
          })
      | inr off ↦
          let is = ran.4.1 off in
          let here : IsLaneIn run m = subst (IsLaneIn run) is.1 both.beside.lane in
          let alone : IsAlone run places a.cells.view m.cells.view = subst (λ (x : PlanLane). IsAlone run places a.cells.view x.cells.view) is.1 both.beside.alone in
          let finds : StepFinds keys first step = finds_by keys step o first (ap (λ (x : Outcome). x.verdict) is.0) (all_first (StepFinds keys o) step more both.finds) in
          let one : EndAlike run places first m next =
          step_alike run keys path places a first m s both.beside.view here both.beside.tree alone keeps both.beside.matches both.beside.numbered step on_path touches finds both.room.0 ran.2 in
          let ended : is_successful next.verdict ≡ false = ap is_successful (sym one.says) ∙ (told_so first.verdict ∙ off) in
          subst (λ (end : StepEnd). EndAlike run places o b end) (sym (plain_stops keys path step more s both.beside.memory ended))
          (subst (λ (x : Outcome). EndAlike run places x b next) (sym is.0) (subst (λ (x : PlanLane). EndAlike run places first x next) (sym is.1) one))
    ]
