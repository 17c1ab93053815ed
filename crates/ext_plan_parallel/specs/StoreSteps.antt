-- What the steps of a test or a callback do on a lane of a store for several threads, one by one and in order (Javadoc
-- `ExtensionContext.Store`). A step acts on the first context of the path that it is given, or on one further up. Its
-- key gets a number when the lane first names it. Steps and their texts are not from JUnit; `Plans` and `Verdicts` of
-- ext_plan define them.
use Rattle.std.specs.Prelude.{◌≡◌, ◌⊎◌, ℕ, ◌+◌, true, false, List, [], ◌∷◌, Option, Some, None}
use Rattle.ext_lifecycle.specs.declared.outcome.Outcome.{Outcome}
use Rattle.ext_lifecycle.specs.Endings.{successful, aborted, failed, is_successful}
use Rattle.ext_lifecycle.specs.FaultTexts.{VerdictText}
use Rattle.ext_lifecycle.specs.Lifecycle.{ending_of}
use Rattle.ext_plan.specs.declared.word.Word.{Word}
use Rattle.ext_plan.specs.declared.word.Word.TheVariants as words
use Rattle.ext_plan.specs.Plans.{KeyText, StepKeyText, StepText, keyed, fail, abort}
use Rattle.ext_plan.specs.StepWords.{word_text}
use Rattle.ext_plan.specs.Steps.{step_key}
use Rattle.ext_plan.specs.StoreKeys.{key_of_step}
use Rattle.ext_store.specs.LaneCalls.{KeepsAs, OfKey}
use Rattle.ext_store.specs.Stores.{StoreView}
use Rattle.ext_tree.specs.Keys.{PlacesNone, PlacesOnly}
use Rattle.ext_plan.specs.StepCalls.{CallText, call_of, is_made, start_of}
use Rattle.ext_plan.specs.Values.{ValueText}
use Rattle.ext_plan.specs.Verdicts.{SeenText, want_verdict, none_verdict}
use Rattle.ext_plan_parallel.specs.declared.steps.stored_value.StoredValue.{StoredValue}
use Rattle.ext_plan_parallel.specs.Saying.{Ends, EndsNoMemory, EndsRefused}
use Rattle.ext_plan_parallel.specs.StoreCalls.{HasFrame, KnowsTheSame, PlanLane, Sees, StoresThere, PutsNothing, RemovesThere, ComputesValue, ComputesFault, stored_view}

-- ---- a step, by its call of the store

module _ (store : StoreView) (call : CallText) where
  -- The key has a number for the lane from now on, of which `Holds` is true. Or the call was refused for its key, and
  -- the step ends with the reason.
  abbrev pub OfCallKey : PlanLane → Outcome → PlanLane → (ℕ → Type 0) → Type 0
  OfCallKey before outcome after Holds =
      OfKey before after call.key (λ why. KnowsTheSame before after × EndsRefused call.name call.label why outcome)
      Holds

  -- A look-up from the context, and how the step ends by what it shows.
  abbrev pub StepLooks : (SeenText → VerdictText) → PlanLane → Outcome → PlanLane → Type 0
  StepLooks verdict before outcome after =
      OfCallKey before outcome after
      (λ number. (seen : SeenText) × Sees store (start_of call.path) number before seen after
      × Ends (verdict seen) 0 0 outcome)

  -- The value is kept under a number; then its key is numbered, and the value's number is stored in the context. Either
  -- may be refused.
  pub record PutsKept (value : ValueText) (before : PlanLane) (outcome : Outcome) (after : PlanLane) : Type 0 where
    pub kept_value : StoredValue
    pub value_is : stored_view kept_value ≡ value
    pub kept : ℕ
    pub between : PlanLane
    pub keeps : KeepsAs kept_value before between kept
    pub faults_between : between.faults ≡ before.faults
    pub stores : OfCallKey between outcome after
        (λ number. StoresThere store (start_of call.path) number call.name call.label kept between outcome after)
    pub known : KnowsTheSame between after

  -- A value is kept and put into the context. If it is not kept, its key is not numbered.
  abbrev pub StepPuts : ValueText → PlanLane → Outcome → PlanLane → Type 0
  StepPuts value before outcome after = PutsKept value before outcome after
      ⊎ PutsNothing store call.name call.label value before outcome after

  -- What stands in the context is removed.
  abbrev pub StepRemoves : PlanLane → Outcome → PlanLane → Type 0
  StepRemoves before outcome after =
      OfCallKey before outcome after
      (λ number. RemovesThere store (start_of call.path) number call.name call.label before outcome after)

  -- A value is computed for the context, unless one is found.
  abbrev pub StepComputes : ValueText → PlanLane → Outcome → PlanLane → Type 0
  StepComputes value before outcome after =
      OfCallKey before outcome after
      (λ number. ComputesValue store (start_of call.path) number call.name call.label value before outcome after)

  -- The same with a factory that fails.
  abbrev pub StepFails : List ℕ → PlanLane → Outcome → PlanLane → Type 0
  StepFails text before outcome after =
      OfCallKey before outcome after
      (λ number. ComputesFault store (start_of call.path) number call.name call.label text before outcome after)

  -- What a step with this word and text does with its call.
  abbrev pub StepDoes : Word → List ℕ → PlanLane → Outcome → PlanLane → Type 0
  StepDoes words.Put text before outcome after =
      StepPuts (record { text = text; closeable = false }) before outcome after
  StepDoes words.PutCloseable text before outcome after =
      StepPuts (record { text = text; closeable = true }) before outcome after
  StepDoes words.Want text before outcome after =
      StepLooks (want_verdict call.name call.label text) before outcome after
  StepDoes words.None text before outcome after = StepLooks (none_verdict call.name call.label) before outcome after
  StepDoes words.Remove text before outcome after = StepRemoves before outcome after
  StepDoes words.Compute text before outcome after =
      StepComputes (record { text = text; closeable = false }) before outcome after
  StepDoes words.ComputeCloseable text before outcome after =
      StepComputes (record { text = text; closeable = true }) before outcome after
  StepDoes words.ComputeFail text before outcome after = StepFails text before outcome after

-- There was no memory for the step's key or its factory's fault, and the step did nothing.
pub record FindsNoMemory (before : PlanLane) (outcome : Outcome) (after : PlanLane) : Type 0 where
  pub unchanged : after ≡ before
  pub ends : EndsNoMemory outcome

module _ (keys : List KeyText) where
  -- Memory ran out before the step made its call: for its key, which is made for the step if no label declares it, or
  -- for the fault of a factory that fails.
  abbrev pub LacksMemory : Word → StepKeyText → PlanLane → Outcome → PlanLane → Type 0
  LacksMemory words.ComputeFail key before outcome after = FindsNoMemory before outcome after
  LacksMemory word key before outcome after = (is_made keys key ≡ true) × FindsNoMemory before outcome after

  -- The lane puts no key at a place except the one that the step names, if it names one.
  abbrev pub PlacesItsKey : Option StepKeyText → PlanLane → PlanLane → Type 0
  PlacesItsKey (Some key) before after = PlacesOnly (key_of_step keys key) before.keys after.keys
  PlacesItsKey None before after = PlacesNone before.keys after.keys

-- ---- a step in the first context of the path

module _ (store : StoreView) (keys : List KeyText) (path : List ℕ) where
  -- A step of a test or a callback that runs in the first context of the path.
  abbrev pub StepRun : StepText → PlanLane → Outcome → PlanLane → Type 0
  StepRun (keyed word key text up) before outcome after =
      StepDoes store (call_of keys path (word_text word) key up) word text before outcome after
      ⊎ LacksMemory keys word key before outcome after
  StepRun (fail text) before outcome after = (after ≡ before) × Ends (failed text) 0 0 outcome
  StepRun (abort text) before outcome after = (after ≡ before) × Ends (aborted text) 0 0 outcome

  -- ---- steps

  -- One step and then the rest, whose verdict decides. What both computed and found is added up.
  pub record AddsUp (first rest outcome : Outcome) : Type 0 where
    pub verdict_is : outcome.verdict ≡ rest.verdict
    pub computed_are : outcome.computed ≡ first.computed + rest.computed
    pub found_are : outcome.found ≡ first.found + rest.found

  -- The steps are made in order, up to and including the first that isn't successful. Each leaves its lane what it knew
  -- and kept, and sets no place but its own key's.
  unfoldable pub StepsRun : List StepText → PlanLane → Outcome → PlanLane → Type 0
  StepsRun [] before outcome after = (after ≡ before) × Ends successful 0 0 outcome
  StepsRun (step ∷ more) before outcome after =
      (first : Outcome) × (between : PlanLane) × StepRun step before first between × HasFrame store before between
      × ((is_successful (ending_of first.verdict) ≡ true → (rest : Outcome) × StepsRun more between rest after
      × AddsUp first rest outcome)
      × (is_successful (ending_of first.verdict) ≡ false → (outcome ≡ first) × (after ≡ between)))
      × PlacesItsKey keys (step_key step) before between
