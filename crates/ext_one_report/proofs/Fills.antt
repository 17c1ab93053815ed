-- How many values were computed at open places, by the lanes and in the plain run: each counts those that it filled itself, and but for these both have computed as many.
-- Javadoc `ExtensionContext.Store`, `getOrComputeIfAbsent`.
use Rattle.std.specs.Prelude.{ℕ, ◌≡◌, ◌≢◌, ◌+◌, ◌++◌, ◌⊎◌, List, length, Contains, Option, Some, None, slice_get}
use Rattle.std.specs.List.{sum_by}
use Rattle.ext_history.specs.Histories.{seen_by}
use Rattle.ext_model.specs.declared.event.Act.TheVariants.{Fill}
use Rattle.ext_model.specs.declared.event.Event.{Event}
use Rattle.ext_model.specs.History.{History}
use Rattle.ext_lifecycle.specs.FaultTexts.{NodeOutcome}
use Rattle.ext_engine.specs.Order.{IsMadeIn}
use Rattle.ext_engine.specs.TreeRun.{Ran}
use Rattle.ext_plan_parallel.specs.StoreCalls.{PlanLane}
use Rattle.ext_history.proofs.Once.{Once}
use Rattle.ext_tree.specs.Keys.{KeyValue}
use Rattle.ext_plan.specs.Values.{ValueText}
use Rattle.ext_plan_plain.specs.ValueStates.{ValueState}
use Rattle.ext_one_report.proofs.MatchingWords.{HasNumberIn, RunView, cell_of, plain_slot}
use Rattle.ext_one_report.proofs.Open.{Given, Open, at_place, of_value, still_open, values_of}

-- a place: a context and a key
abbrev pub Spot : Type 0
Spot = ℕ × KeyValue

-- ---- who fills a place

-- the lane fills the place between these two moments of it
pub record IsFilledBy (run : RunView) (before after : PlanLane) (spot : Spot) : Type 0 where
  pub number : ℕ
  pub has : HasNumberIn run spot.1 number
  pub more : History
  pub is : seen_by after.cells.view ≡ seen_by before.cells.view ++ more
  pub event : Event ℕ
  pub there : Contains more event
  pub value : ℕ
  pub act : event.act ≡ Fill (cell_of run number spot.0) value
  pub own : event.lane ≡ before.cells.view.number

-- these lanes fill it between these two states of them
pub record IsFilledIn (run : RunView) (h : History) (before after : List PlanLane) (spot : Spot) : Type 0 where
  pub number : ℕ
  pub has : HasNumberIn run spot.1 number
  pub place : ℕ
  pub event : Event ℕ
  pub there : slice_get h place ≡ Some event
  pub value : ℕ
  pub act : event.act ≡ Fill (cell_of run number spot.0) value
  pub made : IsMadeIn h place before after

-- ---- which are filled

-- the value stands there by now
pub record IsSettled (o later : Open) (spot : Spot) : Type 0 where
  pub value : ValueText
  pub was_open : o spot.0 spot.1 ≡ Some (of_value value)
  pub closed : later spot.0 spot.1 ≡ None

-- From these open places to fewer, in a plain run from this state: `mine` are the places that the lanes filled themselves (`Filled`), `theirs` those that the plain run filled. But for these both computed as many
pub record Fills (Filled : Spot → Type 0) (o later : Open) (s : ValueState) (lanes plain : ℕ) : Type 0 where
  pub mine : List Spot
  pub theirs : List Spot
  pub mine_once : Once mine
  pub theirs_once : Once theirs
  pub mine_settled : (spot : Spot) → Contains mine spot → IsSettled o later spot
  pub mine_filled : (spot : Spot) → Contains mine spot → Filled spot
  pub filled_mine : (spot : Spot) (v : ValueText) → o spot.0 spot.1 ≡ Some (of_value v) → Filled spot → Contains mine spot
  pub theirs_settled : (spot : Spot) → Contains theirs spot → IsSettled o later spot
  pub theirs_none : (spot : Spot) → Contains theirs spot → plain_slot s spot.0 spot.1 ≡ None
  pub none_theirs : (spot : Spot) → IsSettled o later spot → plain_slot s spot.0 spot.1 ≡ None → Contains theirs spot
  pub balance : lanes + length theirs ≡ plain + length mine

-- ---- how many values nodes computed

-- on the lanes, by these results,
abbrev pub computed_of : List Ran → ℕ
computed_of ran = sum_by (λ one. one.result.computed) ran

-- and in the plain run, in which these have the outcomes of their nodes
abbrev pub computed_at : List NodeOutcome → ℕ → ℕ
computed_at results node = computed_if (slice_get results node)
  where
    computed_if : Option NodeOutcome → ℕ
    computed_if None = 0
    computed_if (Some outcome) = outcome.computed

abbrev pub computed_told : List Ran → List NodeOutcome → ℕ
computed_told ran results = sum_by (λ one. computed_at results one.result.node) ran

-- ---- laws, for whatever `Filled` is

-- nothing was filled where it is open
abbrev pub FillsNone : Type 1
FillsNone = (Filled : Spot → Type 0) (o : Open) (s : ValueState) (n : ℕ) → ((spot : Spot) (v : ValueText) → o spot.0 spot.1 ≡ Some (of_value v) → Filled spot → ⊥) → Fills Filled o o s n n

-- one place was settled: each of both either filled it, or found a value there
abbrev pub FillsOne : Type 1
FillsOne =
    (Filled : Spot → Type 0) (o : Open) (s : ValueState) (context : ℕ) (key : KeyValue) (v : ValueText) (lanes plain : ℕ) → o context key ≡ Some (of_value v)
    → ((lanes ≡ 1) × Filled (context, key)) ⊎ ((lanes ≡ 0) × ¬ Filled (context, key))
    → ((plain ≡ 1) × (plain_slot s context key ≡ None)) ⊎ ((plain ≡ 0) × (plain_slot s context key ≢ None))
    → ((spot : Spot) (w : ValueText) → o spot.0 spot.1 ≡ Some (of_value w) → Filled spot → spot ≡ (context, key))
    → Fills Filled o (still_open (at_place context key) o) s lanes plain

-- one place was settled where no value is: nothing was filled
abbrev pub FillsNoValue : Type 1
FillsNoValue =
    (Filled : Spot → Type 0) (o : Open) (s : ValueState) (context : ℕ) (key : KeyValue) (n : ℕ) → values_of o context key ≡ None
    → ((spot : Spot) (w : ValueText) → o spot.0 spot.1 ≡ Some (of_value w) → Filled spot → ⊥) → Fills Filled o (still_open (at_place context key) o) s n n

-- the same by other words
abbrev pub FillsAs : Type 1
FillsAs =
    (Filled Also : Spot → Type 0) (o later : Open) (s : ValueState) (lanes plain more others : ℕ) → ((spot : Spot) (v : ValueText) → o spot.0 spot.1 ≡ Some (of_value v) → Filled spot → Also spot)
    → ((spot : Spot) (v : ValueText) → o spot.0 spot.1 ≡ Some (of_value v) → Also spot → Filled spot) → lanes ≡ more → plain ≡ others → Fills Filled o later s lanes plain → Fills Also o later s more others

-- one part after another
abbrev pub FillsThen : Type 1
FillsThen =
    (First Second Filled : Spot → Type 0) (o mid last : Open) (s t : ValueState) (lanes plain more others : ℕ)
    → ((context : ℕ) (key : KeyValue) (v : Given) → mid context key ≡ Some v → o context key ≡ Some v)
    → ((context : ℕ) (key : KeyValue) (v : Given) → last context key ≡ Some v → mid context key ≡ Some v)
    → ((context : ℕ) (key : KeyValue) (v : Given) → mid context key ≡ Some v → plain_slot t context key ≡ plain_slot s context key)
    → ((spot : Spot) (v : ValueText) → o spot.0 spot.1 ≡ Some (of_value v) → Filled spot → First spot ⊎ Second spot)
    → ((spot : Spot) → First spot → Filled spot) → ((spot : Spot) → Second spot → Filled spot)
    -- where a value stands nothing is filled later
    → ((spot : Spot) → IsSettled o mid spot → Second spot → ⊥)
    → Fills First o mid s lanes plain → Fills Second mid last t more others → Fills Filled o last s (lanes + more) (plain + others)

-- One more of several that run beside one another on the lanes, and one after another in the plain run: from `s` to `t` the others before it were run there. It has its own open places, also such as those have settled
abbrev pub FillsBeside : Type 1
FillsBeside =
    (First Second Filled : Spot → Type 0) (wide mid next own left : Open) (s t : ValueState) (lanes plain more others : ℕ)
    → ((context : ℕ) (key : KeyValue) (v : Given) → mid context key ≡ Some v → wide context key ≡ Some v)
    → ((context : ℕ) (key : KeyValue) (v : Given) → own context key ≡ Some v → wide context key ≡ Some v)
    → ((spot : Spot) → IsSettled wide next spot → IsSettled wide mid spot ⊎ IsSettled own left spot)
    → ((spot : Spot) → IsSettled wide mid spot → IsSettled wide next spot) → ((spot : Spot) → IsSettled own left spot → IsSettled wide next spot)
    → ((context : ℕ) (key : KeyValue) (v : Given) → mid context key ≡ Some v → plain_slot t context key ≡ plain_slot s context key)
    → ((spot : Spot) → IsSettled wide mid spot → plain_slot t spot.0 spot.1 ≢ None)
    → ((spot : Spot) (v : ValueText) → wide spot.0 spot.1 ≡ Some (of_value v) → Filled spot → First spot ⊎ Second spot)
    → ((spot : Spot) → First spot → Filled spot) → ((spot : Spot) → Second spot → Filled spot)
    → ((spot : Spot) (v : ValueText) → wide spot.0 spot.1 ≡ Some (of_value v) → Second spot → own spot.0 spot.1 ≡ Some (of_value v))
    -- a place is filled once
    → ((spot : Spot) (v : ValueText) → wide spot.0 spot.1 ≡ Some (of_value v) → First spot → Second spot → ⊥)
    → Fills First wide mid s lanes plain → Fills Second own left t more others → Fills Filled wide next s (lanes + more) (plain + others)

-- Of places that were open for these alone as many were filled in both: nothing stood there at first, and where a value stands in the end it was filled meanwhile
abbrev pub FillsNarrow : Type 1
FillsNarrow =
    (Filled : Spot → Type 0) (wide left o later : Open) (s : ValueState) (lanes plain : ℕ)
    -- where a place is open for both, the same is computed
    → ((context : ℕ) (key : KeyValue) (v w : Given) → o context key ≡ Some v → wide context key ≡ Some w → v ≡ w)
    → ((context : ℕ) (key : KeyValue) (v : ValueText) → o context key ≡ Some (of_value v) → Filled (context, key) → wide context key ≡ Some (of_value v))
    → ((spot : Spot) → IsSettled o later spot → IsSettled wide left spot)
    → ((spot : Spot) (v : ValueText) → o spot.0 spot.1 ≡ Some (of_value v) → IsSettled wide left spot → IsSettled o later spot)
    → ((spot : Spot) → IsSettled wide left spot → o spot.0 spot.1 ≡ None → (plain_slot s spot.0 spot.1 ≡ None) × Filled spot)
    → Fills Filled wide left s lanes plain → Fills Filled o later s lanes plain
