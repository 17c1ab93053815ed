-- Open places: nodes that may run beside one another compute the same there, and nothing has stood there before them. Which of them runs its factory is open.
-- Javadoc `ExtensionContext.Store`, `getOrComputeIfAbsent`. That such nodes do not race is an own rule of [ext_races Clashes].
use Rattle.ext_one_report.specs.Shares.{SharedValues}
use Rattle.std.proofs.Common.{◌⊎◌, inl, inr, refl}
use Rattle.std.specs.Prelude.{ℕ, ◌≡◌, Bool, true, false, if◌then◌else◌, ◌||◌, ◌&&◌, ◌==◌, List, ◌∷◌, ◌++◌, All, Contains, Option, Some, None, drop, nat_eq}
use Rattle.ext_history.specs.Histories.{seen_by}
use Rattle.ext_model.specs.declared.event.Act.{Act}
use Rattle.ext_model.specs.declared.event.Act.TheVariants.{Keep, Put, Remove, Claim, Fill, Fail, Abandon, Seal}
use Rattle.ext_model.specs.declared.event.Event.{Event}
use Rattle.ext_model.specs.declared.slot.Slot.{Slot}
use Rattle.ext_model.specs.declared.slot.Slot.TheVariants as slot
use Rattle.ext_model.specs.CallActs.{LaneView}
use Rattle.ext_model.specs.Events.{is_on}
use Rattle.ext_model.specs.History.{History, slots_in}
use Rattle.ext_tree.specs.Keys.{KeyValue}
use Rattle.ext_tree.specs.Traits.{key_eq}
use Rattle.ext_tree.specs.Trees.{IsPathOf}
use Rattle.ext_plan.specs.Plans.{KeyText, StepText, keyed, fail, abort}
use Rattle.ext_plan.specs.StepCalls.{start_of}
use Rattle.ext_plan.specs.declared.word.Word.{Word}
use Rattle.ext_plan.specs.declared.word.Word.TheVariants as words
use Rattle.ext_plan.specs.StepWords.{computes, gives_value, leaves_closeable}
use Rattle.ext_plan.specs.StoreKeys.{key_of_step}
use Rattle.ext_plan.specs.Values.{ValueText}
use Rattle.ext_plan_plain.specs.ValueStates.{ValueState}
use Rattle.ext_one_report.proofs.MatchingWords.{HasNumberIn, IsNumbered, Places, RunView, TextMeaning, cell_of, plain_meaning, plain_slot}

-- ---- what is computed at a place

-- What nodes beside one another all compute at a place: a value, or a fault that is kept there; or each of them runs a factory that fails, and nothing is kept
pub data Given : Type 0 where
  of_value : ValueText → Given
  of_fault : List ℕ → Given
  of_nothing : List ℕ → Given

-- something stands at the place in the end
abbrev pub is_left : Given → Bool
is_left (of_value v) = true
is_left (of_fault text) = true
is_left (of_nothing text) = false

-- what a factory gives, by the word and the text of its step, in a store that keeps faults or does not
abbrev pub given_by : Bool → Word → List ℕ → Given
given_by keep word text =
    if gives_value word then of_value (record { text = text; closeable = leaves_closeable word })
    else if keep then of_fault text else of_nothing text

-- a fault is left only in a store that keeps faults, and nothing only in one that keeps none
abbrev pub IsKeptBy : Bool → Given → Type 0
IsKeptBy keep (of_value v) = Unit {0}
IsKeptBy keep (of_fault text) = keep ≡ true
IsKeptBy keep (of_nothing text) = keep ≡ false

-- some places, and what is computed at each of them
abbrev pub Open : Type 0
Open = ℕ → KeyValue → Option Given

-- those at which a value is
abbrev pub values_of : Open → SharedValues
values_of open_at context key = value_of_given (open_at context key)
  where
    value_of_given : Option Given → Option ValueText
    value_of_given None = None
    value_of_given (Some (of_value v)) = Some v
    value_of_given (Some (of_fault text)) = None
    value_of_given (Some (of_nothing text)) = None

-- ---- open places

pub some_or_none : {A : Type 0} (o : Option A) → (o ≡ None) ⊎ ((x : A) × (o ≡ Some x))
some_or_none None = inl refl
some_or_none (Some x) = inr (x, refl)

abbrev pub is_open : Open → Places
is_open open_at context key = is_value (open_at context key)
  where
    is_value : Option Given → Bool
    is_value None = false
    is_value (Some v) = true

-- what the number of an entry, or of a kept fault, has to stand for
abbrev pub IsEntry : TextMeaning → Given → ℕ → Type 0
IsEntry meaning (of_value v) number = meaning.values number ≡ Some v
IsEntry meaning (of_fault text) number = ⊥
IsEntry meaning (of_nothing text) number = ⊥

abbrev pub IsFault : TextMeaning → Given → ℕ → Type 0
IsFault meaning (of_value v) number = ⊥
IsFault meaning (of_fault text) number = meaning.faults number ≡ Some text
IsFault meaning (of_nothing text) number = ⊥

-- of a lane's cell: nothing stands there yet, or a lane is running the factory, or what it gave stands there
abbrev pub MayStand : TextMeaning → Given → Option Slot → Type 0
MayStand meaning v None = Unit {0}
MayStand meaning v (Some (slot.Entry number)) = IsEntry meaning v number
MayStand meaning v (Some (slot.Fault number)) = IsFault meaning v number
MayStand meaning v (Some (slot.Claim lane)) = Unit {0}
MayStand meaning v (Some (slot.Sealed kept)) = ⊥

-- in the plain run nobody is running it between two steps
abbrev pub StandsOrNot : TextMeaning → Given → Option Slot → Type 0
StandsOrNot meaning v None = Unit {0}
StandsOrNot meaning v (Some (slot.Entry number)) = IsEntry meaning v number
StandsOrNot meaning v (Some (slot.Fault number)) = IsFault meaning v number
StandsOrNot meaning v (Some (slot.Claim lane)) = ⊥
StandsOrNot meaning v (Some (slot.Sealed kept)) = ⊥

-- as what it stands there under a number
abbrev pub left_slot : Given → ℕ → Slot
left_slot (of_value v) number = slot.Entry number
left_slot (of_fault text) number = slot.Fault number
left_slot (of_nothing text) number = slot.Fault number

abbrev pub Means : TextMeaning → Given → ℕ → Type 0
Means meaning (of_value v) number = meaning.values number ≡ Some v
Means meaning (of_fault text) number = meaning.faults number ≡ Some text
Means meaning (of_nothing text) number = ⊥

-- the value stands there, or the fault
pub record Stands (meaning : TextMeaning) (v : Given) (x : Option Slot) : Type 0 where
  pub number : ℕ
  pub there : x ≡ Some (left_slot v number)
  pub means : Means meaning v number

-- ---- places that are compared, and open ones

-- No open place is among those where the same is to stand, and these have the places of its key in all contexts above it; and the store keeps what is to be left there
pub record AreOpenBeside (run : RunView) (places : Places) (open_at : Open) : Type 0 where
  pub apart : (context : ℕ) (key : KeyValue) (v : Given) → open_at context key ≡ Some v → places context key ≡ false
  pub above : (context : ℕ) (key : KeyValue) (v : Given) (path : List ℕ) → open_at context key ≡ Some v → IsPathOf run.store.tree context (context ∷ path) → All (λ c. places c key ≡ true) path
  pub kept : (context : ℕ) (key : KeyValue) (v : Given) → open_at context key ≡ Some v → IsKeptBy run.store.id.cells.limits.keep_faults v

-- At each open place the value may stand, in each run on its own; in the plain run nothing stands above it, and nothing under a number that no key has
pub record AreNear (run : RunView) (open_at : Open) (h : History) (s : ValueState) : Type 0 where
  pub lanes : (context : ℕ) (key : KeyValue) (number : ℕ) (v : Given) → open_at context key ≡ Some v → HasNumberIn run key number
      → MayStand run.meaning v (slots_in (cell_of run number) h context)
  pub plain : (context : ℕ) (key : KeyValue) (v : Given) → open_at context key ≡ Some v → StandsOrNot (plain_meaning s.values) v (plain_slot s context key)
  pub above : (context : ℕ) (key : KeyValue) (v : Given) (path : List ℕ) → open_at context key ≡ Some v → IsPathOf run.store.tree context (context ∷ path) → All (λ c. plain_slot s c key ≡ None) path
  pub numbered : IsNumbered (is_open open_at) s

-- ---- what is done there

-- A lane computes this: it claims the cell, fills it with the value, keeps the fault there, or gives the claim up, as it does before it waits for another
abbrev pub Computes : RunView → Given → Act ℕ → Type 0
Computes run v (Keep number) = ⊥
Computes run v (Put cell number) = ⊥
Computes run v (Remove cell) = ⊥
Computes run v (Claim cell) = Unit {0}
Computes run v (Fill cell number) = IsEntry run.meaning v number
Computes run v (Fail cell number) = IsFault run.meaning v number
Computes run v (Abandon cell) = Unit {0}
Computes run v (Seal cell) = ⊥

-- all events at open places that a lane has come to see between two moments, its own among them, compute the value of the place
pub record OnlyComputed (run : RunView) (open_at : Open) (before after : LaneView) : Type 0 where
  pub each : (more : History) → seen_by after ≡ seen_by before ++ more
      → (context : ℕ) (key : KeyValue) (number : ℕ) (v : Given) → open_at context key ≡ Some v → HasNumberIn run key number
      → (e : Event ℕ) → Contains more e → is_on nat_eq (cell_of run number context) e.act ≡ true → Computes run v e.act

-- ---- places that are open no more

-- where a node's steps have computed or found the value
abbrev pub at_place : ℕ → KeyValue → Places
at_place context key c k = (c == context) && key_eq k key

abbrev pub also : Places → Places → Places
also settled places context key = places context key || settled context key

abbrev pub still_open : Places → Open → Open
still_open settled open_at context key = if settled context key then None else open_at context key

-- ---- steps at open places

-- the step computes what is left at an open place: the value, or the fault that is kept there
abbrev pub ComputesOpen : List KeyText → List ℕ → Open → StepText → Type 0
ComputesOpen keys path open_at (keyed word key text up) =
    (computes word ≡ true) × (open_at (start_of (drop up path)) (key_of_step keys key) ≡ Some (given_by true word text))
ComputesOpen keys path open_at (fail text) = ⊥
ComputesOpen keys path open_at (abort text) = ⊥

-- the step runs a factory that fails at an open place where nothing is kept
abbrev pub FailsOpen : List KeyText → List ℕ → Open → StepText → Type 0
FailsOpen keys path open_at (keyed word key text up) =
    (word ≡ words.ComputeFail) × (open_at (start_of (drop up path)) (key_of_step keys key) ≡ Some (of_nothing text))
FailsOpen keys path open_at (fail text) = ⊥
FailsOpen keys path open_at (abort text) = ⊥

-- the place that it acts on
abbrev pub place_of_step : List KeyText → List ℕ → StepText → Places
place_of_step keys path (keyed word key text up) = at_place (start_of (drop up path)) (key_of_step keys key)
place_of_step keys path (fail text) = λ context key. false
place_of_step keys path (abort text) = λ context key. false
