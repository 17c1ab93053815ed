-- What stands in the store of a plain run: each number in one place at most, and each value whose close fails where a step of the plan puts or computes such a one.
-- Javadoc `ExtensionContext.Store.CloseableResource`; which closes fail is an own rule of [ext_plan Values].
use Rattle.std.specs.Prelude.{ℕ, ◌≡◌, ◌≤◌, ◌<◌, ◌⊎◌, Bool, true, codes, List, [], Contains, Option, None, Some}
use mathlib.Core.List.{IsPrefix}
use Rattle.ext_model.specs.declared.slot.Slot.{Slot}
use Rattle.ext_model.specs.declared.slot.Slot.TheVariants as slot
use Rattle.ext_model.specs.Plain.{Place}
use Rattle.ext_tree.specs.Keys.{KeyValue}
use Rattle.ext_plan.specs.Plans.{PlanText}
use Rattle.ext_plan.specs.Values.{ValueText, begins_with}
use Rattle.ext_races.specs.Beside.{IsBeside}
use Rattle.ext_races.specs.Clashes.{may_fail}
use Rattle.ext_races.specs.Touches.{TouchText, touches_made}
use Rattle.ext_plan_plain.specs.ValueStates.{ValueState, value_of, value_opening}
use Rattle.ext_plan_plain.specs.PlainRunLaws.{HasValues}
use Rattle.ext_one_report.specs.Within.{is_within}
use Rattle.ext_one_report.proofs.StoredWords.{number_in}

-- ---- states

-- the number of the value that stands in a slot, or that a seal keeps there
abbrev pub value_in : Option Slot → Option ℕ
value_in None = None
value_in (Some (slot.Entry number)) = Some number
value_in (Some (slot.Fault number)) = None
value_in (Some (slot.Claim lane)) = None
value_in (Some (slot.Sealed kept)) = kept

-- a step of the plan may leave a value of this text in the context whose close fails
pub record MayBeLeft (plan : PlanText) (context : ℕ) (text : List ℕ) : Type 0 where
  pub touch : TouchText
  pub made : Contains (touches_made plan) touch
  pub fails : may_fail touch ≡ true
  pub context_is : touch.context ≡ context
  pub text_is : touch.text ≡ text

-- Where steps may leave values whose closes fail, by place, number and text; and how many numbers had been drawn before the first of them
pub record Leaving : Type 1 where
  pub since : ℕ
  -- the keys that had numbers then
  pub keys : List KeyValue
  pub may : Place → ℕ → List ℕ → Type 0

pub record IsLeftBy (leaving : Leaving) (s : ValueState) : Type 0 where
  -- a number stands in one place at most, and has been drawn
  pub once : (place other : Place) (number : ℕ) → number_in (s.store.slots place) ≡ Some number → number_in (s.store.slots other) ≡ Some number → place ≡ other
  pub drawn : (place : Place) (number : ℕ) → number_in (s.store.slots place) ≡ Some number → (0 < number) × (number ≤ s.store.drawn)
  -- each number that was drawn is that of a value
  pub values : HasValues s
  pub since : leaving.since ≤ s.store.drawn
  pub keys : IsPrefix leaving.keys s.keys
  -- each closeable value whose close fails was left by a step, where it stands or a seal keeps it
  pub from : (context key number : ℕ) (value : ValueText) → value_in (s.store.slots (context, key)) ≡ Some number → value_of s.values number ≡ Some value → value.closeable ≡ true
      → begins_with (codes "bad") value.text ≡ true → leaving.may (context, key) number value.text

-- what all steps of a plan may leave
abbrev pub plan_leaves : PlanText → Leaving
plan_leaves plan = record { since = 0; keys = []; may = λ place number text. MayBeLeft plan place.0 text }

abbrev pub IsOfPlan : PlanText → ValueState → Type 0
IsOfPlan plan s = IsLeftBy (plan_leaves plan) s

-- a step of this node may leave it
pub record IsLeftOf (plan : PlanText) (node context : ℕ) (text : List ℕ) : Type 0 where
  pub left : MayBeLeft plan context text
  pub node_is : left.touch.node ≡ node

-- what steps of this node leave is allowed, under new numbers
abbrev pub Allows : PlanText → Leaving → ℕ → Type 0
Allows plan leaving node = (context key number : ℕ) (text : List ℕ) → leaving.since < number → IsLeftOf plan node context text → leaving.may (context, key) number text

-- From one state to a later one: what stood stands with its number, or a step of this node or of one below it left it under a new number
pub record IsLeftWithin (plan : PlanText) (root context : ℕ) (text : List ℕ) : Type 0 where
  pub left : MayBeLeft plan context text
  pub within : is_within plan root left.touch.node ≡ true

-- a step may leave it, of a node that may run beside this one and beside all below it
pub record IsLeftBeside (plan : PlanText) (node context : ℕ) (text : List ℕ) : Type 0 where
  pub left : MayBeLeft plan context text
  pub beside : (below : ℕ) → is_within plan node below ≡ true → IsBeside plan below left.touch.node

abbrev pub leaves_since : PlanText → ℕ → ValueState → Leaving
leaves_since plan root r = record {
  since = r.store.drawn;
  keys = r.keys;
  may = λ place number text. ((number ≤ r.store.drawn) × (value_in (r.store.slots place) ≡ Some number)) ⊎ ((r.store.drawn < number) × IsLeftWithin plan root place.0 text);
}

-- ---- laws

-- so it is before the first node,
abbrev pub OpensOfPlan : Type 0
OpensOfPlan = (plan : PlanText) (keeps : Bool) (places numbers : ℕ) → IsOfPlan plan (value_opening keeps places numbers)
