-- Plans whose nodes compute the same value beside one another, which places they share, and what is reported of them
-- (Javadoc `ExtensionContext.Store`, `getOrComputeIfAbsent`).
use Rattle.std.specs.Prelude.{ℕ, ◌≡◌, Bool, ◌&&◌, ◌==◌, Option, None, Some, find, ◌+◌, if◌then◌else◌}
use Rattle.ext_tree.specs.Keys.{KeyValue}
use Rattle.ext_plan.specs.Plans.{PlanText}
use Rattle.ext_plan.specs.StoreKeys.{number_of_key}
use Rattle.ext_plan.specs.Values.{ValueText}
use Rattle.std.specs.List.{list_any}
use Rattle.ext_races.specs.Beside.{nodes_beside}
use Rattle.ext_races.specs.Touches.{TouchText, keys_named, touches_made}
use Rattle.ext_one_report.specs.Within.{is_within}
use Rattle.ext_plan.specs.declared.word.Word.TheVariants as words
use Rattle.ext_plan.specs.StepWords.{gives_value, word_eq}
use Rattle.ext_lifecycle.specs.FaultTexts.{NodeOutcome}

-- Some places, and the value that is computed at each of them.
abbrev pub SharedValues : Type 0
SharedValues = ℕ → KeyValue → Option ValueText

-- The touch is of this place, by this node or one below it.
abbrev pub is_at : PlanText → ℕ → ℕ → KeyValue → TouchText → Bool
is_at plan node context key touch = is_within plan node touch.node && (touch.context == context)
    && (touch.key == number_of_key (keys_named plan) key)

-- The same, and the touch may change the place.
abbrev pub may_change_at : PlanText → ℕ → ℕ → KeyValue → TouchText → Bool
may_change_at plan node context key touch = touch.changes && is_at plan node context key touch

-- The touch is of this place, by a node that may run beside this one.
abbrev pub is_beside_at : PlanText → ℕ → ℕ → KeyValue → TouchText → Bool
is_beside_at plan node context key touch = nodes_beside plan node touch.node && (touch.context == context)
    && (touch.key == number_of_key (keys_named plan) key)

-- The touch may change this place, by this node or one below it, and so may one of a node beside it.
abbrev pub is_shared_at : PlanText → ℕ → ℕ → KeyValue → TouchText → Bool
is_shared_at plan node context key touch = may_change_at plan node context key touch
    && list_any (λ u. u.changes && is_beside_at plan node context key u) (touches_made plan)

-- The value that a compute gives.
abbrev pub value_given : TouchText → ValueText
value_given touch = record { text = touch.text; closeable = word_eq touch.acts words.ComputeCloseable }

-- The value of the touch, if its factory does not fail.
abbrev pub value_if : Option TouchText → Option ValueText
value_if None = None
value_if (Some touch) = if gives_value touch.acts then Some (value_given touch) else None

-- The places that a node or the nodes below it may change, and a node beside it too, each with the value that is given
-- there first. In a plan whose nodes share values, all of them compute this value there; or all of them fail there with
-- one text, and then there is none.
unfoldable pub shares_in : PlanText → ℕ → SharedValues
shares_in plan node context key = value_if (find (is_shared_at plan node context key) (touches_made plan))

-- No value is shared.
abbrev pub SharesNothing : SharedValues → Type 0
SharesNothing shared = (context : ℕ) (key : KeyValue) → shared context key ≡ None

-- The results of a node are the same, except for which of its shared values it computed and which it found. Both counts
-- together are equal, and if it shares nothing the results are exactly the same.
pub record AreNearResults (shared : SharedValues) (here there : NodeOutcome) : Type 0 where
  pub same : record here { computed = 0; found = 0 } ≡ record there { computed = 0; found = 0 }
  pub counts : here.computed + here.found ≡ there.computed + there.found
  pub exact : SharesNothing shared → here ≡ there
