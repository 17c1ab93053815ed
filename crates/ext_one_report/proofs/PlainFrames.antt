-- What a part of a plain run leaves as it was: all places that no step of it may change and whose context it does not close.
-- Javadoc `ExtensionContext.Store`; what a plain run is stands in [ext_plan_plain PlainRun].
use Rattle.std.specs.Prelude.{ℕ, ◌≡◌, ◌≤◌, ◌==◌, Bool, false, [], Some, None, length}
use Rattle.ext_tree.specs.Keys.{KeyValue}
use Rattle.ext_plan.specs.Values.{ValueText}
use Rattle.ext_plan_plain.specs.ValueStates.{ValueState, value_of}
use Rattle.ext_one_report.proofs.MatchingWords.{Places, plain_slot}

-- nothing stands in the context under a number that no key has
abbrev pub IsOpen : ℕ → ValueState → Type 0
IsOpen context s = (number : ℕ) → length s.keys ≤ number → s.store.slots (context, number) ≡ None

-- From one state to a later one, where these places may have been changed and these contexts closed
pub record LeavesElse (changes : Places) (closes : ℕ → Bool) (s t : ValueState) : Type 0 where
  -- At all other places stands what stood there, in the contexts that are open before and are not closed. In a context that was closed before seals stand under numbers
  -- that no key has, so that a key that gets such a number meanwhile finds one there
  pub slots : (context : ℕ) (key : KeyValue) → changes context key ≡ false → closes context ≡ false → IsOpen context s → plain_slot t context key ≡ plain_slot s context key
  -- values keep their numbers, and no number is given back
  pub values : (number : ℕ) (value : ValueText) → value_of s.values number ≡ Some value → value_of t.values number ≡ Some value
  pub drawn : s.store.drawn ≤ t.store.drawn
  -- nothing stands under numbers without a key in any other context where nothing did
  pub stays_open : (context : ℕ) → closes context ≡ false → IsOpen context s → IsOpen context t
  -- faults are kept or not as before, and all memory is found
  pub keeps : t.keep_faults ≡ s.keep_faults
  pub memory : s.memory ≡ [] → t.memory ≡ []

-- no context
abbrev pub no_context : ℕ → Bool
no_context context = false

-- all places of a context
abbrev pub all_of : ℕ → Places
all_of node context key = context == node
