-- What the callbacks before all children of the nodes above a node have put or computed: none of these places is open for the node, and in the plain run something stands there or above.
-- JUnit 5 User Guide, "Relative Execution Order of User Code and Extensions"; Javadoc `ExtensionContext.Store`, `getOrComputeIfAbsent`.
use Rattle.ext_one_report.proofs.Open.{Open}
use Rattle.std.proofs.Common.{refl}
use Rattle.std.specs.Prelude.{ℕ, ◌≡◌, Bool, true, false, not, ◌&&◌, List, [], ◌∷◌, All, Contains, Option, None, Some, drop, is_some}
use Rattle.std.proofs.lemmas.Bool.{and_parts}
use Rattle.std.proofs.lemmas.List.Elements.{All-cons, All-nil}
use Rattle.ext_model.specs.declared.slot.Slot.{Slot}
use Rattle.ext_tree.specs.Keys.{KeyValue}
use Rattle.ext_plan.specs.Plans.{PlanText, StepText}
use Rattle.ext_plan.specs.StepCalls.{start_of}
use Rattle.ext_plan.specs.StoreKeys.{key_of_step}
use Rattle.ext_races.specs.Acts.{ActText, act_of, stores}
use Rattle.ext_races.specs.MadeSteps.{plan_path, steps_before}
use Rattle.ext_races.specs.Touches.{is_removed}
use Rattle.ext_plan_plain.specs.ValueStates.{ValueState}
use Rattle.ext_one_report.proofs.MatchingWords.{plain_slot}

-- in the plain run nothing stands under the key in these contexts
abbrev pub all_clear : ValueState → List ℕ → KeyValue → Bool
all_clear s [] key = true
all_clear s (context ∷ path) key = not (is_some (plain_slot s context key)) && all_clear s path key

clear_none : (x : Option Slot) → not (is_some x) ≡ true → x ≡ None
clear_none None is = refl
clear_none (Some x) is = absurd (cc is)

pub clear_is : (s : ValueState) (path : List ℕ) (key : KeyValue) → all_clear s path key ≡ true → All (λ c. plain_slot s c key ≡ None) path
clear_is s [] key is = All-nil (λ c. plain_slot s c key ≡ None)
clear_is s (context ∷ path) key is =
    let parts = and_parts (not (is_some (plain_slot s context key))) (all_clear s path key) is in
    All-cons (λ c. plain_slot s c key ≡ None) context path (clear_none (plain_slot s context key) parts.0) (clear_is s path key parts.1)

-- on this path the step puts or computes a value of the key in the context
pub record StoresAt (plan : PlanText) (path : List ℕ) (step : StepText) (context : ℕ) (key : KeyValue) : Type 0 where
  pub act : ActText
  pub is : act_of step ≡ Some act
  pub put : Bool
  pub stored : stores put act.word ≡ true
  pub at : start_of (drop act.up path) ≡ context
  pub named : key_of_step plan.keys act.key ≡ key

-- a callback before all children of one of these nodes does so, and nothing there or below removes the key in the contexts of its path
pub record IsStoredIn (plan : PlanText) (nodes : List ℕ) (context : ℕ) (key : KeyValue) : Type 0 where
  pub node : ℕ
  pub among : Contains nodes node
  pub step : StepText
  pub held : Contains (steps_before plan node) step
  pub computes : StoresAt plan (plan_path plan node) step context key
  pub kept : is_removed plan node key ≡ false

-- none of these places is open
abbrev pub NoneOpenAbove : PlanText → List ℕ → Open → Type 0
NoneOpenAbove plan nodes open_at = (context : ℕ) (key : KeyValue) → IsStoredIn plan nodes context key → open_at context key ≡ None

-- and something stands at each of them or above it
pub record IsClosedAbove (plan : PlanText) (nodes : List ℕ) (open_at : Open) (s : ValueState) : Type 0 where
  pub none : NoneOpenAbove plan nodes open_at
  pub stands : (context : ℕ) (key : KeyValue) → IsStoredIn plan nodes context key → all_clear s (plan_path plan context) key ≡ false
