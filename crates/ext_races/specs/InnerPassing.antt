-- What is noted of a group's touches before its pairs are compared. Nodes may run beside one another only if they stand
-- at or below different concurrent children of one container. So it is noted for each container whether touches pass it
-- by several of these children, and whether all of them are alike. Touches that are all alike to one do not clash.
use Rattle.std.specs.Prelude.{ℕ, ◌≡◌, ◌<◌, ◌⊎◌, Bool, true, false, not, ◌&&◌, ◌||◌, List, length, nat_lt, slice_index_or, Contains, Option, Some, None, if◌then◌else◌, ⊤}
use Rattle.std.specs.List.{filter, list_any}
use Rattle.ext_plan.specs.Plans.{PlanText}
use Rattle.ext_plan.specs.PlanCalls.{concurrent_of}
use Rattle.ext_plan.specs.StepWords.{computes}
use Rattle.ext_races.specs.declared.passing.Passed.{Passed}
use Rattle.ext_races.specs.Beside.{PassesBy, turns}
use Rattle.ext_races.specs.Clashes.{agree}
use Rattle.ext_races.specs.MadeSteps.{plan_path}
use Rattle.ext_races.specs.Touches.{TouchText, touch_view}

-- Each computes the same, or finds it; or the first does neither, and neither may change anything.
abbrev pub alike : TouchText → TouchText → Bool
alike t u = if computes t.acts then agree t u else not t.changes && not u.changes

-- Those that may change their place.
abbrev pub changing : List TouchText → List TouchText
changing touches = filter (λ t. t.changes) touches

-- ---- what is noted

-- A touch that passes by this child is among those noted.
pub record HasNoted (passed : Passed) (child : ℕ) (touch : TouchText) : Type 0 where
  pub by : (passed.several ≡ true) ⊎ (passed.child ≡ child)
  pub like : (passed.differ ≡ true) ⊎ (alike (touch_view passed.touch) touch ≡ true)

-- What was noted of one container before is noted after.
pub record KeepsOne (before after : Passed) : Type 0 where
  pub each : (child : ℕ) (touch : TouchText) → HasNoted before child touch → HasNoted after child touch

abbrev pub HasNotedIf : Option Passed → ℕ → TouchText → Type 0
HasNotedIf None child touch = ⊥
HasNotedIf (Some passed) child touch = HasNoted passed child touch

-- The same, if anything was noted.
abbrev pub KeepsIf : Option Passed → Passed → Type 0
KeepsIf None after = ⊤
KeepsIf (Some before) after = KeepsOne before after

abbrev pub passed_at : List (Option Passed) → ℕ → Option Passed
passed_at passed container = slice_index_or passed container None

-- Touches pass by several children, and, if that is asked for, are not all alike.
abbrev pub meets : Bool → Option Passed → Bool
meets differing None = false
meets differing (Some passed) = passed.several && (passed.differ || not differing)

-- What was noted before is noted after.
pub record Keeps (before after : List (Option Passed)) : Type 0 where
  pub each : (container child : ℕ) (touch : TouchText) → HasNotedIf (passed_at before container) child touch
      → HasNotedIf (passed_at after container) child touch

module _ (plan : PlanText) (passed : List (Option Passed)) where
  -- The touch is noted at each container that it passes by a concurrent child.
  pub record IsNoted (touch : TouchText) : Type 0 where
    pub each : (child container : ℕ) → PassesBy (plan_path plan touch.node) child container
        → concurrent_of plan child ≡ true → HasNotedIf (passed_at passed container) child touch

  -- So are these, if their nodes are the plan's.
  pub record AreNoted (touches : List TouchText) : Type 0 where
    pub each : (touch : TouchText) → Contains touches touch → touch.node < length plan.nodes → IsNoted touch

  -- ---- whether a node's touches may meet others

  abbrev pub path_meets : Bool → List ℕ → Bool
  path_meets differing path =
      list_any (λ turn. concurrent_of plan turn.0 && meets differing (passed_at passed turn.1)) (turns path)

  abbrev pub may_meet : Bool → ℕ → Bool
  may_meet differing node = nat_lt node (length plan.nodes) && path_meets differing (plan_path plan node)
