-- Which touches share a value, to say what is proved of a plan without races.
use Rattle.std.specs.Prelude.{◌==◌, Bool, false, ◌&&◌, List, Option}
use Rattle.std.specs.List.{list_any}
use Rattle.ext_plan.specs.Plans.{PlanText}
use Rattle.ext_plan.specs.StepWords.{gives_value}
use Rattle.ext_races.specs.declared.passing.Passed.{Passed}
use Rattle.ext_races.specs.declared.touch.Touch.{Touch}
use Rattle.ext_races.specs.Beside.{nodes_beside}
use Rattle.ext_races.specs.Clashes.{agree}
use Rattle.ext_races.specs.InnerPassing.{may_meet}
use Rattle.ext_races.specs.Touches.{TouchText, touch_view}

-- The touch computes a value of its place.
abbrev pub computes_value : TouchText → Bool
computes_value t = t.changes && gives_value t.word

-- Both compute the same value of one place.
abbrev pub shares_value : TouchText → TouchText → Bool
shares_value t u = computes_value t && u.changes && (t.context == u.context) && (t.key == u.key) && agree t u

module _ (plan : PlanText) where
  -- So do two nodes that may run beside one another.
  abbrev pub share_beside : TouchText → TouchText → Bool
  share_beside t u = shares_value t u && nodes_beside plan t.node u.node

  -- So does a touch of this group, which may meet others by what is noted.
  abbrev pub has_share : List (Option Passed) → List Touch → TouchText → Bool
  has_share passed group t = computes_value t && may_meet plan passed false t.node
      && list_any (λ u. share_beside t (touch_view u)) group

  -- So do two touches of the group.
  abbrev pub group_shares : List TouchText → Bool
  group_shares group = list_any (λ t. list_any (λ u. share_beside t u) group) group

  -- So do two of one group.
  abbrev pub groups_share : List (List TouchText) → Bool
  groups_share groups = list_any group_shares groups
