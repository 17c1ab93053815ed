-- Touches in groups: one for each place, and one for each context's values whose closes may fail.
use Rattle.std.specs.Prelude.{ℕ, ◌≡◌, ◌+◌, ◌*◌, ◌<◌, true, List, [], length, map, slice_index_or, Contains, ◌⊎◌}
use Rattle.std.specs.declared.alloc.Global.{Global}
use Rattle.std.specs.Prelude.{Vec}
use Rattle.ext_races.specs.declared.touch.Touch.{Touch}
use Rattle.ext_races.specs.Touches.{TouchText, touch_view}
use Rattle.ext_races.specs.Clashes.{may_fail}

abbrev pub group_view : Vec Touch Global → List TouchText
group_view v = map touch_view v.items

abbrev pub groups_view : List (Vec Touch Global) → List (List TouchText)
groups_view groups = map group_view groups

abbrev pub group_at : List (List TouchText) → ℕ → List TouchText
group_at groups number = slice_index_or groups number []

-- A context has a group for each of this many keys, and the last for closes.
abbrev pub place_group : ℕ → TouchText → ℕ
place_group keys t = t.context * (keys + 1) + t.key

abbrev pub close_group_of : ℕ → ℕ → ℕ
close_group_of keys context = context * (keys + 1) + keys

abbrev pub close_group : ℕ → TouchText → ℕ
close_group keys t = close_group_of keys t.context

-- This touch is added to the group with this number.
pub record IsPushed (before : List (List TouchText)) (number : ℕ) (touch : TouchText) (after : List (List TouchText))
    : Type 0 where
  pub count : length after ≡ length before
  pub here : Contains (group_at after number) touch
  pub kept : (k : ℕ) (t : TouchText) → Contains (group_at before k) t → Contains (group_at after k) t
  pub only : (k : ℕ) (t : TouchText) → Contains (group_at after k) t → Contains (group_at before k) t ⊎ (t ≡ touch)

-- Each of these touches is added to the groups to which it belongs, and nothing else is added.
pub record IsAdded (keys : ℕ) (touches : List TouchText) (before after : List (List TouchText)) : Type 0 where
  pub count : length after ≡ length before
  pub kept : (k : ℕ) (t : TouchText) → Contains (group_at before k) t → Contains (group_at after k) t
  pub only : (k : ℕ) (t : TouchText) → Contains (group_at after k) t → Contains (group_at before k) t
      ⊎ Contains touches t
  pub places : (t : TouchText) → Contains touches t → Contains (group_at after (place_group keys t)) t
  pub closes : (t : TouchText) → Contains touches t → may_fail t ≡ true
      → Contains (group_at after (close_group keys t)) t

-- The groups have these touches and nothing else.
pub record IsGrouped (keys : ℕ) (touches : List TouchText) (groups : List (List TouchText)) : Type 0 where
  pub only : (k : ℕ) (t : TouchText) → Contains (group_at groups k) t → Contains touches t
  pub places : (t : TouchText) → Contains touches t → Contains (group_at groups (place_group keys t)) t
  pub closes : (t : TouchText) → Contains touches t → may_fail t ≡ true
      → Contains (group_at groups (close_group keys t)) t

-- No group has a touch.
abbrev pub AreEmpty : List (List TouchText) → Type 0
AreEmpty groups = (k : ℕ) (t : TouchText) → Contains (group_at groups k) t → ⊥

-- The groups of the context are among the first `count`.
abbrev pub HasGroups : ℕ → ℕ → ℕ → Type 0
HasGroups keys count context = close_group_of keys context < count
