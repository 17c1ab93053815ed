-- Laws of frames, and of the histories that lanes have seen, each proved by `frame_laws`. A lane in hand is one that
-- the caller has, so that its contracts can name what it has seen.
use Rattle.std.specs.Prelude.{ℕ, List, [], ◌++◌, map, All}
use mathlib.Core.List.{IsPrefix}
use Rattle.ext_model.specs.declared.event.Act.{Act}
use Rattle.ext_model.specs.History.{Limits}
use Rattle.ext_history.specs.Histories.{seen, seen_by, Follow}
use Rattle.ext_model.specs.CallActs.{LaneView, Calls}
use Rattle.ext_store.specs.Stores.{StoreId, StoreLane, IsLaneOf, StillKeeps}
use Rattle.ext_store.specs.LaneCalls.{Frame}

-- ---- frames

-- No call at all has a frame.
abbrev pub NoCallHasFrame : Type 0 → Type 0
NoCallHasFrame V = (id : StoreId) (lane : StoreLane V) → IsLaneOf id lane → Frame id [] lane lane

-- Two frames in a row are one frame, with the stored numbers of both.
abbrev pub FramesCompose : Type 0 → Type 0
FramesCompose V = (id : StoreId) (first second : List ℕ) (a b c : StoreLane V) → Frame id first a b
    → Frame id second b c → Frame id (first ++ second) a c

-- If no number was stored, all that was kept still is.
abbrev pub FramesKeep : Type 0 → Type 0
FramesKeep V = (id : StoreId) (a b : StoreLane V) → Frame id [] a b → StillKeeps a b

-- No call at all is a call without events.
abbrev pub NoCallIsCall : Type 0
NoCallIsCall = (limits : Limits) (lane : LaneView) → Calls limits lane lane []

-- A frame says which events the lane made, whether or not it was called.
abbrev pub FramesAreCalls : Type 0 → Type 0
FramesAreCalls V =
    (id : StoreId) (stored : List ℕ) (a b : StoreLane V)
    → Frame id stored a b → (acts : List (Act ℕ)) × Calls id.cells.limits a.cells.view b.cells.view acts

-- ---- one history

-- Each front of a lane in hand is a beginning of what the lane has seen.
abbrev pub FrontsAreSeen : Type 0
FrontsAreSeen = (lane : LaneView) → Follow [] lane.fronts → All (λ front. IsPrefix front (seen_by lane)) lane.fronts

-- If each of several lanes in hand met the next one, the last of them has seen one history that every front of every
-- lane begins.
abbrev pub MetLanesShareHistory : Type 0
MetLanesShareHistory =
    (lanes : List LaneView)
    → Follow [] (map seen_by lanes) → All (λ lane. Follow [] lane.fronts) lanes
    → All (λ lane. All (λ front. IsPrefix front (seen (map seen_by lanes))) lane.fronts) lanes
