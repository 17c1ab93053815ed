-- What calls do to a lane in all: none, one, and some after others.
use Rattle.std.proofs.Common.{◌≢◌, ℕ, [], ◌∷◌}
use Rattle.ext_store.specs.Stores.{StoreView, IsKeptBy, IsLaneOf}
use Rattle.ext_store.specs.LaneCalls.{Frame}
use Rattle.ext_store.proofs.Frames.{no_frame, frame_spares, frames_compose}
use Rattle.ext_plan_parallel.specs.StoreCalls.{PlanLane, HasFrame}

pub no_call_framed : (store : StoreView) (lane : PlanLane) → IsLaneOf store.id lane → HasFrame store lane lane
no_call_framed store lane is = no_frame store.id lane is

pub then_framed : (store : StoreView) (a b c : PlanLane) → HasFrame store a b → HasFrame store b c → HasFrame store a c
then_framed store a b c first second = frames_compose store.id [] [] a b c first second

-- a number that was drawn meanwhile and then stored is none of those that the lane kept before
pub put_framed : (store : StoreView) (number : ℕ) (a b c : PlanLane) → HasFrame store a b → ((kept : ℕ) → IsKeptBy a kept → kept ≢ number) → Frame store.id (number ∷ []) b c → HasFrame store a c
put_framed store number a b c first apart second = frame_spares store.id number a c (frames_compose store.id [] (number ∷ []) a b c first second) apart
