use Rattle.ext_history.proofs.Composed.{calls_none}
use Rattle.ext_model.specs.History.{lane_of}
use Rattle.ext_store.proofs.Frames.{no_frame, frame_keeps, frames_compose, frame_calls, fronts_are_seen, met_lanes}
use Rattle.ext_store.proofs.laws.frame_laws.Goals as goal

pub returns : goal.returns
returns g c = record {
  none = λ id lane mine. no_frame id lane mine;
  compose = λ id first second a b d one two. frames_compose id first second a b d one two;
  kept = λ id a b frame. frame_keeps id a b frame;
  no_call = λ limits lane. calls_none lane_of lane;
  calls = λ id stored a b frame. frame_calls id stored a b frame;
  fronts = fronts_are_seen;
  met = met_lanes;
}
