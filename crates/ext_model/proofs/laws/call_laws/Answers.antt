use Rattle.std.proofs.Common.{refl}
use Rattle.ext_history.proofs.Composed.{fronts_compose, first_decides, first_is_earlier, seen_goes_on, point_legal, answer_point, earlier_point, steps_stay, point_of_first, answer_first, seen_is_point}
use Rattle.ext_history.proofs.Crowded.{crowded_overtaken, overtaken_crowded, crowded_by_second, crowded_by_first}
use Rattle.ext_history.proofs.Single.{step_calls, event_calls}
use Rattle.ext_model.specs.History.{by}
use Rattle.ext_model.proofs.Composed.{calls_compose, later_point, point_of_second}
use Rattle.ext_model.proofs.Held.{claim_held, held_word, held_fill, held_fail, held_abandon, goes_on_store}
use Rattle.ext_model.proofs.laws.call_laws.Goals as goal

pub returns : goal.returns
returns c = record {
  step = λ limits lane h on. step_calls on;
  event = λ limits lane act h on. event_calls on (by lane.number act) refl;
  compose = calls_compose;
  fronts = λ limits a b d xs ys one two. fronts_compose one two;
  first_step = λ limits a b d xs ys one two some. first_decides one two some;
  earlier_step = λ limits a b d xs ys one two. first_is_earlier one two;
  seen = λ limits a b acts one. seen_goes_on one;
  legal_points = λ limits a b p legal at. point_legal legal p at;
  answer_points = λ limits a b acts p one at. answer_point one p at;
  later_points = later_point;
  earlier_points = λ limits a b d p one two some at. earlier_point one two some p at;
  steps = λ limits a b d xs ys one two some. steps_stay one two some;
  points_of_second = λ limits a b d xs ys zs p one two at. point_of_second limits a b d xs zs one two ys p at;
  points_of_first = λ limits a b d xs ys zs p one two at. point_of_first one two at;
  answers_first = λ limits a b acts p one at. answer_first one p at;
  seen_point = λ limits a b acts one. seen_is_point one;
  overtaken = λ limits tries a b over. overtaken_crowded tries over;
  quiet_crowded = λ limits tries a b one over. crowded_overtaken tries one over;
  crowded_second = λ limits tries a b d xs ys one two over. crowded_by_second tries one two over;
  crowded_first = λ limits tries a b d xs ys one two over. crowded_by_first tries one two over;
  held_claims = claim_held;
  held_words = held_word;
  fills = held_fill;
  fails = held_fail;
  abandons = held_abandon;
  own_numbers = goes_on_store;
}
