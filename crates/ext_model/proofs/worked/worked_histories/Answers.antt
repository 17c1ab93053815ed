use Rattle.std.proofs.Common.{refl}
use Rattle.ext_model.proofs.WorkedRows.{answered_now, not_from_memory, either_point, overtaken_by_one, not_overtaken_by_two, not_overtaken_by_lagging, not_crowded_by_itself, six_are_legal, remove_answered, put_answered, no_answer_without_step, second_look_finds, root_is_legal, not_by_another_lane, not_with_anothers_number, not_twice, kept_fault_is_legal, not_without_keeping, not_without_claim}
use Rattle.ext_model.proofs.worked.worked_histories.Goals as goal

pub returns : goal.returns
returns c = record {
  found_from_below = refl;
  removed_nothing = refl;
  replaced = refl;
  replaced_word = refl;
  removed_word = refl;
  held_hides = refl;
  held_is_busy = refl;
  held_is_not_filled_by_others = refl;
  held_is_not_sealed = refl;
  filled_stands = refl;
  abandoned_is_empty = refl;
  own_events = refl;
  failed_is_met = refl;
  failed_stands = refl;
  failed_is_replaced = refl;
  failed_is_removed = refl;
  failed_is_passed = refl;
  remaining_passes_fault = refl;
  remaining_falls = refl;
  sealed_is_closed = refl;
  sealed_again = refl;
  closed_hides = refl;
  numbers_run_out = refl;
  present_word = refl;
  failed_word = refl;
  sealed_word = refl;
  empty_word = refl;
  last_put = refl;
  no_claim_at_last_put = refl;
  no_put_after_last = refl;
  call_has_one_front = refl;
  answered_now = answered_now;
  not_from_memory = not_from_memory;
  remove_answered = remove_answered;
  put_answered = put_answered;
  no_answer_without_step = no_answer_without_step;
  second_look_finds = second_look_finds;
  two_fronts = refl;
  either_point = either_point;
  overtaken_by_one = overtaken_by_one;
  not_overtaken_by_two = not_overtaken_by_two;
  not_overtaken_by_lagging = not_overtaken_by_lagging;
  not_crowded_by_itself = not_crowded_by_itself;
  six_are_legal = six_are_legal;
  root_is_legal = root_is_legal;
  not_by_another_lane = not_by_another_lane;
  not_with_anothers_number = not_with_anothers_number;
  not_twice = not_twice;
  kept_fault_is_legal = kept_fault_is_legal;
  not_without_keeping = not_without_keeping;
  not_without_claim = not_without_claim;
}
