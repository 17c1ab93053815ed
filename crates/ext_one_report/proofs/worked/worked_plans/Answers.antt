use Rattle.ext_one_report.proofs.WorkedSharing.{class_shares_none, computes_share_values, first_shares, looks_after_do_not, looks_behind_share_values, looks_below_share_values, removed_do_not, removed_elsewhere_share_values, second_shares}
use Rattle.ext_one_report.proofs.WorkedPlans.{own_puts_keep_apart, looks_keep_apart, looks_below_keep_apart, two_keys_keep_apart, one_by_one_keeps_apart, puts_above_do_not, look_and_put_do_not, computes_are_no_race, computes_do_not, fails_alike_keep_apart, fails_unlike_do_not, found_keeps_apart, two_faults_agree, replaced_agrees, two_texts_do_not, one_text_agrees, one_by_one_agrees, worked_keeps_apart, worked_agrees, worked_has_keys, worked_has_numbers, worked_is_read, tests_are_beside, tests_are_read}
use Rattle.ext_one_report.proofs.worked.worked_plans.Goals as goal

pub returns : goal.returns
returns c = record {
  own_puts_keep_apart = own_puts_keep_apart;
  looks_keep_apart = looks_keep_apart;
  looks_below_keep_apart = looks_below_keep_apart;
  two_keys_keep_apart = two_keys_keep_apart;
  one_by_one_keeps_apart = one_by_one_keeps_apart;
  puts_above_do_not = puts_above_do_not;
  look_and_put_do_not = look_and_put_do_not;
  computes_are_no_race = computes_are_no_race;
  computes_do_not = computes_do_not;
  found_keeps_apart = found_keeps_apart;
  fails_alike_keep_apart = fails_alike_keep_apart;
  fails_unlike_do_not = fails_unlike_do_not;
  two_faults_agree = two_faults_agree;
  replaced_agrees = replaced_agrees;
  two_texts_do_not = two_texts_do_not;
  one_text_agrees = one_text_agrees;
  one_by_one_agrees = one_by_one_agrees;
  worked_keeps_apart = worked_keeps_apart;
  worked_agrees = worked_agrees;
  worked_has_keys = worked_has_keys;
  worked_has_numbers = worked_has_numbers;
  worked_is_read = worked_is_read;
  tests_are_beside = tests_are_beside;
  tests_are_read = tests_are_read;
  computes_share = computes_share_values;
  looks_behind_share = looks_behind_share_values;
  looks_after_do_not = looks_after_do_not;
  looks_below_share = looks_below_share_values;
  removed_elsewhere_share = removed_elsewhere_share_values;
  removed_do_not = removed_do_not;
  first_shares = first_shares;
  second_shares = second_shares;
  class_shares_none = class_shares_none;
}
