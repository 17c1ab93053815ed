use Rattle.ext_model.proofs.Remaining.{remaining_is_so, remaining_is_one, quiet_after_close, stays_closed, remaining_stays}
use Rattle.ext_model.proofs.Faults.{remaining_is_no_fault}
use Rattle.ext_model.proofs.Looks.{second_look}
use Rattle.ext_model.proofs.laws.closing_laws.Goals as goal

pub returns : goal.returns
returns c = record {
  remaining = remaining_is_so;
  one_list = remaining_is_one;
  nothing_follows = λ limits h rest cell_of keys legal closed key below. quiet_after_close h rest cell_of keys legal closed key below;
  stays_closed = λ limits h rest cell_of keys legal closed. stays_closed h rest cell_of keys legal closed;
  stays_remaining = λ limits h rest cell_of keys legal closed. remaining_stays h rest cell_of keys legal closed;
  values_remain = λ limits h cell_of keys number legal there. remaining_is_no_fault h cell_of keys number legal there;
  second_look = second_look;
}
