use Rattle.std.proofs.Common.{◌≡◌, ◌<◌, ap, true}
use Rattle.ext_history.proofs.Legal.{legal_prefix, legal_push, legal_empty, legal_induct, legal_each}
use Rattle.ext_history.proofs.ByLanes.{no_lane_no_event}
use Rattle.ext_model.specs.History.{lane_of, IsAllowed}
use Rattle.ext_model.proofs.Allowed.{allowed_by_cases}
use Rattle.ext_model.proofs.Versions.{none_on, quiet_from_none}
use Rattle.ext_model.proofs.Standing.{is_sealed, remove_between_fills, remove_after_fail, none_after_seal}
use Rattle.ext_model.proofs.Claims.{claim_stands, used_within}
use Rattle.ext_model.proofs.Stored.{stored_once, drew_own}
use Rattle.ext_model.proofs.Owned.{drawn_once, own_may_store}
use Rattle.ext_model.proofs.Faults.{fault_was_kept, value_is_no_fault, seal_keeps_no_fault, no_faults, keeping_adds_fails}
use Rattle.ext_model.proofs.laws.history_laws.Goals as goal

pub returns : goal.returns
returns c = record {
  prefixes = λ limits h rest legal. legal_prefix h rest legal;
  one_more = λ limits h e legal allowed. legal_push h e legal allowed;
  empty = λ limits. legal_empty (IsAllowed limits);
  induction = λ limits test first next h legal. legal_induct (IsAllowed limits) (λ g. test g ≡ true) first next h legal;
  by_cases = allowed_by_cases;
  quiet = λ cell events. (none_on events cell, quiet_from_none events cell);
  by_lanes = λ limits h e legal there. legal_each (IsAllowed limits) (λ x. x.lane < limits.lanes) (λ before x allowed. allowed.lane) h legal e there;
  no_lane = λ limits h legal none. no_lane_no_event lane_of (IsAllowed limits) limits.lanes (λ before e allowed. allowed.lane) h legal none;
  fills = λ limits before between later lane cell number lane' number' legal. remove_between_fills before between later lane cell number lane' number' legal;
  fails = λ limits before between later lane cell number lane' legal. remove_after_fail before between later lane cell number lane' legal;
  seals = λ limits h rest cell kept legal sealed. none_after_seal h rest cell legal (ap is_sealed sealed);
  claims = λ limits h rest lane cell legal is quiet. claim_stands h rest lane cell legal is quiet;
  within = λ limits h cell slot legal is. used_within h cell slot legal is;
  drawn_once = λ limits h lane other number legal x y. drawn_once h legal lane other number x y;
  stored_once = λ limits h legal. stored_once h legal;
  own_numbers = λ limits h e legal there. drew_own h legal e there;
  own_past = λ limits h lane number legal may. own_may_store h lane number legal may;
  faults = λ limits h cell number legal is. fault_was_kept h cell number legal is;
  values = λ limits h cell number legal is. value_is_no_fault h cell number legal is;
  sealed_values = λ limits h cell number legal is. seal_keeps_no_fault h cell number legal is;
  no_faults = no_faults;
  keeping = keeping_adds_fails;
}
