-- What a run reports about a node: how its calls ended and what they counted, and how the closes of its context ended,
-- which come after them (JUnit 5 User Guide, "Keeping State in Extensions"). A close is successful or fails. The fault
-- of a close is reported if no call failed; each other fault and abort is counted. So is whether one of
-- all tells of a lack (`Lacks` of ext_model). What is reported is chosen here.
use Rattle.std.specs.Prelude.{ℕ, Bool, false, List, ◌++◌, length, map, Option, Some, None, option_map}
use Rattle.ext_model.specs.declared.look.Fault.{Fault}
use Rattle.ext_model.specs.Closed.{close_faults}
use Rattle.ext_model.specs.Lacks.{fault_tells_lack}
use Rattle.ext_lifecycle.specs.declared.node_result.NodeResult.{NodeResult}
use Rattle.ext_lifecycle.specs.declared.status.Status.{Status}
use Rattle.ext_lifecycle.specs.declared.status.Status.TheVariants as statuses
use Rattle.ext_lifecycle.specs.Endings.{Ending, successful, failed, endings_tell, total_of}

-- A node's result, whose fault is an `F`.
pub record ResultOf (F : Type 0) : Type 0 where
  pub node : ℕ
  pub is_test : Bool
  pub status : Status
  pub fault : Option F
  pub more : ℕ
  pub computed : ℕ
  pub found : ℕ
  pub closed : ℕ
  pub close_faults : ℕ
  pub lacked : Bool

-- A result in memory, by its fields.
abbrev pub as_result : NodeResult → ResultOf Fault
as_result r = record {
  node = r.node;
  is_test = r.is_test;
  status = r.status;
  fault = r.fault;
  more = r.more;
  computed = r.computed;
  found = r.found;
  closed = r.closed;
  close_faults = r.close_faults;
  lacked = r.lacked;
}

-- The same with its fault converted, for instance to its text.
abbrev pub map_fault : {F G : Type 0} → (F → G) → ResultOf F → ResultOf G
map_fault to r = record {
  node = r.node;
  is_test = r.is_test;
  status = r.status;
  fault = option_map to r.fault;
  more = r.more;
  computed = r.computed;
  found = r.found;
  closed = r.closed;
  close_faults = r.close_faults;
  lacked = r.lacked;
}

module _ {F : Type 0} where
  -- How a close ended, by its fault.
  abbrev pub close_ending : Option F → Ending F
  close_ending None = successful
  close_ending (Some fault) = failed fault

  -- The result of a node that ran, by which faults tell of a lack, how its calls ended, how many values they computed and
  -- found, and its closes.
  abbrev pub result_by : (F → Bool) → ℕ → Bool → List (Ending F) → ℕ → ℕ → List (Option F) → ResultOf F
  result_by tells node is_test calls computed found closes = record {
    node = node;
    is_test = is_test;
    status = (total_of (calls ++ map close_ending closes)).status;
    fault = (total_of (calls ++ map close_ending closes)).fault;
    more = (total_of (calls ++ map close_ending closes)).more;
    computed = computed;
    found = found;
    closed = length closes;
    close_faults = close_faults closes;
    lacked = endings_tell tells (calls ++ map close_ending closes);
  }

  -- The result of a node that did not run.
  abbrev pub skipped_result : ℕ → Bool → ResultOf F
  skipped_result node is_test = record {
    node = node;
    is_test = is_test;
    status = statuses.Skipped;
    fault = None;
    more = 0;
    computed = 0;
    found = 0;
    closed = 0;
    close_faults = 0;
    lacked = false;
  }

abbrev pub result_of : ℕ → Bool → List (Ending Fault) → ℕ → ℕ → List (Option Fault) → ResultOf Fault
result_of = result_by fault_tells_lack
