-- Suites whose tests are the leaves of the tree, and in which only the tests are called: what the whole suite says of
-- its nodes, and what a call of a test comes to (JUnit 5 User Guide, "Parallel Execution"; Javadoc
-- `TestExecutionResult`). In JUnit, descriptors say themselves which of them are tests.
use Rattle.std.specs.Prelude.{◌≡◌, ℕ, Bool, true, false, List, [], Result, Ok, Err}
use Rattle.ext_model.specs.declared.look.Fault.{Fault}
use Rattle.ext_lifecycle.specs.declared.outcome.Outcome.{Outcome}
use Rattle.ext_lifecycle.specs.declared.outcome.Verdict.{Verdict}
use Rattle.ext_lifecycle.specs.declared.outcome.Verdict.TheVariants as verdicts
use Rattle.ext_tree.specs.Trees.{Id}
use Rattle.ext_store.specs.Stores.{StoreView, StoreLane}
use Rattle.ext_closing.specs.Closing.{Answer}
use Rattle.ext_locks.specs.Opening.{LocksView}
use Rattle.ext_engine.specs.Suites.{SuiteView}
use Rattle.ext_engine.specs.Leaves.{is_leaf}
use Rattle.ext_engine.specs.NodeRun.{TreeSetting}

-- ---- outcomes

-- A test that ended so, by its fault if it failed.
abbrev pub verdict_of : Answer → Verdict
verdict_of (Ok done) = verdicts.Successful
verdict_of (Err why) = verdicts.Failed why

-- The outcome of a test that computed one value, or found it, and then ended so.
abbrev pub outcome_with : Bool → Answer → Outcome
outcome_with true ended = record { verdict = verdict_of ended; computed = 1; found = 0 }
outcome_with false ended = record { verdict = verdict_of ended; computed = 0; found = 1 }

-- What a test answers is its outcome. A fault in its place is that of a test which failed, and counts nothing.
abbrev pub outcome_of : Result Outcome Fault → Outcome
outcome_of (Ok outcome) = outcome
outcome_of (Err why) = record { verdict = verdicts.Failed why; computed = 0; found = 0 }

-- ---- the whole suite

-- All nodes may run beside one another, or none. The leaves are the tests, none is isolated, and none names a lock.
abbrev pub leaves_view : Bool → List Id → SuiteView
leaves_view concurrent ids =
    record {
      is_concurrent = λ node. concurrent;
      is_isolated = λ node. false;
      is_test = is_leaf ids;
      locks = λ node. [];
    }

-- A call of a test. `Gives` says what the test may answer and leave of its lane.
pub record MakesLeaf {V : Type 0} (Gives : Result Outcome Fault → StoreLane V → Type 0) (outcome : Outcome)
    (after : StoreLane V) : Type 0 where
  pub answer : Result Outcome Fault
  pub gives : Gives answer after
  pub outcome_is : outcome ≡ outcome_of answer

-- The setting of a run, from what is said of all suites of the type. There are no callbacks.
module _ {V S A : Type 0} (is_closeable : V → Bool) (may_disable : S → ℕ → Type 0)
    (run_gives : S → StoreView → ℕ → StoreLane V → Result Outcome Fault → StoreLane V → Type 0)
    (action_gives : S → ℕ → A → Type 0) (close_gives : A → ℕ → V → Answer → A → Type 0) where
  abbrev pub leaf_setting : S → Bool → StoreView → LocksView → TreeSetting V A
  leaf_setting suite concurrent store locks = record {
    store = store;
    locks = locks;
    suite = leaves_view concurrent store.tree;
    enabled_gives = λ node answer. answer ≡ false → may_disable suite node;
    registered = λ kind node. 0;
    call_gives = λ node call held before outcome after.
        MakesLeaf (λ answer left. run_gives suite store node before answer left) outcome after;
    action_gives = λ node action. action_gives suite node action;
    is_closeable = is_closeable;
    close_gives = close_gives;
  }
