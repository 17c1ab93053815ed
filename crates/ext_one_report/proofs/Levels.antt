-- A run on several lanes and a plain run between two nodes: when the same stands in both at some places, and which places are outside a node.
-- JUnit 5 User Guide, "Relative Execution Order of User Code and Extensions" and "Parallel Execution".
use Rattle.std.specs.Prelude.{◌≡◌, ℕ, ◌<◌, ◌&&◌, ◌==◌, not, [], length, Some}
use Rattle.ext_model.specs.History.{History, state_after}
use Rattle.ext_one_report.proofs.Numbers.{enough_numbers}
use Rattle.ext_tree.specs.Keys.{KeyValue}
use Rattle.ext_plan.specs.Plans.{PlanText}
use Rattle.ext_races.specs.Touches.{keys_named}
use Rattle.ext_plan_plain.specs.ValueStates.{ValueState}
use Rattle.ext_one_report.proofs.StoredWords.{number_in}
use Rattle.ext_one_report.proofs.MatchingWords.{HasNumberIn, IsNumbered, Matches, Places, RunView, cell_of}
use Rattle.ext_one_report.proofs.Rooms.{GaveFew}
use Rattle.ext_one_report.specs.Within.{is_within}
use Rattle.ext_one_report.proofs.OfPlan.{IsOfPlan}

-- ---- what a run is compared by

-- In the state after this history a number stands in one cell at most, and a cell whose number is that of no key holds none
pub record HoldsOnce (run : RunView) (h : History) : Type 0 where
  pub once : (cell other number : ℕ) → number_in ((state_after h).slots cell) ≡ Some number → number_in ((state_after h).slots other) ≡ Some number → cell ≡ other
  pub unnamed : (context number : ℕ) → context < length run.store.tree → number < length run.store.id.keys → ((key : KeyValue) → ¬ HasNumberIn run key number)
      → (kept : ℕ) → ¬ (number_in ((state_after h).slots (cell_of run number context)) ≡ Some kept)

-- ---- between two nodes

-- At these places the same stands after the history and in the state of the plain run; which finds all memory, keeps faults as the other does, has given few numbers, and holds
-- only what steps of the plan leave
pub record AreLevel (plan : PlanText) (run : RunView) (places : Places) (h : History) (s : ValueState) : Type 0 where
  pub matches : Matches run places h s
  pub numbered : IsNumbered places s
  pub memory : s.memory ≡ []
  pub keeps : run.store.id.cells.limits.keep_faults ≡ s.keep_faults
  pub gave : GaveFew (keys_named plan) (enough_numbers plan.size) s
  pub of_plan : IsOfPlan plan s

-- ---- after a node

-- the places in other contexts than this
abbrev pub besides : ℕ → Places → Places
besides node places context key = places context key && not (context == node)

-- the places in contexts that are neither the node's nor below it
abbrev pub outside : PlanText → ℕ → Places → Places
outside plan node places context key = places context key && not (is_within plan node context)
