-- Results as private functions hold and answer them: what ran, and what a test is run with. No public contract cites
-- it.
use Rattle.std.specs.Prelude.{◌≡◌, ℕ, ◌+◌, ◌<◌, ◌≤◌, true, List, [], ◌∷◌, ◌++◌, length, map, Result, Ok, Err, IfOk, IfErr, Vec, vec_len, vec_capacity}
use Rattle.std.specs.List.{flat_map}
use Rattle.std.specs.declared.alloc.Global.{Global}
use Rattle.ext_lifecycle.specs.declared.node_result.NodeResult.{NodeResult}
use Rattle.ext_lifecycle.specs.Callbacks.{befores_of, afters_of}
use Rattle.ext_lifecycle.specs.Results.{as_result}
use Rattle.ext_tree.specs.Trees.{IsPathOf}
use Rattle.ext_locks.specs.Sets.{AllBelow}
use Rattle.ext_engine.specs.Suites.{locks_on, IsSetOf}
use Rattle.ext_engine.specs.declared.node.fault.EngineFault.{EngineFault}
use Rattle.ext_engine.specs.declared.node.results.Below.{Below}
use Rattle.ext_engine.specs.declared.node.results.RanNode.{RanNode}
use Rattle.ext_engine.specs.declared.node.node_runner.TestParts.{TestParts}
use Rattle.ext_engine.specs.NodeRun.{Ran, TreeSetting, Lanes, TestRun, IsUsable}
use Rattle.ext_engine.specs.NodeFailing.{TestEndsEarly}

abbrev pub ran_view : RanNode → Ran
ran_view r = record { result = as_result r.result; went_on = r.went_on }

-- The nodes that ran, by an answer. A fault has none.
abbrev pub ran_in : {E : Type 0} → Result (Vec RanNode Global) E → List Ran
ran_in (Ok v) = map ran_view v.items
ran_in (Err e) = []

-- The nodes that ran below a container: first those of its concurrent children, then the others.
abbrev pub rans_below : Below → List Ran
rans_below below = flat_map ran_in below.beside.items ++ flat_map ran_in below.in_turn.items

-- An answer of the code as contracts see it.
abbrev pub answer_of : Result (Vec RanNode Global) EngineFault → Result (List Ran) EngineFault
answer_of (Ok v) = Ok (map ran_view v.items)
answer_of (Err why) = Err why

-- The one node that ran, a test.
abbrev pub of_test : NodeResult → List Ran
of_test r = record { result = as_result r; went_on = true } ∷ []

-- What a test is run with: its callbacks, its locks, and room for its result.
pub record ArePartsOf {V A : Type 0} (t : TreeSetting V A) (node : ℕ) (parts : TestParts) : Type 0 where
  pub path : List ℕ
  pub path_is : IsPathOf t.store.tree node path
  pub befores_are : parts.befores.items ≡ befores_of t.registered true node path
  pub few_befores : vec_len parts.befores ≤ 16777216
  pub afters_are : parts.afters.items ≡ afters_of t.registered true node path
  pub few_afters : vec_len parts.afters ≤ 16777216
  pub set_is : IsSetOf t.locks.names (locks_on t.suite path) parts.set
  pub within : AllBelow (length t.locks.names + 1) parts.set
  pub empty : parts.ran.items ≡ []
  pub room : vec_len parts.ran < vec_capacity parts.ran

-- How the run of a test ends. `view` gives the nodes that ran.
module _ {V A : Type 0} (t : TreeSetting V A) where
  pub record TestEnds {X : Type 0} (view : X → List Ran) (node : ℕ) (before : Lanes V) (result : Result X EngineFault)
      (after : Lanes V) : Type 0 where
    pub lanes : IsUsable t.store t.locks after
    pub count : length after.first ≡ length before.first
    pub run : IfOk result
        (λ x. (path : List ℕ) × IsPathOf t.store.tree node path × TestRun t node path before (view x) after)
    pub early : IfErr result
        (λ why. (path : List ℕ) × IsPathOf t.store.tree node path × TestEndsEarly t node path before why after)
