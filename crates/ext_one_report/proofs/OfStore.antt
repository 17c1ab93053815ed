-- Where a run of a tree begins with lanes of the store, and calls leave lanes that are of the store, each of its calls begins with such a lane.
use Rattle.std.proofs.Common.{inl, inr, ℕ, zero, suc, List, subst, sym}
use Rattle.std.specs.Prelude.{All, Option}
use Rattle.ext_history.proofs.Lists.{bools}
use Rattle.ext_lifecycle.specs.declared.call.Call.{Call}
use Rattle.ext_lifecycle.specs.declared.outcome.Outcome.{Outcome}
use Rattle.ext_store.specs.Stores.{IsLaneOf, StoreLane}
use Rattle.ext_locks.specs.Sets.{HeldView}
use Rattle.ext_engine.specs.TreeRun.{Lanes, Ran, TreeRun, TreeSetting, with_calls}
use Rattle.ext_engine.proofs.Trees.{met_mine}
use Rattle.ext_one_report.proofs.CallsFrom.{CallsFrom, Keeps, tree_from}

module _ {V A : Type 0} (t : TreeSetting V A) where
  abbrev Is : StoreLane V → Type 0
  Is = IsLaneOf t.store.id

  -- a call that begins with a lane of the store
  abbrev pub CallsOf : ℕ → Call → Option HeldView → StoreLane V → Outcome → StoreLane V → Type 0
  CallsOf = CallsFrom t (IsLaneOf t.store.id)

  -- closes leave lanes of the store
  tree_leaves : (depth node : ℕ) (before : Lanes V) (ran : List Ran) (after : Lanes V) → TreeRun t depth node before ran after → All Is before.first → All Is after.first
  tree_leaves zero node before ran after run all = absurd run
  tree_leaves (suc depth) node before ran after run all = elim run.2 [
    | inl left ↦ subst (λ (x : Lanes V). All Is x.first) (sym left.untouched) all
    | inr on ↦ elim (bools (t.suite.is_test node)) [
      | inl test ↦ (on.0 test).closes.closes.own_lanes
      | inr container ↦ (on.1 container).ends.closes.closes.own_lanes
    ]
  ]

  module _ (stays : (node : ℕ) (call : Call) (held : Option HeldView) (a : StoreLane V) (outcome : Outcome) (b : StoreLane V) → t.call_gives node call held a outcome b → Is a → Is b) where
    keeps : Keeps t (IsLaneOf t.store.id)
    keeps = record {
      calls = stays;
      met = λ xs ys meet all. (met_mine t.store xs ys meet).0;
      runs = λ depth node before ran after run all. tree_leaves depth node before ran after run all;
      joined = λ depth node before below after body all. (met_mine t.store body.between.first body.joined body.joins.only_meet).0;
    }

    pub tree_of : (depth node : ℕ) (before : Lanes V) (ran : List Ran) (after : Lanes V) → TreeRun t depth node before ran after → All Is before.first → TreeRun (with_calls (CallsFrom t (IsLaneOf t.store.id)) t) depth node before ran after
    tree_of depth node before ran after run all = tree_from t (IsLaneOf t.store.id) keeps depth node before ran after run all
