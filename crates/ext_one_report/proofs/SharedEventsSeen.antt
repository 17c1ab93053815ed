-- Where a run of a tree begins with lanes that have seen this part of the history, each of its calls begins with such a lane.
use Rattle.std.proofs.Common.{ℕ, List}
use Rattle.std.specs.Prelude.{All}
use base.Growing.{prefix_trans}
use Rattle.ext_history.specs.Histories.{seen_by}
use Rattle.ext_model.specs.History.{History}
use Rattle.ext_engine.specs.Meeting.{HasSeen}
use Rattle.ext_engine.specs.Order.{CallsGoOn}
use Rattle.ext_engine.specs.TreeRun.{Lanes, Ran, TreeRun, TreeSetting, with_calls}
use Rattle.ext_engine.proofs.Going.{all_met, children_dealt_go, tree_goes}
use Rattle.ext_engine.proofs.Order.{go_on}
use Rattle.ext_one_report.proofs.CallsFrom.{CallsFrom, Keeps, tree_from}

module _ {V A : Type 0} (t : TreeSetting V A) (moves : CallsGoOn t.call_gives) (g : History) where
  keeps : Keeps t (HasSeen g)
  keeps = record {
    calls = λ node call held a outcome b gives is. prefix_trans g (seen_by a.cells.view) (seen_by b.cells.view) is (moves node call held a outcome b gives).seen;
    met = λ xs ys meet all. go_on g xs ys (all_met t moves xs ys meet) all;
    runs = λ depth node before ran after run all. go_on g before.first after.first (tree_goes t moves depth node before ran after run) all;
    joined = λ depth node before below after body all.
        let dealt = children_dealt_go t moves (TreeRun t depth) (λ c s below u r. tree_goes t moves depth c s below u r) node before below after body in
        go_on g body.between.first body.joined (all_met t moves body.between.first body.joined body.joins.only_meet) (go_on g body.forked body.between.first dealt all);
  }

  pub tree_seen : (depth node : ℕ) (before : Lanes V) (ran : List Ran) (after : Lanes V) → TreeRun t depth node before ran after → All (HasSeen g) before.first
      → TreeRun (with_calls (CallsFrom t (HasSeen g)) t) depth node before ran after
  tree_seen depth node before ran after run all = tree_from t (HasSeen g) keeps depth node before ran after run all
