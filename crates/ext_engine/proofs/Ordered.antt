-- A container's concurrent children come after its before-callbacks, and before its other children and its after-callbacks; these come one after another; and its close
-- comes last.
use Rattle.std.proofs.Common.{ℕ, List, arith}
use Rattle.std.specs.Prelude.{All, None}
use Rattle.ext_crew.proofs.Runs.{run-weaker}
use Rattle.ext_engine.specs.Meeting.{HasSeenWithin, first_seen}
use Rattle.ext_engine.specs.Order.{AllGoOn, CallsGoOn, ContainersAreMadeInOrder, ContainersAreSeenInOrder, NodesAreSeen}
use Rattle.ext_engine.specs.TreeRun.{Lanes, Ran, TreeSetting, TreeRun, with_lanes}
use Rattle.ext_engine.proofs.Acts.{Acts, acts_before, heads_go, shown_made}
use Rattle.ext_engine.proofs.Going.{all_go, befores_go, first_goes, tree_goes, turn_goes}
use Rattle.ext_engine.proofs.Order.{children_within}
use Rattle.ext_engine.proofs.Seen.{acts_then, body_within, called_acts, closed_acts, dealt_acts, opened_acts, tree_acts, turn_acts, turn_order, turned_within}

module _ {V A : Type 0} (t : TreeSetting V A) (moves : CallsGoOn t.call_gives) where
  abbrev Tree : ℕ → ℕ → Lanes V → List Ran → Lanes V → Type 0
  Tree depth c s below u = TreeRun t depth c s below u

  go : (depth c : ℕ) (s : Lanes V) (below : List Ran) (u : Lanes V) → Tree depth c s below u → AllGoOn s.first u.first
  go depth c s below u r = tree_goes t moves depth c s below u r

  pub nodes_seen : NodesAreSeen t
  nodes_seen depth node before ran after run h within = (tree_acts t moves h depth node before ran after run within).seen

  pub containers_seen : ContainersAreSeenInOrder t
  containers_seen depth node path before ran after run on =
      let body = run.body_made.made on in
      let opened : Lanes V = record { first = run.opened; second = before.second } in
      record {
        befores = heads_go before.first run.opened (first_goes _ before.first run.opened (λ a b made. befores_go t moves node None _ a run.befores b made) run.befores_made);
        children = children_within t (Tree depth) (go depth) node opened run.below run.body body;
        others = heads_go body.joined run.body.first (turn_goes t moves (Tree depth) (go depth) body.in_turn.done (with_lanes body.joined body.between) run.body body.in_turn.runs);
        afters = heads_go run.body.first run.ends.called (first_goes _ run.body.first run.ends.called (λ a b made. all_go t moves node None _ a run.ends.afters b made) run.ends.afters_made);
      }

  pub containers_made : ContainersAreMadeInOrder t
  containers_made depth node path before ran after run on h within =
      let body = run.body_made.made on in
      let opened : Lanes V = record { first = run.opened; second = before.second } in
      let joined = with_lanes body.joined body.between in
      let closed = after.first in
      let at : (c : ℕ) (s : Lanes V) (below : List Ran) (u : Lanes V) → Tree depth c s below u → All (HasSeenWithin h) u.first → Acts h s.first u.first = λ c s below u r seen. tree_acts t moves h depth c s below u r seen in
      let ended = body_within t moves h (Tree depth) (go depth) at node path before ran after run within in
      let one = opened_acts t moves h (Tree depth) (go depth) at node path before ran after run in
      let two = dealt_acts t moves h (Tree depth) (go depth) at node opened run.below run.body body (turned_within t moves h (Tree depth) (go depth) at node opened run.below run.body body ended) in
      let three = turn_acts t moves h (Tree depth) (go depth) at body.in_turn.done joined run.body body.in_turn.runs ended in
      let four = called_acts t moves h (Tree depth) (go depth) at node path before ran after run in
      let five = closed_acts t moves h (Tree depth) (go depth) at node path before ran after run in
      let began = acts_then h before.first run.opened body.joined one two in
      let body_done = acts_then h before.first body.joined run.body.first began three in
      let to_end = acts_then h run.body.first run.ends.called closed four five in
      let since_joined = acts_then h body.joined run.body.first closed three to_end in
      record {
        children = run-weaker _ _ (children_within t (Tree depth) (go depth) node opened run.below run.body body) (λ job s o u r. (
          r.0,
          (λ first second early late.
              let a = (one.seen first early).1 in
              let b = (shown_made h (first_seen opened.first) (first_seen body.joined) s.first u.first second r.1.begins r.1.ends late).0 in
              omega (arith, a, b)),
          (λ first second early late.
              let a = (shown_made h (first_seen opened.first) (first_seen body.joined) s.first u.first first r.1.begins r.1.ends early).1 in
              let b = (since_joined.seen second late).0 in
              omega (arith, a, b)),
        ));
        others = turn_order t moves h (Tree depth) (go depth) at before.first closed body.in_turn.done joined run.body body.in_turn.runs ended began to_end;
        afters = acts_before h before.first run.body.first run.ends.called body_done four;
        close = acts_before h before.first run.ends.called closed (acts_then h before.first run.body.first run.ends.called body_done four) five;
      }
