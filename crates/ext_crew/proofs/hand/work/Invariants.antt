use Rattle.std.proofs.Common.{◌≡◌, ◌-◌, ◌≤◌, length}
use Rattle.ext_crew.specs.InnerCounter.{IsDrawing, done_by}
use Rattle.ext_crew.specs.Dealing.{Runs, InTurn}
use Rattle.ext_crew.proofs.hand.work.Given as goal

abbrev pub invariant-loop-job : goal.invariant-loop-job
invariant-loop-job g l = record {
  same_table : l.hand.table_id ≡ l.counter.table_id;
  drawing : IsDrawing l.counter.key.value.items l.hand.me;
  few : length (done_by l.hand.me) ≤ l.count;
  worked : InTurn (Runs g.F.Fn l.run l.counter.key.value.items) (done_by l.hand.me) (record { first = l.initial.first; second = l.initial.second }) (record { first = l.first; second = l.second });
}

abbrev pub decreases-loop-job : goal.decreases-loop-job
decreases-loop-job g l = l.count - length (done_by l.hand.me)
