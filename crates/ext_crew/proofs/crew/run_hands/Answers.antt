use Rattle.std.proofs.Common.{rules, subst, sym, refl}
use Rattle.ext_crew.specs.Dealing.{Share, Accepts, Runs, InTurn}
use Rattle.ext_crew.specs.InnerCounter.{Hand, IsCounter}
use Rattle.ext_crew.specs.InnerHands.{given_of, IsReady, HasWorked}
use Rattle.ext_crew.proofs.Shares.{shares_from, worked-from, all-hands, moved_share}
use Rattle.ext_crew.proofs.crew.run_hands.Goals as goal

pub for_each_share-requires-clause-accepts : goal.for_each_share-requires-clause-accepts
for_each_share-requires-clause-accepts g c κs within =
    let items = c.args.counter.now.key.value.items in
    let table = c.args.counter.now.table_id in
    let Q : Hand g.row.T.Denot g.row.O.Denot → Type 0 = λ h. IsReady table items h in
    let X : Hand g.row.T.Denot g.row.O.Denot → Share g.row.A.Denot g.row.B.Denot → Type 0 = λ h u. IsCounter table items c.args.count × (IsReady table items h × Accepts g.F.Fn c.args.run.now items u) in
    shares_from Q (Accepts g.F.Fn c.args.run.now items) c.requires.size c.requires.cut c.requires.ready c.requires.accepts
    (λ h u q a hand first second e f d. moved_share X {h = h} {k = hand.now} {s = u} {t = record { first = first.now; second = second.now }} e f d (c.requires.counter, (q, a)))

pub returns-clause-jobs : goal.returns-clause-jobs
returns-clause-jobs g c =
    let Q : Hand g.row.T.Denot g.row.O.Denot → Type 0 = λ h. HasWorked c.args.counter.now.table_id c.args.counter.now.key.value.items h in
    all-hands _ c.args.size Q c.for_each_share.ensures (λ h s k t r.
    let w : Q r.hand_left.now = search rules in
    subst Q r.left.0 w)

pub returns-clause-worked : goal.returns-clause-worked
returns-clause-worked g c =
    let items = c.args.counter.now.key.value.items in
    let table = c.args.counter.now.table_id in
    let Q : Hand g.row.T.Denot g.row.O.Denot → Type 0 = λ h. IsReady table items h in
    worked-from _ c.args.size (Runs g.F.Fn c.args.run.now items) Q (λ h. given_of h) c.requires.ready c.for_each_share.ensures (λ h s k t q r.
    let run : InTurn (Runs g.F.Fn c.args.run.now items) r.hand_left.now.me.0.given (record { first = r.first.now; second = r.second.now }) (record { first = r.first_left.now; second = r.second_left.now }) = search rules in
    let ends : Hand g.row.T.Denot g.row.O.Denot → Share g.row.A.Denot g.row.B.Denot → Type 0 = λ u v. InTurn (Runs g.F.Fn c.args.run.now items) u.me.0.given s v in
    let starts : Hand g.row.T.Denot g.row.O.Denot → Share g.row.A.Denot g.row.B.Denot → Type 0 = λ u v. InTurn (Runs g.F.Fn c.args.run.now items) r.hand_left.now.me.0.given v (record { first = r.first_left.now; second = r.second_left.now }) in
    moved_share ends {h = r.hand_left.now} {k = k} {s = record { first = r.first_left.now; second = r.second_left.now }} {t = t} (sym r.left.0) (sym r.left.1) (sym r.left.2)
    (moved_share starts {h = h} {k = h} {s = record { first = r.first.now; second = r.second.now }} {t = s} refl (sym r.lent.1) (sym r.lent.2) run))
