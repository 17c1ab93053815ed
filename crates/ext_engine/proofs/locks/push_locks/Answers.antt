use Rattle.std.proofs.Common.{◌≡◌, ◌<◌, length, sym, arith}
use Rattle.ext_engine.proofs.Requests.{asked-more, asked-none, asked-some, asked-all}
use Rattle.ext_engine.proofs.locks.push_locks.Goals as goal

pub loop-i-preserved : goal.loop-i-preserved
loop-i-preserved g c = asked-more _ _ c.loop-i.i c.loop-i.requests.items c.push.new.self.items c.in-Some.request c.loop-i.invariant (sym c.in-Some.ensures) c.in_ok-push-in-Some.ensures.items

pub loop-i-init : goal.loop-i-init
loop-i-init g c = asked-none _

pub unreachable-requires : goal.unreachable-requires
unreachable-requires g c =
    let locks = (g.S.Suite.suite_view c.args.suite.now).locks c.args.node in
    let less : c.loop-i.i < length locks = (let test = c.loop-i-test.true in let count = c.lock_count-i-end.ensures in omega (arith, test, count)) in
    asked-some locks c.loop-i.i less c.in-None.ensures

pub returns : goal.returns
returns g c =
    let locks = (g.S.Suite.suite_view c.args.suite.now).locks c.args.node in
    let all : c.loop-i.i ≡ length locks = (let most = c.loop-i.auto.i-end in let least = c.loop-i-test.false in let count = c.lock_count-i-end.ensures in omega (arith, most, least, count)) in
    asked-all _ locks c.loop-i.i c.loop-i.requests.items all c.loop-i.invariant
