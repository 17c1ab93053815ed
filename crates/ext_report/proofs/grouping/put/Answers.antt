use Rattle.std.proofs.Common.{arith}
use Rattle.ext_report.proofs.Groupings.{put_is, put_nowhere}
use Rattle.ext_report.proofs.grouping.put.Goals as goal

pub returns-then-number-len-clause-put : goal.returns-then-number-len-clause-put
returns-then-number-len-clause-put g c = put_nowhere c.args.groups.now.items c.args.number c.args.item.now (let ok = c.args.groups.now.ok in omega (arith, ok))

pub returns-clause-put : goal.returns-clause-put
returns-clause-put g c =
    put_is c.args.groups.now.items c.args.number c.index_mut.result.now c.push.new.self c.args.item (let ok = c.args.groups.now.ok in omega (arith, ok)) c.index_mut.ensures.value c.in_ok-push.ensures.items
