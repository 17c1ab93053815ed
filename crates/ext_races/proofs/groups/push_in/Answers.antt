use Rattle.std.proofs.Common.{sym, ◌∙◌, arith}
use Rattle.ext_races.specs.Touches.{touch_view}
use Rattle.ext_races.proofs.Grouped.{among, push_is, stood_is}
use Rattle.ext_races.proofs.groups.push_in.Goals as goal

pub returns-then-stands_last : goal.returns-then-stands_last
returns-then-stands_last c = stood_is c.args.groups.now.items c.args.number c.index.result.now c.as_slice.result.now (touch_view c.args.touch) (let ok = c.args.groups.now.ok in omega (arith, ok)) c.index.ensures c.as_slice.ensures.value (among 16 c.as_slice.result.now (touch_view c.args.touch) (sym c.stands_last.ensures ∙ c.if-stands_last.true))

pub returns : goal.returns
returns c = push_is c.args.groups.now.items c.args.number c.index_mut.result.now c.push.new.self c.args.touch (let ok = c.args.groups.now.ok in omega (arith, ok)) c.index_mut.ensures.value c.in_ok-push.ensures.items
