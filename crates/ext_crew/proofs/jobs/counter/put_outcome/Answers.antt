use Rattle.std.proofs.Common.{ap}
use Rattle.ext_crew.proofs.Draws.{holds_one, put_in}
use Rattle.ext_crew.proofs.jobs.counter.put_outcome.Goals as goal

pub exchange-requires : goal.exchange-requires
exchange-requires g c = (c.requires.table, (_, holds_one c.args.hand.now.me.1 c.args.done.job _ (ap (λ m. m.1) c.requires.drawn.left)))

pub returns-clause-drawing : goal.returns-clause-drawing
returns-clause-drawing g c = (put_in c.args.counter.now.key.value.items c.args.hand.now.me c.exchange.new.seat.me c.args.hand.now.me.0.given c.args.done c.requires.drawn c.exchange.ensures.3).0

pub returns-clause-done : goal.returns-clause-done
returns-clause-done g c = (put_in c.args.counter.now.key.value.items c.args.hand.now.me c.exchange.new.seat.me c.args.hand.now.me.0.given c.args.done c.requires.drawn c.exchange.ensures.3).1
