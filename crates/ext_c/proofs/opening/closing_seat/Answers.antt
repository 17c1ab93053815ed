use Rattle.std.proofs.Common.{sym, subst}
use Rattle.std.specs.Prelude.{All}
use Rattle.ext_store.specs.Stores.{StoreView, IsCloserOf}
use Rattle.ext_c.proofs.Closers.{all_some}
use Rattle.ext_c.proofs.opening.closing_seat.Goals as goal

pub sit-requires-clause-closers : goal.sit-requires-clause-closers
sit-requires-clause-closers c =
    all_some _ c.args.closers.items c.in_ok-own.own.items c.in_ok-own.ensures (subst (λ (s : StoreView). All (IsCloserOf s) c.args.closers.items) (sym c.in-Ok.ensures) c.requires.closers)
