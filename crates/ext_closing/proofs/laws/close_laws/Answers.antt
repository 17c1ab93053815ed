use Rattle.ext_closing.proofs.Again.{asked_again}
use Rattle.ext_closing.proofs.laws.close_laws.Goals as goal

pub returns : goal.returns
returns g c = λ store closer before first closed after last legal own_lanes at_last.
    asked_again g.V.StoreValue.is_closeable g.A.CloseAction.close_gives store closer before first closed after last legal own_lanes at_last
