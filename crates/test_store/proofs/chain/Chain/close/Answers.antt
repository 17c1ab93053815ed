use Rattle.std.proofs.lemmas.List.Elements.{All-append, All-drop}
use Rattle.ext_store.specs.Stores.{IsLaneOf}
use Rattle.test_store.proofs.chain.Chain.close.Goals as goal

pub invariant_of-self : goal.invariant_of-self
invariant_of-self g c =
    let own = IsLaneOf c.self.inside.store.id in
    (All-append own _ _ c.close.ensures.own_lanes (All-drop own _ _ c.self.invariant.0), c.take_closer-closer.ensures.others, c.self.invariant.2)

pub invariant_of-self-in-Err : goal.invariant_of-self-in-Err
invariant_of-self-in-Err g c =
    let own = IsLaneOf c.self.inside.store.id in
    (All-append own _ _ c.close.ensures.own_lanes (All-drop own _ _ c.self.invariant.0), c.give_back.ensures, c.self.invariant.2)
