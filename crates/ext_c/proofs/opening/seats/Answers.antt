use Rattle.std.proofs.lemmas.List.Elements.{All-pop}
use Rattle.std_alloc.specs.Arc.{arc_value}
use Rattle.ext_store.specs.Stores.{StoreLane, IsLaneOf}
use Rattle.ext_c.specs.declared.handle.Handle.{Handle}
use Rattle.ext_c.proofs.opening.seats.Goals as goal

pub plain_seats-requires : goal.plain_seats-requires
plain_seats-requires c = record {
  lanes = (All-pop (λ (l : StoreLane Handle). IsLaneOf (arc_value c.args.store.now).id l) c.args.lanes.items c.pop.new.self.items c.pop.result c.pop.ensures.items c.requires.lanes).0;
}
