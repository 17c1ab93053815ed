use Rattle.std.proofs.lemmas.List.Elements.{All-pop}
use Rattle.ext_store.specs.Stores.{StoreLane, IsLaneOf}
use Rattle.tool_bench.specs.declared.opening.Payload.{Payload}
use Rattle.tool_bench.proofs.batch.prepare.Goals as goal

pub returns-in-Some : goal.returns-in-Some
returns-in-Some c =
    (All-pop (λ (l : StoreLane Payload). IsLaneOf c.args.store.now.id l) c.args.lanes.now.items c.pop.new.self.items c.pop.result c.pop.ensures.items c.requires).0
