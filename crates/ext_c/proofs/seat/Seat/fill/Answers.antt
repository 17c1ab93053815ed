use Rattle.std.proofs.Common.{◌∙◌, [], sym, refl, subst}
use Rattle.ext_store.specs.Stores.{StoreView}
use Rattle.ext_store.specs.Computing.{Fills, IsUnkept}
use Rattle.ext_c.specs.Answers.{FillSays}
use Rattle.ext_c.proofs.seat.Seat.fill.Goals as goal

pub returns-in-Ok-clause-says : goal.returns-in-Ok-clause-says
returns-in-Ok-clause-says c =
    FillSays.filled c.in-Some.claim (sym c.replace.ensures.value ∙ c.in-Some.is)
    (subst (λ (s : StoreView). Fills s.id.cells.limits [] c.in-Some.claim c.args.self.now.lane.cells.view c.fill_decided_quietly.new.lane.cells.view c.in-Ok.own) c.deref-shared.ensures c.in-Ok.ensures.events)
    c.in-Ok.ensures.known refl

pub returns-in-Err-clause-says : goal.returns-in-Err-clause-says
returns-in-Err-clause-says c =
    FillSays.unkept c.in-Some.claim c.in-Err.why (sym c.replace.ensures.value ∙ c.in-Some.is)
    (subst (λ (s : StoreView). IsUnkept s.id.cells.limits s.tries [] c.in-Some.claim c.args.self.now.lane.cells.view c.fill_decided_quietly.new.lane.cells.view c.in-Err.why) c.deref-shared.ensures c.in-Err.ensures.events)
    c.in-Err.ensures.decided refl c.of_keep.ensures
