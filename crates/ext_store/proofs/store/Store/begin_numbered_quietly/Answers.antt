use Rattle.std.proofs.Common.{[], refl, ap, ◌∙◌, subst}
use Rattle.ext_history.specs.Histories.{seen_by}
use Rattle.ext_model.specs.History.{IsLegal}
use Rattle.ext_cells.specs.Lanes.{CellsId, Lane}
use Rattle.ext_store.specs.Stores.{StoreView, StoreLane}
use Rattle.ext_store.specs.Computing.{ClaimsMissing}
use Rattle.ext_store.proofs.Frames.{stays_inside}
use Rattle.ext_store.proofs.Composing.{claim_frame}
use Rattle.ext_store.proofs.Faulting.{begun_faultless, begun_held}
use Rattle.ext_store.proofs.store.Store.begin_numbered_quietly.Goals as goal

pub returns-clause-answer : goal.returns-clause-answer
returns-clause-answer g c =
    subst (λ (z : StoreView × Lane). ClaimsMissing z.0 c.args.context c.args.key z.1.view c.claim_quietly-claimed.new.lane.view c.claim_quietly-claimed.result) (λ i. (c.self.view_is i, (c.lane.view_is i).cells)) c.claim_quietly-claimed.ensures.claim

pub returns-clause-held : goal.returns-clause-held
returns-clause-held g c = begun_held c.args.self.now c.args.context c.args.key c.args.lane.now.cells.view c.claim_quietly-claimed.new.lane.view c.claim_quietly-claimed.result (returns-clause-answer g c)

pub returns-clause-no_faults : goal.returns-clause-no_faults
returns-clause-no_faults g c = begun_faultless c.args.self.now c.args.context c.args.key c.args.lane.now.cells.view c.claim_quietly-claimed.new.lane.view c.claim_quietly-claimed.result
    (subst (λ (z : CellsId). IsLegal z.limits (seen_by c.claim_quietly-claimed.new.lane.view)) (c.claim_quietly-claimed.ensures.lane ∙ (ap (λ (l : StoreLane g.row.V.Denot). l.cells.cells) c.lane.view_is ∙ c.requires.lane.cells)) c.tell_proof-2.ensures.legal)
    (returns-clause-answer g c)

pub returns-clause-stays : goal.returns-clause-stays
returns-clause-stays g c =
    stays_inside c.args.self.now.id [] (record { cells = c.lane.inside.cells; known = c.lane.inside.notes; faults = c.lane.inside.faults; keys = c.lane.inside.keys }) c.args.lane.now (record { cells = c.claim_quietly-claimed.new.lane; known = c.lane.inside.notes; faults = c.lane.inside.faults; keys = c.lane.inside.keys }) c.lane.view_is refl
    (claim_frame c.args.self.now.id (record { cells = c.lane.inside.cells; known = c.lane.inside.notes; faults = c.lane.inside.faults; keys = c.lane.inside.keys }) c.args.lane.now (record { cells = c.claim_quietly-claimed.new.lane; known = c.lane.inside.notes; faults = c.lane.inside.faults; keys = c.lane.inside.keys }) c.lane.view_is c.requires.lane c.claim_quietly-claimed.ensures.lane refl
    c.self.inside.shared (ap (λ (s : StoreView). s.id.cells) c.self.view_is) c.args.context c.args.key c.claim_quietly-claimed.result c.claim_quietly-claimed.ensures.claim)
