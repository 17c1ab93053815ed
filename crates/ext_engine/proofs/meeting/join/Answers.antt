use Rattle.std.proofs.Common.{rules, ◌≡◌, ◌∷◌, List, length, refl, subst, sym}
use Rattle.ext_store.specs.Stores.{StoreLane}
use Rattle.ext_engine.specs.Meeting.{Joins}
use Rattle.ext_engine.proofs.Meets.{joins_of, none_join}
use Rattle.ext_engine.proofs.meeting.join.Goals as goal

pub returns-in-Some : goal.returns-in-Some
returns-in-Some g c =
    let st = c.args.store.now in
    record {
      joined = subst (λ (l : List (StoreLane g.row.V.Denot)). Joins st l (c.see_rest.new.first ∷ c.see_rest.new.others)) (sym c.in-Some.ensures.cases.0)
          (joins_of st c.in-Some.first.now c.see_rest.new.first c.in-Some.rest.now c.see_rest.new.others c.see_rest.ensures.met.0 c.see_rest.ensures.met.1 c.see_rest.ensures.shown);
    }

pub returns-in_default : goal.returns-in_default
returns-in_default g c =
    let none : length c.args.lanes.now ≡ 0 = search rules in
    record { joined = none_join c.args.store.now c.args.lanes.now c.args.lanes.now none refl }
