use Rattle.std.proofs.Common.{rules, ◌≡◌, ◌∷◌, List, length, refl, subst, sym}
use Rattle.ext_store.specs.Stores.{StoreLane}
use Rattle.ext_engine.specs.Meeting.{Forks}
use Rattle.ext_engine.proofs.Meets.{forks_of, none_fork}
use Rattle.ext_engine.proofs.meeting.fork.Goals as goal

pub returns-in-Some : goal.returns-in-Some
returns-in-Some g c =
    let st = c.args.store.now in
    record {
      forked = subst (λ (l : List (StoreLane g.row.V.Denot)). Forks st l (c.show_rest.new.first ∷ c.show_rest.new.others)) (sym c.in-Some.ensures.cases.0)
          (forks_of st c.in-Some.first.now c.show_rest.new.first c.in-Some.rest.now c.show_rest.new.others c.show_rest.ensures.met.0 c.show_rest.ensures.met.1 c.show_rest.ensures.shown);
    }

pub returns-in_default : goal.returns-in_default
returns-in_default g c =
    let none : length c.args.lanes.now ≡ 0 = search rules in
    record { forked = none_fork c.args.store.now c.args.lanes.now c.args.lanes.now none refl }
