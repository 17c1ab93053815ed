use Rattle.ext_plan_plain.proofs.Places.{first_in_range, none_in_range}
use Rattle.ext_plan_plain.proofs.place_store.PlaceStore.next_used.Goals as goal

pub returns-in-Some-clause-next : goal.returns-in-Some-clause-next
returns-in-Some-clause-next c = first_in_range c.args.self.now c.args.at c.args.from c.range.result _ c.in-Some.field-0.now (c.range.ensures.in_range tt) c.in-Some.ensures.steps

pub returns-in-None-clause-none : goal.returns-in-None-clause-none
returns-in-None-clause-none c = none_in_range c.args.self.now c.args.at c.args.from c.range.result (c.range.ensures.in_range tt) c.in-None.ensures.steps.0
