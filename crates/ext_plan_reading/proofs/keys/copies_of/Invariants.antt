use Rattle.std.proofs.Common.{◌≡◌, map, take}
use Rattle.ext_plan.specs.Plans.{texts_view}
use Rattle.ext_plan_reading.proofs.keys.copies_of.Given as goal

abbrev pub invariant-loop-text : goal.invariant-loop-text
invariant-loop-text l = texts_view l.copies ≡ map (λ t. t.now) (take l.text-index l.texts)
