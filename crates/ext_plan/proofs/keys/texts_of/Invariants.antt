use Rattle.std.proofs.Common.{◌≡◌, map, take, string_bytes}
use Rattle.ext_plan.proofs.keys.texts_of.Given as goal

abbrev pub invariant-loop-text : goal.invariant-loop-text
invariant-loop-text l = map (λ t. t.now) l.list.items ≡ map string_bytes (take l.text-index l.texts)
