use Rattle.std.proofs.Common.{rules, ◌≡◌, ◌∷◌, refl}
use Rattle.ext_engine.proofs.Putting.{has-index, put-one}
use Rattle.ext_engine.proofs.node.results.put_results.Goals as goal

pub index_mut-requires : goal.index_mut-requires
index_mut-requires c =
    let list : c.loop-result.result-iterator.rest.items ≡ c.in-Some.field-0 ∷ c.next.new.self.rest.items = search rules in
    let h = has-index _ _ _ _ c.in-Some.field-0 list c.loop-result.invariant.putting in search rules

pub loop-result-preserved-in-Some : goal.loop-result-preserved-in-Some
loop-result-preserved-in-Some c =
    let list : c.loop-result.result-iterator.rest.items ≡ c.in-Some.field-0 ∷ c.next.new.self.rest.items = search rules in
    record { can = tt; finite = tt; putting = put-one _ _ _ _ c.in-Some.field-0 list c.loop-result.invariant.putting _ refl }

pub loop-result-preserved-in-Some-2 : goal.loop-result-preserved-in-Some-2
loop-result-preserved-in-Some-2 c =
    let list : c.loop-result.result-iterator.rest.items ≡ c.in-Some.field-0 ∷ c.next.new.self.rest.items = search rules in
    record { can = tt; finite = tt; putting = put-one _ _ _ _ c.in-Some.field-0 list c.loop-result.invariant.putting _ refl }

pub loop-result-preserved : goal.loop-result-preserved
loop-result-preserved c =
    let list : c.loop-result.result-iterator.rest.items ≡ c.in-Some.field-0 ∷ c.next.new.self.rest.items = search rules in
    record { can = tt; finite = tt; putting = put-one _ _ _ _ c.in-Some.field-0 list c.loop-result.invariant.putting _ refl }
