use Rattle.ext_plan.proofs.Declared.{Answer, declared_keys, declared_few, one_too_many}
use Rattle.ext_plan.proofs.keys.declare.Goals as goal

answer : (c : goal.After-declare) → Answer c.args.directory.now c.declare.new.self c.in_ok-key.key c.args.most c.declare.result
answer c = record { again = c.declare.ensures.again; added = c.declare.ensures.added; full = λ missing all. c.declare.ensures.full.1 (missing, all) }

pub returns-clause-keys : goal.returns-clause-keys
returns-clause-keys c = rw (← c.in_ok-key.ensures.value) (declared_keys _ _ _ _ c.declare.result (answer c))

pub returns-clause-few : goal.returns-clause-few
returns-clause-few c = declared_few _ _ _ _ c.declare.result c.requires.few (answer c)

pub returns-clause-full : goal.returns-clause-full
returns-clause-full c = λ h. let full = c.declare.ensures.full.0 h in rw (← c.in_ok-key.ensures.value) (one_too_many _ _ _ full.0 full.1)
