use Rattle.std.proofs.Common.{◌≡◌, ◌≤◌, Err, length, ap, subst, ◌∙◌}
use Rattle.ext_tree.specs.declared.fault.TreeFault.TheVariants.{TooMany}
use Rattle.std.specs.Prelude.{OnOk}
use Rattle.ext_plan.specs.StoreKeys.{with_key}
use Rattle.ext_plan.proofs.Declared.{Answer, declared_keys, declared_few, one_too_many}
use Rattle.ext_lint.proofs.keys.declare.Goals as goal

pub returns-in-Ok : goal.returns-in-Ok
returns-in-Ok c =
    let old = c.args.directory.now in
    let new = c.declare.new.self in
    let answer : Answer old new c.args.key 1024 c.declare.result = record { again = c.declare.ensures.again; added = c.declare.ensures.added; full = λ missing all. c.declare.ensures.full.1 (missing, all) } in
    let keys : new ≡ with_key old c.args.key = subst (λ r. OnOk r (new ≡ with_key old c.args.key)) c.in-Ok.is (declared_keys old new c.args.key 1024 c.declare.result answer) in
    let few : length new ≤ 1024 = subst (λ r. OnOk r (length new ≤ 1024)) c.in-Ok.is (declared_few old new c.args.key 1024 c.declare.result c.requires.few answer) in
    record { keys = keys; few = few; full = λ h. absurd cc }

pub returns-in-Err : goal.returns-in-Err
returns-in-Err c = record {
  keys = tt;
  few = tt;
  full = λ h. let full = c.declare.ensures.full.0 (c.in-Err.is ∙ ap Err (let e : c.in-Err.fault ≡ TooMany = cc in e)) in one_too_many c.args.directory.now c.args.key 1024 full.0 full.1;
}
