use Rattle.std.proofs.Common.{◌≡◌, ◌≤◌, Contains, Err, length, ap, refl, subst, sym, ◌∙◌}
use Rattle.ext_tree.specs.declared.fault.TreeFault.TheVariants.{TooMany}
use Rattle.std.specs.Prelude.{not, ◌==◌, OnOk}
use Rattle.ext_plan.specs.StoreKeys.{with_key}
use Rattle.ext_plan.proofs.KeyLists.{with_old}
use Rattle.ext_plan.proofs.Declared.{Answer, declared_keys, declared_few, one_too_many}
use Rattle.ext_races.proofs.Above.{number_is, there_number}
use Rattle.ext_races.proofs.Named.{added}
use Rattle.ext_races.proofs.naming.declare.Goals as goal

pub returns-in-Ok : goal.returns-in-Ok
returns-in-Ok c =
    let old = c.args.directory.now in
    let new = c.declare.new.self in
    let is = c.in_ok-copy.ensures.cases in
    let answer : Answer old new c.args.key.now c.args.most c.declare.result = subst (λ k. Answer old new k c.args.most c.declare.result) is (record { again = c.declare.ensures.again; added = c.declare.ensures.added; full = λ missing all. c.declare.ensures.full.1 (missing, all) }) in
    let keys : new ≡ with_key old c.args.key.now = subst (λ r. OnOk r (new ≡ with_key old c.args.key.now)) c.in-Ok.is (declared_keys old new c.args.key.now c.args.most c.declare.result answer) in
    let few : length new ≤ c.args.most = subst (λ r. OnOk r (length new ≤ c.args.most)) c.in-Ok.is (declared_few old new c.args.key.now c.args.most c.declare.result c.requires.few answer) in
    let says : not (c.len.result == c.len-before.result) ≡ not (length new == length old) = rw (c.len.ensures.count, c.len-before.ensures.count) refl in
    record { keys = keys; added = added old new c.args.key.now _ keys says; few = few; full = λ h. absurd cc }

pub returns-in-Err : goal.returns-in-Err
returns-in-Err c = record {
  keys = tt;
  added = tt;
  few = tt;
  full = λ h. let full = c.declare.ensures.full.0 (c.in-Err.is ∙ ap Err (let e : c.in-Err.fault ≡ TooMany = cc in e)) in
      one_too_many c.args.directory.now c.args.key.now c.args.most (λ there. full.0 (subst (Contains c.args.directory.now) (sym c.in_ok-copy.ensures.cases) there)) full.1;
}

pub returns-then-is_some : goal.returns-then-is_some
returns-then-is_some c =
    let directory = c.args.directory.now in
    let key = c.args.key.now in
    let there = there_number directory key c.number_of.result (number_is directory key c.number_of.result c.number_of.ensures.found c.number_of.ensures.absent) (sym c.is_some.ensures ∙ c.if-is_some.true) in
    record { keys = sym (with_old directory key there); added = refl; few = c.requires.few; full = λ h. absurd cc }
