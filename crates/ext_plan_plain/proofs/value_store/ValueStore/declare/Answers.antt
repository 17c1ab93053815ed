use Rattle.std.proofs.Common.{◌≡◌, ◌∙◌, ◌++◌, ◌∷◌, ◌≤◌, ◌<◌, [], length, inl, inr, refl, ap, sym, subst, arith, Contains}
use Rattle.std.proofs.lemmas.Bool.{le-ltb, lt-ltb}
use Rattle.ext_plan_plain.specs.InnerSteps.{state_view}
use Rattle.ext_plan_plain.specs.ValueStates.{next}
use Rattle.ext_plan_plain.proofs.Numberings.{found_is, is_full, is_next}
use Rattle.ext_plan_plain.proofs.value_store.ValueStore.declare.Goals as goal

pub returns-in-Some : goal.returns-in-Some
returns-in-Some c = inl (found_is (state_view c.args.self.now).places c.args.self.now.keys c.args.key.now c.in-Some.number c.number_of.result c.in-Some.is c.in-Some.ensures.number c.number_of.ensures.found, refl)

pub returns-then-len-self : goal.returns-then-len-self
returns-then-len-self c =
    let places = (state_view c.args.self.now).places in
    let keys = c.args.self.now.keys in
    let all : places ≤ length keys = omega (arith, c.len.ensures.count, c.if-len-self.true) in
    record { numbering = is_full places keys c.args.key.now (c.number_of.ensures.absent.0 c.in_default.is) (le-ltb (length keys) places all); reason = refl; state = refl }

pub returns-in_default-clone : goal.returns-in_default-clone
returns-in_default-clone c =
    let places = (state_view c.args.self.now).places in
    let keys = c.args.self.now.keys in
    let room : length keys < places = omega (arith, c.len.ensures.count, c.if-len-self.false) in
    record { number = length keys; numbering = is_next places keys c.args.key.now (c.number_of.ensures.absent.0 c.in_default.is) (lt-ltb (length keys) places room); lacks = refl; state = refl }

pub returns-in-Ok-declare : goal.returns-in-Ok-declare
returns-in-Ok-declare c =
    let places = (state_view c.args.self.now).places in
    let keys = c.args.self.now.keys in
    let key = c.args.key.now in
    let absent = c.number_of.ensures.absent.0 c.in_default.is in
    let room : length keys < places = omega (arith, c.len.ensures.count, c.if-len-self.false) in
    let added = subst (λ k. (Contains keys k → ⊥) → (c.in-Ok-declare.number ≡ length keys) × (c.declare.new.self ≡ keys ++ k ∷ [])) c.in-Ok.ensures.cases c.in-Ok-declare.ensures.added absent in
    inr (is_next places keys key absent (lt-ltb (length keys) places room) ∙ ap next (sym added.0), ap (λ ks. record (state_view c.args.self.now) { keys = ks }) added.1)

pub returns-in-Err : goal.returns-in-Err
returns-in-Err c =
    let places = (state_view c.args.self.now).places in
    let keys = c.args.self.now.keys in
    let room : length keys < places = omega (arith, c.len.ensures.count, c.if-len-self.false) in
    record {
      number = length keys;
      numbering = is_next places keys c.args.key.now (c.number_of.ensures.absent.0 c.in_default.is) (lt-ltb (length keys) places room);
      lacks = refl;
      state = ap (λ ks. record (state_view c.args.self.now) { keys = ks }) c.in-Err.ensures.unchanged;
    }
