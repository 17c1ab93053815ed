use Rattle.std.proofs.Common.{◌∙◌, arith, ap, map, not, refl, subst, sym}
use Rattle.std.proofs.lemmas.List.{length-map}
use Rattle.ext_plan.proofs.Lists.{map-push}
use Rattle.ext_plan_reading.proofs.LabelLists.{HasNumbers, is_known, pushed}
use Rattle.ext_plan_reading.proofs.labels.Labels.add.Goals as goal

pub returns-then-contains_key-clause-new : goal.returns-then-contains_key-clause-new
returns-then-contains_key-clause-new c =
    let known = is_known c.self.inside.numbers _ c.self.invariant c.args.label.now in
    rw (← c.self.view_is, ← known) (ap not c.if-contains_key.ensures)

pub returns-then-contains_key-clause-labels : goal.returns-then-contains_key-clause-labels
returns-then-contains_key-clause-labels c =
    let known = is_known c.self.inside.numbers _ c.self.invariant c.args.label.now in
    rw (← c.self.view_is, ← known, ← c.if-contains_key.ensures) refl

pub invariant_of-self-in-Ok : goal.invariant_of-self-in-Ok
invariant_of-self-in-Ok c =
    let known = is_known c.self.inside.numbers _ c.self.invariant c.args.label.now in
    let long = c.len-number.ensures in
    let within = c.self.inside.labels.ok.0 in
    let same = length-map c.self.inside.labels.items (λ l. l.now) in
    let all = pushed c.self.inside.numbers c.insert.new.self _ c.args.label.now c.len-number.result (omega (arith, long, within, same)) c.self.invariant (sym known ∙ sym c.if-contains_key.ensures) c.in-Ok.ensures.updates in
    subst (HasNumbers c.insert.new.self) (sym (ap (map (λ l. l.now)) c.in_ok-push.ensures.items ∙ map-push (λ l. l.now) c.self.inside.labels.items c.args.label)) all

pub returns-in-Ok-clause-new : goal.returns-in-Ok-clause-new
returns-in-Ok-clause-new c =
    let known = is_known c.self.inside.numbers _ c.self.invariant c.args.label.now in
    rw (← c.self.view_is, ← known) (ap not c.if-contains_key.ensures)

pub returns-in-Ok-clause-labels : goal.returns-in-Ok-clause-labels
returns-in-Ok-clause-labels c =
    let known = is_known c.self.inside.numbers _ c.self.invariant c.args.label.now in
    rw (← c.self.view_is, ← known, ← c.if-contains_key.ensures) (ap (map (λ l. l.now)) c.in_ok-push.ensures.items ∙ map-push (λ l. l.now) c.self.inside.labels.items c.args.label)
