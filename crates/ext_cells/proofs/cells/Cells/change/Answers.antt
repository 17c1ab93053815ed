use Rattle.std.proofs.Common.{◌≡◌, ◌<◌, ◌^◌, sym, ap, ◌∙◌, subst, arith}
use Rattle.ext_cells.specs.Lanes.{Lane}
use Rattle.ext_cells.proofs.Tries.{first_on, next_on, overtaken, steps_next}
use Rattle.ext_cells.proofs.Rising.{own_cell}
use Rattle.ext_cells.proofs.Changing.{place_is, index_in_is, word_now, act_now, may_change, changed, done, would_happen, settled_otherwise}
use Rattle.ext_cells.proofs.cells.Cells.change.Goals as goal

pub loop-init : goal.loop-init
loop-init c =
    let few : c.args.lane.now.cells.limits.numbers < 2 ^ 20 = subst (λ z. z.limits.numbers < 2 ^ 20) (sym c.requires.lane) c.read-word.ensures.numbers in
    let less : c.args.cell < c.args.lane.now.cells.limits.cells = subst (λ z. c.args.cell < z.limits.cells) (sym c.requires.lane) c.requires.cell in
    let f = c.read-word.ensures.found in first_on _ _ _ _ f.0 (omega (arith, less)) f.1 f.2

pub decide-requires-clause-word : goal.decide-requires-clause-word
decide-requires-clause-word c =
    let few : c.args.lane.now.cells.limits.numbers < 2 ^ 20 = subst (λ z. z.limits.numbers < 2 ^ 20) (sym c.requires.lane) c.read-word.ensures.numbers in
    let less : c.args.cell < c.args.lane.now.cells.limits.cells = subst (λ z. c.args.cell < z.limits.cells) (sym c.requires.lane) c.requires.cell in
    word_now c.args.lane.now c.loop.lane c.loop.word c.loop.counter c.args.cell c.args.act few less c.requires.act c.requires.number c.loop.invariant

pub decide-requires-clause-act : goal.decide-requires-clause-act
decide-requires-clause-act c =
    let few : c.args.lane.now.cells.limits.numbers < 2 ^ 20 = subst (λ z. z.limits.numbers < 2 ^ 20) (sym c.requires.lane) c.read-word.ensures.numbers in
    let less : c.args.cell < c.args.lane.now.cells.limits.cells = subst (λ z. c.args.cell < z.limits.cells) (sym c.requires.lane) c.requires.cell in
    act_now c.args.lane.now c.loop.lane c.loop.word c.loop.counter c.args.cell c.args.act few less c.requires.act c.requires.number c.loop.invariant

pub returns-in-Done-clause-reply : goal.returns-in-Done-clause-reply
returns-in-Done-clause-reply c =
    let few : c.args.lane.now.cells.limits.numbers < 2 ^ 20 = subst (λ z. z.limits.numbers < 2 ^ 20) (sym c.requires.lane) c.read-word.ensures.numbers in
    let less : c.args.cell < c.args.lane.now.cells.limits.cells = subst (λ z. c.args.cell < z.limits.cells) (sym c.requires.lane) c.requires.cell in
    done c.args.lane.now c.loop.lane c.loop.word c.loop.counter c.args.cell c.args.act few less c.requires.act c.requires.number c.loop.invariant _ c.in-Done.reply c.in-Done.ensures

pub returns-in-Done-clause-contended : goal.returns-in-Done-clause-contended
returns-in-Done-clause-contended c e =
    let few : c.args.lane.now.cells.limits.numbers < 2 ^ 20 = subst (λ z. z.limits.numbers < 2 ^ 20) (sym c.requires.lane) c.read-word.ensures.numbers in
    let less : c.args.cell < c.args.lane.now.cells.limits.cells = subst (λ z. c.args.cell < z.limits.cells) (sym c.requires.lane) c.requires.cell in
    absurd (settled_otherwise c.args.lane.now c.loop.lane c.loop.word c.loop.counter c.args.cell c.args.act few less c.requires.act c.requires.number c.loop.invariant c.in-Done.reply c.in-Done.ensures e)

pub exchange-requires-clause-index : goal.exchange-requires-clause-index
exchange-requires-clause-index c = index_in_is c.args.self.now.id.limits c.args.cell c.args.act (place_is c.args.cell c.args.act c.requires.act)

pub exchange-requires-clause-may : goal.exchange-requires-clause-may
exchange-requires-clause-may c =
    let few : c.args.lane.now.cells.limits.numbers < 2 ^ 20 = subst (λ z. z.limits.numbers < 2 ^ 20) (sym c.requires.lane) c.read-word.ensures.numbers in
    let less : c.args.cell < c.args.lane.now.cells.limits.cells = subst (λ z. c.args.cell < z.limits.cells) (sym c.requires.lane) c.requires.cell in
    may_change c.args.lane.now c.loop.lane c.loop.word c.loop.counter c.args.cell c.args.act few less c.requires.act c.requires.number c.loop.invariant c.in-Change.next c.in-Change.stood c.in-Change.ensures

pub returns-in-Ok-clause-reply : goal.returns-in-Ok-clause-reply
returns-in-Ok-clause-reply c =
    let few : c.args.lane.now.cells.limits.numbers < 2 ^ 20 = subst (λ z. z.limits.numbers < 2 ^ 20) (sym c.requires.lane) c.read-word.ensures.numbers in
    let less : c.args.cell < c.args.lane.now.cells.limits.cells = subst (λ z. c.args.cell < z.limits.cells) (sym c.requires.lane) c.requires.cell in
    let m = c.in-Ok.ensures.made in
    changed c.args.lane.now c.loop.lane c.loop.word c.loop.counter c.args.cell c.args.act few less c.requires.act c.requires.number c.loop.invariant c.in-Change.next c.in-Change.stood c.in-Change.ensures c.args.self.now.tries c.exchange.new.lane m.0 m.1 (ap (λ (l : Lane). l.view) m.3)

pub loop-preserved : goal.loop-preserved
loop-preserved c = let m = c.in-Err.ensures.missed in next_on _ _ _ _ _ _ _ m.1.0 c.loop.invariant m.0 m.1.1 m.1.2

pub decide-requires-2-clause-word : goal.decide-requires-2-clause-word
decide-requires-2-clause-word c =
    let few : c.args.lane.now.cells.limits.numbers < 2 ^ 20 = subst (λ z. z.limits.numbers < 2 ^ 20) (sym c.requires.lane) c.read-word.ensures.numbers in
    let less : c.args.cell < c.args.lane.now.cells.limits.cells = subst (λ z. c.args.cell < z.limits.cells) (sym c.requires.lane) c.requires.cell in
    word_now c.args.lane.now c.loop.lane c.loop.word c.loop.counter c.args.cell c.args.act few less c.requires.act c.requires.number c.loop.invariant

pub decide-requires-2-clause-act : goal.decide-requires-2-clause-act
decide-requires-2-clause-act c =
    let few : c.args.lane.now.cells.limits.numbers < 2 ^ 20 = subst (λ z. z.limits.numbers < 2 ^ 20) (sym c.requires.lane) c.read-word.ensures.numbers in
    let less : c.args.cell < c.args.lane.now.cells.limits.cells = subst (λ z. c.args.cell < z.limits.cells) (sym c.requires.lane) c.requires.cell in
    act_now c.args.lane.now c.loop.lane c.loop.word c.loop.counter c.args.cell c.args.act few less c.requires.act c.requires.number c.loop.invariant

pub returns-in-Done-decide-clause-reply : goal.returns-in-Done-decide-clause-reply
returns-in-Done-decide-clause-reply c =
    let few : c.args.lane.now.cells.limits.numbers < 2 ^ 20 = subst (λ z. z.limits.numbers < 2 ^ 20) (sym c.requires.lane) c.read-word.ensures.numbers in
    let less : c.args.cell < c.args.lane.now.cells.limits.cells = subst (λ z. c.args.cell < z.limits.cells) (sym c.requires.lane) c.requires.cell in
    done c.args.lane.now c.loop.lane c.loop.word c.loop.counter c.args.cell c.args.act few less c.requires.act c.requires.number c.loop.invariant _ c.in-Done-decide.reply c.in-Done-decide.ensures

pub returns-in-Done-decide-clause-contended : goal.returns-in-Done-decide-clause-contended
returns-in-Done-decide-clause-contended c e =
    let few : c.args.lane.now.cells.limits.numbers < 2 ^ 20 = subst (λ z. z.limits.numbers < 2 ^ 20) (sym c.requires.lane) c.read-word.ensures.numbers in
    let less : c.args.cell < c.args.lane.now.cells.limits.cells = subst (λ z. c.args.cell < z.limits.cells) (sym c.requires.lane) c.requires.cell in
    absurd (settled_otherwise c.args.lane.now c.loop.lane c.loop.word c.loop.counter c.args.cell c.args.act few less c.requires.act c.requires.number c.loop.invariant c.in-Done-decide.reply c.in-Done-decide.ensures e)

pub returns-in-Change-decide-clause-contended : goal.returns-in-Change-decide-clause-contended
returns-in-Change-decide-clause-contended c e =
    let few : c.args.lane.now.cells.limits.numbers < 2 ^ 20 = subst (λ z. z.limits.numbers < 2 ^ 20) (sym c.requires.lane) c.read-word.ensures.numbers in
    let less : c.args.cell < c.args.lane.now.cells.limits.cells = subst (λ z. c.args.cell < z.limits.cells) (sym c.requires.lane) c.requires.cell in
    let tries : c.self.inside.tries ≡ c.args.self.now.tries = ap (λ z. z.tries) c.self.view_is in
    let all = c.loop-test.false in record {
      would_happen = would_happen c.args.lane.now c.loop.lane c.loop.word c.loop.counter c.args.cell c.args.act few less c.requires.act c.requires.number c.loop.invariant c.in-Change-decide.next c.in-Change-decide.stood c.in-Change-decide.ensures;
      own_word = own_cell c.args.lane.now.cells.limits _ _ c.args.cell c.loop.counter c.args.self.now.tries c.args.act (place_is c.args.cell c.args.act c.requires.act) less (omega (arith, tries, all)) c.loop.invariant.tries.rises;
    }

pub returns-in-Change-decide-clause-reply : goal.returns-in-Change-decide-clause-reply
returns-in-Change-decide-clause-reply c =
    let tries : c.self.inside.tries ≡ c.args.self.now.tries = ap (λ z. z.tries) c.self.view_is in
    let all = c.loop-test.false in
    overtaken c.args.lane.now.cells.limits c.args.lane.now.view c.loop.lane.view c.args.cell c.loop.word c.loop.counter c.loop.invariant.tries c.args.self.now.tries (omega (arith, tries, all))

-- ---- how many steps, and whose the lane stays

pub exchange-requires-clause-lane : goal.exchange-requires-clause-lane
exchange-requires-clause-lane c = c.loop.invariant.cells ∙ c.requires.lane

pub exchange-requires-clause-within : goal.exchange-requires-clause-within
exchange-requires-clause-within c = let less = c.requires.cell in omega (arith, less)

pub read-word-requires-clause-index : goal.read-word-requires-clause-index
read-word-requires-clause-index c = let less = c.requires.cell in omega (arith, less)

pub returns-in-Done-clause-lane : goal.returns-in-Done-clause-lane
returns-in-Done-clause-lane c = c.loop.invariant.cells

pub returns-in-Done-clause-steps : goal.returns-in-Done-clause-steps
returns-in-Done-clause-steps c =
    let tries : c.self.inside.tries ≡ c.args.self.now.tries = ap (λ z. z.tries) c.self.view_is in
    let steps = c.loop.invariant.tries.steps in
    let less = c.loop-test.true in omega (arith, tries, steps, less)

pub returns-in-Ok-clause-contended : goal.returns-in-Ok-clause-contended
returns-in-Ok-clause-contended c e = absurd (cc e)

pub returns-in-Ok-clause-lane : goal.returns-in-Ok-clause-lane
returns-in-Ok-clause-lane c = ap (λ (l : Lane). l.cells) c.in-Ok.ensures.made.3 ∙ c.loop.invariant.cells

pub returns-in-Ok-clause-steps : goal.returns-in-Ok-clause-steps
returns-in-Ok-clause-steps c =
    let tries : c.self.inside.tries ≡ c.args.self.now.tries = ap (λ z. z.tries) c.self.view_is in
    let m = c.in-Ok.ensures.made in
    let steps = steps_next c.args.lane.now c.loop.lane c.exchange.new.lane c.args.cell c.loop.word c.loop.counter m.0 c.args.act c.loop.invariant m.1 m.3 in
    let less = c.loop-test.true in omega (arith, tries, steps, less)

pub returns-in-Done-decide-clause-lane : goal.returns-in-Done-decide-clause-lane
returns-in-Done-decide-clause-lane c = c.loop.invariant.cells

pub returns-in-Done-decide-clause-steps : goal.returns-in-Done-decide-clause-steps
returns-in-Done-decide-clause-steps c =
    let tries : c.self.inside.tries ≡ c.args.self.now.tries = ap (λ z. z.tries) c.self.view_is in
    let steps = c.loop.invariant.tries.steps in
    let end = c.loop.auto.counter-end in omega (arith, tries, steps, end)

pub returns-in-Change-decide-clause-lane : goal.returns-in-Change-decide-clause-lane
returns-in-Change-decide-clause-lane c = c.loop.invariant.cells

pub returns-in-Change-decide-clause-steps : goal.returns-in-Change-decide-clause-steps
returns-in-Change-decide-clause-steps c =
    let tries : c.self.inside.tries ≡ c.args.self.now.tries = ap (λ z. z.tries) c.self.view_is in
    let steps = c.loop.invariant.tries.steps in
    let end = c.loop.auto.counter-end in omega (arith, tries, steps, end)
