use Rattle.std.proofs.Common.{◌≡◌, ◌<◌, refl, sym, ap, ◌∙◌, arith}
use Rattle.ext_cells.specs.Lanes.{Lane}
use Rattle.ext_cells.proofs.Tries.{steps_on}
use Rattle.ext_cells.proofs.Drawing.{first_count, full_now, then_full, drew, drew_storing, drew_within, drew_steps, not_drawn}
use Rattle.ext_cells.proofs.cells.Cells.next_number.Goals as goal

-- ---- no number was left

pub returns-then-count-most-clause-reply : goal.returns-then-count-most-clause-reply
returns-then-count-most-clause-reply c =
    let index : c.self.inside.limits.cells ≡ c.args.lane.now.cells.limits.cells = ap (λ z. z.id.limits.cells) c.self.view_is ∙ ap (λ z. z.limits.cells) (sym c.requires.lane) in
    let limit : c.args.lane.now.cells.limits.numbers ≡ c.self.inside.limits.numbers = ap (λ z. z.limits.numbers) c.requires.lane ∙ ap (λ z. z.id.limits.numbers) (sym c.self.view_is) in
    let from = c.from-most.ensures in
    let t = first_count c.args.lane.now c.read-count.new.lane _ c.read-count.result index c.read-count.ensures.found in
    let most = c.if-count-most.true in
    full_now c.args.lane.now c.read-count.new.lane c.read-count.result 0 t c.args.self.now.tries (omega (arith, limit, from, most))

pub returns-then-count-most-clause-contended : goal.returns-then-count-most-clause-contended
returns-then-count-most-clause-contended c e = absurd (cc e)

pub returns-then-count-most-clause-lane : goal.returns-then-count-most-clause-lane
returns-then-count-most-clause-lane c =
    let index : c.self.inside.limits.cells ≡ c.args.lane.now.cells.limits.cells = ap (λ z. z.id.limits.cells) c.self.view_is ∙ ap (λ z. z.limits.cells) (sym c.requires.lane) in
    let t = first_count c.args.lane.now c.read-count.new.lane _ c.read-count.result index c.read-count.ensures.found in
    t.cells

pub returns-then-count-most-clause-within : goal.returns-then-count-most-clause-within
returns-then-count-most-clause-within c = tt

pub returns-then-count-most-clause-fresh : goal.returns-then-count-most-clause-fresh
returns-then-count-most-clause-fresh c = tt

pub returns-then-count-most-clause-storable : goal.returns-then-count-most-clause-storable
returns-then-count-most-clause-storable c = tt

pub returns-then-count-most-clause-steps : goal.returns-then-count-most-clause-steps
returns-then-count-most-clause-steps c =
    let index : c.self.inside.limits.cells ≡ c.args.lane.now.cells.limits.cells = ap (λ z. z.id.limits.cells) c.self.view_is ∙ ap (λ z. z.limits.cells) (sym c.requires.lane) in
    let tries : c.self.inside.tries ≡ c.args.self.now.tries = ap (λ z. z.tries) c.self.view_is in
    let least = c.self.invariant.4 in
    let t = first_count c.args.lane.now c.read-count.new.lane _ c.read-count.result index c.read-count.ensures.found in
    let steps = steps_on _ _ _ _ _ t in
    omega (arith, tries, least, steps)

-- ---- one was left

pub draw-requires-clause-left : goal.draw-requires-clause-left
draw-requires-clause-left c =
    let index : c.self.inside.limits.cells ≡ c.args.lane.now.cells.limits.cells = ap (λ z. z.id.limits.cells) c.self.view_is ∙ ap (λ z. z.limits.cells) (sym c.requires.lane) in
    let limit : c.args.lane.now.cells.limits.numbers ≡ c.self.inside.limits.numbers = ap (λ z. z.limits.numbers) c.requires.lane ∙ ap (λ z. z.id.limits.numbers) (sym c.self.view_is) in
    let from = c.from-most.ensures in
    let t = first_count c.args.lane.now c.read-count.new.lane _ c.read-count.result index c.read-count.ensures.found in
    let less = c.if-count-most.false in
    let drawn = t.tries.word_is.count refl in
    let own = ap (λ z. z.limits.numbers) c.requires.lane in
    omega (arith, limit, from, less, drawn, own)

pub returns-in-Some-clause-reply : goal.returns-in-Some-clause-reply
returns-in-Some-clause-reply c =
    let index : c.self.inside.limits.cells ≡ c.args.lane.now.cells.limits.cells = ap (λ z. z.id.limits.cells) c.self.view_is ∙ ap (λ z. z.limits.cells) (sym c.requires.lane) in
    let t = first_count c.args.lane.now c.read-count.new.lane _ c.read-count.result index c.read-count.ensures.found in
    drew c.args.lane.now c.read-count.new.lane c.read-count.result 0 t c.draw.new.lane c.in-Some.number c.in-Some.ensures.drew c.args.self.now.tries

pub returns-in-Some-clause-contended : goal.returns-in-Some-clause-contended
returns-in-Some-clause-contended c e = absurd (cc e)

pub returns-in-Some-clause-lane : goal.returns-in-Some-clause-lane
returns-in-Some-clause-lane c =
    let index : c.self.inside.limits.cells ≡ c.args.lane.now.cells.limits.cells = ap (λ z. z.id.limits.cells) c.self.view_is ∙ ap (λ z. z.limits.cells) (sym c.requires.lane) in
    let t = first_count c.args.lane.now c.read-count.new.lane _ c.read-count.result index c.read-count.ensures.found in
    ap (λ (l : Lane). l.cells) c.in-Some.ensures.drew.after_is ∙ t.cells

pub returns-in-Some-clause-within : goal.returns-in-Some-clause-within
returns-in-Some-clause-within c =
    let index : c.self.inside.limits.cells ≡ c.args.lane.now.cells.limits.cells = ap (λ z. z.id.limits.cells) c.self.view_is ∙ ap (λ z. z.limits.cells) (sym c.requires.lane) in
    let t = first_count c.args.lane.now c.read-count.new.lane _ c.read-count.result index c.read-count.ensures.found in
    let within = drew_within c.args.lane.now c.read-count.new.lane c.read-count.result 0 t c.draw.new.lane c.in-Some.number c.in-Some.ensures.drew in
    let most = within.1 in
    let own = ap (λ z. z.limits.numbers) c.requires.lane in
    (within.0, omega (arith, most, own))

pub returns-in-Some-clause-fresh : goal.returns-in-Some-clause-fresh
returns-in-Some-clause-fresh c other there =
    let index : c.self.inside.limits.cells ≡ c.args.lane.now.cells.limits.cells = ap (λ z. z.id.limits.cells) c.self.view_is ∙ ap (λ z. z.limits.cells) (sym c.requires.lane) in
    let t = first_count c.args.lane.now c.read-count.new.lane _ c.read-count.result index c.read-count.ensures.found in
    not_drawn c.args.lane.now c.read-count.new.lane c.read-count.result 0 t c.draw.new.lane c.in-Some.number c.in-Some.ensures.drew other there

pub returns-in-Some-clause-storable : goal.returns-in-Some-clause-storable
returns-in-Some-clause-storable c =
    let index : c.self.inside.limits.cells ≡ c.args.lane.now.cells.limits.cells = ap (λ z. z.id.limits.cells) c.self.view_is ∙ ap (λ z. z.limits.cells) (sym c.requires.lane) in
    let t = first_count c.args.lane.now c.read-count.new.lane _ c.read-count.result index c.read-count.ensures.found in
    drew_storing c.args.lane.now c.read-count.new.lane c.read-count.result 0 t c.draw.new.lane c.in-Some.number c.in-Some.ensures.drew c.args.self.now.tries

pub returns-in-Some-clause-steps : goal.returns-in-Some-clause-steps
returns-in-Some-clause-steps c =
    let index : c.self.inside.limits.cells ≡ c.args.lane.now.cells.limits.cells = ap (λ z. z.id.limits.cells) c.self.view_is ∙ ap (λ z. z.limits.cells) (sym c.requires.lane) in
    let tries : c.self.inside.tries ≡ c.args.self.now.tries = ap (λ z. z.tries) c.self.view_is in
    let least = c.self.invariant.4 in
    let t = first_count c.args.lane.now c.read-count.new.lane _ c.read-count.result index c.read-count.ensures.found in
    let steps = drew_steps c.args.lane.now c.read-count.new.lane c.read-count.result 0 t c.draw.new.lane c.in-Some.number c.in-Some.ensures.drew in
    omega (arith, tries, least, steps)

-- ---- none was left when the lane drew

pub returns-in-None-clause-reply : goal.returns-in-None-clause-reply
returns-in-None-clause-reply c =
    let index : c.self.inside.limits.cells ≡ c.args.lane.now.cells.limits.cells = ap (λ z. z.id.limits.cells) c.self.view_is ∙ ap (λ z. z.limits.cells) (sym c.requires.lane) in
    let limit : c.args.lane.now.cells.limits.numbers ≡ c.self.inside.limits.numbers = ap (λ z. z.limits.numbers) c.requires.lane ∙ ap (λ z. z.id.limits.numbers) (sym c.self.view_is) in
    let from = c.from-most.ensures in
    let t = first_count c.args.lane.now c.read-count.new.lane _ c.read-count.result index c.read-count.ensures.found in
    let less = c.if-count-most.false in
    let room : c.read-count.result < c.args.lane.now.cells.limits.numbers = omega (arith, limit, from, less) in
    let u = then_full c.args.lane.now c.read-count.new.lane c.read-count.result 0 t c.draw.new.lane room c.in-None.ensures.full in
    full_now c.args.lane.now c.draw.new.lane c.args.lane.now.cells.limits.numbers 1 u c.args.self.now.tries (omega arith)

pub returns-in-None-clause-contended : goal.returns-in-None-clause-contended
returns-in-None-clause-contended c e = absurd (cc e)

pub returns-in-None-clause-lane : goal.returns-in-None-clause-lane
returns-in-None-clause-lane c =
    let index : c.self.inside.limits.cells ≡ c.args.lane.now.cells.limits.cells = ap (λ z. z.id.limits.cells) c.self.view_is ∙ ap (λ z. z.limits.cells) (sym c.requires.lane) in
    let limit : c.args.lane.now.cells.limits.numbers ≡ c.self.inside.limits.numbers = ap (λ z. z.limits.numbers) c.requires.lane ∙ ap (λ z. z.id.limits.numbers) (sym c.self.view_is) in
    let from = c.from-most.ensures in
    let t = first_count c.args.lane.now c.read-count.new.lane _ c.read-count.result index c.read-count.ensures.found in
    let less = c.if-count-most.false in
    let room : c.read-count.result < c.args.lane.now.cells.limits.numbers = omega (arith, limit, from, less) in
    let u = then_full c.args.lane.now c.read-count.new.lane c.read-count.result 0 t c.draw.new.lane room c.in-None.ensures.full in
    u.cells

pub returns-in-None-clause-within : goal.returns-in-None-clause-within
returns-in-None-clause-within c = tt

pub returns-in-None-clause-fresh : goal.returns-in-None-clause-fresh
returns-in-None-clause-fresh c = tt

pub returns-in-None-clause-storable : goal.returns-in-None-clause-storable
returns-in-None-clause-storable c = tt

pub returns-in-None-clause-steps : goal.returns-in-None-clause-steps
returns-in-None-clause-steps c =
    let index : c.self.inside.limits.cells ≡ c.args.lane.now.cells.limits.cells = ap (λ z. z.id.limits.cells) c.self.view_is ∙ ap (λ z. z.limits.cells) (sym c.requires.lane) in
    let limit : c.args.lane.now.cells.limits.numbers ≡ c.self.inside.limits.numbers = ap (λ z. z.limits.numbers) c.requires.lane ∙ ap (λ z. z.id.limits.numbers) (sym c.self.view_is) in
    let from = c.from-most.ensures in
    let tries : c.self.inside.tries ≡ c.args.self.now.tries = ap (λ z. z.tries) c.self.view_is in
    let least = c.self.invariant.4 in
    let t = first_count c.args.lane.now c.read-count.new.lane _ c.read-count.result index c.read-count.ensures.found in
    let less = c.if-count-most.false in
    let room : c.read-count.result < c.args.lane.now.cells.limits.numbers = omega (arith, limit, from, less) in
    let u = then_full c.args.lane.now c.read-count.new.lane c.read-count.result 0 t c.draw.new.lane room c.in-None.ensures.full in
    let steps = steps_on _ _ _ _ _ u in
    omega (arith, tries, least, steps)
