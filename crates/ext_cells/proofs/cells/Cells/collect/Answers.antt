use Rattle.std.proofs.Common.{◌≡◌, ◌<◌, ◌^◌, sym, ap, ◌∙◌, subst, arith, refl, true≢false}
use Rattle.ext_model.specs.History.{IsLegal}
use Rattle.ext_history.specs.Histories.{seen_by}
use Rattle.ext_cells.specs.InnerPasses.{ReadPass}
use Rattle.ext_cells.proofs.Collecting.{passes_once, passes_again, passes_on, passes_overtaken, passes_legal, steps_within, steps_all, moment, stood}
use Rattle.ext_cells.proofs.cells.Cells.collect.Goals as goal

pub loop-init : goal.loop-init
loop-init c = record { cells = c.pass-words.ensures.lane; passes = passes_once _ _ _ _ _ c.pass-words.ensures.read }

pub pass-again-requires-clause-legal : goal.pass-again-requires-clause-legal
pass-again-requires-clause-legal c =
    subst (λ z. IsLegal z.limits (seen_by c.loop.lane.view)) (sym c.loop.invariant.cells) (passes_legal c.args.lane.now.cells.limits _ _ _ _ c.loop.counter c.requires.different c.loop.invariant.passes)

pub returns-then-same-clause-words : goal.returns-then-same-clause-words
returns-then-same-clause-words c =
    let same = rw c.if-same.true at c.same.ensures in
    let i = c.loop.invariant in
    let most = c.self.invariant.3 in
    let numbers : c.args.lane.now.cells.limits.numbers ≡ c.self.inside.limits.numbers = ap (λ z. z.limits.numbers) c.requires.lane ∙ ap (λ z. z.id.limits.numbers) (sym c.self.view_is) in
    let few : c.args.lane.now.cells.limits.numbers < 2 ^ 20 = omega (arith, most, numbers) in
    let read = subst (λ z. ReadPass z.limits c.loop.lane.view c.pass-again.new.lane.view c.args.cells.now c.pass-again.result) i.cells c.pass-again.ensures.read in
    stood c.args.lane.now.cells.limits _ _ _ _ _ _ c.loop.counter i.passes read (same.0 refl) few c.args.lane.now c.pass-again.new.lane refl refl refl

pub returns-then-same-clause-moment : goal.returns-then-same-clause-moment
returns-then-same-clause-moment c =
    let same = rw c.if-same.true at c.same.ensures in
    let i = c.loop.invariant in
    let most = c.self.invariant.3 in
    let numbers : c.args.lane.now.cells.limits.numbers ≡ c.self.inside.limits.numbers = ap (λ z. z.limits.numbers) c.requires.lane ∙ ap (λ z. z.id.limits.numbers) (sym c.self.view_is) in
    let few : c.args.lane.now.cells.limits.numbers < 2 ^ 20 = omega (arith, most, numbers) in
    let read = subst (λ z. ReadPass z.limits c.loop.lane.view c.pass-again.new.lane.view c.args.cells.now c.pass-again.result) i.cells c.pass-again.ensures.read in
    moment c.args.lane.now.cells.limits _ _ _ _ _ _ c.loop.counter i.passes read (same.0 refl) few

pub returns-then-same-clause-steps : goal.returns-then-same-clause-steps
returns-then-same-clause-steps c =
    let i = c.loop.invariant in
    let tries : c.self.inside.tries ≡ c.args.self.now.tries = ap (λ z. z.tries) c.self.view_is in
    let less = c.loop-test.true in
    let read = subst (λ z. ReadPass z.limits c.loop.lane.view c.pass-again.new.lane.view c.args.cells.now c.pass-again.result) i.cells c.pass-again.ensures.read in
    steps_within c.args.lane.now.cells.limits _ _ _ _ _ _ c.loop.counter i.passes read _ (omega (arith, tries, less))

pub loop-preserved : goal.loop-preserved
loop-preserved c =
    let same = rw c.if-same.false at c.same.ensures in
    let i = c.loop.invariant in
    let read = subst (λ z. ReadPass z.limits c.loop.lane.view c.pass-again.new.lane.view c.args.cells.now c.pass-again.result) i.cells c.pass-again.ensures.read in record {
      cells = c.pass-again.ensures.lane ∙ i.cells;
      passes = passes_again c.args.lane.now.cells.limits _ _ _ _ _ _ c.loop.counter i.passes read (λ e. true≢false (sym (same.1 e)));
    }

pub returns-clause-words : goal.returns-clause-words
returns-clause-words c =
    let tries : c.self.inside.tries ≡ c.args.self.now.tries = ap (λ z. z.tries) c.self.view_is in
    let all = c.loop-test.false in
    (refl, passes_overtaken c.args.lane.now.cells.limits _ _ _ _ c.loop.counter c.requires.different c.loop.invariant.passes _ (omega (arith, tries, all)))

pub returns-clause-contended : goal.returns-clause-contended
returns-clause-contended c =
    let tries : c.self.inside.tries ≡ c.args.self.now.tries = ap (λ z. z.tries) c.self.view_is in
    let all = c.loop-test.false in
    passes_on c.args.lane.now.cells.limits _ _ _ _ c.loop.counter c.requires.different c.loop.invariant.passes _ (omega (arith, tries, all))

pub returns-clause-steps : goal.returns-clause-steps
returns-clause-steps c =
    let tries : c.self.inside.tries ≡ c.args.self.now.tries = ap (λ z. z.tries) c.self.view_is in
    let end = c.loop.auto.counter-end in
    steps_all c.args.lane.now.cells.limits _ _ _ _ c.loop.counter c.requires.different c.loop.invariant.passes _ (omega (arith, tries, end))
