use Rattle.std.proofs.Common.{◌≡◌, ℕ, [], ◌∷◌, sym, ◌∙◌, refl, subst, arith, rules}
use Rattle.std.specs.Prelude.{Some, slice_get}
use Rattle.ext_crew.specs.InnerCounter.{IsDrawing, HasDrawn, Took, done_by}
use Rattle.ext_crew.specs.declared.jobs.job.Job.{Job}
use Rattle.ext_crew.specs.declared.jobs.slot.Slot.TheVariants as slot
use Rattle.std.proofs.lemmas.Option.{slice_get_within}
use Rattle.ext_crew.proofs.Draws.{may_load, may_draw, goes_on, if_both}
use Rattle.ext_crew.proofs.jobs.counter.draw.Goals as goal

pub load-number-requires : goal.load-number-requires
load-number-requires g c = (c.requires.table, (let words = c.requires.counter.0 in omega (arith, words)), may_load c.args.counter.now.key.value.items _ _ c.args.hand.now.me c.requires.drawing)

pub compare_exchange-found-requires : goal.compare_exchange-found-requires
compare_exchange-found-requires g c =
    let I = c.loop.invariant in
    let items = c.args.counter.now.key.value.items in
    let drawing = subst (λ m. IsDrawing items m) (sym (I.1 ∙ c.load-number.ensures.2.same)) c.requires.drawing in
    (I.0 ∙ (c.load-number.ensures.0 ∙ c.requires.table), (let words = c.requires.counter.0 in omega (arith, words)), may_draw items _ _ c.loop.hand.me drawing c.loop.number _ refl)

pub returns-then-found-number-clause-drawn : goal.returns-then-found-number-clause-drawn
returns-then-found-number-clause-drawn g c =
    let I = c.loop.invariant in
    let items = c.args.counter.now.key.value.items in
    let same_me = I.1 ∙ c.load-number.ensures.2.same in
    let drawing = subst (λ m. IsDrawing items m) (sym same_me) c.requires.drawing in
    let found = c.compare_exchange-found in
    let took : Took c.loop.hand.me found.result found.new.seat.me = search rules in
    let J : Job g.row.T.Denot → Type 0 = λ job. (job.index ≡ c.loop.number) × (slice_get items c.loop.number ≡ Some job.item) in
    let S : Job g.row.T.Denot → Type 0 = λ job. c.take_job.new.hand.me.1 ≡ (c.loop.number, slot.Empty) ∷ [] in
    let R : Job g.row.T.Denot → Type 0 = λ job. HasDrawn items c.take_job.new.hand.me (done_by c.args.hand.now.me) job.index in
    let N : ℕ → Type 0 = λ n. HasDrawn items c.take_job.new.hand.me (done_by c.args.hand.now.me) n in
    let same : found.result ≡ c.loop.number = search rules in
    let X : ℕ → Type 0 = λ n. Took c.loop.hand.me n found.new.seat.me in
    if_both J S R c.take_job.result
    (λ job is holds.
    let now = goes_on items c.args.hand.now.id c.args.hand.now.id c.loop.hand.me drawing c.loop.number found.new.seat.me (subst X same took) c.take_job.new.hand.me c.take_job.ensures.view holds (slice_get_within items c.loop.number job.item is.1) in
    subst N (sym is.0) (subst (λ m. HasDrawn items c.take_job.new.hand.me (done_by m) c.loop.number) same_me now))
    c.take_job.ensures.job c.take_job.ensures.slot
