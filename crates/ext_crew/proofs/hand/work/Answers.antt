use Rattle.std.proofs.Common.{refl, ◌≡◌, ◌≤◌, ℕ, [], ◌∷◌, ◌++◌, List, length, ap, ◌∙◌, subst, sym, arith}
use Rattle.std.specs.Prelude.{Some, slice_get}
use Rattle.std.proofs.lemmas.List.{length_push}
use Rattle.ext_crew.specs.InnerCounter.{HasDrawn, done_by}
use Rattle.ext_crew.specs.Dealing.{Share, Runs, InTurn}
use Rattle.ext_crew.specs.declared.jobs.done.Done.{Done}
use Rattle.ext_crew.proofs.Draws.{idle_draws}
use Rattle.std.proofs.lemmas.Option.{slice_get_within}
use Rattle.ext_crew.proofs.Turns.{turn-step}
use Rattle.ext_crew.proofs.hand.work.Goals as goal

pub loop-job-init : goal.loop-job-init
loop-job-init g c =
    let items = c.args.counter.now.key.value.items in
    let none : done_by c.args.hand.now.me ≡ [] = ap done_by c.requires.ready.me in
    let s : Share g.row.A.Denot g.row.B.Denot = record { first = c.args.first.now; second = c.args.second.now } in
    let R : List (Done g.row.O.Denot) → Type 0 = λ l. InTurn (Runs g.F.Fn c.args.run.now items) l s s in
    let nothing : R [] = refl in
    record {
      same_table = c.requires.ready.same_table;
      drawing = idle_draws items c.args.hand.now.me c.requires.ready.me;
      few = (let n = ap length none in omega (arith, n));
      worked = subst R (sym none) nothing;
    }

pub put_outcome-requires-clause-drawn : goal.put_outcome-requires-clause-drawn
put_outcome-requires-clause-drawn g c =
    let items = c.args.counter.now.key.value.items in
    let me = c.draw.new.hand.me in
    let drew : HasDrawn items me (done_by c.loop-job.hand.me) c.in-Some.job.index = c.in-Some.ensures.drawn in
    let same : me.0.given ≡ done_by c.loop-job.hand.me = ap (λ m. m.0.given) drew.left in
    let D : List (Done g.row.O.Denot) → Type 0 = λ l. HasDrawn items me l c.in-Some.job.index in
    let J : ℕ → Type 0 = λ n. HasDrawn items me me.0.given n in
    subst J (sym c.run_job-done.ensures.job) (subst D (sym same) drew)

pub loop-job-preserved : goal.loop-job-preserved
loop-job-preserved g c =
    let I = c.loop-job.invariant in
    let items = c.args.counter.now.key.value.items in
    let old = done_by c.loop-job.hand.me in
    let new = done_by c.put_outcome.new.hand.me in
    let job = c.in-Some.job in
    let last = c.run_job-done.result in
    let drew : HasDrawn items c.draw.new.hand.me old job.index = c.in-Some.ensures.drawn in
    let G : List (Done g.row.O.Denot) → List (Done g.row.O.Denot) = λ l. l ++ last ∷ [] in
    let added : new ≡ old ++ last ∷ [] = c.put_outcome.ensures.done ∙ ap G (ap (λ m. m.0.given) drew.left) in
    let item : slice_get items job.index ≡ Some job.item = c.in-Some.ensures.item in
    let inside = slice_get_within items job.index job.item item in
    let later : length old ≤ job.index = c.in-Some.ensures.later in
    let size = c.requires.counter.1 in
    let longer : length new ≡ length (old ++ last ∷ []) = ap length added in
    let one = length_push old last in
    record {
      same_table = c.put_outcome.ensures.table ∙ (c.draw.ensures.table ∙ I.same_table);
      drawing = c.put_outcome.ensures.drawing;
      few = omega (arith, inside, later, size, longer, one);
      worked = turn-step g.F.Fn c.args.run.now items job old new last
          (record { first = c.args.first.now; second = c.args.second.now }) (record { first = c.loop-job.first; second = c.loop-job.second }) (record { first = c.run_job-done.new.first; second = c.run_job-done.new.second })
          item added c.run_job-done.ensures.job c.run_job-done.ensures.calls I.worked;
    }
