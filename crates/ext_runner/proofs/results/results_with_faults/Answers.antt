use Rattle.std.proofs.Common.{◌≡◌, ◌∷◌, ◌++◌, ◌∙◌, ap, arith, filter, map, rules, sym, true}
use Rattle.std.proofs.lemmas.Grind.{common_steps}
use Rattle.ext_runner.specs.InnerTelling.{is_reported, without_faults}
use Rattle.ext_runner.proofs.Reported.{reported-more}
use Rattle.ext_runner.proofs.results.results_with_faults.Goals as goal

pub loop-ran-preserved-in_ok-push : goal.loop-ran-preserved-in_ok-push
loop-ran-preserved-in_ok-push c =
    let left : c.loop-ran.ran-iterator.rest.items ≡ c.in-Some.ran ∷ c.next.new.self.rest.items = search rules in
    let passes : is_reported c.args.count c.args.logs.now c.in-Some.ran ≡ true = search rules in
    record {
      can = tt;
      finite = tt;
      within = grind (arith, common_steps);
      same = reported-more (is_reported c.args.count c.args.logs.now) c.loop-ran.reported.items c.push.new.self.items c.next.new.self.rest.items c.in-Some.ran c.in_ok-with_all_faults.field-0 _ passes c.in_ok-with_all_faults.ensures c.in_ok-push.ensures.items
          (ap (λ left. map without_faults c.loop-ran.reported.items ++ map without_faults (filter (is_reported c.args.count c.args.logs.now) left)) (sym left) ∙ c.loop-ran.invariant.same);
    }
