use Rattle.std.proofs.Common.{◌+◌, refl, ap, sym, ◌∙◌}
use Rattle.ext_lifecycle.specs.InnerTotals.{total_in, with_closes, with_faults}
use Rattle.ext_lifecycle.proofs.Tallying.{closed-total, faults-none, faults-some, lacked-total, result_of-ended}
use Rattle.ext_lifecycle.proofs.tally.Tally.result.Goals as goal
use Rattle.ext_lifecycle.proofs.tally.Tally.result.Goals.{in-Some, in_default}

pub returns : goal.returns
returns c = λ os cs is counted.
    let t = c.args.self in
    let closes = c.args.closes in
    let closed = c.from-2.ensures ∙ ap (λ x. x.closed) counted in
    elim c.match-first_fault.branch [
      | in-Some w ↦
          let total = ap total_in w.tally-is ∙ ap (λ u. with_faults u w.from.result) w.add_fault.ensures.total
          ∙ ap (λ f. with_closes (total_in t) f w.from.result) (sym w.in-Some.is) ∙ ap (with_closes (total_in t) closes.first_fault) w.from.ensures in
          let failed = w.close_faults-is ∙ ap (λ n. 1 + n) w.from-close_faults.ensures in
          result_of-ended c.args.node c.args.is_test os cs _ refl refl (closed-total t closes os cs _ is counted total)
          (ap (λ x. x.computed) w.tally-is ∙ w.add_fault.ensures.computed ∙ ap (λ x. x.computed) is) (ap (λ x. x.found) w.tally-is ∙ w.add_fault.ensures.found ∙ ap (λ x. x.found) is)
          closed (faults-some closes cs w.in-Some.fault _ counted w.in-Some.is failed) (lacked-total t closes os cs is counted)
      | in_default w ↦
          let total = ap total_in w.tally-is ∙ ap (λ f. with_closes (total_in t) f closes.more_faults) (sym w.in_default.is) in
          result_of-ended c.args.node c.args.is_test os cs _ refl refl (closed-total t closes os cs _ is counted total)
          (ap (λ x. x.computed) w.tally-is ∙ ap (λ x. x.computed) is) (ap (λ x. x.found) w.tally-is ∙ ap (λ x. x.found) is)
          closed (w.close_faults-is ∙ faults-none closes cs counted w.in_default.is) (lacked-total t closes os cs is counted)
    ]
