use Rattle.std.proofs.Common.{◌+◌, ◌∙◌, [], ap, refl, sym, append-nil, arith}
use Rattle.std.specs.Prelude.{◌==◌}
use Rattle.std.proofs.lemmas.Bool.{ne_eqb}
use Rattle.ext_races.specs.InnerMade.{counted, made_views}
use Rattle.ext_races.proofs.After.{counted_later, counted_start, left_more, made_more}
use Rattle.ext_races.proofs.made.push_steps.Goals as goal

pub loop-at-init : goal.loop-at-init
loop-at-init c = record { made = sym (append-nil (made_views [] c.args.made.now.items)); counts = counted_start c.args.begins (0 == 0) c.args.made.now.items refl }

pub loop-at-preserved : goal.loop-at-preserved
loop-at-preserved c =
    let old = c.args.made.now.items in
    let made = c.loop-at.made.items in
    let after = c.push.new.self.items in
    let at = c.loop-at.at in
    let step = c.index-steps-at.result in
    let counts = ap (λ b. counted b made) c.still-first.ensures ∙ c.loop-at.invariant.counts in
    let before = counted c.args.begins old in
    record {
      made = made_more before made after _ c.args.node c.args.steps.now at step c.still-first.result (omega arith) c.index-steps-at.is refl refl c.in_ok-push.ensures.items counts (made_views [] old) c.loop-at.invariant.made;
      counts = counted_later c.args.begins ((at + 1) == 0) after (ne_eqb (at + 1) 0 (λ same. omega (arith, same)))
          ∙ left_more before made after _ c.args.node c.args.steps.now at step c.still-first.result (omega arith) c.index-steps-at.is refl refl c.in_ok-push.ensures.items counts;
    }
