use Rattle.std.proofs.Common.{◌∙◌, ap, sym}
use Rattle.std.specs.Prelude.{is_some}
use Rattle.ext_races.specs.InnerStanding.{compute_at, compute_view}
use Rattle.ext_races.proofs.Above.{compute_push, noted_before, some_map}
use Rattle.ext_races.proofs.standing.push_first.Goals as goal

pub returns-then-is_some : goal.returns-then-is_some
returns-then-is_some c =
    let read = c.compute_at.ensures ∙ ap (λ xs. compute_at xs c.args.compute.key) c.as_slice.ensures.value in
    let there = ap is_some (sym read) ∙ some_map compute_view c.compute_at.result ∙ sym c.is_some.ensures ∙ c.if-is_some.true in
    λ key. noted_before c.args.computes.now.items c.args.compute key there

pub returns : goal.returns
returns c = λ key. ap (λ xs. compute_at xs key) c.in_ok-push.ensures.items ∙ compute_push c.args.computes.now.items c.args.compute key
