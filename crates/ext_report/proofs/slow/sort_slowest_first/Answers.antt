use Rattle.std.proofs.Common.{◌≡◌, ◌∙◌, ap, rules}
use Rattle.std.specs.Ordering.{is_lt, nat_cmp}
use Rattle.std.proofs.lemmas.Fn.{always_returns_same}
use Rattle.ext_report.specs.Slow.{took_longer}
use Rattle.ext_report.proofs.Slowest.{compared, slowness}
use Rattle.ext_report.proofs.slow.sort_slowest_first.Goals as goal

pub returns : goal.returns
returns c =
    let compares = always_returns_same _ (λ a r. is_lt r ≡ took_longer a.0.now a.1.0.now) _ (λ a r f' k.
    let told : (r ≡ nat_cmp a.1.0.now.millis a.0.now.millis) × (f' ≡ _) = search rules in
    (ap is_lt told.0 ∙ compared a.1.0.now.millis a.0.now.millis, told.1)) in
    record { same = c.sort_by.ensures.permutation; sorted = c.in_ok-sort_by.ensures.sorted took_longer slowness compares; stable = c.sort_by.ensures.stable took_longer slowness compares }
