use Rattle.std.proofs.Common.{◌∙◌, ap, length}
use Rattle.std.specs.Prelude.{◌==◌, ◌&&◌, nat_lt}
use Rattle.ext_plan.specs.Plans.{plan_view}
use Rattle.ext_races.specs.InnerGroups.{groups_view}
use Rattle.ext_races.proofs.Finds.{has_races, no_races, none_is, some_are}
use Rattle.ext_races.proofs.finding.found_in.Goals as goal

pub returns-then-not-is_free : goal.returns-then-not-is_free
returns-then-not-is_free c =
    let listed = c.in_ok-races.races.items in
    let known = c.is_free.ensures ∙ ap (λ races. nat_lt 0 c.args.most && (length races == 0)) c.as_slice.ensures.value in (
      c.requires.within,
      has_races (plan_view c.args.plan.now) c.args.most (groups_view c.args.groups.now) c.args.keys c.requires.groups listed c.in_ok-races.ensures
          (λ some. some_are c.args.most listed c.is_free.result known c.if-not-is_free.true some),
    )

pub proved_of-requires-clause-free : goal.proved_of-requires-clause-free
proved_of-requires-clause-free c =
    let listed = c.in_ok-races.races.items in
    let known = c.is_free.ensures ∙ ap (λ races. nat_lt 0 c.args.most && (length races == 0)) c.as_slice.ensures.value in
    let none = none_is c.args.most listed c.is_free.result known c.if-not-is_free.false in
    no_races (plan_view c.args.plan.now) c.args.most (groups_view c.args.groups.now) c.args.keys c.requires.groups listed c.in_ok-races.ensures none.0 none.1

pub returns : goal.returns
returns c =
    let listed = c.in_ok-races.races.items in
    let known = c.is_free.ensures ∙ ap (λ races. nat_lt 0 c.args.most && (length races == 0)) c.as_slice.ensures.value in
    let none = none_is c.args.most listed c.is_free.result known c.if-not-is_free.false in
    record {
      none = no_races (plan_view c.args.plan.now) c.args.most (groups_view c.args.groups.now) c.args.keys c.requires.groups listed c.in_ok-races.ensures none.0 none.1;
      proved = c.in_ok-proved.ensures;
    }
