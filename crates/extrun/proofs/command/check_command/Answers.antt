use Rattle.std.proofs.Common.{ap, codes}
use Rattle.std.proofs.lemmas.Result.{IfOk-weaker}
use Rattle.clap.specs.Simple.{shape_of_fields}
use Rattle.extrun.proofs.Commands.{takes_more, takes_nothing}
use Rattle.extrun.proofs.command.check_command.Goals as goal

pub returns : goal.returns
returns c =
    let form = c.race_report_option.ensures.rule in
    let none = takes_nothing c.new.result c.about.result (codes "check") c.new.ensures.app c.new.ensures.local (ap shape_of_fields c.about.ensures) (ap (λ f. f.has_globals) c.about.ensures) in
    let first = takes_more _ _ _ _ _ _ none c.in_ok-arg.ensures c.plan_file.ensures.rule c.plan_file.ensures.local in
    let second = takes_more _ _ _ _ _ _ first c.in_ok-arg-2.ensures c.draw_flag.ensures.rule c.draw_flag.ensures.local in
    let third = takes_more _ _ _ _ _ _ second c.in_ok-arg-3.ensures c.races_flag.ensures.rule c.races_flag.ensures.local in
    let fourth = takes_more _ _ _ _ _ _ third c.in_ok-arg-4.ensures form.2 c.race_report_option.ensures.local in
    let fifth = takes_more _ _ _ _ _ _ fourth c.in_ok-arg-5.ensures c.lint_flag.ensures.rule c.lint_flag.ensures.local in
    let sixth = takes_more _ _ _ _ _ _ fifth c.in_ok-arg-6.ensures c.all_flag.ensures.rule c.all_flag.ensures.local in
    let seventh = takes_more _ _ _ _ _ _ sixth c.in_ok-arg-7.ensures c.large_flag.ensures.rule c.large_flag.ensures.local in
    let eighth = takes_more _ _ _ _ _ _ seventh c.in_ok-arg-8.ensures c.explain_flag.ensures.rule c.explain_flag.ensures.local in
    IfOk-weaker c.arg-9.result _ _ (λ made adds.
    let all = takes_more _ _ _ _ _ _ eighth adds c.brief_flag.ensures.rule c.brief_flag.ensures.local in
    (record { form = form.0; forms = form.1; shape_is = all.shape }, all.local)) c.arg-9.ensures
