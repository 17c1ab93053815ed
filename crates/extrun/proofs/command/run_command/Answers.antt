use Rattle.std.proofs.Common.{ap, codes}
use Rattle.std.proofs.lemmas.Result.{IfOk-weaker}
use Rattle.clap.specs.Simple.{shape_of_fields}
use Rattle.extrun.specs.CommandLine as line
use Rattle.extrun.proofs.Commands.{takes_more, takes_nothing}
use Rattle.extrun.proofs.command.run_command.Goals as goal

pub returns : goal.returns
returns c =
    let store = c.store_option.ensures.rule in
    let form = c.report_option.ensures.rule in
    let color = c.color_option.ensures.rule in
    let none = takes_nothing c.new.result c.about.result (codes "run") c.new.ensures.app c.new.ensures.local (ap shape_of_fields c.about.ensures) (ap (λ f. f.has_globals) c.about.ensures) in
    let first = takes_more _ _ _ _ _ _ none c.in_ok-arg.ensures c.plan_file.ensures.rule c.plan_file.ensures.local in
    let second = takes_more _ _ _ _ _ _ first c.in_ok-arg-2.ensures c.lanes_option.ensures.rule c.lanes_option.ensures.local in
    let third = takes_more _ _ _ _ _ _ second c.in_ok-arg-3.ensures store.2 c.store_option.ensures.local in
    let fourth = takes_more _ _ _ _ _ _ third c.in_ok-arg-4.ensures form.2 c.report_option.ensures.local in
    let fifth = takes_more _ _ _ _ _ _ fourth c.in_ok-arg-5.ensures c.in_ok-report_tree_flag.ensures.rule c.in_ok-report_tree_flag.ensures.local in
    let sixth = takes_more _ _ _ _ _ _ fifth c.in_ok-arg-6.ensures c.junit_option.ensures.rule c.junit_option.ensures.local in
    let seventh = takes_more _ _ _ _ _ _ sixth c.in_ok-arg-7.ensures c.json_option.ensures.rule c.json_option.ensures.local in
    let eighth = takes_more _ _ _ _ _ _ seventh c.in_ok-arg-8.ensures c.html_option.ensures.rule c.html_option.ensures.local in
    let ninth = takes_more _ _ _ _ _ _ eighth c.in_ok-arg-9.ensures color.2 c.color_option.ensures.local in
    let tenth = takes_more _ _ _ _ _ _ ninth c.in_ok-arg-10.ensures c.progress_flag.ensures.rule c.progress_flag.ensures.local in
    let eleventh = takes_more _ _ _ _ _ _ tenth c.in_ok-arg-11.ensures c.durations_flag.ensures.rule c.durations_flag.ensures.local in
    let twelfth = takes_more _ _ _ _ _ _ eleventh c.in_ok-arg-12.ensures c.failures_flag.ensures.rule c.failures_flag.ensures.local in
    let thirteenth = takes_more _ _ _ _ _ _ twelfth c.in_ok-arg-13.ensures c.large_flag.ensures.rule c.large_flag.ensures.local in
    let fourteenth = takes_more _ _ _ _ _ _ thirteenth c.in_ok-arg-14.ensures c.explain_flag.ensures.rule c.explain_flag.ensures.local in
    IfOk-weaker c.arg-15.result _ _ (λ made adds.
    let all = takes_more _ _ _ _ _ _ fourteenth adds c.brief_flag.ensures.rule c.brief_flag.ensures.local in
    (record { store = store.0; form = form.0; color = color.0; stores = store.1; forms = form.1; colors = color.1; shape_is = all.shape }, all.local)) c.arg-15.ensures
