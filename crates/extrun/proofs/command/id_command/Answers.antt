use Rattle.std.proofs.Common.{ap, codes}
use Rattle.std.proofs.lemmas.Result.{IfOk-weaker}
use Rattle.clap.specs.Simple.{shape_of_fields}
use Rattle.extrun.proofs.Commands.{takes_more, takes_nothing}
use Rattle.extrun.proofs.command.id_command.Goals as goal

pub returns-clause-shape : goal.returns-clause-shape
returns-clause-shape c =
    let none = takes_nothing c.new.result c.about.result (codes "id") c.new.ensures.app c.new.ensures.local (ap shape_of_fields c.about.ensures) (ap (λ f. f.has_globals) c.about.ensures) in
    let first = takes_more _ _ _ _ _ _ none c.in_ok-arg.ensures c.id_texts.ensures.rule c.id_texts.ensures.local in
    let second = takes_more _ _ _ _ _ _ first c.in_ok-arg-2.ensures c.make_flag.ensures.rule c.make_flag.ensures.local in
    let third = takes_more _ _ _ _ _ _ second c.in_ok-arg-3.ensures c.explain_flag.ensures.rule c.explain_flag.ensures.local in
    IfOk-weaker c.arg-4.result _ _ (λ made adds. (takes_more _ _ _ _ _ _ third adds c.brief_flag.ensures.rule c.brief_flag.ensures.local).shape) c.arg-4.ensures

pub returns-clause-local : goal.returns-clause-local
returns-clause-local c =
    let none = takes_nothing c.new.result c.about.result (codes "id") c.new.ensures.app c.new.ensures.local (ap shape_of_fields c.about.ensures) (ap (λ f. f.has_globals) c.about.ensures) in
    let first = takes_more _ _ _ _ _ _ none c.in_ok-arg.ensures c.id_texts.ensures.rule c.id_texts.ensures.local in
    let second = takes_more _ _ _ _ _ _ first c.in_ok-arg-2.ensures c.make_flag.ensures.rule c.make_flag.ensures.local in
    let third = takes_more _ _ _ _ _ _ second c.in_ok-arg-3.ensures c.explain_flag.ensures.rule c.explain_flag.ensures.local in
    IfOk-weaker c.arg-4.result _ _ (λ made adds. (takes_more _ _ _ _ _ _ third adds c.brief_flag.ensures.rule c.brief_flag.ensures.local).local) c.arg-4.ensures
