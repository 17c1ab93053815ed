use Rattle.std.proofs.Common.{inl, inr, rules, subst}
use Rattle.std.proofs.lemmas.Result.{IfOk-weaker}
use Rattle.clap.specs.Words.{app_of}
use Rattle.extrun.specs.CommandWords.{AsksFor}
use Rattle.extrun.proofs.Commands.{line_is_simple}
use Rattle.extrun.proofs.command.request_in.Goals as goal

pub returns-in-Ok : goal.returns-in-Ok
returns-in-Ok g c =
    let line = c.in_ok-program.ensures in
    let found = (c.in-Ok.ensures.matches (line_is_simple _ line)).1 in
    IfOk-weaker c.asked_for.result _ _ (λ request asks. record {
      line = app_of c.in_ok-program.field-0;
      line_is = line;
      asks = inl (subst (λ f. AsksFor f request) found asks);
    }) c.asked_for.ensures

pub returns-in-Err-2 : goal.returns-in-Err-2
returns-in-Err-2 g c =
    IfOk-weaker c.refused.result _ _ (λ request asks. record {
      line = app_of c.in_ok-program.field-0;
      line_is = c.in_ok-program.ensures;
      asks = inr (asks, λ takes. let memory = c.in-Err.ensures.passes takes in search rules);
    }) c.refused.ensures
