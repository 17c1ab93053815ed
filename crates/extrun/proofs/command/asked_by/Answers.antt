use Rattle.std.proofs.Common.{codes, subst, sym, ◌∙◌}
use Rattle.std.proofs.lemmas.Bool.{true≢false}
use Rattle.std.proofs.lemmas.Result.{IfOk-weaker}
use Rattle.clap.specs.Matches.{found_of}
use Rattle.clap.proofs.WalkLemmas.{one_text-rows}
use Rattle.extrun.specs.Flags.{IsFlag}
use Rattle.extrun.proofs.command.asked_by.Goals as goal

pub returns-then-both : goal.returns-then-both
returns-then-both g c =
    let found = found_of c.args.words.now in
    record {
      explain = c.is_set-explain.result;
      brief = c.is_set-brief.result;
      explained = subst (λ text. IsFlag text c.is_set-explain.result) (one_text-rows found (codes "explain")) c.is_set-explain.ensures;
      short = subst (λ text. IsFlag text c.is_set-brief.result) (one_text-rows found (codes "brief")) c.is_set-brief.ensures;
      both = λ _. c.mistake.ensures;
      asks = λ none. absurd (true≢false (sym c.if-both.true ∙ c.both.ensures ∙ none));
    }

pub returns : goal.returns
returns g c =
    let found = found_of c.args.words.now in
    IfOk-weaker c.request_named.result _ _ (λ request asks. record {
      explain = c.is_set-explain.result;
      brief = c.is_set-brief.result;
      explained = subst (λ text. IsFlag text c.is_set-explain.result) (one_text-rows found (codes "explain")) c.is_set-explain.ensures;
      short = subst (λ text. IsFlag text c.is_set-brief.result) (one_text-rows found (codes "brief")) c.is_set-brief.ensures;
      both = λ is. absurd (true≢false (sym is ∙ sym c.both.ensures ∙ c.if-both.false));
      asks = λ _. asks;
    }) c.request_named.ensures
