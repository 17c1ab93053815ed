use Rattle.std.proofs.Common.{◌≡◌, ℕ, List, [], Option, Some, None, ap, codes, map, refl, subst, ◌∙◌}
use Rattle.std.specs.Borrow.{Bor}
use Rattle.std.specs.Prelude.{option_map, unwrap_or}
use Rattle.std.proofs.lemmas.Result.{IfOk-weaker}
use Rattle.clap.specs.Matches.{found_of}
use Rattle.clap.specs.Walk.{rows_of}
use Rattle.clap.proofs.WalkLemmas.{one_text-rows, raw_values-rows}
use Rattle.extrun.specs.CommandWords.{AsksOfTexts, texts_of}
use Rattle.extrun.specs.Flags.{IsFlag}
use Rattle.extrun.proofs.command.id_request.Goals as goal

now-unwrap : (texts : Option (Bor (List (Bor (List ℕ))))) (other : Bor (List (Bor (List ℕ)))) → map (λ t. t.now) (unwrap_or texts other).now ≡ unwrap_or (option_map (λ s. map (λ t. t.now) s.now) texts) (map (λ t. t.now) other.now)
now-unwrap None other = refl
now-unwrap (Some texts) other = refl

pub returns : goal.returns
returns g c =
    let found = found_of c.args.words.now in
    let texts : map (λ t. t.now) c.unwrap_or-texts.result.now ≡ texts_of (rows_of found) =
    ap (λ s. map (λ t. t.now) s.now) c.unwrap_or-texts.ensures
    ∙ now-unwrap c.get_strs.result _
    ∙ ap (λ all. unwrap_or all []) (c.get_strs.ensures ∙ raw_values-rows found (codes "TEXT")) in
    IfOk-weaker c.request_of_texts.result _ _ (λ request asks. record {
      make = c.is_set-make.result;
      brief = c.is_set-brief.result;
      making = subst (λ text. IsFlag text c.is_set-make.result) (one_text-rows found (codes "make")) c.is_set-make.ensures;
      short = subst (λ text. IsFlag text c.is_set-brief.result) (one_text-rows found (codes "brief")) c.is_set-brief.ensures;
      asks = subst (λ all. AsksOfTexts c.is_set-make.result c.is_set-brief.result all request) texts asks;
    }) c.request_of_texts.ensures
