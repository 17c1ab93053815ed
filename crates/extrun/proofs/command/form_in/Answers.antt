use Rattle.std.proofs.Common.{◌≡◌, ◌↔◌, codes, Some, IsTrue, subst}
use Rattle.clap.specs.Matches.{found_of}
use Rattle.clap.proofs.WalkLemmas.{first_value-rows, one_text-rows}
use Rattle.extrun.specs.Flags.{IsFlag}
use Rattle.extrun.proofs.command.form_in.Goals as goal

pub returns : goal.returns
returns c =
    let found = found_of c.args.words.now in
    record {
      tree = c.is_set.result;
      json = c.is_json.result;
      junit = c.is_junit.result;
      drawn = subst (λ text. IsFlag text c.is_set.result) (one_text-rows found (codes "tree")) c.is_set.ensures;
      by_lines = subst (λ text. IsTrue c.is_json.result ↔ (text ≡ Some (codes "json"))) (first_value-rows found (codes "report")) c.is_json.ensures;
      by_suites = subst (λ text. IsTrue c.is_junit.result ↔ (text ≡ Some (codes "junit"))) (first_value-rows found (codes "report")) c.is_junit.ensures;
      form_is = c.form_of.ensures;
    }
