use Rattle.std.proofs.Common.{◌≡◌, ◌↔◌, codes, Some, IsTrue, subst, sym}
use Rattle.clap.specs.Matches.{found_of}
use Rattle.clap.specs.Walk.{one_of, rows_of}
use Rattle.clap.proofs.WalkLemmas.{first_value-rows, one_text-rows}
use Rattle.extrun.specs.RunWords.{IsLaneCount}
use Rattle.extrun.proofs.command.options_in.Goals as goal

pub returns : goal.returns
returns c =
    let found = found_of c.args.words.now in
    record {
      lanes = subst (IsLaneCount (one_of (codes "lanes") (rows_of found))) (sym c.from.ensures) (subst (λ text. IsLaneCount text c.lanes_of.result) (one_text-rows found (codes "lanes")) c.lanes_of.ensures);
      plain = subst (λ text. IsTrue c.is_plain.result ↔ (text ≡ Some (codes "plain"))) (first_value-rows found (codes "store")) c.is_plain.ensures;
      form = c.form_in.ensures;
      size = c.size_in.ensures;
    }
