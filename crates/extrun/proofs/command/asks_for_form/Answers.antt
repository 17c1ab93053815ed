use Rattle.std.proofs.Common.{◌≡◌, List, ℕ, Option, Some, None, ap, codes, option_map, refl, subst, sym, ◌∙◌}
use Rattle.std.specs.Prelude.{is_some, ◌||◌}
use Rattle.std.specs.Borrow.{Bor}
use Rattle.clap.specs.Matches.{found_of}
use Rattle.clap.proofs.WalkLemmas.{first_value-rows, one_text-rows}
use Rattle.extrun.specs.Flags.{IsFlag}
use Rattle.extrun.proofs.command.asks_for_form.Goals as goal

is_some-mapped : (texts : Option (Bor (List ℕ))) → is_some (option_map (λ text. text.now) texts) ≡ is_some texts
is_some-mapped None = refl
is_some-mapped (Some text) = refl

pub returns : goal.returns
returns c =
    let found = found_of c.args.words.now in
    let named = c.is_some.ensures ∙ sym (is_some-mapped c.get_str.result) ∙ ap is_some (c.get_str.ensures ∙ first_value-rows found (codes "report")) in
    record {
      tree = c.is_set.result;
      drawn = subst (λ text. IsFlag text c.is_set.result) (one_text-rows found (codes "tree")) c.is_set.ensures;
      asked_is = c.either.ensures ∙ ap (λ other. c.is_set.result || other) named;
    }
