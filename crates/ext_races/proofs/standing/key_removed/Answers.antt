use Rattle.std.proofs.Common.{◌≡◌, ◌∙◌, ap, false, sym, subst, true}
use Rattle.ext_plan.specs.StepCalls.{keys_in}
use Rattle.ext_plan.specs.StepWords.{word_eq}
use Rattle.ext_plan.specs.declared.word.Word.TheVariants as words
use Rattle.ext_races.specs.Acts.{act_view}
use Rattle.ext_races.specs.InnerStanding.{IsRemoved}
use Rattle.ext_races.specs.Touches.{removes_key}
use Rattle.ext_races.proofs.Above.{no_removal, not_false, not_true}
use Rattle.ext_races.proofs.Removed.{removes_none, removes_one}
use Rattle.ext_races.proofs.standing.key_removed.Goals as goal

pub returns-in_default : goal.returns-in_default
returns-in_default c =
    let declared = keys_in c.args.keys.now in
    removes_none declared c.args.directory.now _ (λ key there. ap (removes_key declared key) (sym c.in_default.ensures))

pub returns-then-ne : goal.returns-then-ne
returns-then-ne c =
    let declared = keys_in c.args.keys.now in
    let other : word_eq (act_view c.in-Some.act).word words.Remove ≡ false = not_true _ (sym c.ne.ensures ∙ c.if-ne.true) in
    removes_none declared c.args.directory.now _ (λ key there. ap (removes_key declared key) (sym c.in-Some.ensures) ∙ no_removal declared c.args.directory.now (act_view c.in-Some.act) key other)

pub returns : goal.returns
returns c =
    let declared = keys_in c.args.keys.now in
    let word : word_eq (act_view c.in-Some.act).word words.Remove ≡ true = not_false _ (sym c.ne.ensures ∙ c.if-ne.false) in
    subst (λ act. IsRemoved declared c.args.directory.now act c.in_ok-number.number) c.in-Some.ensures
    (removes_one declared c.args.directory.now (act_view c.in-Some.act) c.in_ok-number.number word c.in_ok-number.ensures)
