use Rattle.std.proofs.Common.{◌≡◌, ◌<◌, ◌≤◌, ◌∙◌, List, Err, arith, false, length, nat_lt, refl, subst, sym, true, ℕ}
use Rattle.std.proofs.lemmas.Grind.{common_steps}
use Rattle.ext_model.specs.declared.size.Size.{Size}
use Rattle.ext_run.specs.Checks.{RefusedUnrun}
use Rattle.ext_run.specs.Reports.{input_limit, plan_of_bytes, plan_of_input}
use Rattle.ext_run.specs.declared.fault.RunFault.TheVariants as faults
use Rattle.extrun.proofs.plans.plan_of_input.Goals as goal

long : (size : Size) (input : List ℕ) → input_limit size < length input → plan_of_input size input ≡ Err faults.TooLong
unfolding plan_of_input
long size input is = let more : nat_lt (input_limit size) (length input) ≡ true = grind (arith, common_steps, is) in rw more refl

short : (size : Size) (input : List ℕ) → length input ≤ input_limit size → plan_of_input size input ≡ plan_of_bytes size input
unfolding plan_of_input
short size input is = let none : nat_lt (input_limit size) (length input) ≡ false = grind (arith, common_steps, is) in rw none refl

pub returns-then-input-input_limit-clause-refused : goal.returns-then-input-input_limit-clause-refused
returns-then-input-input_limit-clause-refused c =
    long c.args.size c.args.input.now (subst (λ n. n < length c.args.input.now) c.input_limit.ensures c.if-input-input_limit.true)

pub returns-in-Ok-clause-read : goal.returns-in-Ok-clause-read
returns-in-Ok-clause-read c =
    short c.args.size c.args.input.now (subst (λ n. length c.args.input.now ≤ n) c.input_limit.ensures c.if-input-input_limit.false) ∙ c.in-Ok.ensures.read

pub returns-in-Err-clause-refused : goal.returns-in-Err-clause-refused
returns-in-Err-clause-refused c =
    subst (RefusedUnrun (faults.Plan c.in-Err.fault))
    (sym (short c.args.size c.args.input.now (subst (λ n. length c.args.input.now ≤ n) c.input_limit.ensures c.if-input-input_limit.false)))
    c.in-Err.ensures.refused
