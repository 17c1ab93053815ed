use Rattle.std.proofs.Common.{◌≡◌, ◌∙◌, ◌<◌, ◌++◌, ◌∷◌, [], take, drop, get_or, ap, sym, subst, arith}
use Rattle.ext_model.specs.Closing.{put_in, IsFalling}
use Rattle.ext_model.proofs.Remaining.{put_falls}
use Rattle.ext_model.proofs.PutIn.{put_last, put_at, put_again}
use Rattle.ext_model.proofs.falling_numbers.FallingNumbers.put_in.Goals as goal

-- ---- behind all of them

pub invariant_of-self : goal.invariant_of-self
invariant_of-self g c =
    let e = put_last c.args.number c.as_slice.result.now c.in_default.ensures.none in
    let all : put_in c.args.number c.self.inside.numbers.items ≡ c.push.new.self.items =
    ap (put_in c.args.number) (sym c.as_slice.ensures.value) ∙ e ∙ ap (λ ys. ys ++ c.args.number ∷ []) c.as_slice.ensures.value ∙ sym c.push.ensures.items in
    subst IsFalling all (put_falls c.args.number c.self.inside.numbers.items c.self.invariant)

pub returns-in_default-clause-numbers : goal.returns-in_default-clause-numbers
returns-in_default-clause-numbers g c =
    let e = put_last c.args.number c.as_slice.result.now c.in_default.ensures.none in
    c.push.ensures.items ∙ ap (λ ys. ys ++ c.args.number ∷ []) (sym c.as_slice.ensures.value) ∙ sym e ∙ ap (put_in c.args.number) (c.as_slice.ensures.value ∙ c.self.view_is)

-- ---- before one that is less

pub invariant_of-self-then-as_slice-at : goal.invariant_of-self-then-as_slice-at
invariant_of-self-then-as_slice-at g c =
    let same = ap (λ ys. get_or ys c.in-Some.at 0) (c.as_slice-2.ensures.value ∙ sym c.as_slice.ensures.value) in
    let less : get_or c.as_slice.result.now c.in-Some.at 0 < c.args.number = omega (arith, same, c.if-as_slice-at.true) in
    let e = put_at c.args.number c.as_slice.result.now c.in-Some.at c.in-Some.ensures.within c.in-Some.ensures.greater less in
    let all : put_in c.args.number c.self.inside.numbers.items ≡ c.insert.new.self.items =
    ap (put_in c.args.number) (sym c.as_slice.ensures.value) ∙ e ∙ ap (λ ys. take c.in-Some.at ys ++ c.args.number ∷ drop c.in-Some.at ys) c.as_slice.ensures.value
    ∙ sym c.insert.ensures.items in
    subst IsFalling all (put_falls c.args.number c.self.inside.numbers.items c.self.invariant)

pub returns-then-as_slice-at-clause-numbers : goal.returns-then-as_slice-at-clause-numbers
returns-then-as_slice-at-clause-numbers g c =
    let same = ap (λ ys. get_or ys c.in-Some.at 0) (c.as_slice-2.ensures.value ∙ sym c.as_slice.ensures.value) in
    let less : get_or c.as_slice.result.now c.in-Some.at 0 < c.args.number = omega (arith, same, c.if-as_slice-at.true) in
    let e = put_at c.args.number c.as_slice.result.now c.in-Some.at c.in-Some.ensures.within c.in-Some.ensures.greater less in
    cc

-- ---- it is there already

pub returns-else-as_slice-at-clause-numbers : goal.returns-else-as_slice-at-clause-numbers
returns-else-as_slice-at-clause-numbers g c =
    let same = ap (λ ys. get_or ys c.in-Some.at 0) (c.as_slice-2.ensures.value ∙ sym c.as_slice.ensures.value) in
    let equal : get_or c.as_slice.result.now c.in-Some.at 0 ≡ c.args.number = omega (arith, same, c.if-as_slice-at.false, c.in-Some.ensures.not_greater) in
    let e = put_again c.args.number c.as_slice.result.now c.in-Some.at c.in-Some.ensures.within c.in-Some.ensures.greater equal in
    sym (c.as_slice.ensures.value ∙ c.self.view_is) ∙ sym e ∙ ap (put_in c.args.number) (c.as_slice.ensures.value ∙ c.self.view_is)
