use Rattle.std.proofs.Common.{lit<, ◌∙◌, ap, arith, length, length-take, map}
use Rattle.std.specs.Prelude.{◌==◌}
use Rattle.std.specs.List.{slice_split}
use Rattle.std.proofs.lemmas.Iterator.{YieldsList-from_take}
use Rattle.std.proofs.lemmas.Iterator.Consumers.{YieldsList-turn, YieldsList-end}
use Rattle.std.proofs.lemmas.Iterator.Splits.{YieldsList-from_str_split}
use Rattle.ext_plan_reading.proofs.steps.words_of.Goals as goal

pub push-requires : goal.push-requires
push-requires c =
    let words = slice_split (λ b. b == 32) c.args.text.now in
    let chain = YieldsList-from_take {s = c.into_iter-word-iterator.result} 6 (YieldsList-from_str_split 32 c.args.text.now (lit< tt) (cc) (cc) (cc)) (cc) in
    let turn = YieldsList-turn chain c.loop-word.yielded _ c.loop-word.yielded_by _ _ c.in-Some.word c.in-Some.is c.next.ensures.steps in
    let less = turn.0 in
    let few = length-take 6 words in
    let same = ap length c.loop-word.invariant in
    (lit< tt, omega (arith, less, few, same))

pub returns : goal.returns
returns c =
    let chain = YieldsList-from_take {s = c.into_iter-word-iterator.result} 6 (YieldsList-from_str_split 32 c.args.text.now (lit< tt) (cc) (cc) (cc)) (cc) in
    let end = YieldsList-end chain c.loop-word.yielded _ c.loop-word.yielded_by _ _ c.in-None.is c.next.ensures.steps in
    ap (map (λ w. w.now)) c.loop-word.invariant ∙ end.0
