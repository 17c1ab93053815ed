use Rattle.std.proofs.Common.{Some, None, arith, ap, ◌∙◌, ◌≡◌, ◌<◌, ◌≤◌, ◌+◌, ◌==◌, [], refl, sym, length, take, drop}
use Rattle.std.specs.List.{position_or_len}
use Rattle.std.proofs.lemmas.List.{take_all, drop_all}
use Rattle.std.proofs.lemmas.Str.Pattern.{split_once_first}
use Rattle.ext_run.proofs.id_lines.part_of.Goals as goal

pub returns-in-Some : goal.returns-in-Some
returns-in-Some c =
    let parts = split_once_first 61 c.args.word.now (Some (c.in-Some.part.0, c.in-Some.part.1)) c.in-Some.ensures.cases (omega arith) in
    λ i. (parts.1 i, parts.2 i)

pub returns-in-None : goal.returns-in-None
returns-in-None c =
    let none = split_once_first 61 c.args.word.now None c.in-None.ensures.cases (omega arith) in
    let kind = ap (λ n. take n c.args.word.now) none ∙ take_all (length c.args.word.now) c.args.word.now (omega arith) in
    let value = drop_all (position_or_len (λ b. b == 61) c.args.word.now + 1) c.args.word.now (omega (arith, none)) in
    λ i. (sym kind i, sym value i)
