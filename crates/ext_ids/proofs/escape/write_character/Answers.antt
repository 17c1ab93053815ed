use Rattle.std.proofs.Common.{◌≢◌, rules}
use Rattle.std.proofs.lemmas.Bool.{ne_eqb}
use Rattle.ext_ids.proofs.Characters.{IsPlain}
use Rattle.ext_ids.proofs.Encoding.{encoded_plain}
use Rattle.ext_ids.proofs.escape.write_character.Goals as goal

pub returns-in_default : goal.returns-in_default
returns-in_default c =
    let percent : c.args.c ≢ 37 = search rules in
    let plus : c.args.c ≢ 43 = search rules in
    let opening : c.args.c ≢ 91 = search rules in
    let closing_mark : c.args.c ≢ 93 = search rules in
    let colon : c.args.c ≢ 58 = search rules in
    let slash : c.args.c ≢ 47 = search rules in
    let p : IsPlain c.args.c = record { percent = ne_eqb _ 37 percent; plus = ne_eqb _ 43 plus; opening = ne_eqb _ 91 opening; closing_mark = ne_eqb _ 93 closing_mark; colon = ne_eqb _ 58 colon; slash = ne_eqb _ 47 slash } in
    rw (encoded_plain c.args.c p) (search rules)
