use Rattle.std.proofs.Common.{◌∙◌, ◌<◌, Some, ap, arith, sym}
use Rattle.ext_run.proofs.KeyLines.{enough, few}
use Rattle.ext_run.proofs.checks.line_of_keys.Goals as goal

pub returns-then-keys-places : goal.returns-then-keys-places
returns-then-keys-places c = sym (enough c.args.keys c.args.places c.if-keys-places.true)

pub returns : goal.returns
returns c =
    let more = c.if-keys-places.false in
    let fewer : c.args.places < c.args.keys = omega (arith, more) in
    ap Some c.in_ok-raise_line.ensures ∙ sym (few c.args.keys c.args.places fewer c.requires)
