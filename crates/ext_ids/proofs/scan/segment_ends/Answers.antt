use Rattle.std.proofs.Common.{◌+◌}
use Rattle.ext_ids.specs.declared.scan.Part.TheVariants as parts
use Rattle.ext_ids.proofs.Pieces.{part_between}
use Rattle.ext_ids.proofs.scan.segment_ends.Goals as goal

pub returns-clause-kind : goal.returns-clause-kind
returns-clause-kind c = part_between c.args.text.now (c.args.from + 1) c.in_ok-kind.kind parts.Type c.in_ok-kind.ensures.exact

pub returns-clause-value : goal.returns-clause-value
returns-clause-value c = part_between c.args.text.now (c.in_ok-kind.kind + 1) c.in_ok-value.value parts.Value c.in_ok-value.ensures.exact
