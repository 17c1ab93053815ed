use Rattle.std.proofs.Common.{◌≡◌, ◌+◌, ap, sym, ◌∙◌, arith, refl, slice_range, string_bytes}
use Rattle.std.proofs.lemmas.Str.{lead_after_ascii}
use Rattle.ext_ids.specs.Reading.{unescaped}
use Rattle.ext_ids.proofs.Parts.{unescaped_part}
use Rattle.ext_ids.proofs.segment.Segment.read.Goals as goal

pub range-requires-clause-start_boundary : goal.range-requires-clause-start_boundary
range-requires-clause-start_boundary c _ = (omega arith, λ h. lead_after_ascii c.args.text.now c.args.at c.utf8.text (omega (arith, c.requires.open)) h)

pub range-requires-2-clause-start_boundary : goal.range-requires-2-clause-start_boundary
range-requires-2-clause-start_boundary c _ = (omega arith, λ h. lead_after_ascii c.args.text.now c.args.ends.kind c.utf8.text (omega (arith, c.requires.colon)) h)

pub returns : goal.returns
returns c =
    let kind : unescaped 0 (slice_range c.args.text.now (c.args.at + 1) c.args.ends.kind) ≡ string_bytes c.in_ok-decoded.field-0 = ap (unescaped 0) (sym c.range.ensures.value ∙ c.in_ok-decoded.ensures) ∙ unescaped_part _ in
    let value : unescaped 0 (slice_range c.args.text.now (c.args.ends.kind + 1) c.args.ends.value) ≡ string_bytes c.in_ok-decoded-2.field-0 = ap (unescaped 0) (sym c.range-2.ensures.value ∙ c.in_ok-decoded-2.ensures) ∙ unescaped_part _ in
    rw (kind, value) refl
