use Rattle.std.proofs.Common.{◌∙◌, false, ap, replicate, sym}
use Rattle.ext_values.specs.Known.{are_known}
use Rattle.ext_values.proofs.Flags.{none_known}
use Rattle.ext_values.proofs.notes.Notes.new.Goals as goal

pub invariant_of-result : goal.invariant_of-result
invariant_of-result g c =
    c.in_ok-flags.ensures
    ∙ ap (λ n. replicate n false) c.capacity.ensures.count
    ∙ sym (none_known g.row.V.Denot c.args.values.now)
    ∙ sym (ap (λ l. are_known l) c.in_ok-notes.ensures.nothing)
