use Rattle.std.proofs.Common.{ℕ, ◌+◌, ap, ◌∙◌}
use Rattle.std.specs.Prelude.{replicate}
use Rattle.ext_cells.specs.InnerViews.{limits_of}
use Rattle.ext_cells.specs.InnerMarks.{marks}
use Rattle.ext_cells.proofs.Seats.{opens}
use Rattle.ext_cells.proofs.Marked.{is_layout}
use Rattle.ext_cells.proofs.opening.open_words.Goals as goal

pub of_words-requires : goal.of_words-requires
of_words-requires c =
    let limits = c.args.limits.now in
    opens limits (marks limits.cells) _ (is_layout (limits_of limits)) c.requires.lanes c.requires.few (c.as_slice.ensures.value ∙ c.in_ok-words.ensures ∙ ap (λ (n : ℕ). replicate {A = ℕ} (limits.cells + 16 + n) 0) c.block_count.ensures.count)
