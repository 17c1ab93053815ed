-- The report of a run as a tree: the lines of each context, depth first, indented by two spaces for each context above,
--
--     TYPE:VALUE STATUS closed N: FAULT (+M)
--
-- TYPE and VALUE are those of the last segment of the context's id, decoded. The rest is as in the report's text
-- (`Report`). A context has a line for each result of it in the list, in the order of the list, and none where it has
-- no result. The two lines of totals follow. The format is not from JUnit.
use Rattle.std.specs.Prelude.{ℕ, zero, suc, ◌-◌, ◌==◌, codes, filter, List, [], ◌∷◌, ◌++◌, length}
use Rattle.std.specs.List.{flat_map, slice_index_or}
use Rattle.ext_ids.specs.Grammar.{Pair}
use Rattle.ext_tree.specs.Trees.{Id, id_at, children_of}
use Rattle.ext_lifecycle.specs.FaultTexts.{NodeOutcome}
use Rattle.ext_report.specs.declared.extra.Extra.{Extra}
use Rattle.ext_report.specs.Report.{outcome_part, counts_line, counts_of, sums_line, sums_of}

-- A context and those below it, down to `levels` levels. Each comes before those below it, and siblings come in the
-- order of the list.
unfoldable pub depth_first_from : ℕ → List Id → ℕ → List ℕ
depth_first_from zero ids context = []
depth_first_from (suc levels) ids context =
    context ∷ flat_map (λ child. depth_first_from levels ids child) (children_of ids context)

-- All contexts. No tree is deeper than it has contexts.
abbrev pub depth_first : List Id → List ℕ
depth_first ids = depth_first_from (length ids) ids 0

-- Two spaces for each level.
unfoldable pub indent : ℕ → List ℕ
indent zero = []
indent (suc levels) = indent levels ++ codes "  "

abbrev pub segment_words : Pair → List ℕ
segment_words segment = segment.0 ++ codes ":" ++ segment.1

-- A context's indentation and its last segment.
unfoldable pub tree_head : Id → List ℕ
tree_head id = indent (length id - 1) ++ segment_words (slice_index_or id (length id - 1) ([], []))

-- The context's lines, one for each result of it.
abbrev pub tree_line : List Extra → List Id → List NodeOutcome → ℕ → List ℕ
tree_line extras ids rs context =
    flat_map (λ r. tree_head (id_at ids context) ++ outcome_part extras r) (filter (λ r. r.node == context) rs)

-- The tree where this is known of the nodes.
abbrev pub tree_with : List Extra → List Id → List NodeOutcome → List ℕ
tree_with extras ids rs =
    flat_map (tree_line extras ids rs) (depth_first ids) ++ counts_line (counts_of rs) ++ sums_line (sums_of rs)

-- The tree where nothing is.
abbrev pub tree_of : List Id → List NodeOutcome → List ℕ
tree_of ids rs = tree_with [] ids rs
