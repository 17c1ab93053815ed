-- What private functions keep while they go over a plan's steps. No public contract cites it.
use Rattle.std.specs.Prelude.{ℕ, ◌+◌, ◌==◌, Bool, List, map, nat_le, not}
use Rattle.std.specs.BTreeSet.{BTreeSet, contains_by}
use Rattle.std.specs.Borrow.{Bor}
use Rattle.std.specs.Cmp.Lexicographic.{slice_cmp}
use Rattle.std.specs.Ordering.{nat_cmp, ordering_then}
use Rattle.ext_plan.specs.Plans.{KeyText, keys_view}
use Rattle.ext_lint.specs.declared.first_test.Sought.{Sought}
use Rattle.ext_lint.specs.declared.first_test.Sought.TheVariants as soughts
use Rattle.ext_lint.specs.declared.note.Note.{Note}
use Rattle.ext_lint.specs.declared.note.Note.TheVariants as variants
use Rattle.ext_lint.specs.declared.said.Said.{Said}
use Rattle.ext_lint.specs.declared.said_set.SaidSet.{SaidSet}
use Rattle.ext_lint.specs.declared.speech.Speech.{Speech}
use Rattle.ext_lint.specs.Notes.{NoteText, idle, missing, uneven, empty, untested, solitary, unnamed, crowded, lone}
use Rattle.ext_lint.specs.NodeSteps.{node_step_view}
use Rattle.ext_lint.specs.Said.{SaidText}

-- ---- views

abbrev pub said_view : Said → SaidText
said_view s = record { word = s.word; key = s.key; name = s.name.now; text = s.text.now }

abbrev pub note_view : Note → NoteText
note_view (variants.Idle p) = idle (node_step_view p)
note_view (variants.Missing p s) = missing (node_step_view p) (said_view s)
note_view (variants.Uneven p) = uneven (node_step_view p)
note_view (variants.Empty call) = empty call
note_view variants.Untested = untested
note_view (variants.Solitary node) = solitary node
note_view (variants.Unnamed label) = unnamed label.now
note_view variants.Crowded = crowded
note_view (variants.Lone name) = lone name.now

-- The plan's declared keys.
abbrev pub declared_in : Speech → List KeyText
declared_in s = keys_view s.declared.now

-- ---- sets

-- The set has this text under this key.
abbrev pub has : SaidSet → ℕ → List ℕ → Bool
has set key text =
    contains_by (λ p. ordering_then (nat_cmp key p.0) (slice_cmp nat_cmp text p.1.now)) set.pairs

-- The set has this node.
abbrev pub has_node : BTreeSet ℕ → ℕ → Bool
has_node set node = contains_by (nat_cmp node) set

-- The set has this node with this depth.
abbrev pub has_pair : BTreeSet (ℕ × ℕ) → ℕ → ℕ → Bool
has_pair set node depth = contains_by (λ p. ordering_then (nat_cmp node p.0) (nat_cmp depth p.1)) set

-- ---- depths

-- The depth is one that is looked for.
abbrev pub is_sought : Sought → ℕ → Bool
is_sought (soughts.Within depth more) other = nat_le other (depth + more)
is_sought (soughts.Other depth) other = not (other == depth)
