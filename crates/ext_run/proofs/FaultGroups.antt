-- Faults that are gathered by their nodes.
use Rattle.std.proofs.Common.{◌≡◌, ℕ, ◌+◌, ◌<◌, List, [], ◌∷◌, ◌++◌, length, get_or, take, refl, sym, ap, ◌∙◌, inl, inr, append-nil}
use Rattle.std.specs.Prelude.{◌==◌}
use Rattle.std.specs.Borrow.{Bor}
use Rattle.std.specs.Global.{Vec}
use Rattle.std.proofs.lemmas.Bool.{cases_Bool}
use Rattle.std.proofs.lemmas.Grind.{flat_map-append}
use Rattle.std.proofs.lemmas.List.{map-append, take_more}
use Rattle.ext_ids.specs.Grammar.{Pair}
use Rattle.ext_report.specs.Groups.{AreGrouped, numbered, shown}
use Rattle.ext_report.proofs.Groupings.{group_read}
use Rattle.ext_run.specs.declared.failures.NodeFault.{NodeFault}
use Rattle.ext_run.specs.Failures.{Listing, failures_at}
use Rattle.ext_run.specs.InnerFailures.{lines_of, nodes_of}

lines_numbered : (line : Listing) (id : List Pair) (k : ℕ) (faults : List NodeFault) → lines_of line id (numbered k (nodes_of faults) faults) ≡ failures_at line id k faults
lines_numbered line id k [] = refl
lines_numbered line id k (fault ∷ faults) = elim (cases_Bool (fault.node == k)) [
  | inl here ↦ rw here (ap (λ t. line id fault ++ t) (lines_numbered line id k faults))
  | inr elsewhere ↦ rw elsewhere (lines_numbered line id k faults)
]

-- the lines of a group are those of its node
pub group_lines : (line : Listing) (id : List Pair) (count k : ℕ) (faults : List NodeFault) (numbers : List ℕ) (groups : List (Vec (Bor NodeFault))) (v : Vec (Bor NodeFault)) (refs : List (Bor NodeFault)) → k < count → k < length groups
    → v ≡ get_or groups k v → refs ≡ v.items → numbers ≡ nodes_of faults → AreGrouped count numbers faults groups → lines_of line id (shown refs) ≡ failures_at line id k faults
group_lines line id count k faults numbers groups v refs less within is same nodes are =
    ap (λ rs. lines_of line id (shown rs)) (same ∙ sym (group_read groups k v within is)) ∙ ap (lines_of line id) (are.each k less ∙ ap (λ ns. numbered k ns faults) nodes) ∙ lines_numbered line id k faults

-- one line more
pub lines_more : (line : Listing) (id : List Pair) (refs : List (Bor NodeFault)) (i : ℕ) (ref : Bor NodeFault) → i < length refs → ref ≡ get_or refs i ref
    → lines_of line id (shown (take (i + 1) refs)) ≡ lines_of line id (shown (take i refs)) ++ line id ref.now
lines_more line id refs i ref less is = rw (take_more refs i ref less, map-append, flat_map-append, ← is, append-nil) refl
