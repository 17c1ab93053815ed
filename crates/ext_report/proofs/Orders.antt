-- The contexts depth first, one level at a time; each of them is a context of the tree.
use Rattle.std.proofs.Common.{◌≡◌, ℕ, zero, suc, ◌<◌, ◌≤◌, ◌-◌, List, [], ◌∷◌, ◌++◌, length, take, All, get_or, arith, sym, ap, ◌∙◌, append-nil, append_assoc}
use Rattle.std.specs.List.{flat_map}
use Rattle.std.proofs.lemmas.List.{take_all}
use Rattle.std.proofs.lemmas.List.Elements.{All-nil, All-cons, All-append, All-head, All-tail, All-from_get_or, All-get_or, All-same, Contains-get_or}
use Rattle.ext_tree.specs.Trees.{Id, children_of}
use Rattle.ext_tree.proofs.TreeLaws.{parents_list_children}
use Rattle.ext_report.specs.TreeLines.{depth_first_from}

-- no level
pub no-level : (ids : List Id) (at levels : ℕ) (old : List ℕ) → levels ≡ 0 → old ≡ old ++ depth_first_from levels ids at
unfolding depth_first_from
no-level ids at zero old none = sym (append-nil old)
no-level ids at (suc levels) old none = absurd (omega (arith, none))

-- a level more
pub level-more : (ids : List Id) (at levels i : ℕ) (old pushed order children : List ℕ) → 0 < levels → children ≡ children_of ids at → length children ≤ i → pushed ≡ old ++ at ∷ []
    → order ≡ pushed ++ flat_map (λ child. depth_first_from (levels - 1) ids child) (take i children) → order ≡ old ++ depth_first_from levels ids at
unfolding depth_first_from
level-more ids at zero i old pushed order children some is all push so = absurd (omega (arith, some))
level-more ids at (suc levels) i old pushed order children some is all push so =
    let below : suc levels - 1 ≡ levels = omega arith in
    so
    ∙ ap (λ cs. pushed ++ flat_map (λ child. depth_first_from (suc levels - 1) ids child) cs) (take_all i children all ∙ is)
    ∙ ap (λ m. pushed ++ flat_map (λ child. depth_first_from m ids child) (children_of ids at)) below
    ∙ ap (λ p. p ++ flat_map (λ child. depth_first_from levels ids child) (children_of ids at)) push
    ∙ append_assoc old (at ∷ []) (flat_map (λ child. depth_first_from levels ids child) (children_of ids at))

-- those below each of some
below-each : (ids : List Id) (f : ℕ → List ℕ) → ((c : ℕ) → c < length ids → All (λ k. k < length ids) (f c)) → (cs : List ℕ) → All (λ k. k < length ids) cs → All (λ k. k < length ids) (flat_map f cs)
below-each ids f each [] all = All-nil (λ k. k < length ids)
below-each ids f each (c ∷ cs) all =
    All-append (λ k. k < length ids) (f c) (flat_map f cs) (each c (All-head (λ k. k < length ids) c cs all)) (below-each ids f each cs (All-tail (λ k. k < length ids) c cs all))

-- the children of a context
children-in_tree : (ids : List Id) (at : ℕ) → at < length ids → All (λ k. k < length ids) (children_of ids at)
children-in_tree ids at within =
    All-from_get_or (λ k. k < length ids) (children_of ids at) 0
    (λ i less. ((parents_list_children ids at within).child (get_or (children_of ids at) i 0) (Contains-get_or (children_of ids at) i 0 less)).child_within)

pub child-in_tree : (ids : List Id) (at i : ℕ) (children : List ℕ) → at < length ids → children ≡ children_of ids at → i < length children → get_or children i 0 < length ids
child-in_tree ids at i children within is less =
    All-get_or (λ k. k < length ids) children i 0 less (All-same (λ k. k < length ids) children (children_of ids at) is (children-in_tree ids at within))

-- all that stand below a context, with it
from-in_tree : (levels : ℕ) (ids : List Id) (at : ℕ) → at < length ids → All (λ k. k < length ids) (depth_first_from levels ids at)
unfolding depth_first_from
from-in_tree zero ids at within = All-nil (λ k. k < length ids)
from-in_tree (suc levels) ids at within =
    All-cons (λ k. k < length ids) at (flat_map (λ child. depth_first_from levels ids child) (children_of ids at)) within
    (below-each ids (λ child. depth_first_from levels ids child) (λ c h. from-in_tree levels ids c h) (children_of ids at) (children-in_tree ids at within))

pub order-in_tree : (ids : List Id) (levels : ℕ) (start order : List ℕ) → 0 < length ids → start ≡ [] → order ≡ start ++ depth_first_from levels ids 0 → All (λ k. k < length ids) order
order-in_tree ids levels start order some none is =
    All-same (λ k. k < length ids) order (depth_first_from levels ids 0) (is ∙ ap (λ s. s ++ depth_first_from levels ids 0) none) (from-in_tree levels ids 0 some)
