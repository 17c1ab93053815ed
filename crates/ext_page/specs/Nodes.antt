-- The nodes of a page.
use Rattle.std.specs.Prelude.{ℕ, ◌-◌, ◌≡◌, ◌≢◌, All, List, [], ◌∷◌, length, slice_get, take, option_map, Option, Some, None}
use Rattle.ext_ids.specs.Grammar.{Pair, id_text}
use Rattle.ext_tree.specs.Trees.{Id, IsPathOf}
use Rattle.ext_lifecycle.specs.declared.node_result.NodeResult.{NodeResult}
use Rattle.ext_page.specs.declared.run.Node.{Node}

abbrev pub segment_text : Option Pair → List ℕ
segment_text None = []
segment_text (Some segment) = id_text (segment ∷ [])

-- The name of a node with this id: the last segment, as `[test:gift]`.
abbrev pub name_text : List Pair → List ℕ
name_text id = segment_text (slice_get id (length id - 1))

-- The place of a context, by the places of all.
abbrev pub place_in : Option (Option ℕ) → Option ℕ
place_in None = None
place_in (Some place) = place

-- The place of the next context of a path, which the root has not.
abbrev pub place_of_next : List (Option ℕ) → Option ℕ → Option ℕ
place_of_next places None = None
place_of_next places (Some context) = place_in (slice_get places context)

-- Whether a context has this place among results: it is that of one of them, or none where it has none.
abbrev pub IsPlace : List NodeResult → ℕ → Option ℕ → Type 0
IsPlace results context (Some place) = option_map (λ r. r.node) (slice_get results place) ≡ Some context
IsPlace results context None = All (λ r. r.node ≢ context) results

-- The same of the next context of a path, which the root has not.
abbrev pub IsPlaceOfNext : List NodeResult → Option ℕ → Option ℕ → Type 0
IsPlaceOfNext results None place = place ≡ None
IsPlaceOfNext results (Some context) place = IsPlace results context place

-- The parent of a context has this place among the results.
pub record IsParentPlace (ids : List Id) (results : List NodeResult) (context : ℕ) (place : Option ℕ) : Type 0 where
  pub path : List ℕ
  pub is_path : IsPathOf ids context path
  pub is_next : IsPlaceOfNext results (slice_get path 1) place

-- The parent of each node has its place among the results before.
pub record HaveParents (ids : List Id) (results : List NodeResult) (nodes : List Node) : Type 0 where
  pub each : (k : ℕ) (ran : NodeResult) (node : Node) → slice_get results k ≡ Some ran → slice_get nodes k ≡ Some node
      → IsParentPlace ids (take k results) ran.node node.parent

-- The places are those of the contexts among the results.
pub record ArePlaces (results : List NodeResult) (places : List (Option ℕ)) : Type 0 where
  pub each : (context : ℕ) → IsPlace results context (place_in (slice_get places context))
