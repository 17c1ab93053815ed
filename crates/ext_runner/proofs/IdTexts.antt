-- The texts of the ids at some indices, one more at a time.
use Rattle.std.proofs.Common.{◌≡◌, ◌∙◌, ◌++◌, ◌∷◌, [], ℕ, ◌+◌, ◌<◌, List, ap, append-nil, append_assoc, get_or, length, map, refl, string_bytes, subst, sym, take}
use Rattle.std.specs.Borrow.{Bor}
use Rattle.std.specs.List.{flat_map}
use Rattle.std.specs.Global.{Global}
use Rattle.std.specs.Prelude.{None, Option, Some, String, slice_get}
use Rattle.std.proofs.lemmas.Grind.{flat_map-append}
use Rattle.std.proofs.lemmas.List.{map-append, take_more}
use Rattle.ext_ids.specs.Grammar.{id_text}
use Rattle.ext_tree.specs.Trees.{Id}
use Rattle.ext_selection.specs.Selection.{AreChosen, wanted_of}
use Rattle.ext_selection.specs.declared.nodes.Node.{Node}
use Rattle.ext_selection.specs.declared.selection.Selection.{Selection}
use Rattle.ext_runner.specs.InnerSelecting.{text_at, text_of}

-- a text more
pub pushed : (old new : List (String Global)) (text : String Global) (more : List ℕ) → new ≡ old ++ text ∷ [] → string_bytes text ≡ more → map string_bytes new ≡ map string_bytes old ++ more ∷ []
pushed old new text more grown is = ap (map string_bytes) grown ∙ map-append string_bytes old (text ∷ []) ∙ ap (λ m. map string_bytes old ++ m ∷ []) is

-- the text of an id that is there, and of one that is not
pub one-text : (all : List Id) (index : ℕ) (id : Bor Id) (old more : List (List ℕ)) → slice_get all index ≡ Some id.now → more ≡ old ++ id_text id.now ∷ [] → more ≡ old ++ text_at all index
one-text all index id old more at is = is ∙ ap (λ (o : Option Id). old ++ text_of o) (sym at)

pub no-text : (all : List Id) (index : ℕ) (old : List (List ℕ)) → slice_get all index ≡ None → old ≡ old ++ text_at all index
no-text all index old at = sym (append-nil old) ∙ ap (λ (o : Option Id). old ++ text_of o) (sym at)

-- the text of one id more
text-more : (all : List Id) (indices : List ℕ) (i : ℕ) → i < length indices → flat_map (text_at all) (take (i + 1) indices) ≡ flat_map (text_at all) (take i indices) ++ text_at all (get_or indices i 0)
text-more all indices i less = rw (take_more indices i 0 less, flat_map-append, append-nil) refl

pub ids-more : (all : List Id) (indices : List ℕ) (i : ℕ) (old before after : List (List ℕ)) → i < length indices → before ≡ old ++ flat_map (text_at all) (take i indices) → after ≡ before ++ text_at all (get_or indices i 0)
    → after ≡ old ++ flat_map (text_at all) (take (i + 1) indices)
ids-more all indices i old before after less so is =
    is ∙ ap (λ b. b ++ text_at all (get_or indices i 0)) so ∙ append_assoc old (flat_map (text_at all) (take i indices)) (text_at all (get_or indices i 0))
    ∙ ap (λ l. old ++ l) (sym (text-more all indices i less))

pub chosen-same : (below : Selection) (ids ids' : List Id) (nodes nodes' : List Node) (indices indices' : List ℕ) → ids ≡ ids' → nodes ≡ nodes' → indices ≡ indices' → AreChosen nodes (wanted_of below ids) indices
    → AreChosen nodes' (wanted_of below ids') indices'
chosen-same below ids ids' nodes nodes' indices indices' same_ids same_nodes same_indices are =
    subst (λ p. AreChosen nodes' (wanted_of below ids') p) same_indices (subst (λ n. AreChosen n (wanted_of below ids') indices) same_nodes (subst (λ l. AreChosen nodes (wanted_of below l) indices) same_ids are))
