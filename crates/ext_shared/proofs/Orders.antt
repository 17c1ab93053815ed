-- Orders in which texts are closed.
use Rattle.std.proofs.Common.{◌≡◌, ℕ, ◌<◌, ◌+◌, true, false, Bool, List, [], ◌∷◌, ◌++◌, ◌∙◌, ap, refl, sym, subst, length, map, take, drop, suc, get_or}
use Rattle.std.proofs.Math.Seq.{drop-cons}
use Rattle.std.proofs.lemmas.Fn.{FoldsTo-push}
use Rattle.std.proofs.lemmas.List.{get_or-map, length-map, map-append, take_more}
use Rattle.std.specs.Prelude.{◌||◌, ◌&&◌, not, if◌then◌else◌}
use Rattle.std.specs.Borrow.{Bor}
use Rattle.std.specs.List.{FoldsTo, list_any}
use Rattle.std.specs.Str.{bytes_eq}
use Rattle.ext_shared.specs.Closing.{closing_order, has_name, with_name}
use Rattle.ext_shared.specs.Names.{is_text_name}

there_is : (names : List (Bor (List ℕ))) (name : List ℕ) → list_any (λ n. bytes_eq name n.now) names ≡ has_name (map (λ n. n.now) names) name
there_is [] name = refl
there_is (n ∷ names) name = ap (λ b. bytes_eq name n.now || b) (there_is names name)

-- The list with a name behind it, if it is new.
pub with_new : (names : List (Bor (List ℕ))) (name : Bor (List ℕ)) (is_new : Bool) → is_new ≡ (is_text_name name.now && not (list_any (λ n. bytes_eq name.now n.now) names))
    → map (λ n. n.now) (if is_new then names ++ name ∷ [] else names) ≡ with_name (map (λ n. n.now) names) name.now
with_new names name is_new is = chosen is_new (is ∙ ap (λ b. is_text_name name.now && not b) (there_is names name.now)) where
  chosen : (b : Bool) → b ≡ (is_text_name name.now && not (has_name (map (λ n. n.now) names) name.now))
      → map (λ n. n.now) (if b then names ++ name ∷ [] else names) ≡ with_name (map (λ n. n.now) names) name.now
  chosen true e = map-append (λ n. n.now) names (name ∷ []) ∙ ap (λ b. if b then map (λ n. n.now) names ++ name.now ∷ [] else map (λ n. n.now) names) e
  chosen false e = ap (λ b. if b then map (λ n. n.now) names ++ name.now ∷ [] else map (λ n. n.now) names) e

-- One line more, from the last to the first.
pub order_more : (lines : List (List ℕ)) (index : ℕ) (line : List ℕ) → index < length lines → line ≡ get_or lines index line
    → with_name (closing_order (drop (suc index) lines)) line ≡ closing_order (drop index lines)
order_more lines index line within at = sym (ap closing_order (drop-cons lines index line within ∙ ap (λ l. l ∷ drop (suc index) lines) (sym at)))

pub order_step : (lines : List (Bor (List ℕ))) (k i : ℕ) (line : Bor (List ℕ)) (before after : List (List ℕ)) → k ≡ suc i → i < length lines → line ≡ get_or lines i line
    → before ≡ closing_order (drop k (map (λ l. l.now) lines)) → after ≡ with_name before line.now → after ≡ closing_order (drop i (map (λ l. l.now) lines))
order_step lines k i line before after k_is within at before_is after_is =
    after_is ∙ (ap (λ b. with_name b line.now) before_is ∙ (ap (λ n. with_name (closing_order (drop n (map (λ l. l.now) lines))) line.now) k_is
    ∙ order_more (map (λ l. l.now) lines) i line.now (subst (λ n. i < n) (sym (length-map lines (λ (l : Bor (List ℕ)). l.now))) within)
    (ap (λ (l : Bor (List ℕ)). l.now) at ∙ sym (get_or-map (λ (l : Bor (List ℕ)). l.now) lines i line line.now within))))

-- One name more, from the first to the last.
pub folds_step : {P : Type 0} (R : P → List ℕ → P → Type 0) (names : List (Bor (List ℕ))) (i : ℕ) (d : Bor (List ℕ)) (first before after : P) → i < length names
    → FoldsTo R first (map (λ n. n.now) (take i names)) before → R before (get_or names i d).now after → FoldsTo R first (map (λ n. n.now) (take (i + 1) names)) after
folds_step R names i d first before after within so_far one =
    subst (λ l. FoldsTo R first l after)
    (sym (ap (map (λ n. n.now)) (take_more names i d within) ∙ map-append (λ n. n.now) (take i names) (get_or names i d ∷ [])))
    (FoldsTo-push R first (map (λ n. n.now) (take i names)) before (get_or names i d).now after so_far one)
