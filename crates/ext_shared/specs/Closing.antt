-- In which order the texts of a folder are closed: the latest first, each once. What the folder's file of names holds no
-- clause can say; so the clauses say it of any lines, and where there are none nothing is closed. That a run's texts are
-- closed, and the latest first, is tested; that lines are ordered so is proved of `closing_order` (src/closing.rt). An own
-- rule, for Javadoc `ExtensionContext.Store.CloseableResource`.
use Rattle.std.specs.Prelude.{◌≡◌, ◌⊎◌, ℕ, ◌&&◌, not, Bool, List, [], ◌∷◌, ◌++◌, if◌then◌else◌}
use Rattle.std.specs.List.{FoldsTo, list_any}
use Rattle.std.specs.Str.{bytes_eq}
use Rattle.ext_shared.specs.Names.{is_text_name}

abbrev pub has_name : List (List ℕ) → List ℕ → Bool
has_name names name = list_any (λ other. bytes_eq name other) names

-- A name comes behind those that are there. What is there already or is no name adds nothing.
abbrev pub with_name : List (List ℕ) → List ℕ → List (List ℕ)
with_name names line = if is_text_name line && not (has_name names line) then names ++ line ∷ [] else names

-- The names by lines in the order in which the texts were made, where the last line of a name counts.
abbrev pub closing_order : List (List ℕ) → List (List ℕ)
closing_order [] = []
closing_order (line ∷ lines) = with_name (closing_order lines) line

-- A closer closes a text of this name, or leaves the name out, as where no text of it stands.
abbrev pub MayClose : {S : Type 0} → (S → List ℕ → List ℕ → S → Type 0) → S → List ℕ → S → Type 0
MayClose closes before name after = (after ≡ before) ⊎ ((text : List ℕ) × closes before name text after)

-- It goes over a folder with these lines.
abbrev pub ClosesFolder : {S : Type 0} → (S → List ℕ → List ℕ → S → Type 0) → S → List (List ℕ) → S → Type 0
ClosesFolder closes before lines after = FoldsTo (MayClose closes) before (closing_order lines) after
