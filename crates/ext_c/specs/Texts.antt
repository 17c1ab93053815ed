-- Texts that a caller hands over as bytes, one text after the other, and the length of each; what they name, and why
-- they name nothing.
use Rattle.std.specs.Prelude.{ℕ, ◌≡◌, ◌<◌, ◌≤◌, List, [], ◌∷◌, ◌++◌, ◌⊎◌, length, slice_index_or, take, drop}
use Rattle.std.specs.List.{AllZip}
use Rattle.std.specs.Str.{IsUtf8}
use Rattle.ext_ids.specs.Grammar.{Pair, IsIdText}
use Rattle.ext_c.specs.declared.code.Code.{Code}
use Rattle.ext_c.specs.declared.code.Code.TheVariants as code
use Rattle.ext_c.specs.Codes.{tree_code}
use Rattle.ext_tree.specs.declared.fault.TreeFault.{TreeFault}
use Rattle.ext_tree.specs.Keys.{KeyValue, NamespaceValue, created_namespace, global_namespace, key_of}
use Rattle.ext_tree.specs.Trees.{Id, HasFault}

abbrev pub texts_in : List ℕ → List ℕ → List (List ℕ)
texts_in bytes [] = []
texts_in bytes (n ∷ lengths) = take n bytes ∷ texts_in (drop n bytes) lengths

-- ---- which bytes are texts

-- A text of this length stands at the front of the bytes.
pub record IsFirstText (bytes : List ℕ) (n : ℕ) : Type 0 where
  pub within : n ≤ length bytes
  pub utf8 : IsUtf8 (take n bytes)

-- Each is a text: there are enough bytes for all lengths, and each text is UTF-8.
abbrev pub AreTexts : List ℕ → List ℕ → Type 0
AreTexts bytes [] = Unit {0}
AreTexts bytes (n ∷ lengths) = IsFirstText bytes n × AreTexts (drop n bytes) lengths

-- Why there is no text at the front of the bytes: its length goes beyond them, or it is not UTF-8.
pub data IsNoText (bytes : List ℕ) (n : ℕ) : Code → Type 0 where
  too_long : length bytes < n → IsNoText bytes n code.BadLengths
  no_utf8 : n ≤ length bytes → ¬ IsUtf8 (take n bytes) → IsNoText bytes n code.BadText

-- What is wrong with the first text that is none. Those before it are texts.
abbrev pub IsTextFault : List ℕ → List ℕ → Code → Type 0
IsTextFault bytes [] said = ⊥
IsTextFault bytes (n ∷ lengths) said = IsNoText bytes n said
    ⊎ (IsFirstText bytes n × IsTextFault (drop n bytes) lengths said)

-- ---- keys

-- The namespace with these parts. Without parts it is the global one.
abbrev pub namespace_named : List (List ℕ) → NamespaceValue
namespace_named [] = global_namespace
namespace_named (part ∷ parts) = created_namespace (part ∷ parts)

-- The texts name the key: first the parts of its namespace, then its name.
pub record IsNamed (texts : List (List ℕ)) (key : KeyValue) : Type 0 where
  pub parts : List (List ℕ)
  pub name : List ℕ
  pub splits : texts ≡ parts ++ name ∷ []
  pub is : key ≡ key_of (namespace_named parts) name

-- Why texts name no key: there are none; or one of them is no text, for this reason; or memory was refused.
pub data NamesNoKey (bytes lengths : List ℕ) (said : Code) : Type 0 where
  no_text : lengths ≡ [] → said ≡ code.BadLengths → NamesNoKey bytes lengths said
  unread : IsTextFault bytes lengths said → NamesNoKey bytes lengths said
  memory : AreTexts bytes lengths → said ≡ code.NoMemory → NamesNoKey bytes lengths said

-- ---- ids

-- The text at this place is no id.
pub record IsNoId (texts : List (List ℕ)) : Type 0 where
  pub at : ℕ
  pub within : at < length texts
  pub spells_none : (pairs : List Pair) → IsIdText (slice_index_or texts at []) pairs → ⊥

-- Why texts name no tree of so many contexts at most: one of them is no text, for this reason; or one is no id; or the
-- ids are no tree, by their first fault.
pub data NamesNoTree (most : ℕ) (bytes lengths : List ℕ) (said : Code) : Type 0 where
  unread : IsTextFault bytes lengths said → NamesNoTree most bytes lengths said
  no_id : AreTexts bytes lengths → IsNoId (texts_in bytes lengths) → said ≡ code.BadId
      → NamesNoTree most bytes lengths said
  no_tree : AreTexts bytes lengths → (ids : List Id) (why : TreeFault) → AllZip IsIdText (texts_in bytes lengths) ids
      → HasFault most ids why → said ≡ tree_code why
      → NamesNoTree most bytes lengths said
