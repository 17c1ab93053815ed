-- What is written of a plan's notes for machines: one object of JSON, and a line feed behind it,
--
--     {"notes":[NOTE,NOTE],"more":false}
--
-- with no space between tokens, and all members in this order. A note is
--
--     {"node":ID,"text":TEXT}
--
-- where TEXT is its line, and ID that of the node of which it is, or null. The first 20 are there, and `more` is true if
-- there are more. `print` of the kit's JSON says how a text is written, and a text reads back as it was.
use Rattle.std.specs.Prelude.{ℕ, codes, List, [], ◌∷◌, ◌++◌, length, nat_lt, take, Option, Some, None}
use Rattle.std.specs.List.{flat_map}
use Rattle.json.specs.Token.{Token, begin_array, begin_object, boolean, end_array, end_object, key, null, string}
use Rattle.json.specs.Print.{print}
use Rattle.ext_plan.specs.Plans.{PlanText}
use Rattle.ext_races.specs.RaceLines.{id_of_node, line_limit}
use Rattle.ext_lint.specs.NodeSteps.{node_steps}
use Rattle.ext_lint.specs.NoteLines.{note_words}
use Rattle.ext_lint.specs.Notes.{NoteText, idle, missing, uneven, empty, untested, solitary, unnamed, crowded, lone, notes, stored_by}
use Rattle.ext_lint.specs.Said.{SaidText}

-- The node of which a note is.
abbrev pub node_of_note : NoteText → Option ℕ
node_of_note (idle p) = Some p.node
node_of_note (missing p s) = Some p.node
node_of_note (uneven p) = Some p.node
node_of_note (empty call) = Some call.from
node_of_note untested = None
node_of_note (solitary node) = Some node
node_of_note (unnamed label) = None
node_of_note crowded = None
node_of_note (lone name) = None

module _ (plan : PlanText) where
  abbrev pub node_value : Option ℕ → Token
  node_value None = null
  node_value (Some node) = string (id_of_node plan node)

  module _ (stored : List SaidText) where
    unfoldable pub note_object : NoteText → List Token
    note_object note =
        begin_object ∷ key (codes "node") ∷ node_value (node_of_note note) ∷ key (codes "text")
        ∷ string (note_words plan stored note) ∷ end_object ∷ []

    unfoldable pub notes_object : List NoteText → List Token
    notes_object ns =
        begin_object ∷ key (codes "notes") ∷ begin_array ∷ (flat_map note_object (take line_limit ns)
        ++ end_array ∷ key (codes "more") ∷ boolean (nat_lt line_limit (length ns)) ∷ end_object ∷ [])

    abbrev pub notes_json : List NoteText → List ℕ
    notes_json ns = print (notes_object ns) ++ codes "\n"

  abbrev pub lint_json : List ℕ
  lint_json = notes_json (stored_by plan (node_steps plan)) (notes plan)
