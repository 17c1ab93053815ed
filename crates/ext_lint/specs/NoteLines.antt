-- What is written of a plan's notes: a line for each of the first 20, and a line `and more` if there are more, or a
-- line `nothing to note` alone. For instance
--
--     [engine:x]/[test:a]: step 0 of its test, want srever up: no step stores srever: did you mean server?
--     [engine:x]/[test:a]: step 1 of its test, want server upp: no step stores upp under server: did you mean up?
--     [engine:x]/[test:a]: step 2 of its test, none srever: no step stores srever: did you mean server?
--     [engine:x]: before_each 0: no test is below
--     [engine:x]: step 0 of its before_each 1: up 1 is [engine:x] for [engine:x]/[test:a], and [engine:x]/[class:A] for [engine:x]/[class:A]/[test:b]
--     [engine:x]: after_each 0: it has no steps
--     the plan: it has no test
--     [engine:x]/[test:c]: its mode is concurrent, and that of no node beside it
--     key disk: no step names it
--     the steps name more than 64 keys
--     lock db: one test alone takes it
--
-- Node, call and step are written as in the explanation of a refused step. Texts are bytes and stand as they are.
use Rattle.std.specs.Prelude.{ℕ, ◌==◌, codes, Bool, not, List, [], ◌∷◌, ◌++◌, length, nat_le, nat_lt, map, filter, take, Option, Some, None, slice_get, if◌then◌else◌}
use Rattle.std.specs.Fmt.{decimal}
use Rattle.std.specs.List.{flat_map}
use Rattle.ext_lifecycle.specs.declared.call.Call.{Call}
use Rattle.ext_lifecycle.specs.declared.call.Kind.{Kind}
use Rattle.ext_lifecycle.specs.declared.call.Kind.TheVariants as kinds
use Rattle.ext_plan.specs.Plans.{PlanText}
use Rattle.ext_plan.specs.ReadPlans.{ids_of_nodes}
use Rattle.ext_plan.specs.Steps.{height}
use Rattle.ext_plan.specs.StepWords.{word_text}
use Rattle.ext_plan_reading.specs.Nearest.{nearest}
use Rattle.ext_races.specs.MadeSteps.{path_of}
use Rattle.ext_races.specs.RaceLines.{id_of_node, line_limit}
use Rattle.ext_lint.specs.Heights.{first_test, reach}
use Rattle.ext_lint.specs.Notes.{NoteText, idle, missing, uneven, empty, untested, solitary, unnamed, crowded, lone, notes, stored_by}
use Rattle.ext_lint.specs.NodeSteps.{NodeStepText, call_at, node_steps}
use Rattle.ext_lint.specs.Said.{SaidText, wants}

-- A callback by its kind and its number, or the test.
abbrev pub call_words : Kind → ℕ → List ℕ
call_words kinds.BeforeAll index = codes "before_all " ++ decimal index
call_words kinds.BeforeEach index = codes "before_each " ++ decimal index
call_words kinds.Test index = codes "test"
call_words kinds.AfterEach index = codes "after_each " ++ decimal index
call_words kinds.AfterAll index = codes "after_all " ++ decimal index

-- The name that may have been meant.
abbrev pub hint : Option (List ℕ) → List ℕ
hint None = []
hint (Some near) = codes ": did you mean " ++ near ++ codes "?"

-- The texts that are said of the key with this number.
abbrev pub texts_of : ℕ → List SaidText → List (List ℕ)
texts_of key said = map (λ s. s.text) (filter (λ s. s.key == key) said)

-- What a step asks for: its word and its key, and the text that it wants.
abbrev pub asked_words : SaidText → List ℕ
asked_words s = word_text s.word ++ codes " " ++ s.name ++ (if wants s.word then codes " " ++ s.text else [])

-- Why a text is missing, where these texts are stored under its key, and keys with these names are stored.
abbrev pub missing_words : SaidText → List (List ℕ) → List (List ℕ) → List ℕ
missing_words s [] names = codes "no step stores " ++ s.name ++ hint (nearest names s.name)
missing_words s (text ∷ texts) names =
    codes "no step stores " ++ s.text ++ codes " under " ++ s.name ++ hint (nearest (text ∷ texts) s.text)

module _ (plan : PlanText) where
  abbrev pub path_in_plan : ℕ → List ℕ
  path_in_plan node = path_of (ids_of_nodes plan.nodes) node

  abbrev pub id_if_there : Option ℕ → List ℕ
  id_if_there None = []
  id_if_there (Some node) = id_of_node plan node

  -- The context that stands so much higher than the test, and the test.
  abbrev pub context_words : ℕ → ℕ → List ℕ
  context_words up test = id_if_there (slice_get (path_in_plan test) up) ++ codes " for " ++ id_of_node plan test

  -- On which context a step acts for these two tests.
  abbrev pub both_words : ℕ → ℕ → Option ℕ → List ℕ
  both_words up near None = []
  both_words up near (Some other) = context_words up near ++ codes ", and " ++ context_words up other

  -- The same for a test and the first one at or below the node at another depth.
  abbrev pub others_words : ℕ → ℕ → Option ℕ → List ℕ
  others_words node up None = []
  others_words node up (Some near) =
      both_words up near (first_test plan node (λ depth. not (depth == length (path_in_plan near))))

  unfoldable pub node_step_words : NodeStepText → List ℕ
  node_step_words p =
      id_of_node plan p.node ++ codes ": step " ++ decimal p.at ++ codes " of its " ++ call_words p.kind p.index

  unfoldable pub missing_note : List SaidText → NodeStepText → SaidText → List ℕ
  missing_note stored p s =
      node_step_words p ++ codes ", " ++ asked_words s ++ codes ": "
      ++ missing_words s (texts_of s.key stored) (map (λ other. other.name) stored)

  unfoldable pub uneven_note : NodeStepText → List ℕ
  uneven_note p =
      node_step_words p ++ codes ": up " ++ decimal (height p.step) ++ codes " is "
      ++ others_words p.node (height p.step) (first_test plan p.node (λ depth. nat_le depth (reach plan p)))

  -- What is noted of a callback, with these words at its end.
  unfoldable pub callback_note : Call → List ℕ → List ℕ
  callback_note call end = id_of_node plan call.from ++ codes ": " ++ call_words call.kind call.index ++ codes ": " ++ end

  -- What is noted, where these are stored.
  abbrev pub note_words : List SaidText → NoteText → List ℕ
  note_words stored (idle p) = callback_note (call_at p) (codes "no test is below")
  note_words stored (missing p s) = missing_note stored p s
  note_words stored (uneven p) = uneven_note p
  note_words stored (empty call) = callback_note call (codes "it has no steps")
  note_words stored untested = codes "the plan: it has no test"
  note_words stored (solitary node) = id_of_node plan node ++ codes ": its mode is concurrent, and that of no node beside it"
  note_words stored (unnamed label) = codes "key " ++ label ++ codes ": no step names it"
  note_words stored crowded = codes "the steps name more than " ++ decimal plan.key_places ++ codes " keys"
  note_words stored (lone name) = codes "lock " ++ name ++ codes ": one test alone takes it"

  -- The line of a note.
  abbrev pub note_line : List SaidText → NoteText → List ℕ
  note_line stored note = note_words stored note ++ codes "\n"

  -- The lines of the first notes, and whether there are more.
  abbrev pub note_lines : List SaidText → List NoteText → List ℕ
  note_lines stored [] = codes "nothing to note\n"
  note_lines stored (note ∷ more) =
      flat_map (note_line stored) (take line_limit (note ∷ more))
      ++ (if nat_lt line_limit (length (note ∷ more)) then codes "and more\n" else [])

  abbrev pub lint_text : List ℕ
  lint_text = note_lines (stored_by plan (node_steps plan)) (notes plan)

  -- Whether there is a note.
  abbrev pub has_notes : Bool
  has_notes = not (length (notes plan) == 0)
