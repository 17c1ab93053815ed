-- Which tests of a table are selected by words, where these may name the report of an earlier run. An own rule.
use Rattle.std.specs.Prelude.{◌≡◌, ◌≢◌, ℕ, Bool, true, false, List, [], ◌∷◌, ◌++◌, map, Option, Some, None, String, Vec, slice_get, string_bytes}
use Rattle.std.specs.List.{AllZip, flat_map}
use Rattle.std.specs.Str.Lines.{lines}
use Rattle.ext_ids.specs.Grammar.{id_text}
use Rattle.ext_tree.specs.Trees.{Id}
use Rattle.ext_selection.specs.Selection.{AreChosen, wanted_of}
use Rattle.ext_selection.specs.declared.selection.Selection.{Selection}
use Rattle.ext_table.specs.declared.row.Row.{Row}
use Rattle.ext_runner.specs.InnerCommand.{IsCopy}
use Rattle.ext_runner.specs.InnerEarlierRuns.{failed_ids}
use Rattle.ext_runner.specs.Selecting.{IsSelected, node_of}
use Rattle.ext_runner.specs.declared.command.Options.{Options}
use Rattle.ext_runner.specs.declared.command.Order.{Order}
use Rattle.ext_runner.specs.declared.command.Order.TheVariants as orders
use Rattle.ext_runner.specs.declared.command.Selecting.{Selecting}

-- ---- which tests failed before

abbrev pub text_of : Option Id → List (List ℕ)
text_of None = []
text_of (Some id) = id_text id ∷ []

-- The text of the id at this index, if there is one.
abbrev pub text_at : List Id → ℕ → List (List ℕ)
text_at ids index = text_of (slice_get ids index)

-- These are the ids of the nodes that stand in one of these containers, or that one of them stands in.
pub record AreBelow {T : Type 0} (ids : List Id) (rows : List (Row T)) (containers added : List (List ℕ)) : Type 0 where
  pub below : Selection
  pub texts : map string_bytes below.texts.items ≡ containers
  pub whole : below.exact ≡ true
  pub skips : below.skips.items ≡ []
  pub shard : below.shard ≡ None
  pub failed : below.failed ≡ None
  pub chosen : List ℕ
  pub are_chosen : AreChosen (map node_of rows) (wanted_of below ids) chosen
  pub added_are : added ≡ flat_map (text_at ids) chosen

-- The same, and none where there is no container.
abbrev pub AreBelowAny : {T : Type 0} → List Id → List (Row T) → List (List ℕ) → List (List ℕ) → Type 0
AreBelowAny ids rows [] added = added ≡ []
AreBelowAny ids rows (first ∷ more) added = AreBelow ids rows (first ∷ more) added

-- These failed in the run of a report: its failed tests, and what stands in its failed containers.
pub record FailedBefore {T : Type 0} (ids : List Id) (rows : List (Row T)) (failed : List (List ℕ)) : Type 0 where
  pub report : List ℕ
  pub below : List (List ℕ)
  pub are_below : AreBelowAny ids rows (failed_ids false (lines report)) below
  pub failed_are : failed ≡ failed_ids true (lines report) ++ below

-- What a selection lists, where a file is named or none is.
abbrev pub Lists : {T A B C : Type 0} → List Id → List (Row T) → Option (String A) → Option (Vec (String B) C) → Type 0
Lists ids rows None None = Unit {0}
Lists ids rows None (Some failed) = ⊥
Lists ids rows (Some file) None = ⊥
Lists ids rows (Some file) (Some failed) = FailedBefore ids rows (map string_bytes failed.items)

-- ---- what is selected

-- The selection by these words.
pub record IsSelectionOf {T : Type 0} (selecting : Selecting) (ids : List Id) (rows : List (Row T)) (selection : Selection)
    : Type 0 where
  pub texts : AllZip IsCopy selecting.texts.items selection.texts.items
  pub skips : AllZip IsCopy selecting.skips.items selection.skips.items
  pub exact : selection.exact ≡ selecting.exact
  pub shard : selection.shard ≡ selecting.shard
  pub lists : Lists ids rows selecting.failed selection.failed

-- The table has what these words select.
pub record SelectedBy {T : Type 0} (selecting : Selecting) (seed : Option ℕ) (ids : List Id) (rows : List (Row T))
    (new_ids : List Id) (new_rows : List (Row T)) : Type 0 where
  pub selection : Selection
  pub selection_is : IsSelectionOf selecting ids rows selection
  pub selected : IsSelected selection seed ids rows new_ids new_rows

-- The seed of an order, if it has one: any where none is said.
abbrev pub IsSeedOf : Order → Option ℕ → Type 0
IsSeedOf orders.Listed seed = seed ≡ None
IsSeedOf orders.AnySeed None = ⊥
IsSeedOf orders.AnySeed (Some seed) = Unit {0}
IsSeedOf (orders.Seed given) seed = seed ≡ Some given

-- The table of the tests that are run, in the order that is asked for.
pub record AsksTable {T : Type 0} (options : Options) (ids : List Id) (rows : List (Row T)) (new_ids : List Id)
    (new_rows : List (Row T)) : Type 0 where
  pub seed : Option ℕ
  pub seed_is : IsSeedOf options.running.order seed
  pub selected : SelectedBy options.selecting seed ids rows new_ids new_rows
