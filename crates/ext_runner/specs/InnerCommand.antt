-- What the words of options stand for. An own rule.
use Rattle.std.specs.Prelude.{◌≡◌, ◌≢◌, ◌⊎◌, ℕ, ◌≤◌, ◌<◌, ◌^◌, Bool, true, false, codes, List, [], map, option_map, Option, Some, None, if◌then◌else◌, String, string_bytes}
use Rattle.std.specs.Str.{bytes_eq}
use Rattle.std.specs.Str.Parse.{IsNumeral, digits_value, without_leading_plus}
use Rattle.clap.specs.Matches.{first_value, matched_of, one_text, raw_values}
use Rattle.clap.specs.declared.parser.matches.Found.{Found}
use Rattle.clap.specs.declared.parser.matches.MatchedArg.{MatchedArg}
use Rattle.ext_runner.specs.declared.command.Asked.{Asked}
use Rattle.ext_runner.specs.declared.command.Asked.TheVariants as asks
use Rattle.ext_runner.specs.declared.command.Running.{Running}
use Rattle.ext_runner.specs.declared.command.Selecting.{Selecting}
use Rattle.ext_runner.specs.declared.command.ColorChoice.{ColorChoice}
use Rattle.ext_runner.specs.declared.command.ColorChoice.TheVariants as choices
use Rattle.ext_selection.specs.Shards.{IsDecimal, ReadsShard}
use Rattle.ext_selection.specs.declared.shards.Shard.{Shard}
use Rattle.ext_runner.specs.declared.command.Form.{Form}
use Rattle.ext_runner.specs.declared.command.Form.TheVariants as forms
use Rattle.ext_runner.specs.declared.command.Order.{Order}
use Rattle.ext_runner.specs.declared.command.Order.TheVariants as orders

-- The form of this word, and of none.
abbrev pub form_of : Option (List ℕ) → Form
form_of None = forms.Summary
form_of (Some word) =
    if bytes_eq word (codes "text") then forms.Text
    else if bytes_eq word (codes "json") then forms.Json
    else if bytes_eq word (codes "tree") then forms.Tree
    else forms.Summary

abbrev pub color_of : Option (List ℕ) → ColorChoice
color_of None = choices.Auto
color_of (Some word) =
    if bytes_eq word (codes "always") then choices.Always
    else if bytes_eq word (codes "never") then choices.Never
    else choices.Auto

-- The order that this word asks for, or that is taken where there is none. A seed is a number in decimal digits.
abbrev pub IsOrderOf : Option (List ℕ) → Order → Type 0
IsOrderOf None order = order ≡ orders.Listed
IsOrderOf (Some word) orders.Listed = ⊥
IsOrderOf (Some word) orders.AnySeed = word ≡ codes "any"
IsOrderOf (Some word) (orders.Seed seed) = IsDecimal word seed

-- The word asks for no order.
abbrev pub IsNoOrder : Option (List ℕ) → Type 0
IsNoOrder None = ⊥
IsNoOrder (Some word) = (word ≢ codes "any") × ((seed : ℕ) → IsDecimal word seed → seed < 2 ^ 64 → ⊥)

-- The part that this word asks for, or none where there is no word.
abbrev pub IsShardOf : Option (List ℕ) → Option Shard → Type 0
IsShardOf None shard = shard ≡ None
IsShardOf (Some word) None = ⊥
IsShardOf (Some word) (Some shard) = ReadsShard word shard.part shard.count

-- The word asks for no part.
abbrev pub IsNoShard : Option (List ℕ) → Type 0
IsNoShard None = ⊥
IsNoShard (Some word) = (part count : ℕ) → ReadsShard word part count → 1 ≤ part → part ≤ count → count < 2 ^ 64 → ⊥

-- ---- which tests are selected

abbrev pub values_in : Option MatchedArg → List (List ℕ)
values_in None = []
values_in (Some matched) = raw_values matched

-- The values of an option, in the order in which they stand.
abbrev pub values_of : Found → List ℕ → List (List ℕ)
values_of found name = values_in (matched_of found name)

-- A flag, which is set if its text is `true`.
pub record IsFlag (text : Option (List ℕ)) (flag : Bool) : Type 0 where
  pub none : text ≡ None → flag ≡ false
  pub set : text ≡ Some (codes "true") → flag ≡ true
  pub unset : text ≡ Some (codes "false") → flag ≡ false

-- Which tests are selected by what clap found.
pub record SelectsAsAsked (found : Found) (selecting : Selecting) : Type 0 where
  pub texts : map string_bytes selecting.texts.items ≡ values_of found (codes "TEXT")
  pub skips : map string_bytes selecting.skips.items ≡ values_of found (codes "skip")
  pub exact : IsFlag (one_text found (codes "exact")) selecting.exact
  pub shard : IsShardOf (first_value found (codes "shard")) selecting.shard
  pub failed : option_map string_bytes selecting.failed ≡ first_value found (codes "failed")
  pub list : IsFlag (one_text found (codes "list")) selecting.list

-- ---- how they are run

-- The number that this text spells, or else another one.
pub record IsCount (text : Option (List ℕ)) (unsaid : ℕ) (count : ℕ) : Type 0 where
  pub none : text ≡ None → count ≡ unsaid
  pub value : (t : List ℕ) → text ≡ Some t → IsNumeral 10 (without_leading_plus t)
      → digits_value 10 (without_leading_plus t) < 2 ^ 32 → count ≡ digits_value 10 (without_leading_plus t)

-- How tests are run by what clap found.
pub record RunsAsAsked (found : Found) (running : Running) : Type 0 where
  pub stop_after : IsCount (one_text found (codes "fail-fast")) 0 running.stop_after
  pub retries : IsCount (one_text found (codes "retries")) 0 running.retries
  pub repeat : IsCount (one_text found (codes "repeat")) 1 running.repeat
  pub order : IsOrderOf (first_value found (codes "shuffle")) running.order

-- ---- what is asked for

-- The folder that is named by an option which only a program has whose processes share texts.
abbrev pub folder_of : Bool → Found → List ℕ → Option (List ℕ)
folder_of true found name = first_value found name
folder_of false found name = None

-- What is asked for by what clap found, by a program whose processes share texts, or do not: a close comes first, and a
-- word that stands for no part or no order is refused.
abbrev pub AsksFor : Bool → Found → Asked → Type 0
AsksFor shares found (asks.Run options) =
    (folder_of shares found (codes "close") ≡ None) × SelectsAsAsked found options.selecting
    × RunsAsAsked found options.running × (option_map string_bytes options.shared ≡ folder_of shares found (codes "shared"))
AsksFor shares found (asks.Close folder) = folder_of shares found (codes "close") ≡ Some (string_bytes folder)
AsksFor shares found asks.Helped = ⊥
AsksFor shares found asks.Refused =
    IsNoShard (first_value found (codes "shard")) ⊎ IsNoOrder (first_value found (codes "shuffle"))

-- The second text is a copy of the first.
abbrev pub IsCopy : {A B : Type 0} → String A → String B → Type 0
IsCopy text copy = string_bytes copy ≡ string_bytes text
