-- Laws of a selection. Definitions first: each is the contract of an empty function.
use Rattle.std.specs.Prelude.{◌≡◌, ℕ, ◌==◌, ◌&&◌, List, Some, None, slice_get}
use Rattle.ext_ids.specs.Grammar.{Pair}
use Rattle.ext_selection.specs.Selection.{flag_at, is_wanted, wanted_of}
use Rattle.ext_selection.specs.Shards.{part_in}
use Rattle.ext_selection.specs.declared.selection.Selection.{Selection}
use Rattle.ext_selection.specs.declared.shards.Shard.{Shard}

-- A part has exactly those of the tests wanted in all parts whose ids tell it: each is in one of the parts from 1 to
-- their count, and in no other.
abbrev pub PartsShareTests : Type 0
PartsShareTests = (selection : Selection) (shard : Shard) (id : List ℕ)
    → is_wanted (record selection { shard = Some shard }) id
    ≡ (is_wanted (record selection { shard = None }) id && (part_in shard.count id == shard.part))

-- A test that stands in two tables is wanted in both or in neither: what is added beside it changes nothing.
abbrev pub TestsStayWanted : Type 0
TestsStayWanted = (selection : Selection) (ids more : List (List Pair)) (k l : ℕ) (id : List Pair)
    → slice_get ids k ≡ Some id → slice_get more l ≡ Some id
    → flag_at (wanted_of selection ids) k ≡ flag_at (wanted_of selection more) l
