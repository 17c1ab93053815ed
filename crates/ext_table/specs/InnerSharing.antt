-- What a call was handed, as private functions hold it. No public contract cites it.
use Rattle.std.specs.Prelude.{◌≡◌, ◌+◌, ◌≤◌, List, [], map, vec_capacity, vec_len}
use Rattle.std.specs.List.{range_with_len}
use Rattle.ext_tree.specs.Keys.{KeyValue}
use Rattle.ext_store.specs.Stores.{StoreLane}
use Rattle.ext_table.specs.Sharing.{Handed, level_key}
use Rattle.ext_table.specs.declared.engine.Kept.{Kept}
use Rattle.ext_table.specs.declared.shared.Handing.{Handing}

-- A key for each level of a tree.
abbrev pub level_keys : List KeyValue
level_keys = map level_key (range_with_len 0 16)

abbrev pub handed_by : {S : Type 0} → Handing S → StoreLane (Kept S) → Handed S
handed_by handing lane = record {
  values = map (λ value. value.now) handing.values.items;
  computed = handing.computed;
  found = handing.found;
  lane = lane;
}

-- There is room for as many values as a path has nodes, and each value was computed or found.
pub record IsRoomy {S : Type 0} (handing : Handing S) : Type 0 where
  pub room : 16 ≤ vec_capacity handing.values
  pub counted : handing.computed + handing.found ≡ vec_len handing.values

-- Nothing was handed.
pub record IsBegun {S : Type 0} (handing : Handing S) : Type 0 where
  pub none : handing.values.items ≡ []
  pub none_long : vec_len handing.values ≡ 0
  pub none_computed : handing.computed ≡ 0
  pub none_found : handing.found ≡ 0
  pub room : 16 ≤ vec_capacity handing.values
