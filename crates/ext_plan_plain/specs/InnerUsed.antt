-- Which places of a plain run were used. No public contract cites it.
use Rattle.std.specs.Prelude.{◌≡◌, Bool, false, None}
use Rattle.std.specs.BTreeSet.{BTreeSet, contains_by}
use Rattle.ext_model.specs.Plain.{Place, Plain, place_cmp, state_of}

-- The place was used: something was put or claimed there, or was to be.
abbrev pub is_used : BTreeSet Place → Place → Bool
is_used used place = contains_by (place_cmp place) used

-- Nothing stands at places that were not used.
pub record IsNoted (store : Plain) (used : BTreeSet Place) : Type 0 where
  pub empty : (place : Place) → is_used used place ≡ false → (state_of store).slots place ≡ None
