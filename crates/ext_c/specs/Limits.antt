-- What the limits of an opening mean to the store.
use Rattle.std.specs.Prelude.{ℕ, Bool, true, false}
use Rattle.ext_model.specs.declared.size.Size.{Size}
use Rattle.ext_model.specs.declared.size.Size.TheVariants as sizes
use Rattle.ext_store.specs.declared.limits.Limits.{Limits}
use Rattle.ext_store.specs.Stores.{AreStoreLimits}
use Rattle.ext_c.specs.declared.limits.ExtLimits.{ExtLimits}

abbrev pub size_if_large : Bool → Size
size_if_large true = sizes.Large
size_if_large false = sizes.Usual

-- The limits of a store with so many lanes.
abbrev pub store_limits : ExtLimits → ℕ → Limits
store_limits given count =
    record {
      lanes = count;
      tries = given.tries;
      keys = given.keys;
      numbers = given.numbers;
      keep_faults = given.keep_faults;
      size = size_if_large given.large;
    }

-- Each limit is in its range.
abbrev pub AreInRange : Limits → Type 0
AreInRange limits = AreStoreLimits limits.size limits.keys limits.lanes limits.tries limits.numbers
