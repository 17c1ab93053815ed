-- How large a store may be. These limits are not from JUnit.
use Rattle.std.specs.Prelude.{ℕ}
use Rattle.ext_model.specs.declared.size.Size.{Size}
use Rattle.ext_model.specs.declared.size.Size.TheVariants as sizes

-- How many contexts a tree has at most.
abbrev pub most_contexts : Size → ℕ
most_contexts sizes.Usual = 256
most_contexts sizes.Large = 65536

-- How many lanes a store has at most.
abbrev pub most_lanes : Size → ℕ
most_lanes sizes.Usual = 16
most_lanes sizes.Large = 32

-- How many numbers a store draws at most: a cell has 20 bits for one.
abbrev pub most_numbers : Size → ℕ
most_numbers sizes.Usual = 65535
most_numbers sizes.Large = 1048575
