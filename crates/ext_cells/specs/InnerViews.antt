-- What seats know, and what becomes of it at each step. It is what a lane has seen, as contracts see that of lanes, and
-- what leads to cells. No public contract cites it.
use Rattle.std.specs.Prelude.{ℕ, ◌+◌, false, Option, Some, None, List, [], ◌∷◌, ◌++◌}
use Rattle.ext_model.specs.History.{History, Limits}
use Rattle.ext_history.specs.Histories.{seen}
use Rattle.ext_cells.specs.declared.limits.CellLimits.{CellLimits}
use Rattle.ext_cells.specs.declared.view.View.{View}

abbrev pub limits_of : CellLimits → Limits
limits_of limits = record {
  cells = limits.cells;
  lanes = limits.lanes;
  numbers = limits.numbers;
  keep_faults = limits.keep_faults;
}

-- the first lane, which gives out the numbers of lanes from 1 on
abbrev pub first_lane : CellLimits → View
first_lane limits = record {
  limits = limits;
  lane = Some 0;
  given = Some 1;
  fronts = [];
  told = [];
  indexed = [];
  block = 0;
  least = 0;
}

abbrev pub one_more : Option ℕ → Option ℕ
one_more None = None
one_more (Some n) = Some (n + 1)

-- the first lane, after it gave out a number
abbrev pub giving : View → View
giving v = record {
  limits = v.limits;
  lane = v.lane;
  given = one_more v.given;
  fronts = v.fronts;
  told = v.told;
  indexed = v.indexed;
  block = v.block;
  least = v.least;
}

-- the lane that has that number
abbrev pub born : View → View
born v = record {
  limits = v.limits;
  lane = v.given;
  given = None;
  fronts = [];
  told = [];
  indexed = [];
  block = 0;
  least = 0;
}

-- a note of what a lane has seen
abbrev pub note : View → View
note v = record {
  limits = v.limits;
  lane = None;
  given = None;
  fronts = [];
  told = seen v.fronts;
  indexed = [];
  block = 0;
  least = 0;
}

-- a lane that took in a note
abbrev pub noted : View → View → View
noted v w = record {
  limits = v.limits;
  lane = v.lane;
  given = v.given;
  fronts = v.fronts;
  told = w.told;
  indexed = v.indexed;
  block = v.block;
  least = v.least;
}

-- what is left of a note that was joined
abbrev pub spent : View
spent = record {
  limits = record { cells = 0; lanes = 0; numbers = 0; keep_faults = false };
  lane = None;
  given = None;
  fronts = [];
  told = [];
  indexed = [];
  block = 0;
  least = 0;
}

-- ---- steps

-- the view after a step that left this history
abbrev pub shown : View → History → View
shown v h = record {
  limits = v.limits;
  lane = v.lane;
  given = v.given;
  fronts = v.fronts ++ h ∷ [];
  told = [];
  indexed = v.indexed;
  block = v.block;
  least = v.least;
}

-- a view that knows other things of indices and of a block's word
abbrev pub knowing : View → List (ℕ × ℕ) → ℕ → ℕ → View
knowing v indexed block least =
    record {
      limits = v.limits;
      lane = v.lane;
      given = v.given;
      fronts = v.fronts;
      told = v.told;
      indexed = indexed;
      block = block;
      least = least;
    }

-- after a step that led to a cell at an index: it shows no history
abbrev pub led : View → ℕ → ℕ → View
led v cell index = knowing v ((cell, index) ∷ v.indexed) v.block v.least

-- and after one that found a block's word, which leads to no cell
abbrev pub sought : View → ℕ → ℕ → View
sought v index word = knowing v v.indexed index word
