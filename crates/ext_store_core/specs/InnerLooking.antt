-- What a look-up along a path promises, for the path of a context or of its ancestors alone. No public contract cites
-- it.
use Rattle.std.specs.Prelude.{ℕ, ◌≡◌, ◌≤◌, List, [], length, map, Result, Ok, Err}
use Rattle.ext_model.specs.declared.look.Look.{Look}
use Rattle.ext_model.specs.History.{History}
use Rattle.ext_history.specs.Histories.{IsStepped}
use Rattle.ext_model.specs.CallActs.{IsAnswerPoint, look_after}
use Rattle.ext_model.specs.CallActs as model
use Rattle.ext_cells.specs.Lanes.{Lane}
use Rattle.ext_cells.specs.CellCalls.{IsOvertakenOn}
use Rattle.ext_store_core.specs.declared.fault.Refusal.{Refusal}
use Rattle.ext_store_core.specs.declared.fault.Refusal.TheVariants.{Contended}
use Rattle.ext_store_core.specs.ContextCalls.{ContextCells, cell_in}

-- The look-up along the path at one single point of the call, which made no event. If there is a context to ask, the
-- call made at least one step.
pub record LooksAt (store : ContextCells) (path : List ℕ) (key : ℕ) (before after : Lane) (look : Look) : Type 0 where
  pub calls : model.Calls before.cells.limits before.view after.view []
  pub stepped : 1 ≤ length path → IsStepped before.view after.view
  pub point : (p : History) × IsAnswerPoint before.view after.view [] p × (look ≡ look_after (cell_in store key) path p)

-- The result of such a look-up: what it found, or other lanes were in the way.
abbrev pub Looks : ContextCells → List ℕ → ℕ → Lane → Lane → Result Look Refusal → Type 0
Looks store path key before after (Ok look) = LooksAt store path key before after look
Looks store path key before after (Err why) =
    (why ≡ Contended) × model.IsOvertaken before.cells.limits store.tries before.view after.view
    × IsOvertakenOn store.tries (map (cell_in store key) path) before.view after.view
