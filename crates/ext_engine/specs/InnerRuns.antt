-- How the parts of a run of a tree end. The lanes are usable again and as many as before. If the run reached its end,
-- the contract says what ran; otherwise, why it did not, and what became of the share. No public contract cites it.
use Rattle.std.specs.Prelude.{◌≡◌, ◌≢◌, ℕ, Bool, true, List, [], length, map, min, Result, IfOk, IfErr, Vec, slice_index_or}
use Rattle.std.specs.List.{flat_map}
use Rattle.std.specs.declared.alloc.Global.{Global}
use Rattle.ext_crew.specs.Dealing.{RunByDealing}
use Rattle.ext_engine.specs.declared.node.closers.Item.{Item}
use Rattle.ext_engine.specs.declared.node.fault.EngineFault.{EngineFault}
use Rattle.ext_engine.specs.declared.node.fault.EngineFault.TheVariants as faults
use Rattle.ext_engine.specs.declared.node.results.RanNode.{RanNode}
use Rattle.ext_engine.specs.InnerResults.{ran_view, ran_in, rans_below, answer_of}
use Rattle.ext_engine.specs.declared.node.results.Below.{Below}
use Rattle.ext_engine.specs.TreeRun.{Ran, TreeSetting, Lanes, IsUsable, TreeRun, BodyMade, RanInTurn}
use Rattle.ext_engine.specs.Failing.{EndsAs, EndsInTurn, BodyEndsEarly, EndsEarly}

abbrev pub nodes_in : Vec Item Global → List ℕ
nodes_in items = map (λ i. i.node) items.items

abbrev pub rans_in : Vec RanNode Global → List Ran
rans_in ran = map ran_view ran.items

module _ {V A : Type 0} (t : TreeSetting V A) where
  -- The run of a node and of those below it, down to `depth` levels.
  abbrev pub NodeEnds : ℕ → ℕ → Lanes V → Result (Vec RanNode Global) EngineFault → Lanes V → Type 0
  NodeEnds depth node before result after =
      IsUsable t.store t.locks after × (length after.first ≡ length before.first)
      × IfOk result (λ ran. TreeRun t depth node before (rans_in ran) after)
      × IfErr result (λ why. EndsEarly t depth node before why after)

  -- The run of a container's body, if it has to be run.
  abbrev pub BodyEnds : ℕ → Bool → ℕ → Lanes V → Result Below EngineFault → Lanes V → Type 0
  BodyEnds depth go node before result after =
      IsUsable t.store t.locks after × (length after.first ≡ length before.first)
      × IfOk result (λ below. BodyMade t (TreeRun t depth) go node before (rans_below below) after)
      × IfErr result (λ why. (go ≡ true) × BodyEndsEarly t (TreeRun t depth) (EndsEarly t depth) node before why after)

  -- The run of children one after another.
  abbrev pub TurnEnds : ℕ → List ℕ → Lanes V → Result (Vec (Result (Vec RanNode Global) EngineFault) Global) EngineFault
      → Lanes V → Type 0
  TurnEnds depth nodes before result after =
      IsUsable t.store t.locks after × (length after.first ≡ length before.first)
      × IfOk result (λ outcomes. RanInTurn (TreeRun t depth) nodes before (flat_map ran_in outcomes.items) after)
      × IfErr result (λ why. EndsInTurn (TreeRun t depth) (EndsEarly t depth) nodes before why after)

  -- The run of children beside one another. Each of them reached its end or did not.
  abbrev pub BesideEnds : ℕ → Vec Item Global → Lanes V
      → Result (Vec (Result (Vec RanNode Global) EngineFault) Global) EngineFault → Lanes V → Type 0
  BesideEnds depth items before result after =
      IsUsable t.store t.locks after × (length after.first ≡ length before.first)
      × IfOk result (λ outcomes. RunByDealing
      (λ i s answer u. EndsAs (TreeRun t depth) (EndsEarly t depth) (slice_index_or (nodes_in items) i 0) s
      (answer_of answer) u)
      (length items.items) (min (length before.first) (length items.items)) before outcomes.items after)
      × IfErr result (λ why. (items.items ≢ []) × (why ≡ faults.Memory) × (after ≡ before))
