use Rattle.std.proofs.Common.{◌≡◌, ◌<◌, ℕ, List, get_or, take, length, sym, ap, ◌∙◌, subst, arith, length-take-le}
use Rattle.ext_cells.specs.Lanes.{Lane}
use Rattle.ext_cells.specs.InnerPasses.{ReadPass}
use Rattle.ext_cells.specs.InnerSteps.{Finds}
use Rattle.ext_cells.proofs.Collecting.{known_at, take_next, read_length, pass_more}
use Rattle.ext_cells.proofs.cells.Cells.pass.Goals as goal

pub read-word-requires-clause-index : goal.read-word-requires-clause-index
read-word-requires-clause-index c = let i = known_at _ _ c.loop-cell.cell-index c.requires.known c.loop-cell-test.true in omega (arith, i)

pub push-requires : goal.push-requires
push-requires c =
    let within = c.loop-cell-test.true in
    let few = c.requires.few in
    let r = (read_length _ _ _ c.loop-cell.invariant.read.read).1 in
    let n : length (take c.loop-cell.cell-index c.args.cells.now) ≡ c.loop-cell.cell-index = length-take-le _ _ (omega (arith, within)) in omega (arith, within, few, r, n)

pub loop-cell-preserved : goal.loop-cell-preserved
loop-cell-preserved c =
    let f = c.read-word.ensures.found in
    let i = c.loop-cell.cell-index in
    let old = c.loop-cell.invariant in
    let limits = c.args.lane.now.cells.limits in
    let below : get_or c.args.cells.now i 0 < c.args.lane.now.cells.limits.cells = subst (λ z. get_or c.args.cells.now i 0 < z.limits.cells) (sym c.requires.lane) (known_at _ _ i c.requires.known c.loop-cell-test.true) in
    let found : Finds c.args.lane.now.cells.limits c.loop-cell.lane.view (get_or c.args.cells.now i 0) c.read-word.result f.0 = subst (λ z. Finds z.limits c.loop-cell.lane.view (get_or c.args.cells.now i 0) c.read-word.result f.0) old.cells f.1 in record {
      cells = ap (λ (l : Lane). l.cells) f.2 ∙ old.cells;
      read = subst (λ (z : List ℕ × List ℕ). ReadPass c.args.lane.now.cells.limits c.args.lane.now.view c.read-word.new.lane.view z.0 z.1)
          (λ k. (sym (take_next c.args.cells.now i c.loop-cell-test.true) k, sym c.push.ensures k))
          (pass_more _ _ _ _ _ _ _ _ f.0 old.read below found (ap (λ (l : Lane). l.view) f.2));
    }
