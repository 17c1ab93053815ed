use Rattle.std.proofs.Common.{◌*◌, ◌<◌, ◌++◌, [], ◌∷◌, get_or, sym, ap, ◌∙◌, subst, arith, refl}
use Rattle.std.specs.Prelude.{All}
use Rattle.std.proofs.lemmas.List.{take_all}
use Rattle.ext_cells.specs.Lanes.{Lane}
use Rattle.ext_cells.specs.CellCalls.{cell_at, cells_in}
use Rattle.ext_cells.specs.InnerPasses.{ReadPass}
use Rattle.ext_cells.specs.InnerSteps.{Finds}
use Rattle.ext_cells.proofs.Collecting.{pass_none}
use Rattle.ext_cells.proofs.Rows.{cells_length, row_known, row_more}
use Rattle.ext_cells.proofs.cells.Cells.read_each.Goals as goal

pub loop-row-init : goal.loop-row-init
loop-row-init c =
    let empty = c.new-reading.ensures.empty in record {
      cells = refl;
      count = empty.0;
      versions = let v = empty.1 in omega (arith, v);
      read = ([], pass_none c.args.lane.now.cells.limits c.args.lane.now.view c.tell_proof.ensures.legal, c.new-reading.ensures.reading);
    }

pub read_at-word-requires-clause-cell : goal.read_at-word-requires-clause-cell
read_at-word-requires-clause-cell c = row_known _ c.args.rows.now (c.args.column.blocks * 32) c.args.column.index c.loop-row.row-index c.requires.known c.loop-row-test.true

pub loop-row-preserved : goal.loop-row-preserved
loop-row-preserved c =
    let f = c.read_at-word.ensures.found in
    let i = c.loop-row.row-index in
    let old = c.loop-row.invariant in
    let counted = old.count in
    let once = c.with-reading.ensures.count in
    let known = subst (λ z. All (λ cell. cell < z.limits.cells) (cells_in c.args.rows.now (c.args.column.blocks * 32) c.args.column.index)) (sym c.requires.lane) c.requires.known in
    let found : Finds c.args.lane.now.cells.limits c.loop-row.lane.view (cell_at (c.args.column.blocks * 32) c.args.column.index (get_or c.args.rows.now i 0)) c.read_at-word.result f.0 =
    subst (λ z. Finds z.limits c.loop-row.lane.view (cell_at (c.args.column.blocks * 32) c.args.column.index (get_or c.args.rows.now i 0)) c.read_at-word.result f.0) old.cells f.1 in
    record {
      cells = ap (λ (l : Lane). l.cells) f.2 ∙ old.cells;
      count = omega (arith, counted, once);
      versions = c.with-reading.ensures.versions;
      read = (
        old.read.0 ++ c.read_at-word.result ∷ [],
        row_more _ _ _ _ c.args.rows.now old.read.0 (c.args.column.blocks * 32) c.args.column.index i _ f.0 known c.loop-row-test.true old.read.1 found (ap (λ (l : Lane). l.view) f.2),
        c.with-reading.ensures.reading old.read.0 old.read.2,
      );
    }

pub with-reading-requires-clause-count : goal.with-reading-requires-clause-count
with-reading-requires-clause-count c =
    let counted = c.loop-row.invariant.count in
    let few = c.requires.few in
    let within = c.loop-row-test.true in omega (arith, counted, few, within)

pub with-reading-requires-clause-versions : goal.with-reading-requires-clause-versions
with-reading-requires-clause-versions c = c.loop-row.invariant.versions

pub returns-clause-lane : goal.returns-clause-lane
returns-clause-lane c = c.loop-row.invariant.cells

pub returns-clause-versions : goal.returns-clause-versions
returns-clause-versions c =
    let versions = c.loop-row.invariant.versions in
    let counted = c.loop-row.invariant.count in
    let most = c.loop-row.auto.row-index-end in omega (arith, versions, counted, most)

pub returns-clause-read : goal.returns-clause-read
returns-clause-read c =
    let read = c.loop-row.invariant.read in
    let end = c.loop-row-test.false in
    let long = cells_length c.args.rows.now (c.args.column.blocks * 32) c.args.column.index in (
      read.0,
      subst (λ z. ReadPass c.args.lane.now.cells.limits c.args.lane.now.view c.loop-row.lane.view z read.0) (take_all c.loop-row.row-index (cells_in c.args.rows.now (c.args.column.blocks * 32) c.args.column.index) (omega (arith, end, long))) read.1,
      read.2,
    )
