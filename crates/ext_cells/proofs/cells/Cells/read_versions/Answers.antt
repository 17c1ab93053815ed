use Rattle.std.proofs.Common.{◌*◌, ◌<◌, ◌++◌, [], ◌∷◌, get_or, sym, ap, ◌∙◌, subst, arith, refl}
use Rattle.std.specs.Prelude.{All}
use Rattle.std.proofs.lemmas.List.{take_all}
use Rattle.ext_cells.specs.Lanes.{Lane}
use Rattle.ext_cells.specs.CellCalls.{cell_at, cells_in}
use Rattle.ext_cells.specs.InnerPasses.{ReadPass}
use Rattle.ext_cells.specs.InnerSteps.{Finds}
use Rattle.ext_cells.proofs.Collecting.{pass_none}
use Rattle.ext_cells.proofs.Rows.{cells_length, none_added, row_known, row_more, version_added}
use Rattle.ext_cells.proofs.cells.Cells.read_versions.Goals as goal

pub loop-row-init : goal.loop-row-init
loop-row-init c = record {
  cells = refl;
  versions = omega arith;
  read = ([], refl, pass_none c.args.lane.now.cells.limits c.args.lane.now.view c.tell_proof.ensures.legal);
}

pub read_at-word-requires-clause-cell : goal.read_at-word-requires-clause-cell
read_at-word-requires-clause-cell c = row_known _ c.args.rows.now (c.args.column.blocks * 32) c.args.column.index c.loop-row.row-index c.requires.known c.loop-row-test.true

pub loop-row-preserved-then-word-eq0 : goal.loop-row-preserved-then-word-eq0
loop-row-preserved-then-word-eq0 c =
    let f = c.read_at-word.ensures.found in
    let i = c.loop-row.row-index in
    let old = c.loop-row.invariant in
    let words = old.read.0 in
    let word = c.read_at-word.result in
    let least = old.versions in
    let known = subst (λ z. All (λ cell. cell < z.limits.cells) (cells_in c.args.rows.now (c.args.column.blocks * 32) c.args.column.index)) (sym c.requires.lane) c.requires.known in
    let found : Finds c.args.lane.now.cells.limits c.loop-row.lane.view (cell_at (c.args.column.blocks * 32) c.args.column.index (get_or c.args.rows.now i 0)) word f.0 =
    subst (λ z. Finds z.limits c.loop-row.lane.view (cell_at (c.args.column.blocks * 32) c.args.column.index (get_or c.args.rows.now i 0)) word f.0) old.cells f.1 in
    record {
      cells = ap (λ (l : Lane). l.cells) f.2 ∙ old.cells;
      versions = omega (arith, least);
      read = (
        words ++ word ∷ [],
        none_added words word _ old.read.1 c.if-word-eq0.true,
        row_more _ _ _ _ c.args.rows.now words (c.args.column.blocks * 32) c.args.column.index i _ f.0 known c.loop-row-test.true old.read.2 found (ap (λ (l : Lane). l.view) f.2),
      );
    }

pub loop-row-preserved : goal.loop-row-preserved
loop-row-preserved c =
    let f = c.read_at-word.ensures.found in
    let i = c.loop-row.row-index in
    let old = c.loop-row.invariant in
    let words = old.read.0 in
    let word = c.read_at-word.result in
    let least = old.versions in
    let within = c.version-versions.ensures.within in
    let known = subst (λ z. All (λ cell. cell < z.limits.cells) (cells_in c.args.rows.now (c.args.column.blocks * 32) c.args.column.index)) (sym c.requires.lane) c.requires.known in
    let found : Finds c.args.lane.now.cells.limits c.loop-row.lane.view (cell_at (c.args.column.blocks * 32) c.args.column.index (get_or c.args.rows.now i 0)) word f.0 =
    subst (λ z. Finds z.limits c.loop-row.lane.view (cell_at (c.args.column.blocks * 32) c.args.column.index (get_or c.args.rows.now i 0)) word f.0) old.cells f.1 in
    record {
      cells = ap (λ (l : Lane). l.cells) f.2 ∙ old.cells;
      versions = omega (arith, least, within);
      read = (
        words ++ word ∷ [],
        version_added words word _ _ old.read.1 c.version-versions.ensures.version,
        row_more _ _ _ _ c.args.rows.now words (c.args.column.blocks * 32) c.args.column.index i _ f.0 known c.loop-row-test.true old.read.2 found (ap (λ (l : Lane). l.view) f.2),
      );
    }

pub returns-clause-within : goal.returns-clause-within
returns-clause-within c =
    let versions = c.loop-row.invariant.versions in
    let most = c.loop-row.auto.row-index-end in omega (arith, versions, most)

pub returns-clause-read : goal.returns-clause-read
returns-clause-read c =
    let read = c.loop-row.invariant.read in
    let end = c.loop-row-test.false in
    let long = cells_length c.args.rows.now (c.args.column.blocks * 32) c.args.column.index in (
      read.0,
      subst (λ z. ReadPass c.args.lane.now.cells.limits c.args.lane.now.view c.loop-row.lane.view z read.0) (take_all c.loop-row.row-index (cells_in c.args.rows.now (c.args.column.blocks * 32) c.args.column.index) (omega (arith, end, long))) read.2,
      read.1,
    )
