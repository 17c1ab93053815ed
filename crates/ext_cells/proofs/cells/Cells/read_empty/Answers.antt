use Rattle.std.proofs.Common.{◌≡◌, ◌*◌, ◌%◌, ◌<◌, ◌++◌, [], ◌∷◌, get_or, take, length, inl, refl, sym, ap, ◌∙◌, subst, arith, rules}
use Rattle.std.specs.Prelude.{All}
use Rattle.std.proofs.lemmas.List.Elements.{All-push}
use Rattle.ext_cells.specs.Lanes.{Lane}
use Rattle.ext_cells.specs.CellCalls.{cell_at, cells_in}
use Rattle.ext_cells.specs.InnerPasses.{ReadPass}
use Rattle.ext_cells.specs.InnerSteps.{Finds}
use Rattle.ext_cells.specs.WordChanges.{IsEmptyWord}
use Rattle.ext_cells.proofs.Rows.{cells_length, none_added, row_known, row_more, version_added}
use Rattle.ext_cells.proofs.cells.Cells.read_empty.Goals as goal

pub read_at-word-requires-clause-cell : goal.read_at-word-requires-clause-cell
read_at-word-requires-clause-cell c = row_known _ c.args.rows.now (c.args.column.blocks * 32) c.args.column.index c.loop-count.count c.requires.known c.loop-count-test.true

pub loop-count-preserved-then-word-eq0 : goal.loop-count-preserved-then-word-eq0
loop-count-preserved-then-word-eq0 c =
    let f = c.read_at-word.ensures.found in
    let i = c.loop-count.count in
    let old = c.loop-count.invariant in
    let words = old.read.0 in
    let word = c.read_at-word.result in
    let least = old.versions in
    let none : IsEmptyWord word = ap (λ n. n % 16) c.if-word-eq0.true in
    let known = subst (λ z. All (λ cell. cell < z.limits.cells) (cells_in c.args.rows.now (c.args.column.blocks * 32) c.args.column.index)) (sym c.requires.lane) c.requires.known in
    let found : Finds c.args.lane.now.cells.limits c.loop-count.lane.view (cell_at (c.args.column.blocks * 32) c.args.column.index (get_or c.args.rows.now i 0)) word f.0 =
    subst (λ z. Finds z.limits c.loop-count.lane.view (cell_at (c.args.column.blocks * 32) c.args.column.index (get_or c.args.rows.now i 0)) word f.0) old.cells f.1 in
    record {
      cells = ap (λ (l : Lane). l.cells) f.2 ∙ old.cells;
      versions = omega (arith, least);
      read = (
        words ++ word ∷ [],
        none_added words word _ old.read.1 c.if-word-eq0.true,
        All-push IsEmptyWord words word old.read.2 none,
        row_more _ _ _ _ c.args.rows.now words (c.args.column.blocks * 32) c.args.column.index i _ f.0 known c.loop-count-test.true old.read.3 found (ap (λ (l : Lane). l.view) f.2),
      );
    }

pub loop-count-preserved : goal.loop-count-preserved
loop-count-preserved c =
    let f = c.read_at-word.ensures.found in
    let i = c.loop-count.count in
    let old = c.loop-count.invariant in
    let words = old.read.0 in
    let word = c.read_at-word.result in
    let least = old.versions in
    let within = c.version-versions.ensures.within in
    let none : IsEmptyWord c.read_at-word.result = search rules in
    let known = subst (λ z. All (λ cell. cell < z.limits.cells) (cells_in c.args.rows.now (c.args.column.blocks * 32) c.args.column.index)) (sym c.requires.lane) c.requires.known in
    let found : Finds c.args.lane.now.cells.limits c.loop-count.lane.view (cell_at (c.args.column.blocks * 32) c.args.column.index (get_or c.args.rows.now i 0)) c.read_at-word.result f.0 =
    subst (λ z. Finds z.limits c.loop-count.lane.view (cell_at (c.args.column.blocks * 32) c.args.column.index (get_or c.args.rows.now i 0)) c.read_at-word.result f.0) old.cells f.1 in
    record {
      cells = ap (λ (l : Lane). l.cells) f.2 ∙ old.cells;
      versions = omega (arith, least, within);
      read = (
        words ++ word ∷ [],
        version_added words word _ _ old.read.1 c.version-versions.ensures.version,
        All-push IsEmptyWord words word old.read.2 none,
        row_more _ _ _ _ c.args.rows.now words (c.args.column.blocks * 32) c.args.column.index i _ f.0 known c.loop-count-test.true old.read.3 found (ap (λ (l : Lane). l.view) f.2),
      );
    }

pub returns-clause-read : goal.returns-clause-read
returns-clause-read c =
    let was = c.loop-count.invariant.read in
    let cells = cells_in c.args.rows.now (c.args.column.blocks * 32) c.args.column.index in
    let past = c.loop-count-test.false in
    let end = c.loop-count.auto.count-end in
    let all : c.loop-count.count ≡ length c.args.rows.now = omega (arith, past, end) in record {
      between = c.loop-count.lane.view;
      words = was.0;
      nothing = was.2;
      versions = was.1;
      read = subst (λ n. ReadPass c.args.lane.now.cells.limits c.args.lane.now.view c.loop-count.lane.view (take n cells) was.0) all was.3;
      ends = inl (refl, sym (cells_length c.args.rows.now (c.args.column.blocks * 32) c.args.column.index), refl);
    }
