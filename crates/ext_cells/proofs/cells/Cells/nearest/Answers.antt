use Rattle.std.proofs.Common.{ℕ, ◌<◌, ◌≤◌, ◌+◌, ◌*◌, ◌^◌, length, sym, refl, ap, ◌∙◌, subst, arith}
use Rattle.std.specs.Prelude.{sum_by}
use Rattle.ext_history.specs.Histories.{call_fronts}
use Rattle.ext_cells.specs.CellCalls.{cells_in}
use Rattle.ext_cells.specs.InnerPasses.{ReadPass}
use Rattle.ext_cells.specs.WordChanges.{version_in}
use Rattle.ext_cells.proofs.Collecting.{passes_again, passes_on, passes_overtaken, steps_within, steps_all, stood}
use Rattle.ext_cells.proofs.Readings.{same_again, nearest_of, legal_between}
use Rattle.ext_cells.proofs.Rows.{cells_apart, cells_length, rest_known, rows_begun, rows_nearest, take_known}
use Rattle.ext_cells.proofs.cells.Cells.nearest.Goals as goal

pub read_versions-again-requires-clause-known : goal.read_versions-again-requires-clause-known
read_versions-again-requires-clause-known c = take_known c.args.self.now.id.limits.cells c.args.rows.now (c.args.blocks * 32) c.args.column c.read_empty-empty.result.count c.requires.known

pub read_versions-rest-requires-clause-known : goal.read_versions-rest-requires-clause-known
read_versions-rest-requires-clause-known c = rest_known c.args.self.now.id.limits.cells c.args.rows.now (c.args.blocks * 32) c.args.column c.read_empty-empty.result.count c.requires.known

-- a row has cells
wide : (blocks : ℕ) → 1 ≤ blocks → 1 ≤ blocks * 32
wide blocks some = omega (arith, some)

-- ---- where the empty cells had no event

pub returns-then-again-empty-clause-nearest : goal.returns-then-again-empty-clause-nearest
returns-then-again-empty-clause-nearest c =
    (rows_nearest c.args.self.now.id c.args.lane.now c.read_empty-empty.new.lane c.read_versions-again.new.lane c.args.rows.now (c.args.blocks * 32) c.args.column c.read_empty-empty.result c.read_versions-again.result c.requires.lane c.tell_proof.ensures.numbers c.requires.known
    c.read_empty-empty.ensures.lane c.read_empty-empty.ensures.read c.read_versions-again.ensures.read c.if-again-empty.true _ c.nearest_at.ensures.none c.nearest_at.ensures.some).0

pub returns-then-again-empty-clause-steps : goal.returns-then-again-empty-clause-steps
returns-then-again-empty-clause-steps c =
    (rows_nearest c.args.self.now.id c.args.lane.now c.read_empty-empty.new.lane c.read_versions-again.new.lane c.args.rows.now (c.args.blocks * 32) c.args.column c.read_empty-empty.result c.read_versions-again.result c.requires.lane c.tell_proof.ensures.numbers c.requires.known
    c.read_empty-empty.ensures.lane c.read_empty-empty.ensures.read c.read_versions-again.ensures.read c.if-again-empty.true _ c.nearest_at.ensures.none c.nearest_at.ensures.some).1 c.args.self.now.tries c.tell_proof.ensures.tries

-- ---- pass after pass

pub loop-init : goal.loop-init
loop-init c = record {
  cells = c.read_versions-rest.ensures.lane ∙ (c.read_versions-again.ensures.lane ∙ c.read_empty-empty.ensures.lane);
  passes =
      rows_begun c.args.self.now.id c.args.lane.now c.read_empty-empty.new.lane c.read_versions-again.new.lane c.args.rows.now (c.args.blocks * 32) c.args.column c.read_empty-empty.result c.read_versions-again.result c.requires.lane c.tell_proof.ensures.numbers c.requires.known
      c.read_empty-empty.ensures.lane c.read_empty-empty.ensures.read c.read_versions-again.ensures.read c.read_versions-rest.new.lane c.read_versions-rest.result c.if-again-empty.false c.read_versions-again.ensures.lane c.read_versions-rest.ensures.read;
}

pub returns-then-again-seen-clause-nearest : goal.returns-then-again-seen-clause-nearest
returns-then-again-seen-clause-nearest c =
    let few = subst (λ z. z.limits.numbers < 2 ^ 20) (sym c.requires.lane) c.tell_proof.ensures.numbers in
    let i = c.loop.invariant in
    let words = i.passes.0 in
    let cells = cells_in c.args.rows.now (c.args.blocks * 32) c.args.column in
    let again = c.read_each-again.ensures.read in
    let read = subst (λ z. ReadPass z.limits c.loop.lane.view c.read_each-again.new.lane.view (cells_in c.args.rows.now (c.args.blocks * 32) c.args.column) again.0) i.cells again.1 in
    let same = same_again c.args.lane.now.cells.limits _ _ _ _ words again.0 c.loop.counter i.passes.2 read few (sym again.2.versions ∙ (c.if-again-seen.true ∙ i.passes.1)) in
    nearest_of c.args.lane.now c.read_each-again.new.lane cells again.0 c.read_each-again.result few (legal_between c.args.lane.now.cells.limits c.loop.lane.view c.read_each-again.new.lane.view cells again.0 read)
    (stood c.args.lane.now.cells.limits _ _ _ _ words again.0 c.loop.counter i.passes.2 read same few c.args.lane.now c.read_each-again.new.lane refl refl refl) again.2

pub returns-then-again-seen-clause-steps : goal.returns-then-again-seen-clause-steps
returns-then-again-seen-clause-steps c =
    let i = c.loop.invariant in
    let words = i.passes.0 in
    let again = c.read_each-again.ensures.read in
    let read = subst (λ z. ReadPass z.limits c.loop.lane.view c.read_each-again.new.lane.view (cells_in c.args.rows.now (c.args.blocks * 32) c.args.column) again.0) i.cells again.1 in
    let tries = c.tries-end.ensures.tries in
    let less = c.loop-test.true in
    subst (λ n. length (call_fronts c.args.lane.now.view c.read_each-again.new.lane.view) ≤ n * (c.args.self.now.tries + 1)) (cells_length c.args.rows.now (c.args.blocks * 32) c.args.column)
    (steps_within c.args.lane.now.cells.limits _ _ _ _ words again.0 c.loop.counter i.passes.2 read _ (omega (arith, tries, less)))

pub loop-preserved : goal.loop-preserved
loop-preserved c =
    let i = c.loop.invariant in
    let words = i.passes.0 in
    let again = c.read_each-again.ensures.read in
    let read = subst (λ z. ReadPass z.limits c.loop.lane.view c.read_each-again.new.lane.view (cells_in c.args.rows.now (c.args.blocks * 32) c.args.column) again.0) i.cells again.1 in
    record {
      cells = c.read_each-again.ensures.lane ∙ i.cells;
      passes = (
        again.0,
        again.2.versions,
        passes_again c.args.lane.now.cells.limits _ _ _ _ words again.0 c.loop.counter i.passes.2 read (λ e. c.if-again-seen.false (again.2.versions ∙ (ap (sum_by version_in) e ∙ sym i.passes.1))),
      );
    }

pub returns-clause-nearest : goal.returns-clause-nearest
returns-clause-nearest c =
    let tries = c.tries-end.ensures.tries in
    let all = c.loop-test.false in (
      refl,
      passes_overtaken c.args.lane.now.cells.limits _ _ _ c.loop.invariant.passes.0 c.loop.counter (cells_apart c.args.rows.now (c.args.blocks * 32) c.args.column (wide c.args.blocks c.requires.blocks) c.requires.different) c.loop.invariant.passes.2 _ (omega (arith, tries, all)),
    )

pub returns-clause-contended : goal.returns-clause-contended
returns-clause-contended c =
    let tries = c.tries-end.ensures.tries in
    let all = c.loop-test.false in
    passes_on c.args.lane.now.cells.limits _ _ _ c.loop.invariant.passes.0 c.loop.counter (cells_apart c.args.rows.now (c.args.blocks * 32) c.args.column (wide c.args.blocks c.requires.blocks) c.requires.different) c.loop.invariant.passes.2 _ (omega (arith, tries, all))

pub returns-clause-steps : goal.returns-clause-steps
returns-clause-steps c =
    let tries = c.tries-end.ensures.tries in
    let least = c.tell_proof.ensures.tries in
    let end = c.loop.auto.counter-end in
    subst (λ n. length (call_fronts c.args.lane.now.view c.loop.lane.view) ≤ n * (c.args.self.now.tries + 1)) (cells_length c.args.rows.now (c.args.blocks * 32) c.args.column)
    (steps_all c.args.lane.now.cells.limits _ _ _ c.loop.invariant.passes.0 c.loop.counter (cells_apart c.args.rows.now (c.args.blocks * 32) c.args.column (wide c.args.blocks c.requires.blocks) c.requires.different) c.loop.invariant.passes.2 _ (omega (arith, tries, least, end)))
