use Rattle.std.proofs.Common.{◌<◌, ◌+◌, ◌∙◌, ap, arith, get_or, length, map, set, subst, sym, IsSome}
use Rattle.once_cell.specs.Once.{cell_name}
use Rattle.ext_tree.specs.Keys.{AreKeyNotesOf, IsKeyNumber, KeepsKeys, KnownPlace, PassedBefore, PlacesOnly, Tells}
use Rattle.ext_tree.specs.InnerIndexing.{AreNotes}
use Rattle.ext_tree.proofs.KeyIndexing.{notes_stay, told_some}
use Rattle.ext_tree.proofs.KeyPlacing.{as_long, keeps_all, key_at-set_same, place_matches, key_places_of-set, read_again, step_finds, step_keeps, step_passes, step_places}
use Rattle.ext_tree.proofs.key_walk.walk.Goals as goal

pub ask-requires : goal.ask-requires
ask-requires c =
    let long = as_long cell_name c.loop-number.entries c.args.places.now c.loop-number.invariant.of in
    let below : c.loop-number.number < length c.loop-number.entries = omega (arith, long, c.loop-number-test.true) in
    ap (λ (x : KnownPlace). x.place) (sym c.index-entries-number.is)
    ∙ place_matches cell_name c.loop-number.entries c.args.places.now c.loop-number.number c.index-entries-number.result c.index-places-number.result c.loop-number.invariant.of below c.index-entries-number.is c.index-places-number.is

pub add-requires : goal.add-requires
add-requires c =
    let long = as_long cell_name c.loop-number.entries c.args.places.now c.loop-number.invariant.of in
    let below : c.loop-number.number < length c.loop-number.entries = omega (arith, long, c.loop-number-test.true) in
    let again = read_again c.loop-number.entries c.loop-number.number c.index-entries-number.result c.index-entries-number.is in
    let keeps = step_keeps c.loop-number.entries c.loop-number.entries c.args.key.now c.loop-number.number (get_or c.loop-number.entries c.loop-number.number c.index-entries-number.result) c.ask.new.self below again c.ask.ensures.place c.ask.ensures.known (keeps_all c.loop-number.entries) c.loop-number.invariant.passed in
    record {
      places = key_places_of-set c.loop-number.entries c.loop-number.number (get_or c.loop-number.entries c.loop-number.number c.index-entries-number.result) c.ask.new.self below again c.ask.ensures.place ∙ c.loop-number.invariant.of;
      notes = notes_stay c.loop-number.entries (set c.loop-number.entries c.loop-number.number c.ask.new.self) c.loop-number.index.hints.items c.loop-number.index.next keeps c.loop-number.invariant.notes;
      known = subst (λ k. IsSome k) (sym (key_at-set_same c.loop-number.entries c.loop-number.number (get_or c.loop-number.entries c.loop-number.number c.index-entries-number.result) c.ask.new.self below again c.ask.ensures.place)) (told_some c.ask.new.self.key c.args.key.now c.in_ok-is_here.is_here c.in_ok-is_here.ensures.told);
    }

pub returns-then-is_here-clause-kept : goal.returns-then-is_here-clause-kept
returns-then-is_here-clause-kept c =
    let long = as_long cell_name c.loop-number.entries c.args.places.now c.loop-number.invariant.of in
    let below : c.loop-number.number < length c.loop-number.entries = omega (arith, long, c.loop-number-test.true) in
    let again = read_again c.loop-number.entries c.loop-number.number c.index-entries-number.result c.index-entries-number.is in
    subst (λ l. KeepsKeys c.args.entries.now l) (sym c.add.ensures.unchanged)
    (step_keeps c.args.entries.now c.loop-number.entries c.args.key.now c.loop-number.number (get_or c.loop-number.entries c.loop-number.number c.index-entries-number.result) c.ask.new.self below again c.ask.ensures.place c.ask.ensures.known c.loop-number.invariant.kept c.loop-number.invariant.passed)

pub returns-then-is_here-clause-number : goal.returns-then-is_here-clause-number
returns-then-is_here-clause-number c =
    let long = as_long cell_name c.loop-number.entries c.args.places.now c.loop-number.invariant.of in
    let below : c.loop-number.number < length c.loop-number.entries = omega (arith, long, c.loop-number-test.true) in
    let again = read_again c.loop-number.entries c.loop-number.number c.index-entries-number.result c.index-entries-number.is in
    subst (λ l. IsKeyNumber l c.args.key.now c.loop-number.number) (sym c.add.ensures.unchanged)
    (step_finds c.args.entries.now c.loop-number.entries c.args.key.now c.loop-number.number (get_or c.loop-number.entries c.loop-number.number c.index-entries-number.result) c.ask.new.self below again c.ask.ensures.place c.ask.ensures.known c.loop-number.invariant.kept c.loop-number.invariant.passed
    (subst (λ b. Tells c.ask.new.self.key c.args.key.now b) c.if-is_here.true c.in_ok-is_here.ensures.told))

pub returns-then-is_here-clause-placed : goal.returns-then-is_here-clause-placed
returns-then-is_here-clause-placed c =
    let long = as_long cell_name c.loop-number.entries c.args.places.now c.loop-number.invariant.of in
    let below : c.loop-number.number < length c.loop-number.entries = omega (arith, long, c.loop-number-test.true) in
    let again = read_again c.loop-number.entries c.loop-number.number c.index-entries-number.result c.index-entries-number.is in
    subst (λ l. PlacesOnly c.args.key.now c.args.entries.now l) (sym c.add.ensures.unchanged)
    (step_places c.args.entries.now c.loop-number.entries c.args.key.now c.loop-number.number (get_or c.loop-number.entries c.loop-number.number c.index-entries-number.result) c.ask.new.self below again c.ask.ensures.place c.ask.ensures.known c.loop-number.invariant.kept c.loop-number.invariant.passed c.loop-number.invariant.placed c.ask.ensures.placed)

pub loop-number-preserved : goal.loop-number-preserved
loop-number-preserved c =
    let long = as_long cell_name c.loop-number.entries c.args.places.now c.loop-number.invariant.of in
    let below : c.loop-number.number < length c.loop-number.entries = omega (arith, long, c.loop-number-test.true) in
    let again = read_again c.loop-number.entries c.loop-number.number c.index-entries-number.result c.index-entries-number.is in
    let same = sym c.add.ensures.unchanged in
    record {
      of = subst (λ l. AreKeyNotesOf (map cell_name c.args.places.now) l) same
          (key_places_of-set c.loop-number.entries c.loop-number.number (get_or c.loop-number.entries c.loop-number.number c.index-entries-number.result) c.ask.new.self below again c.ask.ensures.place ∙ c.loop-number.invariant.of);
      notes = subst (λ l. AreNotes l c.add.new.self.hints.items c.add.new.self.next) same c.add.ensures.notes;
      kept = subst (λ l. KeepsKeys c.args.entries.now l) same (step_keeps c.args.entries.now c.loop-number.entries c.args.key.now c.loop-number.number (get_or c.loop-number.entries c.loop-number.number c.index-entries-number.result) c.ask.new.self below again c.ask.ensures.place c.ask.ensures.known c.loop-number.invariant.kept c.loop-number.invariant.passed);
      passed = subst (λ l. PassedBefore l c.args.key.now (c.loop-number.number + 1)) same
          (step_passes c.args.entries.now c.loop-number.entries c.args.key.now c.loop-number.number (get_or c.loop-number.entries c.loop-number.number c.index-entries-number.result) c.ask.new.self below again c.ask.ensures.place c.ask.ensures.known c.loop-number.invariant.kept c.loop-number.invariant.passed
          (subst (λ b. Tells c.ask.new.self.key c.args.key.now b) c.if-is_here.false c.in_ok-is_here.ensures.told));
      placed = subst (λ l. PlacesOnly c.args.key.now c.args.entries.now l) same (step_places c.args.entries.now c.loop-number.entries c.args.key.now c.loop-number.number (get_or c.loop-number.entries c.loop-number.number c.index-entries-number.result) c.ask.new.self below again c.ask.ensures.place c.ask.ensures.known c.loop-number.invariant.kept c.loop-number.invariant.passed c.loop-number.invariant.placed c.ask.ensures.placed);
    }
