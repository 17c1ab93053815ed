use Rattle.std.proofs.Common.{◌≡◌, ◌+◌, ◌^◌, ◌<◌, sym, ap, ◌∙◌, subst, arith}
use Rattle.ext_cells.specs.declared.cell_state.CellState.TheVariants.{Computing}
use Rattle.ext_cells.specs.WordChanges.{next_word, Suits}
use Rattle.ext_history.specs.Histories.{seen_by}
use Rattle.ext_cells.specs.InnerTableSteps.{IsWordAt}
use Rattle.ext_cells.specs.Lanes.{Lane}
use Rattle.ext_cells.proofs.Tries.{TriesOn, first_on, steps_next}
use Rattle.ext_cells.proofs.Changing.{index_in_is}
use Rattle.ext_cells.proofs.Ending.{held_within, place_is, word_now, room, suits_now, never_missed, may_now, ended}
use Rattle.ext_cells.proofs.cells.Cells.end_claim.Goals as goal

pub read-word-requires-clause-index : goal.read-word-requires-clause-index
read-word-requires-clause-index c =
    let less = held_within c.args.lane.now.cells.limits c.args.lane.now.view c.args.cell c.tell_proof.ensures.legal c.requires.held in
    let cells : c.args.lane.now.cells.limits.cells ≡ c.args.self.now.id.limits.cells = ap (λ z. z.limits.cells) c.requires.lane in omega (arith, less, cells)

pub parts-state-requires : goal.parts-state-requires
parts-state-requires c =
    let few : c.args.lane.now.cells.limits.numbers < 2 ^ 20 = subst (λ z. z.limits.numbers < 2 ^ 20) (sym c.requires.lane) c.read-word.ensures.numbers in
    let less = held_within c.args.lane.now.cells.limits c.args.lane.now.view c.args.cell c.tell_proof.ensures.legal c.requires.held in
    let f = c.read-word.ensures.found in
    let on : TriesOn c.args.lane.now c.read-word.new.lane c.args.cell c.read-word.result 0 = first_on _ _ _ _ f.0 (omega (arith, less)) f.1 f.2 in
    let is = (word_now c.args.lane.now c.read-word.new.lane c.read-word.result c.args.cell c.args.act few c.requires.held c.requires.act c.requires.number on).is in omega (arith, is)

pub next_word-next-requires-clause-version : goal.next_word-next-requires-clause-version
next_word-next-requires-clause-version c =
    let few : c.args.lane.now.cells.limits.numbers < 2 ^ 20 = subst (λ z. z.limits.numbers < 2 ^ 20) (sym c.requires.lane) c.read-word.ensures.numbers in
    let less = held_within c.args.lane.now.cells.limits c.args.lane.now.view c.args.cell c.tell_proof.ensures.legal c.requires.held in
    let f = c.read-word.ensures.found in
    let on : TriesOn c.args.lane.now c.read-word.new.lane c.args.cell c.read-word.result 0 = first_on _ _ _ _ f.0 (omega (arith, less)) f.1 f.2 in
    let word = word_now c.args.lane.now c.read-word.new.lane c.read-word.result c.args.cell c.args.act few c.requires.held c.requires.act c.requires.number on in
    let p = c.parts-state.ensures.only Computing 0 _ (omega arith) word.is in
    subst (λ z. z.2 + 1 < 2 ^ 40) (sym p) (room c.args.lane.now c.read-word.new.lane c.read-word.result c.args.cell c.args.act few c.requires.held c.requires.act c.requires.number on)

pub next_word-next-requires-clause-act : goal.next_word-next-requires-clause-act
next_word-next-requires-clause-act c =
    let few : c.args.lane.now.cells.limits.numbers < 2 ^ 20 = subst (λ z. z.limits.numbers < 2 ^ 20) (sym c.requires.lane) c.read-word.ensures.numbers in
    let less = held_within c.args.lane.now.cells.limits c.args.lane.now.view c.args.cell c.tell_proof.ensures.legal c.requires.held in
    let f = c.read-word.ensures.found in
    let on : TriesOn c.args.lane.now c.read-word.new.lane c.args.cell c.read-word.result 0 = first_on _ _ _ _ f.0 (omega (arith, less)) f.1 f.2 in
    let word = word_now c.args.lane.now c.read-word.new.lane c.read-word.result c.args.cell c.args.act few c.requires.held c.requires.act c.requires.number on in
    let p = c.parts-state.ensures.only Computing 0 _ (omega arith) word.is in
    subst (λ z. Suits c.args.act z.0 z.2) (sym p) (suits_now c.args.lane.now c.read-word.new.lane c.read-word.result c.args.cell c.args.act few c.requires.held c.requires.act c.requires.number on)

pub exchange-requires-clause-index : goal.exchange-requires-clause-index
exchange-requires-clause-index c = index_in_is c.args.self.now.id.limits c.args.cell c.args.act (place_is c.args.cell c.args.act c.requires.act)

pub exchange-requires-clause-within : goal.exchange-requires-clause-within
exchange-requires-clause-within c =
    let less = held_within c.args.lane.now.cells.limits c.args.lane.now.view c.args.cell c.tell_proof.ensures.legal c.requires.held in
    let cells : c.args.lane.now.cells.limits.cells ≡ c.args.self.now.id.limits.cells = ap (λ z. z.limits.cells) c.requires.lane in omega (arith, less, cells)

pub exchange-requires-clause-may : goal.exchange-requires-clause-may
exchange-requires-clause-may c =
    let few : c.args.lane.now.cells.limits.numbers < 2 ^ 20 = subst (λ z. z.limits.numbers < 2 ^ 20) (sym c.requires.lane) c.read-word.ensures.numbers in
    let less = held_within c.args.lane.now.cells.limits c.args.lane.now.view c.args.cell c.tell_proof.ensures.legal c.requires.held in
    let f = c.read-word.ensures.found in
    let on : TriesOn c.args.lane.now c.read-word.new.lane c.args.cell c.read-word.result 0 = first_on _ _ _ _ f.0 (omega (arith, less)) f.1 f.2 in
    may_now c.args.lane.now c.read-word.new.lane c.read-word.result c.args.cell c.args.act few c.requires.held c.requires.act c.requires.number on c.requires.faults c.next_word-next.result
    (λ version is. c.next_word-next.ensures ∙ ap (λ z. next_word c.args.act z.0 z.1 z.2) (c.parts-state.ensures.only Computing 0 version (omega arith) is))

pub exchange-requires-clause-seen : goal.exchange-requires-clause-seen
exchange-requires-clause-seen c =
    let less = held_within c.args.lane.now.cells.limits c.args.lane.now.view c.args.cell c.tell_proof.ensures.legal c.requires.held in
    let f = c.read-word.ensures.found in
    let on : TriesOn c.args.lane.now c.read-word.new.lane c.args.cell c.read-word.result 0 = first_on _ _ _ _ f.0 (omega (arith, less)) f.1 f.2 in
    subst (λ z. IsWordAt z.limits (seen_by c.read-word.new.lane.view) c.args.cell c.read-word.result) (sym on.cells) on.tries.word_is

pub unreachable-requires : goal.unreachable-requires
unreachable-requires c =
    let few : c.args.lane.now.cells.limits.numbers < 2 ^ 20 = subst (λ z. z.limits.numbers < 2 ^ 20) (sym c.requires.lane) c.read-word.ensures.numbers in
    let less = held_within c.args.lane.now.cells.limits c.args.lane.now.view c.args.cell c.tell_proof.ensures.legal c.requires.held in
    let f = c.read-word.ensures.found in
    let on : TriesOn c.args.lane.now c.read-word.new.lane c.args.cell c.read-word.result 0 = first_on _ _ _ _ f.0 (omega (arith, less)) f.1 f.2 in
    let m = c.in-Err.ensures.missed in absurd (m.0 (never_missed c.args.lane.now c.read-word.new.lane c.read-word.result c.args.cell c.args.act few c.requires.held c.requires.act c.requires.number on _ m.1.0 m.1.1))

pub returns-clause-ended : goal.returns-clause-ended
returns-clause-ended c =
    let few : c.args.lane.now.cells.limits.numbers < 2 ^ 20 = subst (λ z. z.limits.numbers < 2 ^ 20) (sym c.requires.lane) c.read-word.ensures.numbers in
    let less = held_within c.args.lane.now.cells.limits c.args.lane.now.view c.args.cell c.tell_proof.ensures.legal c.requires.held in
    let f = c.read-word.ensures.found in
    let on : TriesOn c.args.lane.now c.read-word.new.lane c.args.cell c.read-word.result 0 = first_on _ _ _ _ f.0 (omega (arith, less)) f.1 f.2 in
    let m = c.in-Ok.ensures.made in
    ended c.args.lane.now c.read-word.new.lane c.read-word.result c.args.cell c.args.act few c.requires.held c.requires.act c.requires.number on c.requires.faults c.next_word-next.result
    (λ version is. c.next_word-next.ensures ∙ ap (λ z. next_word c.args.act z.0 z.1 z.2) (c.parts-state.ensures.only Computing 0 version (omega arith) is))
    c.exchange.new.lane m.0 m.1 (ap (λ (l : Lane). l.view) m.3)

pub returns-clause-steps : goal.returns-clause-steps
returns-clause-steps c =
    let few : c.args.lane.now.cells.limits.numbers < 2 ^ 20 = subst (λ z. z.limits.numbers < 2 ^ 20) (sym c.requires.lane) c.read-word.ensures.numbers in
    let less = held_within c.args.lane.now.cells.limits c.args.lane.now.view c.args.cell c.tell_proof.ensures.legal c.requires.held in
    let f = c.read-word.ensures.found in
    let on : TriesOn c.args.lane.now c.read-word.new.lane c.args.cell c.read-word.result 0 = first_on _ _ _ _ f.0 (omega (arith, less)) f.1 f.2 in
    let m = c.in-Ok.ensures.made in steps_next _ _ _ _ _ _ m.0 c.args.act on m.1 m.3
