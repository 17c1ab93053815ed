-- In which order the keys of a context are sealed, and how many by calls of their own.
use Rattle.std.proofs.Common.{◌≡◌, ◌≤◌, inl, inr, ℕ, ◌+◌, ◌*◌, length, refl, sym, subst, arith, Option, add-one}
use Rattle.std.specs.Prelude.{Result, Ok, Err}
use Rattle.std.specs.Int.{bit_at}
use Rattle.std.proofs.Math.Nat.{add-mul}
use Rattle.ext_cells.specs.Lanes.{Lane}
use Rattle.ext_store_core.specs.declared.fault.Refusal.TheVariants as refusal
use Rattle.ext_store.specs.Stores.{StoreView}
use Rattle.ext_closing.specs.Sealing.{SealsAlone, SealsBlocks, SealsIfMarked, SealsInOrder, SealsMarked}
use Rattle.ext_closing.specs.declared.fault.CloseFault.{CloseFault}
use Rattle.ext_closing.specs.declared.fault.CloseFault.TheVariants.{Busy, Contended, Unjoined}
use Rattle.ext_closing.specs.InnerSteps.{BlockBegun, BlocksDone, SealsNext, SealsRest}
use Rattle.ext_closing.proofs.Counting.{fronts_within, steps_within}

module _ (store : StoreView) (context : ℕ) where
  -- ---- the keys of a block

  pub alone_of : (key : ℕ) (before after : Lane) (r : Result (Option ℕ) CloseFault) → SealsNext store context key before after r
      → length after.view.fronts ≤ length before.view.fronts + (store.tries + 1) → SealsAlone store context key before after
  alone_of key before after (Ok kept) next few = (Ok kept, next, steps_within before after (store.tries + 1) few)
  alone_of key before after (Err (Busy at)) next few = (Err (refusal.Busy context), (refl, next.1), steps_within before after (store.tries + 1) few)
  alone_of key before after (Err (Contended at)) next few = (Err refusal.Contended, next.1.in_the_way, steps_within before after (store.tries + 1) few)
  alone_of key before after (Err (Unjoined number)) next few = absurd next

  module _ (block marks place alone : ℕ) (before between : Lane) (so_far : SealsMarked store context block marks place alone before between) where
    next_place : (now : ℕ) (after : Lane) → SealsIfMarked store context (block * 32 + place) (bit_at marks place) alone now between after
        → SealsMarked store context block marks (place + 1) now before after
    next_place now after next = subst (λ n. SealsMarked store context block marks n now before after) (sym (add-one place)) (between, alone, so_far, next)

    -- a key without a mark
    pub place_passed : bit_at marks place ≡ 0 → SealsMarked store context block marks (place + 1) alone before between
    place_passed none = next_place alone between (inl (none, refl, refl))

    -- and one that has a mark
    pub place_sealed : bit_at marks place ≡ 1 → (after : Lane) → SealsAlone store context (block * 32 + place) between after
        → SealsMarked store context block marks (place + 1) (alone + 1) before after
    place_sealed marked after seals = next_place (alone + 1) after (inr (marked, refl, seals))

  pub none_marked : (block marks : ℕ) (lane : Lane) → SealsRest store context block marks lane lane
  none_marked block marks lane = record { places = 0; few = omega arith; alone = 0; marked = (refl, refl); steps = omega arith }

  -- ---- blocks

  pub none_done : (lane : Lane) → BlocksDone store context 0 lane lane
  none_done lane = record { alone = 0; sealed = (refl, refl); steps = omega arith }

  pub one_more_done : (block marks : ℕ) (before between after : Lane) → BlockBegun store context block marks before between → SealsRest store context block marks between after
      → BlocksDone store context (block + 1) before after
  one_more_done block marks before between after begun rest =
      let cost = store.tries + 1 in
      let split = add-mul begun.done.alone rest.alone cost in
      let done = begun.done.steps in
      let one = fronts_within begun.between between 1 (let step = begun.step in omega (arith, step)) in
      let more = rest.steps in
      record {
        alone = begun.done.alone + rest.alone;
        sealed = subst (λ n. SealsBlocks store context n (begun.done.alone + rest.alone) before after) (sym (add-one block)) (
          begun.between,
          begun.done.alone,
          rest.alone,
          begun.done.sealed,
          record { marks = marks; between = between; unused = begun.unused; step = begun.step; places = rest.places; few = rest.few; marked = rest.marked },
          refl,
        );
        steps = omega (arith, split, done, one, more);
      }

  pub in_order : (blocks : ℕ) (before after : Lane) → blocks * 32 ≤ length store.id.keys → BlocksDone store context blocks before after → SealsInOrder store context before after
  in_order blocks before after within done = record {
    blocks = blocks;
    within = within;
    alone = done.alone;
    sealed = done.sealed;
    steps = steps_within before after (blocks + done.alone * (store.tries + 1)) done.steps;
  }
