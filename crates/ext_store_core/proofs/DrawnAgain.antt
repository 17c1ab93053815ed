-- A lane that draws again until it gets a number or none is left: each time other lanes had drawn some, so it ends.
use Rattle.std.proofs.Common.{◌≡◌, ℕ, ◌+◌, ◌*◌, ◌≤◌, ◌<◌, ◌⊎◌, inl, inr, length, length-drop, Bool, true, false, refl, subst, arith, Option, Some}
use Rattle.std.specs.Prelude.{Err, nat_lt, if◌then◌else◌}
use Rattle.std.proofs.lemmas.Bool.Decides.{nat_tests}
use Rattle.ext_model.specs.declared.event.Act.TheVariants.{Keep}
use Rattle.ext_model.specs.Events.{Happens, Refuses, NumbersFull}
use Rattle.ext_model.specs.History.{state_after}
use Rattle.ext_history.specs.Histories.{first_front, seen_by}
use Rattle.ext_history.proofs.Composed.{first_goes_on}
use Rattle.ext_cells.specs.declared.refusal.CellRefusal.TheVariants as cell
use Rattle.ext_cells.specs.Lanes.{CellsId, Lane}
use Rattle.ext_cells.specs.CellCalls as cells
use Rattle.ext_cells.specs.CellCalls.{IsOvertakenAt}
use Rattle.ext_store_core.specs.ContextCalls.{steps_of}
use Rattle.ext_store_core.proofs.Events.{steps_add}
use Rattle.ext_store_core.proofs.Rises.{drawn_grows}
use Rattle.ext_store_core.proofs.Waited.{Waited, waited_cells, waited_more}

-- how many numbers were drawn in what the lane has seen
abbrev pub drawn_by : Lane → ℕ
drawn_by lane = (state_after (seen_by lane.view)).drawn

-- the lane before the first round, and after some that were all in vain
pub record DrawsAgain (start now : Lane) (rounds : ℕ) : Type 0 where
  pub waited : Waited start now
  pub risen : rounds ≤ drawn_by now
  pub still : ((rounds ≡ 0) × (steps_of start now ≡ 0)) ⊎ ((drawn_by now < start.cells.limits.numbers) × (steps_of start now ≤ 2 * drawn_by now))

pub before_first : (lane : Lane) → DrawsAgain lane lane 0
before_first lane = record {
  waited = inl refl;
  risen = omega arith;
  still = inl (refl, omega (arith, length-drop (length lane.view.fronts) lane.view.fronts));
}

-- one was left where one would be drawn
one_left : (numbers drawn : ℕ) (b : Bool) (answer : Option ℕ) → nat_lt drawn numbers ≡ b → (if b then Happens (Some (drawn + 1)) else Refuses NumbersFull) ≡ Happens answer → drawn < numbers
one_left numbers drawn true answer is happens = grind (arith, nat_tests)
one_left numbers drawn false answer is happens = absurd (cc happens)

pub after_one_more : (tries rounds : ℕ) (a b c : Lane) → 1 ≤ tries → DrawsAgain a b rounds → c.cells ≡ b.cells → cells.Answers tries b c cells.number_acts (cells.number_reply b) (Err cell.Contended)
    → IsOvertakenAt tries b c (Keep 0) → steps_of b c ≤ tries + 1 → DrawsAgain a c (rounds + 1)
after_one_more tries rounds a b c some d same answers over steps =
    let calls = (answers.overtaken refl).calls in
    let grown : drawn_by b ≤ (state_after (first_front b.view c.view)).drawn = drawn_grows (seen_by b.view) (first_front b.view c.view) (first_goes_on calls) in
    let more : (state_after (first_front b.view c.view)).drawn + tries ≤ drawn_by c = over.own_word in
    let left : drawn_by c < b.cells.limits.numbers = one_left b.cells.limits.numbers (drawn_by c) _ over.would_happen.0 refl over.would_happen.1 in
    let add = steps_add a b c in
    let risen = d.risen in record {
      waited = waited_more a b c d.waited same calls;
      risen = omega (arith, some, grown, more, risen);
      still = inr (
        subst (λ (z : CellsId). drawn_by c < z.limits.numbers) (waited_cells a b d.waited) left,
        elim d.still [
          | inl none ↦ let no = none.1 in omega (arith, some, grown, more, add, steps, no)
          | inr few ↦ let had = few.1 in omega (arith, some, grown, more, add, steps, had)
        ],
      );
    }
