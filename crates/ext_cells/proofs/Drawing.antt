-- Drawing a number: what the count of numbers means for the lane's call.
use Rattle.std.proofs.Common.{◌≡◌, ℕ, ◌+◌, ◌<◌, ◌≤◌, length, sym, refl, ap, ◌∙◌, subst, arith, Some}
use Rattle.std.specs.Prelude.{Result, Ok, Err, if◌then◌else◌, Contains}
use Rattle.std.proofs.lemmas.Bool.{lt-ltb, le-ltb}
use Rattle.std.proofs.lemmas.List.Elements.{Contains-append_left}
use Rattle.ext_model.proofs.Numbers.{bounded}
use Rattle.ext_model.specs.declared.event.Act.TheVariants.{Keep}
use Rattle.ext_model.specs.Events.{Happens, Refuses, NumbersFull, keep_reply}
use Rattle.ext_model.specs.History.{History, Limits, by, state_after}
use Rattle.ext_model.specs.CallActs.{MayStoreNow}
use Rattle.ext_model.specs.Plain.{number_drawn}
use Rattle.ext_history.specs.Histories.{seen_by, call_fronts}
use Rattle.ext_cells.specs.declared.refusal.CellRefusal.{CellRefusal}
use Rattle.ext_cells.specs.declared.refusal.CellRefusal.TheVariants as refusal
use Rattle.ext_cells.specs.Lanes.{Lane}
use Rattle.ext_cells.specs.CellCalls.{result_of, number_reply, number_acts, Answers}
use Rattle.ext_cells.specs.InnerSteps.{stepped, Finds, Draws}
use Rattle.ext_cells.proofs.Tries.{TriesOn, first_on, next_on, answered, made, goes_on, steps_next, made_legal}
use Rattle.ext_cells.proofs.Storable.{drew_storable}

pub keeps : (numbers drawn : ℕ) → drawn < numbers → keep_reply numbers drawn ≡ Happens (Some (drawn + 1))
keeps numbers drawn less = ap (λ b. if b then Happens (Some (drawn + 1)) else Refuses NumbersFull) (lt-ltb drawn numbers less)

full : (numbers drawn : ℕ) → numbers ≤ drawn → keep_reply numbers drawn ≡ Refuses NumbersFull
full numbers drawn most = ap (λ b. if b then Happens (Some (drawn + 1)) else Refuses NumbersFull) (le-ltb drawn numbers most)

not_contended : (why : CellRefusal) → (why ≡ refusal.Contended → ⊥) → (let x : Result ℕ CellRefusal = Err why in let y : Result ℕ CellRefusal = Err refusal.Contended in x ≡ y) → ⊥
not_contended why ne e = ne (cc e)

pub first_count : (before now : Lane) (index count : ℕ) → index ≡ before.cells.limits.cells → (h : History) × Finds before.cells.limits before.view index count h × (now ≡ stepped before h) → TriesOn before now before.cells.limits.cells count 0
first_count before now index count here f = first_on before now before.cells.limits.cells count f.0 (omega arith) (subst (λ p. Finds before.cells.limits before.view p count f.0) here f.1) f.2

module _ (before now : Lane) (word count : ℕ) (t : TriesOn before now before.cells.limits.cells word count) where
  -- all numbers were drawn
  pub full_now : (tries : ℕ) → before.cells.limits.numbers ≤ word → Answers tries before now number_acts (number_reply before) (Err refusal.NumbersFull)
  full_now tries most =
      let counted = t.tries.word_is.count refl in
      let none : number_reply before (seen_by now.view) ≡ Err refusal.NumbersFull = ap (result_of number_drawn) (full before.cells.limits.numbers (state_after (seen_by now.view)).drawn (omega (arith, most, counted))) in
      record {
        overtaken = λ e. absurd (not_contended refusal.NumbersFull (λ q. cc q) e);
        replied = λ ne. answered before.cells.limits before.view now.view before.cells.limits.cells word count t.tries (λ p. Err refusal.NumbersFull ≡ number_reply before p) (sym none);
      }

  -- they were when the lane drew
  pub then_full : (next : Lane) → word < before.cells.limits.numbers → (h : History) × Finds now.cells.limits now.view now.cells.limits.cells now.cells.limits.numbers h × (next ≡ stepped now h)
      → TriesOn before next before.cells.limits.cells before.cells.limits.numbers (count + 1)
  then_full next less f =
      next_on before now next before.cells.limits.cells word before.cells.limits.numbers count f.0 t (λ e. absurd (omega (arith, less, e)))
      (subst (λ (z : Limits). Finds now.cells.limits now.view z.cells z.numbers f.0) (ap (λ z. z.limits) t.cells) f.1) f.2

  -- a number was drawn
  module _ (after : Lane) (number : ℕ) (d : Draws now after number) where
    abbrev Finding : Limits → Type 0
    Finding limits = Finds limits now.view limits.cells d.count d.history

    finds : Finding before.cells.limits
    finds = subst Finding (ap (λ z. z.limits) t.cells) d.finds

    counted : d.count ≡ (state_after d.history).drawn
    counted = finds.word_is.count refl

    left : (state_after d.history).drawn < before.cells.limits.numbers
    left = let less = d.left in let same = ap (λ z. z.limits.numbers) t.cells in let is = counted in omega (arith, less, same, is)

    pub drew : (tries : ℕ) → Answers tries before after number_acts (number_reply before) (Ok number)
    drew tries =
        let next : (state_after d.history).drawn + 1 ≡ number = sym (d.next ∙ ap (λ k. k + 1) counted) in
        let answer : number_reply before d.history ≡ Ok number = ap (result_of number_drawn) (keeps before.cells.limits.numbers (state_after d.history).drawn left) ∙ ap Ok next in
        record {
          overtaken = λ e. absurd (cc e);
          replied = λ ne. made before.cells.limits before.view now.view before.cells.limits.cells word count t.tries after.view (Keep number) d.history (λ p. Ok number ≡ number_reply before p) finds.on (ap (λ z. z.view) d.after_is) (sym answer);
        }

    pub drew_storing : (tries : ℕ) → MayStoreNow after.view number
    drew_storing tries =
        drew_storable tries before after (Ok number)
        (made_legal before now after before.cells.limits.cells word count d.history (Keep number) t d.finds.on.legal d.allowed (ap (λ z. z.view) d.after_is))
        (drew tries)

    pub drew_within : (1 ≤ number) × (number ≤ before.cells.limits.numbers)
    drew_within = let next = d.next in let less = left in let is = counted in (omega (arith, next), omega (arith, next, less, is))

    pub drew_steps : length (call_fronts before.view after.view) ≡ count + 2
    drew_steps = steps_next before now after now.cells.limits.cells word count d.history (Keep number) (subst (λ n. TriesOn before now n word count) (sym (ap (λ z. z.limits.cells) t.cells)) t) d.finds d.after_is

    -- nobody had drawn it, by what the lane had seen before
    pub not_drawn : (other : ℕ) → Contains (seen_by before.view) (by other (Keep number)) → ⊥
    not_drawn other there =
        let on = goes_on before.cells.limits before.view now.view before.cells.limits.cells word count t.tries d.history finds.on in
        let still : Contains d.history (by other (Keep number)) = subst (λ h. Contains h (by other (Keep number))) on.begins.1 (Contains-append_left (seen_by before.view) on.begins.0 (by other (Keep number)) there) in
        let least = (bounded d.history on.legal).kept other number still in
        let is = counted in let next = d.next in
        absurd (omega (arith, is, least, next))
