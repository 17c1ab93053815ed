-- What a lane does before a waiting form answers, and the answer, said of the whole call.
use Rattle.std.proofs.Common.{◌≡◌, ◌≢◌, ℕ, zero, suc, ◌⊎◌, inl, inr, List, [], ◌++◌, sym, ap, ◌∙◌, subst, append-nil}
use Rattle.std.specs.Prelude.{Option, Result, Ok, Err}
use Rattle.ext_model.specs.declared.event.Act.{Act}
use Rattle.ext_model.specs.declared.event.Act.TheVariants.{Keep, Put, Remove}
use Rattle.ext_model.specs.declared.look.Look.{Look}
use Rattle.ext_model.specs.declared.look.Look.TheVariants as look
use Rattle.ext_model.specs.History.{History, lane_of, reply_after}
use Rattle.ext_model.specs.Plain.{number_drawn}
use Rattle.ext_model.specs.CallActs.{LaneView, Calls, HoldsAtPoint}
use Rattle.ext_model.specs.CallActs as model
use Rattle.ext_history.proofs.Composed.{calls_none, same_number, steps_stay}
use Rattle.ext_model.proofs.Composed.{calls_compose, later_point, later_answers}
use Rattle.ext_cells.specs.declared.refusal.CellRefusal.{CellRefusal}
use Rattle.ext_cells.specs.declared.refusal.CellRefusal.TheVariants as cell
use Rattle.ext_cells.specs.Lanes.{CellsId, Lane}
use Rattle.ext_cells.specs.CellCalls as cells
use Rattle.ext_store_core.specs.declared.fault.Refusal.{Refusal}
use Rattle.ext_store_core.specs.declared.fault.Refusal.TheVariants as refusal
use Rattle.ext_store_core.specs.declared.claim.Unused.{Unused}
use Rattle.ext_store_core.specs.declared.claim.Unused.TheVariants.{Found, FaultStands, Refused}
use Rattle.ext_store_core.specs.ContextCalls.{ContextCells, cell_in, Puts, Removes, with_kept, result_at, put_acts, remove_acts}
use Rattle.ext_store_core.specs.InnerLooking.{Looks, LooksAt}
use Rattle.ext_store_core.specs.Claiming.{given_up_events, Meets, IsRefused, ClaimsFrom}
use Rattle.ext_store_core.specs.Waiting.{Attempt, IsDecided, IsDecidedLook, busy_refused, VainAttempts}

-- ---- a lane that made no event yet

-- the lane is as it was, or its calls made no event
abbrev pub Waited : Lane → Lane → Type 0
Waited a b = (b ≡ a) ⊎ ((b.cells ≡ a.cells) × Calls a.cells.limits a.view b.view [])

pub waited_cells : (a b : Lane) → Waited a b → b.cells ≡ a.cells
waited_cells a b waited = elim waited [
  | inl e ↦ ap (λ (l : Lane). l.cells) e
  | inr o ↦ o.0
]

pub waited_more : (a b c : Lane) → Waited a b → c.cells ≡ b.cells → Calls b.cells.limits b.view c.view [] → Waited a c
waited_more a b c waited same two = elim waited [
  | inl e ↦ subst (λ (l : Lane). Waited l c) e (inr (same, two))
  | inr o ↦ inr (same ∙ o.0, calls_compose a.cells.limits a.view b.view c.view [] [] o.1 (subst (λ (z : CellsId). Calls z.limits b.view c.view []) o.0 two))
]

-- a look-up that was answered after that
pub looks_later : (store : ContextCells) (path : List ℕ) (key : ℕ) (a b c : Lane) (found : Look) → Waited a b → LooksAt store path key b c found → LooksAt store path key a c found
looks_later store path key a b c found waited x = elim waited [
  | inl e ↦ subst (λ (l : Lane). LooksAt store path key l c found) e x
  | inr o ↦
      let limits = a.cells.limits in
      let two : Calls limits b.view c.view [] = subst (λ (z : CellsId). Calls z.limits b.view c.view []) o.0 x.calls in
      record {
        calls = calls_compose limits a.view b.view c.view [] [] o.1 two;
        stepped = λ some. steps_stay o.1 two (inr (x.stepped some));
        point = (x.point.0, later_point limits a.view b.view c.view [] x.point.0 o.1 two x.point.1, x.point.2);
      }
]

-- a look-up that was answered, and that no factory decided
pub decided_look : (store : ContextCells) (path : List ℕ) (key : ℕ) (a b : Lane) (looked : Result Look Refusal) (found : Look) → (let r : Result Look Refusal = Ok found in r ≡ busy_refused looked) → Looks store path key a b looked
    → LooksAt store path key a b found × IsDecidedLook found
decided_look store path key a b (Ok look.Absent) found is l = let e : found ≡ look.Absent = cc is in subst (λ f. LooksAt store path key a b f × IsDecidedLook f) (sym e) (l, tt)
decided_look store path key a b (Ok (look.Found at number)) found is l = let e : found ≡ look.Found at number = cc is in subst (λ f. LooksAt store path key a b f × IsDecidedLook f) (sym e) (l, tt)
decided_look store path key a b (Ok (look.Fault at number)) found is l = let e : found ≡ look.Fault at number = cc is in subst (λ f. LooksAt store path key a b f × IsDecidedLook f) (sym e) (l, tt)
decided_look store path key a b (Ok (look.Closed at)) found is l = let e : found ≡ look.Closed at = cc is in subst (λ f. LooksAt store path key a b f × IsDecidedLook f) (sym e) (l, tt)
decided_look store path key a b (Ok (look.Busy at)) found is l = absurd (cc is)
decided_look store path key a b (Err why) found is l = absurd (cc is)

-- a call whose result was answered after that, and is not that other lanes were in the way
pub answers_later : {A : Type 0} (tries : ℕ) (contended : A) (a b c : Lane) (acts_of : A → List (Act ℕ)) (reply_of : CellsId → ℕ → History → A) (r : A) → Waited a b → r ≢ contended
    → model.Answers b.cells.limits tries contended b.view c.view acts_of (reply_of b.cells b.view.number) r → model.Answers a.cells.limits tries contended a.view c.view acts_of (reply_of a.cells a.view.number) r
answers_later tries contended a b c acts_of reply_of r waited ne x = elim waited [
  | inl e ↦ subst (λ (l : Lane). model.Answers l.cells.limits tries contended l.view c.view acts_of (reply_of l.cells l.view.number) r) e x
  | inr o ↦ record {
    overtaken = λ is. absurd (ne is);
    replied = λ _.
        let limits = a.cells.limits in
        let n : b.view.number ≡ a.view.number = same_number o.1 in
        let h : HoldsAtPoint limits b.view c.view (acts_of r) (λ p. r ≡ reply_of a.cells a.view.number p) =
        subst (λ (z : CellsId × ℕ). HoldsAtPoint z.0.limits b.view c.view (acts_of r) (λ p. r ≡ reply_of z.0 z.1 p)) (λ i. (o.0 i, n i)) (x.replied ne) in
        later_answers limits a.view b.view c.view (acts_of r) (λ p. r ≡ reply_of a.cells a.view.number p) o.1 h;
  }
]

-- ---- puts, removes and drawn numbers that were answered after the lane had waited

pub decided_not : (why : Refusal) → IsDecided why → why ≢ refusal.Contended
decided_not why decided e = subst IsDecided e decided

-- refused for good
pub refused_not : (why : Refusal) → IsDecided why → (let r : Result (Option ℕ) Refusal = Err why in r ≢ Err refusal.Contended)
refused_not why decided e = decided_not why decided (one_why why refusal.Contended e)
  where
    one_why : (a b : Refusal) → (let r : Result (Option ℕ) Refusal = Err a in r ≡ Err b) → a ≡ b
    one_why a b e = cc e

pub puts_later : (store : ContextCells) (context key number : ℕ) (a b c : Lane) (r : Result (Option ℕ) (ℕ × Refusal)) → Waited a b → r ≢ Err (number, refusal.Contended) → Puts store context key number b c r
    → Puts store context key number a c r
unfolding Puts
puts_later store context key number a b c r waited ne x =
    answers_later store.tries (Err (number, refusal.Contended)) a b c (put_acts (cell_in store key context) number)
    (λ cells n p. with_kept number (result_at context (reply_after cells.limits p n (Put (cell_in store key context) number)))) r waited ne x

pub removes_later : (store : ContextCells) (context key : ℕ) (a b c : Lane) (r : Result (Option ℕ) Refusal) → Waited a b → r ≢ Err refusal.Contended → Removes store context key b c r → Removes store context key a c r
unfolding Removes
removes_later store context key a b c r waited ne x =
    answers_later store.tries (Err refusal.Contended) a b c (remove_acts (cell_in store key context))
    (λ cells n p. result_at context (reply_after cells.limits p n (Remove (cell_in store key context)))) r waited ne x

pub draws_later : (tries : ℕ) (a b c : Lane) (r : Result ℕ CellRefusal) → Waited a b → r ≢ Err cell.Contended → cells.Answers tries b c cells.number_acts (cells.number_reply b) r
    → cells.Answers tries a c cells.number_acts (cells.number_reply a) r
draws_later tries a b c r waited ne x = answers_later tries (Err cell.Contended) a b c cells.number_acts (λ id n p. cells.result_of number_drawn (reply_after id.limits p n (Keep 0))) r waited ne x

-- ---- claims that were given up

-- so many claims of the context's cell, each given up
abbrev pub claims_given_up : ContextCells → ℕ → ℕ → ℕ → List (Act ℕ)
claims_given_up store context key zero = []
claims_given_up store context key (suc rounds) = claims_given_up store context key rounds ++ given_up_events store context key

-- the lane claimed the context's cell and gave it up some times, and made no other event
abbrev GaveUp : ContextCells → ℕ → ℕ → LaneView → LaneView → Type 0
GaveUp store context key a b = (rounds : ℕ) × Calls store.cells.limits a b (claims_given_up store context key rounds)

-- the events of one round
abbrev Round : ContextCells → ℕ → ℕ → LaneView → LaneView → Type 0
Round store context key a b = Calls store.cells.limits a b [] ⊎ Calls store.cells.limits a b (given_up_events store context key)

-- it claimed and gave up once more, or made no event
gave_up_more : (store : ContextCells) (context key : ℕ) (a b c : LaneView) → GaveUp store context key a b → Round store context key b c → GaveUp store context key a c
gave_up_more store context key a b c gave more =
    let first = claims_given_up store context key gave.0 in
    elim more [
      | inl two ↦ (gave.0, subst (Calls store.cells.limits a c) (append-nil first) (calls_compose store.cells.limits a b c first [] gave.1 two))
      | inr two ↦ (suc gave.0, calls_compose store.cells.limits a b c first (given_up_events store context key) gave.1 two)
    ]

met_calls : (store : ContextCells) (context : ℕ) (ancestors : List ℕ) (key : ℕ) (a b : LaneView) (met : Look) → Meets store.cells.limits store context ancestors key a b met → Round store context key a b
unfolding Meets
met_calls store context ancestors key a b met m = elim m [
  | inl h ↦ inl h.calls
  | inr k ↦ inr k.0
]

-- a call that claims nothing for good
unclaimed : (store : ContextCells) (context : ℕ) (ancestors : List ℕ) (key : ℕ) (a b : LaneView) (why : Unused) → ClaimsFrom store context ancestors key a b (Err why) → Round store context key a b
unfolding IsRefused
unclaimed store context ancestors key a b (Found at number) m = met_calls store context ancestors key a b (look.Found at number) m
unclaimed store context ancestors key a b (FaultStands at number) m = met_calls store context ancestors key a b (look.Fault at number) m
unclaimed store context ancestors key a b (Refused (refusal.Busy at)) m = met_calls store context ancestors key a b (look.Busy at) m
unclaimed store context ancestors key a b (Refused (refusal.Closed at)) m = met_calls store context ancestors key a b (look.Closed at) m
unclaimed store context ancestors key a b (Refused refusal.Contended) m = elim m [
  | inl over ↦ inl over.calls
  | inr k ↦ inr k.0
]
unclaimed store context ancestors key a b (Refused refusal.DirectoryFull) m = absurd m
unclaimed store context ancestors key a b (Refused refusal.Unplaced) m = absurd m
unclaimed store context ancestors key a b (Refused refusal.Memory) m = absurd m
unclaimed store context ancestors key a b (Refused refusal.Exhausted) m = inl m.0.calls

-- these are all events of attempts in vain
pub gave_up : (store : ContextCells) (context : ℕ) (ancestors : List ℕ) (key attempts : ℕ) (a b : LaneView) → VainAttempts (ClaimsFrom store context ancestors key) attempts a b → GaveUp store context key a b
gave_up store context ancestors key zero a b same = (0, subst (λ x. Calls store.cells.limits x b []) same (calls_none lane_of b))
gave_up store context ancestors key (suc attempts) a b made =
    let between = made.0 in
    gave_up_more store context key a between b (gave_up store context ancestors key attempts a between made.1)
    (unclaimed store context ancestors key between b (Refused made.2.why) made.2.refused)

-- ---- a path that is a context's in the tree

-- attempts in vain, said in other words
pub vain_in_words : (Claims Others : Attempt) → ((a b : LaneView) (r : Result ℕ Unused) → Claims a b r → Others a b r) → (attempts : ℕ) (a b : LaneView) → VainAttempts Claims attempts a b → VainAttempts Others attempts a b
vain_in_words Claims Others says zero a b same = same
vain_in_words Claims Others says (suc attempts) a b made = (
  made.0,
  vain_in_words Claims Others says attempts a made.0 made.1,
  record { why = made.2.why; undecided = made.2.undecided; refused = says made.0 b (Err (Refused made.2.why)) made.2.refused },
)
