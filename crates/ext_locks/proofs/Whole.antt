-- What is known while a lane takes a whole set, or gives it back.
use Rattle.std.proofs.Common.{◌≡◌, ℕ, ◌+◌, ◌*◌, ◌<◌, ◌≤◌, true, false, List, [], ◌∷◌, ◌++◌, length, take, Option, Some, None, slice_index_or, sym, ap, ◌∙◌, subst, arith, length-append, append-nil, inl, inr}
use Rattle.std.proofs.Math.Nat.{add-mul, mul-add}
use Rattle.std.proofs.Math.Seq.{take-length}
use Rattle.std.proofs.lemmas.List.{map-append}
use Rattle.std.proofs.lemmas.Bool.{and_left}
use mathlib.Core.List.{IsPrefix}
use Rattle.atomic_table.specs.declared.shared.Seat.{Seat}
use Rattle.ext_history.specs.Histories.{seen, first_front, IsStepped, IsPointAfter}
use Rattle.ext_history.proofs.Composed.{calls_compose, steps_stay, first_decides, first_is_seen, point_of_first, seen_is_point}
use Rattle.ext_history.proofs.Crowded.{crowded_at_first, crowded_at_second}
use Rattle.ext_locks.specs.declared.event.LockMode.{LockMode}
use Rattle.ext_locks.specs.declared.event.LockEvent.{LockEvent}
use Rattle.ext_locks.specs.declared.seat.SeatView.{SeatView}
use Rattle.ext_locks.specs.declared.refusal.LockRefusal.{LockRefusal}
use Rattle.ext_locks.specs.declared.refusal.LockRefusal.TheVariants.{Taken, Contended}
use Rattle.ext_locks.specs.History.{LockHistory, event, lane_of, holds, IsLegal}
use Rattle.ext_locks.specs.Views.{LaneView, Calls}
use Rattle.ext_locks.specs.InnerRule.{lane_view}
use Rattle.ext_locks.specs.Sets.{locks_of, locks_below, wants, takes_of, gives_of, HoldsNothing, HoldsExactly, AllBelow}
use Rattle.ext_locks.specs.Refusals.{lock_of, undone, steps_to_take, steps_to_refuse, StoodAt, IsRefused}
use Rattle.ext_locks.specs.InnerSteps.{lane_at, Makes, AddsAtMost, HoldsBetween, HeldBut, IsWithin, Missed}
use Rattle.ext_locks.proofs.Holding.{passed, took, passed_back, gave, none_between, all_between, has_own}
use Rattle.ext_locks.proofs.Lists.{wants_modes, locks_more, locks_same, below_take}
use Rattle.ext_locks.proofs.Fronts.{makes_self, makes_then, makes_quiet}

-- each lock more takes a load and the exchanges of its tries
more_locks : (n t : ℕ) → (n + 1) * (t + 1) ≡ n * (t + 1) + (t + 1)
more_locks n t = let e = add-mul n 1 (t + 1) in omega arith

-- and a step to give it back
more_steps : (n t : ℕ) → n * (t + 2) ≡ n * (t + 1) + n
more_steps n t = let e = mul-add n t 2 in let f = mul-add n t 1 in omega arith

steps_more : (tries : ℕ) (set : List (ℕ × LockMode)) (lock : ℕ × LockMode) → steps_to_take tries (set ++ lock ∷ []) ≡ steps_to_take tries set + (tries + 1)
steps_more tries set lock = ap (λ n. n * (tries + 1)) (length-append set (lock ∷ [])) ∙ more_locks (length set) tries

-- the locks of the set below `lock` were taken
pub record TookBelow (start now : Seat (Unit {0}) SeatView) (l : ℕ) (modes : List (Option LockMode)) (lock : ℕ) : Type 0 where
  pub makes : Makes start now l (takes_of l (locks_of (take lock modes)))
  pub held : HoldsBetween now.me.0.fronts l modes 0 lock

-- they were taken by at most so many tries each
pub record TriedBelow (start now : Seat (Unit {0}) SeatView) (l : ℕ) (modes : List (Option LockMode)) (tries lock : ℕ) : Type 0 where
  pub taken : TookBelow start now l modes lock
  pub steps : AddsAtMost (steps_to_take tries (locks_of (take lock modes))) start.me.0.fronts now.me.0.fronts

-- the locks of the set below `lock` were given back, and those up to `end` are held
pub record GaveBelow (start now : Seat (Unit {0}) SeatView) (l : ℕ) (modes : List (Option LockMode)) (lock end : ℕ) : Type 0 where
  pub makes : Makes start now l (gives_of l (locks_of (take lock modes)))
  pub steps : length now.me.0.fronts ≡ length start.me.0.fronts + length (locks_of (take lock modes))
  pub held : HoldsBetween now.me.0.fronts l modes lock end

module _ (start now : Seat (Unit {0}) SeatView) (l : ℕ) (modes : List (Option LockMode)) where
  pub took_none : IsLegal start.me.0.lanes (seen start.me.0.fronts) → HoldsNothing (lane_at start l) → TookBelow start start l modes 0
  took_none legal none = record {
    makes = makes_self start l legal;
    held = record { each = λ lock mode. none.each lock mode ∙ sym (and_left _ _ (none_between 0 lock)) };
  }

  pub tried_none : (tries : ℕ) → IsLegal start.me.0.lanes (seen start.me.0.fronts) → HoldsNothing (lane_at start l) → TriedBelow start start l modes tries 0
  tried_none tries legal none = record { taken = took_none legal none; steps = omega arith }

  module _ (k : ℕ) (below : k < length modes) where
    pub took_same : TookBelow start now l modes k → slice_index_or modes k None ≡ None → TookBelow start now l modes (k + 1)
    took_same t none = record {
      makes = subst (λ x. Makes start now l (takes_of l x)) (sym (locks_same modes k below none)) t.makes;
      held = passed now.me.0.fronts now.me.0.fronts l modes k t.held none;
    }

    pub tried_same : (tries : ℕ) → TriedBelow start now l modes tries k → slice_index_or modes k None ≡ None → TriedBelow start now l modes tries (k + 1)
    tried_same tries t none = record {
      taken = took_same t.taken none;
      steps = subst (λ x. AddsAtMost (steps_to_take tries x) start.me.0.fronts now.me.0.fronts) (sym (locks_same modes k below none)) t.steps;
    }

    pub gave_same : (end : ℕ) → GaveBelow start now l modes k end → slice_index_or modes k None ≡ None → GaveBelow start now l modes (k + 1) end
    gave_same end t none = record {
      steps = subst (λ (x : List (ℕ × LockMode)). length now.me.0.fronts ≡ length start.me.0.fronts + length x) (sym (locks_same modes k below none)) t.steps;
      makes = subst (λ x. Makes start now l (gives_of l x)) (sym (locks_same modes k below none)) t.makes;
      held = passed_back now.me.0.fronts now.me.0.fronts l modes k end t.held none;
    }

    module _ (after : Seat (Unit {0}) SeatView) (m : LockMode) (is : slice_index_or modes k None ≡ Some m) where
      pub took_more : TookBelow start now l modes k → Makes now after l (event l k m true ∷ []) → HeldBut now.me.0.fronts after.me.0.fronts l k m true → TookBelow start after l modes (k + 1)
      took_more t makes but = record {
        makes = subst (λ x. Makes start after l x)
            (sym (ap (takes_of l) (locks_more modes k m below is) ∙ map-append (λ lock. event l lock.0 lock.1 true) (locks_of (take k modes)) ((k, m) ∷ [])))
            (makes_then start now after l (takes_of l (locks_of (take k modes))) (event l k m true ∷ []) t.makes makes);
        held = took now.me.0.fronts after.me.0.fronts l modes k m t.held is but;
      }

      pub tried_more : (tries : ℕ) → TriedBelow start now l modes tries k → AddsAtMost (tries + 1) now.me.0.fronts after.me.0.fronts → Makes now after l (event l k m true ∷ []) → HeldBut now.me.0.fronts after.me.0.fronts l k m true
          → TriedBelow start after l modes tries (k + 1)
      tried_more tries t adds makes but = record {
        taken = took_more t.taken makes but;
        steps = (let e = ap (steps_to_take tries) (locks_more modes k m below is) ∙ steps_more tries (locks_of (take k modes)) (k, m) in let s = t.steps in omega arith);
      }

      pub gave_more : (end : ℕ) → GaveBelow start now l modes k end → length after.me.0.fronts ≡ length now.me.0.fronts + 1 → Makes now after l (event l k m false ∷ []) → HeldBut now.me.0.fronts after.me.0.fronts l k m false
          → GaveBelow start after l modes (k + 1) end
      gave_more end t adds makes but = record {
        steps = (let e = ap length (locks_more modes k m below is) in let a = length-append (locks_of (take k modes)) ((k, m) ∷ []) in let s = t.steps in omega arith);
        makes = subst (λ x. Makes start after l x)
            (sym (ap (gives_of l) (locks_more modes k m below is) ∙ map-append (λ lock. event l lock.0 lock.1 false) (locks_of (take k modes)) ((k, m) ∷ [])))
            (makes_then start now after l (gives_of l (locks_of (take k modes))) (event l k m false ∷ []) t.makes makes);
        held = gave now.me.0.fronts after.me.0.fronts l modes k end m t.held is but;
      }

  -- the ends of the loops
  pub took_all : TookBelow start now l modes (length modes) → Makes start now l (takes_of l (locks_of modes)) × HoldsExactly (lane_at now l) (locks_of modes)
  took_all t = (
    subst (λ x. Makes start now l (takes_of l (locks_of x))) (take-length modes) t.makes,
    record { each = λ lock mode. t.held.each lock mode ∙ (all_between modes lock mode ∙ sym (wants_modes modes lock mode)) },
  )

  pub tried_all : (tries : ℕ) → TriedBelow start now l modes tries (length modes) → AddsAtMost (steps_to_take tries (locks_of modes)) start.me.0.fronts now.me.0.fronts
  tried_all tries t = subst (λ x. AddsAtMost (steps_to_take tries (locks_of x)) start.me.0.fronts now.me.0.fronts) (take-length modes) t.steps

-- a whole set that is held
pub held_all : (fs : List LockHistory) (l : ℕ) (modes : List (Option LockMode)) → ((lock : ℕ) (mode : LockMode) → holds (seen fs) lock mode l ≡ wants (locks_of modes) lock mode) → HoldsBetween fs l modes 0 (length modes)
held_all fs l modes h = record { each = λ lock mode. h lock mode ∙ (wants_modes modes lock mode ∙ sym (all_between modes lock mode)) }

pub within_of : (modes : List (Option LockMode)) (count locks : ℕ) → AllBelow count (locks_of modes) → count ≡ locks → IsWithin modes locks
within_of modes count locks all same = record { each = λ lock mode is. subst (λ n. lock < n) same (all.each lock mode (wants_modes modes lock mode ∙ has_own modes lock mode is)) }

-- ---- a lock of the set was refused

module _ (start mid last after : Seat (Unit {0}) SeatView) (l : ℕ) (modes : List (Option LockMode)) (k : ℕ) (m : LockMode) (is : slice_index_or modes k None ≡ Some m)
    (tries : ℕ) (tried : TriedBelow start mid l modes tries k) (missed : Makes mid last l []) (gave : Makes last after l (gives_of l (locks_of (take k modes)))) where
  pub refused_makes : (refusal : LockRefusal) → lock_of refusal ≡ k → Makes start after l (undone l (locks_of modes) refusal)
  refused_makes refusal lock =
      subst (λ x. Makes start after l (takes_of l x ++ gives_of l x)) (sym (ap (λ n. locks_below n (locks_of modes)) lock ∙ below_take modes k))
      (makes_then start last after l (takes_of l (locks_of (take k modes))) (gives_of l (locks_of (take k modes)))
      (makes_quiet start mid last l (takes_of l (locks_of (take k modes))) tried.taken.makes missed) gave)

  pub refused_steps : (refusal : LockRefusal) → lock_of refusal ≡ k → AddsAtMost (tries + 1) mid.me.0.fronts last.me.0.fronts → length after.me.0.fronts ≡ length last.me.0.fronts + length (locks_of (take k modes))
      → AddsAtMost (steps_to_refuse tries (locks_of modes) refusal) start.me.0.fronts after.me.0.fronts
  refused_steps refusal lock adds given =
      subst (λ (x : List (ℕ × LockMode)). length after.me.0.fronts ≤ length start.me.0.fronts + (length x * (tries + 2) + (tries + 1))) (sym (ap (λ n. locks_below n (locks_of modes)) lock ∙ below_take modes k))
      (let s = tried.steps in let e = more_steps (length (locks_of (take k modes))) tries in omega arith)

  module _ (refusal : LockRefusal) (lock : lock_of refusal ≡ k) (why : Missed refusal (lane_view mid.me.0 l) (lane_view last.me.0 l) m tries) where
    abbrev S : LaneView
    S = lane_view start.me.0 l

    abbrev M : LaneView
    M = lane_view mid.me.0 l

    abbrev L : LaneView
    L = lane_view last.me.0 l

    abbrev A : LaneView
    A = lane_view after.me.0 l

    abbrev xs : List LockEvent
    xs = takes_of l (locks_of (take k modes))

    abbrev gs : List LockEvent
    gs = gives_of l (locks_of (take k modes))

    first : Calls S M xs
    first = tried.taken.makes.calls.calls

    second : Calls M L []
    second = missed.calls.calls

    third : Calls L A gs
    third = gave.calls.calls

    -- the takes and what was tried last
    both : Calls S L (xs ++ [])
    both = calls_compose first second

    both_stepped : IsStepped S L
    both_stepped = steps_stay first second (inr why.stepped)

    first_is : first_front S A ≡ first_front S L
    first_is = first_decides both third both_stepped

    stood_at : (refusal : LockRefusal) → StoodAt refusal m tries M L (seen last.me.0.fronts) → StoodAt refusal m tries S A (seen last.me.0.fronts)
    stood_at (Taken lock') stood = stood
    stood_at (Contended lock') stood = (
      stood.0,
      crowded_at_first tries both third both_stepped (seen last.me.0.fronts)
          (crowded_at_second tries first second (seen last.me.0.fronts) stood.1),
    )

    takes_are : xs ++ [] ≡ takes_of l (locks_below (lock_of refusal) (locks_of modes))
    takes_are = append-nil xs ∙ ap (takes_of l) (sym (ap (λ n. locks_below n (locks_of modes)) lock ∙ below_take modes k))

    pub refused_why : IsRefused tries (locks_of modes) (lane_at start l) (lane_at after l) refusal
    refused_why = record {
      mode = m;
      wanted = ap (λ n. wants (locks_of modes) n m) lock ∙ (wants_modes modes k m ∙ has_own modes k m is);
      stepped = steps_stay both third (inl both_stepped);
      point = seen last.me.0.fronts;
      since_first = subst (λ (h : LockHistory). IsPrefix h (seen last.me.0.fronts)) (sym first_is) (first_is_seen both);
      is_point = subst (λ es. IsPointAfter lane_of S A es (seen last.me.0.fronts)) takes_are
          (point_of_first both third (seen_is_point both));
      stood = stood_at refusal why.stood;
    }
