-- Lanes of a share that met.
use Rattle.std.proofs.Common.{◌≡◌, List, [], ◌∷◌, length, ap, arith, refl, subst, sym, ◌∙◌}
use Rattle.std.specs.Prelude.{All}
use Rattle.std.specs.List.{AllZip}
use mathlib.Core.List.{IsPrefix}
use base.Growing.{prefix_trans}
use Rattle.std.proofs.lemmas.List.Elements.{All-nil, All-cons}
use Rattle.ext_history.specs.Histories.{seen_by}
use Rattle.ext_history.proofs.Composed.{calls_none, seen_goes_on}
use Rattle.ext_model.specs.History.{History, lane_of}
use Rattle.ext_model.specs.CallActs.{Calls}
use Rattle.ext_model.proofs.Composed.{calls_compose}
use Rattle.ext_tree.specs.Keys.{PlacesNone, placed_at}
use Rattle.ext_tree.proofs.KeyPlacing.{keeps_all, keeps_both}
use Rattle.ext_store.specs.Stores.{StoreView, StoreLane, IsLaneOf}
use Rattle.ext_store.specs.LaneCalls.{Frame}
use Rattle.ext_store.proofs.Numbered.{frame_keys}
use Rattle.ext_engine.specs.Meeting.{Forks, HasSeen, HasSeenWithin, Joins, OnlyMeets}

module _ {V : Type 0} (store : StoreView) where
  -- a lane that was not called
  pub met_nobody : (lane : StoreLane V) → IsLaneOf store.id lane → OnlyMeets store lane lane
  met_nobody lane mine = record {
    lane = mine;
    calls = calls_none lane_of lane.cells.view;
    known = refl;
    faults = refl;
    keys = keeps_all lane.keys;
    placed = λ number. refl;
  }

  -- one whose notes of keys are as before
  pub none_placed : (a b : StoreLane V) → b.keys ≡ a.keys → PlacesNone a.keys b.keys
  none_placed a b same number = ap (λ notes. placed_at notes number) same

  -- one that met one lane
  pub met_once : (a b : StoreLane V) → IsLaneOf store.id a → IsLaneOf store.id b → Calls a.cells.cells.limits a.cells.view b.cells.view [] → b.known ≡ a.known
      → b.faults ≡ a.faults → Frame store.id [] a b → PlacesNone a.keys b.keys → OnlyMeets store a b
  met_once a b mine still one known faults frame placed =
      record { lane = still; calls = subst (λ cells. Calls cells.limits a.cells.view b.cells.view []) mine.cells one; known = known; faults = faults; keys = frame_keys store.id [] a b frame; placed = placed }

  pub met_then : (a b c : StoreLane V) → OnlyMeets store a b → OnlyMeets store b c → OnlyMeets store a c
  met_then a b c one two = record {
    lane = two.lane;
    calls = calls_compose store.id.cells.limits a.cells.view b.cells.view c.cells.view [] [] one.calls two.calls;
    known = two.known ∙ one.known;
    faults = two.faults ∙ one.faults;
    keys = keeps_both a.keys b.keys c.keys one.keys two.keys;
    placed = λ number. two.placed number ∙ one.placed number;
  }

  pub seen_more : (a b : StoreLane V) → OnlyMeets store a b → IsPrefix (seen_by a.cells.view) (seen_by b.cells.view)
  seen_more a b met = seen_goes_on met.calls

  -- what was seen first, those have seen who saw what was seen later
  pub seen_longer : (h g : History) (lanes : List (StoreLane V)) → IsPrefix h g → All (HasSeen g) lanes → All (HasSeen h) lanes
  seen_longer h g lanes on all = λ i d within. prefix_trans h g _ on (all i d within)

  -- ---- one lane and the others

  pub shown_more : (first later next met : StoreLane V) (others : List (StoreLane V)) → OnlyMeets store first later → IsPrefix (seen_by later.cells.view) (seen_by met.cells.view)
      → All (HasSeen (seen_by later.cells.view)) others → All (HasSeen (seen_by first.cells.view)) (met ∷ others)
  shown_more first later next met others on seen all =
      All-cons (HasSeen (seen_by first.cells.view)) met others (prefix_trans _ _ _ (seen_more first later on) seen)
      (seen_longer (seen_by first.cells.view) (seen_by later.cells.view) others (seen_more first later on) all)

  pub saw_more : (first met last next later : StoreLane V) (others : List (StoreLane V)) → OnlyMeets store next later → IsPrefix (seen_by later.cells.view) (seen_by met.cells.view) → OnlyMeets store met last
      → All (HasSeenWithin (seen_by last.cells.view)) others → All (HasSeenWithin (seen_by last.cells.view)) (next ∷ others)
  saw_more first met last next later others on seen more all =
      All-cons (HasSeenWithin (seen_by last.cells.view)) next others (prefix_trans _ _ _ (seen_more next later on) (prefix_trans _ _ _ seen (seen_more met last more))) all

  -- ---- all lanes

  pub forks_of : (first first' : StoreLane V) (rest rest' : List (StoreLane V)) → OnlyMeets store first first' → AllZip (OnlyMeets store) rest rest' → All (HasSeen (seen_by first.cells.view)) rest'
      → Forks store (first ∷ rest) (first' ∷ rest')
  forks_of first first' rest rest' one all shown = record {
    only_meet = (one, all);
    shown = All-cons (HasSeen (seen_by first.cells.view)) first' rest' (seen_more first first' one) shown;
  }

  pub joins_of : (first first' : StoreLane V) (rest rest' : List (StoreLane V)) → OnlyMeets store first first' → AllZip (OnlyMeets store) rest rest' → All (HasSeenWithin (seen_by first'.cells.view)) rest
      → Joins store (first ∷ rest) (first' ∷ rest')
  joins_of first first' rest rest' one all shown = record {
    only_meet = (one, all);
    shown = All-cons (HasSeenWithin (seen_by first'.cells.view)) first rest (seen_more first first' one) shown;
  }

  pub none_met : (old new : List (StoreLane V)) → length old ≡ 0 → new ≡ old → AllZip (OnlyMeets store) old new
  none_met [] new none is = subst (λ l. AllZip (OnlyMeets store) [] l) (sym is) tt
  none_met (lane ∷ lanes) new none is = absurd (omega (arith, none))

  pub none_fork : (old new : List (StoreLane V)) → length old ≡ 0 → new ≡ old → Forks store old new
  none_fork [] new none is = subst (λ l. Forks store [] l) (sym is) (record { only_meet = tt; shown = All-nil (HasSeen []) })
  none_fork (lane ∷ lanes) new none is = absurd (omega (arith, none))

  pub none_join : (old new : List (StoreLane V)) → length old ≡ 0 → new ≡ old → Joins store old new
  none_join [] new none is = subst (λ l. Joins store [] l) (sym is) (record { only_meet = tt; shown = All-nil (HasSeenWithin []) })
  none_join (lane ∷ lanes) new none is = absurd (omega (arith, none))
