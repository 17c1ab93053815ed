-- The laws of frames, and the frames of calls.
use Rattle.std.proofs.Common.{◌≡◌, ◌≢◌, inl, inr, ℕ, List, [], ◌∷◌, ◌++◌, map, sym, refl, ap, ◌∙◌, subst, arith}
use Rattle.std.specs.Prelude.{All, Contains, Option, None, Result, Ok, Err}
use Rattle.std.proofs.lemmas.List.Elements.{All-nil, All-cons, All-head, All-tail, Contains-append_left, Contains-append_right, Contains-push, Contains-push_cases}
use mathlib.Core.List.{IsPrefix}
use base.Growing.{prefix_trans}
use Rattle.ext_model.specs.declared.event.Act.{Act}
use Rattle.ext_model.specs.declared.event.Act.TheVariants.{Keep, Put}
use Rattle.ext_model.specs.History.{History, Limits, lane_of}
use Rattle.ext_history.specs.Histories.{last_after, seen, seen_by, Follow}
use Rattle.ext_model.specs.CallActs.{LaneView, Calls}
use Rattle.ext_history.proofs.Fronts.{follow_last}
use Rattle.ext_history.proofs.Composed.{calls_none}
use Rattle.ext_model.proofs.Composed.{calls_compose}
use Rattle.ext_tree.specs.Keys.{KeepsKeys, key_places_of}
use Rattle.ext_tree.proofs.KeyPlacing.{keeps_all, keeps_both}
use Rattle.ext_values.specs.Known.{KeepsKnown, Learns, known_at, slots_of}
use Rattle.ext_cells.specs.Lanes.{CellsId, Lane}
use Rattle.ext_store_core.specs.declared.fault.Refusal.{Refusal}
use Rattle.ext_store_core.specs.ContextCalls.{ContextCells, cell_in}
use Rattle.ext_store.specs.Stores.{StoreId, StoreLane, IsKeptBy, IsLaneOf, IsOnCells, StillKeeps, StillKeepsBut}
use Rattle.ext_store.specs.LaneCalls.{put_acts, remove_acts, Frame, Grows, KeepsAllBut, Makes, Stays, stored_by}
use Rattle.ext_store.proofs.Keeping.{quiet_keeps, stored_keeps, remove_keeps, unplaced_keeps, learnt_keeps}

nowhere : (number : ℕ) → Contains [] number → ⊥
nowhere number at = let less = at.1 in absurd (omega (arith, less))

makes_compose : (limits : Limits) (a b c : Lane) (xs ys : List (Act ℕ)) → Makes limits a b xs → Makes limits b c ys → (acts : List (Act ℕ)) × Makes limits a c acts
makes_compose limits a b c xs ys (inl still) two = (ys, subst (λ (l : Lane). Makes limits l c ys) still.0 two)
makes_compose limits a b c xs ys (inr one) (inl still) = (xs, inr (subst (λ (l : Lane). Calls limits a.view l.view xs) (sym still.0) one))
makes_compose limits a b c xs ys (inr one) (inr two) = (xs ++ ys, inr (calls_compose limits a.view b.view c.view xs ys one two))

module _ {V : Type 0} (id : StoreId) where
  pub no_frame : (lane : StoreLane V) → IsLaneOf id lane → Frame id [] lane lane
  unfolding Frame
  no_frame lane mine = record { lane = mine; steps = ([], inl (refl, refl)); known = λ number value known. known; faults = λ number value known. known; keys = keeps_all lane.keys; kept = λ number other kept. kept }

  pub frame_keeps : (a b : StoreLane V) → Frame id [] a b → StillKeeps a b
  unfolding Frame
  frame_keeps a b frame = λ number kept. frame.kept number (nowhere number) kept

  -- one after the other
  pub frames_compose : (first second : List ℕ) (a b c : StoreLane V) → Frame id first a b → Frame id second b c → Frame id (first ++ second) a c
  unfolding Frame
  frames_compose first second a b c one two = record {
    lane = two.lane;
    steps = makes_compose id.cells.limits a.cells b.cells c.cells one.steps.0 two.steps.0 one.steps.1 two.steps.1;
    known = λ number value known. two.known number value (one.known number value known);
    faults = λ number value known. two.faults number value (one.faults number value known);
    keys = keeps_both a.keys b.keys c.keys one.keys two.keys;
    kept = λ number other kept. two.kept number (λ in_second. other (Contains-append_right first second number in_second)) (one.kept number (λ in_first. other (Contains-append_left first second number in_first)) kept);
  }

  pub frame_calls : (stored : List ℕ) (a b : StoreLane V) → Frame id stored a b → (acts : List (Act ℕ)) × Calls id.cells.limits a.cells.view b.cells.view acts
  unfolding Frame
  frame_calls stored a b frame = elim frame.steps.1 [
    | inl still ↦ ([], subst (λ (l : Lane). Calls id.cells.limits l.view b.cells.view []) still.0 (calls_none lane_of b.cells.view))
    | inr calls ↦ (frame.steps.0, calls)
  ]

  -- ---- the frame of one call

  module _ (a b : StoreLane V) (before : IsLaneOf id a) (after : IsLaneOf id b) (known : KeepsKnown a.known b.known) (faults : KeepsKnown a.faults b.faults) (keys : KeepsKeys a.keys b.keys) where
    steps_of : (acts : List (Act ℕ)) → Calls a.cells.cells.limits a.cells.view b.cells.view acts → (acts : List (Act ℕ)) × Makes id.cells.limits a.cells b.cells acts
    steps_of acts calls = (acts, inr (subst (λ (z : CellsId). Calls z.limits a.cells.view b.cells.view acts) before.cells calls))

    -- of one that made these events,
    pub framed : (acts : List (Act ℕ)) → Calls a.cells.cells.limits a.cells.view b.cells.view acts → StillKeeps a b → Frame id [] a b
    unfolding Frame
    framed acts calls keeps = record { lane = after; steps = steps_of acts calls; known = known; faults = faults; keys = keys; kept = λ number other kept. keeps number kept }

    -- and of one that stored a number
    pub framed_but : (stored : ℕ) (acts : List (Act ℕ)) → Calls a.cells.cells.limits a.cells.view b.cells.view acts → StillKeepsBut stored a b → Frame id (stored ∷ []) a b
    unfolding Frame
    framed_but stored acts calls keeps = record {
      lane = after;
      steps = steps_of acts calls;
      known = known;
      faults = faults;
      keys = keys;
      kept = λ number other kept. keeps number (λ same. other (subst (Contains (stored ∷ [])) (sym same) (Contains-push [] stored))) kept;
    }

    -- and of one that made no step on the cells
    pub framed_still : b.cells ≡ a.cells → StillKeeps a b → Frame id [] a b
    unfolding Frame
    framed_still still keeps = record { lane = after; steps = ([], inl (still, refl)); known = known; faults = faults; keys = keys; kept = λ number other kept. keeps number kept }

-- a frame says that the lane is of the store
pub frame_lane : {V : Type 0} (id : StoreId) (stored : List ℕ) (a b : StoreLane V) → Frame id stored a b → IsLaneOf id b
unfolding Frame
frame_lane id stored a b frame = frame.lane

-- and that it knows what it knew
pub frame_known : {V : Type 0} (id : StoreId) (stored : List ℕ) (a b : StoreLane V) → Frame id stored a b → KeepsKnown a.known b.known
unfolding Frame
frame_known id stored a b frame = frame.known

-- ---- what a call leaves of its lane

module _ {V : Type 0} (id : StoreId) where
  -- all but what was stored, as a frame says it
  spares : (stored : List ℕ) (a b : StoreLane V) → Frame id stored a b → KeepsAllBut stored a b
  unfolding Frame
  spares [] a b frame = λ number kept. frame.kept number (nowhere number) kept
  spares (stored ∷ []) a b frame = λ number other kept. frame.kept number (λ at. elim (Contains-push_cases [] stored number at) [ inl none ↦ nowhere number none | inr same ↦ other (sym same) ]) kept
  spares (stored ∷ other ∷ more) a b frame = λ number apart kept. frame.kept number apart kept

  pub stays : (stored : List ℕ) (a b : StoreLane V) → b.known ≡ a.known → b.faults ≡ a.faults → Frame id stored a b → Stays id stored a b
  stays stored a b known faults frame = record { lane = frame_lane id stored a b frame; known = known; faults = faults; kept = spares stored a b frame; frame = frame }

  -- where the lane's parts stand in the code
  pub stays_inside : (stored : List ℕ) (inside a b : StoreLane V) → inside ≡ a → IsOnCells inside b → Frame id stored a b → Stays id stored a b
  stays_inside stored inside a b is on_cells frame = stays stored a b (ap (λ (l : StoreLane V). l.known) on_cells ∙ ap (λ (l : StoreLane V). l.known) is) (ap (λ (l : StoreLane V). l.faults) on_cells ∙ ap (λ (l : StoreLane V). l.faults) is) frame

  pub grows : (a b : StoreLane V) → Frame id [] a b → Grows id a b
  grows a b frame = record { lane = frame_lane id [] a b frame; known = frame_known id [] a b frame; kept = frame_keeps id a b frame; frame = frame }

  -- one after the other
  pub stays_then : (stored : List ℕ) (a b c : StoreLane V) → Stays id [] a b → Stays id stored b c → Stays id stored a c
  stays_then stored a b c one two = stays stored a c (two.known ∙ one.known) (two.faults ∙ one.faults) (frames_compose id [] stored a b c one.frame two.frame)

  pub grows_then : (a b c : StoreLane V) → Stays id [] a b → Grows id b c → Grows id a c
  grows_then a b c one two = grows a c (frames_compose id [] [] a b c one.frame two.frame)

-- where only a number was stored that was not kept before, all that was kept still is
pub frame_spares : {V : Type 0} (id : StoreId) (stored : ℕ) (a b : StoreLane V) → Frame id (stored ∷ []) a b → ((number : ℕ) → IsKeptBy a number → number ≢ stored) → Frame id [] a b
unfolding Frame
frame_spares id stored a b frame apart = record {
  lane = frame.lane;
  steps = frame.steps;
  known = frame.known;
  faults = frame.faults;
  keys = frame.keys;
  kept = λ number other kept. frame.kept number (λ in_it. elim (Contains-push_cases [] stored number in_it) [ inl at ↦ nowhere number at | inr same ↦ apart number kept (sym same) ]) kept;
}

-- The same of a lane whose parts stand in the code
module _ {V : Type 0} (id : StoreId) (inside a b : StoreLane V) (is : inside ≡ a) (before : IsLaneOf id a) (cells : b.cells.cells ≡ inside.cells.cells) where
  own : IsLaneOf id inside
  own = subst (IsLaneOf id) (sym is) before

  -- that knows what it knew,
  module _ (on_cells : IsOnCells inside b) where
    same : b.known ≡ inside.known
    same = ap (λ (l : StoreLane V). l.known) on_cells

    also : b.faults ≡ inside.faults
    also = ap (λ (l : StoreLane V). l.faults) on_cells

    same_keys : b.keys ≡ inside.keys
    same_keys = ap (λ (l : StoreLane V). l.keys) on_cells

    abbrev after : IsLaneOf id b
    after = record { cells = cells ∙ own.cells; slots = ap (λ l. slots_of l) same ∙ own.slots; fault_slots = ap (λ l. slots_of l) also ∙ own.fault_slots; keys = ap (λ l. key_places_of l) same_keys ∙ own.keys }

    knows : KeepsKnown inside.known b.known
    knows = λ number value known. ap (λ l. known_at l number) same ∙ known

    knows_faults : KeepsKnown inside.faults b.faults
    knows_faults = λ number value known. ap (λ l. known_at l number) also ∙ known

    knows_keys : KeepsKeys inside.keys b.keys
    knows_keys = subst (λ l. KeepsKeys inside.keys l) (sym same_keys) (keeps_all inside.keys)

    pub frame_of : (acts : List (Act ℕ)) → Calls inside.cells.cells.limits inside.cells.view b.cells.view acts → StillKeeps inside b → Frame id [] a b
    frame_of acts calls keeps = subst (λ l. Frame id [] l b) is (framed id inside b own after knows knows_faults knows_keys acts calls keeps)

    pub but_frame : (stored : ℕ) (acts : List (Act ℕ)) → Calls inside.cells.cells.limits inside.cells.view b.cells.view acts → StillKeepsBut stored inside b → Frame id (stored ∷ []) a b
    but_frame stored acts calls keeps = subst (λ l. Frame id (stored ∷ []) l b) is (framed_but id inside b own after knows knows_faults knows_keys stored acts calls keeps)

    -- and made no event,
    pub quiet_frame : Calls inside.cells.cells.limits inside.cells.view b.cells.view [] → Frame id [] a b
    quiet_frame calls = frame_of [] calls (quiet_keeps inside.cells.cells.limits inside b calls same)

    -- or a put, a remove or a seal,
    pub put_frame : (store : ContextCells) (context key number : ℕ) (r : Result (Option ℕ) (ℕ × Refusal)) → Calls inside.cells.cells.limits inside.cells.view b.cells.view (put_acts (cell_in store key context) number r) → Frame id (stored_by number r) a b
    put_frame store context key number (Ok stood) calls = but_frame number (Put (cell_in store key context) number ∷ []) calls (stored_keeps inside.cells.cells.limits inside b (cell_in store key context) number calls same)
    put_frame store context key number (Err e) calls = quiet_frame calls

    pub remove_frame : (store : ContextCells) (context key : ℕ) (r : Result (Option ℕ) Refusal) → Calls inside.cells.cells.limits inside.cells.view b.cells.view (remove_acts (cell_in store key context) r) → Frame id [] a b
    remove_frame store context key r calls = frame_of (remove_acts (cell_in store key context) r) calls (remove_keeps store context key inside b same r calls)

  -- that drew a number, whose value it knows now or not,
  module _ (after : IsLaneOf id b) (drawn : ℕ) (calls : Calls inside.cells.cells.limits inside.cells.view b.cells.view (Keep drawn ∷ [])) where
    pub unplaced_frame : IsOnCells inside b → Frame id [] a b
    unplaced_frame on_cells = frame_of on_cells (Keep drawn ∷ []) calls (unplaced_keeps inside.cells.cells.limits inside b drawn calls (ap (λ (l : StoreLane V). l.known) on_cells))

    pub learnt_frame : (value : V) → KeepsKnown inside.known b.known → KeepsKnown inside.faults b.faults → KeepsKeys inside.keys b.keys → Learns inside.known b.known drawn value → known_at inside.known drawn ≡ None → Frame id [] a b
    learnt_frame value knows knows_faults knows_keys learns free = subst (λ l. Frame id [] l b) is (framed id inside b own after knows knows_faults knows_keys (Keep drawn ∷ []) calls (learnt_keeps inside.cells.cells.limits inside b drawn value calls learns free))

  -- or made no step at all
  pub still_frame : b.cells ≡ inside.cells → IsLaneOf id b → KeepsKnown inside.known b.known → KeepsKnown inside.faults b.faults → KeepsKeys inside.keys b.keys → StillKeeps inside b → Frame id [] a b
  still_frame still after knows knows_faults knows_keys keeps = subst (λ l. Frame id [] l b) is (framed_still id inside b own after knows knows_faults knows_keys still keeps)

-- ---- one history

-- each front is a part of the last one
fronts_begin : (h : History) (fronts : List History) → Follow h fronts → All (λ front. IsPrefix front (last_after h fronts)) fronts
fronts_begin h [] all = All-nil (λ front. IsPrefix front h)
fronts_begin h (f ∷ fs) all = All-cons (λ front. IsPrefix front (last_after f fs)) f fs (follow_last f fs all.1) (fronts_begin f fs all.1)

pub fronts_are_seen : (lane : LaneView) → Follow [] lane.fronts → All (λ front. IsPrefix front (seen_by lane)) lane.fronts
fronts_are_seen lane all = fronts_begin [] lane.fronts all

-- what begins one history begins a longer one
longer : (h g : History) (fronts : List History) → IsPrefix h g → All (λ front. IsPrefix front h) fronts → All (λ front. IsPrefix front g) fronts
longer h g fronts on all = λ i d within. prefix_trans _ h g (all i d within) on

met_from : (h : History) (lanes : List LaneView) → Follow h (map seen_by lanes) → All (λ lane. Follow [] lane.fronts) lanes
    → All (λ lane. All (λ front. IsPrefix front (last_after h (map seen_by lanes))) lane.fronts) lanes
met_from h [] met each = All-nil (λ lane. All (λ front. IsPrefix front h) lane.fronts)
met_from h (lane ∷ lanes) met each =
    let last = last_after (seen_by lane) (map seen_by lanes) in
    All-cons (λ (l : LaneView). All (λ front. IsPrefix front last) l.fronts) lane lanes
    (longer (seen_by lane) last lane.fronts (follow_last (seen_by lane) (map seen_by lanes) met.1) (fronts_are_seen lane (All-head (λ (l : LaneView). Follow [] l.fronts) lane lanes each)))
    (met_from (seen_by lane) lanes met.1 (All-tail (λ (l : LaneView). Follow [] l.fronts) lane lanes each))

pub met_lanes : (lanes : List LaneView) → Follow [] (map seen_by lanes) → All (λ lane. Follow [] lane.fronts) lanes
    → All (λ lane. All (λ front. IsPrefix front (seen (map seen_by lanes))) lane.fronts) lanes
met_lanes lanes met each = met_from [] lanes met each
