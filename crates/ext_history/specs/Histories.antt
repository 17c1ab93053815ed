-- Histories of several lanes, and what the contract of a call on a lane says about them.
-- A history lists the events of all lanes, oldest first. An event may be of any type: `lane_of` gives the lane that
-- made it, and `IsAllowed` says when it may directly follow a history.
-- Each step of a lane shows it the whole history up to that moment: a front. A contract compares the lane before a call
-- with the lane after it, and says which events the call made and at which history one thread would have given the same
-- answer. A new kind of call needs only its reply, as a function of the history, and the events that each answer means.
use Rattle.std.specs.Prelude.{ℕ, ◌≡◌, ◌==◌, not, List, ◌∷◌, ◌++◌, filter, count_by, ◌≤◌, [], drop, length, ◌≢◌}
use mathlib.Core.List.{IsPrefix}

module _ {E : Type 0} (lane_of : E → ℕ) where
  -- The events of one lane, in order.
  abbrev pub own : ℕ → List E → List E
  own lane h = filter (λ e. lane_of e == lane) h

  -- The number of events made by other lanes.
  abbrev pub others : ℕ → List E → ℕ
  others lane h = count_by (λ e. not (lane_of e == lane)) h

-- Each event of a legal history is allowed directly after the events before it.
pub record IsLegal {E : Type 0} (IsAllowed : List E → E → Type 0) (h : List E) : Type 0 where
  pub each : (before : List E) (e : E) (later : List E) → h ≡ before ++ e ∷ later → IsAllowed before e

-- A lane as contracts see it: its number, and the history as it stood after each of its steps, oldest first.
pub record LaneView (E : Type 0) : Type 0 where
  pub number : ℕ
  pub fronts : List (List E)

module _ {E : Type 0} where
  -- The last of these fronts, or `h` if there are none.
  abbrev pub last_after : List E → List (List E) → List E
  last_after h [] = h
  last_after h (f ∷ fs) = last_after f fs

  -- The first of these fronts, or `h` if there are none.
  abbrev pub first_or : List E → List (List E) → List E
  first_or h [] = h
  first_or h (f ∷ fs) = f

  -- The latest front; the empty history before the first step.
  abbrev pub seen : List (List E) → List E
  seen fronts = last_after [] fronts

  abbrev pub seen_by : LaneView E → List E
  seen_by lane = seen lane.fronts

  -- Each front extends the one before it, and the first extends `h`.
  abbrev pub Follow : List E → List (List E) → Type 0
  Follow h [] = Unit {0}
  Follow h (f ∷ fs) = IsPrefix h f × Follow f fs

  -- ---- what a call adds, where `before` and `after` are the lane before and after the call

  abbrev pub moved : LaneView E → List (List E) → LaneView E
  moved lane added = record { number = lane.number; fronts = lane.fronts ++ added }

  -- The fronts that the call added.
  abbrev pub call_fronts : LaneView E → LaneView E → List (List E)
  call_fronts before after = drop (length before.fronts) after.fronts

  -- The history at the call's first step.
  abbrev pub first_front : LaneView E → LaneView E → List E
  first_front before after = first_or (seen_by before) (call_fronts before after)

  -- The call made at least one step.
  abbrev pub IsStepped : LaneView E → LaneView E → Type 0
  IsStepped before after = 1 ≤ length (call_fronts before after)

  -- ---- points of a call

  -- A point of a call is a history between what the lane had seen before the call and what it has seen after it.
  pub record IsPoint (before after : LaneView E) (p : List E) : Type 0 where
    pub since : IsPrefix (seen_by before) p
    pub until : IsPrefix p (seen_by after)

  -- A history at which the call may be answered, if the answer means these events of the lane. An answer without events
  -- may come at any point from the call's first step on. An answer with events comes directly before them, and the lane
  -- has seen nothing after them.
  abbrev pub IsAnswerPoint : LaneView E → LaneView E → List E → List E → Type 0
  IsAnswerPoint before after [] p = IsPrefix (first_front before after) p × IsPrefix p (seen_by after)
  IsAnswerPoint before after (e ∷ events) p = IsPrefix (seen_by before) p × (seen_by after ≡ p ++ e ∷ events)

  -- A point of the call at which the lane had made these of the call's events and no others.
  pub record IsPointAfter (lane_of : E → ℕ) (before after : LaneView E) (events p : List E) : Type 0 where
    pub since : IsPrefix (seen_by before) p
    pub until : IsPrefix p (seen_by after)
    pub own_events : own lane_of before.number p ≡ own lane_of before.number (seen_by before) ++ events

module _ {E : Type 0} (lane_of : E → ℕ) where
  -- The call made exactly these events.
  pub record Calls (before after : LaneView E) (events : List E) : Type 0 where
    -- The lane keeps its number, and the call only adds fronts.
    pub fronts : after ≡ moved before (call_fronts before after)
    -- Each new front extends the one before it.
    pub follow : Follow (seen_by before) (call_fronts before after)
    -- The lane's own events are the earlier ones, then these, each once and in this order.
    pub own_events : own lane_of before.number (seen_by after) ≡ own lane_of before.number (seen_by before) ++ events

  -- ---- answers

  -- The call made these events, and `Fact` holds at a history where it may be answered. The lane looked during the
  -- call: it made at least one step.
  pub record HoldsAtPoint (before after : LaneView E) (events : List E) (Fact : List E → Type 0) : Type 0 where
    pub calls : Calls before after events
    pub stepped : IsStepped before after
    pub point : (p : List E) × IsAnswerPoint before after events p × Fact p

  -- Other lanes made at least `tries` events after the call's first front, and this lane made none.
  pub record IsOvertaken (tries : ℕ) (before after : LaneView E) : Type 0 where
    pub calls : Calls before after []
    pub passed : (more : List E) × (seen_by after ≡ first_front before after ++ more)
        × (own lane_of before.number more ≡ []) × (tries ≤ length more)

  -- What a call's result means. If the result is `contended`, other lanes were in the way. Any other result is the
  -- reply of one thread at a point of the call, and the lane made exactly the events that this result means.
  pub record Answers {R : Type 0} (tries : ℕ) (contended : R) (before after : LaneView E) (events_of : R → List E)
      (reply_at : List E → R) (result : R) : Type 0 where
    pub overtaken : result ≡ contended → IsOvertaken tries before after
    pub replied : result ≢ contended → HoldsAtPoint before after (events_of result) (λ p. result ≡ reply_at p)

  -- A legal history that extends what the lane has seen by events of other lanes alone. It is what the lane may find at
  -- its next step.
  pub record GoesOn (IsAllowed : List E → E → Type 0) (lane : LaneView E) (h : List E) : Type 0 where
    pub legal : IsLegal IsAllowed h
    pub begins : IsPrefix (seen_by lane) h
    pub own_same : own lane_of lane.number h ≡ own lane_of lane.number (seen_by lane)

-- Between the call's first front and `p`, other lanes made at least `tries` events. The lane itself may have made some,
-- too.
abbrev pub IsCrowdedAt : {E : Type 0} → (E → ℕ) → ℕ → LaneView E → LaneView E → List E → Type 0
IsCrowdedAt lane_of tries before after p = (more : List _) × (p ≡ first_front before after ++ more)
    × (tries ≤ others lane_of before.number more)

-- Other lanes made at least `tries` events between the call's first and last front.
abbrev pub IsCrowded : {E : Type 0} → (E → ℕ) → ℕ → LaneView E → LaneView E → Type 0
IsCrowded lane_of tries before after = IsCrowdedAt lane_of tries before after (seen_by after)
