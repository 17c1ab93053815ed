-- Laws of calls that follow one another on a lane, and of their points, each proved by `call_laws`. In each, `a`, `b`
-- and `c` are one lane at three moments.
use Rattle.std.specs.Prelude.{ℕ, ◌≡◌, ◌⊎◌, List, [], ◌∷◌, ◌++◌, All, IsTrue, false, nat_eq}
use mathlib.Core.List.{IsPrefix}
use Rattle.ext_model.specs.declared.event.Act.{Act}
use Rattle.ext_model.specs.declared.event.Act.TheVariants.{Fill, Fail, Abandon}
use Rattle.ext_model.specs.Events.{is_on}
use Rattle.ext_model.specs.History.{History, Limits, by, IsAllowed, IsLegal}
use Rattle.ext_model.specs.CellWords.{word_of}
use Rattle.ext_model.specs.CallActs.{MayStore, LaneView, IsAnswerPoint, IsPointAfter, Calls, IsOvertaken, IsCrowded, IsHeld, MayStoreNow, GoesOn}
use Rattle.ext_history.specs.Histories.{seen_by, moved, call_fronts, first_front, IsStepped, IsPoint}

-- ---- one step

-- A step that shows the lane a history is a call without events, and may be answered at that history.
abbrev pub StepsAreCalls : Type 0
StepsAreCalls = (limits : Limits) (lane : LaneView) (h : History) → GoesOn limits lane h
    → Calls limits lane (moved lane (h ∷ [])) [] × IsAnswerPoint lane (moved lane (h ∷ [])) [] h

-- A step that adds an event of the lane to the history is a call with that event, answered directly before it.
abbrev pub EventsAreCalls : Type 0
EventsAreCalls =
    (limits : Limits) (lane : LaneView) (act : Act ℕ) (h : History)
    → GoesOn limits lane h
    → Calls limits lane (moved lane ((h ++ by lane.number act ∷ []) ∷ [])) (act ∷ [])
    × IsAnswerPoint lane (moved lane ((h ++ by lane.number act ∷ []) ∷ [])) (act ∷ []) h

-- ---- fronts and events

-- Two calls in a row are one call with the events of both.
abbrev pub CallsCompose : Type 0
CallsCompose = (limits : Limits) (a b c : LaneView) (xs ys : List (Act ℕ)) → Calls limits a b xs → Calls limits b c ys
    → Calls limits a c (xs ++ ys)

-- Its fronts are those of both.
abbrev pub FrontsCompose : Type 0
FrontsCompose = (limits : Limits) (a b c : LaneView) (xs ys : List (Act ℕ)) → Calls limits a b xs → Calls limits b c ys
    → call_fronts a c ≡ call_fronts a b ++ call_fronts b c

-- If the first call made a step, the first step of both is that of the first.
abbrev pub FirstStepDecides : Type 0
FirstStepDecides = (limits : Limits) (a b c : LaneView) (xs ys : List (Act ℕ)) → Calls limits a b xs
    → Calls limits b c ys → IsStepped a b → first_front a c ≡ first_front a b

-- In any case the first step of both is no later than that of the second.
abbrev pub FirstStepIsEarlier : Type 0
FirstStepIsEarlier = (limits : Limits) (a b c : LaneView) (xs ys : List (Act ℕ)) → Calls limits a b xs
    → Calls limits b c ys → IsPrefix (first_front a c) (first_front b c)

-- What a lane has seen after a call extends what it had seen before.
abbrev pub SeenGoesOn : Type 0
SeenGoesOn = (limits : Limits) (a b : LaneView) (acts : List (Act ℕ)) → Calls limits a b acts
    → IsPrefix (seen_by a) (seen_by b)

-- ---- points

-- If what the lane has seen after a call is legal, so are the points of the call.
abbrev pub PointsAreLegal : Type 0
PointsAreLegal = (limits : Limits) (a b : LaneView) (p : History) → IsLegal limits (seen_by b) → IsPoint a b p
    → IsLegal limits p

-- A call is answered at one of its points.
abbrev pub AnswerPointsArePoints : Type 0
AnswerPointsArePoints = (limits : Limits) (a b : LaneView) (acts : List (Act ℕ)) (p : History) → Calls limits a b acts
    → IsAnswerPoint a b acts p → IsPoint a b p

-- If the first call made no event, both may be answered wherever the second may.
abbrev pub LaterPointsServe : Type 0
LaterPointsServe =
    (limits : Limits) (a b c : LaneView) (acts : List (Act ℕ)) (p : History)
    → Calls limits a b [] → Calls limits b c acts → IsAnswerPoint b c acts p → IsAnswerPoint a c acts p

-- If neither call made an event and the first made a step, both may be answered wherever the first may.
abbrev pub EarlierPointsServe : Type 0
EarlierPointsServe =
    (limits : Limits) (a b c : LaneView) (p : History)
    → Calls limits a b [] → Calls limits b c [] → IsStepped a b → IsAnswerPoint a b [] p → IsAnswerPoint a c [] p

-- If one of two calls made a step, both together did.
abbrev pub StepsStay : Type 0
StepsStay = (limits : Limits) (a b c : LaneView) (xs ys : List (Act ℕ)) → Calls limits a b xs → Calls limits b c ys
    → IsStepped a b ⊎ IsStepped b c → IsStepped a c

-- A point of the second call is a point of both, after all events of the first.
abbrev pub PointsOfSecond : Type 0
PointsOfSecond =
    (limits : Limits) (a b c : LaneView) (xs ys zs : List (Act ℕ)) (p : History)
    → Calls limits a b xs → Calls limits b c zs → IsPointAfter b c ys p → IsPointAfter a c (xs ++ ys) p

-- A point of the first call is a point of both.
abbrev pub PointsOfFirst : Type 0
PointsOfFirst =
    (limits : Limits) (a b c : LaneView) (xs ys zs : List (Act ℕ)) (p : History)
    → Calls limits a b xs → Calls limits b c zs → IsPointAfter a b ys p → IsPointAfter a c ys p

-- A call is answered before its own events.
abbrev pub AnswersComeFirst : Type 0
AnswersComeFirst = (limits : Limits) (a b : LaneView) (acts : List (Act ℕ)) (p : History) → Calls limits a b acts
    → IsAnswerPoint a b acts p → IsPointAfter a b [] p

-- The last front of a call is the point after all its events.
abbrev pub SeenIsPoint : Type 0
SeenIsPoint = (limits : Limits) (a b : LaneView) (acts : List (Act ℕ)) → Calls limits a b acts
    → IsPointAfter a b acts (seen_by b)

-- ---- other lanes in the way

-- A call that was overtaken was crowded.
abbrev pub OvertakenIsCrowded : Type 0
OvertakenIsCrowded = (limits : Limits) (tries : ℕ) (a b : LaneView) → IsOvertaken limits tries a b → IsCrowded tries a b

-- A call that was crowded and made no event was overtaken.
abbrev pub QuietCrowdedIsOvertaken : Type 0
QuietCrowdedIsOvertaken = (limits : Limits) (tries : ℕ) (a b : LaneView) → Calls limits a b [] → IsCrowded tries a b
    → IsOvertaken limits tries a b

-- Two calls were crowded if the second was.
abbrev pub CrowdedBySecond : Type 0
CrowdedBySecond =
    (limits : Limits) (tries : ℕ) (a b c : LaneView) (xs ys : List (Act ℕ))
    → Calls limits a b xs → Calls limits b c ys → IsCrowded tries b c → IsCrowded tries a c

-- Two calls were crowded if the first was.
abbrev pub CrowdedByFirst : Type 0
CrowdedByFirst =
    (limits : Limits) (tries : ℕ) (a b c : LaneView) (xs ys : List (Act ℕ))
    → Calls limits a b xs → Calls limits b c ys → IsCrowded tries a b → IsCrowded tries a c

-- ---- what a lane knows of its own

-- A claim of the lane, and the cell's word, last as long as the lane's own calls make no event on the cell. What the
-- lane has seen after them has to be legal.
abbrev pub ClaimsAreHeld : Type 0
ClaimsAreHeld =
    (limits : Limits) (a b : LaneView) (acts : List (Act ℕ)) (cell : ℕ)
    → IsLegal limits (seen_by b) → Calls limits a b acts → All (λ act. is_on nat_eq cell act ≡ false) acts
    → IsHeld a cell → IsHeld b cell × (word_of (seen_by b) cell ≡ word_of (seen_by a) cell)

-- Whatever other lanes did meanwhile, a cell that the lane holds has the word that the lane last saw.
abbrev pub HeldWordsStay : Type 0
HeldWordsStay = (limits : Limits) (lane : LaneView) (cell : ℕ) (h : History) → GoesOn limits lane h → IsHeld lane cell
    → word_of h cell ≡ word_of (seen_by lane) cell

-- A lane may fill a cell that it holds with a number of its own.
abbrev pub HeldCellsMayBeFilled : Type 0
HeldCellsMayBeFilled =
    (limits : Limits) (lane : LaneView) (cell number : ℕ) (h : History)
    → GoesOn limits lane h → IsHeld lane cell → MayStoreNow lane number
    → IsAllowed limits h (by lane.number (Fill cell number))

-- If the store keeps faults, a lane may end its claim with a fault.
abbrev pub HeldCellsMayBeFailed : Type 0
HeldCellsMayBeFailed =
    (limits : Limits) (lane : LaneView) (cell number : ℕ) (h : History)
    → IsTrue limits.keep_faults → GoesOn limits lane h → IsHeld lane cell → MayStoreNow lane number
    → IsAllowed limits h (by lane.number (Fail cell number))

-- A lane may abandon a cell that it holds.
abbrev pub HeldCellsMayBeAbandoned : Type 0
HeldCellsMayBeAbandoned =
    (limits : Limits) (lane : LaneView) (cell : ℕ) (h : History)
    → GoesOn limits lane h → IsHeld lane cell → IsAllowed limits h (by lane.number (Abandon cell))

-- A number that the lane may store by what it has seen may still be stored, whatever other lanes did meanwhile.
abbrev pub OwnNumbersMayBeStored : Type 0
OwnNumbersMayBeStored =
    (limits : Limits) (lane : LaneView) (number : ℕ) (h : History)
    → GoesOn limits lane h → MayStoreNow lane number → MayStore lane.number number h
