-- Worked histories: which are legal, and at which points a call may be answered (`worked_histories`). The store is that
-- of `Worked`: 9 cells, 2 lanes and 4 numbers.
use Rattle.std.specs.Prelude.{◌≡◌, ◌*◌, false, [], ◌∷◌, ◌++◌, None}
use Rattle.ext_model.specs.declared.event.Act.TheVariants.{Keep, Put, Remove, Claim, Fill, Fail, Abandon}
use Rattle.ext_model.specs.declared.look.Look.TheVariants as look
use Rattle.ext_model.specs.Events.{Happens, Answers}
use Rattle.ext_model.specs.History.{History, Limits, by, reply_after, IsLegal}
use Rattle.ext_history.specs.Histories.{seen_by, call_fronts}
use Rattle.ext_model.specs.CallActs.{LaneView, IsAnswerPoint, HoldsAtPoint, IsOvertaken, IsCrowded, LooksAgain}
use Rattle.ext_model.specs.Worked.{small, at_root}

-- ---- lanes

-- Lane 1 had seen the number drawn, and its call then saw the put.
abbrev pub before_call : LaneView
before_call = record { number = 1; fronts = (by 0 (Keep 1) ∷ []) ∷ [] }

abbrev pub after_call : LaneView
after_call = record { number = 1; fronts = (by 0 (Keep 1) ∷ []) ∷ at_root ∷ [] }

abbrev pub CallHasOneFront : Type 0
CallHasOneFront = call_fronts before_call after_call ≡ at_root ∷ []

abbrev pub AnsweredNow : Type 0
AnsweredNow = IsAnswerPoint before_call after_call [] at_root

-- What was seen before the call is no answer of it.
abbrev pub NotFromMemory : Type 0
NotFromMemory = ¬ (IsAnswerPoint before_call after_call [] (seen_by before_call))

-- Another call of the lane made one more step, before the put. It may be answered before or after the put.
abbrev pub after_two_steps : LaneView
after_two_steps = record { number = 1; fronts = (by 0 (Keep 1) ∷ []) ∷ (by 0 (Keep 1) ∷ []) ∷ at_root ∷ [] }

abbrev pub TwoFronts : Type 0
TwoFronts = call_fronts before_call after_two_steps ≡ (by 0 (Keep 1) ∷ []) ∷ at_root ∷ []

abbrev pub EitherPoint : Type 0
EitherPoint = IsAnswerPoint before_call after_two_steps [] (by 0 (Keep 1) ∷ [])
    × IsAnswerPoint before_call after_two_steps [] at_root

-- One event of another lane came after its first front, not two.
abbrev pub OvertakenByOne : Type 0
OvertakenByOne = IsOvertaken small 1 before_call after_two_steps

abbrev pub NotOvertakenByTwo : Type 0
NotOvertakenByTwo = ¬ (IsOvertaken small 2 before_call after_two_steps)

-- What happened before the call's first step doesn't count.
abbrev pub NotOvertakenByLagging : Type 0
NotOvertakenByLagging = ¬ (IsOvertaken small 1 before_call after_call)

-- Nor do the lane's own events: between the call's steps it claimed a cell and abandoned it.
abbrev pub after_own_events : LaneView
after_own_events = record {
  number = 1;
  fronts = (by 0 (Keep 1) ∷ []) ∷ (by 0 (Keep 1) ∷ []) ∷ (by 0 (Keep 1) ∷ by 1 (Claim 3) ∷ [])
      ∷ (by 0 (Keep 1) ∷ by 1 (Claim 3) ∷ by 1 (Abandon 3) ∷ []) ∷ [];
}

abbrev pub NotCrowdedByItself : Type 0
NotCrowdedByItself = ¬ (IsCrowded 1 before_call after_own_events)

-- The call may answer that a remove in context 1 finds nothing, which is no event.
abbrev pub RemoveAnswered : Type 0
RemoveAnswered = HoldsAtPoint small before_call after_call [] (λ p. reply_after small p 1 (Remove 3) ≡ Answers None)

-- The put was a call of lane 0, answered directly before its event.
abbrev pub PutAnswered : Type 0
PutAnswered =
    HoldsAtPoint small (record { number = 0; fronts = (by 0 (Keep 1) ∷ []) ∷ [] })
    (record { number = 0; fronts = (by 0 (Keep 1) ∷ []) ∷ at_root ∷ [] }) (Put 0 1 ∷ [])
    (λ p. reply_after small p 0 (Put 0 1) ≡ Happens None)

-- A call that made no step has no answer.
abbrev pub NoAnswerWithoutStep : Type 0
NoAnswerWithoutStep = ¬ (HoldsAtPoint small before_call before_call [] (λ p. Unit {0}))

-- ---- a second look: lane 0 claims, lane 1 then puts a value at the root, lane 0 looks again, finds it and abandons

abbrev pub meanwhile : History
meanwhile = by 0 (Claim 3) ∷ by 1 (Keep 1) ∷ by 1 (Put 0 1) ∷ []

abbrev pub SecondLookFinds : Type 0
SecondLookFinds =
    LooksAgain (λ context. context * 3) (0 ∷ []) (record { number = 0; fronts = [] })
    (record { number = 0; fronts = (by 0 (Claim 3) ∷ []) ∷ meanwhile ∷ (meanwhile ++ by 0 (Abandon 3) ∷ []) ∷ [] })
    (Claim 3 ∷ []) (look.Found 0 1)

-- ---- legal or not

-- Six events of two lanes on two cells.
abbrev pub six_events : History
six_events = at_root ++ by 1 (Keep 2) ∷ by 1 (Put 0 2) ∷ by 0 (Claim 3) ∷ by 0 (Remove 0) ∷ []

abbrev pub SixAreLegal : Type 0
SixAreLegal = IsLegal small six_events

abbrev pub RootIsLegal : Type 0
RootIsLegal = IsLegal small at_root

-- The number is drawn by a third lane.
abbrev pub NotByAnotherLane : Type 0
NotByAnotherLane = ¬ (IsLegal small (by 2 (Keep 1) ∷ []))

-- The lane that stores the number didn't draw it.
abbrev pub NotWithAnothersNumber : Type 0
NotWithAnothersNumber = ¬ (IsLegal small (by 0 (Keep 1) ∷ by 1 (Put 0 1) ∷ []))

-- The number is stored twice.
abbrev pub NotTwice : Type 0
NotTwice = ¬ (IsLegal small (at_root ++ by 0 (Put 1 1) ∷ []))

-- A fault is kept. In a store that keeps none this is not legal.
abbrev pub kept_fault : History
kept_fault = by 0 (Claim 3) ∷ by 0 (Keep 1) ∷ by 0 (Fail 3 1) ∷ []

abbrev pub KeptFaultIsLegal : Type 0
KeptFaultIsLegal = IsLegal small kept_fault

abbrev pub without_faults : Limits
without_faults = record { cells = 9; lanes = 2; numbers = 4; keep_faults = false }

abbrev pub NotWithoutKeeping : Type 0
NotWithoutKeeping = ¬ (IsLegal without_faults kept_fault)

-- A fill without a claim.
abbrev pub NotWithoutClaim : Type 0
NotWithoutClaim = ¬ (IsLegal small (by 0 (Keep 1) ∷ by 0 (Fill 3 1) ∷ []))
