-- Worked histories: what the definitions say of short lists of events, each computed from the definitions
-- (`worked_histories`).
-- JUnit 5 User Guide, "Keeping State in Extensions", has values that are replaced, removed and found from descendants;
-- the rest is not from JUnit.
-- Contexts 0, 1 and 2 are a root, its child and its grandchild; keys are 0, 1 and 2. The cell of a context and a key is
-- context * 3 + key.
use Rattle.std.specs.Prelude.{ℕ, ◌≡◌, ◌+◌, ◌*◌, ◌-◌, ◌^◌, true, [], ◌∷◌, ◌++◌, None, Some}
use Rattle.ext_model.specs.declared.event.Act.{Act}
use Rattle.ext_model.specs.declared.event.Act.TheVariants.{Keep, Put, Remove, Claim, Fill, Fail, Abandon, Seal}
use Rattle.ext_model.specs.declared.look.Look.{Look}
use Rattle.ext_model.specs.declared.look.Look.TheVariants as look
use Rattle.ext_model.specs.declared.slot.Slot.TheVariants.{Entry, Fault, Sealed}
use Rattle.ext_model.specs.Events.{Reply, Happens, Answers, Refuses, NumbersFull, Busy, Closed, Standing, FaultStanding, Exhausted, Barred, put_reply, claim_reply, is_worn, is_worn_for_claim}
use Rattle.ext_model.specs.History.{History, Limits, by, own, slots_in, reply_after}
use Rattle.ext_model.specs.CellWords.{slot_word, word_of}
use Rattle.ext_model.specs.Closing.{remaining}
use Rattle.ext_model.specs.CallActs.{look_after}

abbrev pub small : Limits
small = record { cells = 9; lanes = 2; numbers = 4; keep_faults = true }

abbrev pub answered : History → ℕ → Act ℕ → Reply
answered h lane act = reply_after small h lane act

-- A look-up from context 2 under key 0.
abbrev pub looks : History → Look
looks h = look_after (λ context. context * 3) (2 ∷ 1 ∷ 0 ∷ []) h

-- ---- values

-- Value 1 stands at the root under key 0.
abbrev pub at_root : History
at_root = by 0 (Keep 1) ∷ by 0 (Put 0 1) ∷ []

abbrev pub FoundFromBelow : Type 0
FoundFromBelow = looks at_root ≡ look.Found 0 1

-- A remove in context 1 doesn't reach the root, and is no event.
abbrev pub RemovedNothing : Type 0
RemovedNothing = answered at_root 0 (Remove 3) ≡ Answers None

-- A put answers the value that it replaces.
abbrev pub Replaced : Type 0
Replaced = answered (at_root ++ by 1 (Keep 2) ∷ []) 1 (Put 0 2) ≡ Happens (Some 1)

-- The word has the new number and version 2. After a remove it has only version 3.
abbrev pub ReplacedWord : Type 0
ReplacedWord = word_of (at_root ++ by 1 (Keep 2) ∷ by 1 (Put 0 2) ∷ []) 0 ≡ 2 * 2 ^ 24 + 2 * 16 + 2

abbrev pub RemovedWord : Type 0
RemovedWord = word_of (at_root ++ by 1 (Keep 2) ∷ by 1 (Put 0 2) ∷ by 0 (Remove 0) ∷ []) 0 ≡ 3 * 2 ^ 24

-- ---- claims

-- Lane 0 claims context 1 under key 0, and lane 1 draws a number.
abbrev pub held : History
held = by 0 (Claim 3) ∷ by 1 (Keep 1) ∷ []

abbrev pub HeldHides : Type 0
HeldHides = looks (at_root ++ by 0 (Claim 3) ∷ []) ≡ look.Busy 1

abbrev pub HeldIsBusy : Type 0
HeldIsBusy = answered held 1 (Put 3 1) ≡ Refuses Busy

abbrev pub HeldIsNotFilledByOthers : Type 0
HeldIsNotFilledByOthers = answered held 1 (Fill 3 1) ≡ Refuses Barred

abbrev pub HeldIsNotSealed : Type 0
HeldIsNotSealed = answered held 1 (Seal 3) ≡ Refuses Busy

-- Lane 0 fills its claim with number 2, or abandons it.
abbrev pub filled : History
filled = held ++ by 0 (Keep 2) ∷ by 0 (Fill 3 2) ∷ []

abbrev pub FilledStands : Type 0
FilledStands = answered filled 1 (Claim 3) ≡ Refuses (Standing 2)

abbrev pub AbandonedIsEmpty : Type 0
AbandonedIsEmpty = word_of (held ++ by 0 (Abandon 3) ∷ []) 3 ≡ 2 * 2 ^ 24

abbrev pub OwnEvents : Type 0
OwnEvents = own 0 filled ≡ by 0 (Claim 3) ∷ by 0 (Keep 2) ∷ by 0 (Fill 3 2) ∷ []

-- ---- kept faults

-- The factory of lane 0 failed, and its fault is kept as number 2.
abbrev pub failed : History
failed = held ++ by 0 (Keep 2) ∷ by 0 (Fail 3 2) ∷ []

abbrev pub FailedIsMet : Type 0
FailedIsMet = looks failed ≡ look.Fault 1 2

abbrev pub FailedStands : Type 0
FailedStands = answered failed 1 (Claim 3) ≡ Refuses (FaultStanding 2)

-- A put and a remove answer the fault's number.
abbrev pub FailedIsReplaced : Type 0
FailedIsReplaced = answered failed 1 (Put 3 1) ≡ Happens (Some 2)

abbrev pub FailedIsRemoved : Type 0
FailedIsRemoved = answered failed 1 (Remove 3) ≡ Happens (Some 2)

-- A seal keeps no number for a fault.
abbrev pub FailedIsPassed : Type 0
FailedIsPassed = answered failed 1 (Seal 3) ≡ Happens None

-- A context with a fault under key 0 and a value under key 1 keeps only the value.
abbrev pub RemainingPassesFault : Type 0
RemainingPassesFault =
    remaining (slots_in (λ key. 3 + key)
    (failed ++ by 1 (Put 4 1) ∷ by 1 (Seal 3) ∷ by 1 (Seal 4) ∷ by 1 (Seal 5) ∷ [])) 3 ≡ 1 ∷ []

-- ---- seals: context 2 has values 1, 2 and 3 under its keys, 4 replaces 2, and all three keys are sealed

abbrev pub closed : History
closed =
    by 0 (Keep 1) ∷ by 0 (Keep 2) ∷ by 0 (Keep 3) ∷ by 0 (Keep 4) ∷ by 0 (Put 6 1) ∷ by 0 (Put 7 2) ∷ by 0 (Put 8 3)
    ∷ by 0 (Put 7 4)
    ∷ by 0 (Seal 6) ∷ by 0 (Seal 7) ∷ by 0 (Seal 8) ∷ []

abbrev pub RemainingFalls : Type 0
RemainingFalls = remaining (slots_in (λ key. 2 * 3 + key) closed) 3 ≡ 4 ∷ 3 ∷ 1 ∷ []

abbrev pub SealedIsClosed : Type 0
SealedIsClosed = answered closed 0 (Put 6 1) ≡ Refuses Closed

abbrev pub SealedAgain : Type 0
SealedAgain = answered closed 1 (Seal 7) ≡ Answers (Some 4)

abbrev pub ClosedHides : Type 0
ClosedHides = looks closed ≡ look.Closed 2

abbrev pub NumbersRunOut : Type 0
NumbersRunOut = answered closed 0 (Keep 5) ≡ Refuses NumbersFull

-- ---- words and versions at their limits

abbrev pub PresentWord : Type 0
PresentWord = slot_word (Some (Entry 5)) 3 ≡ 50331730

abbrev pub FailedWord : Type 0
FailedWord = slot_word (Some (Fault 5)) 3 ≡ 50331732

abbrev pub SealedWord : Type 0
SealedWord = slot_word (Some (Sealed None)) 4 ≡ 67108867

abbrev pub EmptyWord : Type 0
EmptyWord = slot_word None 4 ≡ 67108864

abbrev pub LastPut : Type 0
LastPut = put_reply (is_worn (2 ^ 40 - 3)) None ≡ Happens None

abbrev pub NoClaimAtLastPut : Type 0
NoClaimAtLastPut = claim_reply (is_worn_for_claim (2 ^ 40 - 3)) None ≡ Refuses Exhausted

abbrev pub NoPutAfterLast : Type 0
NoPutAfterLast = put_reply (is_worn (2 ^ 40 - 2)) (Some (Entry 5)) ≡ Refuses Exhausted
