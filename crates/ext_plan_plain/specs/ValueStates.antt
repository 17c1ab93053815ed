-- The store of a run, its keys and the values of its numbers, and what an act does to it: Javadoc
-- `NamespacedHierarchicalStore` for one thread. That keys and values are seen by numbers is not from JUnit.
use Rattle.std.specs.Prelude.{ℕ, Bool, zero, suc, ◌+◌, List, [], ◌∷◌, ◌++◌, length, nat_lt, Option, Some, None, slice_get, if◌then◌else◌}
use Rattle.ext_model.specs.declared.event.Act.{Act}
use Rattle.ext_model.specs.declared.event.Act.TheVariants.{Keep}
use Rattle.ext_model.specs.State.{State, opening}
use Rattle.ext_model.specs.Events.{Reply, Happens, Answers, Refuses, Refusal, NumbersFull, Busy, Closed, Standing, FaultStanding, Exhausted, Barred}
use Rattle.ext_model.specs.Plain.{Place, any_lane, plain_reply, next_state}
use Rattle.ext_tree.specs.Keys.{KeyValue}
use Rattle.ext_plan.specs.StoreKeys.{is_there, number_of_key}
use Rattle.ext_plan.specs.declared.reason.Reason.{Reason}
use Rattle.ext_plan.specs.declared.reason.Reason.TheVariants as reasons
use Rattle.ext_plan.specs.Values.{ValueText}

-- What a step finds of the memory that it asks for: enough, or none for one of these: a key that is made for it, a
-- value that it keeps, the number of a new key, a place of the store, or the words of its fault.
pub data Memory : Type 0 where
  enough : Memory
  no_key : Memory
  no_value : Memory
  no_number : Memory
  no_place : Memory
  no_words : Memory

-- The store of a run: whether it keeps faults; how many keys can have numbers; how many numbers it draws at most; its
-- state; the keys that have a number, in the order in which steps first named them, each key's place being its number;
-- the kept values, from number 1 on, and among them the text of each kept fault, as a value that isn't closeable; and
-- what the next steps find of memory, in the order in which they are made. Steps past the end of that list find enough.
pub record ValueState : Type 0 where
  pub keep_faults : Bool
  pub places : ℕ
  pub numbers : ℕ
  pub store : State Place
  pub keys : List KeyValue
  pub values : List ValueText
  pub memory : List Memory

-- ---- an act on the store

-- The newly opened store, which keeps faults or not, with this many places for keys and this many numbers.
abbrev pub value_opening : Bool → ℕ → ℕ → ValueState
value_opening keeps places numbers =
    record {
      keep_faults = keeps;
      places = places;
      numbers = numbers;
      store = opening;
      keys = [];
      values = [];
      memory = [];
    }

-- The same store, whose next steps find this of memory.
abbrev pub with_memory : List Memory → ValueState → ValueState
with_memory memory s = record s { memory = memory }

-- What the next step finds.
abbrev pub next_found : List Memory → Memory
next_found [] = enough
next_found (found ∷ more) = found

-- What the steps after it find.
abbrev pub found_later : List Memory → List Memory
found_later [] = []
found_later (found ∷ more) = more

-- What the store answers to an act.
abbrev pub reply_to : Act Place → ValueState → Reply
reply_to act s = plain_reply s.numbers s.store any_lane act

-- The store after an act, whether the act is an event or refused.
abbrev pub after_act : Act Place → ValueState → ValueState
after_act act s = record s { store = next_state s.numbers s.store any_lane act }

-- Why a step's call of the store was refused. In a plain run only the first reason comes: a step acts on contexts that
-- are not sealed yet, a claim follows a look-up that found nothing, and between two steps one thread has no claims, and
-- no versions that could run out.
abbrev pub reason : Refusal → Reason
reason NumbersFull = reasons.NumbersFull
reason Busy = reasons.Busy
reason Closed = reasons.Closed
reason (Standing number) = reasons.Busy
reason (FaultStanding number) = reasons.Busy
reason Exhausted = reasons.Exhausted
reason Barred = reasons.Busy

-- Why an act is refused, if it is.
abbrev pub refusal : Reply → Option Reason
refusal (Happens answer) = None
refusal (Answers answer) = None
refusal (Refuses why) = Some (reason why)

abbrev pub why_refused : Act Place → ValueState → Option Reason
why_refused act s = refusal (reply_to act s)

-- Draws the next number.
abbrev pub next_number : ValueState → Act Place
next_number s = Keep (s.store.drawn + 1)

-- A value is kept under the number that is drawn for it.
abbrev pub keep_value : ValueText → ValueState → ValueState
keep_value value s = record s
    { store = next_state s.numbers s.store any_lane (next_number s); values = s.values ++ value ∷ [] }

-- The value of a number; numbers count from 1.
abbrev pub value_of : List ValueText → ℕ → Option ValueText
value_of values zero = None
value_of values (suc n) = slice_get values n

-- ---- the number of a key

-- What a key has that a step names: a number; the next number, which it gets; or none, because all numbers, as many as
-- there are places, belong to other keys.
pub data Numbering : Type 0 where
  known : ℕ → Numbering
  next : ℕ → Numbering
  full : Numbering

abbrev pub numbering_of : ℕ → List KeyValue → KeyValue → Numbering
numbering_of places keys key = if is_there keys key then known (number_of_key keys key)
    else if nat_lt (length keys) places then next (length keys) else full

-- The key gets the next number.
abbrev pub with_number : KeyValue → ValueState → ValueState
with_number key s = record s { keys = s.keys ++ key ∷ [] }
