-- What a run on several lanes has in common with a plain run: at some places the same stands in both, by what the numbers of each stand for.
-- Javadoc `ExtensionContext.Store`; numbers of keys and of values, kept faults and seals are own rules. Both runs number keys in the order in which steps first name them, and
-- values in the order in which they are kept. So neither numbers are the same in both.
use Rattle.std.specs.Prelude.{ℕ, ◌≡◌, ◌≤◌, Bool, true, if◌then◌else◌, List, length, Option, None, Some}
use Rattle.ext_model.specs.declared.slot.Slot.{Slot}
use Rattle.ext_model.specs.History.{History, IsQuiet, slots_in}
use Rattle.ext_tree.specs.Keys.{KeyValue, KnownPlace, AreKeyNotesOf, IsKeyNumber}
use Rattle.ext_plan.specs.StoreKeys.{is_there, number_of_key}
use Rattle.ext_plan.specs.Values.{ValueText}
use Rattle.ext_store.specs.Stores.{StoreView, cell_in}
use Rattle.ext_plan_plain.specs.ValueStates.{ValueState, value_of}
use Rattle.ext_one_report.proofs.StandingsWords.{Meaning, AreMatched, DoTheSame}
use Rattle.ext_model.specs.declared.event.Act.{Act}
use Rattle.ext_model.specs.Events.{apply, place_of}
use Rattle.ext_model.specs.Plain.{Place, same_place}

-- ---- a run on several lanes

-- what a number of a value stands for is its text and whether it is closeable, and what that of a kept fault does is its text
abbrev pub TextMeaning : Type 0
TextMeaning = Meaning ValueText (List ℕ)

-- What is so of a whole run on several lanes: its store, which number each key has in the end, and what each number stands for
pub record RunView : Type 0 where
  pub store : StoreView
  pub numbering : List KnownPlace
  pub meaning : TextMeaning

-- the numbers are those of the places for keys of the store
pub record IsRunView (run : RunView) : Type 0 where
  pub places : AreKeyNotesOf run.store.id.keys run.numbering

-- the number that a key has in the end
abbrev pub HasNumberIn : RunView → KeyValue → ℕ → Type 0
HasNumberIn run key number = IsKeyNumber run.numbering key number

-- the cell of a key with this number in a context
abbrev pub cell_of : RunView → ℕ → ℕ → ℕ
cell_of run number context = cell_in run.store number context

-- ---- a plain run

abbrev pub text_of : Option ValueText → Option (List ℕ)
text_of None = None
text_of (Some value) = Some value.text

-- the texts of kept faults stand among its values
abbrev pub plain_meaning : List ValueText → TextMeaning
plain_meaning values = record { values = λ number. value_of values number; faults = λ number. text_of (value_of values number) }

-- what stands in a context under a key: nothing, where the key has no number yet
abbrev pub plain_slot : ValueState → ℕ → KeyValue → Option Slot
plain_slot s context key = if is_there s.keys key then s.store.slots (context, number_of_key s.keys key) else None

-- ---- both

-- some of the places, each a context and a key
abbrev pub Places : Type 0
Places = ℕ → KeyValue → Bool

-- In a context of one of the places nothing stands under a number that no key has, and each number that was drawn is that of a value. Of a context that has ended the first
-- is not so: all of its places are sealed
pub record IsNumbered (places : Places) (s : ValueState) : Type 0 where
  pub beyond : (context : ℕ) (key : KeyValue) (number : ℕ) → places context key ≡ true → length s.keys ≤ number → s.store.slots (context, number) ≡ None
  pub drawn : s.store.drawn ≡ length s.values

-- At each of the places the same stands after this history and in this state of a plain run. Under a key that gets no number on several lanes nothing stands there.
-- Two lanes put x and y into two contexts under one key. Where they draw 2 and 1, and the plain run 1 and 2, this holds of both places. It holds no more of the first once
-- another put of y comes over x there, in one of both runs alone
pub record Matches (run : RunView) (places : Places) (h : History) (s : ValueState) : Type 0 where
  pub slots : (context : ℕ) (key : KeyValue) (number : ℕ) → places context key ≡ true → HasNumberIn run key number
      → AreMatched run.meaning (plain_meaning s.values) (slots_in (cell_of run number) h context) (plain_slot s context key)
  pub unnumbered : (context : ℕ) (key : KeyValue) → places context key ≡ true → ((number : ℕ) → ¬ HasNumberIn run key number) → plain_slot s context key ≡ None

-- none of these events is at one of the places
pub record AreNotAt (run : RunView) (places : Places) (events : History) : Type 0 where
  pub quiet : (context : ℕ) (key : KeyValue) (number : ℕ) → places context key ≡ true → HasNumberIn run key number → IsQuiet (cell_of run number context) events

-- ---- events

-- the state of a plain run, after an event
abbrev pub after_event : ℕ → Act Place → ValueState → ValueState
after_event lane act s = record s { store = apply same_place s.store (record { lane = lane; act = act }) }

-- an event in a context under a key, and one in the plain run that does the same in that context under that key
pub record AreEqualEvents (run : RunView) (s : ValueState) (act : Act ℕ) (other : Act Place) : Type 0 where
  pub context : ℕ
  pub key : KeyValue
  pub number : ℕ
  pub numbered : HasNumberIn run key number
  pub at_cell : place_of act ≡ Some (cell_of run number context)
  pub there : is_there s.keys key ≡ true
  pub at_place : place_of other ≡ Some (context, number_of_key s.keys key)
  pub same : DoTheSame run.meaning (plain_meaning s.values) act other
