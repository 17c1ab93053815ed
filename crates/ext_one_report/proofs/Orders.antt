-- In which order values with numbers stand, in a run on several lanes and in the plain run: from one moment to a later one both runs keep the same of what stood, and of two new values whose closes fail with different
-- texts both give the greater number to the same.
-- Javadoc `ExtensionContext.Store.CloseableResource`; a close that fails and its text are own rules of [ext_plan Values].
use Rattle.std.specs.Prelude.{ℕ, ◌≡◌, ◌≢◌, ◌<◌, ◌≤◌, ◌⊎◌, true, codes, None, Some}
use Rattle.ext_model.specs.History.{History, slots_in, state_after}
use Rattle.ext_tree.specs.Keys.{KeyValue}
use Rattle.ext_plan.specs.Values.{ValueText, begins_with}
use Rattle.ext_plan_plain.specs.ValueStates.{ValueState}
use Rattle.ext_one_report.proofs.MatchingWords.{HasNumberIn, Places, RunView, cell_of, plain_slot}
use Rattle.ext_one_report.proofs.OfPlan.{value_in}

-- the close of the value fails
pub record Fails (value : ValueText) : Type 0 where
  pub closes : value.closeable ≡ true
  pub bad : begins_with (codes "bad") value.text ≡ true

-- values of these numbers stand at the place, or are kept there by its seal: one on the lanes, and one in the plain run
pub record StandWith (run : RunView) (context : ℕ) (key : KeyValue) (g : History) (s : ValueState) (a b : ℕ) : Type 0 where
  pub number : ℕ
  pub has : HasNumberIn run key number
  pub lanes : value_in (slots_in (cell_of run number) g context) ≡ Some a
  pub plain : value_in (plain_slot s context key) ≡ Some b

-- how many numbers have been drawn after these events
abbrev pub drawn_in : History → ℕ
drawn_in g = (state_after g).drawn

-- both numbers were drawn later than these moments
abbrev pub AreNew : History → ValueState → ℕ → ℕ → Type 0
AreNew g s a b = (drawn_in g < a) × (s.store.drawn < b)

-- From one moment of the lanes and of the plain run to a later one of each, at these places
pub record Orders (run : RunView) (places : Places) (g h : History) (s t : ValueState) : Type 0 where
  -- a value whose close fails stood there in both before, with the same numbers, or is new in both
  pub each : (context : ℕ) (key : KeyValue) (a b : ℕ) (v : ValueText) → places context key ≡ true → StandWith run context key h t a b → run.meaning.values a ≡ Some v → Fails v
      → StandWith run context key g s a b ⊎ AreNew g s a b
  -- of two such values in one context that are new and have different texts, the same is later in both
  pub pairs : (context : ℕ) (key other : KeyValue) (a b c d : ℕ) (v w : ValueText) → places context key ≡ true → places context other ≡ true
      → StandWith run context key h t a b → StandWith run context other h t c d → run.meaning.values a ≡ Some v → run.meaning.values c ≡ Some w → Fails v → Fails w → v.text ≢ w.text
      → AreNew g s a b → AreNew g s c d → a < c → b < d

-- In this context of two such values with different texts the same is later in both
pub record AreInOrder (run : RunView) (context : ℕ) (h : History) (t : ValueState) : Type 0 where
  pub order : (key other : KeyValue) (a b c d : ℕ) (v w : ValueText) → StandWith run context key h t a b → StandWith run context other h t c d
      → run.meaning.values a ≡ Some v → run.meaning.values c ≡ Some w → Fails v → Fails w → v.text ≢ w.text → a < c → b < d

-- ---- laws

-- numbers of values that stand at these places have been drawn
pub record HaveDrawn (run : RunView) (places : Places) (h : History) (t : ValueState) : Type 0 where
  pub drew : (context : ℕ) (key : KeyValue) (a b : ℕ) (v : ValueText) → places context key ≡ true → StandWith run context key h t a b → run.meaning.values a ≡ Some v → (a ≤ drawn_in h) × (b ≤ t.store.drawn)

-- one part after another
abbrev pub OrdersThen : Type 0
OrdersThen =
    (run : RunView) (places : Places) (g h k : History) (s t u : ValueState) → drawn_in g ≤ drawn_in h → s.store.drawn ≤ t.store.drawn → HaveDrawn run places h t → Orders run places g h s t → Orders run places h k t u
    → Orders run places g k s u

-- at fewer places
abbrev pub OrdersFewer : Type 0
OrdersFewer = (run : RunView) (places fewer : Places) (g h : History) (s t : ValueState) → ((context : ℕ) (key : KeyValue) → fewer context key ≡ true → places context key ≡ true)
    → Orders run places g h s t → Orders run fewer g h s t

-- where the same stands as before
abbrev pub OrdersSame : Type 0
OrdersSame =
    (run : RunView) (places : Places) (g h : History) (s t : ValueState) → HaveDrawn run places g s
    → ((context : ℕ) (key : KeyValue) (number : ℕ) → places context key ≡ true → HasNumberIn run key number → slots_in (cell_of run number) h context ≡ slots_in (cell_of run number) g context)
    → ((context : ℕ) (key : KeyValue) → places context key ≡ true → plain_slot t context key ≡ plain_slot s context key) → Orders run places g h s t

-- where one place alone has something new
abbrev pub OrdersOne : Type 0
OrdersOne =
    (run : RunView) (places : Places) (g h : History) (s t : ValueState) (at : ℕ) (here : KeyValue)
    → ((context : ℕ) (key : KeyValue) (a b : ℕ) (v : ValueText) → places context key ≡ true → StandWith run context key h t a b → run.meaning.values a ≡ Some v → Fails v
    → StandWith run context key g s a b ⊎ (AreNew g s a b × (context ≡ at) × (key ≡ here)))
    → HaveDrawn run places g s → Orders run places g h s t

-- where nothing stood before in the plain run, all that stands is in order
abbrev pub OrdersFresh : Type 0
OrdersFresh =
    (run : RunView) (places : Places) (g h : History) (s t : ValueState) (context : ℕ) → ((key : KeyValue) → plain_slot s context key ≡ None) → ((key : KeyValue) → places context key ≡ true) → Orders run places g h s t
    → AreInOrder run context h t
