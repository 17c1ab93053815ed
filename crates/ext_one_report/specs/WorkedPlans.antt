-- Worked plans: which plans keep apart, share values and have closes that agree, and which do not, with a class and two
-- tests, or two such classes. Each sentence is proved by `worked_plans`, most of them by computing (JUnit 5 User
-- Guide, "Parallel Execution"). The table in docs/PLANS.md, 'Races', has such plans. Context 0 is the root `[e:x]`, 1 the
-- class `[c:A]`, and 2 and 3 are its tests `[t:m]` and `[t:n]`. A step that ends with 1 acts one context up: a test's
-- step on the class, and a class's on the root.
use Rattle.std.specs.Prelude.{ℕ, ◌≤◌, All, Bool, codes, false, List, [], ◌∷◌, ◌++◌, length, Some, None, ◌≡◌, ◌≢◌}
use Rattle.ext_lifecycle.specs.declared.mode.Mode.{Mode}
use Rattle.ext_lifecycle.specs.declared.mode.Mode.TheVariants as modes
use Rattle.ext_model.specs.Sizes.{most_numbers}
use Rattle.ext_model.specs.declared.size.Size.TheVariants as sizes
use Rattle.ext_tree.specs.Trees.{Id}
use Rattle.ext_plan.specs.declared.word.Word.TheVariants as words
use Rattle.ext_plan.specs.Plans.{NodeText, PlanText, StepKeyText, StepText, named, keyed}
use Rattle.ext_plan.specs.ReadPlans.{IsReadPlan, NamesLabelBelow, StayOnPath}
use Rattle.ext_plan.specs.Steps.{step_limit}
use Rattle.ext_races.specs.declared.race.Race.{Race}
use Rattle.ext_races.specs.Beside.{IsBeside}
use Rattle.ext_races.specs.Races.{IsRace}
use Rattle.ext_races.specs.Touches.{keys_named, numbers_drawn}
use Rattle.ext_races.specs.OneReports.{ClosesAgreeBeside, KeepsApart, SharesValues}
use Rattle.ext_plan.specs.StoreKeys.{key_of_step}
use Rattle.ext_one_report.specs.Shares.{shares_in}

abbrev pub root_id : Id
root_id = (codes "e", codes "x") ∷ []

abbrev pub class_id : Id
class_id = root_id ++ (codes "c", codes "A") ∷ []

-- A container with these callbacks before all its children.
abbrev pub container : Id → List (List StepText) → NodeText
container id before_all = record {
  id = id;
  mode = modes.SameThread;
  isolated = false;
  locks = [];
  before_all = before_all;
  after_all = [];
  before_each = [];
  after_each = [];
  test = None;
}

-- A test of the class, by its name.
abbrev pub test_of_class : Mode → List ℕ → List StepText → NodeText
test_of_class mode name steps = record {
  id = class_id ++ (codes "t", name) ∷ [];
  mode = mode;
  isolated = false;
  locks = [];
  before_all = [];
  after_all = [];
  before_each = [];
  after_each = [];
  test = Some steps;
}

-- A class that makes these steps before all, with two tests that run in this mode and make these.
abbrev pub tests_of_mode : Mode → List StepText → List StepText → List StepText → PlanText
tests_of_mode mode before first second = record {
  keep_faults = false;
  key_places = 64;
  size = sizes.Usual;
  keys = [];
  nodes = container root_id [] ∷ container class_id (before ∷ []) ∷ test_of_class mode (codes "m") first
      ∷ test_of_class mode (codes "n") second ∷ [];
}

-- The same with concurrent tests.
abbrev pub two_tests : List StepText → List StepText → List StepText → PlanText
two_tests before first second = tests_of_mode modes.Concurrent before first second

-- The two tests may run beside one another, whatever they do.
abbrev pub TestsAreBeside : Type 0
TestsAreBeside = (before first second : List StepText) → IsBeside (two_tests before first second) 2 3

-- Two keys.
abbrev pub a : StepKeyText
a = named (codes "a")

abbrev pub b : StepKeyText
b = named (codes "b")

-- Tests that put into their own contexts keep apart, whatever they put.
abbrev pub OwnPutsKeepApart : Type 0
OwnPutsKeepApart = (text other : List ℕ)
    → KeepsApart (two_tests [] (keyed words.Put a text 0 ∷ []) (keyed words.Put a other 0 ∷ []))

-- Tests that look at a value that the class put before all keep apart.
abbrev pub LooksKeepApart : Type 0
LooksKeepApart = (text wanted other : List ℕ)
    → KeepsApart (two_tests (keyed words.Put a text 0 ∷ []) (keyed words.Want a wanted 0 ∷ [])
    (keyed words.Want a other 0 ∷ []))

-- So do tests that look at one that it computed there.
abbrev pub LooksBelowKeepApart : Type 0
LooksBelowKeepApart = (text wanted other : List ℕ)
    → KeepsApart (two_tests (keyed words.Compute a text 0 ∷ []) (keyed words.Want a wanted 0 ∷ [])
    (keyed words.Want a other 0 ∷ []))

-- Tests that put under two keys into the class's context keep apart.
abbrev pub TwoKeysKeepApart : Type 0
TwoKeysKeepApart = (text other : List ℕ)
    → KeepsApart (two_tests [] (keyed words.Put a text 1 ∷ []) (keyed words.Put b other 1 ∷ []))

-- Tests that run one after the other keep apart, whatever they do.
abbrev pub OneByOneKeepsApart : Type 0
OneByOneKeepsApart = (before first second : List StepText)
    → KeepsApart (tests_of_mode modes.SameThread before first second)

-- Tests that both put into the class's context do not keep apart, even with one text.
abbrev pub PutsAboveDoNot : Type 0
PutsAboveDoNot = (text other : List ℕ)
    → ¬ KeepsApart (two_tests [] (keyed words.Put a text 1 ∷ []) (keyed words.Put a other 1 ∷ []))

-- Nor do a test that looks up and one that puts there.
abbrev pub LookAndPutDoNot : Type 0
LookAndPutDoNot = (wanted text : List ℕ)
    → ¬ KeepsApart (two_tests [] (keyed words.Want a wanted 0 ∷ []) (keyed words.Put a text 1 ∷ []))

-- Two tests that compute the same in the class's context.
abbrev pub computing : List ℕ → PlanText
computing text = two_tests [] (keyed words.Compute a text 1 ∷ []) (keyed words.Compute a text 1 ∷ [])

-- They are no race, as either may run its factory.
abbrev pub ComputesAreNoRace : Type 0
ComputesAreNoRace = (text : List ℕ) (race : Race) → ¬ IsRace (computing text) race

-- A test that computes what the class has computed before all finds it, so one that looks it up keeps apart from it.
abbrev pub FoundKeepsApart : Type 0
FoundKeepsApart = (text wanted : List ℕ)
    → KeepsApart (two_tests (keyed words.Compute a text 0 ∷ []) (keyed words.Compute a text 1 ∷ [])
    (keyed words.Want a wanted 0 ∷ []))

-- But two tests that compute the same do not.
abbrev pub ComputesDoNot : Type 0
ComputesDoNot = (text : List ℕ) → ¬ KeepsApart (computing text)

-- Two tests whose factories fail in the class's context with these texts, in a store that keeps faults or does not.
abbrev pub failing : Bool → List ℕ → List ℕ → PlanText
failing keep first second = record (two_tests [] (keyed words.ComputeFail a first 1 ∷ [])
    (keyed words.ComputeFail a second 1 ∷ [])) { keep_faults = keep }

-- They keep apart if both fail with one text: no report shows whose factory ran first, or whose fault was kept.
abbrev pub FailsAlikeKeepApart : Type 0
FailsAlikeKeepApart = (keep : Bool) (text : List ℕ) → KeepsApart (failing keep text text)

-- With two texts they do not.
abbrev pub FailsUnlikeDoNot : Type 0
FailsUnlikeDoNot = (keep : Bool) (text other : List ℕ) → text ≢ other → ¬ KeepsApart (failing keep text other)

-- Closeable values that one node leaves in one context agree, though their closes fail with two texts: the fault of the
-- one kept last is reported first in each run.
abbrev pub TwoFaultsAgree : Type 0
TwoFaultsAgree = ClosesAgreeBeside
    (two_tests [] (keyed words.PutCloseable a (codes "bad1") 0 ∷ keyed words.PutCloseable b (codes "bad2") 0 ∷ []) [])

-- So do they if the second is put over the first.
abbrev pub ReplacedAgrees : Type 0
ReplacedAgrees = ClosesAgreeBeside
    (two_tests [] (keyed words.PutCloseable a (codes "bad1") 0 ∷ keyed words.PutCloseable a (codes "bad2") 0 ∷ []) [])

-- Two tests that leave such values under two keys in the class's context do not, as either may come last.
abbrev pub TwoTextsDoNot : Type 0
TwoTextsDoNot = ¬ ClosesAgreeBeside
    (two_tests [] (keyed words.PutCloseable a (codes "bad1") 1 ∷ []) (keyed words.PutCloseable b (codes "bad2") 1 ∷ []))

-- With one text they do.
abbrev pub OneTextAgrees : Type 0
OneTextAgrees = ClosesAgreeBeside
    (two_tests [] (keyed words.PutCloseable a (codes "bad1") 1 ∷ []) (keyed words.PutCloseable b (codes "bad1") 1 ∷ []))

-- So do tests that run one after the other, whatever they do.
abbrev pub OneByOneAgrees : Type 0
OneByOneAgrees = (before first second : List StepText)
    → ClosesAgreeBeside (tests_of_mode modes.SameThread before first second)

-- A plan whose class leaves two values, whose closes fail with two texts: both tests look at the first, and each has a
-- closeable one of its own.
abbrev pub worked_plan : PlanText
worked_plan =
    two_tests (keyed words.PutCloseable a (codes "bad1") 0 ∷ keyed words.PutCloseable b (codes "bad2") 0 ∷ [])
    (keyed words.Want a (codes "bad1") 0 ∷ keyed words.PutCloseable b (codes "bad1") 0 ∷ [])
    (keyed words.Want a (codes "bad1") 0 ∷ keyed words.PutCloseable b (codes "bad2") 0 ∷ [])

-- All that the theorem asks holds of it: its nodes keep apart.
abbrev pub WorkedKeepsApart : Type 0
WorkedKeepsApart = KeepsApart worked_plan

-- Its closes agree.
abbrev pub WorkedAgrees : Type 0
WorkedAgrees = ClosesAgreeBeside worked_plan

-- There are keys for all that its steps name.
abbrev pub WorkedHasKeys : Type 0
WorkedHasKeys = length (keys_named worked_plan) ≤ worked_plan.key_places

-- There are as many numbers as they may draw.
abbrev pub WorkedHasNumbers : Type 0
WorkedHasNumbers = numbers_drawn worked_plan ≤ most_numbers worked_plan.size

-- It is a plan like one that was read.
abbrev pub WorkedIsRead : Type 0
WorkedIsRead = IsReadPlan worked_plan

-- The steps name their keys by names, act within a path of `count` contexts, and are not too many.
pub record AreSteps (count : ℕ) (steps : List StepText) : Type 0 where
  pub names : All (NamesLabelBelow 0) steps
  pub up : StayOnPath count steps
  pub few : length steps ≤ step_limit

-- Each of the plans above is like one that was read, if its steps are like this.
abbrev pub TestsAreRead : Type 0
TestsAreRead =
    (mode : Mode) (before first second : List StepText) → AreSteps 2 before → AreSteps 3 first → AreSteps 3 second
    → IsReadPlan (tests_of_mode mode before first second)

-- Wherever its nodes that may run beside one another touch one place, both compute one value.
abbrev pub ComputesShareValues : Type 0
ComputesShareValues = (text : List ℕ) → SharesValues (computing text)

-- The same two tests, if the class's callback before each of them computes the value, and they make these steps in their
-- bodies and in the class's callback after each.
abbrev pub computing_each : List ℕ → List StepText → List StepText → PlanText
computing_each text body after = record (two_tests [] [] []) {
  nodes = container root_id []
      ∷ record (container class_id []) { before_each = (keyed words.Compute a text 1 ∷ []) ∷ []; after_each = (after ∷ []) }
      ∷ test_of_class modes.Concurrent (codes "m") body ∷ test_of_class modes.Concurrent (codes "n") body ∷ [];
}

-- They share the value, if they look it up in their bodies, which run only after it was computed.
abbrev pub LooksBehindShareValues : Type 0
LooksBehindShareValues = (text wanted : List ℕ) → SharesValues (computing_each text (keyed words.Want a wanted 0 ∷ []) [])

-- But not if the callback after each looks it up, which also runs if the one before failed.
abbrev pub LooksAfterDoNot : Type 0
LooksAfterDoNot = (text wanted : List ℕ) → ¬ SharesValues (computing_each text [] (keyed words.Want a wanted 0 ∷ []))

-- Both of the two tests that compute in the class's context share the value there.
abbrev pub FirstShares : Type 0
FirstShares = (text : List ℕ)
    → shares_in (computing text) 2 1 (key_of_step (computing text).keys a)
    ≡ Some (record { text = text; closeable = false })

abbrev pub SecondShares : Type 0
SecondShares = (text : List ℕ)
    → shares_in (computing text) 3 1 (key_of_step (computing text).keys a)
    ≡ Some (record { text = text; closeable = false })

-- The class shares nothing there, since no node runs beside it.
abbrev pub ClassSharesNone : Type 0
ClassSharesNone = (text : List ℕ) → shares_in (computing text) 1 1 (key_of_step (computing text).keys a) ≡ None

-- A concurrent class that makes these steps before all, with two concurrent tests that make these.
abbrev pub class_of : List ℕ → List StepText → List StepText → List NodeText
class_of name before body =
    let id = root_id ++ (codes "c", name) ∷ [] in
    record (container id (before ∷ [])) { mode = modes.Concurrent }
    ∷ record (test_of_class modes.Concurrent [] body) { id = id ++ (codes "t", codes "m") ∷ [] }
    ∷ record (test_of_class modes.Concurrent [] body) { id = id ++ (codes "t", codes "n") ∷ [] } ∷ []

-- Two such classes that both compute a value in the root's context before all.
abbrev pub computing_above : List ℕ → List StepText → PlanText
computing_above text body = record (two_tests [] [] []) {
  nodes = container root_id [] ∷ class_of (codes "A") (keyed words.Compute a text 1 ∷ []) body
      ++ class_of (codes "B") (keyed words.Compute a text 1 ∷ []) body;
}

-- They share the value with their tests that look it up: one of both has computed it before.
abbrev pub LooksBelowShareValues : Type 0
LooksBelowShareValues = (text wanted : List ℕ) → SharesValues (computing_above text (keyed words.Want a wanted 0 ∷ []))

-- So they do if each test removes that key in its own context, which is below.
abbrev pub RemovedElsewhereShareValues : Type 0
RemovedElsewhereShareValues = (text wanted : List ℕ)
    → SharesValues (computing_above text (keyed words.Want a wanted 0 ∷ keyed words.Remove a [] 0 ∷ []))

-- But not if the class removes what it computed: one test computes it anew, before or after the other looks it up.
abbrev pub RemovedDoNot : Type 0
RemovedDoNot = (text wanted : List ℕ)
    → ¬ SharesValues (two_tests (keyed words.Compute a text 0 ∷ keyed words.Remove a [] 0 ∷ [])
    (keyed words.Compute a text 1 ∷ []) (keyed words.Want a wanted 0 ∷ []))
