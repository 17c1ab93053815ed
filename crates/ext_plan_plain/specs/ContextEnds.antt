-- The end of a context. All its places are sealed in order, for every number that a key can have, so nothing is stored
-- there afterwards, whatever key is named later. Then the closeable ones among the values that the seals kept are
-- closed, latest first and each once. A close that fails does not stop the others.
-- JUnit closes them by the User Guide, "Keeping State in Extensions", and Javadoc
-- `ExtensionContext.Store.CloseableResource`. `Closing` of ext_model says which numbers remain and in which order. The
-- close action is that of `Values` in ext_plan, and not from JUnit.
use Rattle.std.specs.Prelude.{ℕ, zero, suc, List, [], ◌∷◌, map, Option, Some, None, if◌then◌else◌}
use Rattle.ext_model.specs.declared.event.Act.TheVariants.{Seal}
use Rattle.ext_model.specs.Plain.{under}
use Rattle.ext_model.specs.Closing.{remaining}
use Rattle.ext_plan.specs.Values.{ValueText, close_fault}
use Rattle.ext_plan_plain.specs.ValueStates.{ValueState, after_act, value_of}

-- The first keys are sealed in the context, in order.
unfoldable pub seal_keys : ℕ → ℕ → ValueState → ValueState
seal_keys zero at s = s
seal_keys (suc key) at s = after_act (Seal (at, key)) (seal_keys key at s)

-- The numbers that the seals of a context keep, greatest first.
abbrev pub numbers_left : ℕ → ℕ → ValueState → List ℕ
numbers_left keys at s = remaining (λ key. under s.store key at) keys

-- The value goes before those that follow, if it is closeable.
abbrev pub if_closeable : Option ValueText → List ValueText → List ValueText
if_closeable None more = more
if_closeable (Some value) more = if value.closeable then value ∷ more else more

-- The closeable ones among the values of these numbers, in order.
abbrev pub closeables : List ValueText → List ℕ → List ValueText
closeables values [] = []
closeables values (number ∷ more) = if_closeable (value_of values number) (closeables values more)

-- How the closes of a context end, in order, once its keys are sealed: the fault of each that fails.
abbrev pub faults_of_closes : ℕ → ℕ → ValueState → List (Option (List ℕ))
faults_of_closes keys at sealed = map close_fault (closeables sealed.values (numbers_left keys at sealed))
