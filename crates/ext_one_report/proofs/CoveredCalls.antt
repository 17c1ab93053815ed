-- The calls of a node: the body of a test, the callbacks round it of all nodes on its path, and those of a container; none of their steps goes up past the root.
use Rattle.std.proofs.Common.{◌≡◌, ◌<◌, ◌-◌, ℕ, zero, suc, Bool, true, false, List, [], ◌∷◌, ◌++◌, length, Contains, All, IfSome, reverse, Option, Some, None, refl, ap, sym, subst, ◌∙◌, arith, inl, inr}
use Rattle.std.specs.Prelude.{is_some, slice_get, slice_index_or}
use Rattle.std.specs.List.{range_with_len}
use Rattle.std.proofs.lemmas.List.{get_or-reverse, length-map, length-reverse}
use Rattle.std.proofs.lemmas.List.Elements.{All-nil, Contains-append_cases, Contains-push_cases}
use Rattle.std.proofs.lemmas.Option.{get_or_from_slice_get, slice_get_within}
use Rattle.ext_tree.specs.Trees.{id_at, IsPathOf}
use Rattle.ext_tree.proofs.Walks.{path_length}
use Rattle.ext_lifecycle.specs.declared.call.Call.{Call}
use Rattle.ext_lifecycle.specs.declared.call.Kind.{Kind}
use Rattle.ext_lifecycle.specs.declared.call.Kind.TheVariants as kinds
use Rattle.ext_lifecycle.specs.Callbacks.{afters_of, befores_of, callbacks, callbacks_on, test_call}
use Rattle.ext_plan.specs.Plans.{NodeText, PlanText, StepText}
use Rattle.ext_plan.specs.PlanCalls.{or_no_steps, registered, steps_called, steps_of_call, test_in, test_of}
use Rattle.ext_plan.specs.ReadPlans.{IsAtOrBelow, IsReadPlan, StayOnPath, StaysOnOwnPath, StaysOnPathOf, ids_of_nodes}
use Rattle.ext_plan.proofs.PlanCalls.{no_steps}
use Rattle.ext_races.specs.MadeSteps.{calls_of, plan_path}
use Rattle.ext_races.proofs.Lists.{contains-flat_map_back, contains-map_back}
use Rattle.ext_races.proofs.Paths.{path_is}
use Rattle.ext_one_report.proofs.CoveredPaths.{has_context, path_up}

-- ---- lists of calls

contains_reverse : {A : Type 0} (xs : List A) (x : A) → Contains (reverse xs) x → Contains xs x
contains_reverse xs x (k, less, is) =
    let within : k < length xs = (let e = length-reverse xs in omega (arith, less, e)) in
    (length xs - 1 - k, omega (arith, within), sym (get_or-reverse xs k x within) ∙ is)

-- the callback of this kind and number that a node registered
abbrev a_callback : Kind → ℕ → ℕ → Call
a_callback kind from index = record { kind = kind; from = from; index = index }

-- what holds of each callback of a kind that a context on the path registers
abbrev OnPath : (Call → Type 0) → List ℕ → Kind → Type 0
OnPath P path kind = (from index : ℕ) → Contains path from → P (a_callback kind from index)

-- and of each that one node registers
abbrev OnNode : (Call → Type 0) → ℕ → Kind → Type 0
OnNode P node kind = (index : ℕ) → P (a_callback kind node index)

module _ (P : Call → Type 0) (counts : Kind → ℕ → ℕ) where
  of_callback : (kind : Kind) (node : ℕ) (call : Call) → OnNode P node kind → Contains (callbacks counts kind node) call → P call
  of_callback kind node call all there =
      let one = contains-map_back (a_callback kind node) (range_with_len 0 (counts kind node)) call there in
      subst P one.2 (all one.0)

  of_callbacks_on : (kind : Kind) (path : List ℕ) (call : Call) → OnPath P path kind → Contains (callbacks_on counts kind path) call → P call
  of_callbacks_on kind path call all there =
      let one = contains-flat_map_back (callbacks counts kind) (reverse path) call there in
      of_callback kind one.0 call (λ index. all one.0 index (contains_reverse path one.0 one.1)) one.2

  of_befores : (is_test : Bool) (node : ℕ) (path : List ℕ) (call : Call) → (is_test ≡ true → OnPath P path kinds.BeforeEach) → OnNode P node kinds.BeforeAll → Contains (befores_of counts is_test node path) call → P call
  of_befores true node path call each all there = of_callbacks_on kinds.BeforeEach path call (each refl) there
  of_befores false node path call each all there = of_callback kinds.BeforeAll node call all there

  of_afters : (is_test : Bool) (node : ℕ) (path : List ℕ) (call : Call) → (is_test ≡ true → OnPath P path kinds.AfterEach) → OnNode P node kinds.AfterAll → Contains (afters_of counts is_test node path) call → P call
  of_afters true node path call each all there = of_callbacks_on kinds.AfterEach path call (each refl) (contains_reverse (callbacks_on counts kinds.AfterEach path) call there)
  of_afters false node path call each all there = of_callback kinds.AfterAll node call all (contains_reverse (callbacks counts kinds.AfterAll node) call there)

  of_calls : (is_test : Bool) (node : ℕ) (path : List ℕ) (call : Call) → P (test_call node) → (is_test ≡ true → OnPath P path kinds.BeforeEach) → (is_test ≡ true → OnPath P path kinds.AfterEach)
      → OnNode P node kinds.BeforeAll → OnNode P node kinds.AfterAll → Contains (befores_of counts is_test node path ++ test_call node ∷ [] ++ afters_of counts is_test node path) call → P call
  of_calls is_test node path call test before_each after_each before_all after_all there =
      elim (Contains-append_cases (befores_of counts is_test node path ++ test_call node ∷ []) (afters_of counts is_test node path) call there) [
        | inl first ↦ elim (Contains-push_cases (befores_of counts is_test node path) (test_call node) call first) [
          | inl before ↦ of_befores is_test node path call before_each before_all before
          | inr same ↦ subst P same test
        ]
        | inr after ↦ of_afters is_test node path call after_each after_all after
      ]

-- ---- nodes

id_of : (nodes : List NodeText) (k : ℕ) (one : NodeText) → slice_get nodes k ≡ Some one → id_at (ids_of_nodes nodes) k ≡ one.id
id_of [] k one is = absurd (cc is)
id_of (first ∷ nodes) zero one is = let same : first ≡ one = cc is in ap (λ n. n.id) same
id_of (first ∷ nodes) (suc k) one is = id_of nodes k one is

at_node : (P : NodeText → Type 0) (nodes : List NodeText) (k : ℕ) (one : NodeText) → slice_get nodes k ≡ Some one → All P nodes → P one
at_node P nodes k one is all = subst P (get_or_from_slice_get nodes k one one is) (all k one (slice_get_within nodes k one is))

there_at : (nodes : List NodeText) (k : ℕ) → k < length nodes → (one : NodeText) × (slice_get nodes k ≡ Some one)
there_at [] k less = absurd (omega (arith, less))
there_at (one ∷ nodes) zero less = (one, refl)
there_at (one ∷ nodes) (suc k) less = there_at nodes k (omega (arith, less))

-- the steps of a callback, where those of all that the node registers are so
indexed : (P : List StepText → Type 0) (xs : List (List StepText)) (index : ℕ) → P [] → All P xs → P (slice_index_or xs index [])
indexed P [] index none all = none
indexed P (x ∷ xs) zero none all = all 0 x (omega arith)
indexed P (x ∷ xs) (suc index) none all = indexed P xs index none (λ k d within. all (suc k) d (omega (arith, within)))

tested : (P : List StepText → Type 0) (test : Option (List StepText)) → P [] → IfSome test P → P (or_no_steps test)
tested P None none h = none
tested P (Some steps) none h = h

-- what is so of the steps of a node that is there is so of those of its call
of_node : (P : List StepText → Type 0) (kind : Kind) (index : ℕ) (node : Option NodeText) → P [] → ((one : NodeText) → node ≡ Some one → P (steps_called kind index (Some one))) → P (steps_called kind index node)
of_node P kind index None none some = subst P (sym (no_steps kind index)) none
of_node P kind index (Some one) none some = some one refl

if_some : {A : Type 0} (P : Type 0) (o : Option A) → is_some o ≡ true → IfSome o (λ x. P) → P
if_some P None is h = absurd cc
if_some P (Some x) is h = h

-- ---- no step goes up past the root

module _ (plan : PlanText) (read : IsReadPlan plan) (node : ℕ) (path : List ℕ) (is : IsPathOf (ids_of_nodes plan.nodes) node path) where
  abbrev Stays : List StepText → Type 0
  Stays = StayOnPath (length path)

  no_steps_stay : Stays []
  no_steps_stay = All-nil _

  -- the path is as long as the node's id
  long : (one : NodeText) → slice_get plan.nodes node ≡ Some one → length one.id ≡ length path
  long one there = sym (path_length (ids_of_nodes plan.nodes) read.runnable.tree node path is ∙ ap length (id_of plan.nodes node one there))

  own : (one : NodeText) → slice_get plan.nodes node ≡ Some one → StaysOnOwnPath one
  own one there = at_node StaysOnOwnPath plan.nodes node one there read.up.own

  test_stays : Stays (steps_of_call plan (test_call node))
  test_stays = of_node Stays kinds.Test 0 (slice_get plan.nodes node) no_steps_stay (λ one there.
      tested Stays one.test no_steps_stay (subst (λ n. IfSome one.test (StayOnPath n)) (long one there) (own one there).test))

  before_all_stays : (index : ℕ) → Stays (steps_of_call plan (a_callback kinds.BeforeAll node index))
  before_all_stays index = of_node Stays kinds.BeforeAll index (slice_get plan.nodes node) no_steps_stay (λ one there.
      indexed Stays one.before_all index no_steps_stay (subst (λ n. All (StayOnPath n) one.before_all) (long one there) (own one there).before_all))

  after_all_stays : (index : ℕ) → Stays (steps_of_call plan (a_callback kinds.AfterAll node index))
  after_all_stays index = of_node Stays kinds.AfterAll index (slice_get plan.nodes node) no_steps_stay (λ one there.
      indexed Stays one.after_all index no_steps_stay (subst (λ n. All (StayOnPath n) one.after_all) (long one there) (own one there).after_all))

  -- the node as it stands in the plan
  found_node : (one : NodeText) × (slice_get plan.nodes node ≡ Some one)
  found_node =
      let less = has_context (ids_of_nodes plan.nodes) read.runnable.tree node path is in
      let count = length-map plan.nodes (λ n. n.id) in
      there_at plan.nodes node (omega (arith, less, count))

  -- what a context on the path registers round the test stays on its path
  each : is_some (test_of plan node) ≡ true → (from : ℕ) → Contains path from → (other : NodeText) → slice_get plan.nodes from ≡ Some other
      → (one : NodeText) × StaysOnPathOf one other × IsAtOrBelow other.id one.id × (length one.id ≡ length path)
  each is_test from there other at_from =
      let one = found_node in
      let above = path_up (ids_of_nodes plan.nodes) read.runnable.tree node from path is there in
      let tests : All (StaysOnPathOf one.0) plan.nodes = if_some (All (StaysOnPathOf one.0) plan.nodes) one.0.test (ap (λ o. is_some (test_in o)) (sym one.1) ∙ is_test)
      (at_node (λ test. IfSome test.test (λ _. All (StaysOnPathOf test) plan.nodes)) plan.nodes node one.0 one.1 read.up.each) in (
        one.0,
        at_node (StaysOnPathOf one.0) plan.nodes from other at_from tests,
        subst (λ id. IsAtOrBelow other.id id) (id_of plan.nodes node one.0 one.1) (subst (λ id. IsAtOrBelow id (id_at (ids_of_nodes plan.nodes) node)) (id_of plan.nodes from other at_from) above),
        long one.0 one.1,
      )

  before_each_stays : is_some (test_of plan node) ≡ true → (from index : ℕ) → Contains path from → Stays (steps_of_call plan (a_callback kinds.BeforeEach from index))
  before_each_stays is_test from index there = of_node Stays kinds.BeforeEach index (slice_get plan.nodes from) no_steps_stay (λ other at_from.
      let e = each is_test from there other at_from in
      indexed Stays other.before_each index no_steps_stay (subst (λ n. All (StayOnPath n) other.before_each) e.3 (e.1.before_each e.2)))

  after_each_stays : is_some (test_of plan node) ≡ true → (from index : ℕ) → Contains path from → Stays (steps_of_call plan (a_callback kinds.AfterEach from index))
  after_each_stays is_test from index there = of_node Stays kinds.AfterEach index (slice_get plan.nodes from) no_steps_stay (λ other at_from.
      let e = each is_test from there other at_from in
      indexed Stays other.after_each index no_steps_stay (subst (λ n. All (StayOnPath n) other.after_each) e.3 (e.1.after_each e.2)))

  -- the path is the one that the plan's steps go along
  pub made_path : path ≡ plan_path plan node
  made_path = path_is (ids_of_nodes plan.nodes) read.runnable.tree node path (has_context (ids_of_nodes plan.nodes) read.runnable.tree node path is) is

  pub call_stays : (call : Call) → Contains (calls_of plan node) call → Stays (steps_of_call plan call)
  call_stays call there =
      let test = is_some (test_of plan node) in
      of_calls (λ c. Stays (steps_of_call plan c)) (registered plan) test node path call test_stays before_each_stays after_each_stays before_all_stays after_all_stays
      (subst (λ p. Contains (befores_of (registered plan) test node p ++ test_call node ∷ [] ++ afters_of (registered plan) test node p) call) (sym made_path) there)
