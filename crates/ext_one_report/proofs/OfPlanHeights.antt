-- No step of a call of a node goes up past the root: it stays on the path of the node that it runs on.
use Rattle.std.proofs.Common.{◌≡◌, ◌<◌, ℕ, zero, suc, Bool, true, false, List, [], ◌∷◌, ◌++◌, length, Contains, Option, Some, None, All, refl, ap, sym, subst, ◌∙◌, arith, ◌⊎◌, inl, inr, append_assoc, append-nil}
use Rattle.std.specs.Prelude.{IfSome, is_some, reverse, slice_get, slice_index_or}
use Rattle.std.specs.List.{range_with_len}
use mathlib.Core.List.{reverse_aux}
use Rattle.std.proofs.lemmas.List.Elements.{All-head, All-tail, Contains-append_cases}
use Rattle.ext_tree.specs.Trees.{Id, id_at, IsPathOf, IsTree, IsWalk}
use Rattle.ext_tree.proofs.Walks.{path_length}
use Rattle.ext_lifecycle.specs.declared.call.Call.{Call}
use Rattle.ext_lifecycle.specs.declared.call.Kind.{Kind}
use Rattle.ext_lifecycle.specs.declared.call.Kind.TheVariants as kinds
use Rattle.ext_lifecycle.specs.Callbacks.{afters_of, befores_of, callbacks, callbacks_on, test_call}
use Rattle.ext_plan.specs.Plans.{NodeText, PlanText, StepText}
use Rattle.ext_plan.specs.PlanCalls.{callbacks_in, or_no_steps, registered, steps_of_call, test_in, test_of}
use Rattle.ext_plan.specs.ReadPlans.{IsAtOrBelow, IsReadPlan, StayOnPath, StaysOnOwnPath, StaysOnPathOf, ids_of_nodes}
use Rattle.ext_races.specs.MadeSteps.{calls_of, plan_path}
use Rattle.ext_races.proofs.Lists.{contains_cases, contains_first, contains_later, contains_nothing, contains-flat_map_back, contains-map_back}
use Rattle.ext_races.proofs.Paths.{path_is}

-- ---- lists

turned_back : {A : Type 0} (xs done : List A) (x : A) → Contains (reverse_aux xs done) x → Contains xs x ⊎ Contains done x
turned_back [] done x there = inr there
turned_back (y ∷ xs) done x there = elim (turned_back xs (y ∷ done) x there) [
  | inl later ↦ inl (contains_later y x xs later)
  | inr here ↦ elim (contains_cases y x done here) [
    | inl same ↦ inl (subst (λ z. Contains (y ∷ xs) z) same (contains_first y xs))
    | inr before ↦ inr before
  ]
]

reversed_back : {A : Type 0} (xs : List A) (x : A) → Contains (reverse xs) x → Contains xs x
reversed_back xs x there = elim (turned_back xs [] x there) [ inl on ↦ on | inr none ↦ contains_nothing x none ]

indexed : (P : List StepText → Type 0) (xs : List (List StepText)) (index : ℕ) → P [] → All P xs → P (slice_index_or xs index [])
indexed P [] index none all = none
indexed P (x ∷ xs) zero none all = All-head P x xs all
indexed P (x ∷ xs) (suc index) none all = indexed P xs index none (All-tail P x xs all)

-- ---- the nodes of a plan

node_at : (P : NodeText → Type 0) (nodes : List NodeText) (k : ℕ) (n : NodeText) → slice_get nodes k ≡ Some n → All P nodes → P n
node_at P [] k n is all = absurd cc
node_at P (x ∷ nodes) zero n is all = subst P (let e : x ≡ n = cc in e) (All-head P x nodes all)
node_at P (x ∷ nodes) (suc k) n is all = node_at P nodes k n is (All-tail P x nodes all)

id_is : (nodes : List NodeText) (k : ℕ) (n : NodeText) → slice_get nodes k ≡ Some n → id_at (ids_of_nodes nodes) k ≡ n.id
id_is [] k n is = absurd cc
id_is (x ∷ nodes) zero n is = ap (λ (m : NodeText). m.id) (let e : x ≡ n = cc in e)
id_is (x ∷ nodes) (suc k) n is = id_is nodes k n is

-- ---- the path of a node

pub path_inside : (ids : List Id) (node : ℕ) (path : List ℕ) → IsTree ids → IsPathOf ids node path → node < length ids
path_inside ids node [] tree is = absurd is
path_inside ids node (first ∷ []) tree is = let some = tree.first.some in omega (arith, is.1, some)
path_inside ids node (first ∷ parent ∷ rest) tree is = is.1.0.child_within

-- a node is at or below each node of its path
walk_above : (ids : List Id) (node : ℕ) (walk : List ℕ) (c : ℕ) → IsWalk ids node walk → Contains (node ∷ walk) c → IsAtOrBelow (id_at ids c) (id_at ids node)
walk_above ids node [] c is there = elim (contains_cases node c [] there) [
  | inl same ↦ ([], ap (id_at ids) same ∙ sym (append-nil (id_at ids c)))
  | inr none ↦ contains_nothing c none
]
walk_above ids node (parent ∷ rest) c is there = elim (contains_cases node c (parent ∷ rest) there) [
  | inl same ↦ ([], ap (id_at ids) same ∙ sym (append-nil (id_at ids c)))
  | inr later ↦
      let above = walk_above ids parent rest c is.1 later in
      let last = is.0.ids_are in
      (above.0 ++ last.0 ∷ [], last.1 ∙ ap (λ id. id ++ last.0 ∷ []) above.1 ∙ append_assoc (id_at ids c) above.0 (last.0 ∷ []))
]

path_above : (ids : List Id) (node : ℕ) (path : List ℕ) (c : ℕ) → IsPathOf ids node path → Contains path c → IsAtOrBelow (id_at ids c) (id_at ids node)
path_above ids node [] c is there = absurd is
path_above ids node (first ∷ walk) c is there = walk_above ids node walk c is.1 (subst (λ f. Contains (f ∷ walk) c) is.0 there)

-- ---- the steps of a call

none_stay : (count : ℕ) → StayOnPath count []
none_stay count = λ k d within. absurd (omega (arith, within))

module _ (plan : PlanText) (node : ℕ) (path : List ℕ) (read : IsReadPlan plan) (is : IsPathOf (ids_of_nodes plan.nodes) node path) where
  -- on the node's own context
  long : (n : NodeText) → slice_get plan.nodes node ≡ Some n → length path ≡ length n.id
  long n has = path_length (ids_of_nodes plan.nodes) read.runnable.tree node path is ∙ ap length (id_is plan.nodes node n has)

  own_stays : (n : NodeText) → slice_get plan.nodes node ≡ Some n → StaysOnOwnPath n
  own_stays n has = node_at StaysOnOwnPath plan.nodes node n has read.up.own

  all_before : (index : ℕ) (found : Option NodeText) → slice_get plan.nodes node ≡ found → StayOnPath (length path) (slice_index_or (callbacks_in kinds.BeforeAll found) index [])
  all_before index None has = none_stay (length path)
  all_before index (Some n) has = indexed (StayOnPath (length path)) n.before_all index (none_stay (length path)) (subst (λ l. All (StayOnPath l) n.before_all) (sym (long n has)) (own_stays n has).before_all)

  all_after : (index : ℕ) (found : Option NodeText) → slice_get plan.nodes node ≡ found → StayOnPath (length path) (slice_index_or (callbacks_in kinds.AfterAll found) index [])
  all_after index None has = none_stay (length path)
  all_after index (Some n) has = indexed (StayOnPath (length path)) n.after_all index (none_stay (length path)) (subst (λ l. All (StayOnPath l) n.after_all) (sym (long n has)) (own_stays n has).after_all)

  test_by : (count : ℕ) (test : Option (List StepText)) → IfSome test (StayOnPath count) → StayOnPath count (or_no_steps test)
  test_by count None stays = none_stay count
  test_by count (Some steps) stays = stays

  test_stays : (found : Option NodeText) → slice_get plan.nodes node ≡ found → StayOnPath (length path) (or_no_steps (test_in found))
  test_stays None has = none_stay (length path)
  test_stays (Some n) has = subst (λ l. StayOnPath l (or_no_steps n.test)) (sym (long n has)) (test_by (length n.id) n.test (own_stays n has).test)

  -- round a test
  is_test_by : (t : NodeText) (test : Option (List StepText)) → is_some test ≡ true → IfSome test (λ _. All (StaysOnPathOf t) plan.nodes) → All (StaysOnPathOf t) plan.nodes
  is_test_by t None some all = absurd cc
  is_test_by t (Some steps) some all = all

  each_stays : (t : NodeText) → slice_get plan.nodes node ≡ Some t → is_some t.test ≡ true → All (StaysOnPathOf t) plan.nodes
  each_stays t has some = is_test_by t t.test some (node_at (λ t. IfSome t.test (λ _. All (StaysOnPathOf t) plan.nodes)) plan.nodes node t has read.up.each)

  below : (t n : NodeText) (from : ℕ) → slice_get plan.nodes node ≡ Some t → Contains path from → slice_get plan.nodes from ≡ Some n → IsAtOrBelow n.id t.id
  below t n from has there is_from =
      subst (λ id. IsAtOrBelow id t.id) (id_is plan.nodes from n is_from)
      (subst (IsAtOrBelow (id_at (ids_of_nodes plan.nodes) from)) (id_is plan.nodes node t has) (path_above (ids_of_nodes plan.nodes) node path from is there))

  each_before : (t : NodeText) (from index : ℕ) (found : Option NodeText) → slice_get plan.nodes node ≡ Some t → is_some t.test ≡ true → Contains path from → slice_get plan.nodes from ≡ found
      → StayOnPath (length path) (slice_index_or (callbacks_in kinds.BeforeEach found) index [])
  each_before t from index None has some there is_from = none_stay (length path)
  each_before t from index (Some n) has some there is_from =
      indexed (StayOnPath (length path)) n.before_each index (none_stay (length path))
      (subst (λ l. All (StayOnPath l) n.before_each) (sym (long t has)) ((node_at (StaysOnPathOf t) plan.nodes from n is_from (each_stays t has some)).before_each (below t n from has there is_from)))

  each_after : (t : NodeText) (from index : ℕ) (found : Option NodeText) → slice_get plan.nodes node ≡ Some t → is_some t.test ≡ true → Contains path from → slice_get plan.nodes from ≡ found
      → StayOnPath (length path) (slice_index_or (callbacks_in kinds.AfterEach found) index [])
  each_after t from index None has some there is_from = none_stay (length path)
  each_after t from index (Some n) has some there is_from =
      indexed (StayOnPath (length path)) n.after_each index (none_stay (length path))
      (subst (λ l. All (StayOnPath l) n.after_each) (sym (long t has)) ((node_at (StaysOnPathOf t) plan.nodes from n is_from (each_stays t has some)).after_each (below t n from has there is_from)))

  -- ---- the calls

  abbrev Stays : Call → Type 0
  Stays call = StayOnPath (length path) (steps_of_call plan call)

  of_callbacks : (kind : Kind) (from : ℕ) (call : Call) → ((index : ℕ) → Stays (record { kind = kind; from = from; index = index })) → Contains (callbacks (registered plan) kind from) call → Stays call
  of_callbacks kind from call each there =
      let back = contains-map_back (λ (i : ℕ). (let c : Call = record { kind = kind; from = from; index = i } in c)) (range_with_len 0 (registered plan kind from)) call there in
      subst Stays back.2 (each back.0)

  of_callbacks_on : (kind : Kind) (call : Call) → ((from index : ℕ) → Contains path from → Stays (record { kind = kind; from = from; index = index })) → Contains (callbacks_on (registered plan) kind path) call → Stays call
  of_callbacks_on kind call each there =
      let back = contains-flat_map_back (callbacks (registered plan) kind) (reverse path) call there in
      of_callbacks kind back.0 call (λ index. each back.0 index (reversed_back path back.0 back.1)) back.2

  test_is : (found : Option NodeText) → slice_get plan.nodes node ≡ found → is_some (test_in found) ≡ true → (t : NodeText) × (slice_get plan.nodes node ≡ Some t) × (is_some t.test ≡ true)
  test_is None has some = absurd cc
  test_is (Some t) has some = (t, has, some)

  before_stays : (is_test : Bool) (call : Call) → is_some (test_of plan node) ≡ is_test → Contains (befores_of (registered plan) is_test node path) call → Stays call
  before_stays true call some there =
      let t = test_is (slice_get plan.nodes node) refl some in
      of_callbacks_on kinds.BeforeEach call (λ from index on. each_before t.0 from index (slice_get plan.nodes from) t.1 t.2 on refl) there
  before_stays false call some there = of_callbacks kinds.BeforeAll node call (λ index. all_before index (slice_get plan.nodes node) refl) there

  after_stays : (is_test : Bool) (call : Call) → is_some (test_of plan node) ≡ is_test → Contains (afters_of (registered plan) is_test node path) call → Stays call
  after_stays true call some there =
      let t = test_is (slice_get plan.nodes node) refl some in
      of_callbacks_on kinds.AfterEach call (λ from index on. each_after t.0 from index (slice_get plan.nodes from) t.1 t.2 on refl) (reversed_back _ call there)
  after_stays false call some there = of_callbacks kinds.AfterAll node call (λ index. all_after index (slice_get plan.nodes node) refl) (reversed_back _ call there)

  pub is_plan_path : path ≡ plan_path plan node
  is_plan_path = path_is (ids_of_nodes plan.nodes) read.runnable.tree node path (path_inside (ids_of_nodes plan.nodes) node path read.runnable.tree is) is

  -- the steps of each call of the node stay on its path
  pub call_stays : (call : Call) → Contains (calls_of plan node) call → StayOnPath (length path) (steps_of_call plan call)
  call_stays call there =
      let is_test = is_some (test_of plan node) in
      let befores = befores_of (registered plan) is_test node path in
      let afters = afters_of (registered plan) is_test node path in
      let own : Contains ((befores ++ test_call node ∷ []) ++ afters) call =
      subst (λ p. Contains ((befores_of (registered plan) is_test node p ++ test_call node ∷ []) ++ afters_of (registered plan) is_test node p) call) (sym is_plan_path) there in
      elim (Contains-append_cases (befores ++ test_call node ∷ []) afters call own) [
        | inl first ↦ elim (Contains-append_cases befores (test_call node ∷ []) call first) [
          | inl before ↦ before_stays is_test call refl before
          | inr later ↦ elim (contains_cases (test_call node) call [] later) [
            | inl same ↦ subst Stays same (test_stays (slice_get plan.nodes node) refl)
            | inr none ↦ contains_nothing call none
          ]
        ]
        | inr after ↦ after_stays is_test call refl after
      ]
