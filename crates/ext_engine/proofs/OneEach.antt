-- One result a node.
use Rattle.std.proofs.Common.{◌≡◌, ◌≢◌, ◌⊎◌, ◌<◌, ◌+◌, inl, inr, ℕ, zero, suc, Bool, true, false, List, [], ◌∷◌, length, map, refl, ap, sym, subst, ◌∙◌, arith}
use Rattle.std.specs.Prelude.{Contains, Option, Some, option_map, slice_get, slice_set}
use Rattle.std.specs.List.{range_with_len}
use Rattle.std.proofs.lemmas.Bool.{cases_eq}
use Rattle.std.proofs.lemmas.List.{length-map, length-set, map-set}
use Rattle.std.proofs.lemmas.List.FromFn.{length-range_with_len}
use Rattle.std.proofs.lemmas.Option.{slice_get-map}
use Rattle.ext_history.proofs.Lists.{contains_none, contains_here, contains_later, contains_cons}
use Rattle.ext_model.specs.declared.look.Fault.{Fault}
use Rattle.ext_lifecycle.specs.declared.status.Status.TheVariants as statuses
use Rattle.ext_lifecycle.specs.Results.{ResultOf, skipped_result}
use Rattle.ext_engine.specs.Suites.{SuiteView}
use Rattle.ext_engine.specs.TreeRun.{Ran, with_results, all_skipped, all_results}
use Rattle.ext_engine.specs.RunLaws.{HasRun, IsLeftOut, IsOneEach, nodes_of}
use Rattle.ext_history.proofs.Once.{Once, contains-from_map}

-- ---- lists

module _ {X : Type 0} where
  get-set_same : (xs : List X) (i : ℕ) (x : X) → i < length xs → slice_get (slice_set xs i x) i ≡ Some x
  get-set_same [] i x less = absurd (omega (arith, less))
  get-set_same (y ∷ xs) zero x less = refl
  get-set_same (y ∷ xs) (suc i) x less = get-set_same xs i x (omega (arith, less))

  get-set_other : (xs : List X) (i j : ℕ) (x : X) → i ≢ j → slice_get (slice_set xs i x) j ≡ slice_get xs j
  get-set_other [] i j x differ = refl
  get-set_other (y ∷ xs) zero zero x differ = absurd (differ refl)
  get-set_other (y ∷ xs) zero (suc j) x differ = refl
  get-set_other (y ∷ xs) (suc i) zero x differ = refl
  get-set_other (y ∷ xs) (suc i) (suc j) x differ = get-set_other xs i j x (λ same. differ (ap suc same))

  get-within : (xs : List X) (k : ℕ) (x : X) → slice_get xs k ≡ Some x → k < length xs
  get-within [] k x is = absurd cc
  get-within (y ∷ xs) zero x is = omega arith
  get-within (y ∷ xs) (suc k) x is = let rest = get-within xs k x is in omega (arith, rest)

  one_value : (o : Option X) (x y : X) → o ≡ Some x → o ≡ Some y → x ≡ y
  one_value o x y a b = cc

-- a number at its own index changes nothing
set-number : (from count i k : ℕ) → k ≡ from + i → slice_set (range_with_len from count) i k ≡ range_with_len from count
set-number from zero i k is = refl
set-number from (suc count) zero k is = ap (λ n. n ∷ range_with_len (from + 1) count) (omega (arith, is))
set-number from (suc count) (suc i) k is = ap (λ l. from ∷ l) (set-number (from + 1) count i k (omega (arith, is)))

number_at : (from count i k : ℕ) → i < count → k ≡ from + i → slice_get (range_with_len from count) i ≡ Some k
number_at from zero i k less is = absurd (omega (arith, less))
number_at from (suc count) zero k less is = ap Some (omega (arith, is))
number_at from (suc count) (suc i) k less is = number_at (from + 1) count i k (omega (arith, less)) (omega (arith, is))

-- it stands there or not
has_or_not : (xs : List ℕ) (k : ℕ) → Contains xs k ⊎ (¬ Contains xs k)
has_or_not [] k = inr (λ there. contains_none k there)
has_or_not (x ∷ xs) k = elim (cases_eq x k) [
  | inl same ↦ inl (subst (Contains (x ∷ xs)) same (contains_here x xs))
  | inr differ ↦ elim (has_or_not xs k) [
    | inl later ↦ inl (contains_later x xs k later)
    | inr none ↦ inr (λ there. elim (contains_cons x xs k there) [ inl same ↦ differ same | inr later ↦ none later ])
  ]
]

-- ---- results

abbrev Results : Type 0
Results = List (ResultOf Fault)

abbrev numbers : Results → List ℕ
numbers results = map (λ r. r.node) results

abbrev kinds : Results → List Bool
kinds results = map (λ r. r.is_test) results

put-numbers : (count : ℕ) (ran : List Ran) (results : Results) → numbers results ≡ range_with_len 0 count → numbers (with_results results ran) ≡ range_with_len 0 count
put-numbers count [] results is = is
put-numbers count (r ∷ ran) results is =
    put-numbers count ran (slice_set results r.result.node r.result)
    (map-set (λ x. x.node) results r.result.node r.result ∙ ap (λ l. slice_set l r.result.node r.result.node) is ∙ set-number 0 count r.result.node r.result.node (omega arith))

-- where results tell the kinds of their nodes, and so does each that is put, all do
put-kinds : (suite : SuiteView) (count : ℕ) (ran : List Ran) (results : Results) → ((r : Ran) → Contains ran r → r.result.is_test ≡ suite.is_test r.result.node)
    → kinds results ≡ map suite.is_test (range_with_len 0 count) → kinds (with_results results ran) ≡ map suite.is_test (range_with_len 0 count)
put-kinds suite count [] results told is = is
put-kinds suite count (r ∷ ran) results told is =
    let at = r.result.node in
    put-kinds suite count ran (slice_set results at r.result) (λ x there. told x (contains_later r ran x there))
    (map-set (λ x. x.is_test) results at r.result
    ∙ ap (λ b. slice_set (kinds results) at b) (told r (contains_here r ran))
    ∙ ap (λ l. slice_set l at (suite.is_test at)) is
    ∙ sym (map-set suite.is_test (range_with_len 0 count) at at)
    ∙ ap (map suite.is_test) (set-number 0 count at at (omega arith)))

put-other : (ran : List Ran) (results : Results) (k : ℕ) → (¬ HasRun ran k) → slice_get (with_results results ran) k ≡ slice_get results k
put-other [] results k not_run = refl
put-other (r ∷ ran) results k not_run =
    put-other ran (slice_set results r.result.node r.result) k (λ later. not_run (contains_later r.result.node (nodes_of ran) k later))
    ∙ get-set_other results r.result.node k r.result (λ same. not_run (subst (λ n. Contains (n ∷ nodes_of ran) k) (sym same) (contains_here k (nodes_of ran))))

put-ran : (ran : List Ran) (results : Results) → Once (nodes_of ran) → (r : Ran) → Contains ran r → r.result.node < length results → slice_get (with_results results ran) r.result.node ≡ Some r.result
put-ran [] results once r there within = absurd (contains_none r there)
put-ran (x ∷ ran) results once r there within = elim (contains_cons x ran r there) [
  | inl same ↦
      subst (λ z. slice_get (with_results results (x ∷ ran)) z.result.node ≡ Some z.result) same
      (put-other ran (slice_set results x.result.node x.result) x.result.node once.0
      ∙ get-set_same results x.result.node x.result (subst (λ z. z.result.node < length results) (sym same) within))
  | inr later ↦ put-ran ran (slice_set results x.result.node x.result) once.1 r later (let e = length-set results x.result.node x.result in omega (arith, e, within))
]

skipped-numbers : (suite : SuiteView) (nodes : List ℕ) → map (λ r. r.node) (map (λ node. skipped_result {F = Fault} node (suite.is_test node)) nodes) ≡ nodes
skipped-numbers suite [] = refl
skipped-numbers suite (n ∷ nodes) = ap (λ l. n ∷ l) (skipped-numbers suite nodes)

skipped-kinds : (suite : SuiteView) (nodes : List ℕ) → map (λ r. r.is_test) (map (λ node. skipped_result {F = Fault} node (suite.is_test node)) nodes) ≡ map suite.is_test nodes
skipped-kinds suite [] = refl
skipped-kinds suite (n ∷ nodes) = ap (λ l. suite.is_test n ∷ l) (skipped-kinds suite nodes)

skipped-length : (suite : SuiteView) (count : ℕ) → length (all_skipped suite count) ≡ count
skipped-length suite count = length-map (range_with_len 0 count) (λ node. skipped_result node (suite.is_test node)) ∙ length-range_with_len 0 count

skipped-at : (suite : SuiteView) (count node : ℕ) → node < count → slice_get (all_skipped suite count) node ≡ Some (skipped_result node (suite.is_test node))
skipped-at suite count node less =
    slice_get-map (λ n. skipped_result n (suite.is_test n)) (range_with_len 0 count) node
    ∙ ap (option_map (λ n. skipped_result n (suite.is_test n))) (number_at 0 count node node less (omega arith))

-- where each number has a result, no further result stands
pub place_within : (results : Results) (count node : ℕ) (result : ResultOf Fault) → numbers results ≡ range_with_len 0 count → slice_get results node ≡ Some result → node < count
place_within results count node result in_order is =
    let less = get-within results node result is in
    let long : length results ≡ count = sym (length-map results (λ r. r.node)) ∙ ap length in_order ∙ length-range_with_len 0 count in
    omega (arith, less, long)

module _ (suite : SuiteView) (enabled_gives : ℕ → Bool → Type 0) (count : ℕ) (ran : List Ran) (once : Once (nodes_of ran)) (within : (r : Ran) → Contains ran r → r.result.node < count)
    (told : (r : Ran) → Contains ran r → r.result.is_test ≡ suite.is_test r.result.node)
    (left_only : (r : Ran) → Contains ran r → r.result.status ≡ statuses.Skipped → (r ≡ record { result = skipped_result r.result.node (suite.is_test r.result.node); went_on = false }) × enabled_gives r.result.node false)
    (enabled_only : (r : Ran) → Contains ran r → r.result.status ≢ statuses.Skipped → enabled_gives r.result.node true) where
  of_run : (r : Ran) → Contains ran r → slice_get (all_results suite count ran) r.result.node ≡ Some r.result
  of_run r there = put-ran ran (all_skipped suite count) once r there (let e = skipped-length suite count in let less = within r there in omega (arith, e, less))

  of_skipped : (node : ℕ) → node < count → (¬ HasRun ran node) → slice_get (all_results suite count ran) node ≡ Some (skipped_result node (suite.is_test node))
  of_skipped node less not_run = put-other ran (all_skipped suite count) node not_run ∙ skipped-at suite count node less

  in_order : numbers (all_results suite count ran) ≡ range_with_len 0 count
  in_order = put-numbers count ran (all_skipped suite count) (skipped-numbers suite (range_with_len 0 count))

  a_place : (node : ℕ) (result : ResultOf Fault) → slice_get (all_results suite count ran) node ≡ Some result → node < count
  a_place node result is = place_within (all_results suite count ran) count node result in_order is

  status_ran : (node : ℕ) (result : ResultOf Fault) → slice_get (all_results suite count ran) node ≡ Some result → result.status ≡ statuses.Skipped → HasRun ran node → IsLeftOut suite enabled_gives ran node
  status_ran node result is skipped has =
      let at = contains-from_map (λ r. r.result.node) ran node has in
      let there = subst (λ k. slice_get (all_results suite count ran) k ≡ Some at.0.result) at.2 (of_run at.0 at.1) in
      let told = left_only at.0 at.1 (ap (λ r. r.status) (one_value (slice_get (all_results suite count ran) node) at.0.result result there is) ∙ skipped) in
      let P : ℕ → Type 0 = λ k. Contains ran (record { result = skipped_result k (suite.is_test k); went_on = false }) in
      record { allowed = subst (λ n. enabled_gives n false) at.2 told.1; among = subst P at.2 (subst (Contains ran) told.0 at.1) }

  status_told : (node : ℕ) (result : ResultOf Fault) → slice_get (all_results suite count ran) node ≡ Some result → result.status ≡ statuses.Skipped → (¬ HasRun ran node) ⊎ IsLeftOut suite enabled_gives ran node
  status_told node result is skipped = elim (has_or_not (nodes_of ran) node) [
    | inl has ↦ inr (status_ran node result is skipped has)
    | inr not_run ↦ inl not_run
  ]

  status_left : (node : ℕ) (result : ResultOf Fault) → slice_get (all_results suite count ran) node ≡ Some result → IsLeftOut suite enabled_gives ran node → result.status ≡ statuses.Skipped
  status_left node result is left =
      ap (λ r. r.status) (one_value (slice_get (all_results suite count ran) node) result (skipped_result node (suite.is_test node)) is (of_run _ left.among))

  status_skipped : (node : ℕ) (result : ResultOf Fault) → slice_get (all_results suite count ran) node ≡ Some result → (¬ HasRun ran node) → result.status ≡ statuses.Skipped
  status_skipped node result is not_run =
      ap (λ r. r.status) (one_value (slice_get (all_results suite count ran) node) result (skipped_result node (suite.is_test node)) is (of_skipped node (a_place node result is) not_run))

  -- a result that is not of a skipped node is that of a node that ran
  went : (node : ℕ) (result : ResultOf Fault) → slice_get (all_results suite count ran) node ≡ Some result → result.status ≢ statuses.Skipped → enabled_gives node true
  went node result is not_skipped = elim (has_or_not (nodes_of ran) node) [
    | inl has ↦
        let at = contains-from_map (λ r. r.result.node) ran node has in
        let there = subst (λ k. slice_get (all_results suite count ran) k ≡ Some at.0.result) at.2 (of_run at.0 at.1) in
        let same : at.0.result.status ≡ result.status = ap (λ r. r.status) (one_value (slice_get (all_results suite count ran) node) at.0.result result there is) in
        subst (λ n. enabled_gives n true) at.2 (enabled_only at.0 at.1 (λ skipped. not_skipped (sym same ∙ skipped)))
    | inr not_run ↦ absurd (not_skipped (status_skipped node result is not_run))
  ]

  pub one_each : IsOneEach suite enabled_gives count ran (all_results suite count ran)
  one_each = record {
    nodes = in_order;
    tests = put-kinds suite count ran (all_skipped suite count) told (skipped-kinds suite (range_with_len 0 count));
    of_run = of_run;
    of_skipped = of_skipped;
    enabled = went;
    status = λ node result is. (
      status_told node result is,
      λ why. elim why [ inl not_run ↦ status_skipped node result is not_run | inr left ↦ status_left node result is left ],
    );
  }
