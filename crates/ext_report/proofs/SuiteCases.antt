-- The cases of a suite, picked from all results: which suite a case stands in, how many there are, and what is written of them.
use Rattle.std.proofs.Common.{◌≡◌, ℕ, ◌+◌, ◌<◌, Bool, true, false, cond, List, [], ◌∷◌, ◌++◌, length, get_or, take, All, refl, sym, ap, subst, ◌∙◌, arith, inl, inr, append-nil, codes, zero-add}
use Rattle.std.specs.Prelude.{◌==◌, ◌&&◌, not, filter, if◌then◌else◌}
use Rattle.std.specs.Borrow.{Bor}
use Rattle.std.specs.Global.{Vec}
use Rattle.std.specs.List.{AllZip, count_by, flat_map, list_any}
use Rattle.std.proofs.lemmas.Bool.{and_parts, and_right, cases_Bool, cond-false, cond-true, eq-eqb, eqb-true, ne_eqb, not-true, true≢false}
use Rattle.std.proofs.lemmas.List.{get_or-map, length-map, map-append, take_more}
use Rattle.std.proofs.lemmas.Grind.{flat_map-append}
use Rattle.std.proofs.lemmas.List.Elements.{All-filter, All-map, All-same, Contains-get_or}
use Rattle.std.proofs.lemmas.List.Folds.{list_any_at, list_any_none}
use Rattle.std.proofs.lemmas.List.Sums.{length-filter, sum_by-cons}
use Rattle.std.proofs.lemmas.Slice.Zip.{all_zipped_more}
use Rattle.ext_tree.specs.Trees.{Id, IsParentOf, IsPathOf, IsTree, children_of, id_at}
use Rattle.ext_tree.proofs.TreeFacts.{one_parent}
use Rattle.ext_tree.proofs.TreeLaws.{parents_list_children}
use Rattle.ext_lifecycle.specs.declared.node_result.NodeResult.{NodeResult}
use Rattle.ext_lifecycle.specs.declared.status.Status.TheVariants as statuses
use Rattle.ext_lifecycle.specs.FaultTexts.{NodeOutcome, result_view, results_view}
use Rattle.ext_report.specs.declared.extra.Extra.{Extra}
use Rattle.ext_report.specs.Groups.{numbered, shown}
use Rattle.ext_report.specs.InnerSuites.{AreSuites, IsSuiteOf, cases_of, cases_view, counts_of_cases, suite_if_filled, suite_with}
use Rattle.ext_report.specs.JunitCases.{case_element, suite_name}
use Rattle.ext_report.specs.JunitXml.{count_attributes, counts_where, is_case, is_left_out, stands_in, suite_element, suite_if_any, suite_time}
use Rattle.ext_report.specs.Report.{is_status}
use Rattle.ext_report.proofs.Groupings.{group_read}

-- ---- which suite a case stands in

-- the second context of a path is the parent of the first
pub parent_at : (ids : List Id) (k : ℕ) (path : List ℕ) → IsPathOf ids k path → (k ≡ 0 → ⊥) → (1 < length path) × IsParentOf ids (get_or path 1 0) k
parent_at ids k [] is below = absurd is
parent_at ids k (first ∷ []) is below = absurd (below is.1)
parent_at ids k (first ∷ parent ∷ rest) is below = let walk = is.1 in (omega arith, walk.0)

and_true : (b : Bool) → (b && true) ≡ b
and_true true = refl
and_true false = refl

module _ (ids : List Id) (tree : IsTree ids) where
  -- a context is among the children of its parent, and of no other
  in_children : (p c k : ℕ) → k < length ids → IsParentOf ids p c → list_any (λ child. child == c) (children_of ids k) ≡ (p == k)
  in_children p c k less is = elim (cases_Bool (p == k)) [
    | inl hit ↦
        let there = (parents_list_children ids k less).listed c (subst (λ q. IsParentOf ids q c) (eqb-true p k hit) is) in
        list_any_at (λ child. child == c) (children_of ids k) there.0 c there.1 (eq-eqb _ c there.2) ∙ sym hit
    | inr miss ↦
        list_any_none (λ child. child == c) (children_of ids k) (λ j d within. ne_eqb (get_or (children_of ids k) j d) c (λ same.
        let other = (parents_list_children ids k less).child (get_or (children_of ids k) j d) (Contains-get_or (children_of ids k) j d within) in
        let one = one_parent ids tree p k c is (subst (λ q. IsParentOf ids k q) same other) in
        true≢false (sym (eq-eqb p k one) ∙ miss))) ∙ sym miss
  ]

  -- a test below the root
  pub parents_suite : (r : NodeResult) (p : ℕ) → (r.is_test && not (r.node == 0)) ≡ true → IsParentOf ids p r.node → IsSuiteOf ids r p
  parents_suite r p below is = record {
    each = λ k less.
        cond-true (r.is_test && not (r.node == 0)) (list_any (λ child. child == r.node) (children_of ids k)) ((r.node == k) && is_case (result_view r)) below ∙ in_children p r.node k less is;
  }

  -- another case
  pub own_suite : (r : NodeResult) → (r.is_test && not (r.node == 0)) ≡ false → is_case (result_view r) ≡ true → IsSuiteOf ids r r.node
  own_suite r other is = record {
    each = λ k less.
        cond-false (r.is_test && not (r.node == 0)) (list_any (λ child. child == r.node) (children_of ids k)) ((r.node == k) && is_case (result_view r)) other
        ∙ ap (λ b. (r.node == k) && b) is ∙ and_true (r.node == k);
  }

  -- no case
  pub no_suite_of : (r : NodeResult) → (r.is_test && not (r.node == 0)) ≡ false → is_case (result_view r) ≡ false → IsSuiteOf ids r (length ids)
  no_suite_of r other none = record {
    each = λ k less.
        cond-false (r.is_test && not (r.node == 0)) (list_any (λ child. child == r.node) (children_of ids k)) ((r.node == k) && is_case (result_view r)) other
        ∙ and_right (r.node == k) (is_case (result_view r)) none ∙ sym (ne_eqb (length ids) k (λ same. omega (arith, less, same)));
  }

pub below_root : (r : NodeResult) → (r.is_test && not (r.node == 0)) ≡ true → r.node ≡ 0 → ⊥
below_root r h none = true≢false (sym (eq-eqb r.node 0 none) ∙ not-true (r.node == 0) (and_parts r.is_test (not (r.node == 0)) h).1)

-- the suites of one result more
pub suites_of_more : (ids : List Id) (results : List NodeResult) (old new : List ℕ) (i suite : ℕ) (r : NodeResult) → i < length results → r ≡ get_or results i r → new ≡ old ++ suite ∷ [] → IsSuiteOf ids r suite
    → AllZip (IsSuiteOf ids) (take i results) old → AllZip (IsSuiteOf ids) (take (i + 1) results) new
suites_of_more ids results old new i suite r less is put one so_far =
    subst (λ rs. AllZip (IsSuiteOf ids) rs new) (sym (take_more results i r less ∙ ap (λ x. take i results ++ x ∷ []) (sym is)))
    (subst (λ ns. AllZip (IsSuiteOf ids) (take i results ++ r ∷ []) ns) (sym put) (all_zipped_more (IsSuiteOf ids) (take i results) old r suite so_far one))

-- ---- the cases of a suite

pub kept_same : (b c : Bool) (r : NodeResult) (rest : List NodeResult) (kept : List NodeOutcome) → c ≡ b → results_view rest ≡ kept
    → results_view (if b then r ∷ rest else rest) ≡ cond c (result_view r ∷ kept) kept
kept_same true true r rest kept same is = ap (λ l. result_view r ∷ l) is
kept_same false false r rest kept same is = is
kept_same true false r rest kept same is = absurd cc
kept_same false true r rest kept same is = absurd cc

cases_numbered : (ids : List Id) (k : ℕ) (numbers : List ℕ) (rs : List NodeResult) → k < length ids → AllZip (IsSuiteOf ids) rs numbers → results_view (numbered k numbers rs) ≡ cases_of ids k (results_view rs)
cases_numbered ids k [] [] less all = refl
cases_numbered ids k [] (r ∷ rs) less all = absurd all
cases_numbered ids k (n ∷ numbers) [] less all = absurd all
cases_numbered ids k (n ∷ numbers) (r ∷ rs) less all =
    kept_same (n == k) (stands_in (children_of ids k) k (result_view r)) r (numbered k numbers rs) (cases_of ids k (results_view rs)) (all.0.each k less) (cases_numbered ids k numbers rs less all.1)

viewed : (cases : List (Bor NodeResult)) → cases_view cases ≡ results_view (shown cases)
viewed [] = refl
viewed (case ∷ more) = ap (λ l. result_view case.now ∷ l) (viewed more)

pub cases_are : (ids : List Id) (k : ℕ) (numbers : List ℕ) (rs : List NodeResult) (cases : List (Bor NodeResult)) → k < length ids → AllZip (IsSuiteOf ids) rs numbers → shown cases ≡ numbered k numbers rs
    → cases_view cases ≡ cases_of ids k (results_view rs)
cases_are ids k numbers rs cases less all is = viewed cases ∙ ap results_view is ∙ cases_numbered ids k numbers rs less all

-- what is read of a suite's list
pub read_cases : (ids : List Id) (rs : List NodeOutcome) (suites : List (Vec (Bor NodeResult))) (k : ℕ) (v : Vec (Bor NodeResult)) (cases : List (Bor NodeResult)) → k < length ids → k < length suites
    → v ≡ get_or suites k v → cases ≡ v.items → AreSuites ids rs suites → cases_view cases ≡ cases_of ids k rs
read_cases ids rs suites k v cases less within is same are = ap cases_view (same ∙ sym (group_read suites k v within is)) ∙ are.each k less

-- each case is of a context of the tree
pub cases_in_tree : (ids : List Id) (n k : ℕ) (results : List NodeResult) (cases : List (Bor NodeResult)) → All (λ r. r.node < n) results → cases_view cases ≡ cases_of ids k (results_view results)
    → All (λ r. r.node < n) (cases_view cases)
cases_in_tree ids n k results cases all is =
    let P : NodeOutcome → Type 0 = λ r. r.node < n in
    All-same P (cases_view cases) (cases_of ids k (results_view results)) is (All-filter (stands_in (children_of ids k) k) P (results_view results) (All-map P result_view results all))

pub case_in_tree : (n i : ℕ) (cases : List (Bor NodeResult)) (case : Bor NodeResult) → i < length cases → case ≡ get_or cases i case → All (λ r. r.node < n) (cases_view cases) → case.now.node < n
case_in_tree n i cases case less is all =
    let view : Bor NodeResult → NodeOutcome = λ c. result_view c.now in
    let long = length-map cases view in
    subst (λ (r : NodeOutcome). r.node < n) (get_or-map view cases i case (view case) less ∙ ap view (sym is)) (all i (view case) (omega (arith, less, long)))

-- ---- what is written of them

module _ {A : Type 0} (p : A → Bool) where
  count_kept : (q : A → Bool) (xs : List A) → count_by q (filter p xs) ≡ count_by (λ x. p x && q x) xs
  count_kept q [] = refl
  count_kept q (x ∷ xs) = elim (cases_Bool (p x)) [
    | inl hit ↦
        ap (count_by q) (cond-true (p x) (x ∷ filter p xs) (filter p xs) hit) ∙ sum_by-cons (λ y. cond (q y) 1 0) x (filter p xs) ∙ ap (λ n. cond (q x) 1 0 + n) (count_kept q xs)
        ∙ ap (λ b. cond (b && q x) 1 0 + count_by (λ y. p y && q y) xs) (sym hit) ∙ sym (sum_by-cons (λ y. cond (p y && q y) 1 0) x xs)
    | inr miss ↦
        ap (count_by q) (cond-false (p x) (x ∷ filter p xs) (filter p xs) miss) ∙ count_kept q xs ∙ sym (zero-add (count_by (λ y. p y && q y) xs))
        ∙ ap (λ b. cond (b && q x) 1 0 + count_by (λ y. p y && q y) xs) (sym miss) ∙ sym (sum_by-cons (λ y. cond (p y && q y) 1 0) x xs)
  ]

  flat_kept : {B : Type 0} (f : A → List B) (xs : List A) → flat_map f (filter p xs) ≡ flat_map (λ x. if p x then f x else []) xs
  flat_kept f [] = refl
  flat_kept f (x ∷ xs) = elim (cases_Bool (p x)) [
    | inl hit ↦
        ap (flat_map f) (cond-true (p x) (x ∷ filter p xs) (filter p xs) hit) ∙ ap (λ l. f x ++ l) (flat_kept f xs)
        ∙ ap (λ b. (if b then f x else []) ++ flat_map (λ y. if p y then f y else []) xs) (sym hit)
    | inr miss ↦
        ap (flat_map f) (cond-false (p x) (x ∷ filter p xs) (filter p xs) miss) ∙ flat_kept f xs
        ∙ ap (λ b. (if b then f x else []) ++ flat_map (λ y. if p y then f y else []) xs) (sym miss)
  ]

counts_are : (p : NodeOutcome → Bool) (rs : List NodeOutcome) → counts_of_cases (filter p rs) ≡ counts_where p rs
counts_are p rs =
    let tests = length-filter p rs in
    let failures = count_kept p (λ r. is_status r.status statuses.Failed) rs in
    let skipped = count_kept p (λ r. is_left_out r.status) rs in
    λ i. record { tests = tests i; failures = failures i; skipped = skipped i }

suite_is : (extras : List Extra) (earlier : List (List (List ℕ))) (ids : List Id) (k : ℕ) (rs cases : List NodeOutcome) → cases ≡ cases_of ids k rs → suite_with extras earlier ids k cases ≡ suite_element extras earlier ids rs k
suite_is extras earlier ids k rs cases is =
    let front = codes "  <testsuite name=\"" ++ suite_name (id_at ids k) ++ codes "\"" ++ suite_time extras k in
    let end = codes "  </testsuite>\n" in
    let counts = ap counts_of_cases is ∙ counts_are (stands_in (children_of ids k) k) rs in
    let tell = case_element extras earlier ids (suite_name (id_at ids k)) in
    let told = ap (flat_map tell) is ∙ flat_kept (stands_in (children_of ids k) k) tell rs in
    ap (λ n. front ++ count_attributes n ++ flat_map tell cases ++ end) counts
    ∙ ap (λ l. front ++ count_attributes (counts_where (stands_in (children_of ids k) k) rs) ++ l ++ end) told

suite_if : (extras : List Extra) (earlier : List (List (List ℕ))) (ids : List Id) (k : ℕ) (rs cases : List NodeOutcome) → cases ≡ cases_of ids k rs → suite_if_filled extras earlier ids k cases ≡ suite_if_any extras earlier ids rs k
suite_if extras earlier ids k rs [] is =
    let count = length-filter (stands_in (children_of ids k) k) rs in
    sym (cond-true (count_by (stands_in (children_of ids k) k) rs == 0) [] (suite_element extras earlier ids rs k) (eq-eqb (count_by (stands_in (children_of ids k) k) rs) 0 (sym count ∙ ap length (sym is))))
suite_if extras earlier ids k rs (case ∷ more) is =
    let count = length-filter (stands_in (children_of ids k) k) rs in
    let long = ap length is in
    suite_is extras earlier ids k rs (case ∷ more) is
    ∙ sym (cond-false (count_by (stands_in (children_of ids k) k) rs == 0) [] (suite_element extras earlier ids rs k) (ne_eqb (count_by (stands_in (children_of ids k) k) rs) 0 (λ none. omega (arith, count, long, none))))

pub suite_told : (extras : List Extra) (earlier : List (List (List ℕ))) (ids : List Id) (k : ℕ) (rs : List NodeOutcome) (cases : List (Bor NodeResult)) (text more : List ℕ) → cases_view cases ≡ cases_of ids k rs
    → more ≡ text ++ suite_if_filled extras earlier ids k (cases_view cases) → more ≡ text ++ suite_if_any extras earlier ids rs k
suite_told extras earlier ids k rs cases text more is told = told ∙ ap (λ l. text ++ l) (suite_if extras earlier ids k rs (cases_view cases) is)

pub none_filled : (extras : List Extra) (earlier : List (List (List ℕ))) (ids : List Id) (k : ℕ) (cases : List (Bor NodeResult)) (text : List ℕ) → length cases ≡ 0 → text ≡ text ++ suite_if_filled extras earlier ids k (cases_view cases)
none_filled extras earlier ids k [] text none = sym (append-nil text)
none_filled extras earlier ids k (case ∷ more) text none = absurd (omega (arith, none))

pub some_filled : (extras : List Extra) (earlier : List (List (List ℕ))) (ids : List Id) (k : ℕ) (cases : List (Bor NodeResult)) (text more : List ℕ) → (length cases ≡ 0 → ⊥) → more ≡ text ++ suite_with extras earlier ids k (cases_view cases)
    → more ≡ text ++ suite_if_filled extras earlier ids k (cases_view cases)
some_filled extras earlier ids k [] text more some told = absurd (some refl)
some_filled extras earlier ids k (case ∷ others) text more some told = told

-- the element of one case more
pub cases_more : (tell : NodeOutcome → List ℕ) (cases : List (Bor NodeResult)) (i : ℕ) (case : Bor NodeResult) → i < length cases → case ≡ get_or cases i case
    → flat_map tell (cases_view (take (i + 1) cases)) ≡ flat_map tell (cases_view (take i cases)) ++ tell (result_view case.now)
cases_more tell cases i case less is =
    rw (take_more cases i case less, map-append, flat_map-append, ← is, append-nil) refl
