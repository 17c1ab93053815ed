-- A node of a plain run is skipped exactly where an ancestor skipped its body.
use Rattle.std.proofs.Common.{◌≡◌, ◌≢◌, ◌<◌, ◌≤◌, ◌+◌, ◌-◌, ◌↔◌, ℕ, zero, suc, Bool, true, false, not, List, [], ◌∷◌, ◌++◌, length, Option, Some, None, is_some, refl, ap, sym, subst, ◌∙◌, arith, append_assoc, ⊎_elim, inl, inr, ◌⊎◌}
use Rattle.std.specs.Prelude.{cond, filter, fold, slice_get, slice_set, IfSome, IsSomeAnd, if◌then◌else◌}
use Rattle.std.specs.List.{AllByRecursion}
use Rattle.std.proofs.lemmas.Bool.{cases_eq, eq-eqb}
use Rattle.std.proofs.lemmas.Bool.Decides.{eqb_tells}
use Rattle.std.proofs.lemmas.Grind.{fold-append}
use Rattle.std.proofs.lemmas.List.{length-map}
use Rattle.ext_tree.specs.Trees.{Id, IsTree, IsParentOf, IsPathOf, IsWalk, children_below, children_of}
use Rattle.ext_tree.proofs.TreeFacts.{parent_first}
use Rattle.ext_tree.proofs.TreeLaws.{parents_list_children, paths_are_unique}
use Rattle.ext_lifecycle.specs.declared.status.Status.{Status}
use Rattle.ext_lifecycle.specs.declared.status.Status.TheVariants as statuses
use Rattle.ext_lifecycle.specs.FaultTexts.{NodeOutcome}
use Rattle.ext_lifecycle.specs.Modes.{in_run_order}
use Rattle.ext_plan.specs.Plans.{PlanText}
use Rattle.ext_plan.specs.PlanCalls.{concurrent_of, test_of}
use Rattle.ext_plan.specs.ReadPlans.{ids_of_nodes, NodesAreTree, TestsHaveNoChildren}
use Rattle.ext_plan_plain.specs.ValueStates.{Memory}
use Rattle.ext_plan_plain.specs.ContextEnds.{seal_keys, faults_of_closes}
use Rattle.ext_plan_plain.specs.PlainRunLaws.{HasRun}
use Rattle.ext_plan_plain.specs.Ancestors.{before_node, begins, levels_left, opened, ordered, went_on, IsSkipped, SkipsOn}
use Rattle.ext_plan_plain.specs.PlainRun.{RunState, body_run, container_run, node_run, outcome_of, plain_run_by, run_opening, test_node_run}
use Rattle.ext_plan_plain.proofs.Below.{children-all, not_yet}
use Rattle.ext_plan_plain.proofs.Ends.{body_end, container_end, test_end}
use Rattle.ext_plan_plain.proofs.Reached.{Stands, container-ran, either-part, fold-stays, no_test, node-ran, set-elsewhere, stands-at, stands-second, stays}

-- ---- what stands before a node in a list

split : (at : ℕ) (xs : List ℕ) → Stands at xs → (after : List ℕ) × (xs ≡ before_node at xs ++ at ∷ after)
split at [] there = absurd there
split at (x ∷ xs) there =
    ⊎_elim
    (λ same. (xs, ap (λ y. y ∷ xs) same.1 ∙ ap (λ b. (if b then [] else x ∷ before_node at xs) ++ at ∷ xs) (sym same.0)))
    (λ differ.
    let later = split at xs (⊎_elim (λ is. absurd (differ.1 (sym is))) (λ more. more) there) in
    (later.0, ap (λ ys. x ∷ ys) later.1 ∙ ap (λ b. (if b then [] else x ∷ before_node at xs) ++ at ∷ later.0) (sym differ.0)))
    (eqb_tells x at)

before_new : (at : ℕ) (earlier later : List ℕ) → ¬ Stands at earlier → before_node at (earlier ++ at ∷ later) ≡ earlier
before_new at [] later fresh = ap (λ b. if b then [] else at ∷ before_node at later) (eq-eqb at at refl)
before_new at (x ∷ xs) later fresh =
    ⊎_elim
    (λ same. absurd (fresh (inl (sym same.1))))
    (λ differ. ap (λ b. if b then [] else x ∷ before_node at (xs ++ at ∷ later)) differ.0 ∙ ap (λ ys. x ∷ ys) (before_new at xs later (λ more. fresh (inr more))))
    (eqb_tells x at)

-- ---- children stand once in their order

abbrev pub Distinct : List ℕ → Type 0
Distinct [] = Unit {0}
Distinct (x ∷ xs) = (¬ Stands x xs) × Distinct xs

fresh_in : (earlier : List ℕ) (at : ℕ) (later : List ℕ) → Distinct (earlier ++ at ∷ later) → ¬ Stands at earlier
fresh_in [] at later distinct there = there
fresh_in (x ∷ xs) at later distinct there =
    ⊎_elim (λ same. distinct.0 (stands-second xs (at ∷ later) x (inl (sym same)))) (λ more. fresh_in xs at later distinct.1 more) there

stands-either : (xs ys : List ℕ) (x : ℕ) → Stands x (xs ++ ys) → Stands x xs ⊎ Stands x ys
stands-either [] ys x h = inr h
stands-either (z ∷ xs) ys x h = ⊎_elim (λ same. inl (inl same)) (λ more. ⊎_elim (λ a. inl (inr a)) (λ b. inr b) (stands-either xs ys x more)) h

distinct-append : (xs ys : List ℕ) → Distinct xs → Distinct ys → ((x : ℕ) → Stands x xs → Stands x ys → ⊥) → Distinct (xs ++ ys)
distinct-append [] ys p q apart = q
distinct-append (x ∷ xs) ys p q apart =
    (λ there. ⊎_elim p.0 (apart x (inl refl)) (stands-either xs ys x there), distinct-append xs ys p.1 q (λ y a b. apart y (inr a) b))

filter-by : (test : ℕ → Bool) (y : ℕ) (ys : List ℕ) (x : ℕ) (b : Bool) → test y ≡ b → Stands x (cond b (y ∷ filter test ys) (filter test ys)) → (Stands x (filter test ys) → Stands x ys × (test x ≡ true)) → Stands x (y ∷ ys) × (test x ≡ true)
filter-by test y ys x true is h more = ⊎_elim (λ same. (inl same, ap test same ∙ is)) (λ later. let m = more later in (inr m.0, m.1)) h
filter-by test y ys x false is h more = let m = more h in (inr m.0, m.1)

pub stands-filter : (test : ℕ → Bool) (xs : List ℕ) (x : ℕ) → Stands x (filter test xs) → Stands x xs × (test x ≡ true)
stands-filter test [] x h = absurd h
stands-filter test (y ∷ ys) x h = filter-by test y ys x (test y) refl h (stands-filter test ys x)

distinct-cond : (b : Bool) (x : ℕ) (xs : List ℕ) → ¬ Stands x xs → Distinct xs → Distinct (cond b (x ∷ xs) xs)
distinct-cond true x xs fresh distinct = (fresh, distinct)
distinct-cond false x xs fresh distinct = distinct

distinct-filter : (test : ℕ → Bool) (xs : List ℕ) → Distinct xs → Distinct (filter test xs)
distinct-filter test [] distinct = tt
distinct-filter test (x ∷ xs) distinct = distinct-cond (test x) x (filter test xs) (λ there. distinct.0 (stands-filter test xs x there).0) (distinct-filter test xs distinct.1)

pub not_twice : (b : Bool) → b ≡ true → not b ≡ true → ⊥
not_twice true is other = cc
not_twice false is other = cc

pub distinct-ordered : (test : ℕ → Bool) (xs : List ℕ) → Distinct xs → Distinct (in_run_order test xs)
distinct-ordered test xs distinct =
    distinct-append (filter test xs) (filter (λ x. not (test x)) xs) (distinct-filter test xs distinct) (distinct-filter (λ x. not (test x)) xs distinct)
    (λ x a b. not_twice (test x) (stands-filter test xs x a).1 (stands-filter (λ x. not (test x)) xs x b).1)

below-by : (b : Bool) (xs : List ℕ) (n x : ℕ) → ((y : ℕ) → Stands y xs → y < n) → Stands x (if b then xs ++ n ∷ [] else xs) → x < suc n
below-by true xs n x each h =
    ⊎_elim (λ old. let less = each x old in omega (arith, less)) (λ last. ⊎_elim (λ same. omega (arith, same)) (λ none. absurd none) last) (stands-either xs (n ∷ []) x h)
below-by false xs n x each h = let less = each x h in omega (arith, less)

below_n : (ids : List Id) (at n : ℕ) (x : ℕ) → Stands x (children_below ids at n) → x < n
below_n ids at zero x h = absurd h
below_n ids at (suc n) x h = below-by _ (children_below ids at n) n x (below_n ids at n) h

distinct-by : (b : Bool) (xs : List ℕ) (n : ℕ) → Distinct xs → ((y : ℕ) → Stands y xs → y < n) → Distinct (if b then xs ++ n ∷ [] else xs)
distinct-by true xs n distinct each = distinct-append xs (n ∷ []) distinct (λ none. none, tt) (λ x a b. ⊎_elim (λ same. let less = each x a in absurd (omega (arith, same, less))) (λ none. none) b)
distinct-by false xs n distinct each = distinct

pub distinct-below : (ids : List Id) (at n : ℕ) → Distinct (children_below ids at n)
distinct-below ids at zero = tt
distinct-below ids at (suc n) = distinct-by _ (children_below ids at n) n (distinct-below ids at n) (below_n ids at n)

-- ---- a walk on which each container goes on to its body, or not

module _ (memory : List Memory) (plan : PlanText) where
  abbrev AllOn : List ℕ → Type 0
  AllOn [] = Unit {0}
  AllOn (at ∷ above) = (went_on memory plan (at ∷ above) ≡ true) × AllOn above

  on_or_off : (b : Bool) (at : ℕ) (above : List ℕ) → went_on memory plan (at ∷ above) ≡ b → AllOn above ⊎ SkipsOn memory plan above → AllOn (at ∷ above) ⊎ SkipsOn memory plan (at ∷ above)
  on_or_off true at above is rest = ⊎_elim (λ on. inl (is, on)) (λ off. inr (inr off)) rest
  on_or_off false at above is rest = inr (inl is)

  all_or_some : (walk : List ℕ) → AllOn walk ⊎ SkipsOn memory plan walk
  all_or_some [] = inl tt
  all_or_some (at ∷ above) = on_or_off (went_on memory plan (at ∷ above)) at above refl (all_or_some above)

  not_both : (walk : List ℕ) → AllOn walk → SkipsOn memory plan walk → ⊥
  not_both [] on off = off
  not_both (at ∷ above) on off = ⊎_elim (λ stop. let bad : true ≡ false = sym on.0 ∙ stop in cc) (λ more. not_both above on.1 more) off

  -- ---- where all ancestors go on, the node has run

  module _ (tree : NodesAreTree plan) (childless : TestsHaveNoChildren plan) where
    count : length (ids_of_nodes plan.nodes) ≡ length plan.nodes
    count = length-map plan.nodes (λ n. n.id)

    short : (walk : List ℕ) (at : ℕ) → IsWalk (ids_of_nodes plan.nodes) at walk → length walk ≤ at
    short [] at is = omega arith
    short (parent ∷ rest) at is =
        let first = parent_first (ids_of_nodes plan.nodes) tree parent at is.0 in
        let more = short rest parent is.1 in omega (arith, first, more)

    lift : (at child k : ℕ) (above : List ℕ) → IsParentOf (ids_of_nodes plan.nodes) at child → went_on memory plan (at ∷ above) ≡ true → length (child ∷ at ∷ above) ≤ length plan.nodes
        → HasRun k (node_run plan (suc (levels_left memory plan (child ∷ at ∷ above))) (child ∷ at ∷ above) (begins memory plan (child ∷ at ∷ above))).results
        → HasRun k (node_run plan (suc (levels_left memory plan (at ∷ above))) (at ∷ above) (begins memory plan (at ∷ above))).results
    lift at child k above parent go room ran =
        let path = at ∷ above in
        let ids = ids_of_nodes plan.nodes in
        let levels = levels_left memory plan path in
        let run = begins memory plan path in
        let start = opened memory plan at path run in
        let each : RunState → ℕ → RunState = λ r other. node_run plan levels (other ∷ path) r in
        let children = children_of ids at in
        let listed = (parents_list_children ids at parent.parent_within).listed child parent in
        let there : Stands child (ordered memory plan at) = either-part (concurrent_of plan child) (concurrent_of plan) children child refl (stands-at children listed.0 child listed.1 listed.2) in
        let parts = split child (ordered memory plan at) there in
        let fewer : suc (levels_left memory plan (child ∷ path)) ≡ levels = omega (arith, room) in
        let here : HasRun k (each (fold each start (before_node child (ordered memory plan at))) child).results = subst (λ n. HasRun k (node_run plan n (child ∷ path) (begins memory plan (child ∷ path))).results) fewer ran in
        let later : HasRun k (fold each (fold each start (before_node child (ordered memory plan at))) (child ∷ parts.0)).results =
        fold-stays (λ r. HasRun k r.results) each (λ r c h. stays plan k levels (c ∷ path) r h) parts.0 (each (fold each start (before_node child (ordered memory plan at))) child) here in
        let whole : fold each start (ordered memory plan at) ≡ fold each (fold each start (before_node child (ordered memory plan at))) (child ∷ parts.0) =
        ap (fold each start) parts.1 ∙ fold-append each start (before_node child (ordered memory plan at)) (child ∷ parts.0) in
        container-ran plan levels at k above run (no_test plan at child (test_of plan at) childless parent refl) go (subst (λ (r : RunState). HasRun k r.results) (sym whole) later)

    up : (walk : List ℕ) (at k : ℕ) → IsWalk (ids_of_nodes plan.nodes) at walk → at < length plan.nodes → AllOn walk
        → HasRun k (node_run plan (suc (levels_left memory plan (at ∷ walk))) (at ∷ walk) (begins memory plan (at ∷ walk))).results → HasRun k (plain_run_by memory plan)
    up [] at k is within on ran =
        let levels : suc (length plan.nodes - 1) ≡ length plan.nodes = omega (arith, within) in
        subst (λ n. HasRun k (node_run plan n (0 ∷ []) (run_opening memory plan)).results) levels
        (subst (λ a. HasRun k (node_run plan (suc (length plan.nodes - 1)) (a ∷ []) (run_opening memory plan)).results) is ran)
    up (parent ∷ rest) at k is within on ran =
        let few = short (parent ∷ rest) at is in
        let inside : parent < length plan.nodes = (let p = is.0.parent_within in omega (arith, count, p)) in
        up rest parent k is.1 inside on.1 (lift parent at k rest is.0 on.0 (omega (arith, few, within)) ran)

    run_if_on : (at : ℕ) (above : List ℕ) → IsWalk (ids_of_nodes plan.nodes) at above → at < length plan.nodes → AllOn above → HasRun at (plain_run_by memory plan)
    run_if_on at above is within on = up above at at is within on (node-ran plan (levels_left memory plan (at ∷ above)) (at ∷ above) (begins memory plan (at ∷ above)))

    -- ---- and only there

    record Only (results : List NodeOutcome) : Type 0 where
      each : (child : ℕ) (above : List ℕ) → IsWalk (ids_of_nodes plan.nodes) child above → HasRun child results → AllOn above

    abbrev AllAbove : List ℕ → Type 0
    AllAbove [] = Unit {0}
    AllAbove (at ∷ above) = AllOn above

    only-set : (at : ℕ) (above : List ℕ) (results : List NodeOutcome) (x : NodeOutcome) → IsWalk (ids_of_nodes plan.nodes) at above → AllOn above → Only results → Only (slice_set results at x)
    only-set at above results x walk on old = record {
      each = λ child other is has.
          ⊎_elim
          (λ same.
          let here : IsWalk (ids_of_nodes plan.nodes) child above = subst (λ c. IsWalk (ids_of_nodes plan.nodes) c above) (sym same) walk in
          subst AllAbove (paths_are_unique.one_path (ids_of_nodes plan.nodes) child (child ∷ above) (child ∷ other) tree (refl, here) (refl, is)) on)
          (λ differ. old.each child other is (subst (λ o. IfSome o (λ r. r.status ≢ statuses.Skipped)) (set-elsewhere results at child x differ) has))
          (cases_eq child at);
    }

    only-fold : (at : ℕ) (above : List ℕ)
        → ((child : ℕ) → IsParentOf (ids_of_nodes plan.nodes) at child → Only (begins memory plan (child ∷ at ∷ above)).results
        → Only (node_run plan (levels_left memory plan (at ∷ above)) (child ∷ at ∷ above) (begins memory plan (child ∷ at ∷ above))).results)
        → (earlier later : List ℕ) → ordered memory plan at ≡ earlier ++ later → AllByRecursion (IsParentOf (ids_of_nodes plan.nodes) at) later
        → (let each : RunState → ℕ → RunState = λ r other. node_run plan (levels_left memory plan (at ∷ above)) (other ∷ at ∷ above) r in
        let start = opened memory plan at (at ∷ above) (begins memory plan (at ∷ above)) in
        Only (fold each start earlier).results → Only (fold each (fold each start earlier) later).results)
    only-fold at above step earlier [] parts all = λ h. h
    only-fold at above step earlier (child ∷ more) parts all = λ h.
        let path = at ∷ above in
        let each : RunState → ℕ → RunState = λ r other. node_run plan (levels_left memory plan path) (other ∷ path) r in
        let start = opened memory plan at path (begins memory plan path) in
        let distinct : Distinct (ordered memory plan at) = distinct-ordered (concurrent_of plan) (children_of (ids_of_nodes plan.nodes) at) (distinct-below (ids_of_nodes plan.nodes) at (length (ids_of_nodes plan.nodes))) in
        let new : before_node child (ordered memory plan at) ≡ earlier = ap (before_node child) parts ∙ before_new child earlier more (fresh_in earlier child more (subst Distinct parts distinct)) in
        let here : begins memory plan (child ∷ path) ≡ fold each start earlier = ap (fold each start) new in
        let one : Only (each (fold each start earlier) child).results = subst (λ (s : RunState). Only (each s child).results) here (step child all.0 (subst (λ (s : RunState). Only s.results) (sym here) h)) in
        let next : fold each start (earlier ++ child ∷ []) ≡ each (fold each start earlier) child = fold-append each start earlier (child ∷ []) in
        subst (λ (s : RunState). Only (fold each s more).results) next
        (only-fold at above step (earlier ++ child ∷ []) more (parts ∙ sym (append_assoc earlier (child ∷ []) more)) all.1 (subst (λ (s : RunState). Only s.results) (sym next) one))

    only-body : (at : ℕ) (above : List ℕ) (go : Bool) → went_on memory plan (at ∷ above) ≡ go → at < length (ids_of_nodes plan.nodes)
        → (went_on memory plan (at ∷ above) ≡ true → (child : ℕ) → IsParentOf (ids_of_nodes plan.nodes) at child → Only (begins memory plan (child ∷ at ∷ above)).results
        → Only (node_run plan (levels_left memory plan (at ∷ above)) (child ∷ at ∷ above) (begins memory plan (child ∷ at ∷ above))).results)
        → Only (begins memory plan (at ∷ above)).results
        → Only (body_run plan (node_run plan (levels_left memory plan (at ∷ above))) go (at ∷ above) (opened memory plan at (at ∷ above) (begins memory plan (at ∷ above)))).results
    only-body at above true is within step h = only-fold at above (step is) [] (ordered memory plan at) refl (children-all (ids_of_nodes plan.nodes) (concurrent_of plan) at within) h
    only-body at above false is within step h = h

    either-only : (b : Bool) (x y : RunState) → Only x.results → Only y.results → Only (if b then x else y).results
    either-only true x y p q = p
    either-only false x y p q = q

    node-only : (levels at : ℕ) (above : List ℕ) → levels + length above ≡ length plan.nodes → IsWalk (ids_of_nodes plan.nodes) at above → at < length (ids_of_nodes plan.nodes) → AllOn above
        → Only (begins memory plan (at ∷ above)).results → Only (node_run plan levels (at ∷ above) (begins memory plan (at ∷ above))).results
    unfolding node_run
    node-only zero at above deep walk within on h = h
    node-only (suc levels) at above deep walk within on h =
        let path = at ∷ above in
        let run = begins memory plan path in
        let tested = test_end plan at path run in
        let contained = container_end plan (node_run plan levels) at path run in
        let left : levels_left memory plan path ≡ levels = omega (arith, deep) in
        let deeper : levels + length path ≡ length plan.nodes = omega (arith, deep) in
        let step : went_on memory plan path ≡ true → (child : ℕ) → IsParentOf (ids_of_nodes plan.nodes) at child → Only (begins memory plan (child ∷ path)).results
        → Only (node_run plan (levels_left memory plan path) (child ∷ path) (begins memory plan (child ∷ path))).results =
        λ go child is old. subst (λ n. Only (node_run plan n (child ∷ path) (begins memory plan (child ∷ path))).results) (sym left) (node-only levels child path deeper (is, walk) is.child_within (go, on) old) in
        let body : Only (body_end plan (node_run plan levels) at path run).results =
        subst (λ n. Only (body_end plan (node_run plan n) at path run).results) left (only-body at above (went_on memory plan path) refl within step h) in
        either-only (is_some (test_of plan at)) (test_node_run plan at path run) (container_run plan (node_run plan levels) at path run)
        (only-set at above run.results (outcome_of at true tested (faults_of_closes tested.state.places at (seal_keys tested.state.places at tested.state))) walk on h)
        (only-set at above (body_end plan (node_run plan levels) at path run).results (outcome_of at false contained (faults_of_closes contained.state.places at (seal_keys contained.state.places at contained.state))) walk on body)

    only-opening : (child : ℕ) (above : List ℕ) → IsWalk (ids_of_nodes plan.nodes) child above → HasRun child (run_opening memory plan).results → AllOn above
    only-opening child [] is has = tt
    only-opening child (parent ∷ rest) is has = absurd (not_yet plan.nodes 0 child (subst (λ n. child < n) count is.0.child_within) has)

    only_there : Only (plain_run_by memory plan)
    only_there = node-only (length plan.nodes) 0 [] (omega arith) refl tree.first.some tt (record { each = only-opening })

-- ---- skipped, or run

run_or_skipped : (o : Option NodeOutcome) → IsSomeAnd o (λ r. r.status ≡ statuses.Skipped) → IfSome o (λ r. r.status ≢ statuses.Skipped) → ⊥
run_or_skipped None skipped ran = skipped
run_or_skipped (Some r) skipped ran = ran skipped

by_status : (s : Status) → (s ≢ statuses.Skipped → ⊥) → s ≡ statuses.Skipped
by_status statuses.Successful h = absurd (h (λ is. cc))
by_status statuses.Aborted h = absurd (h (λ is. cc))
by_status statuses.Failed h = absurd (h (λ is. cc))
by_status statuses.Skipped h = refl

skipped_if : (o : Option NodeOutcome) → (IfSome o (λ r. r.status ≢ statuses.Skipped) → ⊥) → IsSomeAnd o (λ r. r.status ≡ statuses.Skipped)
skipped_if None h = h tt
skipped_if (Some r) h = by_status r.status h

pub walk_within : (ids : List Id) (at : ℕ) (above : List ℕ) → IsTree ids → IsWalk ids at above → at < length ids
walk_within ids at [] tree is = subst (λ n. n < length ids) (sym is) tree.first.some
walk_within ids at (parent ∷ rest) tree is = is.0.child_within

pub skips_below : (memory : List Memory) (plan : PlanText) → NodesAreTree plan → TestsHaveNoChildren plan → (at : ℕ) (above : List ℕ) → IsPathOf (ids_of_nodes plan.nodes) at (at ∷ above)
    → IsSkipped at (plain_run_by memory plan) ↔ SkipsOn memory plan above
skips_below memory plan tree childless at above path =
    let results = plain_run_by memory plan in
    let within : at < length plan.nodes = subst (λ n. at < n) (count memory plan tree childless) (walk_within (ids_of_nodes plan.nodes) at above tree path.1) in (
      λ skipped. ⊎_elim (λ on. absurd (run_or_skipped (slice_get results at) skipped (run_if_on memory plan tree childless at above path.1 within on))) (λ off. off) (all_or_some memory plan above),
      λ off. skipped_if (slice_get results at) (λ has. not_both memory plan above ((only_there memory plan tree childless).each at above path.1 has) off),
    )
