-- Which results the run of a node changes: its own, and those of the nodes below it. So what holds of the results of a node and of all below it still holds once its siblings are run.
use Rattle.std.proofs.Common.{◌≡◌, ◌≢◌, ◌<◌, ℕ, zero, suc, Bool, true, false, List, [], ◌∷◌, ◌++◌, length, is_some, refl, ap, sym, subst, ◌∙◌, arith, append_assoc, length-append, ⊎_elim, inl, inr, ◌⊎◌}
use Rattle.std.specs.Prelude.{fold, slice_get, slice_set, IsSomeAnd, if◌then◌else◌}
use Rattle.std.specs.List.{AllByRecursion}
use Rattle.std.proofs.lemmas.Bool.{cases_eq}
use Rattle.ext_tree.specs.Trees.{Id, IsParentOf, IsPathOf, IsWalk, children_of}
use Rattle.ext_tree.proofs.TreeLaws.{paths_are_unique}
use Rattle.ext_lifecycle.specs.Endings.{all_successful}
use Rattle.ext_lifecycle.specs.FaultTexts.{NodeOutcome}
use Rattle.ext_lifecycle.specs.Modes.{in_run_order}
use Rattle.ext_plan.specs.Plans.{PlanText}
use Rattle.ext_plan.specs.PlanCalls.{concurrent_of, test_of}
use Rattle.ext_plan.specs.ReadPlans.{ids_of_nodes, NodesAreTree}
use Rattle.ext_plan_plain.specs.NodeCalls.{befores_run}
use Rattle.ext_plan_plain.specs.ContextEnds.{seal_keys, faults_of_closes}
use Rattle.ext_plan_plain.specs.InnerSteps.{AllBelow}
use Rattle.ext_plan_plain.specs.PlainRun.{RunState, body_run, container_run, node_run, outcome_of, test_node_run}
use Rattle.ext_plan_plain.proofs.Below.{children-all}
use Rattle.ext_plan_plain.proofs.Ends.{body_end, container_end, test_end}
use Rattle.ext_plan_plain.proofs.Reached.{Stands, set-elsewhere}

-- what holds of the result that stands in its place holds of the one that was put there
pub set-at : (P : NodeOutcome → Type 0) (results : List NodeOutcome) (at : ℕ) (x : NodeOutcome) → IsSomeAnd (slice_get (slice_set results at x) at) P → P x
set-at P [] at x h = absurd h
set-at P (y ∷ ys) zero x h = h
set-at P (y ∷ ys) (suc at) x h = set-at P ys at x h

same-end : (xs ys : List ℕ) (x y : ℕ) (above : List ℕ) → xs ++ x ∷ above ≡ ys ++ y ∷ above → x ≡ y
same-end [] [] x y above is = cc
same-end [] (b ∷ ys) x y above is =
    let lengths : length (x ∷ above) ≡ length (b ∷ (ys ++ y ∷ above)) = ap length is in
    let more = length-append ys (y ∷ above) in
    absurd (omega (arith, lengths, more))
same-end (a ∷ xs) [] x y above is =
    let lengths : length (a ∷ (xs ++ x ∷ above)) ≡ length (y ∷ above) = ap length is in
    let more = length-append xs (x ∷ above) in
    absurd (omega (arith, lengths, more))
same-end (a ∷ xs) (b ∷ ys) x y above is =
    let rest : xs ++ x ∷ above ≡ ys ++ y ∷ above = cc in
    same-end xs ys x y above rest

pub longer : (xs : List ℕ) (x : ℕ) (above : List ℕ) → xs ++ x ∷ above ≡ above → ⊥
longer xs x above is =
    let lengths : length (xs ++ x ∷ above) ≡ length above = ap length is in
    let more = length-append xs (x ∷ above) in
    omega (arith, lengths, more)

-- the result of this node is the same in both, or the node stands at the end of this path or below
abbrev Elsewhere : List Id → List ℕ → List NodeOutcome → List NodeOutcome → ℕ → Type 0
Elsewhere ids path new old k = (slice_get new k ≡ slice_get old k) ⊎ ((below : List ℕ) × IsPathOf ids k (below ++ path))

set-outside : (ids : List Id) (at : ℕ) (above : List ℕ) (results : List NodeOutcome) (x : NodeOutcome) (k : ℕ) → IsWalk ids at above → Elsewhere ids (at ∷ above) (slice_set results at x) results k
set-outside ids at above results x k walk =
    ⊎_elim (λ same. inr ([], (sym same, subst (λ c. IsWalk ids c above) (sym same) walk))) (λ differ. inl (set-elsewhere results at k x differ)) (cases_eq k at)

then-outside : (ids : List Id) (path : List ℕ) (new between old : List NodeOutcome) (k : ℕ) → Elsewhere ids path new between k → Elsewhere ids path between old k → Elsewhere ids path new old k
then-outside ids path new between old k first second = ⊎_elim (λ same. ⊎_elim (λ also. inl (same ∙ also)) (λ under. inr under) second) (λ under. inr under) first

fold-outside : (ids : List Id) (path : List ℕ) (k : ℕ) (P : ℕ → Type 0) (each : RunState → ℕ → RunState) → ((run : RunState) (child : ℕ) → P child → Elsewhere ids path (each run child).results run.results k)
    → (children : List ℕ) (run : RunState) → AllByRecursion P children → Elsewhere ids path (fold each run children).results run.results k
fold-outside ids path k P each one [] run all = inl refl
fold-outside ids path k P each one (child ∷ more) run all =
    then-outside ids path (fold each (each run child) more).results (each run child).results run.results k (fold-outside ids path k P each one more (each run child) all.1) (one run child all.0)

under-parent : (ids : List Id) (child : ℕ) (path : List ℕ) (new old : List NodeOutcome) (k : ℕ) → Elsewhere ids (child ∷ path) new old k → Elsewhere ids path new old k
under-parent ids child path new old k is =
    ⊎_elim (λ same. inl same) (λ under. inr (under.0 ++ child ∷ [], subst (IsPathOf ids k) (sym (append_assoc under.0 (child ∷ []) path)) under.1)) is

module _ (plan : PlanText) (tree : NodesAreTree plan) where
  abbrev ids : List Id
  ids = ids_of_nodes plan.nodes

  either-outside : (path : List ℕ) (old : List NodeOutcome) (k : ℕ) (b : Bool) (x y : RunState) → Elsewhere ids path x.results old k → Elsewhere ids path y.results old k → Elsewhere ids path (if b then x else y).results old k
  either-outside path old k true x y p q = p
  either-outside path old k false x y p q = q

  body-outside : (levels at : ℕ) (above : List ℕ) (k : ℕ) → at < length ids
      → ((run : RunState) (child : ℕ) → IsParentOf ids at child → Elsewhere ids (at ∷ above) (node_run plan levels (child ∷ at ∷ above) run).results run.results k)
      → (go : Bool) (run : RunState) → Elsewhere ids (at ∷ above) (body_run plan (node_run plan levels) go (at ∷ above) run).results run.results k
  body-outside levels at above k within one true run =
      fold-outside ids (at ∷ above) k (IsParentOf ids at) (λ r child. node_run plan levels (child ∷ at ∷ above) r) one (in_run_order (concurrent_of plan) (children_of ids at)) run (children-all ids (concurrent_of plan) at within)
  body-outside levels at above k within one false run = inl refl

  outside : (levels at : ℕ) (above : List ℕ) (k : ℕ) (run : RunState) → IsWalk ids at above → at < length ids → Elsewhere ids (at ∷ above) (node_run plan levels (at ∷ above) run).results run.results k
  unfolding node_run
  outside zero at above k run walk within = inl refl
  outside (suc levels) at above k run walk within =
      let path = at ∷ above in
      let tested = test_end plan at path run in
      let contained = container_end plan (node_run plan levels) at path run in
      let before = befores_run plan false at path run.state in
      let opened : RunState = record { state = before.state; results = run.results } in
      let body = body_end plan (node_run plan levels) at path run in
      let x = outcome_of at true tested (faults_of_closes tested.state.places at (seal_keys tested.state.places at tested.state)) in
      let y = outcome_of at false contained (faults_of_closes contained.state.places at (seal_keys contained.state.places at contained.state)) in
      let one : (r : RunState) (child : ℕ) → IsParentOf ids at child → Elsewhere ids path (node_run plan levels (child ∷ path) r).results r.results k =
      λ r child is. under-parent ids child path (node_run plan levels (child ∷ path) r).results r.results k (outside levels child path k r (is, walk) is.child_within) in
      either-outside path run.results k (is_some (test_of plan at)) (test_node_run plan at path run) (container_run plan (node_run plan levels) at path run)
      (set-outside ids at above run.results x k walk)
      (then-outside ids path (slice_set body.results at y) body.results run.results k (set-outside ids at above body.results y k walk) (body-outside levels at above k within one (all_successful before.calls) opened))

  -- ---- siblings change no result below one another

  pub one-path : (k : ℕ) (path other : List ℕ) → IsPathOf ids k path → IsPathOf ids k other → path ≡ other
  one-path k path other is also = paths_are_unique.one_path ids k path other tree is also

  module _ (P : NodeOutcome → Type 0) where
    sibling-keeps : (levels at other child : ℕ) (above : List ℕ) (run : RunState) → IsWalk ids at above → IsParentOf ids at other → child ≢ other
        → AllBelow P ids (child ∷ at ∷ above) (node_run plan levels (other ∷ at ∷ above) run).results → AllBelow P ids (child ∷ at ∷ above) run.results
    sibling-keeps levels at other child above run walk parent differ after = record {
      each = λ k below is.
          let path = at ∷ above in
          ⊎_elim (λ same. subst (λ o. IsSomeAnd o P) same (after.each k below is))
          (λ under. absurd (differ (same-end below under.0 child other path (one-path k (below ++ child ∷ path) (under.0 ++ other ∷ path) is under.1))))
          (outside levels other path k run (parent, walk) parent.child_within);
    }

    pub siblings-keep : (levels at child : ℕ) (above others : List ℕ) (run : RunState) → IsWalk ids at above → AllByRecursion (IsParentOf ids at) others → (¬ Stands child others)
        → AllBelow P ids (child ∷ at ∷ above) (fold (λ r other. node_run plan levels (other ∷ at ∷ above) r) run others).results → AllBelow P ids (child ∷ at ∷ above) run.results
    siblings-keep levels at child above [] run walk all fresh after = after
    siblings-keep levels at child above (other ∷ more) run walk all fresh after =
        sibling-keeps levels at other child above run walk all.0 (λ same. fresh (inl same))
        (siblings-keep levels at child above more (node_run plan levels (other ∷ at ∷ above) run) walk all.1 (λ there. fresh (inr there)) after)
