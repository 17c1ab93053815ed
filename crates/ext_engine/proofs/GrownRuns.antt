-- What the run of a tree says of its nodes alone, whatever it does to its lanes.
use Rattle.std.proofs.Common.{◌≡◌, ◌≢◌, ◌<◌, inl, inr, ℕ, zero, suc, true, false, List, [], ◌∷◌, ◌++◌, length, map, refl, ap, ap₂, sym, subst, ◌∙◌, arith}
use Rattle.std.specs.Prelude.{All, Option, Some, None, slice_get, slice_index_or}
use Rattle.std.specs.List.{FoldsTo, flat_map}
use Rattle.std.proofs.lemmas.List.{map-append}
use Rattle.std.proofs.lemmas.List.Concat.{flat_map-append}
use Rattle.std.proofs.lemmas.List.Elements.{All-append, All-cons}
use Rattle.ext_history.proofs.Lists.{bools}
use Rattle.ext_model.specs.declared.look.Fault.{Fault}
use Rattle.ext_lifecycle.specs.declared.status.Status.TheVariants as statuses
use Rattle.ext_lifecycle.specs.Endings.{all_successful, first_abort, first_fault, total_by, unsuccessful}
use Rattle.ext_lifecycle.specs.Lifecycle.{computed_in, endings_of, found_in}
use Rattle.ext_lifecycle.specs.Modes.{in_run_order}
use Rattle.ext_lifecycle.specs.Results.{close_ending, result_of, skipped_result}
use Rattle.ext_tree.specs.Trees.{IsTree, IsPathOf, children_of}
use Rattle.ext_crew.proofs.RunLaws.{run-outcome}
use Rattle.ext_engine.specs.TreeRun.{Ran, TreeSetting, Lanes, TreeRun, IsDisabled, TestRun, ContainerRun, BodyRun, IsRunnable, concurrent_children, with_lanes}
use Rattle.ext_engine.proofs.Above.{within_tree}
use Rattle.ext_engine.proofs.Grown.{Entry, runs_in, order, Grows}

not_skipped : (fault abort : Option Fault) (count : ℕ) → (total_by fault abort count).status ≢ statuses.Skipped
not_skipped (Some fault) abort count = λ is. absurd cc
not_skipped None (Some abort) count = λ is. absurd cc
not_skipped None None count = λ is. absurd cc

-- ---- children with what ran of each

abbrev paired : List ℕ → List (List Ran) → List Entry
paired [] runs = []
paired (c ∷ cs) [] = []
paired (c ∷ cs) (run ∷ runs) = (c, run) ∷ paired cs runs

paired-nodes : (cs : List ℕ) (runs : List (List Ran)) → length runs ≡ length cs → map (λ e. e.0) (paired cs runs) ≡ cs
paired-nodes [] runs same = refl
paired-nodes (c ∷ cs) [] same = absurd (omega (arith, same))
paired-nodes (c ∷ cs) (run ∷ runs) same = ap (λ l. c ∷ l) (paired-nodes cs runs (omega (arith, same)))

paired-runs : (cs : List ℕ) (runs : List (List Ran)) → length runs ≡ length cs → runs_in (paired cs runs) ≡ flat_map (λ ran. ran) runs
paired-runs [] [] same = refl
paired-runs [] (run ∷ runs) same = absurd (omega (arith, same))
paired-runs (c ∷ cs) [] same = absurd (omega (arith, same))
paired-runs (c ∷ cs) (run ∷ runs) same = ap (λ l. run ++ l) (paired-runs cs runs (omega (arith, same)))

some_is : {X : Type 0} (x y : X) → Some x ≡ Some y → x ≡ y
some_is x y same = cc

-- what ran of the child at a place
record IsRunAt (P : ℕ → List Ran → Type 0) (cs : List ℕ) (runs : List (List Ran)) (i : ℕ) : Type 0 where
  one : List Ran
  stands : slice_get runs i ≡ Some one
  holds : P (slice_index_or cs i 0) one

paired-all : (P : ℕ → List Ran → Type 0) (cs : List ℕ) (runs : List (List Ran)) → length runs ≡ length cs → ((i : ℕ) → i < length cs → IsRunAt P cs runs i) → All (λ e. P e.0 e.1) (paired cs runs)
paired-all P [] runs same at = λ k d less. absurd (omega (arith, less))
paired-all P (c ∷ cs) [] same at = absurd (omega (arith, same))
paired-all P (c ∷ cs) (run ∷ runs) same at =
    let first = at zero (omega arith) in
    let is : run ≡ first.one = some_is run first.one first.stands in
    All-cons (λ e. P e.0 e.1) (c, run) (paired cs runs) (subst (P c) (sym is) first.holds)
    (paired-all P cs runs (omega (arith, same)) (λ i less. let later = at (suc i) (omega (arith, less)) in record { one = later.one; stands = later.stands; holds = later.holds }))

module _ {V : Type 0} (Run : ℕ → Lanes V → List Ran → Lanes V → Type 0) (P : ℕ → List Ran → Type 0) (at : (c : ℕ) (s : Lanes V) (below : List Ran) (u : Lanes V) → Run c s below u → P c below) where
  turn-all : (done : List Entry) (s u : Lanes V) → FoldsTo (λ s d u. Run d.0 s d.1 u) s done u → All (λ e. P e.0 e.1) done
  turn-all [] s u run = λ k d less. absurd (omega (arith, less))
  turn-all (e ∷ done) s u run = All-cons (λ x. P x.0 x.1) e done (at e.0 s e.1 run.0 run.1) (turn-all done run.0 u run.2)

-- ---- the run of a node

module _ {V A : Type 0} (t : TreeSetting V A) (tree : IsTree t.store.tree) (fit : IsRunnable t.store t.locks t.suite) where
  -- all children of a container whose body was run
  record Bodied (P : ℕ → List Ran → Type 0) (node : ℕ) (below : List Ran) : Type 0 where
    done : List Entry
    runs_are : below ≡ runs_in done
    nodes_are : map (λ e. e.0) done ≡ order t.store.tree t.suite node
    each : All (λ e. P e.0 e.1) done

  module _ (Run : ℕ → Lanes V → List Ran → Lanes V → Type 0) (P : ℕ → List Ran → Type 0) (at : (c : ℕ) (s : Lanes V) (below : List Ran) (u : Lanes V) → Run c s below u → P c below) where
    bodied : (node : ℕ) (before : Lanes V) (below : List Ran) (after : Lanes V) → BodyRun t Run node before below after → Bodied P node below
    bodied node before below after b =
        let cs = concurrent_children t node in
        let runs : ℕ → Lanes V → List Ran → Lanes V → Type 0 = λ i s ran u. Run (slice_index_or cs i 0) s ran u in
        let same : length b.beside ≡ length cs = b.dealt.outcome_count in
        let first = paired cs b.beside in
        let second = b.in_turn.done in
        record {
          done = first ++ second;
          runs_are = b.below_are ∙ ap₂ (λ x y. x ++ y) (sym (paired-runs cs b.beside same)) b.in_turn.ran_are ∙ sym (flat_map-append (λ e. e.1) first second);
          nodes_are = map-append (λ e. e.0) first second ∙ ap₂ (λ x y. x ++ y) (paired-nodes cs b.beside same) b.in_turn.each;
          each = All-append (λ e. P e.0 e.1) first second
              (paired-all P cs b.beside same (λ i less. let o = run-outcome runs b.beside (length cs) _ (with_lanes b.forked before) b.between b.dealt i less in
              record { one = o.outcome; stands = o.stands; holds = at (slice_index_or cs i 0) o.before o.outcome o.after o.run }))
              (turn-all Run P at second (with_lanes b.joined b.between) after b.in_turn.runs);
        }

  test_grown : (depth node : ℕ) (path : List ℕ) (before : Lanes V) (ran : List Ran) (after : Lanes V) → IsPathOf t.store.tree node path → t.suite.is_test node ≡ true → t.enabled_gives node true
      → TestRun t node path before ran after → Grows t.store.tree t.suite t.enabled_gives (suc depth) node ran
  test_grown depth node path before ran after is test enabled run =
      let ends = endings_of run.outcomes ++ map close_ending run.faults in
      let none : children_of t.store.tree node ≡ [] = fit.below node (within_tree t.store.tree node path tree is) test in
      record {
        first = record { result = result_of node true (endings_of run.outcomes) (computed_in run.outcomes) (found_in run.outcomes) run.faults; went_on = true };
        done = [];
        path = path;
        path_is = is;
        ran_are = run.ran_is;
        node_is = refl;
        test_is = sym test;
        skips = λ skipped. absurd (not_skipped (first_fault ends) (first_abort ends) (unsuccessful ends) skipped);
        goes = λ _. enabled;
        each = λ k d less. absurd (omega (arith, less));
        whole = λ on. sym (ap (in_run_order t.suite.is_concurrent) none);
        nothing = λ off. refl;
      }

  container_grown : (depth node : ℕ) (path : List ℕ) (before : Lanes V) (ran : List Ran) (after : Lanes V) → IsPathOf t.store.tree node path
      → (Run : ℕ → Lanes V → List Ran → Lanes V → Type 0) → ((c : ℕ) (s : Lanes V) (below : List Ran) (u : Lanes V) → Run c s below u → Grows t.store.tree t.suite t.enabled_gives depth c below)
      → t.suite.is_test node ≡ false → t.enabled_gives node true → ContainerRun t Run node path before ran after → Grows t.store.tree t.suite t.enabled_gives (suc depth) node ran
  container_grown depth node path before ran after is Run at container enabled run =
      let calls = run.befores ++ run.ends.afters in
      let ends = endings_of calls ++ map close_ending run.ends.faults in
      let P : ℕ → List Ran → Type 0 = λ c below. Grows t.store.tree t.suite t.enabled_gives depth c below in
      let opened : Lanes V = record { first = run.opened; second = before.second } in
      let first : Ran = record { result = result_of node false (endings_of calls) (computed_in calls) (found_in calls) run.ends.faults; went_on = all_successful (endings_of run.befores) } in
      let status = not_skipped (first_fault ends) (first_abort ends) (unsuccessful ends) in
      elim (bools (all_successful (endings_of run.befores))) [
        | inl on ↦
            let b = bodied Run P at node opened run.below run.body (run.body_made.made on) in
            record {
              first = first;
              done = b.done;
              path = path;
              path_is = is;
              ran_are = run.ran_are ∙ ap (λ r. r ∷ run.below) run.ends.own_is ∙ ap (λ l. first ∷ l) b.runs_are;
              node_is = refl;
              test_is = sym container;
              skips = λ skipped. absurd (status skipped);
              goes = λ _. enabled;
              each = b.each;
              whole = λ yes_on. b.nodes_are;
              nothing = λ off. absurd (let e : true ≡ false = sym on ∙ off in cc);
            }
        | inr off ↦ record {
          first = first;
          done = [];
          path = path;
          path_is = is;
          ran_are = run.ran_are ∙ ap (λ r. r ∷ run.below) run.ends.own_is ∙ ap (λ l. first ∷ l) (run.body_made.skipped off).0;
          node_is = refl;
          test_is = sym container;
          skips = λ skipped. absurd (status skipped);
          goes = λ _. enabled;
          each = λ k d less. absurd (omega (arith, less));
          whole = λ on. absurd (let e : true ≡ false = sym on ∙ off in cc);
          nothing = λ no_on. refl;
        }
      ]

  disabled_grown : (depth node : ℕ) (path : List ℕ) (before : Lanes V) (ran : List Ran) (after : Lanes V) → IsPathOf t.store.tree node path
      → IsDisabled t node before ran after → Grows t.store.tree t.suite t.enabled_gives (suc depth) node ran
  disabled_grown depth node path before ran after is left = record {
    first = record { result = skipped_result node (t.suite.is_test node); went_on = false };
    done = [];
    path = path;
    path_is = is;
    ran_are = left.ran_is;
    node_is = refl;
    test_is = refl;
    skips = λ skipped. (refl, left.allowed);
    goes = λ ran. absurd (ran refl);
    each = λ k d less. absurd (omega (arith, less));
    whole = λ on. absurd cc;
    nothing = λ off. refl;
  }

  pub grown : (depth node : ℕ) (before : Lanes V) (ran : List Ran) (after : Lanes V) → TreeRun t depth node before ran after → Grows t.store.tree t.suite t.enabled_gives depth node ran
  grown zero node before ran after run = absurd run
  grown (suc depth) node before ran after run = elim run.2 [
    | inl left ↦ disabled_grown depth node run.0 before ran after run.1 left
    | inr on ↦ elim (bools (t.suite.is_test node)) [
      | inl test ↦ test_grown depth node run.0 before ran after run.1 test on.2 (on.0 test)
      | inr container ↦ container_grown depth node run.0 before ran after run.1 (λ child s below u. TreeRun t depth child s below u) (λ c s below u r. grown depth c s below u r) container on.2 (on.1 container)
    ]
  ]
