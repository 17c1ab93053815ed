-- How many values were computed below the children of a container: by some children and then others, and by all that are run beside one another.
use Rattle.std.proofs.Common.{◌≡◌, ℕ, suc, ◌+◌, ◌<◌, List, [], ◌∷◌, ◌++◌, length, take, sym, subst, ap, arith}
use Rattle.ext_one_report.proofs.Shared.{SharesAbove}
use Rattle.std.specs.Prelude.{Contains, Some, slice_get, slice_index_or}
use Rattle.std.specs.List.{flat_map}
use Rattle.ext_history.proofs.Lists.{contains_here, contains_later}
use Rattle.ext_history.proofs.Once.{Once}
use Rattle.ext_tree.specs.Trees.{IsTree}
use Rattle.ext_engine.specs.RunLaws.{HasRun}
use Rattle.ext_engine.specs.TreeRun.{Ran}
use Rattle.ext_engine.proofs.Above.{Under, same_child}
use Rattle.ext_plan_plain.specs.PlainRun.{RunState, node_run}
use Rattle.ext_one_report.proofs.Below.{TellsBelow, all_below, one_below}
use Rattle.ext_one_report.proofs.ChildLists.{only}
use Rattle.ext_one_report.proofs.Fills.{computed_of, computed_told}
use Rattle.ext_one_report.proofs.FillsCounts.{of_both, told_both, told_later}
use Rattle.ext_one_report.proofs.SharedNodesBasis.{plan_tree}
use Rattle.ext_one_report.proofs.SharedNodesBody.{Ground, IsChild, after_all, ids, step}
use Rattle.ext_one_report.proofs.SharedNodesResults.{near_none, near_then}
use Rattle.ext_one_report.proofs.SharedNodesWords.{AllResultsNear}

module _ (g : Ground) where
  -- what is told of nodes below these children
  abbrev pub Below : List ℕ → List Ran → RunState → RunState → Type 0
  Below children ran a b =
      TellsBelow (ids g) (plan_tree g.plan g.run g.locks g.h g.touched g.changes g.changed g.shares g.basis) g.node (λ r child. node_run g.plan g.levels (child ∷ g.path) r) (AllResultsNear (SharesAbove g.plan g.shares)) (near_none (SharesAbove g.plan g.shares)) (near_then (SharesAbove g.plan g.shares)) children ran a b

  abbrev pub tree_is : IsTree (ids g)
  tree_is = plan_tree g.plan g.run g.locks g.h g.touched g.changes g.changed g.shares g.basis

  -- ---- some children, and then others

  module _ (xs ys : List ℕ) (first second : List Ran) (a b c : RunState) (xs_children : (x : ℕ) → Contains xs x → IsChild g x) (ys_children : (x : ℕ) → Contains ys x → IsChild g x)
      (apart : (x : ℕ) → Contains xs x → Contains ys x → ⊥) (one : Below xs first a b) (two : Below ys second b c) where
    -- no node is below children of both
    runs_apart : (k : ℕ) → HasRun first k → HasRun second k → ⊥
    runs_apart k early late =
        let x = one.under k early in
        let y = two.under k late in
        let same = same_child (ids g) tree_is g.node x.0 y.0 k (xs_children x.0 x.1) (ys_children y.0 y.1) x.2 y.2 in
        apart y.0 (subst (Contains xs) same x.1) y.1

    pub told_first_then : computed_told (first ++ second) c.results ≡ computed_told first b.results + computed_told second c.results
    told_first_then =
        let stays = told_later first b.results c.results (λ node has. two.told.others node (λ late. runs_apart node has late)) in
        let sum = told_both first second c.results in
        omega (arith, stays, sum)

  -- ---- all of them

  -- of a child it is told what these did
  pub record CountedAt (cs : List ℕ) (beside : List (List Ran)) (r : RunState) (runs : ℕ → List Ran) (i : ℕ) : Type 0 where
    pub stands : slice_get beside i ≡ Some (runs i)
    pub told : AllResultsNear (SharesAbove g.plan g.shares) (runs i) (after_all g r (take i cs)).results (step g (after_all g r (take i cs)) (slice_index_or cs i 0)).results
    pub under : (k : ℕ) → HasRun (runs i) k → Under (ids g) (slice_index_or cs i 0) k

  -- `lanes` and `plain` go up by what the children compute
  pub counted_all : (cs : List ℕ) (beside : List (List Ran)) (r : RunState) (runs : ℕ → List Ran) (lanes plain : ℕ → ℕ) → length beside ≡ length cs → Once cs → ((x : ℕ) → Contains cs x → IsChild g x)
      → ((i : ℕ) → i < length cs → CountedAt cs beside r runs i) → ((i : ℕ) → i < length cs → lanes (suc i) ≡ lanes i + computed_of (runs i))
      → ((i : ℕ) → i < length cs → plain (suc i) ≡ plain i + computed_told (runs i) (step g (after_all g r (take i cs)) (slice_index_or cs i 0)).results)
      → (lanes (length cs) ≡ lanes 0 + computed_of (flat_map (λ ran. ran) beside)) × (plain (length cs) ≡ plain 0 + computed_told (flat_map (λ ran. ran) beside) (after_all g r cs).results)
  counted_all [] [] r runs lanes plain same once children each more others = (omega arith, omega arith)
  counted_all [] (b ∷ beside) r runs lanes plain same once children each more others = absurd (omega (arith, same))
  counted_all (c ∷ cs) [] r runs lanes plain same once children each more others = absurd (omega (arith, same))
  counted_all (c ∷ cs) (b ∷ beside) r runs lanes plain same once children each more others =
      let mid = step g r c in
      let first = each 0 (omega arith) in
      let is : runs 0 ≡ b = let e : Some b ≡ Some (runs 0) = first.stands in sym (cc e) in
      let later_children : (x : ℕ) → Contains cs x → IsChild g x = λ x there. children x (contains_later c cs x there) in
      let later : (i : ℕ) → i < length cs → CountedAt cs beside mid (λ i. runs (suc i)) i =
      λ i less. let e = each (suc i) (omega (arith, less)) in record { stands = e.stands; told = e.told; under = e.under } in
      let rest = counted_all cs beside mid (λ i. runs (suc i)) (λ i. lanes (suc i)) (λ i. plain (suc i)) (omega (arith, same)) once.1 later_children later
      (λ i less. more (suc i) (omega (arith, less))) (λ i less. others (suc i) (omega (arith, less))) in
      let one : Below (c ∷ []) b r mid =
      subst (λ (l : List Ran). Below (c ∷ []) l r mid) is
      (one_below (ids g) tree_is g.node (λ r child. node_run g.plan g.levels (child ∷ g.path) r) (AllResultsNear (SharesAbove g.plan g.shares)) (near_none (SharesAbove g.plan g.shares)) (near_then (SharesAbove g.plan g.shares)) c (runs 0) r mid first.told first.under) in
      let two : Below cs (flat_map (λ ran. ran) beside) mid (after_all g mid cs) =
      all_below (ids g) tree_is g.node (λ r child. node_run g.plan g.levels (child ∷ g.path) r) (AllResultsNear (SharesAbove g.plan g.shares)) (near_none (SharesAbove g.plan g.shares)) (near_then (SharesAbove g.plan g.shares)) cs beside mid (omega (arith, same)) once.1 later_children
      (λ i less. let e = later i less in record { ran = runs (suc i); stands = e.stands; told = e.told; under = e.under }) in
      let told = told_first_then (c ∷ []) cs b (flat_map (λ ran. ran) beside) r mid (after_all g mid cs) (λ x there. children x (subst (Contains (c ∷ cs)) (only c x there) (contains_here c cs))) later_children
      (λ x there also. once.0 (subst (Contains cs) (sym (only c x there)) also)) one two in
      let both = of_both b (flat_map (λ ran. ran) beside) in
      let mine = more 0 (omega arith) in
      let theirs = others 0 (omega arith) in
      let mine_is = ap computed_of is in
      let theirs_is = ap (λ (l : List Ran). computed_told l mid.results) is in
      (omega (arith, rest.0, both, mine, mine_is), omega (arith, rest.1, told, theirs, theirs_is))
