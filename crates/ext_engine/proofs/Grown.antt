-- The run of a tree without its lanes: which nodes ran, and where it was stopped.
use Rattle.std.proofs.Common.{◌≡◌, ◌≢◌, ◌<◌, ◌⊎◌, inl, inr, ℕ, zero, suc, Bool, true, false, List, [], ◌∷◌, length, map, ap, sym, subst, ◌∙◌, arith}
use Rattle.std.specs.Prelude.{Contains, All}
use Rattle.std.specs.List.{flat_map}
use Rattle.std.proofs.lemmas.Bool.{cases_lt}
use Rattle.std.proofs.lemmas.List.{map-append}
use Rattle.std.proofs.lemmas.List.Elements.{All-contains, All-head, All-tail}
use Rattle.ext_history.proofs.Lists.{bools, contains_none, contains_here, contains_later, contains_cons}
use Rattle.ext_lifecycle.specs.declared.status.Status.TheVariants as statuses
use Rattle.ext_lifecycle.specs.Modes.{in_run_order}
use Rattle.ext_lifecycle.specs.Results.{skipped_result}
use Rattle.ext_tree.specs.Trees.{Id, IsTree, IsParentOf, IsPathOf, children_of}
use Rattle.ext_tree.proofs.TreeLaws.{parents_list_children}
use Rattle.ext_engine.specs.Suites.{SuiteView}
use Rattle.ext_engine.specs.TreeRun.{Ran}
use Rattle.ext_engine.specs.RunLaws.{nodes_of, HasRun, RanAs, IsBetween}
use Rattle.ext_engine.proofs.Above.{Under, under, at_or_below, under_itself, parent_first, under_order, under_child, under_under, same_child, below_child, within_tree}
use Rattle.ext_history.proofs.Once.{Once, once-append, once-parted, once-from_pairs, contains-parted, contains-from_parted, contains-map, contains-from_map, contains-flat_map, contains-from_flat_map}

-- a node that was run at a place in the order of children, and all that ran below it
abbrev pub Entry : Type 0
Entry = ℕ × List Ran

-- what is told of a node that the suite leaves out
abbrev pub left_out : SuiteView → ℕ → Ran
left_out suite node = record { result = skipped_result node (suite.is_test node); went_on = false }

abbrev pub runs_in : List Entry → List Ran
runs_in done = flat_map (λ e. e.1) done

module _ (ids : List Id) (suite : SuiteView) where
  abbrev pub order : ℕ → List ℕ
  order node = in_run_order suite.is_concurrent (children_of ids node)

module _ (ids : List Id) (suite : SuiteView) (enabled_gives : ℕ → Bool → Type 0) where
  -- a node and its children, of which `Child` says what ran of each
  pub record Grew (Child : ℕ → List Ran → Type 0) (node : ℕ) (ran : List Ran) : Type 0 where
    pub first : Ran
    pub done : List Entry
    pub path : List ℕ
    pub path_is : IsPathOf ids node path
    pub ran_are : ran ≡ first ∷ runs_in done
    pub node_is : first.result.node ≡ node
    pub test_is : first.result.is_test ≡ suite.is_test node
    pub skips : first.result.status ≡ statuses.Skipped → (first ≡ left_out suite node) × enabled_gives node false
    pub goes : first.result.status ≢ statuses.Skipped → enabled_gives node true
    pub each : All (λ e. Child e.0 e.1) done
    pub whole : first.went_on ≡ true → map (λ e. e.0) done ≡ order ids suite node
    pub nothing : first.went_on ≡ false → done ≡ []

  -- and so to so many levels
  abbrev pub Grows : ℕ → ℕ → List Ran → Type 0
  Grows zero node ran = ⊥
  Grows (suc depth) node ran = Grew (λ child below. Grows depth child below) node ran

  module _ (tree : IsTree ids) where
    -- ---- children

    order_child : (node c : ℕ) → node < length ids → Contains (order ids suite node) c → IsParentOf ids node c
    order_child node c within there = (parents_list_children ids node within).child c (contains-from_parted suite.is_concurrent (children_of ids node) c there)

    child_order : (node c : ℕ) → IsParentOf ids node c → Contains (order ids suite node) c
    child_order node c is = contains-parted suite.is_concurrent (children_of ids node) c ((parents_list_children ids node is.parent_within).listed c is)

    order_once : (node : ℕ) → node < length ids → Once (order ids suite node)
    order_once node within = once-parted suite.is_concurrent (children_of ids node) (once-from_pairs (λ a b. a < b) (λ x less. omega (arith, less)) (children_of ids node) (parents_list_children ids node within).order)

    module _ (Child : ℕ → List Ran → Type 0) (node : ℕ) (ran : List Ran) (g : Grew Child node ran) where
      here_within : node < length ids
      here_within = within_tree ids node g.path tree g.path_is

      done_child : (e : Entry) → Contains g.done e → IsParentOf ids node e.0
      done_child e there = elim (bools g.first.went_on) [
        | inl on ↦ order_child node e.0 here_within (subst (λ l. Contains l e.0) (g.whole on) (contains-map (λ x. x.0) g.done e there))
        | inr off ↦ absurd (contains_none e (subst (λ l. Contains l e) (g.nothing off) there))
      ]

      done_once : Once (map (λ e. e.0) g.done)
      done_once = elim (bools g.first.went_on) [
        | inl on ↦ subst Once (sym (g.whole on)) (order_once node here_within)
        | inr off ↦ subst (λ l. Once (map (λ e. e.0) l)) (sym (g.nothing off)) tt
      ]

      done_run : (e : Entry) → Contains g.done e → Child e.0 e.1
      done_run e there = All-contains (λ x. Child x.0 x.1) g.done e g.each there

      -- what ran is the node, or in the run of a child
      parts : (r : Ran) → Contains ran r → (g.first ≡ r) ⊎ ((e : Entry) × Contains g.done e × Contains e.1 r)
      parts r there = elim (contains_cons g.first (runs_in g.done) r (subst (λ l. Contains l r) g.ran_are there)) [
        | inl same ↦ inl same
        | inr later ↦ inr (contains-from_flat_map (λ e. e.1) g.done r later)
      ]

      lifted : (r : Ran) (e : Entry) → Contains g.done e → Contains e.1 r → Contains ran r
      lifted r e there inside = subst (λ l. Contains l r) (sym g.ran_are) (contains_later g.first (runs_in g.done) r (contains-flat_map (λ x. x.1) g.done e r there inside))

      first_ran : Contains ran g.first
      first_ran = subst (λ l. Contains l g.first) (sym g.ran_are) (contains_here g.first (runs_in g.done))

      lifted_as : (e : Entry) (a : ℕ) (on : Bool) → Contains g.done e → RanAs e.1 a on → RanAs ran a on
      lifted_as e a on there it = record { one = it.one; among = lifted it.one e there it.among; node_is = it.node_is; on_is = it.on_is }

      run_lifted : (e : Entry) (k : ℕ) → Contains g.done e → HasRun e.1 k → HasRun ran k
      run_lifted e k there has =
          let at = contains-from_map (λ r. r.result.node) e.1 k has in
          subst (Contains (nodes_of ran)) at.2 (contains-map (λ r. r.result.node) ran at.0 (lifted at.0 e there at.1))

      itself : Under ids node node
      itself = under_itself ids node g.path g.path_is

    -- ---- each node at most once

    pub ran_under : (depth node : ℕ) (ran : List Ran) → Grows depth node ran → (r : Ran) → Contains ran r → Under ids node r.result.node
    ran_under zero node ran g r there = absurd g
    ran_under (suc depth) node ran g r there =
        let Child : ℕ → List Ran → Type 0 = λ child below. Grows depth child below in
        elim (parts Child node ran g r there) [
          | inl same ↦ subst (Under ids node) (sym g.node_is ∙ ap (λ x. x.result.node) same) (itself Child node ran g)
          | inr part ↦ under_child ids tree node part.0.0 r.result.node (done_child Child node ran g part.0 part.1) (ran_under depth part.0.0 part.0.1 (done_run Child node ran g part.0 part.1) r part.2)
        ]

    pub node_under : (depth node : ℕ) (ran : List Ran) → Grows depth node ran → (k : ℕ) → HasRun ran k → Under ids node k
    node_under depth node ran g k has =
        let at = contains-from_map (λ r. r.result.node) ran k has in
        subst (Under ids node) at.2 (ran_under depth node ran g at.0 at.1)

    module _ (depth node : ℕ) (child_once : (child : ℕ) (below : List Ran) → Grows depth child below → Once (nodes_of below)) where
      entries_once : (done : List Entry) → ((e : Entry) → Contains done e → IsParentOf ids node e.0) → All (λ e. Grows depth e.0 e.1) done → Once (map (λ e. e.0) done) → Once (nodes_of (runs_in done))
      entries_once [] children all once = tt
      entries_once (e ∷ rest) children all once =
          let P : Entry → Type 0 = λ x. Grows depth x.0 x.1 in
          let here : Grows depth e.0 e.1 = All-head P e rest all in
          let later : All P rest = All-tail P e rest all in
          let apart : (k : ℕ) → Contains (nodes_of e.1) k → Contains (nodes_of (runs_in rest)) k → ⊥ = λ k left right.
          let at = contains-from_map (λ r. r.result.node) (runs_in rest) k right in
          let part = contains-from_flat_map (λ x. x.1) rest at.0 at.1 in
          let other : Under ids part.0.0 k = subst (Under ids part.0.0) at.2 (ran_under depth part.0.0 part.0.1 (All-contains P rest part.0 later part.1) at.0 part.2) in
          let same : e.0 ≡ part.0.0 = same_child ids tree node e.0 part.0.0 k (children e (contains_here e rest)) (children part.0 (contains_later e rest part.0 part.1)) (node_under depth e.0 e.1 here k left) other in
          once.0 (subst (Contains (map (λ x. x.0) rest)) (sym same) (contains-map (λ x. x.0) rest part.0 part.1)) in
          subst Once (sym (map-append (λ r. r.result.node) e.1 (runs_in rest)))
          (once-append (nodes_of e.1) (nodes_of (runs_in rest)) (child_once e.0 e.1 here) (entries_once rest (λ x there. children x (contains_later e rest x there)) later once.1) apart)

    pub ran_once : (depth node : ℕ) (ran : List Ran) → Grows depth node ran → Once (nodes_of ran)
    ran_once zero node ran g = absurd g
    ran_once (suc depth) node ran g =
        let Child : ℕ → List Ran → Type 0 = λ child below. Grows depth child below in
        let rest : Once (nodes_of (runs_in g.done)) = entries_once depth node (ran_once depth) g.done (done_child Child node ran g) g.each (done_once Child node ran g) in
        let fresh : ¬ Contains (nodes_of (runs_in g.done)) g.first.result.node = λ there.
        let at = contains-from_map (λ r. r.result.node) (runs_in g.done) g.first.result.node there in
        let part = contains-from_flat_map (λ x. x.1) g.done at.0 at.1 in
        let child = parent_first ids tree node part.0.0 (done_child Child node ran g part.0 part.1) in
        let below = under_order ids tree part.0.0 at.0.result.node (ran_under depth part.0.0 part.0.1 (done_run Child node ran g part.0 part.1) at.0 part.2) in
        let same = at.2 ∙ g.node_is in
        absurd (omega (arith, child, below, same)) in
        subst (λ l. Once (nodes_of l)) (sym g.ran_are) (fresh, rest)

    pub kind_told : (depth node : ℕ) (ran : List Ran) → Grows depth node ran → (r : Ran) → Contains ran r → r.result.is_test ≡ suite.is_test r.result.node
    kind_told zero node ran g r there = absurd g
    kind_told (suc depth) node ran g r there =
        let Child : ℕ → List Ran → Type 0 = λ child below. Grows depth child below in
        elim (parts Child node ran g r there) [
          | inl same ↦ subst (λ x. x.result.is_test ≡ suite.is_test x.result.node) same (g.test_is ∙ ap suite.is_test (sym g.node_is))
          | inr part ↦ kind_told depth part.0.0 part.0.1 (done_run Child node ran g part.0 part.1) r part.2
        ]

    pub left_only : (depth node : ℕ) (ran : List Ran) → Grows depth node ran → (r : Ran) → Contains ran r → r.result.status ≡ statuses.Skipped
        → (r ≡ left_out suite r.result.node) × enabled_gives r.result.node false
    left_only zero node ran g r there skipped = absurd g
    left_only (suc depth) node ran g r there skipped =
        let Child : ℕ → List Ran → Type 0 = λ child below. Grows depth child below in
        elim (parts Child node ran g r there) [
          | inl same ↦
              let at : node ≡ r.result.node = sym g.node_is ∙ ap (λ x. x.result.node) same in
              let told = g.skips (ap (λ x. x.result.status) same ∙ skipped) in
              (sym same ∙ told.0 ∙ ap (left_out suite) at, subst (λ n. enabled_gives n false) at told.1)
          | inr part ↦ left_only depth part.0.0 part.0.1 (done_run Child node ran g part.0 part.1) r part.2 skipped
        ]

    pub enabled_only : (depth node : ℕ) (ran : List Ran) → Grows depth node ran → (r : Ran) → Contains ran r → r.result.status ≢ statuses.Skipped → enabled_gives r.result.node true
    enabled_only zero node ran g r there not_skipped = absurd g
    enabled_only (suc depth) node ran g r there not_skipped =
        let Child : ℕ → List Ran → Type 0 = λ child below. Grows depth child below in
        elim (parts Child node ran g r there) [
          | inl same ↦ subst (λ n. enabled_gives n true) (sym g.node_is ∙ ap (λ x. x.result.node) same) (g.goes (λ skipped. not_skipped (sym (ap (λ x. x.result.status) same) ∙ skipped)))
          | inr part ↦ enabled_only depth part.0.0 part.0.1 (done_run Child node ran g part.0 part.1) r part.2 not_skipped
        ]

    -- ---- what ran, and what was skipped

    -- above a node that ran each node went on
    pub went_between : (depth node : ℕ) (ran : List Ran) → Grows depth node ran → (k : ℕ) → HasRun ran k → (a : ℕ) → Under ids node a → Under ids a k → a ≢ k → RanAs ran a true
    went_between zero node ran g k has a above below differ = absurd g
    went_between (suc depth) node ran g k has a above below differ =
        let Child : ℕ → List Ran → Type 0 = λ child under_it. Grows depth child under_it in
        let at = contains-from_map (λ r. r.result.node) ran k has in
        elim (parts Child node ran g at.0 at.1) [
          | inl same ↦
              let is : node ≡ k = sym g.node_is ∙ ap (λ x. x.result.node) same ∙ at.2 in
              let low = under_order ids tree node a above in
              let high = under_order ids tree a k below in
              absurd (differ (omega (arith, is, low, high)))
          | inr part ↦ elim (bools g.first.went_on) [
            | inr off ↦ absurd (contains_none part.0 (subst (λ l. Contains l part.0) (g.nothing off) part.1))
            | inl on ↦ elim (cases_lt node a) [
              | inr most ↦
                  let low = under_order ids tree node a above in
                  record { one = g.first; among = first_ran Child node ran g; node_is = g.node_is ∙ omega (arith, low, most); on_is = on }
              | inl less ↦
                  let c = below_child ids tree node a above (λ same. omega (arith, same, less)) in
                  let child = done_child Child node ran g part.0 part.1 in
                  let run = done_run Child node ran g part.0 part.1 in
                  let inside : Under ids part.0.0 k = subst (Under ids part.0.0) at.2 (ran_under depth part.0.0 part.0.1 run at.0 part.2) in
                  let same : c.0 ≡ part.0.0 = same_child ids tree node c.0 part.0.0 k c.1 child (under_under ids tree c.0 a k c.2 below) inside in
                  let has_there : HasRun part.0.1 k = subst (Contains (nodes_of part.0.1)) at.2 (contains-map (λ r. r.result.node) part.0.1 at.0 part.2) in
                  lifted_as Child node ran g part.0 a true part.1
                  (went_between depth part.0.0 part.0.1 run k has_there a (subst (λ x. Under ids x a) same c.2) below differ)
            ]
          ]
        ]

    -- a node below which is not to be run
    abbrev pub IsStopped : ℕ → List Ran → ℕ → Type 0
    IsStopped top ran k = (a : ℕ) × IsBetween ids top a k × RanAs ran a false

    between_lifted : (top child a k : ℕ) → IsParentOf ids top child → IsBetween ids child a k → IsBetween ids top a k
    between_lifted top child a k is b = record { within = at_or_below ids top a (under_child ids tree top child a is (under ids child a b.within)); below = b.below; other_node = b.other_node }

    -- each node ran, or one above it stopped the run
    pub ran_or_stopped : (depth node : ℕ) (ran : List Ran) → Grows depth node ran → (k : ℕ) → Under ids node k → HasRun ran k ⊎ IsStopped node ran k
    ran_or_stopped zero node ran g k below = absurd g
    ran_or_stopped (suc depth) node ran g k below =
        let Child : ℕ → List Ran → Type 0 = λ child under_it. Grows depth child under_it in
        elim (cases_lt node k) [
          | inr most ↦
              let least = under_order ids tree node k below in
              let is : g.first.result.node ≡ k = g.node_is ∙ omega (arith, least, most) in
              inl (subst (Contains (nodes_of ran)) is (contains-map (λ r. r.result.node) ran g.first (first_ran Child node ran g)))
          | inl less ↦ elim (bools g.first.went_on) [
            | inr off ↦ inr (
              node,
              record { within = at_or_below ids node node (itself Child node ran g); below = at_or_below ids node k below; other_node = λ same. omega (arith, same, less) },
              record { one = g.first; among = first_ran Child node ran g; node_is = g.node_is; on_is = off },
            )
            | inl on ↦
                let c = below_child ids tree node k below (λ same. omega (arith, same, less)) in
                let entry = contains-from_map (λ e. e.0) g.done c.0 (subst (λ l. Contains l c.0) (sym (g.whole on)) (child_order node c.0 c.1)) in
                elim (ran_or_stopped depth entry.0.0 entry.0.1 (done_run Child node ran g entry.0 entry.1) k (subst (λ x. Under ids x k) (sym entry.2) c.2)) [
                  | inl has ↦ inl (run_lifted Child node ran g entry.0 k entry.1 has)
                  | inr stop ↦ inr (stop.0, between_lifted node entry.0.0 stop.0 k (done_child Child node ran g entry.0 entry.1) stop.1, lifted_as Child node ran g entry.0 stop.0 false entry.1 stop.2)
                ]
          ]
        ]
