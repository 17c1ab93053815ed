-- The laws of runs of trees.
use Rattle.std.proofs.Common.{◌≡◌, ◌⊎◌, inl, inr, ℕ, Bool, true, false, List, length, ap, sym, ◌∙◌}
use Rattle.std.specs.Prelude.{◌<◌, ◌↔◌, Contains, Some, slice_get}
use Rattle.ext_model.specs.declared.look.Fault.{Fault}
use Rattle.ext_lifecycle.specs.declared.status.Status.TheVariants as statuses
use Rattle.ext_lifecycle.specs.Results.{ResultOf}
use Rattle.std.proofs.lemmas.List.Elements.{All-contains_itself, All-weaker}
use Rattle.ext_tree.specs.Trees.{Id, IsTree}
use Rattle.ext_engine.specs.Suites.{SuiteView}
use Rattle.ext_engine.specs.TreeRun.{Ran, all_results}
use Rattle.ext_engine.specs.RunLaws.{IsOneEach, IsRunOnce, IsSkippedExactly, IsAtOrBelow, IsBetween, IsLeftOut, RanAs, HasRun, nodes_of}
use Rattle.ext_engine.proofs.Above.{at_or_below, under, under_root, within_tree}
use Rattle.ext_history.proofs.Once.{one-image, once-pairs}
use Rattle.ext_engine.proofs.OneEach.{one_each, place_within}
use Rattle.ext_engine.proofs.Grown.{Grows, enabled_only, kind_told, left_only, ran_once, ran_under, node_under, went_between, ran_or_stopped}

module _ (ids : List Id) (suite : SuiteView) (enabled_gives : ℕ → Bool → Type 0) (tree : IsTree ids) (depth top : ℕ) (ran : List Ran) (g : Grows ids suite enabled_gives depth top ran) where
  pub runs_once : IsRunOnce ids top ran
  runs_once = record {
    once = once-pairs (nodes_of ran) (ran_once ids suite enabled_gives tree depth top ran g);
    none_else = All-weaker (Contains (nodes_of ran)) (IsAtOrBelow ids top) (λ k there. at_or_below ids top k (node_under ids suite enabled_gives tree depth top ran g k there)) (nodes_of ran) (All-contains_itself (nodes_of ran));
  }

  -- a node does not run in two ways
  one_way : (a : ℕ) → RanAs ran a true → RanAs ran a false → ⊥
  one_way a went stopped =
      let same : went.one ≡ stopped.one = one-image (λ r. r.result.node) ran went.one stopped.one (ran_once ids suite enabled_gives tree depth top ran g) went.among stopped.among (went.node_is ∙ sym stopped.node_is) in
      let e : true ≡ false = sym went.on_is ∙ ap (λ r. r.went_on) same ∙ stopped.on_is in
      cc

  went : (node : ℕ) → HasRun ran node → (above : ℕ) → IsBetween ids top above node → RanAs ran above true
  went node has above b = went_between ids suite enabled_gives tree depth top ran g node has above (under ids top above b.within) (under ids above node b.below) b.other_node

  pub skips_exactly : (node : ℕ) → IsAtOrBelow ids top node → IsSkippedExactly ids top ran node
  skips_exactly node at =
      let told = ran_or_stopped ids suite enabled_gives tree depth top ran g node (under ids top node at) in
      record {
        runs = (went node, λ all. elim told [ inl has ↦ has | inr stop ↦ absurd (one_way stop.0 (all stop.0 stop.1) stop.2) ]);
        skipped = ((λ not_run. elim told [ inl has ↦ absurd (not_run has) | inr stop ↦ stop ]), λ stop. λ has. one_way stop.0 (went node has stop.0 stop.1) stop.2);
      }

-- each node that ran is a context of the tree
pub ran_within : (ids : List Id) (suite : SuiteView) (enabled_gives : ℕ → Bool → Type 0) (tree : IsTree ids) (depth : ℕ) (ran : List Ran) → Grows ids suite enabled_gives depth 0 ran → (r : Ran) → Contains ran r → r.result.node < length ids
ran_within ids suite enabled_gives tree depth ran g r there =
    let at = at_or_below ids 0 r.result.node (ran_under ids suite enabled_gives tree depth 0 ran g r there) in
    within_tree ids r.result.node at.path tree at.path_is

-- one result a node, of a run of the whole tree
pub one_result_each : (ids : List Id) (suite : SuiteView) (enabled_gives : ℕ → Bool → Type 0) (tree : IsTree ids) (depth : ℕ) (ran : List Ran) → Grows ids suite enabled_gives depth 0 ran
    → IsOneEach suite enabled_gives (length ids) ran (all_results suite (length ids) ran)
one_result_each ids suite enabled_gives tree depth ran g =
    one_each suite enabled_gives (length ids) ran (ran_once ids suite enabled_gives tree depth 0 ran g)
    (ran_within ids suite enabled_gives tree depth ran g)
    (kind_told ids suite enabled_gives tree depth 0 ran g) (left_only ids suite enabled_gives tree depth 0 ran g) (enabled_only ids suite enabled_gives tree depth 0 ran g)

-- and a result tells whether a node above stopped the run
pub skipped_below : (ids : List Id) (suite : SuiteView) (enabled_gives : ℕ → Bool → Type 0) (tree : IsTree ids) (depth : ℕ) (ran : List Ran) → Grows ids suite enabled_gives depth 0 ran → (node : ℕ) (result : ResultOf Fault)
    → slice_get (all_results suite (length ids) ran) node ≡ Some result → (result.status ≡ statuses.Skipped)
    ↔ (((above : ℕ) × IsBetween ids 0 above node × RanAs ran above false) ⊎ IsLeftOut suite enabled_gives ran node)
skipped_below ids suite enabled_gives tree depth ran g node result is =
    let results = one_result_each ids suite enabled_gives tree depth ran g in
    let less : node < length ids = place_within (all_results suite (length ids) ran) (length ids) node result results.nodes is in
    let told = results.status node result is in
    let exactly = (skips_exactly ids suite enabled_gives tree depth 0 ran g node (at_or_below ids 0 node (under_root ids tree node less))).skipped in (
      (λ skipped. elim (told.0 skipped) [ inl not_run ↦ inl (exactly.0 not_run) | inr left ↦ inr left ]),
      λ why. told.1 (elim why [ inl stop ↦ inl (exactly.1 stop) | inr left ↦ inr left ]),
    )
