-- The parts of a container's run, and of a test's.
use Rattle.std.proofs.Common.{◌≡◌, ◌≢◌, ◌⊎◌, inl, inr, ℕ, ◌<◌, ◌≤◌, zero, suc, min, List, [], ◌∷◌, length, map, ap, sym, subst, refl, arith}
use Rattle.std.specs.Prelude.{All, AllPairs, Contains, Some, not, slice_index_or}
use Rattle.std.specs.List.{FoldsTo}
use base.Growing.{prefix_trans}
use Rattle.std.proofs.lemmas.Bool.{cases_order}
use Rattle.std.proofs.lemmas.List.Elements.{All-head, All-tail, All-weaker, Contains-get_or}
use Rattle.std.proofs.lemmas.List.Kept.{AllPairs-filter}
use Rattle.std.proofs.lemmas.Option.{slice_get_within}
use Rattle.ext_history.specs.Histories.{seen_by}
use Rattle.ext_history.proofs.Lists.{bools, contains_from_filter, contains_later}
use Rattle.ext_model.specs.History.{History}
use Rattle.ext_lifecycle.specs.Endings.{all_successful}
use Rattle.ext_lifecycle.specs.Lifecycle.{endings_of}
use Rattle.ext_tree.specs.Trees.{IsParentOf, IsPathOf, IsTree, children_of}
use Rattle.ext_tree.proofs.TreeLaws.{parents_list_children}
use Rattle.ext_store.specs.Stores.{StoreLane}
use Rattle.ext_crew.specs.Dealing.{RunByDealing, Share}
use Rattle.ext_crew.proofs.Runs.{run-map, run-weaker}
use Rattle.ext_engine.specs.RunLaws.{IsAtOrBelow}
use Rattle.ext_engine.specs.Meeting.{HasSeenWithin, first_seen}
use Rattle.ext_engine.specs.Order.{AllGoOn, CallsGoOn, ChildRun, IsMadeIn, IsWithin}
use Rattle.ext_engine.specs.TreeRun.{BodyRun, ContainerRun, Lanes, Ran, TreeRun, TreeSetting, concurrent_children, same_thread_children, with_lanes}
use Rattle.ext_engine.proofs.Above.{at_or_below, under, under_itself, within_tree}
use Rattle.ext_engine.proofs.Acts.{Acts, all_made_then, all_met_made}
use Rattle.ext_engine.proofs.Going.{all_met, calls_go, children_dealt_go, close_goes, tree_goes, turn_goes}
use Rattle.ext_engine.proofs.Grown.{Entry}
use Rattle.ext_engine.proofs.Order.{came_from, children_within}
use Rattle.ext_engine.proofs.Seen.{acts_close, acts_first, acts_then, body_acts, body_within, called_acts, closed_acts, dealt_acts, opened_acts, tree_acts, turn_acts, turned_within}
use Rattle.ext_one_report.specs.Alone.{IsAloneButBeside, IsMadeBeside, RunsAlone}
use Rattle.ext_one_report.specs.AloneLaws.{ChildrenRunAlone, ContainersAreAlone, TestsAreAlone}
use Rattle.ext_one_report.proofs.Dealt.{dealt_apart}
use Rattle.ext_one_report.proofs.Parts.{first_within, no_acts, part, within_seen}

-- ---- dealings

map-same : {X : Type 0} (xs : List X) → map (λ x. x) xs ≡ xs
map-same [] = refl
map-same (x ∷ xs) = ap (λ l. x ∷ l) (map-same xs)

-- each job that is done is one of so many
pub bounded : {A B O : Type 0} (runs : ℕ → Share A B → O → Share A B → Type 0) (jobs workers : ℕ) (s t : Share A B) (outcomes : List O) → RunByDealing runs jobs workers s outcomes t
    → RunByDealing (λ job u o v. (job < jobs) × runs job u o v) jobs workers s outcomes t
bounded {A} {B} {O} runs jobs workers s t outcomes run =
    let runs' : ℕ → Share A B → O → Share A B → Type 0 = λ job u o v. (job < jobs) × runs job u o v in
    let R : List O → Type 0 = λ l. RunByDealing runs' jobs workers s l t in
    let count = run.outcome_count in
    subst R (map-same outcomes) (run-map (λ o. o) runs runs' outcomes (λ job u o v at r. (let l = slice_get_within outcomes job o at in omega (arith, l, count), r)) jobs workers s t run)

-- ---- children

module _ {V A : Type 0} (t : TreeSetting V A) (tree : IsTree t.store.tree) (node : ℕ) (path : List ℕ) (path_is : IsPathOf t.store.tree node path) where
  is_child : (child : ℕ) → Contains (children_of t.store.tree node) child → IsParentOf t.store.tree node child
  is_child child there = (parents_list_children t.store.tree node (within_tree t.store.tree node path tree path_is)).child child there

  pub is_concurrent_child : (child : ℕ) → Contains (concurrent_children t node) child → IsParentOf t.store.tree node child
  is_concurrent_child child there = is_child child (contains_from_filter t.suite.is_concurrent (children_of t.store.tree node) child there)

  pub are_children : All (IsParentOf t.store.tree node) (same_thread_children t node)
  are_children i d l =
      let xs = same_thread_children t node in
      is_child (slice_index_or xs i d) (contains_from_filter (λ c. not (t.suite.is_concurrent c)) (children_of t.store.tree node) (slice_index_or xs i d) (Contains-get_or xs i d l))

  -- different places are of different children
  pub children_differ : (i j : ℕ) → i < length (concurrent_children t node) → j < length (concurrent_children t node) → j ≢ i → slice_index_or (concurrent_children t node) i 0 ≢ slice_index_or (concurrent_children t node) j 0
  children_differ i j below below' differ same =
      let cs = concurrent_children t node in
      let order : AllPairs (λ a b. a < b) cs =
      AllPairs-filter (λ a b. a < b) t.suite.is_concurrent (children_of t.store.tree node) (parents_list_children t.store.tree node (within_tree t.store.tree node path tree path_is)).order in
      elim (cases_order i j) [
        | inl e ↦ differ (sym e)
        | inr (inl less) ↦ let o = order i j 0 less below' in omega (arith, o, same)
        | inr (inr more) ↦ let o = order j i 0 more below in omega (arith, o, same)
      ]

module _ {V A : Type 0} (t : TreeSetting V A) (h : History) where
  -- what is made beside a node is made beside each child of it
  pub beside_below : (node child place : ℕ) → IsParentOf t.store.tree node child → IsMadeBeside t h node place → IsMadeBeside t h child place
  beside_below node child place parent b =
      let ids = t.store.tree in
      let u = under ids b.child node b.below in
      record {
        container = b.container;
        child = b.child;
        other = b.other;
        concurrent = b.concurrent;
        other_concurrent = b.other_concurrent;
        differ = b.differ;
        below = at_or_below ids b.child child (record { walk = node ∷ u.walk; is_walk = (parent, u.is_walk); on_walk = contains_later child (node ∷ u.walk) b.child u.on_walk });
        depth = b.depth;
        made = b.made;
      }

  pub child_alone : (node child : ℕ) (before after : List (StoreLane V)) → IsParentOf t.store.tree node child → IsAloneButBeside t h node before after → IsAloneButBeside t h child before after
  child_alone node child before after parent such = record {
    each = λ place seen. elim (such.each place seen) [ inl made ↦ inl made | inr other ↦ inr (beside_below node child place parent other) ];
  }

  -- a node that is run is at or below itself
  at_itself : (depth node : ℕ) (s : Lanes V) (ran : List Ran) (u : Lanes V) → TreeRun t depth node s ran u → IsAtOrBelow t.store.tree node node
  at_itself zero node s ran u run = absurd run
  at_itself (suc depth) node s ran u run = at_or_below t.store.tree node node (under_itself t.store.tree node run.0 run.1)

-- ---- containers

module _ {V A : Type 0} (t : TreeSetting V A) (moves : CallsGoOn t.call_gives) (h : History) (depth : ℕ) where
  abbrev pub Tree : ℕ → Lanes V → List Ran → Lanes V → Type 0
  Tree c s below u = TreeRun t depth c s below u

  pub go : (c : ℕ) (s : Lanes V) (below : List Ran) (u : Lanes V) → Tree c s below u → AllGoOn s.first u.first
  go c s below u r = tree_goes t moves depth c s below u r

  pub at : (c : ℕ) (s : Lanes V) (below : List Ran) (u : Lanes V) → Tree c s below u → All (HasSeenWithin h) u.first → Acts h s.first u.first
  at c s below u r seen = tree_acts t moves h depth c s below u r seen

  module _ (tree : IsTree t.store.tree) (node : ℕ) (path : List ℕ) (path_is : IsPathOf t.store.tree node path) where
    -- the concurrent children
    pub beside_alone : (before : Lanes V) (below : List Ran) (after : Lanes V) (body : BodyRun t Tree node before below after) → All (HasSeenWithin h) body.joined → IsAloneButBeside t h node before.first body.joined
        → RunByDealing (λ i s ran u. RunsAlone t h depth (slice_index_or (concurrent_children t node) i 0) s ran u)
        (length (concurrent_children t node)) (min (length body.forked) (length (concurrent_children t node))) (with_lanes body.forked before) body.beside body.between
    beside_alone before below after body within such =
        let cs = concurrent_children t node in
        let since = first_seen before.first in
        let until = first_seen body.joined in
        let workers = min (length body.forked) (length cs) in
        let forked = with_lanes body.forked before in
        let Others : ℕ → Type 0 = IsMadeBeside t h node in
        let Seen : ℕ → Type 0 = λ place. (length since ≤ place) × (place < length until) in
        let runs : ℕ → Lanes V → List Ran → Lanes V → Type 0 = λ i s ran u. Tree (slice_index_or cs i 0) s ran u × IsWithin since until s u in
        let runs' : ℕ → Lanes V → List Ran → Lanes V → Type 0 = λ i s ran u. (i < length cs) × runs i s ran u in
        let goes : (i : ℕ) (s : Lanes V) (ran : List Ran) (u : Lanes V) → runs' i s ran u → AllGoOn s.first u.first = λ i s ran u r. go (slice_index_or cs i 0) s ran u r.1.0 in
        let fork = all_met t moves before.first body.forked body.forks.only_meet in
        let dealt_go = children_dealt_go t moves Tree go node before below after body in
        let join = all_met t moves body.between.first body.joined body.joins.only_meet in
        let within_between = came_from h body.between.first body.joined join within in
        let within_forked = came_from h body.forked body.between.first dealt_go within_between in
        let known : (place : ℕ) → Seen place → IsMadeIn h place body.forked body.between.first ⊎ Others place = λ place seen. elim (such.each place (record { since = seen.0; until = seen.1 })) [
          | inr other ↦ inr other
          | inl made ↦ elim (all_made_then h before.first body.forked body.joined place fork made) [
            | inl met ↦ absurd (all_met_made h t.store before.first body.forked place body.forks.only_meet within_forked met)
            | inr more ↦ elim (all_made_then h body.forked body.between.first body.joined place dealt_go more) [
              | inl acted ↦ inl acted
              | inr met ↦ absurd (all_met_made h t.store body.between.first body.joined place body.joins.only_meet within met)
            ]
          ]
        ] in
        let until_in = first_within h body.joined within in
        let run' = bounded runs (length cs) workers forked body.between body.beside (children_within t Tree go node before below after body) in
        let apart = dealt_apart h runs' goes Seen Others (length cs) workers forked body.between body.beside known run' in
        let inside : (lanes : List (StoreLane V)) → All (HasSeenWithin until) lanes → All (HasSeenWithin h) lanes =
        λ lanes all. All-weaker (HasSeenWithin until) (HasSeenWithin h) (λ lane l. prefix_trans (seen_by lane.cells.view) until h l until_in) lanes all in
        run-weaker _ _ apart (λ i s ran u r. record {
          run = r.0.1.0;
          within = inside u.first r.0.1.1.ends;
          alone = record {
            each = λ place seen.
                let child = slice_index_or cs i 0 in
                let here : Contains cs child = Contains-get_or cs i 0 r.0.0 in
                elim (r.1 place (within_seen since until s.first u.first place (goes i s ran u r.0) r.0.1.1.begins r.0.1.1.ends seen)) [
                  | inl made ↦ inl made
                  | inr more ↦ elim more [
                    | inl other ↦ inr (beside_below t h node child place (is_concurrent_child t tree node path path_is child here) other)
                    | inr by ↦
                        let job : ℕ = by.0 in
                        let less : job < length cs = by.2.run.0 in
                        inr (record {
                          container = node;
                          child = child;
                          other = slice_index_or cs job 0;
                          concurrent = here;
                          other_concurrent = Contains-get_or cs job 0 less;
                          differ = children_differ t tree node path path_is i job r.0.0 less by.1;
                          below = at_itself t h depth child s ran u r.0.1.0;
                          depth = depth;
                          made = record { before = by.2.before; ran = by.2.outcome; after = by.2.after; run = by.2.run.1.0; within = inside by.2.after.first by.2.run.1.1.ends; made = by.2.made };
                        })
                  ]
                ];
          };
        })

    -- the others
    pub turn_alone : (before last : List (StoreLane V)) → IsAloneButBeside t h node before last → (done : List Entry) (s u : Lanes V) → All (IsParentOf t.store.tree node) (map (λ d. d.0) done)
        → FoldsTo (λ s d u. Tree d.0 s d.1 u) s done u → All (HasSeenWithin h) u.first → Acts h before s.first → Acts h u.first last
        → FoldsTo (λ s d u. RunsAlone t h depth d.0 s d.1 u × IsAloneButBeside t h node s.first u.first) s done u
    turn_alone before last such [] s u all same within pre post = same
    turn_alone before last such (e ∷ done) s u all run within pre post =
        let P = IsParentOf t.store.tree node in
        let nodes = map (λ (d : Entry). d.0) done in
        let later = turn_goes t moves Tree go done run.0 u run.2 in
        let ends = came_from h run.0.first u.first later within in
        let one = at e.0 s e.1 run.0 run.1 ends in
        let rest = turn_acts t moves h Tree go at done run.0 u run.2 within in
        let mine = part h (IsMadeBeside t h node) before s.first run.0.first last pre one.goes (acts_then h run.0.first u.first last rest post) such in (
          run.0,
          (record { run = run.1; within = ends; alone = child_alone t h node e.0 s.first run.0.first (All-head P e.0 nodes all) mine }, mine),
          turn_alone before last such done run.0 u (All-tail P e.0 nodes all) run.2 within (acts_then h before s.first run.0.first pre one) post,
        )

module _ {V A : Type 0} (t : TreeSetting V A) (moves : CallsGoOn t.call_gives) where
  -- what a container does between its before-callbacks and its after-callbacks
  pub body_acts_in : (h : History) (depth node : ℕ) (path : List ℕ) (before : Lanes V) (ran : List Ran) (after : Lanes V) (run : ContainerRun t (ChildRun t depth) node path before ran after)
      → All (HasSeenWithin h) run.body.first → Acts h run.opened run.body.first
  body_acts_in h depth node path before ran after run ended =
      let Run = Tree t moves h depth in
      let going = go t moves h depth in
      let acting = at t moves h depth in
      let opened : Lanes V = record { first = run.opened; second = before.second } in
      elim (bools (all_successful (endings_of run.befores))) [
        | inl on ↦ body_acts t moves h Run going acting node opened run.below run.body (run.body_made.made on) ended
        | inr off ↦ subst (λ (x : Lanes V). Acts h run.opened x.first) (sym (run.body_made.skipped off).1) (no_acts h run.opened)
      ]

  pub containers_alone : ContainersAreAlone t
  containers_alone depth node path before ran after run h within alone =
      let closed = after.first in
      let Run = Tree t moves h depth in
      let going = go t moves h depth in
      let acting = at t moves h depth in
      let Others : ℕ → Type 0 = IsMadeBeside t h node in
      let ended = body_within t moves h Run going acting node path before ran after run within in
      let one = opened_acts t moves h Run going acting node path before ran after run in
      let two = body_acts_in h depth node path before ran after run ended in
      let four = called_acts t moves h Run going acting node path before ran after run in
      let five = closed_acts t moves h Run going acting node path before ran after run in
      let to_body = acts_then h before.first run.opened run.body.first one two in
      let to_called = acts_then h before.first run.body.first run.ends.called to_body four in
      let since_body = acts_then h run.body.first run.ends.called closed four five in
      let since_opened = acts_then h run.opened run.body.first closed two since_body in
      record {
        befores = part h Others before.first before.first run.opened closed (no_acts h before.first) one.goes since_opened alone;
        afters = part h Others before.first run.body.first run.ends.called closed to_body four.goes five alone;
        close = part h Others before.first run.ends.called closed closed to_called five.goes (no_acts h closed) alone;
      }

  pub children_alone : ChildrenRunAlone t
  children_alone depth node path before ran after run on tree path_is h within alone =
      let body = run.body_made.made on in
      let opened : Lanes V = record { first = run.opened; second = before.second } in
      let joined = with_lanes body.joined body.between in
      let closed = after.first in
      let Run = Tree t moves h depth in
      let going = go t moves h depth in
      let acting = at t moves h depth in
      let ended = body_within t moves h Run going acting node path before ran after run within in
      let joined_within = turned_within t moves h Run going acting node opened run.below run.body body ended in
      let one = opened_acts t moves h Run going acting node path before ran after run in
      let two = dealt_acts t moves h Run going acting node opened run.below run.body body joined_within in
      let three = turn_acts t moves h Run going acting body.in_turn.done joined run.body body.in_turn.runs ended in
      let four = called_acts t moves h Run going acting node path before ran after run in
      let five = closed_acts t moves h Run going acting node path before ran after run in
      let to_joined = acts_then h before.first run.opened body.joined one two in
      let since_body = acts_then h run.body.first run.ends.called closed four five in
      let since_joined = acts_then h body.joined run.body.first closed three since_body in
      record {
        concurrent = beside_alone t moves h depth tree node path path_is opened run.below run.body body joined_within (part h (IsMadeBeside t h node) before.first run.opened body.joined closed one two.goes since_joined alone);
        others = turn_alone t moves h depth tree node path path_is before.first closed alone body.in_turn.done joined run.body
            (subst (λ l. All (IsParentOf t.store.tree node) l) (sym body.in_turn.each) (are_children t tree node path path_is)) body.in_turn.runs ended to_joined since_body;
      }

  pub tests_alone : TestsAreAlone t
  tests_alone node path before ran after run h alone =
      let Others : ℕ → Type 0 = IsMadeBeside t h node in
      let called = acts_first h _ before.first run.called (λ a b made. calls_go t moves node (Some run.held) _ _ _ a run.outcomes b made) run.calls in
      let closed = acts_close h run.called after.first run.closes.closes.lanes (close_goes t moves _ run.called after.first run.closes.closes.lanes run.closes.closes.own_events) in (
        part h Others before.first before.first run.called after.first (no_acts h before.first) called.goes closed alone,
        part h Others before.first run.called after.first after.first called closed.goes (no_acts h after.first) alone,
      )
