-- A run of a node that is alone is one by calls that are alone.
use Rattle.std.proofs.Common.{inl, inr, ℕ, zero, suc, Bool, true, false, List, [], ◌∷◌, refl, sym, subst}
use Rattle.std.specs.Prelude.{All, Option, Some, None, slice_index_or}
use Rattle.std.specs.List.{FoldsTo}
use base.Growing.{prefix_trans}
use Rattle.ext_history.specs.Histories.{seen_by}
use Rattle.ext_history.proofs.Lists.{bools}
use Rattle.ext_model.specs.History.{History}
use Rattle.ext_lifecycle.specs.declared.call.Call.{Call}
use Rattle.ext_lifecycle.specs.declared.outcome.Outcome.{Outcome}
use Rattle.ext_lifecycle.specs.Endings.{all_successful, is_successful}
use Rattle.ext_lifecycle.specs.Lifecycle.{MakesAll, MakesBefores, MakesCalls, MakesIf, ending_of, endings_of}
use Rattle.ext_tree.specs.Trees.{IsPathOf, IsTree}
use Rattle.ext_store.specs.Stores.{StoreLane}
use Rattle.ext_locks.specs.Sets.{HeldView}
use Rattle.ext_crew.proofs.Runs.{run-weaker}
use Rattle.ext_engine.specs.Meeting.{HasSeenWithin}
use Rattle.ext_engine.specs.Order.{CallsGoOn, ChildRun, LaneGoesOn}
use Rattle.ext_engine.specs.TreeRun.{Ran, TreeSetting, with_calls, Lanes, TreeRun, TestRun, ContainerRun, BodyRun, ClosesNode, MakesOn, concurrent_children, with_lanes}
use Rattle.ext_engine.proofs.Going.{all_go, befores_go, close_goes, first_goes, goes_same, goes_then}
use Rattle.ext_engine.proofs.Grown.{Entry}
use Rattle.ext_engine.proofs.Order.{came_from}
use Rattle.ext_one_report.specs.Alone.{IsAloneButBeside, IsMadeBeside, RunsAlone}
use Rattle.ext_one_report.specs.AloneLaws.{CallsAlone, CallsAreAlone, HasChildrenAlone}
use Rattle.ext_one_report.proofs.Containers.{body_acts_in, children_alone, containers_alone, tests_alone}
use Rattle.ext_one_report.proofs.Parts.{change_first, no_acts, one_acts, part}

module _ {V A : Type 0} (t : TreeSetting V A) (moves : CallsGoOn t.call_gives) (h : History) where
  -- the lane is alone, but for nodes beside this one
  abbrev Alone : ℕ → StoreLane V → StoreLane V → Type 0
  Alone node a b = IsAloneButBeside t h node (a ∷ []) (b ∷ [])

  -- and so in both parts of what it does
  both : (node : ℕ) (a b c : StoreLane V) → LaneGoesOn a b → LaneGoesOn b c → Alone node a c → Alone node a b × Alone node b c
  both node a b c one two alone =
      let first = one_acts h a b one in
      let second = one_acts h b c two in (
        part h (IsMadeBeside t h node) (a ∷ []) (a ∷ []) (b ∷ []) (c ∷ []) (no_acts h (a ∷ [])) first.goes second alone,
        part h (IsMadeBeside t h node) (a ∷ []) (b ∷ []) (c ∷ []) (c ∷ []) first second.goes (no_acts h (c ∷ [])) alone,
      )

  -- a lane that goes on to one that has seen a part of the history has seen a part of it
  earlier : (a b : StoreLane V) → LaneGoesOn a b → HasSeenWithin h b → HasSeenWithin h a
  earlier a b go within = prefix_trans (seen_by a.cells.view) (seen_by b.cells.view) h go.seen within

  -- ---- the calls of a node

  module _ (node : ℕ) (held : Option HeldView) where
    abbrev Made : StoreLane V → Call → Outcome → StoreLane V → Type 0
    Made = MakesOn t node held

    abbrev MadeAlone : StoreLane V → Call → Outcome → StoreLane V → Type 0
    MadeAlone = MakesOn (with_calls (CallsAlone t h) t) node held

    all_alone : (calls : List Call) (a : StoreLane V) (outcomes : List Outcome) (b : StoreLane V) → MakesAll Made calls a outcomes b → HasSeenWithin h b → Alone node a b → MakesAll MadeAlone calls a outcomes b
    all_alone [] a outcomes b made within alone = made
    all_alone (call ∷ calls) a outcomes b made within alone =
        let rest = all_go t moves node held calls made.2 made.1 b made.5 in
        let parts = both node a made.2 b (moves node call held a made.0 made.2 made.4) rest alone in
        (made.0, made.1, made.2, made.3, record { makes = made.4; within = earlier made.2 b rest within; alone = parts.0 }, all_alone calls made.2 made.1 b made.5 within parts.1)

    befores_alone : (calls : List Call) (a : StoreLane V) (outcomes : List Outcome) (b : StoreLane V) → MakesBefores Made calls a outcomes b → HasSeenWithin h b → Alone node a b → MakesBefores MadeAlone calls a outcomes b
    befores_alone [] a outcomes b made within alone = made
    befores_alone (call ∷ calls) a outcomes b made within alone =
        let rest : LaneGoesOn made.2 b = elim (bools (is_successful (ending_of made.0.verdict))) [
          | inl on ↦ befores_go t moves node held calls made.2 made.1 b (made.5.0 on)
          | inr off ↦ subst (λ (x : StoreLane V). LaneGoesOn made.2 x) (sym (made.5.1 off).1) (goes_same made.2)
        ] in
        let parts = both node a made.2 b (moves node call held a made.0 made.2 made.4) rest alone in
        (made.0, made.1, made.2, made.3, record { makes = made.4; within = earlier made.2 b rest within; alone = parts.0 }, ((λ on. befores_alone calls made.2 made.1 b (made.5.0 on) within parts.1), made.5.1))

    if_goes : (on : Bool) (call : Call) (a : StoreLane V) (outcomes : List Outcome) (b : StoreLane V) → MakesIf Made on call a outcomes b → LaneGoesOn a b
    if_goes true call a outcomes b made = all_go t moves node held (call ∷ []) a outcomes b (made.made refl)
    if_goes false call a outcomes b made = subst (λ (x : StoreLane V). LaneGoesOn a x) (sym (made.skipped refl).1) (goes_same a)

    if_alone : (on : Bool) (call : Call) (a : StoreLane V) (outcomes : List Outcome) (b : StoreLane V) → MakesIf Made on call a outcomes b → HasSeenWithin h b → Alone node a b → MakesIf MadeAlone on call a outcomes b
    if_alone true call a outcomes b made within alone = record { made = λ on. all_alone (call ∷ []) a outcomes b (made.made refl) within alone; skipped = λ off. absurd (cc off) }
    if_alone false call a outcomes b made within alone = record { made = λ on. absurd (cc on); skipped = made.skipped }

    calls_alone : (befores : List Call) (body : Call) (afters : List Call) (a : StoreLane V) (outcomes : List Outcome) (b : StoreLane V) → MakesCalls Made befores body afters a outcomes b → HasSeenWithin h b → Alone node a b
        → MakesCalls MadeAlone befores body afters a outcomes b
    calls_alone befores body afters a outcomes b made within alone =
        let first = befores_go t moves node held befores a made.first made.opened made.befores_made in
        let second = if_goes (all_successful (endings_of made.first)) body made.opened made.second made.closing made.body_made in
        let third = all_go t moves node held afters made.closing made.third b made.afters_made in
        let late = both node a made.closing b (goes_then a made.opened made.closing first second) third alone in
        let early = both node a made.opened made.closing first second late.0 in
        let at_closing = earlier made.closing b third within in
        record {
          first = made.first;
          second = made.second;
          third = made.third;
          opened = made.opened;
          closing = made.closing;
          befores_made = befores_alone befores a made.first made.opened made.befores_made (earlier made.opened made.closing second at_closing) early.0;
          body_made = if_alone (all_successful (endings_of made.first)) body made.opened made.second made.closing made.body_made at_closing early.1;
          afters_made = all_alone afters made.closing made.third b made.afters_made within late.1;
          all = made.all;
        }

  close_same : (node : ℕ) (before : List (StoreLane V)) (faults : _) (after : List (StoreLane V)) → ClosesNode t node before faults after → ClosesNode (with_calls (CallsAlone t h) t) node before faults after
  close_same node before faults after c = record {
    closer = c.closer;
    closer_is = c.closer_is;
    context_is = c.context_is;
    action = c.action;
    action_is = c.action_is;
    action_left = c.action_left;
    closed = c.closed;
    closes = c.closes;
    faults_are = c.faults_are;
  }

  -- ---- nodes

  test_alone : (node : ℕ) (path : List ℕ) (before : Lanes V) (ran : List Ran) (after : Lanes V) → TestRun t node path before ran after → All (HasSeenWithin h) after.first
      → IsAloneButBeside t h node before.first after.first → TestRun (with_calls (CallsAlone t h) t) node path before ran after
  test_alone node path before ran after run within alone = record {
    set = run.set;
    set_is = run.set_is;
    held = run.held;
    locked = run.locked;
    takes = run.takes;
    outcomes = run.outcomes;
    called = run.called;
    calls = change_first h (IsMadeBeside t h node) _ _ before.first run.called (λ a b ends here made. calls_alone node (Some run.held) _ _ _ a run.outcomes b made ends here)
        (came_from h run.called after.first (close_goes t moves _ run.called after.first run.closes.closes.lanes run.closes.closes.own_events) within) (tests_alone t moves node path before ran after run h alone).0 run.calls;
    faults = run.faults;
    closes = close_same node run.called run.faults after.first run.closes;
    given_back = run.given_back;
    ran_is = run.ran_is;
  }

  module _ (depth : ℕ) (Run' : ℕ → Lanes V → List Ran → Lanes V → Type 0) (turn : (c : ℕ) (s : Lanes V) (below : List Ran) (u : Lanes V) → RunsAlone t h depth c s below u → Run' c s below u) where
    turned_alone : (node : ℕ) (done : List Entry) (s u : Lanes V) → FoldsTo (λ s d u. RunsAlone t h depth d.0 s d.1 u × IsAloneButBeside t h node s.first u.first) s done u → FoldsTo (λ s d u. Run' d.0 s d.1 u) s done u
    turned_alone node [] s u run = run
    turned_alone node (e ∷ done) s u run = (run.0, turn e.0 s e.1 run.0 run.1.0, turned_alone node done run.0 u run.2)

    body_alone : (node : ℕ) (before : Lanes V) (below : List Ran) (after : Lanes V) (b : BodyRun t (ChildRun t depth) node before below after) → HasChildrenAlone t h depth node before below after b
        → BodyRun (with_calls (CallsAlone t h) t) Run' node before below after
    body_alone node before below after b children = record {
      forked = b.forked;
      forks = b.forks;
      beside = b.beside;
      between = b.between;
      dealt = run-weaker _ _ children.concurrent (λ job s o u r. turn (slice_index_or (concurrent_children t node) job 0) s o u r);
      joined = b.joined;
      joins = b.joins;
      alone = b.alone;
      in_turn = record { done = b.in_turn.done; each = b.in_turn.each; runs = turned_alone node b.in_turn.done (with_lanes b.joined b.between) after children.others; ran_are = b.in_turn.ran_are };
      below_are = b.below_are;
    }

    container_alone : (tree : IsTree t.store.tree) (node : ℕ) (path : List ℕ) (path_is : IsPathOf t.store.tree node path) (before : Lanes V) (ran : List Ran) (after : Lanes V)
        → ContainerRun t (ChildRun t depth) node path before ran after → All (HasSeenWithin h) after.first → IsAloneButBeside t h node before.first after.first
        → ContainerRun (with_calls (CallsAlone t h) t) Run' node path before ran after
    container_alone tree node path path_is before ran after run within alone =
        let opened : Lanes V = record { first = run.opened; second = before.second } in
        let itself = containers_alone t moves depth node path before ran after run h within alone in
        let called = came_from h run.ends.called after.first (close_goes t moves _ run.ends.called after.first run.ends.closes.closes.lanes run.ends.closes.closes.own_events) within in
        let body = came_from h run.body.first run.ends.called (first_goes _ run.body.first run.ends.called (λ a b made. all_go t moves node None _ a run.ends.afters b made) run.ends.afters_made) called in
        let begun = came_from h run.opened run.body.first (body_acts_in t moves h depth node path before ran after run body).goes body in
        record {
          befores = run.befores;
          opened = run.opened;
          befores_made = change_first h (IsMadeBeside t h node) _ _ before.first run.opened (λ a b ends here made. befores_alone node None _ a run.befores b made ends here) begun itself.befores run.befores_made;
          body = run.body;
          below = run.below;
          body_made = record {
            made = λ on. body_alone node opened run.below run.body (run.body_made.made on) (children_alone t moves depth node path before ran after run on tree path_is h within alone);
            skipped = run.body_made.skipped;
          };
          own = run.own;
          ends = record {
            afters = run.ends.afters;
            called = run.ends.called;
            afters_made = change_first h (IsMadeBeside t h node) _ _ run.body.first run.ends.called (λ a b ends here made. all_alone node None _ a run.ends.afters b made ends here) called itself.afters run.ends.afters_made;
            faults = run.ends.faults;
            closes = close_same node run.ends.called run.ends.faults after.first run.ends.closes;
            own_is = run.ends.own_is;
          };
          no_locks = run.no_locks;
          ran_are = run.ran_are;
        }

  tree_alone : (tree : IsTree t.store.tree) (depth node : ℕ) (before : Lanes V) (ran : List Ran) (after : Lanes V) → RunsAlone t h depth node before ran after
      → TreeRun (with_calls (CallsAlone t h) t) depth node before ran after
  tree_alone tree zero node before ran after r = absurd r.run
  tree_alone tree (suc depth) node before ran after r = (
    r.run.0,
    r.run.1,
    elim r.run.2 [
      | inl left ↦ inl (record { allowed = left.allowed; some_lane = left.some_lane; ran_is = left.ran_is; untouched = left.untouched })
      | inr on ↦ inr (
        (λ test. test_alone node r.run.0 before ran after (on.0 test) r.within r.alone),
        (λ container.
            container_alone depth (λ child s below u. TreeRun (with_calls (CallsAlone t h) t) depth child s below u) (λ c s below u here. tree_alone tree depth c s below u here) tree node r.run.0 r.run.1
            before ran after (on.1 container) r.within r.alone),
        on.2,
      )
    ],
  )

module _ {V A : Type 0} (t : TreeSetting V A) (moves : CallsGoOn t.call_gives) where
  pub calls_are_alone : CallsAreAlone t
  calls_are_alone tree h depth node before ran after r = tree_alone t moves h tree depth node before ran after r
