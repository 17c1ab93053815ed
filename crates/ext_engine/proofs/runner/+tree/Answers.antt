use Rattle.std.proofs.Common.{rules, ◌≡◌, ◌≤◌, inl, inr, append-nil, ◌++◌, ◌-◌, ℕ, true, false, true≢false, List, ◌∷◌, [], ◌∙◌, length, length-append, map, refl, arith, ap, subst, sym, append_assoc}
use Rattle.std.specs.Prelude.{All, IfOk, IfErr, Ok, Result, Vec, slice_index_or}
use Rattle.std.specs.List.{flat_map}
use Rattle.std.proofs.lemmas.Grind.{flat_map-append}
use Rattle.std.specs.declared.alloc.Global.{Global}
use Rattle.std.proofs.lemmas.List.{length-map}
use Rattle.std.proofs.lemmas.Result.{IfOk-weaker}
use Rattle.ext_lifecycle.specs.Results.{skipped_result}
use Rattle.ext_tree.specs.Trees.{id_at, IsPathOf, IsTree}
use Rattle.ext_store.specs.Stores.{StoreLane, IsLaneOf}
use Rattle.ext_locks.specs.Views.{Lane}
use Rattle.ext_crew.proofs.Runs.{run-weaker, run-keeps, turn-keeps, calls-from, meet_split, meet_join}
use Rattle.ext_engine.specs.declared.node.closers.Item.{Item}
use Rattle.ext_engine.specs.declared.node.fault.EngineFault.{EngineFault}
use Rattle.ext_engine.specs.declared.node.fault.EngineFault.TheVariants as faults
use Rattle.ext_engine.specs.declared.node.results.RanNode.{RanNode}
use Rattle.ext_engine.specs.InnerClosers.{IsNode}
use Rattle.ext_engine.specs.InnerResults.{ran_view, ran_in, rans_below, answer_of}
use Rattle.ext_engine.specs.TreeRun.{Lanes, Ran, setting_of, IsUsable, IsIdle, TreeRun, TestRun, BodyMade, with_lanes}
use Rattle.ext_engine.specs.Failing.{BodyEndsEarly, EndsAs, EndsEarly, EndsInTurn, IsFirstRefusal}
use Rattle.ext_engine.proofs.Early.{no_value, the_fault, if_err, ends_as, ends_ok, turn_early, body_unmanned, body_beside, body_behind, not_begun, test_early, container_early, container_ran, with_lock_lanes}
use Rattle.ext_engine.proofs.Room.{room}
use Rattle.ext_engine.proofs.Trees.{usable_part, usable-met, met_mine, usable-shown, usable-then, at_item, node_at, ran-none, ran-push, tree-of-disabled, tree-of-test, body-of}
use Rattle.ext_engine.proofs.runner.+tree.Goals as goal

pub TreeRunner::run_beside-run_children-requires-clause-accepts : goal.TreeRunner::run_beside-run_children-requires-clause-accepts
TreeRunner::run_beside-run_children-requires-clause-accepts g t c κs inside from size some_here room done s run job item at first second e f =
    let st = c.args.self.now.nodes.store.now in let lk = c.args.self.now.nodes.locks.now in
    let Y : Lanes g.row.V.Denot → Lanes g.row.V.Denot → Type 0 = λ a b. IsUsable st lk b in
    let whole : Lanes g.row.V.Denot = record { first = c.args.lanes.now; second = c.args.lock_lanes.now } in
    let here : IsUsable st lk s = turn-keeps _ (IsUsable st lk) (λ j a o b k r. calls-from _ _ Y r.calls (search rules)) done _ s (usable_part st lk whole from size c.requires.ready.2 some_here room) run in
    let shown : IsUsable st lk (record { first = first.now; second = second.now }) = usable-shown st lk s first.now second.now e f here in
    let below : IsNode st c.args.depth item = at_item (λ i. IsNode st c.args.depth i) c.args.items.items job item c.requires.items at in
    let fit = c.requires.ready.0 in let suite_fits = c.requires.ready.1 in
    search rules

pub TreeRunner::run_beside-returns-in-Ok : goal.TreeRunner::run_beside-returns-in-Ok
TreeRunner::run_beside-returns-in-Ok g t c = record {
  left = (
    (
        let st = c.args.self.now.nodes.store.now in let lk = c.args.self.now.nodes.locks.now in
        let l : length c.run_children.new.first ≡ length c.args.lanes.now = search rules in
        let m : length c.run_children.new.second ≡ length c.args.lock_lanes.now = search rules in
        let P : StoreLane g.row.V.Denot → Type 0 = IsLaneOf st.id in
        let Q : Lane → Type 0 = IsIdle lk in
        let Y : Lanes g.row.V.Denot → Lanes g.row.V.Denot → Type 0 = λ a b. IsUsable st lk b in
        let whole : Lanes g.row.V.Denot = record { first = c.args.lanes.now; second = c.args.lock_lanes.now } in
        let left : Lanes g.row.V.Denot = record { first = c.run_children.new.first; second = c.run_children.new.second } in
        let K : Lanes g.row.V.Denot → Type 0 = λ s. All P s.first × All Q s.second in
        usable-then st lk whole left c.requires.ready.2 l m
        (run-keeps _ K (λ job u o v k r. (let after : IsUsable st lk v = calls-from _ _ Y r.calls (search rules) in (after.lanes, after.idle))) (meet_split P Q) (meet_join P Q) _ _ whole left c.in-Ok.outcomes.items (c.requires.ready.2.lanes, c.requires.ready.2.idle) c.in-Ok.ensures.run)
        ),
    (search rules),
    (
        let r = c.args.self.now.nodes in
        let ts = setting_of g.V.StoreValue.is_closeable g.S.Suite.suite_view g.S.Suite.enabled_gives g.S.Callbacks.registered g.S.Suite.call_gives g.S.Suite.action_gives g.S.Action.CloseAction.close_gives r.suite.now r.store.now r.locks.now in
        let Ends : ℕ → Lanes g.row.V.Denot → Result (List Ran) EngineFault → Lanes g.row.V.Denot → Type 0 = EndsAs (TreeRun ts c.args.depth) (EndsEarly ts c.args.depth) in
        run-weaker _ _ c.in-Ok.ensures.run (λ job u o v r.
        let X : Lanes g.row.V.Denot → Lanes g.row.V.Denot → Type 0 = λ s z. IfOk o (λ w. TreeRun ts c.args.depth r.item.node s (map ran_view w.items) z) × IfErr o (λ why. EndsEarly ts c.args.depth r.item.node s why z) in
        let call : X u v = calls-from _ _ X r.calls (search rules) in
        let I : ℕ → Type 0 = λ n. Ends n u (answer_of o) v in
        subst I (sym (node_at c.args.items.items job r.item r.item_is)) (ends_as (TreeRun ts c.args.depth) (EndsEarly ts c.args.depth) r.item.node u o v call))
        ),
    tt,
  );
}

pub TreeRunner::run_beside-returns-in-Err : goal.TreeRunner::run_beside-returns-in-Err
TreeRunner::run_beside-returns-in-Err g t c =
    let r = c.args.self.now.nodes in
    let s : Lanes g.row.V.Denot = record { first = c.args.lanes.now; second = c.args.lock_lanes.now } in
    let z : Lanes g.row.V.Denot = record { first = c.run_children.new.first; second = c.run_children.new.second } in
    let kept = c.in-Err.ensures.unchanged in
    let same : z ≡ s = ap (λ l. with_lanes l z) kept.0 ∙ ap (λ l. with_lock_lanes l s) kept.1 in
    record { left = (subst (IsUsable r.store.now r.locks.now) (sym same) c.requires.ready.2, ap length kept.0, tt, ((λ none. let wrong : false ≡ true = c.in-Err.ensures.no_items none in cc), search rules, same)) }

pub TreeRunner::run_body-run_beside-requires-clause-ready : goal.TreeRunner::run_body-run_beside-requires-clause-ready
TreeRunner::run_body-run_beside-requires-clause-ready g t c κs inside =
    let r = c.args.self.now.nodes in
    (c.requires.ready.0, c.requires.ready.1, usable-met r.store.now r.locks.now (record { first = c.args.lanes.now; second = c.args.lock_lanes.now }) c.fork.new.lanes c.requires.ready.2 c.fork.ensures.forked.only_meet)

pub TreeRunner::run_body-run_in_turn-requires-clause-ready : goal.TreeRunner::run_body-run_in_turn-requires-clause-ready
TreeRunner::run_body-run_in_turn-requires-clause-ready g t c κs inside =
    let r = c.args.self.now.nodes in
    (c.requires.ready.0, c.requires.ready.1, usable-met r.store.now r.locks.now (record { first = c.run_beside.new.lanes; second = c.run_beside.new.lock_lanes }) c.join.new.lanes c.in_ok-first.ensures.left.0 c.join.ensures.joined.only_meet)

pub TreeRunner::run_body-returns : goal.TreeRunner::run_body-returns
TreeRunner::run_body-returns g t c =
    let r = c.args.self.now.nodes in
    let ts = setting_of g.V.StoreValue.is_closeable g.S.Suite.suite_view g.S.Suite.enabled_gives g.S.Callbacks.registered g.S.Suite.call_gives g.S.Suite.action_gives g.S.Action.CloseAction.close_gives r.suite.now r.store.now r.locks.now in
    let size = length-map c.args.children.beside.items (λ (i : Item). i.node) in
    let nodes = map (λ (i : Item). i.node) c.args.children.beside.items in
    let body = body-of ts (TreeRun ts c.args.depth) (λ i s o u. EndsAs (TreeRun ts c.args.depth) (EndsEarly ts c.args.depth) (slice_index_or nodes i 0) s (answer_of o) u) c.args.node nodes (map (λ i. i.node) c.args.children.in_turn.items)
    (record { first = c.args.lanes.now; second = c.args.lock_lanes.now }) c.fork.new.lanes (record { first = c.run_beside.new.lanes; second = c.run_beside.new.lock_lanes }) c.join.new.lanes (record { first = c.run_in_turn.new.lanes; second = c.run_in_turn.new.lock_lanes })
    c.in_ok-first.first.items (flat_map ran_in c.in_ok-others.others.items) (length c.args.children.beside.items)
    (λ job s o u h. ends_ok (TreeRun ts c.args.depth) (EndsEarly ts c.args.depth) (slice_index_or nodes job 0) s o u h)
    c.fork.ensures.forked c.join.ensures.joined size c.requires.children.concurrent c.requires.children.same_thread
    c.in_ok-first.ensures.left.2 (search rules) c.in_ok-others.ensures.left.2 in
    let met = met_mine r.store.now c.args.lanes.now c.fork.new.lanes c.fork.ensures.forked.only_meet in
    let back = met_mine r.store.now c.run_beside.new.lanes c.join.new.lanes c.join.ensures.joined.only_meet in
    record { left = (c.in_ok-others.ensures.left.0, c.in_ok-others.ensures.left.1 ∙ (back.1 ∙ (c.in_ok-first.ensures.left.1 ∙ met.1)), record { made = λ _. body; skipped = λ bad. absurd (let e : c.args.go ≡ true = search rules in true≢false (sym e ∙ bad)) }, tt) }

pub TreeRunner::run_in_turn-loop-item-init : goal.TreeRunner::run_in_turn-loop-item-init
TreeRunner::run_in_turn-loop-item-init g t c =
    let r = c.args.self.now.nodes in
    record {
      can = tt;
      finite = tt;
      items = search rules;
      lanes = c.requires.ready.2;
      count = refl;
      run = ran-none (TreeRun (setting_of g.V.StoreValue.is_closeable g.S.Suite.suite_view g.S.Suite.enabled_gives g.S.Callbacks.registered g.S.Suite.call_gives g.S.Suite.action_gives g.S.Action.CloseAction.close_gives r.suite.now r.store.now r.locks.now) c.args.depth) _ _ (ap (flat_map ran_in) c.requires.room.0);
      given = search rules;
      room = search rules;
    }

pub TreeRunner::run_in_turn-loop-item-preserved : goal.TreeRunner::run_in_turn-loop-item-preserved
TreeRunner::run_in_turn-loop-item-preserved g t c =
    let r = c.args.self.now.nodes in
    let I = c.loop-item.invariant in
    let list : c.loop-item.yielded ++ c.in-Some.item ∷ c.next.new.self.rest.items ≡ c.args.items.items = search rules in
    let is = c.push_reserved.ensures.items in
    let more = map ran_view c.in_ok-below.below.items in
    record {
      can = tt;
      finite = tt;
      items = append_assoc c.loop-item.yielded (c.in-Some.item ∷ []) c.next.new.self.rest.items ∙ list;
      lanes = c.in_ok-below.ensures.left.0;
      count = c.in_ok-below.ensures.left.1 ∙ I.count;
      run = ran-push (TreeRun (setting_of g.V.StoreValue.is_closeable g.S.Suite.suite_view g.S.Suite.enabled_gives g.S.Callbacks.registered g.S.Suite.call_gives g.S.Suite.action_gives g.S.Action.CloseAction.close_gives r.suite.now r.store.now r.locks.now) c.args.depth) c.loop-item.yielded c.in-Some.item (record { first = c.args.lanes.now; second = c.args.lock_lanes.now }) (record { first = c.loop-item.lanes; second = c.loop-item.lock_lanes }) (record { first = c.run_node.new.lanes; second = c.run_node.new.lock_lanes })
          (flat_map ran_in c.loop-item.outcomes.items) more (flat_map ran_in c.push_reserved.new.self.items) I.run c.in_ok-below.ensures.left.2
          (ap (flat_map ran_in) is ∙ flat_map-append ran_in c.loop-item.outcomes.items (Ok c.in_ok-below.below ∷ []) ∙ ap (λ l. flat_map ran_in c.loop-item.outcomes.items ++ l) (append-nil more));
      given = (
          let a = ap length is in
          let b = length-append c.loop-item.outcomes.items (Ok c.in_ok-below.below ∷ []) in
          let d = length-append c.loop-item.yielded (c.in-Some.item ∷ []) in
          let e = I.given in
          omega (arith, a, b, d, e)
          );
      room = (let a = c.push_reserved.ensures.capacity in let b = I.room in omega (arith, a, b));
    }

pub TreeRunner::run_node-returns-then-is_test : goal.TreeRunner::run_node-returns-then-is_test
TreeRunner::run_node-returns-then-is_test g t c =
    let r = c.args.self.now.nodes in
    let ts = setting_of g.V.StoreValue.is_closeable g.S.Suite.suite_view g.S.Suite.enabled_gives g.S.Callbacks.registered g.S.Suite.call_gives g.S.Suite.action_gives g.S.Action.CloseAction.close_gives r.suite.now r.store.now r.locks.now in
    let s : Lanes g.row.V.Denot = record { first = c.args.lanes.now; second = c.args.lock_lanes.now } in
    let z : Lanes g.row.V.Denot = record { first = c.run_test.new.lanes; second = c.run_test.new.lock_lanes } in
    let deep : 1 ≤ c.args.depth = (let e = ap (λ ids. length (id_at ids c.args.item.node)) c.tree-tree.ensures in omega (arith, c.requires.item.depth_is, c.path-path-then-is_test.ensures.depth, c.path-path-then-is_test.ensures.few, e)) in
    let enabled : ts.enabled_gives c.args.item.node true = subst (ts.enabled_gives c.args.item.node) (search rules) c.is_enabled.ensures in
    let Node : Vec RanNode Global → Type 0 = λ v. (path : List ℕ) × IsPathOf r.store.now.tree c.args.item.node path × TestRun ts c.args.item.node path s (map ran_view v.items) z in
    let Below : Vec RanNode Global → Type 0 = λ v. TreeRun ts c.args.depth c.args.item.node s (map ran_view v.items) z in
    record {
      left = (
        c.run_test.ensures.lanes,
        c.run_test.ensures.count,
        IfOk-weaker c.run_test.result Node Below (λ v run. tree-of-test ts c.args.depth c.args.item.node s (map ran_view v.items) z deep (search rules) enabled run) c.run_test.ensures.run,
        if_err c.run_test.result (λ why early. test_early ts c.args.depth c.args.item.node s why z deep (search rules) early) c.run_test.ensures.early,
      );
    }

pub TreeRunner::run_node-returns-then-not-is_enabled : goal.TreeRunner::run_node-returns-then-not-is_enabled
TreeRunner::run_node-returns-then-not-is_enabled g t c =
    let r = c.args.self.now.nodes in
    let ts = setting_of g.V.StoreValue.is_closeable g.S.Suite.suite_view g.S.Suite.enabled_gives g.S.Callbacks.registered g.S.Suite.call_gives g.S.Suite.action_gives g.S.Action.CloseAction.close_gives r.suite.now r.store.now r.locks.now in
    let node = c.args.item.node in
    let s : Lanes g.row.V.Denot = record { first = c.args.lanes.now; second = c.args.lock_lanes.now } in
    let deep : 1 ≤ c.args.depth = (let e = ap (λ ids. length (id_at ids node)) c.tree-tree.ensures in omega (arith, c.requires.item.depth_is, c.path-path.ensures.depth, c.path-path.ensures.few, e)) in
    let path = c.path-path.result.now in
    let allowed : ts.enabled_gives node false = subst (ts.enabled_gives node) (search rules) c.is_enabled.ensures in
    let Left : Vec RanNode Global → Type 0 = λ v. map ran_view v.items ≡ record { result = skipped_result node (ts.suite.is_test node); went_on = false } ∷ [] in
    let Below : Vec RanNode Global → Type 0 = λ v. TreeRun ts c.args.depth node s (map ran_view v.items) s in
    record {
      left = (
        c.requires.ready.2,
        refl,
        IfOk-weaker c.leave_out.result Left Below
            (λ v left.
            tree-of-disabled ts c.args.depth node s (map ran_view v.items) s deep
            (path, subst (λ ids. IsPathOf ids node path) c.tree-tree.ensures c.path-path.ensures.path, record { allowed = allowed; some_lane = c.requires.ready.2.some; ran_is = left; untouched = refl }))
            c.leave_out.ensures.left,
        if_err c.leave_out.result (λ why told. not_begun ts c.args.depth node s why s (record { told = told; untouched = refl })) c.leave_out.ensures.fault,
      );
    }

pub TreeRunner::run_node-returns-in_err-ran : goal.TreeRunner::run_node-returns-in_err-ran
TreeRunner::run_node-returns-in_err-ran g t c =
    let r = c.args.self.now.nodes in
    let ts = setting_of g.V.StoreValue.is_closeable g.S.Suite.suite_view g.S.Suite.enabled_gives g.S.Callbacks.registered g.S.Suite.call_gives g.S.Suite.action_gives g.S.Action.CloseAction.close_gives r.suite.now r.store.now r.locks.now in
    let s : Lanes g.row.V.Denot = record { first = c.args.lanes.now; second = c.args.lock_lanes.now } in
    let told = c.from_residual.ensures in
    let early = not_begun ts c.args.depth c.args.item.node s faults.Memory s (record { told = refl; untouched = refl }) in
    record { left = (c.requires.ready.2, refl, no_value _ c.from_residual.result faults.Memory told, the_fault (λ why. EndsEarly ts c.args.depth c.args.item.node s why s) c.from_residual.result faults.Memory told early) }

pub TreeRunner::run_node-returns-in_err-begun : goal.TreeRunner::run_node-returns-in_err-begun
TreeRunner::run_node-returns-in_err-begun g t c =
    let r = c.args.self.now.nodes in
    let ts = setting_of g.V.StoreValue.is_closeable g.S.Suite.suite_view g.S.Suite.enabled_gives g.S.Callbacks.registered g.S.Suite.call_gives g.S.Suite.action_gives g.S.Action.CloseAction.close_gives r.suite.now r.store.now r.locks.now in
    let s : Lanes g.row.V.Denot = record { first = c.args.lanes.now; second = c.args.lock_lanes.now } in
    let z : Lanes g.row.V.Denot = record { first = c.open_container.new.lanes; second = c.args.lock_lanes.now } in
    let why = c.in_err-begun.field-0.0 in
    let told = c.from_residual-in_err-begun.ensures in
    let same : z ≡ s = ap (λ l. with_lanes l s) c.in_err-begun.ensures.untouched in
    let early = not_begun ts c.args.depth c.args.item.node s why z (record { told = c.in_err-begun.ensures.fault; untouched = same }) in
    record {
      left = (
        subst (IsUsable r.store.now r.locks.now) (sym same) c.requires.ready.2,
        c.open_container.ensures.count,
        no_value _ c.from_residual-in_err-begun.result why told,
        the_fault (λ w. EndsEarly ts c.args.depth c.args.item.node s w z) c.from_residual-in_err-begun.result why told early,
      );
    }

pub TreeRunner::run_node-returns-in_err-below : goal.TreeRunner::run_node-returns-in_err-below
TreeRunner::run_node-returns-in_err-below g t c =
    let r = c.args.self.now.nodes in
    let ts = setting_of g.V.StoreValue.is_closeable g.S.Suite.suite_view g.S.Suite.enabled_gives g.S.Callbacks.registered g.S.Suite.call_gives g.S.Suite.action_gives g.S.Action.CloseAction.close_gives r.suite.now r.store.now r.locks.now in
    let s : Lanes g.row.V.Denot = record { first = c.args.lanes.now; second = c.args.lock_lanes.now } in
    let z : Lanes g.row.V.Denot = record { first = c.run_body.new.lanes; second = c.run_body.new.lock_lanes } in
    let why = c.in_err-below.field-0.0 in
    let told = c.from_residual-in_err-below.ensures in
    let opens = c.in_ok-begun.ensures.befores in
    let body = c.in_err-below.ensures.left.3 in
    let early = container_early ts c.args.depth c.args.item.node s why z c.in_ok-begun.ensures.children.1 (search rules) (
      opens.path,
      opens.path_is,
      record { befores = opens.befores; opened = c.open_container.new.lanes; befores_made = opens.befores_made; ends = inl (sym opens.begun_by.went_on_is ∙ body.0, body.1) },
    ) in
    record {
      left = (
        c.in_err-below.ensures.left.0,
        c.in_err-below.ensures.left.1 ∙ c.open_container.ensures.count,
        no_value _ c.from_residual-in_err-below.result why told,
        the_fault (λ w. EndsEarly ts c.args.depth c.args.item.node s w z) c.from_residual-in_err-below.result why told early,
      );
    }

pub TreeRunner::run_node-returns-in_err-own : goal.TreeRunner::run_node-returns-in_err-own
TreeRunner::run_node-returns-in_err-own g t c =
    let r = c.args.self.now.nodes in
    let ts = setting_of g.V.StoreValue.is_closeable g.S.Suite.suite_view g.S.Suite.enabled_gives g.S.Callbacks.registered g.S.Suite.call_gives g.S.Suite.action_gives g.S.Action.CloseAction.close_gives r.suite.now r.store.now r.locks.now in
    let s : Lanes g.row.V.Denot = record { first = c.args.lanes.now; second = c.args.lock_lanes.now } in
    let opened : Lanes g.row.V.Denot = record { first = c.open_container.new.lanes; second = c.args.lock_lanes.now } in
    let body : Lanes g.row.V.Denot = record { first = c.run_body.new.lanes; second = c.run_body.new.lock_lanes } in
    let z : Lanes g.row.V.Denot = record { first = c.close_container.new.lanes; second = c.run_body.new.lock_lanes } in
    let why = c.in_err-own.field-0.0 in
    let told = c.from_residual-in_err-own.ensures in
    let kept = c.in_ok-below.ensures.left.0 in
    let below = rans_below c.in_ok-below.below in
    let opens = c.in_ok-begun.ensures.befores in
    let left = c.in_err-own.ensures.unclosed opens.path opens.befores opens.begun_by in
    let early = container_early ts c.args.depth c.args.item.node s why z c.in_ok-begun.ensures.children.1 (search rules) (
      opens.path,
      opens.path_is,
      record {
        befores = opens.befores;
        opened = opened.first;
        befores_made = opens.befores_made;
        ends = inr (record {
          body = body;
          below = below;
          body_made = subst (λ go. BodyMade ts (TreeRun ts (c.args.depth - 1)) go c.args.item.node opened below body) opens.begun_by.went_on_is c.in_ok-below.ensures.left.2;
          unclosed = left;
          no_locks = refl;
        });
      },
    ) in
    record {
      left = (
        usable-then r.store.now r.locks.now body z kept c.close_container.ensures.count refl (c.close_container.ensures.own_lanes, kept.idle),
        c.close_container.ensures.count ∙ c.in_ok-below.ensures.left.1 ∙ c.open_container.ensures.count,
        no_value _ c.from_residual-in_err-own.result why told,
        the_fault (λ w. EndsEarly ts c.args.depth c.args.item.node s w z) c.from_residual-in_err-own.result why told early,
      );
    }

pub TreeRunner::run_node-gathered-requires-clause-room : goal.TreeRunner::run_node-gathered-requires-clause-room
TreeRunner::run_node-gathered-requires-clause-room g t c =
    let r = c.args.self.now.nodes in
    let ts = setting_of g.V.StoreValue.is_closeable g.S.Suite.suite_view g.S.Suite.enabled_gives g.S.Callbacks.registered g.S.Suite.call_gives g.S.Suite.action_gives g.S.Action.CloseAction.close_gives r.suite.now r.store.now r.locks.now in
    let node = c.args.item.node in
    let s : Lanes g.row.V.Denot = record { first = c.args.lanes.now; second = c.args.lock_lanes.now } in
    let body : Lanes g.row.V.Denot = record { first = c.run_body.new.lanes; second = c.run_body.new.lock_lanes } in
    let after : Lanes g.row.V.Denot = record { first = c.close_container.new.lanes; second = c.run_body.new.lock_lanes } in
    let opens = c.in_ok-begun.ensures.befores in
    let ends = c.in_ok-own.ensures.ends opens.path opens.befores opens.begun_by in
    let own = ran_view c.in_ok-own.own in
    let below = rans_below c.in_ok-below.below in
    let run = container_ran ts c.args.depth node s c.open_container.new.lanes body after own below opens.path opens.befores c.in_ok-begun.begun.went_on c.in_ok-begun.ensures.children.1 (search rules) (subst (ts.enabled_gives node) (search rules) c.is_enabled.ensures) opens.path_is opens.befores_made opens.begun_by.went_on_is c.in_ok-below.ensures.left.2 ends refl in
    let fits = room ts (subst IsTree c.tree-tree.ensures c.len-count.ensures.tree) c.requires.ready.0 c.args.depth c.args.depth c.args.item s (own ∷ below) after c.requires.item run in
    let a = c.len.ensures in let b = c.in_ok-ran.ensures.capacity in let d = c.args.item.closers.ok.0 in
    omega (arith, fits, a, b, d)

pub TreeRunner::run_node-returns : goal.TreeRunner::run_node-returns
TreeRunner::run_node-returns g t c =
    let r = c.args.self.now.nodes in
    let ts = setting_of g.V.StoreValue.is_closeable g.S.Suite.suite_view g.S.Suite.enabled_gives g.S.Callbacks.registered g.S.Suite.call_gives g.S.Suite.action_gives g.S.Action.CloseAction.close_gives r.suite.now r.store.now r.locks.now in
    let node = c.args.item.node in
    let s : Lanes g.row.V.Denot = record { first = c.args.lanes.now; second = c.args.lock_lanes.now } in
    let body : Lanes g.row.V.Denot = record { first = c.run_body.new.lanes; second = c.run_body.new.lock_lanes } in
    let after : Lanes g.row.V.Denot = record { first = c.close_container.new.lanes; second = c.run_body.new.lock_lanes } in
    let kept = c.in_ok-below.ensures.left.0 in
    let opens = c.in_ok-begun.ensures.befores in
    let ends = c.in_ok-own.ensures.ends opens.path opens.befores opens.begun_by in
    let own = ran_view c.in_ok-own.own in
    let below = rans_below c.in_ok-below.below in
    let run = container_ran ts c.args.depth node s c.open_container.new.lanes body after own below opens.path opens.befores c.in_ok-begun.begun.went_on c.in_ok-begun.ensures.children.1 (search rules) (subst (ts.enabled_gives node) (search rules) c.is_enabled.ensures) opens.path_is opens.befores_made opens.begun_by.went_on_is c.in_ok-below.ensures.left.2 ends refl in
    record {
      left = (
        usable-then r.store.now r.locks.now body after kept c.close_container.ensures.count refl (c.close_container.ensures.own_lanes, kept.idle),
        c.close_container.ensures.count ∙ c.in_ok-below.ensures.left.1 ∙ c.open_container.ensures.count,
        subst (λ l. TreeRun ts c.args.depth node s l after) (sym c.gathered.ensures) run,
        tt,
      );
    }

pub TreeRunner::run_body-returns-in_err-first : goal.TreeRunner::run_body-returns-in_err-first
TreeRunner::run_body-returns-in_err-first g t c =
    let r = c.args.self.now.nodes in
    let ts = setting_of g.V.StoreValue.is_closeable g.S.Suite.suite_view g.S.Suite.enabled_gives g.S.Callbacks.registered g.S.Suite.call_gives g.S.Suite.action_gives g.S.Action.CloseAction.close_gives r.suite.now r.store.now r.locks.now in
    let s : Lanes g.row.V.Denot = record { first = c.args.lanes.now; second = c.args.lock_lanes.now } in
    let z : Lanes g.row.V.Denot = record { first = c.run_beside.new.lanes; second = c.run_beside.new.lock_lanes } in
    let why = c.in_err-first.field-0.0 in
    let told = c.from_residual.ensures in
    let met = met_mine r.store.now c.args.lanes.now c.fork.new.lanes c.fork.ensures.forked.only_meet in
    let early = body_unmanned (TreeRun ts c.args.depth) (EndsEarly ts c.args.depth) ts c.args.node s c.fork.new.lanes c.fork.ensures.forked c.args.children.beside.items why z c.requires.children.concurrent c.in_err-first.ensures.left.3 in
    record {
      left = (
        c.in_err-first.ensures.left.0,
        c.in_err-first.ensures.left.1 ∙ met.1,
        no_value _ c.from_residual.result why told,
        the_fault (λ w. (c.args.go ≡ true) × BodyEndsEarly ts (TreeRun ts c.args.depth) (EndsEarly ts c.args.depth) c.args.node s w z) c.from_residual.result why told (search rules, early),
      );
    }

pub TreeRunner::run_body-returns-in_err-first_refusal : goal.TreeRunner::run_body-returns-in_err-first_refusal
TreeRunner::run_body-returns-in_err-first_refusal g t c =
    let r = c.args.self.now.nodes in
    let ts = setting_of g.V.StoreValue.is_closeable g.S.Suite.suite_view g.S.Suite.enabled_gives g.S.Callbacks.registered g.S.Suite.call_gives g.S.Suite.action_gives g.S.Action.CloseAction.close_gives r.suite.now r.store.now r.locks.now in
    let s : Lanes g.row.V.Denot = record { first = c.args.lanes.now; second = c.args.lock_lanes.now } in
    let z : Lanes g.row.V.Denot = record { first = c.run_beside.new.lanes; second = c.run_beside.new.lock_lanes } in
    let why = c.in_err-first_refusal.field-0.0 in
    let told = c.from_residual-in_err-first_refusal.ensures in
    let met = met_mine r.store.now c.args.lanes.now c.fork.new.lanes c.fork.ensures.forked.only_meet in
    let size = length-map c.args.children.beside.items (λ (i : Item). i.node) in
    let early = body_beside (TreeRun ts c.args.depth) (EndsEarly ts c.args.depth) ts c.args.node s c.fork.new.lanes c.fork.ensures.forked (map (λ i. i.node) c.args.children.beside.items) z c.in_ok-first.first.items (length c.args.children.beside.items)
    size c.requires.children.concurrent c.in_ok-first.ensures.left.2 why (subst (λ l. IsFirstRefusal l why) c.as_slice.ensures.value c.in_err-first_refusal.ensures.first) in
    record {
      left = (
        c.in_ok-first.ensures.left.0,
        c.in_ok-first.ensures.left.1 ∙ met.1,
        no_value _ c.from_residual-in_err-first_refusal.result why told,
        the_fault (λ w. (c.args.go ≡ true) × BodyEndsEarly ts (TreeRun ts c.args.depth) (EndsEarly ts c.args.depth) c.args.node s w z) c.from_residual-in_err-first_refusal.result why told (search rules, early),
      );
    }

pub TreeRunner::run_body-returns-in_err-others : goal.TreeRunner::run_body-returns-in_err-others
TreeRunner::run_body-returns-in_err-others g t c =
    let r = c.args.self.now.nodes in
    let ts = setting_of g.V.StoreValue.is_closeable g.S.Suite.suite_view g.S.Suite.enabled_gives g.S.Callbacks.registered g.S.Suite.call_gives g.S.Suite.action_gives g.S.Action.CloseAction.close_gives r.suite.now r.store.now r.locks.now in
    let s : Lanes g.row.V.Denot = record { first = c.args.lanes.now; second = c.args.lock_lanes.now } in
    let between : Lanes g.row.V.Denot = record { first = c.run_beside.new.lanes; second = c.run_beside.new.lock_lanes } in
    let z : Lanes g.row.V.Denot = record { first = c.run_in_turn.new.lanes; second = c.run_in_turn.new.lock_lanes } in
    let why = c.in_err-others.field-0.0 in
    let told = c.from_residual-in_err-others.ensures in
    let met = met_mine r.store.now c.args.lanes.now c.fork.new.lanes c.fork.ensures.forked.only_meet in
    let back = met_mine r.store.now c.run_beside.new.lanes c.join.new.lanes c.join.ensures.joined.only_meet in
    let size = length-map c.args.children.beside.items (λ (i : Item). i.node) in
    let early = body_behind (TreeRun ts c.args.depth) (EndsEarly ts c.args.depth) ts c.args.node s c.fork.new.lanes c.fork.ensures.forked (map (λ i. i.node) c.args.children.beside.items) between c.in_ok-first.first.items (length c.args.children.beside.items)
    size c.requires.children.concurrent c.in_ok-first.ensures.left.2 (map (λ i. i.node) c.args.children.in_turn.items) c.join.new.lanes why z c.join.ensures.joined c.requires.children.same_thread (search rules) c.in_err-others.ensures.left.3 in
    record {
      left = (
        c.in_err-others.ensures.left.0,
        c.in_err-others.ensures.left.1 ∙ (back.1 ∙ (c.in_ok-first.ensures.left.1 ∙ met.1)),
        no_value _ c.from_residual-in_err-others.result why told,
        the_fault (λ w. (c.args.go ≡ true) × BodyEndsEarly ts (TreeRun ts c.args.depth) (EndsEarly ts c.args.depth) c.args.node s w z) c.from_residual-in_err-others.result why told (search rules, early),
      );
    }

pub TreeRunner::run_in_turn-returns-in_err-below : goal.TreeRunner::run_in_turn-returns-in_err-below
TreeRunner::run_in_turn-returns-in_err-below g t c =
    let r = c.args.self.now.nodes in
    let ts = setting_of g.V.StoreValue.is_closeable g.S.Suite.suite_view g.S.Suite.enabled_gives g.S.Callbacks.registered g.S.Suite.call_gives g.S.Suite.action_gives g.S.Action.CloseAction.close_gives r.suite.now r.store.now r.locks.now in
    let s : Lanes g.row.V.Denot = record { first = c.args.lanes.now; second = c.args.lock_lanes.now } in
    let reached : Lanes g.row.V.Denot = record { first = c.loop-item.lanes; second = c.loop-item.lock_lanes } in
    let z : Lanes g.row.V.Denot = record { first = c.run_node.new.lanes; second = c.run_node.new.lock_lanes } in
    let why = c.in_err-below.field-0.0 in
    let told = c.from_residual.ensures in
    let list : c.loop-item.yielded ++ c.in-Some.item ∷ c.next.new.self.rest.items ≡ c.args.items.items = search rules in
    let early = turn_early (TreeRun ts c.args.depth) (EndsEarly ts c.args.depth) c.loop-item.yielded c.next.new.self.rest.items c.args.items.items c.in-Some.item s reached z (flat_map ran_in c.loop-item.outcomes.items) why list c.loop-item.invariant.run c.in_err-below.ensures.left.3 in
    record {
      left = (
        c.in_err-below.ensures.left.0,
        c.in_err-below.ensures.left.1 ∙ c.loop-item.invariant.count,
        no_value _ c.from_residual.result why told,
        the_fault (λ w. EndsInTurn (TreeRun ts c.args.depth) (EndsEarly ts c.args.depth) (map (λ i. i.node) c.args.items.items) s w z) c.from_residual.result why told early,
      );
    }
