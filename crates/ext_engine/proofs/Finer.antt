-- A run of a tree whose calls do what the setting says is one whose calls do what `finer` says, where that follows of each call that leads to the lanes at the run's end.
use Rattle.std.proofs.Common.{inl, inr, ℕ, zero, suc, Bool, true, false, List, [], ◌∷◌, min, length, refl, subst}
use Rattle.std.specs.Prelude.{All, Option, Some, None, slice_index_or}
use Rattle.std.specs.List.{FoldsTo}
use Rattle.std.proofs.lemmas.List.Elements.{All-nil, All-cons, All-head, All-tail, All-take, All-drop}
use Rattle.ext_history.proofs.Lists.{bools}
use Rattle.ext_lifecycle.specs.declared.call.Call.{Call}
use Rattle.ext_lifecycle.specs.declared.outcome.Outcome.{Outcome}
use Rattle.ext_lifecycle.specs.Endings.{all_successful, is_successful}
use Rattle.ext_lifecycle.specs.Lifecycle.{MakesAll, MakesBefores, MakesCalls, MakesIf, ending_of, endings_of}
use Rattle.ext_cells.specs.Lanes.{Lane}
use Rattle.ext_store.specs.Stores.{StoreLane}
use Rattle.ext_closing.specs.Sealing.{MakesSeals}
use Rattle.ext_locks.specs.Sets.{HeldView}
use Rattle.ext_crew.proofs.Runs.{run-weaker}
use Rattle.ext_engine.specs.Meeting.{OnlyMeets}
use Rattle.ext_engine.specs.TreeRun.{Ran, TreeSetting, with_calls, Lanes, TreeRun, TestRun, ContainerRun, BodyRun, BodyMade, ClosesNode, OnFirst, MakesOn, concurrent_children, with_lanes}
use Rattle.ext_engine.proofs.Grown.{Entry}
use Rattle.ext_engine.proofs.Order.{run-inside}
use Rattle.ext_engine.proofs.Relates.{AllRelate, all_relate, close_relates, dealt_relates, first_relates, met_relate, tree_relates, turn_relates}

module _ {V A : Type 0} (t : TreeSetting V A) (finer : ℕ → Call → Option HeldView → StoreLane V → Outcome → StoreLane V → Type 0)
    (R : StoreLane V → StoreLane V → Type 0) (same : (a : StoreLane V) → R a a) (next : (a b c : StoreLane V) → R a b → R b c → R a c)
    (moves : (node : ℕ) (call : Call) (held : Option HeldView) (a : StoreLane V) (outcome : Outcome) (b : StoreLane V) → t.call_gives node call held a outcome b → R a b)
    (meets : (a b : StoreLane V) → OnlyMeets t.store a b → R a b)
    (seals : (context : ℕ) (a : StoreLane V) (cells : Lane) → MakesSeals t.store context a.cells cells → R a (record { cells = cells; known = a.known; faults = a.faults; keys = a.keys }))
    (Leads : StoreLane V → Type 0) (back : (a b : StoreLane V) → R a b → Leads b → Leads a)
    (turns : (node : ℕ) (call : Call) (held : Option HeldView) (a : StoreLane V) (outcome : Outcome) (b : StoreLane V) → t.call_gives node call held a outcome b → Leads b → finer node call held a outcome b) where
  abbrev LeadsOf : Lanes V → Type 0
  LeadsOf s = All Leads s.first

  all_back : (xs ys : List (StoreLane V)) → AllRelate R same next xs ys → All Leads ys → All Leads xs
  all_back [] [] go all = All-nil Leads
  all_back [] (b ∷ ys) go all = absurd go
  all_back (a ∷ xs) [] go all = absurd go
  all_back (a ∷ xs) (b ∷ ys) go all = All-cons Leads a xs (back a b go.0 (All-head Leads b ys all)) (all_back xs ys go.1 (All-tail Leads b ys all))

  -- ---- the calls of a node

  module _ (node : ℕ) (held : Option HeldView) where
    abbrev Made : StoreLane V → Call → Outcome → StoreLane V → Type 0
    Made = MakesOn t node held

    abbrev Finer : StoreLane V → Call → Outcome → StoreLane V → Type 0
    Finer = MakesOn (with_calls finer t) node held

    all_finer : (calls : List Call) (a : StoreLane V) (outcomes : List Outcome) (b : StoreLane V) → MakesAll Made calls a outcomes b → Leads b → MakesAll Finer calls a outcomes b × Leads a
    all_finer [] a outcomes b made leads = (made, subst Leads made.1 leads)
    all_finer (call ∷ calls) a outcomes b made leads =
        let rest = all_finer calls made.2 made.1 b made.5 leads in
        let one = moves node call held a made.0 made.2 made.4 in
        ((made.0, made.1, made.2, made.3, turns node call held a made.0 made.2 made.4 rest.1, rest.0), back a made.2 one rest.1)

    befores_finer : (calls : List Call) (a : StoreLane V) (outcomes : List Outcome) (b : StoreLane V) → MakesBefores Made calls a outcomes b → Leads b → MakesBefores Finer calls a outcomes b × Leads a
    befores_finer [] a outcomes b made leads = (made, subst Leads made.1 leads)
    befores_finer (call ∷ calls) a outcomes b made leads =
        let one = moves node call held a made.0 made.2 made.4 in
        let here : Leads made.2 = elim (bools (is_successful (ending_of made.0.verdict))) [
          | inl on ↦ (befores_finer calls made.2 made.1 b (made.5.0 on) leads).1
          | inr off ↦ subst Leads (made.5.1 off).1 leads
        ] in
        ((made.0, made.1, made.2, made.3, turns node call held a made.0 made.2 made.4 here, ((λ on. (befores_finer calls made.2 made.1 b (made.5.0 on) leads).0), made.5.1)), back a made.2 one here)

    if_finer : (go : Bool) (call : Call) (a : StoreLane V) (outcomes : List Outcome) (b : StoreLane V) → MakesIf Made go call a outcomes b → Leads b → MakesIf Finer go call a outcomes b × Leads a
    if_finer true call a outcomes b made leads =
        let r = all_finer (call ∷ []) a outcomes b (made.made refl) leads in
        (record { made = λ on. r.0; skipped = λ off. absurd (cc off) }, r.1)
    if_finer false call a outcomes b made leads = (record { made = λ on. absurd (cc on); skipped = made.skipped }, subst Leads (made.skipped refl).1 leads)

    calls_finer : (befores : List Call) (body : Call) (afters : List Call) (a : StoreLane V) (outcomes : List Outcome) (b : StoreLane V) → MakesCalls Made befores body afters a outcomes b → Leads b
        → MakesCalls Finer befores body afters a outcomes b
    calls_finer befores body afters a outcomes b made leads =
        let third = all_finer afters made.closing made.third b made.afters_made leads in
        let second = if_finer (all_successful (endings_of made.first)) body made.opened made.second made.closing made.body_made third.1 in
        let first = befores_finer befores a made.first made.opened made.befores_made second.1 in
        record { first = made.first; second = made.second; third = made.third; opened = made.opened; closing = made.closing; befores_made = first.0; body_made = second.0; afters_made = third.0; all = made.all }

  -- a change of the first lane
  first_finer : (Q Q' : StoreLane V → StoreLane V → Type 0) (xs ys : List (StoreLane V)) → ((a b : StoreLane V) → Q a b → Leads b → Q' a b) → OnFirst Q xs ys → All Leads ys → OnFirst Q' xs ys
  first_finer Q Q' xs ys turn on all =
      let here : Leads on.left = All-head Leads on.left on.rest (subst (All Leads) on.first_is all) in
      record { lane = on.lane; left = on.left; rest = on.rest; first_was = on.first_was; change = turn on.lane on.left on.change here; first_is = on.first_is }

  closed_back : (node : ℕ) (before : List (StoreLane V)) (faults : _) (after : List (StoreLane V)) → ClosesNode t node before faults after → All Leads after → All Leads before
  closed_back node before faults after closes all = all_back before after (close_relates t R same next moves meets seals _ before after closes.closes.lanes closes.closes.own_events) all

  close_finer : (node : ℕ) (before : List (StoreLane V)) (faults : _) (after : List (StoreLane V)) → ClosesNode t node before faults after → ClosesNode (with_calls finer t) node before faults after
  close_finer node before faults after c = record {
    closer = c.closer;
    closer_is = c.closer_is;
    context_is = c.context_is;
    action = c.action;
    action_is = c.action_is;
    action_left = c.action_left;
    closed = c.closed;
    closes = c.closes;
    faults_are = c.faults_are;
  }

  test_finer : (node : ℕ) (path : List ℕ) (before : Lanes V) (ran : List Ran) (after : Lanes V) → TestRun t node path before ran after → LeadsOf after → TestRun (with_calls finer t) node path before ran after
  test_finer node path before ran after run leads = record {
    set = run.set;
    set_is = run.set_is;
    held = run.held;
    locked = run.locked;
    takes = run.takes;
    outcomes = run.outcomes;
    called = run.called;
    calls = first_finer _ _ before.first run.called (λ a b made here. calls_finer node (Some run.held) _ _ _ a run.outcomes b made here) run.calls (closed_back node run.called run.faults after.first run.closes leads);
    faults = run.faults;
    closes = close_finer node run.called run.faults after.first run.closes;
    given_back = run.given_back;
    ran_is = run.ran_is;
  }

  -- ---- children

  module _ (Run Run' : ℕ → Lanes V → List Ran → Lanes V → Type 0) (at : (c : ℕ) (s : Lanes V) (below : List Ran) (u : Lanes V) → Run c s below u → AllRelate R same next s.first u.first)
      (turn : (c : ℕ) (s : Lanes V) (below : List Ran) (u : Lanes V) → Run c s below u → LeadsOf u → Run' c s below u) where
    turned_finer : (done : List Entry) (s u : Lanes V) → FoldsTo (λ s d u. Run d.0 s d.1 u) s done u → LeadsOf u → FoldsTo (λ s d u. Run' d.0 s d.1 u) s done u
    turned_finer [] s u run leads = run
    turned_finer (e ∷ done) s u run leads =
        let later = turn_relates t R same next moves meets seals Run at done run.0 u run.2 in
        (run.0, turn e.0 s e.1 run.0 run.1 (all_back run.0.first u.first later leads), turned_finer done run.0 u run.2 leads)

    children_finer : (node : ℕ) (before : Lanes V) (below : List Ran) (after : Lanes V) → BodyRun t Run node before below after → LeadsOf after
        → BodyRun (with_calls finer t) Run' node before below after × All Leads before.first
    children_finer node before below after b leads =
        let cs = concurrent_children t node in
        let u = with_lanes b.joined b.between in
        let runs : ℕ → Lanes V → List Ran → Lanes V → Type 0 = λ i s ran u. Run (slice_index_or cs i 0) s ran u in
        let joined = all_back b.joined after.first (turn_relates t R same next moves meets seals Run at b.in_turn.done u after b.in_turn.runs) leads in
        let between = all_back b.between.first b.joined (met_relate t R same next moves meets seals b.between.first b.joined b.joins.only_meet) joined in
        let forked = all_back b.forked b.between.first (dealt_relates t R same next moves meets seals Run at node before below after b) between in
        let began = all_back before.first b.forked (met_relate t R same next moves meets seals before.first b.forked b.forks.only_meet) forked in
        let inside = run-inside runs (λ s. Unit {0}) LeadsOf (λ job s o u r k. tt) (λ job s o u r l. all_back s.first u.first (at (slice_index_or cs job 0) s o u r) l) (λ n s k. (tt, tt))
        (λ n s l. (All-take Leads n s.first l, All-drop Leads n s.first l)) (length cs) (min (length b.forked) (length cs)) (with_lanes b.forked before) b.between b.beside tt between b.dealt in (
          record {
            forked = b.forked;
            forks = b.forks;
            beside = b.beside;
            between = b.between;
            dealt = run-weaker _ _ inside (λ job s o u r. turn (slice_index_or cs job 0) s o u r.0 r.2);
            joined = b.joined;
            joins = b.joins;
            alone = b.alone;
            in_turn = record { done = b.in_turn.done; each = b.in_turn.each; runs = turned_finer b.in_turn.done u after b.in_turn.runs leads; ran_are = b.in_turn.ran_are };
            below_are = b.below_are;
          },
          began,
        )

    made_finer : (on : Bool) (node : ℕ) (before : Lanes V) (below : List Ran) (after : Lanes V) → BodyMade t Run on node before below after → LeadsOf after
        → BodyMade (with_calls finer t) Run' on node before below after × LeadsOf before
    made_finer true node before below after made leads =
        let r = children_finer node before below after (made.made refl) leads in
        (record { made = λ on. r.0; skipped = λ off. absurd (cc off) }, r.1)
    made_finer false node before below after made leads =
        (record { made = λ on. absurd (cc on); skipped = made.skipped }, subst (λ (x : Lanes V). LeadsOf x) (made.skipped refl).1 leads)

    container_finer : (node : ℕ) (path : List ℕ) (before : Lanes V) (ran : List Ran) (after : Lanes V) → ContainerRun t Run node path before ran after → LeadsOf after
        → ContainerRun (with_calls finer t) Run' node path before ran after
    container_finer node path before ran after run leads =
        let opened : Lanes V = record { first = run.opened; second = before.second } in
        let called = closed_back node run.ends.called run.ends.faults after.first run.ends.closes leads in
        let body = all_back run.body.first run.ends.called (first_relates R same next _ run.body.first run.ends.called (λ a b made. all_relate t R same next moves meets seals node None _ a run.ends.afters b made) run.ends.afters_made) called in
        let made = made_finer (all_successful (endings_of run.befores)) node opened run.below run.body run.body_made body in
        record {
          befores = run.befores;
          opened = run.opened;
          befores_made = first_finer _ _ before.first run.opened (λ a b made here. (befores_finer node None _ a run.befores b made here).0) run.befores_made made.1;
          body = run.body;
          below = run.below;
          body_made = made.0;
          own = run.own;
          ends = record {
            afters = run.ends.afters;
            called = run.ends.called;
            afters_made = first_finer _ _ run.body.first run.ends.called (λ a b made here. (all_finer node None _ a run.ends.afters b made here).0) run.ends.afters_made called;
            faults = run.ends.faults;
            closes = close_finer node run.ends.called run.ends.faults after.first run.ends.closes;
            own_is = run.ends.own_is;
          };
          no_locks = run.no_locks;
          ran_are = run.ran_are;
        }

  pub tree_finer : (depth node : ℕ) (before : Lanes V) (ran : List Ran) (after : Lanes V) → TreeRun t depth node before ran after → LeadsOf after → TreeRun (with_calls finer t) depth node before ran after
  tree_finer zero node before ran after run leads = absurd run
  tree_finer (suc depth) node before ran after run leads = (
    run.0,
    run.1,
    elim run.2 [
      | inl left ↦ inl (record { allowed = left.allowed; some_lane = left.some_lane; ran_is = left.ran_is; untouched = left.untouched })
      | inr on ↦ inr (
        (λ test. test_finer node run.0 before ran after (on.0 test) leads),
        (λ container.
            container_finer (λ child s below u. TreeRun t depth child s below u) (λ child s below u. TreeRun (with_calls finer t) depth child s below u)
            (λ c s below u r. tree_relates t R same next moves meets seals depth c s below u r) (λ c s below u r here. tree_finer depth c s below u r here) node run.0 before ran after (on.1 container) leads),
        on.2,
      )
    ],
  )
