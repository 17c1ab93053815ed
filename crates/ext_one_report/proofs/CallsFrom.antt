-- Where a run of a tree begins with lanes of which something is so, and calls, meetings and runs of children leave lanes of which it is so, each of its calls begins with such a lane.
use Rattle.std.proofs.Common.{inl, inr, ℕ, zero, suc, Bool, true, false, List, [], ◌∷◌, min, length, refl, sym, subst}
use Rattle.std.specs.Prelude.{All, Option, Some, None, slice_index_or}
use Rattle.std.specs.List.{AllZip, FoldsTo}
use Rattle.std.proofs.lemmas.List.Elements.{All-cons, All-head, All-tail, All-take, All-drop}
use Rattle.ext_history.proofs.Lists.{bools}
use Rattle.ext_model.specs.declared.look.Fault.{Fault}
use Rattle.ext_lifecycle.specs.declared.call.Call.{Call}
use Rattle.ext_lifecycle.specs.declared.outcome.Outcome.{Outcome}
use Rattle.ext_lifecycle.specs.Endings.{all_successful, is_successful}
use Rattle.ext_lifecycle.specs.Lifecycle.{MakesAll, MakesBefores, MakesCalls, MakesIf, ending_of, endings_of}
use Rattle.ext_store.specs.Stores.{StoreLane}
use Rattle.ext_locks.specs.Sets.{HeldView}
use Rattle.ext_crew.proofs.Runs.{run-weaker}
use Rattle.ext_engine.specs.Meeting.{OnlyMeets}
use Rattle.ext_engine.specs.TreeRun.{BodyMade, BodyRun, ClosesNode, ContainerRun, Lanes, MakesOn, OnFirst, Ran, TestRun, TreeRun, TreeSetting, concurrent_children, with_calls, with_lanes}
use Rattle.ext_engine.proofs.Grown.{Entry}
use Rattle.ext_engine.proofs.Order.{run-inside}

module _ {V A : Type 0} (t : TreeSetting V A) (Is : StoreLane V → Type 0) where
  -- a call that begins with such a lane
  abbrev pub CallsFrom : ℕ → Call → Option HeldView → StoreLane V → Outcome → StoreLane V → Type 0
  CallsFrom node call held a outcome b = t.call_gives node call held a outcome b × Is a

  -- what keeps it so of lanes
  pub record Keeps : Type 0 where
    pub calls : (node : ℕ) (call : Call) (held : Option HeldView) (a : StoreLane V) (outcome : Outcome) (b : StoreLane V) → t.call_gives node call held a outcome b → Is a → Is b
    pub met : (xs ys : List (StoreLane V)) → AllZip (OnlyMeets t.store) xs ys → All Is xs → All Is ys
    pub runs : (depth node : ℕ) (before : Lanes V) (ran : List Ran) (after : Lanes V) → TreeRun t depth node before ran after → All Is before.first → All Is after.first
    -- after the children that run beside one another
    pub joined : (depth node : ℕ) (before : Lanes V) (below : List Ran) (after : Lanes V) (body : BodyRun t (TreeRun t depth) node before below after) → All Is body.forked → All Is body.joined

module _ {V A : Type 0} (t : TreeSetting V A) (Is : StoreLane V → Type 0) (keeps : Keeps t Is) where
  abbrev finer : TreeSetting V A
  finer = with_calls (CallsFrom t Is) t

  -- ---- closes

  close_from : (node : ℕ) (before : List (StoreLane V)) (faults : List (Option Fault)) (after : List (StoreLane V)) → ClosesNode t node before faults after → ClosesNode finer node before faults after
  close_from node before faults after c = record {
    closer = c.closer;
    closer_is = c.closer_is;
    context_is = c.context_is;
    action = c.action;
    action_is = c.action_is;
    action_left = c.action_left;
    closed = c.closed;
    closes = c.closes;
    faults_are = c.faults_are;
  }

  -- ---- the calls of a node

  module _ (node : ℕ) (held : Option HeldView) where
    abbrev Made : StoreLane V → Call → Outcome → StoreLane V → Type 0
    Made = MakesOn t node held

    abbrev Of : StoreLane V → Call → Outcome → StoreLane V → Type 0
    Of = MakesOn finer node held

    all_from : (calls : List Call) (a : StoreLane V) (outcomes : List Outcome) (b : StoreLane V) → MakesAll Made calls a outcomes b → Is a → MakesAll Of calls a outcomes b × Is b
    all_from [] a outcomes b made is = (made, subst Is (sym made.1) is)
    all_from (call ∷ calls) a outcomes b made is =
        let rest = all_from calls made.2 made.1 b made.5 (keeps.calls node call held a made.0 made.2 made.4 is) in
        ((made.0, made.1, made.2, made.3, (made.4, is), rest.0), rest.1)

    befores_from : (calls : List Call) (a : StoreLane V) (outcomes : List Outcome) (b : StoreLane V) → MakesBefores Made calls a outcomes b → Is a → MakesBefores Of calls a outcomes b × Is b
    befores_from [] a outcomes b made is = (made, subst Is (sym made.1) is)
    befores_from (call ∷ calls) a outcomes b made is =
        let one = keeps.calls node call held a made.0 made.2 made.4 is in
        let here : Is b = elim (bools (is_successful (ending_of made.0.verdict))) [
          | inl on ↦ (befores_from calls made.2 made.1 b (made.5.0 on) one).1
          | inr off ↦ subst Is (sym (made.5.1 off).1) one
        ] in
        ((made.0, made.1, made.2, made.3, (made.4, is), ((λ on. (befores_from calls made.2 made.1 b (made.5.0 on) one).0), made.5.1)), here)

    if_from : (go : Bool) (call : Call) (a : StoreLane V) (outcomes : List Outcome) (b : StoreLane V) → MakesIf Made go call a outcomes b → Is a → MakesIf Of go call a outcomes b × Is b
    if_from true call a outcomes b made is =
        let r = all_from (call ∷ []) a outcomes b (made.made refl) is in
        (record { made = λ on. r.0; skipped = λ off. absurd (cc off) }, r.1)
    if_from false call a outcomes b made is = (record { made = λ on. absurd (cc on); skipped = made.skipped }, subst Is (sym (made.skipped refl).1) is)

    calls_from : (befores : List Call) (body : Call) (afters : List Call) (a : StoreLane V) (outcomes : List Outcome) (b : StoreLane V) → MakesCalls Made befores body afters a outcomes b → Is a
        → MakesCalls Of befores body afters a outcomes b × Is b
    calls_from befores body afters a outcomes b made is =
        let first = befores_from befores a made.first made.opened made.befores_made is in
        let second = if_from (all_successful (endings_of made.first)) body made.opened made.second made.closing made.body_made first.1 in
        let third = all_from afters made.closing made.third b made.afters_made second.1 in
        (record { first = made.first; second = made.second; third = made.third; opened = made.opened; closing = made.closing; befores_made = first.0; body_made = second.0; afters_made = third.0; all = made.all }, third.1)

  -- a change of the first lane
  first_from : (Q Q' : StoreLane V → StoreLane V → Type 0) (xs ys : List (StoreLane V)) → ((a b : StoreLane V) → Q a b → Is a → Q' a b × Is b) → OnFirst Q xs ys → All Is xs → OnFirst Q' xs ys × All Is ys
  first_from Q Q' xs ys turn on all =
      let lanes = subst (All Is) on.first_was all in
      let r = turn on.lane on.left on.change (All-head Is on.lane on.rest lanes) in (
        record { lane = on.lane; left = on.left; rest = on.rest; first_was = on.first_was; change = r.0; first_is = on.first_is },
        subst (All Is) (sym on.first_is) (All-cons Is on.left on.rest r.1 (All-tail Is on.lane on.rest lanes)),
      )

  test_from : (node : ℕ) (path : List ℕ) (before : Lanes V) (ran : List Ran) (after : Lanes V) → TestRun t node path before ran after → All Is before.first → TestRun finer node path before ran after
  test_from node path before ran after run all = record {
    set = run.set;
    set_is = run.set_is;
    held = run.held;
    locked = run.locked;
    takes = run.takes;
    outcomes = run.outcomes;
    called = run.called;
    calls = (first_from _ _ before.first run.called (λ a b made is. calls_from node (Some run.held) _ _ _ a run.outcomes b made is) run.calls all).0;
    faults = run.faults;
    closes = close_from node run.called run.faults after.first run.closes;
    given_back = run.given_back;
    ran_is = run.ran_is;
  }

  -- ---- children

  module _ (depth : ℕ) (Run' : ℕ → Lanes V → List Ran → Lanes V → Type 0) (turn : (c : ℕ) (s : Lanes V) (below : List Ran) (u : Lanes V) → TreeRun t depth c s below u → All Is s.first → Run' c s below u) where
    abbrev Run : ℕ → Lanes V → List Ran → Lanes V → Type 0
    Run c s below u = TreeRun t depth c s below u

    turned_from : (done : List Entry) (s u : Lanes V) → FoldsTo (λ s d u. Run d.0 s d.1 u) s done u → All Is s.first → FoldsTo (λ s d u. Run' d.0 s d.1 u) s done u × All Is u.first
    turned_from [] s u run all = (run, subst (λ (x : Lanes V). All Is x.first) run all)
    turned_from (e ∷ done) s u run all =
        let rest = turned_from done run.0 u run.2 (keeps.runs depth e.0 s e.1 run.0 run.1 all) in
        ((run.0, turn e.0 s e.1 run.0 run.1 all, rest.0), rest.1)

    body_from : (node : ℕ) (before : Lanes V) (below : List Ran) (after : Lanes V) → BodyRun t (TreeRun t depth) node before below after → All Is before.first
        → BodyRun finer Run' node before below after × All Is after.first
    body_from node before below after b all =
        let cs = concurrent_children t node in
        let runs : ℕ → Lanes V → List Ran → Lanes V → Type 0 = λ i s ran u. Run (slice_index_or cs i 0) s ran u in
        let forked = keeps.met before.first b.forked b.forks.only_meet all in
        let joined = keeps.joined depth node before below after b forked in
        let inside = run-inside runs (λ s. All Is s.first) (λ s. Unit {0}) (λ job s o u r k. keeps.runs depth (slice_index_or cs job 0) s o u r k) (λ job s o u r l. tt)
        (λ n s k. (All-take Is n s.first k, All-drop Is n s.first k)) (λ n s l. (tt, tt)) (length cs) (min (length b.forked) (length cs)) (with_lanes b.forked before) b.between b.beside forked tt b.dealt in
        let rest = turned_from b.in_turn.done (with_lanes b.joined b.between) after b.in_turn.runs joined in (
          record {
            forked = b.forked;
            forks = b.forks;
            beside = b.beside;
            between = b.between;
            dealt = run-weaker _ _ inside (λ job s o u r. turn (slice_index_or cs job 0) s o u r.0 r.1);
            joined = b.joined;
            joins = b.joins;
            alone = b.alone;
            in_turn = record { done = b.in_turn.done; each = b.in_turn.each; runs = rest.0; ran_are = b.in_turn.ran_are };
            below_are = b.below_are;
          },
          rest.1,
        )

    made_from : (on : Bool) (node : ℕ) (before : Lanes V) (below : List Ran) (after : Lanes V) → BodyMade t (TreeRun t depth) on node before below after → All Is before.first
        → BodyMade finer Run' on node before below after × All Is after.first
    made_from true node before below after made all =
        let r = body_from node before below after (made.made refl) all in
        (record { made = λ on. r.0; skipped = λ off. absurd (cc off) }, r.1)
    made_from false node before below after made all =
        (record { made = λ on. absurd (cc on); skipped = made.skipped }, subst (λ (x : Lanes V). All Is x.first) (sym (made.skipped refl).1) all)

    container_from : (node : ℕ) (path : List ℕ) (before : Lanes V) (ran : List Ran) (after : Lanes V) → ContainerRun t (TreeRun t depth) node path before ran after → All Is before.first
        → ContainerRun finer Run' node path before ran after
    container_from node path before ran after run all =
        let opened : Lanes V = record { first = run.opened; second = before.second } in
        let befores = first_from _ _ before.first run.opened (λ a b made is. befores_from node None _ a run.befores b made is) run.befores_made all in
        let body = made_from (all_successful (endings_of run.befores)) node opened run.below run.body run.body_made befores.1 in
        record {
          befores = run.befores;
          opened = run.opened;
          befores_made = befores.0;
          body = run.body;
          below = run.below;
          body_made = body.0;
          own = run.own;
          ends = record {
            afters = run.ends.afters;
            called = run.ends.called;
            afters_made = (first_from _ _ run.body.first run.ends.called (λ a b made is. all_from node None _ a run.ends.afters b made is) run.ends.afters_made body.1).0;
            faults = run.ends.faults;
            closes = close_from node run.ends.called run.ends.faults after.first run.ends.closes;
            own_is = run.ends.own_is;
          };
          no_locks = run.no_locks;
          ran_are = run.ran_are;
        }

  pub tree_from : (depth node : ℕ) (before : Lanes V) (ran : List Ran) (after : Lanes V) → TreeRun t depth node before ran after → All Is before.first → TreeRun finer depth node before ran after
  tree_from zero node before ran after run all = absurd run
  tree_from (suc depth) node before ran after run all = (
    run.0,
    run.1,
    elim run.2 [
      | inl left ↦ inl (record { allowed = left.allowed; some_lane = left.some_lane; ran_is = left.ran_is; untouched = left.untouched })
      | inr on ↦ inr (
        (λ test. test_from node run.0 before ran after (on.0 test) all),
        (λ container.
            container_from depth (λ child s below u. TreeRun finer depth child s below u) (λ c s below u r here. tree_from depth c s below u r here) node run.0 before ran after (on.1 container) all),
        on.2,
      )
    ],
  )
