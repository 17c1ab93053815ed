-- What is true of all events that are made in a run of a node, where it is true of those of its calls, of its close, and of the runs of its children.
use Rattle.std.proofs.Common.{◌≡◌, inl, inr, ℕ, ◌<◌, zero, suc, Bool, true, false, List, [], ◌∷◌, ◌++◌, min, length, map, refl, sym, subst}
use Rattle.std.specs.Prelude.{All, Contains, Option, Some, None, slice_index_or}
use Rattle.std.specs.List.{FoldsTo}
use Rattle.std.proofs.lemmas.List.Elements.{All-head, All-tail, All-weaker, Contains-append_left, Contains-append_right, Contains-get_or}
use base.Growing.{prefix_trans}
use Rattle.ext_history.specs.Histories.{seen_by}
use Rattle.ext_history.proofs.Lists.{bools, contains_cons, contains_here, contains_later, contains_none}
use Rattle.ext_model.specs.declared.look.Fault.{Fault}
use Rattle.ext_model.specs.History.{History}
use Rattle.ext_lifecycle.specs.declared.call.Call.{Call}
use Rattle.ext_lifecycle.specs.declared.outcome.Outcome.{Outcome}
use Rattle.ext_lifecycle.specs.Callbacks.{afters_of, befores_of, test_call}
use Rattle.ext_lifecycle.specs.Endings.{all_successful, is_successful}
use Rattle.ext_lifecycle.specs.Lifecycle.{MakesAll, MakesBefores, MakesCalls, MakesIf, ending_of, endings_of}
use Rattle.ext_tree.specs.Trees.{IsPathOf}
use Rattle.ext_store.specs.Stores.{StoreLane}
use Rattle.ext_locks.specs.Sets.{HeldView}
use Rattle.ext_engine.specs.Meeting.{HasSeenWithin, first_seen}
use Rattle.ext_engine.specs.Order.{AllGoOn, CallsGoOn, IsMadeBy, IsMadeIn, IsWithin, LaneGoesOn}
use Rattle.ext_engine.specs.TreeRun.{BodyMade, BodyRun, ClosesNode, ContainerRun, Lanes, MakesOn, OnFirst, Ran, TestRun, TreeRun, TreeSetting, concurrent_children, same_thread_children, with_lanes}
use Rattle.ext_engine.proofs.Acts.{all_made_then, all_met_made, same_made}
use Rattle.ext_engine.proofs.Going.{all_go, all_met, all_same, all_then, befores_go, calls_go, children_dealt_go, close_goes, first_goes, goes_same, tree_goes, turn_goes}
use Rattle.ext_engine.proofs.Grown.{Entry}
use Rattle.ext_engine.proofs.Order.{came_from, children_within}
use Rattle.ext_one_report.specs.Changing.{IsCallOf}
use Rattle.ext_one_report.proofs.Containers.{bounded}
use Rattle.ext_one_report.proofs.Dealt.{by_dealt}
use Rattle.ext_one_report.proofs.Parts.{first_within}

module _ {V A : Type 0} (t : TreeSetting V A) where
  -- Each call of a node and each close of a context, within this history, makes events at such places of it alone
  pub record MakesOnlySuch (h : History) (Such : ℕ → Type 0) : Type 0 where
    pub calls : (node : ℕ) (call : Call) (held : Option HeldView) (before : StoreLane V) (outcome : Outcome) (after : StoreLane V) → t.call_gives node call held before outcome after → HasSeenWithin h after
        → (place : ℕ) → IsMadeBy h place before after → Such place
    pub closes : (node : ℕ) (before : List (StoreLane V)) (faults : List (Option Fault)) (after : List (StoreLane V)) → ClosesNode t node before faults after → All (HasSeenWithin h) after
        → (place : ℕ) → IsMadeIn h place before after → Such place

module _ {V A : Type 0} (t : TreeSetting V A) (h : History) (IsParent On : ℕ → ℕ → Type 0) where
  abbrev pub OnIn : ℕ → List (StoreLane V) → List (StoreLane V) → Type 0
  OnIn node xs ys = (place : ℕ) → IsMadeIn h place xs ys → On node place

  -- `On` is so for a node of the events of each of its calls and of its close, and of those of which it is so for a child. `IsParent` is what is known of a node and its child
  pub record IsOnNodes : Type 0 where
    pub calls : (node : ℕ) (call : Call) → IsCallOf t node call → (held : Option HeldView) (before : StoreLane V) (outcome : Outcome) (after : StoreLane V) → t.call_gives node call held before outcome after
        → HasSeenWithin h after → (place : ℕ) → IsMadeBy h place before after → On node place
    pub closes : (node : ℕ) (path : List ℕ) → IsPathOf t.store.tree node path → (before : List (StoreLane V)) (faults : List (Option Fault)) (after : List (StoreLane V)) → ClosesNode t node before faults after
        → All (HasSeenWithin h) after → OnIn node before after
    pub concurrent : (node : ℕ) (path : List ℕ) → IsPathOf t.store.tree node path → (child : ℕ) → Contains (concurrent_children t node) child → IsParent node child
    pub others : (node : ℕ) (path : List ℕ) → IsPathOf t.store.tree node path → All (IsParent node) (same_thread_children t node)
    pub up : (node child place : ℕ) → IsParent node child → On child place → On node place

module _ {V A : Type 0} (t : TreeSetting V A) (moves : CallsGoOn t.call_gives) (h : History) (IsParent On : ℕ → ℕ → Type 0) (on : IsOnNodes t h IsParent On) where
  abbrev OnAll : ℕ → List (StoreLane V) → List (StoreLane V) → Type 0
  OnAll node xs ys = OnIn t h IsParent On node xs ys

  same_on : (node : ℕ) (xs : List (StoreLane V)) → OnAll node xs xs
  same_on node xs place made = absurd (same_made h xs place made)

  then_on : (node : ℕ) (xs ys zs : List (StoreLane V)) → AllGoOn xs ys → OnAll node xs ys → OnAll node ys zs → OnAll node xs zs
  then_on node xs ys zs go one two place made = elim (all_made_then h xs ys zs place go made) [ inl early ↦ one place early | inr late ↦ two place late ]

  first_on : (node : ℕ) (R : StoreLane V → StoreLane V → Type 0) (xs ys : List (StoreLane V)) → ((a b : StoreLane V) → R a b → HasSeenWithin h b → OnAll node (a ∷ []) (b ∷ [])) → OnFirst R xs ys → All (HasSeenWithin h) ys → OnAll node xs ys
  first_on node R xs ys turn first within place made =
      let here : IsMadeIn h place (first.lane ∷ first.rest) (first.left ∷ first.rest) = subst (λ l. IsMadeIn h place (first.lane ∷ first.rest) l) first.first_is (subst (λ l. IsMadeIn h place l ys) first.first_was made) in
      elim here [
        | inl one ↦ turn first.lane first.left first.change (All-head (HasSeenWithin h) first.left first.rest (subst (All (HasSeenWithin h)) first.first_is within)) place (inl one)
        | inr more ↦ absurd (same_made h first.rest place more)
      ]

  -- a lane that goes on to one that has seen a part of the history has seen a part of it
  earlier : (a b : StoreLane V) → LaneGoesOn a b → HasSeenWithin h b → HasSeenWithin h a
  earlier a b go within = prefix_trans (seen_by a.cells.view) (seen_by b.cells.view) h go.seen within

  -- ---- the calls of a node

  module _ (node : ℕ) (held : Option HeldView) where
    abbrev Made : StoreLane V → Call → Outcome → StoreLane V → Type 0
    Made = MakesOn t node held

    abbrev AreCallsOf : List Call → Type 0
    AreCallsOf calls = (call : Call) → Contains calls call → IsCallOf t node call

    only : (call : Call) → IsCallOf t node call → AreCallsOf (call ∷ [])
    only call mine c there = elim (contains_cons call [] c there) [ inl same ↦ subst (λ x. IsCallOf t node x) same mine | inr none ↦ absurd (contains_none c none) ]

    call_on : (call : Call) → IsCallOf t node call → (a : StoreLane V) (outcome : Outcome) (b : StoreLane V) → Made a call outcome b → HasSeenWithin h b → OnAll node (a ∷ []) (b ∷ [])
    call_on call mine a outcome b gives within place made = elim made [
      | inl one ↦ on.calls node call mine held a outcome b gives within place one
      | inr none ↦ absurd none
    ]

    all_on : (calls : List Call) → AreCallsOf calls → (a : StoreLane V) (outcomes : List Outcome) (b : StoreLane V) → MakesAll Made calls a outcomes b → HasSeenWithin h b → OnAll node (a ∷ []) (b ∷ [])
    all_on [] mine a outcomes b made within = subst (λ (x : StoreLane V). OnAll node (a ∷ []) (x ∷ [])) (sym made.1) (same_on node (a ∷ []))
    all_on (call ∷ calls) mine a outcomes b made within =
        let m = made.2 in
        let one = moves node call held a made.0 m made.4 in
        let rest = all_go t moves node held calls m made.1 b made.5 in
        then_on node (a ∷ []) (m ∷ []) (b ∷ []) (one, tt) (call_on call (mine call (contains_here call calls)) a made.0 m made.4 (earlier m b rest within)) (all_on calls (λ c there. mine c (contains_later call calls c there)) m made.1 b made.5 within)

    befores_on : (calls : List Call) → AreCallsOf calls → (a : StoreLane V) (outcomes : List Outcome) (b : StoreLane V) → MakesBefores Made calls a outcomes b → HasSeenWithin h b → OnAll node (a ∷ []) (b ∷ [])
    befores_on [] mine a outcomes b made within = subst (λ (x : StoreLane V). OnAll node (a ∷ []) (x ∷ [])) (sym made.1) (same_on node (a ∷ []))
    befores_on (call ∷ calls) mine a outcomes b made within =
        let m = made.2 in
        let one = moves node call held a made.0 m made.4 in
        let after_it : LaneGoesOn m b × OnAll node (m ∷ []) (b ∷ []) = elim (bools (is_successful (ending_of made.0.verdict))) [
          | inl good ↦ (befores_go t moves node held calls m made.1 b (made.5.0 good), befores_on calls (λ c there. mine c (contains_later call calls c there)) m made.1 b (made.5.0 good) within)
          | inr bad ↦ subst (λ (x : StoreLane V). LaneGoesOn m x × OnAll node (m ∷ []) (x ∷ [])) (sym (made.5.1 bad).1) (goes_same m, same_on node (m ∷ []))
        ] in
        then_on node (a ∷ []) (m ∷ []) (b ∷ []) (one, tt) (call_on call (mine call (contains_here call calls)) a made.0 m made.4 (earlier m b after_it.0 within)) after_it.1

    if_on : (go : Bool) (call : Call) → IsCallOf t node call → (a : StoreLane V) (outcomes : List Outcome) (b : StoreLane V) → MakesIf Made go call a outcomes b → LaneGoesOn a b × (HasSeenWithin h b → OnAll node (a ∷ []) (b ∷ []))
    if_on true call mine a outcomes b made = (all_go t moves node held (call ∷ []) a outcomes b (made.made refl), (λ within. all_on (call ∷ []) (only call mine) a outcomes b (made.made refl) within))
    if_on false call mine a outcomes b made =
        subst (λ (x : StoreLane V). LaneGoesOn a x × (HasSeenWithin h x → OnAll node (a ∷ []) (x ∷ []))) (sym (made.skipped refl).1) (goes_same a, (λ within. same_on node (a ∷ [])))

    calls_on : (befores : List Call) (body : Call) (afters : List Call) → AreCallsOf befores → IsCallOf t node body → AreCallsOf afters → (a : StoreLane V) (outcomes : List Outcome) (b : StoreLane V) → MakesCalls Made befores body afters a outcomes b → HasSeenWithin h b
        → OnAll node (a ∷ []) (b ∷ [])
    calls_on befores body afters before_mine body_mine after_mine a outcomes b made within =
        let first = befores_go t moves node held befores a made.first made.opened made.befores_made in
        let second = if_on (all_successful (endings_of made.first)) body body_mine made.opened made.second made.closing made.body_made in
        let third = all_go t moves node held afters made.closing made.third b made.afters_made in
        let at_closing = earlier made.closing b third within in
        then_on node (a ∷ []) (made.opened ∷ []) (b ∷ []) (first, tt) (befores_on befores before_mine a made.first made.opened made.befores_made (earlier made.opened made.closing second.0 at_closing))
        (then_on node (made.opened ∷ []) (made.closing ∷ []) (b ∷ []) (second.0, tt) (second.1 at_closing) (all_on afters after_mine made.closing made.third b made.afters_made within))

  -- ---- nodes

  close_began : (node : ℕ) (before : List (StoreLane V)) (faults : List (Option Fault)) (after : List (StoreLane V)) → ClosesNode t node before faults after → AllGoOn before after
  close_began node before faults after c = close_goes t moves _ before after c.closes.lanes c.closes.own_events

  is_call : (node : ℕ) (path : List ℕ) → IsPathOf t.store.tree node path → (is_test : Bool) → t.suite.is_test node ≡ is_test → (call : Call)
      → Contains (befores_of t.registered is_test node path ++ test_call node ∷ afters_of t.registered is_test node path) call → IsCallOf t node call
  is_call node path path_is is_test is call among = record {
    path = path;
    path_is = path_is;
    among = subst (λ (b : Bool). Contains (befores_of t.registered b node path ++ test_call node ∷ afters_of t.registered b node path) call) (sym is) among;
  }

  test_on : (node : ℕ) (path : List ℕ) → IsPathOf t.store.tree node path → t.suite.is_test node ≡ true → (before : Lanes V) (ran : List Ran) (after : Lanes V) → TestRun t node path before ran after → All (HasSeenWithin h) after.first
      → OnAll node before.first after.first
  test_on node path path_is test before ran after run within =
      let befores = befores_of t.registered true node path in
      let afters = afters_of t.registered true node path in
      let close = close_began node run.called run.faults after.first run.closes in
      let called = came_from h run.called after.first close within in
      then_on node before.first run.called after.first (first_goes _ before.first run.called (λ a b made. calls_go t moves node (Some run.held) _ _ _ a run.outcomes b made) run.calls)
      (first_on node _ before.first run.called (λ a b made here.
      calls_on node (Some run.held) befores (test_call node) afters (λ c there. is_call node path path_is true test c (Contains-append_left befores (test_call node ∷ afters) c there))
      (is_call node path path_is true test (test_call node) (Contains-append_right befores (test_call node ∷ afters) (test_call node) (contains_here (test_call node) afters)))
      (λ c there. is_call node path path_is true test c (Contains-append_right befores (test_call node ∷ afters) c (contains_later (test_call node) afters c there))) a run.outcomes b made here) run.calls called)
      (on.closes node path path_is run.called run.faults after.first run.closes within)

  module _ (depth : ℕ) (at : (c : ℕ) (s : Lanes V) (below : List Ran) (u : Lanes V) → TreeRun t depth c s below u → All (HasSeenWithin h) u.first → OnAll c s.first u.first) where
    abbrev Tree : ℕ → Lanes V → List Ran → Lanes V → Type 0
    Tree c s below u = TreeRun t depth c s below u

    goes : (c : ℕ) (s : Lanes V) (below : List Ran) (u : Lanes V) → Tree c s below u → AllGoOn s.first u.first
    goes c s below u r = tree_goes t moves depth c s below u r

    turn_on : (node : ℕ) (done : List Entry) (s u : Lanes V) → All (IsParent node) (map (λ d. d.0) done) → FoldsTo (λ s d u. Tree d.0 s d.1 u) s done u → All (HasSeenWithin h) u.first → OnAll node s.first u.first
    turn_on node [] s u all same within = subst (λ (x : Lanes V). OnAll node s.first x.first) same (same_on node s.first)
    turn_on node (e ∷ done) s u all run within =
        let P = IsParent node in
        let nodes = map (λ (d : Entry). d.0) done in
        let later = turn_goes t moves Tree goes done run.0 u run.2 in
        then_on node s.first run.0.first u.first (goes e.0 s e.1 run.0 run.1)
        (λ place made. on.up node e.0 place (All-head P e.0 nodes all) (at e.0 s e.1 run.0 run.1 (came_from h run.0.first u.first later within) place made))
        (turn_on node done run.0 u (All-tail P e.0 nodes all) run.2 within)

    module _ (node : ℕ) (path : List ℕ) (path_is : IsPathOf t.store.tree node path) where
      dealt_on : (before : Lanes V) (below : List Ran) (after : Lanes V) (body : BodyRun t Tree node before below after) → All (HasSeenWithin h) body.joined → OnAll node body.forked body.between.first
      dealt_on before below after body within place made =
          let cs = concurrent_children t node in
          let until = first_seen body.joined in
          let runs : ℕ → Lanes V → List Ran → Lanes V → Type 0 = λ i s ran u. (i < length cs) × (Tree (slice_index_or cs i 0) s ran u × IsWithin (first_seen before.first) until s u) in
          let workers = min (length body.forked) (length cs) in
          let forked = with_lanes body.forked before in
          let run = bounded _ (length cs) workers forked body.between body.beside (children_within t Tree goes node before below after body) in
          let by = by_dealt h runs (λ i s ran u r. goes (slice_index_or cs i 0) s ran u r.1.0) (length cs) workers forked body.between body.beside place run made in
          let child = slice_index_or cs by.0 0 in
          let until_in = first_within h body.joined within in
          let inside = All-weaker (HasSeenWithin until) (HasSeenWithin h) (λ lane l. prefix_trans (seen_by lane.cells.view) until h l until_in) by.1.after.first by.1.run.1.1.ends in
          on.up node child place (on.concurrent node path path_is child (Contains-get_or cs by.0 0 by.1.run.0)) (at child by.1.before by.1.outcome by.1.after by.1.run.1.0 inside place by.1.made)

      body_on : (before : Lanes V) (below : List Ran) (after : Lanes V) → BodyRun t Tree node before below after → All (HasSeenWithin h) after.first → OnAll node before.first after.first
      body_on before below after body within =
          let joined = with_lanes body.joined body.between in
          let turned = turn_goes t moves Tree goes body.in_turn.done joined after body.in_turn.runs in
          let within_joined = came_from h body.joined after.first turned within in
          let join = all_met t moves body.between.first body.joined body.joins.only_meet in
          let within_between = came_from h body.between.first body.joined join within_joined in
          let dealt = children_dealt_go t moves Tree goes node before below after body in
          let within_forked = came_from h body.forked body.between.first dealt within_between in
          let fork = all_met t moves before.first body.forked body.forks.only_meet in
          then_on node before.first body.forked after.first fork (λ place made. absurd (all_met_made h t.store before.first body.forked place body.forks.only_meet within_forked made))
          (then_on node body.forked body.between.first after.first dealt (dealt_on before below after body within_joined)
          (then_on node body.between.first body.joined after.first join (λ place made. absurd (all_met_made h t.store body.between.first body.joined place body.joins.only_meet within_joined made))
          (turn_on node body.in_turn.done joined after (subst (λ l. All (IsParent node) l) (sym body.in_turn.each) (on.others node path path_is)) body.in_turn.runs within)))

      body_go : (go : Bool) (before : Lanes V) (below : List Ran) (after : Lanes V) → BodyMade t Tree go node before below after → AllGoOn before.first after.first
      body_go true before below after made =
          let body = made.made refl in
          let joined = with_lanes body.joined body.between in
          all_then before.first body.forked after.first (all_met t moves before.first body.forked body.forks.only_meet)
          (all_then body.forked body.between.first after.first (children_dealt_go t moves Tree goes node before below after body)
          (all_then body.between.first body.joined after.first (all_met t moves body.between.first body.joined body.joins.only_meet) (turn_goes t moves Tree goes body.in_turn.done joined after body.in_turn.runs)))
      body_go false before below after made = subst (λ (x : Lanes V). AllGoOn before.first x.first) (sym (made.skipped refl).1) (all_same before.first)

      made_on : (go : Bool) (before : Lanes V) (below : List Ran) (after : Lanes V) → BodyMade t Tree go node before below after → All (HasSeenWithin h) after.first → OnAll node before.first after.first
      made_on true before below after made within = body_on before below after (made.made refl) within
      made_on false before below after made within = subst (λ (x : Lanes V). OnAll node before.first x.first) (sym (made.skipped refl).1) (same_on node before.first)

      container_on : t.suite.is_test node ≡ false → (before : Lanes V) (ran : List Ran) (after : Lanes V) → ContainerRun t Tree node path before ran after → All (HasSeenWithin h) after.first → OnAll node before.first after.first
      container_on container before ran after run within =
          let befores = befores_of t.registered false node path in
          let afters_of_it = afters_of t.registered false node path in
          let before_mine : (c : Call) → Contains befores c → IsCallOf t node c = λ c there. is_call node path path_is false container c (Contains-append_left befores (test_call node ∷ afters_of_it) c there) in
          let after_mine : (c : Call) → Contains afters_of_it c → IsCallOf t node c =
          λ c there. is_call node path path_is false container c (Contains-append_right befores (test_call node ∷ afters_of_it) c (contains_later (test_call node) afters_of_it c there)) in
          let opened : Lanes V = record { first = run.opened; second = before.second } in
          let close = close_began node run.ends.called run.ends.faults after.first run.ends.closes in
          let within_called = came_from h run.ends.called after.first close within in
          let afters = first_goes _ run.body.first run.ends.called (λ a b made. all_go t moves node None _ a run.ends.afters b made) run.ends.afters_made in
          let within_body = came_from h run.body.first run.ends.called afters within_called in
          let body = body_go (all_successful (endings_of run.befores)) opened run.below run.body run.body_made in
          let within_opened = came_from h run.opened run.body.first body within_body in
          then_on node before.first run.opened after.first (first_goes _ before.first run.opened (λ a b made. befores_go t moves node None _ a run.befores b made) run.befores_made)
          (first_on node _ before.first run.opened (λ a b made here. befores_on node None befores before_mine a run.befores b made here) run.befores_made within_opened)
          (then_on node run.opened run.body.first after.first body (made_on (all_successful (endings_of run.befores)) opened run.below run.body run.body_made within_body)
          (then_on node run.body.first run.ends.called after.first afters (first_on node _ run.body.first run.ends.called (λ a b made here. all_on node None afters_of_it after_mine a run.ends.afters b made here) run.ends.afters_made within_called)
          (on.closes node path path_is run.ends.called run.ends.faults after.first run.ends.closes within)))

  pub tree_on : (depth node : ℕ) (before : Lanes V) (ran : List Ran) (after : Lanes V) → TreeRun t depth node before ran after → All (HasSeenWithin h) after.first → OnAll node before.first after.first
  tree_on zero node before ran after run within = absurd run
  tree_on (suc depth) node before ran after run within = elim run.2 [
    | inl left ↦ subst (λ (x : Lanes V). OnAll node before.first x.first) (sym left.untouched) (same_on node before.first)
    | inr on ↦ elim (bools (t.suite.is_test node)) [
      | inl test ↦ test_on node run.0 run.1 test before ran after (on.0 test) within
      | inr container ↦ container_on depth (λ c s below u r here. tree_on depth c s below u r here) node run.0 run.1 container before ran after (on.1 container) within
    ]
  ]

-- ---- laws

module _ {V A : Type 0} (t : TreeSetting V A) (moves : CallsGoOn t.call_gives) where
  -- whatever is true of the places at which calls and closes make events, it is true of those at which runs do
  pub runs_make_such : (h : History) (Such : ℕ → Type 0) → MakesOnlySuch t h Such → (depth node : ℕ) (before : Lanes V) (ran : List Ran) (after : Lanes V) → TreeRun t depth node before ran after → All (HasSeenWithin h) after.first
      → (place : ℕ) → IsMadeIn h place before.first after.first → Such place
  runs_make_such h Such makes depth node before ran after run within place made =
      let IsParent : ℕ → ℕ → Type 0 = λ node child. Unit {0} in
      let on : IsOnNodes t h IsParent (λ node place. Such place) = record {
        calls = λ node call mine held a outcome b gives within place made. makes.calls node call held a outcome b gives within place made;
        closes = λ node path path_is before faults after closes within place made. makes.closes node before faults after closes within place made;
        concurrent = λ node path path_is child there. tt;
        others = λ node path path_is i d l. tt;
        up = λ node child place parent such. such;
      } in
      tree_on t moves h IsParent (λ node place. Such place) on depth node before ran after run within place made
