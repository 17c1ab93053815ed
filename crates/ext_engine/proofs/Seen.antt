-- All events of a run of a node come behind what the first lane of its share had seen before it, and are among what that lane has seen after it.
use Rattle.std.proofs.Common.{inl, inr, ℕ, zero, suc, Bool, true, false, List, [], ◌∷◌, refl, subst, sym, arith}
use Rattle.std.specs.Prelude.{All, Some, None}
use Rattle.std.specs.List.{AllZip, FoldsTo}
use Rattle.ext_history.proofs.Lists.{bools}
use Rattle.ext_model.specs.History.{History}
use Rattle.ext_lifecycle.specs.Endings.{all_successful}
use Rattle.ext_lifecycle.specs.Lifecycle.{endings_of}
use Rattle.ext_store.specs.Stores.{StoreView, StoreLane}
use Rattle.ext_closing.specs.Lanes.{OnlyFirstSteps}
use Rattle.ext_engine.specs.Meeting.{HasSeen, HasSeenWithin, OnlyMeets, first_seen}
use Rattle.ext_engine.specs.Order.{AllGoOn, CallsGoOn, ComesBefore, LaneGoesOn, IsSeenByFirst}
use Rattle.ext_engine.specs.TreeRun.{Ran, TreeSetting, Lanes, TreeRun, TestRun, ContainerRun, BodyRun, BodyMade, OnFirst, with_lanes}
use Rattle.ext_engine.proofs.Acts.{Acts, acts_before, all_made_then, all_met_made, first_made, heads_go, same_made, shorter, shown_made}
use Rattle.ext_engine.proofs.Going.{all_go, all_met, all_same, all_then, befores_go, calls_go, close_goes, children_dealt_go, tree_goes, turn_goes}
use Rattle.ext_engine.proofs.Grown.{Entry}
use Rattle.ext_engine.proofs.Order.{came_from}

-- ---- lanes

module _ {V : Type 0} (h : History) where
  acts_same : (xs : List (StoreLane V)) → Acts h xs xs
  acts_same xs = record { goes = all_same xs; seen = λ index made. absurd (same_made h xs index made) }

  pub acts_then : (xs ys zs : List (StoreLane V)) → Acts h xs ys → Acts h ys zs → Acts h xs zs
  acts_then xs ys zs one two =
      let low = shorter (first_seen xs) (first_seen ys) (heads_go xs ys one.goes) in
      let high = shorter (first_seen ys) (first_seen zs) (heads_go ys zs two.goes) in
      record {
        goes = all_then xs ys zs one.goes two.goes;
        seen = λ index made. elim (all_made_then h xs ys zs index one.goes made) [
          | inl first ↦ let a = one.seen index first in let a0 = a.0 in let a1 = a.1 in (a0, omega (arith, a1, high))
          | inr second ↦ let b = two.seen index second in let b0 = b.0 in let b1 = b.1 in (omega (arith, b0, low), b1)
        ];
      }

  pub acts_first : (R : StoreLane V → StoreLane V → Type 0) (xs ys : List (StoreLane V)) → ((a b : StoreLane V) → R a b → LaneGoesOn a b) → OnFirst R xs ys → Acts h xs ys
  acts_first R xs ys go on =
      let whole : Acts h (on.lane ∷ on.rest) (on.left ∷ on.rest) = record { goes = (go on.lane on.left on.change, all_same on.rest); seen = first_made h on.lane on.left on.rest } in
      subst (λ l. Acts h l ys) (sym on.first_was) (subst (λ l. Acts h (on.lane ∷ on.rest) l) (sym on.first_is) whole)

  pub acts_close : (xs ys : List (StoreLane V)) → OnlyFirstSteps xs ys → AllGoOn xs ys → Acts h xs ys
  acts_close [] ys steps go = subst (λ l. Acts h [] l) (sym steps.1) (acts_same [])
  acts_close (a ∷ xs) ys steps go =
      let b : StoreLane V = record { cells = steps.0; known = a.known; faults = a.faults; keys = a.keys } in
      record { goes = go; seen = subst (λ l. IsSeenByFirst h (a ∷ xs) l) (sym steps.1) (first_made h a b xs) }

  -- lanes of which each was shown what the first had seen, then acted, and of which the first was then shown what each had seen
  pub acts_between : (store : StoreView) (before forked between joined : List (StoreLane V)) → AllZip (OnlyMeets store) before forked → AllGoOn before forked → AllGoOn forked between → AllZip (OnlyMeets store) between joined
      → AllGoOn between joined → All (HasSeen (first_seen before)) forked → All (HasSeenWithin (first_seen joined)) between → All (HasSeenWithin h) forked → All (HasSeenWithin h) joined → Acts h before joined
  acts_between store before forked between joined fork first go join last begins ends within_forked within_joined =
      record {
        goes = all_then before forked joined first (all_then forked between joined go last);
        seen = λ index made. elim (all_made_then h before forked joined index first made) [
          | inl met ↦ absurd (all_met_made h store before forked index fork within_forked met)
          | inr more ↦ elim (all_made_then h forked between joined index go more) [
            | inl acted ↦ shown_made h (first_seen before) (first_seen joined) forked between index begins ends acted
            | inr met ↦ absurd (all_met_made h store between joined index join within_joined met)
          ]
        ];
      }

-- ---- the run of a tree

module _ {V A : Type 0} (t : TreeSetting V A) (moves : CallsGoOn t.call_gives) (h : History) where
  test_acts : (node : ℕ) (path : List ℕ) (before : Lanes V) (ran : List Ran) (after : Lanes V) → TestRun t node path before ran after → Acts h before.first after.first
  test_acts node path before ran after run =
      acts_then h before.first run.called after.first (acts_first h _ before.first run.called (λ a b made. calls_go t moves node (Some run.held) _ _ _ a run.outcomes b made) run.calls)
      (acts_close h run.called after.first run.closes.closes.lanes (close_goes t moves _ run.called after.first run.closes.closes.lanes run.closes.closes.own_events))

  module _ (Run : ℕ → Lanes V → List Ran → Lanes V → Type 0) (go : (c : ℕ) (s : Lanes V) (below : List Ran) (u : Lanes V) → Run c s below u → AllGoOn s.first u.first)
      (at : (c : ℕ) (s : Lanes V) (below : List Ran) (u : Lanes V) → Run c s below u → All (HasSeenWithin h) u.first → Acts h s.first u.first) where
    pub turn_acts : (done : List Entry) (s u : Lanes V) → FoldsTo (λ s d u. Run d.0 s d.1 u) s done u → All (HasSeenWithin h) u.first → Acts h s.first u.first
    turn_acts [] s u same within = subst (λ (x : Lanes V). Acts h s.first x.first) same (acts_same h s.first)
    turn_acts (e ∷ done) s u run within =
        let later = turn_goes t moves Run go done run.0 u run.2 in
        acts_then h s.first run.0.first u.first (at e.0 s e.1 run.0 run.1 (came_from h run.0.first u.first later within)) (turn_acts done run.0 u run.2 within)

    -- each of these runs comes after all that was done since the lanes were `before`, and before all that is done until they are `last`
    pub turn_order : (before last : List (StoreLane V)) (done : List Entry) (s u : Lanes V) → FoldsTo (λ s d u. Run d.0 s d.1 u) s done u → All (HasSeenWithin h) u.first → Acts h before s.first → Acts h u.first last
        → FoldsTo (λ s d u. Run d.0 s d.1 u × ComesBefore h before s.first s.first u.first × ComesBefore h s.first u.first u.first last) s done u
    turn_order before last [] s u same within pre post = same
    turn_order before last (e ∷ done) s u run within pre post =
        let later = turn_goes t moves Run go done run.0 u run.2 in
        let one = at e.0 s e.1 run.0 run.1 (came_from h run.0.first u.first later within) in
        let rest = turn_acts done run.0 u run.2 within in (
          run.0,
          (run.1, acts_before h before s.first run.0.first pre one, acts_before h s.first run.0.first last one (acts_then h run.0.first u.first last rest post)),
          turn_order before last done run.0 u run.2 within (acts_then h before s.first run.0.first pre one) post,
        )

    -- from before the fork until after the join
    pub dealt_acts : (node : ℕ) (before : Lanes V) (below : List Ran) (after : Lanes V) (b : BodyRun t Run node before below after) → All (HasSeenWithin h) b.joined → Acts h before.first b.joined
    dealt_acts node before below after b within =
        let dealt = children_dealt_go t moves Run go node before below after b in
        let last = all_met t moves b.between.first b.joined b.joins.only_meet in
        let within_between = came_from h b.between.first b.joined last within in
        acts_between h t.store before.first b.forked b.between.first b.joined b.forks.only_meet (all_met t moves before.first b.forked b.forks.only_meet) dealt b.joins.only_meet last b.forks.shown b.joins.shown (came_from h b.forked b.between.first dealt within_between) within

    pub turned_within : (node : ℕ) (before : Lanes V) (below : List Ran) (after : Lanes V) (b : BodyRun t Run node before below after) → All (HasSeenWithin h) after.first → All (HasSeenWithin h) b.joined
    turned_within node before below after b within =
        let s = with_lanes b.joined b.between in
        came_from h b.joined after.first (turn_goes t moves Run go b.in_turn.done s after b.in_turn.runs) within

    pub body_acts : (node : ℕ) (before : Lanes V) (below : List Ran) (after : Lanes V) → BodyRun t Run node before below after → All (HasSeenWithin h) after.first → Acts h before.first after.first
    body_acts node before below after b within =
        acts_then h before.first b.joined after.first (dealt_acts node before below after b (turned_within node before below after b within))
        (turn_acts b.in_turn.done (with_lanes b.joined b.between) after b.in_turn.runs within)

    made_acts : (on : Bool) (node : ℕ) (before : Lanes V) (below : List Ran) (after : Lanes V) → BodyMade t Run on node before below after → All (HasSeenWithin h) after.first → Acts h before.first after.first
    made_acts true node before below after made within = body_acts node before below after (made.made refl) within
    made_acts false node before below after made within = subst (λ (x : Lanes V). Acts h before.first x.first) (sym (made.skipped refl).1) (acts_same h before.first)

    pub opened_acts : (node : ℕ) (path : List ℕ) (before : Lanes V) (ran : List Ran) (after : Lanes V) (run : ContainerRun t Run node path before ran after) → Acts h before.first run.opened
    opened_acts node path before ran after run = acts_first h _ before.first run.opened (λ a b made. befores_go t moves node None _ a run.befores b made) run.befores_made

    pub called_acts : (node : ℕ) (path : List ℕ) (before : Lanes V) (ran : List Ran) (after : Lanes V) (run : ContainerRun t Run node path before ran after) → Acts h run.body.first run.ends.called
    called_acts node path before ran after run = acts_first h _ run.body.first run.ends.called (λ a b made. all_go t moves node None _ a run.ends.afters b made) run.ends.afters_made

    pub closed_acts : (node : ℕ) (path : List ℕ) (before : Lanes V) (ran : List Ran) (after : Lanes V) (run : ContainerRun t Run node path before ran after) → Acts h run.ends.called after.first
    closed_acts node path before ran after run = acts_close h run.ends.called after.first run.ends.closes.closes.lanes (close_goes t moves _ run.ends.called after.first run.ends.closes.closes.lanes run.ends.closes.closes.own_events)

    pub body_within : (node : ℕ) (path : List ℕ) (before : Lanes V) (ran : List Ran) (after : Lanes V) (run : ContainerRun t Run node path before ran after) → All (HasSeenWithin h) after.first
        → All (HasSeenWithin h) run.body.first
    body_within node path before ran after run within =
        came_from h run.body.first run.ends.called (called_acts node path before ran after run).goes (came_from h run.ends.called after.first (closed_acts node path before ran after run).goes within)

    container_acts : (node : ℕ) (path : List ℕ) (before : Lanes V) (ran : List Ran) (after : Lanes V) → ContainerRun t Run node path before ran after → All (HasSeenWithin h) after.first
        → Acts h before.first after.first
    container_acts node path before ran after run within =
        let opened : Lanes V = record { first = run.opened; second = before.second } in
        let body = made_acts (all_successful (endings_of run.befores)) node opened run.below run.body run.body_made (body_within node path before ran after run within) in
        acts_then h before.first run.opened after.first (opened_acts node path before ran after run)
        (acts_then h run.opened run.body.first after.first body
        (acts_then h run.body.first run.ends.called after.first (called_acts node path before ran after run) (closed_acts node path before ran after run)))

  pub tree_acts : (depth node : ℕ) (before : Lanes V) (ran : List Ran) (after : Lanes V) → TreeRun t depth node before ran after → All (HasSeenWithin h) after.first → Acts h before.first after.first
  tree_acts zero node before ran after run within = absurd run
  tree_acts (suc depth) node before ran after run within = elim run.2 [
    | inl left ↦ subst (λ (x : Lanes V). Acts h before.first x.first) (sym left.untouched) (acts_same h before.first)
    | inr on ↦ elim (bools (t.suite.is_test node)) [
      | inl test ↦ test_acts node run.0 before ran after (on.0 test)
      | inr container ↦
          container_acts (λ child s below u. TreeRun t depth child s below u) (λ c s below u r. tree_goes t moves depth c s below u r) (λ c s below u r seen. tree_acts depth c s below u r seen)
          node run.0 before ran after (on.1 container) within
    ]
  ]
