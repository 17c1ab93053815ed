-- All children of a container, on the lanes and in the plain run: the concurrent ones, and then the others.
use Rattle.std.proofs.Common.{◌≡◌, ◌≢◌, ℕ, ◌<◌, ◌≤◌, inl, inr, ◌+◌, true, List, [], ◌∷◌, ◌++◌, length, map, None, Some, refl, ap, sym, subst, ◌∙◌, arith}
use Rattle.std.specs.Prelude.{All, Contains}
use Rattle.std.specs.List.{FoldsTo, flat_map}
use mathlib.Core.List.{IsPrefix}
use base.Growing.{prefix_refl, prefix_trans}
use Rattle.std.proofs.lemmas.List.Elements.{Contains-append_left, Contains-append_right, Contains-get_or}
use Rattle.ext_history.proofs.Legal.{legal_begun}
use Rattle.ext_history.proofs.Lists.{contains_cons, contains_here, contains_later, contains_none}
use Rattle.ext_history.proofs.Once.{Once}
use Rattle.ext_one_report.proofs.Numbers.{enough_numbers}
use Rattle.ext_tree.specs.Keys.{KeyValue}
use Rattle.ext_races.specs.MadeSteps.{plan_path}
use Rattle.ext_engine.specs.RunLaws.{HasRun}
use Rattle.ext_engine.specs.Meeting.{HasSeenWithin, first_seen}
use Rattle.ext_engine.specs.Order.{CallsGoOn, ChildRun}
use Rattle.ext_engine.specs.TreeRun.{BodyRun, Lanes, Ran, with_lanes}
use Rattle.ext_engine.proofs.Above.{Under}
use Rattle.ext_engine.proofs.Acts.{Acts, heads_go}
use Rattle.ext_one_report.proofs.Parts.{first_within}
use Rattle.ext_one_report.proofs.Open.{Given, Open, some_or_none}
use Rattle.ext_engine.proofs.Going.{turn_goes}
use Rattle.ext_engine.proofs.Grown.{Entry}
use Rattle.ext_engine.proofs.Order.{came_from}
use Rattle.ext_engine.proofs.Seen.{acts_then, dealt_acts, turn_acts, turned_within}
use Rattle.ext_one_report.proofs.Containers.{Tree, at, go}
use Rattle.ext_plan_parallel.specs.declared.steps.stored_value.StoredValue.{StoredValue}
use Rattle.ext_plan_parallel.specs.StoreCalls.{PlanLane}
use Rattle.ext_plan_plain.specs.PlainRun.{RunState, node_run}
use Rattle.ext_one_report.proofs.MatchingWords.{Places}
use Rattle.ext_one_report.proofs.StepsWords.{IsLaneIn}
use Rattle.ext_one_report.proofs.Shared.{unshared, SharesAbove}
use Rattle.ext_one_report.proofs.SharedNodesWords.{AllResultsNear}
use Rattle.ext_one_report.proofs.ChildLists.{once-apart, once-right, only}
use Rattle.ext_one_report.proofs.NodePlaces.{away, away_first, away_from, away_is, level_fewer}
use Rattle.ext_one_report.proofs.KeptAbove.{fewer_closed}
use Rattle.ext_one_report.proofs.LanesAlone.{lanes_in, view_moves}
use Rattle.ext_one_report.proofs.LanesApart.{apart_before}
use Rattle.ext_one_report.proofs.NodePlain.{IsFine, child_fine, child_leaves, children_fine, children_leave}
use Rattle.ext_one_report.proofs.Orders.{HaveDrawn, Orders}
use Rattle.ext_one_report.proofs.OrdersBounds.{have_drawn}
use Rattle.ext_one_report.proofs.OrdersHistory.{prefix_rises}
use Rattle.ext_one_report.proofs.OrdersLaws.{orders_fewer, orders_same, orders_then}
use Rattle.ext_one_report.proofs.SharedFresh.{IsFresh, fresh_behind, fresh_beside}
use Rattle.ext_one_report.proofs.SharedNodesOrders.{beside_orders}
use Rattle.ext_one_report.proofs.SharedNodesPlaces.{not_both, unshared_is, unshared_parts}
use Rattle.ext_one_report.specs.Within.{is_within}
use Rattle.ext_one_report.proofs.SharedNodesPasses.{Passes}
use Rattle.ext_one_report.proofs.Below.{all_below, none_below, one_below, then_below}
use Rattle.ext_one_report.proofs.Fills.{Fills, IsFilledIn, computed_of, computed_told}
use Rattle.ext_one_report.proofs.FillsCounts.{fills_counted, of_both}
use Rattle.ext_one_report.proofs.FillsLanes.{none_filled}
use Rattle.ext_one_report.proofs.FillsLaws.{fills_none}
use Rattle.ext_one_report.proofs.SharedNodesCounts.{Below, counted_all, told_first_then, tree_is}
use Rattle.ext_one_report.proofs.SharedNodesBeside.{beside_passes, later}
use Rattle.ext_one_report.proofs.SharedNodesBody.{Body, ChildrenEnd, ClosedFor, Ground, IsChild, after_all, all_once, beside_child, beside_ones, children_stay, ids, job_at, over, path_in, ran_at, step, turn_child, turn_ones}
use Rattle.ext_one_report.proofs.SharedNodesFills.{beside_fills, first_computed, first_told}
use Rattle.ext_one_report.proofs.SharedNodesGone.{ended_near}
use Rattle.ext_one_report.proofs.SharedNodesBegins.{once_beside}
use Rattle.ext_one_report.proofs.SharedNodesResults.{near_none, near_then}
use Rattle.ext_one_report.proofs.SharedNodesTurn.{Since, Whole, closed_c, computed_then, ends_c, fills_c, fills_next, orders_c, own_then, passes_c, since_c, since_then}

module _ (g : Ground) where
  module _ (w : Whole g) (each : ChildrenEnd g) where
    -- what these children leave, that have run from these lanes and this state, where these places were open, up to those
    pub record Turned (children : List ℕ) (ran : List Ran) (o : Open) (xs ys : List PlanLane) (a b : RunState) : Type 0 where
      pub done : List ℕ
      pub are : (x : ℕ) → Contains done x → IsChild g x
      pub open_still : Open
      pub fewer : (context : ℕ) (key : KeyValue) (v : Given) → open_still context key ≡ Some v → o context key ≡ Some v
      pub since : Since g w done open_still ys b.state
      pub below : Below g children ran a b
      pub fills : Fills (IsFilledIn g.run g.h xs ys) o open_still a.state (computed_of ran) (computed_told ran b.results)
      -- both runs give numbers in one order, outside its children
      pub orders : Orders g.run (away g.plan (beside_ones g ++ turn_ones g) (unshared (g.touched g.node) o)) (first_seen xs) (first_seen ys) a.state b.state

    going : CallsGoOn (over g).call_gives
    going = view_moves g.plan g.run

    abbrev Run : ℕ → Lanes StoredValue → List Ran → Lanes StoredValue → Type 0
    Run c s ran u = ChildRun (over g) g.depth c s ran u

    all_leave_drawn : (xs : List ℕ) (r : RunState) → All (IsChild g) xs → IsFine g.plan r → r.state.store.drawn ≤ (after_all g r xs).state.store.drawn
    all_leave_drawn xs r children fine = (children_leave g.plan g.touched g.changes g.basis.read g.basis.covered g.levels g.node g.path (path_in g) xs r children fine).drawn

    -- what is told of one child,
    told_one : (c : ℕ) (ran : List Ran) (r : RunState) → AllResultsNear (SharesAbove g.plan g.shares) ran r.results (step g r c).results → ((k : ℕ) → HasRun ran k → Under (ids g) c k) → Below g (c ∷ []) ran r (step g r c)
    told_one c ran r told under =
        one_below (ids g) (tree_is g) g.node (λ r child. node_run g.plan g.levels (child ∷ g.path) r) (AllResultsNear (SharesAbove g.plan g.shares)) (near_none (SharesAbove g.plan g.shares)) (near_then (SharesAbove g.plan g.shares)) c ran r (step g r c) told under

    -- and of some children and then others, and how many values they filled and computed
    told_then : (xs ys : List ℕ) (first second : List Ran) (a b c : RunState) → ((x : ℕ) → Contains xs x → IsChild g x) → ((x : ℕ) → Contains ys x → IsChild g x) → ((x : ℕ) → Contains xs x → Contains ys x → ⊥)
        → Below g xs first a b → Below g ys second b c → Below g (xs ++ ys) (first ++ second) a c
    told_then xs ys first second a b c xs_children ys_children apart one two =
        then_below (ids g) (tree_is g) g.node (λ r child. node_run g.plan g.levels (child ∷ g.path) r) (AllResultsNear (SharesAbove g.plan g.shares)) (near_none (SharesAbove g.plan g.shares)) (near_then (SharesAbove g.plan g.shares)) xs ys first second a b c xs_children ys_children apart one two

    filled_then : (cs ds : List ℕ) (first second : List Ran) (a b c : RunState) → ((x : ℕ) → Contains cs x → IsChild g x) → ((x : ℕ) → Contains ds x → IsChild g x) → ((x : ℕ) → Contains cs x → Contains ds x → ⊥)
        → Below g cs first a b → Below g ds second b c → (done : List ℕ) (o mid last : Open) (xs ys zs : List PlanLane) → Acts g.h w.first xs → Acts g.h xs ys → Acts g.h ys zs → Acts g.h zs w.last
        → ((context : ℕ) (key : KeyValue) (v : Given) → o context key ≡ Some v → w.o context key ≡ Some v) → ((context : ℕ) (key : KeyValue) (v : Given) → last context key ≡ Some v → mid context key ≡ Some v)
        → Passes g.plan g.run g.h (g.touched g.node) done o xs a.state mid ys b.state → Fills (IsFilledIn g.run g.h xs ys) o mid a.state (computed_of first) (computed_told first b.results)
        → Fills (IsFilledIn g.run g.h ys zs) mid last b.state (computed_of second) (computed_told second c.results)
        → Fills (IsFilledIn g.run g.h xs zs) o last a.state (computed_of (first ++ second)) (computed_told (first ++ second) c.results)
    filled_then cs ds first second a b c cs_children ds_children apart one two done o mid last xs ys zs pre go onward post of fewer passes fills others =
        fills_counted (IsFilledIn g.run g.h xs zs) o last a.state (computed_of first + computed_of second) (computed_told first b.results + computed_told second c.results) (computed_of (first ++ second))
        (computed_told (first ++ second) c.results) (sym (of_both first second)) (sym (told_first_then g cs ds first second a b c cs_children ds_children apart one two))
        (fills_next g w done o mid last xs ys zs a.state b.state (computed_of first) (computed_told first b.results) (computed_of second) (computed_told second c.results) pre go onward post of fewer passes fills others)

    -- what stands between two children has been drawn
    drew_at : (xs : List PlanLane) (r : RunState) → IsPrefix (first_seen xs) g.h → IsFine g.plan r → (places : Places) → HaveDrawn g.run places (first_seen xs) r.state
    drew_at xs r on fine places = have_drawn g.plan g.run places g.run.store.id.cells.limits (first_seen xs) r.state (legal_begun (first_seen xs) g.h on g.basis.legal) fine.of_plan

    heads_of : (xs ys : List PlanLane) → xs ≡ ys → IsPrefix (first_seen xs) (first_seen ys)
    heads_of xs ys same = subst (λ (l : List PlanLane). IsPrefix (first_seen xs) (first_seen l)) same (prefix_refl (first_seen xs))

    -- a place that is not open is not open later
    still_away : {o later : Open} → ((context : ℕ) (key : KeyValue) (v : Given) → later context key ≡ Some v → o context key ≡ Some v) → (context : ℕ) (key : KeyValue)
        → away g.plan (beside_ones g ++ turn_ones g) (unshared (g.touched g.node) o) context key ≡ true → away g.plan (beside_ones g ++ turn_ones g) (unshared (g.touched g.node) later) context key ≡ true
    still_away {o} {later} fewer context key is =
        let parts = unshared_parts (g.touched g.node) o context key (away_first g.plan (beside_ones g ++ turn_ones g) (unshared (g.touched g.node) o) context key is) in
        let none : later context key ≡ None = elim (some_or_none (later context key)) [
          | inl none ↦ none
          | inr some ↦ not_both (o context key) some.0 parts.1 (fewer context key some.0 some.1)
        ] in
        away_is g.plan (beside_ones g ++ turn_ones g) (unshared (g.touched g.node) later) context key (unshared_is (g.touched g.node) later context key parts.0 none)
        (λ x there it. away_from g.plan (beside_ones g ++ turn_ones g) (unshared (g.touched g.node) o) context key is x there it)

    turns : (entries : List Entry) (before : List ℕ) (o : Open) (s u : Lanes StoredValue) (r : RunState) → FoldsTo (λ s d u. Run d.0 s d.1 u) s entries u
        → ((x : ℕ) → Contains (map (λ e. e.0) entries) x → Contains (turn_ones g) x) → Once (map (λ e. e.0) entries) → ((x : ℕ) → Contains before x → IsChild g x)
        → ((x : ℕ) → Contains before x → Contains (map (λ e. e.0) entries) x → ⊥) → All (IsLaneIn g.run) u.first → All (HasSeenWithin g.h) u.first → Acts g.h w.first s.first → Acts g.h u.first w.last → IsFine g.plan r
        → Since g w before o s.first r.state → ClosedFor g o r → (after_all g r (map (λ e. e.0) entries)).state.store.drawn < enough_numbers g.plan.size
        → ((x : ℕ) → Contains before x → Contains (beside_ones g ++ turn_ones g) x)
        → ((x context : ℕ) → Contains (map (λ e. e.0) entries) x → context < length g.plan.nodes → is_within g.plan x context ≡ true → IsFresh context r.state)
        → Turned (map (λ e. e.0) entries) (flat_map (λ e. e.1) entries) o s.first u.first r (after_all g r (map (λ e. e.0) entries))
    turns [] before o s u r same in_turn once are apart known within pre post fine since closed drawn among fresh = record {
      done = before;
      are = are;
      open_still = o;
      fewer = λ context key v is. is;
      since = subst (λ (x : Lanes StoredValue). Since g w before o x.first r.state) same since;
      below = none_below (ids g) (tree_is g) g.node (λ r child. node_run g.plan g.levels (child ∷ g.path) r) (AllResultsNear (SharesAbove g.plan g.shares)) (near_none (SharesAbove g.plan g.shares)) (near_then (SharesAbove g.plan g.shares)) r;
      fills = subst (λ (x : Lanes StoredValue). Fills (IsFilledIn g.run g.h s.first x.first) o o r.state 0 0) same
          (fills_none (IsFilledIn g.run g.h s.first s.first) o r.state 0 (λ spot v is filled. none_filled g.run g.h s.first spot filled));
      orders = subst (λ (x : Lanes StoredValue). Orders g.run (away g.plan (beside_ones g ++ turn_ones g) (unshared (g.touched g.node) o)) (first_seen s.first) (first_seen x.first) r.state r.state) same
          (orders_same g.run (away g.plan (beside_ones g ++ turn_ones g) (unshared (g.touched g.node) o)) (first_seen s.first) (first_seen s.first) r.state r.state
          (drew_at s.first r (prefix_trans (first_seen s.first) (first_seen u.first) g.h (heads_of s.first u.first (ap (λ (x : Lanes StoredValue). x.first) same)) (first_within g.h u.first within)) fine (away g.plan (beside_ones g ++ turn_ones g) (unshared (g.touched g.node) o))) (λ context key number is has. refl) (λ context key is. refl));
    }
    turns (e ∷ entries) before o s u r runs in_turn once are apart known within pre post fine since closed drawn among fresh =
        let c = e.0 in
        let rest = map (λ (e : Entry). e.0) entries in
        let m = runs.0 in
        let parent = turn_child g c (in_turn c (contains_here c rest)) in
        let onward = turn_goes (over g) going (Tree (over g) going g.h g.depth) (go (over g) going g.h g.depth) entries m u runs.2 in
        let m_known = lanes_in g.run m.first u.first onward known in
        let m_within = came_from g.h m.first u.first onward within in
        let acts = at (over g) going g.h g.depth c s e.1 m runs.1 m_within in
        let later_acts = turn_acts (over g) going g.h (Tree (over g) going g.h g.depth) (go (over g) going g.h g.depth) (at (over g) going g.h g.depth) entries m u runs.2 within in
        let post_m = acts_then g.h m.first u.first w.last later_acts post in
        let others : (x : ℕ) → Contains before x → IsChild g x × (x ≢ c) = λ x there. (are x there, λ same. apart x there (subst (Contains (c ∷ rest)) (sym same) (contains_here c rest))) in
        let rest_children : All (IsChild g) rest = λ k d less. turn_child g _ (in_turn _ (contains_later c rest _ (Contains-get_or rest k d less))) in
        let fine_m = child_fine g.plan g.touched g.changes g.basis.read g.basis.covered g.levels g.node g.path (path_in g) r c parent fine in
        let more_drawn = all_leave_drawn rest (step g r c) rest_children fine_m in
        let few : (step g r c).state.store.drawn < enough_numbers g.plan.size = omega (arith, more_drawn, drawn) in
        let fresh_c : (context : ℕ) → context < length g.plan.nodes → is_within g.plan c context ≡ true → IsFresh context r.state = λ context inside it. fresh c context (contains_here c rest) inside it in
        let end = ends_c g w each c parent before others o s e.1 m r runs.1 m_within m_known pre acts post_m fine since few closed fresh_c in
        let since_m = since_c g w each c parent before others o s e.1 m r runs.1 m_within m_known pre acts post_m fine since few closed fresh_c in
        let closed_m = closed_c g w each c parent before others o s e.1 m r runs.1 m_within m_known pre acts post_m fine since few closed fresh_c in
        let more = turns entries (c ∷ before) _ m u (step g r c) runs.2 (λ x there. in_turn x (contains_later c rest x there)) once.1
        (λ x there. elim (contains_cons c before x there) [ inl same ↦ subst (IsChild g) same parent | inr early ↦ are x early ])
        (λ x there also. elim (contains_cons c before x there) [
          | inl same ↦ once.0 (subst (Contains rest) (sym same) also)
          | inr early ↦ apart x early (contains_later c rest x also)
        ]) known within (acts_then g.h w.first s.first m.first pre acts) post fine_m since_m closed_m drawn
        (λ x there. elim (contains_cons c before x there) [
          | inl same ↦ subst (Contains (beside_ones g ++ turn_ones g)) same (Contains-append_right (beside_ones g) (turn_ones g) c (in_turn c (contains_here c rest)))
          | inr early ↦ among x early
        ])
        (λ x context there inside it.
        let parent_x = turn_child g x (in_turn x (contains_later c rest x there)) in
        fresh_behind g.plan g.touched g.changes g.basis.covered g.node x context parent_x inside it c r.state (step g r c).state parent (λ same. once.0 (subst (Contains rest) (sym same) there))
        (child_leaves g.plan g.touched g.changes g.basis.read g.basis.covered g.levels g.node g.path (path_in g) r c parent fine) (fresh x context (contains_later c rest x there) inside it)) in
        let orders = orders_c g w each c parent before others o s e.1 m r runs.1 m_within m_known pre acts post_m fine since few closed fresh_c in
        let passes = passes_c g w each c parent before others o s e.1 m r runs.1 m_within m_known pre acts post_m fine since few closed fresh_c in
        let fills = fills_c g w each c parent before others o s e.1 m r runs.1 m_within m_known pre acts post_m fine since few closed fresh_c in
        let last = after_all g (step g r c) rest in
        let behind = flat_map (λ (e : Entry). e.1) entries in
        let it_child : (x : ℕ) → Contains (c ∷ []) x → IsChild g x = λ x there. subst (IsChild g) (only c x there) parent in
        let behind_children : (x : ℕ) → Contains rest x → IsChild g x = λ x there. turn_child g x (in_turn x (contains_later c rest x there)) in
        let differ : (x : ℕ) → Contains (c ∷ []) x → Contains rest x → ⊥ = λ x there also. once.0 (subst (Contains rest) (sym (only c x there)) also) in
        let one = told_one c e.1 r end.ends.told end.under in
        record {
          done = more.done;
          are = more.are;
          open_still = more.open_still;
          fewer = λ context key v is. passes.fewer context key v (more.fewer context key v is);
          since = more.since;
          below = told_then (c ∷ []) rest e.1 behind r (step g r c) last it_child behind_children differ one more.below;
          fills = filled_then (c ∷ []) rest e.1 behind r (step g r c) last it_child behind_children differ one more.below (c ∷ before) o _ more.open_still s.first m.first u.first pre acts later_acts post
              since.fewer more.fewer passes fills more.fills;
          orders = orders_then g.run (away g.plan (beside_ones g ++ turn_ones g) (unshared (g.touched g.node) o)) (first_seen s.first) (first_seen m.first) (first_seen u.first) r.state (step g r c).state last.state
              (prefix_rises (first_seen s.first) (first_seen m.first) (heads_go s.first m.first acts.goes))
              (child_leaves g.plan g.touched g.changes g.basis.read g.basis.covered g.levels g.node g.path (path_in g) r c parent fine).drawn
              (drew_at m.first (step g r c) (first_within g.h m.first m_within) fine_m (away g.plan (beside_ones g ++ turn_ones g) (unshared (g.touched g.node) o)))
              (orders_fewer g.run (away g.plan (c ∷ before) (unshared (g.touched g.node) o)) (away g.plan (beside_ones g ++ turn_ones g) (unshared (g.touched g.node) o)) (first_seen s.first) (first_seen m.first) r.state (step g r c).state
              (λ context key is. away_is g.plan (c ∷ before) (unshared (g.touched g.node) o) context key (away_first g.plan (beside_ones g ++ turn_ones g) (unshared (g.touched g.node) o) context key is)
              (λ x there it. away_from g.plan (beside_ones g ++ turn_ones g) (unshared (g.touched g.node) o) context key is x (elim (contains_cons c before x there) [
                | inl same ↦ subst (Contains (beside_ones g ++ turn_ones g)) same (Contains-append_right (beside_ones g) (turn_ones g) c (in_turn c (contains_here c rest)))
                | inr early ↦ among x early
              ]) it)) orders)
              (orders_fewer g.run (away g.plan (beside_ones g ++ turn_ones g) (unshared (g.touched g.node) _)) (away g.plan (beside_ones g ++ turn_ones g) (unshared (g.touched g.node) o)) (first_seen m.first) (first_seen u.first) (step g r c).state last.state
              (λ context key is. still_away passes.fewer context key is) more.orders);
        }

    -- ---- the body

    module _ (opened : Lanes StoredValue) (below : List Ran) (after : Lanes StoredValue) (body : BodyRun (over g) (ChildRun (over g) g.depth) g.node opened below after) (known : All (IsLaneIn g.run) after.first)
        (within : All (HasSeenWithin g.h) after.first) (pre : Acts g.h w.first opened.first) (post : Acts g.h after.first w.last) (o : Open) (r : RunState) (fine : IsFine g.plan r) (since : Since g w [] o opened.first r.state)
        (closed : ClosedFor g o r) (drawn : (after_all g (after_all g r (beside_ones g)) (turn_ones g)).state.store.drawn < enough_numbers g.plan.size)
        (fresh : (child context : ℕ) → IsChild g child → context < length g.plan.nodes → is_within g.plan child context ≡ true → IsFresh context r.state) where
      joined_within : All (HasSeenWithin g.h) body.joined
      joined_within = turned_within (over g) going g.h (Tree (over g) going g.h g.depth) (go (over g) going g.h g.depth) (at (over g) going g.h g.depth) g.node opened below after body within

      turned_acts : Acts g.h body.joined after.first
      turned_acts =
          turn_acts (over g) going g.h (Tree (over g) going g.h g.depth) (go (over g) going g.h g.depth) (at (over g) going g.h g.depth) body.in_turn.done (with_lanes body.joined body.between) after body.in_turn.runs within

      beside_acts : Acts g.h opened.first body.joined
      beside_acts = dealt_acts (over g) going g.h (Tree (over g) going g.h g.depth) (go (over g) going g.h g.depth) (at (over g) going g.h g.depth) g.node opened below after body joined_within

      joined_known : All (IsLaneIn g.run) body.joined
      joined_known = lanes_in g.run body.joined after.first turned_acts.goes known

      since_joined : Acts g.h body.joined w.last
      since_joined = acts_then g.h body.joined after.first w.last turned_acts post

      abbrev mid : RunState
      mid = after_all g r (beside_ones g)

      abbrev its : Body g
      its = record {
        opened = opened;
        below = below;
        after = after;
        body = body;
        within = joined_within;
        known = joined_known;
        apart = apart_before body.joined w.last since_joined.goes w.apart;
        o = o;
        among = λ context key v is. w.among context key v (since.fewer context key v is);
        own = own_then g w [] o opened.first body.joined r.state pre beside_acts since_joined since;
        computed = computed_then g w o opened.first body.joined pre beside_acts since_joined since.fewer;
        r = r;
        fine = fine;
        level = level_fewer g.plan g.run (away g.plan [] (unshared (g.touched g.node) o)) (unshared (g.touched g.node) o) (first_seen opened.first) r.state
            (λ context key is. away_is g.plan [] (unshared (g.touched g.node) o) context key is (λ x there inside. contains_none x there)) since.level;
        near = since.near;
        closed = closed;
        fresh = fresh;
      }

      turn_children : All (IsChild g) (turn_ones g)
      turn_children = λ k d less. turn_child g _ (Contains-get_or (turn_ones g) k d less)

      beside_children : All (IsChild g) (beside_ones g)
      beside_children = λ k d less. beside_child g _ (Contains-get_or (beside_ones g) k d less)

      mid_fine : IsFine g.plan mid
      mid_fine = children_fine g.plan g.touched g.changes g.basis.read g.basis.covered g.levels g.node g.path (path_in g) (beside_ones g) r beside_children fine

      few : mid.state.store.drawn < enough_numbers g.plan.size
      few = let more = all_leave_drawn (turn_ones g) mid turn_children mid_fine in omega (arith, more, drawn)

      since_mid : Since g w (beside_ones g) (later g its each few) body.joined mid.state
      since_mid = since_then g w [] (beside_ones g) o (later g its each few) opened.first body.joined r.state mid.state (λ x there. absurd (contains_none x there)) (beside_child g) pre beside_acts since_joined since (beside_passes g its each few)

      closed_mid : ClosedFor g (later g its each few) mid
      closed_mid =
          fewer_closed g.plan (plan_path g.plan g.node) o (later g its each few) mid.state (λ context key v is. (beside_passes g its each few).fewer context key v is)
          (children_stay g (beside_ones g) o r beside_children closed)

      told_mid : Below g (beside_ones g) (flat_map (λ ran. ran) body.beside) r mid
      told_mid =
          all_below (ids g) (tree_is g) g.node (λ r child. node_run g.plan g.levels (child ∷ g.path) r) (AllResultsNear (SharesAbove g.plan g.shares)) (near_none (SharesAbove g.plan g.shares)) (near_then (SharesAbove g.plan g.shares)) (beside_ones g) body.beside r
          body.dealt.outcome_count (once_beside g its) (beside_child g) (λ i less.
          let e = ended_near g its each few i less in
          record { ran = ran_at g its i; stands = (job_at g its i less).stands; told = e.ends.told; under = e.under })

      counted_mid : (first_computed g its each few (length (beside_ones g)) ≡ computed_of (flat_map (λ ran. ran) body.beside))
          × (first_told g its each few (length (beside_ones g)) ≡ computed_told (flat_map (λ ran. ran) body.beside) mid.results)
      counted_mid =
          let sums = counted_all g (beside_ones g) body.beside r (ran_at g its) (first_computed g its each few) (first_told g its each few) body.dealt.outcome_count (once_beside g its) (beside_child g)
          (λ i less. let e = ended_near g its each few i less in record { stands = (job_at g its i less).stands; told = e.ends.told; under = e.under }) (λ i less. refl) (λ i less. refl) in
          (sums.0 ∙ omega arith, sums.1 ∙ omega arith)

      fills_mid : Fills (IsFilledIn g.run g.h opened.first body.joined) o (later g its each few) r.state (computed_of (flat_map (λ ran. ran) body.beside)) (computed_told (flat_map (λ ran. ran) body.beside) mid.results)
      fills_mid =
          fills_counted (IsFilledIn g.run g.h opened.first body.joined) o (later g its each few) r.state (first_computed g its each few (length (beside_ones g))) (first_told g its each few (length (beside_ones g)))
          (computed_of (flat_map (λ ran. ran) body.beside)) (computed_told (flat_map (λ ran. ran) body.beside) mid.results) counted_mid.0 counted_mid.1 (beside_fills g its each few)

      pub body_turned : Turned (beside_ones g ++ turn_ones g) below o opened.first after.first r (after_all g mid (turn_ones g))
      body_turned =
          let entries = body.in_turn.done in
          let are = body.in_turn.each in
          let second = turns entries (beside_ones g) (later g its each few) (with_lanes body.joined body.between) after mid body.in_turn.runs (λ x there. subst (λ l. Contains l x) are there)
          (subst Once (sym are) (once-right (beside_ones g) (turn_ones g) (all_once g))) (beside_child g) (λ x there also. once-apart (beside_ones g) (turn_ones g) x (all_once g) there (subst (λ l. Contains l x) are also))
          known within (acts_then g.h w.first opened.first body.joined pre beside_acts) post mid_fine since_mid closed_mid (subst (λ (l : List ℕ). (after_all g mid l).state.store.drawn < enough_numbers g.plan.size) (sym are) drawn)
          (λ x there. Contains-append_left (beside_ones g) (turn_ones g) x there)
          (λ x context there inside it.
          let turn_x : Contains (turn_ones g) x = subst (λ l. Contains l x) are there in
          fresh_beside g.plan g.touched g.changes g.basis.covered g.node x context (turn_child g x turn_x) inside it (beside_ones g) r.state mid.state
          (λ c c_in. (beside_child g c c_in, λ same. once-apart (beside_ones g) (turn_ones g) c (all_once g) c_in (subst (Contains (turn_ones g)) (sym same) turn_x)))
          (children_leave g.plan g.touched g.changes g.basis.read g.basis.covered g.levels g.node g.path (path_in g) (beside_ones g) r beside_children fine) (fresh x context (turn_child g x turn_x) inside it)) in
          let first_ran = flat_map (λ (ran : List Ran). ran) body.beside in
          let second_ran = flat_map (λ (e : Entry). e.1) entries in
          let last = after_all g mid (turn_ones g) in
          let turned : Turned (turn_ones g) second_ran (later g its each few) body.joined after.first mid last =
          subst (λ (l : List ℕ). Turned l second_ran (later g its each few) body.joined after.first mid (after_all g mid l)) are second in
          let apart : (x : ℕ) → Contains (beside_ones g) x → Contains (turn_ones g) x → ⊥ = λ x there also. once-apart (beside_ones g) (turn_ones g) x (all_once g) there also in
          let both = told_then (beside_ones g) (turn_ones g) first_ran second_ran r mid last (beside_child g) (turn_child g) apart told_mid turned.below in
          let passes = beside_passes g its each few in
          let fills = filled_then (beside_ones g) (turn_ones g) first_ran second_ran r mid last (beside_child g) (turn_child g) apart told_mid turned.below (beside_ones g) o (later g its each few) turned.open_still
          opened.first body.joined after.first pre beside_acts turned_acts post since.fewer turned.fewer passes fills_mid turned.fills in
          let ran_is : first_ran ++ second_ran ≡ below = sym (body.below_are ∙ ap (λ l. first_ran ++ l) body.in_turn.ran_are) in
          record {
            done = turned.done;
            are = turned.are;
            open_still = turned.open_still;
            fewer = λ context key v is. passes.fewer context key v (turned.fewer context key v is);
            since = turned.since;
            below = subst (λ (l : List Ran). Below g (beside_ones g ++ turn_ones g) l r last) ran_is both;
            fills = subst (λ (l : List Ran). Fills (IsFilledIn g.run g.h opened.first after.first) o turned.open_still r.state (computed_of l) (computed_told l last.results)) ran_is fills;
            orders = orders_then g.run (away g.plan (beside_ones g ++ turn_ones g) (unshared (g.touched g.node) o)) (first_seen opened.first) (first_seen body.joined) (first_seen after.first) r.state mid.state last.state
                (prefix_rises (first_seen opened.first) (first_seen body.joined) (heads_go opened.first body.joined beside_acts.goes))
                (children_leave g.plan g.touched g.changes g.basis.read g.basis.covered g.levels g.node g.path (path_in g) (beside_ones g) r beside_children fine).drawn
                (drew_at body.joined mid (first_within g.h body.joined joined_within) mid_fine (away g.plan (beside_ones g ++ turn_ones g) (unshared (g.touched g.node) o)))
                (orders_fewer g.run (away g.plan (beside_ones g) (unshared (g.touched g.node) o)) (away g.plan (beside_ones g ++ turn_ones g) (unshared (g.touched g.node) o)) (first_seen opened.first) (first_seen body.joined) r.state mid.state
                (λ context key is. away_is g.plan (beside_ones g) (unshared (g.touched g.node) o) context key (away_first g.plan (beside_ones g ++ turn_ones g) (unshared (g.touched g.node) o) context key is)
                (λ x there it. away_from g.plan (beside_ones g ++ turn_ones g) (unshared (g.touched g.node) o) context key is x (Contains-append_left (beside_ones g) (turn_ones g) x there) it))
                (beside_orders g its each few))
                (orders_fewer g.run (away g.plan (beside_ones g ++ turn_ones g) (unshared (g.touched g.node) (later g its each few))) (away g.plan (beside_ones g ++ turn_ones g) (unshared (g.touched g.node) o)) (first_seen body.joined) (first_seen after.first)
                mid.state last.state (λ context key is. still_away passes.fewer context key is) turned.orders);
          }
