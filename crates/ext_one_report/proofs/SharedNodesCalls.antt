-- The callbacks of a container, on the first of its lanes and in the plain run: from before them to after them, where some of their steps compute at open places.
use Rattle.std.proofs.Common.{◌≡◌, ℕ, ◌≤◌, ◌+◌, ◌<◌, ◌&&◌, inl, inr, true, not, drop, List, [], ◌∷◌, ◌++◌, append-nil, length, None, Some, refl, ap, sym, subst, ◌∙◌, arith}
use Rattle.std.specs.Prelude.{All, Contains}
use Rattle.std.specs.List.{flat_map}
use Rattle.std.proofs.lemmas.List.Elements.{All-contains, All-head, All-tail, Contains-get_or}
use Rattle.std.proofs.lemmas.List.Sums.{sum_by-append}
use Rattle.ext_history.specs.Histories.{seen_by}
use Rattle.ext_history.proofs.Legal.{legal_begun}
use Rattle.ext_history.proofs.Lists.{contains_none}
use Rattle.ext_model.specs.declared.event.Event.{Event}
use Rattle.ext_model.specs.History.{History}
use Rattle.ext_one_report.proofs.Numbers.{enough_numbers}
use Rattle.ext_tree.specs.Keys.{KeyValue}
use Rattle.ext_tree.specs.Trees.{IsPathOf}
use Rattle.ext_lifecycle.specs.declared.call.Call.{Call}
use Rattle.ext_lifecycle.specs.declared.outcome.Outcome.{Outcome}
use Rattle.ext_lifecycle.specs.Endings.{all_successful}
use Rattle.ext_lifecycle.specs.Lifecycle.{MakesAll, MakesBefores, computed_in}
use Rattle.ext_plan.specs.Plans.{KeyText, PlanText, StepText}
use Rattle.ext_plan.specs.PlanCalls.{steps_of_call}
use Rattle.ext_plan.specs.ReadPlans.{StayOnPath}
use Rattle.ext_plan.specs.Steps.{height}
use Rattle.ext_races.specs.Touches.{keys_named}
use Rattle.ext_store.specs.Stores.{IsLaneOf}
use Rattle.ext_engine.specs.Meeting.{HasSeenWithin, first_seen}
use Rattle.ext_engine.specs.Order.{IsMadeIn, LaneGoesOn}
use Rattle.ext_engine.proofs.Acts.{Acts, same_made}
use Rattle.ext_plan_parallel.specs.StoreCalls.{PlanLane}
use Rattle.ext_races.specs.MadeSteps.{calls_after, calls_before, steps_before, plan_path}
use Rattle.ext_races.proofs.Lists.{all_contained}
use Rattle.ext_plan_plain.specs.NodeCalls.{CallsEnd, call_run, make_all, make_befores, no_calls}
use Rattle.ext_plan_plain.specs.ValueStates.{ValueState}
use Rattle.ext_plan_plain.proofs.Nodes.{start_is}
use Rattle.ext_one_report.proofs.ComputedAbove.{NoneOpenAbove}
use Rattle.ext_one_report.proofs.MatchingWords.{Matches, Places, RunView, cell_of}
use Rattle.ext_one_report.proofs.StepsWords.{IsLaneIn}
use Rattle.ext_one_report.proofs.Matching.{matches_at_fewer, numbered_at_fewer}
use Rattle.ext_one_report.proofs.Orders.{Orders}
use Rattle.ext_one_report.proofs.OrdersBounds.{orders_kept}
use Rattle.ext_one_report.proofs.Fills.{Fills, IsFilledBy, IsFilledIn, Spot}
use Rattle.ext_one_report.proofs.FillsLanes.{filled_by, filled_in, none_filled}
use Rattle.ext_one_report.proofs.FillsLaws.{fills_as, fills_none}
use Rattle.ext_one_report.proofs.Open.{AreNear, AreOpenBeside, Given, Open, also, place_of_step, still_open}
use Rattle.ext_one_report.proofs.OpenCalls.{BeforesFit, CallFitsOpen, CallsNear, LeavesNear, NoneOpen, StepsFit}
use Rattle.ext_one_report.proofs.OpenSteps.{AreBesideOpen, StandsInBoth}
use Rattle.ext_one_report.proofs.Shared.{unshared, SharesAbove}
use Rattle.ext_one_report.proofs.Levels.{AreLevel}
use Rattle.ext_one_report.proofs.SharedNodesWords.{AreComputed, AreOwn}
use Rattle.ext_one_report.proofs.Beside.{MakesFully, all_find, all_made, befores_find, befores_made, first_of_all, first_of_befores}
use Rattle.ext_one_report.proofs.LanesAlone.{first_is_alone, first_is_shown, is_more, is_on_place}
use Rattle.ext_one_report.proofs.NodeCalls.{each_of, step_more}
use Rattle.ext_one_report.proofs.NodePlaces.{and_of, away, away_first, away_from, away_is, or_either, or_first, or_second, within_any}
use Rattle.ext_one_report.proofs.NodeRooms as node_calls
use Rattle.ext_one_report.proofs.NodeRooms.{all_room, befores_room}
use Rattle.ext_one_report.proofs.NodeTrees.{path_apart, its_path}
use Rattle.ext_one_report.proofs.SharedNodesBasis.{in_plan, plan_tree, run_tree}
use Rattle.ext_one_report.proofs.SharedNodesBeside.{off_above}
use Rattle.ext_one_report.proofs.SharedNodesBody.{Ground, IsChild, path_in}
use Rattle.ext_one_report.proofs.SharedNodesPasses.{Passes, own_fewer}
use Rattle.ext_one_report.proofs.SharedNodesPlaces.{not_both, still_cases, still_parts, unshared_is, unshared_parts}
use Rattle.ext_one_report.proofs.SharedNodesResults.{AreCounted}
use Rattle.ext_one_report.proofs.SharedNodesTurn.{Since, Whole, computed_then, own_then}
use Rattle.ext_one_report.proofs.SharedTestsOpen.{after_fits, befores_fit, none_fewer, same_filled, shared_beside}
use Rattle.ext_one_report.proofs.OpenCallLists.{all_calls_end_near, befores_end_near}

-- steps that fit some places fit others, where these have all of them that are in a context of the path
fits_places : (run : RunView) (keys : List KeyText) (path : List ℕ) (steps : List StepText) (places more : Places) (o : Open) → StayOnPath (length path) steps
    → ((context : ℕ) (key : KeyValue) → Contains path context → places context key ≡ true → more context key ≡ true) → StepsFit run keys path places o steps → StepsFit run keys path more o steps
fits_places run keys path [] places more o stay each fits = tt
fits_places run keys path (step ∷ steps) places more o stay each fits =
    let High : StepText → Type 0 = λ s. height s < length path in
    let rest : StayOnPath (length path) steps = All-tail High step steps stay in
    elim fits [
      | inl within ↦ inl (step_more keys path places more each step (All-head High step steps stay) within.0, within.1, fits_places run keys path steps places more o rest each within.2)
      | inr (inl computes) ↦ inr (inl (
        computes.0,
        fits_places run keys path steps (also (place_of_step keys path step) places) (also (place_of_step keys path step) more) (still_open (place_of_step keys path step) o) rest
            (λ context key there is. elim (or_either (places context key) (place_of_step keys path step context key) is) [
              | inl was ↦ or_first (more context key) (place_of_step keys path step context key) (each context key there was)
              | inr at ↦ or_second (more context key) (place_of_step keys path step context key) at
            ]) computes.1,
      ))
      | inr (inr fails) ↦ inr (inr (fails.0, fits_places run keys path steps places more o rest each fails.1))
    ]

-- and so do calls one after another
befores_fit_places : (run : RunView) (plan : PlanText) (path : List ℕ) (calls : List Call) (places more : Places) (o : Open)
    → ((context : ℕ) (key : KeyValue) → Contains path context → places context key ≡ true → more context key ≡ true) → BeforesFit run plan path places o calls → BeforesFit run plan path more o calls
befores_fit_places run plan path [] places more o each fits = tt
befores_fit_places run plan path (call ∷ calls) places more o each fits = (
  (fits.0.0, fits_places run plan.keys path (steps_of_call plan call) places more o fits.0.0 each fits.0.1),
  λ settled are. befores_fit_places run plan path calls (also settled places) (also settled more) (still_open settled o)
      (λ context key there is. elim (or_either (places context key) (settled context key) is) [
        | inl was ↦ or_first (more context key) (settled context key) (each context key there was)
        | inr on ↦ or_second (more context key) (settled context key) on
      ])
      (fits.1 settled are),
)

module _ (g : Ground) where
  abbrev pub Own : Call → Type 0
  Own = node_calls.Own g.plan g.run g.basis.read g.node g.path (path_in g)

  abbrev Named : Call → Type 0
  Named = node_calls.NamesKeys g.plan g.run g.basis.read g.node g.path (path_in g)

  named : (call : Call) → Own call → Named call
  named = node_calls.names_keys g.plan g.run g.basis.read g.node g.path (path_in g)

  abbrev pub Holds : ValueState → Type 0
  Holds = node_calls.Holds g.plan g.run g.basis.read g.node g.path (path_in g)

  -- ---- from before some calls to after them

  module _ (w : Whole g) (done : List ℕ) (are : (x : ℕ) → Contains done x → IsChild g x) (o : Open) (xs ys : List PlanLane) (a b : PlanLane) (rest : List PlanLane) (was : xs ≡ a ∷ rest) (is : ys ≡ b ∷ rest)
      (pre : Acts g.h w.first xs) (acts : Acts g.h xs ys) (post : Acts g.h ys w.last) (known : All (IsLaneIn g.run) ys) (within : All (HasSeenWithin g.h) ys) (goes : LaneGoesOn a b) (s : ValueState) (since : Since g w done o xs s) where
    abbrev places : Places
    places = away g.plan done (unshared (g.touched g.node) o)

    among : (context : ℕ) (key : KeyValue) (v : Given) → o context key ≡ Some v → g.shares g.node context key ≡ Some v
    among context key v opens = w.among context key v (since.fewer context key v opens)

    apart : NoneOpenAbove g.plan (drop 1 g.path) o
    apart = none_fewer g.plan (drop 1 g.path) w.o o since.fewer w.none_above

    none_above : NoneOpenAbove g.plan (drop 1 (plan_path g.plan g.node)) o
    none_above = subst (λ l. NoneOpenAbove g.plan (drop 1 l) o) (its_path g.plan g.basis.read.runnable.tree g.node g.path (path_in g)) apart

    b_in : HasSeenWithin g.h b
    b_in = All-head (HasSeenWithin g.h) b rest (subst (All (HasSeenWithin g.h)) is within)

    own_here : AreOwn g.run g.h places (a ∷ rest) (b ∷ rest)
    own_here =
        let own = own_fewer g.run g.h (unshared (g.touched g.node) o) places xs ys (λ context key there. away_first g.plan done (unshared (g.touched g.node) o) context key there) (own_then g w done o xs ys s pre acts post since) in
        subst (λ (l : List PlanLane). AreOwn g.run g.h places (a ∷ rest) l) is (subst (λ (l : List PlanLane). AreOwn g.run g.h places l ys) was own)

    computed_here : AreComputed g.run g.h o (a ∷ rest) (b ∷ rest)
    computed_here =
        subst (λ (l : List PlanLane). AreComputed g.run g.h o (a ∷ rest) l) is (subst (λ (l : List PlanLane). AreComputed g.run g.h o l ys) was (computed_then g w o xs ys pre acts post since.fewer))

    open_beside : AreOpenBeside g.run places o
    open_beside =
        let all = shared_beside g.plan g.run g.locks g.h g.touched g.changes g.changed g.shares g.basis g.node o among in
        record {
          apart = λ context key v opens. ap (λ x. x && not (within_any g.plan done context)) (all.apart context key v opens);
          above = λ context key v path opens path_is.
              let P : ℕ → Type 0 = λ c. unshared (g.touched g.node) o c key ≡ true in
              let in_ids = in_plan g.plan g.run g.locks g.h g.touched g.changes g.changed g.shares g.basis context (context ∷ path) path_is in
              let each : (at : ℕ) → Contains path at → places at key ≡ true =
              λ at there.
              and_of (unshared (g.touched g.node) o at key) (not (within_any g.plan done at)) (All-contains P path at (all.above context key v path opens path_is) there)
              (ap not (off_above g context at key v path (among context key v opens) in_ids there done are)) in
              λ k d inside. each _ (Contains-get_or path k d inside);
          kept = all.kept;
        }

    beside : IsLaneOf g.run.store.id a → AreBesideOpen g.run g.path places o a b s
    beside of = record {
      view = g.basis.view;
      of = of;
      lane = All-head (IsLaneIn g.run) b rest (subst (All (IsLaneIn g.run)) is known);
      legal = legal_begun (seen_by b.cells.view) g.h b_in g.basis.legal;
      tree = run_tree g.plan g.run g.locks g.h g.touched g.changes g.changed g.shares g.basis;
      path_is = subst (λ n. IsPathOf g.run.store.tree n g.path) (sym (start_is g.run.store.tree g.node g.path g.path_is)) g.path_is;
      beside = open_beside;
      alone = first_is_alone g.run g.h a b rest b_in places own_here;
      computed = first_is_shown g.run g.h a b rest b_in o computed_here;
      memory = since.level.memory;
      keeps = since.level.keeps;
      matches = subst (λ (l : List PlanLane). Matches g.run places (first_seen l) s) was since.level.matches;
      numbered = since.level.numbered;
      near = subst (λ (l : List PlanLane). AreNear g.run o (first_seen l) s) was since.near;
    }

    -- what is among the others that it touches is among these, in a context of its path
    on_its_way : (context : ℕ) (key : KeyValue) → Contains g.path context → unshared (g.touched g.node) o context key ≡ true → places context key ≡ true
    on_its_way context key there place =
        away_is g.plan done (unshared (g.touched g.node) o) context key place
        (λ x x_in inside. path_apart g.plan (plan_tree g.plan g.run g.locks g.h g.touched g.changes g.changed g.shares g.basis) g.node g.path x context (path_in g) (are x x_in) there inside)

    -- the callbacks before its body fit these places
    opening_fits : BeforesFit g.run g.plan g.path places o (calls_before g.plan g.node)
    opening_fits =
        befores_fit_places g.run g.plan g.path (calls_before g.plan g.node) (unshared (g.touched g.node) o) places o on_its_way
        (befores_fit g.plan g.run g.locks g.h g.touched g.changes g.changed g.shares g.basis g.node g.path (path_in g) o among apart)

    -- and so do those after it
    fits : (call : Call) → Contains (calls_after g.plan g.node) call → CallFitsOpen g.run g.plan g.path places o call
    fits call there =
        let one = after_fits g.plan g.run g.locks g.h g.touched g.changes g.changed g.shares g.basis g.node g.path (path_in g) o among apart call there in (
          one.0,
          fits_places g.run g.plan.keys g.path (steps_of_call g.plan call) (unshared (g.touched g.node) o) places o one.0 on_its_way one.1,
        )

    -- what is not open after them was not, or is settled
    not_open_more : (settled : Places) (context : ℕ) (key : KeyValue) → away g.plan done (unshared (g.touched g.node) (still_open settled o)) context key ≡ true → also settled places context key ≡ true
    not_open_more settled context key there =
        let later = still_open settled o in
        let parts = unshared_parts (g.touched g.node) later context key (away_first g.plan done (unshared (g.touched g.node) later) context key there) in
        elim (still_cases settled o context key parts.1) [
          | inl on ↦ or_second (places context key) (settled context key) on
          | inr closed ↦
              or_first (places context key) (settled context key)
              (away_is g.plan done (unshared (g.touched g.node) o) context key (unshared_is (g.touched g.node) o context key parts.0 closed.1) (away_from g.plan done (unshared (g.touched g.node) later) context key there))
        ]

    -- what calls leave near passes
    passes : (t : ValueState) (leaves : LeavesNear g.run places o a s b t) → Holds t → Passes g.plan g.run g.h (g.touched g.node) done o xs s (still_open leaves.settled o) ys t
    passes t leaves held =
        let later = still_open leaves.settled o in
        let after = away g.plan done (unshared (g.touched g.node) later) in
        let fewer = not_open_more leaves.settled in
        let to_ys : (P : History → Type 0) → P (seen_by b.cells.view) → P (first_seen ys) = λ P p. subst (λ (l : List PlanLane). P (first_seen l)) (sym is) p in
        record {
          fewer = λ context key v opens. (still_parts leaves.settled o context key v opens).1;
          level = record {
            matches = to_ys (λ m. Matches g.run after m t) (matches_at_fewer g.run (also leaves.settled places) after (seen_by b.cells.view) t fewer leaves.matches);
            numbered = numbered_at_fewer (also leaves.settled places) after t fewer leaves.numbered;
            memory = held.memory;
            keeps = held.keeps;
            gave = held.gave;
            of_plan = held.of_plan;
          };
          near = to_ys (λ m. AreNear g.run later m t) leaves.near;
          stand = λ context key v opens none. elim (still_cases leaves.settled o context key none) [
            | inr closed ↦ not_both (o context key) v closed.1 opens
            | inl on ↦ to_ys (λ m. StandsInBoth g.run v context key m t) (leaves.stand context key v on opens)
          ];
          unchanged = λ context key v opens. let parts = still_parts leaves.settled o context key v opens in leaves.unchanged context key v parts.0 parts.1;
          untouched = λ context number place key v event opens left has there on made.
              let parts = still_parts leaves.settled o context key v opens in
              let here : IsMadeIn g.h place (a ∷ rest) (b ∷ rest) = subst (λ (l : List PlanLane). IsMadeIn g.h place (a ∷ rest) l) is (subst (λ (l : List PlanLane). IsMadeIn g.h place l ys) was made) in
              elim here [
                | inr none ↦ absurd (same_made g.h rest place none)
                | inl one ↦
                    let both : Some one.event ≡ Some event = sym one.there ∙ there in
                    let same : one.event ≡ event = cc both in
                    leaves.untouched context key number v parts.0 parts.1 left has goes.seen.0 (sym goes.seen.1) event
                    (is_more g.h (seen_by a.cells.view) (seen_by b.cells.view) goes.seen b_in place event there one.since one.until)
                    (is_on_place (cell_of g.run number context) event.act on) (sym (ap (λ (x : Event ℕ). x.lane) same) ∙ one.own_event)
              ];
        }

    -- where no call is made nothing has passed
    nothing_passes : a ≡ b → Passes g.plan g.run g.h (g.touched g.node) done o xs s o ys s
    nothing_passes same =
        let one : xs ≡ ys = was ∙ (ap (λ (x : PlanLane). x ∷ rest) same ∙ sym is) in
        record {
          fewer = λ context key v opens. opens;
          level = subst (λ (l : List PlanLane). AreLevel g.plan g.run places (first_seen l) s) one since.level;
          near = subst (λ (l : List PlanLane). AreNear g.run o (first_seen l) s) one since.near;
          stand = λ context key v opens none. not_both (o context key) v none opens;
          unchanged = λ context key v opens. refl;
          untouched = λ context number place key v event opens left has there on made. same_made g.h xs place (subst (λ (l : List PlanLane). IsMadeIn g.h place xs l) (sym one) made);
        }

    -- what the lanes fill the first of them does
    fill_in : (spot : Spot) → IsFilledBy g.run a b spot → IsFilledIn g.run g.h xs ys spot
    fill_in spot filled =
        subst (λ (l : List PlanLane). IsFilledIn g.run g.h l ys spot) (sym was)
        (subst (λ (l : List PlanLane). IsFilledIn g.run g.h (a ∷ rest) l spot) (sym is) (filled_in g.run g.h a b rest b_in spot filled))

    in_fill : (spot : Spot) → IsFilledIn g.run g.h xs ys spot → IsFilledBy g.run a b spot
    in_fill spot filled =
        filled_by g.run g.h a b rest b_in spot goes.seen
        (subst (λ (l : List PlanLane). IsFilledIn g.run g.h (a ∷ rest) l spot) is (subst (λ (l : List PlanLane). IsFilledIn g.run g.h l ys spot) was filled))

    its_fills : (later : Open) (lanes plain : ℕ) → Fills (IsFilledBy g.run a b) o later s lanes plain → Fills (IsFilledIn g.run g.h xs ys) o later s lanes plain
    its_fills later lanes plain fills =
        fills_as (IsFilledBy g.run a b) (IsFilledIn g.run g.h xs ys) o later s lanes plain lanes plain (λ spot v opens filled. fill_in spot filled) (λ spot v opens filled. in_fill spot filled) refl refl fills

    no_fills : a ≡ b → (n : ℕ) → Fills (IsFilledIn g.run g.h xs ys) o o s n n
    no_fills same n =
        let one : ys ≡ xs = is ∙ (ap (λ (x : PlanLane). x ∷ rest) (sym same) ∙ sym was) in
        fills_none (IsFilledIn g.run g.h xs ys) o s n (λ spot v opens filled. none_filled g.run g.h xs spot (subst (λ (l : List PlanLane). IsFilledIn g.run g.h xs l spot) one filled))

    -- What is so after these calls, where all up to them had these outcomes, and those before them computed so many values in the plain run
    pub record Called (outcomes made : List Outcome) (had : ℕ) (end : CallsEnd) : Type 0 where
      pub near : CallsNear outcomes end
      pub counted : SharesAbove g.plan g.shares g.node → AreCounted outcomes end
      pub later : Open
      pub step : Passes g.plan g.run g.h (g.touched g.node) done o xs s later ys end.state
      pub plain : ℕ
      pub plain_is : end.computed ≡ had + plain
      pub fills : Fills (IsFilledIn g.run g.h xs ys) o later s (computed_in made) plain
      pub rises : s.store.drawn ≤ end.state.store.drawn
      pub orders : Orders g.run places (first_seen xs) (first_seen ys) s end.state

    -- in one order for all lanes of the node
    its_orders : (t : ValueState) → Orders g.run places (seen_by a.cells.view) (seen_by b.cells.view) s t → Orders g.run places (first_seen xs) (first_seen ys) s t
    its_orders t orders =
        subst (λ (l : List PlanLane). Orders g.run places (first_seen l) (first_seen ys) s t) (sym was)
        (subst (λ (l : List PlanLane). Orders g.run places (first_seen (a ∷ rest)) (first_seen l) s t) (sym is) orders)

    no_orders : a ≡ b → Orders g.run places (first_seen xs) (first_seen ys) s s
    no_orders same =
        let one : xs ≡ ys = was ∙ (ap (λ (x : PlanLane). x ∷ rest) same ∙ sym is) in
        subst (λ (l : List PlanLane). Orders g.run places (first_seen xs) (first_seen l) s s) one
        (orders_kept g.run places (first_seen xs) (first_seen xs) s s since.level.matches since.level.numbered (λ context key number here has. refl) (λ context key here. refl))

    -- and after the callbacks before its body: where all were successful, nothing is open still that they compute
    pub record Opened (outcomes : List Outcome) (end : CallsEnd) : Type 0 where
      pub called : Called outcomes outcomes 0 end
      pub settles : all_successful end.calls ≡ true → NoneOpen g.plan.keys g.path called.later (steps_before g.plan g.node)

    held_here : Holds s
    held_here = record { memory = since.level.memory; keeps = since.level.keeps; gave = since.level.gave; of_plan = since.level.of_plan }

    pub befores_called : (calls : List Call) (os : List Outcome) → All Own calls → calls_before g.plan g.node ≡ calls → MakesBefores (MakesFully g.plan g.run g.locks g.node None) calls a os b
        → (make_befores (call_run g.plan g.path) calls (no_calls s)).state.store.drawn < enough_numbers g.plan.size → Opened os (make_befores (call_run g.plan g.path) calls (no_calls s))
    befores_called [] os own are_its made drawn = record {
      called = record {
        near = subst (λ (l : List Outcome). CallsNear l (no_calls s)) (sym made.0) (record { says = refl; counts = refl });
        counted = λ nothing. subst (λ (l : List Outcome). AreCounted l (no_calls s)) (sym made.0) (record { computed = refl; found = refl });
        later = o;
        step = nothing_passes (sym made.1);
        plain = 0;
        plain_is = refl;
        fills = subst (λ (l : List Outcome). Fills (IsFilledIn g.run g.h xs ys) o o s (computed_in l) 0) (sym made.0) (no_fills (sym made.1) 0);
        rises = omega arith;
        orders = no_orders (sym made.1);
      };
      settles = λ all.
          subst (λ (l : List Call). NoneOpen g.plan.keys g.path o (flat_map (steps_of_call g.plan) l)) (sym are_its)
          (record { none = λ step there computes. contains_none step there });
    }
    befores_called (call ∷ calls) os own are_its made drawn =
        let all = call ∷ calls in
        let room = befores_room (keys_named g.plan) (enough_numbers g.plan.size) g.plan g.path all (no_calls s) refl (each_of Own Named all named own) since.level.gave since.level.memory drawn in
        let its = beside (first_of_befores g.plan g.run g.locks g.node None call calls a os b made) in
        let finds = befores_find g.plan g.run g.locks g.node None all a os b made in
        let makes = befores_made g.plan g.run g.locks g.node None all a os b made in
        let both = befores_end_near g.run g.plan g.node g.path places o all a os b s g.path_is its (subst (λ (l : List Call). BeforesFit g.run g.plan g.path places o l) are_its opening_fits) finds room makes in
        record {
          called = record {
            near = both.0;
            counted = λ nothing.
                let end = make_befores (call_run g.plan g.path) all (no_calls s) in
                let same = same_filled g.plan g.shares g.node o (still_open both.1.settled o) (IsFilledBy g.run a b) s (computed_in os) end.computed among none_above nothing both.3 in
                record { computed = same; found = omega (arith, same, both.0.counts) };
            later = still_open both.1.settled o;
            step = passes _ both.1 (node_calls.befores_hold g.plan g.run g.basis.read g.node g.path (path_in g) all (no_calls s) own held_here);
            plain = (make_befores (call_run g.plan g.path) all (no_calls s)).computed;
            plain_is = omega arith;
            fills = its_fills (still_open both.1.settled o) (computed_in os) (make_befores (call_run g.plan g.path) all (no_calls s)).computed both.3;
            rises = both.1.rises;
            orders = its_orders (make_befores (call_run g.plan g.path) all (no_calls s)).state both.1.orders;
          };
          settles = λ successful.
              subst (λ (l : List Call). NoneOpen g.plan.keys g.path (still_open both.1.settled o) (flat_map (steps_of_call g.plan) l)) (sym are_its) (both.2 successful);
        }

    pub all_called : (calls : List Call) (before os : List Outcome) (e : CallsEnd) → e.state ≡ s → CallsNear before e → (SharesAbove g.plan g.shares g.node → AreCounted before e) → All Own calls → calls_after g.plan g.node ≡ calls → MakesAll (MakesFully g.plan g.run g.locks g.node None) calls a os b
        → (make_all (call_run g.plan g.path) calls e).state.store.drawn < enough_numbers g.plan.size → Called (before ++ os) os e.computed (make_all (call_run g.plan g.path) calls e)
    all_called [] before os e at near counted own are_its made drawn = record {
      near = subst (λ (l : List Outcome). CallsNear (before ++ l) e) (sym made.0) (subst (λ (l : List Outcome). CallsNear l e) (sym (append-nil before)) near);
      counted = λ nothing.
          subst (λ (l : List Outcome). AreCounted (before ++ l) e) (sym made.0) (subst (λ (l : List Outcome). AreCounted l e) (sym (append-nil before)) (counted nothing));
      later = o;
      step = subst (λ (t : ValueState). Passes g.plan g.run g.h (g.touched g.node) done o xs s o ys t) (sym at) (nothing_passes (sym made.1));
      plain = 0;
      plain_is = omega arith;
      fills = subst (λ (l : List Outcome). Fills (IsFilledIn g.run g.h xs ys) o o s (computed_in l) 0) (sym made.0) (no_fills (sym made.1) 0);
      rises = subst (λ (t : ValueState). s.store.drawn ≤ t.store.drawn) (sym at) (omega arith);
      orders = subst (λ (t : ValueState). Orders g.run places (first_seen xs) (first_seen ys) s t) (sym at) (no_orders (sym made.1));
    }
    all_called (call ∷ calls) before os e at near counted own are_its made drawn =
        let all = call ∷ calls in
        let B : ValueState → Type 0 = λ t. AreBesideOpen g.run g.path places o a b t in
        let held : Holds e.state = subst Holds (sym at) held_here in
        let room = all_room (keys_named g.plan) (enough_numbers g.plan.size) g.plan g.path all e (each_of Own Named all named own) held.gave held.memory drawn in
        let its : AreBesideOpen g.run g.path places o a b e.state = subst B (sym at) (beside (first_of_all g.plan g.run g.locks g.node None call calls a os b made)) in
        let finds = all_find g.plan g.run g.locks g.node None all a os b made in
        let makes = all_made g.plan g.run g.locks g.node None all a os b made in
        let both = all_calls_end_near g.run g.plan g.node g.path places o all before a os b e g.path_is near its
        (subst (All (CallFitsOpen g.run g.plan g.path places o)) are_its (all_contained (CallFitsOpen g.run g.plan g.path places o) (calls_after g.plan g.node) fits)) finds room makes in
        let last = make_all (call_run g.plan g.path) all e in
        let E : ValueState → Type 0 = λ q. (left : LeavesNear g.run places o a q b last.state) × (plain : ℕ) × (last.computed ≡ e.computed + plain)
        × Fills (IsFilledBy g.run a b) o (still_open left.settled o) q (computed_in os) plain in
        let leaves_all : E s = subst E at (both.1, both.2, both.3, both.4) in
        let leaves = leaves_all.0 in
        record {
          near = both.0;
          counted = λ nothing.
              let early = counted nothing in
              let same = same_filled g.plan g.shares g.node o (still_open leaves.settled o) (IsFilledBy g.run a b) s (computed_in os) leaves_all.1 among none_above nothing leaves_all.3 in
              let sum = sum_by-append (λ (x : Outcome). x.computed) before os in
              let computed : computed_in (before ++ os) ≡ last.computed = omega (arith, sum, early.computed, same, leaves_all.2) in
              record { computed = computed; found = omega (arith, computed, both.0.counts) };
          later = still_open leaves.settled o;
          step = passes _ leaves (node_calls.all_hold g.plan g.run g.basis.read g.node g.path (path_in g) all e own held);
          plain = leaves_all.1;
          plain_is = leaves_all.2;
          fills = its_fills (still_open leaves.settled o) (computed_in os) leaves_all.1 leaves_all.3;
          rises = leaves.rises;
          orders = its_orders last.state leaves.orders;
        }
