-- The body of a container, cell by cell.
use Rattle.std.proofs.Common.{◌≡◌, ◌⊎◌, inl, inr, ℕ, ◌<◌, ◌≤◌, zero, suc, min, List, [], ◌∷◌, length, refl, sym, subst, arith}
use Rattle.std.specs.Prelude.{All, Contains, Some, slice_get, slice_index_or, ◌≢◌}
use Rattle.std.specs.List.{FoldsTo}
use mathlib.Core.List.{IsPrefix}
use base.Growing.{prefix_trans}
use Rattle.std.proofs.lemmas.List.Elements.{All-cons, All-contains_itself, All-drop, All-head, All-nil, All-tail, All-take, All-weaker, Contains-get_or}
use Rattle.ext_history.proofs.Lists.{bools}
use Rattle.ext_model.specs.declared.event.Event.{Event}
use Rattle.ext_model.specs.Events.{place_of}
use Rattle.ext_model.specs.History.{History}
use Rattle.ext_tree.specs.Trees.{IsPathOf, IsTree}
use Rattle.ext_store.specs.Stores.{StoreLane}
use Rattle.ext_crew.specs.Dealing.{RunByDealing}
use Rattle.ext_crew.proofs.RunLaws.{HasOutcome, run-outcome}
use Rattle.ext_crew.proofs.Runs.{run-weaker}
use Rattle.ext_engine.specs.Meeting.{HasSeen, HasSeenWithin, first_seen}
use Rattle.ext_engine.specs.Order.{AllGoOn, CallsGoOn, ChildRun, IsMadeIn, IsWithin, LaneGoesOn}
use Rattle.ext_engine.specs.TreeRun.{BodyRun, Lanes, Ran, TreeRun, TreeSetting, concurrent_children, with_lanes}
use Rattle.ext_engine.proofs.Acts.{Acts, all_made_then, all_met_made, heads_go, shorter}
use Rattle.ext_engine.proofs.Going.{all_met, children_dealt_go, goes_same, goes_then}
use Rattle.ext_engine.proofs.Grown.{Entry}
use Rattle.ext_engine.proofs.Order.{came_from, children_within, run-inside}
use Rattle.ext_one_report.specs.Alone.{IsAloneButBeside, IsMadeBeside, RunsAlone}
use Rattle.ext_one_report.specs.Changing.{IsBelow, IsLeftTo, NodesChangeOnly, events_at}
use Rattle.ext_one_report.specs.AloneLaws.{HasChildrenAlone}
use Rattle.ext_one_report.proofs.Changing.{runs_change_only}
use Rattle.ext_one_report.proofs.Containers.{Tree, at, bounded, children_differ, go}
use Rattle.ext_one_report.proofs.Dealt.{OrOther, by_dealt, dealt_apart}
use Rattle.ext_one_report.proofs.Kept.{same_there}
use Rattle.ext_one_report.proofs.Parts.{first_within}

-- the lane goes on to one of these
abbrev pub IsEarlierOf : {V : Type 0} → List (StoreLane V) → StoreLane V → Type 0
IsEarlierOf {V} later lane = (after : StoreLane V) × Contains later after × LaneGoesOn lane after

module _ {V A : Type 0} (t : TreeSetting V A) (changed : ℕ → List ℕ) where
  -- no other concurrent child of the container changes the cell, nor does a node below such a one
  pub record IsLeftAmong (container child cell : ℕ) : Type 0 where
    pub left : (other : ℕ) → Contains (concurrent_children t container) other → other ≢ child → IsBelow t changed other cell → ⊥

  -- ---- bodies

  -- A concurrent child in the body of a container, whose lanes are `opened` when the body begins and `joined` when all concurrent children have ended: it runs alone but for
  -- nodes beside it; and on the cells that are left to the container and, among the concurrent children, to this one, it begins with the events that the container had there,
  -- and the container goes on with those that it leaves there, as it goes on with the lanes that it leaves
  pub record RunsInBody (h : History) (depth node : ℕ) (opened joined : List (StoreLane V)) (child : ℕ) (s : Lanes V) (ran : List Ran) (u : Lanes V) : Type 0 where
    pub run : RunsAlone t h depth child s ran u
    pub begins : (cell : ℕ) → IsLeftTo t changed node cell → IsLeftAmong node child cell → events_at cell (first_seen s.first) ≡ events_at cell (first_seen opened)
    pub ends : (cell : ℕ) → IsLeftTo t changed node cell → IsLeftAmong node child cell → events_at cell (first_seen joined) ≡ events_at cell (first_seen u.first)
    pub lanes : All (IsEarlierOf joined) u.first

-- ---- lanes

module _ {V A : Type 0} (t : TreeSetting V A) where
  first_of : (lanes : List (StoreLane V)) → 0 < length lanes → (lane : StoreLane V) × (rest : List (StoreLane V)) × (lanes ≡ lane ∷ rest)
  first_of [] some = absurd (omega (arith, some))
  first_of (lane ∷ rest) some = (lane, rest, refl)

  -- a node is run with some lanes
  pub some_lanes : (depth node : ℕ) (s : Lanes V) (ran : List Ran) (u : Lanes V) → TreeRun t depth node s ran u → (lane : StoreLane V) × (rest : List (StoreLane V)) × (s.first ≡ lane ∷ rest)
  some_lanes zero node s ran u run = absurd run
  some_lanes (suc depth) node s ran u run = elim run.2 [
    | inl left ↦ first_of s.first left.some_lane
    | inr on ↦ elim (bools (t.suite.is_test node)) [
      | inl test ↦ let calls = (on.0 test).calls in (calls.lane, calls.rest, calls.first_was)
      | inr container ↦ let befores = (on.1 container).befores_made in (befores.lane, befores.rest, befores.first_was)
    ]
  ]

-- lanes that go on to these are earlier than these
earlier_all : {V : Type 0} (later : List (StoreLane V)) (xs ys : List (StoreLane V)) → AllGoOn xs ys → All (IsEarlierOf later) ys → All (IsEarlierOf later) xs
earlier_all later [] [] went all = All-nil (IsEarlierOf later)
earlier_all later [] (b ∷ ys) went all = absurd went
earlier_all later (a ∷ xs) [] went all = absurd went
earlier_all later (a ∷ xs) (b ∷ ys) went all =
    let one = All-head (IsEarlierOf later) b ys all in
    All-cons (IsEarlierOf later) a xs (one.0, one.1, goes_then a b one.0 went.0 one.2) (earlier_all later xs ys went.1 (All-tail (IsEarlierOf later) b ys all))

themselves : {V : Type 0} (later : List (StoreLane V)) → All (IsEarlierOf later) later
themselves later = All-weaker (Contains later) (IsEarlierOf later) (λ lane there. (lane, there, goes_same lane)) later (All-contains_itself later)

pub first_has_seen : {V : Type 0} (since : History) (xs : List (StoreLane V)) (lane : StoreLane V) (rest : List (StoreLane V)) → xs ≡ lane ∷ rest → All (HasSeen since) xs → IsPrefix since (first_seen xs)
first_has_seen since xs lane rest is all = subst (λ l. IsPrefix since (first_seen l)) (sym is) (All-head (HasSeen since) lane rest (subst (All (HasSeen since)) is all))

-- ---- bodies

module _ {V A : Type 0} (t : TreeSetting V A) (changed : ℕ → List ℕ) (moves : CallsGoOn t.call_gives) (tree : IsTree t.store.tree) (keeps : NodesChangeOnly t changed) (h : History) where
  -- the event is none that was made beside the node, where its cell is left to the node
  not_beside : (node place cell : ℕ) (event : Event ℕ) → IsMadeBeside t h node place → slice_get h place ≡ Some event → place_of event.act ≡ Some cell → IsLeftTo t changed node cell → ⊥
  not_beside node place cell event b there is left =
      left.left b.container b.child b.other b.concurrent b.other_concurrent b.differ b.below
      (runs_change_only t changed moves tree keeps h b.depth b.other b.made.before b.made.ran b.made.after b.made.run b.made.within place cell event b.made.made there is)

  module _ (depth node : ℕ) (path : List ℕ) (path_is : IsPathOf t.store.tree node path) (opened : Lanes V) (below : List Ran) (after : Lanes V) (body : BodyRun t (ChildRun t depth) node opened below after)
      (within : All (HasSeenWithin h) body.joined) (alone : IsAloneButBeside t h node opened.first body.joined) (children : HasChildrenAlone t h depth node opened below after body) where
    abbrev cs : List ℕ
    cs = concurrent_children t node

    abbrev child : ℕ → ℕ
    child i = slice_index_or cs i 0

    abbrev since : History
    since = first_seen opened.first

    abbrev until : History
    until = first_seen body.joined

    abbrev workers : ℕ
    workers = min (length body.forked) (length cs)

    abbrev Runs : ℕ → Lanes V → List Ran → Lanes V → Type 0
    Runs c s ran u = RunsAlone t h depth c s ran u

    goes : (c : ℕ) (s : Lanes V) (ran : List Ran) (u : Lanes V) → Runs c s ran u → AllGoOn s.first u.first
    goes c s ran u r = go t moves h depth c s ran u r.run

    -- the other children
    turned : (done : List Entry) (s u : Lanes V) → FoldsTo (λ s d u. Runs d.0 s d.1 u × IsAloneButBeside t h node s.first u.first) s done u → FoldsTo (λ s d u. Runs d.0 s d.1 u) s done u
    turned [] s u run = run
    turned (e ∷ done) s u run = (run.0, run.1.0, turned done run.0 u run.2)

    others : FoldsTo (λ s d u. Runs d.0 s d.1 u) (with_lanes body.joined body.between) body.in_turn.done after
    others = turned body.in_turn.done (with_lanes body.joined body.between) after children.others

    -- the same body, by children that run alone
    abbrev alone_body : BodyRun t (λ c s ran u. RunsAlone t h depth c s ran u) node opened below after
    alone_body = record {
      forked = body.forked;
      forks = body.forks;
      beside = body.beside;
      between = body.between;
      dealt = children.concurrent;
      joined = body.joined;
      joins = body.joins;
      alone = body.alone;
      in_turn = record { done = body.in_turn.done; each = body.in_turn.each; runs = others; ran_are = body.in_turn.ran_are };
      below_are = body.below_are;
    }

    abbrev Later : Lanes V → Type 0
    Later u = All (IsEarlierOf body.joined) u.first

    abbrev Known : ℕ → Lanes V → List Ran → Lanes V → Type 0
    Known i s ran u = (i < length cs) × (Runs (child i) s ran u × IsWithin since until s u)

    abbrev Job : ℕ → Lanes V → List Ran → Lanes V → Type 0
    Job i s ran u = (i < length cs) × (Runs (child i) s ran u × IsWithin since until s u × Later u)

    job_goes : (i : ℕ) (s : Lanes V) (ran : List Ran) (u : Lanes V) → Job i s ran u → AllGoOn s.first u.first
    job_goes i s ran u r = goes (child i) s ran u r.1.0

    join : AllGoOn body.between.first body.joined
    join = all_met t moves body.between.first body.joined body.joins.only_meet

    dealt : RunByDealing Job (length cs) workers (with_lanes body.forked opened) body.beside body.between
    dealt =
        let forked = with_lanes body.forked opened in
        let known = bounded _ (length cs) workers forked body.between body.beside (children_within t (λ c s ran u. RunsAlone t h depth c s ran u) goes node opened below after alone_body) in
        let inside = run-inside Known (λ s. Unit {0}) Later (λ i s ran u r k. tt)
        (λ i s ran u r l. earlier_all body.joined s.first u.first (goes (child i) s ran u r.1.0) l) (λ n s k. (tt, tt))
        (λ n s l. (All-take (IsEarlierOf body.joined) n s.first l, All-drop (IsEarlierOf body.joined) n s.first l))
        (length cs) workers forked body.between body.beside tt (earlier_all body.joined body.between.first body.joined join (themselves body.joined)) known in
        run-weaker _ Job inside (λ i s ran u r. (r.0.0, (r.0.1.0, r.0.1.1, r.2)))

    abbrev Between : ℕ → Type 0
    Between place = (length since ≤ place) × (place < length until)

    fork : AllGoOn opened.first body.forked
    fork = all_met t moves opened.first body.forked body.forks.only_meet

    deal : AllGoOn body.forked body.between.first
    deal = children_dealt_go t moves (Tree t moves h depth) (go t moves h depth) node opened below after body

    -- what the first lane sees meanwhile was made by lanes while the concurrent children ran, or beside the container
    known : (place : ℕ) → Between place → IsMadeIn h place body.forked body.between.first ⊎ IsMadeBeside t h node place
    known place seen =
        let within_between = came_from h body.between.first body.joined join within in
        let within_forked = came_from h body.forked body.between.first deal within_between in
        elim (alone.each place (record { since = seen.0; until = seen.1 })) [
          | inr other ↦ inr other
          | inl made ↦ elim (all_made_then h opened.first body.forked body.joined place fork made) [
            | inl met ↦ absurd (all_met_made h t.store opened.first body.forked place body.forks.only_meet within_forked met)
            | inr more ↦ elim (all_made_then h body.forked body.between.first body.joined place deal more) [
              | inl acted ↦ inl acted
              | inr met ↦ absurd (all_met_made h t.store body.between.first body.joined place body.joins.only_meet within met)
            ]
          ]
        ]

    -- all that the first lane has seen when the concurrent children have ended
    until_in : IsPrefix until h
    until_in = first_within h body.joined within

    lasts : IsPrefix since until
    lasts = prefix_trans since (first_seen body.forked) until (heads_go opened.first body.forked fork)
        (prefix_trans (first_seen body.forked) (first_seen body.between.first) until (heads_go body.forked body.between.first deal) (heads_go body.between.first body.joined join))

    job_changes : (i : ℕ) (s : Lanes V) (ran : List Ran) (u : Lanes V) → Job i s ran u → (place cell : ℕ) (event : Event ℕ) → IsMadeIn h place s.first u.first → slice_get h place ≡ Some event → place_of event.act ≡ Some cell
        → IsBelow t changed (child i) cell
    job_changes i s ran u r place cell event made there is = runs_change_only t changed moves tree keeps h depth (child i) s ran u r.1.0.run r.1.0.within place cell event made there is

    rest : (cell : ℕ) → IsLeftTo t changed node cell → ((c : ℕ) → Contains cs c → IsBelow t changed c cell → ⊥) → events_at cell until ≡ events_at cell since
    rest cell left none = same_there h since until cell lasts until_in (λ place event low high there is. elim (known place (low, high)) [
      | inr other ↦ not_beside node place cell event other there is left
      | inl made ↦
          let by = by_dealt h Job job_goes (length cs) workers (with_lanes body.forked opened) body.between body.beside place dealt made in
          none (child by.0) (Contains-get_or cs by.0 0 by.1.run.0) (job_changes by.0 by.1.before by.1.outcome by.1.after by.1.run place cell event by.1.made there is)
    ])

    -- ---- one concurrent child

    abbrev Apart : ℕ → Lanes V → List Ran → Lanes V → Type 0
    Apart i s ran u = OrOther h Job job_goes Between (IsMadeBeside t h node) i s ran u

    module _ (i : ℕ) (s : Lanes V) (ran : List Ran) (u : Lanes V) (apart : Apart i s ran u) where
      -- an event on a cell that is left to the container and to this child was made in this run
      its_own : (place cell : ℕ) (event : Event ℕ) → Between place → slice_get h place ≡ Some event → place_of event.act ≡ Some cell → IsLeftTo t changed node cell → IsLeftAmong t changed node (child i) cell
          → IsMadeIn h place s.first u.first
      its_own place cell event seen there is left among = elim (apart.1 place seen) [
        | inl made ↦ made
        | inr (inl other) ↦ absurd (not_beside node place cell event other there is left)
        | inr (inr by) ↦
            let job : ℕ = by.0 in
            let run = by.2.run in
            absurd (among.left (child job) (Contains-get_or cs job 0 run.0) (λ same. children_differ t tree node path path_is i job apart.0.0 run.0 by.1 (sym same))
            (job_changes job by.2.before by.2.outcome by.2.after run place cell event by.2.made there is))
      ]

      acts : Acts h s.first u.first
      acts = at t moves h depth (child i) s ran u apart.0.1.0.run apart.0.1.0.within

      begun : IsPrefix since (first_seen s.first)
      begun = let lanes = some_lanes t depth (child i) s ran u apart.0.1.0.run in first_has_seen since s.first lanes.0 lanes.1 lanes.2 apart.0.1.1.begins

      ended : IsPrefix (first_seen u.first) until
      ended = first_within until u.first apart.0.1.1.ends

      begun_in : IsPrefix (first_seen s.first) until
      begun_in = prefix_trans (first_seen s.first) (first_seen u.first) until (heads_go s.first u.first acts.goes) ended

      in_body : RunsInBody t changed h depth node opened.first body.joined (child i) s ran u
      in_body =
          let long = shorter since (first_seen s.first) begun in
          let on = shorter (first_seen s.first) (first_seen u.first) (heads_go s.first u.first acts.goes) in
          let short = shorter (first_seen s.first) until begun_in in
          record {
            run = apart.0.1.0;
            begins = λ cell left among. same_there h since (first_seen s.first) cell begun (prefix_trans (first_seen s.first) until h begun_in until_in) (λ place event low high there is.
                let made = its_own place cell event (low, omega (arith, high, short)) there is left among in
                let late = (acts.seen place made).0 in
                omega (arith, late, high));
            ends = λ cell left among. same_there h (first_seen u.first) until cell ended until_in (λ place event low high there is.
                let made = its_own place cell event (omega (arith, long, on, low), high) there is left among in
                let early = (acts.seen place made).1 in
                omega (arith, early, low));
            lanes = apart.0.1.2;
          }

    each : (i : ℕ) → i < length cs → (s : Lanes V) × (ran : List Ran) × (u : Lanes V) × (slice_get body.beside i ≡ Some ran) × RunsInBody t changed h depth node opened.first body.joined (child i) s ran u
    each i less =
        let apart = dealt_apart h Job job_goes Between (IsMadeBeside t h node) (length cs) workers (with_lanes body.forked opened) body.between body.beside known dealt in
        let one : HasOutcome Apart body.beside i = run-outcome Apart body.beside (length cs) workers (with_lanes body.forked opened) body.between apart i less in
        (one.before, one.outcome, one.after, one.stands, in_body i one.before one.outcome one.after one.run)
