-- The runs of the concurrent children of a container, one of each: what the container's lanes make meanwhile, one of these runs made, and no other.
use Rattle.std.proofs.Common.{◌≡◌, inl, inr, ℕ, ◌<◌, min, List, [], ◌∷◌, length, map, ap, refl, subst}
use Rattle.std.specs.Prelude.{All, Some, slice_get, slice_index_or}
use mathlib.Core.List.{IsPrefix}
use base.Growing.{prefix_trans}
use Rattle.std.proofs.lemmas.List.Elements.{All-cons, All-drop, All-head, All-nil, All-tail, All-take, All-weaker}
use Rattle.ext_history.specs.Histories.{seen_by}
use Rattle.ext_model.specs.History.{History}
use Rattle.ext_store.specs.Stores.{StoreLane}
use Rattle.ext_crew.specs.Dealing.{RunByDealing, Share}
use Rattle.ext_crew.proofs.Runs.{run-map, run-weaker}
use Rattle.ext_engine.specs.Meeting.{HasSeenWithin, first_seen}
use Rattle.ext_engine.specs.Order.{AllGoOn, CallsGoOn, ChildRun, IsMadeIn, IsWithin, LaneGoesOn}
use Rattle.ext_engine.specs.TreeRun.{BodyRun, Lanes, Ran, TreeSetting, concurrent_children, with_lanes}
use Rattle.ext_engine.proofs.Acts.{Acts, all_made_then, all_met_made, heads_go}
use Rattle.ext_engine.proofs.Going.{all_met, children_dealt_go}
use Rattle.ext_engine.proofs.Order.{came_from, children_within, run-inside}
use Rattle.ext_one_report.proofs.Bodies.{first_has_seen, some_lanes}
use Rattle.ext_one_report.proofs.Containers.{Tree, at, go}
use Rattle.ext_one_report.proofs.LanesApart.{AreApart, apart_before, apart_left, apart_taken, made_first, made_later}
use Rattle.ext_one_report.proofs.Parts.{first_within}
use Rattle.ext_one_report.proofs.SharedNodesDealt.{AreRuns, dealt_runs}

-- ---- dealings

map_same : {X : Type 0} (xs : List X) → map (λ x. x) xs ≡ xs
map_same [] = refl
map_same (x ∷ xs) = ap (λ l. x ∷ l) (map_same xs)

-- what each job gives stands at its place
standing : {A B O : Type 0} (runs : ℕ → Share A B → O → Share A B → Type 0) (jobs workers : ℕ) (s t : Share A B) (outcomes : List O) → RunByDealing runs jobs workers s outcomes t
    → RunByDealing (λ job u o v. (slice_get outcomes job ≡ Some o) × runs job u o v) jobs workers s outcomes t
standing {A} {B} {O} runs jobs workers s t outcomes run =
    let runs' : ℕ → Share A B → O → Share A B → Type 0 = λ job u o v. (slice_get outcomes job ≡ Some o) × runs job u o v in
    let R : List O → Type 0 = λ l. RunByDealing runs' jobs workers s l t in
    subst R (map_same outcomes) (run-map (λ o. o) runs runs' outcomes (λ job u o v there r. (there, r)) jobs workers s t run)

-- ---- lanes

module _ {V : Type 0} (L : StoreLane V → Type 0) (earlier : (a b : StoreLane V) → LaneGoesOn a b → L b → L a) where
  all_earlier : (xs ys : List (StoreLane V)) → AllGoOn xs ys → All L ys → All L xs
  all_earlier [] [] went all = All-nil L
  all_earlier [] (b ∷ ys) went all = absurd went
  all_earlier (a ∷ xs) [] went all = absurd went
  all_earlier (a ∷ xs) (b ∷ ys) went all = All-cons L a xs (earlier a b went.0 (All-head L b ys all)) (all_earlier xs ys went.1 (All-tail L b ys all))

-- ---- bodies

-- `L` is so of the lanes in the end, and so of each before; no two of them have one number
module _ {V A : Type 0} (t : TreeSetting V A) (moves : CallsGoOn t.call_gives) (h : History) (depth node : ℕ) (opened : Lanes V) (below : List Ran) (after : Lanes V)
    (body : BodyRun t (ChildRun t depth) node opened below after) (within : All (HasSeenWithin h) body.joined)
    (L : StoreLane V → Type 0) (earlier : (a b : StoreLane V) → LaneGoesOn a b → L b → L a) (known : All L body.joined) (differ : AreApart body.joined) where
  abbrev pub cs : List ℕ
  cs = concurrent_children t node

  abbrev pub child : ℕ → ℕ
  child i = slice_index_or cs i 0

  abbrev pub since : History
  since = first_seen opened.first

  abbrev pub until : History
  until = first_seen body.joined

  -- the run of a child, whose results stand at its place
  pub record Job (i : ℕ) (s : Lanes V) (ran : List Ran) (u : Lanes V) : Type 0 where
    pub stands : slice_get body.beside i ≡ Some ran
    pub run : ChildRun t depth (child i) s ran u
    pub inside : IsWithin since until s u
    pub lanes : All L u.first
    pub apart : AreApart u.first

  abbrev Known : ℕ → Lanes V → List Ran → Lanes V → Type 0
  Known i s ran u = (slice_get body.beside i ≡ Some ran) × (ChildRun t depth (child i) s ran u × IsWithin since until s u)

  join : AllGoOn body.between.first body.joined
  join = all_met t moves body.between.first body.joined body.joins.only_meet

  fork : AllGoOn opened.first body.forked
  fork = all_met t moves opened.first body.forked body.forks.only_meet

  deal : AllGoOn body.forked body.between.first
  deal = children_dealt_go t moves (Tree t moves h depth) (go t moves h depth) node opened below after body

  dealt : RunByDealing Job (length cs) (min (length body.forked) (length cs)) (with_lanes body.forked opened) body.beside body.between
  dealt =
      let workers = min (length body.forked) (length cs) in
      let forked = with_lanes body.forked opened in
      let each = standing _ (length cs) workers forked body.between body.beside (children_within t (ChildRun t depth) (go t moves h depth) node opened below after body) in
      let Ls : Lanes V → Type 0 = λ s. All L s.first × AreApart s.first in
      let all = run-inside Known (λ s. Unit {0}) Ls (λ i s ran u r k. tt)
      (λ i s ran u r l. let going = go t moves h depth (child i) s ran u r.1.0 in (all_earlier L earlier s.first u.first going l.0, apart_before s.first u.first going l.1)) (λ n s k. (tt, tt))
      (λ n s l. ((All-take L n s.first l.0, apart_taken n s.first l.1), (All-drop L n s.first l.0, apart_left n s.first l.1)))
      (length cs) workers forked body.between body.beside tt (all_earlier L earlier body.between.first body.joined join known, apart_before body.between.first body.joined join differ) each in
      run-weaker _ Job all (λ i s ran u r. record { stands = r.0.0; run = r.0.1.0; inside = r.0.1.1; lanes = r.2.0; apart = r.2.1 })

  pub until_in : IsPrefix until h
  until_in = first_within h body.joined within

  ends_in_h : (i : ℕ) (s : Lanes V) (ran : List Ran) (u : Lanes V) → Job i s ran u → All (HasSeenWithin h) u.first
  ends_in_h i s ran u r = All-weaker (HasSeenWithin until) (HasSeenWithin h) (λ lane l. prefix_trans (seen_by lane.cells.view) until h l until_in) u.first r.inside.ends

  pub acting : (i : ℕ) (s : Lanes V) (ran : List Ran) (u : Lanes V) → Job i s ran u → Acts h s.first u.first
  acting i s ran u r = at t moves h depth (child i) s ran u r.run (ends_in_h i s ran u r)

  pub runs : AreRuns h Job acting [] (length cs) (with_lanes body.forked opened) body.between
  runs =
      dealt_runs h Job acting [] (length cs) (min (length body.forked) (length cs)) (with_lanes body.forked opened) body.between body.beside
      (apart_before body.forked body.between.first deal (apart_before body.between.first body.joined join differ)) dealt

  abbrev pub at_start : ℕ → Lanes V
  at_start i = (runs.run_of i).before

  abbrev pub at_end : ℕ → Lanes V
  at_end i = (runs.run_of i).after

  abbrev pub ran_of : ℕ → List Ran
  ran_of i = (runs.run_of i).outcome

  -- what the container's lanes make meanwhile, one of these runs made
  pub made_by : (place : ℕ) → IsMadeIn h place opened.first body.joined → (i : ℕ) × (i < length cs) × IsMadeIn h place (at_start i).first (at_end i).first
  made_by place made =
      let within_between = came_from h body.between.first body.joined join within in
      let within_forked = came_from h body.forked body.between.first deal within_between in
      elim (all_made_then h opened.first body.forked body.joined place fork made) [
        | inl met ↦ absurd (all_met_made h t.store opened.first body.forked place body.forks.only_meet within_forked met)
        | inr more ↦ elim (all_made_then h body.forked body.between.first body.joined place deal more) [
          | inl acted ↦ runs.made place acted
          | inr met ↦ absurd (all_met_made h t.store body.between.first body.joined place body.joins.only_meet within met)
        ]
      ]

  -- and what one of them made, the container's lanes made meanwhile
  pub made_in : (i place : ℕ) → i < length cs → IsMadeIn h place (at_start i).first (at_end i).first → IsMadeIn h place opened.first body.joined
  made_in i place less made =
      made_later h opened.first body.forked body.joined place fork (made_first h body.forked body.between.first body.joined place join (runs.from i place less made))

  -- no event is made by two of them
  pub one_maker : (i j place : ℕ) → i < length cs → j < length cs → IsMadeIn h place (at_start i).first (at_end i).first → IsMadeIn h place (at_start j).first (at_end j).first → i ≡ j
  one_maker i j place less below made also = runs.one i j place less below made also

  pub lasts : IsPrefix since until
  lasts = prefix_trans since (first_seen body.forked) until (heads_go opened.first body.forked fork)
      (prefix_trans (first_seen body.forked) (first_seen body.between.first) until (heads_go body.forked body.between.first deal) (heads_go body.between.first body.joined join))

  module _ (i : ℕ) (less : i < length cs) where
    pub job : Job i (at_start i) (ran_of i) (at_end i)
    job = runs.is_run i less

    pub ends_within : All (HasSeenWithin h) (at_end i).first
    ends_within = ends_in_h i (at_start i) (ran_of i) (at_end i) job

    pub acts : Acts h (at_start i).first (at_end i).first
    acts = acting i (at_start i) (ran_of i) (at_end i) job

    pub begun : IsPrefix since (first_seen (at_start i).first)
    begun = let lanes = some_lanes t depth (child i) (at_start i) (ran_of i) (at_end i) job.run in first_has_seen since (at_start i).first lanes.0 lanes.1 lanes.2 job.inside.begins

    pub over : IsPrefix (first_seen (at_start i).first) (first_seen (at_end i).first)
    over = heads_go (at_start i).first (at_end i).first acts.goes

    pub ended : IsPrefix (first_seen (at_end i).first) until
    ended = first_within until (at_end i).first job.inside.ends
