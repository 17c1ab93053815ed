-- How runs end early, from how their parts end; and what follows of why they do.
use Rattle.std.proofs.Common.{◌≡◌, ◌≢◌, ◌⊎◌, inl, inr, ℕ, zero, suc, ◌+◌, ◌-◌, ◌<◌, ◌≤◌, Bool, true, false, cond, List, [], ◌++◌, ◌∷◌, length, length-append, map, min, take, drop, get_or, refl, sym, ap, ◌∙◌, subst, arith}
use Rattle.std.specs.Prelude.{All, Some, filter, Result, Ok, Err, Vec, IfOk, IfErr, IsErr, IsErrAnd, IsOk, slice_get, slice_index_or}
use Rattle.std.specs.declared.alloc.Global.{Global}
use Rattle.std.proofs.lemmas.List.{map-append}
use Rattle.std.proofs.lemmas.List.Elements.{All-head, All-tail}
use Rattle.ext_history.proofs.Lists.{bools}
use Rattle.ext_lifecycle.specs.declared.outcome.Outcome.{Outcome}
use Rattle.ext_lifecycle.specs.Endings.{all_successful}
use Rattle.ext_lifecycle.specs.Lifecycle.{endings_of}
use Rattle.ext_locks.specs.Views.{Lane}
use Rattle.ext_tree.specs.Trees.{IsPathOf, children_of}
use Rattle.ext_store.specs.Stores.{StoreLane}
use Rattle.ext_closing.specs.Lanes.{IsUnknown}
use Rattle.ext_crew.specs.Dealing.{RunByDealing}
use Rattle.ext_crew.proofs.Runs.{run-map}
use Rattle.ext_crew.proofs.RunLaws.{run-outcome}
use Rattle.ext_engine.specs.declared.node.fault.EngineFault.{EngineFault}
use Rattle.ext_engine.specs.declared.node.fault.EngineFault.TheVariants as faults
use Rattle.ext_engine.specs.declared.node.closers.Item.{Item}
use Rattle.ext_engine.specs.declared.node.results.RanNode.{RanNode}
use Rattle.ext_engine.specs.InnerResults.{ran_view, answer_of}
use Rattle.ext_engine.specs.Failing.{BodyEndsEarly, ContainerEndsEarly, EndsAs, EndsEarly, EndsInTurn, IsFirstRefusal, IsNotBegun, LeavesOpen, TestEndsEarly}
use Rattle.ext_engine.specs.Meeting.{Forks, Joins}
use Rattle.ext_engine.specs.TreeRun.{Ran, TreeSetting, Lanes, TreeRun, BodyMade, CallsBefores, EndsContainer, IsFault, IsRefusedClose, RanInTurn, concurrent_children, same_thread_children, with_lanes}
use Rattle.ext_engine.proofs.Between.{split_at}
use Rattle.ext_engine.proofs.Refusals.{left_unjoined}
use Rattle.ext_engine.proofs.Trees.{beside-of, tree-of-container}

-- ---- answers

-- a fault that was handed on: there is no value, and what holds of the fault holds of the answer's
pub no_value : {X : Type 0} (Q : X → Type 0) (result : Result X EngineFault) (why : EngineFault) → IsErr result × IsErrAnd result (λ e. e ≡ why) → IfOk result Q
no_value Q (Ok x) why handed = absurd handed.1
no_value Q (Err e) why handed = tt

pub the_fault : {X : Type 0} (P : EngineFault → Type 0) (result : Result X EngineFault) (why : EngineFault) → IsErr result × IsErrAnd result (λ e. e ≡ why) → P why → IfErr result P
the_fault P (Ok x) why handed holds = tt
the_fault P (Err e) why handed holds = subst P (sym handed.1) holds

pub if_err : {X : Type 0} {P Q : EngineFault → Type 0} (result : Result X EngineFault) → ((why : EngineFault) → P why → Q why) → IfErr result P → IfErr result Q
if_err (Ok x) more holds = holds
if_err (Err why) more holds = more why holds

-- the same share, with these lanes of the locks
abbrev pub with_lock_lanes : {V : Type 0} → List Lane → Lanes V → Lanes V
with_lock_lanes lanes s = record { first = s.first; second = lanes }

-- ---- the first refusal

-- outcomes of which none is a refusal
all_ran : {X : Type 0} (outcomes : List (Result X EngineFault)) → All (λ r. IsOk r) outcomes → (before : List X) × (outcomes ≡ map (λ x. Ok x) before)
all_ran [] all = ([], refl)
all_ran (Ok x ∷ rest) all = let r = all_ran rest (All-tail (λ r. IsOk r) (Ok x) rest all) in (x ∷ r.0, ap (λ l. Ok x ∷ l) r.1)
all_ran (Err e ∷ rest) all = let wrong : false ≡ true = All-head (λ r. IsOk r) (Err e) rest all in cc

pub first_at : {X : Type 0} (outcomes : List (Result X EngineFault)) (i : ℕ) (why : EngineFault) → All (λ r. IsOk r) (take i outcomes) → i < length outcomes → Err why ≡ get_or outcomes i (Err why)
    → IsFirstRefusal outcomes why
first_at outcomes i why all less is =
    let b = all_ran (take i outcomes) all in
    record {
      before = b.0;
      rest = drop (i + 1) outcomes;
      outcomes_are = split_at outcomes i (Err why) less is ∙ ap (λ l. l ++ Err why ∷ drop (i + 1) outcomes) b.1;
    }

views_ran : (xs : List (Vec RanNode Global)) → map answer_of (map (λ x. Ok x) xs) ≡ map (λ x. Ok x) (map (λ v. map ran_view v.items) xs)
views_ran [] = refl
views_ran (x ∷ xs) = ap (λ l. Ok (map ran_view x.items) ∷ l) (views_ran xs)

-- the first refusal of answers is that of what they say of nodes
first_told : (outcomes : List (Result (Vec RanNode Global) EngineFault)) (why : EngineFault) → IsFirstRefusal outcomes why → IsFirstRefusal (map answer_of outcomes) why
first_told outcomes why first = record {
  before = map (λ v. map ran_view v.items) first.before;
  rest = map answer_of first.rest;
  outcomes_are = ap (map answer_of) first.outcomes_are ∙ (map-append answer_of (map (λ x. Ok x) first.before) (Err why ∷ first.rest) ∙ ap (λ l. l ++ Err why ∷ map answer_of first.rest) (views_ran first.before));
}

at_mid : {X : Type 0} (front : List X) (x : X) (rest : List X) → slice_get (front ++ x ∷ rest) (length front) ≡ Some x
at_mid [] x rest = refl
at_mid (y ∷ ys) x rest = at_mid ys x rest

-- where it stands
stands_at : {X : Type 0} (outcomes : List (Result X EngineFault)) (why : EngineFault) → IsFirstRefusal outcomes why → (at : ℕ) × (at < length outcomes) × (slice_get outcomes at ≡ Some (Err why))
stands_at {X} outcomes why first =
    let front : List (Result X EngineFault) = map (λ x. Ok x) first.before in
    let a = ap length first.outcomes_are in let b = length-append front (Err why ∷ first.rest) in
    (length front, omega (arith, a, b), ap (λ l. slice_get l (length front)) first.outcomes_are ∙ at_mid front (Err why) first.rest)

-- ---- children

module _ {V : Type 0} (Child : ℕ → Lanes V → List Ran → Lanes V → Type 0) (Early : ℕ → Lanes V → EngineFault → Lanes V → Type 0) where
  -- what is said of an answer, where it is no refusal
  pub ends_ok : (node : ℕ) (s : Lanes V) (r : Result (Vec RanNode Global) EngineFault) (u : Lanes V) → EndsAs Child Early node s (answer_of r) u → IfOk r (λ v. Child node s (map ran_view v.items) u)
  ends_ok node s (Ok v) u ends = ends
  ends_ok node s (Err why) u ends = tt

  pub ends_as : (node : ℕ) (s : Lanes V) (r : Result (Vec RanNode Global) EngineFault) (u : Lanes V) → IfOk r (λ v. Child node s (map ran_view v.items) u) × IfErr r (λ why. Early node s why u)
      → EndsAs Child Early node s (answer_of r) u
  ends_as node s (Ok v) u says = says.0
  ends_as node s (Err why) u says = says.1

  -- one of several children that run one after another
  pub turn_early : (done rest items : List Item) (item : Item) (before reached after : Lanes V) (ran : List Ran) (why : EngineFault) → done ++ item ∷ rest ≡ items
      → RanInTurn Child (map (λ i. i.node) done) before ran reached → Early item.node reached why after → EndsInTurn Child Early (map (λ i. i.node) items) before why after
  turn_early done rest items item before reached after ran why is run early = record {
    done = map (λ i. i.node) done;
    ran = ran;
    reached = reached;
    in_turn = run;
    child = item.node;
    ends = early;
    rest = map (λ i. i.node) rest;
    nodes_are = ap (map (λ i. i.node)) (sym is) ∙ map-append (λ i. i.node) done (item ∷ rest);
  }

  module _ {A : Type 0} (t : TreeSetting V A) (node : ℕ) (before : Lanes V) (forked : List (StoreLane V)) (forks : Forks t.store before.first forked) where
    pub body_unmanned : (items : List Item) (why : EngineFault) (after : Lanes V) → map (λ i. i.node) items ≡ concurrent_children t node
        → (items ≢ []) × (why ≡ faults.Memory) × (after ≡ with_lanes forked before) → BodyEndsEarly t Child Early node before why after
    body_unmanned [] why after same refused = absurd (refused.0 refl)
    body_unmanned (item ∷ items) why after same refused = record {
      forked = forked;
      forks = forks;
      ends = inl (record { some_beside = λ none. (let e = ap length (same ∙ none) in absurd (omega (arith, e))); told = refused.1; untouched = refused.2 });
    }

    module _ (nodes : List ℕ) (between : Lanes V) (outcomes : List (Result (Vec RanNode Global) EngineFault)) (count : ℕ) (size : length nodes ≡ count) (same : nodes ≡ concurrent_children t node)
        (run : RunByDealing (λ i s r u. EndsAs Child Early (slice_index_or nodes i 0) s (answer_of r) u) count (min (length forked) count) (with_lanes forked before) outcomes between) where
      pub body_beside : (why : EngineFault) → IsFirstRefusal outcomes why → BodyEndsEarly t Child Early node before why between
      body_beside why first =
          let R : ℕ → Lanes V → Result (Vec RanNode Global) EngineFault → Lanes V → Type 0 = λ i s r u. EndsAs Child Early (slice_index_or nodes i 0) s (answer_of r) u in
          let S : ℕ → Lanes V → Result (List Ran) EngineFault → Lanes V → Type 0 = λ i s o u. EndsAs Child Early (slice_index_or nodes i 0) s o u in
          let told = run-map answer_of R S outcomes (λ job s r u at h. h) count (min (length forked) count) (with_lanes forked before) between run in
          let C : ℕ → Type 0 = λ n. RunByDealing S n (min (length forked) n) (with_lanes forked before) (map answer_of outcomes) between in
          let D : List ℕ → Type 0 = λ l. RunByDealing (λ i s o u. EndsAs Child Early (slice_index_or l i 0) s o u) (length l) (min (length forked) (length l)) (with_lanes forked before) (map answer_of outcomes) between in
          record {
            forked = forked;
            forks = forks;
            ends = inr (inl (record { outcomes = map answer_of outcomes; dealt = subst D same (subst C (sym size) told); told = first_told outcomes why first }));
          }

      pub body_behind : (others : List ℕ) (joined : List (StoreLane V)) (why : EngineFault) (after : Lanes V) → Joins t.store between.first joined → others ≡ same_thread_children t node
          → All (λ r. IsOk r) outcomes → EndsInTurn Child Early others (with_lanes joined between) why after → BodyEndsEarly t Child Early node before why after
      body_behind others joined why after joins alone all turn =
          let T : List ℕ → Type 0 = λ l. EndsInTurn Child Early l (with_lanes joined between) why after in
          let b = beside-of Child (λ i s r u. EndsAs Child Early (slice_index_or nodes i 0) s (answer_of r) u) nodes (concurrent_children t node) (with_lanes forked before) between outcomes count
          (λ job s r u h. ends_ok (slice_index_or nodes job 0) s r u h) size same run all in
          record { forked = forked; forks = forks; ends = inr (inr (record { beside = b.0; between = between; dealt = b.1; joined = joined; joins = joins; in_turn = subst T alone turn })) }

-- ---- nodes

module _ {V A : Type 0} (t : TreeSetting V A) where
  pub not_begun : (depth node : ℕ) (s : Lanes V) (why : EngineFault) (u : Lanes V) → IsNotBegun s why u → EndsEarly t depth node s why u
  not_begun zero node s why u none = none
  not_begun (suc depth) node s why u none = inl none

  pub test_early : (depth node : ℕ) (s : Lanes V) (why : EngineFault) (u : Lanes V) → 1 ≤ depth → t.suite.is_test node ≡ true
      → IsNotBegun s why u ⊎ ((path : List ℕ) × IsPathOf t.store.tree node path × TestEndsEarly t node path s why u) → EndsEarly t depth node s why u
  test_early zero node s why u some test early = absurd (omega (arith, some))
  test_early (suc depth) node s why u some test early = elim early [
    | inl none ↦ inl none
    | inr run ↦ inr (run.0, run.1, (λ _. run.2), (λ bad. absurd (let e : true ≡ false = sym test ∙ bad in cc)))
  ]

  pub container_early : (depth node : ℕ) (s : Lanes V) (why : EngineFault) (u : Lanes V) → 1 ≤ depth → t.suite.is_test node ≡ false
      → (path : List ℕ) × IsPathOf t.store.tree node path × ContainerEndsEarly t (TreeRun t (depth - 1)) (EndsEarly t (depth - 1)) node path s why u → EndsEarly t depth node s why u
  container_early zero node s why u some container early = absurd (omega (arith, some))
  container_early (suc depth) node s why u some container early =
      let e : suc depth - 1 ≡ depth = omega arith in
      let P : ℕ → Type 0 = λ n. ContainerEndsEarly t (TreeRun t n) (EndsEarly t n) node early.0 s why u in
      inr (early.0, early.1, (λ good. absurd (let f : true ≡ false = sym good ∙ container in cc)), (λ _. subst P e early.2))

  -- a container that came to its end
  pub container_ran : (depth node : ℕ) (s : Lanes V) (opened : List (StoreLane V)) (body after : Lanes V) (own : Ran) (below : List Ran) (path : List ℕ) (befores : List Outcome) (went_on : Bool) → 1 ≤ depth → t.suite.is_test node ≡ false → t.enabled_gives node true
      → IsPathOf t.store.tree node path → CallsBefores t node path s.first befores opened → went_on ≡ all_successful (endings_of befores) → BodyMade t (TreeRun t (depth - 1)) went_on node (with_lanes opened s) below body
      → EndsContainer t node path befores body.first own after.first → after.second ≡ body.second → TreeRun t depth node s (own ∷ below) after
  container_ran depth node s opened body after own below path befores went_on some container enabled is made on bodied ends locks =
      tree-of-container t depth node s (own ∷ below) after some container enabled (
        path,
        is,
        record {
          befores = befores;
          opened = opened;
          befores_made = made;
          body = body;
          below = below;
          body_made = subst (λ go. BodyMade t (TreeRun t (depth - 1)) go node (with_lanes opened s) below body) on bodied;
          own = own;
          ends = ends;
          no_locks = locks;
          ran_are = refl;
        },
      )

  -- ---- why

  by_memory : (why : EngineFault) → why ≡ faults.Memory → IsFault t why
  by_memory why is = subst (λ w. IsFault t w) (sym is) tt

  refused_close_of : (node : ℕ) (before : List (StoreLane V)) (why : EngineFault) (after : List (StoreLane V)) (left : LeavesOpen t node before why after) → IsRefusedClose t node left.number after
  refused_close_of node before why after left = record {
    closer = left.closer;
    closer_is = left.closer_is;
    context_is = left.context_is;
    action = left.action;
    action_is = left.action_is;
    before = left.left_open.asked;
    own_lanes = left.left_open.own_lanes;
    refused = left_unjoined t.is_closeable t.close_gives t.store left.closer left.action left.left_open.asked left.number after left.left_open.unjoined;
  }

  by_close : (node : ℕ) (before : List (StoreLane V)) (why : EngineFault) (after : List (StoreLane V)) → LeavesOpen t node before why after → IsFault t why
  by_close node before why after left = subst (λ w. IsFault t w) (sym left.told) (after, refused_close_of node before why after left)

  pub ends_by_fault : (depth node : ℕ) (before : Lanes V) (why : EngineFault) (after : Lanes V) → EndsEarly t depth node before why after → IsFault t why
  ends_by_fault zero node before why after none = by_memory why none.told
  ends_by_fault (suc depth) node before why after early = elim early [
    | inl none ↦ by_memory why none.told
    | inr run ↦ elim (bools (t.suite.is_test node)) [
      | inl test ↦ let one = run.2 test in by_close node one.called why after.first one.left_open
      | inr container ↦ let one = run.3 container in elim one.ends [
        | inr unclosed ↦ by_close node unclosed.unclosed.called why after.first unclosed.unclosed.left_open
        | inl body ↦ elim body.1.ends [
          | inl none ↦ by_memory why none.told
          | inr some ↦ elim some [
            | inr behind ↦ ends_by_fault depth behind.in_turn.child behind.in_turn.reached why after behind.in_turn.ends
            | inl beside ↦
                let nodes = concurrent_children t node in
                let at = stands_at beside.outcomes why beside.told in
                let R : ℕ → Lanes V → Result (List Ran) EngineFault → Lanes V → Type 0 = λ i s o u. EndsAs (λ child s below u. TreeRun t depth child s below u) (λ child s y u. EndsEarly t depth child s y u) (slice_index_or nodes i 0) s o u in
                let count = beside.dealt.outcome_count in
                let less = at.1 in
                let h = run-outcome R beside.outcomes (length nodes) (min (length body.1.forked) (length nodes)) (with_lanes body.1.forked (with_lanes one.opened before)) after beside.dealt at.0 (omega (arith, count, less)) in
                let is : h.outcome ≡ Err why = (let e = sym at.2 ∙ h.stands in cc) in
                ends_by_fault depth (slice_index_or nodes at.0 0) h.before why h.after (subst (λ o. R at.0 h.before o h.after) is h.run)
          ]
        ]
      ]
    ]
  ]

  -- ---- where no node runs beside others

  none_beside : (p : ℕ → Bool) (xs : List ℕ) → ((x : ℕ) → p x ≡ false) → filter p xs ≡ []
  none_beside p [] off = refl
  none_beside p (x ∷ xs) off = ap (λ b. cond b (x ∷ filter p xs) (filter p xs)) (off x) ∙ none_beside p xs off

  -- the context and the number that a fault tells
  abbrev context_in : EngineFault → ℕ
  context_in faults.Memory = 0
  context_in faults.NoThread = 0
  context_in (faults.Unjoined context number) = context

  abbrev number_in : EngineFault → ℕ
  number_in faults.Memory = 0
  number_in faults.NoThread = 0
  number_in (faults.Unjoined context number) = number

  named_close : (node : ℕ) (before : List (StoreLane V)) (context number : ℕ) (after : List (StoreLane V)) → LeavesOpen t node before (faults.Unjoined context number) after
      → IsRefusedClose t context number after × IsUnknown after number
  named_close node before context number after left =
      let c = ap context_in left.told in let n = ap number_in left.told in
      let P : ℕ → ℕ → Type 0 = λ x y. IsRefusedClose t x y after × IsUnknown after y in
      subst (λ x. P x number) (sym c) (subst (λ y. P node y) (sym n) (refused_close_of node before (faults.Unjoined context number) after left, left.left_open.unjoined.unjoined.unknown))

  no_memory : (context number : ℕ) → faults.Unjoined context number ≡ faults.Memory → ⊥
  no_memory context number is = cc

  none_refused : (runs : ℕ → Lanes V → Result (List Ran) EngineFault → Lanes V → Type 0) (nodes : List ℕ) (workers : ℕ) (s u : Lanes V) (outcomes : List (Result (List Ran) EngineFault)) (why : EngineFault) → nodes ≡ []
      → RunByDealing runs (length nodes) workers s outcomes u → IsFirstRefusal outcomes why → ⊥
  none_refused runs nodes workers s u outcomes why none run first =
      let at = (stands_at outcomes why first).1 in let count = run.outcome_count in let empty = ap length none in absurd (omega (arith, at, count, empty))

  -- so of each container whose children are such
  module _ (depth : ℕ) (context number : ℕ) (after : Lanes V) (off : (x : ℕ) → t.suite.is_concurrent x ≡ false)
      (below : (child : ℕ) (before : Lanes V) → EndsEarly t depth child before (faults.Unjoined context number) after → IsRefusedClose t context number after.first × IsUnknown after.first number) where
    unknown_in_body : (node : ℕ) (before : Lanes V) → BodyEndsEarly t (λ child s ran u. TreeRun t depth child s ran u) (λ child s y u. EndsEarly t depth child s y u) node before (faults.Unjoined context number) after
        → IsRefusedClose t context number after.first × IsUnknown after.first number
    unknown_in_body node before body = elim body.ends [
      | inl none ↦ absurd (no_memory context number none.told)
      | inr some ↦ elim some [
        | inr behind ↦ below behind.in_turn.child behind.in_turn.reached behind.in_turn.ends
        | inl beside ↦
            let nodes = concurrent_children t node in
            let runs : ℕ → Lanes V → Result (List Ran) EngineFault → Lanes V → Type 0 = λ i s o u. EndsAs (λ child z ran w. TreeRun t depth child z ran w) (λ child z y w. EndsEarly t depth child z y w) (slice_index_or nodes i 0) s o u in
            absurd (none_refused runs nodes (min (length body.forked) (length nodes)) (with_lanes body.forked before) after beside.outcomes (faults.Unjoined context number)
            (none_beside t.suite.is_concurrent (children_of t.store.tree node) off) beside.dealt beside.told)
      ]
    ]

    unknown_in : (node : ℕ) (path : List ℕ) (before : Lanes V) → ContainerEndsEarly t (λ child s ran u. TreeRun t depth child s ran u) (λ child s y u. EndsEarly t depth child s y u) node path before (faults.Unjoined context number) after
        → IsRefusedClose t context number after.first × IsUnknown after.first number
    unknown_in node path before one = elim one.ends [
      | inl body ↦ unknown_in_body node (with_lanes one.opened before) body.1
      | inr unclosed ↦ named_close node unclosed.unclosed.called context number after.first unclosed.unclosed.left_open
    ]

  pub unknown_to_all : (depth node : ℕ) (before : Lanes V) (context number : ℕ) (after : Lanes V) → ((x : ℕ) → t.suite.is_concurrent x ≡ false) → EndsEarly t depth node before (faults.Unjoined context number) after
      → IsRefusedClose t context number after.first × IsUnknown after.first number
  unknown_to_all zero node before context number after off none = absurd (no_memory context number none.told)
  unknown_to_all (suc depth) node before context number after off early = elim early [
    | inl none ↦ absurd (no_memory context number none.told)
    | inr run ↦ elim (bools (t.suite.is_test node)) [
      | inl test ↦ named_close node (run.2 test).called context number after.first (run.2 test).left_open
      | inr container ↦ unknown_in depth context number after off (λ child s y. unknown_to_all depth child s context number after off y) node run.0 before (run.3 container)
    ]
  ]
