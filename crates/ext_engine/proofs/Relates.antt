-- A relation between a lane before and after that calls, meetings and seals keep holds for all lanes of a share between the beginning and the end of a run.
use Rattle.std.proofs.Common.{◌≡◌, inl, inr, ℕ, zero, suc, Bool, true, false, List, [], ◌∷◌, take, drop, ap, refl, sym, subst}
use Rattle.std.specs.Prelude.{Option, Some, None, slice_index_or}
use Rattle.std.specs.List.{AllZip, FoldsTo}
use Rattle.ext_history.proofs.Lists.{bools}
use Rattle.ext_lifecycle.specs.declared.call.Call.{Call}
use Rattle.ext_lifecycle.specs.declared.outcome.Outcome.{Outcome}
use Rattle.ext_lifecycle.specs.Endings.{all_successful, is_successful}
use Rattle.ext_lifecycle.specs.Lifecycle.{MakesAll, MakesBefores, MakesCalls, MakesIf, ending_of, endings_of}
use Rattle.ext_cells.specs.Lanes.{Lane}
use Rattle.ext_store.specs.Stores.{StoreLane}
use Rattle.ext_closing.specs.Lanes.{OnlyFirstSteps, first_lane}
use Rattle.ext_closing.specs.Sealing.{MakesSeals}
use Rattle.ext_locks.specs.Sets.{HeldView}
use Rattle.ext_crew.proofs.RunLaws.{run-relates}
use Rattle.ext_engine.specs.Meeting.{OnlyMeets}
use Rattle.ext_engine.specs.TreeRun.{Ran, TreeSetting, Lanes, TreeRun, TestRun, ContainerRun, BodyRun, BodyMade, OnFirst, MakesOn, concurrent_children, with_lanes}
use Rattle.ext_engine.proofs.Grown.{Entry}

-- ---- lanes

module _ {V : Type 0} (R : StoreLane V → StoreLane V → Type 0) (same : (a : StoreLane V) → R a a) (next : (a b c : StoreLane V) → R a b → R b c → R a c) where
  abbrev pub AllRelate : List (StoreLane V) → List (StoreLane V) → Type 0
  AllRelate before after = AllZip R before after

  pub all_relate_same : (lanes : List (StoreLane V)) → AllRelate lanes lanes
  all_relate_same [] = tt
  all_relate_same (a ∷ lanes) = (same a, all_relate_same lanes)

  pub all_relate_next : (xs ys zs : List (StoreLane V)) → AllRelate xs ys → AllRelate ys zs → AllRelate xs zs
  all_relate_next [] [] zs one two = two
  all_relate_next [] (b ∷ ys) zs one two = absurd one
  all_relate_next (a ∷ xs) [] zs one two = absurd one
  all_relate_next (a ∷ xs) (b ∷ ys) [] one two = absurd two
  all_relate_next (a ∷ xs) (b ∷ ys) (c ∷ zs) one two = (next a b c one.0 two.0, all_relate_next xs ys zs one.1 two.1)

  all_join : (n : ℕ) (xs ys : List (StoreLane V)) → AllRelate (take n xs) (take n ys) → AllRelate (drop n xs) (drop n ys) → AllRelate xs ys
  all_join zero [] [] one two = two
  all_join zero [] (b ∷ ys) one two = two
  all_join zero (a ∷ xs) [] one two = two
  all_join zero (a ∷ xs) (b ∷ ys) one two = two
  all_join (suc n) [] [] one two = tt
  all_join (suc n) [] (b ∷ ys) one two = absurd one
  all_join (suc n) (a ∷ xs) [] one two = absurd one
  all_join (suc n) (a ∷ xs) (b ∷ ys) one two = (one.0, all_join n xs ys one.1 two)

  pub first_relates : (Q : StoreLane V → StoreLane V → Type 0) (xs ys : List (StoreLane V)) → ((a b : StoreLane V) → Q a b → R a b) → OnFirst Q xs ys → AllRelate xs ys
  first_relates Q xs ys go on =
      let whole : AllRelate (on.lane ∷ on.rest) (on.left ∷ on.rest) = (go on.lane on.left on.change, all_relate_same on.rest) in
      subst (λ l. AllRelate l ys) (sym on.first_was) (subst (λ l. AllRelate (on.lane ∷ on.rest) l) (sym on.first_is) whole)

-- ---- the run of a tree

module _ {V A : Type 0} (t : TreeSetting V A)
    (R : StoreLane V → StoreLane V → Type 0) (same : (a : StoreLane V) → R a a) (next : (a b c : StoreLane V) → R a b → R b c → R a c)
    (moves : (node : ℕ) (call : Call) (held : Option HeldView) (a : StoreLane V) (outcome : Outcome) (b : StoreLane V) → t.call_gives node call held a outcome b → R a b)
    (meets : (a b : StoreLane V) → OnlyMeets t.store a b → R a b)
    (seals : (context : ℕ) (a : StoreLane V) (cells : Lane) → MakesSeals t.store context a.cells cells → R a (record { cells = cells; known = a.known; faults = a.faults; keys = a.keys })) where
  abbrev All2 : List (StoreLane V) → List (StoreLane V) → Type 0
  All2 before after = AllRelate R same next before after

  same2 : (xs : List (StoreLane V)) → All2 xs xs
  same2 xs = all_relate_same R same next xs

  next2 : (xs ys zs : List (StoreLane V)) → All2 xs ys → All2 ys zs → All2 xs zs
  next2 xs ys zs one two = all_relate_next R same next xs ys zs one two

  pub met_relate : (xs ys : List (StoreLane V)) → AllZip (OnlyMeets t.store) xs ys → All2 xs ys
  met_relate [] [] met = tt
  met_relate [] (b ∷ ys) met = absurd met
  met_relate (a ∷ xs) [] met = absurd met
  met_relate (a ∷ xs) (b ∷ ys) met = (meets a b met.0, met_relate xs ys met.1)

  -- a close, at which the first lane alone makes steps
  pub close_relates : (context : ℕ) (xs ys : List (StoreLane V)) → OnlyFirstSteps xs ys → MakesSeals t.store context (first_lane t.store xs) (first_lane t.store ys) → All2 xs ys
  close_relates context [] ys steps sealed = subst (λ l. All2 [] l) (sym steps.1) tt
  close_relates context (a ∷ xs) ys steps sealed =
      let is : first_lane t.store ys ≡ steps.0 = ap (λ l. first_lane t.store l) steps.1 in
      subst (λ l. All2 (a ∷ xs) l) (sym steps.1) (seals context a steps.0 (subst (λ (lane : Lane). MakesSeals t.store context a.cells lane) is sealed), same2 xs)

  module _ (node : ℕ) (held : Option HeldView) where
    abbrev Made : StoreLane V → Call → Outcome → StoreLane V → Type 0
    Made = MakesOn t node held

    pub all_relate : (calls : List Call) (a : StoreLane V) (outcomes : List Outcome) (b : StoreLane V) → MakesAll Made calls a outcomes b → R a b
    all_relate [] a outcomes b made = subst (λ x. R a x) (sym made.1) (same a)
    all_relate (call ∷ calls) a outcomes b made = next a made.2 b (moves node call held a made.0 made.2 made.4) (all_relate calls made.2 made.1 b made.5)

    pub befores_relate : (calls : List Call) (a : StoreLane V) (outcomes : List Outcome) (b : StoreLane V) → MakesBefores Made calls a outcomes b → R a b
    befores_relate [] a outcomes b made = subst (λ x. R a x) (sym made.1) (same a)
    befores_relate (call ∷ calls) a outcomes b made =
        let one : R a made.2 = moves node call held a made.0 made.2 made.4 in
        elim (bools (is_successful (ending_of made.0.verdict))) [
          | inl on ↦ next a made.2 b one (befores_relate calls made.2 made.1 b (made.5.0 on))
          | inr off ↦ subst (λ x. R a x) (sym (made.5.1 off).1) one
        ]

    body_relates : (go : Bool) (call : Call) (a : StoreLane V) (outcomes : List Outcome) (b : StoreLane V) → MakesIf Made go call a outcomes b → R a b
    body_relates true call a outcomes b made = all_relate (call ∷ []) a outcomes b (made.made refl)
    body_relates false call a outcomes b made = subst (λ x. R a x) (sym (made.skipped refl).1) (same a)

    pub calls_relate : (befores : List Call) (body : Call) (afters : List Call) (a : StoreLane V) (outcomes : List Outcome) (b : StoreLane V) → MakesCalls Made befores body afters a outcomes b → R a b
    calls_relate befores body afters a outcomes b made =
        next a made.opened b (befores_relate befores a made.first made.opened made.befores_made)
        (next made.opened made.closing b (body_relates (all_successful (endings_of made.first)) body made.opened made.second made.closing made.body_made) (all_relate afters made.closing made.third b made.afters_made))

  test_relates : (node : ℕ) (path : List ℕ) (before : Lanes V) (ran : List Ran) (after : Lanes V) → TestRun t node path before ran after → All2 before.first after.first
  test_relates node path before ran after run =
      next2 before.first run.called after.first (first_relates R same next _ before.first run.called (λ a b made. calls_relate node (Some run.held) _ _ _ a run.outcomes b made) run.calls)
      (close_relates _ run.called after.first run.closes.closes.lanes run.closes.closes.own_events)

  module _ (Run : ℕ → Lanes V → List Ran → Lanes V → Type 0) (at : (c : ℕ) (s : Lanes V) (below : List Ran) (u : Lanes V) → Run c s below u → All2 s.first u.first) where
    pub turn_relates : (done : List Entry) (s u : Lanes V) → FoldsTo (λ s d u. Run d.0 s d.1 u) s done u → All2 s.first u.first
    turn_relates [] s u same = subst (λ (x : Lanes V). All2 s.first x.first) same (same2 s.first)
    turn_relates (e ∷ done) s u run = next2 s.first run.0.first u.first (at e.0 s e.1 run.0 run.1) (turn_relates done run.0 u run.2)

    -- the concurrent children
    pub dealt_relates : (node : ℕ) (before : Lanes V) (below : List Ran) (after : Lanes V) (b : BodyRun t Run node before below after) → All2 b.forked b.between.first
    dealt_relates node before below after b =
        let cs = concurrent_children t node in
        let Both : Lanes V → Lanes V → Type 0 = λ s u. All2 s.first u.first in
        run-relates (λ i s ran u. Run (slice_index_or cs i 0) s ran u) Both (λ x. same2 x.first) (λ job x o v w r more. next2 x.first v.first w.first (at (slice_index_or cs job 0) x o v r) more)
        (λ n x y one two. all_join R same next n x.first y.first one two) _ _ (with_lanes b.forked before) b.between b.beside b.dealt

    children_relate : (node : ℕ) (before : Lanes V) (below : List Ran) (after : Lanes V) → BodyRun t Run node before below after → All2 before.first after.first
    children_relate node before below after b =
        let u = with_lanes b.joined b.between in
        next2 before.first b.forked after.first (met_relate before.first b.forked b.forks.only_meet)
        (next2 b.forked b.between.first after.first (dealt_relates node before below after b)
        (next2 b.between.first b.joined after.first (met_relate b.between.first b.joined b.joins.only_meet) (turn_relates b.in_turn.done u after b.in_turn.runs)))

    made_relates : (go : Bool) (node : ℕ) (before : Lanes V) (below : List Ran) (after : Lanes V) → BodyMade t Run go node before below after → All2 before.first after.first
    made_relates true node before below after made = children_relate node before below after (made.made refl)
    made_relates false node before below after made = subst (λ (x : Lanes V). All2 before.first x.first) (sym (made.skipped refl).1) (same2 before.first)

    container_relates : (node : ℕ) (path : List ℕ) (before : Lanes V) (ran : List Ran) (after : Lanes V) → ContainerRun t Run node path before ran after → All2 before.first after.first
    container_relates node path before ran after run =
        let opened : Lanes V = record { first = run.opened; second = before.second } in
        next2 before.first run.opened after.first (first_relates R same next _ before.first run.opened (λ a b made. befores_relate node None _ a run.befores b made) run.befores_made)
        (next2 run.opened run.body.first after.first (made_relates (all_successful (endings_of run.befores)) node opened run.below run.body run.body_made)
        (next2 run.body.first run.ends.called after.first (first_relates R same next _ run.body.first run.ends.called (λ a b made. all_relate node None _ a run.ends.afters b made) run.ends.afters_made)
        (close_relates _ run.ends.called after.first run.ends.closes.closes.lanes run.ends.closes.closes.own_events)))

  pub tree_relates : (depth node : ℕ) (before : Lanes V) (ran : List Ran) (after : Lanes V) → TreeRun t depth node before ran after → All2 before.first after.first
  tree_relates zero node before ran after run = absurd run
  tree_relates (suc depth) node before ran after run = elim run.2 [
    | inl left ↦ subst (λ (x : Lanes V). All2 before.first x.first) (sym left.untouched) (same2 before.first)
    | inr on ↦ elim (bools (t.suite.is_test node)) [
      | inl test ↦ test_relates node run.0 before ran after (on.0 test)
      | inr container ↦ container_relates (λ child s below u. TreeRun t depth child s below u) (λ c s below u r. tree_relates depth c s below u r) node run.0 before ran after (on.1 container)
    ]
  ]
