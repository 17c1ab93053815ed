-- What the run of a tree leaves of its lanes.
use Rattle.std.proofs.Common.{◌≡◌, inl, inr, ℕ, zero, suc, Bool, true, false, List, [], ◌∷◌, length, refl, ap, sym, subst, ◌∙◌, arith}
use Rattle.std.specs.Prelude.{All, slice_index_or}
use Rattle.std.specs.List.{FoldsTo, AllZip}
use Rattle.std.proofs.lemmas.List.Elements.{All-cons, All-drop, All-head, All-tail, All-take}
use Rattle.ext_history.proofs.Lists.{bools}
use Rattle.ext_lifecycle.specs.Endings.{all_successful}
use Rattle.ext_lifecycle.specs.Lifecycle.{endings_of}
use Rattle.ext_store.specs.Stores.{StoreView, StoreLane, IsLaneOf}
use Rattle.ext_locks.specs.declared.event.LockMode.{LockMode}
use Rattle.ext_locks.specs.Opening.{LocksView}
use Rattle.ext_locks.specs.Sets.{HeldView}
use Rattle.ext_locks.specs.Views.{Lane}
use Rattle.ext_crew.specs.Dealing.{front, back}
use Rattle.ext_crew.proofs.Lists.{all_parts, length_parts}
use Rattle.ext_crew.proofs.RunLaws.{run-relates}
use Rattle.ext_engine.specs.TreeRun.{Ran, TreeSetting, Lanes, TreeRun, TestRun, ContainerRun, BodyRun, BodyMade, OnFirst, TakesSet, GivesBack, IsIdle, IsUsable, concurrent_children, with_lanes}
use Rattle.ext_engine.specs.Meeting.{OnlyMeets}
use Rattle.ext_engine.proofs.Trees.{met_mine}
use Rattle.ext_engine.proofs.Grown.{Entry}
use Rattle.ext_engine.proofs.Refusals.{count_kept}

-- as many lanes of both kinds, and lock lanes that hold nothing hold nothing afterwards
record Kept {V : Type 0} (locks : LocksView) (s t : Lanes V) : Type 0 where
  firsts : length t.first ≡ length s.first
  seconds : length t.second ≡ length s.second
  still_idle : All (IsIdle locks) s.second → All (IsIdle locks) t.second

module _ {V : Type 0} (locks : LocksView) where
  kept_same : (s : Lanes V) → Kept locks s s
  kept_same s = record { firsts = refl; seconds = refl; still_idle = λ all. all }

  kept_then : (s t u : Lanes V) → Kept locks s t → Kept locks t u → Kept locks s u
  kept_then s t u a b = record { firsts = b.firsts ∙ a.firsts; seconds = b.seconds ∙ a.seconds; still_idle = λ all. b.still_idle (a.still_idle all) }

  kept_met : (store : StoreView) (s : Lanes V) (after : List (StoreLane V)) → AllZip (OnlyMeets store) s.first after → Kept locks s (with_lanes after s)
  kept_met store s after met = record { firsts = (met_mine store s.first after met).1; seconds = refl; still_idle = λ all. all }

  kept_join : (n : ℕ) (s t : Lanes V) → Kept locks (front n s) (front n t) → Kept locks (back n s) (back n t) → Kept locks s t
  kept_join n s t a b =
      let s0 = length_parts n s.first in
      let t0 = length_parts n t.first in
      let s1 = length_parts n s.second in
      let t1 = length_parts n t.second in
      let a0 = a.firsts in
      let a1 = a.seconds in
      let b0 = b.firsts in
      let b1 = b.seconds in
      let P : Lane → Type 0 = λ lane. IsIdle locks lane in
      record {
        firsts = omega (arith, s0, t0, a0, b0);
        seconds = omega (arith, s1, t1, a1, b1);
        still_idle = λ all. all_parts P n t.second (a.still_idle (All-take P n s.second all)) (b.still_idle (All-drop P n s.second all));
      }

  module _ (Run : ℕ → Lanes V → List Ran → Lanes V → Type 0) (at : (c : ℕ) (s : Lanes V) (below : List Ran) (u : Lanes V) → Run c s below u → Kept locks s u) where
    turn_kept : (done : List Entry) (s u : Lanes V) → FoldsTo (λ s d u. Run d.0 s d.1 u) s done u → Kept locks s u
    turn_kept [] s u same = subst (λ x. Kept locks s x) same (kept_same s)
    turn_kept (e ∷ done) s u run = kept_then s run.0 u (at e.0 s e.1 run.0 run.1) (turn_kept done run.0 u run.2)

-- ---- the first lanes

first_count : {X : Type 0} (R : X → X → Type 0) (before after : List X) → OnFirst R before after → length after ≡ length before
first_count R before after on = ap length on.first_is ∙ sym (ap length on.first_was)

heads : {X : Type 0} (x y : X) (xs ys : List X) → x ∷ xs ≡ y ∷ ys → x ≡ y
heads x y xs ys same = cc

tails : {X : Type 0} (x y : X) (xs ys : List X) → x ∷ xs ≡ y ∷ ys → xs ≡ ys
tails x y xs ys same = cc

-- locks that are taken and given back leave all lock lanes idle
idle_again : (locks : LocksView) (set : List (ℕ × LockMode)) (held : HeldView) (before locked after : List Lane) → OnFirst (λ a b. TakesSet locks set a held b) before locked → OnFirst (GivesBack held) locked after
    → All (IsIdle locks) before → All (IsIdle locks) after
idle_again locks set held before locked after takes gives all =
    let P : Lane → Type 0 = λ lane. IsIdle locks lane in
    let same = sym takes.first_is ∙ gives.first_was in
    let lane : takes.left ≡ gives.lane = heads takes.left gives.lane takes.rest gives.rest same in
    let rest : takes.rest ≡ gives.rest = tails takes.left gives.lane takes.rest gives.rest same in
    let began : All P (takes.lane ∷ takes.rest) = subst (λ l. All P l) takes.first_was all in
    let table = gives.change.events.table ∙ ap (λ l. l.table) (sym lane) ∙ takes.change.events.table ∙ (All-head P takes.lane takes.rest began).of_table in
    subst (λ l. All P l) (sym gives.first_is)
    (All-cons P gives.left gives.rest (record { of_table = table; nothing = gives.change.nothing }) (subst (λ l. All P l) rest (All-tail P takes.lane takes.rest began)))

-- ---- the run of a node

module _ {V A : Type 0} (t : TreeSetting V A) where
  test_kept : (node : ℕ) (path : List ℕ) (before : Lanes V) (ran : List Ran) (after : Lanes V) → TestRun t node path before ran after → Kept t.locks before after
  test_kept node path before ran after run = record {
    firsts = count_kept run.called after.first run.closes.closes.lanes ∙ first_count _ before.first run.called run.calls;
    seconds = first_count _ run.locked after.second run.given_back ∙ first_count _ before.second run.locked run.takes;
    still_idle = idle_again t.locks run.set run.held before.second run.locked after.second run.takes run.given_back;
  }

  module _ (Run : ℕ → Lanes V → List Ran → Lanes V → Type 0) (at : (c : ℕ) (s : Lanes V) (below : List Ran) (u : Lanes V) → Run c s below u → Kept t.locks s u) where
    body_kept : (node : ℕ) (before : Lanes V) (below : List Ran) (after : Lanes V) → BodyRun t Run node before below after → Kept t.locks before after
    body_kept node before below after b =
        let cs = concurrent_children t node in
        let R : Lanes V → Lanes V → Type 0 = λ s u. Kept t.locks s u in
        let s = with_lanes b.forked before in
        let u = with_lanes b.joined b.between in
        kept_then t.locks before s after (kept_met t.locks t.store before b.forked b.forks.only_meet)
        (kept_then t.locks s b.between after
        (run-relates (λ i s ran u. Run (slice_index_or cs i 0) s ran u) R (kept_same t.locks) (λ job s o v u r more. kept_then t.locks s v u (at (slice_index_or cs job 0) s o v r) more) (kept_join t.locks)
        (length cs) _ s b.between b.beside b.dealt)
        (kept_then t.locks b.between u after (kept_met t.locks t.store b.between b.joined b.joins.only_meet) (turn_kept t.locks Run at b.in_turn.done u after b.in_turn.runs)))

    made_kept : (go : Bool) (node : ℕ) (before : Lanes V) (below : List Ran) (after : Lanes V) → BodyMade t Run go node before below after → Kept t.locks before after
    made_kept true node before below after made = body_kept node before below after (made.made refl)
    made_kept false node before below after made = subst (λ x. Kept t.locks before x) (sym (made.skipped refl).1) (kept_same t.locks before)

    container_kept : (node : ℕ) (path : List ℕ) (before : Lanes V) (ran : List Ran) (after : Lanes V) → ContainerRun t Run node path before ran after → Kept t.locks before after
    container_kept node path before ran after run =
        let opened : Lanes V = record { first = run.opened; second = before.second } in
        let body = made_kept (all_successful (endings_of run.befores)) node opened run.below run.body run.body_made in
        record {
          firsts = count_kept run.ends.called after.first run.ends.closes.closes.lanes ∙ first_count _ run.body.first run.ends.called run.ends.afters_made ∙ body.firsts ∙ first_count _ before.first run.opened run.befores_made;
          seconds = ap length run.no_locks ∙ body.seconds;
          still_idle = λ all. subst (λ l. All (IsIdle t.locks) l) (sym run.no_locks) (body.still_idle all);
        }

  tree_kept : (depth node : ℕ) (before : Lanes V) (ran : List Ran) (after : Lanes V) → TreeRun t depth node before ran after → Kept t.locks before after
  tree_kept zero node before ran after run = absurd run
  tree_kept (suc depth) node before ran after run = elim run.2 [
    | inl left ↦ subst (λ x. Kept t.locks before x) (sym left.untouched) (kept_same t.locks before)
    | inr on ↦ elim (bools (t.suite.is_test node)) [
      | inl test ↦ test_kept node run.0 before ran after (on.0 test)
      | inr container ↦ container_kept (λ child s below u. TreeRun t depth child s below u) (λ c s below u r. tree_kept depth c s below u r) node run.0 before ran after (on.1 container)
    ]
  ]

  -- the run of a node that is not left out ends with a close, which leaves lanes of the store
  own_lanes : (depth node : ℕ) (before : Lanes V) (ran : List Ran) (after : Lanes V) → TreeRun t depth node before ran after → All (IsLaneOf t.store.id) before.first
      → All (IsLaneOf t.store.id) after.first
  own_lanes zero node before ran after run own = absurd run
  own_lanes (suc depth) node before ran after run own = elim run.2 [
    | inl left ↦ subst (λ (x : Lanes V). All (IsLaneOf t.store.id) x.first) (sym left.untouched) own
    | inr on ↦ elim (bools (t.suite.is_test node)) [
      | inl test ↦ (on.0 test).closes.closes.own_lanes
      | inr container ↦ (on.1 container).ends.closes.closes.own_lanes
    ]
  ]

  pub keeps_lanes : (depth node : ℕ) (before : Lanes V) (ran : List Ran) (after : Lanes V) → TreeRun t depth node before ran after → IsUsable t.store t.locks before
      → IsUsable t.store t.locks after × (length after.first ≡ length before.first)
  keeps_lanes depth node before ran after run usable =
      let kept = tree_kept depth node before ran after run in
      let a = kept.firsts in
      let b = kept.seconds in
      let some = usable.some in
      let same = usable.same in
      let few = usable.few in (
        record {
          some = omega (arith, a, some);
          same = b ∙ same ∙ sym a;
          few = omega (arith, a, few);
          lanes = own_lanes depth node before ran after run usable.lanes;
          idle = kept.still_idle usable.idle;
        },
        a,
      )
