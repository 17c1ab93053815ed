-- What holds of the run of a node, from what holds of its parts.
use Rattle.std.proofs.Common.{◌≡◌, inl, inr, ℕ, ◌+◌, ◌-◌, ◌<◌, ◌≤◌, false, true, min, zero, suc, List, [], ◌∷◌, ◌++◌, length, map, drop, ap, ◌∙◌, sym, refl, subst, arith, append-nil, length-drop, length-take}
use Rattle.std.specs.Prelude.{All, option_map, filter, not, Some, Ok, Err, Result, Vec, IfOk, IsOk, slice_get, slice_index_or}
use Rattle.std.specs.declared.alloc.Global.{Global}
use Rattle.std.specs.List.{flat_map, AllZip}
use Rattle.std.proofs.lemmas.Fn.{FoldsTo-push}
use Rattle.std.proofs.lemmas.Grind.{flat_map-append}
use Rattle.std.proofs.lemmas.List.{map-append}
use Rattle.std.proofs.lemmas.List.Elements.{All-take, All-drop, All-nil, All-cons}
use Rattle.std.proofs.lemmas.Option.{slice_get_within, get_or_from_slice_get, slice_get-map}
use Rattle.ext_tree.specs.Trees.{IsPathOf, children_of}
use Rattle.ext_store.specs.Stores.{StoreView, StoreLane, IsLaneOf}
use Rattle.ext_locks.specs.Opening.{LocksView}
use Rattle.ext_locks.specs.Views.{Lane}
use Rattle.ext_crew.specs.Dealing.{Share, front, back, RunByDealing}
use Rattle.ext_crew.proofs.Runs.{run-map}
use Rattle.ext_crew.proofs.RunLaws.{run-outcome}
use Rattle.ext_engine.specs.declared.node.closers.Item.{Item}
use Rattle.ext_engine.specs.declared.node.results.RanNode.{RanNode}
use Rattle.ext_engine.specs.InnerResults.{ran_view, ran_in}
use Rattle.ext_engine.specs.TreeRun.{Ran, TreeSetting, Lanes, IsUsable, IsIdle, TreeRun, IsDisabled, TestRun, ContainerRun, BodyRun, RanInTurn, with_lanes}
use Rattle.ext_engine.specs.Meeting.{Forks, Joins, OnlyMeets}

-- ---- shares that can be used

pub usable_part : {V : Type 0} (store : StoreView) (locks : LocksView) (s : Lanes V) (from size : ℕ) → IsUsable store locks s → 0 < size → from + size ≤ length s.first → IsUsable store locks (front size (back from s))
usable_part {V} store locks s from size h some_here room =
    let a = length-take size (drop from s.first) in
    let b = length-drop from s.first in
    let c = length-take size (drop from s.second) in
    let d = length-drop from s.second in
    let f = h.few in
    let e = h.same in
    record {
      some = omega arith;
      same = omega arith;
      few = omega arith;
      lanes = All-take (IsLaneOf store.id) size (drop from s.first) (All-drop (IsLaneOf store.id) from s.first h.lanes);
      idle = All-take (IsIdle locks) size (drop from s.second) (All-drop (IsIdle locks) from s.second h.idle);
    }

-- as references show it
pub usable-shown : {V : Type 0} (store : StoreView) (locks : LocksView) (s : Lanes V) (first : List (StoreLane V)) (second : List Lane)
    → first ≡ s.first → second ≡ s.second → IsUsable store locks s → IsUsable store locks (record { first = first; second = second })
usable-shown {V} store locks s first second e f h =
    let P : List (StoreLane V) → Type 0 = λ l. IsUsable store locks (record { first = l; second = s.second }) in
    let Q : List Lane → Type 0 = λ l. IsUsable store locks (record { first = first; second = l }) in
    subst Q (sym f) (subst P (sym e) h)

-- after jobs that keep each lane's facts
pub usable-then : {V : Type 0} (store : StoreView) (locks : LocksView) (s t : Lanes V) → IsUsable store locks s → length t.first ≡ length s.first → length t.second ≡ length s.second
    → All (IsLaneOf store.id) t.first × All (IsIdle locks) t.second → IsUsable store locks t
usable-then store locks s t h m n kept =
    let a = h.some in let b = h.same in let c = h.few in
    record { some = omega (arith, m); same = omega (arith, m, n); few = omega (arith, m); lanes = kept.0; idle = kept.1 }

-- lanes that only met
pub met_mine : {V : Type 0} (store : StoreView) (before after : List (StoreLane V)) → AllZip (OnlyMeets store) before after → All (IsLaneOf store.id) after × (length after ≡ length before)
met_mine {V} store [] [] met = (All-nil (IsLaneOf {V = V} store.id), refl)
met_mine store [] (lane ∷ lanes) met = absurd met
met_mine store (lane ∷ lanes) [] met = absurd met
met_mine store (lane ∷ lanes) (later ∷ more) met =
    let rest = met_mine store lanes more met.1 in (All-cons (IsLaneOf store.id) later more met.0.lane rest.0, ap suc rest.1)

-- a share whose lanes only met
pub usable-met : {V : Type 0} (store : StoreView) (locks : LocksView) (s : Lanes V) (after : List (StoreLane V)) → IsUsable store locks s → AllZip (OnlyMeets store) s.first after → IsUsable store locks (with_lanes after s)
usable-met store locks s after h met = let m = met_mine store s.first after met in usable-then store locks s (with_lanes after s) h m.1 refl (m.0, h.idle)

-- ---- jobs

-- a fact of each item, at the item of a job
pub at_item : {X : Type 0} (P : X → Type 0) (items : List X) (job : ℕ) (item : X) → All P items → slice_get items job ≡ Some item → P item
at_item P items job item all is = subst P (get_or_from_slice_get items job item item is) (all job item (slice_get_within items job item is))

pub node_at : (items : List Item) (job : ℕ) (item : Item) → slice_get items job ≡ Some item → slice_index_or (map (λ i. i.node) items) job 0 ≡ item.node
node_at items job item is = get_or_from_slice_get (map (λ i. i.node) items) job item.node 0 (slice_get-map (λ i. i.node) items job ∙ ap (λ o. option_map (λ i. i.node) o) is)

-- ---- answers

-- what is said of the nodes in an answer
pub answer-ok : {E : Type 0} (Q : List Ran → Type 0) (outcomes : List (Result (Vec RanNode Global) E)) (job : ℕ) (r : Result (Vec RanNode Global) E)
    → All IsOk outcomes → slice_get outcomes job ≡ Some r → IfOk r (λ u. Q (map ran_view u.items)) → Q (ran_in r)
answer-ok Q outcomes job (Ok v) all at run = run
answer-ok {E} Q outcomes job (Err e) all at run =
    let inside = slice_get_within outcomes job (Err e) at in
    let bad : Result (Vec RanNode Global) E = Err e in
    let P : Result (Vec RanNode Global) E → Type 0 = λ r. IsOk r in
    let wrong : false ≡ true = subst P (get_or_from_slice_get outcomes job bad bad at) (all job bad inside) in cc

flat-lists : {E : Type 0} (outcomes : List (Result (Vec RanNode Global) E)) → flat_map ran_in outcomes ≡ flat_map (λ ran. ran) (map ran_in outcomes)
flat-lists [] = refl
flat-lists (r ∷ outcomes) = ap (λ l. ran_in r ++ l) (flat-lists outcomes)

-- ---- nodes one after another

pub ran-none : {A B : Type 0} (Run : ℕ → Share A B → List Ran → Share A B → Type 0) (s : Share A B) (ran : List Ran) → ran ≡ [] → RanInTurn Run [] s ran s
ran-none Run s ran is = record { done = []; each = refl; runs = refl; ran_are = is }

pub ran-push : {A B : Type 0} (Run : ℕ → Share A B → List Ran → Share A B → Type 0) (items : List Item) (item : Item) (before between after : Share A B) (ran more all : List Ran)
    → RanInTurn Run (map (λ i. i.node) items) before ran between → Run item.node between more after → all ≡ ran ++ more
    → RanInTurn Run (map (λ i. i.node) (items ++ item ∷ [])) before all after
ran-push Run items item before between after ran more all so_far run is = record {
  done = so_far.done ++ (item.node, more) ∷ [];
  each = map-append (λ d. d.0) so_far.done ((item.node, more) ∷ []) ∙ (ap (λ l. l ++ item.node ∷ []) so_far.each ∙ sym (map-append (λ i. i.node) items (item ∷ [])));
  runs = FoldsTo-push (λ s d t. Run d.0 s d.1 t) before so_far.done between (item.node, more) after so_far.runs run;
  ran_are = is ∙ (ap (λ l. l ++ more) so_far.ran_are ∙ (ap (λ l. flat_map (λ d. d.1) so_far.done ++ l) (sym (append-nil more)) ∙ sym (flat_map-append (λ d. d.1) so_far.done ((item.node, more) ∷ []))));
}

-- ---- children beside one another

-- what children gave that came to their ends, as what ran
pub beside-of : {V E : Type 0} (Child : ℕ → Lanes V → List Ran → Lanes V → Type 0) (runs : ℕ → Lanes V → Result (Vec RanNode Global) E → Lanes V → Type 0) (nodes children : List ℕ) (before between : Lanes V) (outcomes : List (Result (Vec RanNode Global) E)) (count : ℕ)
    → ((job : ℕ) (s : Lanes V) (r : Result (Vec RanNode Global) E) (u : Lanes V) → runs job s r u → IfOk r (λ l. Child (slice_index_or nodes job 0) s (map ran_view l.items) u))
    → length nodes ≡ count → nodes ≡ children → RunByDealing runs count (min (length before.first) count) before outcomes between → All IsOk outcomes
    → (beside : List (List Ran)) × RunByDealing (λ i s rs u. Child (slice_index_or children i 0) s rs u) (length children) (min (length before.first) (length children)) before beside between
    × (flat_map ran_in outcomes ≡ flat_map (λ ran. ran) beside)
beside-of {V} {E} Child runs nodes children before between outcomes count says size same run all =
    let S : ℕ → Lanes V → List Ran → Lanes V → Type 0 = λ i s rs u. Child (slice_index_or nodes i 0) s rs u in
    let lists = run-map ran_in runs S outcomes (λ job s r u at h. answer-ok (λ l. Child (slice_index_or nodes job 0) s l u) outcomes job r all at (says job s r u h)) count (min (length before.first) count) before between run in
    let C : ℕ → Type 0 = λ n. RunByDealing S n (min (length before.first) n) before (map ran_in outcomes) between in
    let D : List ℕ → Type 0 = λ l. RunByDealing (λ i s rs u. Child (slice_index_or l i 0) s rs u) (length l) (min (length before.first) (length l)) before (map ran_in outcomes) between in
    (map ran_in outcomes, subst D same (subst C (sym size) lists), flat-lists outcomes)

-- ---- parts of the definition

module _ {V A : Type 0} (t : TreeSetting V A) where
  abbrev pub Tree : ℕ → ℕ → Lanes V → List Ran → Lanes V → Type 0
  Tree = TreeRun t

  pub tree-of-test : (depth node : ℕ) (s : Lanes V) (ran : List Ran) (u : Lanes V) → 1 ≤ depth → t.suite.is_test node ≡ true → t.enabled_gives node true
      → (path : List ℕ) × IsPathOf t.store.tree node path × TestRun t node path s ran u → Tree depth node s ran u
  tree-of-test zero node s ran u some_depth test enabled run = absurd (omega (arith, some_depth))
  tree-of-test (suc depth) node s ran u some_depth test enabled run =
      (run.0, run.1, inr ((λ _. run.2), (λ bad. absurd (let e : true ≡ false = sym test ∙ bad in cc)), enabled))

  pub tree-of-disabled : (depth node : ℕ) (s : Lanes V) (ran : List Ran) (u : Lanes V) → 1 ≤ depth
      → (path : List ℕ) × IsPathOf t.store.tree node path × IsDisabled t node s ran u → Tree depth node s ran u
  tree-of-disabled zero node s ran u some_depth left = absurd (omega (arith, some_depth))
  tree-of-disabled (suc depth) node s ran u some_depth left = (left.0, left.1, inl left.2)

  pub tree-of-container : (depth node : ℕ) (s : Lanes V) (ran : List Ran) (u : Lanes V) → 1 ≤ depth → t.suite.is_test node ≡ false → t.enabled_gives node true
      → (path : List ℕ) × IsPathOf t.store.tree node path × ContainerRun t (Tree (depth - 1)) node path s ran u → Tree depth node s ran u
  tree-of-container zero node s ran u some_depth container enabled run = absurd (omega (arith, some_depth))
  tree-of-container (suc depth) node s ran u some_depth container enabled run =
      let e : suc depth - 1 ≡ depth = omega arith in
      let P : ℕ → Type 0 = λ n. ContainerRun t (Tree n) node run.0 s ran u in
      (run.0, run.1, inr ((λ good. absurd (let f : true ≡ false = sym good ∙ container in cc)), (λ _. subst P e run.2), enabled))

  module _ (Child : ℕ → Lanes V → List Ran → Lanes V → Type 0) where
    -- the children beside one another, and then the others
    pub body-of : {E : Type 0} (runs : ℕ → Lanes V → Result (Vec RanNode Global) E → Lanes V → Type 0) (node : ℕ) (nodes others : List ℕ) (before : Lanes V) (forked : List (StoreLane V)) (between : Lanes V) (joined : List (StoreLane V)) (u : Lanes V) (outcomes : List (Result (Vec RanNode Global) E)) (alone : List Ran) (count : ℕ)
        → ((job : ℕ) (s : Lanes V) (r : Result (Vec RanNode Global) E) (w : Lanes V) → runs job s r w → IfOk r (λ l. Child (slice_index_or nodes job 0) s (map ran_view l.items) w))
        → Forks t.store before.first forked → Joins t.store between.first joined → length nodes ≡ count
        → nodes ≡ filter t.suite.is_concurrent (children_of t.store.tree node) → others ≡ filter (λ c. not (t.suite.is_concurrent c)) (children_of t.store.tree node)
        → RunByDealing runs count (min (length forked) count) (with_lanes forked before) outcomes between
        → All IsOk outcomes → RanInTurn Child others (with_lanes joined between) alone u
        → BodyRun t Child node before (flat_map ran_in outcomes ++ alone) u
    body-of runs node nodes others before forked between joined u outcomes alone count says forks joins size conc same run all turn =
        let b = beside-of Child runs nodes (filter t.suite.is_concurrent (children_of t.store.tree node)) (with_lanes forked before) between outcomes count says size conc run all in
        let T : List ℕ → Type 0 = λ l. RanInTurn Child l (with_lanes joined between) alone u in
        record {
          forked = forked;
          forks = forks;
          joined = joined;
          joins = joins;
          beside = b.0;
          between = between;
          dealt = b.1;
          alone = alone;
          in_turn = subst T same turn;
          below_are = ap (λ l. l ++ alone) b.2;
        }
