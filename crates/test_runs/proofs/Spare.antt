-- Lanes without the last one of the store and of the locks can be used by a run.
use Rattle.std.proofs.Common.{◌≡◌, ◌+◌, ◌≤◌, List, [], ◌∷◌, ◌++◌, ◌∙◌, length, Some, ap, arith}
use Rattle.std.proofs.lemmas.List.{length_push}
use Rattle.std.proofs.lemmas.List.Elements.{All-pop}
use Rattle.ext_locks.specs.Opening.{LocksView}
use Rattle.ext_locks.specs.Views.{Lane}
use Rattle.ext_store.specs.Stores.{StoreView, StoreLane, IsLaneOf}
use Rattle.ext_engine.specs.TreeRun.{IsIdle, IsUsable}

pub one_less : {V : Type 0} (store : StoreView) (locks : LocksView) (first left : List (StoreLane V)) (lane : StoreLane V) (second rest : List Lane) (other : Lane)
    → IsUsable store locks (record { first = first; second = second }) → 2 ≤ length first → first ≡ left ++ lane ∷ [] → second ≡ rest ++ other ∷ []
    → IsUsable store locks (record { first = left; second = rest }) × IsLaneOf store.id lane × IsIdle locks other
one_less store locks first left lane second rest other usable two split split_locks =
    let lanes = All-pop (IsLaneOf store.id) first left (Some lane) split usable.lanes in
    let idle = All-pop (IsIdle locks) second rest (Some other) split_locks usable.idle in
    let a : length first ≡ length left + 1 = ap length split ∙ length_push left lane in
    let b : length second ≡ length rest + 1 = ap length split_locks ∙ length_push rest other in
    let same = usable.same in
    let few = usable.few in (
      record {
        some = omega (arith, a, two);
        same = omega (arith, a, b, same);
        few = omega (arith, a, few);
        lanes = lanes.0;
        idle = idle.0;
      },
      lanes.1,
      idle.1,
    )
