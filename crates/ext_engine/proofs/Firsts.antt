-- What is told of the first of the nodes that ran, and what holds of the first of some lanes.
use Rattle.std.proofs.Common.{◌≡◌, ◌<◌, Bool, true, List, [], ◌∷◌, length, map, ap, ◌∙◌, sym, refl, subst, arith, length-set}
use Rattle.std.specs.Prelude.{All, slice_set, slice_index_or}
use Rattle.std.proofs.lemmas.List.Elements.{All-set}
use Rattle.ext_model.specs.declared.look.Fault.{Fault}
use Rattle.ext_lifecycle.specs.Results.{ResultOf, as_result}
use Rattle.ext_lifecycle.specs.declared.call.Call.{Call}
use Rattle.ext_lifecycle.specs.declared.outcome.Outcome.{Outcome}
use Rattle.ext_lifecycle.specs.Lifecycle.{MakesAll, MakesBefores, MakesCalls}
use Rattle.ext_locks.specs.Opening.{LocksView}
use Rattle.ext_locks.specs.Views.{Lane}
use Rattle.ext_store.specs.Stores.{StoreView, StoreLane, IsLaneOf}
use Rattle.ext_engine.specs.declared.node.results.RanNode.{RanNode}
use Rattle.ext_engine.specs.InnerResults.{ran_view}
use Rattle.ext_engine.specs.NodeRun.{Ran, OnFirst, Lanes, IsIdle, IsUsable}

-- a node's result, of a test
abbrev pub of_result : ResultOf Fault → List Ran
of_result result = record { result = result; went_on = true } ∷ []

pub same-told : (told_as result : ResultOf Fault) → told_as ≡ result → of_result told_as ≡ of_result result
same-told told_as result is = ap of_result is

-- ---- the first of some lanes

pub on-first : {X : Type 0} (R : X → X → Type 0) (xs : List X) (d left : X) → 0 < length xs → R (slice_index_or xs 0 d) left → OnFirst R xs (slice_set xs 0 left)
on-first R [] d left some_here change = absurd (omega arith)
on-first R (x ∷ xs) d left some_here change = record { lane = x; left = left; rest = xs; first_was = refl; change = change; first_is = refl }

pub calls-on : {X : Type 0} (makes : X → Call → Outcome → X → Type 0) (xs : List X) (d left : X) {befores : List Call} (befores' : List Call) (body : Call) {afters : List Call} (afters' : List Call) (os : List Outcome)
    → befores ≡ befores' → afters ≡ afters' → 0 < length xs → MakesCalls makes befores body afters (slice_index_or xs 0 d) os left → OnFirst (λ a b. MakesCalls makes befores' body afters' a os b) xs (slice_set xs 0 left)
calls-on {X} makes xs d left {befores} befores' body {afters} afters' os e f some_here made =
    let P : List Call → Type 0 = λ l. MakesCalls makes l body afters (slice_index_or xs 0 d) os left in
    let Q : List Call → Type 0 = λ l. MakesCalls makes befores' body l (slice_index_or xs 0 d) os left in
    on-first (λ a b. MakesCalls makes befores' body afters' a os b) xs d left some_here (subst Q f (subst P e made))

pub befores-on : {X : Type 0} (makes : X → Call → Outcome → X → Type 0) (xs : List X) (d left : X) {befores : List Call} (befores' : List Call) (os : List Outcome)
    → befores ≡ befores' → 0 < length xs → MakesBefores makes befores (slice_index_or xs 0 d) os left → OnFirst (λ a b. MakesBefores makes befores' a os b) xs (slice_set xs 0 left)
befores-on {X} makes xs d left {befores} befores' os e some_here made =
    let P : List Call → Type 0 = λ l. MakesBefores makes l (slice_index_or xs 0 d) os left in
    on-first (λ a b. MakesBefores makes befores' a os b) xs d left some_here (subst P e made)

pub afters-on : {X : Type 0} (makes : X → Call → Outcome → X → Type 0) (xs : List X) (d left : X) {afters : List Call} (afters' : List Call) (os : List Outcome)
    → afters ≡ afters' → 0 < length xs → MakesAll makes afters (slice_index_or xs 0 d) os left → OnFirst (λ a b. MakesAll makes afters' a os b) xs (slice_set xs 0 left)
afters-on {X} makes xs d left {afters} afters' os e some_here made =
    let P : List Call → Type 0 = λ l. MakesAll makes l (slice_index_or xs 0 d) os left in
    on-first (λ a b. MakesAll makes afters' a os b) xs d left some_here (subst P e made)

-- ---- lanes that a test leaves

set-twice : {X : Type 0} (xs : List X) (x y : X) → slice_set (slice_set xs 0 x) 0 y ≡ slice_set xs 0 y
set-twice [] x y = refl
set-twice (z ∷ xs) x y = refl

-- lanes of the store, and lock lanes of which the first took something and gave it back
pub still_usable : {V : Type 0} (store : StoreView) (locks : LocksView) (before : Lanes V) (after : List (StoreLane V)) (taken given : Lane)
    → IsUsable store locks before → length after ≡ length before.first → All (IsLaneOf store.id) after → IsIdle locks given → IsUsable store locks (record { first = after; second = slice_set (slice_set before.second 0 taken) 0 given })
still_usable store locks before after taken given usable count own idle =
    let some = usable.some in let few = usable.few in
    let twice = set-twice before.second taken given in
    record {
      some = omega (arith, some, count);
      same = ap length twice ∙ (length-set before.second 0 given ∙ (usable.same ∙ sym count));
      few = omega (arith, few, count);
      lanes = own;
      idle = subst (All (IsIdle locks)) (sym twice) (All-set (IsIdle locks) before.second 0 given idle usable.idle);
    }
