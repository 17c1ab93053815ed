use Rattle.std.proofs.Common.{◌≡◌, ◌+◌, ℕ, length, map, take, refl, sym, subst, arith, string_bytes}
use Rattle.std.proofs.lemmas.List.{length-map}
use Rattle.ext_locks.specs.Names.{IsMerged}
use Rattle.ext_locks.specs.Sets.{AllBelow, locks_of}
use Rattle.ext_locks.proofs.Lists.{take_low}
use Rattle.ext_locks.proofs.Merged.{merged_none, merged_more, merged_all, not_merged}
use Rattle.ext_locks.proofs.merging.merge_requests.Goals as goal

pub loop-at-init : goal.loop-at-init
loop-at-init c = merged_none _ _

pub loop-at-preserved : goal.loop-at-preserved
loop-at-preserved c =
    let size = length-map c.args.names.now string_bytes in
    let within = c.in-Some.ensures.within in
    let few = c.requires.few in
    merged_more _ c.args.requests.now c.loop-at.modes c.loop-at.at c.in-Some.lock _ _ c.stronger.result c.loop-at-test.true refl (omega arith) c.loop-at.invariant.size c.in-Some.ensures.found (omega arith)
    c.stronger.ensures.as_new c.stronger.ensures.as_old c.stronger.ensures.either c.loop-at.invariant

pub returns-in_default-clause-fault : goal.returns-in_default-clause-fault
returns-in_default-clause-fault c = not_merged _ c.args.requests.now c.loop-at.modes c.loop-at.at c.loop-at-test.true c.loop-at.invariant _ (c.in_default.ensures.absent refl)

below : (c : goal.After-loop-at) → AllBelow (length c.args.names.now + 1) (locks_of c.loop-at.modes)
below c = subst (λ (n : ℕ). AllBelow (n + 1) (locks_of c.loop-at.modes)) (length-map c.args.names.now string_bytes) c.loop-at.invariant.within

-- the modes behind the last lock are none
whole : (c : goal.After-loop-at) → locks_of (take (length c.args.names.now + 1) c.loop-at.modes) ≡ locks_of c.loop-at.modes
whole c = take_low c.loop-at.modes (length c.args.names.now + 1) (below c)

pub returns-clause-merged : goal.returns-clause-merged
returns-clause-merged c =
    subst (IsMerged (map string_bytes c.args.names.now) c.args.requests.now) (sym (whole c))
    (merged_all _ c.args.requests.now c.loop-at.modes c.loop-at.at c.loop-at-test.false c.loop-at.invariant)

pub returns-clause-within : goal.returns-clause-within
returns-clause-within c = subst (AllBelow (length c.args.names.now + 1)) (sym (whole c)) (below c)
