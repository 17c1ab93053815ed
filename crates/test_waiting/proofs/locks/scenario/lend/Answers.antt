use Rattle.std.proofs.Common.{◌≡◌, ℕ, zero, suc, List, [], ◌∷◌, length, refl, sym, subst, arith, length-append}
use Rattle.std.specs.List.{All}
use Rattle.std.proofs.lemmas.List.Elements.{All-append, All-nil, All-cons}
use Rattle.ext_locks.specs.Views.{Lane}
use Rattle.ext_locks.specs.Sets.{HoldsNothing}
use Rattle.ext_locks.specs.Opening.{fresh_lane, fresh_lanes}
use Rattle.test_waiting.proofs.locks.scenario.lend.Goals as goal

-- what holds of each lane that has seen nothing holds of all fresh lanes of the locks of a lane
all_fresh : (P : Lane → Type 0) (of : Lane) (lanes : ℕ) → ((number : ℕ) → P (fresh_lane of.table lanes number)) → (n : ℕ) → All P (fresh_lanes of.table lanes n)
all_fresh P of lanes each zero = All-nil P
all_fresh P of lanes each (suc n) = All-append P (fresh_lanes of.table lanes n) _ (all_fresh P of lanes each n) (All-cons P _ [] (each n) (All-nil P))

count_fresh : (of : Lane) (lanes n : ℕ) → length (fresh_lanes of.table lanes n) ≡ n
count_fresh of lanes zero = refl
count_fresh of lanes (suc n) = omega (arith, length-append (fresh_lanes of.table lanes n) (fresh_lane of.table lanes n ∷ []), count_fresh of lanes n)

pub play-requires-clause-table : goal.play-requires-clause-table
play-requires-clause-table g c =
    subst (All (λ (lane : Lane). lane.table ≡ c.args.locks.now.table)) (sym c.requires) (all_fresh (λ (lane : Lane). lane.table ≡ c.args.locks.now.table) (fresh_lane c.args.locks.now.table 0 0) c.args.count (λ number. refl) c.args.count)

pub play-requires-clause-nothing : goal.play-requires-clause-nothing
play-requires-clause-nothing g c =
    subst (All HoldsNothing) (sym c.requires) (all_fresh HoldsNothing (fresh_lane c.args.locks.now.table 0 0) c.args.count (λ number. record { each = λ lock mode. refl }) c.args.count)

pub play-requires-clause-number : goal.play-requires-clause-number
play-requires-clause-number g c =
    let n = count_fresh (fresh_lane c.args.locks.now.table 0 0) c.args.count c.args.count in
    subst (λ (lanes : List Lane). All (λ (lane : Lane). lane.lanes ≡ length lanes) lanes) (sym {b = fresh_lanes c.args.locks.now.table c.args.count c.args.count} c.requires) (all_fresh (λ (lane : Lane). lane.lanes ≡ length (fresh_lanes c.args.locks.now.table c.args.count c.args.count)) (fresh_lane c.args.locks.now.table 0 0) c.args.count (λ number. sym n) c.args.count)
