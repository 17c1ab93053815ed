-- What a whole compute says, from what the claim of a missing value and the part after it say.
use Rattle.std.proofs.Common.{◌≡◌, ◌≢◌, ◌∙◌, ℕ, List, [], ◌∷◌, sym, ap, subst}
use Rattle.std.specs.Prelude.{Some, Result, Ok, Err, All, Bool, true, false, IsTrue, IsFalse}
use Rattle.ext_model.specs.declared.event.Act.{Act}
use Rattle.ext_model.specs.declared.event.Act.TheVariants.{Keep, Claim, Fill, Fail, Abandon}
use Rattle.ext_model.specs.declared.look.Look.TheVariants as look
use Rattle.ext_model.specs.Events as events
use Rattle.ext_model.specs.History.{Limits, reply_after}
use Rattle.ext_model.specs.CallActs.{LaneView, Calls}
use Rattle.ext_history.proofs.Composed.{same_number}
use Rattle.ext_history.proofs.Crowded.{crowded_by_second}
use Rattle.ext_model.proofs.Composed.{calls_compose, point_of_second}
use Rattle.ext_store.specs.declared.fault.KeepFault.{KeepFault}
use Rattle.ext_store.specs.declared.fault.KeepFault.TheVariants as fault
use Rattle.ext_store_core.specs.declared.claim.Unused.{Unused}
use Rattle.ext_store_core.specs.declared.claim.Unused.TheVariants.{Found, FaultStands, Refused}
use Rattle.ext_store.specs.declared.computed.Compute.{Compute}
use Rattle.ext_store.specs.declared.computed.Compute.TheVariants as compute
use Rattle.ext_store.specs.declared.computed.Compute.TheVariants.{Computed, Failed, FaultKept, FaultUnkept, Unkept}
use Rattle.ext_model.specs.declared.look.Fault.{Fault}
use Rattle.ext_tree.specs.Trees.{IsPathOf}
use Rattle.ext_cells.specs.Lanes.{CellsId, Lane}
use Rattle.ext_store_core.specs.ContextCalls.{ContextCells}
use Rattle.ext_store.specs.Stores.{StoreId, StoreView, StoreLane, IsKeptBy, IsLaneOf, IsOnCells, cell_in, context_cells}
use Rattle.ext_store.specs.LaneCalls.{Frame}
use Rattle.ext_store.specs.Computing.{ClaimsAndLooks, given_up_events, Fills, Fails, IsUnkept, EndsFailed, HandsBack, IfComputed, IsFaultless, Uses, ComputesFrom, Computes, without_factory, with_factory}
use Rattle.ext_store_core.specs.Claiming.{ClaimsAlong, ClaimsFrom, ClaimsMissing}
use Rattle.ext_store_core.proofs.Parts.{happens_second, claims_first}
use Rattle.ext_store_core.proofs.Claimed.{StoresNone, claim_acts}
use Rattle.ext_store.proofs.Outdrawn.{outdrawn_second}
use Rattle.ext_store.proofs.Filling.{storing_none, filled_keeps, failed_keeps}
use Rattle.ext_store.proofs.Frames.{frame_of, but_frame, frame_spares, frame_lane, frames_compose}

-- the factory is handed back
pub unused_computes : (V : Type 0) {F : Type 0} (store : StoreView) (context : ℕ) (ancestors : List ℕ) (key : ℕ) (a b : LaneView) (factory : F) (unused : Unused)
    → ClaimsFrom (context_cells store) context ancestors key a b (Err unused) → ComputesFrom store.id.cells.limits store context ancestors key a b (without_factory (with_factory {V = V} {F = F} factory unused))
unfolding ComputesFrom
unused_computes V store context ancestors key a b factory (Found at number) m = m
unused_computes V store context ancestors key a b factory (FaultStands at number) m = m
unused_computes V store context ancestors key a b factory (Refused why) m = m

-- a result for the path, by the limits of the lane's own cells
pub for_path : {V : Type 0} (store : StoreView) (context : ℕ) (ancestors : List ℕ) (key : ℕ) (a b : Lane) (r : Compute V (Unit {0})) → a.cells ≡ store.id.cells → IsPathOf store.tree context (context ∷ ancestors)
    → ComputesFrom store.id.cells.limits store context ancestors key a.view b.view r → Computes store context key a b r
unfolding Computes
for_path store context ancestors key a b r is path from = (ancestors, path, subst (λ (z : CellsId). ComputesFrom z.limits store context ancestors key a.view b.view r) (sym is) from)

-- ---- the part after the claim

module _ (store : StoreView) (context : ℕ) (ancestors : List ℕ) (key claim : ℕ) (a b c : LaneView) (m : ClaimsFrom (context_cells store) context ancestors key a b (Ok claim)) where
  abbrev limits : Limits
  limits = store.id.cells.limits

  abbrev here : ℕ
  here = cell_in store key context

  one : Calls store.id.cells.limits a b (Claim (cell_in store key context) ∷ [])
  one = m.2

  looks : (ys : List (Act ℕ)) → Calls store.id.cells.limits b c ys → ClaimsAndLooks store.id.cells.limits store context ancestors key a c look.Absent
  looks ys two = claims_first limits (context_cells store) context ancestors key a b c ys one two look.Absent m.3

  pub fails : Calls store.id.cells.limits b c (Abandon claim ∷ []) → ClaimsAndLooks store.id.cells.limits store context ancestors key a c look.Absent × Calls store.id.cells.limits a c (given_up_events store context key)
  fails two =
      (looks (Abandon claim ∷ []) two, calls_compose limits a b c (Claim here ∷ []) (Abandon here ∷ []) one (subst (λ k. Calls limits b c (Abandon k ∷ [])) m.0 two))

  pub computes : (number : ℕ) → Fills store.id.cells.limits [] claim b c number
      → ClaimsAndLooks store.id.cells.limits store context ancestors key a c look.Absent × Fills store.id.cells.limits (Claim (cell_in store key context) ∷ []) (cell_in store key context) a c number
  computes number f = (
    looks (Keep number ∷ Fill claim number ∷ []) f.calls,
    record {
      calls = calls_compose limits a b c (Claim here ∷ []) (Keep number ∷ Fill here number ∷ []) one (subst (λ k. Calls limits b c (Keep number ∷ Fill k number ∷ [])) m.0 f.calls);
      drawn = happens_second limits a b c (Claim here ∷ []) (Keep number ∷ Fill claim number ∷ []) one f.calls [] (Keep number) (Some number) f.drawn;
    },
  )

  pub keeps_not : (why : KeepFault) → IsUnkept store.id.cells.limits store.tries [] claim b c why
      → ClaimsAndLooks store.id.cells.limits store context ancestors key a c look.Absent × IsUnkept store.id.cells.limits store.tries (Claim (cell_in store key context) ∷ []) (cell_in store key context) a c why
  unfolding IsUnkept
  keeps_not fault.Memory u = fails u
  keeps_not fault.NumbersFull u =
      let k = fails u.0 in (
        k.0,
        (
          k.1,
          (
            u.1.0,
            point_of_second limits a b c (Claim here ∷ []) (Abandon claim ∷ []) one u.0 [] u.1.0 u.1.1,
            subst (λ n. reply_after limits u.1.0 n (Keep 0) ≡ events.Refuses events.NumbersFull) (same_number one) u.1.2,
          ),
        ),
      )
  keeps_not fault.Contended u =
      let k = fails u.0 in (k.0, (k.1, crowded_by_second store.tries one u.0 u.1, outdrawn_second limits store.tries a b c (Claim here ∷ []) (Abandon claim ∷ []) one u.0 u.2))
  keeps_not fault.Unplaced u = (
    looks (Keep u.0 ∷ Abandon claim ∷ []) u.1,
    (
      u.0,
      calls_compose limits a b c (Claim here ∷ []) (Keep u.0 ∷ Abandon here ∷ []) one (subst (λ k. Calls limits b c (Keep u.0 ∷ Abandon k ∷ [])) m.0 u.1),
      happens_second limits a b c (Claim here ∷ []) (Keep u.0 ∷ Abandon claim ∷ []) one u.1 [] (Keep u.0) (Some u.0) u.2,
    ),
  )

  pub keeps_fault : (number : ℕ) → Fails store.id.cells.limits [] claim b c number
      → ClaimsAndLooks store.id.cells.limits store context ancestors key a c look.Absent × Fails store.id.cells.limits (Claim (cell_in store key context) ∷ []) (cell_in store key context) a c number
  keeps_fault number f = (
    looks (Keep number ∷ Fail claim number ∷ []) f.calls,
    record {
      calls = calls_compose limits a b c (Claim here ∷ []) (Keep number ∷ Fail here number ∷ []) one (subst (λ k. Calls limits b c (Keep number ∷ Fail k number ∷ [])) m.0 f.calls);
      drawn = happens_second limits a b c (Claim here ∷ []) (Keep number ∷ Fail claim number ∷ []) one f.calls [] (Keep number) (Some number) f.drawn;
    },
  )

-- ---- a factory that failed

module _ {V : Type 0} (store : StoreView) (why : Fault) (claim : ℕ) (b c : StoreLane V) where
  -- what comes of it is what the whole compute answers
  pub ends_failed : (context : ℕ) (ancestors : List ℕ) (key : ℕ) (a : LaneView) → ClaimsFrom (context_cells store) context ancestors key a b.cells.view (Ok claim) → (r : Compute V (Unit {0})) → EndsFailed store why claim b c r
      → ComputesFrom store.id.cells.limits store context ancestors key a c.cells.view r
  unfolding ComputesFrom
  ends_failed context ancestors key a m (Failed said) e = let f = fails store context ancestors key claim a b.cells.view c.cells.view m e.4 in (e.0, f.0, f.1)
  ends_failed context ancestors key a m (FaultKept number) e = let f = keeps_fault store context ancestors key claim a b.cells.view c.cells.view m number e.3 in (e.0, f.0, f.1)
  ends_failed context ancestors key a m (FaultUnkept said cause) e = let f = keeps_not store context ancestors key claim a b.cells.view c.cells.view m cause e.4 in (e.0, f.0, f.1)
  ends_failed context ancestors key a m (Computed number) e = absurd e
  ends_failed context ancestors key a m (compute.Found at number unused) e = absurd e
  ends_failed context ancestors key a m (compute.FaultStands at number unused) e = absurd e
  ends_failed context ancestors key a m (Unkept value cause) e = absurd e
  ends_failed context ancestors key a m (compute.Refused refusal unused) e = absurd e

  -- what the factory answered
  pub failed_uses : (Gives : Result V Fault → Type 0) → Gives (Err why) → (r : Compute V (Unit {0})) → EndsFailed store why claim b c r → Uses Gives b c r
  failed_uses Gives gave (Failed said) e = (subst (λ w. Gives (Err w)) (sym e.1) gave, e.2, e.3)
  failed_uses Gives gave (FaultKept number) e = (why, gave, e.1, e.2)
  failed_uses Gives gave (FaultUnkept said cause) e = (subst (λ w. Gives (Err w)) (sym e.1) gave, e.2, e.3)
  failed_uses Gives gave (Computed number) e = absurd e
  failed_uses Gives gave (compute.Found at number unused) e = absurd e
  failed_uses Gives gave (compute.FaultStands at number unused) e = absurd e
  failed_uses Gives gave (Unkept value cause) e = absurd e
  failed_uses Gives gave (compute.Refused refusal unused) e = absurd e

  -- no factory comes back
  pub failed_back : {F : Type 0} (factory : F) (r : Compute V F) → EndsFailed store why claim b c (without_factory r) → HandsBack factory r
  failed_back factory (Failed said) e = tt
  failed_back factory (FaultKept number) e = tt
  failed_back factory (FaultUnkept said cause) e = tt
  failed_back factory (Computed number) e = tt
  failed_back factory (compute.Found at number unused) e = absurd e
  failed_back factory (compute.FaultStands at number unused) e = absurd e
  failed_back factory (Unkept value cause) e = tt
  failed_back factory (compute.Refused refusal unused) e = absurd e

  pub failed_apart : {F : Type 0} (Fact : ℕ → Type 0) (r : Compute V F) → EndsFailed store why claim b c (without_factory r) → IfComputed r Fact
  failed_apart Fact (Failed said) e = tt
  failed_apart Fact (FaultKept number) e = tt
  failed_apart Fact (FaultUnkept said cause) e = tt
  failed_apart Fact (Computed number) e = absurd e
  failed_apart Fact (compute.Found at number unused) e = tt
  failed_apart Fact (compute.FaultStands at number unused) e = tt
  failed_apart Fact (Unkept value cause) e = tt
  failed_apart Fact (compute.Refused refusal unused) e = tt

  off_on : {A : Type 0} (keeps : Bool) → IsTrue keeps → IsFalse keeps → A
  off_on keeps on off = let e : true ≡ false = sym on ∙ off in absurd (cc e)

  -- and a store that keeps no faults kept none
  pub failed_faultless : {F : Type 0} → IsFalse store.id.cells.limits.keep_faults → (r : Compute V F) → EndsFailed store why claim b c (without_factory r) → IsFaultless r
  failed_faultless off (Failed said) e = tt
  failed_faultless off (FaultKept number) e = off_on store.id.cells.limits.keep_faults e.0 off
  failed_faultless off (FaultUnkept said cause) e = off_on store.id.cells.limits.keep_faults e.0 off
  failed_faultless off (Computed number) e = tt
  failed_faultless off (compute.Found at number unused) e = tt
  failed_faultless off (compute.FaultStands at number unused) e = absurd e
  failed_faultless off (Unkept value cause) e = tt
  failed_faultless off (compute.Refused refusal unused) e = tt

-- ---- the frame of a claim

module _ {V : Type 0} (id : StoreId) (inside a b : StoreLane V) (is : inside ≡ a) (mine : IsLaneOf id a) (cells : b.cells.cells ≡ inside.cells.cells) (on_cells : IsOnCells inside b) where
  -- of calls that store nothing,
  pub storing_frame : (acts : List (Act ℕ)) → All StoresNone acts → Calls inside.cells.cells.limits inside.cells.view b.cells.view acts → Frame id [] a b
  storing_frame acts none calls = frame_of id inside a b is mine cells on_cells acts calls (storing_none inside.cells.cells.limits inside b acts none calls (ap (λ (l : StoreLane V). l.known) on_cells))

  -- by the limits of the store's cells,
  pub storing_there : (store : ContextCells) → store.cells ≡ id.cells → (acts : List (Act ℕ)) → All StoresNone acts → Calls store.cells.limits inside.cells.view b.cells.view acts → Frame id [] a b
  storing_there store own acts none calls =
      let ours : store.cells ≡ inside.cells.cells = own ∙ (sym mine.cells ∙ ap (λ (l : StoreLane V). l.cells.cells) (sym is)) in
      storing_frame acts none (subst (λ (z : CellsId). Calls z.limits inside.cells.view b.cells.view acts) ours calls)

  -- as of the claim of a missing value along a path,
  pub along_frame : (store : ContextCells) → store.cells ≡ id.cells → (path : List ℕ) (key : ℕ) (r : Result ℕ Unused) → ClaimsAlong store path key inside.cells.view b.cells.view r → Frame id [] a b
  along_frame store own [] key r m = absurd m
  along_frame store own (context ∷ rest) key r m =
      let made = claim_acts store context rest key inside.cells.view b.cells.view r m in
      storing_there store own made.0 made.1 made.2

  -- and along that of the context
  pub claim_frame : (store : ContextCells) → store.cells ≡ id.cells → (context key : ℕ) (r : Result ℕ Unused) → ClaimsMissing store context key inside.cells.view b.cells.view r → Frame id [] a b
  claim_frame store own context key r m = along_frame store own (context ∷ m.0) key r m.2

-- A value was kept, which has a frame, and then its number was stored in a claimed cell: it is none that was kept before
pub fill_frame : {V : Type 0} (id : StoreId) (a inside b c : StoreLane V) → inside ≡ b → Frame id [] a b → c.cells.cells ≡ inside.cells.cells → IsOnCells inside c
    → (at number : ℕ) → Calls inside.cells.cells.limits inside.cells.view c.cells.view (Fill at number ∷ []) → ((m : ℕ) → IsKeptBy a m → m ≢ number) → Frame id [] a c
fill_frame {V} id a inside b c is one cells on_cells at number calls apart =
    frame_spares id number a c
    (frames_compose id [] (number ∷ []) a b c one (but_frame id inside b c is (frame_lane id [] a b one) cells on_cells number (Fill at number ∷ []) calls (filled_keeps inside.cells.cells.limits inside c at number calls (ap (λ (l : StoreLane V). l.known) on_cells))))
    apart

-- and the same of a fault
pub fail_frame : {V : Type 0} (id : StoreId) (a inside b c : StoreLane V) → inside ≡ b → Frame id [] a b → c.cells.cells ≡ inside.cells.cells → IsOnCells inside c
    → (at number : ℕ) → Calls inside.cells.cells.limits inside.cells.view c.cells.view (Fail at number ∷ []) → ((m : ℕ) → IsKeptBy a m → m ≢ number) → Frame id [] a c
fail_frame {V} id a inside b c is one cells on_cells at number calls apart =
    frame_spares id number a c
    (frames_compose id [] (number ∷ []) a b c one (but_frame id inside b c is (frame_lane id [] a b one) cells on_cells number (Fail at number ∷ []) calls (failed_keeps inside.cells.cells.limits inside c at number calls (ap (λ (l : StoreLane V). l.known) on_cells))))
    apart
