-- That no waiting form is refused because a key is not placed, and that a look-up is refused for its key alone.
use Rattle.std.proofs.Common.{◌≡◌, ◌≢◌, inl, inr, ℕ, List, Option, refl, ap, ◌∙◌, subst, sym}
use Rattle.std.specs.Prelude.{Result, Ok, Err}
use Rattle.ext_model.specs.declared.event.Act.TheVariants.{Put, Remove}
use Rattle.ext_model.specs.declared.look.Look.{Look}
use Rattle.ext_model.specs.Events as events
use Rattle.ext_tree.specs.Keys.{KeyValue, KnownPlace, IsKeyFault}
use Rattle.ext_tree.specs.declared.key_fault.KeyFault.{KeyFault}
use Rattle.ext_tree.specs.declared.key_fault.KeyFault.TheVariants as key_fault
use Rattle.ext_cells.specs.Lanes.{Lane}
use Rattle.ext_store_core.specs.declared.fault.Refusal.{Refusal}
use Rattle.ext_store_core.specs.declared.fault.Refusal.TheVariants as refusal
use Rattle.ext_store.specs.declared.computed.Compute.{Compute}
use Rattle.ext_store.specs.declared.computed.Compute.TheVariants as computes
use Rattle.ext_store.specs.Stores.{StoreView, cell_in}
use Rattle.ext_store.specs.LaneCalls.{Gets, Puts, Removes, reply_to, result_at, with_kept, IsKeyRefused, OfKey, key_refusal}
use Rattle.ext_store_core.specs.ContextCalls as cells
use Rattle.ext_store_core.specs.Claiming as claiming
use Rattle.ext_store.specs.Computing.{ComputesFrom, Computes}
use Rattle.ext_store.specs.Waiting.{ComputesAfterWaits, IsDecided}
use Rattle.ext_plan_parallel.specs.declared.steps.stored_value.StoredValue.{StoredValue}
use Rattle.ext_plan_parallel.specs.StoreCalls.{PlanLane}

-- ---- looks

look_is_ok : (store : StoreView) (context key : ℕ) (before after : Lane) (why : Refusal) → Gets store context key before after (Err why) → IsDecided why → ⊥
unfolding cells.Gets
look_is_ok store context key before after (refusal.Busy at) looks decided = decided
look_is_ok store context key before after (refusal.Closed at) looks decided = let h = looks.2.looked.replied (λ e. cc) in cc (h.point.2)
look_is_ok store context key before after refusal.Contended looks decided = decided
look_is_ok store context key before after refusal.Exhausted looks decided = let h = looks.2.looked.replied (λ e. cc) in cc (h.point.2)
look_is_ok store context key before after refusal.DirectoryFull looks decided = let h = looks.2.looked.replied (λ e. cc) in cc (h.point.2)
look_is_ok store context key before after refusal.Unplaced looks decided = let h = looks.2.looked.replied (λ e. cc) in cc (h.point.2)
look_is_ok store context key before after refusal.Memory looks decided = let h = looks.2.looked.replied (λ e. cc) in cc (h.point.2)

-- a look-up that is refused is refused for its key
pub look_refused : (store : StoreView) (context : ℕ) (key : KeyValue) (a b : PlanLane) (why : Refusal)
    → OfKey a b key (λ w. ◌≡◌ {A = Result Look Refusal} (Err why) (Err w)) (λ number. Gets store context number a.cells b.cells (Err why)) → IsDecided why → IsKeyRefused a b key why
look_refused store context key a b why (inl named) decided = absurd (look_is_ok store context named.0 a.cells b.cells why named.2 decided)
look_refused store context key a b why (inr refused) decided = let same : refused.0 ≡ why = cc refused.2 in subst (λ w. IsKeyRefused a b key w) same refused.1

-- ---- a key

no_fault_unplaced : (notes : List KnownPlace) (key : KeyValue) (fault : KeyFault) → IsKeyFault notes key fault → key_refusal fault ≢ refusal.Unplaced
no_fault_unplaced notes key key_fault.DirectoryFull refused = λ e. absurd (cc e)
no_fault_unplaced notes key key_fault.Unplaced refused = absurd refused
no_fault_unplaced notes key key_fault.Memory refused = λ e. absurd (cc e)

pub key_placed : (key : KeyValue) (a b : PlanLane) (why : Refusal) → IsKeyRefused a b key why → why ≢ refusal.Unplaced
key_placed key a b why refused = λ same. no_fault_unplaced b.keys key refused.fault refused.refused (sym refused.why_is ∙ same)

-- ---- changes

never_unplaced : (context : ℕ) (reply : events.Reply) → result_at context reply ≡ Err refusal.Unplaced → ⊥
never_unplaced context (events.Happens answer) e = cc
never_unplaced context (events.Answers answer) e = cc
never_unplaced context (events.Refuses events.NumbersFull) e = cc
never_unplaced context (events.Refuses events.Busy) e = cc
never_unplaced context (events.Refuses events.Closed) e = cc
never_unplaced context (events.Refuses events.Exhausted) e = cc
never_unplaced context (events.Refuses (events.Standing number)) e = cc
never_unplaced context (events.Refuses (events.FaultStanding number)) e = cc
never_unplaced context (events.Refuses events.Barred) e = cc

-- the result of a put without the number that it hands back
abbrev without_kept : Result (Option ℕ) (ℕ × Refusal) → Result (Option ℕ) Refusal
without_kept (Ok stood) = Ok stood
without_kept (Err refused) = Err refused.1

kept_apart : (number : ℕ) (result : Result (Option ℕ) Refusal) → without_kept (with_kept number result) ≡ result
kept_apart number (Ok stood) = refl
kept_apart number (Err why) = refl

removes_placed : (store : StoreView) (context key : ℕ) (before after : Lane) (why : Refusal) → Removes store context key before after (Err why) → why ≢ refusal.Unplaced
unfolding cells.Removes
removes_placed store context key before after why removes same =
    let r = subst (λ w. Removes store context key before after (Err w)) same removes in
    let h = r.replied (λ e. cc) in
    never_unplaced context (reply_to before (Remove (cell_in store key context)) h.point.0) (sym h.point.2)

pub remove_placed : (store : StoreView) (context : ℕ) (key : KeyValue) (a b : PlanLane) (why : Refusal)
    → OfKey a b key (λ w. ◌≡◌ {A = Result (Option ℕ) Refusal} (Err why) (Err w)) (λ number. Removes store context number a.cells b.cells (Err why)) → why ≢ refusal.Unplaced
remove_placed store context key a b why (inl named) = removes_placed store context named.0 a.cells b.cells why named.2
remove_placed store context key a b why (inr refused) = let same : why ≡ refused.0 = cc refused.2 in λ e. key_placed key a b refused.0 refused.1 (sym same ∙ e)

puts_placed : (store : StoreView) (context key number : ℕ) (before after : Lane) (back : ℕ) (why : Refusal) → Puts store context key number before after (Err (back, why)) → why ≢ refusal.Unplaced
unfolding cells.Puts
puts_placed store context key number before after back why puts same =
    let r = subst (λ w. Puts store context key number before after (Err (back, w))) same puts in
    let h = r.replied (λ e. let apart = ap without_kept e in cc) in
    let reply = reply_to before (Put (cell_in store key context) number) h.point.0 in
    never_unplaced context reply (sym (kept_apart number (result_at context reply)) ∙ sym (ap without_kept h.point.2))

pub put_placed : (store : StoreView) (context : ℕ) (key : KeyValue) (number : ℕ) (a b : PlanLane) (back : ℕ) (why : Refusal)
    → OfKey a b key (λ w. ◌≡◌ {A = Result (Option ℕ) (ℕ × Refusal)} (Err (back, why)) (Err (number, w))) (λ place. Puts store context place number a.cells b.cells (Err (back, why))) → why ≢ refusal.Unplaced
put_placed store context key number a b back why (inl named) = puts_placed store context named.0 number a.cells b.cells back why named.2
put_placed store context key number a b back why (inr refused) =
    let pairs : ◌≡◌ {A = ℕ × Refusal} (back, why) (number, refused.0) = cc refused.2 in
    λ e. key_placed key a b refused.0 refused.1 (sym (ap (λ (x : ℕ × Refusal). x.1) pairs) ∙ e)

computes_placed : (store : StoreView) (context key : ℕ) (before after : Lane) (why : Refusal) (unused : Unit {0})
    → ComputesAfterWaits {V = StoredValue} store context key before after (computes.Refused why unused) → why ≢ refusal.Unplaced
unfolding claiming.IsRefused ComputesFrom Computes ComputesAfterWaits
computes_placed store context key before after why unused computed same =
    let r = subst (λ w. ComputesAfterWaits {V = StoredValue} store context key before after (computes.Refused w unused)) same computed in r.then_is.2

pub compute_placed : (store : StoreView) (context : ℕ) (key : KeyValue) (a b : PlanLane) (why : Refusal)
    → OfKey a b key (λ w. ◌≡◌ {A = Compute StoredValue (Unit {0})} (computes.Refused why tt) (computes.Refused w tt)) (λ number. ComputesAfterWaits {V = StoredValue} store context number a.cells b.cells (computes.Refused why tt))
    → why ≢ refusal.Unplaced
compute_placed store context key a b why (inl named) = computes_placed store context named.0 a.cells b.cells why tt named.2
compute_placed store context key a b why (inr refused) = let same : why ≡ refused.0 = cc refused.2 in λ e. key_placed key a b refused.0 refused.1 (sym same ∙ e)
