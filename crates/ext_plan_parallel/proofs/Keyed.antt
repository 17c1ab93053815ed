-- What a step does by its call, from what the store answers a call by a key.
use Rattle.std.proofs.Common.{◌≡◌, inl, inr, ℕ, List, Option, refl, ap, ◌∙◌, subst, sym}
use Rattle.std.specs.Prelude.{Result, Ok, Err, String, string_bytes}
use Rattle.ext_model.specs.declared.look.Fault.{Fault}
use Rattle.ext_model.specs.declared.look.Fault.TheVariants as faults
use Rattle.ext_lifecycle.specs.declared.outcome.Outcome.{Outcome}
use Rattle.ext_lifecycle.specs.FaultTexts.{VerdictText}
use Rattle.ext_tree.specs.Keys.{KeyValue, KnownPlace, IsKeyFault, IsKeyNumber, PlacesOnly}
use Rattle.ext_tree.proofs.KeyPlacing.{places_nothing}
use Rattle.ext_cells.specs.Lanes.{Lane}
use Rattle.ext_store_core.specs.declared.fault.Refusal.{Refusal}
use Rattle.ext_store.specs.declared.computed.Compute.{Compute}
use Rattle.ext_store.specs.declared.computed.Compute.TheVariants as computes
use Rattle.ext_store.specs.Stores.{StoreView, StoreLane}
use Rattle.ext_store.proofs.Numbered.{placed_still}
use Rattle.ext_store.specs.LaneCalls.{Puts, Removes, KeepsAs, IsKeyRefused, OfKey}
use Rattle.ext_store.specs.Computing.{Uses}
use Rattle.ext_store.specs.Waiting.{ComputesAfterWaits}
use Rattle.ext_plan.specs.StepCalls.{CallText, start_of}
use Rattle.ext_plan.specs.Verdicts.{SeenText}
use Rattle.std.specs.declared.alloc.Global.{Global}
use Rattle.ext_plan_parallel.specs.declared.steps.stored_value.StoredValue.{StoredValue}
use Rattle.ext_plan_parallel.specs.Saying.{Ends, EndsRefused}
use Rattle.ext_plan_parallel.specs.StoreCalls.{KnowsTheSame, PlanLane, EndsChange, EndsCompute, EndsComputeFail, EndsPut, Sees, stored_view}
use Rattle.ext_plan_parallel.specs.StoreSteps.{PutsKept, StepComputes, StepFails, StepLooks, StepRemoves}

-- what is said of a number and of a refusal may be said otherwise
pub of_key : {V : Type 0} (a b : StoreLane V) (key : KeyValue) (Refuses Ending : Refusal → Type 0) (Holds Does : ℕ → Type 0) → ((why : Refusal) → Refuses why → Ending why) → ((number : ℕ) → Holds number → Does number)
    → OfKey a b key Refuses Holds → OfKey a b key Ending Does
of_key a b key Refuses Ending Holds Does refuses holds (inl named) = inl (named.0, named.1, holds named.0 named.2)
of_key a b key Refuses Ending Holds Does refuses holds (inr refused) = inr (refused.0, refused.1, refuses refused.0 refused.2)

-- and of a lane that was shown a value or a fault after the call
pub of_key_shown : {V : Type 0} (a b c : StoreLane V) (key : KeyValue) (Refuses : Refusal → Type 0) (Holds : ℕ → Type 0) → c.cells ≡ b.cells → c.keys ≡ b.keys → OfKey a b key Refuses Holds → OfKey a c key Refuses Holds
of_key_shown a b c key Refuses Holds cells keys (inl named) = inl (named.0, subst (λ (notes : List KnownPlace). IsKeyNumber notes key named.0) (sym keys) named.1, named.2)
of_key_shown a b c key Refuses Holds cells keys (inr refused) = inr (
  refused.0,
  record {
    fault = refused.1.fault;
    why_is = refused.1.why_is;
    refused = subst (λ (notes : List KnownPlace). IsKeyFault notes key refused.1.fault) (sym keys) refused.1.refused;
    still = cells ∙ refused.1.still;
  },
  refused.2,
)

-- an answer has a number
pub of_answer : {A : Type 0} (a b : PlanLane) (key : KeyValue) (answer : A) (Holds : ℕ → Type 0) → OfKey a b key (λ why. ◌≡◌ {A = Result A Refusal} (Ok answer) (Err why)) Holds
    → (number : ℕ) × IsKeyNumber b.keys key number × Holds number
of_answer a b key answer Holds (inl named) = named
of_answer a b key answer Holds (inr refused) = absurd (cc refused.2)

-- ---- places of keys

-- a call that leaves what the lane knows of keys puts no key at a place
pub placed_same : (key : KeyValue) (a b : PlanLane) → b.keys ≡ a.keys → PlacesOnly key a.keys b.keys
placed_same key a b same = placed_still key a.keys a.keys b.keys (places_nothing key a.keys) same

-- nor does one before the call that names the key
pub placed_after : (key : KeyValue) (a b c : PlanLane) → b.keys ≡ a.keys → PlacesOnly key b.keys c.keys → PlacesOnly key a.keys c.keys
placed_after key a b c same placed = subst (λ (notes : List KnownPlace). PlacesOnly key notes c.keys) same placed

-- ---- steps

module _ (store : StoreView) (call : CallText) (at : ℕ) (is : at ≡ start_of call.path) (a : PlanLane) (outcome : Outcome) (b : PlanLane) where
  pub step_looks : (verdict : SeenText → VerdictText) (seen : SeenText) → (number : ℕ) × IsKeyNumber b.keys call.key number × Sees store at number a seen b → Ends (verdict seen) 0 0 outcome
      → StepLooks store call verdict a outcome b
  step_looks verdict seen sees ends = inl (sees.0, sees.1, (seen, subst (λ k. Sees store k sees.0 a seen b) is sees.2, ends))

  pub step_refused : (verdict : SeenText → VerdictText) (why : Refusal) → IsKeyRefused a b call.key why × KnowsTheSame a b → EndsRefused call.name call.label why outcome → StepLooks store call verdict a outcome b
  step_refused verdict why refused ends = inr (why, refused.0, (refused.1, ends))

  pub step_removes : (result : Result (Option ℕ) Refusal) → OfKey a b call.key (λ why. result ≡ Err why) (λ number. Removes store at number a.cells b.cells result) → b.known ≡ a.known → b.faults ≡ a.faults
      → EndsChange call.name call.label result outcome → StepRemoves store call a outcome b
  step_removes result answer known faults ends =
      of_key a b call.key (λ why. result ≡ Err why) _ (λ number. Removes store at number a.cells b.cells result) _ (λ why same. ((known, faults), subst (λ r. EndsChange call.name call.label r outcome) same ends))
      (λ number removes. record { result = result; removes = subst (λ k. Removes store k number a.cells b.cells result) is removes; known = (known, faults); ends = ends }) answer

  pub step_puts : (value : StoredValue) (kept : ℕ) (between : PlanLane) (result : Result (Option ℕ) (ℕ × Refusal)) → KeepsAs value a between kept → between.faults ≡ a.faults
      → OfKey between b call.key (λ why. result ≡ Err (kept, why)) (λ number. Puts store at number kept between.cells b.cells result) → b.known ≡ between.known → b.faults ≡ between.faults
      → EndsPut call.name call.label result outcome → PutsKept store call (stored_view value) a outcome b
  step_puts value kept between result keeps same_faults answer known faults ends = record {
    kept_value = value;
    value_is = refl;
    kept = kept;
    between = between;
    keeps = keeps;
    faults_between = same_faults;
    stores =
        of_key between b call.key (λ why. result ≡ Err (kept, why)) _ (λ number. Puts store at number kept between.cells b.cells result) _ (λ why same. ((known, faults), subst (λ r. EndsPut call.name call.label r outcome) same ends))
        (λ number puts. record { result = result; puts = subst (λ k. Puts store k number kept between.cells b.cells result) is puts; ends = ends }) answer;
    known = (known, faults);
  }

  -- a compute, and after it maybe the call that shows what was met
  module _ (between : PlanLane) (result : Compute StoredValue (Unit {0})) (cells : b.cells ≡ between.cells) (keys : b.keys ≡ between.keys)
      (answer : OfKey a between call.key (λ why. result ≡ computes.Refused why tt) (λ number. ComputesAfterWaits {V = StoredValue} store at number a.cells between.cells result)) where
    made : (number : ℕ) → ComputesAfterWaits {V = StoredValue} store at number a.cells between.cells result → ComputesAfterWaits {V = StoredValue} store (start_of call.path) number a.cells b.cells result
    made number computed = subst (λ (x : ℕ × Lane). ComputesAfterWaits {V = StoredValue} store x.0 number a.cells x.1 result) (λ i. (is i, sym cells i)) computed

    same_after : (Gives : Result StoredValue Fault → Type 0) (why : Refusal) → result ≡ computes.Refused why tt → Uses Gives a between result → b ≡ between → KnowsTheSame a b
    same_after Gives why refused uses unshown =
        let u = subst (λ r. Uses Gives a between r) refused uses in
        (ap (λ (l : PlanLane). l.known) unshown ∙ u.0, ap (λ (l : PlanLane). l.faults) unshown ∙ u.1)

    pub step_computes : (value : StoredValue) → Uses (λ given. given ≡ Ok value) a between result → EndsCompute call.name call.label result between outcome b → StepComputes store call (stored_view value) a outcome b
    step_computes value uses ends =
        of_key a b call.key (λ why. result ≡ computes.Refused why tt) _ (λ number. ComputesAfterWaits {V = StoredValue} store at number a.cells between.cells result) _
        (λ why refused. let e = subst (λ r. EndsCompute call.name call.label r between outcome b) refused ends in (same_after (λ given. given ≡ Ok value) why refused uses e.0, e.1))
        (λ number computed. record { given = value; value_is = refl; result = result; computed = made number computed; between = between; uses = uses; ends = ends })
        (of_key_shown a between b call.key _ _ cells keys answer)

    pub step_fails : (message : String Global) (text : List ℕ) → string_bytes message ≡ text → Uses (λ given. given ≡ Err (faults.Text message)) a between result
        → EndsComputeFail call.name call.label text result between outcome b → StepFails store call text a outcome b
    step_fails message text message_is uses ends =
        of_key a b call.key (λ why. result ≡ computes.Refused why tt) _ (λ number. ComputesAfterWaits {V = StoredValue} store at number a.cells between.cells result) _
        (λ why refused. let e = subst (λ r. EndsComputeFail call.name call.label text r between outcome b) refused ends in (same_after (λ given. given ≡ Err (faults.Text message)) why refused uses e.0, e.1))
        (λ number computed. record { message = message; message_is = message_is; result = result; computed = made number computed; between = between; uses = uses; ends = ends })
        (of_key_shown a between b call.key _ _ cells keys answer)
