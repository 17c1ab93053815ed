-- Where the steps of a plan name few keys, there is a number for each.
use Rattle.std.proofs.Common.{◌≡◌, ◌≢◌, ◌≤◌, ◌<◌, ℕ, suc, Bool, true, false, List, [], ◌∷◌, ◌++◌, length, length-append, get_or, Option, Some, None, Contains, refl, ap, sym, ◌∙◌, arith, true≢false}
use Rattle.std.specs.Prelude.{All, IfSome, if◌then◌else◌}
use Rattle.std.proofs.lemmas.Bool.{ltb-false}
use Rattle.std.proofs.lemmas.List.Elements.{All-push}
use Rattle.ext_lifecycle.specs.declared.call.Call.{Call}
use Rattle.ext_tree.specs.Keys.{KeyValue, AreDifferent}
use Rattle.ext_tree.specs.Traits.{key_eq}
use Rattle.ext_tree.proofs.Equalities.{keys_Decides}
use Rattle.ext_tree.proofs.Numbers.{different_with}
use Rattle.ext_plan.specs.Plans.{KeyText, StepKeyText, StepText, PlanText}
use Rattle.ext_plan.specs.StoreKeys.{is_there, key_of_step}
use Rattle.ext_plan.specs.Steps.{step_key}
use Rattle.ext_plan.specs.PlanCalls.{steps_of_call}
use Rattle.ext_plan.proofs.KeyLists.{not_contained}
use Rattle.ext_plan.proofs.PlanCalls.{of_steps_called}
use Rattle.ext_plan_plain.specs.ValueStates.{ValueState, full, numbering_of}
use Rattle.ext_plan_plain.specs.NodeCalls.{call_run}
use Rattle.ext_plan_plain.specs.PlainRunLaws.{NamesOneOf, NamesOnly, NumbersOnly}
use Rattle.ext_plan_plain.proofs.Kept.{IsKeptNaming, node-kept-by, step-kept-by, steps-kept-by}
use Rattle.ext_plan_plain.proofs.Named.{OfKeys, of-keys}
use Rattle.ext_plan_plain.proofs.Numberings.{full_is, there_by}

-- ---- only keys that are named get numbers

module _ (names : List KeyValue) where
  abbrev Within : List KeyValue → Type 0
  Within keys = All (Contains names) keys

  more-within : (keys : List KeyValue) (key : KeyValue) → Contains names key → Within keys → Within (keys ++ key ∷ [])
  more-within keys key there within = All-push (Contains names) keys key within there

  naming : (key : KeyValue) → Contains names key → IsKeptNaming (OfKeys Within) key
  naming key there = record { gets = λ number s is within. more-within s.keys key there within }

  by-step : (keys : List KeyText) (key : Option StepKeyText) → IfSome key (λ key. Contains names (key_of_step keys key)) → IfSome key (λ key. IsKeptNaming (OfKeys Within) (key_of_step keys key))
  by-step keys None there = tt
  by-step keys (Some key) there = naming (key_of_step keys key) there

  call-within : (plan : PlanText) → NamesOnly names plan → (path : List ℕ) (call : Call) (s : ValueState) → Within s.keys → Within (call_run plan path call s).state.keys
  call-within plan only path call s within =
      let P : List StepText → Type 0 = All (NamesOneOf names plan.keys) in
      let of_call : P (steps_of_call plan call) = of_steps_called P plan.nodes call.kind call.index call.from (λ k d within. absurd (omega (arith, within))) only in
      steps-kept-by (OfKeys Within) (of-keys Within) plan.keys path (steps_of_call plan call) s (λ k d inside. by-step plan.keys (step_key (get_or (steps_of_call plan call) k d)) (of_call k d inside)) within

  pub only-named : (plan : PlanText) → NamesOnly names plan → NumbersOnly names plan
  only-named plan only = record {
    step = λ found path step s there within. step-kept-by (OfKeys Within) (of-keys Within) plan.keys found path step s (by-step plan.keys (step_key step) there) within;
    call = call-within plan only;
    node = λ levels path run within. node-kept-by (OfKeys Within) (of-keys Within) plan (call-within plan only) levels path run within;
  }

-- ---- different keys among few are few

without : KeyValue → List KeyValue → List KeyValue
without key [] = []
without key (first ∷ names) = if key_eq key first then names else first ∷ without key names

shorter-by : (key first : KeyValue) (names : List KeyValue) (same : Bool) → key_eq key first ≡ same → is_there (first ∷ names) key ≡ true → (is_there names key ≡ true → suc (length (without key names)) ≡ length names)
    → suc (length (without key (first ∷ names))) ≡ length (first ∷ names)
unfolding without
shorter-by key first names true same there shorter = rw same refl
shorter-by key first names false same there shorter = rw same (ap suc (shorter (rw same at there)))

shorter : (key : KeyValue) (names : List KeyValue) → is_there names key ≡ true → suc (length (without key names)) ≡ length names
shorter key [] there = absurd (true≢false (sym there))
shorter key (first ∷ names) there = shorter-by key first names (key_eq key first) refl there (shorter key names)

stays-by : (key other first : KeyValue) (names : List KeyValue) (same found : Bool) → key_eq key first ≡ same → key_eq other first ≡ found → (key ≡ other → ⊥) → is_there (first ∷ names) other ≡ true
    → (is_there names other ≡ true → is_there (without key names) other ≡ true) → is_there (without key (first ∷ names)) other ≡ true
unfolding without
stays-by key other first names true true same found differ there stays = absurd (differ ((keys_Decides key first).0 same ∙ sym ((keys_Decides other first).0 found)))
stays-by key other first names true false same found differ there stays = rw same (rw found at there)
stays-by key other first names false true same found differ there stays = rw (same, found) refl
stays-by key other first names false false same found differ there stays = rw (same, found) (stays (rw found at there))

stays : (key other : KeyValue) (names : List KeyValue) → (key ≡ other → ⊥) → is_there names other ≡ true → is_there (without key names) other ≡ true
stays key other [] differ there = absurd (true≢false (sym there))
stays key other (first ∷ names) differ there = stays-by key other first names (key_eq key first) (key_eq other first) refl refl differ there (stays key other names differ)

few : (names keys : List KeyValue) → AreDifferent keys → ((k : ℕ) (d : KeyValue) → k < length keys → is_there names (get_or keys k d) ≡ true) → length keys ≤ length names
few names [] different there = omega arith
few names (key ∷ keys) different there =
    let less : length keys ≤ length (without key names) =
    few (without key names) keys (λ n m d below within. different (suc n) (suc m) d (omega (arith, below)) (omega (arith, within)))
    (λ k d within. stays key (get_or keys k d) names (different 0 (suc k) d (omega arith) (omega (arith, within))) (there (suc k) d (omega (arith, within)))) in
    let one = shorter key names (there 0 key (omega arith)) in
    omega (arith, less, one)

-- no key of them finds all numbers given
pub has_room : (places : ℕ) (names keys : List KeyValue) (key : KeyValue) → length names ≤ places → AreDifferent keys → All (Contains names) keys → Contains names key → numbering_of places keys key ≢ full
has_room places names keys key limit different within there = λ is.
    let no = full_is places keys key is in
    let all : All (Contains names) (keys ++ key ∷ []) = more-within names keys key there within in
    let count = few names (keys ++ key ∷ []) (different_with keys key different (not_contained keys key no.there)) (λ k d inside. there_by names (get_or (keys ++ key ∷ []) k d) (is_there names (get_or (keys ++ key ∷ []) k d)) refl (all k d inside)) in
    let given = ltb-false (length keys) places no.room in
    omega (arith, count, given, limit, length-append keys (key ∷ []))
