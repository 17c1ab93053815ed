-- The open places of a node, of those that it shares: which contexts they are in, what is beside them, and that the node's calls fit them; and what a node computes that shares no value.
use Rattle.std.proofs.Common.{◌≡◌, ◌≢◌, ◌⊎◌, ℕ, inl, inr, Bool, true, false, true≢false, ◌||◌, List, [], ◌∷◌, ◌++◌, Contains, Option, None, Some, drop, refl, ap, sym, subst, ◌∙◌, append_assoc}
use Rattle.std.specs.Prelude.{All, if◌then◌else◌}
use Rattle.std.proofs.lemmas.List.Elements.{Contains-append_left, Contains-get_or, Contains-push_cases}
use Rattle.std.specs.List.{flat_map}
use Rattle.ext_history.proofs.Lists.{contains_later, contains_none}
use Rattle.ext_model.specs.History.{History}
use Rattle.ext_tree.specs.Keys.{KeyValue}
use Rattle.ext_tree.specs.Trees.{IsPathOf}
use Rattle.ext_lifecycle.specs.declared.call.Call.{Call}
use Rattle.ext_lifecycle.specs.Callbacks.{test_call}
use Rattle.ext_locks.specs.Opening.{LocksView}
use Rattle.ext_plan.specs.declared.word.Word.TheVariants as words
use Rattle.ext_plan.specs.Plans.{PlanText, StepKeyText, StepText, keyed, fail, abort}
use Rattle.ext_plan.specs.PlanCalls.{steps_of_call}
use Rattle.ext_plan.specs.ReadPlans.{ids_of_nodes}
use Rattle.ext_plan.specs.StepCalls.{start_of}
use Rattle.ext_plan.specs.StoreKeys.{key_of_step}
use Rattle.ext_plan_plain.specs.ValueStates.{ValueState}
use Rattle.ext_races.specs.Acts.{ActText, stores}
use Rattle.ext_races.specs.MadeSteps.{calls_after, calls_before, plan_path, steps_before}
use Rattle.ext_races.proofs.Lists.{contains-flat_map, contains-flat_map_back}
use Rattle.ext_one_report.proofs.MatchingWords.{Places, RunView}
use Rattle.ext_one_report.proofs.PlanCells.{changed_by}
use Rattle.ext_one_report.proofs.ChildLists.{only}
use Rattle.ext_one_report.proofs.ComputedAbove.{StoresAt, IsStoredIn, NoneOpenAbove}
use Rattle.ext_one_report.specs.Within.{is_within}
use Rattle.ext_one_report.proofs.Open.{AreOpenBeside, ComputesOpen, FailsOpen, Given, IsKeptBy, Open, also, some_or_none, still_open, values_of, of_fault, of_nothing, of_value}
use Rattle.ext_one_report.specs.Shares.{SharesNothing}
use Rattle.ext_one_report.proofs.OpenCalls.{AreSettled, BeforesFit, CallFitsOpen, FitsBehind, NoneOpen}
use Rattle.ext_one_report.proofs.Shared.{unshared, SharesAbove}
use Rattle.ext_one_report.proofs.SharedNodesWords.{IsSharedBasis}
use Rattle.ext_one_report.proofs.NodePlaces.{both_ways, or_second}
use Rattle.ext_one_report.proofs.NodeTrees.{its_path, on_its_path, under_within, within_itself}
use Rattle.ext_one_report.proofs.SharedNodesPlaces.{not_both, still_parts, unshared_is, unshared_off}
use Rattle.ext_one_report.proofs.OpenLists.{computes_before}
use Rattle.ext_one_report.proofs.Fills.{Fills, Spot}
use Rattle.ext_one_report.proofs.FillsCounts.{none_filled_apart}
use Rattle.ext_one_report.proofs.WordCases.{stores_all}

-- ---- fewer open places

also_by : (context : ℕ) (key : KeyValue) (touched : Places) (on : Bool) (o : Option Given) → (on ≡ true → (v : Given) × (o ≡ Some v)) → ((v : Given) → o ≡ Some v → touched context key ≡ true)
    → (unshared touched (λ c k. o) context key || on) ≡ unshared touched (λ c k. if on then None else o) context key
also_by context key touched true o were there = let was = were refl in or_second (unshared touched (λ c k. o) context key) true refl ∙ sym (there was.0 was.1)
also_by context key touched false o were there = or_none (unshared touched (λ c k. o) context key)
  where
    or_none : (b : Bool) → (b || false) ≡ b
    or_none true = refl
    or_none false = refl

-- where some open places are settled, these and the others that are touched are all that is touched and not open
also_same : (touched : Places) (open_at : Open) (settled : Places) → ((context : ℕ) (key : KeyValue) → settled context key ≡ true → (v : Given) × (open_at context key ≡ Some v))
    → ((context : ℕ) (key : KeyValue) (v : Given) → open_at context key ≡ Some v → touched context key ≡ true) → also settled (unshared touched open_at) ≡ unshared touched (still_open settled open_at)
also_same touched open_at settled were there = λ i context key. also_by context key touched (settled context key) (open_at context key) (were context key) (there context key) i

-- where fewer places are open, none of those is that was computed above
pub none_fewer : (plan : PlanText) (nodes : List ℕ) (o later : Open) → ((context : ℕ) (key : KeyValue) (v : Given) → later context key ≡ Some v → o context key ≡ Some v)
    → NoneOpenAbove plan nodes o → NoneOpenAbove plan nodes later
none_fewer plan nodes o later fewer none context key computed = elim (some_or_none (later context key)) [
  | inl closed ↦ closed
  | inr some ↦ not_both (o context key) some.0 (none context key computed) (fewer context key some.0 some.1)
]

-- ---- a step that stores a value

fails_none : (put : Bool) → stores put words.ComputeFail ≡ false
fails_none true = refl
fails_none false = refl

-- At a place that is shared it computes the value that is shared, and so that of a place that is open
computes_open : (plan : PlanText) (path : List ℕ) (shared later : Open) (step : StepText) (context : ℕ) (key : KeyValue) (v : Given) → StoresAt plan path step context key
    → ((key : StepKeyText) (up : ℕ) (w : Given) → changed_by step ≡ Some (key, up) → shared (start_of (drop up path)) (key_of_step plan.keys key) ≡ Some w
    → ComputesOpen plan.keys path shared step ⊎ FailsOpen plan.keys path shared step)
    → shared context key ≡ Some v → later context key ≡ Some v → ComputesOpen plan.keys path later step
computes_open plan path shared later (fail text) context key v computes each was is = let none = computes.is in absurd (cc none)
computes_open plan path shared later (abort text) context key v computes each was is = let none = computes.is in absurd (cc none)
computes_open plan path shared later (keyed word step_key text up) context key v computes each was is =
    let act : ActText = record { word = word; key = step_key; text = text; up = up } in
    let there : Some act ≡ Some computes.act = computes.is in
    let same : computes.act ≡ act = sym (cc there) in
    let stored : stores computes.put word ≡ true = subst (λ (a : ActText). stores computes.put a.word ≡ true) same computes.stored in
    let at : context ≡ start_of (drop up path) = sym (subst (λ (a : ActText). start_of (drop a.up path) ≡ context) same computes.at) in
    let of : key ≡ key_of_step plan.keys step_key = sym (subst (λ (a : ActText). key_of_step plan.keys a.key ≡ key) same computes.named) in
    let changed : changed_by (keyed word step_key text up) ≡ Some (step_key, up) = ap (λ b. if b then Some (step_key, up) else None) (stores_all computes.put word stored).0 in
    let P : Open → ℕ → KeyValue → Type 0 = λ o c k. o c k ≡ Some v in
    let was_there = subst (λ c. P shared c (key_of_step plan.keys step_key)) at (subst (λ k. P shared context k) of was) in
    let is_there = subst (λ c. P later c (key_of_step plan.keys step_key)) at (subst (λ k. P later context k) of is) in
    elim (each step_key up v changed was_there) [
      | inl whole ↦ (whole.0, is_there ∙ sym was_there ∙ whole.1)
      | inr fails ↦ absurd (true≢false (sym stored ∙ ap (stores computes.put) fails.0 ∙ fails_none computes.put))
    ]

-- ---- the open places of a node

-- where each value that is shared is computed above, none is open
no_values : (plan : PlanText) (shares : ℕ → Open) (node : ℕ) (open_at : Open) → ((context : ℕ) (key : KeyValue) (v : Given) → open_at context key ≡ Some v → shares node context key ≡ Some v)
    → NoneOpenAbove plan (drop 1 (plan_path plan node)) open_at → SharesAbove plan shares node → SharesNothing (values_of open_at)
no_values plan shares node open_at open_is none above context key = by (open_at context key) refl
  where
    by : (o : Option Given) → open_at context key ≡ o → values_of (λ c k. o) context key ≡ None
    by None is = refl
    by (Some (of_value v)) is = let e : Some (of_value v) ≡ None = sym is ∙ none context key (above context key v (open_is context key (of_value v) is)) in absurd (cc e)
    by (Some (of_fault text)) is = refl
    by (Some (of_nothing text)) is = refl

-- and then both have computed as many
pub same_filled : (plan : PlanText) (shares : ℕ → Open) (node : ℕ) (open_at later : Open) (Filled : Spot → Type 0) (s : ValueState) (lanes plain : ℕ)
    → ((context : ℕ) (key : KeyValue) (v : Given) → open_at context key ≡ Some v → shares node context key ≡ Some v) → NoneOpenAbove plan (drop 1 (plan_path plan node)) open_at → SharesAbove plan shares node
    → Fills Filled open_at later s lanes plain → lanes ≡ plain
same_filled plan shares node open_at later Filled s lanes plain open_is none above fills = none_filled_apart Filled open_at later s lanes plain by_values fills
  where
    by_values : SharesNothing (values_of open_at)
    by_values = no_values plan shares node open_at open_is none above

module _ (plan : PlanText) (run : RunView) (locks : LocksView) (h : History) (touched changes : ℕ → Places) (changed : ℕ → List ℕ) (shares : ℕ → Open)
    (basis : IsSharedBasis plan run locks h touched changes changed shares) (node : ℕ) where
  -- those that it shares are beside the others that it touches
  pub shared_beside : (open_at : Open) → ((context : ℕ) (key : KeyValue) (v : Given) → open_at context key ≡ Some v → shares node context key ≡ Some v)
      → AreOpenBeside run (unshared (touched node) open_at) open_at
  shared_beside open_at open_is = record {
    apart = λ context key v is. unshared_off (touched node) open_at context key v is;
    above = λ context key v path is path_is.
        let its = subst (λ ids. IsPathOf ids context (context ∷ path)) basis.tree path_is in
        let all = basis.shared.above node context key v path (open_is context key v is) its in
        λ k d within. unshared_is (touched node) open_at _ key (all k d within).0 (not_open open_at open_is _ key (all k d within).1);
    kept = λ context key v is. subst (λ keep. IsKeptBy keep v) (sym basis.keeps) (basis.shared.kept node context key v (open_is context key v is));
  }
    where
      not_open : (open_at : Open) → ((context : ℕ) (key : KeyValue) (v : Given) → open_at context key ≡ Some v → shares node context key ≡ Some v)
          → (context : ℕ) (key : KeyValue) → shares node context key ≡ None → open_at context key ≡ None
      not_open open_at open_is context key none = elim (some_or_none (open_at context key)) [
        | inl is ↦ is
        | inr some ↦ not_both (shares node context key) some.0 none (open_is context key some.0 some.1)
      ]

  -- ---- the calls up to the body

  module _ (path : List ℕ) (its : IsPathOf (ids_of_nodes plan.nodes) node path) where
    abbrev AreOf : Open → Type 0
    AreOf open_at = (context : ℕ) (key : KeyValue) (v : Given) → open_at context key ≡ Some v → shares node context key ≡ Some v

    abbrev Apart : Open → Type 0
    Apart open_at = NoneOpenAbove plan (drop 1 path) open_at

    later_apart : (open_at : Open) (settled : Places) → Apart open_at → Apart (still_open settled open_at)
    later_apart open_at settled apart = none_fewer plan (drop 1 path) open_at (still_open settled open_at) (λ context key v is. (still_parts settled open_at context key v is).1) apart

    later_of : (open_at : Open) (settled : Places) → AreOf open_at → AreOf (still_open settled open_at)
    later_of open_at settled open_is context key v is = open_is context key v (still_parts settled open_at context key v is).1

    fits_same : (open_at : Open) (settled : Places) (steps : List StepText) → AreOf open_at → AreSettled plan.keys path open_at settled steps
        → unshared (touched node) (still_open settled open_at) ≡ also settled (unshared (touched node) open_at)
    fits_same open_at settled steps open_is are =
        sym (also_same (touched node) open_at settled are.were_open (λ context key v is. basis.shared.touched_there node context key v (open_is context key v is)))

    -- each of them fits, where all is settled that those before it compute
    befores_fit_from : (before calls last : List Call) (open_at : Open) → calls_before plan node ++ test_call node ∷ [] ≡ before ++ (calls ++ last) → AreOf open_at → Apart open_at
        → NoneOpen plan.keys path open_at (flat_map (steps_of_call plan) before) → BeforesFit run plan path (unshared (touched node) open_at) open_at calls
    befores_fit_from before [] last open_at whole open_is apart none = tt
    befores_fit_from before (call ∷ calls) last open_at whole open_is apart none = (
      basis.shared.befores node path before call (calls ++ last) open_at its whole open_is apart none,
      λ settled are.
          let later = still_open settled open_at in
          subst (λ (places : Places). BeforesFit run plan path places later calls) (fits_same open_at settled (steps_of_call plan call) open_is are)
          (befores_fit_from (before ++ call ∷ []) calls last later (whole ∙ sym (append_assoc before (call ∷ []) (calls ++ last))) (later_of open_at settled open_is) (later_apart open_at settled apart) (record {
            none = λ step held computes.
                let from = contains-flat_map_back (steps_of_call plan) (before ++ call ∷ []) step held in
                elim (Contains-push_cases before call from.0 from.1) [
                  | inl old ↦ none.none step (contains-flat_map (steps_of_call plan) before from.0 step old from.2) (computes_before plan.keys path open_at settled step computes)
                  | inr same ↦ are.none_left.none step (subst (λ c. Contains (steps_of_call plan c) step) (sym same) from.2) computes
                ];
          })),
    )

    nothing_before : (open_at : Open) → NoneOpen plan.keys path open_at (flat_map (steps_of_call plan) [])
    nothing_before open_at = record { none = λ step held computes. contains_none step held }

    pub befores_fit : (open_at : Open) → AreOf open_at → Apart open_at → BeforesFit run plan path (unshared (touched node) open_at) open_at (calls_before plan node)
    befores_fit open_at open_is apart = befores_fit_from [] (calls_before plan node) (test_call node ∷ []) open_at refl open_is apart (nothing_before open_at)

    pub body_fits : (open_at : Open) → AreOf open_at → Apart open_at → FitsBehind run plan path (unshared (touched node) open_at) open_at (calls_before plan node) (test_call node)
    body_fits open_at open_is apart settled are =
        let later = still_open settled open_at in
        subst (λ (places : Places). CallFitsOpen run plan path places later (test_call node)) (fits_same open_at settled (flat_map (steps_of_call plan) (calls_before plan node)) open_is are)
        (basis.shared.befores node path (calls_before plan node) (test_call node) [] later its refl (later_of open_at settled open_is) (later_apart open_at settled apart) are.none_left)

  module _ (path : List ℕ) (its : IsPathOf (ids_of_nodes plan.nodes) node path) (open_at : Open)
      (open_is : (context : ℕ) (key : KeyValue) (v : Given) → open_at context key ≡ Some v → shares node context key ≡ Some v) where
    -- they are not in its own context,
    pub open_elsewhere : (context : ℕ) (key : KeyValue) (v : Given) → open_at context key ≡ Some v → context ≢ node
    open_elsewhere context key v is same =
        both_ways (is_within plan node context) (subst (λ c. is_within plan node c ≡ true) (sym same) (within_itself plan basis.read.runnable.tree node path its))
        (basis.shared.outside node context key v (open_is context key v is))

    -- nor below it
    pub open_not_below : (context : ℕ) (key : KeyValue) (v : Given) (above : List ℕ) → open_at context key ≡ Some v → IsPathOf run.store.tree context (context ∷ above) → All (λ c. c ≢ node) above
    open_not_below context key v above is path_is = λ k d within same.
        let its_path = subst (λ ids. IsPathOf ids context (context ∷ above)) basis.tree path_is in
        let there : Contains (context ∷ above) node = subst (λ c. Contains (context ∷ above) c) same (contains_later context above _ (Contains-get_or above k d within)) in
        both_ways (is_within plan node context)
        (under_within plan basis.read.runnable.tree node context (on_its_path plan basis.read.runnable.tree context (context ∷ above) node its_path there))
        (basis.shared.outside node context key v (open_is context key v is))

    -- and its callbacks after the body fit them
    pub after_fits : NoneOpenAbove plan (drop 1 path) open_at → (call : Call) → Contains (calls_after plan node) call → CallFitsOpen run plan path (unshared (touched node) open_at) open_at call
    after_fits apart call there = basis.shared.afters node path call open_at its there open_is apart

    -- where none is open whose value its own callbacks before the body compute, none is that they compute
    pub none_computed : NoneOpen plan.keys path open_at (steps_before plan node) → (context : ℕ) (key : KeyValue) → IsStoredIn plan (node ∷ []) context key → open_at context key ≡ None
    none_computed none context key computed = elim (some_or_none (open_at context key)) [
      | inl closed ↦ closed
      | inr some ↦
          let same = sym (only node computed.node computed.among) in
          let held : Contains (steps_before plan node) computed.step = subst (λ n. Contains (steps_before plan n) computed.step) same computed.held in
          let along : plan_path plan computed.node ≡ path = ap (λ n. plan_path plan n) same ∙ sym (its_path plan basis.read.runnable.tree node path its) in
          let of = contains-flat_map_back (steps_of_call plan) (calls_before plan node) computed.step held in
          let own = Contains-append_left (calls_before plan node ++ test_call node ∷ []) (calls_after plan node) of.0 (Contains-append_left (calls_before plan node) (test_call node ∷ []) of.0 of.1) in
          absurd (none.none computed.step held
          (computes_open plan path (shares node) open_at computed.step context key some.0 (subst (λ l. StoresAt plan l computed.step context key) along computed.computes)
          (λ step_key up w changed shared. basis.shared.computes node path of.0 computed.step step_key up w its own of.2 changed shared) (open_is context key some.0 some.1) some.1))
    ]
