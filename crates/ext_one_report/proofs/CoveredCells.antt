-- The cells that the nodes of a plan change are those of the steps of their calls and of their contexts, and are at places that they may change.
use Rattle.std.proofs.Common.{◌≡◌, ◌≢◌, ◌<◌, ◌⊎◌, ℕ, Bool, true, false, List, [], ◌∷◌, ◌++◌, length, Contains, drop, Option, Some, None, refl, ap, sym, subst, ◌∙◌, arith, inl, inr, append_assoc}
use Rattle.std.specs.Prelude.{is_some}
use Rattle.std.specs.List.{flat_map, position_or_len, range_with_len}
use Rattle.std.proofs.lemmas.Bool.{false_from_ne_true}
use Rattle.std.proofs.lemmas.List.{length-map}
use Rattle.std.proofs.lemmas.List.Elements.{Contains-append_cases, Contains-append_left, Contains-append_right}
use Rattle.std.proofs.lemmas.List.Quantifiers.{position-Some}
use Rattle.std.proofs.lemmas.List.Sums.{position_or_len_is}
use Rattle.ext_tree.specs.Keys.{AreKeyNotesOf, IsKeyNumber, KeyValue, KnownPlace, key_at, unknown_place}
use Rattle.ext_tree.specs.Traits.{key_eq}
use Rattle.ext_tree.specs.Trees.{IsPathOf}
use Rattle.ext_tree.proofs.Equalities.{keys_Decides}
use Rattle.ext_tree.proofs.KeyPlacing.{key_within, length-places}
use Rattle.ext_store.specs.Stores.{StoreView, cell_in}
use Rattle.ext_locks.specs.Opening.{LocksView}
use Rattle.ext_lifecycle.specs.declared.call.Call.{Call}
use Rattle.ext_lifecycle.specs.Callbacks.{afters_of, befores_of, test_call}
use Rattle.ext_plan.specs.Plans.{PlanText, StepKeyText, StepText}
use Rattle.ext_plan.specs.PlanCalls.{registered, steps_of_call, test_of}
use Rattle.ext_plan.specs.ReadPlans.{IsReadPlan, ids_of_nodes}
use Rattle.ext_plan.specs.StepCalls.{start_of}
use Rattle.ext_plan.specs.StoreKeys.{key_of_step}
use Rattle.ext_races.specs.MadeSteps.{calls_of, plan_path}
use Rattle.ext_races.proofs.Lists.{contains-flat_map, contains-flat_map_back, contains-map, contains-map_back, contains-range, contains_cases, contains_first, contains_nothing}
use Rattle.ext_engine.specs.TreeRun.{TreeSetting}
use Rattle.ext_engine.specs.RunLaws.{IsAtOrBelow}
use Rattle.ext_engine.proofs.Above.{at_or_below, under, under_under}
use Rattle.ext_one_report.specs.Changing.{IsCallOf}
use Rattle.ext_one_report.proofs.PlanCells.{IsCellOf, changed_by, numbered_setting}
use Rattle.ext_one_report.proofs.Covered.{CellsAreAtPlaces, CellsAreChanged, cell_at, cell_changed, cells, cells_of_context, holds_key, number_of}
use Rattle.ext_one_report.specs.Within.{is_within}
use Rattle.ext_one_report.proofs.CoveredCalls.{made_path}
use Rattle.ext_one_report.proofs.CoveredPaths.{has_context, path_there}
use Rattle.ext_one_report.proofs.CoveredPlans.{IsTouchedBelow, changed_by_touch, changed_own, path_of_context, step_changes, within_found, within_told}
use Rattle.ext_one_report.proofs.CoveredTouches.{in_range}
use Rattle.ext_one_report.proofs.StoreCells.{cell_apart}

-- ---- the number of a key

holds : (key : KeyValue) (held : Option KeyValue) → held ≡ Some key → holds_key key held ≡ true
holds key None is = absurd (cc is)
holds key (Some other) is = let same : other ≡ key = cc is in (keys_Decides key other).1 (sym same)

holds_not : (key other : KeyValue) (held : Option KeyValue) → held ≡ Some other → other ≢ key → holds_key key held ≡ false
holds_not key other None is differ = absurd (cc is)
holds_not key other (Some one) is differ =
    let same : one ≡ other = cc is in
    false_from_ne_true (key_eq key one) (λ equal. differ (sym same ∙ sym ((keys_Decides key one).0 equal)))

held : (key : KeyValue) (known : Option KeyValue) → holds_key key known ≡ true → known ≡ Some key
held key None is = absurd (cc is)
held key (Some other) is = let same : key ≡ other = (keys_Decides key other).0 is in ap Some (sym same)

module _ (numbering : List KnownPlace) (key : KeyValue) where
  abbrev holding : KnownPlace → Bool
  holding known = holds_key key known.key

  -- a key's number is told
  number_is : (number : ℕ) → IsKeyNumber numbering key number → number_of numbering key ≡ Some number
  number_is number is =
      let less = key_within numbering number key is.there in
      let first : position_or_len holding numbering ≡ number = position_or_len_is holding numbering number (unknown_place 0) (omega (arith, less))
      (λ k below. let o = is.before k below in holds_not key o.other (key_at numbering k) o.there o.differs) (λ within. holds key (key_at numbering number) is.there) in
      rw first (grind arith)

  -- and what is told holds the key
  number_holds : (number : ℕ) → number_of numbering key ≡ Some number → (number < length numbering) × (key_at numbering number ≡ Some key)
  number_holds number is =
      let there = position-Some holding numbering number (unknown_place 0) is in
      (there.0, held key (key_at numbering number) there.1)

-- ---- the cells of a node

-- The cell is that of the place that a step of a call of the node changes
record IsOfStep (plan : PlanText) (store : StoreView) (numbering : List KnownPlace) (node cell : ℕ) : Type 0 where
  pub call : Call
  pub among : Contains (calls_of plan node) call
  pub step : StepText
  pub made : Contains (steps_of_call plan call) step
  pub key : StepKeyText
  pub up : ℕ
  pub changes : changed_by step ≡ Some (key, up)
  pub number : ℕ
  pub within : number < length numbering
  pub named : key_at numbering number ≡ Some (key_of_step plan.keys key)
  pub cell_is : cell_in store number (start_of (drop up (plan_path plan node))) ≡ cell

module _ (plan : PlanText) (store : StoreView) (numbering : List KnownPlace) (node : ℕ) where
  abbrev of_place : Option (StepKeyText × ℕ) → List ℕ
  of_place place = cell_changed store plan.keys numbering (plan_path plan node) place

  abbrev of_step : StepText → List ℕ
  of_step step = of_place (changed_by step)

  abbrev of_call : Call → List ℕ
  of_call call = flat_map of_step (steps_of_call plan call)

  own_in : (number : ℕ) → number < length store.id.keys → Contains (cells plan store numbering node) (cell_in store number node)
  unfolding cells
  own_in number less =
      Contains-append_left (cells_of_context store node) (flat_map of_call (calls_of plan node)) (cell_in store number node)
      (contains-map (λ key. cell_in store key node) (range_with_len 0 (length store.id.keys)) number (in_range (length store.id.keys) number less))

  step_in : (call : Call) (step : StepText) (cell : ℕ) → Contains (calls_of plan node) call → Contains (steps_of_call plan call) step → Contains (of_step step) cell → Contains (cells plan store numbering node) cell
  unfolding cells
  step_in call step cell among made there =
      Contains-append_right (cells_of_context store node) (flat_map of_call (calls_of plan node)) cell
      (contains-flat_map of_call (calls_of plan node) call cell among (contains-flat_map of_step (steps_of_call plan call) step cell made there))

  -- the cell that a step changes
  step_has : (step : StepText) (cell : ℕ) → IsCellOf store plan.keys numbering (plan_path plan node) step cell → Contains (of_step step) cell
  step_has step cell is =
      let context = start_of (drop is.up (plan_path plan node)) in
      subst (λ place. Contains (of_place place) cell) (sym is.changes)
      (subst (λ number. Contains (cell_at store context number) cell) (sym (number_is numbering (key_of_step plan.keys is.key) is.number is.named))
      (subst (Contains (cell_in store is.number context ∷ [])) (sym is.cell_is) (contains_first (cell_in store is.number context) [])))

  -- a cell of the node's own context has a number there,
  abbrev IsOwn : ℕ → Type 0
  IsOwn cell = (number : ℕ) × (number < length store.id.keys) × (cell_in store number node ≡ cell)

  own_back : (cell : ℕ) → Contains (cells_of_context store node) cell → IsOwn cell
  own_back cell there =
      let one = contains-map_back (λ key. cell_in store key node) (range_with_len 0 (length store.id.keys)) cell there in
      let less = contains-range 0 (length store.id.keys) one.0 one.1 in
      (one.0, omega (arith, less), one.2)

  -- and any other is that of a step
  module _ (call : Call) (among : Contains (calls_of plan node) call) (step : StepText) (made : Contains (steps_of_call plan call) step) (cell : ℕ) where
    at_number : (key : StepKeyText) (up : ℕ) → changed_by step ≡ Some (key, up) → (number : Option ℕ) → number_of numbering (key_of_step plan.keys key) ≡ number
        → Contains (cell_at store (start_of (drop up (plan_path plan node))) number) cell → IsOfStep plan store numbering node cell
    at_number key up changes None is there = contains_nothing cell there
    at_number key up changes (Some number) is there =
        let holds = number_holds numbering (key_of_step plan.keys key) number is in
        record {
          call = call;
          among = among;
          step = step;
          made = made;
          key = key;
          up = up;
          changes = changes;
          number = number;
          within = holds.0;
          named = holds.1;
          cell_is = elim (contains_cases (cell_in store number (start_of (drop up (plan_path plan node)))) cell [] there) [ inl same ↦ same | inr none ↦ contains_nothing cell none ];
        }

    at_place : (place : Option (StepKeyText × ℕ)) → changed_by step ≡ place → Contains (of_place place) cell → IsOfStep plan store numbering node cell
    at_place None changes there = contains_nothing cell there
    at_place (Some place) changes there = at_number place.0 place.1 changes (number_of numbering (key_of_step plan.keys place.0)) refl there

  steps_back : (cell : ℕ) → Contains (flat_map of_call (calls_of plan node)) cell → IsOfStep plan store numbering node cell
  steps_back cell there =
      let one = contains-flat_map_back of_call (calls_of plan node) cell there in
      let step = contains-flat_map_back of_step (steps_of_call plan one.0) cell one.2 in
      at_place one.0 one.1 step.0 step.1 cell (changed_by step.0) refl step.2

  cell_cases : (cell : ℕ) → Contains (cells plan store numbering node) cell → IsOwn cell ⊎ IsOfStep plan store numbering node cell
  unfolding cells
  cell_cases cell there = elim (Contains-append_cases (cells_of_context store node) (flat_map of_call (calls_of plan node)) cell there) [
    | inl own ↦ inl (own_back cell own)
    | inr step ↦ inr (steps_back cell step)
  ]

-- ---- nodes change these cells

pub call_among : (plan : PlanText) (store : StoreView) (locks : LocksView) (numbering : List KnownPlace) (node : ℕ) (call : Call) → IsReadPlan plan → store.tree ≡ ids_of_nodes plan.nodes
    → IsCallOf (numbered_setting plan store locks numbering) node call → Contains (calls_of plan node) call
call_among plan store locks numbering node call read tree mine =
    let test = is_some (test_of plan node) in
    let along = made_path plan read node mine.path (subst (λ ids. IsPathOf ids node mine.path) tree mine.path_is) in
    subst (λ p. Contains (befores_of (registered plan) test node p ++ test_call node ∷ [] ++ afters_of (registered plan) test node p) call) along
    (subst (λ calls. Contains calls call) (sym (append_assoc (befores_of (registered plan) test node mine.path) (test_call node ∷ []) (afters_of (registered plan) test node mine.path))) mine.among)

pub cells_are_changed : CellsAreChanged
cells_are_changed plan store locks numbering read tree = record {
  steps = λ node call path step cell mine path_is made is.
      let along = made_path plan read node path (subst (λ ids. IsPathOf ids node path) tree path_is) in
      step_in plan store numbering node call step cell (call_among plan store locks numbering node call read tree mine) made
      (step_has plan store numbering node step cell (subst (λ p. IsCellOf store plan.keys numbering p step cell) along is));
  closes = λ node key within less. own_in plan store numbering node key less;
}

-- ---- cells are at places

module _ (plan : PlanText) (read : IsReadPlan plan) where
  -- the node is this one or below it
  pub below_told : (node one : ℕ) → IsAtOrBelow (ids_of_nodes plan.nodes) node one → is_within plan node one ≡ true
  below_told node one is = within_told plan node one (subst (λ p. Contains p node) (made_path plan read one is.path is.path_is) is.on_path)

  pub below_found : (node one : ℕ) → node < length (ids_of_nodes plan.nodes) → is_within plan node one ≡ true → IsAtOrBelow (ids_of_nodes plan.nodes) node one
  below_found node one less is =
      let there = within_found plan node one is in
      record { path = plan_path plan one; path_is = path_of_context plan read node one less there; on_path = there }

  pub within_within : (top middle bottom : ℕ) → IsAtOrBelow (ids_of_nodes plan.nodes) top middle → is_within plan middle bottom ≡ true → is_within plan top bottom ≡ true
  within_within top middle bottom is below =
      let ids = ids_of_nodes plan.nodes in
      let less = has_context ids read.runnable.tree middle is.path is.path_is in
      below_told top bottom (at_or_below ids top bottom (under_under ids read.runnable.tree top middle bottom (under ids top middle is) (under ids middle bottom (below_found middle bottom less below))))

  -- what is touched below a node is touched below those above it
  pub touched_higher : (top middle context : ℕ) (key : KeyValue) (told : Bool) → IsAtOrBelow (ids_of_nodes plan.nodes) top middle → IsTouchedBelow plan middle context key told → IsTouchedBelow plan top context key told
  touched_higher top middle context key told is one = record {
    touch = one.touch;
    made = one.made;
    below = within_within top middle one.touch.node is one.below;
    context_is = one.context_is;
    key_is = one.key_is;
    changes = one.changes;
  }

  -- the place of the cell of a step
  step_at : (store : StoreView) (numbering : List KnownPlace) (node context number : ℕ) (key : KeyValue) → IsPathOf (ids_of_nodes plan.nodes) node (plan_path plan node) → AreKeyNotesOf store.id.keys numbering
      → key_at numbering number ≡ Some key → IsOfStep plan store numbering node (cell_in store number context) → IsTouchedBelow plan node context key true
  step_at store numbering node context number key path notes named is =
      let count = length-places numbering store.id.keys notes in
      let less = key_within numbering number key named in
      let within = is.within in
      let parts = cell_apart store (start_of (drop is.up (plan_path plan node))) context is.number number (omega (arith, within, count)) (omega (arith, less, count)) is.cell_is in
      let keys : Some (key_of_step plan.keys is.key) ≡ Some key = sym is.named ∙ (ap (key_at numbering) parts.1 ∙ named) in
      let key_is : key_of_step plan.keys is.key ≡ key = cc keys in
      subst (λ c. IsTouchedBelow plan node c key true) parts.0
      (subst (λ k. IsTouchedBelow plan node (start_of (drop is.up (plan_path plan node))) k true) key_is
      (step_changes plan read node is.call (plan_path plan node) path is.among is.step is.key is.up is.made is.changes))

pub cells_are_at_places : {V A : Type 0} (t : TreeSetting V A) → CellsAreAtPlaces t
cells_are_at_places t plan store numbering node context number key read tree same notes named is =
    let ids = ids_of_nodes plan.nodes in
    let below : IsAtOrBelow ids node is.one = subst (λ ids. IsAtOrBelow ids node is.one) (same ∙ tree) is.below in
    let path : IsPathOf ids is.one (plan_path plan is.one) = path_there ids read.runnable.tree is.one (has_context ids read.runnable.tree is.one below.path below.path_is) in
    let less = key_within numbering number key named.there in
    let count = length-places numbering store.id.keys notes in
    elim (cell_cases plan store numbering is.one (cell_in store number context) is.has) [
      | inl own ↦
          let parts = cell_apart store is.one context own.0 number own.1 (omega (arith, less, count)) own.2 in
          let size = length-map plan.nodes (λ n. n.id) in
          let near = has_context ids read.runnable.tree is.one below.path below.path_is in
          changed_own plan node context key
          (record { below = subst (λ c. is_within plan node c ≡ true) parts.0 (below_told plan read node is.one below); less = let same = parts.0 in omega (arith, near, size, same) })
      | inr step ↦ changed_by_touch plan node context key (touched_higher plan read node is.one context key true below (step_at plan read store numbering is.one context number key path notes named.there step))
    ]
