-- The places that the nodes of a plan touch and may change cover it, where its nodes keep apart.
use Rattle.std.proofs.Common.{◌≡◌, ◌≢◌, ◌<◌, ◌≤◌, ◌+◌, ◌⊎◌, ℕ, Bool, true, false, List, [], ◌∷◌, length, get_or, Contains, All, drop, Some, None, refl, sym, subst, ◌∙◌, arith, inl, inr, eq-eqb}
use Rattle.std.specs.Prelude.{◌==◌, ◌&&◌, ◌||◌, fold, nat_lt}
use Rattle.std.specs.List.{list_any}
use Rattle.std.proofs.lemmas.Bool.{and_from, and_parts, cases_Bool, eqb-true, lt-ltb, ltb-true, or_cases, or_left, or_right}
use Rattle.std.proofs.lemmas.List.{get_or-drop, get_or_default, length-drop, length-map}
use Rattle.std.proofs.lemmas.List.Elements.{All-contains}
use Rattle.std.proofs.lemmas.List.Folds.{Any-from_list_any, list_any-from_Any}
use Rattle.ext_tree.specs.Keys.{KeyValue}
use Rattle.ext_tree.specs.Trees.{Id, IsParentOf, IsPathOf, id_at}
use Rattle.ext_lifecycle.specs.declared.call.Call.{Call}
use Rattle.ext_plan.specs.Plans.{KeyText, PlanText, StepKeyText, StepText, keyed, fail, abort}
use Rattle.ext_plan.specs.PlanCalls.{steps_of_call}
use Rattle.ext_plan.specs.ReadPlans.{IsAtOrBelow, IsReadPlan, ids_of_nodes}
use Rattle.ext_plan.specs.StepCalls.{start_of}
use Rattle.ext_plan.specs.Steps.{height}
use Rattle.ext_plan.specs.StoreKeys.{key_of_step, number_of_key}
use Rattle.ext_plan.specs.declared.word.Word.{Word}
use Rattle.ext_races.specs.Acts.{ActText}
use Rattle.ext_races.specs.MadeSteps.{calls_of, plan_path}
use Rattle.ext_races.specs.Touches.{TouchText, keys_named, touches_made}
use Rattle.ext_plan.specs.StepWords.{changes}
use Rattle.ext_races.proofs.Lists.{contains_cases, contains_first, contains_later, contains_nothing}
use Rattle.ext_races.proofs.TouchNodes.{touch_within}
use Rattle.ext_one_report.proofs.PlanCells.{changed_by}
use Rattle.ext_one_report.proofs.StepsWords.{ActsWithin, LooksWithin, TouchesWithin}
use Rattle.ext_one_report.proofs.MatchingWords.{Places}
use Rattle.ext_one_report.proofs.Covered.{PlansAreCovered, changed_in, is_closed_by, touched_in}
use Rattle.ext_one_report.specs.Shares.{is_at, may_change_at}
use Rattle.ext_one_report.specs.Within.{is_within}
use Rattle.ext_one_report.proofs.CoveredCalls.{call_stays, made_path}
use Rattle.ext_one_report.proofs.CoveredPaths.{below_below, has_context, holder_within, one_child, passed, path_holds, path_passes, path_starts, path_there, path_up}
use Rattle.ext_one_report.proofs.CoveredTouches.{IsTouched, is_made, step_of, touch_on_path, touches_start}

-- ---- the node is on the path of the context

fold_from : (node : ℕ) (found : Bool) (path : List ℕ) → found ≡ true → fold (λ found at. found || (at == node)) found path ≡ true
fold_from node found [] is = is
fold_from node found (x ∷ path) is = fold_from node (found || (x == node)) path (or_left found (x == node) is)

fold_told : (node : ℕ) (found : Bool) (path : List ℕ) → Contains path node → fold (λ found at. found || (at == node)) found path ≡ true
fold_told node found [] there = contains_nothing node there
fold_told node found (x ∷ path) there = elim (contains_cases x node path there) [
  | inl same ↦ fold_from node (found || (x == node)) path (or_right found (x == node) (eq-eqb x node same))
  | inr later ↦ fold_told node (found || (x == node)) path later
]

fold_found : (node : ℕ) (found : Bool) (path : List ℕ) → fold (λ found at. found || (at == node)) found path ≡ true → (found ≡ true) ⊎ Contains path node
fold_found node found [] is = inl is
fold_found node found (x ∷ path) is = elim (fold_found node (found || (x == node)) path is) [
  | inl so_far ↦ elim (or_cases found (x == node) so_far) [
    | inl before ↦ inl before
    | inr here ↦ inr (subst (Contains (x ∷ path)) (eqb-true x node here) (contains_first x path))
  ]
  | inr later ↦ inr (contains_later x node path later)
]

pub within_found : (plan : PlanText) (node context : ℕ) → is_within plan node context ≡ true → Contains (plan_path plan context) node
within_found plan node context is = elim (fold_found node false (plan_path plan context) is) [ inl none ↦ absurd cc | inr there ↦ there ]

pub within_told : (plan : PlanText) (node context : ℕ) → Contains (plan_path plan context) node → is_within plan node context ≡ true
within_told plan node context there = fold_told node false (plan_path plan context) there

-- ---- places of touches

-- A touch of a node at or below this one, at this place; it may change the place, where that is told
pub record IsTouchedBelow (plan : PlanText) (node context : ℕ) (key : KeyValue) (told : Bool) : Type 0 where
  pub touch : TouchText
  pub made : Contains (touches_made plan) touch
  pub below : is_within plan node touch.node ≡ true
  pub context_is : touch.context ≡ context
  pub key_is : touch.key ≡ number_of_key (keys_named plan) key
  pub changes : told ≡ true → touch.changes ≡ true

module _ (plan : PlanText) (node context : ℕ) (key : KeyValue) where
  at_told : (t : TouchText) → is_within plan node t.node ≡ true → t.context ≡ context → t.key ≡ number_of_key (keys_named plan) key → is_at plan node context key t ≡ true
  at_told t below at named =
      and_from (is_within plan node t.node && (t.context == context)) (t.key == number_of_key (keys_named plan) key) (and_from (is_within plan node t.node) (t.context == context) below (eq-eqb t.context context at))
      (eq-eqb t.key (number_of_key (keys_named plan) key) named)

  any_told : (p : TouchText → Bool) (t : TouchText) → Contains (touches_made plan) t → p t ≡ true → list_any p (touches_made plan) ≡ true
  any_told p t made is = list_any-from_Any p (touches_made plan) (made.0, t, made.1, made.2, is)

  pub touched_by : IsTouchedBelow plan node context key false → touched_in plan node context key ≡ true
  unfolding touched_in
  touched_by is = or_right (is_closed_by plan node context) (list_any (is_at plan node context key) (touches_made plan))
      (any_told (is_at plan node context key) is.touch is.made (at_told is.touch is.below is.context_is is.key_is))

  pub changed_by_touch : IsTouchedBelow plan node context key true → changed_in plan node context key ≡ true
  unfolding changed_in
  changed_by_touch is = or_right (is_closed_by plan node context) (list_any (may_change_at plan node context key) (touches_made plan))
      (any_told (may_change_at plan node context key) is.touch is.made (and_from is.touch.changes (is_at plan node context key is.touch) (is.changes refl) (at_told is.touch is.below is.context_is is.key_is)))

  -- a context of the plan that is closed with the node
  pub record IsClosedBy : Type 0 where
    pub below : is_within plan node context ≡ true
    pub less : context < length plan.nodes

  closed_told : IsClosedBy → is_closed_by plan node context ≡ true
  closed_told is = and_from (is_within plan node context) (nat_lt context (length plan.nodes)) is.below (lt-ltb context (length plan.nodes) is.less)

  closed_found : is_closed_by plan node context ≡ true → IsClosedBy
  closed_found is = let parts = and_parts (is_within plan node context) (nat_lt context (length plan.nodes)) is in record { below = parts.0; less = ltb-true context (length plan.nodes) parts.1 }

  pub touched_own : IsClosedBy → touched_in plan node context key ≡ true
  unfolding touched_in
  touched_own is = or_left (is_closed_by plan node context) (list_any (is_at plan node context key) (touches_made plan)) (closed_told is)

  pub changed_own : IsClosedBy → changed_in plan node context key ≡ true
  unfolding changed_in
  changed_own is = or_left (is_closed_by plan node context) (list_any (may_change_at plan node context key) (touches_made plan)) (closed_told is)

  found_at : (t : TouchText) (told : Bool) → Contains (touches_made plan) t → is_at plan node context key t ≡ true → (told ≡ true → t.changes ≡ true) → IsTouchedBelow plan node context key told
  found_at t told made is changing =
      let all = and_parts (is_within plan node t.node && (t.context == context)) (t.key == number_of_key (keys_named plan) key) is in
      let place = and_parts (is_within plan node t.node) (t.context == context) all.0 in
      record {
        touch = t;
        made = made;
        below = place.0;
        context_is = eqb-true t.context context place.1;
        key_is = eqb-true t.key (number_of_key (keys_named plan) key) all.1;
        changes = changing;
      }

  pub touched_cases : touched_in plan node context key ≡ true → IsClosedBy ⊎ IsTouchedBelow plan node context key false
  unfolding touched_in
  touched_cases is = elim (or_cases (is_closed_by plan node context) (list_any (is_at plan node context key) (touches_made plan)) is) [
    | inl own ↦ inl (closed_found own)
    | inr some ↦ let one = Any-from_list_any (is_at plan node context key) (touches_made plan) some in inr (found_at one.1 false (one.0, one.2, one.3) one.4 (λ told. absurd cc))
  ]

  pub changed_cases : changed_in plan node context key ≡ true → IsClosedBy ⊎ IsTouchedBelow plan node context key true
  unfolding changed_in
  changed_cases is = elim (or_cases (is_closed_by plan node context) (list_any (may_change_at plan node context key) (touches_made plan)) is) [
    | inl own ↦ inl (closed_found own)
    | inr some ↦
        let one = Any-from_list_any (may_change_at plan node context key) (touches_made plan) some in
        let parts = and_parts one.1.changes (is_at plan node context key one.1) one.4 in
        inr (found_at one.1 true (one.0, one.2, one.3) parts.1 (λ told. parts.0))
  ]

  -- what it may change it touches
  weaker : IsTouchedBelow plan node context key true → IsTouchedBelow plan node context key false
  weaker is = record { touch = is.touch; made = is.made; below = is.below; context_is = is.context_is; key_is = is.key_is; changes = λ told. absurd cc }

  pub changed_touched : changed_in plan node context key ≡ true → touched_in plan node context key ≡ true
  changed_touched is = elim (changed_cases is) [ inl own ↦ touched_own own | inr below ↦ touched_by (weaker below) ]

-- ---- acts

abbrev pub an_act : Word → StepKeyText → List ℕ → ℕ → ActText
an_act word key text up = record { word = word; key = key; text = text; up = up }

-- what a step touches, by whether it looks along its path
pub within_by : (keys : List KeyText) (path : List ℕ) (places : Places) (key : StepKeyText) (up : ℕ) (looks : Bool) → (looks ≡ true → LooksWithin keys path places key up)
    → (looks ≡ false → ActsWithin keys path places key up) → TouchesWithin looks keys path places key up
within_by keys path places key up true along here = along refl
within_by keys path places key up false along here = here refl

-- what holds of each context of a path from here on
pub from_drop : (P : ℕ → Type 0) (up : ℕ) (path : List ℕ) → ((at : ℕ) → up ≤ at → at < length path → P (get_or path at 0)) → All P (drop up path)
from_drop P up path each = λ k d less.
    let long = length-drop up path in
    let inside : up + k < length path = omega (arith, less, long) in
    subst P (sym (get_or-drop up path k d ∙ get_or_default path (up + k) d 0 inside)) (each (up + k) (omega arith) inside)

pub none_is : {A : Type 0} {x : A} → None ≡ Some x → ⊥
none_is e = absurd (cc e)

-- ---- nodes above one another

module _ (plan : PlanText) (read : IsReadPlan plan) where
  abbrev ids : List Id
  ids = ids_of_nodes plan.nodes

  count : length ids ≡ length plan.nodes
  count = length-map plan.nodes (λ n. n.id)

  pub within_itself : (node : ℕ) → node < length plan.nodes → is_within plan node node ≡ true
  within_itself node less = within_told plan node node (path_starts ids read.runnable.tree node (plan_path plan node) (path_there ids read.runnable.tree node (let same = count in omega (arith, less, same))))

  -- a context of which a node is above has a path
  pub path_of_context : (node context : ℕ) → node < length ids → Contains (plan_path plan context) node → IsPathOf ids context (plan_path plan context)
  path_of_context node context less there = path_there ids read.runnable.tree context (holder_within ids read.runnable.tree context node less there)

  pub within_parent : (parent child context : ℕ) → IsParentOf ids parent child → is_within plan child context ≡ true → is_within plan parent context ≡ true
  within_parent parent child context is below =
      let there = within_found plan child context below in
      let path = path_of_context child context is.child_within there in
      within_told plan parent context (passed (plan_path plan context) child parent (path_passes ids read.runnable.tree context (plan_path plan context) parent child path is there))

  -- the id of the node begins that of the context
  pub within_up : (node context : ℕ) → node < length ids → is_within plan node context ≡ true → IsAtOrBelow (id_at ids node) (id_at ids context)
  within_up node context less below =
      let there = within_found plan node context below in
      path_up ids read.runnable.tree context node (plan_path plan context) (path_of_context node context less there) there

  -- a touch at or below a child of a parent is so of the parent
  pub touched_parent : (parent child context : ℕ) (key : KeyValue) (told : Bool) → IsParentOf ids parent child → IsTouchedBelow plan child context key told → IsTouchedBelow plan parent context key told
  touched_parent parent child context key told up is = record {
    touch = is.touch;
    made = is.made;
    below = within_parent parent child is.touch.node up is.below;
    context_is = is.context_is;
    key_is = is.key_is;
    changes = is.changes;
  }

  -- a touched context is at or above the node of the touch
  pub touched_up : (node context : ℕ) (key : KeyValue) (told : Bool) → (is : IsTouchedBelow plan node context key told) → IsAtOrBelow (id_at ids context) (id_at ids is.touch.node)
  touched_up node context key told is =
      let less = touch_within plan is.touch is.made in
      let same = count in
      let path = path_there ids read.runnable.tree is.touch.node (omega (arith, less, same)) in
      path_up ids read.runnable.tree is.touch.node context (plan_path plan is.touch.node) path (subst (Contains (plan_path plan is.touch.node)) is.context_is (touch_on_path plan is.touch is.made))

  -- and it is one of the plan
  pub touched_near : (node context : ℕ) (key : KeyValue) (told : Bool) → IsTouchedBelow plan node context key told → context < length plan.nodes
  touched_near node context key told is =
      let less = touch_within plan is.touch is.made in
      let same = count in
      let path = path_there ids read.runnable.tree is.touch.node (omega (arith, less, same)) in
      let near = path_holds ids read.runnable.tree is.touch.node context (plan_path plan is.touch.node) path (subst (Contains (plan_path plan is.touch.node)) is.context_is (touch_on_path plan is.touch is.made)) in
      omega (arith, near, same)

  -- no child touches a place in the context of another, or of one below that
  pub siblings : (parent child other context : ℕ) (key : KeyValue) → IsParentOf ids parent child → IsParentOf ids parent other → child ≢ other → is_within plan child context ≡ true
      → touched_in plan other context key ≡ true → ⊥
  siblings parent child other context key is is' differ below touched =
      let above = within_up child context is.child_within below in
      elim (touched_cases plan other context key touched) [
        | inl own ↦ differ (one_child ids read.runnable.tree parent child other (id_at ids context) is is' above (within_up other context is'.child_within own.below))
        | inr one ↦
            let bottom = id_at ids one.touch.node in
            differ (one_child ids read.runnable.tree parent child other bottom is is' (below_below (id_at ids child) (id_at ids context) bottom above (touched_up other context key false one))
            (within_up other one.touch.node is'.child_within one.below))
      ]

  -- ---- the steps of calls

  module _ (node : ℕ) (call : Call) (path : List ℕ) (is : IsPathOf ids node path) (among : Contains (calls_of plan node) call) where
    within : node < length plan.nodes
    within = let less = has_context ids read.runnable.tree node path is in let same = count in omega (arith, less, same)

    along : path ≡ plan_path plan node
    along = made_path plan read node path is

    -- a touch of the node is one at or below it
    below_itself : (context : ℕ) (key : KeyValue) (told : Bool) → IsTouched plan node context (number_of_key (keys_named plan) key) told → IsTouchedBelow plan node context key told
    below_itself context key told one = record {
      touch = one.touch;
      made = one.made;
      below = subst (λ n. is_within plan node n ≡ true) (sym one.node_is) (within_itself node within);
      context_is = one.context_is;
      key_is = one.key_is;
      changes = one.changes;
    }

    low : (step : StepText) → Contains (steps_of_call plan call) step → height step < length path
    low step there = All-contains (λ s. height s < length path) (steps_of_call plan call) step (call_stays plan read node path is call among) there

    -- what a step acts on its node may change
    pub acts_changed : (act : ActText) → Contains (steps_of_call plan call) (step_of act) → changes act.word ≡ true → IsTouchedBelow plan node (start_of (drop act.up path)) (key_of_step plan.keys act.key) true
    acts_changed act there changing =
        let one = touches_start plan node act (is_made plan node call (step_of act) within among there) changing (subst (λ p. act.up < length p) along (low (step_of act) there)) in
        below_itself (start_of (drop act.up path)) (key_of_step plan.keys act.key) true
        (subst (λ p. IsTouched plan node (start_of (drop act.up p)) (number_of_key (keys_named plan) (key_of_step plan.keys act.key)) true) (sym along) one)

    pub step_changes : (step : StepText) (key : StepKeyText) (up : ℕ) → Contains (steps_of_call plan call) step → changed_by step ≡ Some (key, up)
        → IsTouchedBelow plan node (start_of (drop up path)) (key_of_step plan.keys key) true
    step_changes (keyed word name text height) key up there changed = elim (cases_Bool (changes word)) [
      | inl changing ↦
          let is_some : Some (name, height) ≡ Some (key, up) = rw changing at changed in
          let same : (name, height) ≡ (key, up) = cc is_some in
          subst (λ (p : StepKeyText × ℕ). IsTouchedBelow plan node (start_of (drop p.1 path)) (key_of_step plan.keys p.0) true) same (acts_changed (an_act word name text height) there changing)
      | inr still ↦ absurd (none_is (rw still at changed))
    ]
    step_changes (fail text) key up there changed = absurd (cc changed)
    step_changes (abort text) key up there changed = absurd (cc changed)

pub plans_are_covered : PlansAreCovered
plans_are_covered plan read = record {
  steps = λ node path call step key up is among there changed.
      changed_by_touch plan node (start_of (drop up path)) (key_of_step plan.keys key) (step_changes plan read node call path is among step key up there changed);
  own = λ node key less. changed_own plan node node key (record { below = within_itself plan read node less; less = less });
  own_below = λ node context key less below. changed_own plan node context key (record { below = below; less = less });
  touches = λ node context key changed. changed_touched plan node context key changed;
  within = λ node context key touched. elim (touched_cases plan node context key touched) [ inl own ↦ own.less | inr one ↦ touched_near plan read node context key false one ];
  touched_above = λ parent child context key is touched. elim (touched_cases plan child context key touched) [
    | inl own ↦ touched_own plan parent context key (record { below = within_parent plan read parent child context is own.below; less = own.less })
    | inr one ↦ touched_by plan parent context key (touched_parent plan read parent child context key false is one)
  ];
  changed_above = λ parent child context key is changed. elim (changed_cases plan child context key changed) [
    | inl own ↦ changed_own plan parent context key (record { below = within_parent plan read parent child context is own.below; less = own.less })
    | inr one ↦ changed_by_touch plan parent context key (touched_parent plan read parent child context key true is one)
  ];
  siblings = siblings plan read;
}
