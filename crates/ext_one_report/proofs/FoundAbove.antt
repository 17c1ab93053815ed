-- A touch that does not change its place counts as a look-up, or it finds what a callback before all children of a node above has put or computed there. That step changes the place.
use Rattle.std.proofs.Common.{◌≡◌, ◌<◌, ◌⊎◌, ℕ, zero, suc, Bool, true, false, true≢false, List, [], ◌∷◌, ◌++◌, length, Contains, IfSome, drop, map, Option, Some, None, refl, ap, sym, subst, ◌∙◌, arith, inl, inr}
use Rattle.std.specs.Prelude.{◌==◌, ◌||◌, if◌then◌else◌}
use Rattle.std.specs.List.{list_any}
use Rattle.std.proofs.lemmas.Bool.{and_parts, cases_Bool, eqb-true, false_from_ne_true, or_parts}
use Rattle.std.proofs.lemmas.List.{length-map}
use Rattle.std.proofs.lemmas.List.Elements.{All-contains, All-contains_itself, All-drop, Contains-append_left}
use Rattle.std.proofs.lemmas.List.Folds.{list_any-from_Any}
use Rattle.ext_tree.specs.Keys.{KeyValue}
use Rattle.ext_tree.specs.Traits.{key_eq}
use Rattle.ext_tree.specs.Trees.{IsPathOf, IsWalk}
use Rattle.ext_tree.proofs.Equalities.{keys_Decides}
use Rattle.ext_lifecycle.specs.Callbacks.{test_call}
use Rattle.ext_plan.specs.Plans.{KeyText, PlanText, StepText}
use Rattle.ext_plan.specs.PlanCalls.{steps_of_call}
use Rattle.ext_plan.specs.ReadPlans.{IsReadPlan, ids_of_nodes}
use Rattle.ext_plan.specs.StepCalls.{start_of}
use Rattle.ext_plan.specs.Steps.{height}
use Rattle.ext_plan.specs.StoreKeys.{is_there, key_of_step, number_of_key}
use Rattle.ext_plan.specs.StepWords.{changes, gives_value, looks_along}
use Rattle.ext_plan.specs.declared.word.Word.{Word}
use Rattle.ext_plan.specs.declared.word.Word.TheVariants as words
use Rattle.ext_plan.proofs.KeyLists.{not_contained, not_there, key_number_within}
use Rattle.ext_races.specs.Acts.{ActText, act_of, as_compute, stores}
use Rattle.ext_races.specs.MadeSteps.{MadeText, calls_after, calls_before, calls_of, plan_path, steps_before, steps_made}
use Rattle.ext_races.specs.Touches.{ComputeText, TouchText, computes_key, first_stored, found_above, is_removed, key_of_act, key_of_made, keys_named, look_at, or_above, reach, standing, stored_above, stored_by, stores_key, touch_first, touch_of, touches_above, touches_along, touches_made, touches_of, touches_of_act}
use Rattle.ext_races.proofs.Lists.{contains-flat_map_back, contains-map_back, contains_cases, contains_first, contains_later, contains_nothing}
use Rattle.ext_races.proofs.Paths.{path_is}
use Rattle.ext_races.proofs.Within.{nodes_within}
use Rattle.ext_one_report.proofs.ComputedAbove.{IsStoredIn}
use Rattle.ext_one_report.proofs.CoveredCalls.{call_stays}
use Rattle.ext_one_report.proofs.CoveredPaths.{path_holds, path_there}
use Rattle.ext_one_report.proofs.CoveredTouches.{first_changes, first_looks, is_made, look_at_is, looks_of, start_made, step_is, step_of}
use Rattle.ext_one_report.proofs.KeysNamed.{there_all}
pub use Rattle.ext_one_report.proofs.Matching.{one_of_place as one_key}
use Rattle.ext_one_report.proofs.WordCases.{stores_all}

-- a callback before all children of a node above the touch's node puts or computes at its place what it finds, and nothing removes it
pub record IsFoundAbove (plan : PlanText) (t : TouchText) : Type 0 where
  pub key : KeyValue
  pub number : number_of_key (keys_named plan) key ≡ t.key
  pub named : is_there (keys_named plan) key ≡ true
  pub computed : IsStoredIn plan (drop 1 (plan_path plan t.node)) t.context key
  -- the touch of that step
  pub touch : TouchText
  pub made : Contains (touches_made plan) touch
  pub node_is : touch.node ≡ computed.node
  pub context_is : touch.context ≡ t.context
  pub key_is : touch.key ≡ t.key
  pub changes : touch.changes ≡ true

-- ---- what is there

if_some_cases : {A : Type 0} (b : Bool) (x y : Option A) (v : A) → (if b then x else y) ≡ Some v → ((b ≡ true) × (x ≡ Some v)) ⊎ ((b ≡ false) × (y ≡ Some v))
if_some_cases true x y v e = inl (refl, e)
if_some_cases false x y v e = inr (refl, e)

unless_some : {A : Type 0} (b : Bool) (y : Option A) (v : A) → (if b then None else y) ≡ Some v → (b ≡ false) × (y ≡ Some v)
unless_some true y v e = absurd (cc e)
unless_some false y v e = (refl, e)

-- ---- how a touch comes about

abbrev pub number_of : PlanText → ActText → ℕ
number_of plan act = number_of_key (keys_named plan) (key_of_step plan.keys act.key)

abbrev pub found_by : PlanText → MadeText → ActText → Option ComputeText
found_by plan made act = found_above plan.keys made.before (standing plan made.node) act

abbrev pub reached_by : PlanText → MadeText → ActText → List ℕ
reached_by plan made act = drop act.up (reach plan.keys made.before (plan_path plan made.node) act)

-- the touch is one of an act of this step
pub record Comes (plan : PlanText) (t : TouchText) : Type 0 where
  pub made : MadeText
  pub of_plan : Contains (steps_made plan) made
  pub act : ActText
  pub is : act_of made.step ≡ Some act
  pub there : Contains (touches_along made.node (number_of plan act) act (found_by plan made act) (reached_by plan made act)) t

comes_from : (plan : PlanText) (t : TouchText) (made : MadeText) → Contains (steps_made plan) made → (act : Option ActText) → act_of made.step ≡ act
    → Contains (touches_of_act plan.keys (keys_named plan) made.node (plan_path plan made.node) made.before (standing plan made.node) act) t → Comes plan t
comes_from plan t made of_plan None is there = contains_nothing t there
comes_from plan t made of_plan (Some act) is there = record { made = made; of_plan = of_plan; act = act; is = is; there = there }

pub comes : (plan : PlanText) (t : TouchText) → Contains (touches_made plan) t → Comes plan t
comes plan t there =
    let from = contains-flat_map_back (touches_of (ids_of_nodes plan.nodes) plan.keys (keys_named plan) (standing plan)) (steps_made plan) t there in
    comes_from plan t from.0 from.1 (act_of from.0.step) refl from.2

-- an act changes the first place that it reaches,
pub record IsFirst (node key : ℕ) (act : ActText) (path : List ℕ) (t : TouchText) : Type 0 where
  pub context : ℕ
  pub above : List ℕ
  pub path_is : path ≡ context ∷ above
  pub changing : changes act.word ≡ true
  pub touch_is : touch_of node key act true context ≡ t

-- or looks at one
pub record IsLook (node key : ℕ) (act : ActText) (found : Option ComputeText) (path : List ℕ) (t : TouchText) : Type 0 where
  pub context : ℕ
  pub there : Contains path context
  pub touch_is : look_at node key act found context ≡ t

looks_above : (node key : ℕ) (act : ActText) (found : Option ComputeText) (above : List ℕ) (t : TouchText) (looks : Bool) → Contains (if looks then map (look_at node key act found) above else []) t
    → (context : ℕ) × Contains above context × (look_at node key act found context ≡ t)
looks_above node key act found above t true there = contains-map_back (look_at node key act found) above t there
looks_above node key act found above t false there = contains_nothing t there

pub along_cases : (node key : ℕ) (act : ActText) (found : Option ComputeText) (path : List ℕ) (t : TouchText) → Contains (touches_along node key act found path) t
    → IsFirst node key act path t ⊎ IsLook node key act found path t
along_cases node key act found [] t there = contains_nothing t there
along_cases node key act found (context ∷ above) t there = elim (contains_cases (touch_first node key act found context) t (touches_above node key act found above) there) [
  | inl here ↦ elim (cases_Bool (changes act.word)) [
    | inl changing ↦ inl (record { context = context; above = above; path_is = refl; changing = changing; touch_is = sym (first_changes node key act found context changing) ∙ here })
    | inr still ↦ inr (record { context = context; there = contains_first context above; touch_is = sym (first_looks node key act found context still) ∙ here })
  ]
  | inr later ↦
      let one = looks_above node key act found above t (looks_along act.word) later in
      inr (record { context = one.0; there = contains_later context one.0 above one.1; touch_is = one.2 })
]

-- a look-up finds what was computed at this place
pub record FindsHere (node key : ℕ) (act : ActText) (found : Option ComputeText) (context : ℕ) : Type 0 where
  pub one : ComputeText
  pub is : found ≡ Some one
  pub at : context ≡ one.context
  pub touch_is : record (touch_of node key act false context) { acts = one.word; text = one.text } ≡ look_at node key act found context

pub look_cases : (node key : ℕ) (act : ActText) (found : Option ComputeText) (context : ℕ) → ((look_at node key act found context).acts ≡ words.Want) ⊎ FindsHere node key act found context
look_cases node key act None context = inl refl
look_cases node key act (Some found) context = elim (cases_Bool (context == found.context)) [
  | inl same ↦ inr (record {
    one = found;
    is = refl;
    at = eqb-true context found.context same;
    touch_is = sym (ap (λ (b : Bool). if b then record (touch_of node key act false context) { acts = found.word; text = found.text } else touch_of node key act false context) same);
  })
  | inr other ↦ inl (ap (λ (b : Bool). (if b then record (touch_of node key act false context) { acts = found.word; text = found.text } else touch_of node key act false context).acts) other)
]

-- ---- what was computed above

above_cases : (here above : Option ComputeText) (found : ComputeText) → or_above here above ≡ Some found → (here ≡ Some found) ⊎ (above ≡ Some found)
above_cases None above found e = inr e
above_cases (Some one) above found e = inl e

-- a look-up finds what stands there only where no step before it computed its key
pub record IsFoundBy (plan : PlanText) (made : MadeText) (act : ActText) (found : ComputeText) : Type 0 where
  pub still : changes act.word ≡ false
  pub none : (step : StepText) → Contains made.before step → computes_key plan.keys (key_of_step plan.keys act.key) (act_of step) ≡ false
  pub put : Bool
  pub above : stored_above plan put (key_of_step plan.keys act.key) (drop 1 (plan_path plan made.node)) ≡ Some found

pub found_parts : (plan : PlanText) (made : MadeText) (act : ActText) (found : ComputeText) → found_by plan made act ≡ Some found → IsFoundBy plan made act found
found_parts plan made act found e =
    let key = key_of_step plan.keys act.key in
    let p : StepText → Bool = λ step. computes_key plan.keys key (act_of step) in
    let first = unless_some (changes act.word || list_any p made.before) (standing plan made.node key) found e in
    let own = or_parts (changes act.word) (list_any p made.before) first.0 in
    let path = drop 1 (plan_path plan made.node) in
    let none : (step : StepText) → Contains made.before step → p step ≡ false =
    λ step there. false_from_ne_true (p step) (λ computes. true≢false (sym (list_any-from_Any p made.before (there.0, step, there.1, there.2, computes)) ∙ own.1)) in
    elim (above_cases (stored_above plan false key path) (stored_above plan true key path) found first.1) [
      | inl computed ↦ record { still = own.0; none = none; put = false; above = computed }
      | inr put ↦ record { still = own.0; none = none; put = true; above = put }
    ]

-- the act stores this
record IsStoredOf (declared : List KeyText) (key : KeyValue) (put : Bool) (path : List ℕ) (acts : List (Option ActText)) (found : ComputeText) : Type 0 where
  act : ActText
  there : Contains acts (Some act)
  stored : stores put act.word ≡ true
  named : key_of_step declared act.key ≡ key
  at : start_of (drop act.up path) ≡ found.context
  word : as_compute act.word ≡ found.word

first_found : (declared : List KeyText) (key : KeyValue) (put : Bool) (path : List ℕ) (acts : List (Option ActText)) (found : ComputeText) → first_stored declared key put path acts ≡ Some found
    → IsStoredOf declared key put path acts found
first_found declared key put path [] found e = absurd (cc e)
first_found declared key put path (None ∷ more) found e =
    let rest = first_found declared key put path more found e in
    record { act = rest.act; there = contains_later None (Some rest.act) more rest.there; stored = rest.stored; named = rest.named; at = rest.at; word = rest.word }
first_found declared key put path (Some act ∷ more) found e =
    let here : ComputeText = record { context = start_of (drop act.up path); word = as_compute act.word; text = act.text } in
    elim (if_some_cases (stores_key declared key put (Some act)) (Some here) (first_stored declared key put path more) found e) [
      | inl stored ↦
          let parts = and_parts (stores put act.word) (key_eq (key_of_step declared act.key) key) stored.0 in
          let same : here ≡ found = cc stored.1 in
          record {
            act = act;
            there = contains_first (Some act) more;
            stored = parts.0;
            named = (keys_Decides (key_of_step declared act.key) key).0 parts.1;
            at = ap (λ c. c.context) same;
            word = ap (λ c. c.word) same;
          }
      | inr other ↦
          let rest = first_found declared key put path more found other.1 in
          record { act = rest.act; there = contains_later (Some act) (Some rest.act) more rest.there; stored = rest.stored; named = rest.named; at = rest.at; word = rest.word }
    ]

module _ (plan : PlanText) (read : IsReadPlan plan) (key : KeyValue) (put : Bool) (found : ComputeText) where
  -- a callback before all children of a node of the path does, and it is not removed
  abbrev IsNodeOf : List ℕ → Type 0
  IsNodeOf nodes = (n : ℕ) × Contains nodes n × (is_removed plan n key ≡ false) × (first_stored plan.keys key put (plan_path plan n) (map act_of (steps_before plan n)) ≡ Some found)

  node_found : (k : ℕ) (walk : List ℕ) → IsWalk (ids_of_nodes plan.nodes) k walk → stored_above plan put key walk ≡ Some found → IsNodeOf walk
  node_found k [] root e = absurd (cc e)
  node_found k (n ∷ above) (is, walks) e =
      let ids = ids_of_nodes plan.nodes in
      let along : n ∷ above ≡ plan_path plan n = path_is ids read.runnable.tree n (n ∷ above) is.parent_within (refl, walks) in
      elim (above_cases (stored_by plan put key n (n ∷ above)) (stored_above plan put key above) found e) [
        | inl here ↦
            let kept = unless_some (is_removed plan n key) (first_stored plan.keys key put (n ∷ above) (map act_of (steps_before plan n))) found here in
            (n, contains_first n above, kept.0, subst (λ path. first_stored plan.keys key put path (map act_of (steps_before plan n)) ≡ Some found) along kept.1)
        | inr later ↦ let rest = node_found n above walks later in (rest.0, contains_later n rest.0 above rest.1, rest.2, rest.3)
      ]

  node_above : (k : ℕ) (path : List ℕ) → IsPathOf (ids_of_nodes plan.nodes) k path → stored_above plan put key (drop 1 path) ≡ Some found → IsNodeOf (drop 1 path)
  node_above k [] is e = absurd is
  node_above k (first ∷ walk) (same, walks) e = node_found k walk walks e

module _ (plan : PlanText) (read : IsReadPlan plan) where
  near_path : (node : ℕ) → node < length plan.nodes → IsPathOf (ids_of_nodes plan.nodes) node (plan_path plan node)
  near_path node less = path_there (ids_of_nodes plan.nodes) read.runnable.tree node (let same = length-map plan.nodes (λ n. n.id) in omega (arith, less, same))

  is_found : (made : MadeText) (act : ActText) (context : ℕ) (found : ComputeText) → made.node < length plan.nodes → IsFoundBy plan made act found → context ≡ found.context → is_there (keys_named plan) (key_of_step plan.keys act.key) ≡ true
      → (gives_value found.word ≡ true) × IsFoundAbove plan (record (touch_of made.node (number_of plan act) act false context) { acts = found.word; text = found.text })
  is_found made act context found less is at named =
      let ids = ids_of_nodes plan.nodes in
      let key = key_of_step plan.keys act.key in
      let path = near_path made.node less in
      let one = node_above plan read key is.put found made.node (plan_path plan made.node) path is.above in
      let compute = first_found plan.keys key is.put (plan_path plan one.0) (map act_of (steps_before plan one.0)) found one.3 in
      let step = contains-map_back act_of (steps_before plan one.0) (Some compute.act) compute.there in
      let call = contains-flat_map_back (steps_of_call plan) (calls_before plan one.0) step.0 step.1 in
      let near : one.0 < length ids = path_holds ids read.runnable.tree made.node one.0 (plan_path plan made.node) path (All-contains (Contains (plan_path plan made.node)) (drop 1 (plan_path plan made.node)) one.0 (All-drop (Contains (plan_path plan made.node)) 1 (plan_path plan made.node) (All-contains_itself (plan_path plan made.node))) one.1) in
      let within : one.0 < length plan.nodes = (let same = length-map plan.nodes (λ n. n.id) in omega (arith, near, same)) in
      let opening = calls_before plan one.0 ++ test_call one.0 ∷ [] in
      let among : Contains (calls_of plan one.0) call.0 = Contains-append_left opening (calls_after plan one.0) call.0 (Contains-append_left (calls_before plan one.0) (test_call one.0 ∷ []) call.0 call.1) in
      let step_there : Contains (steps_of_call plan call.0) (step_of compute.act) = subst (Contains (steps_of_call plan call.0)) (step_is step.0 compute.act step.2) call.2 in
      let stays = All-contains (λ s. height s < length (plan_path plan one.0)) (steps_of_call plan call.0) (step_of compute.act)
      (call_stays plan read one.0 (plan_path plan one.0) (near_path one.0 within) call.0 among) step_there in
      let both = stores_all is.put compute.act.word compute.stored in
      let changing = both.0 in (
        ap gives_value (sym compute.word) ∙ both.1,
        record {
          key = key;
          number = refl;
          named = named;
          computed = record {
            node = one.0;
            among = one.1;
            step = step.0;
            held = step.1;
            computes = record { act = compute.act; is = step.2; put = is.put; stored = compute.stored; at = compute.at ∙ sym at; named = compute.named };
            kept = one.2;
          };
          touch = touch_of one.0 (number_of plan compute.act) compute.act true (start_of (drop compute.act.up (plan_path plan one.0)));
          made = start_made plan one.0 compute.act (is_made plan one.0 call.0 (step_of compute.act) within among step_there) changing stays;
          node_is = refl;
          context_is = compute.at ∙ sym at;
          key_is = ap (number_of_key (keys_named plan)) compute.named;
          changes = refl;
        },
      )

-- ---- how a touch counts

-- the key of a step is one that the steps name
pub named_by : (plan : PlanText) (t : TouchText) (from : Comes plan t) → is_there (keys_named plan) (key_of_step plan.keys from.act.key) ≡ true
named_by plan t from =
    subst (λ (act : Option ActText). IfSome (key_of_act plan.keys act) (λ key. is_there (keys_named plan) key ≡ true)) from.is
    (All-contains (λ m. IfSome (key_of_made plan.keys m) (λ key. is_there (keys_named plan) key ≡ true)) (steps_made plan) from.made (there_all plan.keys [] (steps_made plan)) from.of_plan)

pub how_it_acts : (plan : PlanText) → IsReadPlan plan → (t : TouchText) → Contains (touches_made plan) t
    → ((t.changes ≡ true) × (t.acts ≡ t.word)) ⊎ (((t.changes ≡ false) × (t.acts ≡ words.Want)) ⊎ ((t.changes ≡ false) × (gives_value t.acts ≡ true) × IsFoundAbove plan t))
how_it_acts plan read t there =
    let from = comes plan t there in
    let node = from.made.node in
    let number = number_of plan from.act in
    let found = found_by plan from.made from.act in
    elim (along_cases node number from.act found (reached_by plan from.made from.act) t from.there) [
      | inl first ↦ inl (subst (λ (u : TouchText). (u.changes ≡ true) × (u.acts ≡ u.word)) first.touch_is (refl, refl))
      | inr look ↦
          let still : t.changes ≡ false = sym (ap (λ u. u.changes) look.touch_is) ∙ (look_at_is node number from.act found look.context).3 in
          elim (look_cases node number from.act found look.context) [
            | inl want ↦ inr (inl (still, sym (ap (λ u. u.acts) look.touch_is) ∙ want))
            | inr finds ↦
                let less : node < length plan.nodes = All-contains (λ (m : MadeText). m.node < length plan.nodes) (steps_made plan) from.made (nodes_within plan) from.of_plan in
                let is = is_found plan read from.made from.act look.context finds.one less (found_parts plan from.made from.act finds.one finds.is) finds.at (named_by plan t from) in
                let same = finds.touch_is ∙ look.touch_is in
                let both = subst (λ (u : TouchText). (gives_value u.acts ≡ true) × IsFoundAbove plan u) same is in
                inr (inr (still, both.0, both.1))
          ]
    ]

-- ---- the number of a key

-- a key that is not there has the number after the last
place_none : (keys : List KeyValue) (key : KeyValue) → is_there keys key ≡ false → number_of_key keys key ≡ length keys
place_none [] key none = refl
place_none (first ∷ keys) key none = elim (cases_Bool (key_eq first key)) [
  | inl same ↦ absurd (not_contained (first ∷ keys) key none (subst (Contains (first ∷ keys)) ((keys_Decides first key).0 same) (contains_first first keys)))
  | inr other ↦
      let behind = place_none keys key (not_there keys key (λ there. not_contained (first ∷ keys) key none (contains_later first key keys there))) in
      ap (λ (b : Bool). if b then zero else suc (number_of_key keys key)) other ∙ ap suc behind
]

key_is : (plan : PlanText) (t : TouchText) (from : Comes plan t) → t.key ≡ number_of plan from.act
key_is plan t from =
    let node = from.made.node in
    let number = number_of plan from.act in
    let found = found_by plan from.made from.act in
    elim (along_cases node number from.act found (reached_by plan from.made from.act) t from.there) [
      | inl first ↦ sym (ap (λ u. u.key) first.touch_is)
      | inr look ↦ sym (ap (λ u. u.key) look.touch_is) ∙ (looks_of node number from.act found look.context).2
    ]

-- a touch's key is one that the steps name
pub key_there : (plan : PlanText) (t : TouchText) → Contains (touches_made plan) t → (key : KeyValue) → t.key ≡ number_of_key (keys_named plan) key → is_there (keys_named plan) key ≡ true
key_there plan t there key is =
    let from = comes plan t there in
    let less = key_number_within (keys_named plan) (key_of_step plan.keys from.act.key) (named_by plan t from) in
    let same = key_is plan t from in
    elim (cases_Bool (is_there (keys_named plan) key)) [
      | inl is_there ↦ is_there
      | inr none ↦ absurd (let last = place_none (keys_named plan) key none in omega (arith, less, same, is, last))
    ]
