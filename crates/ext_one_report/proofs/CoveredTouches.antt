-- The touches of a plan's steps: each step that changes or looks up a place of its key touches it, and each touch is at a context on the path of its node.
use Rattle.std.proofs.Common.{◌≡◌, ◌<◌, ◌≤◌, ◌⊎◌, ℕ, zero, suc, Bool, true, false, List, [], ◌∷◌, ◌++◌, length, get_or, Contains, All, drop, take, map, Option, Some, None, refl, ap, sym, subst, ◌∙◌, arith, inl, inr, zero-add, append_assoc, append-nil}
use Rattle.std.specs.Prelude.{◌==◌, ◌&&◌, if◌then◌else◌}
use Rattle.std.specs.List.{flat_map, range_with_len}
use Rattle.std.proofs.lemmas.Bool.{and_parts, cases_Bool, cases_lt}
use Rattle.std.proofs.lemmas.List.{get_or-take, length-drop, length-take}
use Rattle.std.proofs.lemmas.List.Elements.{All-contains, All-contains_itself, All-drop, Contains-append_cases, Contains-append_left, Contains-append_right, Contains-push_cases}
use Rattle.std.proofs.lemmas.List.FromFn.{get_or-range_with_len, length-range_with_len}
use Rattle.ext_tree.specs.Keys.{KeyValue}
use Rattle.ext_tree.specs.Traits.{key_eq}
use Rattle.ext_tree.proofs.Equalities.{keys_Decides}
use Rattle.ext_lifecycle.specs.declared.call.Call.{Call}
use Rattle.ext_lifecycle.specs.Callbacks.{test_call}
use Rattle.ext_plan.specs.Plans.{KeyText, PlanText, StepText, keyed, fail, abort}
use Rattle.ext_plan.specs.PlanCalls.{steps_of_call}
use Rattle.ext_plan.specs.ReadPlans.{ids_of_nodes}
use Rattle.ext_plan.specs.StepCalls.{start_of}
use Rattle.ext_plan.specs.StoreKeys.{key_of_step, number_of_key}
use Rattle.ext_races.specs.Acts.{ActText, act_of}
use Rattle.ext_races.specs.MadeSteps.{MadeText, calls_after, calls_before, calls_of, made_after, made_by, made_in_turn, made_of_node, path_of, plan_path, steps_made}
use Rattle.ext_races.specs.Touches.{ComputeText, TouchText, below_act, below_computes, found_above, keys_named, look_at, reach, standing, touch_first, touch_of, touches_above, touches_along, touches_made, touches_of, touches_of_act}
use Rattle.ext_plan.specs.StepWords.{changes, gives_value, looks_along}
use Rattle.ext_races.proofs.Lists.{contains-flat_map, contains-flat_map_back, contains-map, contains-map_back, contains_at, contains_cases, contains_first, contains_later, contains_nothing}
use Rattle.ext_races.proofs.StepTouches.{all_reach}

-- ---- what a touch is of

-- the touch is of this place, by this node
abbrev pub IsOf : ℕ → ℕ → ℕ → TouchText → Type 0
IsOf node key context t = (t.node ≡ node) × (t.context ≡ context) × (t.key ≡ key)

pub look_at_is : (node key : ℕ) (act : ActText) (found : Option ComputeText) (context : ℕ) → ((look_at node key act found context).node ≡ node) × ((look_at node key act found context).context ≡ context)
    × ((look_at node key act found context).key ≡ key) × ((look_at node key act found context).changes ≡ false)
look_at_is node key act None context = (refl, refl, refl, refl)
look_at_is node key act (Some found) context = elim (cases_Bool (context == found.context)) [
  | inl same ↦ rw same (refl, refl, refl, refl)
  | inr other ↦ rw other (refl, refl, refl, refl)
]

pub looks_of : (node key : ℕ) (act : ActText) (found : Option ComputeText) (context : ℕ) → IsOf node key context (look_at node key act found context)
looks_of node key act found context = let is = look_at_is node key act found context in (is.0, is.1, is.2)

-- an act touches the context on which it acts as it changes it,
pub first_changes : (node key : ℕ) (act : ActText) (found : Option ComputeText) (context : ℕ) → changes act.word ≡ true → touch_first node key act found context ≡ touch_of node key act true context
first_changes node key act found context changing = ap (λ (b : Bool). if b then touch_of node key act true context else look_at node key act found context) changing

-- or looks at it
pub first_looks : (node key : ℕ) (act : ActText) (found : Option ComputeText) (context : ℕ) → changes act.word ≡ false → touch_first node key act found context ≡ look_at node key act found context
first_looks node key act found context still = ap (λ (b : Bool). if b then touch_of node key act true context else look_at node key act found context) still

first_of : (node key : ℕ) (act : ActText) (found : Option ComputeText) (context : ℕ) → IsOf node key context (touch_first node key act found context)
first_of node key act found context = elim (cases_Bool (changes act.word)) [
  | inl changing ↦ subst (IsOf node key context) (sym (first_changes node key act found context changing)) (refl, refl, refl)
  | inr still ↦ subst (IsOf node key context) (sym (first_looks node key act found context still)) (looks_of node key act found context)
]

-- ---- a touch is on the path of its node

above_on : (node key : ℕ) (act : ActText) (found : Option ComputeText) (above : List ℕ) (t : TouchText) (looks : Bool) → Contains (if looks then map (look_at node key act found) above else []) t
    → (t.node ≡ node) × Contains above t.context
above_on node key act found above t true h =
    let from = contains-map_back (look_at node key act found) above t h in
    let of = looks_of node key act found from.0 in
    (sym (ap (λ u. u.node) from.2) ∙ of.0, subst (Contains above) (sym of.1 ∙ ap (λ u. u.context) from.2) from.1)
above_on node key act found above t false h = contains_nothing t h

along_on : (node key : ℕ) (act : ActText) (found : Option ComputeText) (path : List ℕ) (t : TouchText) → Contains (touches_along node key act found path) t → (t.node ≡ node) × Contains path t.context
along_on node key act found [] t h = contains_nothing t h
along_on node key act found (context ∷ above) t h = elim (contains_cases _ t (touches_above node key act found above) h) [
  | inl here ↦
      let of = first_of node key act found context in
      (sym (ap (λ u. u.node) here) ∙ of.0, subst (Contains (context ∷ above)) (sym of.1 ∙ ap (λ u. u.context) here) (contains_first context above))
  | inr later ↦ let rest = above_on node key act found above t (looks_along act.word) later in (rest.0, contains_later context t.context above rest.1)
]

act_on : (declared : List KeyText) (keys : List KeyValue) (node : ℕ) (path : List ℕ) (before : List StepText) (above : KeyValue → Option ComputeText) (act : Option ActText) (t : TouchText)
    → Contains (touches_of_act declared keys node path before above act) t → (t.node ≡ node) × Contains path t.context
act_on declared keys node path before above None t h = contains_nothing t h
act_on declared keys node path before above (Some act) t h =
    let along = drop act.up (reach declared before path act) in
    let on = along_on node (number_of_key keys (key_of_step declared act.key)) act (found_above declared before above act) along t h in
    let all : All (Contains path) along = All-drop (Contains path) act.up (reach declared before path act) (all_reach (Contains path) declared before path act (All-contains_itself path)) in
    (on.0, All-contains (Contains path) along t.context all on.1)

pub touch_on_path : (plan : PlanText) (t : TouchText) → Contains (touches_made plan) t → Contains (plan_path plan t.node) t.context
touch_on_path plan t h =
    let ids = ids_of_nodes plan.nodes in
    let from = contains-flat_map_back (touches_of ids plan.keys (keys_named plan) (standing plan)) (steps_made plan) t h in
    let on = act_on plan.keys (keys_named plan) from.0.node (path_of ids from.0.node) from.0.before (standing plan from.0.node) (act_of from.0.step) t from.2 in
    subst (λ node. Contains (plan_path plan node) t.context) (sym on.0) on.1

-- ---- the steps of a call are made

among_push : (before : List StepText) (first : StepText) (more : List StepText) (s : StepText) → (Contains (before ++ first ∷ []) s ⊎ Contains more s) → (Contains before s ⊎ Contains (first ∷ more) s)
among_push before first more s (inl there) = elim (Contains-push_cases before first s there) [
  | inl old ↦ inl old
  | inr same ↦ inr (subst (Contains (first ∷ more)) same (contains_first first more))
]
among_push before first more s (inr there) = inr (contains_later first s more there)

-- The step is made by the node after those of a list
record IsMadeIn (node : ℕ) (before steps : List StepText) (step : StepText) : Type 0 where
  pub front : List StepText
  pub made : Contains (made_after node before steps) (made_by node front step)
  pub among : (s : StepText) → Contains front s → Contains before s ⊎ Contains steps s

made_in : (node : ℕ) (before steps : List StepText) (step : StepText) → Contains steps step → IsMadeIn node before steps step
made_in node before [] step there = contains_nothing step there
made_in node before (first ∷ more) step there = elim (contains_cases first step more there) [
  | inl same ↦ record {
    front = before;
    made = subst (λ s. Contains (made_after node before (first ∷ more)) (made_by node before s)) same (contains_first (made_by node before first) (made_after node (before ++ first ∷ []) more));
    among = λ s old. inl old;
  }
  | inr later ↦
      let rest = made_in node (before ++ first ∷ []) more step later in
      record {
        front = rest.front;
        made = contains_later (made_by node before first) (made_by node rest.front step) (made_after node (before ++ first ∷ []) more) rest.made;
        among = λ s old. among_push before first more s (rest.among s old);
      }
]

-- calls of which each is made only if those before it were successful make their steps as if they were one
after_append : (node : ℕ) (before steps more : List StepText) → made_after node before (steps ++ more) ≡ made_after node before steps ++ made_after node (before ++ steps) more
after_append node before [] more = ap (λ b. made_after node b more) (sym (append-nil before))
after_append node before (step ∷ steps) more =
    ap (λ l. made_by node before step ∷ l)
    (after_append node (before ++ step ∷ []) steps more ∙ ap (λ b. made_after node (before ++ step ∷ []) steps ++ made_after node b more) (append_assoc before (step ∷ []) steps))

pub turn_is : (plan : PlanText) (node : ℕ) (before : List StepText) (calls : List Call) → made_in_turn plan node before calls ≡ made_after node before (flat_map (steps_of_call plan) calls)
turn_is plan node before [] = refl
turn_is plan node before (call ∷ more) =
    ap (λ l. made_after node before (steps_of_call plan call) ++ l) (turn_is plan node (before ++ steps_of_call plan call) more)
    ∙ sym (after_append node before (steps_of_call plan call) (flat_map (steps_of_call plan) more))

-- The step is made by the node, after steps of its calls
pub record IsMade (plan : PlanText) (node : ℕ) (step : StepText) : Type 0 where
  pub front : List StepText
  pub made : Contains (steps_made plan) (made_by node front step)
  pub among : (s : StepText) → Contains front s → (call : Call) × Contains (calls_of plan node) call × Contains (steps_of_call plan call) s

pub in_range : (count node : ℕ) → node < count → Contains (range_with_len 0 count) node
in_range count node less = (node, (let long = length-range_with_len 0 count in omega (arith, less, long)), get_or-range_with_len 0 count node node less ∙ zero-add node)

pub is_made : (plan : PlanText) (node : ℕ) (call : Call) (step : StepText) → node < length plan.nodes → Contains (calls_of plan node) call → Contains (steps_of_call plan call) step → IsMade plan node step
is_made plan node call step within among there =
    let opening = calls_before plan node ++ test_call node ∷ [] in
    let after = calls_after plan node in
    let first = made_in_turn plan node [] opening in
    let last = flat_map (λ c. made_after node [] (steps_of_call plan c)) after in
    let in_plan : (made : MadeText) → Contains (made_of_node plan node) made → Contains (steps_made plan) made =
    λ made held. contains-flat_map (made_of_node plan) (range_with_len 0 (length plan.nodes)) node made (in_range (length plan.nodes) node within) held in
    elim (Contains-append_cases opening after call among) [
      | inl early ↦
          let one = made_in node [] (flat_map (steps_of_call plan) opening) step (contains-flat_map (steps_of_call plan) opening call step early there) in
          record {
            front = one.front;
            made = in_plan (made_by node one.front step) (Contains-append_left first last (made_by node one.front step)
                (subst (λ (l : List MadeText). Contains l (made_by node one.front step)) (sym (turn_is plan node [] opening)) one.made));
            among = λ s old. elim (one.among s old) [
              | inl none ↦ contains_nothing s none
              | inr is ↦ let of = contains-flat_map_back (steps_of_call plan) opening s is in (of.0, Contains-append_left opening after of.0 of.1, of.2)
            ];
          }
      | inr late ↦
          let one = made_in node [] (steps_of_call plan call) step there in
          record {
            front = one.front;
            made = in_plan (made_by node one.front step)
                (Contains-append_right first last (made_by node one.front step) (contains-flat_map (λ c. made_after node [] (steps_of_call plan c)) after call (made_by node one.front step) late one.made));
            among = λ s old. elim (one.among s old) [ inl none ↦ contains_nothing s none | inr is ↦ (call, among, is) ];
          }
    ]

-- ---- where a step touches

-- the step of an act
abbrev pub step_of : ActText → StepText
step_of act = keyed act.word act.key act.text act.up

pub step_is : (step : StepText) (act : ActText) → act_of step ≡ Some act → step ≡ step_of act
step_is (keyed word key text up) act acts = let same : ◌≡◌ {A = ActText} (record { word = word; key = key; text = text; up = up }) act = cc acts in ap step_of same
step_is (fail text) act acts = absurd (cc acts)
step_is (abort text) act acts = absurd (cc acts)

pub along_first : (node key : ℕ) (act : ActText) (found : Option ComputeText) (path : List ℕ) → 0 < length path → Contains (touches_along node key act found path) (touch_first node key act found (start_of path))
along_first node key act found [] some = absurd (omega (arith, some))
along_first node key act found (context ∷ above) some = contains_first (touch_first node key act found context) (touches_above node key act found above)

pub above_all : (node key : ℕ) (act : ActText) (found : Option ComputeText) (above : List ℕ) (context : ℕ) → looks_along act.word ≡ true → Contains above context
    → Contains (touches_above node key act found above) (look_at node key act found context)
above_all node key act found above context looks there =
    subst (λ (b : Bool). Contains (if b then map (look_at node key act found) above else []) (look_at node key act found context)) (sym looks) (contains-map (look_at node key act found) above context there)

-- A touch that the plan makes, by the node, at this context and this number of a key; it may change the place, where that is told
pub record IsTouched (plan : PlanText) (node context number : ℕ) (told : Bool) : Type 0 where
  pub touch : TouchText
  pub made : Contains (touches_made plan) touch
  pub node_is : touch.node ≡ node
  pub context_is : touch.context ≡ context
  pub key_is : touch.key ≡ number
  pub changes : told ≡ true → touch.changes ≡ true

module _ (plan : PlanText) (node : ℕ) where
  abbrev number_in : ActText → ℕ
  number_in act = number_of_key (keys_named plan) (key_of_step plan.keys act.key)

  module _ (act : ActText) (is : IsMade plan node (step_of act)) where
    abbrev reached : List ℕ
    reached = drop act.up (reach plan.keys is.front (plan_path plan node) act)

    abbrev found_here : Option ComputeText
    found_here = found_above plan.keys is.front (standing plan node) act

    touch_made : (t : TouchText) → Contains (touches_along node (number_in act) act found_here reached) t → Contains (touches_made plan) t
    touch_made t there =
        contains-flat_map (touches_of (ids_of_nodes plan.nodes) plan.keys (keys_named plan) (standing plan)) (steps_made plan) (made_by node is.front (step_of act)) t is.made there

    reach_is : changes act.word ≡ true → reached ≡ drop act.up (plan_path plan node)
    reach_is changing = ap (λ (b : Bool). drop act.up (if b then plan_path plan node else below_computes plan.keys (key_of_step plan.keys act.key) (plan_path plan node) is.front)) changing

    -- a changing act touches the place on which it acts, and changes it
    pub start_made : changes act.word ≡ true → act.up < length (plan_path plan node) → Contains (touches_made plan) (touch_of node (number_in act) act true (start_of (drop act.up (plan_path plan node))))
    start_made changing low =
        let path = drop act.up (plan_path plan node) in
        let some : 0 < length path = (let long = length-drop act.up (plan_path plan node) in omega (arith, long, low)) in
        subst (Contains (touches_made plan)) (first_changes node (number_in act) act found_here (start_of path) changing)
        (touch_made (touch_first node (number_in act) act found_here (start_of path))
        (subst (λ p. Contains (touches_along node (number_in act) act found_here p) (touch_first node (number_in act) act found_here (start_of path))) (sym (reach_is changing))
        (along_first node (number_in act) act found_here path some)))

    pub touches_start : changes act.word ≡ true → act.up < length (plan_path plan node) → IsTouched plan node (start_of (drop act.up (plan_path plan node))) (number_in act) true
    touches_start changing low = record {
      touch = touch_of node (number_in act) act true (start_of (drop act.up (plan_path plan node)));
      made = start_made changing low;
      node_is = refl;
      context_is = refl;
      key_is = refl;
      changes = λ told. refl;
    }

-- ---- look-ups behind a compute

-- the step computes a value of the key, no further up than this
pub record Computes (declared : List KeyText) (key : KeyValue) (at : ℕ) (act : Option ActText) : Type 0 where
  pub one : ActText
  pub is : act ≡ Some one
  pub gives : gives_value one.word ≡ true
  pub same : key_of_step declared one.key ≡ key
  pub low : one.up ≤ at

-- at this place of the path it is as it was
abbrev pub IsKept : List ℕ → List ℕ → ℕ → Type 0
IsKept path below at = (at < length below) × (get_or below at 0 ≡ get_or path at 0)

take_keeps : (path : List ℕ) (up at : ℕ) → at < length path → at < up → IsKept path (take up path) at
take_keeps path up at less low = ((let long = length-take up path in omega (arith, long, less, low)), get_or-take up path at 0 low)

kept_if : (b : Bool) (path : List ℕ) (up at : ℕ) → at < length path → IsKept path (if b then take up path else path) at ⊎ ((b ≡ true) × (up ≤ at))
kept_if false path up at less = inl (less, refl)
kept_if true path up at less = elim (cases_lt at up) [ inl low ↦ inl (take_keeps path up at less low) | inr high ↦ inr (refl, high) ]

module _ (declared : List KeyText) (key : KeyValue) where
  kept_by_act : (path : List ℕ) (act : Option ActText) (at : ℕ) → at < length path → IsKept path (below_act declared key path act) at ⊎ Computes declared key at act
  kept_by_act path None at less = inl (less, refl)
  kept_by_act path (Some act) at less = elim (kept_if (gives_value act.word && key_eq (key_of_step declared act.key) key) path act.up at less) [
    | inl kept ↦ inl kept
    | inr cut ↦
        let parts = and_parts (gives_value act.word) (key_eq (key_of_step declared act.key) key) cut.0 in
        inr (record { one = act; is = refl; gives = parts.0; same = (keys_Decides (key_of_step declared act.key) key).0 parts.1; low = cut.1 })
  ]

  pub kept_or_computed : (before : List StepText) (path : List ℕ) (at : ℕ) → at < length path
      → IsKept path (below_computes declared key path before) at ⊎ ((step : StepText) × Contains before step × Computes declared key at (act_of step))
  kept_or_computed [] path at less = inl (less, refl)
  kept_or_computed (step ∷ more) path at less = elim (kept_by_act path (act_of step) at less) [
    | inl kept ↦ elim (kept_or_computed more (below_act declared key path (act_of step)) at kept.0) [
      | inl both ↦ inl (both.0, both.1 ∙ kept.1)
      | inr one ↦ inr (one.0, contains_later step one.0 more one.1, one.2)
    ]
    | inr computes ↦ inr (step, contains_first step more, computes)
  ]

pub contains_drop : (n at : ℕ) (xs : List ℕ) → n ≤ at → at < length xs → Contains (drop n xs) (get_or xs at 0)
contains_drop zero at xs low less = contains_at xs at 0 less
contains_drop (suc n) at [] low less = absurd (omega (arith, less))
contains_drop (suc n) zero (x ∷ xs) low less = absurd (omega (arith, low))
contains_drop (suc n) (suc at) (x ∷ xs) low less = contains_drop n at xs (omega (arith, low)) (omega (arith, less))
