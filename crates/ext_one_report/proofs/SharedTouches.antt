-- The touches of a plan's steps with what they are: what computes at a place looks at all places of its key above, and a step of a call touches what its act does, after the steps before it.
use Rattle.std.proofs.Common.{◌≡◌, ◌≢◌, ◌<◌, ℕ, zero, suc, Bool, true, false, List, [], ◌∷◌, ◌++◌, length, Contains, drop, take, Option, Some, None, refl, ap, sym, subst, ◌∙◌, arith, inl, inr, append_assoc, append-nil, ne_eqb}
use Rattle.std.specs.Prelude.{◌||◌, if◌then◌else◌}
use Rattle.std.specs.List.{flat_map, list_any, range_with_len}
use Rattle.std.proofs.lemmas.Grind.{flat_map-append}
use Rattle.std.proofs.lemmas.Bool.{true≢false}
use Rattle.std.proofs.lemmas.List.{length-map}
use Rattle.std.proofs.lemmas.List.Elements.{All-contains, Contains-append_left, Contains-append_right}
use Rattle.ext_tree.specs.Keys.{KeyValue}
use Rattle.ext_tree.specs.Trees.{Id, IsPathOf, IsWalk}
use Rattle.ext_tree.proofs.Walks.{one_walk, walk_below}
use Rattle.ext_lifecycle.specs.declared.call.Call.{Call}
use Rattle.ext_lifecycle.specs.Callbacks.{test_call}
use Rattle.ext_plan.specs.Plans.{KeyText, PlanText, StepText}
use Rattle.ext_plan.specs.PlanCalls.{steps_of_call}
use Rattle.ext_plan.specs.ReadPlans.{IsReadPlan, ids_of_nodes}
use Rattle.ext_plan.specs.StoreKeys.{key_of_step, number_of_key}
use Rattle.ext_plan.specs.StepWords.{changes, computes, looks_along}
use Rattle.ext_plan.specs.declared.word.Word.TheVariants as words
use Rattle.ext_races.specs.Acts.{ActText, act_of}
use Rattle.ext_races.specs.MadeSteps.{MadeText, calls_after, calls_before, calls_of, made_after, made_by, made_in_turn, made_of_node, plan_path, steps_made}
use Rattle.ext_races.specs.Touches.{ComputeText, TouchText, below_act, below_computes, computes_key, found_above, keys_named, look_at, reach, standing, touch_first, touch_of, touches_above, touches_along, touches_made, touches_of, touches_of_act}
use Rattle.ext_races.proofs.Lists.{contains-flat_map, contains-flat_map_back, contains_cases, contains_first, contains_later, contains_nothing}
use Rattle.ext_races.proofs.StepTouches.{reach_below}
use Rattle.ext_races.proofs.Within.{nodes_within}
use Rattle.ext_one_report.proofs.CoveredPaths.{path_there}
pub use Rattle.ext_one_report.proofs.CoveredTouches.{look_at_is}
use Rattle.ext_one_report.proofs.CoveredTouches.{above_all, first_looks, in_range, is_made, step_of, turn_is}
use Rattle.ext_one_report.proofs.FoundAbove.{Comes, FindsHere, IsFirst, IsLook, along_cases, comes, found_by, found_parts, look_cases, number_of, reached_by}
use Rattle.ext_one_report.proofs.WordCases.{factories_all, still_looks}

-- ---- what a touch looks at above its own context

-- a touch that the plan makes, by the node, at this context and this number of a key, which it only looks at
pub record IsLooked (plan : PlanText) (node context number : ℕ) : Type 0 where
  pub touch : TouchText
  pub made : Contains (touches_made plan) touch
  pub node_is : touch.node ≡ node
  pub context_is : touch.context ≡ context
  pub key_is : touch.key ≡ number
  pub still : touch.changes ≡ false
  pub only : touch.acts ≡ words.Want

pub looked_above : (node key : ℕ) (act : ActText) (found : Option ComputeText) (context : ℕ) (above : List ℕ) (c : ℕ) → looks_along act.word ≡ true → Contains above c
    → Contains (touches_along node key act found (context ∷ above)) (look_at node key act found c)
looked_above node key act found context above c looks there =
    contains_later (touch_first node key act found context) (look_at node key act found c) (touches_above node key act found above) (above_all node key act found above c looks there)

-- a look-up looks at each place that it reaches
pub looked_along : (node key : ℕ) (act : ActText) (found : Option ComputeText) (path : List ℕ) (c : ℕ) → changes act.word ≡ false → Contains path c → Contains (touches_along node key act found path) (look_at node key act found c)
looked_along node key act found [] c still there = contains_nothing c there
looked_along node key act found (context ∷ above) c still there = elim (contains_cases context c above there) [
  | inl same ↦ subst (λ x. Contains (touches_along node key act found (context ∷ above)) (look_at node key act found x)) same
      (subst (Contains (touches_along node key act found (context ∷ above))) (first_looks node key act found context still) (contains_first (touch_first node key act found context) (touches_above node key act found above)))
  | inr later ↦ looked_above node key act found context above c (still_looks act.word still) later
]

reach_all : (declared : List KeyText) (before : List StepText) (path : List ℕ) (act : ActText) → changes act.word ≡ true → reach declared before path act ≡ path
reach_all declared before path act changing = ap (λ (b : Bool). if b then path else below_computes declared (key_of_step declared act.key) path before) changing

-- a changing act finds nothing above
pub finds_nothing : (declared : List KeyText) (before : List StepText) (above : KeyValue → Option ComputeText) (act : ActText) → changes act.word ≡ true → found_above declared before above act ≡ None
finds_nothing declared before above act changing =
    let computed = list_any (λ step. computes_key declared (key_of_step declared act.key) (act_of step)) before in
    ap (λ (b : Bool). if b || computed then None else above (key_of_step declared act.key)) changing

-- where the steps before a look-up do not compute its key, it reaches the whole path
below_same : (declared : List KeyText) (key : KeyValue) (path : List ℕ) (act : Option ActText) → computes_key declared key act ≡ false → below_act declared key path act ≡ path
below_same declared key path None none = refl
below_same declared key path (Some act) none = ap (λ (b : Bool). if b then take act.up path else path) none

below_all : (declared : List KeyText) (key : KeyValue) (path : List ℕ) (before : List StepText) → ((step : StepText) → Contains before step → computes_key declared key (act_of step) ≡ false) → below_computes declared key path before ≡ path
below_all declared key path [] none = refl
below_all declared key path (step ∷ more) none =
    ap (λ p. below_computes declared key p more) (below_same declared key path (act_of step) (none step (contains_first step more)))
    ∙ below_all declared key path more (λ s there. none s (contains_later step s more there))

-- ---- paths

nothing_dropped : (n c : ℕ) (above : List ℕ) → drop n [] ≡ c ∷ above → ⊥
nothing_dropped zero c above e = absurd (cc e)
nothing_dropped (suc n) c above e = absurd (cc e)

dropped : (ids : List Id) (n k c : ℕ) (walk above : List ℕ) → IsWalk ids k walk → drop n (k ∷ walk) ≡ c ∷ above → IsWalk ids c above
dropped ids zero k c walk above walks e =
    let first : k ≡ c = cc e in
    let rest : walk ≡ above = cc e in
    subst (IsWalk ids c) rest (subst (λ n. IsWalk ids n walk) first walks)
dropped ids (suc n) k c [] above walks e = absurd (nothing_dropped n c above e)
dropped ids (suc n) k c (p ∷ rest) above (is, walks) e = dropped ids n p c rest above walks e

-- from a context of a path on it is the path of that context
pub dropped_path : (ids : List Id) (n k c : ℕ) (path above : List ℕ) → IsPathOf ids k path → drop n path ≡ c ∷ above → IsWalk ids c above
dropped_path ids n k c [] above is e = absurd is
dropped_path ids n k c (first ∷ walk) above (same, walks) e = dropped ids n first c walk above (subst (λ j. IsWalk ids j walk) (sym same) walks) e

-- from each context of a path on it is a walk, all of which is on the path
record GoesOn (ids : List Id) (path : List ℕ) (context : ℕ) : Type 0 where
  above : List ℕ
  walks : IsWalk ids context above
  among : (c : ℕ) → Contains above c → Contains path c

goes_on : (ids : List Id) (k : ℕ) (walk : List ℕ) (context : ℕ) → IsWalk ids k walk → Contains (k ∷ walk) context → GoesOn ids (k ∷ walk) context
goes_on ids k [] context root there = elim (contains_cases k context [] there) [
  | inl same ↦ record { above = []; walks = subst (λ n. IsWalk ids n []) same root; among = λ c held. contains_nothing c held }
  | inr none ↦ contains_nothing context none
]
goes_on ids k (p ∷ rest) context (is, walks) there = elim (contains_cases k context (p ∷ rest) there) [
  | inl same ↦ record { above = p ∷ rest; walks = subst (λ n. IsWalk ids n (p ∷ rest)) same (is, walks); among = λ c held. contains_later k c (p ∷ rest) held }
  | inr later ↦
      let further = goes_on ids p rest context walks later in
      record { above = further.above; walks = further.walks; among = λ c held. contains_later k c (p ∷ rest) (further.among c held) }
]

along_goes : (ids : List Id) (n k : ℕ) (path along : List ℕ) (context : ℕ) → IsPathOf ids k path → drop n path ≡ along → Contains along context → GoesOn ids along context
along_goes ids n k path [] context is e there = contains_nothing context there
along_goes ids n k path (first ∷ above) context is e there = goes_on ids first above context (dropped_path ids n k first path above is e) there

-- ---- what computes, or finds what is computed, looks at all places above

-- at a place where it does not find what was computed, a look-up counts as one
look_other : (node key : ℕ) (act : ActText) (found : ComputeText) (context : ℕ) → context ≢ found.context → (look_at node key act (Some found) context).acts ≡ words.Want
look_other node key act found context differ =
    ap (λ (b : Bool). (if b then record (touch_of node key act false context) { acts = found.word; text = found.text } else touch_of node key act false context).acts) (ne_eqb context found.context differ)

look_none : (node key : ℕ) (act : ActText) (found : Option ComputeText) (context : ℕ) → found ≡ None → (look_at node key act found context).acts ≡ words.Want
look_none node key act found context none = ap (λ f. (look_at node key act f context).acts) none

module _ (plan : PlanText) (read : IsReadPlan plan) (t : TouchText) (factory : computes t.acts ≡ true) (walk : List ℕ) (walks : IsWalk (ids_of_nodes plan.nodes) t.context walk) (c : ℕ) (there : Contains walk c) where
  abbrev ids : List Id
  ids = ids_of_nodes plan.nodes

  module _ (from : Comes plan t) where
    abbrev node : ℕ
    node = from.made.node

    abbrev act : ActText
    act = from.act

    abbrev number : ℕ
    number = number_of plan act

    abbrev found : Option ComputeText
    found = found_by plan from.made act

    path_is : IsPathOf ids node (plan_path plan node)
    path_is =
        let same = length-map plan.nodes (λ n. n.id) in
        let less = All-contains (λ (m : MadeText). m.node < length plan.nodes) (steps_made plan) from.made (nodes_within plan) from.of_plan in
        path_there ids read.runnable.tree node (omega (arith, less, same))

    looked : Contains (touches_along node number act found (reached_by plan from.made act)) (look_at node number act found c) → t.node ≡ node → t.key ≡ number → (look_at node number act found c).acts ≡ words.Want
        → IsLooked plan t.node c t.key
    looked held node_is key_is only =
        let is = look_at_is node number act found c in
        record {
          touch = look_at node number act found c;
          made = contains-flat_map (touches_of ids plan.keys (keys_named plan) (standing plan)) (steps_made plan) from.made (look_at node number act found c) from.of_plan
              (subst (λ a. Contains (touches_of_act plan.keys (keys_named plan) node (plan_path plan node) from.made.before (standing plan node) a) (look_at node number act found c)) (sym from.is) held);
          node_is = is.0 ∙ sym node_is;
          context_is = is.1;
          key_is = is.2 ∙ sym key_is;
          still = is.3;
          only = only;
        }

    -- where it changes its place
    of_first : IsFirst node number act (reached_by plan from.made act) t → IsLooked plan t.node c t.key
    of_first first =
        let all = factories_all act.word (ap (λ u. computes u.acts) first.touch_is ∙ factory) in
        let along : drop act.up (plan_path plan node) ≡ first.context ∷ first.above =
        ap (drop act.up) (sym (reach_all plan.keys from.made.before (plan_path plan node) act first.changing)) ∙ first.path_is in
        let above = dropped_path ids act.up node first.context (plan_path plan node) first.above path_is along in
        let same : walk ≡ first.above = one_walk ids read.runnable.tree first.context walk first.above (subst (λ n. IsWalk ids n walk) (sym (ap (λ u. u.context) first.touch_is)) walks) above in
        let held = looked_above node number act found first.context first.above c all.1 (subst (λ w. Contains w c) same there) in
        looked (subst (λ p. Contains (touches_along node number act found p) (look_at node number act found c)) (sym first.path_is) held) (sym (ap (λ u. u.node) first.touch_is)) (sym (ap (λ u. u.key) first.touch_is))
        (look_none node number act found c (finds_nothing plan.keys from.made.before (standing plan node) act first.changing))

    -- and where it finds what was computed there
    of_look : (look : IsLook node number act found (reached_by plan from.made act) t) → FindsHere node number act found look.context → IsLooked plan t.node c t.key
    of_look look finds =
        let by = found_parts plan from.made act finds.one finds.is in
        let key = key_of_step plan.keys act.key in
        let whole : reached_by plan from.made act ≡ drop act.up (plan_path plan node) =
        ap (drop act.up) (sym (reach_below plan.keys from.made.before (plan_path plan node) act by.still) ∙ below_all plan.keys key (plan_path plan node) from.made.before by.none) in
        let is = look_at_is node number act found look.context in
        let at : look.context ≡ t.context = sym is.1 ∙ ap (λ u. u.context) look.touch_is in
        let on = along_goes ids act.up node (plan_path plan node) (reached_by plan from.made act) look.context path_is (sym whole) look.there in
        let same : walk ≡ on.above = one_walk ids read.runnable.tree look.context walk on.above (subst (λ n. IsWalk ids n walk) (sym at) walks) on.walks in
        let held = on.among c (subst (λ w. Contains w c) same there) in
        let below = walk_below ids read.runnable.tree t.context walk walks there.0 c there.1 in
        let there_is = there.2 in
        let lower : c < t.context = omega (arith, below, there_is) in
        looked (looked_along node number act found (reached_by plan from.made act) c by.still held) (sym (ap (λ u. u.node) look.touch_is) ∙ is.0) (sym (ap (λ u. u.key) look.touch_is) ∙ is.2)
        (subst (λ f. (look_at node number act f c).acts ≡ words.Want) (sym finds.is) (look_other node number act finds.one c (λ e. let here = finds.at in omega (arith, e, here, at, lower))))

    looks_of_all : IsLooked plan t.node c t.key
    looks_of_all = elim (along_cases node number act found (reached_by plan from.made act) t from.there) [
      | inl first ↦ of_first first
      | inr look ↦ elim (look_cases node number act found look.context) [
        | inl want ↦ absurd (true≢false (sym factory ∙ ap computes (sym (ap (λ u. u.acts) look.touch_is) ∙ want)))
        | inr finds ↦ of_look look finds
      ]
    ]

  pub compute_looks : Contains (touches_made plan) t → IsLooked plan t.node c t.key
  compute_looks made = looks_of_all (comes plan t made)

-- ---- the steps of a call are made after those before them

made_split : (node : ℕ) (before front : List StepText) (step : StepText) (more : List StepText) → Contains (made_after node before (front ++ step ∷ more)) (made_by node (before ++ front) step)
made_split node before [] step more =
    subst (λ b. Contains (made_after node before (step ∷ more)) (made_by node b step)) (sym (append-nil before)) (contains_first (made_by node before step) (made_after node (before ++ step ∷ []) more))
made_split node before (first ∷ front) step more =
    let rest = made_split node (before ++ first ∷ []) front step more in
    contains_later (made_by node before first) (made_by node (before ++ first ∷ front) step) (made_after node (before ++ first ∷ []) (front ++ step ∷ more))
    (subst (λ b. Contains (made_after node (before ++ first ∷ []) (front ++ step ∷ more)) (made_by node b step)) (append_assoc before (first ∷ []) front) rest)

-- what a step touches that changes the place it acts on, whatever comes before it
module _ (plan : PlanText) (node : ℕ) (call : Call) (within : node < length plan.nodes) (among : Contains (calls_of plan node) call) (act : ActText) (there : Contains (steps_of_call plan call) (step_of act)) where
  pub changes_there : changes act.word ≡ true → (t : TouchText)
      → Contains (touches_along node (number_of_key (keys_named plan) (key_of_step plan.keys act.key)) act None (drop act.up (plan_path plan node))) t → Contains (touches_made plan) t
  changes_there changing t held =
      let is = is_made plan node call (step_of act) within among there in
      let number = number_of_key (keys_named plan) (key_of_step plan.keys act.key) in
      contains-flat_map (touches_of (ids_of_nodes plan.nodes) plan.keys (keys_named plan) (standing plan)) (steps_made plan) (made_by node is.front (step_of act)) t is.made
      (subst (λ found. Contains (touches_along node number act found (drop act.up (reach plan.keys is.front (plan_path plan node) act))) t) (sym (finds_nothing plan.keys is.front (standing plan node) act changing))
      (subst (λ p. Contains (touches_along node number act None (drop act.up p)) t) (sym (reach_all plan.keys is.front (plan_path plan node) act changing)) held))

-- the steps of this call are made behind those, which are of calls of the node
pub record IsMadeBehind (plan : PlanText) (node : ℕ) (call : Call) (earlier : List StepText) : Type 0 where
  pub made : (front : List StepText) (step : StepText) (more : List StepText) → steps_of_call plan call ≡ front ++ step ∷ more → Contains (steps_made plan) (made_by node (earlier ++ front) step)
  pub of : (step : StepText) → Contains earlier step → (one : Call) × Contains (calls_of plan node) one × Contains (steps_of_call plan one) step

module _ (plan : PlanText) (node : ℕ) (within : node < length plan.nodes) where
  abbrev opening : List Call
  opening = calls_before plan node ++ test_call node ∷ []

  abbrev first : List MadeText
  first = made_in_turn plan node [] opening

  abbrev last : List MadeText
  last = flat_map (λ c. made_after node [] (steps_of_call plan c)) (calls_after plan node)

  in_plan : (made : MadeText) → Contains (first ++ last) made → Contains (steps_made plan) made
  in_plan made held = contains-flat_map (made_of_node plan) (range_with_len 0 (length plan.nodes)) node made (in_range (length plan.nodes) node within) held

  -- those of a callback before the body, and of the body, behind those of all callbacks before it
  pub behind_befores : (before : List Call) (call : Call) (more : List Call) → calls_before plan node ++ test_call node ∷ [] ≡ before ++ call ∷ more → IsMadeBehind plan node call (flat_map (steps_of_call plan) before)
  behind_befores before call more is = record {
    made = λ front step rest whole.
        let f : Call → List StepText = steps_of_call plan in
        let early = flat_map f before in
        let late = flat_map f more in
        let all : flat_map f opening ≡ (early ++ front) ++ step ∷ (rest ++ late) =
        ap (flat_map f) is ∙ (flat_map-append f before (call ∷ more) ∙ (ap (λ l. early ++ (l ++ late)) whole
        ∙ (ap (λ l. early ++ l) (append_assoc front (step ∷ rest) late) ∙ sym (append_assoc early front (step ∷ (rest ++ late)))))) in
        let made = made_by node (early ++ front) step in
        in_plan made (Contains-append_left first last made
        (subst (λ (l : List MadeText). Contains l made) (sym (turn_is plan node [] opening))
        (subst (λ (steps : List StepText). Contains (made_after node [] steps) made) (sym all) (made_split node [] (early ++ front) step (rest ++ late)))));
    of = λ step held.
        let one = contains-flat_map_back (steps_of_call plan) before step held in (
          one.0,
          Contains-append_left opening (calls_after plan node) one.0 (subst (λ (l : List Call). Contains l one.0) (sym is) (Contains-append_left before (call ∷ more) one.0 one.1)),
          one.2,
        );
  }

  -- those of a callback after it behind its own alone
  pub behind_none : (call : Call) → Contains (calls_after plan node) call → IsMadeBehind plan node call []
  behind_none call among = record {
    made = λ front step rest whole.
        let made = made_by node front step in
        in_plan made (Contains-append_right first last made (contains-flat_map (λ c. made_after node [] (steps_of_call plan c)) (calls_after plan node) call made among
        (subst (λ (steps : List StepText). Contains (made_after node [] steps) made) (sym whole) (made_split node [] front step rest))));
    of = λ step held. contains_nothing step held;
  }

module _ (plan : PlanText) (node : ℕ) (call : Call) (earlier : List StepText) (behind : IsMadeBehind plan node call earlier) (front : List StepText) (act : ActText) (more : List StepText)
    (whole : steps_of_call plan call ≡ front ++ step_of act ∷ more) where
  -- what a step touches by its act
  pub touches_there : (t : TouchText)
      → Contains (touches_along node (number_of_key (keys_named plan) (key_of_step plan.keys act.key)) act (found_above plan.keys (earlier ++ front) (standing plan node) act)
      (drop act.up (reach plan.keys (earlier ++ front) (plan_path plan node) act))) t → Contains (touches_made plan) t
  touches_there t held =
      contains-flat_map (touches_of (ids_of_nodes plan.nodes) plan.keys (keys_named plan) (standing plan)) (steps_made plan) (made_by node (earlier ++ front) (step_of act)) t
      (behind.made front (step_of act) more whole) held

  -- a look-up looks at each place that it reaches
  pub look_there : changes act.word ≡ false → (c : ℕ) → Contains (drop act.up (reach plan.keys (earlier ++ front) (plan_path plan node) act)) c
      → Contains (touches_made plan) (look_at node (number_of_key (keys_named plan) (key_of_step plan.keys act.key)) act (found_above plan.keys (earlier ++ front) (standing plan node) act) c)
  look_there still c reached =
      let number = number_of_key (keys_named plan) (key_of_step plan.keys act.key) in
      let found = found_above plan.keys (earlier ++ front) (standing plan node) act in
      touches_there (look_at node number act found c) (looked_along node number act found (drop act.up (reach plan.keys (earlier ++ front) (plan_path plan node) act)) c still reached)
