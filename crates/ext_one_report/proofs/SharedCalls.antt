-- The calls of nodes that share values: step by step, what a step touches is not shared or is settled by a compute before it, or the step computes it itself, or fails as all do there.
use Rattle.std.proofs.Common.{◌≡◌, ◌<◌, ◌≤◌, ◌⊎◌, ℕ, Bool, true, false, List, [], ◌∷◌, ◌++◌, length, get_or, Contains, drop, Option, Some, None, refl, ap, sym, subst, ◌∙◌, inl, inr, append_assoc, append-nil}
use Rattle.std.specs.Prelude.{if◌then◌else◌}
use Rattle.std.proofs.lemmas.Bool.{cases_Bool, or_left, or_right, true≢false}
use Rattle.std.proofs.lemmas.List.Elements.{All-contains, Contains-append_right, Contains-push_cases}
use Rattle.ext_tree.specs.Keys.{KeyValue}
use Rattle.ext_lifecycle.specs.declared.call.Call.{Call}
use Rattle.ext_plan.specs.Plans.{KeyText, PlanText, StepKeyText, StepText, keyed, fail, abort}
use Rattle.ext_plan.specs.PlanCalls.{steps_of_call}
use Rattle.ext_plan.specs.ReadPlans.{IsReadPlan, ids_of_nodes}
use Rattle.ext_plan.specs.StepCalls.{start_of}
use Rattle.ext_plan.specs.StoreKeys.{key_of_step, number_of_key}
use Rattle.ext_plan.specs.declared.word.Word.{Word}
use Rattle.ext_races.specs.Acts.{ActText, act_of}
use Rattle.ext_races.specs.MadeSteps.{calls_of, plan_path}
use Rattle.ext_races.specs.Touches.{TouchText, below_computes, found_above, keys_named, look_at, standing, touch_of, touches_along, touches_made}
use Rattle.ext_plan.specs.StepWords.{changes, computes, gives_value, looks_along}
use Rattle.ext_races.proofs.Lists.{all_contained, contains_cases, contains_first}
use Rattle.ext_races.proofs.StepTouches.{reach_below}
use Rattle.ext_one_report.proofs.CallsWords.{StepWithin}
use Rattle.ext_one_report.proofs.MatchingWords.{Places, RunView}
use Rattle.ext_one_report.proofs.StepsWords.{LooksWithin, TouchesWithin}
use Rattle.ext_one_report.proofs.Covered.{touched_in}
use Rattle.ext_one_report.proofs.CoveredCalls.{call_stays}
use Rattle.ext_one_report.proofs.CoveredPlans.{IsTouchedBelow, an_act, from_drop, touched_by, within_by, within_itself}
use Rattle.ext_one_report.proofs.CoveredTouches.{contains_drop, kept_or_computed, step_is, step_of}
use Rattle.ext_one_report.proofs.ComputedAbove.{IsStoredIn, NoneOpenAbove}
use Rattle.ext_one_report.proofs.FoundAbove.{how_it_acts, key_there, one_key}
use Rattle.ext_one_report.proofs.Open.{ComputesOpen, FailsOpen, Given, Open, also, at_place, place_of_step, some_or_none, still_open}
use Rattle.ext_races.specs.OneReports.{SharesValues}
use Rattle.ext_one_report.proofs.OpenCalls.{CallFitsOpen, LeavesAbove, NoneOpen, StepsFit}
use Rattle.ext_one_report.proofs.OpenFits.{at_itself}
use Rattle.ext_one_report.proofs.Shared.{given_in, unshared}
use Rattle.ext_one_report.specs.Within.{is_within}
use Rattle.ext_one_report.proofs.SharedFound.{all_give, shares_found}
use Rattle.ext_one_report.proofs.SharedNodes.{touched_there, unshared_is}
use Rattle.ext_one_report.proofs.SharedNodesPlaces as open_places
use Rattle.ext_one_report.proofs.SharedSteps.{acts_there, computes_there, from_start, goes_up, leaves_above, path_is, within}
use Rattle.ext_one_report.proofs.SharedTouches.{IsMadeBehind, changes_there, look_at_is, look_there, looked_above}
use Rattle.ext_one_report.proofs.WordCases.{computes_all, still_looks}

-- ---- places

open_before : {A : Type 0} (b : Bool) (o : Option A) (v : A) → (if b then None else o) ≡ Some v → o ≡ Some v
open_before true o v e = absurd (cc e)
open_before false o v e = e

still_changes : (word : Word) → changes word ≡ false → gives_value word ≡ true → ⊥
still_changes word still gives = true≢false (sym (computes_all word gives).0 ∙ still)

-- a factory that fails gives no value
failing_gives : (keys : List KeyText) (path : List ℕ) (open_at : Open) (act : ActText) → FailsOpen keys path open_at (step_of act) → gives_value act.word ≡ true → ⊥
failing_gives keys path open_at act fails gives = true≢false (sym gives ∙ ap gives_value fails.0)

one_act : (act other : ActText) → Some act ≡ Some other → act ≡ other
one_act act other e = cc e

-- A call of a node whose steps come behind those of other calls, where some of the places that the node shares are open, but none whose value those before compute, or callbacks before all children of a node above
module _ (plan : PlanText) (read : IsReadPlan plan) (shares : SharesValues plan) (run : RunView) (tree : run.store.tree ≡ ids_of_nodes plan.nodes)
    (node : ℕ) (call : Call) (less : node < length (ids_of_nodes plan.nodes)) (among : Contains (calls_of plan node) call) (earlier : List StepText) (is_behind : IsMadeBehind plan node call earlier)
    (opened : Open) (open_is : (context : ℕ) (key : KeyValue) (v : Given) → opened context key ≡ Some v → given_in plan node context key ≡ Some v)
    (none_above : NoneOpenAbove plan (drop 1 (plan_path plan node)) opened) (none_before : NoneOpen plan.keys (plan_path plan node) opened earlier) where
  abbrev path : List ℕ
  path = plan_path plan node

  abbrev shared : Open
  shared = given_in plan node

  abbrev alone : Places
  alone = unshared (touched_in plan node) (given_in plan node)

  abbrev start : ActText → ℕ
  start act = start_of (drop act.up (plan_path plan node))

  abbrev key_of : ActText → KeyValue
  key_of act = key_of_step plan.keys act.key

  -- ---- what a step touches and does not change is not open

  -- the touch only looks at this place
  record IsLook (context : ℕ) (key : KeyValue) (t : TouchText) : Type 0 where
    made : Contains (touches_made plan) t
    node_is : t.node ≡ node
    context_is : t.context ≡ context
    key_is : t.key ≡ number_of_key (keys_named plan) key
    still : t.changes ≡ false

  -- these places have all at which the node only looks
  abbrev HasLooks : Places → Type 0
  HasLooks places = (context : ℕ) (key : KeyValue) (t : TouchText) → IsLook context key t → places context key ≡ true

  abbrev look_below : (context : ℕ) (key : KeyValue) (t : TouchText) → IsLook context key t → IsTouchedBelow plan node context key false
  look_below context key t look = record {
    touch = t;
    made = look.made;
    below = subst (λ n. is_within plan node n ≡ true) (sym look.node_is) (within_itself plan read node (within plan read shares node call less among));
    context_is = look.context_is;
    key_is = look.key_is;
    changes = λ told. absurd (true≢false (sym told));
  }

  -- at an open place it would give the value that others give, and so find what is computed above; but such a place is not open
  never_looked : (context : ℕ) (key : KeyValue) (v : Given) → opened context key ≡ Some v → (t : TouchText) → IsLook context key t → ⊥
  never_looked context key v is t look =
      let none : ¬ IsStoredIn plan (drop 1 (plan_path plan node)) context key = λ computed. open_places.not_both (opened context key) v (none_above context key computed) is in
      let found = shares_found plan read node context key v (open_is context key v is) in
      let gives = all_give plan read shares node context key v found none false (look_below context key t look) in
      elim (how_it_acts plan read t look.made) [
        | inl own ↦ true≢false (sym own.0 ∙ look.still)
        | inr still ↦ elim still [
          | inl looks ↦ true≢false (sym gives.acts ∙ ap computes looks.1)
          | inr finds ↦
              let from = finds.2 in
              let named : from.key ≡ key = one_key (keys_named plan) from.key key from.named (key_there plan t look.made key look.key_is) (from.number ∙ look.key_is) in
              none (subst (IsStoredIn plan (drop 1 (plan_path plan node)) context) named (subst (λ x. IsStoredIn plan (drop 1 (plan_path plan node)) x from.key) look.context_is
              (subst (λ n. IsStoredIn plan (drop 1 (plan_path plan n)) t.context from.key) look.node_is from.computed)))
        ]
      ]

  -- the place that a step of the node changes is touched,
  acts_touched : (one : Call) → Contains (calls_of plan node) one → (act : ActText) → Contains (steps_of_call plan one) (step_of act) → changes act.word ≡ true → touched_in plan node (start act) (key_of act) ≡ true
  acts_touched one own act there changing =
      let key = key_of act in
      let is : IsTouchedBelow plan node (start act) key false = record {
        touch = touch_of node (number_of_key (keys_named plan) key) act (changes act.word) (start act);
        made = acts_there plan read shares node one less own act there changing;
        below = within_itself plan read node (within plan read shares node call less among);
        context_is = refl;
        key_is = refl;
        changes = λ told. absurd cc;
      } in
      touched_by plan node (start act) key is

  -- and where it is not shared it is among the others
  acts_alone : (act : ActText) → Contains (steps_of_call plan call) (step_of act) → changes act.word ≡ true → shared (start act) (key_of act) ≡ None → alone (start act) (key_of act) ≡ true
  acts_alone act there changing none = unshared_is plan node (start act) (key_of act) (acts_touched call among act there changing) none

  -- where its place is settled, such a step that looks up does so among the places
  changing_looks : (one : Call) → Contains (calls_of plan node) one → (act : ActText) → Contains (steps_of_call plan one) (step_of act) → changes act.word ≡ true → looks_along act.word ≡ true → (settled : Places)
      → HasLooks settled → settled (start act) (key_of act) ≡ true → LooksWithin plan.keys (plan_path plan node) settled act.key act.up
  changing_looks one own act there changing looks settled has here =
      let key = key_of act in
      let number = number_of_key (keys_named plan) key in
      let rest = from_start (drop act.up path) (goes_up plan read shares node one less own act there) in
      all_contained (λ c. settled c key ≡ true) (drop act.up path) (λ c held. elim (contains_cases (start act) c rest.0 (subst (λ p. Contains p c) rest.1 held)) [
        | inl same ↦ subst (λ x. settled x key ≡ true) same here
        | inr later ↦
            let touch = touch_of node number act false c in
            let along = subst (λ p. Contains (touches_along node number act None p) touch) (sym rest.1) (looked_above node number act None (start act) rest.0 c looks later) in
            has c key touch (record {
              made = changes_there plan node one (within plan read shares node call less among) own act there changing touch along;
              node_is = refl;
              context_is = refl;
              key_is = refl;
              still = refl;
            })
      ])

  -- ---- what is so behind some steps of the call

  -- these places have all that is not shared, and the shared ones that are open no more; and all that computes before have looked at
  record AreBehind (front : List StepText) (places : Places) (open_at : Open) : Type 0 where
    unshared_in : (context : ℕ) (key : KeyValue) → alone context key ≡ true → places context key ≡ true
    shared_in : (context : ℕ) (key : KeyValue) (v : Given) → shared context key ≡ Some v → (places context key ≡ true) ⊎ (open_at context key ≡ Some v)
    open_in : (context : ℕ) (key : KeyValue) (v : Given) → open_at context key ≡ Some v → opened context key ≡ Some v
    looked : (act : ActText) → Contains front (step_of act) → gives_value act.word ≡ true → LooksWithin plan.keys (plan_path plan node) places act.key act.up

  -- so these places have all at which the node only looks
  looks_in : (front : List StepText) (places : Places) (open_at : Open) → AreBehind front places open_at → HasLooks places
  looks_in front places open_at behind context key t look = elim (some_or_none (shared context key)) [
    | inl none ↦ behind.unshared_in context key (unshared_is plan node context key (touched_by plan node context key (look_below context key t look)) none)
    | inr some ↦ elim (behind.shared_in context key some.0 some.1) [
      | inl here ↦ here
      | inr open_there ↦ absurd (never_looked context key some.0 (behind.open_in context key some.0 open_there) t look)
    ]
  ]

  -- what a compute looks at is among these places
  abbrev Settles : Places → StepText → Type 0
  Settles places step = (act : ActText) → step ≡ step_of act → gives_value act.word ≡ true → LooksWithin plan.keys (plan_path plan node) places act.key act.up

  -- what the step touches is settled, or it settles its own place, or fails where nothing is kept
  abbrev Fits : StepText → Places → Open → Type 0
  Fits step places open_at =
      (StepWithin plan.keys (plan_path plan node) places step × LeavesAbove run plan.keys (plan_path plan node) open_at step × Settles places step)
      ⊎ (ComputesOpen plan.keys (plan_path plan node) open_at step × Settles (also (place_of_step plan.keys (plan_path plan node) step) places) step)
      ⊎ (FailsOpen plan.keys (plan_path plan node) open_at step × Settles places step)

  leaves : (step : StepText) → Contains (steps_of_call plan call) step → (front : List StepText) (places : Places) (open_at : Open) → AreBehind front places open_at → LeavesAbove run plan.keys (plan_path plan node) open_at step
  leaves step there front places open_at behind =
      leaves_above plan read shares node call less among run tree step there open_at (λ context key v is. open_is context key v (behind.open_in context key v is))

  module _ (front : List StepText) (act : ActText) (more : List StepText) (whole : steps_of_call plan call ≡ front ++ step_of act ∷ more) (places : Places) (open_at : Open) (behind : AreBehind (earlier ++ front) places open_at)
      (there : Contains (steps_of_call plan call) (step_of act)) where
    settles : changes act.word ≡ true → (settled : Places) → HasLooks settled → settled (start act) (key_of act) ≡ true → Settles settled (step_of act)
    settles changing settled has here = λ other is gives.
        let same = one_act act other (ap act_of is) in
        subst (λ (a : ActText). LooksWithin plan.keys path settled a.key a.up) same
        (changing_looks call among act there changing (computes_all act.word (ap (λ (a : ActText). gives_value a.word) same ∙ gives)).1 settled has here)

    looks_here : HasLooks places
    looks_here = looks_in (earlier ++ front) places open_at behind

    -- it is at a place where the same stands, or computes what is left at an open one, or fails there
    changing_fits : changes act.word ≡ true → Fits (step_of act) places open_at
    changing_fits changing =
        let key = key_of act in
        let stands : places (start act) key ≡ true → Fits (step_of act) places open_at = λ here. inl (
          within_by plan.keys path places act.key act.up (looks_along act.word) (λ looks. changing_looks call among act there changing looks places looks_here here) (λ acts. here),
          leaves (step_of act) there (earlier ++ front) places open_at behind,
          settles changing places looks_here here,
        ) in
        elim (some_or_none (shared (start act) key)) [
          | inl none ↦ stands (behind.unshared_in (start act) key (acts_alone act there changing none))
          | inr some ↦ elim (behind.shared_in (start act) key some.0 some.1) [
            | inl here ↦ stands here
            | inr open_is ↦
                let at : Places = at_place (start act) key in
                elim (computes_there plan read shares node call less among (step_of act) there open_at act.key act.up some.0 (ap (λ (b : Bool). if b then Some (act.key, act.up) else None) changing) some.1 open_is) [
                  | inl computed ↦ inr (inl (
                    computed,
                    settles changing (also at places) (λ context k t look. or_left (places context k) (at context k) (looks_here context k t look)) (or_right (places (start act) key) (at (start act) key) (at_itself (start act) key)),
                  ))
                  | inr fails ↦ inr (inr (
                    fails,
                    λ other is gives. absurd (failing_gives plan.keys path open_at act fails (ap (λ (a : ActText). gives_value a.word) (one_act act other (ap act_of is)) ∙ gives)),
                  ))
                ]
          ]
        ]

    -- a look-up is where nothing is shared, or behind a compute
    looked_at : changes act.word ≡ false → looks_along act.word ≡ true → (at : ℕ) → act.up ≤ at → at < length (plan_path plan node)
        → places (get_or (plan_path plan node) at 0) (key_of act) ≡ true
    looked_at still looks at low inside =
        let key = key_of act in
        let number = number_of_key (keys_named plan) key in
        let c = get_or path at 0 in
        elim (kept_or_computed plan.keys key (earlier ++ front) path at inside) [
          | inl kept ↦
              let below = below_computes plan.keys key path (earlier ++ front) in
              let found = found_above plan.keys (earlier ++ front) (standing plan node) act in
              let touch = look_at node number act found c in
              let is = look_at_is node number act found c in
              let held = subst (Contains (drop act.up below)) kept.1 (contains_drop act.up at below low kept.0) in
              let along = subst (λ p. Contains (drop act.up p) c) (reach_below plan.keys (earlier ++ front) path act still) held in
              looks_here c key touch (record {
                made = look_there plan node call earlier is_behind front act more whole still c along;
                node_is = is.0;
                context_is = is.1;
                key_is = is.2;
                still = is.3;
              })
          | inr computed ↦
              let one = computed.2 in
              let all = behind.looked one.one (subst (Contains (earlier ++ front)) (step_is computed.0 one.one one.is) computed.1) one.gives in
              subst (λ k. places c k ≡ true) one.same
              (All-contains (λ x. places x (key_of_step plan.keys one.one.key) ≡ true) (drop one.one.up path) c all (contains_drop one.one.up at path one.low inside))
        ]

    looking_fits : changes act.word ≡ false → Fits (step_of act) places open_at
    looking_fits still =
        let looks = still_looks act.word still in inl (
          subst (λ (b : Bool). TouchesWithin b plan.keys path places act.key act.up) (sym looks) (from_drop (λ c. places c (key_of act) ≡ true) act.up path (looked_at still looks)),
          leaves (step_of act) there (earlier ++ front) places open_at behind,
          λ other is gives. absurd (still_changes act.word still (ap (λ (a : ActText). gives_value a.word) (one_act act other (ap act_of is)) ∙ gives)),
        )

  -- ---- each step, by its form

  fits : (front : List StepText) (step : StepText) (more : List StepText) (whole : steps_of_call plan call ≡ front ++ step ∷ more) (places : Places) (open_at : Open) (behind : AreBehind (earlier ++ front) places open_at)
      (there : Contains (steps_of_call plan call) step) → Fits step places open_at
  fits front (keyed word key text up) more whole places open_at behind there =
      let act = an_act word key text up in
      elim (cases_Bool (changes word)) [
        | inl changing ↦ changing_fits front act more whole places open_at behind there changing
        | inr still ↦ looking_fits front act more whole places open_at behind there still
      ]
  fits front (fail text) more whole places open_at behind there = inl (tt, leaves (fail text) there (earlier ++ front) places open_at behind, λ act is gives. absurd (cc is))
  fits front (abort text) more whole places open_at behind there = inl (tt, leaves (abort text) there (earlier ++ front) places open_at behind, λ act is gives. absurd (cc is))

  -- ---- one step after another

  behind_first : (front : List StepText) (step : StepText) (places : Places) (open_at : Open) → AreBehind front places open_at → Settles places step → AreBehind (front ++ step ∷ []) places open_at
  behind_first front step places open_at behind settled = record {
    unshared_in = behind.unshared_in;
    shared_in = behind.shared_in;
    open_in = behind.open_in;
    looked = λ act held gives. elim (Contains-push_cases front step (step_of act) held) [
      | inl old ↦ behind.looked act old gives
      | inr same ↦ settled act same gives
    ];
  }

  more_settled : (at places : Places) (key : StepKeyText) (up : ℕ) → LooksWithin plan.keys (plan_path plan node) places key up → LooksWithin plan.keys (plan_path plan node) (also at places) key up
  more_settled at places key up all = λ k d inside. or_left (places (get_or (drop up path) k d) (key_of_step plan.keys key)) (at (get_or (drop up path) k d) (key_of_step plan.keys key)) (all k d inside)

  behind_computed : (front : List StepText) (step : StepText) (places : Places) (open_at : Open) (at : Places) → AreBehind front places open_at → Settles (also at places) step
      → AreBehind (front ++ step ∷ []) (also at places) (still_open at open_at)
  behind_computed front step places open_at at behind settled = record {
    unshared_in = λ context key is. or_left (places context key) (at context key) (behind.unshared_in context key is);
    shared_in = λ context key v is. elim (cases_Bool (at context key)) [
      | inl here ↦ inl (or_right (places context key) (at context key) here)
      | inr elsewhere ↦ elim (behind.shared_in context key v is) [
        | inl stands ↦ inl (or_left (places context key) (at context key) stands)
        | inr open_is ↦ inr (ap (λ (b : Bool). if b then None else open_at context key) elsewhere ∙ open_is)
      ]
    ];
    open_in = λ context key v is. behind.open_in context key v (open_before (at context key) (open_at context key) v is);
    looked = λ act held gives. elim (Contains-push_cases front step (step_of act) held) [
      | inl old ↦ more_settled at places act.key act.up (behind.looked act old gives)
      | inr same ↦ settled act same gives
    ];
  }

  all_fit : (front steps : List StepText) → steps_of_call plan call ≡ front ++ steps → (places : Places) (open_at : Open) → AreBehind (earlier ++ front) places open_at → StepsFit run plan.keys (plan_path plan node) places open_at steps
  all_fit front [] whole places open_at behind = tt
  all_fit front (step ∷ more) whole places open_at behind =
      let there = subst (λ steps. Contains steps step) (sym whole) (Contains-append_right front (step ∷ more) step (contains_first step more)) in
      let rest = whole ∙ sym (append_assoc front (step ∷ []) more) in
      elim (fits front step more whole places open_at behind there) [
        | inl one ↦ inl (
          one.0,
          one.1,
          all_fit (front ++ step ∷ []) more rest places open_at (subst (λ l. AreBehind l places open_at) (append_assoc earlier front (step ∷ [])) (behind_first (earlier ++ front) step places open_at behind one.2)),
        )
        | inr (inl one) ↦
            let at = place_of_step plan.keys path step in
            inr (inl (
              one.0,
              all_fit (front ++ step ∷ []) more rest (also at places) (still_open at open_at)
                  (subst (λ l. AreBehind l (also at places) (still_open at open_at)) (append_assoc earlier front (step ∷ [])) (behind_computed (earlier ++ front) step places open_at at behind one.1)),
            ))
        | inr (inr one) ↦ inr (inr (
          one.0,
          all_fit (front ++ step ∷ []) more rest places open_at (subst (λ l. AreBehind l places open_at) (append_assoc earlier front (step ∷ [])) (behind_first (earlier ++ front) step places open_at behind one.1)),
        ))
      ]

  -- ---- the call

  abbrev others : Places
  others = unshared (touched_in plan node) opened

  is_other : (context : ℕ) (key : KeyValue) → touched_in plan node context key ≡ true → opened context key ≡ None → others context key ≡ true
  is_other context key touched none = open_places.unshared_is (touched_in plan node) opened context key touched none

  alone_other : (context : ℕ) (key : KeyValue) → alone context key ≡ true → others context key ≡ true
  alone_other context key is =
      let parts = open_places.unshared_parts (touched_in plan node) (given_in plan node) context key is in
      is_other context key parts.0 (elim (some_or_none (opened context key)) [
        | inl none ↦ none
        | inr some ↦ open_places.not_both (shared context key) some.0 parts.1 (open_is context key some.0 some.1)
      ])

  other_looks : HasLooks others
  other_looks context key t look = elim (some_or_none (opened context key)) [
    | inl none ↦ is_other context key (touched_by plan node context key (look_below context key t look)) none
    | inr some ↦ absurd (never_looked context key some.0 some.1 t look)
  ]

  -- the place of a value that is computed before the call is not open
  none_there : (one : Call) → Contains (calls_of plan node) one → (act : ActText) → Contains (steps_of_call plan one) (step_of act) → gives_value act.word ≡ true → Contains earlier (step_of act)
      → opened (start act) (key_of act) ≡ None
  none_there one own act there gives held = elim (some_or_none (opened (start act) (key_of act))) [
    | inl none ↦ none
    | inr some ↦
        elim (computes_there plan read shares node one less own (step_of act) there opened act.key act.up some.0 (ap (λ (b : Bool). if b then Some (act.key, act.up) else None) (computes_all act.word gives).0)
        (open_is (start act) (key_of act) some.0 some.1) some.1) [
          | inl computed ↦ absurd (none_before.none (step_of act) held computed)
          | inr fails ↦ absurd (failing_gives plan.keys path opened act fails gives)
        ]
  ]

  behind_calls : AreBehind earlier others opened
  behind_calls = record {
    unshared_in = alone_other;
    shared_in = λ context key v is. elim (some_or_none (opened context key)) [
      | inl none ↦ inl (is_other context key (touched_there plan read shares node context key v is) none)
      | inr some ↦ inr (some.1 ∙ ap (λ w. Some w) (open_places.one_value (shared context key) some.0 v (open_is context key some.0 some.1) is))
    ];
    open_in = λ context key v is. is;
    looked = λ act held gives.
        let of = is_behind.of (step_of act) held in
        let all = computes_all act.word gives in
        changing_looks of.0 of.1 act of.2 all.0 all.1 others other_looks
        (is_other (start act) (key_of act) (acts_touched of.0 of.1 act of.2 all.0) (none_there of.0 of.1 act of.2 gives held));
  }

  pub call_fits_open : CallFitsOpen run plan (plan_path plan node) (unshared (touched_in plan node) opened) opened call
  call_fits_open = (
    call_stays plan read node path (path_is plan read shares node call less among) call among,
    all_fit [] (steps_of_call plan call) refl others opened (subst (λ l. AreBehind l others opened) (sym (append-nil earlier)) behind_calls),
  )
