-- What is noted of a plan tells what was computed above each node.
use Rattle.std.proofs.Common.{◌≡◌, ◌≢◌, ℕ, zero, suc, ◌+◌, ◌<◌, Bool, true, false, List, [], ◌∷◌, ◌++◌, Contains, length, map, drop, take, get_or, Option, Some, None, refl, sym, ap, subst, ◌∙◌, arith, append_assoc, inl, inr}
use Rattle.std.specs.Prelude.{◌==◌, ◌&&◌, ◌||◌, ◌↔◌, find, is_some, not, option_map, slice_get, if◌then◌else◌}
use Rattle.std.specs.List.{list_any}
use Rattle.std.specs.declared.alloc.Global.{Global}
use Rattle.std.specs.Prelude.{Vec}
use Rattle.std.proofs.lemmas.Bool.{cases_Bool, cases_eq, eq-eqb, ne_eqb, true≢false}
use Rattle.std.proofs.lemmas.List.{map-append}
use Rattle.ext_tree.specs.Keys.{HasNumber, KeyValue}
use Rattle.ext_tree.specs.Traits.{key_eq}
use Rattle.ext_tree.specs.Trees.{Id, IsPathOf, IsTree, IsWalk, children_of}
use Rattle.ext_tree.proofs.Equalities.{keys_Decides}
use Rattle.ext_tree.proofs.TreeLaws.{parents_list_children}
use Rattle.ext_plan.specs.Plans.{KeyText, PlanText, StepText, step_view}
use Rattle.ext_plan.specs.ReadPlans.{ids_of_nodes}
use Rattle.ext_plan.specs.StepCalls.{start_of}
use Rattle.ext_plan.specs.StepWords.{word_eq}
use Rattle.ext_plan.specs.StoreKeys.{is_there, key_of_step, number_of_key}
use Rattle.ext_plan.specs.declared.plan.Step.{Step}
use Rattle.ext_plan.specs.declared.word.Word.TheVariants as words
use Rattle.ext_plan.proofs.KeyLists.{has_key_number, not_contained}
use Rattle.ext_races.specs.declared.made.MadeStep.{MadeStep}
use Rattle.ext_races.specs.declared.standing.Compute.{Compute}
use Rattle.ext_races.specs.declared.standing.Standing.{Standing}
use Rattle.ext_races.specs.Acts.{ActText, act_of, as_compute, stores}
use Rattle.ext_races.specs.InnerMade.{left_by, made_view, made_views}
use Rattle.ext_races.specs.InnerStanding.{AreComputed, AreFirst, AreStored, AreWithoutRemoved, IsNumber, TellsAbove, compute_at, compute_view, computed_in, computes_of, computes_view, removed_by, removed_past, unless}
use Rattle.ext_races.specs.MadeSteps.{path_of, plan_path, steps_before, steps_made}
use Rattle.ext_races.specs.Touches.{ComputeText, first_stored, or_above, removes_key, removes_past, standing, stored_above, stored_by, stores_key}
use Rattle.ext_races.proofs.Lists.{contains_nothing, map-take_more}
use Rattle.ext_races.proofs.Paths.{path_is}

-- ---- the first of several

pub both_unless : (one two : Bool) (x : Option ComputeText) → unless two (unless one x) ≡ unless (one || two) x
both_unless true true x = refl
both_unless true false x = refl
both_unless false true x = refl
both_unless false false x = refl

pub or_none : (found : Option ComputeText) → or_above found None ≡ found
or_none None = refl
or_none (Some found) = refl

pub first_push : (declared : List KeyText) (key : KeyValue) (put : Bool) (path : List ℕ) (acts : List (Option ActText)) (act : Option ActText)
    → first_stored declared key put path (acts ++ act ∷ []) ≡ or_above (first_stored declared key put path acts) (first_stored declared key put path (act ∷ []))
first_push declared key put path [] act = refl
first_push declared key put path (None ∷ more) act = first_push declared key put path more act
first_push declared key put path (Some first ∷ more) act = by (stores_key declared key put (Some first)) (first_push declared key put path more act)
  where
    by : (stored : Bool) → first_stored declared key put path (more ++ act ∷ []) ≡ or_above (first_stored declared key put path more) (first_stored declared key put path (act ∷ []))
        → (if stored then Some (record { context = start_of (drop first.up path); word = as_compute first.word; text = first.text }) else first_stored declared key put path (more ++ act ∷ []))
        ≡ or_above (if stored then Some (record { context = start_of (drop first.up path); word = as_compute first.word; text = first.text }) else first_stored declared key put path more) (first_stored declared key put path (act ∷ []))
    by true rest = refl
    by false rest = rest

pub compute_push : (computes : List Compute) (one : Compute) (key : ℕ) → compute_at (computes ++ one ∷ []) key ≡ or_above (compute_at computes key) (compute_at (one ∷ []) key)
compute_push [] one key = refl
compute_push (first ∷ more) one key = by (first.key == key) (compute_push more one key)
  where
    by : (is : Bool) → compute_at (more ++ one ∷ []) key ≡ or_above (compute_at more key) (compute_at (one ∷ []) key)
        → option_map compute_view (if is then Some first else find (λ c. c.key == key) (more ++ one ∷ [])) ≡ or_above (option_map compute_view (if is then Some first else find (λ c. c.key == key) more)) (compute_at (one ∷ []) key)
    by true rest = refl
    by false rest = rest

-- one whose key is noted is not noted again
pub noted_before : (computes : List Compute) (one : Compute) (key : ℕ) → is_some (compute_at computes one.key) ≡ true → compute_at computes key ≡ or_above (compute_at computes key) (compute_at (one ∷ []) key)
noted_before computes one key is = elim (cases_eq one.key key) [
  | inl same ↦ some (compute_at computes key) (ap (λ k. is_some (compute_at computes k)) (sym same) ∙ is)
  | inr other ↦ sym (ap (λ b. or_above (compute_at computes key) (option_map compute_view (if b then Some one else None))) (ne_eqb one.key key other) ∙ or_none (compute_at computes key))
]
  where
    some : (found : Option ComputeText) → is_some found ≡ true → found ≡ or_above found (compute_at (one ∷ []) key)
    some None none = absurd (true≢false (sym none))
    some (Some found) is = refl

-- ---- keys and their numbers

module _ (declared : List KeyText) (directory : List KeyValue) where
  other_number : (one other : KeyValue) → is_there directory one ≡ true → is_there directory other ≡ true → key_eq one other ≡ false → number_of_key directory one ≢ number_of_key directory other
  other_number one other there other_there differ same =
      let both : Some one ≡ Some other = sym (has_key_number directory one there) ∙ ap (slice_get directory) same ∙ has_key_number directory other other_there in
      let equal : one ≡ other = cc both in
      true≢false (sym ((keys_Decides one other).1 equal) ∙ differ)

  -- a key that is not there is none that is
  pub not_own : (one other : KeyValue) → is_there directory one ≡ false → is_there directory other ≡ true → key_eq one other ≡ false
  not_own one other missing there = elim (cases_Bool (key_eq one other)) [
    | inl same ↦ absurd (true≢false (sym there ∙ ap (is_there directory) (sym ((keys_Decides one other).0 same)) ∙ missing))
    | inr differ ↦ differ
  ]

  pub same_number : (one other : KeyValue) → is_there directory one ≡ true → is_there directory other ≡ true → (number_of_key directory one == number_of_key directory other) ≡ key_eq one other
  same_number one other there other_there = elim (cases_Bool (key_eq one other)) [
    | inl same ↦ eq-eqb (number_of_key directory one) (number_of_key directory other) (ap (number_of_key directory) ((keys_Decides one other).0 same)) ∙ sym same
    | inr differ ↦ ne_eqb (number_of_key directory one) (number_of_key directory other) (other_number one other there other_there differ) ∙ sym differ
  ]

  -- ---- one step more

  pub first_more : (put : Bool) (path : List ℕ) (before : List (Option ActText)) (act : Option ActText) (old new : List Compute) → AreFirst declared directory put path before old
      → ((key : KeyValue) → is_there directory key ≡ true → compute_at new (number_of_key directory key) ≡ or_above (compute_at old (number_of_key directory key)) (first_stored declared key put path (act ∷ [])))
      → AreFirst declared directory put path (before ++ act ∷ []) new
  first_more put path before act old new are more = record {
    each = λ key there. more key there ∙ ap (λ found. or_above found (first_stored declared key put path (act ∷ []))) (are.each key there) ∙ sym (first_push declared key put path before act);
  }

  -- an act that stores no key of the directory
  pub first_same : (put : Bool) (path : List ℕ) (before : List (Option ActText)) (act : Option ActText) (computes : List Compute) → ((key : KeyValue) → is_there directory key ≡ true → stores_key declared key put act ≡ false)
      → AreFirst declared directory put path before computes → AreFirst declared directory put path (before ++ act ∷ []) computes
  first_same put path before act computes none are = first_more put path before act computes computes are (λ key there. sym (ap (or_above (compute_at computes (number_of_key directory key))) (no_compute key act (none key there)) ∙ or_none _))
    where
      no_compute : (key : KeyValue) (act : Option ActText) → stores_key declared key put act ≡ false → first_stored declared key put path (act ∷ []) ≡ None
      no_compute key None is = refl
      no_compute key (Some act) is = ap (λ b. if b then Some (record { context = start_of (drop act.up path); word = as_compute act.word; text = act.text }) else None) is

  pub no_value : (put : Bool) (act : ActText) (key : KeyValue) → stores put act.word ≡ false → stores_key declared key put (Some act) ≡ false
  no_value put act key none = ap (λ b. b && key_eq (key_of_step declared act.key) key) none

  pub no_key : (put : Bool) (act : ActText) (key : KeyValue) → is_there directory (key_of_step declared act.key) ≡ false → is_there directory key ≡ true → stores_key declared key put (Some act) ≡ false
  no_key put act key missing there = ap (λ b. stores put act.word && b) (not_own (key_of_step declared act.key) key missing there) ∙ never (stores put act.word)
    where
      never : (b : Bool) → (b && false) ≡ false
      never true = refl
      never false = refl

  -- one that does
  pub first_pushed : (put : Bool) (path : List ℕ) (before : List (Option ActText)) (act : ActText) (one : Compute) (old new : List Compute) → stores put act.word ≡ true → is_there directory (key_of_step declared act.key) ≡ true
      → one.key ≡ number_of_key directory (key_of_step declared act.key) → compute_view one ≡ record { context = start_of (drop act.up path); word = as_compute act.word; text = act.text }
      → ((key : ℕ) → compute_at new key ≡ or_above (compute_at old key) (compute_at (one ∷ []) key)) → AreFirst declared directory put path before old → AreFirst declared directory put path (before ++ Some act ∷ []) new
  first_pushed put path before act one old new gives there number is push are = first_more put path before (Some act) old new are (λ key key_there. push (number_of_key directory key) ∙ ap (or_above (compute_at old (number_of_key directory key))) (same key key_there))
    where
      own : KeyValue
      own = key_of_step declared act.key

      same : (key : KeyValue) → is_there directory key ≡ true → compute_at (one ∷ []) (number_of_key directory key) ≡ first_stored declared key put path (Some act ∷ [])
      same key key_there =
          ap (λ n. option_map compute_view (if n == number_of_key directory key then Some one else None)) number
          ∙ ap (λ b. option_map compute_view (if b then Some one else None)) (same_number own key there key_there)
          ∙ by (key_eq own key)
          ∙ ap (λ g. if g && key_eq own key then Some (record { context = start_of (drop act.up path); word = as_compute act.word; text = act.text }) else None) (sym gives)
        where
          by : (b : Bool) → option_map compute_view (if b then Some one else None) ≡ (if true && b then Some (record { context = start_of (drop act.up path); word = as_compute act.word; text = act.text }) else None)
          by true = ap Some is
          by false = refl

  -- ---- acts that remove no key

  pub no_removal : (act : ActText) (key : KeyValue) → word_eq act.word words.Remove ≡ false → removes_key declared key (Some act) ≡ false
  no_removal act key none = ap (λ b. b && key_eq (key_of_step declared act.key) key) none

  pub no_removed_key : (act : ActText) (key : KeyValue) → is_there directory (key_of_step declared act.key) ≡ false → is_there directory key ≡ true → removes_key declared key (Some act) ≡ false
  no_removed_key act key missing there = ap (λ b. word_eq act.word words.Remove && b) (not_own (key_of_step declared act.key) key missing there) ∙ never (word_eq act.word words.Remove)
    where
      never : (b : Bool) → (b && false) ≡ false
      never true = refl
      never false = refl

-- ---- all of it

-- which steps come before a step is all the same
any_same : (p : ℕ → StepText → Bool) (before : List StepText) (made : List MadeStep) → list_any (λ m. p m.node m.step) (map made_view made) ≡ list_any (λ m. p m.node m.step) (made_views before made)
any_same p before [] = refl
any_same p before (m ∷ more) = ap (λ b. p m.node (step_view m.step.now) || b) (any_same p (left_by before m) more)

module _ (plan : PlanText) (ids : List Id) (tree : IsTree ids) (nodes : ids ≡ ids_of_nodes plan.nodes) (directory : List KeyValue) where
  has_child : (parent child : ℕ) (rest : List ℕ) → IsWalk ids child (parent ∷ rest) → children_of (ids_of_nodes plan.nodes) parent ≢ []
  has_child parent child rest (is, walks) none =
      let there = (parents_list_children ids parent is.parent_within).listed child is in
      contains_nothing child (subst (λ xs. Contains xs child) (ap (λ i. children_of i parent) nodes ∙ none) there)

  module _ (put : Bool) (first lists : List (List Compute)) (made : List MadeStep) (are : AreComputed plan plan.keys directory put (length ids) first) (left : AreWithoutRemoved plan.keys directory ids (map made_view made) first lists)
      (steps : made_views [] made ≡ steps_made plan) (key : KeyValue) (there : is_there directory key ≡ true) where
    abbrev number : ℕ
    number = number_of_key directory key

    -- what a node stores, if it is not removed
    by_node : (parent : ℕ) (path : List ℕ) → parent < length ids → plan_path plan parent ≡ path → children_of (ids_of_nodes plan.nodes) parent ≢ [] → compute_at (computes_of lists parent) number ≡ stored_by plan put key parent path
    by_node parent path within is some =
        let past = removed_past plan.keys ids (map made_view made) parent key in
        let own = removed_by plan.keys (steps_before plan parent) key in
        let acts = first_stored plan.keys key put (plan_path plan parent) (map act_of (steps_before plan parent)) in
        let all : past ≡ list_any (λ m. removes_past plan.keys key parent (plan_path plan parent) (plan_path plan m.node) (act_of m.step)) (steps_made plan) =
        any_same (λ n s. removes_past plan.keys key parent (path_of ids parent) (path_of ids n) (act_of s)) [] made
        ∙ ap (λ i. list_any (λ m. removes_past plan.keys key parent (path_of i parent) (path_of i m.node) (act_of m.step)) (made_views [] made)) nodes
        ∙ ap (list_any (λ m. removes_past plan.keys key parent (plan_path plan parent) (plan_path plan m.node) (act_of m.step))) steps in
        (left.each parent).each key there ∙ ap (unless past) ((are.each parent within some).each key there) ∙ both_unless own past acts
        ∙ ap (λ b. unless (own || b) acts) all ∙ ap (λ p. stored_by plan put key parent p) is

    along : (node : ℕ) (walk : List ℕ) → IsWalk ids node walk → computed_in lists number walk ≡ stored_above plan put key walk
    along node [] walks = refl
    along node (parent ∷ rest) (is, walks) =
        let path : plan_path plan parent ≡ parent ∷ rest = sym (path_is ids tree parent (parent ∷ rest) is.parent_within (refl, walks) ∙ ap (λ i. path_of i parent) nodes) in
        let here = by_node parent (parent ∷ rest) is.parent_within path (has_child parent node rest (is, walks)) in
        ap (λ found. or_above found (computed_in lists number rest)) here ∙ ap (or_above (stored_by plan put key parent (parent ∷ rest))) (along parent rest walks)

    pub above : (node : ℕ) (path : List ℕ) → node < length ids → IsPathOf ids node path → computed_in lists number (drop 1 path) ≡ stored_above plan put key (drop 1 (plan_path plan node))
    above node [] less is = absurd is
    above node (head ∷ walk) less (same, walks) =
        along node walk walks ∙ ap (λ p. stored_above plan put key (drop 1 p)) (path_is ids tree node (head ∷ walk) less (same, walks) ∙ ap (λ i. path_of i node) nodes)

  pub stored_are : (declared : List KeyText) (put : Bool) (first lists : List (List Compute)) (made : List MadeStep) → declared ≡ plan.keys → made_views [] made ≡ steps_made plan
      → AreComputed plan declared directory put (length ids) first → AreWithoutRemoved declared directory ids (map made_view made) first lists → AreStored plan directory put lists
  stored_are declared put first lists made keys steps computes left = record {
    each = λ node path key less is there.
        above put first lists made (subst (λ d. AreComputed plan d directory put (length ids) first) keys computes)
        (subst (λ d. AreWithoutRemoved d directory ids (map made_view made) first lists) keys left) steps key there node path
        (subst (λ i. node < length i) (sym nodes) less) (subst (λ i. IsPathOf i node path) (sym nodes) is);
  }

-- what is noted of both
pub tells_above : (plan : PlanText) (directory : List KeyValue) (noted : Standing) → AreStored plan directory false (computes_view noted.computes.items) → AreStored plan directory true (computes_view noted.puts.items)
    → TellsAbove (ids_of_nodes plan.nodes) directory (standing plan) noted
tells_above plan directory noted computes puts = record {
  each = λ node path key less is there i. or_above (computes.each node path key less is there i) (puts.each node path key less is there i);
}

-- ---- in memory

pub not_true : (b : Bool) → not b ≡ true → b ≡ false
not_true true is = absurd (true≢false (sym is))
not_true false is = refl

pub not_false : (b : Bool) → not b ≡ false → b ≡ true
not_false true is = refl
not_false false is = absurd (true≢false is)

pub number_is : (directory : List KeyValue) (key : KeyValue) (result : Option ℕ) → ((number : ℕ) → HasNumber directory key number → result ≡ Some number) → ((result ≡ None) ↔ ¬ (Contains directory key)) → IsNumber directory key result
number_is directory key result found absent = elim (cases_Bool (is_there directory key)) [
  | inl there ↦ subst (IsNumber directory key) (sym (found (number_of_key directory key) (has_key_number directory key there))) (there, refl)
  | inr missing ↦ subst (IsNumber directory key) (sym (absent.1 (not_contained directory key missing))) missing
]

pub there_number : (directory : List KeyValue) (key : KeyValue) (number : Option ℕ) → IsNumber directory key number → is_some number ≡ true → is_there directory key ≡ true
there_number directory key None is some = absurd (true≢false (sym some))
there_number directory key (Some number) is some = is.0

pub some_map : {A B : Type 0} (f : A → B) (found : Option A) → is_some (option_map f found) ≡ is_some found
some_map f None = refl
some_map f (Some x) = refl

pub listed : (lists : List (Vec Compute Global)) (node : ℕ) (v : Vec Compute Global) → node < length lists → v ≡ get_or lists node v → v.items ≡ computes_of (computes_view lists) node
listed [] node v less is = absurd (omega (arith, less))
listed (first ∷ lists) zero v less is = ap (λ u. u.items) is
listed (first ∷ lists) (suc node) v less is = listed lists node v (omega (arith, less)) is

-- ---- one step after another

pub acts_more : (before : List (Option ActText)) (steps : List Step) (i : ℕ) (step : Step) → i < length steps → step ≡ get_or steps i step
    → (before ++ map act_of (map step_view (take i steps))) ++ act_of (step_view step) ∷ [] ≡ before ++ map act_of (map step_view (take (i + 1) steps))
acts_more before steps i step less read =
    let acts = map act_of (map step_view (take i steps)) in
    append_assoc before acts (act_of (step_view step) ∷ []) ∙ ap (λ xs. before ++ xs) (sym (ap (map act_of) (map-take_more step_view steps i step less read) ∙ map-append act_of (map step_view (take i steps)) (step_view step ∷ [])))

pub first_none : (declared : List KeyText) (directory : List KeyValue) (put : Bool) (path : List ℕ) (computes : List Compute) → computes ≡ [] → AreFirst declared directory put path [] computes
first_none declared directory put path computes none = record { each = λ key there. ap (λ xs. compute_at xs (number_of_key directory key)) none }
