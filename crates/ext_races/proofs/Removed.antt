-- Computes of keys that are removed are forgotten.
use Rattle.std.proofs.Common.{◌≡◌, ℕ, ◌+◌, ◌<◌, Bool, true, false, cond, List, [], ◌∷◌, ◌++◌, length, map, drop, take, get_or, set, Option, Some, None, refl, sym, ap, ◌∙◌, arith, append-nil, inl, inr, get_or-set_other, get_or-set_same}
use Rattle.std.specs.Prelude.{◌==◌, ◌&&◌, ◌||◌, find, is_some, not, option_map, if◌then◌else◌}
use Rattle.std.specs.List.{filter, flat_map, list_any}
use Rattle.std.specs.declared.alloc.Global.{Global}
use Rattle.std.specs.Prelude.{Vec}
use Rattle.std.proofs.Math.Bool.{or-false}
use Rattle.std.proofs.lemmas.Bool.{cases_eq, eq-eqb, ne_eqb, true≢false}
use Rattle.std.proofs.lemmas.Grind.{flat_map-append}
use Rattle.std.proofs.lemmas.List.{length-map, map-set}
use Rattle.std.proofs.lemmas.List.Folds.{list_any-append, list_any_more}
use Rattle.ext_tree.specs.Keys.{KeyValue}
use Rattle.ext_tree.specs.Traits.{key_eq}
use Rattle.ext_tree.specs.Trees.{Id}
use Rattle.ext_lifecycle.specs.declared.call.Call.{Call}
use Rattle.ext_plan.specs.Plans.{KeyText, PlanText, StepText, step_view}
use Rattle.ext_plan.specs.PlanCalls.{steps_of_call}
use Rattle.ext_plan.specs.StepWords.{word_eq}
use Rattle.ext_plan.specs.StoreKeys.{is_there, key_of_step, number_of_key}
use Rattle.ext_plan.specs.declared.plan.Step.{Step}
use Rattle.ext_plan.specs.declared.word.Word.TheVariants as words
use Rattle.ext_races.specs.declared.standing.Compute.{Compute}
use Rattle.ext_races.specs.Acts.{ActText, act_of}
use Rattle.ext_races.specs.InnerStanding.{AreFirst, AreLeft, AreWithout, AreWithoutRemoved, IsNumber, IsRemoved, compute_at, compute_view, computes_of, computes_view, context_of, is_number, removed_by, removed_past, unless}
use Rattle.ext_races.specs.MadeSteps.{MadeText, path_of}
use Rattle.ext_races.specs.Touches.{ComputeText, removes_key, removes_past}
use Rattle.ext_races.proofs.Above.{both_unless, listed, no_removed_key, same_number}
use Rattle.ext_races.proofs.Lists.{map-take_more, take_at_more}

pub and_true : (b : Bool) → (b && true) ≡ b
and_true true = refl
and_true false = refl

pub and_false : (b : Bool) → (b && false) ≡ false
and_false true = refl
and_false false = refl

-- ---- one key

-- what is left of a list when the compute of a key is forgotten
abbrev pub without : Option ℕ → List Compute → List Compute
without key computes = filter (λ c. not (is_number key c.key)) computes

module _ (key : Option ℕ) (number : ℕ) (first : Compute) (more : List Compute) (rest : compute_at (without key more) number ≡ unless (is_number key number) (compute_at more number)) where
  abbrev found : Bool → List Compute → Option ComputeText
  found here computes = option_map compute_view (if here then Some first else find (λ c. c.key == number) computes)

  -- the first is another's
  other : (computes : List Compute) → (first.key ≡ number → ⊥) → compute_at (first ∷ computes) number ≡ compute_at computes number
  other computes differ = ap (λ b. found b computes) (ne_eqb first.key number differ)

  by_first : (gone : Bool) → is_number key first.key ≡ gone → compute_at (cond (not gone) (first ∷ without key more) (without key more)) number ≡ unless (is_number key number) (compute_at (first ∷ more) number)
  by_first true is = rest ∙ elim (cases_eq first.key number) [
    | inl same ↦
        let gone : is_number key number ≡ true = ap (is_number key) (sym same) ∙ is in
        ap (λ b. unless b (compute_at more number)) gone ∙ sym (ap (λ b. unless b (compute_at (first ∷ more) number)) gone)
    | inr differ ↦ ap (unless (is_number key number)) (sym (other more differ))
  ]
  by_first false is = elim (cases_eq first.key number) [
    | inl same ↦
        let stays : is_number key number ≡ false = ap (is_number key) (sym same) ∙ is in
        let here : (first.key == number) ≡ true = eq-eqb first.key number same in
        ap (λ b. found b (without key more)) here ∙ sym (ap (λ b. found b more) here) ∙ sym (ap (λ b. unless b (compute_at (first ∷ more) number)) stays)
    | inr differ ↦ other (without key more) differ ∙ rest ∙ ap (unless (is_number key number)) (sym (other more differ))
  ]

-- where there is no key none is forgotten
pub without_no_key : (key : Option ℕ) (computes : List Compute) → is_some key ≡ false → without key computes ≡ computes
without_no_key (Some number) computes none = absurd (true≢false none)
without_no_key None [] none = refl
without_no_key None (first ∷ more) none = ap (λ list. first ∷ list) (without_no_key None more none)

pub filtered_at : (key : Option ℕ) (number : ℕ) (computes : List Compute) → compute_at (without key computes) number ≡ unless (is_number key number) (compute_at computes number)
filtered_at key number [] = by (is_number key number)
  where
    by : (b : Bool) → ◌≡◌ {A = Option ComputeText} None (unless b None)
    by true = refl
    by false = refl
filtered_at key number (first ∷ more) = by_first key number first more (filtered_at key number more) (is_number key first.key) refl

any_push : {A : Type 0} (p : A → Bool) (xs : List A) (x : A) → list_any p (xs ++ x ∷ []) ≡ (list_any p xs || p x)
any_push p xs x = list_any-append p xs (x ∷ []) ∙ ap (λ b. list_any p xs || b) (or-false (p x))

module _ (directory : List KeyValue) where
  pub without_none : (computes : List Compute) → AreWithout directory (λ key. false) computes computes
  without_none computes = record { each = λ key there. refl }

  pub without_more : (one two all : KeyValue → Bool) (a b c : List Compute) → ((key : KeyValue) → all key ≡ (one key || two key)) → AreWithout directory one a b → AreWithout directory two b c
      → AreWithout directory all a c
  without_more one two all a b c is first second = record {
    each = λ key there.
        let x = compute_at a (number_of_key directory key) in
        second.each key there ∙ ap (unless (two key)) (first.each key there) ∙ both_unless (one key) (two key) x ∙ ap (λ g. unless g x) (sym (is key));
  }

module _ (declared : List KeyText) (directory : List KeyValue) where
  -- ---- the key that a step removes

  pub removes_none : (act : Option ActText) → ((key : KeyValue) → is_there directory key ≡ true → removes_key declared key act ≡ false) → IsRemoved declared directory act None
  removes_none act none = record { each = none }

  pub removes_one : (act : ActText) (number : Option ℕ) → word_eq act.word words.Remove ≡ true → IsNumber directory (key_of_step declared act.key) number → IsRemoved declared directory (Some act) number
  removes_one act None word missing = removes_none (Some act) (λ key there. no_removed_key declared directory act key missing there)
  removes_one act (Some number) word is = record {
    each = λ key there.
        ap (λ b. b && key_eq (key_of_step declared act.key) key) word ∙ sym (same_number declared directory (key_of_step declared act.key) key is.0 there)
        ∙ ap (λ n. n == number_of_key directory key) (sym is.1);
  }

  -- ---- one step after another

  pub forgot : (act : Option ActText) (key : Option ℕ) (before after : List Compute) → IsRemoved declared directory act key → after ≡ without key before
      → AreWithout directory (λ k. removes_key declared k act) before after
  forgot act key before after removed is = record {
    each = λ k there.
        let n = number_of_key directory k in
        ap (λ xs. compute_at xs n) is ∙ filtered_at key n before ∙ ap (λ b. unless b (compute_at before n)) (sym (removed.each k there));
  }

  pub steps_more : (steps : List Step) (i : ℕ) (step : Step) → i < length steps → step ≡ get_or steps i step → (key : KeyValue)
      → removed_by declared (map step_view (take (i + 1) steps)) key ≡ (removed_by declared (map step_view (take i steps)) key || removes_key declared key (act_of (step_view step)))
  steps_more steps i step less read key =
      ap (λ ss. removed_by declared ss key) (map-take_more step_view steps i step less read) ∙ any_push (λ s. removes_key declared key (act_of s)) (map step_view (take i steps)) (step_view step)

  pub calls_more : (plan : PlanText) (calls : List Call) (at : ℕ) (d : Call) (steps : List StepText) → at < length calls → steps ≡ steps_of_call plan (get_or calls at d) → (key : KeyValue)
      → removed_by declared (flat_map (steps_of_call plan) (take (at + 1) calls)) key ≡ (removed_by declared (flat_map (steps_of_call plan) (take at calls)) key || removed_by declared steps key)
  calls_more plan calls at d steps less is key =
      let done = flat_map (steps_of_call plan) (take at calls) in
      let all : flat_map (steps_of_call plan) (take (at + 1) calls) ≡ done ++ steps =
      ap (flat_map (steps_of_call plan)) (take_at_more calls at d less) ∙ flat_map-append (steps_of_call plan) (take at calls) (get_or calls at d ∷ [])
      ∙ ap (λ ss. done ++ ss) (append-nil (steps_of_call plan (get_or calls at d)) ∙ sym is) in
      ap (λ ss. removed_by declared ss key) all ∙ list_any-append (λ s. removes_key declared key (act_of s)) done steps

  -- the first computes, but for the keys that the same steps remove
  pub left_is : (put : Bool) (path : List ℕ) (steps : List StepText) (before after : List Compute) → AreFirst declared directory put path (map act_of steps) before → AreWithout directory (removed_by declared steps) before after
      → AreLeft declared directory put path steps after
  left_is put path steps before after first left = record { each = λ key there. left.each key there ∙ ap (unless (removed_by declared steps key)) (first.each key there) }

-- ---- the lists of several nodes

pub lists_long : (lists : List (Vec Compute Global)) → length (computes_view lists) ≡ length lists
lists_long lists = length-map lists (λ (v : Vec Compute Global). v.items)

module _ (lists : List (Vec Compute Global)) (at : ℕ) (v new : Vec Compute Global) (key : Option ℕ) (less : at < length lists) (read : v ≡ get_or lists at v) (is : new.items ≡ without key v.items) where
  abbrev all : List (List Compute)
  all = computes_view lists

  placed : computes_view (set lists at new) ≡ set all at new.items
  placed = map-set (λ (u : Vec Compute Global). u.items) lists at new

  inside : at < length all
  inside = (let e : length all ≡ length lists = length-map lists (λ (u : Vec Compute Global). u.items) in omega (arith, less, e))

  pub set_forgets : (node number : ℕ) → compute_at (computes_of (computes_view (set lists at new)) node) number ≡ unless (is_number key number && (at == node)) (compute_at (computes_of all node) number)
  set_forgets node number = elim (cases_eq at node) [
    | inl same ↦
        let here : computes_of (computes_view (set lists at new)) node ≡ without key (computes_of all node) =
        ap (computes_of (computes_view (set lists at new))) (sym same) ∙ ap (λ xs. computes_of xs at) placed ∙ get_or-set_same all at new.items [] inside ∙ is ∙ ap (without key) (listed lists at v less read ∙ ap (computes_of all) same) in
        ap (λ xs. compute_at xs number) here ∙ filtered_at key number (computes_of all node)
        ∙ ap (λ b. unless b (compute_at (computes_of all node) number)) (sym (ap (λ b. is_number key number && b) (eq-eqb at node same) ∙ and_true (is_number key number)))
    | inr differ ↦
        let there : computes_of (computes_view (set lists at new)) node ≡ computes_of all node = ap (λ xs. computes_of xs node) placed ∙ get_or-set_other all at node new.items [] (λ same. differ (sym same)) in
        ap (λ xs. compute_at xs number) there
        ∙ ap (λ b. unless b (compute_at (computes_of all node) number)) (sym (ap (λ b. is_number key number && b) (ne_eqb at node differ) ∙ and_false (is_number key number)))
  ]

-- one node more
module _ (ids : List Id) (nodes : List ℕ) (context node number : ℕ) (key : Option ℕ) where
  abbrev on : ℕ → Bool
  on n = list_any (λ c. c == context) (path_of ids n)

  pub past_none : (found : Option ComputeText) → found ≡ unless (is_number key number && list_any (λ c. c == node) [] && on node) found
  past_none found = by (is_number key number)
    where
      by : (b : Bool) → found ≡ unless (b && false && on node) found
      by true = refl
      by false = refl

  pub past_more : (i d : ℕ) (kept : Option ℕ) (first before after : Option ComputeText) → i < length nodes → is_number kept number ≡ (is_number key number && on (get_or nodes i d))
      → before ≡ unless (is_number key number && list_any (λ c. c == node) (take i nodes) && on node) first → after ≡ unless (is_number kept number && (get_or nodes i d == node)) before
      → after ≡ unless (is_number key number && list_any (λ c. c == node) (take (i + 1) nodes) && on node) first
  past_more i d kept first before after less past so_far is =
      let one = get_or nodes i d in
      let any = list_any (λ c. c == node) (take i nodes) in
      let same : (is_number kept number && (one == node)) ≡ (is_number key number && on node && (one == node)) = elim (cases_eq one node) [
        | inl here ↦ ap (λ b. b && (one == node)) (past ∙ ap (λ n. is_number key number && on n) here)
        | inr there ↦ ap (λ b. is_number kept number && b) (ne_eqb one node there) ∙ and_false (is_number kept number) ∙ sym (ap (λ b. is_number key number && on node && b) (ne_eqb one node there) ∙ and_false (is_number key number && on node))
      ] in
      is ∙ ap (λ b. unless b before) same ∙ ap (unless (is_number key number && on node && (one == node))) so_far
      ∙ by (is_number key number) any (one == node) (on node) ∙ ap (λ b. unless (is_number key number && b && on node) first) (sym (list_any_more (λ c. c == node) nodes i d less))
    where
      by : (isn any here on : Bool) → unless (isn && on && here) (unless (isn && any && on) first) ≡ unless (isn && (any || here) && on) first
      by false any here on = refl
      by true true true true = refl
      by true true true false = refl
      by true true false true = refl
      by true true false false = refl
      by true false true true = refl
      by true false true false = refl
      by true false false true = refl
      by true false false false = refl

module _ (declared : List KeyText) (directory : List KeyValue) (ids : List Id) where
  pub made_none : (lists : List (List Compute)) → AreWithoutRemoved declared directory ids [] lists lists
  made_none lists = record { count = refl; each = λ node. record { each = λ key there. refl } }

  -- one step more
  pub made_more : (done : List MadeText) (made : MadeText) (number : Option ℕ) (path nodes : List ℕ) (context : ℕ) (first before after : List (List Compute)) → IsRemoved declared directory (act_of made.step) number
      → path ≡ path_of ids made.node → nodes ≡ drop 1 path → context ≡ context_of path (act_of made.step) → length after ≡ length before
      → ((node k : ℕ) → compute_at (computes_of after node) k ≡ unless (is_number number k && list_any (λ c. c == node) nodes && list_any (λ c. c == context) (path_of ids node)) (compute_at (computes_of before node) k))
      → AreWithoutRemoved declared directory ids done first before → AreWithoutRemoved declared directory ids (done ++ made ∷ []) first after
  made_more done made number path nodes context first before after removed along up acts long forgotten so_far = record {
    count = long ∙ so_far.count;
    each = λ node.
        without_more directory (removed_past declared ids done node) (λ key. past key node (path_of ids made.node) (act_of made.step)) (removed_past declared ids (done ++ made ∷ []) node)
        (computes_of first node) (computes_of before node) (computes_of after node)
        (λ key. any_push (λ m. past key node (path_of ids m.node) (act_of m.step)) done made) (so_far.each node)
        (record {
          each = λ key there.
              let n = number_of_key directory key in
              forgotten node n ∙ ap (λ b. unless b (compute_at (computes_of before node) n)) (gone node key there);
        });
  }
    where
      past : KeyValue → ℕ → List ℕ → Option ActText → Bool
      past key node = removes_past declared key node (path_of ids node)

      of_act : (p : List ℕ) (act : Option ActText) (node : ℕ) (key : KeyValue)
          → (removes_key declared key act && list_any (λ c. c == node) (drop 1 p) && list_any (λ c. c == context_of p act) (path_of ids node)) ≡ past key node p act
      of_act p None node key = refl
      of_act p (Some act) node key = refl

      gone : (node : ℕ) (key : KeyValue) → is_there directory key ≡ true
          → (is_number number (number_of_key directory key) && list_any (λ c. c == node) nodes && list_any (λ c. c == context) (path_of ids node)) ≡ past key node (path_of ids made.node) (act_of made.step)
      gone node key there =
          ap (λ b. b && list_any (λ c. c == node) nodes && list_any (λ c. c == context) (path_of ids node)) (sym (removed.each key there))
          ∙ ap (λ ns. removes_key declared key (act_of made.step) && list_any (λ c. c == node) ns && list_any (λ c. c == context) (path_of ids node)) up
          ∙ ap (λ at. removes_key declared key (act_of made.step) && list_any (λ c. c == node) (drop 1 path) && list_any (λ c. c == at) (path_of ids node)) acts
          ∙ of_act path (act_of made.step) node key
          ∙ ap (λ p. past key node p (act_of made.step)) along
