-- A touch that races passes a container at which touches may race.
use Rattle.std.proofs.Common.{◌≡◌, ℕ, zero, suc, ◌+◌, ◌<◌, ◌≤◌, true, false, List, [], ◌∷◌, ◌++◌, length, map, get_or, take, set, fold, Contains, ◌-◌, get_or-set_other, get_or-set_same, Option, Some, None, refl, sym, ap, subst, ◌∙◌, arith, inl, inr, Bool, cond}
use Rattle.std.specs.Prelude.{◌==◌, ◌&&◌, ◌||◌, not, if◌then◌else◌}
use Rattle.std.proofs.lemmas.Bool.{cases_Bool, cases_eq, or_right, true≢false}
use Rattle.std.proofs.lemmas.List.{length-map}
use Rattle.std.proofs.lemmas.List.Elements.{Contains-append_cases, filter-append}
use Rattle.std.specs.Cmp.Lexicographic.{bytes_decides}
use Rattle.ext_plan.specs.Plans.{PlanText}
use Rattle.ext_plan.specs.PlanCalls.{concurrent_of}
use Rattle.ext_plan.specs.ReadPlans.{ids_of_nodes}
use Rattle.ext_plan.specs.StepWords.{computes, word_eq}
use Rattle.ext_tree.specs.Trees.{Id}
use Rattle.ext_races.specs.declared.race.Race.{Race}
use Rattle.ext_races.specs.declared.passing.Passed.{Passed}
use Rattle.ext_races.specs.declared.touch.Touch.{Touch}
use Rattle.ext_races.specs.Beside.{PassesBy, nodes_beside}
use Rattle.ext_races.specs.Clashes.{agree, clashes, closes_differ}
use Rattle.ext_races.specs.InnerPassing.{AreNoted, HasNoted, HasNotedIf, IsNoted, Keeps, KeepsIf, alike, may_meet, meets, passed_at, changing}
use Rattle.ext_races.specs.InnerListed.{race, touch_listed}
use Rattle.ext_races.specs.MadeSteps.{path_of, plan_path}
use Rattle.ext_races.specs.Touches.{TouchText, touch_view}
use Rattle.ext_races.proofs.Equalities.{both, both_true, word_is}
use Rattle.ext_races.proofs.Lists.{contains_cases, contains_nothing, contains-map, contains_at, map-take_at, contains_first, contains_later}
use Rattle.ext_races.proofs.Sides.{nodes_found, turn_tested}
use Rattle.ext_races.proofs.Listed.{touch_alone}

-- ---- touches that are all alike to one don't clash

-- two that compute as a third does
both_agree : (f t u : TouchText) → agree f t ≡ true → agree f u ≡ true → (agree t u ≡ true) × (t.text ≡ u.text)
both_agree f t u one two =
    let p = both _ _ one in
    let p2 = both _ _ p.0 in
    let q = both _ _ two in
    let q2 = both _ _ q.0 in
    let word_t = word_is f.acts t.acts p2.1 in
    let text_t = (bytes_decides f.text t.text).0 p.1 in
    let text_u = (bytes_decides f.text u.text).0 q.1 in
    let text : t.text ≡ u.text = sym text_t ∙ text_u in
    let computes_t : computes t.acts ≡ true = ap computes (sym word_t) ∙ p2.0 in
    let word : word_eq t.acts u.acts ≡ true = ap (λ w. word_eq w u.acts) (sym word_t) ∙ q2.1 in
    (both_true _ _ (both_true _ _ computes_t word) ((bytes_decides t.text u.text).1 text), text)

alike_as : (f t : TouchText) (is : Bool) → computes f.acts ≡ is → alike f t ≡ true → (if is then agree f t else not f.changes && not t.changes) ≡ true
alike_as f t is computed h = sym (ap (λ b. if b then agree f t else not f.changes && not t.changes) computed) ∙ h

no_clash : (f t u : TouchText) → alike f t ≡ true → alike f u ≡ true → clashes t u ≡ true → ⊥
no_clash f t u one two clash = elim (cases_Bool (computes f.acts)) [
  | inl computed ↦
      let are = both_agree f t u (alike_as f t true computed one) (alike_as f u true computed two) in
      let parts = both (t.changes && (t.context == u.context)) (if t.key == u.key then not (agree t u) else closes_differ t u) clash in
      elim (cases_Bool (t.key == u.key)) [
        | inl one_key ↦ let no : not (agree t u) ≡ true = rw one_key at parts.1 in absurd (true≢false (sym no ∙ ap not are.0))
        | inr two_keys ↦
            let differ : closes_differ t u ≡ true = rw two_keys at parts.1 in
            absurd (true≢false (sym (both _ _ differ).1 ∙ ap not ((bytes_decides t.text u.text).1 are.1)))
      ]
  | inr looks ↦
      let neither : (not f.changes && not t.changes) ≡ true = alike_as f t false looks one in
      let parts = both t.changes (t.context == u.context) (both (t.changes && (t.context == u.context)) _ clash).0 in
      absurd (true≢false (sym (both _ _ neither).1 ∙ ap not parts.0))
]

-- ---- at a container

module _ (differing : Bool) (t u : TouchText) (clash : differing ≡ true → clashes t u ≡ true) where
  apart : (p : Passed) (a b : ℕ) → HasNoted p a t → HasNoted p b u → (a ≡ b → ⊥) → (p.several && (p.differ || not differing)) ≡ true
  apart p a b one two other = both_true _ _ several differ
    where
      several : p.several ≡ true
      several = elim one.by [ inl is ↦ is | inr at_a ↦ elim two.by [ inl is ↦ is | inr at_b ↦ absurd (other (sym at_a ∙ at_b)) ] ]

      differ_so : differing ≡ true → p.differ ≡ true
      differ_so so = elim one.like [ inl is ↦ is | inr like_t ↦ elim two.like [ inl is ↦ is | inr like_u ↦ absurd (no_clash (touch_view p.touch) t u like_t like_u (clash so)) ] ]

      differ : (p.differ || not differing) ≡ true
      differ = elim (cases_Bool differing) [
        | inl so ↦ rw (differ_so so) refl
        | inr all ↦ rw all (or_right p.differ true refl)
      ]

  apart_if : (p : Option Passed) (a b : ℕ) → HasNotedIf p a t → HasNotedIf p b u → (a ≡ b → ⊥) → meets differing p ≡ true
  apart_if None a b one two other = absurd one
  apart_if (Some p) a b one two other = apart p a b one two other

-- ---- in a group

module _ (plan : PlanText) (passed : List (Option Passed)) (group : List TouchText) (noted : AreNoted plan passed group) where
  -- touches of nodes beside one another meet
  pub meets_where : (differing : Bool) (t u : TouchText) → Contains group t → Contains group u → (differing ≡ true → clashes t u ≡ true) → nodes_beside plan t.node u.node ≡ true → may_meet plan passed differing t.node ≡ true
  meets_where differing t u t_in u_in clash beside =
      let within = both _ _ (both _ _ beside).0 in
      let t_less : t.node < length plan.nodes = (let e = within.0 in grind (arith, e)) in
      let u_less : u.node < length plan.nodes = (let e = within.1 in grind (arith, e)) in
      let are = nodes_found plan t.node u.node beside in
      let one = (noted.each t t_in t_less).each are.child are.container are.below are.concurrent in
      let two = (noted.each u u_in u_less).each are.other are.container are.other_below are.other_concurrent in
      let here = apart_if differing t u clash (passed_at passed are.container) are.child are.other one two are.differ in
      both_true _ _ within.0 (turn_tested (λ turn. concurrent_of plan turn.0 && meets differing (passed_at passed turn.1)) (plan_path plan t.node) are.child are.container are.below (both_true _ _ are.concurrent here))

  races_where : (t u : TouchText) → Contains group t → Contains group u → race plan t u ≡ true → may_meet plan passed true t.node ≡ true
  races_where t u t_in u_in h = let parts = both (clashes t u) (nodes_beside plan t.node u.node) h in meets_where true t u t_in u_in (λ so. parts.0) parts.1

  -- a touch that may not race is not compared
  pub passed_over : (most : ℕ) (listed : List Race) (t : TouchText) → Contains group t → may_meet plan passed true t.node ≡ false → touch_listed plan most group listed t ≡ listed
  passed_over most listed t t_in none = touch_alone plan most group listed t (λ u u_in is. true≢false (sym (races_where t u t_in u_in is) ∙ none))

fold_push : {A B : Type 0} (f : B → A → B) (start : B) (xs : List A) (x : A) → fold f start (xs ++ x ∷ []) ≡ f (fold f start xs) x
fold_push f start [] x = refl
fold_push f start (y ∷ xs) x = fold_push f (f start y) xs x

-- one touch more is listed
pub listed_next : (plan : PlanText) (most : ℕ) (group : List Touch) (start listed after : List Race) (i : ℕ) (d : Touch) → i < length group → listed ≡ fold (touch_listed plan most (map touch_view group)) start (map touch_view (take i group))
    → after ≡ touch_listed plan most (map touch_view group) listed (touch_view (get_or group i d)) → after ≡ fold (touch_listed plan most (map touch_view group)) start (map touch_view (take (i + 1) group))
listed_next plan most group start listed after i d less so_far is =
    let f = touch_listed plan most (map touch_view group) in
    let touch = touch_view (get_or group i d) in
    is ∙ ap (λ r. f r touch) so_far ∙ sym (fold_push f start (map touch_view (take i group)) touch) ∙ ap (fold f start) (sym (map-take_at touch_view group i d less))

-- one that may not race is passed over
pub listed_over : (plan : PlanText) (passed : List (Option Passed)) (most : ℕ) (group : List Touch) (start listed after : List Race) (i : ℕ) (d : Touch) → AreNoted plan passed (map touch_view group) → i < length group
    → may_meet plan passed true (get_or group i d).node ≡ false → listed ≡ fold (touch_listed plan most (map touch_view group)) start (map touch_view (take i group)) → after ≡ listed
    → after ≡ fold (touch_listed plan most (map touch_view group)) start (map touch_view (take (i + 1) group))
listed_over plan passed most group start listed after i d noted less none so_far same =
    let touch = get_or group i d in
    let t_in = contains-map touch_view group touch (contains_at group i d less) in
    listed_next plan most group start listed after i d less so_far (same ∙ sym (passed_over plan passed (map touch_view group) noted most listed (touch_view touch) t_in none))

-- ---- one note

pub kept_all : (passed : List (Option Passed)) → Keeps passed passed
kept_all passed = record { each = λ k b t h. h }

pub keeps_more : (a b c : List (Option Passed)) → Keeps a b → Keeps b c → Keeps a c
keeps_more a b c p q = record { each = λ k d t h. q.each k d t (p.each k d t h) }

pub any_read : {A : Type 0} (xs : List A) (i : ℕ) (d e : A) → i < length xs → get_or xs i d ≡ get_or xs i e
any_read [] i d e less = absurd (omega (arith, less))
any_read (x ∷ xs) zero d e less = refl
any_read (x ∷ xs) (suc i) d e less = any_read xs i d e (omega (arith, less))

kept_one : (old : Option Passed) (new : Passed) → KeepsIf old new → (b : ℕ) (t : TouchText) → HasNotedIf old b t → HasNotedIf (Some new) b t
kept_one None new keeps b t h = absurd h
kept_one (Some p) new keeps b t h = keeps.each b t h

pub set_keeps : (passed : List (Option Passed)) (at : ℕ) (d : Option Passed) (new : Passed) → at < length passed → KeepsIf (get_or passed at d) new → Keeps passed (set passed at (Some new))
set_keeps passed at d new less keeps = record {
  each = λ k b t h. elim (cases_eq k at) [
    | inl same ↦
        let read : passed_at passed k ≡ get_or passed at d = ap (passed_at passed) same ∙ any_read passed at None d less in
        subst (λ p. HasNotedIf p b t) (sym (ap (λ j. get_or (set passed at (Some new)) j None) same ∙ get_or-set_same passed at (Some new) None less))
        (kept_one (get_or passed at d) new keeps b t (subst (λ p. HasNotedIf p b t) read h))
    | inr other ↦ subst (λ p. HasNotedIf p b t) (sym (get_or-set_other passed at k (Some new) None other)) h
  ];
}

pub set_noted : (passed : List (Option Passed)) (at : ℕ) (new : Passed) (child : ℕ) (t : TouchText) → at < length passed → HasNoted new child t → HasNotedIf (passed_at (set passed at (Some new)) at) child t
set_noted passed at new child t less h = subst (λ p. HasNotedIf p child t) (sym (get_or-set_same passed at (Some new) None less)) h

-- ---- along a path

pub record NotedBelow (plan : PlanText) (passed : List (Option Passed)) (path : List ℕ) (t : TouchText) (n : ℕ) : Type 0 where
  pub each : (j : ℕ) → suc j < n → concurrent_of plan (get_or path j 0) ≡ true → HasNotedIf (passed_at passed (get_or path (suc j) 0)) (get_or path j 0) t

pub below_none : (plan : PlanText) (passed : List (Option Passed)) (path : List ℕ) (t : TouchText) → NotedBelow plan passed path t 1
below_none plan passed path t = record { each = λ j less. absurd (omega (arith, less)) }

pub below_more : (plan : PlanText) (before after : List (Option Passed)) (path : List ℕ) (t : TouchText) (n : ℕ) → 0 < n → Keeps before after
    → (concurrent_of plan (get_or path (n - 1) 0) ≡ true → HasNotedIf (passed_at after (get_or path n 0)) (get_or path (n - 1) 0) t)
    → NotedBelow plan before path t n → NotedBelow plan after path t (n + 1)
below_more plan before after path t n some keeps last so_far = record {
  each = λ j less. elim (cases_eq (suc j) n) [
    | inl is ↦
        let lower : n - 1 ≡ j = omega (arith, is, some) in
        subst (λ m. concurrent_of plan (get_or path j 0) ≡ true → HasNotedIf (passed_at after (get_or path m 0)) (get_or path j 0) t) (sym is)
        (subst (λ k. concurrent_of plan (get_or path k 0) ≡ true → HasNotedIf (passed_at after (get_or path n 0)) (get_or path k 0) t) lower last)
    | inr other ↦ λ runs. keeps.each (get_or path (suc j) 0) (get_or path j 0) t (so_far.each j (omega (arith, less, other)) runs)
  ];
}

turn_at : (path : List ℕ) (child container : ℕ) → PassesBy path child container → (j : ℕ) × (suc j < length path) × (get_or path j 0 ≡ child) × (get_or path (suc j) 0 ≡ container)
turn_at [] child container by = absurd by
turn_at (first ∷ []) child container by = absurd by
turn_at (first ∷ next ∷ above) child container (inl (one, two)) = (0, omega arith, one, two)
turn_at (first ∷ next ∷ above) child container (inr later) = let rest = turn_at (next ∷ above) child container later in (suc rest.0, (let less = rest.1 in omega (arith, less)), rest.2, rest.3)

pub noted_all : (plan : PlanText) (passed : List (Option Passed)) (ids : List Id) (path : List ℕ) (t : TouchText) (n : ℕ) → ids ≡ ids_of_nodes plan.nodes → (t.node < length ids → path ≡ path_of ids t.node) → length path ≤ n
    → NotedBelow plan passed path t n → t.node < length plan.nodes → IsNoted plan passed t
noted_all plan passed ids path t n nodes is past below less = record {
  each = λ child container by runs.
      let long = ap length nodes ∙ length-map plan.nodes (λ node. node.id) in
      let same : path ≡ plan_path plan t.node = is (omega (arith, less, long)) ∙ ap (λ i. path_of i t.node) nodes in
      let turn = turn_at path child container (subst (λ p. PassesBy p child container) (sym same) by) in
      let within = turn.1 in
      subst (λ k. HasNotedIf (passed_at passed k) child t) turn.3
      (subst (λ c. HasNotedIf (passed_at passed (get_or path (suc turn.0) 0)) c t) turn.2 (below.each turn.0 (omega (arith, within, past)) (ap (concurrent_of plan) turn.2 ∙ runs)));
}

-- ---- one touch after another

pub touches_none : (plan : PlanText) (passed : List (Option Passed)) → AreNoted plan passed []
touches_none plan passed = record { each = λ t h. contains_nothing t h }

pub touches_more : (plan : PlanText) (before after : List (Option Passed)) (group : List Touch) (i : ℕ) (d : Touch) → i < length group → Keeps before after
    → ((get_or group i d).node < length plan.nodes → IsNoted plan after (touch_view (get_or group i d))) → AreNoted plan before (map touch_view (take i group)) → AreNoted plan after (map touch_view (take (i + 1) group))
touches_more plan before after group i d less keeps last so_far = subst (AreNoted plan after) (sym (map-take_at touch_view group i d less)) (record {
  each = λ t h within. elim (Contains-append_cases (map touch_view (take i group)) (touch ∷ []) t h) [
    | inl old ↦ (let was = so_far.each t old within in record { each = λ child container by runs. keeps.each container child t (was.each child container by runs) })
    | inr new ↦ elim (contains_cases touch t [] new) [
      | inl is_last ↦ subst (λ u. u.node < length plan.nodes → IsNoted plan after u) is_last last within
      | inr no_more ↦ contains_nothing t no_more
    ]
  ];
})
  where
    touch : TouchText
    touch = touch_view (get_or group i d)

-- ---- those that may change their place

-- one that does is among them
pub contains_changing : (touches : List TouchText) (t : TouchText) → t.changes ≡ true → Contains touches t → Contains (changing touches) t
contains_changing [] t changes there = contains_nothing t there
contains_changing (first ∷ more) t changes there = elim (contains_cases first t more there) [
  | inl same ↦
      let on : first.changes ≡ true = ap (λ (u : TouchText). u.changes) same ∙ changes in
      subst (λ b. Contains (cond b (first ∷ changing more) (changing more)) t) (sym on) (subst (λ u. Contains (first ∷ changing more) u) same (contains_first first (changing more)))
  | inr later ↦
      let rest = contains_changing more t changes later in
      by first.changes (contains_later first t (changing more) rest) rest
]
  where
    by : (b : Bool) → Contains (first ∷ changing more) t → Contains (changing more) t → Contains (cond b (first ∷ changing more) (changing more)) t
    by true with_first rest = with_first
    by false with_first rest = rest

changing_push : (touches : List TouchText) (t : TouchText) → changing (touches ++ t ∷ []) ≡ changing touches ++ cond t.changes (t ∷ []) []
changing_push touches t = filter-append (λ u. u.changes) touches (t ∷ [])

pub changing_none : (plan : PlanText) (passed : List (Option Passed)) → AreNoted plan passed (changing [])
changing_none plan passed = record { each = λ t h. contains_nothing t h }

pub changing_more : (plan : PlanText) (before after : List (Option Passed)) (group : List Touch) (i : ℕ) (d : Touch) → i < length group → Keeps before after
    → ((get_or group i d).changes ≡ true → (get_or group i d).node < length plan.nodes → IsNoted plan after (touch_view (get_or group i d))) → AreNoted plan before (changing (map touch_view (take i group)))
    → AreNoted plan after (changing (map touch_view (take (i + 1) group)))
changing_more plan before after group i d less keeps last so_far =
    subst (AreNoted plan after) (sym (ap changing (map-take_at touch_view group i d less) ∙ changing_push (map touch_view (take i group)) touch)) (record {
      each = λ t h within. elim (Contains-append_cases (changing (map touch_view (take i group))) (cond touch.changes (touch ∷ []) []) t h) [
        | inl old ↦ (let was = so_far.each t old within in record { each = λ child container by runs. keeps.each container child t (was.each child container by runs) })
        | inr new ↦ by touch.changes refl t new within
      ];
    })
  where
    touch : TouchText
    touch = touch_view (get_or group i d)

    by : (b : Bool) → touch.changes ≡ b → (t : TouchText) → Contains (cond b (touch ∷ []) []) t → t.node < length plan.nodes → IsNoted plan after t
    by true is t there within = elim (contains_cases touch t [] there) [
      | inl same ↦ subst (λ u. u.node < length plan.nodes → IsNoted plan after u) same (last is) within
      | inr no_more ↦ contains_nothing t no_more
    ]
    by false is t there within = contains_nothing t there
