-- The worked plans: tests of all pairs of touches tell whether a plan keeps apart, whether its closes agree, and whether it has no race. On a plan they are computed.
use Rattle.std.proofs.Common.{◌≡◌, ◌≢◌, ◌++◌, All, IfSome, ◌≤◌, ◌<◌, ℕ, zero, suc, Bool, true, false, List, [], ◌∷◌, Contains, codes, length, refl, sym, ap, subst, ◌∙◌, arith, inl, inr, eq-eqb}
use Rattle.std.specs.Prelude.{◌==◌, ◌&&◌, not}
use Rattle.std.specs.List.{list_all}
use Rattle.std.specs.Str.{bytes_eq}
use Rattle.std.specs.Cmp.Lexicographic.{bytes_decides, pointwise}
use Rattle.std.proofs.lemmas.Bool.{cases_Bool, not-true, true≢false}
use Rattle.ext_lifecycle.specs.declared.call.Kind.{Kind}
use Rattle.ext_lifecycle.specs.declared.call.Kind.TheVariants as kinds
use Rattle.ext_lifecycle.specs.declared.mode.Mode.{Mode}
use Rattle.ext_lifecycle.specs.declared.mode.Mode.TheVariants as modes
use Rattle.ext_ids.specs.Ids.{pair_eq}
use Rattle.ext_tree.specs.Trees.{HasParentBefore, Id, IsTree, StandsBefore, id_at}
use Rattle.ext_plan.specs.Labels.{is_word}
use Rattle.ext_plan.specs.declared.word.Word.TheVariants as words
use Rattle.ext_plan.specs.Plans.{NodeText, PlanText, StepText, callbacks_of, keyed}
use Rattle.ext_plan.specs.ReadPlans.{CallbacksAreFew, HasNoContainerCallbacks, IsRunnablePlan, NamesLabelBelow, OfAllSteps, StayOnPath, StaysOnOwnPath, StaysOnPathOf, StepsStayBelowRoot, TestsHaveNoChildren}
use Rattle.ext_plan.specs.Steps.{callback_limit, height, step_limit}
use Rattle.ext_plan.specs.StepWords.{gives_value}
use Rattle.ext_plan.specs.StoreKeys.{HasParts}
use Rattle.ext_plan.specs.PlanCalls.{concurrent_of}
use Rattle.ext_races.specs.declared.race.Race.{Race}
use Rattle.ext_races.specs.Clashes.{agree, clashes, may_fail}
use Rattle.ext_races.specs.Beside.{nodes_beside}
use Rattle.ext_races.specs.MadeSteps.{path_from}
use Rattle.ext_races.specs.Races.{IsRace}
use Rattle.ext_races.specs.Touches.{TouchText, keys_named, numbers_drawn, touches_made}
use Rattle.ext_races.proofs.Equalities.{both, both_true, equal}
use Rattle.ext_races.proofs.Lists.{contains_cases, contains_first, contains_later, contains_nothing}
use Rattle.ext_races.proofs.Sides.{nodes_found, nodes_tested}
use Rattle.ext_races.proofs.TouchNodes.{touch_within}
use Rattle.ext_races.specs.OneReports.{KeepsApart, ClosesAgreeBeside}
use Rattle.ext_one_report.specs.WorkedPlans.{AreSteps, ComputesAreNoRace, ComputesDoNot, FailsAlikeKeepApart, FailsUnlikeDoNot, FoundKeepsApart, LookAndPutDoNot, LooksBelowKeepApart, LooksKeepApart, OneByOneKeepsApart, OneTextAgrees, OwnPutsKeepApart, PutsAboveDoNot, ReplacedAgrees, TestsAreBeside, TestsAreRead, OneByOneAgrees, TwoFaultsAgree, TwoKeysKeepApart, TwoTextsDoNot, WorkedHasKeys, WorkedHasNumbers, WorkedIsRead, WorkedKeepsApart, WorkedAgrees, a, b, class_id, computing, container, failing, root_id, test_of_class, tests_of_mode, two_tests, worked_plan}

-- ---- tests of all pairs

-- a test that all pass is passed by each,
pub passes : {X : Type 0} (p : X → Bool) (xs : List X) (x : X) → list_all p xs ≡ true → Contains xs x → p x ≡ true
passes p [] x all there = contains_nothing x there
passes p (y ∷ xs) x all there =
    let parts = both (p y) (list_all p xs) all in
    elim (contains_cases y x xs there) [
      | inl here ↦ subst (λ z. p z ≡ true) here parts.0
      | inr later ↦ passes p xs x parts.1 later
    ]

-- and one that each passes by all
all_pass : {X : Type 0} (p : X → Bool) (xs : List X) → ((x : X) → Contains xs x → p x ≡ true) → list_all p xs ≡ true
all_pass p [] each = refl
all_pass p (y ∷ xs) each = both_true (p y) (list_all p xs) (each y (contains_first y xs)) (all_pass p xs (λ x there. each x (contains_later y x xs there)))

-- no two touches of a plan are such
abbrev pub no_pair : PlanText → (TouchText → TouchText → Bool) → Bool
no_pair plan p = list_all (λ t. list_all (λ u. not (p t u)) (touches_made plan)) (touches_made plan)

not_such : (plan : PlanText) (p : TouchText → TouchText → Bool) (t u : TouchText) → no_pair plan p ≡ true → Contains (touches_made plan) t → Contains (touches_made plan) u → p t u ≡ true → ⊥
not_such plan p t u none one two such =
    let free : not (p t u) ≡ true = passes (λ u. not (p t u)) (touches_made plan) u (passes (λ t. list_all (λ u. not (p t u)) (touches_made plan)) (touches_made plan) t none one) two in
    true≢false (sym free ∙ ap not such)

pub none_such : (plan : PlanText) (p : TouchText → TouchText → Bool) → ((t u : TouchText) → Contains (touches_made plan) t → Contains (touches_made plan) u → p t u ≡ true → ⊥) → no_pair plan p ≡ true
none_such plan p none = all_pass (λ t. list_all (λ u. not (p t u)) (touches_made plan)) (touches_made plan) (λ t one. all_pass (λ u. not (p t u)) (touches_made plan) (λ u two. elim (cases_Bool (p t u)) [
  | inl such ↦ absurd (none t u one two such)
  | inr other ↦ ap not other
]))

-- ---- plans that keep apart

-- the nodes may run beside one another, and the first may change the place that the second touches
abbrev pub meet : PlanText → TouchText → TouchText → Bool
meet plan t u = nodes_beside plan t.node u.node && t.changes && (t.context == u.context) && (t.key == u.key)

-- both have a factory that fails with one text, or the second finds what the first computes
abbrev at_peace : TouchText → TouchText → Bool
at_peace t u = not (gives_value t.word && u.changes) && agree t u

-- else such touches do not keep apart
abbrev cross : PlanText → TouchText → TouchText → Bool
cross plan t u = meet plan t u && not (at_peace t u)

keeps_apart : (plan : PlanText) → no_pair plan (cross plan) ≡ true → KeepsApart plan
keeps_apart plan none = record {
  apart = λ t u one two beside changing at named. elim (cases_Bool (at_peace t u)) [
    | inl alike ↦ let parts = both (not (gives_value t.word && u.changes)) (agree t u) alike in (parts.1, not-true (gives_value t.word && u.changes) parts.0)
    | inr unlike ↦ absurd (not_such plan (cross plan) t u none one two (both_true (meet plan t u) (not (at_peace t u))
        (both_true _ _ (both_true _ _ (both_true _ _ (nodes_tested plan t.node u.node (touch_within plan t one) (touch_within plan u two) beside) changing) (eq-eqb t.context u.context at)) (eq-eqb t.key u.key named)) (ap not unlike)))
  ];
}

kept_apart : (plan : PlanText) → KeepsApart plan → no_pair plan (cross plan) ≡ true
kept_apart plan keeps = none_such plan (cross plan) (λ t u one two such.
    let parts = both (meet plan t u) (not (at_peace t u)) such in
    let key = both _ _ parts.0 in
    let context = both _ _ key.0 in
    let changing = both _ _ context.0 in
    let alike = keeps.apart t u one two (nodes_found plan t.node u.node changing.0) changing.1 (equal t.context u.context context.1) (equal t.key u.key key.1) in
    true≢false (sym parts.1 ∙ ap not (both_true (not (gives_value t.word && u.changes)) (agree t u) (ap not alike.1) alike.0)))

crosses : (plan : PlanText) → no_pair plan (cross plan) ≡ false → ¬ KeepsApart plan
crosses plan some keeps = true≢false (sym (kept_apart plan keeps) ∙ some)

pub own_puts_keep_apart : OwnPutsKeepApart
unfolding path_from
own_puts_keep_apart text other = keeps_apart (two_tests [] (keyed words.Put a text 0 ∷ []) (keyed words.Put a other 0 ∷ [])) refl

pub looks_keep_apart : LooksKeepApart
unfolding path_from
looks_keep_apart text wanted other = keeps_apart (two_tests (keyed words.Put a text 0 ∷ []) (keyed words.Want a wanted 0 ∷ []) (keyed words.Want a other 0 ∷ [])) refl

pub looks_below_keep_apart : LooksBelowKeepApart
unfolding path_from
looks_below_keep_apart text wanted other = keeps_apart (two_tests (keyed words.Compute a text 0 ∷ []) (keyed words.Want a wanted 0 ∷ []) (keyed words.Want a other 0 ∷ [])) refl

pub two_keys_keep_apart : TwoKeysKeepApart
unfolding path_from
two_keys_keep_apart text other = keeps_apart (two_tests [] (keyed words.Put a text 1 ∷ []) (keyed words.Put b other 1 ∷ [])) refl

pub puts_above_do_not : PutsAboveDoNot
unfolding path_from
puts_above_do_not text other = crosses (two_tests [] (keyed words.Put a text 1 ∷ []) (keyed words.Put a other 1 ∷ [])) refl

pub look_and_put_do_not : LookAndPutDoNot
unfolding path_from
look_and_put_do_not wanted text = crosses (two_tests [] (keyed words.Want a wanted 0 ∷ []) (keyed words.Put a text 1 ∷ [])) refl

pub computes_do_not : ComputesDoNot
unfolding path_from
computes_do_not text = crosses (computing text) refl

pub same_text : (text : List ℕ) → bytes_eq text text ≡ true
same_text text = (bytes_decides text text).1 refl

pub fails_alike_keep_apart : FailsAlikeKeepApart
unfolding path_from
fails_alike_keep_apart keep text = keeps_apart (failing keep text text) (rw (same_text text) refl)

pub found_keeps_apart : FoundKeepsApart
unfolding path_from
found_keeps_apart text wanted = keeps_apart (two_tests (keyed words.Compute a text 0 ∷ []) (keyed words.Compute a text 1 ∷ []) (keyed words.Want a wanted 0 ∷ [])) (rw (same_text text) refl)

two_texts : (text other : List ℕ) → text ≢ other → bytes_eq text other ≡ false
two_texts text other differ = elim (cases_Bool (bytes_eq text other)) [
  | inl same ↦ absurd (differ ((bytes_decides text other).0 same))
  | inr unlike ↦ unlike
]

pub fails_unlike_do_not : FailsUnlikeDoNot
unfolding path_from
fails_unlike_do_not keep text other differ = crosses (failing keep text other) (rw (two_texts text other differ) refl)

-- none of the nodes is concurrent
not_concurrent : (before first second : List StepText) (node : ℕ) → concurrent_of (tests_of_mode modes.SameThread before first second) node ≡ false
not_concurrent before first second zero = refl
not_concurrent before first second (suc zero) = refl
not_concurrent before first second (suc (suc zero)) = refl
not_concurrent before first second (suc (suc (suc zero))) = refl
not_concurrent before first second (suc (suc (suc (suc node)))) = refl

pub one_by_one_keeps_apart : OneByOneKeepsApart
one_by_one_keeps_apart before first second = record {
  apart = λ t u one two beside changing at named. absurd (true≢false (sym beside.concurrent ∙ not_concurrent before first second beside.child));
}

-- ---- races

abbrev clash : PlanText → TouchText → TouchText → Bool
clash plan t u = nodes_beside plan t.node u.node && clashes t u

pub no_race : (plan : PlanText) (race : Race) → no_pair plan (clash plan) ≡ true → ¬ IsRace plan race
no_race plan race none is = not_such plan (clash plan) is.first is.second none is.first_made is.second_made
    (both_true _ _ (nodes_tested plan is.first.node is.second.node (touch_within plan is.first is.first_made) (touch_within plan is.second is.second_made) is.beside) is.clash)

pub computes_are_no_race : ComputesAreNoRace
unfolding path_from
computes_are_no_race text race = no_race (computing text) race (rw (same_text text) refl)

-- ---- closes

-- the nodes may run beside one another, and the closes of both may fail at the end of one context, with two texts
abbrev differ : PlanText → TouchText → TouchText → Bool
differ plan t u = nodes_beside plan t.node u.node && may_fail t && may_fail u && (t.context == u.context) && not (bytes_eq t.text u.text)

closes_agree : (plan : PlanText) → no_pair plan (differ plan) ≡ true → ClosesAgreeBeside plan
closes_agree plan none = record {
  one = λ t u one two beside fails other at. elim (cases_Bool (bytes_eq t.text u.text)) [
    | inl same ↦ (bytes_decides t.text u.text).0 same
    | inr two_texts ↦ absurd (not_such plan (differ plan) t u none one two
        (both_true _ _ (both_true _ _ (both_true _ _ (both_true _ _ (nodes_tested plan t.node u.node (touch_within plan t one) (touch_within plan u two) beside) fails) other) (eq-eqb t.context u.context at)) (ap not two_texts)))
  ];
}

agreed : (plan : PlanText) → ClosesAgreeBeside plan → no_pair plan (differ plan) ≡ true
agreed plan agree = none_such plan (differ plan) (λ t u one two such.
    let text = both _ _ such in
    let context = both _ _ text.0 in
    let other = both _ _ context.0 in
    let fails = both _ _ other.0 in
    let same : t.text ≡ u.text = agree.one t u one two (nodes_found plan t.node u.node fails.0) fails.1 other.1 (equal t.context u.context context.1) in
    true≢false (sym text.1 ∙ ap not ((bytes_decides t.text u.text).1 same)))

do_not_agree : (plan : PlanText) → no_pair plan (differ plan) ≡ false → ¬ ClosesAgreeBeside plan
do_not_agree plan some agree = true≢false (sym (agreed plan agree) ∙ some)

pub two_faults_agree : TwoFaultsAgree
unfolding path_from
two_faults_agree = closes_agree (two_tests [] (keyed words.PutCloseable a (codes "bad1") 0 ∷ keyed words.PutCloseable b (codes "bad2") 0 ∷ []) []) refl

pub replaced_agrees : ReplacedAgrees
unfolding path_from
replaced_agrees = closes_agree (two_tests [] (keyed words.PutCloseable a (codes "bad1") 0 ∷ keyed words.PutCloseable a (codes "bad2") 0 ∷ []) []) refl

pub two_texts_do_not : TwoTextsDoNot
unfolding path_from
two_texts_do_not = do_not_agree (two_tests [] (keyed words.PutCloseable a (codes "bad1") 1 ∷ []) (keyed words.PutCloseable b (codes "bad2") 1 ∷ [])) refl

pub one_text_agrees : OneTextAgrees
unfolding path_from
one_text_agrees = closes_agree (two_tests [] (keyed words.PutCloseable a (codes "bad1") 1 ∷ []) (keyed words.PutCloseable b (codes "bad1") 1 ∷ [])) refl

pub one_by_one_agrees : OneByOneAgrees
one_by_one_agrees before first second = record {
  one = λ t u one two beside fails other at. absurd (true≢false (sym beside.concurrent ∙ not_concurrent before first second beside.child));
}

-- ---- all that is asked

pub tests_are_beside : TestsAreBeside
unfolding path_from
tests_are_beside before first second = nodes_found (two_tests before first second) 2 3 refl

pub worked_keeps_apart : WorkedKeepsApart
unfolding path_from
worked_keeps_apart = keeps_apart worked_plan refl

pub worked_agrees : WorkedAgrees
unfolding path_from
worked_agrees = closes_agree worked_plan refl

two_keys : length (keys_named worked_plan) ≡ 2
unfolding path_from
two_keys = refl

pub worked_has_keys : WorkedHasKeys
worked_has_keys = let two = two_keys in omega (arith, two)

four_numbers : numbers_drawn worked_plan ≡ 4
unfolding path_from
four_numbers = refl

pub worked_has_numbers : WorkedHasNumbers
worked_has_numbers = let four = four_numbers in omega (arith, four)

-- ---- plans as those that were read

all_none : {X : Type 0} (P : X → Type 0) → All P []
all_none P k d less = absurd (omega (arith, less))

all_cons : {X : Type 0} (P : X → Type 0) (x : X) (xs : List X) → P x → All P xs → All P (x ∷ xs)
all_cons P x xs is all zero d less = is
all_cons P x xs is all (suc k) d less = all k d (omega (arith, less))

-- what holds of the nodes of a plan, each
all_four : (P : NodeText → Type 0) (mode : Mode) (before first second : List StepText) → P (container root_id []) → P (container class_id (before ∷ [])) → P (test_of_class mode (codes "m") first)
    → P (test_of_class mode (codes "n") second) → All P (tests_of_mode mode before first second).nodes
all_four P mode before first second root class m n =
    all_cons P (container root_id []) (container class_id (before ∷ []) ∷ test_of_class mode (codes "m") first ∷ test_of_class mode (codes "n") second ∷ []) root
    (all_cons P (container class_id (before ∷ [])) (test_of_class mode (codes "m") first ∷ test_of_class mode (codes "n") second ∷ []) class
    (all_cons P (test_of_class mode (codes "m") first) (test_of_class mode (codes "n") second ∷ []) m
    (all_cons P (test_of_class mode (codes "n") second) [] n (all_none P))))

-- ---- the tree

abbrev ids : List Id
ids = root_id ∷ class_id ∷ (class_id ++ (codes "t", codes "m") ∷ []) ∷ (class_id ++ (codes "t", codes "n") ∷ []) ∷ []

-- ids that are told apart are two
two_ids : (id other : Id) → pointwise pair_eq id other ≡ false → pointwise pair_eq other other ≡ true → id ≢ other
two_ids id other differ same is = true≢false (sym same ∙ ap (λ i. pointwise pair_eq i other) (sym is) ∙ differ)

fresh : (k : ℕ) → 0 < k → k < 4 → ¬ StandsBefore ids k
fresh zero some less before = absurd (omega (arith, some))
fresh (suc zero) some less (zero, first, is) = two_ids (id_at ids 0) (id_at ids 1) refl refl is
fresh (suc zero) some less (suc j, first, is) = absurd (omega (arith, first))
fresh (suc (suc zero)) some less (zero, first, is) = two_ids (id_at ids 0) (id_at ids 2) refl refl is
fresh (suc (suc zero)) some less (suc zero, first, is) = two_ids (id_at ids 1) (id_at ids 2) refl refl is
fresh (suc (suc zero)) some less (suc (suc j), first, is) = absurd (omega (arith, first))
fresh (suc (suc (suc zero))) some less (zero, first, is) = two_ids (id_at ids 0) (id_at ids 3) refl refl is
fresh (suc (suc (suc zero))) some less (suc zero, first, is) = two_ids (id_at ids 1) (id_at ids 3) refl refl is
fresh (suc (suc (suc zero))) some less (suc (suc zero), first, is) = two_ids (id_at ids 2) (id_at ids 3) refl refl is
fresh (suc (suc (suc zero))) some less (suc (suc (suc j)), first, is) = absurd (omega (arith, first))
fresh (suc (suc (suc (suc k)))) some less before = absurd (omega (arith, less))

below_root : (k : ℕ) → 0 < k → k < 4 → length (id_at ids k) ≢ 1
below_root zero some less is = absurd (omega (arith, some))
below_root (suc zero) some less is = let e : ◌≡◌ {A = ℕ} 2 1 = is in absurd (omega (arith, e))
below_root (suc (suc zero)) some less is = let e : ◌≡◌ {A = ℕ} 3 1 = is in absurd (omega (arith, e))
below_root (suc (suc (suc zero))) some less is = let e : ◌≡◌ {A = ℕ} 3 1 = is in absurd (omega (arith, e))
below_root (suc (suc (suc (suc k)))) some less is = absurd (omega (arith, less))

has_parent : (k : ℕ) → 0 < k → k < 4 → HasParentBefore ids k
has_parent zero some less = absurd (omega (arith, some))
has_parent (suc zero) some less = (0, omega arith, ((codes "c", codes "A"), refl))
has_parent (suc (suc zero)) some less = (1, omega arith, ((codes "t", codes "m"), refl))
has_parent (suc (suc (suc zero))) some less = (1, omega arith, ((codes "t", codes "n"), refl))
has_parent (suc (suc (suc (suc k)))) some less = absurd (omega (arith, less))

are_tree : IsTree ids
are_tree = record {
  first = record { some = omega arith; few = omega arith; root = refl };
  later = record { each = λ k some less. record { fresh = fresh k some less; below = below_root k some less; parent = has_parent k some less } };
}

-- ---- the nodes

module _ (P : List StepText → Type 0) where
  callbacks_of_container : (id : Id) (before : List (List StepText)) → All P before → (kind : Kind) → All P (callbacks_of kind (container id before))
  callbacks_of_container id before all kinds.BeforeAll = all
  callbacks_of_container id before all kinds.BeforeEach = all_none P
  callbacks_of_container id before all kinds.Test = all_none P
  callbacks_of_container id before all kinds.AfterEach = all_none P
  callbacks_of_container id before all kinds.AfterAll = all_none P

  callbacks_of_test : (mode : Mode) (name : List ℕ) (steps : List StepText) (kind : Kind) → All P (callbacks_of kind (test_of_class mode name steps))
  callbacks_of_test mode name steps kinds.BeforeAll = all_none P
  callbacks_of_test mode name steps kinds.BeforeEach = all_none P
  callbacks_of_test mode name steps kinds.Test = all_none P
  callbacks_of_test mode name steps kinds.AfterEach = all_none P
  callbacks_of_test mode name steps kinds.AfterAll = all_none P

  of_all_steps : (mode : Mode) (before first second : List StepText) → P before → P first → P second → All (OfAllSteps P) (tests_of_mode mode before first second).nodes
  of_all_steps mode before first second one two three = all_four (OfAllSteps P) mode before first second
      (record { callbacks = callbacks_of_container root_id [] (all_none P); test = tt })
      (record { callbacks = callbacks_of_container class_id (before ∷ []) (all_cons P before [] one (all_none P)); test = tt })
      (record { callbacks = callbacks_of_test mode (codes "m") first; test = two })
      (record { callbacks = callbacks_of_test mode (codes "n") second; test = three })

callbacks_are_few : (most : ℕ) (node : NodeText) → length node.before_all ≤ most → length node.after_all ≤ most → length node.before_each ≤ most → length node.after_each ≤ most
    → (kind : Kind) → length (callbacks_of kind node) ≤ most
callbacks_are_few most node one two three four kinds.BeforeAll = one
callbacks_are_few most node one two three four kinds.BeforeEach = three
callbacks_are_few most node one two three four kinds.Test = omega arith
callbacks_are_few most node one two three four kinds.AfterEach = four
callbacks_are_few most node one two three four kinds.AfterAll = two

few_callbacks : (mode : Mode) (before first second : List StepText) → CallbacksAreFew (tests_of_mode mode before first second)
few_callbacks mode before first second = all_four (λ node. (kind : Kind) → length (callbacks_of kind node) ≤ callback_limit) mode before first second
    (callbacks_are_few callback_limit (container root_id []) (omega arith) (omega arith) (omega arith) (omega arith))
    (callbacks_are_few callback_limit (container class_id (before ∷ [])) (omega arith) (omega arith) (omega arith) (omega arith))
    (callbacks_are_few callback_limit (test_of_class mode (codes "m") first) (omega arith) (omega arith) (omega arith) (omega arith))
    (callbacks_are_few callback_limit (test_of_class mode (codes "n") second) (omega arith) (omega arith) (omega arith) (omega arith))

no_children : (mode : Mode) (before first second : List StepText) → TestsHaveNoChildren (tests_of_mode mode before first second)
no_children mode before first second zero less d = tt
no_children mode before first second (suc zero) less d = tt
no_children mode before first second (suc (suc zero)) less d = refl
no_children mode before first second (suc (suc (suc zero))) less d = refl
no_children mode before first second (suc (suc (suc (suc k)))) less d = absurd (let e : suc (suc (suc (suc k))) < 4 = less in omega (arith, e))

-- ---- how far up steps go

own_paths : (mode : Mode) (before first second : List StepText) → StayOnPath 2 before → StayOnPath 3 first → StayOnPath 3 second → All StaysOnOwnPath (tests_of_mode mode before first second).nodes
own_paths mode before first second one two three = all_four StaysOnOwnPath mode before first second
    (record { test = tt; before_all = all_none (StayOnPath 1); after_all = all_none (StayOnPath 1) })
    (record { test = tt; before_all = all_cons (StayOnPath 2) before [] one (all_none (StayOnPath 2)); after_all = all_none (StayOnPath 2) })
    (record { test = two; before_all = all_none (StayOnPath 3); after_all = all_none (StayOnPath 3) })
    (record { test = three; before_all = all_none (StayOnPath 3); after_all = all_none (StayOnPath 3) })

-- no node has a callback before or after each test
no_each : (mode : Mode) (before first second : List StepText) (test : NodeText) → All (StaysOnPathOf test) (tests_of_mode mode before first second).nodes
no_each mode before first second test = all_four (StaysOnPathOf test) mode before first second
    (record { before_each = λ _. all_none (StayOnPath (length test.id)); after_each = λ _. all_none (StayOnPath (length test.id)) })
    (record { before_each = λ _. all_none (StayOnPath (length test.id)); after_each = λ _. all_none (StayOnPath (length test.id)) })
    (record { before_each = λ _. all_none (StayOnPath (length test.id)); after_each = λ _. all_none (StayOnPath (length test.id)) })
    (record { before_each = λ _. all_none (StayOnPath (length test.id)); after_each = λ _. all_none (StayOnPath (length test.id)) })

stay_below_root : (mode : Mode) (before first second : List StepText) → StayOnPath 2 before → StayOnPath 3 first → StayOnPath 3 second → StepsStayBelowRoot (tests_of_mode mode before first second)
stay_below_root mode before first second one two three = record {
  own = own_paths mode before first second one two three;
  each = all_four (λ test. IfSome test.test (λ _. All (StaysOnPathOf test) (tests_of_mode mode before first second).nodes)) mode before first second tt tt
      (no_each mode before first second (test_of_class mode (codes "m") first)) (no_each mode before first second (test_of_class mode (codes "n") second));
}

-- ---- all of it

are_runnable : (mode : Mode) (before first second : List StepText) → AreSteps 2 before → AreSteps 3 first → AreSteps 3 second → IsRunnablePlan (tests_of_mode mode before first second)
are_runnable mode before first second one two three = record {
  tree = are_tree;
  tests = no_children mode before first second;
  locks = omega arith;
  places = record { whole = refl; some = omega arith; few = omega arith };
  namespaces = all_none HasParts;
  short = of_all_steps (λ steps. length steps ≤ step_limit) mode before first second one.few two.few three.few;
  few = few_callbacks mode before first second;
}

pub tests_are_read : TestsAreRead
tests_are_read mode before first second one two three = record {
  runnable = are_runnable mode before first second one two three;
  nodes = omega arith;
  different = omega arith;
  labels = record { words = all_none (λ label. is_word label ≡ true); different = λ i j d first last same. absurd (omega (arith, last)) };
  keys = of_all_steps (All (NamesLabelBelow 0)) mode before first second one.names two.names three.names;
  up = stay_below_root mode before first second one.up two.up three.up;
  containers = all_four (λ node. IfSome node.test (λ _. HasNoContainerCallbacks node)) mode before first second tt tt (record { before_all = refl; after_all = refl }) (record { before_all = refl; after_all = refl });
}

two_steps : (count : ℕ) (step other : StepText) → NamesLabelBelow 0 step → height step < count → NamesLabelBelow 0 other → height other < count → AreSteps count (step ∷ other ∷ [])
two_steps count step other named up other_named other_up = record {
  names = all_cons (NamesLabelBelow 0) step (other ∷ []) named (all_cons (NamesLabelBelow 0) other [] other_named (all_none (NamesLabelBelow 0)));
  up = all_cons (λ step. height step < count) step (other ∷ []) up (all_cons (λ step. height step < count) other [] other_up (all_none (λ step. height step < count)));
  few = omega arith;
}

pub worked_is_read : WorkedIsRead
worked_is_read = tests_are_read modes.Concurrent (keyed words.PutCloseable a (codes "bad1") 0 ∷ keyed words.PutCloseable b (codes "bad2") 0 ∷ [])
    (keyed words.Want a (codes "bad1") 0 ∷ keyed words.PutCloseable b (codes "bad1") 0 ∷ []) (keyed words.Want a (codes "bad1") 0 ∷ keyed words.PutCloseable b (codes "bad2") 0 ∷ [])
    (two_steps 2 (keyed words.PutCloseable a (codes "bad1") 0) (keyed words.PutCloseable b (codes "bad2") 0) tt (omega arith) tt (omega arith))
    (two_steps 3 (keyed words.Want a (codes "bad1") 0) (keyed words.PutCloseable b (codes "bad1") 0) tt (omega arith) tt (omega arith))
    (two_steps 3 (keyed words.Want a (codes "bad1") 0) (keyed words.PutCloseable b (codes "bad2") 0) tt (omega arith) tt (omega arith))
