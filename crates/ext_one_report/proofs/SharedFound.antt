-- The places that a node shares: a node at or below it touches them, and so does one beside it, and one of both changes them. All of these compute the same there, or find it, or all of them fail there with one text.
use Rattle.std.proofs.Common.{◌≡◌, ◌<◌, ℕ, Bool, true, false, List, [], ◌∷◌, length, Contains, Option, Some, None, refl, ap, sym, subst, ◌∙◌, arith, inl, inr, eq-eqb}
use Rattle.std.specs.Prelude.{◌==◌, ◌&&◌, ◌||◌, ◌⊎◌, find, if◌then◌else◌, drop}
use Rattle.std.specs.Cmp.Lexicographic.{bytes_decides}
use Rattle.std.specs.List.{list_any}
use Rattle.std.specs.Str.{bytes_eq}
use Rattle.std.proofs.lemmas.Bool.{and_from, and_parts, cases_Bool, eqb-true, true≢false, or_cases, or_left, or_right}
use Rattle.std.proofs.lemmas.List.{length-map}
use Rattle.std.proofs.lemmas.List.Folds.{Any-from_list_any, list_any-from_Any}
use Rattle.ext_tree.specs.Keys.{KeyValue}
use Rattle.ext_plan.specs.Plans.{PlanText}
use Rattle.ext_plan.specs.ReadPlans.{IsReadPlan, ids_of_nodes}
use Rattle.ext_plan.specs.StoreKeys.{number_of_key}
use Rattle.ext_races.specs.Clashes.{agree}
use Rattle.ext_races.specs.Beside.{nodes_beside}
use Rattle.ext_races.specs.MadeSteps.{plan_path}
use Rattle.ext_races.specs.Touches.{TouchText, keys_named, touches_made}
use Rattle.ext_plan.specs.StepWords.{computes, word_eq}
use Rattle.ext_races.proofs.Equalities.{word_is}
use Rattle.ext_races.proofs.Lists.{contains_first, contains_later}
use Rattle.ext_races.proofs.Sides.{nodes_found, nodes_tested}
use Rattle.ext_races.proofs.TouchNodes.{touch_within}
use Rattle.ext_one_report.specs.Shares.{is_at, is_beside_at}
use Rattle.ext_races.specs.OneReports.{SharesValues}
use Rattle.ext_one_report.specs.Within.{is_within}
use Rattle.ext_one_report.proofs.ComputedAbove.{IsStoredIn}
use Rattle.ext_one_report.proofs.CoveredPaths.{path_holds, path_there}
use Rattle.ext_one_report.proofs.CoveredPlans.{IsTouchedBelow, within_found}
use Rattle.ext_one_report.proofs.FoundAbove.{IsFoundAbove, how_it_acts, key_there, one_key}
use Rattle.ext_one_report.proofs.Open.{Given, given_by}
use Rattle.ext_one_report.proofs.Shared.{given_in, given_of, is_open_at}
use Rattle.ext_one_report.proofs.SharedBeside.{AreBelow, above_both, above_cases, also_below, are_below, are_beside, turned}

-- ---- the first that passes

pub find_is : {A : Type 0} (p : A → Bool) (xs : List A) (x : A) → find p xs ≡ Some x → Contains xs x × (p x ≡ true)
find_is p [] x e = absurd (cc e)
find_is p (y ∷ xs) x e = elim (cases_Bool (p y)) [
  | inl passes ↦
      let first : Some y ≡ Some x = rw passes at e in
      let same : y ≡ x = cc first in
      (subst (Contains (y ∷ xs)) same (contains_first y xs), ap p (sym same) ∙ passes)
  | inr fails ↦ let rest = find_is p xs x (rw fails at e) in (contains_later y x xs rest.0, rest.1)
]

pub find_some : {A : Type 0} (p : A → Bool) (xs : List A) → list_any p xs ≡ true → (x : A) × (find p xs ≡ Some x)
find_some p [] any = absurd cc
find_some p (y ∷ xs) any = elim (cases_Bool (p y)) [
  | inl passes ↦ (y, ap (λ (b : Bool). if b then Some y else find p xs) passes)
  | inr fails ↦ let rest = find_some p xs (rw fails at any) in (rest.0, ap (λ (b : Bool). if b then Some y else find p xs) fails ∙ rest.1)
]

-- what the touch computes, or finds
abbrev pub touch_gives : PlanText → TouchText → Given
touch_gives plan touch = given_by plan.keep_faults touch.acts touch.text

given_touch : (plan : PlanText) (o : Option TouchText) (v : Given) → given_of plan o ≡ Some v → (t : TouchText) × (o ≡ Some t) × (touch_gives plan t ≡ v)
given_touch plan None v e = absurd (cc e)
given_touch plan (Some t) v e = (t, refl, cc e)

-- ---- what a node shares

-- a touch at this place
pub record IsTouchedAt (plan : PlanText) (context : ℕ) (key : KeyValue) : Type 0 where
  pub touch : TouchText
  pub made : Contains (touches_made plan) touch
  pub context_is : touch.context ≡ context
  pub key_is : touch.key ≡ number_of_key (keys_named plan) key

-- such a touch by a node that may run beside this one
pub record IsTouchedBeside (plan : PlanText) (node context : ℕ) (key : KeyValue) : Type 0 where
  pub touch : TouchText
  pub made : Contains (touches_made plan) touch
  pub beside : AreBelow plan node touch.node
  pub context_is : touch.context ≡ context
  pub key_is : touch.key ≡ number_of_key (keys_named plan) key

abbrev pub below_at : (plan : PlanText) (node context : ℕ) (key : KeyValue) (told : Bool) → IsTouchedBelow plan node context key told → IsTouchedAt plan context key
below_at plan node context key told is = record { touch = is.touch; made = is.made; context_is = is.context_is; key_is = is.key_is }

abbrev pub beside_at : (plan : PlanText) (node context : ℕ) (key : KeyValue) → IsTouchedBeside plan node context key → IsTouchedAt plan context key
beside_at plan node context key is = record { touch = is.touch; made = is.made; context_is = is.context_is; key_is = is.key_is }

-- one of both may change the place
abbrev pub EitherChanges : TouchText → TouchText → Type 0
EitherChanges t u = (t.changes ≡ true) ⊎ (u.changes ≡ true)

-- a node at or below this one computes this there, and a node beside it touches the place
pub record IsShared (plan : PlanText) (node context : ℕ) (key : KeyValue) (v : Given) : Type 0 where
  pub first : IsTouchedBelow plan node context key false
  pub gives : touch_gives plan first.touch ≡ v
  pub second : IsTouchedBeside plan node context key
  pub one : EitherChanges first.touch second.touch

pub same_count : (plan : PlanText) → length (ids_of_nodes plan.nodes) ≡ length plan.nodes
same_count plan = length-map plan.nodes (λ n. n.id)

module _ (plan : PlanText) (read : IsReadPlan plan) where
  -- the node of a touch is one of the plan
  pub near : (t : TouchText) → Contains (touches_made plan) t → t.node < length (ids_of_nodes plan.nodes)
  near t made = let less = touch_within plan t made in let same = same_count plan in omega (arith, less, same)

  -- and so is each at or above it
  pub above_near : (node : ℕ) (t : TouchText) → Contains (touches_made plan) t → is_within plan node t.node ≡ true → node < length (ids_of_nodes plan.nodes)
  above_near node t made below =
      let ids = ids_of_nodes plan.nodes in
      path_holds ids read.runnable.tree t.node node (plan_path plan t.node) (path_there ids read.runnable.tree t.node (near t made)) (within_found plan node t.node below)

  module _ (node context : ℕ) (key : KeyValue) where
    abbrev number : ℕ
    number = number_of_key (keys_named plan) key

    unfoldable pub below_found : (t : TouchText) → Contains (touches_made plan) t → is_at plan node context key t ≡ true → IsTouchedBelow plan node context key false
    below_found t made is =
        let all = and_parts (is_within plan node t.node && (t.context == context)) (t.key == number) is in
        let place = and_parts (is_within plan node t.node) (t.context == context) all.0 in
        record {
          touch = t;
          made = made;
          below = place.0;
          context_is = eqb-true t.context context place.1;
          key_is = eqb-true t.key number all.1;
          changes = λ told. absurd cc;
        }

    pub below_told : (told : Bool) → (is : IsTouchedBelow plan node context key told) → is_at plan node context key is.touch ≡ true
    below_told told is =
        let t = is.touch in
        and_from (is_within plan node t.node && (t.context == context)) (t.key == number) (and_from (is_within plan node t.node) (t.context == context) is.below (eq-eqb t.context context is.context_is))
        (eq-eqb t.key number is.key_is)

    unfoldable pub beside_found : (t : TouchText) → Contains (touches_made plan) t → node < length (ids_of_nodes plan.nodes) → is_beside_at plan node context key t ≡ true → IsTouchedBeside plan node context key
    beside_found t made less is =
        let all = and_parts (nodes_beside plan node t.node && (t.context == context)) (t.key == number) is in
        let place = and_parts (nodes_beside plan node t.node) (t.context == context) all.0 in
        record {
          touch = t;
          made = made;
          beside = are_below plan read node t.node less (near t made) (nodes_found plan node t.node place.0);
          context_is = eqb-true t.context context place.1;
          key_is = eqb-true t.key number all.1;
        }

    pub beside_told : (is : IsTouchedBeside plan node context key) → node < length (ids_of_nodes plan.nodes) → is_beside_at plan node context key is.touch ≡ true
    beside_told is less =
        let t = is.touch in
        let same = same_count plan in
        and_from (nodes_beside plan node t.node && (t.context == context)) (t.key == number)
        (and_from (nodes_beside plan node t.node) (t.context == context)
        (nodes_tested plan node t.node (omega (arith, less, same)) (touch_within plan t is.made) (are_beside plan read node t.node is.beside)) (eq-eqb t.context context is.context_is))
        (eq-eqb t.key number is.key_is)

    told_any : (p : TouchText → Bool) (t : TouchText) → Contains (touches_made plan) t → p t ≡ true → list_any p (touches_made plan) ≡ true
    told_any p t made is = list_any-from_Any p (touches_made plan) (made.0, t, made.1, made.2, is)

    either_told : (t u : TouchText) → EitherChanges t u → (t.changes || u.changes) ≡ true
    either_told t u (inl first) = or_left t.changes u.changes first
    either_told t u (inr second) = or_right t.changes u.changes second

    shared_told : (told : Bool) → (one : IsTouchedBelow plan node context key told) → (two : IsTouchedBeside plan node context key) → EitherChanges one.touch two.touch → is_open_at plan node context key one.touch ≡ true
    shared_told told one two either =
        let less = above_near node one.touch one.made one.below in
        let changing : TouchText → Bool = λ u. is_beside_at plan node context key u && (one.touch.changes || u.changes) in
        and_from (is_at plan node context key one.touch) (list_any changing (touches_made plan)) (below_told told one)
        (told_any changing two.touch two.made (and_from (is_beside_at plan node context key two.touch) (one.touch.changes || two.touch.changes) (beside_told two less) (either_told one.touch two.touch either)))

    pub shares_found : (v : Given) → given_in plan node context key ≡ Some v → IsShared plan node context key v
    unfolding given_in below_found beside_found
    shares_found v e =
        let one = given_touch plan (find (is_open_at plan node context key) (touches_made plan)) v e in
        let there = find_is (is_open_at plan node context key) (touches_made plan) one.0 one.1 in
        let changing : TouchText → Bool = λ u. is_beside_at plan node context key u && (one.0.changes || u.changes) in
        let parts = and_parts (is_at plan node context key one.0) (list_any changing (touches_made plan)) there.1 in
        let first = below_found one.0 there.0 parts.0 in
        let some = Any-from_list_any changing (touches_made plan) parts.1 in
        let both = and_parts (is_beside_at plan node context key some.1) (one.0.changes || some.1.changes) some.4 in
        record {
          first = first;
          gives = one.2;
          second = beside_found some.1 (some.0, some.2, some.3) (above_near node one.0 there.0 first.below) both.0;
          one = or_cases one.0.changes some.1.changes both.1;
        }

    shares_some : (told : Bool) → (one : IsTouchedBelow plan node context key told) → (two : IsTouchedBeside plan node context key) → EitherChanges one.touch two.touch → (v : Given) × (given_in plan node context key ≡ Some v)
    unfolding given_in
    shares_some told one two either =
        let first = find_some (is_open_at plan node context key) (touches_made plan) (told_any (is_open_at plan node context key) one.touch one.made (shared_told told one two either)) in
        (touch_gives plan first.0, ap (given_of plan) first.1)

-- ---- touches that agree

-- both compute, or find what is computed, with one word and one text
pub record AreOne (t u : TouchText) : Type 0 where
  pub computing : computes t.acts ≡ true
  pub acts : t.acts ≡ u.acts
  pub text : t.text ≡ u.text

pub agreed : (t u : TouchText) → agree t u ≡ true → AreOne t u
agreed t u is =
    let all = and_parts (computes t.acts && word_eq t.acts u.acts) (bytes_eq t.text u.text) is in
    let more = and_parts (computes t.acts) (word_eq t.acts u.acts) all.0 in
    record { computing = more.0; acts = word_is t.acts u.acts more.1; text = (bytes_decides t.text u.text).0 all.1 }

-- it computes this, or finds it
pub record Gives (plan : PlanText) (t : TouchText) (v : Given) : Type 0 where
  pub acts : computes t.acts ≡ true
  pub value : touch_gives plan t ≡ v

-- both compute one thing, or find it
pub record GiveOne (plan : PlanText) (t u : TouchText) : Type 0 where
  pub first : computes t.acts ≡ true
  pub second : computes u.acts ≡ true
  pub value : touch_gives plan t ≡ touch_gives plan u

-- what may change its place counts as its own word
pub own_word : (plan : PlanText) → IsReadPlan plan → (t : TouchText) → Contains (touches_made plan) t → t.changes ≡ true → t.acts ≡ t.word
own_word plan read t made changing = elim (how_it_acts plan read t made) [
  | inl own ↦ own.1
  | inr still ↦ elim still [
    | inl looks ↦ absurd (true≢false (sym changing ∙ looks.0))
    | inr finds ↦ absurd (true≢false (sym changing ∙ finds.0))
  ]
]

module _ (plan : PlanText) (read : IsReadPlan plan) (shares : SharesValues plan) where
  -- ---- two nodes beside one another

  give_alike : (context : ℕ) (key : KeyValue) (x y : IsTouchedAt plan context key) → AreBelow plan x.touch.node y.touch.node → x.touch.changes ≡ true → GiveOne plan x.touch y.touch
  give_alike context key x y beside changing =
      let alike = shares.alike x.touch y.touch x.made y.made (are_beside plan read x.touch.node y.touch.node beside) changing (x.context_is ∙ sym y.context_is) (x.key_is ∙ sym y.key_is) in
      let same = agreed x.touch y.touch alike in
      record { first = same.computing; second = ap computes (sym same.acts) ∙ same.computing; value = λ i. given_by plan.keep_faults (same.acts i) (same.text i) }

  -- where one of both changes the place that both touch
  pub give_one : (context : ℕ) (key : KeyValue) (x y : IsTouchedAt plan context key) → AreBelow plan x.touch.node y.touch.node → EitherChanges x.touch y.touch → GiveOne plan x.touch y.touch
  give_one context key x y beside (inl first) = give_alike context key x y beside first
  give_one context key x y beside (inr second) =
      let both = give_alike context key y x (turned plan read x.touch.node y.touch.node beside) second in
      record { first = both.second; second = both.first; value = sym both.value }

  -- a node at or below this one, and one beside it
  pub both_give : (node context : ℕ) (key : KeyValue) (told : Bool) → (one : IsTouchedBelow plan node context key told) → (two : IsTouchedBeside plan node context key) → EitherChanges one.touch two.touch
      → GiveOne plan one.touch two.touch
  both_give node context key told one two either =
      give_one context key (below_at plan node context key told one) (beside_at plan node context key two) (also_below plan read node two.touch.node one.touch.node two.beside one.below) either

  -- ---- what a node shares

  module _ (node context : ℕ) (key : KeyValue) (v : Given) (is : IsShared plan node context key v) where
    abbrev pair : Type 0
    pair = GiveOne plan is.first.touch is.second.touch

    both : pair
    both = both_give node context key false is.first is.second is.one

    pub first_gives : Gives plan is.first.touch v
    first_gives = record { acts = both.first; value = is.gives }

    pub second_gives : Gives plan is.second.touch v
    second_gives = record { acts = both.second; value = sym both.value ∙ is.gives }

    -- each node at or below it that changes the place computes this,
    pub changing_gives : (told : Bool) → (one : IsTouchedBelow plan node context key told) → one.touch.changes ≡ true → Gives plan one.touch v
    changing_gives told one changing =
        let give = both_give node context key told one is.second (inl changing) in
        record { acts = give.first; value = give.value ∙ second_gives.value }

    -- ---- which is not computed above it

    -- a node beside it that finds the value there finds what one beside it computes, or what is computed above both
    record IsComputedBeside (from : IsFoundAbove plan is.second.touch) : Type 0 where
      pub two : IsTouchedBeside plan node context key
      pub touch_is : two.touch ≡ from.touch

    beside_or_above : (from : IsFoundAbove plan is.second.touch) → IsComputedBeside from ⊎ IsStoredIn plan (drop 1 (plan_path plan node)) context key
    beside_or_above from =
        let u = is.second in
        let beside = u.beside in
        let found = from.computed in
        elim (above_cases plan read beside.other u.touch.node found.node (near plan read u.touch u.made) beside.other_below found.among) [
          | inl below ↦ inl (record {
            two = record {
              touch = from.touch;
              made = from.made;
              beside = subst (AreBelow plan node) (sym from.node_is) (record {
                container = beside.container;
                child = beside.child;
                other = beside.other;
                child_is = beside.child_is;
                other_is = beside.other_is;
                below = beside.below;
                other_below = below;
                differ = beside.differ;
                concurrent = beside.concurrent;
                other_concurrent = beside.other_concurrent;
              });
              context_is = from.context_is ∙ u.context_is;
              key_is = from.key_is ∙ u.key_is;
            };
            touch_is = refl;
          })
          | inr above ↦
              let less = above_near plan read node is.first.touch is.first.made is.first.below in
              let there = above_both plan read beside.container beside.child beside.other node found.node beside.child_is beside.other_is less beside.below above in
              let here : IsStoredIn plan (drop 1 (plan_path plan node)) u.touch.context from.key = record { node = found.node; among = there; step = found.step; held = found.held; computes = found.computes; kept = found.kept } in
              let same : from.key ≡ key = one_key (keys_named plan) from.key key from.named (key_there plan u.touch u.made key u.key_is) (from.number ∙ u.key_is) in
              inr (subst (IsStoredIn plan (drop 1 (plan_path plan node)) context) same (subst (λ x. IsStoredIn plan (drop 1 (plan_path plan node)) x from.key) u.context_is here))
        ]

    -- so a node beside it changes the place, and computes this
    pub record IsChangedBeside : Type 0 where
      pub two : IsTouchedBeside plan node context key
      pub changes : two.touch.changes ≡ true
      pub value : touch_gives plan two.touch ≡ v

    want_computes : false ≡ true → ⊥
    want_computes is = absurd (cc is)

    pub changed_or_above : IsChangedBeside ⊎ IsStoredIn plan (drop 1 (plan_path plan node)) context key
    changed_or_above = elim (how_it_acts plan read is.second.touch is.second.made) [
      | inl own ↦ inl (record { two = is.second; changes = own.0; value = second_gives.value })
      | inr still ↦ elim still [
        | inl looks ↦ absurd (want_computes (sym (ap computes looks.1) ∙ second_gives.acts))
        | inr finds ↦
            let from = finds.2 in
            elim (beside_or_above from) [
              | inl found ↦ inl (record {
                two = found.two;
                changes = ap (λ (t : TouchText). t.changes) found.touch_is ∙ from.changes;
                value = sym (both_give node context key false is.first found.two (inr (ap (λ (t : TouchText). t.changes) found.touch_is ∙ from.changes))).value ∙ first_gives.value;
              })
              | inr above ↦ inr above
            ]
      ]
    ]

    pub changed_beside : ¬ IsStoredIn plan (drop 1 (plan_path plan node)) context key → IsChangedBeside
    changed_beside none = elim changed_or_above [
      | inl changed ↦ changed
      | inr above ↦ absurd (none above)
    ]

    -- a node at or below it changes the place, or it is computed above
    pub changed_below : IsTouchedBelow plan node context key true ⊎ IsStoredIn plan (drop 1 (plan_path plan node)) context key
    changed_below = elim (how_it_acts plan read is.first.touch is.first.made) [
      | inl own ↦ inl (record {
        touch = is.first.touch;
        made = is.first.made;
        below = is.first.below;
        context_is = is.first.context_is;
        key_is = is.first.key_is;
        changes = λ told. own.0;
      })
      | inr still ↦ elim still [
        | inl looks ↦ absurd (want_computes (sym (ap computes looks.1) ∙ first_gives.acts))
        | inr finds ↦
            let t = is.first in
            let from = finds.2 in
            let found = from.computed in
            elim (above_cases plan read node t.touch.node found.node (near plan read t.touch t.made) t.below found.among) [
              | inl below ↦ inl (record {
                touch = from.touch;
                made = from.made;
                below = subst (λ n. is_within plan node n ≡ true) (sym from.node_is) below;
                context_is = from.context_is ∙ t.context_is;
                key_is = from.key_is ∙ t.key_is;
                changes = λ told. from.changes;
              })
              | inr above ↦
                  let here : IsStoredIn plan (drop 1 (plan_path plan node)) t.touch.context from.key = record { node = found.node; among = above; step = found.step; held = found.held; computes = found.computes; kept = found.kept } in
                  let same : from.key ≡ key = one_key (keys_named plan) from.key key from.named (key_there plan t.touch t.made key t.key_is) (from.number ∙ t.key_is) in
                  inr (subst (IsStoredIn plan (drop 1 (plan_path plan node)) context) same (subst (λ x. IsStoredIn plan (drop 1 (plan_path plan node)) x from.key) t.context_is here))
            ]
      ]
    ]

    -- and all at or below it compute this, or find it
    pub all_give : ¬ IsStoredIn plan (drop 1 (plan_path plan node)) context key → (told : Bool) → (one : IsTouchedBelow plan node context key told) → Gives plan one.touch v
    all_give none told one =
        let other = changed_beside none in
        let give = both_give node context key told one other.two (inr other.changes) in
        record { acts = give.first; value = give.value ∙ other.value }

  -- ---- what it is

  -- it shares what is computed where a node at or below it touches the place, and a node beside it, and one of both changes it
  pub shares_told : (node context : ℕ) (key : KeyValue) (told : Bool) → (one : IsTouchedBelow plan node context key told) → (two : IsTouchedBeside plan node context key) → EitherChanges one.touch two.touch
      → given_in plan node context key ≡ Some (touch_gives plan one.touch)
  shares_told node context key told one two either =
      let some = shares_some plan read node context key told one two either in
      let is = shares_found plan read node context key some.0 some.1 in
      let same : some.0 ≡ touch_gives plan one.touch =
      elim either [
        | inl changing ↦ sym (changing_gives node context key some.0 is told one changing).value
        | inr changing ↦
            sym (first_gives node context key some.0 is).value ∙ (both_give node context key false is.first two (inr changing)).value ∙ sym (both_give node context key told one two (inr changing)).value
      ] in
      some.1 ∙ ap (λ v. Some v) same
