-- What holds of the nodes of a plan that was read.
use Rattle.std.proofs.Common.{◌≡◌, ℕ, ◌<◌, ◌≤◌, Bool, true, false, ◌&&◌, ◌||◌, List, [], ◌∷◌, ◌++◌, length, map, Option, Some, None, Ok, All, HoldsAt, IfSome, refl, ap, sym, subst, ◌∙◌, arith, inl, inr, append_assoc, append-nil, length-append}
use Rattle.std.specs.Prelude.{not, is_some}
use Rattle.std.proofs.lemmas.Bool.{not-false, eqb-true, cases_eq}
use Rattle.std.proofs.lemmas.List.{get_or_append_left, get_or_push}
use Rattle.std.proofs.lemmas.List.Elements.{All-push}
use Rattle.ext_tree.specs.Trees.{children_of, Id}
use Rattle.ext_plan.specs.ReadPlans.{HasNoContainerCallbacks}
use Rattle.ext_plan.specs.Plans.{StepText, NodeText}
use Rattle.ext_plan.specs.Steps.{callback_limit}
use Rattle.ext_plan.proofs.Lists.{map-push}
use Rattle.ext_plan_reading.specs.declared.fault.PlanFault.TheVariants as faults
use Rattle.ext_plan_reading.specs.CallbackReading.{node_callbacks_at}
use Rattle.ext_plan_reading.specs.Depths.{Outline, least_test_depth}
use Rattle.ext_plan_reading.specs.Faults.{check}
use Rattle.ext_plan_reading.specs.LockReading.{locks_at}
use Rattle.ext_plan_reading.specs.ModeReading.{mode_at}
use Rattle.ext_plan_reading.specs.NodeReading.{Sketch, ids_of, outlines_of, has_children, is_bad_test, test_at, node_at, nodes_after}
use Rattle.ext_plan_reading.specs.StepReading.{steps_at}
use Rattle.ext_plan_reading.proofs.CallbackReading.{FieldFits, callbacks_read}
use Rattle.ext_plan_reading.proofs.Gave.{ok_value, both_gave, passed}
use Rattle.ext_plan_reading.proofs.Lists.{nil_from_length}
use Rattle.ext_plan_reading.proofs.StepReading.{AreFitting, steps_read}

-- ---- one node

-- the callbacks of a kind: their steps fit, and they are not too many
pub record KindFits (labels depth : ℕ) (callbacks : List (List StepText)) : Type 0 where
  pub fit : All (AreFitting labels depth) callbacks
  pub few : length callbacks ≤ callback_limit

-- what the node runs on its own context fits its path, and what it runs on those of tests the shortest of their paths
pub record NodeFits (labels least : ℕ) (node : NodeText) : Type 0 where
  pub before_all : KindFits labels (length node.id) node.before_all
  pub after_all : KindFits labels (length node.id) node.after_all
  pub before_each : KindFits labels least node.before_each
  pub after_each : KindFits labels least node.after_each
  pub test : IfSome node.test (AreFitting labels (length node.id))

-- a node that is no parent and registers no callbacks of one
pub record IsAlone (parent : Bool) (node : NodeText) : Type 0 where
  pub childless : parent ≡ false
  pub callbacks : HasNoContainerCallbacks node

-- the node of a sketch; if it is a test, it is no parent
record IsRead (labels least : ℕ) (parent : Bool) (sketch : Sketch) (node : NodeText) : Type 0 where
  pub id : node.id ≡ sketch.id
  pub is_test : is_some node.test ≡ is_some sketch.test
  pub fits : NodeFits labels least node
  pub alone : IfSome node.test (λ _. IsAlone parent node)

kind_fits : (labels depth : ℕ) (texts : Option (List (List (List ℕ)))) (callbacks : List (List StepText)) → FieldFits labels depth texts callbacks → KindFits labels depth callbacks
kind_fits labels depth texts callbacks fits = record { fit = fits.fit; few = fits.few }

-- the steps of a test that was read, and that there was one to read
record TestIsRead (labels depth : ℕ) (texts : Option (List (List ℕ))) (test : Option (List StepText)) : Type 0 where
  pub fits : IfSome test (AreFitting labels depth)
  pub same : is_some test ≡ is_some texts

test_is_read : (labels : List (List ℕ)) (depth node : ℕ) (texts : Option (List (List ℕ))) (test : Option (List StepText))
    → test_at labels depth node texts ≡ Ok test → TestIsRead (length labels) depth texts test
unfolding test_at
test_is_read labels depth node None test h = rw (← ok_value None test _ refl h) (record { fits = tt; same = refl })
test_is_read labels depth node (Some texts) test h =
    let steps = both_gave (steps_at labels depth node texts) _ _ h in
    rw (← ok_value (Some steps.0) test _ refl steps.2) (record { fits = steps_read labels depth node texts steps.0 steps.1; same = refl })

-- what no bad test has
record MayBeTest (is_parent before_all after_all : Bool) : Type 0 where
  pub parent : is_parent ≡ false
  pub before : before_all ≡ false
  pub after : after_all ≡ false

may_be_test : (test parent before after : Bool) → test ≡ true → not (test && (parent || (before || after))) ≡ true → MayBeTest parent before after
may_be_test true false false false is h = record { parent = refl; before = refl; after = refl }
may_be_test true true before after is h = absurd cc
may_be_test true false true after is h = absurd cc
may_be_test true false false true is h = absurd cc
may_be_test false parent before after is h = absurd cc

pub if_is_test : (test : Option (List StepText)) (P : Type 0) → (is_some test ≡ true → P) → IfSome test (λ _. P)
if_is_test None P p = tt
if_is_test (Some steps) P p = p refl

node_is_read : (labels : List (List ℕ)) (parent : Bool) (least : ℕ) (sketch : Sketch) (node : NodeText) → node_at labels parent least sketch ≡ Ok node → IsRead (length labels) least parent sketch node
unfolding node_at
node_is_read labels parent least sketch node h =
    let number = sketch.table in
    let good = both_gave (check (faults.BadTest number) (not (is_bad_test parent sketch))) _ _ h in
    let mode = both_gave (mode_at number sketch.mode) _ _ good.2 in
    let locks = both_gave (locks_at number sketch.locks) _ _ mode.2 in
    let callbacks = both_gave (node_callbacks_at labels (length sketch.id) least number sketch.callbacks) _ _ locks.2 in
    let test = both_gave (test_at labels (length sketch.id) number sketch.test) _ _ callbacks.2 in
    let read : NodeText = record {
      id = sketch.id;
      mode = mode.0;
      isolated = sketch.isolated;
      locks = locks.0;
      before_all = callbacks.0.before_all;
      after_all = callbacks.0.after_all;
      before_each = callbacks.0.before_each;
      after_each = callbacks.0.after_each;
      test = test.0;
    } in
    let fit = callbacks_read labels (length sketch.id) least number sketch.callbacks callbacks.0 callbacks.1 in
    let of_test = test_is_read labels (length sketch.id) number sketch.test test.0 test.1 in
    let passed_good = passed _ (not (is_bad_test parent sketch)) good.0 good.1 in
    rw (← ok_value read node _ refl test.2) (record {
      id = refl;
      is_test = of_test.same;
      fits = record {
        before_all = kind_fits _ _ _ _ fit.before_all;
        after_all = kind_fits _ _ _ _ fit.after_all;
        before_each = kind_fits _ _ _ _ fit.before_each;
        after_each = kind_fits _ _ _ _ fit.after_each;
        test = of_test.fits;
      };
      alone = if_is_test test.0 (IsAlone parent read) (λ is.
          let may = may_be_test (is_some sketch.test) parent (is_some sketch.callbacks.before_all) (is_some sketch.callbacks.after_all) (sym of_test.same ∙ is) passed_good in
          record { childless = may.parent; callbacks = record { before_all = fit.before_all.none may.before; after_all = fit.after_all.none may.after } });
    })

-- ---- all nodes

-- the nodes by their ids, and by which of them are tests
abbrev pub outline_of_node : NodeText → Outline
outline_of_node node = (node.id, is_some node.test)

abbrev pub outlines_of_nodes : List NodeText → List Outline
outlines_of_nodes nodes = map outline_of_node nodes

-- each test among the nodes has no children, and no callbacks round them
abbrev AreAlone : List Id → List NodeText → Type 0
AreAlone ids nodes = (k : ℕ) → k < length nodes → HoldsAt (λ node. IfSome node.test (λ _. IsAlone (has_children ids k) node)) nodes k

alone_push : (ids : List Id) (nodes : List NodeText) (node : NodeText) → AreAlone ids nodes → IfSome node.test (λ _. IsAlone (has_children ids (length nodes)) node) → AreAlone ids (nodes ++ node ∷ [])
alone_push ids nodes node all last = λ k less d. elim (cases_eq k (length nodes)) [
  | inl same ↦ subst (λ n. IfSome n.test (λ _. IsAlone (has_children ids k) n)) (sym (get_or_push nodes node d k (sym same))) (subst (λ j. IfSome node.test (λ _. IsAlone (has_children ids j) node)) (sym same) last)
  | inr other ↦
      let inside : k < length nodes = omega (arith, less, other, length-append nodes (node ∷ [])) in
      subst (λ n. IfSome n.test (λ _. IsAlone (has_children ids k) n)) (sym (get_or_append_left nodes (node ∷ []) d k inside)) (all k inside d)
]

-- a node fits where its callbacks round tests go no further up than from each test of the plan
abbrev pub FitsIn : ℕ → List Outline → NodeText → Type 0
FitsIn labels outlines node = NodeFits labels (least_test_depth outlines node.id) node

-- the nodes that were read, of those behind `before` and of the sketches
pub record AreRead (labels : ℕ) (all : List Sketch) (before : List NodeText) (sketches : List Sketch) (nodes : List NodeText) : Type 0 where
  pub of_sketches : outlines_of_nodes nodes ≡ outlines_of_nodes before ++ outlines_of sketches
  pub fit : All (FitsIn labels (outlines_of all)) nodes
  pub alone : AreAlone (ids_of all) nodes

same_outline : (node : NodeText) (sketch : Sketch) → node.id ≡ sketch.id → is_some node.test ≡ is_some sketch.test → outline_of_node node ≡ (sketch.id, is_some sketch.test)
same_outline node sketch id test = λ i. (id i, test i)

pub nodes_are_read : (labels : List (List ℕ)) (all : List Sketch) (before : List NodeText) (sketches : List Sketch) (nodes : List NodeText)
    → All (FitsIn (length labels) (outlines_of all)) before → AreAlone (ids_of all) before → nodes_after labels all before sketches ≡ Ok nodes → AreRead (length labels) all before sketches nodes
unfolding nodes_after
nodes_are_read labels all before [] nodes fit alone h =
    rw (← ok_value before nodes _ refl h) (record { of_sketches = sym (append-nil (outlines_of_nodes before)); fit = fit; alone = alone })
nodes_are_read labels all before (sketch ∷ more) nodes fit alone h =
    let least = least_test_depth (outlines_of all) sketch.id in
    let parent = has_children (ids_of all) (length before) in
    let node = both_gave (node_at labels parent least sketch) _ _ h in
    let read = node_is_read labels parent least sketch node.0 node.1 in
    let fits : FitsIn (length labels) (outlines_of all) node.0 = subst (λ id. NodeFits (length labels) (least_test_depth (outlines_of all) id) node.0) (sym read.id) read.fits in
    let pushed_fit = All-push (FitsIn (length labels) (outlines_of all)) before node.0 fit fits in
    let rest = nodes_are_read labels all (before ++ node.0 ∷ []) more nodes pushed_fit (alone_push (ids_of all) before node.0 alone read.alone) node.2 in
    let outline = same_outline node.0 sketch read.id read.is_test in
    let pushed = map-push outline_of_node before node.0 ∙ ap (λ o. outlines_of_nodes before ++ o ∷ []) outline in
    record {
      of_sketches = rest.of_sketches ∙ ap (λ xs. xs ++ outlines_of more) pushed ∙ append_assoc (outlines_of_nodes before) ((sketch.id, is_some sketch.test) ∷ []) (outlines_of more);
      fit = rest.fit;
      alone = rest.alone;
    }

-- a node without children has none in its list
pub childless : (ids : List Id) (node : ℕ) → has_children ids node ≡ false → children_of ids node ≡ []
childless ids node h = nil_from_length _ (eqb-true (length (children_of ids node)) 0 (not-false _ h))
