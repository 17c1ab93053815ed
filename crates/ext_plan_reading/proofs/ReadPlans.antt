-- What holds of plans that were read, from the definition of reading.
use Rattle.std.proofs.Common.{◌≡◌, ◌<◌, ◌≤◌, ℕ, true, false, get_or, map, List, [], length, Option, Some, None, Result, Ok, Err, IfOk, All, IfSome, arith, refl, ap, sym, subst, ◌∙◌}
use Rattle.std.specs.Prelude.{nat_le, codes, is_some}
use Rattle.std.proofs.lemmas.Simd.{map-map}
use Rattle.std.proofs.lemmas.Bool.{leb-true}
use Rattle.std.proofs.lemmas.List.{get_or-map, length-map}
use Rattle.std.proofs.lemmas.List.Elements.{All-nil}
use Rattle.toml.specs.Data.{Members, get_member, as_bool, as_table}
use Rattle.ext_lifecycle.specs.declared.call.Kind.{Kind}
use Rattle.ext_lifecycle.specs.declared.call.Kind.TheVariants as kinds
use Rattle.ext_model.specs.Sizes.{most_contexts}
use Rattle.ext_model.specs.declared.size.Size.{Size}
use Rattle.ext_tree.specs.Decided.{is_tree}
use Rattle.ext_tree.specs.Trees.{children_of, Id, IsTree}
use Rattle.ext_plan.specs.declared.plan.Plan.{Plan}
use Rattle.ext_plan.specs.Plans.{StepText, NodeText, PlanText, callbacks_of, plan_view}
use Rattle.ext_plan.specs.Steps.{height, step_limit, callback_limit}
use Rattle.ext_plan.specs.StoreKeys.{different_keys}
use Rattle.ext_plan.specs.Labels.{labels_of}
use Rattle.ext_plan.specs.ReadPlans.{IsReadPlan, StepsStayBelowRoot, HasNoContainerCallbacks, NamesLabelBelow, IsAtOrBelow, ids_of_nodes, OfAllSteps, StaysOnOwnPath, StaysOnPathOf, StayOnPath}
use Rattle.ext_plan.specs.LockNames.{lock_names, lock_limit}
use Rattle.ext_plan_reading.specs.declared.fault.PlanFault.{PlanFault}
use Rattle.ext_plan_reading.specs.declared.fault.PlanFault.TheVariants as faults
use Rattle.ext_plan_reading.specs.declared.fault.PlanPart.TheVariants as plan_parts
use Rattle.ext_plan_reading.specs.Depths.{Outline, least_test_depth}
use Rattle.ext_plan_reading.specs.Faults.{check, Gives}
use Rattle.ext_plan_reading.specs.Fields.{has_only, array_of, places_in, field_or}
use Rattle.ext_plan_reading.specs.KeyReading.{keys_after}
use Rattle.ext_plan_reading.specs.NodeReading.{Sketch, ids_of, outlines_of, has_children, sketches_after, with_repetitions, nodes_after, nodes_of_tables}
use Rattle.ext_plan_reading.specs.Reading.{top_fields, plan_of, plan_of_tables}
use Rattle.ext_plan_reading.proofs.ChildDepths.{ids_in-sketches}
use Rattle.ext_plan_reading.proofs.Gave.{ok_value, both_gave, passed}
use Rattle.ext_plan_reading.proofs.KeyPlaces.{are_blocks}
use Rattle.ext_plan_reading.proofs.KeyReading.{keys_are_own, no_keys}
use Rattle.ext_plan_reading.proofs.NodeReading.{NodeFits, IsAlone, KindFits, FitsIn, outline_of_node, outlines_of_nodes, if_is_test, nodes_are_read, childless}
use Rattle.ext_plan_reading.proofs.StepReading.{AreFitting}
use Rattle.ext_plan_reading.proofs.TestDepths.{least_is_below}
use Rattle.ext_plan_reading.proofs.TreeTests.{tree_within}

-- ---- from what was read of one node

of_each_kind : (P : List StepText → Type 0) (labels least : ℕ) (node : NodeText) → NodeFits labels least node → ((depth : ℕ) (steps : List StepText) → AreFitting labels depth steps → P steps)
    → (kind : Kind) → All P (callbacks_of kind node)
of_each_kind P labels least node fits f kinds.BeforeAll = λ k d less. f _ _ (fits.before_all.fit k d less)
of_each_kind P labels least node fits f kinds.BeforeEach = λ k d less. f _ _ (fits.before_each.fit k d less)
of_each_kind P labels least node fits f kinds.Test = All-nil P
of_each_kind P labels least node fits f kinds.AfterEach = λ k d less. f _ _ (fits.after_each.fit k d less)
of_each_kind P labels least node fits f kinds.AfterAll = λ k d less. f _ _ (fits.after_all.fit k d less)

in_test : (test : Option (List StepText)) (P Q : List StepText → Type 0) → ((steps : List StepText) → P steps → Q steps) → IfSome test P → IfSome test Q
in_test None P Q f h = tt
in_test (Some steps) P Q f h = f steps h

of_all_steps : (P : List StepText → Type 0) (labels least : ℕ) (node : NodeText) → NodeFits labels least node → ((depth : ℕ) (steps : List StepText) → AreFitting labels depth steps → P steps) → OfAllSteps P node
of_all_steps P labels least node fits f = record {
  callbacks = of_each_kind P labels least node fits f;
  test = in_test node.test (AreFitting labels (length node.id)) P (f (length node.id)) fits.test;
}

few_of_kind : (labels least : ℕ) (node : NodeText) → NodeFits labels least node → (kind : Kind) → length (callbacks_of kind node) ≤ callback_limit
few_of_kind labels least node fits kinds.BeforeAll = fits.before_all.few
few_of_kind labels least node fits kinds.BeforeEach = fits.before_each.few
few_of_kind labels least node fits kinds.Test = omega arith
few_of_kind labels least node fits kinds.AfterEach = fits.after_each.few
few_of_kind labels least node fits kinds.AfterAll = fits.after_all.few

-- ---- how far up the steps of one node go

on_longer : (labels depth longer : ℕ) (steps : List StepText) → depth ≤ longer → AreFitting labels depth steps → StayOnPath longer steps
on_longer labels depth longer steps more fit = λ k d less. let stays : height (get_or steps k d) < depth = fit.stays k d less in omega (arith, stays, more)

kind_stays : (labels depth longer : ℕ) (callbacks : List (List StepText)) → depth ≤ longer → KindFits labels depth callbacks → All (StayOnPath longer) callbacks
kind_stays labels depth longer callbacks more fits = λ k d less. on_longer labels depth longer _ more (fits.fit k d less)

on_own_path : (labels least : ℕ) (node : NodeText) → NodeFits labels least node → StaysOnOwnPath node
on_own_path labels least node fits = record {
  test = in_test node.test (AreFitting labels (length node.id)) (StayOnPath (length node.id)) (λ steps fit. fit.stays) fits.test;
  before_all = kind_stays labels (length node.id) (length node.id) node.before_all (omega arith) fits.before_all;
  after_all = kind_stays labels (length node.id) (length node.id) node.after_all (omega arith) fits.after_all;
}

-- the test stands at index `k` among the nodes
module _ (labels : ℕ) (nodes : List NodeText) (k : ℕ) (d : NodeText) (less : k < length nodes) (is_test : is_some (get_or nodes k d).test ≡ true) where
  shorter : (above : Id) → IsAtOrBelow above (get_or nodes k d).id → least_test_depth (outlines_of_nodes nodes) above ≤ length (get_or nodes k d).id
  shorter above below =
      let within : k < length (outlines_of_nodes nodes) = rw (length-map nodes outline_of_node) less in
      let found : get_or (outlines_of_nodes nodes) k (outline_of_node d) ≡ outline_of_node (get_or nodes k d) = get_or-map outline_of_node nodes k d (outline_of_node d) less in
      subst (λ (o : Outline). o.1 ≡ true → IsAtOrBelow above o.0 → least_test_depth (outlines_of_nodes nodes) above ≤ length o.0) found
      (least_is_below (outlines_of_nodes nodes) above k (outline_of_node d) within) is_test below

  on_path_of : (node : NodeText) → FitsIn labels (outlines_of_nodes nodes) node → StaysOnPathOf (get_or nodes k d) node
  on_path_of node fits = record {
    before_each = λ below. kind_stays labels _ (length (get_or nodes k d).id) node.before_each (shorter node.id below) fits.before_each;
    after_each = λ below. kind_stays labels _ (length (get_or nodes k d).id) node.after_each (shorter node.id below) fits.after_each;
  }

stays_below_root : (labels : ℕ) (plan : PlanText) → All (FitsIn labels (outlines_of_nodes plan.nodes)) plan.nodes → StepsStayBelowRoot plan
stays_below_root labels plan fit = record {
  own = λ k d less. on_own_path _ _ _ (fit k d less);
  each = λ k d less. if_is_test (get_or plan.nodes k d).test (All (StaysOnPathOf (get_or plan.nodes k d)) plan.nodes) (λ is j e less_too. on_path_of labels plan.nodes k d less is _ (fit j e less_too));
}

-- ---- from what was read of all nodes

ids_in-nodes : (nodes : List NodeText) → map (λ o. o.0) (outlines_of_nodes nodes) ≡ ids_of_nodes nodes
ids_in-nodes nodes = map-map (λ (o : Outline). o.0) outline_of_node nodes

same_ids : (nodes : List NodeText) (all : List Sketch) → outlines_of_nodes nodes ≡ outlines_of all → ids_of_nodes nodes ≡ ids_of all
same_ids nodes all same = sym (ids_in-nodes nodes) ∙ ap (map (λ o. o.0)) same ∙ ids_in-sketches all

-- nodes that were read have the ids of their sketches
pub ids_are_kept : (labels : List (List ℕ)) (all : List Sketch) (nodes : List NodeText) → nodes_after labels all [] all ≡ Ok nodes → ids_of_nodes nodes ≡ ids_of all
ids_are_kept labels all nodes h =
    let read = nodes_are_read labels all [] all nodes (All-nil (FitsIn (length labels) (outlines_of all))) (λ k less d. absurd (omega (arith, less))) h in
    same_ids nodes all read.of_sketches

is_read : (size : Size) (top : Members) (plan : PlanText) → plan_of size top ≡ Ok plan → IsReadPlan plan
unfolding plan_of plan_of_tables nodes_of_tables
is_read size top plan h =
    let fields = both_gave (check (faults.UnknownField plan_parts.Whole) (has_only top_fields top)) _ _ h in
    let keep_faults = both_gave (field_or false as_bool (faults.BadField plan_parts.Whole) (get_member (codes "keep_faults") top)) _ _ fields.2 in
    let key_places = both_gave (field_or 64 places_in (faults.BadField plan_parts.Whole) (get_member (codes "keys") top)) _ _ keep_faults.2 in
    let key_tables = both_gave (field_or [] (array_of as_table) (faults.BadField plan_parts.Whole) (get_member (codes "key") top)) _ _ key_places.2 in
    let node_tables = both_gave (field_or [] (array_of as_table) (faults.BadField plan_parts.Whole) (get_member (codes "node") top)) _ _ key_tables.2 in
    let keys = both_gave (keys_after [] key_tables.0) _ _ node_tables.2 in
    let nodes = both_gave (nodes_of_tables size (labels_of keys.0) node_tables.0) _ _ keys.2 in
    let sketches = both_gave (sketches_after [] node_tables.0) _ _ nodes.1 in
    let all = with_repetitions sketches.0 in
    let checked = both_gave (check faults.BadTree (is_tree (most_contexts size) (ids_of all))) _ _ sketches.2 in
    let tree = tree_within size (ids_of all) (passed _ (is_tree (most_contexts size) (ids_of all)) checked.0 checked.1) in
    let few = both_gave (check faults.TooMany (nat_le (length (different_keys keys.0)) key_places.0)) _ _ nodes.2 in
    let few_locks = both_gave (check faults.TooMany (nat_le (length (lock_names nodes.0)) lock_limit)) _ _ few.2 in
    let blocks = are_blocks (faults.BadField plan_parts.Whole) (get_member (codes "keys") top) key_places.0 key_places.1 in
    let own = keys_are_own [] key_tables.0 keys.0 keys.1 no_keys in
    let read = nodes_are_read (labels_of keys.0) all [] all nodes.0 (All-nil (FitsIn (length (labels_of keys.0)) (outlines_of all))) (λ k less d. absurd (omega (arith, less))) checked.2 in
    let count : length (labels_of keys.0) ≡ length keys.0 = length-map keys.0 (λ k. k.label) in
    let fit : All (FitsIn (length keys.0) (outlines_of_nodes nodes.0)) nodes.0 =
    subst (λ outlines. All (FitsIn (length keys.0) outlines) nodes.0) (sym read.of_sketches) (subst (λ n. All (FitsIn n (outlines_of all)) nodes.0) count read.fit) in
    let ids = same_ids nodes.0 all read.of_sketches in
    rw (← ok_value (record { keep_faults = keep_faults.0; key_places = key_places.0; size = size; keys = keys.0; nodes = nodes.0 }) plan _ refl few_locks.2) (record {
      runnable = record {
        tree = subst IsTree (sym ids) tree.tree;
        tests = λ k less d. in_test _ (λ _. IsAlone (has_children (ids_of all) k) (get_or nodes.0 k d)) (λ _. children_of (ids_of_nodes nodes.0) k ≡ []) (λ steps alone. subst (λ ids. children_of ids k ≡ []) (sym ids) (childless (ids_of all) k alone.childless)) (read.alone k less d);
        places = record { whole = blocks.whole; some = blocks.some; few = blocks.few };
        locks = leb-true _ _ (passed _ (nat_le (length (lock_names nodes.0)) lock_limit) few_locks.0 few_locks.1);
        namespaces = own.parts;
        short = λ k d less. of_all_steps (λ steps. length steps ≤ step_limit) _ _ _ (fit k d less) (λ depth steps fits. fits.short);
        few = λ k d less kind. few_of_kind _ _ _ (fit k d less) kind;
      };
      nodes = omega (arith, tree.few, length-map nodes.0 (λ n. n.id), ap length ids);
      containers = λ k d less. in_test _ (λ _. IsAlone (has_children (ids_of all) k) (get_or nodes.0 k d)) (λ _. HasNoContainerCallbacks (get_or nodes.0 k d)) (λ steps alone. alone.callbacks) (read.alone k less d);
      different = leb-true _ _ (passed _ (nat_le (length (different_keys keys.0)) key_places.0) few.0 few.1);
      labels = record { words = own.words; different = own.different };
      keys = λ k d less. of_all_steps (All (NamesLabelBelow (length keys.0))) _ _ _ (fit k d less) (λ depth steps fits. fits.names);
      up = stays_below_root (length keys.0) (record { keep_faults = keep_faults.0; key_places = key_places.0; size = size; keys = keys.0; nodes = nodes.0 }) fit;
    })

-- it holds of what a function returned that reads
pub if_read : (size : Size) (read : Result Plan PlanFault) (top : Members) → Gives plan_view read (plan_of size top) → IfOk read (λ p. IsReadPlan (plan_view p))
if_read size (Ok p) top h = is_read size top (plan_view p) h
if_read size (Err e) top h = tt
