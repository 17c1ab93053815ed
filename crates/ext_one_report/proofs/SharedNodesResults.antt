-- The results of nodes that ran, as a plain run tells them where nodes share values: of none, of some and then others, and of a node and those below it.
use Rattle.std.proofs.Common.{◌≡◌, ℕ, ◌+◌, ◌<◌, inl, inr, Bool, List, [], ◌∷◌, ◌++◌, length, refl, ap, sym, subst, ◌∙◌, arith}
use Rattle.std.specs.Prelude.{Option, Some, slice_get}
use Rattle.std.proofs.lemmas.List.Elements.{Contains-append_cases}
use Rattle.ext_history.proofs.Lists.{contains_cons, contains_here, contains_later, contains_none}
use Rattle.ext_model.specs.declared.look.Fault.{Fault}
use Rattle.ext_lifecycle.specs.declared.outcome.Outcome.{Outcome}
use Rattle.ext_lifecycle.specs.FaultTexts.{NodeOutcome, fault_text}
use Rattle.ext_lifecycle.specs.Lifecycle.{computed_in, endings_of, found_in}
use Rattle.ext_lifecycle.specs.Results.{result_of, map_fault}
use Rattle.ext_engine.specs.RunLaws.{HasRun, nodes_of}
use Rattle.ext_engine.specs.TreeRun.{Ran}
use Rattle.ext_plan_plain.specs.NodeCalls.{CallsEnd}
use Rattle.ext_plan_plain.specs.PlainRun.{outcome_of, with_result}
use Rattle.ext_plan_plain.proofs.Reached.{set-elsewhere}
use Rattle.ext_one_report.proofs.SharedNodesWords.{AllResultsNear, AreNearWhere}
use Rattle.ext_one_report.proofs.ResultLists.{ran_as, ran_first, ran_second, set-long, set-there}

pub near_none : (Exact : ℕ → Type 0) (results : List NodeOutcome) → AllResultsNear Exact [] results results
near_none Exact results = record { count = refl; each = λ one there. absurd (contains_none one there); others = λ node none. refl }

-- first these, and then others
pub near_then : (Exact : ℕ → Type 0) (xs ys : List Ran) (a b c : List NodeOutcome) → ((node : ℕ) → HasRun xs node → HasRun ys node → ⊥) → AllResultsNear Exact xs a b → AllResultsNear Exact ys b c → AllResultsNear Exact (xs ++ ys) a c
near_then Exact xs ys a b c apart one two = record {
  count = two.count ∙ one.count;
  each = λ r there. elim (Contains-append_cases xs ys r there) [
    | inl left ↦ let told = one.each r left in (told.0, two.others r.result.node (λ has. apart r.result.node (ran_as xs r left) has) ∙ told.1, told.2)
    | inr right ↦ two.each r right
  ];
  others = λ node none. two.others node (λ has. none (ran_second xs ys node has)) ∙ one.others node (λ has. none (ran_first xs ys node has));
}

-- those below a node, and then the node
pub near_own : (Exact : ℕ → Type 0) (own : Ran) (below : List Ran) (a b : List NodeOutcome) (outcome : NodeOutcome) → AreNearWhere (Exact own.result.node) (map_fault fault_text own.result) outcome → own.result.node < length a
    → (HasRun below own.result.node → ⊥) → AllResultsNear Exact below a b → AllResultsNear Exact (own ∷ below) a (with_result outcome b)
near_own Exact own below a b outcome told within apart under =
    let at : own.result.node ≡ outcome.node = ap (λ (o : NodeOutcome). o.node) told.same in
    let here : slice_get (with_result outcome b) own.result.node ≡ Some outcome =
    subst (λ n. slice_get (with_result outcome b) n ≡ Some outcome) (sym at) (set-there b outcome.node outcome (let e = under.count in omega (arith, at, within, e))) in
    record {
      count = set-long b outcome.node outcome ∙ under.count;
      each = λ r there. elim (contains_cons own below r there) [
        | inl same ↦
            subst (λ (x : Ran). (one : NodeOutcome) × (slice_get (with_result outcome b) x.result.node ≡ Some one) × AreNearWhere (Exact x.result.node) (map_fault fault_text x.result) one) same (outcome, here, told)
        | inr later ↦
            let one = under.each r later in (
              one.0,
              set-elsewhere b outcome.node r.result.node outcome (λ same. apart (subst (λ n. HasRun below n) (same ∙ sym at) (ran_as below r later))) ∙ one.1,
              one.2,
            )
      ];
      others = λ node none.
          set-elsewhere b outcome.node node outcome (λ same. none (subst (λ n. HasRun (own ∷ below) n) (sym (same ∙ sym at)) (contains_here own.result.node (nodes_of below))))
          ∙ under.others node (λ has. none (contains_later own.result.node (nodes_of below) node has));
    }

-- ---- one node

-- as many values were computed in both runs, and as many found
pub record AreCounted (outcomes : List Outcome) (end : CallsEnd) : Type 0 where
  pub computed : computed_in outcomes ≡ end.computed
  pub found : found_in outcomes ≡ end.found

-- where the same is told with the counts of the lanes, near the same is told
pub told_as : (Exact : Type 0) (node : ℕ) (is_test : Bool) (outcomes : List Outcome) (faults : List (Option Fault)) (end : CallsEnd) (closes : List (Option (List ℕ)))
    → map_fault fault_text (result_of node is_test (endings_of outcomes) (computed_in outcomes) (found_in outcomes) faults)
    ≡ outcome_of node is_test (record end { computed = computed_in outcomes; found = found_in outcomes }) closes
    → computed_in outcomes + found_in outcomes ≡ end.computed + end.found → (Exact → AreCounted outcomes end)
    → AreNearWhere Exact (map_fault fault_text (result_of node is_test (endings_of outcomes) (computed_in outcomes) (found_in outcomes) faults)) (outcome_of node is_test end closes)
told_as Exact node is_test outcomes faults end closes told counts counted = record {
  same = ap (λ (o : NodeOutcome). record o { computed = 0; found = 0 }) told;
  counts = counts;
  exact = λ is. let are = counted is in told ∙ (λ i. outcome_of node is_test (record end { computed = are.computed i; found = are.found i }) closes);
}
