-- Each run that lacks nothing, of a plan whose nodes may compute the same beside one another, tells near what the plain run does; and exactly that where they keep apart.
use Rattle.ext_one_report.proofs.Open.{Open}
use Rattle.std.proofs.Common.{◌≡◌, inl, inr, ◌⊎◌, ℕ, ◌<◌, true, List, [], ◌∷◌, length, drop, get_or, map, Some, None, refl, ap, sym, subst, ◌∙◌, arith, zero-add}
use Rattle.std.specs.Prelude.{Contains, is_some, option_map, slice_get}
use Rattle.std.specs.List.{sum_by}
use Rattle.std.proofs.lemmas.List.{length-map}
use Rattle.std.proofs.lemmas.Option.{slice_get-get_or, slice_get-map, slice_get_within}
use Rattle.ext_history.proofs.Lists.{contains_here, contains_later, contains_none}
use Rattle.ext_history.proofs.Once.{Once, contains-from_map}
use Rattle.ext_model.specs.declared.look.Fault.{Fault}
use Rattle.ext_model.specs.History.{Limits}
use Rattle.ext_lifecycle.specs.FaultTexts.{NodeOutcome, fault_text}
use Rattle.ext_lifecycle.specs.Results.{ResultOf, skipped_result, map_fault}
use Rattle.ext_plan.specs.Plans.{NodeText, PlanText}
use Rattle.ext_plan.specs.PlanCalls.{test_in}
use Rattle.ext_plan.specs.ReadPlans.{IsReadPlan}
use Rattle.ext_one_report.proofs.WholeAlone.{whole_alone}
use Rattle.ext_engine.specs.RunLaws.{HasRun, IsOneEach, nodes_of}
use Rattle.ext_engine.specs.Suites.{SuiteView}
use Rattle.ext_engine.specs.TreeRun.{Ran}
use Rattle.ext_plan_parallel.specs.ParallelRun.{ParallelRun}
use Rattle.ext_plan_parallel.specs.PlanSuites.{suite_of}
use Rattle.ext_plan_plain.specs.PlainRun.{plain_run, skipped_from}
use Rattle.ext_one_report.proofs.Runs.{run_lanes}
use Rattle.ext_one_report.proofs.MatchingWords.{RunView}
use Rattle.ext_one_report.proofs.Covered.{changed_in, touched_in}
use Rattle.ext_one_report.proofs.CoveredPlans.{plans_are_covered}
use Rattle.ext_one_report.specs.Shares.{SharedValues, SharesNothing, shares_in, AreNearResults}
use Rattle.ext_one_report.proofs.Shared.{AreShared, given_in, SharesAbove}
use Rattle.ext_one_report.specs.FullRuns.{LacksNothing}
use Rattle.ext_one_report.proofs.Fills.{computed_at, computed_of, computed_told}
use Rattle.ext_one_report.proofs.FillsCounts.{computed_is, none_filled_apart, of_first, told_first, told_is_total}
use Rattle.ext_one_report.proofs.FullRuns.{setting_in}
use Rattle.ext_one_report.specs.OneReport.{AreNearReports, NearReport, OneReport}
use Rattle.ext_races.specs.MadeSteps.{plan_path}
use Rattle.ext_races.specs.OneReports.{HasNearReport}
use Rattle.ext_one_report.proofs.SharedNodesWords.{AllResultsNear, BeginsNear, EndsNear, IsSharedBasis, AreNearWhere}
use Rattle.ext_one_report.proofs.Bases.{at_places, changed, enough_results, holds_once, its, numbers_left, only, opens_level}
use Rattle.ext_one_report.proofs.ComputedAbove.{IsClosedAbove}
use Rattle.ext_one_report.proofs.LanesAlone.{view_moves}
use Rattle.ext_one_report.proofs.NodeTrees.{its_path}
use Rattle.ext_one_report.proofs.Numbers.{enough_end, enough_opening}
use Rattle.ext_one_report.proofs.Results.{length_results, length_skipped, same_by_places, skipped_at, stands_or_not}
use Rattle.ext_one_report.proofs.Whole.{each_once, is_view, lanes_apart, lanes_in, one_each, run_in_view}
use Rattle.ext_one_report.proofs.SharedApart.{apart_shares_nothing, apart_shares_values, values_are_above}
use Rattle.ext_one_report.proofs.SharedNodesEnds.{nodes_end_near}
use Rattle.ext_one_report.proofs.SharedPlans.{plans_are_shared}

-- no place is open
abbrev none_open : Open
none_open context key = None

module _ (nodes : List NodeText) (suite : SuiteView) (ran : List Ran) (results : List (ResultOf Fault)) (after : List NodeOutcome)
    (tests : (node : ℕ) → suite.is_test node ≡ is_some (test_in (slice_get nodes node))) (one : IsOneEach suite (λ node answer. answer ≡ true) (length nodes) ran results) (Exact : ℕ → Type 0)
    (shares : ℕ → SharedValues) (exact : (node : ℕ) → SharesNothing (shares node) → Exact node) (told : AllResultsNear Exact ran (skipped_from 0 nodes) after) (once : Once (nodes_of ran)) (as_many : computed_of ran ≡ computed_told ran after) where
  itself : (shared : SharedValues) (a b : NodeOutcome) → a ≡ b → AreNearResults shared a b
  itself shared a b same = subst (λ x. AreNearResults shared a x) same (record { same = refl; counts = refl; exact = λ nothing. refl })

  at : (k : ℕ) (here there : NodeOutcome) → k < length nodes → HasRun ran k ⊎ (¬ HasRun ran k) → option_map (map_fault fault_text) (slice_get results k) ≡ Some here → slice_get after k ≡ Some there
      → AreNearResults (shares k) here there
  at k here there within (inl has) is is' =
      let r = contains-from_map (λ (x : Ran). x.result.node) ran k has in
      let t = told.each r.0 r.1 in
      let mine : Some (map_fault fault_text r.0.result) ≡ Some here = sym (ap (λ o. option_map (map_fault fault_text) o) (ap (λ n. slice_get results n) (sym r.2) ∙ one.of_run r.0 r.1)) ∙ is in
      let theirs : Some t.0 ≡ Some there = sym (ap (λ n. slice_get after n) (sym r.2) ∙ t.1) ∙ is' in
      let here_is : map_fault fault_text r.0.result ≡ here = cc mine in
      let there_is : t.0 ≡ there = cc theirs in
      let near : AreNearWhere (Exact k) here there =
      subst (λ n. AreNearWhere (Exact n) here there) r.2
      (subst (λ x. AreNearWhere (Exact r.0.result.node) x there) here_is (subst (λ x. AreNearWhere (Exact r.0.result.node) (map_fault fault_text r.0.result) x) there_is t.2)) in
      record { same = near.same; counts = near.counts; exact = λ nothing. near.exact (exact k nothing) }
  at k here there within (inr none) is is' =
      let mine : Some (skipped_result k (is_some (test_in (slice_get nodes k)))) ≡ Some here = sym (ap (λ o. option_map (map_fault fault_text) o) (one.of_skipped k within none) ∙ ap (λ b. Some (skipped_result k b)) (tests k)) ∙ is in
      let theirs : Some (skipped_result k (is_some (test_in (slice_get nodes k)))) ≡ Some there =
      sym (told.others k none ∙ skipped_at nodes 0 k within ∙ ap (λ n. Some (skipped_result n (is_some (test_in (slice_get nodes k))))) (zero-add k)) ∙ is' in
      itself (shares k) here there (cc (sym mine ∙ theirs))

  -- ---- how many values all nodes computed

  abbrev here : List NodeOutcome
  here = map (map_fault fault_text) results

  long : length here ≡ length nodes
  long = length-map results (map_fault fault_text) ∙ length_results nodes suite ran results one ∙ length_skipped 0 nodes

  long_after : length after ≡ length nodes
  long_after = told.count ∙ length_skipped 0 nodes

  ran_within : (k : ℕ) → HasRun ran k → k < length nodes
  ran_within k has =
      let r = contains-from_map (λ (x : Ran). x.result.node) ran k has in
      let t = told.each r.0 r.1 in
      let inside = slice_get_within after r.0.result.node t.0 t.1 in
      let count = long_after in
      omega (arith, inside, count, r.2)

  here_at : (k : ℕ) (result : ResultOf Fault) → slice_get results k ≡ Some result → computed_at here k ≡ result.computed
  here_at k result is = computed_is here k (map_fault fault_text result) (slice_get-map (map_fault fault_text) results k ∙ ap (λ o. option_map (map_fault fault_text) o) is)

  here_told : (some : List Ran) → ((r : Ran) → Contains some r → Contains ran r) → computed_told some here ≡ computed_of some
  here_told [] all = refl
  here_told (r ∷ some) all =
      let first = here_at r.result.node r.result (one.of_run r (all r (contains_here r some))) in
      let rest = here_told some (λ x there. all x (contains_later r some x there)) in
      let left = told_first r some here in
      let right = of_first r some in
      omega (arith, first, rest, left, right)

  pub totals : sum_by (λ outcome. outcome.computed) (map (map_fault fault_text) results) ≡ sum_by (λ outcome. outcome.computed) after
  totals =
      told_is_total here ran once (λ k has. let inside = ran_within k has in let count = long in omega (arith, inside, count))
      (λ k less none. let count = long in here_at k (skipped_result k (suite.is_test k)) (one.of_skipped k (omega (arith, less, count)) none))
      ∙ (here_told ran (λ r there. there) ∙ (as_many ∙ sym (told_is_total after ran once (λ k has. let inside = ran_within k has in let count = long_after in omega (arith, inside, count))
      (λ k less none. let count = long_after in
      let skipped : slice_get after k ≡ Some (skipped_result k (is_some (test_in (slice_get nodes k)))) =
      told.others k none ∙ skipped_at nodes 0 k (omega (arith, less, count)) ∙ ap (λ n. Some (skipped_result n (is_some (test_in (slice_get nodes k))))) (zero-add k) in
      computed_is after k (skipped_result k (is_some (test_in (slice_get nodes k)))) skipped))))

  pub near_reports : AreNearReports shares (map (map_fault fault_text) results) after
  near_reports = record {
    count = length-map results (map_fault fault_text) ∙ length_results nodes suite ran results one ∙ sym told.count;
    computed = totals;
    near = λ k here there is is'.
        let inside = slice_get_within (map (map_fault fault_text) results) k here is in
        let long = length-map results (map_fault fault_text) in
        let count = length_results nodes suite ran results one in
        let skipped = length_skipped 0 nodes in
        at k here there (omega (arith, inside, long, count, skipped)) (stands_or_not (nodes_of ran) k) (sym (slice_get-map (map_fault fault_text) results k) ∙ is) is';
  }

module _ (plan : PlanText) (lanes : ℕ) (results : List (ResultOf Fault)) (read : IsReadPlan plan) (has : HasNearReport plan) (run : ParallelRun plan lanes results) (full : LacksNothing plan lanes results run)
    (shares : ℕ → Open) (shared : AreShared plan (its plan lanes results read run full) (touched_in plan) (changed_in plan) shares) where
  abbrev mine : RunView
  mine = its plan lanes results read run full

  abbrev cells_changed : ℕ → List ℕ
  cells_changed = changed plan lanes results read run full

  basis : IsSharedBasis plan mine run.locks run.shared.history (touched_in plan) (changed_in plan) cells_changed shares
  basis = record {
    read = read;
    closes = has.closes;
    tree = run.store_is.tree;
    view = is_view plan lanes results run full;
    covered = plans_are_covered plan read;
    shared = shared;
    only = only plan lanes results read run full;
    at_places = λ node context number key named within below. at_places plan lanes results read run full node context number key named below;
    once = holds_once plan lanes results read run full;
    legal = run.shared.legal;
    keeps = ap (λ (l : Limits). l.keep_faults) run.store_is.limits;
  }

  begins : BeginsNear plan mine run.locks run.shared.history (touched_in plan) (changed_in plan) cells_changed shares 0 none_open run.first run.after (enough_opening plan)
  begins =
      let all = run_lanes plan lanes results run in
      let theirs = (whole_alone (setting_in plan mine run.locks) (view_moves plan mine) 16 0 run.first run.ran run.after (run_in_view plan lanes results run full) run.shared.history all).0 in
      record {
        within = all.parts;
        lanes = lanes_in plan lanes results run full;
        apart = lanes_apart plan lanes results run full;
        open_is = λ context key v is. absurd (cc is);
        own = record { own = λ context number place key event at named seen there on. elim (theirs.each place seen) [ inl made ↦ made | inr none ↦ absurd none ] };
        computed = record { computed = λ context number place key v event is named seen there on. absurd (cc is) };
        level = opens_level plan lanes results read run full has.keys (touched_in plan 0);
        near = record {
          lanes = λ context key number v is named. absurd (cc is);
          plain = λ context key v is. absurd (cc is);
          above = λ context key v path is path_is. absurd (cc is);
          numbered = record { beyond = λ context key number is past. absurd (cc is); drawn = refl };
        };
        closed = none_above;
        results = length_skipped 0 plan.nodes;
        fresh = λ context inside within. record { clear = λ number past. refl; none = λ key. refl };
      }
    where
      -- no node is above the root
      none_above : IsClosedAbove plan (drop 1 (plan_path plan 0)) none_open (enough_opening plan).state
      none_above =
          let nothing : IsClosedAbove plan [] none_open (enough_opening plan).state = record {
            none = λ context key computed. refl;
            stands = λ context key computed. let there = computed.among in absurd (contains_none computed.node there);
          } in
          subst (λ l. IsClosedAbove plan l none_open (enough_opening plan).state) (ap (λ l. drop 1 l) (its_path plan read.runnable.tree 0 (0 ∷ []) (refl, refl))) nothing

  ends : EndsNear plan mine run.locks run.shared.history (touched_in plan) (changed_in plan) cells_changed shares 0 none_open run.first run.ran run.after (enough_opening plan) (enough_end plan)
  ends =
      nodes_end_near plan mine run.locks run.shared.history (touched_in plan) (changed_in plan) cells_changed shares 16 (length plan.nodes) 0 (0 ∷ []) none_open run.first run.ran run.after (enough_opening plan) basis (refl, refl)
      (omega arith) (run_in_view plan lanes results run full) begins (numbers_left plan lanes results read run full has.numbers)

  pub told_near : (values : ℕ → SharedValues) → ((node : ℕ) → SharesNothing (values node) → SharesAbove plan shares node) → AreNearReports values (map (map_fault fault_text) results) (plain_run plan)
  told_near values exact =
      subst (AreNearReports values (map (map_fault fault_text) results)) (enough_results plan lanes results read run full has.numbers)
      (near_reports plan.nodes (suite_of plan) run.ran results (enough_end plan).results (λ node. refl) (one_each plan lanes results run full read) (SharesAbove plan shares) values exact ends.told
      (each_once plan lanes results run full read) (none_filled_apart _ none_open _ _ _ _ (λ context key. refl) ends.fills))

-- reports that are near are the same where no node shares a value
pub same_reports : (shares : ℕ → SharedValues) (here there : List NodeOutcome) → ((node : ℕ) → SharesNothing (shares node)) → AreNearReports shares here there → here ≡ there
same_reports shares here there nothing near = same_by_places here there near.count same
  where
    same : (k : ℕ) → k < length here → slice_get here k ≡ slice_get there k
    same k within =
        let count = near.count in
        let none : NodeOutcome = skipped_result k true in
        let one = slice_get-get_or here k none within in
        let other = slice_get-get_or there k none (omega (arith, within, count)) in
        one ∙ ap Some ((near.near k (get_or here k none) (get_or there k none) one other).exact (nothing k)) ∙ sym other

-- ---- plans

pub near_report : NearReport
near_report plan lanes results read has run full =
    told_near plan lanes results read has run full (given_in plan) (plans_are_shared plan (its plan lanes results read run full) read has.alike run.store_is.tree) (shares_in plan)
    (values_are_above plan read has.alike)

-- So plans whose nodes keep apart have one report, as those whose nodes share values have near ones: no node of them shares a value
pub one_report : OneReport
one_report plan lanes results read has run full =
    same_reports (shares_in plan) (map (map_fault fault_text) results) (plain_run plan) (apart_shares_nothing plan read has.apart)
    (near_report plan lanes results read (record { alike = apart_shares_values plan has.apart; closes = has.closes; keys = has.keys; numbers = has.numbers }) run full)
