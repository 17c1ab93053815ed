-- What a run of a plan on several lanes and its plain run begin with, and what both stand on.
use Rattle.std.proofs.Common.{◌≡◌, ℕ, ◌<◌, ◌≤◌, true, List, [], ◌∷◌, length, refl, ap, sym, subst, ◌∙◌, arith}
use mathlib.Core.List.{IsPrefix}
use Rattle.ext_model.specs.declared.look.Fault.{Fault}
use Rattle.ext_model.specs.History.{History, Limits}
use Rattle.ext_model.specs.Sizes.{most_numbers}
use Rattle.ext_tree.specs.Keys.{KeyValue}
use Rattle.ext_lifecycle.specs.Results.{ResultOf}
use Rattle.ext_plan.specs.Plans.{PlanText}
use Rattle.ext_plan.specs.ReadPlans.{IsReadPlan}
use Rattle.ext_one_report.specs.Changing.{IsBelow, NodesChangeOnly}
use Rattle.ext_engine.specs.Meeting.{first_seen}
use Rattle.ext_plan_parallel.specs.ParallelRun.{ParallelRun}
use Rattle.ext_plan_plain.specs.PlainRun.{RunState, plain_run}
use Rattle.ext_plan_plain.specs.ValueStates.{value_opening}
use Rattle.ext_one_report.proofs.StoredRuns.{stand_once, unnamed_keep_nothing}
use Rattle.ext_races.specs.Touches.{keys_named, numbers_drawn}
use Rattle.ext_one_report.proofs.MatchingWords.{HasNumberIn, Places, RunView, cell_of}
use Rattle.ext_one_report.proofs.Matching.{first_is_numbered, first_matches}
use Rattle.ext_one_report.proofs.Covered.{cells, changed_in}
use Rattle.ext_one_report.proofs.CountNodes.{draws_few}
use Rattle.ext_one_report.proofs.CoveredCells.{cells_are_at_places, cells_are_changed}
use Rattle.ext_one_report.proofs.OfPlanStates.{opens_of_plan}
use Rattle.ext_one_report.specs.FullRuns.{LacksNothing}
use Rattle.ext_one_report.proofs.FullRuns.{setting_in}
use Rattle.ext_one_report.proofs.Levels.{AreLevel, HoldsOnce}
use Rattle.ext_one_report.proofs.MoreNumbers.{without_last_number}
use Rattle.ext_one_report.proofs.Numbers.{enough_end, enough_numbers, enough_opening}
use Rattle.ext_one_report.proofs.Whole.{changes_only, is_view, nothing_before, view}

module _ (plan : PlanText) (lanes : ℕ) (results : List (ResultOf Fault)) (read : IsReadPlan plan) (run : ParallelRun plan lanes results) (full : LacksNothing plan lanes results run) where
  abbrev pub its : RunView
  its = view plan lanes results run full

  pub holds_once : (g : History) → IsPrefix g run.shared.history → HoldsOnce its g
  holds_once g part = record {
    once = stand_once plan lanes results run g part;
    unnamed = λ context number within below none kept there. let is = unnamed_keep_nothing plan lanes results run g part context number below none in cc (sym is ∙ there);
  }

  -- the cells that nodes change
  abbrev pub changed : ℕ → List ℕ
  changed = cells plan run.store run.numbered.numbering

  pub only : NodesChangeOnly (setting_in plan its run.locks) changed
  only = changes_only plan lanes results run full changed (cells_are_changed plan run.store run.locks run.numbered.numbering read run.store_is.tree)

  pub at_places : (node context number : ℕ) (key : KeyValue) → HasNumberIn its key number → IsBelow (setting_in plan its run.locks) changed node (cell_of its number context) → changed_in plan node context key ≡ true
  at_places node context number key named below =
      cells_are_at_places (setting_in plan its run.locks) plan run.store run.numbered.numbering node context number key read run.store_is.tree refl (is_view plan lanes results run full).places named below

  -- before the run the same stands at any places: nothing
  pub opens_level : length (keys_named plan) ≤ plan.key_places → (places : Places) → AreLevel plan its places (first_seen run.first.first) (value_opening plan.keep_faults plan.key_places (enough_numbers plan.size))
  opens_level few places =
      subst (λ h. AreLevel plan its places h (value_opening plan.keep_faults plan.key_places (enough_numbers plan.size))) (sym (nothing_before plan lanes results run full)) (record {
        matches = first_matches its places plan.keep_faults plan.key_places (enough_numbers plan.size);
        numbered = first_is_numbered places plan.keep_faults plan.key_places (enough_numbers plan.size);
        memory = refl;
        keeps = ap (λ (l : Limits). l.keep_faults) run.store_is.limits;
        gave = record {
          values = refl;
          keys = record { different = λ i j d below inside. absurd (omega (arith, below, inside)); few = omega arith };
          named = λ i d within. absurd (omega (arith, within));
          room = few;
          limit = refl;
        };
        of_plan = opens_of_plan plan plan.keep_faults plan.key_places (enough_numbers plan.size);
      })

  -- at the end of the plain run with one number more there is one left,
  pub numbers_left : numbers_drawn plan ≤ most_numbers plan.size → (enough_end plan).state.store.drawn < enough_numbers plan.size
  numbers_left all = let most = draws_few plan read.runnable.tree in omega (arith, most, all)

  -- and it reports what the plain run does
  pub enough_results : numbers_drawn plan ≤ most_numbers plan.size → (enough_end plan).results ≡ plain_run plan
  enough_results all =
      let most = draws_few plan read.runnable.tree in
      sym (ap (λ (r : RunState). r.results) (without_last_number (most_numbers plan.size) plan (length plan.nodes) (0 ∷ []) (enough_opening plan) refl (omega (arith, most, all))))
