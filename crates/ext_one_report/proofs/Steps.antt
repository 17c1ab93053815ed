-- A step of a plan changes the cell of its key and its context, and no other: so where these cells are such, it makes events on such cells alone. Each claim that it makes ends.
use Rattle.std.proofs.Common.{◌≡◌, inl, inr, ℕ, List, [], ◌∷◌, Contains, Some, drop, length, refl, ap, sym, subst, ◌∙◌}
use Rattle.std.specs.Prelude.{codes, slice_get}
use mathlib.Core.List.{IsPrefix}
use base.Growing.{prefix_trans}
use Rattle.std.proofs.lemmas.Bool.{cases_lt}
use Rattle.ext_history.specs.Histories.{seen_by}
use Rattle.ext_history.proofs.Lists.{bools, contains_cons, contains_here, contains_later, contains_none}
use Rattle.ext_lifecycle.specs.declared.outcome.Outcome.{Outcome}
use Rattle.ext_lifecycle.specs.Endings.{is_successful}
use Rattle.ext_lifecycle.specs.FaultTexts.{VerdictText}
use Rattle.ext_lifecycle.specs.Lifecycle.{ending_of}
use Rattle.ext_model.specs.Events.{place_of}
use Rattle.ext_model.specs.History.{History}
use Rattle.ext_plan.specs.declared.word.Word.TheVariants as words
use Rattle.ext_plan.specs.Plans.{KeyText, StepKeyText, StepText, keyed, fail, abort}
use Rattle.ext_plan.specs.StepCalls.{CallText, call_of, start_of}
use Rattle.ext_plan.specs.StoreKeys.{key_of_step}
use Rattle.ext_plan.specs.Values.{ValueText}
use Rattle.ext_plan.specs.Verdicts.{SeenText}
use Rattle.ext_store.specs.Stores.{StoreView, cell_in}
use Rattle.ext_tree.specs.Keys.{IsKeyNumber, KeepsKeys, KnownPlace}
use Rattle.ext_tree.proofs.KeyPlacing.{keeps_both, number_stays}
use Rattle.ext_engine.specs.Order.{IsMadeBy, LaneGoesOn}
use Rattle.ext_one_report.proofs.EndedClaims.{EndsClaims, ends_then}
use Rattle.ext_one_report.proofs.Events.{in_part}
use Rattle.ext_one_report.proofs.StoreCalls.{Only, gets_only, keep_fails, keeps_only, only_ends, only_makes, only_same, puts_only, removes_only, waits_only}
use Rattle.ext_plan_parallel.specs.StoreCalls.{PlanLane}
use Rattle.ext_plan_parallel.specs.StoreSteps.{PutsKept, StepComputes, StepFails, StepLooks, StepPuts, StepRemoves, StepRun, StepsRun}
use Rattle.ext_one_report.proofs.PlanCells.{IsCellOf, changed_by}
use Rattle.ext_one_report.proofs.Going.{steps_go}
use Rattle.ext_one_report.proofs.WordCases.{finds_none}

module _ (store : StoreView) (keys : List KeyText) (numbering : List KnownPlace) (Such : ℕ → Type 0) where
  -- between these two states the lane made events on such cells alone, and ended its claims
  pub record On (a b : PlanLane) : Type 0 where
    pub number : b.cells.view.number ≡ a.cells.view.number
    pub begins : IsPrefix (seen_by a.cells.view) (seen_by b.cells.view)
    pub each : (place cell : ℕ) → (made : IsMadeBy (seen_by b.cells.view) place a b) → place_of made.event.act ≡ Some cell → Such cell
    pub ends : EndsClaims a.cells.view b.cells.view

  on_only : (cells : List ℕ) (a b : PlanLane) → ((cell : ℕ) → Contains cells cell → Such cell) → Only cells a.cells.view b.cells.view → On a b
  on_only cells a b such only = record { number = only.number; begins = only.begins; each = λ place cell made is. such cell ((only_makes cells a b only).each place cell made is); ends = only_ends cells a.cells.view b.cells.view only }

  on_none : (a b : PlanLane) → Only [] a.cells.view b.cells.view → On a b
  on_none a b only = on_only [] a b (λ cell there. absurd (contains_none cell there)) only

  on_one : (it : ℕ) (a b : PlanLane) → Such it → Only (it ∷ []) a.cells.view b.cells.view → On a b
  on_one it a b such only = on_only (it ∷ []) a b (λ cell there. elim (contains_cons it [] cell there) [ inl same ↦ subst Such same such | inr none ↦ absurd (contains_none cell none) ]) only

  on_then : (a b c : PlanLane) → On a b → On b c → On a c
  on_then a b c one two = record {
    number = two.number ∙ one.number;
    begins = prefix_trans (seen_by a.cells.view) (seen_by b.cells.view) (seen_by c.cells.view) one.begins two.begins;
    each = λ place cell made is. elim (cases_lt place (length (seen_by b.cells.view))) [
      | inl below ↦
          let s = seen_by b.cells.view in
          let stands = subst (λ (l : History). slice_get l place ≡ Some made.event) (sym two.begins.1) made.there in
          one.each place cell (record { event = made.event; there = in_part s two.begins.0 place made.event below stands; own_event = made.own_event; since = made.since; until = below }) is
      | inr past ↦ two.each place cell (record { event = made.event; there = made.there; own_event = made.own_event ∙ sym one.number; since = past; until = made.until }) is
    ];
    ends = ends_then a.cells.view b.cells.view c.cells.view one.ends two.ends;
  }

  still : (a b : PlanLane) → b.cells ≡ a.cells → On a b
  still a b same = on_none a b (subst (λ l. Only [] a.cells.view l.view) (sym same) (only_same [] a.cells.view))

  unchanged : (a b : PlanLane) → b ≡ a → On a b
  unchanged a b same = still a b (ap (λ (l : PlanLane). l.cells) same)

  looks_on : (call : CallText) (verdict : SeenText → VerdictText) (a : PlanLane) (o : Outcome) (b : PlanLane) → StepLooks store call verdict a o b → On a b
  looks_on call verdict a o b (inl made) = on_none a b (gets_only store (start_of call.path) made.0 a.cells b.cells _ made.2.1.looked)
  looks_on call verdict a o b (inr refused) = still a b refused.1.still

  -- `has` says that the cell of the step is such
  module _ (call : CallText) (a : PlanLane) (o : Outcome) (b : PlanLane) (has : (number : ℕ) → IsKeyNumber b.keys call.key number → Such (cell_in store number (start_of call.path))) where
    stores_on : (value : ValueText) (p : PutsKept store call value a o b) → On p.between b
    stores_on value p = elim p.stores [
      | inl made ↦
          let cell = cell_in store made.0 (start_of call.path) in
          on_one cell p.between b (has made.0 made.1) (puts_only store (start_of call.path) made.0 p.kept p.between.cells b.cells made.2.result made.2.puts)
      | inr refused ↦ still p.between b refused.1.still
    ]

    puts_on : (value : ValueText) → StepPuts store call value a o b → On a b
    puts_on value (inl p) =
        on_then a p.between b (on_none a p.between (keeps_only p.kept_value a p.between p.kept p.keeps)) (stores_on value p)
    puts_on value (inr n) = on_none a b (keep_fails store a.cells b.cells n.why n.keeps_nothing.fails)

    removes_on : StepRemoves store call a o b → On a b
    removes_on (inl made) =
        let cell = cell_in store made.0 (start_of call.path) in
        on_one cell a b (has made.0 made.1) (removes_only store (start_of call.path) made.0 a.cells b.cells made.2.result made.2.removes)
    removes_on (inr refused) = still a b refused.1.still

    computes_on : (value : ValueText) → StepComputes store call value a o b → On a b
    computes_on value (inl made) =
        let cell = cell_in store made.0 (start_of call.path) in
        on_one cell a b (has made.0 made.1) (waits_only store (start_of call.path) made.0 a.cells b.cells made.2.result made.2.computed)
    computes_on value (inr refused) = still a b refused.1.still

    fails_on : (text : List ℕ) → StepFails store call text a o b → On a b
    fails_on text (inl made) =
        let cell = cell_in store made.0 (start_of call.path) in
        on_one cell a b (has made.0 made.1) (waits_only store (start_of call.path) made.0 a.cells b.cells made.2.result made.2.computed)
    fails_on text (inr refused) = still a b refused.1.still

  module _ (path : List ℕ) where
    abbrev Has : StepText → Type 0
    Has step = (cell : ℕ) → IsCellOf store keys numbering path step cell → Such cell

    -- a key's cell, by the lane's own number of the key
    cell_has : (step : StepText) (key : StepKeyText) (up : ℕ) → changed_by step ≡ Some (key, up) → Has step → (b : PlanLane) → KeepsKeys b.keys numbering
        → (number : ℕ) → IsKeyNumber b.keys (key_of_step keys key) number → Such (cell_in store number (start_of (drop up path)))
    cell_has step key up changes has b so number named =
        has (cell_in store number (start_of (drop up path)))
        (record { key = key; up = up; changes = changes; number = number; named = number_stays b.keys numbering (key_of_step keys key) number so named; cell_is = refl })

    step_on : (step : StepText) (a : PlanLane) (o : Outcome) (b : PlanLane) → StepRun store keys path step a o b → KeepsKeys b.keys numbering → Has step → On a b
    step_on (keyed words.Put key text up) a o b (inl made) so has = puts_on (call_of keys path (codes "put") key up) a o b (cell_has (keyed words.Put key text up) key up refl has b so) _ made
    step_on (keyed words.PutCloseable key text up) a o b (inl made) so has = puts_on (call_of keys path (codes "put!") key up) a o b (cell_has (keyed words.PutCloseable key text up) key up refl has b so) _ made
    step_on (keyed words.Want key text up) a o b (inl made) so has = looks_on (call_of keys path (codes "want") key up) _ a o b made
    step_on (keyed words.None key text up) a o b (inl made) so has = looks_on (call_of keys path (codes "none") key up) _ a o b made
    step_on (keyed words.Remove key text up) a o b (inl made) so has = removes_on (call_of keys path (codes "remove") key up) a o b (cell_has (keyed words.Remove key text up) key up refl has b so) made
    step_on (keyed words.Compute key text up) a o b (inl made) so has = computes_on (call_of keys path (codes "compute") key up) a o b (cell_has (keyed words.Compute key text up) key up refl has b so) _ made
    step_on (keyed words.ComputeCloseable key text up) a o b (inl made) so has = computes_on (call_of keys path (codes "compute!") key up) a o b (cell_has (keyed words.ComputeCloseable key text up) key up refl has b so) _ made
    step_on (keyed words.ComputeFail key text up) a o b (inl made) so has = fails_on (call_of keys path (codes "computefail") key up) a o b (cell_has (keyed words.ComputeFail key text up) key up refl has b so) text made
    step_on (keyed word key text up) a o b (inr lacks) so has = unchanged a b (finds_none keys word key a o b lacks).unchanged
    step_on (fail text) a o b made so has = unchanged a b made.0
    step_on (abort text) a o b made so has = unchanged a b made.0

    pub steps_on : (steps : List StepText) (a : PlanLane) (o : Outcome) (b : PlanLane) → StepsRun store keys path steps a o b → KeepsKeys b.keys numbering
        → ((step : StepText) → Contains steps step → Has step) → On a b
    unfolding StepsRun
    steps_on [] a o b run so has = unchanged a b run.0
    steps_on (step ∷ more) a o b run so has =
        let m = run.1 in
        elim (bools (is_successful (ending_of run.0.verdict))) [
          | inl on ↦
              let later = run.4.0 on in
              let goes : LaneGoesOn m b = steps_go store keys path more m later.0 b later.1 in
              on_then a m b (step_on step a run.0 m run.2 (keeps_both m.keys b.keys numbering goes.keys so) (has step (contains_here step more)))
              (steps_on more m later.0 b later.1 so (λ s there. has s (contains_later step more s there)))
          | inr off ↦ subst (λ (x : PlanLane). KeepsKeys x.keys numbering → On a x) (sym (run.4.1 off).1) (λ so. step_on step a run.0 m run.2 so (has step (contains_here step more))) so
        ]
