-- Where the events of a run of a plan store numbers, and where these stand.
use Rattle.std.proofs.Common.{◌≡◌, ◌⊎◌, inl, inr, ℕ, ◌+◌, ◌<◌, ◌%◌, zero, suc, List, [], ◌∷◌, Contains, Option, Some, None, drop, length, map, ap, refl, sym, subst, ◌∙◌}
use Rattle.std.specs.Prelude.{All, slice_get}
use Rattle.std.proofs.lemmas.List.Elements.{All-cons, All-head, All-nil, Contains-append_left}
use Rattle.std.proofs.lemmas.Nat.{mod-mul-add}
use Rattle.std.proofs.lemmas.Option.{get_or_from_slice_get}
use Rattle.ext_history.proofs.Legal.{legal_begun}
use Rattle.ext_cells.specs.Lanes.{CellsId, fresh_lane, fresh_lanes}
use Rattle.ext_lifecycle.specs.Results.{ResultOf}
use Rattle.ext_model.specs.declared.event.Act.{Act}
use Rattle.ext_model.specs.declared.event.Act.TheVariants.{Seal}
use Rattle.ext_model.specs.declared.event.Event.{Event}
use Rattle.ext_model.specs.declared.look.Fault.{Fault}
use Rattle.ext_model.specs.Events.{place_of}
use Rattle.ext_model.specs.History.{History, state_after, stored_number}
use Rattle.ext_plan.specs.PlanCalls.{steps_of_call}
use Rattle.ext_plan.specs.Plans.{PlanText}
use Rattle.ext_plan.specs.StepCalls.{start_of}
use Rattle.ext_plan.specs.StoreKeys.{key_of_step}
use Rattle.ext_store.specs.Stores.{StoreView, cell_in, fresh_store_lane}
use Rattle.ext_tree.specs.Keys.{IsKeyNumber, KeepsKeys, KnownPlace, key_places_of}
use Rattle.ext_tree.proofs.KeyPlacing.{key_places_of-nothing, key_within, length-places}
use Rattle.ext_engine.specs.Meeting.{first_seen}
use Rattle.ext_engine.specs.Order.{AllGoOn, IsMadeIn}
use Rattle.ext_engine.proofs.Going.{tree_goes}
use Rattle.ext_one_report.proofs.Made.{MakesOnlySuch, runs_make_such}
use Rattle.ext_one_report.proofs.Changing.{close_seals}
use Rattle.ext_one_report.proofs.Events.{event_at, made_in_seen, one_event}
use Rattle.ext_one_report.proofs.WholeAlone.{whole_made}
use Rattle.ext_plan_parallel.specs.ParallelRun.{ParallelRun}
use Rattle.ext_plan_parallel.specs.StoreCalls.{PlanLane}
use Rattle.ext_one_report.proofs.StoredWords.{IsCellOfKey, OfRuns, OnlyNamedCells, StandOnce, UnnamedKeepNothing, number_in}
use Rattle.ext_one_report.proofs.Runs.{numbered_run, run_lanes, run_moves, run_setting, run_within}
use Rattle.ext_one_report.proofs.Steps.{steps_on}
use Rattle.ext_one_report.proofs.Stored.{are_stored}

-- ---- lanes

module _ (cells : CellsId) (slots fault_slots keys : List ℕ) where
  abbrev fresh : ℕ → ℕ → List PlanLane
  fresh first n = map (fresh_store_lane slots fault_slots keys) (fresh_lanes cells first n)

  fresh_nothing : (first n : ℕ) → first_seen (fresh first n) ≡ []
  fresh_nothing first zero = refl
  fresh_nothing first (suc n) = refl

  -- the lane has a place for each key
  abbrev HasPlaces : PlanLane → Type 0
  HasPlaces lane = key_places_of lane.keys ≡ keys

  fresh_places : (first n : ℕ) → All HasPlaces (fresh first n)
  fresh_places first zero = All-nil HasPlaces
  fresh_places first (suc n) = All-cons HasPlaces (fresh_store_lane slots fault_slots keys (fresh_lane cells first)) (fresh (first + 1) n) (key_places_of-nothing keys) (fresh_places (first + 1) n)

  -- so where there is a lane, they are numbered for these places
  numbered_places : (numbering : List KnownPlace) (h : History) (place : ℕ) (xs ys : List PlanLane) → AllGoOn xs ys → All HasPlaces xs → All (λ lane. KeepsKeys lane.keys numbering) ys → IsMadeIn h place xs ys → key_places_of numbering ≡ keys
  numbered_places numbering h place [] ys go has keeps made = absurd made
  numbered_places numbering h place (a ∷ xs) [] go has keeps made = absurd go
  numbered_places numbering h place (a ∷ xs) (b ∷ ys) go has keeps made =
      (All-head (λ (lane : PlanLane). KeepsKeys lane.keys numbering) b ys keeps).places ∙ (go.0.keys.places ∙ All-head HasPlaces a xs has)

-- the cells of two places of keys differ
same_key : (store : StoreView) (context other key second : ℕ) → key < length store.id.keys → second < length store.id.keys → cell_in store key context ≡ cell_in store second other → key ≡ second
same_key store context other key second low high same =
    let n = length store.id.keys in
    sym (mod-mul-add context n key low) ∙ (ap (λ cell. cell % n) same ∙ mod-mul-add other n second high)

at_some_place : (h : History) (e : Event ℕ) → Contains h e → (place : ℕ) × (slice_get h place ≡ Some e)
at_some_place h e there =
    let found = event_at h there.0 there.1 in
    let same : found.0 ≡ e = sym (get_or_from_slice_get h there.0 found.0 e found.1) ∙ there.2 in
    (there.0, subst (λ (x : Event ℕ). slice_get h there.0 ≡ Some x) same found.1)

none_or_some : (o : Option ℕ) → ((n : ℕ) → o ≡ Some n → ⊥) → o ≡ None
none_or_some None never = refl
none_or_some (Some n) never = absurd (never n refl)

no_seal_stores : (act : Act ℕ) (cell number : ℕ) → act ≡ Seal cell → stored_number act ≡ Some number → ⊥
no_seal_stores act cell number seals stores = let none : None ≡ Some number = sym (ap stored_number seals) ∙ stores in cc none

-- ---- a run

module _ (plan : PlanText) (lanes : ℕ) (results : List (ResultOf Fault)) (run : ParallelRun plan lanes results) where
  abbrev h : History
  h = run.shared.history

  abbrev numbering : List KnownPlace
  numbering = run.numbered.numbering

  -- an event at this place that is on a cell seals it, or the cell is that of a key
  abbrev OnNamed : ℕ → Type 0
  OnNamed place = (cell : ℕ) (event : Event ℕ) → slice_get h place ≡ Some event → place_of event.act ≡ Some cell → (event.act ≡ Seal cell) ⊎ IsCellOfKey run.store numbering cell

  run_makes : MakesOnlySuch (run_setting plan lanes results run) h OnNamed
  run_makes = record {
    calls = λ node call held a o b gives within place made cell event there is.
        let path = gives.0.path in
        let same = one_event h place event made.event there made.there in
        let on = steps_on run.store plan.keys numbering (λ c. IsCellOfKey run.store numbering c) path (steps_of_call plan call) a o b gives.0.steps gives.1
        (λ step among c its. record { key = key_of_step plan.keys its.key; number = its.number; context = start_of (drop its.up path); named = its.named; cell_is = its.cell_is }) in
        inr (on.each place cell (made_in_seen h place a b within made) (subst (λ (e : Event ℕ). place_of e.act ≡ Some cell) same is));
    closes = λ node before faults after closes within place made cell event there is.
        let seal = close_seals (run_setting plan lanes results run) h node before faults after closes within place made in
        let same = one_event h place event seal.event there seal.there in
        let seals : event.act ≡ Seal (cell_in run.store seal.key node) = ap (λ (e : Event ℕ). e.act) same ∙ seal.seals in
        let here : Some (cell_in run.store seal.key node) ≡ Some cell = sym (ap place_of seals) ∙ is in
        inl (subst (λ (c : ℕ). event.act ≡ Seal c) (cc here) seals);
  }

  run_made : (place : ℕ) (event : Event ℕ) → slice_get h place ≡ Some event → IsMadeIn h place run.first.first run.after.first
  run_made place event there =
      let id = run.store.id in
      whole_made (run_setting plan lanes results run) (run_moves plan lanes results run) 16 0 run.first run.ran run.after (numbered_run plan lanes results run) h (run_lanes plan lanes results run)
      (ap first_seen run.fresh ∙ fresh_nothing id.cells id.slots id.fault_slots id.keys 0 lanes) place event there

  run_named : OnlyNamedCells plan lanes results run
  run_named place cell event there is =
      runs_make_such (run_setting plan lanes results run) (run_moves plan lanes results run) h OnNamed run_makes 16 0 run.first run.ran run.after (numbered_run plan lanes results run)
      (run_within plan lanes results run) place (run_made place event there) cell event there is

  -- where the run made an event, there are as many places of keys as the store has
  run_places : (place : ℕ) (event : Event ℕ) → slice_get h place ≡ Some event → length numbering ≡ length run.store.id.keys
  run_places place event there =
      let id = run.store.id in
      let t = run_setting plan lanes results run in
      let goes = tree_goes t (run_moves plan lanes results run) 16 0 run.first run.ran run.after (numbered_run plan lanes results run) in
      let has = subst (λ l. All (HasPlaces id.cells id.slots id.fault_slots id.keys) l) (sym run.fresh) (fresh_places id.cells id.slots id.fault_slots id.keys 0 lanes) in
      length-places numbering id.keys (numbered_places id.cells id.slots id.fault_slots id.keys numbering h place run.first.first run.after.first goes has run.numbered.parts (run_made place event there))

  run_unnamed : UnnamedKeepNothing plan lanes results run
  run_unnamed part begins context number low unnamed =
      none_or_some (number_in ((state_after part).slots (cell_in run.store number context))) (λ n is.
      let was = (are_stored part (legal_begun part h begins run.shared.legal)).was (cell_in run.store number context) n is in
      let among = subst (λ (l : History). Contains l was.event) begins.1 (Contains-append_left part begins.0 was.event was.among) in
      let at = at_some_place h was.event among in
      elim (run_named at.0 (cell_in run.store number context) was.event at.1 was.on) [
        | inl seals ↦ no_seal_stores was.event.act (cell_in run.store number context) n seals was.stores
        | inr its ↦
            let high : its.number < length run.store.id.keys = subst (λ (l : ℕ). its.number < l) (run_places at.0 was.event at.1) (key_within numbering its.number its.key its.named.there) in
            let same = same_key run.store context its.context number its.number low high its.cell_is in
            unnamed its.key (subst (λ (n : ℕ). IsKeyNumber numbering its.key n) (sym same) its.named)
      ])

-- ---- laws

pub stand_once : OfRuns StandOnce
stand_once plan lanes results run part begins cell other number is is' = (are_stored part (legal_begun part run.shared.history begins run.shared.legal)).one cell other number is is'

pub unnamed_keep_nothing : OfRuns UnnamedKeepNothing
unnamed_keep_nothing plan lanes results run part begins context number low unnamed = run_unnamed plan lanes results run part begins context number low unnamed
