-- What the lanes of a run know is so in one view of it.
use Rattle.std.proofs.Common.{◌≡◌, inl, inr, ℕ, zero, suc, ◌<◌, List, [], ◌∷◌, Contains, Option, Some, None, length, refl, ap, sym, subst, ◌∙◌, arith}
use Rattle.std.specs.Prelude.{All, AllPairs}
use Rattle.std.specs.List.{AllZip}
use Rattle.std.proofs.lemmas.List.Elements.{All-nil, All-cons, All-head, All-tail, All-contains, All-map}
use Rattle.ext_history.proofs.Lists.{contains_cons, contains_here, contains_later, contains_none}
use Rattle.ext_history.proofs.Once.{contains-from_map, contains-map}
use Rattle.ext_model.specs.declared.look.Fault.{Fault}
use Rattle.ext_tree.specs.Keys.{KeepsKeys, KnownPlace, key_places_of, no_key_known}
use Rattle.ext_tree.proofs.KeyPlacing.{keeps_both, key_places_of-nothing}
use Rattle.ext_values.specs.Known.{Known, AllAgree, known_at}
use Rattle.ext_cells.specs.Lanes.{fresh_lanes}
use Rattle.ext_plan.specs.Values.{ValueText}
use Rattle.ext_store.specs.Stores.{StoreView, fresh_store_lane}
use Rattle.ext_engine.specs.Order.{LaneGoesOn}
use Rattle.ext_engine.proofs.Going.{tree_goes}
use Rattle.ext_plan_parallel.specs.declared.steps.stored_value.StoredValue.{StoredValue}
use Rattle.ext_plan_parallel.specs.Finding.{PlansGoOn}
use Rattle.ext_plan_parallel.specs.Opened.{all_faults, all_known}
use Rattle.ext_plan_parallel.specs.ParallelRun.{setting_of_plan}
use Rattle.ext_plan_parallel.specs.StoreCalls.{PlanLane, stored_view}
use Rattle.ext_one_report.proofs.MatchingWords.{RunView, TextMeaning}
use Rattle.ext_one_report.proofs.StepsWords.{words_of}
use Rattle.ext_one_report.proofs.ViewsWords.{AreSeenAsOne, EarlierIsSo, KnowsFault, KnowsValue, RunsAreSeenAsOne}

-- ---- what any of several notes knows of a number

module _ {V : Type 0} where
  abbrev pub first_of : Option V → Option V → Option V
  first_of None rest = rest
  first_of (Some v) rest = Some v

  -- what the first of these notes knows that knows anything of the number
  abbrev pub first_known : List (List (Known V)) → ℕ → Option V
  first_known [] number = None
  first_known (notes ∷ more) number = first_of (known_at notes number) (first_known more number)

  first_or_later : (o rest : Option V) (value : V) → rest ≡ Some value → ((v : V) → o ≡ Some v → v ≡ value) → first_of o rest ≡ Some value
  first_or_later None rest value is same = is
  first_or_later (Some v) rest value is same = ap Some (same v refl)

  -- notes that agree with all others know of a number what the first of them knows
  pub known_first : (all : List (List (Known V))) → AllPairs AllAgree all → (notes : List (Known V)) → Contains all notes → (number : ℕ) (value : V) → known_at notes number ≡ Some value
      → first_known all number ≡ Some value
  known_first [] agree notes there number value known = absurd (contains_none notes there)
  known_first (first ∷ more) agree notes there number value known =
      elim (contains_cons first more notes there) [
        | inl same ↦ ap (λ o. first_of o (first_known more number)) (ap (λ n. known_at n number) same ∙ known)
        | inr later ↦
            let within = later.1 in
            let both : AllAgree first notes = subst (λ n. AllAgree first n) later.2 (agree zero (suc later.0) notes (omega arith) (omega (arith, within))) in
            first_or_later (known_at first number) (first_known more number) value
            (known_first more (λ i j d below inside. agree (suc i) (suc j) d (omega (arith, below)) (omega (arith, inside))) notes later number value known)
            (λ v is. both number v value is known)
      ]

  -- one of the notes knows it
  pub known_by : (all : List (List (Known V))) (number : ℕ) (value : V) → first_known all number ≡ Some value → (notes : List (Known V)) × Contains all notes × (known_at notes number ≡ Some value)
  known_by [] number value is = absurd (cc is)
  known_by (first ∷ more) number value is = by_first (known_at first number) refl is (λ later. known_by more number value later)
    where
      by_first : (o : Option V) → known_at first number ≡ o → first_of o (first_known more number) ≡ Some value
          → (first_known more number ≡ Some value → (notes : List (Known V)) × Contains more notes × (known_at notes number ≡ Some value))
          → (notes : List (Known V)) × Contains (first ∷ more) notes × (known_at notes number ≡ Some value)
      by_first None none is later = let r = later is in (r.0, contains_later first more r.0 r.1, r.2)
      by_first (Some v) some is later = (first, contains_here first more, some ∙ is)

-- ---- what numbers stand for

abbrev view_said : Option StoredValue → Option ValueText
view_said None = None
view_said (Some value) = Some (stored_view value)

abbrev words_said : Option Fault → Option (List ℕ)
words_said None = None
words_said (Some fault) = words_of fault

abbrev meaning_of : List PlanLane → TextMeaning
meaning_of lanes = record { values = λ number. view_said (first_known (all_known lanes) number); faults = λ number. words_said (first_known (all_faults lanes) number) }

said_value : (o : Option StoredValue) (value : ValueText) → view_said o ≡ Some value → (stored : StoredValue) × (o ≡ Some stored) × (value ≡ stored_view stored)
said_value None value is = absurd (cc is)
said_value (Some stored) value is = (stored, refl, cc is)

said_fault : (o : Option Fault) (words : List ℕ) → words_said o ≡ Some words → (fault : Fault) × (o ≡ Some fault) × (words_of fault ≡ Some words)
said_fault None words is = absurd (cc is)
said_fault (Some fault) words is = (fault, refl, is)

knows_value : (lanes : List PlanLane) (number : ℕ) (value : ValueText) → (meaning_of lanes).values number ≡ Some value → KnowsValue lanes number value
knows_value lanes number value is =
    let said = said_value (first_known (all_known lanes) number) value is in
    let by = known_by (all_known lanes) number said.0 said.1 in
    let from = contains-from_map (λ (lane : PlanLane). lane.known) lanes by.0 by.1 in
    record { lane = from.0; among = from.1; stored = said.0; known = ap (λ n. known_at n number) from.2 ∙ by.2; is = said.2 }

knows_fault : (lanes : List PlanLane) (number : ℕ) (words : List ℕ) → (meaning_of lanes).faults number ≡ Some words → KnowsFault lanes number words
knows_fault lanes number words is =
    let said = said_fault (first_known (all_faults lanes) number) words is in
    let by = known_by (all_faults lanes) number said.0 said.1 in
    let from = contains-from_map (λ (lane : PlanLane). lane.faults) lanes by.0 by.1 in
    record { lane = from.0; among = from.1; fault = said.0; known = ap (λ n. known_at n number) from.2 ∙ by.2; is = said.2 }

-- ---- the numbers of keys

abbrev KeysOf : List ℕ → PlanLane → Type 0
KeysOf keys lane = key_places_of lane.keys ≡ keys

-- lanes that go on stay those of the same places for keys
keys_stay : (keys : List ℕ) (xs ys : List PlanLane) → AllZip LaneGoesOn xs ys → All (KeysOf keys) xs → All (KeysOf keys) ys
keys_stay keys [] [] go all = All-nil (KeysOf keys)
keys_stay keys [] (y ∷ ys) go all = absurd go
keys_stay keys (x ∷ xs) [] go all = absurd go
keys_stay keys (x ∷ xs) (y ∷ ys) go all = All-cons (KeysOf keys) y ys (go.0.keys.places ∙ All-head (KeysOf keys) x xs all) (keys_stay keys xs ys go.1 (All-tail (KeysOf keys) x xs all))

abbrev NumbersSo : List KnownPlace → PlanLane → Type 0
NumbersSo numbering lane = KeepsKeys lane.keys numbering

-- the numbering of some lanes; of none, one that knows no key
abbrev numbering_of : StoreView → List KnownPlace → List PlanLane → List KnownPlace
numbering_of store numbering [] = no_key_known store.id.keys
numbering_of store numbering (lane ∷ lanes) = numbering

numbering_places : (store : StoreView) (numbering : List KnownPlace) (lanes : List PlanLane) → All (KeysOf store.id.keys) lanes → All (NumbersSo numbering) lanes
    → key_places_of (numbering_of store numbering lanes) ≡ store.id.keys
numbering_places store numbering [] places parts = key_places_of-nothing store.id.keys
numbering_places store numbering (lane ∷ lanes) places parts = (All-head (NumbersSo numbering) lane lanes parts).places ∙ All-head (KeysOf store.id.keys) lane lanes places

numbering_is : (store : StoreView) (numbering : List KnownPlace) (lanes : List PlanLane) → 0 < length lanes → numbering_of store numbering lanes ≡ numbering
numbering_is store numbering [] some = let no : ⊥ = omega (arith, some) in absurd no
numbering_is store numbering (lane ∷ lanes) some = refl

some_there : (lanes : List PlanLane) (lane : PlanLane) → Contains lanes lane → 0 < length lanes
some_there lanes lane there = let within = there.1 in omega (arith, within)

-- ---- the view

view_of : StoreView → List KnownPlace → List PlanLane → RunView
view_of store numbering lanes = record { store = store; numbering = numbering_of store numbering lanes; meaning = meaning_of lanes }

seen_as_one : (store : StoreView) (numbering : List KnownPlace) (lanes : List PlanLane) → All (KeysOf store.id.keys) lanes → All (NumbersSo numbering) lanes
    → AllPairs AllAgree (all_known lanes) → AllPairs AllAgree (all_faults lanes) → AreSeenAsOne store numbering lanes
unfolding view_of
seen_as_one store numbering lanes places parts agree agree_faults = record {
  view = view_of store numbering lanes;
  store_is = refl;
  is_view = record { places = numbering_places store numbering lanes places parts };
  numbering_is = numbering_is store numbering lanes;
  each = λ lane there. record {
    keys = subst (λ n. KeepsKeys lane.keys n) (sym (numbering_is store numbering lanes (some_there lanes lane there))) (All-contains (NumbersSo numbering) lanes lane parts there);
    values = λ number value known.
        ap view_said (known_first (all_known lanes) agree lane.known (contains-map (λ (l : PlanLane). l.known) lanes lane there) number value known);
    faults = λ number fault known.
        ap words_said (known_first (all_faults lanes) agree_faults lane.faults (contains-map (λ (l : PlanLane). l.faults) lanes lane there) number fault known);
  };
  values = knows_value lanes;
  faults = knows_fault lanes;
}

pub earlier_is_so : EarlierIsSo
earlier_is_so view before after go so = record {
  keys = keeps_both before.keys after.keys view.numbering go.keys so.keys;
  values = λ number value known. so.values number value (go.known number value known);
  faults = λ number fault known. so.faults number fault (go.faults number fault known);
}

-- ---- runs

module _ (moves : PlansGoOn) where
  pub runs_are_seen_as_one : RunsAreSeenAsOne
  runs_are_seen_as_one plan lanes results run =
      let store = run.store in
      let keys = store.id.keys in
      let make = fresh_store_lane {V = StoredValue} store.id.slots store.id.fault_slots keys in
      let fresh = fresh_lanes store.id.cells 0 lanes in
      let first : All (KeysOf keys) run.first.first = subst (λ (l : List PlanLane). All (KeysOf keys) l) (sym run.fresh) (All-map (KeysOf keys) make fresh (λ i d within. key_places_of-nothing keys)) in
      let go = tree_goes (setting_of_plan plan store run.locks) (moves plan store) 16 0 run.first run.ran run.after run.run in
      seen_as_one store run.numbered.numbering run.after.first (keys_stay keys run.first.first run.after.first go first) run.numbered.parts run.shared.agree run.shared.agree_faults
