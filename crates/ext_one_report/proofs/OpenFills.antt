-- Whether a lane fills a cell between two moments: attempts of a compute that are given up fill none. And who fills an open place in one part of what a lane does fills it in the whole.
use Rattle.std.proofs.Common.{◌≡◌, ℕ, zero, suc, ◌⊎◌, inl, inr, true, List, [], ◌∷◌, ◌++◌, Contains, refl, ap, sym, subst, ◌∙◌, nat_eq, eq-eqb, append_assoc, append-nil, ◌==◌}
use Rattle.std.proofs.lemmas.List.Elements.{Contains-append_cases, Contains-append_left, Contains-append_right}
use mathlib.Core.List.{append_cancel_left}
use Rattle.ext_history.specs.Histories.{seen_by}
use Rattle.ext_history.proofs.Composed.{same_number}
use Rattle.ext_history.proofs.Lanes.{own_append}
use Rattle.ext_history.proofs.Lists.{bools, contains_cons, contains_filter, contains_none}
use Rattle.ext_model.specs.declared.event.Act.{Act}
use Rattle.ext_model.specs.declared.event.Act.TheVariants.{Claim, Abandon, Fill}
use Rattle.ext_model.specs.declared.event.Event.{Event}
use Rattle.ext_model.specs.Events.{is_on}
use Rattle.ext_model.specs.History.{History, Limits, by, lane_of, own}
use Rattle.ext_model.specs.CallActs.{Calls, LaneView, events_by}
use Rattle.ext_tree.specs.Keys.{KeyValue}
use Rattle.ext_lifecycle.specs.declared.outcome.Outcome.{Outcome}
use Rattle.ext_store_core.specs.Claiming as claiming
use Rattle.ext_store_core.specs.Waiting.{VainAttempts}
use Rattle.ext_store_core.specs.declared.fault.Refusal.{Refusal}
use Rattle.ext_store_core.specs.declared.fault.Refusal.TheVariants as refusal
use Rattle.ext_store.specs.Stores.{StoreView, cell_in, context_cells}
use Rattle.ext_store.specs.Computing.{IsRefused}
use Rattle.ext_store.specs.Waiting.{IsDecided}
use Rattle.ext_engine.specs.Order.{LaneGoesOn}
use Rattle.ext_plan_parallel.specs.StoreCalls.{PlanLane}
use Rattle.ext_one_report.proofs.MatchingWords.{IsRunView, HasNumberIn, RunView, cell_of}
use Rattle.ext_one_report.proofs.Matching.{cells_apart}
use Rattle.ext_one_report.proofs.Fills.{IsFilledBy, Spot}
use Rattle.ext_one_report.proofs.OwnEvents.{ActsOn, number_is}

-- ---- no cell is filled

abbrev pub AreNoFills : History → Type 0
AreNoFills h = (e : Event ℕ) → Contains h e → (cell value : ℕ) → e.act ≡ Fill cell value → ⊥

-- The lane has seen more, and none of its own events meanwhile fills a cell
pub record FillsNothing (a b : LaneView) : Type 0 where
  pub number : b.number ≡ a.number
  pub mine : History
  pub own_is : own a.number (seen_by b) ≡ own a.number (seen_by a) ++ mine
  pub none : AreNoFills mine

no_fill_of_none : AreNoFills []
no_fill_of_none e there = absurd (contains_none e there)

nothing_same : (a m : LaneView) → m ≡ a → FillsNothing a m
nothing_same a m same = subst (FillsNothing a) (sym same) (record { number = refl; mine = []; own_is = sym (append-nil (own a.number (seen_by a))); none = no_fill_of_none })

pub nothing_then : (a m b : LaneView) → FillsNothing a m → FillsNothing m b → FillsNothing a b
nothing_then a m b first second =
    let later : own a.number (seen_by b) ≡ own a.number (seen_by m) ++ second.mine = subst (λ n. own n (seen_by b) ≡ own n (seen_by m) ++ second.mine) first.number second.own_is in
    record {
      number = second.number ∙ first.number;
      mine = first.mine ++ second.mine;
      own_is = later ∙ (ap (λ l. l ++ second.mine) first.own_is ∙ append_assoc (own a.number (seen_by a)) first.mine second.mine);
      none = λ e there. elim (Contains-append_cases first.mine second.mine e there) [
        | inl early ↦ first.none e early
        | inr late ↦ second.none e late
      ];
    }

nothing_called : (limits : Limits) (a b : LaneView) (acts : List (Act ℕ)) → Calls limits a b acts → AreNoFills (events_by a.number acts) → FillsNothing a b
nothing_called limits a b acts calls none = record { number = same_number calls; mine = events_by a.number acts; own_is = calls.own_events; none = none }

pub nothing_quiet : (limits : Limits) (a b : LaneView) → Calls limits a b [] → FillsNothing a b
nothing_quiet limits a b calls = nothing_called limits a b [] calls no_fill_of_none

-- ---- attempts of a compute that are given up

module _ (store : StoreView) (context number : ℕ) where
  given_up : (limits : Limits) (a b : LaneView) → Calls limits a b (claiming.given_up_events (context_cells store) context number) → FillsNothing a b
  given_up limits a b calls = nothing_called limits a b (claiming.given_up_events (context_cells store) context number) calls none
    where
      cell_is : ℕ
      cell_is = cell_in store number context

      claims : Event ℕ
      claims = by a.number (Claim cell_is)

      abandons : Event ℕ
      abandons = by a.number (Abandon cell_is)

      none : AreNoFills (events_by a.number (claiming.given_up_events (context_cells store) context number))
      none e there cell value fills = elim (contains_cons claims (abandons ∷ []) e there) [
        | inl claim ↦ let same : Claim cell_is ≡ Fill cell value = ap (λ (x : Event ℕ). x.act) claim ∙ fills in absurd (cc same)
        | inr others ↦ elim (contains_cons abandons [] e others) [
          | inl abandon ↦ let same : Abandon cell_is ≡ Fill cell value = ap (λ (x : Event ℕ). x.act) abandon ∙ fills in absurd (cc same)
          | inr last ↦ absurd (contains_none e last)
        ]
      ]

  refused : (limits : Limits) (ancestors : List ℕ) (a b : LaneView) (why : Refusal) → (IsDecided why → ⊥) → IsRefused limits store context ancestors number a b why → FillsNothing a b
  unfolding claiming.IsRefused claiming.Meets
  refused limits ancestors a b (refusal.Busy at) undecided (inl holds) = nothing_quiet limits a b holds.calls
  refused limits ancestors a b (refusal.Busy at) undecided (inr gives) = given_up limits a b gives.0
  refused limits ancestors a b (refusal.Closed at) undecided refused_so = absurd (undecided tt)
  refused limits ancestors a b refusal.Contended undecided (inl overtaken) = nothing_quiet limits a b overtaken.calls
  refused limits ancestors a b refusal.Contended undecided (inr gives) = given_up limits a b gives.0
  refused limits ancestors a b refusal.Exhausted undecided refused_so = absurd (undecided tt)
  refused limits ancestors a b refusal.DirectoryFull undecided refused_so = absurd (undecided tt)
  refused limits ancestors a b refusal.Unplaced undecided refused_so = absurd (undecided tt)
  refused limits ancestors a b refusal.Memory undecided refused_so = absurd (undecided tt)

  pub vain_nothing : (attempts : ℕ) (a m : LaneView) → VainAttempts (claiming.ClaimsMissing (context_cells store) context number) attempts a m → FillsNothing a m
  vain_nothing zero a m same = nothing_same a m same
  vain_nothing (suc attempts) a m more =
      let last = more.2 in
      nothing_then a more.0 m (vain_nothing attempts a more.0 more.1) (refused store.id.cells.limits last.refused.0 more.0 m last.why last.undecided last.refused.2)

-- ---- what one step does

-- The lane fills the cell itself
pub record FillsIt (cell : ℕ) (a b : LaneView) : Type 0 where
  pub more : History
  pub is : seen_by b ≡ seen_by a ++ more
  pub value : ℕ
  pub there : Contains more (by a.number (Fill cell value))

-- it fills the cell where it says that it computed the value, and else none
abbrev pub ComputesOrNot : ℕ → LaneView → LaneView → Outcome → Type 0
ComputesOrNot cell a b o = ((o.computed ≡ 1) × FillsIt cell a b) ⊎ ((o.computed ≡ 0) × FillsNothing a b)

own_is_in : (a b : LaneView) (more mine : History) → seen_by b ≡ seen_by a ++ more → own a.number (seen_by b) ≡ own a.number (seen_by a) ++ mine → (e : Event ℕ) → Contains more e → e.lane ≡ a.number → Contains mine e
own_is_in a b more mine is own_is e there by_lane =
    let n = a.number in
    let made : own n more ≡ mine = append_cancel_left (own n (seen_by a)) (own n more) mine (sym (own_append lane_of n (seen_by a) more) ∙ (ap (own n) (sym is) ∙ own_is)) in
    subst (λ (l : History). Contains l e) made (contains_filter (λ (x : Event ℕ). lane_of x == n) more e (eq-eqb e.lane n by_lane) there)

-- an event of the lane's own is on the one cell that it acts on
pub own_on_it : (cell other : ℕ) (a b : LaneView) → ActsOn cell a b → (more : History) → seen_by b ≡ seen_by a ++ more → (e : Event ℕ) → Contains more e → e.lane ≡ a.number → is_on nat_eq other e.act ≡ true → nat_eq cell other ≡ true
own_on_it cell other a b acts more is e there by_lane on = elim (bools (nat_eq cell other)) [
  | inl same ↦ same
  | inr off ↦
      let mine = own_is_in a b more acts.mine is acts.own_is e there by_lane in
      absurd (contains_none e (subst (λ (l : History). Contains l e) (acts.only other off) (contains_filter (λ (x : Event ℕ). is_on nat_eq other x.act) acts.mine e on mine)))
]

pub fills_on : (cell value : ℕ) (act : Act ℕ) → act ≡ Fill cell value → is_on nat_eq cell act ≡ true
fills_on cell value act is = ap (is_on nat_eq cell) is ∙ eq-eqb cell cell refl

module _ (run : RunView) (view : IsRunView run) (context : ℕ) (key : KeyValue) (number : ℕ) (has : HasNumberIn run key number) (a b : PlanLane) where
  -- it fills no other place
  pub only_its_place : ActsOn (cell_of run number context) a.cells.view b.cells.view → (spot : Spot) → IsFilledBy run a b spot → spot ≡ (context, key)
  only_its_place acts spot filled =
      let on = own_on_it (cell_of run number context) (cell_of run filled.number spot.0) a.cells.view b.cells.view acts filled.more filled.is filled.event filled.there filled.own (fills_on _ filled.value filled.event.act filled.act) in
      let same = cells_apart run context spot.0 key spot.1 number filled.number view has filled.has (number_is _ _ on) in
      λ i. (sym same.0 i, sym same.1 i)

  pub filled_or_not : (o : Outcome) → ComputesOrNot (cell_of run number context) a.cells.view b.cells.view o → ((o.computed ≡ 1) × IsFilledBy run a b (context, key)) ⊎ ((o.computed ≡ 0) × ¬ IsFilledBy run a b (context, key))
  filled_or_not o (inl computed) =
      let it = computed.1 in
      inl (computed.0, record { number = number; has = has; more = it.more; is = it.is; event = by a.cells.view.number (Fill (cell_of run number context) it.value); there = it.there; value = it.value; act = refl; own = refl })
  filled_or_not o (inr found) = inr (
    found.0,
    λ filled.
        let none = found.1 in
        none.none filled.event (own_is_in a.cells.view b.cells.view filled.more none.mine filled.is none.own_is filled.event filled.there filled.own) (cell_of run filled.number context) filled.value filled.act,
  )

-- ---- two parts of what a lane does

module _ (run : RunView) (a m b : PlanLane) (goes : LaneGoesOn a m) (further : LaneGoesOn m b) where
  pub filled_first : (spot : Spot) → IsFilledBy run a m spot → IsFilledBy run a b spot
  filled_first spot filled = record {
    number = filled.number;
    has = filled.has;
    more = filled.more ++ further.seen.0;
    is = sym further.seen.1 ∙ (ap (λ l. l ++ further.seen.0) filled.is ∙ append_assoc (seen_by a.cells.view) filled.more further.seen.0);
    event = filled.event;
    there = Contains-append_left filled.more further.seen.0 filled.event filled.there;
    value = filled.value;
    act = filled.act;
    own = filled.own;
  }

  pub filled_second : (spot : Spot) → IsFilledBy run m b spot → IsFilledBy run a b spot
  filled_second spot filled = record {
    number = filled.number;
    has = filled.has;
    more = goes.seen.0 ++ filled.more;
    is = filled.is ∙ (ap (λ l. l ++ filled.more) (sym goes.seen.1) ∙ append_assoc (seen_by a.cells.view) goes.seen.0 filled.more);
    event = filled.event;
    there = Contains-append_right goes.seen.0 filled.more filled.event filled.there;
    value = filled.value;
    act = filled.act;
    own = filled.own ∙ goes.number;
  }

  pub filled_in_one : (spot : Spot) → IsFilledBy run a b spot → IsFilledBy run a m spot ⊎ IsFilledBy run m b spot
  filled_in_one spot filled =
      let start = seen_by a.cells.view in
      let all : start ++ filled.more ≡ start ++ (goes.seen.0 ++ further.seen.0) =
      sym filled.is ∙ (sym further.seen.1 ∙ (ap (λ l. l ++ further.seen.0) (sym goes.seen.1) ∙ append_assoc start goes.seen.0 further.seen.0)) in
      let in_both : Contains (goes.seen.0 ++ further.seen.0) filled.event = subst (λ (l : History). Contains l filled.event) (append_cancel_left start filled.more _ all) filled.there in
      elim (Contains-append_cases goes.seen.0 further.seen.0 filled.event in_both) [
        | inl early ↦ inl (record { number = filled.number; has = filled.has; more = goes.seen.0; is = sym goes.seen.1; event = filled.event; there = early; value = filled.value; act = filled.act; own = filled.own })
        | inr late ↦ inr (record { number = filled.number; has = filled.has; more = further.seen.0; is = sym further.seen.1; event = filled.event; there = late; value = filled.value; act = filled.act; own = filled.own ∙ sym goes.number })
      ]
