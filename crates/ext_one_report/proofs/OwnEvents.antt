-- What a lane does between two moments whose own events are on one cell alone: what stands elsewhere stays, where the lane is alone.
use Rattle.std.proofs.Common.{◌≡◌, ℕ, zero, suc, Some, inl, inr, true, false, true≢false, List, [], ◌++◌, refl, ap, sym, subst, ◌∙◌, arith, nat_eq, append_assoc, append-nil}
use Rattle.std.proofs.lemmas.Bool.Decides.{nat_tests}
use Rattle.std.proofs.lemmas.List.Elements.{Contains-append_left, Contains-append_right}
use mathlib.Core.List.{IsPrefix, append_cancel_left}
use base.Growing.{prefix_refl, prefix_trans}
use Rattle.ext_history.specs.Histories.{seen_by}
use Rattle.ext_history.proofs.Composed.{same_number, seen_goes_on}
use Rattle.ext_history.proofs.Lanes.{own_append}
use Rattle.ext_history.proofs.Lists.{bools}
use Rattle.ext_model.specs.declared.event.Act.{Act}
use Rattle.ext_model.specs.State.{State}
use Rattle.ext_model.specs.History.{History, IsLegal, IsQuiet, Limits, lane_of, own, slots_in, state_after}
use Rattle.ext_model.specs.CallActs.{Calls, LaneView, events_by}
use Rattle.ext_model.proofs.Versions.{after-append, slot_stays, version-append}
use Rattle.ext_tree.specs.Keys.{KeyValue}
use Rattle.ext_store_core.specs.Claiming as claiming
use Rattle.ext_store_core.specs.Waiting.{VainAttempts}
use Rattle.ext_store_core.specs.declared.fault.Refusal.{Refusal}
use Rattle.ext_store_core.specs.declared.fault.Refusal.TheVariants as refusal
use Rattle.ext_store.specs.Stores.{StoreView, cell_in, context_cells}
use Rattle.ext_store.specs.Computing.{IsRefused}
use Rattle.ext_store.specs.Waiting.{IsDecided}
use Rattle.ext_plan_plain.specs.ValueStates.{ValueState}
use Rattle.ext_one_report.specs.Changing.{events_at}
use Rattle.ext_one_report.proofs.MatchingWords.{AreNotAt, HasNumberIn, IsRunView, Matches, Places, RunView, cell_of}
use Rattle.ext_one_report.proofs.StepsWords.{IsAlone}
use Rattle.ext_one_report.proofs.NodesAlone.{quiet_to}
use Rattle.ext_one_report.proofs.Computes.{only_given_up}
use Rattle.ext_one_report.proofs.Matching.{cells_apart, others_keep_matches}
use Rattle.ext_one_report.proofs.OnCells.{at-append, quiet_at}
use Rattle.ext_one_report.proofs.OwnCell.{OnlyAt}
use Rattle.ext_one_report.proofs.Open.{Given, MayStand, OnlyComputed, Open, Stands}
use Rattle.ext_one_report.proofs.Standing.{keeps_near, stays_there}

-- ---- a lane between two moments

-- It has seen more, and of all places it has acted at this one alone
pub record ActsOn (cell : ℕ) (a b : LaneView) : Type 0 where
  pub goes : IsPrefix (seen_by a) (seen_by b)
  pub number : b.number ≡ a.number
  pub mine : History
  pub own_is : own a.number (seen_by b) ≡ own a.number (seen_by a) ++ mine
  pub only : OnlyAt cell mine

acts_none : (cell : ℕ) (a m : LaneView) → m ≡ a → ActsOn cell a m
acts_none cell a m same =
    subst (ActsOn cell a) (sym same) (record { goes = prefix_refl (seen_by a); number = refl; mine = []; own_is = sym (append-nil (own a.number (seen_by a))); only = λ other off. refl })

pub acts_then : (cell : ℕ) (a m b : LaneView) → ActsOn cell a m → ActsOn cell m b → ActsOn cell a b
acts_then cell a m b first second =
    let later : own a.number (seen_by b) ≡ own a.number (seen_by m) ++ second.mine = subst (λ n. own n (seen_by b) ≡ own n (seen_by m) ++ second.mine) first.number second.own_is in
    record {
      goes = prefix_trans (seen_by a) (seen_by m) (seen_by b) first.goes second.goes;
      number = second.number ∙ first.number;
      mine = first.mine ++ second.mine;
      own_is = later ∙ (ap (λ l. l ++ second.mine) first.own_is ∙ append_assoc (own a.number (seen_by a)) first.mine second.mine);
      only = λ other off. at-append first.mine second.mine other ∙ (ap (λ l. l ++ events_at other second.mine) (first.only other off) ∙ second.only other off);
    }

pub acts_called : (cell : ℕ) (limits : Limits) (a b : LaneView) (acts : List (Act ℕ)) → Calls limits a b acts → OnlyAt cell (events_by a.number acts) → ActsOn cell a b
acts_called cell limits a b acts calls only = record { goes = seen_goes_on calls; number = same_number calls; mine = events_by a.number acts; own_is = calls.own_events; only = only }

-- ---- attempts of a compute

pub acts_quiet : (cell : ℕ) (limits : Limits) (a b : LaneView) → Calls limits a b [] → ActsOn cell a b
acts_quiet cell limits a b calls = acts_called cell limits a b [] calls (λ other off. refl)

pub acts_given_up : (store : StoreView) (context number : ℕ) (limits : Limits) (a b : LaneView) → Calls limits a b (claiming.given_up_events (context_cells store) context number) → ActsOn (cell_in store number context) a b
acts_given_up store context number limits a b calls =
    acts_called (cell_in store number context) limits a b (claiming.given_up_events (context_cells store) context number) calls (only_given_up (cell_in store number context) a.number)

module _ (store : StoreView) (context number : ℕ) where
  refused_acts : (limits : Limits) (ancestors : List ℕ) (a b : LaneView) (why : Refusal) → (IsDecided why → ⊥) → IsRefused limits store context ancestors number a b why → ActsOn (cell_in store number context) a b
  unfolding claiming.IsRefused claiming.Meets
  refused_acts limits ancestors a b (refusal.Busy at) undecided (inl holds) = acts_quiet (cell_in store number context) limits a b holds.calls
  refused_acts limits ancestors a b (refusal.Busy at) undecided (inr given_up) = acts_given_up store context number limits a b given_up.0
  refused_acts limits ancestors a b (refusal.Closed at) undecided refused_so = absurd (undecided tt)
  refused_acts limits ancestors a b refusal.Contended undecided (inl overtaken) = acts_quiet (cell_in store number context) limits a b overtaken.calls
  refused_acts limits ancestors a b refusal.Contended undecided (inr given_up) = acts_given_up store context number limits a b given_up.0
  refused_acts limits ancestors a b refusal.Exhausted undecided refused_so = absurd (undecided tt)
  refused_acts limits ancestors a b refusal.DirectoryFull undecided refused_so = absurd (undecided tt)
  refused_acts limits ancestors a b refusal.Unplaced undecided refused_so = absurd (undecided tt)
  refused_acts limits ancestors a b refusal.Memory undecided refused_so = absurd (undecided tt)

  pub vain_acts : (attempts : ℕ) (a m : LaneView) → VainAttempts (claiming.ClaimsMissing (context_cells store) context number) attempts a m → ActsOn (cell_in store number context) a m
  vain_acts zero a m same = acts_none (cell_in store number context) a m same
  vain_acts (suc attempts) a m more =
      let last = more.2 in
      acts_then (cell_in store number context) a more.0 m (vain_acts attempts a more.0 more.1) (refused_acts store.id.cells.limits last.refused.0 more.0 m last.why last.undecided last.refused.2)

-- ---- where the lane is alone

pub number_is : (a b : ℕ) → nat_eq a b ≡ true → a ≡ b
number_is a b is = grind (arith, nat_tests)

none_before : (first second : History) (cell : ℕ) → IsQuiet cell (first ++ second) → IsQuiet cell first
none_before first second cell quiet = let both = version-append first second cell in omega (arith, both, quiet)

module _ (run : RunView) (places : Places) (view : IsRunView run) (context : ℕ) (key : KeyValue) (number : ℕ) (has : HasNumberIn run key number) (apart : places context key ≡ false)
    (a b : LaneView) (alone : IsAlone run places a b) (acts : ActsOn (cell_of run number context) a b) where
  mine_apart : AreNotAt run places acts.mine
  mine_apart = record {
    quiet = λ c k n here has'. elim (bools (nat_eq (cell_of run number context) (cell_of run n c))) [
      | inr off ↦ quiet_at acts.mine (cell_of run n c) (acts.only (cell_of run n c) off)
      | inl on ↦
          let same = cells_apart run context c key k number n view has has' (number_is _ _ on) in
          let there : places context key ≡ places c k = λ i. places (same.0 i) (same.1 i) in
          absurd (true≢false (sym here ∙ (sym there ∙ apart)))
    ];
  }

  all_apart : (first second : History) → seen_by b ≡ seen_by a ++ (first ++ second) → AreNotAt run places (first ++ second)
  all_apart first second is =
      let n = a.number in
      let more : History = first ++ second in
      let made : own n more ≡ acts.mine = append_cancel_left (own n (seen_by a)) (own n more) acts.mine (sym (own_append lane_of n (seen_by a) more) ∙ (ap (own n) (sym is) ∙ acts.own_is)) in
      quiet_to run places a b alone more [] acts.mine (is ∙ ap (λ l. seen_by a ++ l) (sym (append-nil more))) made mine_apart

  -- what stood there stands there at each point
  pub slots_at : (p : History) → IsPrefix (seen_by a) p → IsPrefix p (seen_by b) → (c : ℕ) (k : KeyValue) (n : ℕ) → places c k ≡ true → HasNumberIn run k n → slots_in (cell_of run n) p c ≡ slots_in (cell_of run n) (seen_by a) c
  slots_at p since until c k n here has' =
      let first = since.0 in
      let second = until.0 in
      let is : seen_by b ≡ seen_by a ++ (first ++ second) = sym until.1 ∙ (ap (λ l. l ++ second) (sym since.1) ∙ append_assoc (seen_by a) first second) in
      let quiet = none_before first second (cell_of run n c) ((all_apart first second is).quiet c k n here has') in
      ap (λ l. slots_in (cell_of run n) l c) (sym since.1) ∙ (ap (λ (s : State ℕ). s.slots (cell_of run n c)) (after-append (seen_by a) first) ∙ slot_stays first (state_after (seen_by a)) (cell_of run n c) quiet)

  -- what matched before matches at each point
  pub matches_at : (s : ValueState) → Matches run places (seen_by a) s → (p : History) → IsPrefix (seen_by a) p → IsPrefix p (seen_by b) → Matches run places p s
  matches_at s matches p since until =
      let first = since.0 in
      let second = until.0 in
      let is : seen_by b ≡ seen_by a ++ (first ++ second) = sym until.1 ∙ (ap (λ l. l ++ second) (sym since.1) ∙ append_assoc (seen_by a) first second) in
      let quiet = all_apart first second is in
      let none : AreNotAt run places first = record { quiet = λ c k n here has'. none_before first second (cell_of run n c) (quiet.quiet c k n here has') } in
      subst (λ h. Matches run places h s) since.1 (others_keep_matches run places (seen_by a) first s none matches)

-- ---- at an open place

module _ (run : RunView) (open_at : Open) (a b : LaneView) (computed : OnlyComputed run open_at a b) (context : ℕ) (key : KeyValue) (number : ℕ) (v : Given) (is_open : open_at context key ≡ Some v)
    (has : HasNumberIn run key number) (p : History) (since : IsPrefix (seen_by a) p) (until : IsPrefix p (seen_by b)) where
  all_seen : seen_by b ≡ seen_by a ++ (since.0 ++ until.0)
  all_seen = sym until.1 ∙ (ap (λ l. l ++ until.0) (sym since.1) ∙ append_assoc (seen_by a) since.0 until.0)

  -- where the value may stand before, it may at each point
  pub near_at : MayStand run.meaning v (slots_in (cell_of run number) (seen_by a) context) → MayStand run.meaning v (slots_in (cell_of run number) p context)
  near_at near =
      subst (λ h. MayStand run.meaning v (slots_in (cell_of run number) h context)) since.1
      (keeps_near run v (cell_of run number context) (seen_by a) since.0 near (λ e there on. computed.each (since.0 ++ until.0) all_seen context key number v is_open has e (Contains-append_left since.0 until.0 e there) on))

  -- and where it stands at a point it stands in the end
  pub stands_on : (limits : Limits) → IsLegal limits (seen_by b) → Stands run.meaning v (slots_in (cell_of run number) p context) → Stands run.meaning v (slots_in (cell_of run number) (seen_by b) context)
  stands_on limits legal stands =
      let quiet : IsQuiet (cell_of run number context) until.0 =
      stays_there run limits v (cell_of run number context) stands.number until.0 p (subst (IsLegal limits) (sym until.1) legal) stands.there
      (λ e there on. computed.each (since.0 ++ until.0) all_seen context key number v is_open has e (Contains-append_right since.0 until.0 e there) on) in
      let stays : (state_after (p ++ until.0)).slots (cell_of run number context) ≡ (state_after p).slots (cell_of run number context) =
      ap (λ (s : State ℕ). s.slots (cell_of run number context)) (after-append p until.0) ∙ slot_stays until.0 (state_after p) (cell_of run number context) quiet in
      subst (λ h. Stands run.meaning v (slots_in (cell_of run number) h context)) until.1 (record { number = stands.number; there = stays ∙ stands.there; means = stands.means })
