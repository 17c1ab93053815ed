-- Lanes that met one after another, there and back.
use Rattle.std.proofs.Common.{◌≡◌, List, [], ◌∷◌, length, ap₂, arith, refl, subst, ◌∙◌, append-nil}
use Rattle.std.specs.Prelude.{All, AllPairs}
use Rattle.std.specs.List.{AllZip}
use mathlib.Core.List.{IsPrefix}
use base.Growing.{prefix_refl, prefix_trans}
use Rattle.std.proofs.lemmas.List.Elements.{All-nil, All-cons, All-head, All-tail}
use Rattle.ext_history.specs.Histories.{seen_by}
use Rattle.ext_history.proofs.Composed.{calls_none, seen_goes_on}
use Rattle.ext_history.proofs.Lanes.{own_between}
use Rattle.ext_model.specs.History.{History, IsLegal, lane_of, own}
use Rattle.ext_model.specs.CallActs.{Calls}
use Rattle.ext_model.proofs.Composed.{calls_compose}
use Rattle.ext_tree.specs.Keys.{KnownPlace, KeepsKeys}
use Rattle.ext_tree.proofs.KeyPlacing.{keeps_all, keeps_both}
use Rattle.ext_values.specs.Known.{AllAgree}
use Rattle.ext_store.specs.Stores.{StoreView, StoreLane, IsLaneOf}
use Rattle.ext_store.proofs.Frames.{fronts_are_seen}
use Rattle.ext_plan_parallel.specs.InnerMeeting.{HasRecalled, Turns}
use Rattle.ext_plan_parallel.specs.Opened.{ShareHistory, ShareKeys, all_faults, all_known}

longer : (h g : History) (fronts : List History) → IsPrefix h g → All (λ front. IsPrefix front h) fronts → All (λ front. IsPrefix front g) fronts
longer h g fronts on all = λ i d within. prefix_trans _ h g (all i d within) on

module _ {V : Type 0} (store : StoreView) where
  here : (a b : StoreLane V) → IsLaneOf store.id a → Calls a.cells.cells.limits a.cells.view b.cells.view [] → Calls store.id.cells.limits a.cells.view b.cells.view []
  here a b mine one = subst (λ cells. Calls cells.limits a.cells.view b.cells.view []) mine.cells one

  pub legal_here : (lane : StoreLane V) → IsLaneOf store.id lane → HasRecalled lane → IsLegal store.id.cells.limits (seen_by lane.cells.view)
  legal_here lane mine looked = subst (λ cells. IsLegal cells.limits (seen_by lane.cells.view)) mine.cells looked.legal

  -- the last lane: what it has seen is the history
  pub turns_last : (lane : StoreLane V) → IsLaneOf store.id lane → Turns store (seen_by lane.cells.view) lane.keys lane lane
  turns_last lane mine = record {
    lane = mine;
    calls = calls_none lane_of lane.cells.view;
    since = prefix_refl (seen_by lane.cells.view);
    until = prefix_refl (seen_by lane.cells.view);
    known = refl;
    faults = refl;
    keys = keeps_all lane.keys;
  }

  -- a lane that met the next one, which turned, and met it again
  pub turns_lane : (h : History) (k : List KnownPlace) (a b c next turned last : StoreLane V) → IsLaneOf store.id a → IsLaneOf store.id b → IsLaneOf store.id c
      → Calls a.cells.cells.limits a.cells.view b.cells.view [] → IsPrefix (seen_by b.cells.view) (seen_by next.cells.view) → Turns store h k next turned
      → IsLaneOf store.id turned → Calls turned.cells.cells.limits turned.cells.view last.cells.view [] → IsPrefix (seen_by last.cells.view) (seen_by c.cells.view)
      → Calls b.cells.cells.limits b.cells.view c.cells.view [] → b.known ≡ a.known → c.known ≡ b.known → b.faults ≡ a.faults → c.faults ≡ b.faults → KeepsKeys a.keys next.keys → Turns store h k a c
  turns_lane h k a b c next turned last mine mid own one met turn still back met_back two same later same_faults later_faults taught =
      let first = here a b mine one in
      let second = here b c mid two in
      record {
        lane = own;
        calls = calls_compose store.id.cells.limits a.cells.view b.cells.view c.cells.view [] [] first second;
        since = prefix_trans (seen_by a.cells.view) (seen_by next.cells.view) h (prefix_trans (seen_by a.cells.view) (seen_by b.cells.view) (seen_by next.cells.view) (seen_goes_on first) met) turn.since;
        until = prefix_trans h (seen_by last.cells.view) (seen_by c.cells.view) (prefix_trans h (seen_by turned.cells.view) (seen_by last.cells.view) turn.until (seen_goes_on (here turned last still back))) met_back;
        known = later ∙ same;
        faults = later_faults ∙ same_faults;
        keys = keeps_both a.keys next.keys k taught turn.keys;
      }

  -- and that one
  pub turns_next : (h : History) (k : List KnownPlace) (a b c d : StoreLane V) → IsLaneOf store.id a → IsLaneOf store.id d → Calls a.cells.cells.limits a.cells.view b.cells.view [] → Turns store h k b c
      → Calls c.cells.cells.limits c.cells.view d.cells.view [] → b.known ≡ a.known → d.known ≡ c.known → b.faults ≡ a.faults → d.faults ≡ c.faults → KeepsKeys a.keys b.keys → Turns store h k a d
  turns_next h k a b c d mine own one turn back same later same_faults later_faults kept =
      let first = here a b mine one in
      let last = here c d turn.lane back in
      record {
        lane = own;
        calls = calls_compose store.id.cells.limits a.cells.view b.cells.view d.cells.view [] [] first (calls_compose store.id.cells.limits b.cells.view c.cells.view d.cells.view [] [] turn.calls last);
        since = prefix_trans (seen_by a.cells.view) (seen_by b.cells.view) h (seen_goes_on first) turn.since;
        until = prefix_trans h (seen_by c.cells.view) (seen_by d.cells.view) turn.until (seen_goes_on last);
        known = later ∙ (turn.known ∙ same);
        faults = later_faults ∙ (turn.faults ∙ same_faults);
        keys = keeps_both a.keys b.keys k kept turn.keys;
      }

  -- ---- all lanes

  pub none_turn : (h : History) (k : List KnownPlace) (lanes : List (StoreLane V)) → length lanes ≡ 0 → AllZip (Turns store h k) lanes lanes
  none_turn h k [] none = tt
  none_turn h k (lane ∷ lanes) none = absurd (omega (arith, none))

  pub turns_mine : (h : History) (k : List KnownPlace) (before after : List (StoreLane V)) → AllZip (Turns store h k) before after → All (IsLaneOf store.id) after
  turns_mine h k [] [] turns = All-nil (IsLaneOf {V = V} store.id)
  turns_mine h k [] (b ∷ after) turns = absurd turns
  turns_mine h k (a ∷ before) [] turns = absurd turns
  turns_mine h k (a ∷ before) (b ∷ after) turns = All-cons (IsLaneOf store.id) b after turns.0.lane (turns_mine h k before after turns.1)

  pub turns_known : (h : History) (k : List KnownPlace) (before after : List (StoreLane V)) → AllZip (Turns store h k) before after → all_known after ≡ all_known before
  turns_known h k [] [] turns = refl
  turns_known h k [] (b ∷ after) turns = absurd turns
  turns_known h k (a ∷ before) [] turns = absurd turns
  turns_known h k (a ∷ before) (b ∷ after) turns = ap₂ ◌∷◌ turns.0.known (turns_known h k before after turns.1)

  pub turns_faults : (h : History) (k : List KnownPlace) (before after : List (StoreLane V)) → AllZip (Turns store h k) before after → all_faults after ≡ all_faults before
  turns_faults h k [] [] turns = refl
  turns_faults h k [] (b ∷ after) turns = absurd turns
  turns_faults h k (a ∷ before) [] turns = absurd turns
  turns_faults h k (a ∷ before) (b ∷ after) turns = ap₂ ◌∷◌ turns.0.faults (turns_faults h k before after turns.1)

  one_part : (h : History) (k : List KnownPlace) (a b : StoreLane V) → HasRecalled a → Turns store h k a b → All (λ front. IsPrefix front h) a.cells.view.fronts
  one_part h k a b looked turn = longer (seen_by a.cells.view) h a.cells.view.fronts turn.since (fronts_are_seen a.cells.view looked.follow)

  one_own : (h : History) (k : List KnownPlace) (a b : StoreLane V) → Turns store h k a b → own a.cells.view.number h ≡ own a.cells.view.number (seen_by a.cells.view)
  one_own h k a b turn =
      own_between lane_of a.cells.view.number (seen_by a.cells.view) h (seen_by b.cells.view) turn.since turn.until (turn.calls.own_events ∙ append-nil (own a.cells.view.number (seen_by a.cells.view)))

  all_parts : (h : History) (k : List KnownPlace) (before after : List (StoreLane V)) → All HasRecalled before → AllZip (Turns store h k) before after → All (λ lane. All (λ front. IsPrefix front h) lane.cells.view.fronts) before
  all_parts h k [] after looked turns = All-nil (λ (lane : StoreLane V). All (λ front. IsPrefix front h) lane.cells.view.fronts)
  all_parts h k (a ∷ before) [] looked turns = absurd turns
  all_parts h k (a ∷ before) (b ∷ after) looked turns =
      All-cons (λ (lane : StoreLane V). All (λ front. IsPrefix front h) lane.cells.view.fronts) a before (one_part h k a b (All-head HasRecalled a before looked) turns.0)
      (all_parts h k before after (All-tail HasRecalled a before looked) turns.1)

  all_own : (h : History) (k : List KnownPlace) (before after : List (StoreLane V)) → AllZip (Turns store h k) before after → All (λ lane. own lane.cells.view.number h ≡ own lane.cells.view.number (seen_by lane.cells.view)) before
  all_own h k [] after turns = All-nil (λ (lane : StoreLane V). own lane.cells.view.number h ≡ own lane.cells.view.number (seen_by lane.cells.view))
  all_own h k (a ∷ before) [] turns = absurd turns
  all_own h k (a ∷ before) (b ∷ after) turns =
      All-cons (λ (lane : StoreLane V). own lane.cells.view.number h ≡ own lane.cells.view.number (seen_by lane.cells.view)) a before (one_own h k a b turns.0) (all_own h k before after turns.1)

  all_keys : (h : History) (k : List KnownPlace) (before after : List (StoreLane V)) → AllZip (Turns store h k) before after → All (λ lane. KeepsKeys lane.keys k) before
  all_keys h k [] after turns = All-nil (λ (lane : StoreLane V). KeepsKeys lane.keys k)
  all_keys h k (a ∷ before) [] turns = absurd turns
  all_keys h k (a ∷ before) (b ∷ after) turns = All-cons (λ (lane : StoreLane V). KeepsKeys lane.keys k) a before turns.0.keys (all_keys h k before after turns.1)

  pub numbered : (h : History) (k : List KnownPlace) (before after : List (StoreLane V)) → AllZip (Turns store h k) before after → ShareKeys before
  numbered h k before after turns = record { numbering = k; parts = all_keys h k before after turns }

  pub shared : (h : History) (k : List KnownPlace) (before after : List (StoreLane V)) → IsLegal store.id.cells.limits h → All HasRecalled before → AllZip (Turns store h k) before after → AllPairs AllAgree (all_known after) → AllPairs AllAgree (all_faults after)
      → ShareHistory store before
  shared h k before after legal looked turns agree agree_faults = record {
    history = h;
    legal = legal;
    parts = all_parts h k before after looked turns;
    own_events = all_own h k before after turns;
    agree = subst (λ l. AllPairs AllAgree l) (turns_known h k before after turns) agree;
    agree_faults = subst (λ l. AllPairs AllAgree l) (turns_faults h k before after turns) agree_faults;
  }
