-- A lane as its seat knows it, and as contracts see it.
use Rattle.std.proofs.Common.{◌≡◌, ℕ, ◌+◌, ◌≤◌, ◌<◌, [], ◌∷◌, ◌++◌, sym, refl, subst, Some}
use mathlib.Core.List.{IsPrefix}
use Rattle.atomic_table.specs.Seated.{TableId}
use Rattle.ext_model.specs.declared.event.Act.{Act}
use Rattle.ext_model.specs.declared.event.Act.TheVariants.{Keep}
use Rattle.ext_model.specs.History.{History, by, IsLegal}
use Rattle.ext_history.specs.Histories.{seen, Follow}
use Rattle.ext_history.proofs.Legal.{legal_push}
use Rattle.ext_history.proofs.Fronts.{last_append, follow_append}
use base.Growing.{prefix_trans}
use Rattle.ext_cells.specs.declared.view.View.{View}
use Rattle.ext_cells.specs.Lanes.{Lane}
use Rattle.ext_cells.specs.InnerViews.{limits_of, knowing, shown}
use Rattle.ext_cells.specs.InnerTableSteps.{index_in, FoundBy, MayExchange}
use Rattle.ext_cells.specs.InnerSteps.{IsShown, Found, Made, stepped, Finds, MayGoOn, Draws}

abbrev pub lane_of : TableId → View → ℕ → Lane
lane_of table v number = record { cells = record { table = table; limits = limits_of v.limits }; view = record { number = number; fronts = v.fronts } }

-- what every lane's view is
abbrev pub IsLaneView : View → ℕ → Type 0
IsLaneView v number = (v.lane ≡ Some number) × IsLegal (limits_of v.limits) (seen v.fronts) × Follow [] v.fronts × (number < v.limits.lanes)

-- a step leaves a lane a lane
pub stays_lane : (v w : View) (h : History) (number : ℕ) → IsLaneView v number → IsLegal (limits_of v.limits) h → IsPrefix (seen v.fronts) h → w ≡ shown v h → IsLaneView w number
stays_lane v w h number inv legal begins e =
    subst (λ u. IsLaneView u number) (sym e)
    (inv.0, subst (IsLegal (limits_of v.limits)) (sym (last_append [] v.fronts (h ∷ []))) legal, follow_append [] v.fronts (h ∷ []) inv.2 (begins, tt), inv.3)

pub steps_stay : (v w : View) (h : History) (number : ℕ) → IsLaneView v number → IsLegal (limits_of v.limits) h → IsPrefix (seen v.fronts) h → IsShown v w h → IsLaneView w number
steps_stay v w h number inv legal begins e = stays_lane (knowing v e.indexed e.block e.least) w h number inv legal begins e.is

finds_of : (v : View) (number index word : ℕ) (h : History) → v.lane ≡ Some number → FoundBy v index word h → Finds (limits_of v.limits) (record { number = number; fronts = v.fronts }) index word h
finds_of v number index word h mine f = record {
  on = record { legal = f.legal; begins = f.begins; own_same = f.own_is number mine };
  word_is = f.word_is;
  below = f.lane_is number mine;
}

-- the lane after steps of which the last left this history
moved_lane : (table table' : TableId) (v w : View) (h : History) (number : ℕ) → table' ≡ table → IsShown v w h → lane_of table' w number ≡ stepped (lane_of table v number) h
moved_lane table table' v w h number same e = λ i. lane_of (same i) (e.is i) number

pub found_lane : (table table' : TableId) (v w : View) (number index word : ℕ) (lane : Lane) (h : History) → lane_of table v number ≡ lane → IsLaneView v number → FoundBy v index word h → table' ≡ table → IsShown v w h
    → (g : History) × Finds lane.cells.limits lane.view index word g × (lane_of table' w number ≡ stepped lane g)
found_lane table table' v w number index word lane h is inv f same e =
    subst (λ l. (g : History) × Finds l.cells.limits l.view index word g × (lane_of table' w number ≡ stepped l g)) is
    (h, finds_of v number index word h inv.0 f, moved_lane table table' v w h number same e)

-- the lane may make the act wherever it finds the word
pub may_exchange : (table : TableId) (v : View) (number index old new : ℕ) (act : Act ℕ) (lane : Lane) → lane_of table v number ≡ lane → IsLaneView v number → index ≡ index_in lane.cells.limits act → index ≤ lane.cells.limits.cells
    → ((h : History) → Finds lane.cells.limits lane.view index old h → MayGoOn lane.cells.limits lane.view h index new act) → MayExchange v number act index old new
may_exchange table v number index old new act lane is inv here within may =
    let may' : (h : History) → Finds (limits_of v.limits) (record { number = number; fronts = v.fronts }) index old h → MayGoOn (limits_of v.limits) (record { number = number; fronts = v.fronts }) h index new act =
    subst (λ l. (h : History) → Finds l.cells.limits l.view index old h → MayGoOn l.cells.limits l.view h index new act) (sym is) may in
    record {
      lane_is = inv.0;
      here = subst (λ (l : Lane). index ≡ index_in l.cells.limits act) (sym is) here;
      within = subst (λ (l : Lane). index ≤ l.cells.limits.cells) (sym is) within;
      allowed = λ h f. (may' h (finds_of v number index old h inv.0 f)).allowed;
      leaves = λ h f. (may' h (finds_of v number index old h inv.0 f)).word_is;
    }

module _ (table table' : TableId) (v w : View) (number index old new word : ℕ) (act : Act ℕ) (lane : Lane) (is : lane_of table v number ≡ lane) (inv : IsLaneView v number) (same : table' ≡ table) where
  -- an exchange that met the word made its event
  pub made_lane : ((h : History) → Finds lane.cells.limits lane.view index old h → MayGoOn lane.cells.limits lane.view h index new act) → Made v w index old act
      → (h : History) × Finds lane.cells.limits lane.view index old h × MayGoOn lane.cells.limits lane.view h index new act × (lane_of table' w number ≡ stepped lane (h ++ by lane.view.number act ∷ []))
  made_lane may did =
      let m = did number inv.0 in
      let g : Finds lane.cells.limits lane.view index old m.0 = subst (λ l. Finds l.cells.limits l.view index old m.0) is (finds_of v number index old m.0 inv.0 m.1) in (
        m.0,
        g,
        may m.0 g,
        subst (λ l. lane_of table' w number ≡ stepped l (m.0 ++ by l.view.number act ∷ [])) is (moved_lane table table' v w (m.0 ++ by number act ∷ []) number same m.3),
      )

  -- and one that met another is a load
  pub missed_lane : Found v w index word → (h : History) × Finds lane.cells.limits lane.view index word h × (lane_of table' w number ≡ stepped lane h)
  missed_lane m = found_lane table table' v w number index word lane m.0 is inv m.1 same m.2

  pub made_stays : Made v w index old act → IsLaneView w number
  made_stays did =
      let m = did number inv.0 in
      steps_stay v w (m.0 ++ by number act ∷ []) number inv (legal_push m.0 (by number act) m.1.legal m.2) (prefix_trans (seen v.fronts) m.0 (m.0 ++ by number act ∷ []) m.1.begins (by number act ∷ [], refl)) m.3

  pub missed_stays : Found v w index word → IsLaneView w number
  missed_stays m = steps_stay v w m.0 number inv m.1.legal m.1.begins m.2

module _ (table table' : TableId) (v w : View) (number : ℕ) (lane : Lane) (is : lane_of table v number ≡ lane) (inv : IsLaneView v number) (same : table' ≡ table) where
  -- an addition to the count drew a number
  pub drew_lane : (count : ℕ) → count < v.limits.numbers → Made v w v.limits.cells count (Keep (count + 1)) → Draws lane (lane_of table' w number) (count + 1)
  drew_lane count less did =
      let m = did number inv.0 in
      subst (λ (l : Lane). Draws l (lane_of table' w number) (count + 1)) is (record {
        count = count;
        next = refl;
        left = less;
        history = m.0;
        finds = finds_of v number v.limits.cells count m.0 inv.0 m.1;
        allowed = m.2;
        after_is = moved_lane table table' v w (m.0 ++ by number (Keep (count + 1)) ∷ []) number same m.3;
      })

  -- or found that none was left
  pub full_lane : Found v w v.limits.cells v.limits.numbers → (h : History) × Finds lane.cells.limits lane.view lane.cells.limits.cells lane.cells.limits.numbers h × (lane_of table' w number ≡ stepped lane h)
  full_lane m =
      subst (λ (l : Lane). (h : History) × Finds l.cells.limits l.view l.cells.limits.cells l.cells.limits.numbers h × (lane_of table' w number ≡ stepped l h)) is
      (m.0, finds_of v number v.limits.cells v.limits.numbers m.0 inv.0 m.1, moved_lane table table' v w m.0 number same m.2)
