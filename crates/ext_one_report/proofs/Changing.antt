-- Which cells the events of a run are on.
use Rattle.std.proofs.Common.{◌≡◌, inl, inr, ℕ, ◌<◌, List, [], ◌∷◌, length, ap, sym, subst, ◌∙◌}
use Rattle.std.specs.Prelude.{All, Contains, IfSome, None, Option, Some, slice_get}
use Rattle.std.proofs.lemmas.List.Elements.{All-contains, All-head}
use base.Growing.{prefix_refl}
use Rattle.ext_history.specs.Histories.{seen_by}
use Rattle.ext_history.proofs.Lists.{contains_cons, contains_here, contains_later, contains_none}
use Rattle.ext_model.specs.declared.event.Act.{Act}
use Rattle.ext_model.specs.declared.event.Act.TheVariants.{Seal}
use Rattle.ext_model.specs.declared.event.Event.{Event}
use Rattle.ext_model.specs.declared.look.Fault.{Fault}
use Rattle.ext_model.specs.Events.{place_of}
use Rattle.ext_model.specs.History.{History}
use Rattle.ext_lifecycle.specs.declared.call.Call.{Call}
use Rattle.ext_lifecycle.specs.declared.outcome.Outcome.{Outcome}
use Rattle.ext_tree.specs.Trees.{IsParentOf, IsPathOf, IsTree}
use Rattle.ext_cells.specs.Lanes.{Lane}
use Rattle.ext_store.specs.Stores.{StoreLane, StoreView, cell_in}
use Rattle.ext_closing.specs.Lanes.{OnlyFirstSteps, first_lane}
use Rattle.ext_closing.specs.Sealing.{MakesSeals}
use Rattle.ext_store.specs.ContextCalls.{seals_of}
use Rattle.ext_locks.specs.Sets.{HeldView}
use Rattle.ext_engine.specs.RunLaws.{IsAtOrBelow}
use Rattle.ext_engine.specs.Meeting.{HasSeenWithin}
use Rattle.ext_engine.specs.Order.{CallsGoOn, IsMadeBy, IsMadeIn, LaneGoesOn}
use Rattle.ext_engine.specs.TreeRun.{ClosesNode, Lanes, Ran, TreeRun, TreeSetting, with_calls}
use Rattle.ext_engine.proofs.Above.{at_or_below, under, under_child, under_itself, under_under, within_tree}
use Rattle.ext_engine.proofs.Acts.{same_made}
use Rattle.ext_engine.proofs.Finer.{tree_finer}
use Rattle.ext_engine.proofs.Going.{goes_met, goes_same, goes_sealed, goes_then}
use Rattle.ext_one_report.specs.AloneLaws.{CallsAlone}
use Rattle.ext_one_report.specs.Changing.{ActsAreOnly, AloneOnCells, ApartIsLeft, CallsAloneOnCells, CallsAreAloneOnCells, IsBelow, IsCallOf, NodesChangeOnly, RunsChangeOnly}
use Rattle.ext_one_report.proofs.CallsAlone.{calls_are_alone}
use Rattle.ext_one_report.proofs.Containers.{are_children, is_concurrent_child}
use Rattle.ext_one_report.proofs.Events.{made_acts, made_in_seen, one_event}
use Rattle.ext_one_report.proofs.Made.{tree_on}

-- ---- acts

pub on_cells : (cells : List ℕ) (place : Option ℕ) (cell : ℕ) → IfSome place (λ c. Contains cells c) → place ≡ Some cell → Contains cells cell
on_cells cells None cell on is = absurd (cc is)
on_cells cells (Some c) cell on is = subst (λ x. Contains cells x) (cc is) on

pub acts_are_only : {V : Type 0} → ActsAreOnly V
acts_are_only limits cells acts before after calls on = record {
  each = λ place cell made is.
      let seen = seen_by after.cells.view in
      on_cells cells (place_of made.event.act) cell
      (All-contains (λ act. IfSome (place_of act) (λ c. Contains cells c)) acts made.event.act on (made_acts limits acts before after seen place calls (prefix_refl seen) made)) is;
}

-- ---- seals

pub one_of_seals : (store : StoreView) (context : ℕ) (keys : List ℕ) (act : Act ℕ) → Contains (seals_of store context keys) act → (key : ℕ) × Contains keys key × (Seal (cell_in store key context) ≡ act)
one_of_seals store context [] act there = absurd (contains_none act there)
one_of_seals store context (key ∷ keys) act there = elim (contains_cons _ (seals_of store context keys) act there) [
  | inl same ↦ (key, contains_here key keys, same)
  | inr later ↦ let r = one_of_seals store context keys act later in (r.0, contains_later key keys r.0 r.1, r.2)
]

-- the event at this place seals the cell of a place of keys in the context
pub record IsSealIn (store : StoreView) (context : ℕ) (h : History) (place : ℕ) : Type 0 where
  pub event : Event ℕ
  pub there : slice_get h place ≡ Some event
  pub key : ℕ
  pub within : key < length store.id.keys
  pub seals : event.act ≡ Seal (cell_in store key context)

module _ {V A : Type 0} (t : TreeSetting V A) (h : History) (node : ℕ) where
  abbrev with_cells : StoreLane V → Lane → StoreLane V
  with_cells a cells = record { cells = cells; known = a.known; faults = a.faults; keys = a.keys }

  lane_seals : (a : StoreLane V) (cells : Lane) → MakesSeals t.store node a.cells cells → HasSeenWithin h (with_cells a cells) → (place : ℕ) → IsMadeBy h place a (with_cells a cells) → IsSealIn t.store node h place
  lane_seals a cells made within place one =
      let acts = seals_of t.store node made.sealed in
      let seal = one_of_seals t.store node made.sealed one.event.act (made_acts a.cells.cells.limits acts a (with_cells a cells) h place made.calls within one) in
      record { event = one.event; there = one.there; key = seal.0; within = made.keys seal.0 seal.1; seals = sym seal.2 }

  first_seals : (xs ys : List (StoreLane V)) → OnlyFirstSteps xs ys → MakesSeals t.store node (first_lane t.store xs) (first_lane t.store ys) → All (HasSeenWithin h) ys → (place : ℕ) → IsMadeIn h place xs ys
      → IsSealIn t.store node h place
  first_seals [] ys steps sealed within place made = absurd made
  first_seals (a ∷ xs) ys steps sealed within place made =
      let b = with_cells a steps.0 in
      let is : first_lane t.store ys ≡ steps.0 = ap (λ l. first_lane t.store l) steps.1 in
      let here : IsMadeIn h place (a ∷ xs) (b ∷ xs) = subst (λ l. IsMadeIn h place (a ∷ xs) l) steps.1 made in
      elim here [
        | inl one ↦
            lane_seals a steps.0 (subst (λ (lane : Lane). MakesSeals t.store node a.cells lane) is sealed)
            (All-head (HasSeenWithin h) b xs (subst (All (HasSeenWithin h)) steps.1 within)) place one
        | inr more ↦ absurd (same_made h xs place more)
      ]

  pub close_seals : (before : List (StoreLane V)) (faults : List (Option Fault)) (after : List (StoreLane V)) → ClosesNode t node before faults after → All (HasSeenWithin h) after → (place : ℕ) → IsMadeIn h place before after
      → IsSealIn t.store node h place
  close_seals before faults after c within place made =
      first_seals before after c.closes.lanes
      (subst (λ (context : ℕ). MakesSeals t.store context (first_lane t.store before) (first_lane t.store after)) c.context_is c.closes.own_events) within place made

-- ---- runs

module _ {V A : Type 0} (t : TreeSetting V A) (changed : ℕ → List ℕ) (moves : CallsGoOn t.call_gives) (tree : IsTree t.store.tree) (keeps : NodesChangeOnly t changed) (h : History) where
  -- the event at this place is on no cell, or on one that the node or a node below it changes
  abbrev On : ℕ → ℕ → Type 0
  On node place = (cell : ℕ) (event : Event ℕ) → slice_get h place ≡ Some event → place_of event.act ≡ Some cell → IsBelow t changed node cell

  itself : (node : ℕ) (path : List ℕ) → IsPathOf t.store.tree node path → IsAtOrBelow t.store.tree node node
  itself node path path_is = at_or_below t.store.tree node node (under_itself t.store.tree node path path_is)

  call_on : (node : ℕ) (call : Call) → IsCallOf t node call → (held : Option HeldView) (a : StoreLane V) (outcome : Outcome) (b : StoreLane V) → t.call_gives node call held a outcome b → HasSeenWithin h b
      → (place : ℕ) → IsMadeBy h place a b → On node place
  call_on node call mine held a outcome b gives within place one cell event there is =
      let same = one_event h place one.event event one.there there in
      record { one = node; below = itself node mine.path mine.path_is; has = (keeps.calls node call mine held a outcome b gives).each place cell (made_in_seen h place a b within one) (subst (λ (e : Event ℕ). place_of e.act ≡ Some cell) (sym same) is) }

  close_on : (node : ℕ) (path : List ℕ) → IsPathOf t.store.tree node path → (before : List (StoreLane V)) (faults : List (Option Fault)) (after : List (StoreLane V)) → ClosesNode t node before faults after → All (HasSeenWithin h) after
      → (place : ℕ) → IsMadeIn h place before after → On node place
  close_on node path path_is before faults after closes within place made cell event there is =
      let seal = close_seals t h node before faults after closes within place made in
      let same = one_event h place seal.event event seal.there there in
      let on : Some (cell_in t.store seal.key node) ≡ Some cell = ap place_of (sym seal.seals ∙ ap (λ (e : Event ℕ). e.act) same) ∙ is in
      let has = keeps.closes node seal.key (within_tree t.store.tree node path tree path_is) seal.within in
      record { one = node; below = itself node path path_is; has = subst (λ (c : ℕ). Contains (changed node) c) (cc on) has }

  up_on : (node child place : ℕ) → IsParentOf t.store.tree node child → On child place → On node place
  up_on node child place parent on cell event there is =
      let ids = t.store.tree in
      let r = on cell event there is in
      record { one = r.one; below = at_or_below ids node r.one (under_child ids tree node child r.one parent (under ids child r.one r.below)); has = r.has }

  tree_changes : (depth node : ℕ) (before : Lanes V) (ran : List Ran) (after : Lanes V) → TreeRun t depth node before ran after → All (HasSeenWithin h) after.first → (place : ℕ) → IsMadeIn h place before.first after.first → On node place
  tree_changes depth node before ran after run within place made =
      tree_on t moves h (IsParentOf t.store.tree) On
      (record { calls = call_on; closes = close_on; concurrent = λ node path path_is. is_concurrent_child t tree node path path_is; others = λ node path path_is. are_children t tree node path path_is; up = up_on })
      depth node before ran after run within place made

-- ---- laws

module _ {V A : Type 0} (t : TreeSetting V A) (changed : ℕ → List ℕ) (moves : CallsGoOn t.call_gives) where
  pub runs_change_only : RunsChangeOnly t changed
  runs_change_only tree keeps h depth node before ran after run within place cell event made there is = tree_changes t changed moves tree keeps h depth node before ran after run within place made cell event there is

  pub alone_on_cells : AloneOnCells t changed
  alone_on_cells tree keeps h node before after alone = record {
    each = λ place cell event seen there is left. elim (alone.each place seen) [
      | inl made ↦ made
      | inr b ↦
          let its = tree_changes t changed moves tree keeps h b.depth b.other b.made.before b.made.ran b.made.after b.made.run b.made.within place b.made.made cell event there is in
          absurd (left.left b.container b.child b.other b.concurrent b.other_concurrent b.differ b.below its)
    ];
  }

  pub apart_is_left : ApartIsLeft t changed
  apart_is_left tree looked apart node cell looks = record {
    left = λ container child other concurrent other_concurrent differ below its.
        let ids = t.store.tree in
        let mine : IsBelow t looked child cell = record {
          one = looks.one;
          below = at_or_below ids child looks.one (under_under ids tree child node looks.one (under ids child node below) (under ids node looks.one looks.below));
          has = looks.has;
        } in
        apart.apart container child other concurrent other_concurrent differ cell mine its;
  }

  abbrev Finer : History → ℕ → Call → Option HeldView → StoreLane V → Outcome → StoreLane V → Type 0
  Finer h node call held a outcome b = CallsAloneOnCells t changed h node call held a outcome b

  pub calls_alone_on_cells : CallsAreAloneOnCells t changed
  calls_alone_on_cells tree keeps h depth node before ran after r =
      let alone = calls_are_alone t moves tree h depth node before ran after r in
      tree_finer (with_calls (CallsAlone t h) t) (Finer h) LaneGoesOn goes_same goes_then
      (λ node call held a outcome b c. moves node call held a outcome b c.makes) (goes_met t.store) (goes_sealed t.store) (λ b. Unit {0}) (λ a b go l. l)
      (λ node call held a outcome b c l. record { makes = c.makes; within = c.within; alone = alone_on_cells tree keeps h node (a ∷ []) (b ∷ []) c.alone })
      depth node before ran after alone (λ k d l. tt)
