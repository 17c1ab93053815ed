-- The concurrent children of a container that share places: from before them to after them, on the lanes and in the plain run.
use Rattle.std.proofs.Common.{◌≡◌, ◌≢◌, ℕ, ◌<◌, ◌⊎◌, inl, inr, true, false, not, List, ◌∷◌, length, take_all, None, Option, Some, is_some, refl, ap, sym, subst, ◌∙◌, arith}
use Rattle.std.specs.Prelude.{All, Contains}
use Rattle.std.proofs.lemmas.List.Elements.{All-contains, Contains-get_or}
use Rattle.ext_history.proofs.Lists.{bools, contains_later}
use Rattle.ext_model.specs.declared.event.Act.TheVariants.{Claim}
use Rattle.ext_model.specs.declared.slot.Slot.{Slot}
use Rattle.ext_model.specs.declared.slot.Slot.TheVariants as slot
use Rattle.ext_model.specs.History.{by as event_by, slots_in}
use Rattle.ext_one_report.proofs.Numbers.{enough_numbers}
use Rattle.ext_tree.specs.Keys.{KeyValue}
use Rattle.ext_tree.specs.Trees.{IsPathOf}
use Rattle.ext_engine.specs.Meeting.{first_seen}
use Rattle.ext_engine.proofs.Above.{Under, under_under}
use Rattle.ext_engine.proofs.Acts.{shorter}
use Rattle.ext_one_report.specs.Changing.{events_at}
use Rattle.ext_one_report.proofs.Kept.{same_there}
use Rattle.ext_plan_plain.specs.PlainRun.{RunState}
use Rattle.ext_one_report.proofs.MatchingWords.{HasNumberIn, TextMeaning, cell_of, plain_meaning, plain_slot}
use Rattle.ext_one_report.proofs.StandingsWords.{AreMatched, KnowsMore, nothing, standing_of}
use Rattle.ext_one_report.proofs.Matching.{knows_itself}
use Rattle.ext_one_report.proofs.OnCells.{same_slot}
use Rattle.ext_one_report.proofs.Standings.{matched_by_more}
use Rattle.ext_one_report.specs.Within.{is_within}
use Rattle.ext_one_report.proofs.PlainFrames.{IsOpen, LeavesElse}
use Rattle.ext_one_report.proofs.Open.{AreNear, Given, MayStand, Open, StandsOrNot, also, is_left, is_open, of_fault, of_nothing, of_value, still_open}
use Rattle.ext_one_report.proofs.Shared.{unshared}
use Rattle.ext_one_report.proofs.OpenStep.{both_match, knows_more, open_value, or_not_more, value_is_open}
use Rattle.ext_one_report.proofs.Levels.{AreLevel, outside}
use Rattle.ext_one_report.proofs.ChildLists.{apart_behind, which}
use Rattle.ext_one_report.proofs.NodePlaces.{and_of, any_none, any_of, away, away_first, away_from, both_ways, carried, never, or_first, within_any, within_none}
use Rattle.ext_one_report.proofs.NodePlain.{IsFine}
use Rattle.ext_one_report.proofs.NodeTrees.{long, under_within, within_parent, within_under}
use Rattle.ext_one_report.proofs.SharedEventsClaims.{claim_is_last, claims_end}
use Rattle.ext_one_report.proofs.SharedNodesBasis.{both_share, in_plan, plan_tree}
use Rattle.ext_one_report.proofs.SharedNodesBegins.{Gone, absent_first, all_children, all_fine, all_leave, before_it, clear_first, empty_first, its_own, once_beside}
use Rattle.ext_one_report.proofs.SharedNodesBody.{Body, ChildrenEnd, Ends, Ground, IsChild, acts_at, after_all, beside_child, begun_at, cell, child_at, computed_at, conc, cs, ended_at, ends_in, free, frozen, here, ids, in_nodes, job_at, maker, maker_changes, maker_of, open_of, over_at, ran_at, s_of, shared_below, since, since_until, touches, u_of, unshared_none, until, until_in_h, up_to}
use Rattle.ext_one_report.proofs.SharedNodesCells.{near_stay}
use Rattle.ext_one_report.proofs.SharedNodesGone.{after_it, behind, behind_in, ended_near, gone_at, rest_leaves, to_all}
use Rattle.ext_one_report.proofs.SharedNodesPasses.{Passes, computed_between}
use Rattle.ext_one_report.proofs.SharedNodesPlaces.{not_both, still_cases, still_parts, unshared_is, unshared_parts}

-- ---- places outside a node

module _ (g : Ground) where
  -- a place that the node shares is in the context of none of its children, nor below one
  pub off_node : (context : ℕ) (key : KeyValue) (v : Given) → g.shares g.node context key ≡ Some v → (xs : List ℕ) → ((x : ℕ) → Contains xs x → IsChild g x) → within_any g.plan xs context ≡ false
  off_node context key v is xs children = within_none g.plan xs context (λ x there within.
      let few = g.basis.covered.within g.node context key (g.basis.shared.touched_there g.node context key v is) in
      let size = long g.plan (plan_tree g.plan g.run g.locks g.h g.touched g.changes g.changed g.shares g.basis) in
      both_ways (is_within g.plan g.node context)
      (within_parent g.plan (plan_tree g.plan g.run g.locks g.h g.touched g.changes g.changed g.shares g.basis) g.node x context (children x there) (omega (arith, few, size)) within) (g.basis.shared.outside g.node context key v is))

  -- nor are the places above it
  pub off_above : (context at : ℕ) (key : KeyValue) (v : Given) (above : List ℕ) → g.shares g.node context key ≡ Some v → IsPathOf (ids g) context (context ∷ above) → Contains above at → (xs : List ℕ)
      → ((x : ℕ) → Contains xs x → IsChild g x) → within_any g.plan xs at ≡ false
  off_above context at key v above is path_is there xs children = within_none g.plan xs at (λ x among within.
      let tree = plan_tree g.plan g.run g.locks g.h g.touched g.changes g.changed g.shares g.basis in
      let few = g.basis.covered.within g.node context key (g.basis.shared.touched_there g.node context key v is) in
      let P : ℕ → Type 0 = λ k. (g.touched g.node k key ≡ true) × (g.shares g.node k key ≡ None) × (g.changes g.node k key ≡ false) in
      let one = All-contains P above at (g.basis.shared.above g.node context key v above is path_is) there in
      let few_at = g.basis.covered.within g.node at key one.0 in
      let size = long g.plan tree in
      let up : Under (ids g) at context = record { walk = above; is_walk = path_is.1; on_walk = contains_later context above at there } in
      let low = under_under (ids g) tree x at context (within_under g.plan tree x at (omega (arith, few_at, size)) within) up in
      both_ways (is_within g.plan g.node context) (within_parent g.plan tree g.node x context (children x among) (omega (arith, few, size)) (under_within g.plan tree x context low)) (g.basis.shared.outside g.node context key v is))

  -- and none of its children changes those
  pub above_same : (context at : ℕ) (key : KeyValue) (v : Given) (above : List ℕ) → g.shares g.node context key ≡ Some v → IsPathOf (ids g) context (context ∷ above) → Contains above at → (xs : List ℕ)
      → ((x : ℕ) → Contains xs x → IsChild g x) → any_of g.changes xs at key ≡ false
  above_same context at key v above is path_is there xs children = any_none g.changes xs at key (λ x among ch.
      let P : ℕ → Type 0 = λ k. (g.touched g.node k key ≡ true) × (g.shares g.node k key ≡ None) × (g.changes g.node k key ≡ false) in
      let one = All-contains P above at (g.basis.shared.above g.node context key v above is path_is) there in
      both_ways (g.changes g.node at key) (g.basis.covered.changed_above g.node x at key (children x among) ch) one.2)

pub some_there : (o : Option Given) → is_some o ≡ true → (v : Given) × (o ≡ Some v)
some_there None is = absurd (cc is)
some_there (Some v) is = (v, refl)

-- where nothing is kept, nothing stands, or a claim
none_or_claimed : (meaning : TextMeaning) (v : Given) (x : Option Slot) → is_left v ≡ false → MayStand meaning v x → (x ≡ None) ⊎ ((lane : ℕ) × (x ≡ Some (slot.Claim lane)))
none_or_claimed meaning (of_value v) x off near = absurd (cc off)
none_or_claimed meaning (of_fault text) x off near = absurd (cc off)
none_or_claimed meaning (of_nothing text) None off near = inl refl
none_or_claimed meaning (of_nothing text) (Some (slot.Entry number)) off near = absurd near
none_or_claimed meaning (of_nothing text) (Some (slot.Fault number)) off near = absurd near
none_or_claimed meaning (of_nothing text) (Some (slot.Claim lane)) off near = inr (lane, refl)
none_or_claimed meaning (of_nothing text) (Some (slot.Sealed kept)) off near = absurd near

pub no_value : (o : Option Given) → (is_some o ≡ true → ⊥) → o ≡ None
no_value None none = refl
no_value (Some v) none = absurd (none refl)

module _ (g : Ground) (b : Body g) (each : ChildrenEnd g) (drawn : (after_all g b.r (cs g b)).state.store.drawn < enough_numbers g.plan.size) where
  abbrev count : ℕ
  count = length (cs g b)

  -- the plain run after them
  abbrev last : RunState
  last = after_all g b.r (cs g b)

  pub all_of_them : All (IsChild g) (cs g b)
  all_of_them = all_children g b (cs g b) (λ x there. there)

  pub leaves : LeavesElse (any_of g.changes (cs g b)) (within_any g.plan (cs g b)) b.r.state last.state
  leaves = all_leave g b (cs g b) b.r all_of_them b.fine

  pub fine_then : IsFine g.plan last
  fine_then = all_fine g b (cs g b) b.r all_of_them b.fine

  gone_last : (gone : Gone g b count last) × (gone.settled ≡ (gone_at g b each drawn count (to_all g b each drawn)).settled)
  gone_last =
      let first = gone_at g b each drawn count (to_all g b each drawn) in
      subst (λ (l : List ℕ). (gone : Gone g b count (after_all g b.r l)) × (gone.settled ≡ first.settled)) (take_all count (cs g b) (omega arith)) (first, refl)

  pub gone : Gone g b count last
  gone = gone_last.0

  pub gone_settled : gone.settled ≡ (gone_at g b each drawn count (to_all g b each drawn)).settled
  unfolding gone
  gone_settled = gone_last.1

  knows : KnowsMore (plain_meaning b.r.state.values) (plain_meaning last.state.values)
  knows = knows_more (any_of g.changes (cs g b)) (within_any g.plan (cs g b)) b.r.state last.state leaves

  -- what is open still
  abbrev pub later : Open
  later = still_open gone.settled b.o

  -- ---- a place that one of them shares

  -- One that is free and not open for the container, where nothing is kept: a claim that stands there in the end was made by one of them, and in its run it ended
  pub given_up : (context number : ℕ) (key : KeyValue) (v : Given) (c : ℕ) → Contains (cs g b) c → g.shares c context key ≡ Some v → is_left v ≡ false → b.o context key ≡ None → free g b context key ≡ true
      → HasNumberIn g.run key number → slots_in (cell_of g.run number) (until g b) context ≡ None
  given_up context number key v c c_in is nothing_left none fr has =
      let wide = up_to g b c context key c_in (touches g b c context key v is) in
      let empty = absent_first g b context number key wide none fr has in
      let first : MayStand g.run.meaning v (slots_in (cell_of g.run number) (since g b) context) = subst (λ x. MayStand g.run.meaning v x) (sym empty) tt in
      let in_the_end = near_stay g.h (since g b) (until g b) (since_until g b) (until_in_h g b) (cell g b number context) g.run v first (computed_at g b c c_in context number key v is has) in
      elim (none_or_claimed g.run.meaning v (slots_in (cell_of g.run number) (until g b) context) nothing_left in_the_end) [
        | inl nothing_there ↦ nothing_there
        | inr claimed ↦
            let lane = claimed.0 in
            let since_then = claim_is_last g.h (since g b) (until g b) (cell g b number context) lane (since_until g b) (until_in_h g b) (λ early. absurd (cc (sym empty ∙ early))) claimed.1 in
            let by = maker g b context number since_then.place key (event_by lane (Claim (cell g b number context))) wide none has since_then.seen.since since_then.seen.until since_then.there refl in
            let ended = claims_end g.plan g.run g.locks g.h g.touched g.changes g.changed g.shares g.depth (child_at g b by.i) (s_of g b by.i) (ran_at g b by.i) (u_of g b by.i) g.basis (job_at g b by.i by.less).run (ends_in g b by.i by.less)
            since_then.place lane (cell g b number context) since_then.there by.made in
            let within = ((acts_at g b by.i by.less).seen ended.later ended.made).1 in
            let end = shorter (first_seen (u_of g b by.i).first) (until g b) (ended_at g b by.i by.less) in
            absurd (since_then.last ended.later ended.event ended.behind (omega (arith, within, end)) ended.there ended.on)
      ]

  -- nothing stands there in either run
  none_kept : (context number : ℕ) (key : KeyValue) (v : Given) (c : ℕ) → Contains (cs g b) c → g.shares c context key ≡ Some v → is_left v ≡ false → b.o context key ≡ None → free g b context key ≡ true
      → gone.settled context key ≡ false → HasNumberIn g.run key number
      → AreMatched g.run.meaning (plain_meaning last.state.values) (slots_in (cell_of g.run number) (until g b) context) (plain_slot last.state context key)
  none_kept context number key v c c_in is nothing_left none fr off has =
      let few = in_nodes g b c context key (touches g b c context key v is) in
      record {
        standing = nothing;
        here = ap (standing_of g.run.meaning) (given_up context number key v c c_in is nothing_left none fr has);
        there = ap (standing_of (plain_meaning last.state.values)) (gone.unchanged context key v c off fr c_in is ∙ empty_first g b context key few none fr);
      }

  -- one where something is left, and where nothing was done
  newly_open : (context number : ℕ) (key : KeyValue) (v : Given) (c : ℕ) → Contains (cs g b) c → g.shares c context key ≡ Some v → b.o context key ≡ None → free g b context key ≡ true → gone.settled context key ≡ false
      → is_left v ≡ true → HasNumberIn g.run key number → AreMatched g.run.meaning (plain_meaning last.state.values) (slots_in (cell_of g.run number) (until g b) context) (plain_slot last.state context key)
  newly_open context number key v c c_in is none fr off left has =
      let wide = up_to g b c context key c_in (touches g b c context key v is) in
      let quiet = same_there g.h (since g b) (until g b) (cell g b number context) (since_until g b) (until_in_h g b) (λ place event low high there on.
      let by = maker g b context number place key event wide none has low high there on in
      gone.untouched by.i context number place key v c event by.less off fr c_in is left has there on by.made) in
      let first = matched_by_more g.run.meaning (plain_meaning b.r.state.values) g.run.meaning (plain_meaning last.state.values) (slots_in (cell_of g.run number) (since g b) context) (plain_slot b.r.state context key)
      (knows_itself g.run.meaning) knows (b.level.matches.slots context key number (unshared_is (g.touched g.node) b.o context key wide none) has) in
      subst (λ y. AreMatched g.run.meaning (plain_meaning last.state.values) (slots_in (cell_of g.run number) (until g b) context) y) (sym (gone.unchanged context key v c off fr c_in is))
      (subst (λ x. AreMatched g.run.meaning (plain_meaning last.state.values) x (plain_slot b.r.state context key)) (same_slot (since g b) (until g b) (cell g b number context) (sym quiet)) first)

  -- one that is not free
  frozen_still : (context number : ℕ) (key : KeyValue) (v : Given) (c : ℕ) → Contains (cs g b) c → g.shares c context key ≡ Some v → free g b context key ≡ false → HasNumberIn g.run key number
      → AreMatched g.run.meaning (plain_meaning last.state.values) (slots_in (cell_of g.run number) (until g b) context) (plain_slot last.state context key)
  frozen_still context number key v c c_in is off has =
      subst (λ x. AreMatched g.run.meaning (plain_meaning last.state.values) x (plain_slot last.state context key))
      (same_slot (since g b) (until g b) (cell g b number context) (sym (frozen g b c c_in context number key v is has off))) (gone.kept context number key v c off c_in is has)

  -- ---- a place that none of them shares

  module _ (context : ℕ) (key : KeyValue) (touched : g.touched g.node context key ≡ true) (none : b.o context key ≡ None) (off : (x : ℕ) → Contains (cs g b) x → is_within g.plan x context ≡ true → ⊥)
      (alone : (x : ℕ) → Contains (cs g b) x → g.shares x context key ≡ None) where
    -- no other changes what one of them touches
    pub apart : (x c : ℕ) → Contains (cs g b) x → Contains (cs g b) c → x ≢ c → g.touched c context key ≡ true → g.changes x context key ≡ true → ⊥
    apart x c x_in c_in differ is ch =
        let both = both_share g.plan g.run g.locks g.h g.touched g.changes g.changed g.shares g.basis g.node x c context key (conc g b x x_in) (conc g b c c_in) differ ch is in
        not_both (g.shares c context key) both.0 (alone c c_in) both.2

    pub level_place : unshared (g.touched g.node) b.o context key ≡ true
    level_place = unshared_is (g.touched g.node) b.o context key touched none

    pub off_them : within_any g.plan (cs g b) context ≡ false
    off_them = within_none g.plan (cs g b) context off

    -- one of them changes it
    module _ (i : ℕ) (less : i < count) (ch : g.changes (child_at g b i) context key ≡ true) where
      pub c_in : Contains (cs g b) (child_at g b i)
      c_in = here g b i less

      pub its : g.touched (child_at g b i) context key ≡ true
      its = g.basis.covered.touches (child_at g b i) context key ch

      abbrev pub ends : Ends g.plan g.run g.locks g.h g.touched g.changes g.changed g.shares (child_at g b i) (open_of g b (child_at g b i)) (s_of g b i) (ran_at g b i) (u_of g b i) (before_it g b i) (after_it g b each drawn i)
      ends = ended_near g b each drawn i less

      pub place_is : outside g.plan (child_at g b i) (also ends.ends.settled (unshared (g.touched (child_at g b i)) (open_of g b (child_at g b i)))) context key ≡ true
      place_is =
          and_of (also ends.ends.settled (unshared (g.touched (child_at g b i)) (open_of g b (child_at g b i))) context key) (not (is_within g.plan (child_at g b i) context))
          (or_first (unshared (g.touched (child_at g b i)) (open_of g b (child_at g b i)) context key) (ends.ends.settled context key)
          (unshared_is (g.touched (child_at g b i)) (open_of g b (child_at g b i)) context key its (unshared_none g b (child_at g b i) context key (alone (child_at g b i) c_in))))
          (ap not (never (is_within g.plan (child_at g b i) context) (off (child_at g b i) c_in)))

      pub rest_same : any_of g.changes (behind g b each drawn i) context key ≡ false
      rest_same = any_none g.changes (behind g b each drawn i) context key (λ x there also.
          apart x (child_at g b i) (behind_in g b each drawn i x there) c_in (apart_behind (cs g b) i x (once_beside g b) less there) its also)

      pub rest_off : within_any g.plan (behind g b each drawn i) context ≡ false
      rest_off = within_none g.plan (behind g b each drawn i) context (λ x there within. off x (behind_in g b each drawn i x there) within)

      pub clear_end : IsOpen context (after_it g b each drawn i).state
      clear_end = λ number past. ends.ends.level.numbered.beyond context key number place_is past

      pub same_end : (number : ℕ) → HasNumberIn g.run key number → events_at (cell g b number context) (until g b) ≡ events_at (cell g b number context) (first_seen (u_of g b i).first)
      same_end number has =
          same_there g.h (first_seen (u_of g b i).first) (until g b) (cell g b number context) (ended_at g b i less) (until_in_h g b) (λ place event low high there on.
          let first = shorter (since g b) (first_seen (s_of g b i).first) (begun_at g b i less) in
          let second = shorter (first_seen (s_of g b i).first) (first_seen (u_of g b i).first) (over_at g b i less) in
          let made = its_own g b i less (gone_at g b each drawn i (omega (arith, less))) context number place key event its (alone (child_at g b i) c_in) has (omega (arith, first, second, low)) high there on in
          let early = ((acts_at g b i less).seen place made).1 in
          omega (arith, early, low))

      changed_there : (number : ℕ) → HasNumberIn g.run key number
          → AreMatched g.run.meaning (plain_meaning last.state.values) (slots_in (cell_of g.run number) (until g b) context) (plain_slot last.state context key)
      changed_there number has =
          carried (any_of g.changes (behind g b each drawn i)) (within_any g.plan (behind g b each drawn i)) (after_it g b each drawn i).state last.state (rest_leaves g b each drawn i less) g.run (first_seen (u_of g b i).first) (until g b)
          context key number rest_same rest_off clear_end (same_end number has) (ends.ends.level.matches.slots context key number place_is has)

      changed_none : ((number : ℕ) → ¬ HasNumberIn g.run key number) → plain_slot last.state context key ≡ None
      changed_none without = (rest_leaves g b each drawn i less).slots context key rest_same rest_off clear_end ∙ ends.ends.level.matches.unnumbered context key place_is without

    -- none of them does
    module _ (no_change : (x : ℕ) → Contains (cs g b) x → g.changes x context key ≡ true → ⊥) where
      unchanged_there : (number : ℕ) → HasNumberIn g.run key number
          → AreMatched g.run.meaning (plain_meaning last.state.values) (slots_in (cell_of g.run number) (until g b) context) (plain_slot last.state context key)
      unchanged_there number has =
          carried (any_of g.changes (cs g b)) (within_any g.plan (cs g b)) b.r.state last.state leaves g.run (since g b) (until g b) context key number (any_none g.changes (cs g b) context key no_change) off_them
          (clear_first g b context key touched)
          (same_there g.h (since g b) (until g b) (cell g b number context) (since_until g b) (until_in_h g b) (λ place event low high there on.
          let by = maker g b context number place key event touched none has low high there on in
          no_change (child_at g b by.i) (here g b by.i by.less) (maker_changes g b by.i by.less context number place key event (in_nodes g b g.node context key touched) has there on by.made)))
          (b.level.matches.slots context key number level_place has)

      unchanged_none : ((number : ℕ) → ¬ HasNumberIn g.run key number) → plain_slot last.state context key ≡ None
      unchanged_none without = leaves.slots context key (any_none g.changes (cs g b) context key no_change) off_them (clear_first g b context key touched) ∙ b.level.matches.unnumbered context key level_place without

    alone_slots : (number : ℕ) → HasNumberIn g.run key number → AreMatched g.run.meaning (plain_meaning last.state.values) (slots_in (cell_of g.run number) (until g b) context) (plain_slot last.state context key)
    alone_slots number has = elim (which (λ c. g.changes c context key) (cs g b)) [
      | inl one ↦ changed_there one.0 one.1 one.2 number has
      | inr no_change ↦ unchanged_there no_change number has
    ]

    alone_none : ((number : ℕ) → ¬ HasNumberIn g.run key number) → plain_slot last.state context key ≡ None
    alone_none without = elim (which (λ c. g.changes c context key) (cs g b)) [
      | inl one ↦ changed_none one.0 one.1 one.2 without
      | inr no_change ↦ unchanged_none no_change without
    ]

  -- ---- all places that are not open

  level_slots : (context : ℕ) (key : KeyValue) (number : ℕ) → away g.plan (cs g b) (unshared (g.touched g.node) later) context key ≡ true → HasNumberIn g.run key number
      → AreMatched g.run.meaning (plain_meaning last.state.values) (slots_in (cell_of g.run number) (until g b) context) (plain_slot last.state context key)
  level_slots context key number is has =
      let parts = unshared_parts (g.touched g.node) later context key (away_first g.plan (cs g b) (unshared (g.touched g.node) later) context key is) in
      let off = away_from g.plan (cs g b) (unshared (g.touched g.node) later) context key is in
      elim (still_cases gone.settled b.o context key parts.1) [
        | inl on ↦
            let was = gone.were context key on in
            let both = gone.stand context key was.0 was.1 on was.2 was.3 in
            both_match g.run.meaning (plain_meaning last.state.values) was.0 (slots_in (cell_of g.run number) (until g b) context) (plain_slot last.state context key) (both.lanes number has) both.plain
        | inr not_settled ↦ elim (which (λ c. is_some (g.shares c context key)) (cs g b)) [
          | inr no_sharing ↦
              alone_slots context key parts.0 not_settled.1 off (λ x x_in. no_value (g.shares x context key) (no_sharing x x_in)) number has
          | inl one ↦
              let c_in = here g b one.0 one.1 in
              let value = some_there (g.shares (child_at g b one.0) context key) one.2 in
              elim (bools (free g b context key)) [
                | inl fr ↦ elim (bools (is_left value.0)) [
                  | inl left ↦ newly_open context number key value.0 (child_at g b one.0) c_in value.1 not_settled.1 fr not_settled.0 left has
                  | inr nothing_left ↦ none_kept context number key value.0 (child_at g b one.0) c_in value.1 nothing_left not_settled.1 fr not_settled.0 has
                ]
                | inr not_free ↦ frozen_still context number key value.0 (child_at g b one.0) c_in value.1 not_free has
              ]
        ]
      ]

  level_none : (context : ℕ) (key : KeyValue) → away g.plan (cs g b) (unshared (g.touched g.node) later) context key ≡ true → ((number : ℕ) → ¬ HasNumberIn g.run key number) → plain_slot last.state context key ≡ None
  level_none context key is without =
      let parts = unshared_parts (g.touched g.node) later context key (away_first g.plan (cs g b) (unshared (g.touched g.node) later) context key is) in
      let off = away_from g.plan (cs g b) (unshared (g.touched g.node) later) context key is in
      elim (still_cases gone.settled b.o context key parts.1) [
        | inl on ↦ absurd (gone.named context key on without)
        | inr not_settled ↦ elim (which (λ c. is_some (g.shares c context key)) (cs g b)) [
          | inr no_sharing ↦ alone_none context key parts.0 not_settled.1 off (λ x x_in. no_value (g.shares x context key) (no_sharing x x_in)) without
          | inl one ↦
              let c_in = here g b one.0 one.1 in
              let value = some_there (g.shares (child_at g b one.0) context key) one.2 in
              elim (bools (free g b context key)) [
                | inl fr ↦
                    gone.unchanged context key value.0 (child_at g b one.0) not_settled.0 fr c_in value.1 ∙ b.level.matches.unnumbered context key (unshared_is (g.touched g.node) b.o context key parts.0 not_settled.1) without
                | inr not_free ↦ gone.kept_none context key value.0 (child_at g b one.0) not_free c_in value.1 without
              ]
        ]
      ]

  level_then : AreLevel g.plan g.run (away g.plan (cs g b) (unshared (g.touched g.node) later)) (until g b) last.state
  level_then = record {
    matches = record { slots = level_slots; unnumbered = level_none };
    numbered = record {
      beyond = λ context key number is past.
          let parts = unshared_parts (g.touched g.node) later context key (away_first g.plan (cs g b) (unshared (g.touched g.node) later) context key is) in
          leaves.stays_open context (within_none g.plan (cs g b) context (away_from g.plan (cs g b) (unshared (g.touched g.node) later) context key is)) (clear_first g b context key parts.0) number past;
      drawn = sym fine_then.gave.values;
    };
    memory = fine_then.memory;
    keeps = b.level.keeps ∙ sym leaves.keeps;
    gave = fine_then.gave;
    of_plan = fine_then.of_plan;
  }

  -- ---- places that are open still

  open_touched : (context : ℕ) (key : KeyValue) (v : Given) → b.o context key ≡ Some v → g.touched g.node context key ≡ true
  open_touched context key v is = touches g b g.node context key v (b.among context key v is)

  open_free : (context : ℕ) (key : KeyValue) (v : Given) → b.o context key ≡ Some v → free g b context key ≡ true
  open_free context key v is = or_first (is_open b.o context key) _ (value_is_open b.o context key v is)

  off_children : (context : ℕ) (key : KeyValue) (v : Given) → b.o context key ≡ Some v → within_any g.plan (cs g b) context ≡ false
  off_children context key v is = off_node g context key v (b.among context key v is) (cs g b) (λ x there. beside_child g x there)

  plain_end : (context : ℕ) (key : KeyValue) (v : Given) → later context key ≡ Some v → plain_slot last.state context key ≡ plain_slot b.r.state context key
  plain_end context key v is =
      let parts = still_parts gone.settled b.o context key v is in
      elim (which (λ c. is_some (g.shares c context key)) (cs g b)) [
        | inl one ↦
            let value = some_there (g.shares (child_at g b one.0) context key) one.2 in
            gone.unchanged context key value.0 (child_at g b one.0) parts.0 (open_free context key v parts.1) (here g b one.0 one.1) value.1
        | inr no_sharing ↦
            leaves.slots context key
            (any_none g.changes (cs g b) context key (λ x x_in ch.
            not_both (g.shares x context key) v (no_value (g.shares x context key) (no_sharing x x_in)) (shared_below g b x context key v x_in (g.basis.covered.touches x context key ch) parts.1)))
            (off_children context key v parts.1) (clear_first g b context key (open_touched context key v parts.1))
      ]

  near_then_is : AreNear g.run later (until g b) last.state
  near_then_is = record {
    lanes = λ context key number v is has.
        let parts = still_parts gone.settled b.o context key v is in
        near_stay g.h (since g b) (until g b) (since_until g b) (until_in_h g b) (cell g b number context) g.run v (b.near.lanes context key number v parts.1 has)
        (computed_between g.run g.h b.o b.opened.first b.body.joined b.computed context number key v parts.1 has);
    plain = λ context key v is.
        let parts = still_parts gone.settled b.o context key v is in
        subst (λ x. StandsOrNot (plain_meaning last.state.values) v x) (sym (plain_end context key v is))
        (or_not_more (plain_meaning b.r.state.values) (plain_meaning last.state.values) v (plain_slot b.r.state context key) knows (b.near.plain context key v parts.1));
    above = λ context key v above is path_is.
        let parts = still_parts gone.settled b.o context key v is in
        let shares = b.among context key v parts.1 in
        let in_ids = in_plan g.plan g.run g.locks g.h g.touched g.changes g.changed g.shares g.basis context (context ∷ above) path_is in
        let Q : ℕ → Type 0 = λ k. plain_slot b.r.state k key ≡ None in
        let P : ℕ → Type 0 = λ k. (g.touched g.node k key ≡ true) × (g.shares g.node k key ≡ None) × (g.changes g.node k key ≡ false) in
        let children : (x : ℕ) → Contains (cs g b) x → IsChild g x = λ x there. beside_child g x there in
        let each_one : (at : ℕ) → Contains above at → plain_slot last.state at key ≡ None =
        λ at there.
        let one = All-contains P above at (g.basis.shared.above g.node context key v above shares in_ids) there in
        leaves.slots at key (above_same g context at key v above shares in_ids there (cs g b) children) (off_above g context at key v above shares in_ids there (cs g b) children) (clear_first g b at key one.0)
        ∙ All-contains Q above at (b.near.above context key v above parts.1 path_is) there in
        λ k d inside. each_one _ (Contains-get_or above k d inside);
    numbered = record {
      beyond = λ context key number is past.
          let some = open_value later context key is in
          let parts = still_parts gone.settled b.o context key some.0 some.1 in
          leaves.stays_open context (off_children context key some.0 parts.1) (clear_first g b context key (open_touched context key some.0 parts.1)) number past;
      drawn = sym fine_then.gave.values;
    };
  }

  -- from before them to after them
  pub beside_passes : Passes g.plan g.run g.h (g.touched g.node) (cs g b) b.o b.opened.first b.r.state later b.body.joined last.state
  beside_passes = record {
    fewer = λ context key v is. (still_parts gone.settled b.o context key v is).1;
    level = level_then;
    near = near_then_is;
    stand = λ context key v is none. elim (still_cases gone.settled b.o context key none) [
      | inr closed ↦ not_both (b.o context key) v closed.1 is
      | inl on ↦
          let was = gone.were context key on in
          gone.stand context key v was.1 on was.2 (shared_below g b was.1 context key v was.2 (touches g b was.1 context key was.0 was.3) is)
    ];
    unchanged = plain_end;
    untouched = λ context number place key v event is left has there on made.
        let parts = still_parts gone.settled b.o context key v is in
        let by = maker_of g b place made in
        let ch = maker_changes g b by.i by.less context number place key event (in_nodes g b g.node context key (open_touched context key v parts.1)) has there on by.made in
        let c_in = here g b by.i by.less in
        gone.untouched by.i context number place key v (child_at g b by.i) event by.less parts.0 (open_free context key v parts.1) c_in
        (shared_below g b (child_at g b by.i) context key v c_in (g.basis.covered.touches (child_at g b by.i) context key ch) parts.1) left has there on by.made;
  }
