-- From one concurrent child to the next, in the order of the plain run: what they have settled, and what they have left as it was.
use Rattle.std.proofs.Common.{◌≡◌, ℕ, ◌<◌, ◌≤◌, ◌||◌, inl, inr, true, false, not, zero, suc, fold, List, [], ◌∷◌, append-nil, length, take, drop, None, Some, refl, ap, sym, subst, ◌∙◌, arith}
use Rattle.std.specs.Prelude.{Contains, slice_get, slice_index_or}
use mathlib.Core.List.{IsPrefix}
use Rattle.std.proofs.lemmas.Bool.{cases_lt}
use Rattle.ext_history.proofs.Lists.{bools}
use Rattle.ext_model.specs.declared.event.Event.{Event}
use Rattle.ext_model.specs.Events.{place_of}
use Rattle.ext_model.specs.History.{slots_in}
use Rattle.ext_one_report.proofs.Numbers.{enough_numbers}
use Rattle.ext_tree.specs.Keys.{KeyValue}
use Rattle.ext_engine.specs.Meeting.{first_seen}
use Rattle.ext_engine.specs.Order.{IsMadeIn}
use Rattle.ext_plan_plain.specs.PlainRun.{RunState, node_run}
use Rattle.ext_one_report.proofs.MatchingWords.{HasNumberIn, Places, cell_of, plain_meaning, plain_slot}
use Rattle.ext_one_report.proofs.StandingsWords.{AreMatched}
use Rattle.ext_one_report.proofs.OnCells.{same_slot}
use Rattle.ext_one_report.specs.Within.{is_within}
use Rattle.ext_one_report.proofs.PlainFrames.{IsOpen, LeavesElse}
use Rattle.ext_one_report.proofs.Open.{Computes, Given, Open, Stands, also, is_left, some_or_none}
use Rattle.ext_one_report.proofs.OpenSteps.{StandsInBoth}
use Rattle.ext_one_report.proofs.OpenStep.{knows_more}
use Rattle.ext_one_report.proofs.Shared.{unshared}
use Rattle.ext_one_report.proofs.Levels.{outside}
use Rattle.ext_one_report.proofs.ChildLists.{among_later, fold_at}
use Rattle.ext_one_report.proofs.NodePlaces.{and_of, any_of, both_ways, carried, never, or_either, or_first, or_second, within_any}
use Rattle.ext_one_report.proofs.NodePlain.{IsFine, child_fine}
use Rattle.ext_one_report.proofs.SharedNodesBasis.{shared_elsewhere, shares_too, unchanged}
use Rattle.ext_one_report.proofs.SharedNodesBegins.{Gone, all_children, all_leave, before_it, begins, clear_first, fine_before, first_ones, leaves_to, off_all, one_leaves}
use Rattle.ext_one_report.proofs.SharedNodesBody.{Body, ChildrenEnd, Ends, Ground, after_all, beside_child, begun_at, cell, child_at, computed_at, conc, cs, ended_at, free, frozen_to, here, in_nodes, job_at, maker_changes, none_is, not_open, open_is, open_of, open_parts, over_at, path_in, ran_at, s_of, same_value, since, step, touches, u_of, until, until_in_h, up_to}
use Rattle.ext_one_report.proofs.SharedNodesCells.{between_fewer, stands_stay, still_stands}
use Rattle.ext_one_report.proofs.SharedNodesPlaces.{not_both, stands_more, unshared_is}
use base.Growing.{prefix_trans}

fold_next : {R : Type 0} (f : R → ℕ → R) (r : R) (cs : List ℕ) (i : ℕ) → i < length cs → fold f r (take (suc i) cs) ≡ f (fold f r (take i cs)) (slice_index_or cs i 0)
fold_next f r [] i less = absurd (omega (arith, less))
fold_next f r (c ∷ cs) zero less = refl
fold_next f r (c ∷ cs) (suc i) less = fold_next f (f r c) cs i (omega (arith, less))

module _ (g : Ground) (b : Body g) (each : ChildrenEnd g) (drawn : (after_all g b.r (cs g b)).state.store.drawn < enough_numbers g.plan.size) where
  -- ---- the plain run

  -- the children behind it
  abbrev pub behind : ℕ → List ℕ
  behind i = drop (suc i) (cs g b)

  pub behind_in : (i x : ℕ) → Contains (behind i) x → Contains (cs g b) x
  behind_in i x there = among_later (cs g b) (suc i) x there

  abbrev pub after_it : ℕ → RunState
  after_it i = step g (before_it g b i) (child_at g b i)

  pub fine_after : (i : ℕ) → i < length (cs g b) → IsFine g.plan (after_it i)
  fine_after i less =
      child_fine g.plan g.touched g.changes g.basis.read g.basis.covered g.levels g.node g.path (path_in g) (before_it g b i) (child_at g b i) (beside_child g (child_at g b i) (here g b i less)) (fine_before g b i)

  pub rest_leaves : (i : ℕ) → i < length (cs g b) → LeavesElse (any_of g.changes (behind i)) (within_any g.plan (behind i)) (after_it i).state (after_all g b.r (cs g b)).state
  rest_leaves i less =
      let rest_is : after_all g b.r (cs g b) ≡ after_all g (after_it i) (behind i) = fold_at (λ r child. node_run g.plan g.levels (child ∷ g.path) r) b.r (cs g b) i less in
      subst (λ (q : RunState). LeavesElse (any_of g.changes (behind i)) (within_any g.plan (behind i)) (after_it i).state q.state) (sym rest_is)
      (all_leave g b (behind i) (after_it i) (all_children g b (behind i) (behind_in i)) (fine_after i less))

  pub next : (i : ℕ) → i < length (cs g b) → before_it g b (suc i) ≡ after_it i
  next i less = fold_next (λ r child. node_run g.plan g.levels (child ∷ g.path) r) b.r (cs g b) i less

  -- ---- a child

  module _ (i : ℕ) (less : i < length (cs g b)) (gone : Gone g b i (before_it g b i)) where
    abbrev c : ℕ
    c = child_at g b i

    c_in : Contains (cs g b) c
    c_in = here g b i less

    abbrev o : Open
    o = open_of g b c

    pub ends_at : Ends g.plan g.run g.locks g.h g.touched g.changes g.changed g.shares c o (s_of g b i) (ran_at g b i) (u_of g b i) (before_it g b i) (after_it i)
    ends_at =
        let rest = (rest_leaves i less).drawn in
        each c o (s_of g b i) (ran_at g b i) (u_of g b i) (before_it g b i) (beside_child g c c_in) (job_at g b i less).run (begins g b i less gone) (omega (arith, rest, drawn))

    pub leaves_it : LeavesElse (g.changes c) (is_within g.plan c) (before_it g b i).state (after_it i).state
    leaves_it = one_leaves g b (before_it g b i) c (beside_child g c c_in) (fine_before g b i)

    -- a place that a concurrent child shares
    module _ (x : ℕ) (x_in : Contains (cs g b) x) (context : ℕ) (key : KeyValue) (v : Given) (is : g.shares x context key ≡ Some v) where
      off_it : is_within g.plan c context ≡ false
      off_it =
          never (is_within g.plan c context)
          (shared_elsewhere g.plan g.run g.locks g.h g.touched g.changes g.changed g.shares g.basis g.node x c context key v (beside_child g x x_in) (beside_child g c c_in) is)

      clear_then : IsOpen context (before_it g b i).state
      clear_then = (leaves_to g b i).stays_open context (off_all g b (take i (cs g b)) (first_ones g b i) x context key v x_in is) (clear_first g b context key (up_to g b x context key x_in (touches g b x context key v is)))

      -- where it is open and the child has not settled it, nothing is changed in the plain run
      plain_same : free g b context key ≡ true → ends_at.ends.settled context key ≡ false → plain_slot (after_it i).state context key ≡ plain_slot (before_it g b i).state context key
      plain_same fr off = elim (some_or_none (g.shares c context key)) [
        | inr some ↦ ends_at.ends.unchanged context key some.0 off (open_is g b c context key some.0 fr some.1)
        | inl none ↦
            leaves_it.slots context key (never (g.changes c context key) (λ ch.
            not_both (g.shares c context key) v none
            (shares_too g.plan g.run g.locks g.h g.touched g.changes g.changed g.shares g.basis g.node c x context key v (conc g b c c_in) (conc g b x x_in) is ch))) off_it clear_then
      ]

      -- where the child has settled it, the value or the fault stands in both, and on the lanes for the rest of the body
      stands_now : ends_at.ends.settled context key ≡ true → StandsInBoth g.run v context key (until g b) (after_it i).state
      stands_now on =
          let was = ends_at.ends.were_open context key on in
          let its = (open_parts g b c context key was.0 was.1).1 in
          let same = same_value g b c x context key was.0 v c_in x_in its is in
          let both = subst (λ w. StandsInBoth g.run w context key (first_seen (u_of g b i).first) (after_it i).state) same (ends_at.ends.stand context key was.0 on was.1) in
          let since_end : IsPrefix (since g b) (first_seen (u_of g b i).first) = prefix_trans (since g b) (first_seen (s_of g b i).first) (first_seen (u_of g b i).first) (begun_at g b i less) (over_at g b i less) in
          record {
            lanes = λ number has.
                let quiet = stands_stay g.h (first_seen (u_of g b i).first) (until g b) (ended_at g b i less) (until_in_h g b) (cell g b number context) g.run g.run.store.id.cells.limits v g.basis.legal (both.lanes number has)
                (between_fewer g.h (since g b) (until g b) (first_seen (u_of g b i).first) (until g b) (cell g b number context) (Computes g.run v) since_end ([], append-nil (until g b))
                (computed_at g b x x_in context number key v is has)) in
                still_stands g.run v (first_seen (u_of g b i).first) (until g b) (cell g b number context) quiet (both.lanes number has);
            plain = both.plain;
          }

      -- and where it had been settled before, it stands there still
      stands_still : free g b context key ≡ true → ends_at.ends.settled context key ≡ false → StandsInBoth g.run v context key (until g b) (before_it g b i).state → StandsInBoth g.run v context key (until g b) (after_it i).state
      stands_still fr off both = record {
        lanes = both.lanes;
        plain = subst (λ y. Stands (plain_meaning (after_it i).state.values) v y) (sym (plain_same fr off))
            (stands_more (plain_meaning (before_it g b i).state.values) (plain_meaning (after_it i).state.values) v (plain_slot (before_it g b i).state context key)
            (knows_more (g.changes c) (is_within g.plan c) (before_it g b i).state (after_it i).state leaves_it) both.plain);
      }

      -- where it is not free, the same stands as on the lanes at first
      its_place : free g b context key ≡ false → g.touched c context key ≡ true → outside g.plan c (also ends_at.ends.settled (unshared (g.touched c) o)) context key ≡ true
      its_place off touched =
          and_of (also ends_at.ends.settled (unshared (g.touched c) o) context key) (not (is_within g.plan c context))
          (or_first (unshared (g.touched c) o context key) (ends_at.ends.settled context key) (unshared_is (g.touched c) o context key touched (none_is g b c context key off))) (ap not off_it)

      kept_then : free g b context key ≡ false → (number : ℕ) → HasNumberIn g.run key number
          → AreMatched g.run.meaning (plain_meaning (after_it i).state.values) (slots_in (cell_of g.run number) (since g b) context) (plain_slot (after_it i).state context key)
      kept_then off number has = elim (bools (g.touched c context key)) [
        | inl touched ↦
            let since_end = prefix_trans (since g b) (first_seen (s_of g b i).first) (first_seen (u_of g b i).first) (begun_at g b i less) (over_at g b i less) in
            let same = same_slot (first_seen (u_of g b i).first) (since g b) (cell g b number context) (frozen_to g b (first_seen (u_of g b i).first) since_end (ended_at g b i less) x x_in context number key v is has off) in
            subst (λ y. AreMatched g.run.meaning (plain_meaning (after_it i).state.values) y (plain_slot (after_it i).state context key)) same
            (ends_at.ends.level.matches.slots context key number (its_place off touched) has)
        | inr not_touched ↦
            carried (g.changes c) (is_within g.plan c) (before_it g b i).state (after_it i).state leaves_it g.run (since g b) (since g b) context key number
            (unchanged g.plan g.run g.locks g.h g.touched g.changes g.changed g.shares g.basis g.node c context key not_touched) off_it clear_then refl (gone.kept context number key v x off x_in is has)
      ]

      kept_none_then : free g b context key ≡ false → ((number : ℕ) → ¬ HasNumberIn g.run key number) → plain_slot (after_it i).state context key ≡ None
      kept_none_then off without = elim (bools (g.touched c context key)) [
        | inl touched ↦ ends_at.ends.level.matches.unnumbered context key (its_place off touched) without
        | inr not_touched ↦
            leaves_it.slots context key (unchanged g.plan g.run g.locks g.h g.touched g.changes g.changed g.shares g.basis g.node c context key not_touched) off_it clear_then
            ∙ gone.kept_none context key v x off x_in is without
      ]

      -- it has made no event where it has not settled the place, and something is left there
      untouched_then : free g b context key ≡ true → ends_at.ends.settled context key ≡ false → is_left v ≡ true → (number place : ℕ) (event : Event ℕ) → HasNumberIn g.run key number → slice_get g.h place ≡ Some event
          → place_of event.act ≡ Some (cell g b number context) → IsMadeIn g.h place (s_of g b i).first (u_of g b i).first → ⊥
      untouched_then fr off left number place event has there on made =
          let ch = maker_changes g b i less context number place key event (in_nodes g b x context key (touches g b x context key v is)) has there on made in
          let its = shares_too g.plan g.run g.locks g.h g.touched g.changes g.changed g.shares g.basis g.node c x context key v (conc g b c c_in) (conc g b x x_in) is ch in
          ends_at.ends.untouched.none context number place key v event (open_is g b c context key v fr its) off left has there on made

    -- a place that it has settled has a number
    named_now : (context : ℕ) (key : KeyValue) → ends_at.ends.settled context key ≡ true → ((number : ℕ) → ¬ HasNumberIn g.run key number) → ⊥
    named_now context key on without =
        let was = ends_at.ends.were_open context key on in
        let its = (open_parts g b c context key was.0 was.1).1 in
        let place : outside g.plan c (also ends_at.ends.settled (unshared (g.touched c) o)) context key ≡ true =
        and_of (also ends_at.ends.settled (unshared (g.touched c) o) context key) (not (is_within g.plan c context)) (or_second (unshared (g.touched c) o context key) (ends_at.ends.settled context key) on)
        (ap not (off_it c c_in context key was.0 its)) in
        absurd (cc (sym (ends_at.ends.level.matches.unnumbered context key place without) ∙ (ends_at.ends.stand context key was.0 on was.1).plain.there))

    abbrev pub both_settled : Places
    both_settled context key = gone.settled context key || ends_at.ends.settled context key

    settled_parts : (context : ℕ) (key : KeyValue) → both_settled context key ≡ false → (gone.settled context key ≡ false) × (ends_at.ends.settled context key ≡ false)
    settled_parts context key off = (
      never (gone.settled context key) (λ on. both_ways (both_settled context key) (or_first (gone.settled context key) (ends_at.ends.settled context key) on) off),
      never (ends_at.ends.settled context key) (λ on. both_ways (both_settled context key) (or_second (gone.settled context key) (ends_at.ends.settled context key) on) off),
    )

    gone_then : Gone g b (suc i) (after_it i)
    gone_then = record {
      settled = both_settled;
      were = λ context key on. elim (or_either (gone.settled context key) (ends_at.ends.settled context key) on) [
        | inl early ↦ gone.were context key early
        | inr now ↦ let was = ends_at.ends.were_open context key now in let its = open_parts g b c context key was.0 was.1 in (was.0, c, c_in, its.1, its.0)
      ];
      named = λ context key on without. elim (or_either (gone.settled context key) (ends_at.ends.settled context key) on) [
        | inl early ↦ gone.named context key early without
        | inr now ↦ named_now context key now without
      ];
      stand = λ context key v x on x_in is. elim (bools (ends_at.ends.settled context key)) [
        | inl now ↦ stands_now x x_in context key v is now
        | inr off ↦ elim (or_either (gone.settled context key) (ends_at.ends.settled context key) on) [
          | inl early ↦ let was = gone.were context key early in stands_still x x_in context key v is was.4 off (gone.stand context key v x early x_in is)
          | inr now ↦ both_ways (ends_at.ends.settled context key) now off
        ]
      ];
      unchanged = λ context key v x off fr x_in is.
          let parts = settled_parts context key off in
          plain_same x x_in context key v is fr parts.1 ∙ gone.unchanged context key v x parts.0 fr x_in is;
      untouched = λ j context number place key v x event below off fr x_in is left has there on made.
          let parts = settled_parts context key off in
          elim (cases_lt j i) [
            | inl early ↦ gone.untouched j context number place key v x event early parts.0 fr x_in is left has there on made
            | inr late ↦
                let same : j ≡ i = omega (arith, below, late) in
                untouched_then x x_in context key v is fr parts.1 left number place event has there on (subst (λ k. IsMadeIn g.h place (s_of g b k).first (u_of g b k).first) same made)
          ];
      kept = λ context number key v x off x_in is has. kept_then x x_in context key v is off number has;
      kept_none = λ context key v x off x_in is without. kept_none_then x x_in context key v is off without;
    }

  -- ---- all of them

  gone_first : Gone g b 0 (before_it g b 0)
  gone_first = record {
    settled = λ context key. false;
    were = λ context key on. absurd (cc on);
    named = λ context key on without. absurd (cc on);
    stand = λ context key v c on c_in is. absurd (cc on);
    unchanged = λ context key v c off fr c_in is. refl;
    untouched = λ j context number place key v c event below off fr c_in is left has there on made. absurd (omega (arith, below));
    kept = λ context number key v c off c_in is has.
        b.level.matches.slots context key number (unshared_is (g.touched g.node) b.o context key (up_to g b c context key c_in (touches g b c context key v is)) (not_open g b context key off)) has;
    kept_none = λ context key v c off c_in is without.
        b.level.matches.unnumbered context key (unshared_is (g.touched g.node) b.o context key (up_to g b c context key c_in (touches g b c context key v is)) (not_open g b context key off)) without;
  }

  -- a child and those before it
  pub inside : (i : ℕ) → suc i ≤ length (cs g b) → i < length (cs g b)
  inside i less = omega (arith, less)

  pub earlier : (i : ℕ) → suc i ≤ length (cs g b) → i ≤ length (cs g b)
  earlier i less = omega (arith, less)

  pub to_all : length (cs g b) ≤ length (cs g b)
  to_all = omega arith

  gone_next : (i : ℕ) (less : i < length (cs g b)) (gone : Gone g b i (before_it g b i)) → (then : Gone g b (suc i) (before_it g b (suc i))) × (then.settled ≡ both_settled i less gone)
  unfolding gone_then
  gone_next i less gone = subst (λ (q : RunState). (then : Gone g b (suc i) q) × (then.settled ≡ both_settled i less gone)) (sym (next i less)) (gone_then i less gone, refl)

  pub gone_at : (i : ℕ) → i ≤ length (cs g b) → Gone g b i (before_it g b i)
  gone_at zero less = gone_first
  gone_at (suc i) less = (gone_next i (inside i less) (gone_at i (earlier i less))).0

  -- at first they have settled nothing,
  pub settled_first : (less : 0 ≤ length (cs g b)) → (gone_at 0 less).settled ≡ (λ context key. false)
  unfolding gone_at gone_first
  settled_first less = refl

  -- and with one more child what it has settled
  pub settled_next : (i : ℕ) (less : suc i ≤ length (cs g b)) → (gone_at (suc i) less).settled ≡ both_settled i (inside i less) (gone_at i (earlier i less))
  unfolding gone_at
  settled_next i less = (gone_next i (inside i less) (gone_at i (earlier i less))).1

  -- each of them ends near
  pub ended_near : (i : ℕ) → i < length (cs g b) → Ends g.plan g.run g.locks g.h g.touched g.changes g.changed g.shares (child_at g b i) (open_of g b (child_at g b i)) (s_of g b i) (ran_at g b i) (u_of g b i) (before_it g b i) (after_it i)
  ended_near i less = ends_at i less (gone_at i (omega (arith, less)))
