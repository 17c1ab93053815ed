-- The concurrent children of a container: from before them to after them both runs give numbers in one order, at the places that are not open for the container.
use Rattle.std.proofs.Common.{◌≡◌, ◌≢◌, ◌<◌, ◌≤◌, ◌⊎◌, ℕ, zero, suc, inl, inr, true, false, not, List, ◌∷◌, length, drop, take, take_all, Contains, None, Option, Some, is_some, refl, ap, sym, subst, ◌∙◌, arith, eq-eqb, eqb-true}
use Rattle.std.specs.Prelude.{◌==◌}
use mathlib.Core.List.{IsPrefix}
use base.Growing.{prefix_trans}
use Rattle.ext_history.proofs.Legal.{legal_begun}
use Rattle.ext_history.proofs.Lists.{bools}
use Rattle.ext_model.specs.declared.slot.Slot.{Slot}
use Rattle.ext_model.specs.History.{History, IsLegal, Limits, slots_in}
use Rattle.ext_one_report.proofs.Numbers.{enough_numbers}
use Rattle.ext_tree.specs.Keys.{KeyValue}
use Rattle.ext_plan.specs.Values.{ValueText}
use Rattle.ext_races.specs.MadeSteps.{plan_path}
use Rattle.ext_engine.specs.Meeting.{first_seen}
use Rattle.ext_one_report.specs.Within.{is_within}
use Rattle.ext_one_report.proofs.Kept.{same_there}
use Rattle.ext_plan_plain.specs.PlainRun.{RunState}
use Rattle.ext_plan_plain.specs.ValueStates.{value_of}
use Rattle.ext_one_report.proofs.MatchingWords.{Places, TextMeaning, cell_of, plain_meaning, plain_slot}
use Rattle.ext_one_report.proofs.OnCells.{same_slot}
use Rattle.ext_one_report.proofs.ChildLists.{which}
use Rattle.ext_one_report.proofs.ComputedAbove.{IsStoredIn}
use Rattle.ext_one_report.proofs.Containers.{children_differ}
use Rattle.ext_one_report.proofs.LanesAlone.{has_come}
use Rattle.ext_one_report.proofs.Levels.{outside}
use Rattle.ext_one_report.proofs.NodePlaces.{and_of, any_none, away, away_first, away_from, both_ways, never, within_none}
use Rattle.ext_one_report.proofs.NodeTrees.{its_path}
use Rattle.ext_one_report.proofs.OfPlan.{IsLeftBy, IsLeftWithin, leaves_since, value_in}
use Rattle.ext_one_report.proofs.OfPlanNodes.{children_leave_since, left_at, node_leaves}
use Rattle.ext_one_report.proofs.Orders.{AreNew, Fails, HaveDrawn, Orders, StandWith}
use Rattle.ext_one_report.proofs.OrdersBounds.{have_drawn, lanes_drew, plain_drew}
use Rattle.ext_one_report.proofs.OrdersHistory.{WasStored, prefix_rises, stood_or_stored}
use Rattle.ext_one_report.proofs.OrdersMatched.{fills_in, matched_value, stands_means, stands_value}
use Rattle.ext_one_report.proofs.Open.{Given, Stands, is_left, of_fault, of_nothing, of_value}
use Rattle.ext_one_report.proofs.Shared.{unshared}
use Rattle.ext_one_report.proofs.SharedEvents.{shared_is_new}
use Rattle.ext_one_report.proofs.SharedFails.{children_beside}
use Rattle.ext_one_report.proofs.SharedNodesBasis.{plan_tree, run_tree}
use Rattle.ext_one_report.proofs.SharedNodesBegins.{Gone, absent_first, before_it, clear_before, clear_first, empty_first, fine_before, first_ones, leaves_to, off_before, one_leaves, same_start, unchanged_before}
use Rattle.ext_one_report.proofs.SharedNodesBeside.{all_of_them, clear_end, given_up, gone, its, leaves, no_value, off_them, place_is, rest_off, rest_same, same_end, some_there}
use Rattle.ext_one_report.proofs.SharedNodesBody.{Body, ChildrenEnd, Ground, after_all, begun_at, beside_child, cell, child_at, child_on, closed_off, computed_at, conc, cs, ended_at, ends_in, free, frozen, frozen_to, here, in_nodes, job_at, maker, maker_changes, maker_shares, none_is, open_is, open_of, open_parts, over, over_at, path_in, ran_at, s_of, since, since_until, u_of, unshared_none, until, until_in_h}
use Rattle.ext_one_report.proofs.SharedNodesGone.{after_it, ended_near, gone_at, next, rest_leaves}
use Rattle.ext_one_report.proofs.SharedNodesPlaces.{unshared_is, unshared_parts}

-- where a number of a value stands, what is left is that value
is_value : (meaning : TextMeaning) (w : Given) (v : ValueText) (x : Option Slot) (a : ℕ) → Stands meaning w x → value_in x ≡ Some a → meaning.values a ≡ Some v → w ≡ of_value v
is_value meaning (of_value w) v x a stands is means = ap of_value (stands_value meaning x a v w stands is means)
is_value meaning (of_fault text) v x a stands is means = absurd (cc (sym (ap value_in stands.there) ∙ is))
is_value meaning (of_nothing text) v x a stands is means = absurd stands.means

module _ (g : Ground) (b : Body g) (each : ChildrenEnd g) (drawn : (after_all g b.r (cs g b)).state.store.drawn < enough_numbers g.plan.size) where
  abbrev count : ℕ
  count = length (cs g b)

  -- the plain run after them
  abbrev last : RunState
  last = after_all g b.r (cs g b)

  abbrev limits : Limits
  limits = g.run.store.id.cells.limits

  legal_to : (p : History) → IsPrefix p g.h → IsLegal limits p
  legal_to p on = legal_begun p g.h on g.basis.legal

  since_in : IsPrefix (since g b) g.h
  since_in = prefix_trans (since g b) (until g b) g.h (since_until g b) (until_in_h g b)

  drew_first : HaveDrawn g.run (λ context key. true) (since g b) b.r.state
  drew_first = have_drawn g.plan g.run (λ context key. true) limits (since g b) b.r.state (legal_to (since g b) since_in) b.level.of_plan

  gone_to : (i : ℕ) → i < count → Gone g b i (before_it g b i)
  gone_to i less = gone_at g b each drawn i (omega (arith, less))

  -- what a child leaves
  child_leaves : (i : ℕ) → i < count → IsLeftBy (leaves_since g.plan (child_at g b i) (before_it g b i).state) (after_it g b each drawn i).state
  child_leaves i less =
      let c = child_at g b i in
      let fine = fine_before g b i in
      node_leaves g.plan g.levels c (c ∷ g.path) (before_it g b i) g.basis.read (child_on g c (beside_child g c (here g b i less))) fine.memory fine.of_plan

  all_leave : IsLeftBy (leaves_since g.plan g.node b.r.state) last.state
  all_leave = children_leave_since g.plan g.levels g.node g.path b.r (cs g b) g.basis.read (path_in g) (all_of_them g b each drawn) b.fine.memory b.fine.of_plan

  -- ---- whose a new value is

  -- a value that one child alone has left, at a place that it does not share
  record ByOne (i context : ℕ) (key : KeyValue) (a d : ℕ) : Type 0 where
    place : outside g.plan (child_at g b i) (unshared (g.touched (child_at g b i)) (open_of g b (child_at g b i))) context key ≡ true
    stands : StandWith g.run context key (first_seen (u_of g b i).first) (after_it g b each drawn i).state a d
    new : AreNew (first_seen (s_of g b i).first) (before_it g b i).state a d

  -- one that a child has left, which shares it or not
  record IsLeft (context : ℕ) (key : KeyValue) (a d : ℕ) (v : ValueText) : Type 0 where
    i : ℕ
    less : i < count
    within : IsLeftWithin g.plan (child_at g b i) context v.text
    how : ByOne i context key a d ⊎ (open_of g b (child_at g b i) context key ≡ Some (of_value v))

  abbrev Old : ℕ → KeyValue → ℕ → ℕ → Type 0
  Old context key a d = StandWith g.run context key (since g b) b.r.state a d

  abbrev New : ℕ → KeyValue → ℕ → ℕ → ValueText → Type 0
  New context key a d v = AreNew (since g b) b.r.state a d × IsLeft context key a d v

  module _ (context : ℕ) (key : KeyValue) (a d : ℕ) (v : ValueText) (touched : g.touched g.node context key ≡ true) (none : b.o context key ≡ None) (off : (x : ℕ) → Contains (cs g b) x → is_within g.plan x context ≡ true → ⊥)
      (stands : StandWith g.run context key (until g b) last.state a d) (means : g.run.meaning.values a ≡ Some v) (fails : Fails v) where
    abbrev number : ℕ
    number = stands.number

    -- what stands with the same slots stood
    stood : slots_in (cell_of g.run number) (until g b) context ≡ slots_in (cell_of g.run number) (since g b) context → plain_slot last.state context key ≡ plain_slot b.r.state context key → Old context key a d
    stood lanes plain = record { number = number; has = stands.has; lanes = ap value_in (sym lanes) ∙ stands.lanes; plain = ap value_in (sym plain) ∙ stands.plain }

    -- ---- none of them shares the place

    module _ (alone : (x : ℕ) → Contains (cs g b) x → g.shares x context key ≡ None) where
      -- none changes it
      unchanged : ((x : ℕ) → Contains (cs g b) x → g.changes x context key ≡ true → ⊥) → Old context key a d
      unchanged no_change = stood
          (sym (same_slot (since g b) (until g b) (cell g b number context)
          (sym (same_there g.h (since g b) (until g b) (cell g b number context) (since_until g b) (until_in_h g b) (λ place event low high there on.
          let by = maker g b context number place key event touched none stands.has low high there on in
          no_change (child_at g b by.i) (here g b by.i by.less)
          (maker_changes g b by.i by.less context number place key event (in_nodes g b g.node context key touched) stands.has there on by.made))))))
          ((leaves g b each drawn).slots context key (any_none g.changes (cs g b) context key no_change) (off_them g b each drawn context key touched none off alone) (clear_first g b context key touched))

      -- or one does
      module _ (i : ℕ) (less : i < count) (ch : g.changes (child_at g b i) context key ≡ true) where
        abbrev c : ℕ
        c = child_at g b i

        its_c : g.touched c context key ≡ true
        its_c = its g b each drawn context key touched none off alone i less ch

        none_c : g.shares c context key ≡ None
        none_c = alone c (here g b i less)

        place_c : outside g.plan c (unshared (g.touched c) (open_of g b c)) context key ≡ true
        place_c = and_of (unshared (g.touched c) (open_of g b c) context key) (not (is_within g.plan c context))
            (unshared_is (g.touched c) (open_of g b c) context key its_c (unshared_none g b c context key none_c)) (ap not (never (is_within g.plan c context) (off c (here g b i less))))

        stands_c : StandWith g.run context key (first_seen (u_of g b i).first) (after_it g b each drawn i).state a d
        stands_c = record {
          number = number;
          has = stands.has;
          lanes = ap value_in (sym (same_slot (until g b) (first_seen (u_of g b i).first) (cell g b number context) (same_end g b each drawn context key touched none off alone i less ch number stands.has))) ∙ stands.lanes;
          plain = ap value_in (sym ((rest_leaves g b each drawn i less).slots context key (rest_same g b each drawn context key touched none off alone i less ch) (rest_off g b each drawn context key touched none off alone i less ch)
              (clear_end g b each drawn context key touched none off alone i less ch))) ∙ stands.plain;
        }

        value_c : value_of (after_it g b each drawn i).state.values d ≡ Some v
        unfolding stands_c
        value_c =
            let x = slots_in (cell_of g.run number) (first_seen (u_of g b i).first) context in
            let y = plain_slot (after_it g b each drawn i).state context key in
            matched_value g.run.meaning (plain_meaning (after_it g b each drawn i).state.values) x y a d v
            ((ended_near g b each drawn i less).ends.level.matches.slots context key number (place_is g b each drawn context key touched none off alone i less ch) stands.has) stands_c.lanes stands_c.plain means

        left_c : AreNew (first_seen (s_of g b i).first) (before_it g b i).state a d → IsLeftWithin g.plan c context v.text
        left_c new =
            elim (left_at g.plan c (before_it g b i).state (after_it g b each drawn i).state (child_leaves i less) context key d v (clear_before g b i less (gone_to i less) context key its_c) stands_c.plain value_c fails) [
              | inr now ↦ now.1
              | inl old ↦
                  let few = plain_drew g.plan (before_it g b i).state context key d (fine_before g b i).of_plan old in
                  let more = new.1 in
                  absurd (omega (arith, few, more))
            ]

        by_one : Old context key a d ⊎ New context key a d v
        by_one = elim ((ended_near g b each drawn i less).ends.orders.each context key a d v place_c stands_c means fails) [
          | inl before ↦ inl (record {
            number = before.number;
            has = before.has;
            lanes = ap value_in (sym (same_slot (first_seen (s_of g b i).first) (since g b) (cell g b before.number context) (same_start g b i less (gone_to i less) context before.number key its_c none_c before.has))) ∙ before.lanes;
            plain = ap value_in (sym ((leaves_to g b i).slots context key (unchanged_before g b i less (gone_to i less) context key its_c none_c) (off_before g b i less (gone_to i less) context key its_c)
                (clear_first g b context key touched))) ∙ before.plain;
          })
          | inr new ↦
              let lanes = prefix_rises (since g b) (first_seen (s_of g b i).first) (begun_at g b i less) in
              let plain = (leaves_to g b i).drawn in
              let first = new.0 in
              let second = new.1 in
              inr ((omega (arith, lanes, first), omega (arith, plain, second)), record { i = i; less = less; within = left_c new; how = inl (record { place = place_c; stands = stands_c; new = new }) })
        ]

      all_alone : Old context key a d ⊎ New context key a d v
      all_alone = elim (which (λ c. g.changes c context key) (cs g b)) [
        | inl one ↦ by_one one.0 one.1 one.2
        | inr no_change ↦ inl (unchanged no_change)
      ]

    -- ---- some share it

    module _ (c : ℕ) (c_in : Contains (cs g b) c) (w : Given) (shared : g.shares c context key ≡ Some w) where
      -- it is not free: nothing happens there, on the lanes
      module _ (off_free : free g b context key ≡ false) where
        frozen_slots : slots_in (cell_of g.run number) (until g b) context ≡ slots_in (cell_of g.run number) (since g b) context
        frozen_slots = same_slot (until g b) (since g b) (cell g b number context) (frozen g b c c_in context number key w shared stands.has off_free)

        -- and in the plain run each child finds what it would compute
        back : (i : ℕ) → i ≤ count → value_in (plain_slot (before_it g b i).state context key) ≡ Some d → value_in (plain_slot b.r.state context key) ≡ Some d
        back zero less is = is
        back (suc i) less is = back i (omega (arith, less)) before
          where
            inside : i < count
            inside = omega (arith, less)

            k : ℕ
            k = child_at g b i

            after : value_in (plain_slot (after_it g b each drawn i).state context key) ≡ Some d
            after = ap (λ (q : RunState). value_in (plain_slot q.state context key)) (sym (next g b each drawn i inside)) ∙ is

            outside_k : is_within g.plan (child_at g b i) context ≡ false
            outside_k = never (is_within g.plan (child_at g b i) context) (off (child_at g b i) (here g b i inside))

            u_slots : slots_in (cell_of g.run number) (first_seen (u_of g b i).first) context ≡ slots_in (cell_of g.run number) (since g b) context
            u_slots = same_slot (first_seen (u_of g b i).first) (since g b) (cell g b number context)
                (frozen_to g b (first_seen (u_of g b i).first) (prefix_trans (since g b) (first_seen (s_of g b i).first) (first_seen (u_of g b i).first) (begun_at g b i inside) (over_at g b i inside)) (ended_at g b i inside)
                c c_in context number key w shared stands.has off_free)

            stands_there : StandWith g.run context key (first_seen (u_of g b i).first) (after_it g b each drawn i).state a d
            stands_there = record { number = number; has = stands.has; lanes = ap value_in (u_slots ∙ sym frozen_slots) ∙ stands.lanes; plain = after }

            before : value_in (plain_slot (before_it g b i).state context key) ≡ Some d
            before = elim (bools (g.changes (child_at g b i) context key)) [
              | inr still ↦
                  let clear = (leaves_to g b i).stays_open context (within_none g.plan (take i (cs g b)) context (λ x there within. off x (first_ones g b i x there) within)) (clear_first g b context key touched) in
                  ap value_in (sym ((one_leaves g b (before_it g b i) (child_at g b i) (beside_child g (child_at g b i) (here g b i inside)) (fine_before g b i)).slots context key still outside_k clear)) ∙ after
              | inl ch ↦
                  let its_k = g.basis.covered.touches (child_at g b i) context key ch in
                  let place_k : outside g.plan (child_at g b i) (unshared (g.touched (child_at g b i)) (open_of g b (child_at g b i))) context key ≡ true =
                  and_of (unshared (g.touched (child_at g b i)) (open_of g b (child_at g b i)) context key) (not (is_within g.plan (child_at g b i) context))
                  (unshared_is (g.touched (child_at g b i)) (open_of g b (child_at g b i)) context key its_k (none_is g b (child_at g b i) context key off_free)) (ap not outside_k) in
                  elim ((ended_near g b each drawn i inside).ends.orders.each context key a d v place_k stands_there means fails) [
                    | inl stood_k ↦ stood_k.plain
                    | inr new ↦
                        let few = lanes_drew limits (since g b) (cell g b number context) a (legal_to (since g b) since_in) (ap value_in (sym frozen_slots) ∙ stands.lanes) in
                        let lanes = prefix_rises (since g b) (first_seen (s_of g b i).first) (begun_at g b i inside) in
                        let more = new.0 in
                        absurd (omega (arith, few, lanes, more))
                  ]
            ]

        frozen_old : Old context key a d
        frozen_old = record {
          number = number;
          has = stands.has;
          lanes = ap value_in (sym frozen_slots) ∙ stands.lanes;
          plain = back count (omega arith) (subst (λ (l : List ℕ). value_in (plain_slot (after_all g b.r l).state context key) ≡ Some d) (sym (take_all count (cs g b) (omega arith))) stands.plain);
        }

      -- it is free
      module _ (fr : free g b context key ≡ true) where
        -- and nothing was done
        untouched_old : (gone g b each drawn).settled context key ≡ false → Old context key a d
        untouched_old not_settled = elim (bools (is_left w)) [
          | inr nothing_left ↦ absurd (cc (sym (ap value_in (given_up g b each drawn context number key w c c_in shared nothing_left none fr stands.has)) ∙ stands.lanes))
          | inl left ↦ stood
              (sym (same_slot (since g b) (until g b) (cell g b number context)
              (sym (same_there g.h (since g b) (until g b) (cell g b number context) (since_until g b) (until_in_h g b) (λ place event low high there on.
              let by = maker g b context number place key event touched none stands.has low high there on in
              (gone g b each drawn).untouched by.i context number place key w c event by.less not_settled fr c_in shared left stands.has there on by.made)))))
              ((gone g b each drawn).unchanged context key w c not_settled fr c_in shared)
        ]

        -- or it is settled: nothing stood there at first
        module _ (settled : (gone g b each drawn).settled context key ≡ true) where
          value_is : w ≡ of_value v
          value_is = is_value g.run.meaning w v (slots_in (cell_of g.run number) (until g b) context) a (((gone g b each drawn).stand context key w c settled c_in shared).lanes number stands.has) stands.lanes means

          plain_value : value_of last.state.values d ≡ Some v
          plain_value =
              stands_means (plain_meaning last.state.values) (plain_slot last.state context key) d v
              (subst (λ x. Stands (plain_meaning last.state.values) x (plain_slot last.state context key)) value_is ((gone g b each drawn).stand context key w c settled c_in shared).plain) stands.plain

          plain_new : b.r.state.store.drawn < d
          plain_new =
              elim (left_at g.plan g.node b.r.state last.state all_leave context key d v (clear_first g b context key touched) stands.plain plain_value fails) [
                | inr new ↦ new.0
                | inl old ↦ absurd (cc (sym (ap value_in (empty_first g b context key (in_nodes g b g.node context key touched) none fr)) ∙ old))
              ]

          -- the event that left it there
          was_stored : WasStored (since_until g b).0 (cell g b number context) a
          was_stored =
              let at = cell g b number context in
              let here_last = subst (λ (h : History). value_in (slots_in (cell_of g.run number) h context) ≡ Some a) (sym (since_until g b).1) stands.lanes in
              elim (stood_or_stored (since g b) (since_until g b).0 at a here_last) [
                | inr stored ↦ stored
                | inl old ↦ absurd (cc (sym (ap value_in (absent_first g b context number key touched none fr stands.has)) ∙ old))
              ]

          by_shared : New context key a d v
          by_shared =
              let stored = was_stored in
              let come = has_come g.h b.opened.first b.body.joined (since_until g b).0 (until_in_h g b) (sym (since_until g b).1) stored.event stored.there in
              let low = come.seen.since in
              let high = come.seen.until in
              let by = maker g b context number come.place key stored.event touched none stands.has low high come.there stored.on in
              let k = child_at g b by.i in
              let k_in = here g b by.i by.less in
              let shared_k = maker_shares g b c c_in context number key w shared stands.has come.place stored.event come.there stored.on by.i by.less by.made in
              let computes = computed_at g b c c_in context number key w shared stands.has come.place stored.event low high come.there stored.on in
              let act_is = fills_in g.run w stored.event.act (cell g b number context) a computes stored.stores stored.on in
              let lanes_new = shared_is_new g.plan g.run g.locks g.h g.touched g.changes g.changed g.shares g.depth k (s_of g b by.i) (ran_at g b by.i) (u_of g b by.i) (since g b) g.basis (job_at g b by.i by.less).run
              (job_at g b by.i by.less).inside.begins (ends_in g b by.i by.less) context number come.place key w stored.event a shared_k stands.has come.there act_is by.made in
              let ch = maker_changes g b by.i by.less context number come.place key stored.event (in_nodes g b g.node context key touched) stands.has come.there stored.on by.made in
              let shared_v : g.shares k context key ≡ Some (of_value v) = subst (λ x. g.shares k context key ≡ Some x) value_is shared_k in (
                (lanes_new, plain_new),
                record {
                  i = by.i;
                  less = by.less;
                  within = g.basis.shared.fails_below k context key v shared_v ch fails;
                  how = inr (open_is g b k context key (of_value v) fr shared_v);
                },
              )

      all_shared : Old context key a d ⊎ New context key a d v
      all_shared = elim (bools (free g b context key)) [
        | inr off_free ↦ inl (frozen_old off_free)
        | inl fr ↦ elim (bools ((gone g b each drawn).settled context key)) [
          | inl on ↦ inr (by_shared fr on)
          | inr not_settled ↦ inl (untouched_old fr not_settled)
        ]
      ]

    old_or_new : Old context key a d ⊎ New context key a d v
    old_or_new = elim (which (λ c. is_some (g.shares c context key)) (cs g b)) [
      | inr no_sharing ↦ all_alone (λ x x_in. no_value (g.shares x context key) (no_sharing x x_in))
      | inl one ↦ let w = some_there (g.shares (child_at g b one.0) context key) one.2 in all_shared (child_at g b one.0) (here g b one.0 one.1) w.0 w.1
    ]

  -- ---- two of them

  -- where two children have left values beside one another they have one text
  apart_agree : (i j context : ℕ) (v w : ValueText) → i < count → j < count → j ≢ i → IsLeftWithin g.plan (child_at g b i) context v.text → IsLeftWithin g.plan (child_at g b j) context w.text → v.text ≡ w.text
  apart_agree i j context v w less less' differ first second =
      let c = child_at g b i in
      let k = child_at g b j in
      let one = conc g b c (here g b i less) in
      let other = conc g b k (here g b j less') in
      let apart = children_differ (over g) (run_tree g.plan g.run g.locks g.h g.touched g.changes g.changed g.shares g.basis) g.node g.path g.path_is i j less less' differ in
      let beside = children_beside g.plan g.basis.read g.node c k first.left.touch.node second.left.touch.node one.0 other.0 apart one.1 other.1 first.within second.within in
      sym first.left.text_is
      ∙ (g.basis.closes.one first.left.touch second.left.touch first.left.made second.left.made beside first.left.fails second.left.fails (first.left.context_is ∙ sym second.left.context_is) ∙ second.left.text_is)

  -- what is left at a place that is open for a child agrees with all that the child leaves in that context
  open_agrees : (i context : ℕ) (key : KeyValue) (v w : ValueText) → i < count → open_of g b (child_at g b i) context key ≡ Some (of_value v) → Fails v → IsLeftWithin g.plan (child_at g b i) context w.text → w.text ≡ v.text
  open_agrees i context key v w less opens fails left =
      let c = child_at g b i in
      let parent = beside_child g c (here g b i less) in
      let parts = open_parts g b c context key (of_value v) opens in
      let tree = plan_tree g.plan g.run g.locks g.h g.touched g.changes g.changed g.shares g.basis in
      let above : plan_path g.plan g.node ≡ drop 1 (plan_path g.plan c) =
      sym (its_path g.plan tree g.node g.path (path_in g)) ∙ ap (λ l. drop 1 l) (its_path g.plan tree c (c ∷ g.path) (child_on g c parent)) in
      let not_above : ¬ IsStoredIn g.plan (drop 1 (plan_path g.plan c)) context key =
      λ computed. both_ways (free g b context key) parts.0 (closed_off g b context key (subst (λ l. IsStoredIn g.plan l context key) (sym above) computed)) in
      let other = g.basis.shared.fails_beside c context key v parts.1 not_above fails in
      sym left.left.text_is
      ∙ (g.basis.closes.one left.left.touch other.left.touch left.left.made other.left.made (other.beside left.left.touch.node left.within) left.left.fails other.left.fails (left.left.context_is ∙ sym other.left.context_is)
      ∙ other.left.text_is)

  -- two new values with different texts are of one child, which shares neither
  both_new : (context : ℕ) (key other : KeyValue) (a d e f : ℕ) (v w : ValueText) → IsLeft context key a d v → IsLeft context other e f w → g.run.meaning.values a ≡ Some v → g.run.meaning.values e ≡ Some w
      → Fails v → Fails w → v.text ≢ w.text → a < e → d < f
  both_new context key other a d e f v w one two means meant fails failed differ less = elim (bools (two.i == one.i)) [
    | inr apart ↦ absurd (differ (apart_agree one.i two.i context v w one.less two.less (λ is. both_ways (two.i == one.i) (eq-eqb two.i one.i is) apart) one.within two.within))
    | inl same ↦
        let is : two.i ≡ one.i = eqb-true two.i one.i same in
        let within = subst (λ k. IsLeftWithin g.plan (child_at g b k) context w.text) is two.within in
        elim one.how [
          | inr opens ↦ absurd (differ (sym (open_agrees one.i context key v w one.less opens fails within)))
          | inl first ↦ elim (subst (λ k. ByOne k context other e f ⊎ (open_of g b (child_at g b k) context other ≡ Some (of_value w))) is two.how) [
            | inr opens ↦ absurd (differ (open_agrees one.i context other w v one.less opens failed one.within))
            | inl second ↦
                (ended_near g b each drawn one.i one.less).ends.orders.pairs context key other a d e f v w first.place second.place first.stands second.stands means meant fails failed differ first.new second.new less
          ]
        ]
  ]

  -- ---- all places that are not open

  abbrev places : Places
  places = away g.plan (cs g b) (unshared (g.touched g.node) b.o)

  each_is : (context : ℕ) (key : KeyValue) (a d : ℕ) (v : ValueText) → places context key ≡ true → StandWith g.run context key (until g b) last.state a d → g.run.meaning.values a ≡ Some v → Fails v
      → Old context key a d ⊎ New context key a d v
  each_is context key a d v is stands means fails =
      let parts = unshared_parts (g.touched g.node) b.o context key (away_first g.plan (cs g b) (unshared (g.touched g.node) b.o) context key is) in
      old_or_new context key a d v parts.0 parts.1 (away_from g.plan (cs g b) (unshared (g.touched g.node) b.o) context key is) stands means fails

  not_old : (context : ℕ) (key : KeyValue) (a d : ℕ) (v : ValueText) → AreNew (since g b) b.r.state a d → g.run.meaning.values a ≡ Some v → Old context key a d ⊎ New context key a d v → IsLeft context key a d v
  not_old context key a d v new means (inr is) = is.1
  not_old context key a d v new means (inl old) =
      let few = (drew_first.drew context key a d v refl old means).0 in
      let more = new.0 in
      absurd (omega (arith, few, more))

  pub beside_orders : Orders g.run (away g.plan (cs g b) (unshared (g.touched g.node) b.o)) (first_seen b.opened.first) (first_seen b.body.joined) b.r.state (after_all g b.r (cs g b)).state
  beside_orders = record {
    each = λ context key a d v is stands means fails. elim (each_is context key a d v is stands means fails) [ inl old ↦ inl old | inr new ↦ inr new.0 ];
    pairs = λ context key other a d e f v w is also stands more means meant fails failed differ new new' less.
        both_new context key other a d e f v w (not_old context key a d v new means (each_is context key a d v is stands means fails)) (not_old context other e f w new' meant (each_is context other e f w also more meant failed))
        means meant fails failed differ less;
  }
