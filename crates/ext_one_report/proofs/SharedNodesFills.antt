-- How many values the concurrent children of a container compute, on the lanes and in the plain run: but for those that each filled itself at places that are open for the container, as many.
use Rattle.std.proofs.Common.{◌≡◌, ◌≢◌, ℕ, zero, suc, ◌+◌, ◌<◌, ◌≤◌, ◌⊎◌, inl, inr, true, List, [], ◌∷◌, length, Contains, Option, None, Some, refl, ap, sym, subst, ◌∙◌, arith}
use Rattle.std.specs.Prelude.{if◌then◌else◌}
use Rattle.std.proofs.lemmas.Bool.{cases_lt}
use Rattle.ext_history.proofs.Lists.{bools, contains_cons, contains_here, contains_later, contains_none}
use Rattle.ext_model.specs.declared.event.Act.TheVariants.{Fill}
use Rattle.ext_model.specs.Events.{place_of}
use Rattle.ext_one_report.proofs.Numbers.{enough_numbers}
use Rattle.ext_tree.specs.Keys.{KeyValue}
use Rattle.ext_tree.proofs.KeyPlacing.{one_key, one_number}
use Rattle.ext_plan.specs.Values.{ValueText}
use Rattle.ext_engine.specs.Meeting.{first_seen}
use Rattle.ext_engine.specs.Order.{IsMadeIn}
use Rattle.ext_engine.proofs.Acts.{shorter}
use Rattle.ext_one_report.proofs.CloseSame.{numbered_or_not}
use Rattle.ext_one_report.proofs.FillEvents.{filled_once, filled_since}
use Rattle.ext_one_report.proofs.Fills.{Fills, IsFilledIn, IsSettled, Spot, computed_of, computed_told}
use Rattle.ext_one_report.proofs.FillsLaws.{fills_as, fills_beside, fills_narrow, fills_none}
use Rattle.ext_one_report.proofs.MatchingWords.{Places, plain_slot}
use Rattle.ext_one_report.proofs.NodePlaces.{or_either, or_first, or_second}
use Rattle.ext_one_report.proofs.Open.{Given, Open, is_open, of_value, some_or_none, still_open}
use Rattle.ext_one_report.proofs.OpenStep.{value_is_open}
use Rattle.ext_one_report.proofs.SharedNodesBegins.{Gone, absent_first, before_it, empty_first}
use Rattle.ext_one_report.proofs.SharedNodesBeside.{gone, gone_settled, later}
use Rattle.ext_one_report.proofs.SharedNodesBody.{Body, ChildrenEnd, Ground, acts_at, after_all, begun_at, cell, child_at, computed_at, cs, ended_at, free, here, in_nodes, made_meanwhile, maker, maker_changes, maker_of, maker_shares, one_maker, open_is, open_of, open_parts, ran_at, s_of, same_value, shared_below, since, since_until, touches, u_of, until, until_in_h, up_to}
use Rattle.ext_one_report.proofs.SharedNodesGone.{after_it, both_settled, earlier, ends_at, gone_at, inside, settled_first, settled_next, to_all}
use Rattle.ext_one_report.proofs.SharedNodesPlaces.{not_both, one_value, still_cases, still_none, still_parts}

-- ---- places that are settled

settled_on : (settled : Places) (o : Open) (spot : Spot) → IsSettled o (still_open settled o) spot → settled spot.0 spot.1 ≡ true
settled_on settled o spot is = elim (still_cases settled o spot.0 spot.1 is.closed) [ inl on ↦ on | inr none ↦ not_both (o spot.0 spot.1) (of_value is.value) none.1 is.was_open ]

is_settled : (settled : Places) (o : Open) (spot : Spot) (v : ValueText) → o spot.0 spot.1 ≡ Some (of_value v) → settled spot.0 spot.1 ≡ true → IsSettled o (still_open settled o) spot
is_settled settled o spot v was on = record { value = v; was_open = was; closed = still_none settled o spot.0 spot.1 on }

-- ---- places that one of several nodes shares

abbrev first_given : Option Given → Option Given → Option Given
first_given (Some v) other = Some v
first_given None other = other

-- with what the first of them that does computes there
abbrev shared_by : (ℕ → Open) → List ℕ → Open
shared_by shares [] context key = None
shared_by shares (c ∷ cs) context key = first_given (shares c context key) (shared_by shares cs context key)

shared_one : (shares : ℕ → Open) (xs : List ℕ) (context : ℕ) (key : KeyValue) (v : Given) → shared_by shares xs context key ≡ Some v → (c : ℕ) × Contains xs c × (shares c context key ≡ Some v)
shared_one shares [] context key v is = absurd (cc is)
shared_one shares (c ∷ xs) context key v is =
    let rest = shared_by shares xs context key in
    elim (some_or_none (shares c context key)) [
      | inr some ↦ (c, contains_here c xs, some.1 ∙ (sym (ap (λ o. first_given o rest) some.1) ∙ is))
      | inl none ↦ let r = shared_one shares xs context key v (sym (ap (λ o. first_given o rest) none) ∙ is) in (r.0, contains_later c xs r.0 r.1, r.2)
    ]

shared_some : (shares : ℕ → Open) (xs : List ℕ) (context : ℕ) (key : KeyValue) (c : ℕ) (v : Given) → Contains xs c → shares c context key ≡ Some v → (w : Given) × (shared_by shares xs context key ≡ Some w)
shared_some shares [] context key c v there is = absurd (contains_none c there)
shared_some shares (x ∷ xs) context key c v there is =
    let rest = shared_by shares xs context key in
    elim (some_or_none (shares x context key)) [
      | inr some ↦ (some.0, ap (λ o. first_given o rest) some.1)
      | inl none ↦ elim (contains_cons x xs c there) [
        | inl same ↦ not_both (shares x context key) v none (subst (λ n. shares n context key ≡ Some v) (sym same) is)
        | inr behind ↦ let r = shared_some shares xs context key c v behind is in (r.0, ap (λ o. first_given o rest) none ∙ r.1)
      ]
    ]

-- the sum of the first of these numbers
abbrev pub sum_first : (ℕ → ℕ) → ℕ → ℕ
sum_first f zero = 0
sum_first f (suc i) = sum_first f i + f i

-- ---- the concurrent children

module _ (g : Ground) (b : Body g) where
  -- all places that are open for some of them
  abbrev wide : Open
  wide context key = if free g b context key then shared_by g.shares (cs g b) context key else None

  wide_is : (c context : ℕ) (key : KeyValue) (v : Given) → Contains (cs g b) c → free g b context key ≡ true → g.shares c context key ≡ Some v → wide context key ≡ Some v
  wide_is c context key v c_in fr is =
      let some = shared_some g.shares (cs g b) context key c v c_in is in
      let one = shared_one g.shares (cs g b) context key some.0 some.1 in
      let same = same_value g b one.0 c context key some.0 v one.1 c_in one.2 is in
      ap (λ x. if x then shared_by g.shares (cs g b) context key else None) fr ∙ (some.1 ∙ ap (λ w. Some w) same)

  record IsWide (context : ℕ) (key : KeyValue) (v : Given) : Type 0 where
    is_free : free g b context key ≡ true
    c : ℕ
    c_in : Contains (cs g b) c
    shares : g.shares c context key ≡ Some v

  wide_parts : (context : ℕ) (key : KeyValue) (v : Given) → wide context key ≡ Some v → IsWide context key v
  wide_parts context key v is = elim (bools (free g b context key)) [
    | inl on ↦
        let one = shared_one g.shares (cs g b) context key v (sym (ap (λ x. if x then shared_by g.shares (cs g b) context key else None) on) ∙ is) in
        record { is_free = on; c = one.0; c_in = one.1; shares = one.2 }
    | inr off ↦ not_both (wide context key) v (ap (λ x. if x then shared_by g.shares (cs g b) context key else None) off) is
  ]

  -- ---- who filled a place

  abbrev FilledAt : ℕ → Spot → Type 0
  FilledAt i spot = IsFilledIn g.run g.h (s_of g b i).first (u_of g b i).first spot

  -- one of the first of them did
  record FilledFirst (i : ℕ) (spot : Spot) : Type 0 where
    j : ℕ
    below : j < i
    filled : FilledAt j spot

  within : (i place : ℕ) → i < length (cs g b) → IsMadeIn g.h place (s_of g b i).first (u_of g b i).first → (length (since g b) ≤ place) × (place < length (until g b))
  within i place less made =
      let low = shorter (since g b) (first_seen (s_of g b i).first) (begun_at g b i less) in
      let high = shorter (first_seen (u_of g b i).first) (until g b) (ended_at g b i less) in
      let seen = (acts_at g b i less).seen place made in
      let from = seen.0 in
      let to = seen.1 in
      (omega (arith, low, from), omega (arith, high, to))

  -- no two of them fill one place
  one_filler : (i j : ℕ) → i < length (cs g b) → j < length (cs g b) → (spot : Spot) (v : Given) → wide spot.0 spot.1 ≡ Some v → FilledAt i spot → FilledAt j spot → i ≡ j
  one_filler i j less below spot v is one other =
      let w = wide_parts spot.0 spot.1 v is in
      let number_is : other.number ≡ one.number = one_number g.run.numbering g.run.numbering (one_key g.run.numbering) spot.1 other.number one.number other.has one.has in
      let also : other.event.act ≡ Fill (cell g b one.number spot.0) other.value = other.act ∙ ap (λ n. Fill (cell g b n spot.0) other.value) number_is in
      let here = within i one.place less one.made in
      let there = within j other.place below other.made in
      let same = filled_once g.run g.run.store.id.cells.limits g.h (since g b) (until g b) spot.0 one.number v g.basis.legal (since_until g b) (until_in_h g b) (computed_at g b w.c w.c_in spot.0 one.number spot.1 v w.shares one.has)
      one.place other.place one.event other.event one.value other.value here.0 here.1 there.0 there.1 one.there other.there one.act also in
      one_maker g b i j one.place less below one.made (subst (λ p. IsMadeIn g.h p (s_of g b j).first (u_of g b j).first) (sym same) other.made)

  -- and who does shares it
  filler_shares : (i : ℕ) → i < length (cs g b) → (spot : Spot) (v : Given) → wide spot.0 spot.1 ≡ Some v → FilledAt i spot → open_of g b (child_at g b i) spot.0 spot.1 ≡ Some v
  filler_shares i less spot v is filled =
      let w = wide_parts spot.0 spot.1 v is in
      open_is g b (child_at g b i) spot.0 spot.1 v w.is_free
      (maker_shares g b w.c w.c_in spot.0 filled.number spot.1 v w.shares filled.has filled.place filled.event filled.there (ap place_of filled.act) i less filled.made)

  -- ---- all of them

  abbrev FilledMeanwhile : Spot → Type 0
  FilledMeanwhile spot = IsFilledIn g.run g.h b.opened.first b.body.joined spot

  longer : (i : ℕ) → i < length (cs g b) → (spot : Spot) → FilledAt i spot → FilledMeanwhile spot
  longer i less spot filled = record {
    number = filled.number;
    has = filled.has;
    place = filled.place;
    event = filled.event;
    there = filled.there;
    value = filled.value;
    act = filled.act;
    made = made_meanwhile g b i filled.place less filled.made;
  }

  first_to_all : (spot : Spot) → FilledFirst (length (cs g b)) spot → FilledMeanwhile spot
  first_to_all spot first = longer first.j first.below spot first.filled

  all_to_first : (spot : Spot) → FilledMeanwhile spot → FilledFirst (length (cs g b)) spot
  all_to_first spot filled =
      let by = maker_of g b filled.place filled.made in
      record {
        j = by.i;
        below = by.less;
        filled = record { number = filled.number; has = filled.has; place = filled.place; event = filled.event; there = filled.there; value = filled.value; act = filled.act; made = by.made };
      }

  -- what is open for the container and filled by one of them is open for some of them
  open_wide : (context : ℕ) (key : KeyValue) (v : Given) → b.o context key ≡ Some v → FilledMeanwhile (context, key) → wide context key ≡ Some v
  open_wide context key v is filled =
      let by = maker_of g b filled.place filled.made in
      let c_in = here g b by.i by.less in
      let few = in_nodes g b g.node context key (g.basis.shared.touched_there g.node context key v (b.among context key v is)) in
      let ch = maker_changes g b by.i by.less context filled.number filled.place key filled.event few filled.has filled.there (ap place_of filled.act) by.made in
      wide_is (child_at g b by.i) context key v c_in (or_first (is_open b.o context key) _ (value_is_open b.o context key v is))
      (shared_below g b (child_at g b by.i) context key v c_in (g.basis.covered.touches (child_at g b by.i) context key ch) is)

module _ (g : Ground) (b : Body g) (each : ChildrenEnd g) (drawn : (after_all g b.r (cs g b)).state.store.drawn < enough_numbers g.plan.size) where
  -- how many the first of the children computed, on the lanes
  abbrev pub first_computed : ℕ → ℕ
  first_computed = sum_first (λ i. computed_of (ran_at g b i))

  -- and in the plain run
  abbrev pub first_told : ℕ → ℕ
  first_told = sum_first (λ i. computed_told (ran_at g b i) (after_it g b each drawn i).results)

  abbrev FirstFills : (i : ℕ) → Places → Type 0
  FirstFills i settled = Fills (FilledFirst g b i) (wide g b) (still_open settled (wide g b)) b.r.state (first_computed i) (first_told i)

  -- ---- one more of them

  module _ (i : ℕ) (less : i < length (cs g b)) (was_gone : Gone g b i (before_it g b i)) where
    abbrev own : Open
    own = open_of g b (child_at g b i)

    abbrev now_settled : Places
    now_settled = (ends_at g b each drawn i less was_gone).ends.settled

    abbrev both : Places
    both = both_settled g b each drawn i less was_gone

    own_wide : (context : ℕ) (key : KeyValue) (v : Given) → own context key ≡ Some v → wide g b context key ≡ Some v
    own_wide context key v is = let parts = open_parts g b (child_at g b i) context key v is in wide_is g b (child_at g b i) context key v (here g b i less) parts.0 parts.1

    one_of_both : (spot : Spot) → IsSettled (wide g b) (still_open both (wide g b)) spot → IsSettled (wide g b) (still_open was_gone.settled (wide g b)) spot ⊎ IsSettled own (still_open now_settled own) spot
    one_of_both spot is = elim (or_either (was_gone.settled spot.0 spot.1) (now_settled spot.0 spot.1) (settled_on both (wide g b) spot is)) [
      | inl early ↦ inl (is_settled was_gone.settled (wide g b) spot is.value is.was_open early)
      | inr now ↦
          let was = (ends_at g b each drawn i less was_gone).ends.were_open spot.0 spot.1 now in
          let same = one_value (wide g b spot.0 spot.1) was.0 (of_value is.value) (own_wide spot.0 spot.1 was.0 was.1) is.was_open in
          inr (is_settled now_settled own spot is.value (was.1 ∙ ap (λ w. Some w) same) now)
    ]

    was_both : (spot : Spot) → IsSettled (wide g b) (still_open was_gone.settled (wide g b)) spot → IsSettled (wide g b) (still_open both (wide g b)) spot
    was_both spot is =
        is_settled both (wide g b) spot is.value is.was_open (or_first (was_gone.settled spot.0 spot.1) (now_settled spot.0 spot.1) (settled_on was_gone.settled (wide g b) spot is))

    now_both : (spot : Spot) → IsSettled own (still_open now_settled own) spot → IsSettled (wide g b) (still_open both (wide g b)) spot
    now_both spot is =
        is_settled both (wide g b) spot is.value (own_wide spot.0 spot.1 (of_value is.value) is.was_open) (or_second (was_gone.settled spot.0 spot.1) (now_settled spot.0 spot.1) (settled_on now_settled own spot is))

    same_plain : (context : ℕ) (key : KeyValue) (v : Given) → still_open was_gone.settled (wide g b) context key ≡ Some v → plain_slot (before_it g b i).state context key ≡ plain_slot b.r.state context key
    same_plain context key v is =
        let parts = still_parts was_gone.settled (wide g b) context key v is in
        let w = wide_parts g b context key v parts.1 in
        was_gone.unchanged context key v w.c parts.0 w.is_free w.c_in w.shares

    stands_plain : (spot : Spot) → IsSettled (wide g b) (still_open was_gone.settled (wide g b)) spot → plain_slot (before_it g b i).state spot.0 spot.1 ≢ None
    stands_plain spot is none =
        let w = wide_parts g b spot.0 spot.1 (of_value is.value) is.was_open in
        let stands = was_gone.stand spot.0 spot.1 (of_value is.value) w.c (settled_on was_gone.settled (wide g b) spot is) w.c_in w.shares in
        absurd (cc (sym none ∙ stands.plain.there))

    first_or_now : (spot : Spot) (v : ValueText) → wide g b spot.0 spot.1 ≡ Some (of_value v) → FilledFirst g b (suc i) spot → FilledFirst g b i spot ⊎ FilledAt g b i spot
    first_or_now spot v is first = elim (cases_lt first.j i) [
      | inl early ↦ inl (record { j = first.j; below = early; filled = first.filled })
      | inr late ↦
          let below = first.below in
          let same : first.j ≡ i = omega (arith, below, late) in
          inr (subst (λ k. FilledAt g b k spot) same first.filled)
    ]

    apart : (spot : Spot) (v : ValueText) → wide g b spot.0 spot.1 ≡ Some (of_value v) → FilledFirst g b i spot → FilledAt g b i spot → ⊥
    apart spot v is first now =
        let below = first.below in
        let same = one_filler g b first.j i (omega (arith, below, less)) less spot (of_value v) is first.filled now in
        absurd (omega (arith, below, same))

    next_fills : FirstFills i was_gone.settled → FirstFills (suc i) both
    next_fills fills =
        fills_beside (FilledFirst g b i) (FilledAt g b i) (FilledFirst g b (suc i)) (wide g b) (still_open was_gone.settled (wide g b)) (still_open both (wide g b)) own (still_open now_settled own)
        b.r.state (before_it g b i).state (first_computed i) (first_told i) (computed_of (ran_at g b i)) (computed_told (ran_at g b i) (after_it g b each drawn i).results)
        (λ context key v is. (still_parts was_gone.settled (wide g b) context key v is).1) own_wide one_of_both was_both now_both same_plain stands_plain first_or_now
        (λ spot first. let below = first.below in record { j = first.j; below = omega (arith, below); filled = first.filled }) (λ spot now. record { j = i; below = omega arith; filled = now })
        (λ spot v is filled. filler_shares g b i less spot (of_value v) is filled) apart fills (ends_at g b each drawn i less was_gone).ends.fills

  first_fills : (i : ℕ) → (less : i ≤ length (cs g b)) → FirstFills i (gone_at g b each drawn i less).settled
  first_fills zero less =
      subst (FirstFills 0) (sym (settled_first g b each drawn less))
      (fills_none (FilledFirst g b 0) (wide g b) b.r.state 0 (λ spot v is first. let below = first.below in absurd (omega (arith, below))))
  first_fills (suc i) less =
      subst (FirstFills (suc i)) (sym (settled_next g b each drawn i less))
      (next_fills i (inside g b each drawn i less) (gone_at g b each drawn i (earlier g b each drawn i less)) (first_fills i (earlier g b each drawn i less)))

  -- ---- all of them

  abbrev count : ℕ
  count = length (cs g b)

  abbrev settled : Places
  settled = (gone g b each drawn).settled

  -- what is computed at a place that is open for the container is what they compute there
  open_as_wide : (context : ℕ) (key : KeyValue) (v w : Given) → b.o context key ≡ Some v → wide g b context key ≡ Some w → v ≡ w
  open_as_wide context key v w is opens =
      let its = wide_parts g b context key w opens in
      one_value (g.shares its.c context key) v w (shared_below g b its.c context key v its.c_in (touches g b its.c context key w its.shares) is) its.shares

  settled_wide : (spot : Spot) → IsSettled b.o (still_open settled b.o) spot → IsSettled (wide g b) (still_open settled (wide g b)) spot
  settled_wide spot is =
      let on = settled_on settled b.o spot is in
      let was = (gone g b each drawn).were spot.0 spot.1 on in
      let opens = wide_is g b was.1 spot.0 spot.1 was.0 was.2 was.4 was.3 in
      let same = open_as_wide spot.0 spot.1 (of_value is.value) was.0 is.was_open opens in
      is_settled settled (wide g b) spot is.value (opens ∙ ap (λ w. Some w) (sym same)) on

  -- at a place that was open for them alone nothing stood, and where a value stands now one of them filled it
  filled_new : (spot : Spot) → IsSettled (wide g b) (still_open settled (wide g b)) spot → b.o spot.0 spot.1 ≡ None → (plain_slot b.r.state spot.0 spot.1 ≡ None) × FilledMeanwhile g b spot
  filled_new spot is none =
      let context = spot.0 in
      let key = spot.1 in
      let v = of_value is.value in
      let w = wide_parts g b context key v is.was_open in
      let on = settled_on settled (wide g b) spot is in
      let touched = touches g b w.c context key v w.shares in
      let up = up_to g b w.c context key w.c_in touched in
      let stands = (gone g b each drawn).stand context key v w.c on w.c_in w.shares in
      elim (numbered_or_not g.run key) [
        | inr without ↦ absurd ((gone g b each drawn).named context key on without)
        | inl number ↦
            let came = filled_since g.run g.h (since g b) (until g b) context number.0 is.value (since_until g b) (until_in_h g b) (computed_at g b w.c w.c_in context number.0 key v w.shares number.1)
            (absent_first g b context number.0 key up none w.is_free number.1) (stands.lanes number.0 number.1) in
            let by = maker g b context number.0 came.place key came.event up none number.1 came.low came.high came.there (ap place_of came.act) in (
              empty_first g b context key (in_nodes g b w.c context key touched) none w.is_free,
              longer g b by.i by.less spot (record { number = number.0; has = number.1; place = came.place; event = came.event; there = came.there; value = came.value; act = came.act; made = by.made }),
            )
      ]

  -- The sums go over the children in the order of the plain run; each is told with the results of its own end there
  pub beside_fills : Fills (IsFilledIn g.run g.h b.opened.first b.body.joined) b.o (later g b each drawn) b.r.state (first_computed count) (first_told count)
  beside_fills =
      let first : FirstFills count settled = subst (FirstFills count) (sym (gone_settled g b each drawn)) (first_fills count (to_all g b each drawn)) in
      let whole = fills_as (FilledFirst g b count) (FilledMeanwhile g b) (wide g b) (still_open settled (wide g b)) b.r.state (first_computed count) (first_told count) (first_computed count) (first_told count)
      (λ spot v is filled. first_to_all g b spot filled) (λ spot v is filled. all_to_first g b spot filled) refl refl first in
      fills_narrow (FilledMeanwhile g b) (wide g b) (still_open settled (wide g b)) b.o (later g b each drawn) b.r.state (first_computed count) (first_told count) open_as_wide (λ context key v is filled. open_wide g b context key (of_value v) is filled) settled_wide
      (λ spot v is wide_settled. is_settled settled b.o spot v is (settled_on settled (wide g b) spot wide_settled)) filled_new whole
