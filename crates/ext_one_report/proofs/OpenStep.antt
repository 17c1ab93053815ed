-- A step that computes at an open place: on a lane and in a plain run the value stands there afterwards, or the kept fault, and all else is as before.
use Rattle.std.proofs.Common.{◌≡◌, ℕ, ◌+◌, ◌⊎◌, inl, inr, Bool, true, false, true≢false, List, [], ◌∷◌, drop, refl, ap, sym, subst, ◌∙◌, arith, Option, None, Some}
use Rattle.std.specs.List.{slice_index_or}
use Rattle.std.specs.Prelude.{All, ◌&&◌, ◌||◌, ◌==◌, codes, if◌then◌else◌}
use base.Growing.{prefix_refl}
use Rattle.ext_history.specs.Histories.{seen_by}
use Rattle.ext_history.proofs.Lists.{bools}
use Rattle.ext_model.specs.declared.slot.Slot.{Slot}
use Rattle.ext_model.specs.declared.slot.Slot.TheVariants as slot
use Rattle.ext_model.specs.History.{slots_in}
use Rattle.ext_tree.specs.Keys.{KeyValue}
use Rattle.ext_tree.specs.Traits.{key_eq}
use Rattle.ext_tree.specs.Trees.{IsPathOf}
use Rattle.ext_tree.proofs.Equalities.{keys_Decides}
use Rattle.ext_tree.proofs.KeyPlacing.{number_stays, one_key, one_number}
use Rattle.ext_lifecycle.specs.declared.outcome.Outcome.{Outcome}
use Rattle.ext_plan.specs.declared.word.Word.TheVariants as words
use Rattle.ext_plan.specs.Plans.{KeyText, StepKeyText, StepText, keyed, fail, abort}
use Rattle.ext_plan.specs.StepCalls.{label_of, start_of}
use Rattle.ext_plan.specs.StoreKeys.{key_of_step}
use Rattle.ext_plan.specs.Values.{ValueText}
use Rattle.ext_cells.specs.Lanes.{CellsId}
use Rattle.ext_plan_plain.specs.ValueStates.{ValueState, enough, value_of}
use Rattle.ext_plan_plain.specs.StepRuns.{StepEnd, compute_numbered, computefail_numbered, numbered_by}
use Rattle.ext_plan_parallel.specs.StoreCalls.{PlanLane}
use Rattle.ext_plan_parallel.specs.StoreSteps.{StepComputes, StepFails}
use Rattle.ext_one_report.proofs.PlanCells.{changed_by}
use Rattle.ext_one_report.proofs.StandingsWords.{AreMatched, KnowsMore, fault, fault_stands, value, standing_of, value_stands}
use Rattle.ext_one_report.proofs.MatchingWords.{HasNumberIn, IsNumbered, Matches, Places, RunView, TextMeaning, cell_of, plain_meaning, plain_slot, text_of}
use Rattle.ext_one_report.specs.FullRuns.{FindsAll}
use Rattle.ext_one_report.proofs.StepsWords.{HasRoom}
use Rattle.ext_one_report.proofs.Calls.{path_above}
use Rattle.ext_one_report.proofs.Matching.{knows_itself}
use Rattle.ext_one_report.proofs.Standings.{matched_by_more}
use Rattle.ext_one_report.proofs.StepLooks.{key_found}
use Rattle.ext_one_report.proofs.PlainFrames.{IsOpen, LeavesElse, no_context}
use Rattle.ext_one_report.proofs.Fills.{Fills, IsFilledBy, Spot}
use Rattle.ext_one_report.proofs.FillsLaws.{fills_no_value, fills_one}
use Rattle.ext_one_report.proofs.Open.{AreNear, Given, IsEntry, IsFault, MayStand, Open, Stands, StandsOrNot, also, at_place, is_open, of_fault, of_nothing, of_value, still_open, values_of}
use Rattle.ext_one_report.proofs.OpenSteps.{AreBesideOpen, OpenComputesEndNear, StandsInBoth, StepEndsNear}
use Rattle.ext_one_report.proofs.OpenFits.{at_itself}
use Rattle.ext_one_report.proofs.OpenFills.{filled_or_not, only_its_place}
use Rattle.ext_one_report.proofs.OpenLane.{FillsAsSaid, LaneEnds, lane_ends, lane_faults}
use Rattle.ext_one_report.proofs.OpenPlain.{ComputesWhereNone, PlainEnds, counted, plain_ends, plain_faults, step_leaves}
use Rattle.ext_one_report.proofs.OwnEvents.{ActsOn, matches_at, near_at, number_is}
use Rattle.ext_one_report.proofs.WordCases.{finds_none}

-- ---- tests

both_true : (a b : Bool) → a && b ≡ true → (a ≡ true) × (b ≡ true)
both_true true b is = (refl, is)
both_true false b is = absurd (cc is)

either_true : (a b : Bool) → a || b ≡ true → (a ≡ true) ⊎ (b ≡ true)
either_true true b is = inl refl
either_true false b is = inr is

not_so : (b : Bool) → (b ≡ true → ⊥) → b ≡ false
not_so true h = absurd (h refl)
not_so false h = refl

-- no other place is at it
pub at_one : (context : ℕ) (key : KeyValue) (c : ℕ) (k : KeyValue) → at_place context key c k ≡ true → (context ≡ c) × (key ≡ k)
at_one context key c k is = let parts = both_true (c == context) (key_eq k key) is in (sym (number_is c context parts.0), sym ((keys_Decides k key).0 parts.1))

-- an open place that is not settled
pub still_there : (settled : Places) (open_at : Open) (c : ℕ) (k : KeyValue) (v : Given) → still_open settled open_at c k ≡ Some v → (settled c k ≡ false) × (open_at c k ≡ Some v)
still_there settled open_at c k v is =
    elim (bools (settled c k)) [
      | inl on ↦ absurd (cc (sym (ap (λ b. if b then None else open_at c k) on) ∙ is))
      | inr off ↦ (off, sym (ap (λ b. if b then None else open_at c k) off) ∙ is)
    ]

-- at an open place something is computed
value_of_open : (o : Option Given) (c : ℕ) (k : KeyValue) → is_open (λ context key. o) c k ≡ true → (v : Given) × (o ≡ Some v)
value_of_open None c k is = absurd (cc is)
value_of_open (Some v) c k is = (v, refl)

pub open_value : (open_at : Open) (c : ℕ) (k : KeyValue) → is_open open_at c k ≡ true → (v : Given) × (open_at c k ≡ Some v)
open_value open_at c k is = value_of_open (open_at c k) c k is

pub value_is_open : (open_at : Open) (c : ℕ) (k : KeyValue) (v : Given) → open_at c k ≡ Some v → is_open open_at c k ≡ true
value_is_open open_at c k v is = ap (λ o. is_open (λ context key. o) c k) is

-- ---- what is known more of

text_more : (o more : Option ValueText) (text : List ℕ) → ((v : ValueText) → o ≡ Some v → more ≡ Some v) → text_of o ≡ Some text → text_of more ≡ Some text
text_more None more text stays is = absurd (cc is)
text_more (Some v) more text stays is = ap text_of (stays v refl) ∙ is

pub knows_more : (changes : Places) (closes : ℕ → Bool) (s t : ValueState) → LeavesElse changes closes s t → KnowsMore (plain_meaning s.values) (plain_meaning t.values)
knows_more changes closes s t leaves = record {
  values = leaves.values;
  faults = λ number text is. text_more (value_of s.values number) (value_of t.values number) text (leaves.values number) is;
}

entry_more : (less more : TextMeaning) (v : Given) (number : ℕ) → KnowsMore less more → IsEntry less v number → IsEntry more v number
entry_more less more (of_value w) number knows is = knows.values number w is
entry_more less more (of_fault text) number knows is = is
entry_more less more (of_nothing text) number knows is = is

fault_more : (less more : TextMeaning) (v : Given) (number : ℕ) → KnowsMore less more → IsFault less v number → IsFault more v number
fault_more less more (of_value w) number knows is = is
fault_more less more (of_fault text) number knows is = knows.faults number text is
fault_more less more (of_nothing text) number knows is = is

pub or_not_more : (less more : TextMeaning) (v : Given) (x : Option Slot) → KnowsMore less more → StandsOrNot less v x → StandsOrNot more v x
or_not_more less more v None knows near = near
or_not_more less more v (Some (slot.Entry number)) knows near = entry_more less more v number knows near
or_not_more less more v (Some (slot.Fault number)) knows near = fault_more less more v number knows near
or_not_more less more v (Some (slot.Claim lane)) knows near = near
or_not_more less more v (Some (slot.Sealed kept)) knows near = near

-- what stands in both is matched
pub both_match : (ours theirs : TextMeaning) (v : Given) (x y : Option Slot) → Stands ours v x → Stands theirs v y → AreMatched ours theirs x y
both_match ours theirs (of_value w) x y here there = record {
  standing = value w;
  here = ap (standing_of ours) here.there ∙ ap value_stands here.means;
  there = ap (standing_of theirs) there.there ∙ ap value_stands there.means;
}
both_match ours theirs (of_fault text) x y here there = record {
  standing = fault text;
  here = ap (standing_of ours) here.there ∙ ap fault_stands here.means;
  there = ap (standing_of theirs) there.there ∙ ap fault_stands there.means;
}
both_match ours theirs (of_nothing text) x y here there = absurd here.means

-- at a place without a value none is computed
none_at : (o : Open) (spot other : Spot) → spot ≡ other → values_of o other.0 other.1 ≡ None → (w : ValueText) → o spot.0 spot.1 ≡ Some (of_value w) → ⊥
none_at o spot other same none w is =
    let there : o other.0 other.1 ≡ Some (of_value w) = subst (λ (place : Spot). o place.0 place.1 ≡ Some (of_value w)) same is in
    let both : None ≡ Some w = sym none ∙ ap (λ x. values_of (λ context key. x) other.0 other.1) there in
    cc both

-- ---- both runs

module _ (run : RunView) (path : List ℕ) (places : Places) (open_at : Open) (a b : PlanLane) (s : ValueState) (both : AreBesideOpen run path places open_at a b s) where
  -- in the plain run nothing stands under numbers that no key has, in contexts of all these places
  pub clear_within : (c : ℕ) (k : KeyValue) → places c k ≡ true → IsOpen c s
  clear_within c k is = λ number past. both.numbered.beyond c k number is past

  pub clear_open : (c : ℕ) (k : KeyValue) (v : Given) → open_at c k ≡ Some v → IsOpen c s
  clear_open c k v is = λ number past. both.near.numbered.beyond c k number (value_is_open open_at c k v is) past

  -- a lane that acts at an open place alone, and a plain run that leaves all but these places
  module _ (context : ℕ) (key : KeyValue) (number : ℕ) (v : Given) (is_there : open_at context key ≡ Some v) (has : HasNumberIn run key number) (acts : ActsOn (cell_of run number context) a.cells.view b.cells.view)
      (changes : Places) (t : ValueState) (leaves : LeavesElse changes no_context s t) where
    pub knows : KnowsMore (plain_meaning s.values) (plain_meaning t.values)
    knows = knows_more changes no_context s t leaves

    -- there all is as it was in the plain run
    pub same_within : (c : ℕ) (k : KeyValue) → places c k ≡ true → changes c k ≡ false → plain_slot t c k ≡ plain_slot s c k
    same_within c k is off = leaves.slots c k off refl (clear_within c k is)

    pub same_open : (c : ℕ) (k : KeyValue) (w : Given) → changes c k ≡ false → open_at c k ≡ Some w → plain_slot t c k ≡ plain_slot s c k
    same_open c k w off is = leaves.slots c k off refl (clear_open c k w is)

    -- where the same stood the same stands,
    pub matched_still : (c : ℕ) (k : KeyValue) (n : ℕ) → places c k ≡ true → changes c k ≡ false → HasNumberIn run k n
        → AreMatched run.meaning (plain_meaning t.values) (slots_in (cell_of run n) (seen_by b.cells.view) c) (plain_slot t c k)
    matched_still c k n within off has' =
        let kept : Matches run places (seen_by b.cells.view) s =
        matches_at run places both.view context key number has (both.beside.apart context key v is_there) a.cells.view b.cells.view both.alone acts s both.matches (seen_by b.cells.view) acts.goes (prefix_refl (seen_by b.cells.view)) in
        let more : AreMatched run.meaning (plain_meaning t.values) (slots_in (cell_of run n) (seen_by b.cells.view) c) (plain_slot s c k) =
        matched_by_more run.meaning (plain_meaning s.values) run.meaning (plain_meaning t.values) _ _ (knows_itself run.meaning) knows (kept.slots c k n within has') in
        subst (λ x. AreMatched run.meaning (plain_meaning t.values) (slots_in (cell_of run n) (seen_by b.cells.view) c) x) (sym (same_within c k within off)) more

    -- and at open places what is computed may stand
    pub lanes_still : (c : ℕ) (k : KeyValue) (n : ℕ) (w : Given) → open_at c k ≡ Some w → HasNumberIn run k n → MayStand run.meaning w (slots_in (cell_of run n) (seen_by b.cells.view) c)
    lanes_still c k n w is has' = near_at run open_at a.cells.view b.cells.view both.computed c k n w is has' (seen_by b.cells.view) acts.goes (prefix_refl (seen_by b.cells.view)) (both.near.lanes c k n w is has')

    pub plain_still : (c : ℕ) (k : KeyValue) (w : Given) → open_at c k ≡ Some w → changes c k ≡ false → StandsOrNot (plain_meaning t.values) w (plain_slot t c k)
    plain_still c k w is off =
        subst (λ x. StandsOrNot (plain_meaning t.values) w x) (sym (same_open c k w off is)) (or_not_more (plain_meaning s.values) (plain_meaning t.values) w (plain_slot s c k) knows (both.near.plain c k w is))

    pub above_still : ((c : ℕ) (k : KeyValue) → places c k ≡ true → changes c k ≡ false) → (c : ℕ) (k : KeyValue) (w : Given) (above : List ℕ) → open_at c k ≡ Some w → IsPathOf run.store.tree c (c ∷ above)
        → All (λ d. plain_slot t d k ≡ None) above
    above_still off c k w above is path_is = λ i d less.
        let within = both.beside.above c k w above is path_is i d less in
        same_within (slice_index_or above i d) k within (off (slice_index_or above i d) k within) ∙ both.near.above c k w above is path_is i d less

  module _ (context : ℕ) (key : KeyValue) (number : ℕ) (v : Given) (is_there : open_at context key ≡ Some v) (has : HasNumberIn run key number) (o : Outcome) (end : StepEnd)
      (ours : LaneEnds run context number v a o b) (theirs : PlainEnds context key v (plain_slot s context key) end) (leaves : LeavesElse (at_place context key) no_context s end.state) where
    -- the place is none of those where the same is to stand
    off_within : (c : ℕ) (k : KeyValue) → places c k ≡ true → at_place context key c k ≡ false
    off_within c k is = not_so (at_place context key c k) (λ on.
        let one = at_one context key c k on in
        let same : places context key ≡ places c k = λ i. places (one.0 i) (one.1 i) in
        true≢false (sym is ∙ (sym same ∙ both.beside.apart context key v is_there)))

    still_within : (c : ℕ) (k : KeyValue) → places c k ≡ true → plain_slot end.state c k ≡ plain_slot s c k
    still_within c k is = same_within context key number v is_there has ours.acts (at_place context key) end.state leaves c k is (off_within c k is)

    stands_in_both : StandsInBoth run v context key (seen_by b.cells.view) end.state
    stands_in_both = record {
      lanes = λ n has'. subst (λ m. Stands run.meaning v (slots_in (cell_of run m) (seen_by b.cells.view) context)) (one_number run.numbering run.numbering (one_key run.numbering) key number n has has') ours.stands;
      plain = theirs.stands;
    }

    stands_at : (c : ℕ) (k : KeyValue) (w : Given) → at_place context key c k ≡ true → open_at c k ≡ Some w → StandsInBoth run w c k (seen_by b.cells.view) end.state
    stands_at c k w on is =
        let one = at_one context key c k on in
        let same : open_at context key ≡ open_at c k = λ i. open_at (one.0 i) (one.1 i) in
        let some : Some v ≡ Some w = sym is_there ∙ (same ∙ is) in
        let v_is : v ≡ w = cc some in
        subst (λ (x : ℕ × (KeyValue × Given)). StandsInBoth run x.1.1 x.0 x.1.0 (seen_by b.cells.view) end.state) (λ i. (one.0 i, (one.1 i, v_is i))) stands_in_both

    matches_then : Matches run (also (at_place context key) places) (seen_by b.cells.view) end.state
    matches_then = record {
      slots = λ c k n is has'. elim (either_true (places c k) (at_place context key c k) is) [
        | inl within ↦ matched_still context key number v is_there has ours.acts (at_place context key) end.state leaves c k n within (off_within c k within) has'
        | inr on ↦
            let one = at_one context key c k on in
            let same : open_at context key ≡ open_at c k = λ i. open_at (one.0 i) (one.1 i) in
            let it = stands_at c k v on (sym same ∙ is_there) in
            both_match run.meaning (plain_meaning end.state.values) v (slots_in (cell_of run n) (seen_by b.cells.view) c) (plain_slot end.state c k) (it.lanes n has') it.plain
      ];
      unnumbered = λ c k is none. elim (either_true (places c k) (at_place context key c k) is) [
        | inl within ↦ still_within c k within ∙ both.matches.unnumbered c k within none
        | inr on ↦ absurd (none number (subst (λ x. HasNumberIn run x number) (at_one context key c k on).1 has))
      ];
    }

    numbered_then : IsNumbered (also (at_place context key) places) end.state
    numbered_then = record {
      beyond = λ c k n is past. elim (either_true (places c k) (at_place context key c k) is) [
        | inl within ↦ leaves.stays_open c refl (clear_within c k within) n past
        | inr on ↦
            let one = at_one context key c k on in
            let same : open_at context key ≡ open_at c k = λ i. open_at (one.0 i) (one.1 i) in
            leaves.stays_open c refl (clear_open c k v (sym same ∙ is_there)) n past
      ];
      drawn = theirs.drawn;
    }

    near_then : AreNear run (still_open (at_place context key) open_at) (seen_by b.cells.view) end.state
    near_then = record {
      lanes = λ c k n w is has'.
          lanes_still context key number v is_there has ours.acts (at_place context key) end.state leaves c k n w (still_there (at_place context key) open_at c k w is).1 has';
      plain = λ c k w is.
          let parts = still_there (at_place context key) open_at c k w is in
          plain_still context key number v is_there has ours.acts (at_place context key) end.state leaves c k w parts.1 parts.0;
      above = λ c k w above is path_is.
          above_still context key number v is_there has ours.acts (at_place context key) end.state leaves off_within c k w above (still_there (at_place context key) open_at c k w is).1 path_is;
      numbered = record {
        beyond = λ c k n is past.
            let some = open_value (still_open (at_place context key) open_at) c k is in
            let parts = still_there (at_place context key) open_at c k some.0 some.1 in
            leaves.stays_open c refl (clear_open c k some.0 parts.1) n past;
        drawn = theirs.drawn;
      };
    }

    -- where no value is none is filled
    fills_none_there : values_of open_at context key ≡ None → o.computed ≡ end.computed → Fills (IsFilledBy run a b) open_at (still_open (at_place context key) open_at) s o.computed end.computed
    fills_none_there none same =
        subst (λ n. Fills (IsFilledBy run a b) open_at (still_open (at_place context key) open_at) s o.computed n) same
        (fills_no_value (IsFilledBy run a b) open_at s context key o.computed none
        (λ spot w is filled. none_at open_at spot (context, key) (only_its_place run both.view context key number has a b ours.acts spot filled) none w is))

    fills_by : (w : Given) → open_at context key ≡ Some w → FillsAsSaid w (cell_of run number context) a.cells.view b.cells.view o → ComputesWhereNone w (plain_slot s context key) end
        → o.computed + o.found ≡ counted w → end.computed + end.found ≡ counted w → Fills (IsFilledBy run a b) open_at (still_open (at_place context key) open_at) s o.computed end.computed
    fills_by (of_value w) is mine other ours_are theirs_are =
        fills_one (IsFilledBy run a b) open_at s context key w o.computed end.computed is (filled_or_not run both.view context key number has a b o mine) other
        (λ spot w' is' filled. only_its_place run both.view context key number has a b ours.acts spot filled)
    fills_by (of_fault text) is mine other ours_are theirs_are = fills_none_there (ap (λ x. values_of (λ c k. x) context key) is) (omega (arith, ours_are, theirs_are))
    fills_by (of_nothing text) is mine other ours_are theirs_are = fills_none_there (ap (λ x. values_of (λ c k. x) context key) is) (omega (arith, ours_are, theirs_are))

    pub ends_near : StepEndsNear run places open_at (at_place context key) a s o b end
    ends_near = record {
      says = ours.says;
      plain_says = theirs.says;
      counts = ours.counts ∙ sym theirs.counts;
      named = λ c k on. (number, subst (λ x. HasNumberIn run x number) (at_one context key c k on).1 has);
      matches = matches_then;
      numbered = numbered_then;
      near = near_then;
      stands = stands_at;
      others = same_open context key number v is_there has ours.acts (at_place context key) end.state leaves;
      fills = fills_by v is_there ours.fills theirs.fills ours.counts theirs.counts;
    }

-- ---- the step

module _ (run : RunView) (keys : List KeyText) (path : List ℕ) (places : Places) (open_at : Open) (name : List ℕ) (key : StepKeyText) (a : PlanLane) (o : Outcome) (b : PlanLane) (s : ValueState)
    (both : AreBesideOpen run path places open_at a b s) (finds : FindsAll name (label_of keys key) o) (room : HasRoom (key_of_step keys key) s) where
  -- a store keeps faults or not, on the lane and in the plain run
  pub keeps_on_lane : (keep : Bool) → run.store.id.cells.limits.keep_faults ≡ keep → a.cells.cells.limits.keep_faults ≡ keep
  keeps_on_lane keep is = ap (λ (cells : CellsId). cells.limits.keep_faults) both.of.cells ∙ is

  pub keeps_in_plain : (keep : Bool) → run.store.id.cells.limits.keep_faults ≡ keep → s.keep_faults ≡ keep
  keeps_in_plain keep is = sym both.keeps ∙ is

  -- along a path of the store's tree: a value,
  values_along : (v : ValueText) (below : List ℕ) → IsPathOf run.store.tree (start_of below) below → open_at (start_of below) (key_of_step keys key) ≡ Some (of_value v)
      → StepComputes run.store (record { name = name; label = label_of keys key; path = below; key = key_of_step keys key }) v a o b
      → LeavesElse (at_place (start_of below) (key_of_step keys key)) no_context s (numbered_by enough name (label_of keys key) (key_of_step keys key) (compute_numbered enough name (label_of keys key) below v) s).state
      → StepEndsNear run places open_at (at_place (start_of below) (key_of_step keys key)) a s o b (numbered_by enough name (label_of keys key) (key_of_step keys key) (compute_numbered enough name (label_of keys key) below v) s)
  values_along v [] is_path is made leaves = absurd is_path
  values_along v (context ∷ above) is_path is (inr (why, refused_key, (same, ends))) leaves = absurd (key_found name (label_of keys key) o a b (key_of_step keys key) why finds refused_key ends)
  values_along v (context ∷ above) is_path is (inl (number, has, made)) leaves =
      let k : KeyValue = key_of_step keys key in
      let has_in : HasNumberIn run k number = number_stays b.keys run.numbering k number both.lane.keys has in
      let none : All (λ c. plain_slot s c k ≡ None) above = both.near.above context k (of_value v) above is is_path in
      let within : All (λ c. places c k ≡ true) above = both.beside.above context k (of_value v) above is is_path in
      let ours : LaneEnds run context number (of_value v) a o b =
      lane_ends run places open_at both.view both.tree both.beside name (label_of keys key) context above k number is_path has_in (of_value v) is s none a b o both.lane finds both.alone both.computed both.legal both.matches
      (both.near.lanes context k number (of_value v) is has_in) v refl made in
      let theirs : PlainEnds context k (of_value v) (plain_slot s context k) (numbered_by enough name (label_of keys key) k (compute_numbered enough name (label_of keys key) (context ∷ above) v) s) =
      plain_ends keys name key context above s room both.numbered.drawn (clear_open run path places open_at a b s both context k (of_value v) is)
      (λ i d less. clear_within run path places open_at a b s both (slice_index_or above i d) k (within i d less)) none v (both.near.plain context k (of_value v) is) in
      ends_near run path places open_at a b s both context k number (of_value v) is has_in o _ ours theirs leaves

  -- or a fault that is kept
  faults_along : (text : List ℕ) (below : List ℕ) → IsPathOf run.store.tree (start_of below) below → open_at (start_of below) (key_of_step keys key) ≡ Some (of_fault text)
      → StepFails run.store (record { name = name; label = label_of keys key; path = below; key = key_of_step keys key }) text a o b
      → LeavesElse (at_place (start_of below) (key_of_step keys key)) no_context s (numbered_by enough name (label_of keys key) (key_of_step keys key) (computefail_numbered enough name (label_of keys key) below text) s).state
      → StepEndsNear run places open_at (at_place (start_of below) (key_of_step keys key)) a s o b (numbered_by enough name (label_of keys key) (key_of_step keys key) (computefail_numbered enough name (label_of keys key) below text) s)
  faults_along text [] is_path is made leaves = absurd is_path
  faults_along text (context ∷ above) is_path is (inr (why, refused_key, (same, ends))) leaves = absurd (key_found name (label_of keys key) o a b (key_of_step keys key) why finds refused_key ends)
  faults_along text (context ∷ above) is_path is (inl (number, has, made)) leaves =
      let k : KeyValue = key_of_step keys key in
      let has_in : HasNumberIn run k number = number_stays b.keys run.numbering k number both.lane.keys has in
      let none : All (λ c. plain_slot s c k ≡ None) above = both.near.above context k (of_fault text) above is is_path in
      let within : All (λ c. places c k ≡ true) above = both.beside.above context k (of_fault text) above is is_path in
      let keeps : run.store.id.cells.limits.keep_faults ≡ true = both.beside.kept context k (of_fault text) is in
      let ours : LaneEnds run context number (of_fault text) a o b =
      lane_faults run places open_at both.view both.tree both.beside name (label_of keys key) context above k number is_path has_in (of_fault text) is s none a b o both.lane finds both.alone both.computed both.legal both.matches
      (both.near.lanes context k number (of_fault text) is has_in) text refl (keeps_on_lane true keeps) made in
      let theirs : PlainEnds context k (of_fault text) (plain_slot s context k) (numbered_by enough name (label_of keys key) k (computefail_numbered enough name (label_of keys key) (context ∷ above) text) s) =
      plain_faults keys name key context above s room both.numbered.drawn (clear_open run path places open_at a b s both context k (of_fault text) is)
      (λ i d less. clear_within run path places open_at a b s both (slice_index_or above i d) k (within i d less)) none text (keeps_in_plain true keeps) (both.near.plain context k (of_fault text) is) in
      ends_near run path places open_at a b s both context k number (of_fault text) is has_in o _ ours theirs leaves

-- a step changes the place of its own key alone
may_change : (keys : List KeyText) (path : List ℕ) (step : StepText) (key : StepKeyText) (up : ℕ) → changed_by step ≡ Some (key, up) → (other : StepKeyText) (more : ℕ) → changed_by step ≡ Some (other, more)
    → at_place (start_of (drop up path)) (key_of_step keys key) (start_of (drop more path)) (key_of_step keys other) ≡ true
may_change keys path step key up is other more so =
    let some : Some (key, up) ≡ Some (other, more) = sym is ∙ so in
    let one : (key, up) ≡ (other, more) = cc some in
    subst (λ (x : StepKeyText × ℕ). at_place (start_of (drop up path)) (key_of_step keys key) (start_of (drop x.1 path)) (key_of_step keys x.0) ≡ true) one
    (at_itself (start_of (drop up path)) (key_of_step keys key))

-- any step that computes at an open place what is left there
pub opens_end_near : OpenComputesEndNear
opens_end_near run keys path places open_at (keyed words.Compute key text up) a o b s opens less both finds room (inl made) =
    values_along run keys path places open_at (codes "compute") key a o b s both finds.1 room (record { text = text; closeable = false }) (drop up path)
    (path_above run.store.tree path (start_of path) up both.path_is less) opens.1 made
    (step_leaves keys path (keyed words.Compute key text up) (at_place (start_of (drop up path)) (key_of_step keys key)) s (may_change keys path (keyed words.Compute key text up) key up refl) both.memory)
opens_end_near run keys path places open_at (keyed words.ComputeCloseable key text up) a o b s opens less both finds room (inl made) =
    values_along run keys path places open_at (codes "compute!") key a o b s both finds.1 room (record { text = text; closeable = true }) (drop up path)
    (path_above run.store.tree path (start_of path) up both.path_is less) opens.1 made
    (step_leaves keys path (keyed words.ComputeCloseable key text up) (at_place (start_of (drop up path)) (key_of_step keys key)) s (may_change keys path (keyed words.ComputeCloseable key text up) key up refl) both.memory)
opens_end_near run keys path places open_at (keyed words.ComputeFail key text up) a o b s opens less both finds room (inl made) =
    faults_along run keys path places open_at (codes "computefail") key a o b s both finds.1 room text (drop up path)
    (path_above run.store.tree path (start_of path) up both.path_is less) opens.1 made
    (step_leaves keys path (keyed words.ComputeFail key text up) (at_place (start_of (drop up path)) (key_of_step keys key)) s (may_change keys path (keyed words.ComputeFail key text up) key up refl) both.memory)
opens_end_near run keys path places open_at (keyed word key text up) a o b s opens less both finds room (inl made) = absurd (cc opens.0)
opens_end_near run keys path places open_at (keyed word key text up) a o b s opens less both finds room (inr lacks) = absurd (finds.0 (finds_none keys word key a o b lacks).ends.0)
opens_end_near run keys path places open_at (fail text) a o b s opens less both finds room ran = absurd opens
opens_end_near run keys path places open_at (abort text) a o b s opens less both finds room ran = absurd opens
