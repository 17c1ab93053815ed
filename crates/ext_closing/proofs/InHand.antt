-- The lanes in hand, of which the first was changed.
use Rattle.std.proofs.Common.{◌≡◌, ◌≤◌, ◌<◌, ℕ, zero, suc, All, List, [], ◌∷◌, length, get_or, refl, ap, sym, subst, ◌∙◌, arith, Option}
use Rattle.std.proofs.Math.ListN.{set}
use Rattle.std.specs.List.{AllZip}
use Rattle.ext_store.specs.Stores.{StoreId, StoreView, StoreLane, IsLaneOf, StillKeeps}
use Rattle.ext_cells.specs.Lanes.{Lane}
use Rattle.ext_closing.specs.declared.fault.CloseFault.{CloseFault}
use Rattle.ext_closing.specs.declared.fault.CloseFault.TheVariants.{Busy, Contended, Unjoined}
use Rattle.ext_closing.specs.Lanes.{first_lane, with_first, OnlyFirstSteps}
use Rattle.ext_closing.specs.Sealing.{SealsInOrder, numbers_left}
use Rattle.ext_closing.specs.Closing.{NamesUnjoined}
use Rattle.ext_closing.specs.InnerSteps.{BeginsAt, Begun, BlockBegun, IsOfKey, SealedSoFar, SealingEnds}
use Rattle.ext_closing.specs.declared.seals.Marked.{Marked}
use Rattle.std.specs.Prelude.{◌+◌, ◌*◌}
use Rattle.ext_store.specs.LaneCalls.{steps_of}
use Rattle.ext_closing.proofs.Counting.{steps_within}

all_keep : {V : Type 0} (lanes : List (StoreLane V)) → AllZip StillKeeps lanes lanes
all_keep [] = tt
all_keep (lane ∷ others) = ((λ number keeps. keeps), all_keep others)

first_changed : {V : Type 0} (store : StoreView) (lanes : List (StoreLane V)) (after : StoreLane V) → 1 ≤ length lanes → first_lane store (set lanes 0 after) ≡ after.cells
first_changed store [] after some = absurd (omega (arith, some))
first_changed store (lane ∷ others) after some = refl

first_is : {V : Type 0} (store : StoreView) (lanes : List (StoreLane V)) (d : StoreLane V) → 1 ≤ length lanes → first_lane store lanes ≡ (get_or lanes 0 d).cells
first_is store [] d some = absurd (omega (arith, some))
first_is store (lane ∷ others) d some = refl

others_stay : {V : Type 0} (lanes : List (StoreLane V)) (after d : StoreLane V) → 1 ≤ length lanes → after.known ≡ (get_or lanes 0 d).known → after.faults ≡ (get_or lanes 0 d).faults → after.keys ≡ (get_or lanes 0 d).keys → set lanes 0 after ≡ with_first after.cells lanes
others_stay [] after d some known faults keys = absurd (omega (arith, some))
others_stay (lane ∷ others) after d some known faults keys = λ i. record { cells = after.cells; known = known i; faults = faults i; keys = keys i } ∷ others

others_keep : {V : Type 0} (lanes : List (StoreLane V)) (after d : StoreLane V) → 1 ≤ length lanes → StillKeeps (get_or lanes 0 d) after → AllZip StillKeeps lanes (set lanes 0 after)
others_keep [] after d some kept = absurd (omega (arith, some))
others_keep (lane ∷ others) after d some kept = (kept, all_keep others)

at_each : {A : Type 0} (P : A → Type 0) (y : A) (ys : List A) (x : A) → P x → All P (y ∷ ys) → (k : ℕ) (d : A) → k < length (x ∷ ys) → P (get_or (x ∷ ys) k d)
at_each P y ys x is all zero d within = is
at_each P y ys x is all (suc k) d within = all (suc k) d within

all_changed : {A : Type 0} (P : A → Type 0) (xs : List A) (x : A) → P x → All P xs → All P (set xs 0 x)
all_changed P [] x is all = all
all_changed P (y ∷ ys) x is all = at_each P y ys x is all

module _ {V : Type 0} (lanes new : List (StoreLane V)) (after d : StoreLane V) (is : new ≡ set lanes 0 after) (some : 1 ≤ length lanes) where
  pub only_first : after.known ≡ (get_or lanes 0 d).known → after.faults ≡ (get_or lanes 0 d).faults → after.keys ≡ (get_or lanes 0 d).keys → OnlyFirstSteps lanes new
  only_first known faults keys = (after.cells, is ∙ others_stay lanes after d some known faults keys)

  pub still_kept : StillKeeps (get_or lanes 0 d) after → AllZip StillKeeps lanes new
  still_kept kept = subst (AllZip StillKeeps lanes) (sym is) (others_keep lanes after d some kept)

  pub still_own : (id : StoreId) → IsLaneOf id after → All (IsLaneOf id) lanes → All (IsLaneOf id) new
  still_own id own all = subst (All (IsLaneOf id)) (sym is) (all_changed (IsLaneOf id) lanes after own all)

  first_after : (store : StoreView) → first_lane store new ≡ after.cells
  first_after store = ap (first_lane store) is ∙ first_changed store lanes after some

  -- what the seals are for the first lane, they are for the lanes in hand
  pub first_ends : (store : StoreView) (context : ℕ) (fault : Option CloseFault) → SealingEnds store context (get_or lanes 0 d).cells after.cells fault → SealingEnds store context (first_lane store lanes) (first_lane store new) fault
  first_ends store context fault ends =
      subst (λ (lane : Lane). SealingEnds store context lane (first_lane store new) fault) (sym (first_is store lanes d some))
      (subst (λ (lane : Lane). SealingEnds store context (get_or lanes 0 d).cells lane fault) (sym (first_after store)) ends)

  -- and so are the numbers that remain
  first_left : (store : StoreView) (context : ℕ) (numbers : List ℕ) → numbers ≡ numbers_left store context after.cells → numbers ≡ numbers_left store context (first_lane store new)
  first_left store context numbers left = left ∙ ap (numbers_left store context) (sym (first_after store))

  pub none_left : (store : StoreView) (context : ℕ) → numbers_left store context after.cells ≡ [] → [] ≡ numbers_left store context (first_lane store new)
  none_left store context none = first_left store context [] (sym none)

  -- also those of a call that began before
  module _ (store : StoreView) (context keys : ℕ) (begun : Lane) (so_far : SealedSoFar store context keys begun (first_lane store lanes) []) where
    so_far_first : SealedSoFar store context keys begun (get_or lanes 0 d).cells []
    so_far_first = subst (λ (lane : Lane). SealedSoFar store context keys begun lane []) (first_is store lanes d some) so_far

    pub ends_from : (fault : Option CloseFault) → ((before : Lane) → SealedSoFar store context keys before (get_or lanes 0 d).cells [] → SealingEnds store context before after.cells fault) → SealingEnds store context begun (first_lane store new) fault
    ends_from fault ends = subst (λ (lane : Lane). SealingEnds store context begun lane fault) (sym (first_after store)) (ends begun so_far_first)

    pub left_from : (numbers all : List ℕ) → all ≡ numbers → ((before : Lane) → SealedSoFar store context keys before (get_or lanes 0 d).cells [] → numbers ≡ numbers_left store context after.cells) → all ≡ numbers_left store context (first_lane store new)
    left_from numbers all same left = same ∙ first_left store context numbers (left begun so_far_first)

  -- and so is the order
  pub first_order : (store : StoreView) (context : ℕ) → SealsInOrder store context (get_or lanes 0 d).cells after.cells → SealsInOrder store context (first_lane store lanes) (first_lane store new)
  first_order store context ordered =
      subst (λ (lane : Lane). SealsInOrder store context lane (first_lane store new)) (sym (first_is store lanes d some))
      (subst (λ (lane : Lane). SealsInOrder store context (get_or lanes 0 d).cells lane) (sym (first_after store)) ordered)

  pub order_from : (store : StoreView) (context block marks : ℕ) (begun : Lane) → BlockBegun store context block marks begun (first_lane store lanes)
      → ((before : Lane) → BlockBegun store context block marks before (get_or lanes 0 d).cells → SealsInOrder store context before after.cells) → SealsInOrder store context begun (first_lane store new)
  order_from store context block marks begun is ordered =
      subst (λ (lane : Lane). SealsInOrder store context begun lane) (sym (first_after store))
      (ordered begun (subst (λ (lane : Lane). BlockBegun store context block marks begun lane) (first_is store lanes d some) is))

  -- and as many steps
  pub first_steps : (store : StoreView) (n : ℕ) → length after.cells.view.fronts ≤ length (get_or lanes 0 d).cells.view.fronts + n → steps_of (first_lane store lanes) (first_lane store new) ≤ n
  first_steps store n within =
      subst (λ (lane : Lane). steps_of lane (first_lane store new) ≤ n) (sym (first_is store lanes d some))
      (subst (λ (lane : Lane). steps_of (get_or lanes 0 d).cells lane ≤ n) (sym (first_after store)) (steps_within (get_or lanes 0 d).cells after.cells n within))

  -- the first has come to a block
  pub first_begun : (store : StoreView) (context : ℕ) (marked : Marked) → BeginsAt store context (get_or lanes 0 d).cells after.cells marked → OnlyFirstSteps lanes new → AllZip StillKeeps lanes new → Begun store context lanes new marked
  first_begun store context marked begins lanes_are kept = record {
    so_far =
        subst (λ (lane : Lane). SealedSoFar store context (marked.block * 32) lane (first_lane store new) []) (sym (first_is store lanes d some))
        (subst (λ (lane : Lane). SealedSoFar store context (marked.block * 32) (get_or lanes 0 d).cells lane []) (sym (first_after store)) begins.so_far);
    begun =
        subst (λ (lane : Lane). BlockBegun store context marked.block marked.marks lane (first_lane store new)) (sym (first_is store lanes d some))
        (subst (λ (lane : Lane). BlockBegun store context marked.block marked.marks (get_or lanes 0 d).cells lane) (sym (first_after store)) begins.begun);
    lanes = lanes_are;
    kept = kept;
  }

-- ---- two calls

module _ {V : Type 0} where
  with_first-twice : (one two : Lane) (lanes : List (StoreLane V)) → with_first two (with_first one lanes) ≡ with_first two lanes
  with_first-twice one two [] = refl
  with_first-twice one two (lane ∷ others) = refl

  pub only_first_on : (a b c : List (StoreLane V)) → OnlyFirstSteps a b → OnlyFirstSteps b c → OnlyFirstSteps a c
  only_first_on a b c one two = (two.0, two.1 ∙ ap (with_first two.0) one.1 ∙ with_first-twice one.0 two.0 a)

  pub keeps_on : (a b c : List (StoreLane V)) → AllZip StillKeeps a b → AllZip StillKeeps b c → AllZip StillKeeps a c
  keeps_on [] [] [] one two = tt
  keeps_on [] [] (z ∷ c) one two = absurd two
  keeps_on [] (y ∷ b) c one two = absurd one
  keeps_on (x ∷ a) [] c one two = absurd one
  keeps_on (x ∷ a) (y ∷ b) [] one two = absurd two
  keeps_on (x ∷ a) (y ∷ b) (z ∷ c) one two = ((λ number keeps. two.0 number (one.0 number keeps)), keeps_on a b c one.1 two.1)

-- ---- refusals

-- a key that is refused names no number
pub names_none : {V : Type 0} (lanes : List (StoreLane V)) (numbers : List ℕ) (why : CloseFault) → IsOfKey why → NamesUnjoined lanes numbers why
names_none lanes numbers (Busy key) of_key = tt
names_none lanes numbers (Contended key) of_key = tt
names_none lanes numbers (Unjoined number) of_key = absurd of_key
