-- Steps that fit go on to fit where more places are settled.
use Rattle.std.proofs.Common.{◌≡◌, ℕ, zero, suc, ◌⊎◌, inl, inr, Bool, true, false, true≢false, List, [], ◌∷◌, drop, Option, None, Some, refl, ap, sym, subst, ◌∙◌, arith, nat_eq, eq-eqb, ◌==◌}
use Rattle.std.specs.Prelude.{All, ◌&&◌, ◌||◌, if◌then◌else◌}
use Rattle.std.proofs.lemmas.Bool.Decides.{nat_tests}
use Rattle.std.proofs.lemmas.List.Elements.{All-cons, All-contains}
use Rattle.ext_history.proofs.Lists.{bools}
use Rattle.ext_tree.specs.Keys.{KeyValue}
use Rattle.ext_tree.specs.Traits.{key_eq}
use Rattle.ext_tree.specs.Trees.{Id, IsPathOf, IsWalk}
use Rattle.ext_tree.proofs.Equalities.{keys_Decides}
use Rattle.ext_plan.specs.Plans.{KeyText, StepKeyText, StepText, keyed, fail, abort}
use Rattle.ext_plan.specs.StepCalls.{start_of}
use Rattle.ext_plan.specs.StepWords.{changes, computes, looks_along}
use Rattle.ext_plan.specs.declared.word.Word.{Word}
use Rattle.ext_plan.specs.declared.word.Word.TheVariants as words
use Rattle.ext_plan.specs.StoreKeys.{key_of_step}
use Rattle.ext_one_report.proofs.PlanCells.{changed_by}
use Rattle.ext_one_report.proofs.CallsWords.{StepWithin}
use Rattle.ext_one_report.proofs.MatchingWords.{Places, RunView}
use Rattle.ext_one_report.proofs.StepsWords.{LooksWithin, TouchesWithin}
use Rattle.ext_one_report.proofs.Open.{AreOpenBeside, ComputesOpen, FailsOpen, Given, Open, also, at_place, given_by, of_nothing, place_of_step, still_open}
use Rattle.ext_one_report.proofs.OpenCalls.{LeavesAbove, StepsFit}

-- ---- places that are settled

or_assoc : (a b c : Bool) → (a || b) || c ≡ a || (b || c)
or_assoc true b c = refl
or_assoc false b c = refl

or_swap : (a b c : Bool) → (a || b) || c ≡ (a || c) || b
or_swap true b c = refl
or_swap false true true = refl
or_swap false true false = refl
or_swap false false true = refl
or_swap false false false = refl

or_within : (a b c : Bool) → (b ≡ true → c ≡ true) → (a || b) || c ≡ a || c
or_within true b c within = refl
or_within false true c within = sym (within refl)
or_within false false c within = refl

pub or_left : (a b : Bool) → a ≡ true → a || b ≡ true
or_left true b is = refl
or_left false b is = absurd (cc is)

pub or_right : (a b : Bool) → b ≡ true → a || b ≡ true
or_right true b is = refl
or_right false b is = is

pub or_cases : (a b : Bool) → a || b ≡ true → (a ≡ true) ⊎ (b ≡ true)
or_cases true b is = inl refl
or_cases false b is = inr is

pub or_neither : (a b : Bool) → a || b ≡ false → (a ≡ false) × (b ≡ false)
or_neither true b is = absurd (cc is)
or_neither false b is = (refl, is)

pub or_off : (a b : Bool) → a ≡ false → b ≡ false → a || b ≡ false
or_off true b off other = absurd (cc off)
or_off false b off other = other

both_true : (a b : Bool) → a && b ≡ true → (a ≡ true) × (b ≡ true)
both_true true b is = (refl, is)
both_true false b is = absurd (cc is)

number_is : (a b : ℕ) → nat_eq a b ≡ true → a ≡ b
number_is a b is = grind (arith, nat_tests)

-- the place itself, and no other
pub is_at_place : (context : ℕ) (key : KeyValue) (c : ℕ) (k : KeyValue) → at_place context key c k ≡ true → (c ≡ context) × (k ≡ key)
is_at_place context key c k is =
    let parts = both_true (c == context) (key_eq k key) is in
    (number_is c context parts.0, (keys_Decides k key).0 parts.1)

pub at_itself : (context : ℕ) (key : KeyValue) → at_place context key context key ≡ true
at_itself context key = ap (λ b. b && key_eq key key) (eq-eqb context context refl) ∙ (keys_Decides key key).1 refl

-- ---- open places

pub was_open : (settled : Bool) (o : Option Given) (v : Given) → (if settled then None else o) ≡ Some v → (settled ≡ false) × (o ≡ Some v)
was_open true o v is = absurd (cc is)
was_open false o v is = (refl, is)

pub opens : (settled : Bool) (o : Option Given) (v : Given) → settled ≡ false → o ≡ Some v → (if settled then None else o) ≡ Some v
opens true o v off is = absurd (cc off)
opens false o v off is = is

open_swap : (a b : Bool) (o : Option Given) → (if a then None else (if b then None else o)) ≡ (if b then None else (if a then None else o))
open_swap true true o = refl
open_swap true false o = refl
open_swap false b o = refl

open_within : (a b : Bool) (o : Option Given) → (b ≡ true → a ≡ true) → (if a then None else (if b then None else o)) ≡ (if a then None else o)
open_within true b o within = refl
open_within false true o within = absurd (cc (within refl))
open_within false false o within = refl

open_twice : (a b : Bool) (o : Option Given) → (if b then None else (if a then None else o)) ≡ (if a || b then None else o)
open_twice true true o = refl
open_twice true false o = refl
open_twice false b o = refl

-- what is settled in two goes
pub also_twice : (places first second : Places) → also second (also first places) ≡ also (also second first) places
also_twice places first second = λ i c k. or_assoc (places c k) (first c k) (second c k) i

pub still_twice : (open_at : Open) (first second : Places) → still_open second (still_open first open_at) ≡ still_open (also second first) open_at
still_twice open_at first second = λ i c k. open_twice (first c k) (second c k) (open_at c k) i

-- they are apart and have the places above them still
pub beside_settled : (run : RunView) (places : Places) (open_at : Open) (settled : Places) → AreOpenBeside run places open_at → AreOpenBeside run (also settled places) (still_open settled open_at)
beside_settled run places open_at settled beside = record {
  apart = λ c k v is. let was = was_open (settled c k) (open_at c k) v is in or_off (places c k) (settled c k) (beside.apart c k v was.1) was.0;
  above = λ c k v path is on. λ n d within. or_left (places _ k) (settled _ k) (beside.above c k v path (was_open (settled c k) (open_at c k) v is).1 on n d within);
  kept = λ c k v is. beside.kept c k v (was_open (settled c k) (open_at c k) v is).1;
}

-- ---- paths

-- the path from the context that a step goes up to, unless it goes up beyond the root
path_up : (ids : List Id) (path : List ℕ) (node up : ℕ) → IsPathOf ids node path → (drop up path ≡ []) ⊎ IsPathOf ids (start_of (drop up path)) (drop up path)
path_up ids [] node up is = absurd is
path_up ids (first ∷ walk) node zero is = inr (refl, subst (λ c. IsWalk ids c walk) (sym is.0) is.1)
path_up ids (first ∷ []) node (suc zero) is = inl refl
path_up ids (first ∷ []) node (suc (suc up)) is = inl refl
path_up ids (first ∷ parent ∷ rest) node (suc up) is = path_up ids (parent ∷ rest) parent up (refl, is.1.1)

-- ---- steps that compute at an open place

computes_all : (word : Word) → computes word ≡ true → (changes word ≡ true) × (looks_along word ≡ true)
computes_all words.Compute is = (refl, refl)
computes_all words.ComputeCloseable is = (refl, refl)
computes_all words.ComputeFail is = (refl, refl)
computes_all word is = absurd (cc is)

pub record IsOpenStep (keys : List KeyText) (path : List ℕ) (open_at : Open) (step : StepText) : Type 0 where
  pub key : StepKeyText
  pub up : ℕ
  pub value : Given
  pub changes : changed_by step ≡ Some (key, up)
  pub is_open : open_at (start_of (drop up path)) (key_of_step keys key) ≡ Some value
  pub at : place_of_step keys path step ≡ at_place (start_of (drop up path)) (key_of_step keys key)
  -- where the same is open there, it does the same
  pub computes : (other : Open) → other (start_of (drop up path)) (key_of_step keys key) ≡ Some value → ComputesOpen keys path open_at step → ComputesOpen keys path other step
  pub fails : (other : Open) → other (start_of (drop up path)) (key_of_step keys key) ≡ Some value → FailsOpen keys path open_at step → FailsOpen keys path other step
  pub within : (places : Places) → LooksWithin keys path places key up → StepWithin keys path places step

word_step : (keys : List KeyText) (path : List ℕ) (open_at : Open) (word : Word) (key : StepKeyText) (text : List ℕ) (up : ℕ) (v : Given) → computes word ≡ true
    → open_at (start_of (drop up path)) (key_of_step keys key) ≡ Some v → IsOpenStep keys path open_at (keyed word key text up)
word_step keys path open_at word key text up v computing is =
    let all = computes_all word computing in
    record {
      key = key;
      up = up;
      value = v;
      changes = ap (λ (b : Bool). if b then Some (key, up) else None) all.0;
      is_open = is;
      at = refl;
      computes = λ other so does. (does.0, so ∙ (sym is ∙ does.1));
      fails = λ other so does. (does.0, so ∙ (sym is ∙ does.1));
      within = λ places so. subst (λ (b : Bool). TouchesWithin b keys path places key up) (sym all.1) so;
    }

pub open_step : (keys : List KeyText) (path : List ℕ) (open_at : Open) (step : StepText) → ComputesOpen keys path open_at step → IsOpenStep keys path open_at step
open_step keys path open_at (keyed word key text up) is = word_step keys path open_at word key text up (given_by true word text) is.0 is.1
open_step keys path open_at (fail text) is = absurd is
open_step keys path open_at (abort text) is = absurd is

pub fails_step : (keys : List KeyText) (path : List ℕ) (open_at : Open) (step : StepText) → FailsOpen keys path open_at step → IsOpenStep keys path open_at step
fails_step keys path open_at (keyed word key text up) is = word_step keys path open_at word key text up (of_nothing text) (ap computes is.0) is.1
fails_step keys path open_at (fail text) is = absurd is
fails_step keys path open_at (abort text) is = absurd is

-- ---- what fits

module _ (keys : List KeyText) (path : List ℕ) (places more : Places) (within : (c : ℕ) (k : KeyValue) → places c k ≡ true → more c k ≡ true) where
  touches_more : (looks : Bool) (key : StepKeyText) (up : ℕ) → TouchesWithin looks keys path places key up → TouchesWithin looks keys path more key up
  touches_more true key up is = λ n d below. within _ (key_of_step keys key) (is n d below)
  touches_more false key up is = within (start_of (drop up path)) (key_of_step keys key) is

  within_more : (step : StepText) → StepWithin keys path places step → StepWithin keys path more step
  within_more (keyed word key text up) is = touches_more (looks_along word) key up is
  within_more (fail text) is = tt
  within_more (abort text) is = tt

module _ (run : RunView) (keys : List KeyText) (path : List ℕ) where
  above_fewer : (open_at fewer : Open) (step : StepText) → ((c : ℕ) (k : KeyValue) (v : Given) → fewer c k ≡ Some v → open_at c k ≡ Some v) → LeavesAbove run keys path open_at step → LeavesAbove run keys path fewer step
  above_fewer open_at fewer step were leaves = λ key up c v above is here on there. leaves key up c v above is (were c (key_of_step keys key) v here) on there

  -- a step at an open place changes none above another: it would be among the places
  above_open : (places : Places) (open_at : Open) (step : StepText) → AreOpenBeside run places open_at → IsOpenStep keys path open_at step → LeavesAbove run keys path open_at step
  above_open places open_at step beside it = λ key up c v above is here on there.
      let one : Some (it.key, it.up) ≡ Some (key, up) = sym it.changes ∙ is in
      let pair : (it.key, it.up) ≡ (key, up) = cc one in
      let own : open_at (start_of (drop up path)) (key_of_step keys key) ≡ Some it.value = subst (λ (p : StepKeyText × ℕ). open_at (start_of (drop p.1 path)) (key_of_step keys p.0) ≡ Some it.value) pair it.is_open in
      let in_places : places (start_of (drop up path)) (key_of_step keys key) ≡ true =
      All-contains (λ x. places x (key_of_step keys key) ≡ true) above (start_of (drop up path)) (beside.above c (key_of_step keys key) v above here on) there in
      true≢false (sym in_places ∙ beside.apart (start_of (drop up path)) (key_of_step keys key) it.value own)

  -- where its place is settled, it looks up among the places
  looks_settled : (places : Places) (open_at : Open) (settled : Places) (key : KeyValue) (v : Given) → AreOpenBeside run places open_at → (contexts : List ℕ) → open_at (start_of contexts) key ≡ Some v
      → settled (start_of contexts) key ≡ true → (contexts ≡ []) ⊎ IsPathOf run.store.tree (start_of contexts) contexts → All (λ c. also settled places c key ≡ true) contexts
  looks_settled places open_at settled key v beside [] is on along = λ n d below. absurd (omega (arith, below))
  looks_settled places open_at settled key v beside (first ∷ rest) is on (inl none) = absurd (cc none)
  looks_settled places open_at settled key v beside (first ∷ rest) is on (inr along) =
      All-cons (λ c. also settled places c key ≡ true) first rest (or_right (places first key) (settled first key) on)
      (λ n d below. or_left (places _ key) (settled _ key) (beside.above first key v rest is along n d below))

  fits_same : (places other : Places) (open_at also_open : Open) (steps : List StepText) → places ≡ other → open_at ≡ also_open → StepsFit run keys path places open_at steps → StepsFit run keys path other also_open steps
  fits_same places other open_at also_open steps same alike fits = subst (λ x. StepsFit run keys path x also_open steps) same (subst (λ x. StepsFit run keys path places x steps) alike fits)

  -- a step whose place is settled keeps among the places
  keeps_settled : (on_path : IsPathOf run.store.tree (start_of path) path) (places : Places) (open_at : Open) (settled : Places) (step : StepText) → AreOpenBeside run places open_at
      → (it : IsOpenStep keys path open_at step) → settled (start_of (drop it.up path)) (key_of_step keys it.key) ≡ true
      → StepWithin keys path (also settled places) step × LeavesAbove run keys path (still_open settled open_at) step
  keeps_settled on_path places open_at settled step beside it on = (
    it.within (also settled places) (looks_settled places open_at settled (key_of_step keys it.key) it.value beside (drop it.up path) it.is_open on (path_up run.store.tree path (start_of path) it.up on_path)),
    above_fewer open_at (still_open settled open_at) step (λ c k v is. (was_open (settled c k) (open_at c k) v is).1) (above_open places open_at step beside it),
  )

  -- what fits goes on to fit where more places are settled: a step that would compute at a settled place is one that looks up among the places
  pub fits_later : (on_path : IsPathOf run.store.tree (start_of path) path) (steps : List StepText) (places : Places) (open_at : Open) (settled : Places) → AreOpenBeside run places open_at
      → StepsFit run keys path places open_at steps → StepsFit run keys path (also settled places) (still_open settled open_at) steps
  fits_later on_path [] places open_at settled beside fits = tt
  fits_later on_path (step ∷ more) places open_at settled beside (inl one) = inl (
    within_more keys path places (also settled places) (λ c k is. or_left (places c k) (settled c k) is) step one.0,
    above_fewer open_at (still_open settled open_at) step (λ c k v is. (was_open (settled c k) (open_at c k) v is).1) one.1,
    fits_later on_path more places open_at settled beside one.2,
  )
  fits_later on_path (step ∷ more) places open_at settled beside (inr (inl one)) =
      let it = open_step keys path open_at step one.0 in
      let contexts : List ℕ = drop it.up path in
      let key : KeyValue = key_of_step keys it.key in
      let at : Places = place_of_step keys path step in
      let later : StepsFit run keys path (also settled (also at places)) (still_open settled (still_open at open_at)) more =
      fits_later on_path more (also at places) (still_open at open_at) settled (beside_settled run places open_at at beside) one.1 in
      elim (bools (settled (start_of contexts) key)) [
        | inl on ↦
            let among : (c : ℕ) (k : KeyValue) → at c k ≡ true → settled c k ≡ true = λ c k is.
            let same = is_at_place (start_of contexts) key c k (ap (λ (p : Places). p c k) (sym it.at) ∙ is) in
            subst (λ (x : ℕ × KeyValue). settled x.0 x.1 ≡ true) (λ i. (sym same.0 i, sym same.1 i)) on in
            let kept = keeps_settled on_path places open_at settled step beside it on in
            inl (
              kept.0,
              kept.1,
              fits_same _ _ _ _ more (λ i c k. or_within (places c k) (at c k) (settled c k) (among c k) i) (λ i c k. open_within (settled c k) (at c k) (open_at c k) (among c k) i) later,
            )
        | inr off ↦ inr (inl (
          it.computes (still_open settled open_at) (opens (settled (start_of contexts) key) (open_at (start_of contexts) key) it.value off it.is_open) one.0,
          fits_same _ _ _ _ more (λ i c k. or_swap (places c k) (at c k) (settled c k) i) (λ i c k. open_swap (settled c k) (at c k) (open_at c k) i) later,
        ))
      ]
  fits_later on_path (step ∷ more) places open_at settled beside (inr (inr one)) =
      let it = fails_step keys path open_at step one.0 in
      let context : ℕ = start_of (drop it.up path) in
      let key : KeyValue = key_of_step keys it.key in
      let later = fits_later on_path more places open_at settled beside one.1 in
      elim (bools (settled context key)) [
        | inl on ↦ let kept = keeps_settled on_path places open_at settled step beside it on in inl (kept.0, kept.1, later)
        | inr off ↦ inr (inr (it.fails (still_open settled open_at) (opens (settled context key) (open_at context key) it.value off it.is_open) one.0, later))
      ]
