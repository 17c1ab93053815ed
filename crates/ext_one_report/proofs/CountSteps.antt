-- A step of a plain run draws a number where it may draw one, and none else. So do the steps of a call.
use Rattle.std.proofs.Common.{◌≡◌, ◌≤◌, ℕ, zero, suc, ◌+◌, Bool, true, false, cond, List, [], ◌∷◌, length, drop, count_by, refl, sym, ap, subst, ◌∙◌, arith, inl, inr}
use Rattle.std.specs.Prelude.{codes}
use Rattle.std.proofs.lemmas.List.Sums.{sum_by-cons}
use Rattle.ext_history.proofs.Lists.{bools}
use Rattle.ext_tree.specs.Keys.{KeyValue}
use Rattle.ext_lifecycle.specs.Endings.{is_successful}
use Rattle.ext_plan.specs.declared.word.Word.TheVariants as words
use Rattle.ext_plan.specs.Plans.{KeyText, StepText, keyed, fail, abort}
use Rattle.ext_plan.specs.StepCalls.{label_of}
use Rattle.ext_plan.specs.StoreKeys.{key_of_step}
use Rattle.ext_races.specs.Acts.{draws}
use Rattle.ext_plan_plain.specs.ContextEnds.{seal_keys}
use Rattle.ext_plan_plain.specs.PlainRunLaws.{HasValues, named_by}
use Rattle.ext_plan_plain.specs.StepRuns.{StepEnd, none_numbered, number_by, remove_numbered, step_run, steps_run, want_numbered}
use Rattle.ext_plan_plain.specs.ValueStates.{Numbering, ValueState, enough, full, known, next, numbering_of, with_number}
use Rattle.ext_plan_plain.proofs.Kept.{IsKeptNumbered, seals-kept, steps-kept}
use Rattle.ext_plan_plain.proofs.KeptFaults.{no_fault_stays}
use Rattle.ext_plan_plain.proofs.Stepping.{steps_run-nil}
use Rattle.ext_one_report.proofs.Calls.{plain_goes, plain_stops, steps_faults, steps_memory}
use Rattle.ext_one_report.proofs.Rooms.{steps_draw_few, valued}

-- ---- each number has a value

valued_numbered : IsKeptNumbered HasValues
valued_numbered = record { numbers = λ key number s is h. h }

-- ---- a step

-- each number has a value, all memory is found, and faults are kept or not
pub record GoesOn (keeps : Bool) (s : ValueState) : Type 0 where
  pub values : HasValues s
  pub memory : s.memory ≡ []
  pub faults : s.keep_faults ≡ keeps

step_goes : (keeps : Bool) (keys : List KeyText) (path : List ℕ) (steps : List StepText) (s : ValueState) → GoesOn keeps s → GoesOn keeps (steps_run keys path steps s).state
step_goes keeps keys path steps s g = record {
  values = steps-kept HasValues valued valued_numbered keys path steps s g.values;
  memory = steps_memory keys path steps s g.memory;
  faults = steps_faults keys path steps s ∙ g.faults;
}

-- one step is made as a list of it is
pub single : (keys : List KeyText) (path : List ℕ) (step : StepText) (s : ValueState) → s.memory ≡ [] → (steps_run keys path (step ∷ []) s).state ≡ (step_run keys path step s).state
single keys path step s none = elim (bools (is_successful (step_run keys path step s).verdict)) [
  | inl on ↦ ap (λ (e : StepEnd). e.state) (plain_goes keys path step [] s none on) ∙ ap (λ (e : StepEnd). e.state) (steps_run-nil keys path (step_run keys path step s).state)
  | inr off ↦ ap (λ (e : StepEnd). e.state) (plain_stops keys path step [] s none off)
]

one_goes : (keeps : Bool) (keys : List KeyText) (path : List ℕ) (step : StepText) (s : ValueState) → GoesOn keeps s → GoesOn keeps (step_run keys path step s).state
one_goes keeps keys path step s g = subst (GoesOn keeps) (single keys path step s g.memory) (step_goes keeps keys path (step ∷ []) s g)

one_drawn : (keys : List KeyText) (path : List ℕ) (step : StepText) (s : ValueState) → HasValues s → s.memory ≡ [] → (step_run keys path step s).state.store.drawn ≤ s.store.drawn + 1
one_drawn keys path step s h none =
    let same = ap (λ (t : ValueState). t.store.drawn) (single keys path step s none) in
    let few = steps_draw_few keys path (step ∷ []) s h none in
    omega (arith, same, few)

number_same : (name label : List ℕ) (key : KeyValue) (goes : ℕ → ValueState → StepEnd) (s : ValueState) (numbering : Numbering) → ((number : ℕ) (t : ValueState) → t.values ≡ s.values → (goes number t).state.values ≡ s.values)
    → (number_by enough name label key goes s numbering).state.values ≡ s.values
number_same name label key goes s (known number) each = each number s refl
number_same name label key goes s (next number) each = each number (with_number key s) refl
number_same name label key goes s full each = refl

named_same : (numbering : Numbering) (key : KeyValue) (s : ValueState) → (named_by numbering key s).values ≡ s.values
named_same (known number) key s = refl
named_same (next number) key s = refl
named_same full key s = refl

-- a step that may draw no number keeps no value
none_kept : (keys : List KeyText) (path : List ℕ) (step : StepText) (s : ValueState) → draws s.keep_faults step ≡ false → (step_run keys path step s).state.values ≡ s.values
none_kept keys path (keyed words.Want key text up) s none =
    number_same (codes "want") (label_of keys key) (key_of_step keys key) (want_numbered enough (codes "want") (label_of keys key) (drop up path) text) s (numbering_of s.places s.keys (key_of_step keys key)) (λ number t same. same)
none_kept keys path (keyed words.None key text up) s none =
    number_same (codes "none") (label_of keys key) (key_of_step keys key) (none_numbered enough (codes "none") (label_of keys key) (drop up path)) s (numbering_of s.places s.keys (key_of_step keys key)) (λ number t same. same)
none_kept keys path (keyed words.Remove key text up) s none =
    number_same (codes "remove") (label_of keys key) (key_of_step keys key) (remove_numbered enough (codes "remove") (label_of keys key) (drop up path)) s (numbering_of s.places s.keys (key_of_step keys key)) (λ number t same. same)
none_kept keys path (keyed words.ComputeFail key text up) s none =
    let k = key_of_step keys key in
    ap (λ (t : ValueState). t.values) (no_fault_stays keys path key up text s none) ∙ named_same (numbering_of s.places s.keys k) k s
none_kept keys path (keyed word key text up) s none = absurd cc
none_kept keys path (fail text) s none = refl
none_kept keys path (abort text) s none = refl

counted : (b : Bool) → b ≡ true → 1 ≤ cond b 1 0
counted true is = omega arith
counted false is = absurd cc

one_draws : (keeps : Bool) (keys : List KeyText) (path : List ℕ) (step : StepText) (s : ValueState) → GoesOn keeps s → (step_run keys path step s).state.store.drawn ≤ s.store.drawn + cond (draws keeps step) 1 0
one_draws keeps keys path step s g = elim (bools (draws keeps step)) [
  | inl some ↦
      let few = one_drawn keys path step s g.values g.memory in
      let one = counted (draws keeps step) some in
      omega (arith, few, one)
  | inr none ↦
      let t = (step_run keys path step s).state in
      let same = ap length (none_kept keys path step s (ap (λ b. draws b step) g.faults ∙ none)) in
      let later = (one_goes keeps keys path step s g).values in
      let before = g.values in
      omega (arith, same, later, before)
]

-- ---- the steps of a call

-- so it goes on, and has drawn so many numbers more at most
pub record Draws (keeps : Bool) (count : ℕ) (s t : ValueState) : Type 0 where
  pub goes : GoesOn keeps t
  pub drawn : t.store.drawn ≤ s.store.drawn + count

pub draws_none : (keeps : Bool) (s : ValueState) → GoesOn keeps s → Draws keeps 0 s s
draws_none keeps s g = record { goes = g; drawn = omega arith }

pub draws_more : (keeps : Bool) (count more : ℕ) (s t : ValueState) → count ≤ more → Draws keeps count s t → Draws keeps more s t
draws_more keeps count more s t le d = record { goes = d.goes; drawn = let drawn = d.drawn in omega (arith, drawn, le) }

pub draws_then : (keeps : Bool) (first second : ℕ) (s t u : ValueState) → Draws keeps first s t → Draws keeps second t u → Draws keeps (first + second) s u
draws_then keeps first second s t u a b = record { goes = b.goes; drawn = let one = a.drawn in let two = b.drawn in omega (arith, one, two) }

steps_drawn : (keeps : Bool) (keys : List KeyText) (path : List ℕ) (steps : List StepText) (s : ValueState) → GoesOn keeps s → (steps_run keys path steps s).state.store.drawn ≤ s.store.drawn + count_by (draws keeps) steps
steps_drawn keeps keys path [] s g = subst (λ (e : StepEnd). e.state.store.drawn ≤ s.store.drawn + 0) (sym (steps_run-nil keys path s)) (omega arith)
steps_drawn keeps keys path (step ∷ more) s g =
    let next = step_run keys path step s in
    let drawn = one_draws keeps keys path step s g in
    let count = sum_by-cons (λ step. cond (draws keeps step) 1 0) step more in
    elim (bools (is_successful next.verdict)) [
      | inl on ↦
          let rest = steps_drawn keeps keys path more next.state (one_goes keeps keys path step s g) in
          subst (λ (e : StepEnd). e.state.store.drawn ≤ s.store.drawn + count_by (draws keeps) (step ∷ more)) (sym (plain_goes keys path step more s g.memory on)) (omega (arith, rest, drawn, count))
      | inr off ↦ subst (λ (e : StepEnd). e.state.store.drawn ≤ s.store.drawn + count_by (draws keeps) (step ∷ more)) (sym (plain_stops keys path step more s g.memory off)) (omega (arith, drawn, count))
    ]

pub steps_draw : (keeps : Bool) (keys : List KeyText) (path : List ℕ) (steps : List StepText) (s : ValueState) → GoesOn keeps s → Draws keeps (count_by (draws keeps) steps) s (steps_run keys path steps s).state
steps_draw keeps keys path steps s g = record { goes = step_goes keeps keys path steps s g; drawn = steps_drawn keeps keys path steps s g }

-- ---- the end of a context

record IsSealedAlone (s t : ValueState) : Type 0 where
  values : t.values ≡ s.values
  memory : t.memory ≡ s.memory
  faults : t.keep_faults ≡ s.keep_faults

seals_alone : (keys at : ℕ) (s : ValueState) → IsSealedAlone s (seal_keys keys at s)
unfolding seal_keys
seals_alone zero at s = record { values = refl; memory = refl; faults = refl }
seals_alone (suc key) at s = let rest = seals_alone key at s in record { values = rest.values; memory = rest.memory; faults = rest.faults }

pub seals_draw : (keeps : Bool) (keys at : ℕ) (s : ValueState) → GoesOn keeps s → Draws keeps 0 s (seal_keys keys at s)
seals_draw keeps keys at s g =
    let alone = seals_alone keys at s in
    let valued_later : HasValues (seal_keys keys at s) = seals-kept HasValues valued keys at s g.values in
    let same = ap length alone.values in
    let before = g.values in
    record {
      goes = record { values = valued_later; memory = alone.memory ∙ g.memory; faults = alone.faults ∙ g.faults };
      drawn = omega (arith, valued_later, same, before);
    }
