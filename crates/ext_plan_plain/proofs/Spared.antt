-- Where a call of a node ended for want of memory its result tells so, or tells of further faults: so calls of a node that is spared did not end so.
use Rattle.std.proofs.Common.{◌≡◌, ◌≢◌, ◌<◌, ◌-◌, ◌∙◌, ℕ, zero, suc, Bool, true, false, codes, List, [], ◌∷◌, ◌++◌, length, map, Option, Some, None, refl, ap, sym, subst, arith, append_assoc, inl, inr, ⊎_elim}
use Rattle.std.specs.Prelude.{nat_lt, slice_get, IsSomeAnd, ◌||◌, ◌&&◌}
use Rattle.std.specs.List.{AllByRecursion, list_any}
use Rattle.ext_model.specs.declared.look.Fault.{Fault}
use Rattle.ext_model.specs.Lacks.{tells_lack}
use Rattle.ext_lifecycle.specs.declared.outcome.Outcome.{Outcome}
use Rattle.ext_lifecycle.specs.Endings.{Ending, ending_tells, endings_tell, first_abort, first_fault, successful, aborted, failed, is_successful, total_by, unsuccessful, with_fault}
use Rattle.ext_lifecycle.specs.FaultTexts.{NodeOutcome, VerdictText, fault_text, verdict_text}
use Rattle.ext_lifecycle.specs.Lifecycle.{endings_of}
use Rattle.ext_lifecycle.specs.Results.{close_ending}
use Rattle.ext_plan_plain.specs.InnerSteps.{IsSpared}
use Rattle.ext_plan_plain.specs.NodeCalls.{CallsEnd}
use Rattle.ext_plan_plain.specs.PlainRun.{may_lack, may_lack_memory, outcome_of, says_no_memory}
use Rattle.ext_plan_plain.specs.StepRuns.{no_memory}
use Rattle.ext_plan_plain.proofs.ReportedFaults.{TellsFault, either-true, fault-told, some-more}

-- a success is no want of memory
pub passes : (e : Ending Fault) → is_successful e ≡ true → with_fault fault_text e ≢ no_memory
passes successful is = λ same. let bad : successful ≡ no_memory = same in absurd cc
passes (aborted fault) is = absurd cc
passes (failed fault) is = absurd cc

-- ---- calls that did not end for want of memory

abbrev pub Spares : List VerdictText → Type 0
Spares verdicts = AllByRecursion (λ v. v ≢ no_memory) verdicts

abbrev pub texts_of : List Outcome → List VerdictText
texts_of [] = []
texts_of (o ∷ os) = verdict_text o.verdict ∷ texts_of os

-- as a node's calls have them
pub texts-are : (os : List Outcome) → map (with_fault fault_text) (endings_of os) ≡ texts_of os
texts-are [] = refl
texts-are (o ∷ os) = ap (λ ts. verdict_text o.verdict ∷ ts) (texts-are os)

pub spared-first : (xs ys : List Outcome) → Spares (texts_of (xs ++ ys)) → Spares (texts_of xs)
spared-first [] ys all = tt
spared-first (x ∷ xs) ys all = (all.0, spared-first xs ys all.1)

pub spared-last : (xs : List Outcome) (y : Outcome) → Spares (texts_of (xs ++ y ∷ [])) → verdict_text y.verdict ≢ no_memory
spared-last [] y all = all.0
spared-last (x ∷ xs) y all = spared-last xs y all.1

-- ---- what is told of a node one of whose calls ended for want of memory

abbrev says_lack : List ℕ → Bool
says_lack text = says_no_memory (Some text)

-- the fault that is told says so, or there are others
told-by : (fault abort : Option (List ℕ)) (count : ℕ) → TellsFault says_lack fault count → (let t = total_by fault abort count in may_lack t.status t.fault t.more ≡ true)
told-by None abort count tells = absurd (let bad = tells.fault_is in cc)
told-by (Some fault) abort count tells =
    let is : Some fault ≡ Some tells.one = tells.fault_is in
    either-true (says_no_memory (Some fault)) (nat_lt 0 (count - 1)) (⊎_elim (λ says. inl (ap says_no_memory is ∙ says)) (λ more. inr (some-more count more)) tells.why)

-- and one of all tells of a lack
either-way : (b : Bool) → (b || true) ≡ true
either-way true = refl
either-way false = refl

lack-told : (before after : List VerdictText) → endings_tell tells_lack (before ++ no_memory ∷ after) ≡ true
lack-told [] after = refl
lack-told (v ∷ before) after = ap (λ b. ending_tells tells_lack v || b) (lack-told before after) ∙ either-way (ending_tells tells_lack v)

both-true : (a b : Bool) → a ≡ true → b ≡ true → (a && b) ≡ true
both-true true b one two = two
both-true false b one two = absurd cc

abbrev IsSpared-total : List VerdictText → Type 0
IsSpared-total all = let t = total_by (first_fault all) (first_abort all) (unsuccessful all) in (endings_tell tells_lack all && may_lack t.status t.fault t.more) ≡ false

spared-after : (before calls closes : List VerdictText) → IsSpared-total (before ++ (calls ++ closes)) → Spares calls
spared-after before [] closes spared = tt
spared-after before (v ∷ calls) closes spared = (
  λ lacks.
      let other = before ++ no_memory ∷ (calls ++ closes) in
      let is : before ++ v ∷ (calls ++ closes) ≡ other = ap (λ w. before ++ w ∷ (calls ++ closes)) lacks in
      let told = told-by (first_fault other) (first_abort other) (unsuccessful other) (fault-told says_lack (codes "no memory") refl before (calls ++ closes)) in
      let lacked = lack-told before (calls ++ closes) in
      let unspared = subst IsSpared-total is spared in
      let bad : true ≡ false = sym (both-true (endings_tell tells_lack other) _ lacked told) ∙ unspared in
      absurd cc,
  spared-after (before ++ v ∷ []) calls closes (subst IsSpared-total (sym (append_assoc before (v ∷ []) (calls ++ closes))) spared),
)

-- calls of a node that is spared
pub calls-spared : (at : ℕ) (is_test : Bool) (end : CallsEnd) (closed : List (Option (List ℕ))) → IsSpared (outcome_of at is_test end closed) → Spares end.calls
calls-spared at is_test end closed spared = spared-after [] end.calls (map close_ending closed) spared

-- ---- all nodes of a run

pub neither : (a b : Bool) → (a || b) ≡ false → (a ≡ false) × (b ≡ false)
neither true b is = absurd cc
neither false b is = (refl, is)

pub some-spared : (results : List NodeOutcome) (k : ℕ) → list_any may_lack_memory results ≡ false → k < length results → IsSomeAnd (slice_get results k) IsSpared
some-spared [] k none within = absurd (omega (arith, within))
some-spared (r ∷ results) zero none within = (neither (may_lack_memory r) (list_any may_lack_memory results) none).0
some-spared (r ∷ results) (suc k) none within = some-spared results k (neither (may_lack_memory r) (list_any may_lack_memory results) none).1 (omega (arith, within))
