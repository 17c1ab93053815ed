-- Which calls of a node are made, and what their outcomes come to (JUnit 5 User Guide, "Relative Execution Order of
-- User Code and Extensions" and "Wrapping Behavior of Callbacks"). Chosen here: a before-callback that isn't successful
-- skips the later ones and the body but no after-callback, and what is counted.
use Rattle.std.specs.Prelude.{◌≡◌, ℕ, ◌+◌, ◌*◌, ◌<◌, ◌^◌, Bool, true, false, List, [], ◌∷◌, ◌++◌, map}
use Rattle.std.specs.List.{sum_by}
use Rattle.ext_model.specs.declared.look.Fault.{Fault}
use Rattle.ext_model.specs.Lacks.{fault_tells_lack}
use Rattle.ext_lifecycle.specs.declared.call.Call.{Call}
use Rattle.ext_lifecycle.specs.declared.outcome.Outcome.{Outcome}
use Rattle.ext_lifecycle.specs.declared.outcome.Verdict.{Verdict}
use Rattle.ext_lifecycle.specs.declared.outcome.Verdict.TheVariants as verdicts
use Rattle.ext_lifecycle.specs.declared.tally.Tally.{Tally}
use Rattle.ext_lifecycle.specs.Endings.{Ending, successful, aborted, failed, is_successful, all_successful, endings_tell, total_of}

-- ---- outcomes

abbrev pub ending_of : Verdict → Ending Fault
ending_of verdicts.Successful = successful
ending_of (verdicts.Aborted fault) = aborted fault
ending_of (verdicts.Failed fault) = failed fault

-- How calls with these outcomes ended.
abbrev pub endings_of : List Outcome → List (Ending Fault)
endings_of outcomes = map (λ o. ending_of o.verdict) outcomes

abbrev pub computed_in : List Outcome → ℕ
computed_in outcomes = sum_by (λ o. o.computed) outcomes

abbrev pub found_in : List Outcome → ℕ
found_in outcomes = sum_by (λ o. o.found) outcomes

-- What the outcomes of calls come to.
abbrev pub tally_of : List Outcome → Tally
tally_of outcomes = record {
  status = (total_of (endings_of outcomes)).status;
  fault = (total_of (endings_of outcomes)).fault;
  more = (total_of (endings_of outcomes)).more;
  computed = computed_in outcomes;
  found = found_in outcomes;
  lacked = endings_tell fault_tells_lack (endings_of outcomes);
}

-- The counts have room for `n` more outcomes, whatever these are.
pub record IsRoomy (n : ℕ) (tally : Tally) : Type 0 where
  pub more : tally.more + n * 2 ^ 32 < 2 ^ 64
  pub computed : tally.computed + n * 2 ^ 32 < 2 ^ 64
  pub found : tally.found + n * 2 ^ 32 < 2 ^ 64

-- ---- calls

-- `makes before call outcome after`: the call may have this outcome and leave the caller like this.
module _ {S : Type 0} (makes : S → Call → Outcome → S → Type 0) where
  -- All of these calls are made, in order.
  abbrev pub MakesAll : List Call → S → List Outcome → S → Type 0
  MakesAll [] before outcomes after = (outcomes ≡ []) × (after ≡ before)
  MakesAll (call ∷ calls) before outcomes after =
      (o : Outcome) × (rest : List Outcome) × (between : S) × (outcomes ≡ o ∷ rest) × makes before call o between
      × MakesAll calls between rest after

  -- The calls are made up to and including the first that isn't successful.
  abbrev pub MakesBefores : List Call → S → List Outcome → S → Type 0
  MakesBefores [] before outcomes after = (outcomes ≡ []) × (after ≡ before)
  MakesBefores (call ∷ calls) before outcomes after =
      (o : Outcome) × (rest : List Outcome) × (between : S) × (outcomes ≡ o ∷ rest) × makes before call o between
      × ((is_successful (ending_of o.verdict) ≡ true → MakesBefores calls between rest after)
      × (is_successful (ending_of o.verdict) ≡ false → (rest ≡ []) × (after ≡ between)))

  -- The call is made if `go` is true, otherwise not.
  pub record MakesIf (go : Bool) (call : Call) (before : S) (outcomes : List Outcome) (after : S) : Type 0 where
    pub made : go ≡ true → MakesAll (call ∷ []) before outcomes after
    pub skipped : go ≡ false → (outcomes ≡ []) × (after ≡ before)

  -- A node whose body is a call: the before-callbacks up to the first that isn't successful, the body if all were, and
  -- then all after-callbacks.
  pub record MakesCalls (befores : List Call) (body : Call) (afters : List Call) (before : S) (outcomes : List Outcome)
      (after : S) : Type 0 where
    pub first : List Outcome
    pub second : List Outcome
    pub third : List Outcome
    pub opened : S
    pub closing : S
    pub befores_made : MakesBefores befores before first opened
    pub body_made : MakesIf (all_successful (endings_of first)) body opened second closing
    pub afters_made : MakesAll afters closing third after
    pub all : outcomes ≡ (first ++ second) ++ third
