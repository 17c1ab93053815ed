-- What outcomes come to, one more at a time, and what is told of a node at its end.
use Rattle.std.proofs.Common.{◌≡◌, ℕ, ◌+◌, ◌-◌, Bool, true, false, is_some, List, [], ◌∷◌, ◌++◌, length, Option, Some, None, refl, ap, sym, subst, ◌∙◌, arith, length-append}
use Rattle.std.specs.Prelude.{◌||◌}
use Rattle.std.proofs.lemmas.List.{map-append}
use Rattle.std.proofs.lemmas.List.Sums.{sum_by-append}
use Rattle.ext_model.specs.declared.look.Fault.{Fault}
use Rattle.ext_model.specs.Closed.{close_faults, closed_of, first_of}
use Rattle.ext_model.specs.declared.closed.Closed.{Closed}
use Rattle.ext_model.specs.Lacks.{fault_tells_lack, one_tells}
use Rattle.ext_model.proofs.CountedCloses.{closes-counted, none-counted, some-counted}
use Rattle.ext_lifecycle.specs.declared.outcome.Outcome.{Outcome}
use Rattle.ext_lifecycle.specs.declared.tally.Tally.{Tally}
use Rattle.ext_lifecycle.specs.Endings.{Total, ending_tells, endings_tell, total_of}
use Rattle.ext_lifecycle.specs.Lifecycle.{ending_of, endings_of, computed_in, found_in, tally_of}
use Rattle.ext_lifecycle.specs.InnerTotals.{total_in, with_ending, with_closes}
use Rattle.ext_lifecycle.specs.Results.{ResultOf, result_of}
use Rattle.ext_lifecycle.proofs.EndingLaws.{endings_tell-closed, endings_tell-more, total_of-closed, total_of-more}

same_tally : (a b : Tally) → total_in a ≡ total_in b → a.computed ≡ b.computed → a.found ≡ b.found → a.lacked ≡ b.lacked → a ≡ b
same_tally a b total computed found lacked =
    ap (λ u. record { status = u.status; fault = u.fault; more = u.more; computed = a.computed; found = a.found; lacked = a.lacked }) total
    ∙ ap (λ n. record { status = b.status; fault = b.fault; more = b.more; computed = n; found = a.found; lacked = a.lacked }) computed
    ∙ ap (λ n. record { status = b.status; fault = b.fault; more = b.more; computed = b.computed; found = n; lacked = a.lacked }) found
    ∙ ap (λ x. record { status = b.status; fault = b.fault; more = b.more; computed = b.computed; found = b.found; lacked = x }) lacked

-- a further outcome
pub tally_of-more : (old new : Tally) (os : List Outcome) (o : Outcome) → old ≡ tally_of os → total_in new ≡ with_ending (total_in old) (ending_of o.verdict)
    → new.computed ≡ old.computed + o.computed → new.found ≡ old.found + o.found
    → new.lacked ≡ (old.lacked || ending_tells fault_tells_lack (ending_of o.verdict)) → new ≡ tally_of (os ++ o ∷ [])
tally_of-more old new os o is total computed found lacked =
    let ends : endings_of (os ++ o ∷ []) ≡ endings_of os ++ ending_of o.verdict ∷ [] = rw map-append refl in
    same_tally new (tally_of (os ++ o ∷ []))
    (total ∙ ap (λ t. with_ending (total_in t) (ending_of o.verdict)) is ∙ sym (total_of-more (endings_of os) (ending_of o.verdict)) ∙ ap total_of (sym ends))
    (computed ∙ ap (λ t. t.computed + o.computed) is ∙ (let sum = sum_by-append (λ p. p.computed) os (o ∷ []) in omega (arith, sum)))
    (found ∙ ap (λ t. t.found + o.found) is ∙ (let sum = sum_by-append (λ p. p.found) os (o ∷ []) in omega (arith, sum)))
    (lacked ∙ ap (λ t. t.lacked || ending_tells fault_tells_lack (ending_of o.verdict)) is ∙ sym (endings_tell-more fault_tells_lack (endings_of os) (ending_of o.verdict)) ∙ ap (endings_tell fault_tells_lack) (sym ends))

-- ---- the end of a node

-- what is told of a node, by what its calls and its closes came to
pub result_of-ended : (node : ℕ) (is_test : Bool) (os : List Outcome) (cs : List (Option Fault)) (r : ResultOf Fault) → r.node ≡ node → r.is_test ≡ is_test
    → ◌≡◌ {A = Total Fault} (record { status = r.status; fault = r.fault; more = r.more }) (with_closes (total_of (endings_of os)) (first_of cs) (close_faults cs - 1))
    → r.computed ≡ computed_in os → r.found ≡ found_in os → r.closed ≡ length cs → r.close_faults ≡ close_faults cs
    → r.lacked ≡ (endings_tell fault_tells_lack (endings_of os) || one_tells fault_tells_lack cs)
    → r ≡ result_of node is_test (endings_of os) (computed_in os) (found_in os) cs
result_of-ended node is_test os cs r at test total computed found closed faults lacked =
    let whole = total ∙ sym (total_of-closed (endings_of os) cs) in
    let told = lacked ∙ sym (endings_tell-closed fault_tells_lack (endings_of os) cs) in
    λ i. record {
      node = at i;
      is_test = test i;
      status = (whole i).status;
      fault = (whole i).fault;
      more = (whole i).more;
      computed = computed i;
      found = found i;
      closed = closed i;
      close_faults = faults i;
      lacked = told i;
    }

-- what calls and closes come to, by what was counted of both
pub closed-total : (t : Tally) (closes : Closed) (os : List Outcome) (cs : List (Option Fault)) (u : Total Fault) → t ≡ tally_of os → closes ≡ closed_of cs → u ≡ with_closes (total_in t) closes.first_fault closes.more_faults
    → u ≡ with_closes (total_of (endings_of os)) (first_of cs) (close_faults cs - 1)
closed-total t closes os cs u is counted total =
    total ∙ ap (λ x. with_closes (total_in x) closes.first_fault closes.more_faults) is ∙ ap (λ x. with_closes (total_of (endings_of os)) x.first_fault x.more_faults) counted

-- how many closes failed
pub faults-some : (closes : Closed) (cs : List (Option Fault)) (fault : Fault) (n : ℕ) → closes ≡ closed_of cs → closes.first_fault ≡ Some fault → n ≡ 1 + closes.more_faults → n ≡ close_faults cs
faults-some closes cs fault n counted first is =
    let there : is_some (first_of cs) ≡ true = ap is_some (sym (ap (λ x. x.first_fault) counted) ∙ first) in
    let more : closes.more_faults ≡ close_faults cs - 1 = ap (λ x. x.more_faults) counted in
    omega (arith, is, more, some-counted (first_of cs) (close_faults cs) (closes-counted cs) there)

pub faults-none : (closes : Closed) (cs : List (Option Fault)) → closes ≡ closed_of cs → closes.first_fault ≡ None → 0 ≡ close_faults cs
faults-none closes cs counted first =
    let missing : is_some (first_of cs) ≡ false = ap is_some (sym (ap (λ x. x.first_fault) counted) ∙ first) in
    sym (none-counted (first_of cs) (close_faults cs) (closes-counted cs) missing)

-- whether one of all tells of a lack, by what was counted of both
pub lacked-total : (t : Tally) (closes : Closed) (os : List Outcome) (cs : List (Option Fault)) → t ≡ tally_of os → closes ≡ closed_of cs
    → (t.lacked || closes.lacked) ≡ (endings_tell fault_tells_lack (endings_of os) || one_tells fault_tells_lack cs)
lacked-total t closes os cs is counted = ap (λ x. x.lacked || closes.lacked) is ∙ ap (λ x. endings_tell fault_tells_lack (endings_of os) || x.lacked) counted
