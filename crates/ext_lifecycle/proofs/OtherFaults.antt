-- What calls and closes come to does not depend on what a fault is: with other faults, as with their texts, it is the same with other faults.
use Rattle.std.proofs.Common.{◌≡◌, ℕ, ◌+◌, Bool, List, [], ◌∷◌, ◌++◌, length, Option, Some, None, refl, ap, sym, ◌∙◌}
use Rattle.std.specs.Prelude.{map, option_map, ◌||◌}
use Rattle.std.proofs.lemmas.List.{length-map, map-append}
use Rattle.ext_model.specs.declared.look.Fault.{Fault}
use Rattle.ext_model.specs.declared.look.Fault.TheVariants as faults
use Rattle.ext_model.specs.Closed.{close_faults, or_else}
use Rattle.ext_model.specs.Lacks.{fault_tells_lack, tells_lack}
use Rattle.ext_lifecycle.specs.Endings.{Ending, successful, aborted, failed, is_successful, fault_in, abort_in, first_fault, first_abort, unsuccessful, ending_tells, endings_tell, total_by, total_of, with_fault, with_fault_in_total}
use Rattle.ext_lifecycle.specs.FaultTexts.{fault_text}
use Rattle.ext_lifecycle.specs.Results.{close_ending, result_by, result_of, map_fault}
use Rattle.ext_lifecycle.proofs.EndingLaws.{weight, unsuccessful-cons, unsuccessful-closes}

module _ {F G : Type 0} (to : F → G) where
  or_else-to : (a b : Option F) → option_map to (or_else a b) ≡ or_else (option_map to a) (option_map to b)
  or_else-to None b = refl
  or_else-to (Some fault) b = refl

  fault_in-to : (e : Ending F) → fault_in (with_fault to e) ≡ option_map to (fault_in e)
  fault_in-to successful = refl
  fault_in-to (aborted fault) = refl
  fault_in-to (failed fault) = refl

  abort_in-to : (e : Ending F) → abort_in (with_fault to e) ≡ option_map to (abort_in e)
  abort_in-to successful = refl
  abort_in-to (aborted fault) = refl
  abort_in-to (failed fault) = refl

  weight-to : (e : Ending F) → weight (with_fault to e) ≡ weight e
  weight-to successful = refl
  weight-to (aborted fault) = refl
  weight-to (failed fault) = refl

  pub is_successful-to : (e : Ending F) → is_successful (with_fault to e) ≡ is_successful e
  is_successful-to successful = refl
  is_successful-to (aborted fault) = refl
  is_successful-to (failed fault) = refl

  first_fault-to : (es : List (Ending F)) → first_fault (map (with_fault to) es) ≡ option_map to (first_fault es)
  first_fault-to [] = refl
  first_fault-to (e ∷ es) =
      ap (λ f. or_else f (first_fault (map (with_fault to) es))) (fault_in-to e) ∙ ap (or_else (option_map to (fault_in e))) (first_fault-to es) ∙ sym (or_else-to (fault_in e) (first_fault es))

  first_abort-to : (es : List (Ending F)) → first_abort (map (with_fault to) es) ≡ option_map to (first_abort es)
  first_abort-to [] = refl
  first_abort-to (e ∷ es) =
      ap (λ f. or_else f (first_abort (map (with_fault to) es))) (abort_in-to e) ∙ ap (or_else (option_map to (abort_in e))) (first_abort-to es) ∙ sym (or_else-to (abort_in e) (first_abort es))

  unsuccessful-to : (es : List (Ending F)) → unsuccessful (map (with_fault to) es) ≡ unsuccessful es
  unsuccessful-to [] = refl
  unsuccessful-to (e ∷ es) =
      unsuccessful-cons (with_fault to e) (map (with_fault to) es) ∙ ap (λ n. n + unsuccessful (map (with_fault to) es)) (weight-to e) ∙ ap (λ n. weight e + n) (unsuccessful-to es)
      ∙ sym (unsuccessful-cons e es)

  total_by-to : (f a : Option F) (n : ℕ) → total_by (option_map to f) (option_map to a) n ≡ with_fault_in_total to (total_by f a n)
  total_by-to None None n = refl
  total_by-to None (Some x) n = refl
  total_by-to (Some y) a n = refl

  pub total_of-to : (es : List (Ending F)) → total_of (map (with_fault to) es) ≡ with_fault_in_total to (total_of es)
  total_of-to es =
      ap (λ f. total_by f (first_abort (map (with_fault to) es)) (unsuccessful (map (with_fault to) es))) (first_fault-to es)
      ∙ ap (λ a. total_by (option_map to (first_fault es)) a (unsuccessful (map (with_fault to) es))) (first_abort-to es)
      ∙ ap (total_by (option_map to (first_fault es)) (option_map to (first_abort es))) (unsuccessful-to es)
      ∙ total_by-to (first_fault es) (first_abort es) (unsuccessful es)

  -- ---- closes

  close_ending-to : (c : Option F) → close_ending (option_map to c) ≡ with_fault to (close_ending c)
  close_ending-to None = refl
  close_ending-to (Some fault) = refl

  closes-to : (cs : List (Option F)) → map close_ending (map (option_map to) cs) ≡ map (with_fault to) (map close_ending cs)
  closes-to [] = refl
  closes-to (c ∷ cs) = ap (λ e. e ∷ map close_ending (map (option_map to) cs)) (close_ending-to c) ∙ ap (λ es. with_fault to (close_ending c) ∷ es) (closes-to cs)

  pub close_faults-to : (cs : List (Option F)) → close_faults (map (option_map to) cs) ≡ close_faults cs
  close_faults-to cs = sym (unsuccessful-closes (map (option_map to) cs)) ∙ ap unsuccessful (closes-to cs) ∙ unsuccessful-to (map close_ending cs) ∙ unsuccessful-closes cs

  -- ---- the whole result, where the other faults tell of the same lacks

  module _ (tells : F → Bool) (others : G → Bool) (same : (fault : F) → tells fault ≡ others (to fault)) where
    ending_tells-to : (e : Ending F) → ending_tells others (with_fault to e) ≡ ending_tells tells e
    ending_tells-to successful = refl
    ending_tells-to (aborted fault) = sym (same fault)
    ending_tells-to (failed fault) = sym (same fault)

    endings_tell-to : (es : List (Ending F)) → endings_tell others (map (with_fault to) es) ≡ endings_tell tells es
    endings_tell-to [] = refl
    endings_tell-to (e ∷ es) = λ i. ending_tells-to e i || endings_tell-to es i

    pub result_by-to : (node : ℕ) (is_test : Bool) (es : List (Ending F)) (computed found : ℕ) (cs : List (Option F))
        → result_by others node is_test (map (with_fault to) es) computed found (map (option_map to) cs) ≡ map_fault to (result_by tells node is_test es computed found cs)
    result_by-to node is_test es computed found cs =
        let ends : map (with_fault to) es ++ map close_ending (map (option_map to) cs) ≡ map (with_fault to) (es ++ map close_ending cs) = ap (λ l. map (with_fault to) es ++ l) (closes-to cs) ∙ sym (map-append (with_fault to) es (map close_ending cs)) in
        let total = ap total_of ends ∙ total_of-to (es ++ map close_ending cs) in
        let lacked = ap (endings_tell others) ends ∙ endings_tell-to (es ++ map close_ending cs) in
        let closed = length-map cs (option_map to) in
        let failed = close_faults-to cs in
        λ i. record {
          node = node;
          is_test = is_test;
          status = (total i).status;
          fault = (total i).fault;
          more = (total i).more;
          computed = computed;
          found = found;
          closed = closed i;
          close_faults = failed i;
          lacked = lacked i;
        }

-- a fault tells of a lack as its text does
pub text-tells : (fault : Fault) → fault_tells_lack fault ≡ tells_lack (fault_text fault)
text-tells (faults.Text text) = refl
text-tells faults.Memory = refl

pub result_of-told : (node : ℕ) (is_test : Bool) (es : List (Ending Fault)) (computed found : ℕ) (cs : List (Option Fault))
    → result_by tells_lack node is_test (map (with_fault fault_text) es) computed found (map (option_map fault_text) cs) ≡ map_fault fault_text (result_of node is_test es computed found cs)
result_of-told = result_by-to fault_text fault_tells_lack tells_lack text-tells
