-- The result of a node does not tell in which order the closes of its context came, but for the first that fails.
use Rattle.std.proofs.Common.{◌≡◌, ℕ, inl, inr, Bool, List, [], ◌∷◌, ◌++◌, map, Contains, Option, None, Some, refl, ap, sym, subst, ◌∙◌}
use Rattle.std.specs.Prelude.{IsPermutation, cond, is_some, not}
use Rattle.std.proofs.lemmas.List.Sorted.{Contains-permutation, IsPermutation-sym, IsPermutation-append_right, IsPermutation-map, length_permutation, list_any-IsPermutation, sum_by-IsPermutation}
use Rattle.ext_history.proofs.Lists.{contains_cons, contains_here, contains_later, contains_none}
use Rattle.ext_model.specs.Closed.{close_faults, first_of, or_else}
use Rattle.ext_lifecycle.specs.Endings.{Ending, abort_in, ending_tells, endings_tell, fault_in, first_abort, first_fault, is_successful, total_by, total_of, unsuccessful}
use Rattle.ext_lifecycle.specs.Results.{close_ending, result_by}

-- ---- the first fault and the first abort

module _ {F : Type 0} where
  or_else-assoc : (a b c : Option F) → or_else (or_else a b) c ≡ or_else a (or_else b c)
  or_else-assoc None b c = refl
  or_else-assoc (Some x) b c = refl

  fault-append : (xs ys : List (Ending F)) → first_fault (xs ++ ys) ≡ or_else (first_fault xs) (first_fault ys)
  fault-append [] ys = refl
  fault-append (x ∷ xs) ys = ap (or_else (fault_in x)) (fault-append xs ys) ∙ sym (or_else-assoc (fault_in x) (first_fault xs) (first_fault ys))

  abort-append : (xs ys : List (Ending F)) → first_abort (xs ++ ys) ≡ or_else (first_abort xs) (first_abort ys)
  abort-append [] ys = refl
  abort-append (x ∷ xs) ys = ap (or_else (abort_in x)) (abort-append xs ys) ∙ sym (or_else-assoc (abort_in x) (first_abort xs) (first_abort ys))

  fault-closes : (closes : List (Option F)) → first_fault (map close_ending closes) ≡ first_of closes
  fault-closes [] = refl
  fault-closes (None ∷ closes) = fault-closes closes
  fault-closes (Some fault ∷ closes) = refl

  abort-closes : (closes : List (Option F)) → first_abort (map close_ending closes) ≡ None
  abort-closes [] = refl
  abort-closes (None ∷ closes) = abort-closes closes
  abort-closes (Some fault ∷ closes) = abort-closes closes

  -- ---- the first of closes in another order

  -- the first one that failed is one of them
  first_among : (closes : List (Option F)) (fault : F) → first_of closes ≡ Some fault → Contains closes (Some fault)
  first_among [] fault is = absurd (cc is)
  first_among (None ∷ closes) fault is = contains_later None closes (Some fault) (first_among closes fault is)
  first_among (Some other ∷ closes) fault is = subst (λ (o : Option F). Contains (Some other ∷ closes) o) is (contains_here (Some other) closes)

  -- where one failed there is a first one
  none_failed : (closes : List (Option F)) (fault : F) → Contains closes (Some fault) → first_of closes ≡ None → ⊥
  none_failed [] fault there none = contains_none (Some fault) there
  none_failed (None ∷ closes) fault there none = elim (contains_cons None closes (Some fault) there) [
    | inl is ↦ absurd (cc is)
    | inr later ↦ none_failed closes fault later none
  ]
  none_failed (Some other ∷ closes) fault there none = absurd (cc none)

  -- where the first is the same if there is one in both, it is the same
  first_by : (closes others : List (Option F)) → ((one other : F) → first_of closes ≡ Some one → first_of others ≡ Some other → one ≡ other) → IsPermutation closes others
      → (a b : Option F) → first_of closes ≡ a → first_of others ≡ b → a ≡ b
  first_by closes others one moved None None first second = refl
  first_by closes others one moved None (Some b) first second =
      absurd (none_failed closes b (Contains-permutation others closes (Some b) (IsPermutation-sym closes others moved) (first_among others b second)) first)
  first_by closes others one moved (Some a) None first second =
      absurd (none_failed others a (Contains-permutation closes others (Some a) moved (first_among closes a first)) second)
  first_by closes others one moved (Some a) (Some b) first second =
      ap Some (one a b first second)

  -- ---- results

  module _ (tells : F → Bool) (node : ℕ) (is_test : Bool) (calls : List (Ending F)) (computed found : ℕ) (closes others : List (Option F)) (moved : IsPermutation closes others)
      (one : (a b : F) → first_of closes ≡ Some a → first_of others ≡ Some b → a ≡ b) where
    fault_is : first_fault (calls ++ map close_ending closes) ≡ first_fault (calls ++ map close_ending others)
    fault_is =
        let same : first_of closes ≡ first_of others = first_by closes others one moved (first_of closes) (first_of others) refl refl in
        fault-append calls (map close_ending closes)
        ∙ (ap (or_else (first_fault calls)) (fault-closes closes ∙ (same ∙ sym (fault-closes others))) ∙ sym (fault-append calls (map close_ending others)))

    abort_is : first_abort (calls ++ map close_ending closes) ≡ first_abort (calls ++ map close_ending others)
    abort_is =
        abort-append calls (map close_ending closes)
        ∙ (ap (or_else (first_abort calls)) (abort-closes closes ∙ sym (abort-closes others)) ∙ sym (abort-append calls (map close_ending others)))

    count_is : unsuccessful (calls ++ map close_ending closes) ≡ unsuccessful (calls ++ map close_ending others)
    count_is =
        sym (sum_by-IsPermutation (λ (e : Ending F). cond (not (is_successful e)) 1 0) (calls ++ map close_ending closes) (calls ++ map close_ending others)
        (IsPermutation-append_right calls (map close_ending closes) (map close_ending others) (IsPermutation-map close_ending closes others moved)))

    total_is : total_of (calls ++ map close_ending closes) ≡ total_of (calls ++ map close_ending others)
    total_is = λ i. total_by (fault_is i) (abort_is i) (count_is i)

    faults_are : close_faults closes ≡ close_faults others
    faults_are = sym (sum_by-IsPermutation (λ (o : Option F). cond (is_some o) 1 0) closes others moved)

    lacked_is : endings_tell tells (calls ++ map close_ending closes) ≡ endings_tell tells (calls ++ map close_ending others)
    lacked_is =
        list_any-IsPermutation (ending_tells tells) (calls ++ map close_ending closes) (calls ++ map close_ending others)
        (IsPermutation-append_right calls (map close_ending closes) (map close_ending others) (IsPermutation-map close_ending closes others moved))

    pub results_tell_no_order : result_by tells node is_test calls computed found closes ≡ result_by tells node is_test calls computed found others
    results_tell_no_order = λ i. record {
      node = node;
      is_test = is_test;
      status = (total_is i).status;
      fault = (total_is i).fault;
      more = (total_is i).more;
      computed = computed;
      found = found;
      closed = sym (length_permutation closes others moved) i;
      close_faults = faults_are i;
      lacked = lacked_is i;
    }
