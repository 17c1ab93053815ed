-- What is told of the children of a node that run one after another in the plain run, each with all nodes below it, whatever being told means.
use Rattle.std.proofs.Common.{◌≡◌, ℕ, suc, ◌<◌, inl, inr, fold, List, [], ◌∷◌, ◌++◌, length, take, sym, subst, arith}
use Rattle.std.specs.Prelude.{Contains, Some, slice_get, slice_index_or}
use Rattle.std.specs.List.{flat_map}
use Rattle.std.proofs.lemmas.List.Elements.{Contains-append_left, Contains-append_right}
use Rattle.ext_history.proofs.Lists.{contains_here, contains_later, contains_none}
use Rattle.ext_history.proofs.Once.{Once}
use Rattle.ext_tree.specs.Trees.{Id, IsParentOf, IsTree}
use Rattle.ext_lifecycle.specs.FaultTexts.{NodeOutcome}
use Rattle.ext_engine.specs.RunLaws.{HasRun}
use Rattle.ext_engine.specs.TreeRun.{Ran}
use Rattle.ext_engine.proofs.Above.{Under, same_child}
use Rattle.ext_plan_plain.specs.PlainRun.{RunState}
use Rattle.ext_one_report.proofs.ChildLists.{only}
use Rattle.ext_one_report.proofs.ResultLists.{ran_cases}

module _ (ids : List Id) (tree : IsTree ids) (node : ℕ) (step : RunState → ℕ → RunState) (Reported : List Ran → List NodeOutcome → List NodeOutcome → Type 0) (nothing : (results : List NodeOutcome) → Reported [] results results)
    (and_then : (xs ys : List Ran) (a b c : List NodeOutcome) → ((k : ℕ) → HasRun xs k → HasRun ys k → ⊥) → Reported xs a b → Reported ys b c → Reported (xs ++ ys) a c) where
  abbrev IsChild : ℕ → Type 0
  IsChild child = IsParentOf ids node child

  abbrev after_all : RunState → List ℕ → RunState
  after_all r children = fold (λ r child. step r child) r children

  -- of some nodes below these children
  pub record TellsBelow (children : List ℕ) (ran : List Ran) (a b : RunState) : Type 0 where
    pub told : Reported ran a.results b.results
    pub under : (k : ℕ) → HasRun ran k → (c : ℕ) × Contains children c × Under ids c k

  -- of children that follow one another, of which each is told
  pub then_below : (xs ys : List ℕ) (first second : List Ran) (a b c : RunState) → ((x : ℕ) → Contains xs x → IsChild x) → ((x : ℕ) → Contains ys x → IsChild x) → ((x : ℕ) → Contains xs x → Contains ys x → ⊥)
      → TellsBelow xs first a b → TellsBelow ys second b c → TellsBelow (xs ++ ys) (first ++ second) a c
  then_below xs ys first second a b c xs_children ys_children apart one two = record {
    told = and_then first second a.results b.results c.results (λ k early late.
        let x = one.under k early in
        let y = two.under k late in
        let same = same_child ids tree node x.0 y.0 k (xs_children x.0 x.1) (ys_children y.0 y.1) x.2 y.2 in
        apart y.0 (subst (Contains xs) same x.1) y.1) one.told two.told;
    under = λ k has. elim (ran_cases first second k has) [
      | inl early ↦ let x = one.under k early in (x.0, Contains-append_left xs ys x.0 x.1, x.2)
      | inr late ↦ let y = two.under k late in (y.0, Contains-append_right xs ys y.0 y.1, y.2)
    ];
  }

  pub one_below : (c : ℕ) (ran : List Ran) (a b : RunState) → Reported ran a.results b.results → ((k : ℕ) → HasRun ran k → Under ids c k) → TellsBelow (c ∷ []) ran a b
  one_below c ran a b told under = record { told = told; under = λ k has. (c, contains_here c [], under k has) }

  pub none_below : (a : RunState) → TellsBelow [] [] a a
  none_below a = record { told = nothing a.results; under = λ k has. absurd (contains_none k has) }

  -- a child that is told, where these results stand at its place
  pub record ReportedAt (cs : List ℕ) (beside : List (List Ran)) (r : RunState) (i : ℕ) : Type 0 where
    pub ran : List Ran
    pub stands : slice_get beside i ≡ Some ran
    pub told : Reported ran (after_all r (take i cs)).results (step (after_all r (take i cs)) (slice_index_or cs i 0)).results
    pub under : (k : ℕ) → HasRun ran k → Under ids (slice_index_or cs i 0) k

  pub all_below : (cs : List ℕ) (beside : List (List Ran)) (r : RunState) → length beside ≡ length cs → Once cs → ((x : ℕ) → Contains cs x → IsChild x) → ((i : ℕ) → i < length cs → ReportedAt cs beside r i)
      → TellsBelow cs (flat_map (λ ran. ran) beside) r (after_all r cs)
  all_below [] [] r same once children each = none_below r
  all_below [] (b ∷ beside) r same once children each = absurd (omega (arith, same))
  all_below (c ∷ cs) [] r same once children each = absurd (omega (arith, same))
  all_below (c ∷ cs) (b ∷ beside) r same once children each =
      let first = each 0 (omega arith) in
      let is : first.ran ≡ b = let e : Some b ≡ Some first.ran = first.stands in cc e in
      let one : TellsBelow (c ∷ []) b r (step r c) =
      subst (λ l. TellsBelow (c ∷ []) l r (step r c)) is (record { told = first.told; under = λ k has. (c, contains_here c [], first.under k has) }) in
      let rest = all_below cs beside (step r c) (omega (arith, same)) once.1 (λ x there. children x (contains_later c cs x there)) (λ i less.
      let e = each (suc i) (omega (arith, less)) in
      record { ran = e.ran; stands = e.stands; told = e.told; under = e.under }) in
      then_below (c ∷ []) cs b (flat_map (λ ran. ran) beside) r (step r c) (after_all (step r c) cs)
      (λ x there. children x (subst (Contains (c ∷ cs)) (only c x there) (contains_here c cs))) (λ x there. children x (contains_later c cs x there))
      (λ x there also. once.0 (subst (Contains cs) (sym (only c x there)) also)) one rest
