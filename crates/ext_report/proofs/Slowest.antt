-- The tests whose time is known are of contexts of the tree; their order.
use Rattle.std.proofs.Common.{◌≡◌, ℕ, ◌<◌, Bool, true, false, List, [], ◌∷◌, take, All, arith, sym}
use Rattle.std.specs.Prelude.{nat_lt, IsPermutation, if◌then◌else◌, Option, Some, None}
use Rattle.std.specs.Cmp.{IsStrictWeakOrder, ranks}
use Rattle.std.specs.declared.cmp.Ordering.{Ordering}
use Rattle.std.specs.declared.cmp.Ordering.TheVariants.{Less, Equal, Greater}
use Rattle.std.specs.Ordering.{MatchOrdering, is_lt, nat_cmp}
use Rattle.std.proofs.lemmas.Bool.{le-ltb, lt-ltb}
use Rattle.std.proofs.lemmas.List.Elements.{All-append, All-cons, All-head, All-nil, All-same, All-tail, All-take}
use Rattle.std.proofs.lemmas.List.Sorted.{All-permutation, IsStrictWeakOrder-by_number, IsStrictWeakOrder-flip}
use Rattle.ext_lifecycle.specs.declared.node_result.NodeResult.{NodeResult}
use Rattle.ext_lifecycle.specs.FaultTexts.{result_view, results_view}
use Rattle.ext_report.specs.declared.extra.Extra.{Extra}
use Rattle.ext_report.specs.declared.slow.Timed.{Timed}
use Rattle.ext_report.specs.Extras.{extra_of}
use Rattle.ext_report.specs.Slow.{timed_at, timed_test, timed_tests, took_longer}

-- what comparing two numbers answers
ranked : (x y : ℕ) (r : Ordering) → MatchOrdering r (x < y) (x ≡ y) (y < x) → is_lt r ≡ nat_lt x y
ranked x y Less is = sym (lt-ltb x y is)
ranked x y Equal is = sym (le-ltb x y (omega (arith, is)))
ranked x y Greater is = sym (le-ltb x y (omega (arith, is)))

pub compared : (x y : ℕ) → is_lt (nat_cmp x y) ≡ nat_lt x y
compared x y = ranked x y (nat_cmp x y) (ranks x y)

pub slowness : IsStrictWeakOrder took_longer
slowness = IsStrictWeakOrder-flip (λ first second. nat_lt first.millis second.millis) (IsStrictWeakOrder-by_number (λ (timed : Timed). timed.millis))

module _ (n : ℕ) where
  abbrev InTree : Timed → Type 0
  InTree timed = timed.node < n

  at-in_tree : (node : ℕ) (millis : Option ℕ) → node < n → All InTree (timed_at node millis)
  at-in_tree node None within = All-nil InTree
  at-in_tree node (Some millis) within = All-cons InTree (record { node = node; millis = millis }) [] within (All-nil InTree)

  if-in_tree : (b : Bool) (timed : List Timed) → All InTree timed → All InTree (if b then timed else [])
  if-in_tree true timed all = all
  if-in_tree false timed all = All-nil InTree

  tests-in_tree : (extras : List Extra) (rs : List NodeResult) → All (λ r. r.node < n) rs → All InTree (timed_tests extras (results_view rs))
  tests-in_tree extras [] all = All-nil InTree
  tests-in_tree extras (r ∷ rs) all =
      All-append InTree (timed_test extras (result_view r)) (timed_tests extras (results_view rs))
      (if-in_tree r.is_test (timed_at r.node (extra_of extras r.node).millis) (at-in_tree r.node (extra_of extras r.node).millis (All-head (λ r. r.node < n) r rs all)))
      (tests-in_tree extras rs (All-tail (λ r. r.node < n) r rs all))

  pub shown-in_tree : (extras : List Extra) (rs : List NodeResult) (timed slow shown seen : List Timed) (most : ℕ) → All (λ r. r.node < n) rs → timed ≡ timed_tests extras (results_view rs) → IsPermutation timed slow
      → shown ≡ take most slow → seen ≡ shown → All (λ timed. timed.node < n) seen
  shown-in_tree extras rs timed slow shown seen most all is same taken at =
      All-same InTree seen shown at (All-same InTree shown (take most slow) taken (All-take InTree most slow (All-permutation InTree timed slow same
      (All-same InTree timed (timed_tests extras (results_view rs)) is (tests-in_tree extras rs all)))))
