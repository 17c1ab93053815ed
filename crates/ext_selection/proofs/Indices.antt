-- Indices stand once, among so many, when they are chosen and when they are put in another order.
use Rattle.std.proofs.Common.{◌≡◌, ◌≢◌, ◌==◌, ◌∙◌, ℕ, zero, suc, ◌<◌, Bool, true, false, cond, List, [], ◌∷◌, length, filter, All, Contains, IsPermutation, sym, ap, subst, arith, zero-add}
use Rattle.std.specs.Prelude.{AllPairs, slice_index_or}
use Rattle.std.specs.Bool.{Decides, one_answer}
use Rattle.std.specs.List.{range_with_len}
use Rattle.std.proofs.lemmas.Bool.Decides.{Decides-eqb}
use Rattle.std.proofs.lemmas.List.FromFn.{length-range_with_len, get_or-range_with_len}
use Rattle.std.proofs.lemmas.List.Elements.{All-contains, All-filter, filter_passes}
use Rattle.std.proofs.lemmas.List.Kept.{AllPairs-filter}
use Rattle.std.proofs.lemmas.List.Sorted.{All-permutation}
use Rattle.std.proofs.lemmas.Map.Keys.{IsDistinct-IsPermutation}
use Rattle.std.proofs.lemmas.Map.Made.{AllPairs-from_IsDistinct, IsDistinct-from_AllPairs}
use Rattle.ext_selection.specs.Nodes.{AreClosed, AreIndices}
use Rattle.ext_selection.specs.Selection.{AreChosen}
use Rattle.ext_selection.specs.declared.nodes.Node.{Node}

range_within : (n : ℕ) → All (λ k. k < n) (range_with_len 0 n)
range_within n = λ k d below.
    let size = length-range_with_len 0 n in
    let at = get_or-range_with_len 0 n k d (omega arith) in omega (arith, at, size, below)

range_once : (n : ℕ) → AllPairs (λ a b. a ≢ b) (range_with_len 0 n)
range_once n = λ i j d less below same.
    let size = length-range_with_len 0 n in
    let first = get_or-range_with_len 0 n i d (omega arith) in
    let second = get_or-range_with_len 0 n j d (omega arith) in omega (arith, first, second, same, less)

pub chosen_indices : (nodes : List Node) (wanted : List Bool) (indices : List ℕ) → AreChosen nodes wanted indices → AreIndices (length nodes) indices
chosen_indices nodes wanted indices h =
    subst (AreIndices (length nodes)) (sym h.exact)
    (record {
      within = All-filter h.kept (λ k. k < length nodes) (range_with_len 0 (length nodes)) (range_within (length nodes));
      once = AllPairs-filter (λ a b. a ≢ b) h.kept (range_with_len 0 (length nodes)) (range_once (length nodes));
    })

flips : (x y : ℕ) → (x == y) ≡ (y == x)
flips x y =
    let turned : Decides (y == x) (x ≡ y) =
    (λ is. sym ((Decides-eqb y x).0 is), λ e. (Decides-eqb y x).1 (sym e)) in
    one_answer (x == y) (y == x) (Decides-eqb x y) turned

pub moved_indices : (count : ℕ) (indices order : List ℕ) → IsPermutation indices order → AreIndices count indices → AreIndices count order
moved_indices count indices order moved h = record {
  within = All-permutation (λ index. index < count) indices order moved h.within;
  once = AllPairs-from_IsDistinct Decides-eqb order
      (IsDistinct-IsPermutation (λ x y. x == y) flips indices order moved (IsDistinct-from_AllPairs Decides-eqb indices h.once));
}

-- ---- with each index that of the node that it stands in

in_more : (b : Bool) (y : ℕ) (zs : List ℕ) (x : ℕ) → Contains zs x → Contains (cond b (y ∷ zs) zs) x
in_more true y zs x h = (suc h.0, omega (arith, h.1), h.2)
in_more false y zs x h = h

in_first : (b : Bool) (y : ℕ) (zs : List ℕ) (x : ℕ) → b ≡ true → y ≡ x → Contains (cond b (y ∷ zs) zs) x
in_first true y zs x is same = (0, omega arith, same)
in_first false y zs x is same = let clash : false ≡ true = is in absurd (cc clash)

contains_filter : (p : ℕ → Bool) (xs : List ℕ) (k x : ℕ) → k < length xs → slice_index_or xs k x ≡ x → p x ≡ true → Contains (filter p xs) x
contains_filter p [] k x below at is = absurd (omega arith)
contains_filter p (y ∷ ys) zero x below at is = in_first (p y) y (filter p ys) x (ap p at ∙ is) at
contains_filter p (y ∷ ys) (suc k) x below at is = in_more (p y) y (filter p ys) x (contains_filter p ys k x (omega arith) at is)

pub closed_indices : (nodes : List Node) (wanted : List Bool) (indices : List ℕ) → AreChosen nodes wanted indices → AreClosed nodes indices
closed_indices nodes wanted indices h = record {
  each = λ inner outer stands some.
      let range : List ℕ = range_with_len 0 (length nodes) in
      let kept_in : h.kept inner ≡ true =
      All-contains (λ k. h.kept k ≡ true) (filter h.kept range) inner (filter_passes h.kept range)
      (subst (λ ps. Contains ps inner) h.exact some) in
      let first : outer < inner = stands.before in
      let last : inner < length nodes = stands.within in
      let within : outer < length nodes = omega arith in
      let kept_out : h.kept outer ≡ true =
      (h.rule.containers outer within (λ test. test.last inner stands)).1 (inner, kept_in, stands) in
      subst (λ ps. Contains ps outer) (sym h.exact)
      (contains_filter h.kept range outer outer
      (let size = length-range_with_len 0 (length nodes) in omega (arith, size, within))
      (get_or-range_with_len 0 (length nodes) outer outer within ∙ zero-add outer) kept_out);
}
