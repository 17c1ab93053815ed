-- Sums over nodes of a tree: what is counted on the paths by the children of a node is counted on those by the node.
use Rattle.std.proofs.Common.{◌≡◌, ◌≢◌, ◌⊎◌, ◌≤◌, ◌<◌, ℕ, zero, suc, ◌+◌, Bool, true, false, cond, List, [], ◌∷◌, length, get_or, Contains, sum_by, count_by, refl, sym, ap, subst, ◌∙◌, arith, inl, inr, eqb}
use Rattle.std.specs.List.{AllByRecursion, flat_map, range_with_len}
use Rattle.std.proofs.lemmas.Bool.{cases_Bool, eq-eqb}
use Rattle.std.proofs.lemmas.Bool.Decides.{eqb_tells}
use Rattle.std.proofs.lemmas.List.FromFn.{get_or-range_with_len, length-range_with_len}
use Rattle.std.proofs.lemmas.List.Sums.{get_or-le-sum_by, sum_by-append, sum_by-cons}
use Rattle.ext_history.proofs.Lists.{contains_cons, contains_here, contains_later, contains_none}
use Rattle.ext_plan_plain.proofs.Reached.{Stands}
use Rattle.ext_plan_plain.proofs.Skipping.{Distinct}

-- ---- sums

module _ {X : Type 0} where
  -- a sum of sums
  sum_both : (f g : X → ℕ) (xs : List X) → sum_by (λ x. f x + g x) xs ≡ sum_by f xs + sum_by g xs
  sum_both f g [] = refl
  sum_both f g (x ∷ xs) =
      let rest = sum_both f g xs in
      let a = sum_by-cons f x xs in
      let b = sum_by-cons g x xs in
      sum_by-cons (λ y. f y + g y) x xs ∙ omega (arith, rest, a, b)

  pub sum_same : (f g : X → ℕ) (xs : List X) → ((x : X) → f x ≡ g x) → sum_by f xs ≡ sum_by g xs
  sum_same f g [] same = refl
  sum_same f g (x ∷ xs) same =
      let one = same x in
      let rest = sum_same f g xs same in
      sum_by-cons f x xs ∙ (omega (arith, one, rest) ∙ sym (sum_by-cons g x xs))

  sum_none : (f : X → ℕ) (xs : List X) → ((x : X) → f x ≡ 0) → sum_by f xs ≡ 0
  sum_none f [] none = refl
  sum_none f (x ∷ xs) none =
      let one = none x in
      let rest = sum_none f xs none in
      sum_by-cons f x xs ∙ omega (arith, one, rest)

  -- how many pass in lists that are put together
  pub count_in_all : {Y : Type 0} (p : Y → Bool) (f : X → List Y) (xs : List X) → count_by p (flat_map f xs) ≡ sum_by (λ x. count_by p (f x)) xs
  count_in_all p f [] = refl
  count_in_all p f (x ∷ xs) =
      sum_by-append (λ y. cond (p y) 1 0) (f x) (flat_map f xs) ∙ (ap (λ n. count_by p (f x) + n) (count_in_all p f xs) ∙ sym (sum_by-cons (λ x. count_by p (f x)) x xs))

-- the order of two sums may be exchanged
exchanged : {X Y : Type 0} (f : X → Y → ℕ) (xs : List X) (ys : List Y) → sum_by (λ x. sum_by (f x) ys) xs ≡ sum_by (λ y. sum_by (λ x. f x y) xs) ys
exchanged f [] ys = sym (sum_none (λ y. 0) ys (λ y. refl))
exchanged f (x ∷ xs) ys =
    sum_by-cons (λ x. sum_by (f x) ys) x xs
    ∙ (ap (λ n. sum_by (f x) ys + n) (exchanged f xs ys)
    ∙ (sym (sum_both (f x) (λ y. sum_by (λ x. f x y) xs) ys)
    ∙ sum_same (λ y. f x y + sum_by (λ x. f x y) xs) (λ y. sum_by (λ x. f x y) (x ∷ xs)) ys (λ y. sym (sum_by-cons (λ x. f x y) x xs))))

-- a sum over a range is no more than one of greater numbers
pub range_grows : (f g : ℕ → ℕ) (from count : ℕ) → ((m : ℕ) → m < from + count → f m ≤ g m) → sum_by f (range_with_len from count) ≤ sum_by g (range_with_len from count)
range_grows f g from zero each = omega arith
range_grows f g from (suc count) each =
    let one = each from (omega arith) in
    let rest = range_grows f g (from + 1) count (λ m less. each m (omega (arith, less))) in
    let a = sum_by-cons f from (range_with_len (from + 1) count) in
    let b = sum_by-cons g from (range_with_len (from + 1) count) in
    omega (arith, one, rest, a, b)

-- ---- numbers on a path

-- the number stands on the path
abbrev pub is_on : ℕ → List ℕ → Bool
is_on at [] = false
is_on at (first ∷ rest) = cond (eqb first at) true (is_on at rest)

pub on_path : (at : ℕ) (path : List ℕ) → is_on at path ≡ true → Contains path at
on_path at [] is = absurd cc
on_path at (first ∷ rest) is = elim (eqb_tells first at) [
  | inl same ↦ subst (λ k. Contains (k ∷ rest) at) (sym same.1) (contains_here at rest)
  | inr differ ↦ contains_later first rest at (on_path at rest (sym (ap (λ b. cond b true (is_on at rest)) differ.0) ∙ is))
]

either_on : (b other : Bool) → other ≡ true → cond b true other ≡ true
either_on true other is = refl
either_on false other is = is

pub path_on : (at : ℕ) (path : List ℕ) → Contains path at → is_on at path ≡ true
path_on at [] there = absurd (contains_none at there)
path_on at (first ∷ rest) there = elim (contains_cons first rest at there) [
  | inl same ↦ ap (λ b. cond b true (is_on at rest)) (eq-eqb first at same)
  | inr later ↦ either_on (eqb first at) (is_on at rest) (path_on at rest later)
]

-- so much where the number is on the path
abbrev pub if_on : List ℕ → ℕ → ℕ → ℕ
if_on path count at = cond (is_on at path) count 0

not_on : (path : List ℕ) (count at : ℕ) → is_on at path ≡ false → if_on path count at ≡ 0
not_on path count at is = ap (λ b. cond b count 0) is

pub is_there : (path : List ℕ) (count at : ℕ) → is_on at path ≡ true → if_on path count at ≡ count
is_there path count at is = ap (λ b. cond b count 0) is

pub on_some : (path : List ℕ) (count at : ℕ) → if_on path count at ≤ count
on_some path count at = by (is_on at path)
  where
    by : (b : Bool) → cond b count 0 ≤ count
    by true = omega arith
    by false = omega arith

pub none_on : (path : List ℕ) (count : ℕ) (numbers : List ℕ) → ((at : ℕ) → Stands at numbers → is_on at path ≡ false) → sum_by (if_on path count) numbers ≡ 0
none_on path count [] each = refl
none_on path count (at ∷ more) each =
    let one = not_on path count at (each at (inl refl)) in
    let rest = none_on path count more (λ other there. each other (inr there)) in
    sum_by-cons (if_on path count) at more ∙ omega (arith, one, rest)

-- where no two different ones of these numbers are on the path, and this one is where one of them is
pub one_on : (path : List ℕ) (count above : ℕ) (numbers : List ℕ) → Distinct numbers → ((at other : ℕ) → Stands at numbers → Stands other numbers → is_on at path ≡ true → is_on other path ≡ true → at ≡ other)
    → ((at : ℕ) → Stands at numbers → is_on at path ≡ true → is_on above path ≡ true) → sum_by (if_on path count) numbers ≤ if_on path count above
one_on path count above [] distinct one up = omega arith
one_on path count above (at ∷ more) distinct one up = elim (cases_Bool (is_on at path)) [
  | inl on ↦
      let first = is_there path count at on in
      let whole = is_there path count above (up at (inl refl) on) in
      let rest = none_on path count more (λ other there. other_off other there (cases_Bool (is_on other path)) on) in
      let sum = sum_by-cons (if_on path count) at more in
      omega (arith, first, whole, rest, sum)
  | inr off ↦
      let first = not_on path count at off in
      let rest = one_on path count above more distinct.1 (λ a b p q. one a b (inr p) (inr q)) (λ a p. up a (inr p)) in
      let sum = sum_by-cons (if_on path count) at more in
      omega (arith, first, rest, sum)
]
  where
    other_off : (other : ℕ) → Stands other more → (is_on other path ≡ true) ⊎ (is_on other path ≡ false) → is_on at path ≡ true → is_on other path ≡ false
    other_off other there (inl is) on = absurd (distinct.0 (subst (λ k. Stands k more) (one other at (inr there) (inl refl) is on) there))
    other_off other there (inr is) on = is

pub all_stand : (P : ℕ → Type 0) (numbers : List ℕ) (at : ℕ) → AllByRecursion P numbers → Stands at numbers → P at
all_stand P [] at all there = absurd there
all_stand P (first ∷ more) at all (inl same) = subst P (sym same) all.0
all_stand P (first ∷ more) at all (inr later) = all_stand P more at all.1 later

-- ---- sums along paths

-- by the paths of so many nodes, and what is counted of each node
module _ (path : ℕ → List ℕ) (own : ℕ → ℕ) (nodes : ℕ) where
  -- what is counted of the nodes on whose path this one is: of those at or below it
  abbrev pub below : ℕ → ℕ
  below at = sum_by (λ node. if_on (path node) (own node) at) (range_with_len 0 nodes)

  -- it is no more than what is counted of all
  pub below_few : (at : ℕ) → below at ≤ sum_by own (range_with_len 0 nodes)
  below_few at = range_grows (λ node. if_on (path node) (own node) at) own 0 nodes (λ node within. on_some (path node) (own node) at)

  -- what is counted of this node alone
  abbrev only : ℕ → ℕ → ℕ
  only at node = cond (eqb node at) (own node) 0

  only_itself : (at : ℕ) → at < nodes → own at ≤ sum_by (only at) (range_with_len 0 nodes)
  only_itself at within =
      let less : at < length (range_with_len 0 nodes) = let len = length-range_with_len 0 nodes in omega (arith, within, len) in
      let stands : get_or (range_with_len 0 nodes) at 0 ≡ at = let read = get_or-range_with_len 0 nodes at 0 within in omega (arith, read) in
      let itself : only at at ≡ own at = ap (λ b. cond b (own at) 0) (eq-eqb at at refl) in
      let part = get_or-le-sum_by (only at) (range_with_len 0 nodes) at 0 less in
      let one : only at (get_or (range_with_len 0 nodes) at 0) ≡ own at = ap (only at) stands ∙ itself in
      omega (arith, part, one)

  -- a node and these below it: on the path of a node is one of the latter at most, and where it is this one is too; and none is on its own
  pub node_and_below : (at : ℕ) (children : List ℕ) → at < nodes → Distinct children → is_on at (path at) ≡ true → ((child : ℕ) → Stands child children → is_on child (path at) ≡ false)
      → ((node child other : ℕ) → node < nodes → Stands child children → Stands other children → is_on child (path node) ≡ true → is_on other (path node) ≡ true → child ≡ other)
      → ((node child : ℕ) → node < nodes → Stands child children → is_on child (path node) ≡ true → is_on at (path node) ≡ true)
      → own at + sum_by below children ≤ below at
  node_and_below at children within distinct itself apart one up =
      let f : ℕ → ℕ → ℕ = λ child node. if_on (path node) (own node) child in
      let crossed : sum_by below children ≡ sum_by (λ node. sum_by (if_on (path node) (own node)) children) (range_with_len 0 nodes) = exchanged f children (range_with_len 0 nodes) in
      let alone = only_itself at within in
      let both = sum_both (only at) (λ node. sum_by (if_on (path node) (own node)) children) (range_with_len 0 nodes) in
      let whole = range_grows (λ node. only at node + sum_by (if_on (path node) (own node)) children) (λ node. if_on (path node) (own node) at) 0 nodes (λ node less. by node (omega (arith, less)) (eqb_tells node at)) in
      omega (arith, crossed, alone, both, whole)
    where
      by : (node : ℕ) → node < nodes → ((eqb node at ≡ true) × (node ≡ at)) ⊎ ((eqb node at ≡ false) × (node ≢ at)) → only at node + sum_by (if_on (path node) (own node)) children ≤ if_on (path node) (own node) at
      by node less (inl same) =
          let first : only at node ≡ own node = ap (λ b. cond b (own node) 0) same.0 in
          let here = is_there (path node) (own node) at (ap (λ k. is_on at (path k)) same.1 ∙ itself) in
          let none = none_on (path node) (own node) children (λ child there. ap (λ k. is_on child (path k)) same.1 ∙ apart child there) in
          omega (arith, first, here, none)
      by node less (inr differ) =
          let first : only at node ≡ 0 = ap (λ b. cond b (own node) 0) differ.0 in
          let rest = one_on (path node) (own node) at children distinct (λ child other. one node child other less) (λ child. up node child less) in
          omega (arith, first, rest)
