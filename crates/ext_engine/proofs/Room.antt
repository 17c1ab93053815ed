-- How much room takes what ran of a node: of each context at or below it there is a closer, and it ran once at most.
use Rattle.std.proofs.Common.{◌≡◌, ◌≤◌, inl, inr, ℕ, List, [], ◌∷◌, ◌++◌, length, length-append, ap, sym, subst, arith}
use Rattle.std.specs.Prelude.{Contains}
use Rattle.std.proofs.lemmas.List.{length-map}
use Rattle.std.proofs.lemmas.List.Elements.{Contains-append_cases, Contains-append_left, Contains-append_right}
use Rattle.ext_history.proofs.Lists.{contains_none, contains_here, contains_later, contains_cons}
use Rattle.ext_history.proofs.Once.{Once}
use Rattle.ext_tree.specs.Trees.{Id, IsTree, IsWalk}
use Rattle.ext_engine.specs.declared.node.closers.Item.{Item}
use Rattle.ext_engine.specs.InnerClosers.{IsNode, IsWithin, contexts}
use Rattle.ext_engine.specs.RunLaws.{nodes_of}
use Rattle.ext_engine.specs.TreeRun.{Ran, TreeSetting, Lanes, IsRunnable, TreeRun}
use Rattle.ext_engine.proofs.Above.{Under, at_or_below, within_tree}
use Rattle.ext_engine.proofs.Grown.{node_under, ran_once}
use Rattle.ext_engine.proofs.GrownRuns.{grown}
use Rattle.ext_engine.proofs.Within.{below-child, within-self}

-- what stands before and behind one place of an element
split : (ys : List ℕ) (x : ℕ) → Contains ys x → (front : List ℕ) × (rest : List ℕ) × (ys ≡ front ++ x ∷ rest)
split [] x there = absurd (contains_none x there)
split (y ∷ ys) x there = elim (contains_cons y ys x there) [
  | inl same ↦ ([], ys, ap (λ z. z ∷ ys) same)
  | inr later ↦ let r = split ys x later in (y ∷ r.0, r.1, ap (λ l. y ∷ l) r.2)
]

-- where nothing stands twice, and all stands in another list, that is as long at least
fewer : (xs ys : List ℕ) → Once xs → ((x : ℕ) → Contains xs x → Contains ys x) → length xs ≤ length ys
fewer [] ys once each = omega arith
fewer (x ∷ xs) ys once each =
    let s = split ys x (each x (contains_here x xs)) in
    let others : (y : ℕ) → Contains xs y → Contains (s.0 ++ s.1) y = λ y there.
    elim (Contains-append_cases s.0 (x ∷ s.1) y (subst (λ l. Contains l y) s.2 (each y (contains_later x xs y there)))) [
      | inl left ↦ Contains-append_left s.0 s.1 y left
      | inr right ↦ elim (contains_cons x s.1 y right) [
        | inl same ↦ absurd (once.0 (subst (Contains xs) (sym same) there))
        | inr later ↦ Contains-append_right s.0 s.1 y later
      ]
    ] in
    let less = fewer xs (s.0 ++ s.1) once.1 others in
    let a = ap length s.2 in let b = length-append s.0 (x ∷ s.1) in let c = length-append s.0 s.1 in
    omega (arith, less, a, b, c)

-- what is on the walk of a context has it within
within_up : (ids : List Id) (walk : List ℕ) (c k top : ℕ) → IsWalk ids c walk → IsWithin ids c k → Contains (c ∷ walk) top → IsWithin ids top k
within_up ids [] c k top walks within there = elim (contains_cons c [] top there) [
  | inl same ↦ subst (λ x. IsWithin ids x k) same within
  | inr none ↦ absurd (contains_none top none)
]
within_up ids (p ∷ rest) c k top walks within there = elim (contains_cons c (p ∷ rest) top there) [
  | inl same ↦ subst (λ x. IsWithin ids x k) same within
  | inr later ↦ within_up ids rest p k top walks.1 (below-child ids p c k walks.0 within).0 later
]

under_within : (ids : List Id) (top node : ℕ) → Under ids top node → IsWithin ids top node
under_within ids top node u = within_up ids u.walk node node top u.is_walk (within-self ids node) u.on_walk

pub room : {V A : Type 0} (t : TreeSetting V A) → IsTree t.store.tree → IsRunnable t.store t.locks t.suite → (depth levels : ℕ) (item : Item) (s : Lanes V) (ran : List Ran) (u : Lanes V)
    → IsNode t.store levels item → TreeRun t depth item.node s ran u → length ran ≤ length item.closers.items
room t tree runnable depth levels item s ran u own run =
    let ids = t.store.tree in
    let g = grown t tree runnable depth item.node s ran u run in
    let each : (k : ℕ) → Contains (nodes_of ran) k → Contains (contexts item.closers.items) k = λ k has. (
    let below = node_under ids t.suite t.enabled_gives tree depth item.node ran g k has in
    let path = at_or_below ids item.node k below in
    own.closers.each k (within_tree ids k path.path tree path.path_is) (under_within ids item.node k below)
    ) in
    let few = fewer (nodes_of ran) (contexts item.closers.items) (ran_once ids t.suite t.enabled_gives tree depth item.node ran g) each in
    let a = length-map ran (λ r. r.result.node) in
    let b = length-map item.closers.items (λ c. c.context) in
    omega (arith, few, a, b)
