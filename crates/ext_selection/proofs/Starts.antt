-- Where nodes start when all that stands in one follows right behind it, and the order that the starts make.
use Rattle.std.proofs.Common.{◌≡◌, ℕ, zero, suc, ◌+◌, ◌*◌, ◌^◌, ◌<◌, ◌≤◌, Bool, true, false, cond, ltb, ◌&&◌, List, length, map, get_or, set, replicate, Option, Some, None, refl, sym, ap, ◌∙◌, subst, ⊎_elim, arith, All, get_or-set_same, get_or-set_other, length-set}
use Rattle.std.specs.Prelude.{slice_get, slice_index}
use Rattle.std.specs.List.Sorted.{IsNonDecreasingBy}
use Rattle.std.proofs.lemmas.Bool.{cases_eq, lt-ltb, ltb-true}
use Rattle.std.proofs.lemmas.Option.{slice_get_within}
use Rattle.std.proofs.lemmas.List.{length-replicate}
use Rattle.ext_selection.specs.Nodes.{node_at, StandsIn, AreBeside}
use Rattle.ext_selection.specs.Shuffling.{ComesFirst, IsOrder}
use Rattle.ext_selection.specs.InnerStarts.{outer_of, IsBehind, AreStarts, StartsAt, IsStartRank, IsRegrouped}
use Rattle.ext_selection.specs.declared.nodes.Node.{Node}
use Rattle.ext_selection.specs.declared.rank.Rank.{Rank}
use Rattle.ext_selection.proofs.Ranks.{found, rank_at, lower_ranks}

-- ---- the node that one stands in

test_both : (a b : Bool) (k : ℕ) (o : Option ℕ) → cond (a && b) (Some k) None ≡ o → (a ≡ true) → (b ≡ true) → o ≡ Some k
test_both true true k o e first second = sym e
test_both true false k o e first second = let clash : false ≡ true = second in cc
test_both false b k o e first second = let clash : false ≡ true = first in cc

test_some : (a b : Bool) (k j : ℕ) → cond (a && b) (Some k) None ≡ Some j → (a ≡ true) × (b ≡ true) × (k ≡ j)
test_some true true k j e = (refl, refl, cc)
test_some true false k j e = absurd (cc e)
test_some false b k j e = absurd (cc e)

outer_named : (nodes : List Node) (k outer : ℕ) → outer_of nodes k ≡ Some outer → StandsIn nodes k outer
outer_named nodes k outer e =
    let parts = test_some (ltb k (length nodes)) (ltb (node_at nodes k).above k) (node_at nodes k).above outer e in
    let below : (node_at nodes k).above < k = ltb-true (node_at nodes k).above k parts.1 in
    let same : (node_at nodes k).above ≡ outer = parts.2 in
    record { within = ltb-true k (length nodes) parts.0; before = omega (arith, below, same); named = same }

outer_is : (nodes : List Node) (k outer : ℕ) → StandsIn nodes k outer → outer_of nodes k ≡ Some outer
outer_is nodes k outer stands =
    let named : (node_at nodes k).above ≡ outer = stands.named in
    let before : outer < k = stands.before in
    test_both (ltb k (length nodes)) (ltb (node_at nodes k).above k) (node_at nodes k).above (outer_of nodes k) refl
    (lt-ltb k (length nodes) stands.within) (lt-ltb (node_at nodes k).above k (omega (arith, named, before)))
    ∙ ap Some named

-- ---- the starts

-- What is known once the first `i` nodes of the order have their starts.
pub record AreStartsBelow (nodes : List Node) (order starts ends : List ℕ) (i : ℕ) : Type 0 where
  pub starts_size : length starts ≡ length nodes
  pub ends_size : length ends ≡ length nodes
  pub behind : (inner outer a b : ℕ) → a < i → b < i → slice_get order a ≡ Some inner → slice_get order b ≡ Some outer
      → StandsIn nodes inner outer → slice_index starts outer ≤ slice_index starts inner
  pub beside : (one other a b : ℕ) → a < i → b < i → slice_get order a ≡ Some one → slice_get order b ≡ Some other
      → AreBeside nodes one other → ComesFirst order one other → slice_index starts one ≤ slice_index starts other
  pub under : (k outer a : ℕ) → a < i → slice_get order a ≡ Some k → StandsIn nodes k outer
      → slice_index starts k ≤ slice_index ends outer
  pub own : (k : ℕ) → slice_index starts k ≤ slice_index ends k

zeros : (n k : ℕ) → slice_index (replicate n 0) k ≡ 0
zeros zero k = refl
zeros (suc n) zero = refl
zeros (suc n) (suc k) = zeros n k

pub starts_none : (nodes : List Node) (order starts ends : List ℕ) → starts ≡ replicate (length nodes) 0
    → ends ≡ replicate (length nodes) 0 → AreStartsBelow nodes order starts ends 0
starts_none nodes order starts ends s e = record {
  starts_size = ap length s ∙ length-replicate (length nodes) 0;
  ends_size = ap length e ∙ length-replicate (length nodes) 0;
  behind = λ inner outer a b below. absurd (omega arith);
  beside = λ one other a b below. absurd (omega arith);
  under = λ k outer a below. absurd (omega arith);
  own = λ k. let first : slice_index starts k ≡ 0 = ap (λ t. slice_index t k) s ∙ zeros (length nodes) k in omega (arith, first);
}

pub starts_all : (nodes : List Node) (order starts ends : List ℕ) (n : ℕ) → length order ≤ n
    → AreStartsBelow nodes order starts ends n → AreStarts nodes order starts
starts_all nodes order starts ends n whole h = record {
  behind = λ inner outer a b e f stands. h.behind inner outer a b
      (let w = slice_get_within order a inner e in omega arith) (let w = slice_get_within order b outer f in omega arith) e f stands;
  beside = λ one other a b e f pair first. h.beside one other a b
      (let w = slice_get_within order a one e in omega arith) (let w = slice_get_within order b other f in omega arith) e f pair first;
}

-- A node that is not the one at `i` stands before it.
sooner : (order : List ℕ) (i z a x : ℕ) → slice_get order i ≡ Some z → slice_get order a ≡ Some x → (x ≡ z → ⊥) → a < i + 1 → a < i
sooner order i z a x at e apart below = ⊎_elim
    (λ (same : a ≡ i).
    let there : slice_get order i ≡ Some x = ap (slice_get order) (sym same) ∙ e in
    let one : x ≡ z = cc in absurd (apart one))
    (λ (other : a ≡ i → ⊥). omega (arith, other, below))
    (cases_eq a i)

-- A node that stands in none changes nothing.
pub starts_alone : (nodes : List Node) (order starts ends : List ℕ) (i z : ℕ) → IsBehind nodes order → slice_get order i ≡ Some z
    → outer_of nodes z ≡ None → AreStartsBelow nodes order starts ends i → AreStartsBelow nodes order starts ends (i + 1)
starts_alone nodes order starts ends i z level at alone h = record {
  starts_size = h.starts_size;
  ends_size = h.ends_size;
  behind = λ inner outer a b below next e f stands.
      let first : (inner ≡ z → ⊥) = λ same. nowhere inner outer same stands in
      let less : a < i = sooner order i z a inner at e first below in
      let second : (outer ≡ z → ⊥) = λ same. let late : i < a = level.each inner outer stands i a (at ∙ ap Some (sym same)) e in omega arith in
      h.behind inner outer a b less (sooner order i z b outer at f second next) e f stands;
  beside = λ one other a b below next e f pair first.
      h.beside one other a b
      (sooner order i z a one at e (λ same. nowhere one pair.outer same pair.one_in) below)
      (sooner order i z b other at f (λ same. nowhere other pair.outer same pair.other_in) next) e f pair first;
  under = λ k outer a below e stands.
      h.under k outer a (sooner order i z a k at e (λ same. nowhere k outer same stands) below) e stands;
  own = h.own;
}
  where
    nowhere : (k outer : ℕ) → k ≡ z → StandsIn nodes k outer → ⊥
    nowhere k outer same stands =
        let some : outer_of nodes z ≡ Some outer = ap (outer_of nodes) (sym same) ∙ outer_is nodes k outer stands in
        let clash : None ≡ Some outer = sym alone ∙ some in cc

number_set : (xs : List ℕ) (at k n : ℕ) → at < length xs → k ≡ at → slice_index (set xs at n) k ≡ n
number_set xs at k n fits same = ap (λ i. get_or (set xs at n) i 0) same ∙ get_or-set_same xs at n 0 fits

number_other : (xs : List ℕ) (at k n : ℕ) → (k ≡ at → ⊥) → slice_index (set xs at n) k ≡ slice_index xs k
number_other xs at k n other = get_or-set_other xs at k n 0 other

-- What a node that starts changes.
pub record IsStarted (starts ends starts' ends' : List ℕ) (z o : ℕ) : Type 0 where
  pub starts_size : length starts' ≡ length starts
  pub ends_size : length ends' ≡ length ends
  pub here : slice_index starts' z ≡ slice_index ends o
  pub kept : (k : ℕ) → (k ≡ z → ⊥) → slice_index starts' k ≡ slice_index starts k
  pub end : slice_index ends' z ≡ slice_index ends o
  pub grown : (k : ℕ) → (k ≡ z → ⊥) → slice_index ends k ≤ slice_index ends' k

is_started : (starts ends : List ℕ) (z o end : ℕ) → o < z → z < length starts → z < length ends → slice_index ends o ≤ end
    → IsStarted starts ends (set starts z (slice_index ends o)) (set (set ends z (slice_index ends o)) o end) z o
is_started starts ends z o end before fits room rises =
    let start : ℕ = slice_index ends o in
    let once : List ℕ = set ends z start in
    let o_fits : o < length once = omega (arith, length-set ends z start) in
    record {
      starts_size = length-set starts z start;
      ends_size = length-set once o end ∙ length-set ends z start;
      here = number_set starts z z start fits refl;
      kept = λ k apart. number_other starts z k start apart;
      end = number_other once o z end (λ (clash : z ≡ o). omega arith) ∙ number_set ends z z start room refl;
      grown = λ k apart. ⊎_elim
          (λ (same : k ≡ o).
          let last : slice_index (set once o end) k ≡ end = number_set once o k end o_fits same in
          let first : slice_index ends k ≡ start = ap (slice_index ends) same in
          omega (arith, last, first, rises))
          (λ (other : k ≡ o → ⊥).
          let last : slice_index (set once o end) k ≡ slice_index ends k =
          number_other once o k end other ∙ number_other ends z k start apart in
          omega (arith, last))
          (cases_eq k o);
    }

-- A node starts where the last one beside it ended.
starts_inside : (nodes : List Node) (order starts ends starts' ends' : List ℕ) (i z o : ℕ) → IsBehind nodes order
    → slice_get order i ≡ Some z → StandsIn nodes z o → IsStarted starts ends starts' ends' z o
    → AreStartsBelow nodes order starts ends i → AreStartsBelow nodes order starts' ends' (i + 1)
starts_inside nodes order starts ends starts' ends' i z o level at inside m h = record {
  starts_size = m.starts_size ∙ h.starts_size;
  ends_size = m.ends_size ∙ h.ends_size;
  behind = λ inner outer a b below next e f stands. ⊎_elim
      (λ (same : inner ≡ z).
      let up : outer ≡ o = only inner outer same stands in
      let less : outer < inner = stands.before in
      let old : slice_index starts' outer ≡ slice_index starts outer = m.kept outer (λ (clash : outer ≡ z). omega arith) in
      let held : slice_index starts outer ≤ slice_index ends o = subst (λ n. slice_index starts outer ≤ slice_index ends n) up (h.own outer) in
      let started : slice_index starts' inner ≡ slice_index ends o = here inner same in omega (arith, old, held, started))
      (λ (apart : inner ≡ z → ⊥).
      let second : (outer ≡ z → ⊥) = λ (same : outer ≡ z). late inner outer a stands e same below apart in
      let old : slice_index starts' outer ≡ slice_index starts outer = m.kept outer second in
      let old_in : slice_index starts' inner ≡ slice_index starts inner = m.kept inner apart in
      let was = h.behind inner outer a b (sooner order i z a inner at e apart below) (sooner order i z b outer at f second next) e f stands in
      omega (arith, old, old_in, was))
      (cases_eq inner z);
  beside = λ one other a b below next e f pair first. ⊎_elim
      (λ (same : other ≡ z). ⊎_elim
      (λ (twice : one ≡ z).
      let equal : slice_index starts' one ≡ slice_index starts' other = ap (slice_index starts') (twice ∙ sym same) in
      omega (arith, equal))
      (λ (apart : one ≡ z → ⊥).
      let up : pair.outer ≡ o = only other pair.outer same pair.other_in in
      let held : slice_index starts one ≤ slice_index ends o = subst (λ n. slice_index starts one ≤ slice_index ends n) up
      (h.under one pair.outer a (sooner order i z a one at e apart below) e pair.one_in) in
      let old : slice_index starts' one ≡ slice_index starts one = m.kept one apart in
      let started : slice_index starts' other ≡ slice_index ends o = here other same in omega (arith, old, held, started))
      (cases_eq one z))
      (λ (apart : other ≡ z → ⊥).
      let sooner_other : b < i = sooner order i z b other at f apart next in
      let second : (one ≡ z → ⊥) = λ (same : one ≡ z).
      let past : i < b = first i b (at ∙ ap Some (sym same)) f in omega arith in
      let old : slice_index starts' one ≡ slice_index starts one = m.kept one second in
      let old_other : slice_index starts' other ≡ slice_index starts other = m.kept other apart in
      let was = h.beside one other a b (sooner order i z a one at e second below) sooner_other e f pair first in
      omega (arith, old, old_other, was))
      (cases_eq other z);
  under = λ k outer a below e stands. ⊎_elim
      (λ (same : k ≡ z).
      let up : outer ≡ o = only k outer same stands in
      let less : outer < k = stands.before in
      let started : slice_index starts' k ≡ slice_index ends o = here k same in
      let was : slice_index ends outer ≡ slice_index ends o = ap (slice_index ends) up in
      omega (arith, started, was, m.grown outer (λ (clash : outer ≡ z). omega arith)))
      (λ (apart : k ≡ z → ⊥).
      let second : (outer ≡ z → ⊥) = λ (same : outer ≡ z). late k outer a stands e same below apart in
      let old : slice_index starts' k ≡ slice_index starts k = m.kept k apart in
      let was = h.under k outer a (sooner order i z a k at e apart below) e stands in
      omega (arith, old, was, m.grown outer second))
      (cases_eq k z);
  own = λ k. ⊎_elim
      (λ (same : k ≡ z).
      let started : slice_index starts' k ≡ slice_index ends o = here k same in
      let last : slice_index ends' k ≡ slice_index ends o = ap (slice_index ends') same ∙ m.end in
      omega (arith, started, last))
      (λ (apart : k ≡ z → ⊥).
      let old : slice_index starts' k ≡ slice_index starts k = m.kept k apart in omega (arith, old, h.own k, m.grown k apart))
      (cases_eq k z);
}
  where
    here : (k : ℕ) → k ≡ z → slice_index starts' k ≡ slice_index ends o
    here k same = ap (slice_index starts') same ∙ m.here

    only : (k outer : ℕ) → k ≡ z → StandsIn nodes k outer → outer ≡ o
    only k outer same stands = sym stands.named ∙ ap (λ n. (node_at nodes n).above) same ∙ inside.named

    late : (k outer a : ℕ) → StandsIn nodes k outer → slice_get order a ≡ Some k → outer ≡ z → a < i + 1 → (k ≡ z → ⊥) → ⊥
    late k outer a stands e same below apart =
        let past : i < a = level.each k outer stands i a (at ∙ ap Some (sym same)) e in
        let less : a < i = sooner order i z a k at e apart below in omega arith

-- One node of the order more.
pub starts_more : (nodes : List Node) (order starts ends starts' ends' : List ℕ) (i z : ℕ) → IsBehind nodes order
    → slice_get order i ≡ Some z → StartsAt (outer_of nodes z) z starts ends starts' ends'
    → AreStartsBelow nodes order starts ends i → AreStartsBelow nodes order starts' ends' (i + 1)
starts_more nodes order starts ends starts' ends' i z level at change h = by_outer (outer_of nodes z) refl change
  where
    by_outer : (outer : Option ℕ) → outer_of nodes z ≡ outer → StartsAt outer z starts ends starts' ends'
        → AreStartsBelow nodes order starts' ends' (i + 1)
    by_outer None e c =
        subst (λ s. AreStartsBelow nodes order s ends' (i + 1)) (sym c.0)
        (subst (λ t. AreStartsBelow nodes order starts t (i + 1)) (sym c.1)
        (starts_alone nodes order starts ends i z level at e h))
    by_outer (Some o) e c =
        let inside : StandsIn nodes z o = outer_named nodes z o e in
        let within : z < length nodes = inside.within in
        let made : IsStarted starts ends (set starts z (slice_index ends o)) (set (set ends z (slice_index ends o)) o c.1.0) z o =
        is_started starts ends z o c.1.0 inside.before (let s = h.starts_size in omega arith) (let s = h.ends_size in omega arith) c.1.1 in
        let first : IsStarted starts ends starts' (set (set ends z (slice_index ends o)) o c.1.0) z o =
        subst (λ s. IsStarted starts ends s (set (set ends z (slice_index ends o)) o c.1.0) z o) (sym c.0) made in
        starts_inside nodes order starts ends starts' ends' i z o level at inside
        (subst (λ t. IsStarted starts ends starts' t z o) (sym c.1.2) first) h

-- ---- the order that the starts make

-- Sorted by their starts, and within one start by their indices in the order, those that come first and start no later
-- still come first.
pub regrouped_is : (order starts : List ℕ) (ranks : List Rank) → All (IsStartRank order starts) ranks
    → IsNonDecreasingBy (λ rank. rank.key) ranks → IsRegrouped order starts (map (λ rank. rank.index) ranks)
regrouped_is order starts ranks all up = record {
  each = λ one other first sooner_start a b e f.
      let r : (rank : Rank) × (slice_get ranks a ≡ Some rank) × (rank.index ≡ one) = found ranks a one e in
      let s : (rank : Rank) × (slice_get ranks b ≡ Some rank) × (rank.index ≡ other) = found ranks b other f in
      let p : IsStartRank order starts r.0 = rank_at (IsStartRank order starts) ranks a r.0 all r.1 in
      let q : IsStartRank order starts s.0 = rank_at (IsStartRank order starts) ranks b s.0 all s.1 in
      let e' : slice_get order p.at ≡ Some one = p.there ∙ ap Some r.2 in
      let f' : slice_get order q.at ≡ Some other = q.there ∙ ap Some s.2 in
      let before : p.at < q.at = first p.at q.at e' f' in
      let no_later : slice_index starts one ≤ slice_index starts other = sooner_start p.at q.at e' f' in
      let low : r.0.key ≡ slice_index starts one * 2 ^ 64 + p.at = p.key ∙ ap (λ k. slice_index starts k * 2 ^ 64 + p.at) r.2 in
      let high : s.0.key ≡ slice_index starts other * 2 ^ 64 + q.at = q.key ∙ ap (λ k. slice_index starts k * 2 ^ 64 + q.at) s.2 in
      lower_ranks ranks a b r.0 s.0 up r.1 s.1 (omega (arith, low, high, before, no_later));
}

-- An order that keeps what comes first is one still.
pub order_again : (nodes : List Node) (numbers : ℕ → ℕ) (order starts regrouped : List ℕ) → IsOrder nodes numbers order
    → AreStarts nodes order starts → IsRegrouped order starts regrouped → IsOrder nodes numbers regrouped
order_again nodes numbers order starts regrouped h s g = record {
  behind = λ inner outer stands. g.each outer inner (h.behind inner outer stands)
      (λ a b e f. s.behind inner outer b a f e stands);
  in_turn = λ one other pair x y less. g.each one other (h.in_turn one other pair x y less)
      (λ a b e f. s.beside one other a b e f pair (h.in_turn one other pair x y less));
  by_number = λ one other pair x y less. g.each one other (h.by_number one other pair x y less)
      (λ a b e f. s.beside one other a b e f pair (h.by_number one other pair x y less));
}
