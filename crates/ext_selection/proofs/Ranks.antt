-- How deep each node stands, and the order that ranks make.
use Rattle.std.proofs.Common.{◌≡◌, ℕ, zero, suc, ◌+◌, ◌*◌, ◌^◌, ◌<◌, ◌≤◌, Bool, true, false, cond, ltb, List, [], ◌∷◌, ◌++◌, length, map, get_or, Some, refl, sym, ap, ◌∙◌, subst, ⊎_elim, arith, All}
use Rattle.std.specs.Prelude.{slice_get, slice_index}
use Rattle.std.specs.List.Sorted.{IsNonDecreasingBy}
use Rattle.std.proofs.lemmas.Bool.{cases_eq, cases_lt, lt-ltb, ltb-true}
use Rattle.std.proofs.lemmas.List.{get_or_append_left, get_or_push, length-append}
use Rattle.std.proofs.lemmas.List.Elements.{All-get_or}
use Rattle.std.proofs.lemmas.Option.{slice_get_within, get_or_from_slice_get}
use Rattle.ext_selection.specs.Nodes.{node_at, StandsIn, AreBeside}
use Rattle.ext_selection.specs.Shuffling.{ComesFirst, IsOrder}
use Rattle.ext_selection.specs.InnerRanks.{AreDepths, IsRank, number_of}
use Rattle.ext_selection.specs.declared.nodes.Node.{Node}
use Rattle.ext_selection.specs.declared.rank.Rank.{Rank}

-- ---- depths

-- The depths of the first `i` nodes.
pub record AreDepthsBelow (nodes : List Node) (depths : List ℕ) (i : ℕ) : Type 0 where
  pub size : length depths ≡ i
  pub bound : (k : ℕ) → k < length depths → slice_index depths k ≤ k
  pub each : (j k : ℕ) → j < i → StandsIn nodes j k → slice_index depths j ≡ slice_index depths k + 1

pub depths_none : (nodes : List Node) (depths : List ℕ) → depths ≡ [] → AreDepthsBelow nodes depths 0
depths_none nodes depths e = record {
  size = ap length e;
  bound = λ k below. let size : length depths ≡ 0 = ap length e in absurd (omega arith);
  each = λ j k below stands. absurd (omega arith);
}

-- One node more.
pub depths_more : (nodes : List Node) (depths : List ℕ) (i above d : ℕ) → above ≡ (node_at nodes i).above
    → d ≡ cond (ltb above (length depths)) (slice_index depths above + 1) 0
    → AreDepthsBelow nodes depths i → AreDepthsBelow nodes (depths ++ d ∷ []) (i + 1)
depths_more nodes depths i above d named is h = record {
  size = let size = h.size in omega (arith, length-append depths (d ∷ []));
  bound = λ k below. ⊎_elim
      (λ (same : k ≡ i). let at : slice_index (depths ++ d ∷ []) k ≡ d = last k same in omega (arith, at, low, same))
      (λ (apart : k ≡ i → ⊥).
      let size = h.size in
      let within : k < length depths = omega (arith, length-append depths (d ∷ []), apart) in
      let old : slice_index (depths ++ d ∷ []) k ≡ slice_index depths k = earlier k within in
      omega (arith, old, h.bound k within))
      (cases_eq k i);
  each = λ j k below stands. ⊎_elim
      (λ (same : j ≡ i).
      let here : k ≡ above = sym stands.named ∙ ap (λ n. (node_at nodes n).above) same ∙ sym named in
      let size = h.size in
      let less : k < j = stands.before in
      let within : above < length depths = omega arith in
      last j same ∙ is ∙ ap (λ b. cond b (slice_index depths above + 1) 0) (lt-ltb above (length depths) within)
      ∙ ap (λ n. slice_index depths n + 1) (sym here) ∙ ap (λ n. n + 1) (sym (earlier k (omega arith))))
      (λ (apart : j ≡ i → ⊥).
      let size = h.size in
      let less : k < j = stands.before in
      let sooner : j < i = omega (arith, below, apart) in
      earlier j (omega arith) ∙ h.each j k sooner stands ∙ ap (λ n. n + 1) (sym (earlier k (omega arith))))
      (cases_eq j i);
}
  where
    earlier : (k : ℕ) → k < length depths → slice_index (depths ++ d ∷ []) k ≡ slice_index depths k
    earlier k within = get_or_append_left depths (d ∷ []) 0 k within

    last : (k : ℕ) → k ≡ i → slice_index (depths ++ d ∷ []) k ≡ d
    last k same = get_or_push depths d 0 k (h.size ∙ sym same)

    by_test : (b : Bool) → b ≡ ltb above (length depths) → cond b (slice_index depths above + 1) 0 ≤ i
    by_test true e =
        let within : above < length depths = ltb-true above (length depths) (sym e) in
        let size = h.size in omega (arith, h.bound above within)
    by_test false e = omega arith

    low : d ≤ i
    low = subst (λ n. n ≤ i) (sym is) (by_test (ltb above (length depths)) refl)

pub depths_all : (nodes : List Node) (depths : List ℕ) (n : ℕ) → length nodes ≤ n → AreDepthsBelow nodes depths n → AreDepths nodes depths
depths_all nodes depths n whole h = record {
  each = λ j k stands. let within : j < length nodes = stands.within in h.each j k (omega arith) stands;
}

-- ---- the order of ranks

-- The key of the node at an index.
abbrev key_of : List Node → (ℕ → ℕ) → List ℕ → ℕ → ℕ
key_of nodes numbers depths k = slice_index depths k * 2 ^ 64 + number_of nodes numbers k

-- The rank at this index of a list of ranks.
pub found : (ranks : List Rank) (a x : ℕ) → slice_get (map (λ rank. rank.index) ranks) a ≡ Some x
    → (rank : Rank) × (slice_get ranks a ≡ Some rank) × (rank.index ≡ x)
found [] a x e = absurd (cc e)
found (r ∷ ranks) zero x e = (r, refl, cc e)
found (r ∷ ranks) (suc a) x e = found ranks a x e

pub record Rising (nodes : List Node) (numbers : ℕ → ℕ) (depths : List ℕ) (ranks : List Rank) : Type 0 where
  pub each : All (IsRank nodes numbers depths) ranks
  pub up : IsNonDecreasingBy (λ rank. rank.key) ranks

pub rank_at : (P : Rank → Type 0) (ranks : List Rank) (a : ℕ) (rank : Rank) → All P ranks → slice_get ranks a ≡ Some rank → P rank
rank_at P ranks a rank all e =
    subst P (get_or_from_slice_get ranks a rank rank e) (All-get_or P ranks a rank (slice_get_within ranks a rank e) all)

-- A rank whose key is lower comes first.
pub lower_ranks : (ranks : List Rank) (a b : ℕ) (r s : Rank) → IsNonDecreasingBy (λ rank. rank.key) ranks
    → slice_get ranks a ≡ Some r → slice_get ranks b ≡ Some s → r.key < s.key → a < b
lower_ranks ranks a b r s up e f less = ⊎_elim
    (λ (before : a < b). before)
    (λ (past : b ≤ a).
    let within : a < length ranks = slice_get_within ranks a r e in
    let order : (get_or ranks b r).key ≤ (get_or ranks a r).key = up b a r past within in
    let first : (get_or ranks a r).key ≡ r.key = ap (λ t. t.key) (get_or_from_slice_get ranks a r r e) in
    let second : (get_or ranks b r).key ≡ s.key = ap (λ t. t.key) (get_or_from_slice_get ranks b s r f) in
    absurd (omega arith))
    (cases_lt a b)

-- A node whose key is lower comes first.
lower_first : (nodes : List Node) (numbers : ℕ → ℕ) (depths : List ℕ) (ranks : List Rank) (one other : ℕ)
    → Rising nodes numbers depths ranks
    → (number_of nodes numbers one < 2 ^ 64 → key_of nodes numbers depths one < key_of nodes numbers depths other)
    → ComesFirst (map (λ rank. rank.index) ranks) one other
lower_first nodes numbers depths ranks one other h lower a b e f =
    let first : (rank : Rank) × (slice_get ranks a ≡ Some rank) × (rank.index ≡ one) = found ranks a one e in
    let second : (rank : Rank) × (slice_get ranks b ≡ Some rank) × (rank.index ≡ other) = found ranks b other f in
    let r : IsRank nodes numbers depths first.0 = rank_at (IsRank nodes numbers depths) ranks a first.0 h.each first.1 in
    let s : IsRank nodes numbers depths second.0 = rank_at (IsRank nodes numbers depths) ranks b second.0 h.each second.1 in
    let small : number_of nodes numbers one < 2 ^ 64 = subst (λ k. number_of nodes numbers k < 2 ^ 64) first.2 r.small in
    let low : first.0.key ≡ key_of nodes numbers depths one = r.key ∙ ap (key_of nodes numbers depths) first.2 in
    let high : second.0.key ≡ key_of nodes numbers depths other = s.key ∙ ap (key_of nodes numbers depths) second.2 in
    let less : key_of nodes numbers depths one < key_of nodes numbers depths other = lower small in
    lower_ranks ranks a b first.0 second.0 h.up first.1 second.1 (omega (arith, low, high, less))

same_depth : (nodes : List Node) (depths : List ℕ) (one other : ℕ) → AreDepths nodes depths → AreBeside nodes one other
    → slice_index depths one ≡ slice_index depths other
same_depth nodes depths one other h beside =
    h.each one beside.outer beside.one_in ∙ sym (h.each other beside.outer beside.other_in)

in_turn_number : (nodes : List Node) (numbers : ℕ → ℕ) (k : ℕ) → (node_at nodes k).is_in_turn ≡ true → number_of nodes numbers k ≡ k
in_turn_number nodes numbers k is = ap (λ b. cond b k (numbers k)) is

drawn_number : (nodes : List Node) (numbers : ℕ → ℕ) (k : ℕ) → (node_at nodes k).is_in_turn ≡ false → number_of nodes numbers k ≡ numbers k
drawn_number nodes numbers k is = ap (λ b. cond b k (numbers k)) is

pub is_order : (nodes : List Node) (numbers : ℕ → ℕ) (depths : List ℕ) (ranks : List Rank) → AreDepths nodes depths
    → Rising nodes numbers depths ranks → IsOrder nodes numbers (map (λ rank. rank.index) ranks)
is_order nodes numbers depths ranks deep h = record {
  behind = λ inner outer stands. lower_first nodes numbers depths ranks outer inner h
      (λ small. deeper (slice_index depths outer) (slice_index depths inner) (number_of nodes numbers outer) (number_of nodes numbers inner)
      (deep.each inner outer stands) small);
  in_turn = λ one other beside first second less. lower_first nodes numbers depths ranks one other h
      (λ small. level (slice_index depths one) (slice_index depths other) (number_of nodes numbers one) (number_of nodes numbers other)
      (same_depth nodes depths one other deep beside)
      (let e = in_turn_number nodes numbers one first in let f = in_turn_number nodes numbers other second in omega (arith, e, f, less)));
  by_number = λ one other beside first second less. lower_first nodes numbers depths ranks one other h
      (λ small. level (slice_index depths one) (slice_index depths other) (number_of nodes numbers one) (number_of nodes numbers other)
      (same_depth nodes depths one other deep beside)
      (let e = drawn_number nodes numbers one first in let f = drawn_number nodes numbers other second in omega (arith, e, f, less)));
}
  where
    deeper : (d e m n : ℕ) → e ≡ d + 1 → m < 2 ^ 64 → d * 2 ^ 64 + m < e * 2 ^ 64 + n
    deeper d e m n is small = omega arith

    level : (d e m n : ℕ) → d ≡ e → m < n → d * 2 ^ 64 + m < e * 2 ^ 64 + n
    level d e m n same less = omega arith
