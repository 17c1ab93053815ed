-- Which nodes are kept, as they are marked from the last one to the first.
use Rattle.std.proofs.Common.{◌≡◌, ◌⊎◌, ◌↔◌, ℕ, zero, suc, ◌+◌, ◌-◌, ◌<◌, ◌≤◌, Bool, true, false, cond, ltb, ◌&&◌, not, List, length, set, get_or, replicate, refl, sym, ap, ◌∙◌, subst, inl, inr, ⊎_elim, arith, get_or-set_same, get_or-set_other, length-set}
use Rattle.std.proofs.lemmas.Bool.{cases_eq, ltb-true, ltb-false}
use Rattle.ext_selection.specs.Nodes.{node_at, StandsIn}
use Rattle.ext_selection.specs.Selection.{flag_at, IsTest, AreKept}
use Rattle.ext_selection.specs.InnerKeeping.{AreHolders, kept_by, marked}
use Rattle.ext_selection.specs.declared.nodes.Node.{Node}

-- ---- which nodes another stands in

-- The marked nodes are those that one of the first `i` nodes stands in.
pub record HoldsBelow (nodes : List Node) (flags : List Bool) (i : ℕ) : Type 0 where
  pub to : (k : ℕ) → flag_at flags k ≡ true → (j : ℕ) × (j < i) × StandsIn nodes j k
  pub back : (j k : ℕ) → j < i → StandsIn nodes j k → flag_at flags k ≡ true

pub holds_none : (nodes : List Node) (flags : List Bool) → ((k : ℕ) → flag_at flags k ≡ false) → HoldsBelow nodes flags 0
holds_none nodes flags clear = record {
  to = λ k is. let clash : flag_at flags k ≡ false = clear k in cc;
  back = λ j k below stands. absurd (omega arith);
}

-- A flag that is set stays, and the one at its index is.
flag_set : (flags : List Bool) (at k : ℕ) (b : Bool) → at < length flags → k ≡ at → flag_at (set flags at b) k ≡ b
flag_set flags at k b fits same = ap (λ i. get_or (set flags at b) i false) same ∙ get_or-set_same flags at b false fits

flag_other : (flags : List Bool) (at k : ℕ) (b : Bool) → (k ≡ at → ⊥) → flag_at (set flags at b) k ≡ flag_at flags k
flag_other flags at k b other = get_or-set_other flags at k b false other

pub holds_more : (nodes : List Node) (flags : List Bool) (i above : ℕ) → i < length nodes
    → (node_at nodes i).above ≡ above → above < i → above < length flags
    → HoldsBelow nodes flags i → HoldsBelow nodes (set flags above true) (i + 1)
holds_more nodes flags i above within named before fits h = record {
  to = λ k is. ⊎_elim
      (λ (same : k ≡ above). (i, omega arith, record { within = within; before = omega arith; named = named ∙ sym same }))
      (λ (other : k ≡ above → ⊥).
      let found : (j : ℕ) × (j < i) × StandsIn nodes j k = h.to k (sym (flag_other flags above k true other) ∙ is) in
      (found.0, omega (arith, found.1), found.2))
      (cases_eq k above);
  back = λ j k below stands. ⊎_elim
      (λ (same : k ≡ above). flag_set flags above k true fits same)
      (λ (other : k ≡ above → ⊥).
      flag_other flags above k true other
      ∙ h.back j k (⊎_elim (λ (same : j ≡ i). absurd (other (sym stands.named ∙ ap (λ n. (node_at nodes n).above) same ∙ named))) (λ (apart : j ≡ i → ⊥). omega (arith, below, apart)) (cases_eq j i)) stands)
      (cases_eq k above);
}

-- A node that names none before it.
pub holds_same : (nodes : List Node) (flags : List Bool) (i above : ℕ) → (node_at nodes i).above ≡ above → i ≤ above
    → HoldsBelow nodes flags i → HoldsBelow nodes flags (i + 1)
holds_same nodes flags i above named past h = record {
  to = λ k is. let found : (j : ℕ) × (j < i) × StandsIn nodes j k = h.to k is in (found.0, omega (arith, found.1), found.2);
  back = λ j k below stands. h.back j k
      (⊎_elim (λ (same : j ≡ i).
      let at : (node_at nodes i).above ≡ k = ap (λ n. (node_at nodes n).above) (sym same) ∙ stands.named in
      let less : k < j = stands.before in
      absurd (omega arith))
      (λ (apart : j ≡ i → ⊥). omega (arith, below, apart)) (cases_eq j i))
      stands;
}

pub holds_all : (nodes : List Node) (flags : List Bool) (n : ℕ) → length nodes ≤ n → HoldsBelow nodes flags n → AreHolders nodes flags
holds_all nodes flags n whole h = record {
  each = λ k. (
    λ is. let found : (j : ℕ) × (j < n) × StandsIn nodes j k = h.to k is in (found.0, found.2),
    λ some. h.back some.0 k (let within : some.0 < length nodes = some.1.within in omega arith) some.1,
  );
}

-- ---- which nodes are kept

-- The nodes from `i` on are settled, and those before it are marked if a kept one stands in them.
pub record IsSettled (nodes : List Node) (wanted : List Bool) (kept : List Bool) (i : ℕ) : Type 0 where
  pub tests : (k : ℕ) → i ≤ k → k < length nodes → IsTest nodes k → flag_at kept k ≡ flag_at wanted k
  pub to : (k : ℕ) → k < length nodes → (k < i) ⊎ (IsTest nodes k → ⊥) → flag_at kept k ≡ true
      → (j : ℕ) × (i ≤ j) × (flag_at kept j ≡ true) × StandsIn nodes j k
  pub back : (j k : ℕ) → k < length nodes → (k < i) ⊎ (IsTest nodes k → ⊥) → i ≤ j → flag_at kept j ≡ true
      → StandsIn nodes j k → flag_at kept k ≡ true

pub settled_none : (nodes : List Node) (wanted kept : List Bool) (i : ℕ) → length nodes ≤ i → ((k : ℕ) → flag_at kept k ≡ false)
    → IsSettled nodes wanted kept i
settled_none nodes wanted kept i past clear = record {
  tests = λ k from within test. absurd (omega arith);
  to = λ k within free is. let clash : flag_at kept k ≡ false = clear k in cc;
  back = λ j k within free from is stands. let clash : flag_at kept j ≡ false = clear j in cc;
}

pub settled_all : (nodes : List Node) (wanted kept : List Bool) → IsSettled nodes wanted kept 0 → AreKept nodes wanted (flag_at kept)
settled_all nodes wanted kept h = record {
  tests = λ k within test. h.tests k (omega arith) within test;
  containers = λ k within container. (
    λ is. let found : (j : ℕ) × (0 ≤ j) × (flag_at kept j ≡ true) × StandsIn nodes j k = h.to k within (inr container) is in
        (found.0, found.2, found.3),
    λ some. h.back some.0 k within (inr container) (omega arith) some.1 some.2,
  );
}

-- What `marked` leaves at each index.
pub record IsMarked (before after : List Bool) (index above : ℕ) (is_kept : Bool) : Type 0 where
  pub here : flag_at after index ≡ is_kept
  pub later : (k : ℕ) → index < k → flag_at after k ≡ flag_at before k
  pub others : (k : ℕ) → (k ≡ index → ⊥)
      → (flag_at after k ≡ flag_at before k) ⊎ ((is_kept ≡ true) × (k ≡ above) × (above < index))
  pub stays : (k : ℕ) → (k ≡ index → ⊥) → flag_at before k ≡ true → flag_at after k ≡ true
  pub up : is_kept ≡ true → above < index → flag_at after above ≡ true

-- Only the node's own mark is written.
marked_alone : (flags : List Bool) (index above : ℕ) (b : Bool) → index < length flags → (b ≡ true → above < index → ⊥)
    → IsMarked flags (set flags index b) index above b
marked_alone flags index above b fits alone = record {
  here = flag_set flags index index b fits refl;
  later = λ k after. flag_other flags index k b (λ (same : k ≡ index). omega arith);
  others = λ k apart. inl (flag_other flags index k b apart);
  stays = λ k apart is. flag_other flags index k b apart ∙ is;
  up = λ is less. absurd (alone is less);
}

marked_up : (flags : List Bool) (index above : ℕ) → index < length flags → above < index
    → IsMarked flags (set (set flags index true) above true) index above true
marked_up flags index above fits less =
    let once : List Bool = set flags index true in
    let size : above < length once = omega (arith, length-set {A = Bool}) in
    record {
      here = flag_other once above index true (λ (same : index ≡ above). omega arith) ∙ flag_set flags index index true fits refl;
      later = λ k after. flag_other once above k true (λ (same : k ≡ above). omega arith)
          ∙ flag_other flags index k true (λ (same : k ≡ index). omega arith);
      others = λ k apart. ⊎_elim
          (λ (same : k ≡ above). inr (refl, same, less))
          (λ (other : k ≡ above → ⊥). inl (flag_other once above k true other ∙ flag_other flags index k true apart))
          (cases_eq k above);
      stays = λ k apart is. ⊎_elim
          (λ (same : k ≡ above). flag_set once above k true size same)
          (λ (other : k ≡ above → ⊥). flag_other once above k true other ∙ flag_other flags index k true apart ∙ is)
          (cases_eq k above);
      up = λ is below. flag_set once above above true size refl;
    }

marked_cases : (flags : List Bool) (index above : ℕ) (b less : Bool) → index < length flags
    → (less ≡ true → above < index) → (less ≡ false → above < index → ⊥)
    → IsMarked flags (cond (b && less) (set (set flags index b) above true) (set flags index b)) index above b
marked_cases flags index above true true fits up past = marked_up flags index above fits (up refl)
marked_cases flags index above true false fits up past = marked_alone flags index above true fits (λ is. past refl)
marked_cases flags index above false less fits up past =
    marked_alone flags index above false fits (λ is. let same : false ≡ true = is in cc)

-- The marks once a node is settled, as the code writes them.
pub marked_is : (flags : List Bool) (index above : ℕ) (b : Bool) → index < length flags
    → IsMarked flags (marked flags index above b) index above b
marked_is flags index above b fits = marked_cases flags index above b (ltb above index) fits
    (λ is. ltb-true above index is) (λ is less. let past : index ≤ above = ltb-false above index is in omega arith)

-- A node is settled: by its own wish if it is a test, and else by the mark that those in it left.
pub settled_more : (nodes : List Node) (wanted before after : List Bool) (index above : ℕ) (is_kept : Bool)
    → index < length nodes → (node_at nodes index).above ≡ above
    → (IsTest nodes index × (is_kept ≡ flag_at wanted index))
    ⊎ ((IsTest nodes index → ⊥) × (is_kept ≡ flag_at before index))
    → IsMarked before after index above is_kept
    → IsSettled nodes wanted before (index + 1) → IsSettled nodes wanted after index
settled_more nodes wanted before after index above is_kept within named choice m h = record {
  tests = λ k from below test. ⊎_elim
      (λ (same : k ≡ index). ⊎_elim
      (λ (own : IsTest nodes index × (is_kept ≡ flag_at wanted index)).
      ap (flag_at after) same ∙ m.here ∙ own.1 ∙ ap (flag_at wanted) (sym same))
      (λ (not_own : (IsTest nodes index → ⊥) × (is_kept ≡ flag_at before index)).
      absurd (not_own.0 (subst (IsTest nodes) same test)))
      choice)
      (λ (apart : k ≡ index → ⊥). m.later k (omega (arith, apart)) ∙ h.tests k (omega (arith, apart)) below test)
      (cases_eq k index);
  to = λ k below free is. ⊎_elim
      (λ (same : k ≡ index). to_here k same below free is)
      (λ (apart : k ≡ index → ⊥). ⊎_elim
      (λ (kept_so : flag_at after k ≡ flag_at before k). found k (h.to k below (wider k free) (sym kept_so ∙ is)))
      (λ (up : (is_kept ≡ true) × (k ≡ above) × (above < index)). (
        index,
        omega arith,
        m.here ∙ up.0,
        record { within = within; before = omega (arith, up.1, up.2); named = named ∙ sym up.1 },
      ))
      (m.others k apart))
      (cases_eq k index);
  back = λ j k below free from is stands. ⊎_elim
      (λ (same : j ≡ index).
      let kept_here : is_kept ≡ true = sym m.here ∙ ap (flag_at after) (sym same) ∙ is in
      let at : above ≡ k = sym named ∙ ap (λ n. (node_at nodes n).above) (sym same) ∙ stands.named in
      let less : k < j = stands.before in
      ap (flag_at after) (sym at) ∙ m.up kept_here (omega arith))
      (λ (apart : j ≡ index → ⊥).
      let later : index < j = omega (arith, apart) in
      let was : flag_at before k ≡ true = h.back j k below (wider k free) (omega arith) (sym (m.later j later) ∙ is) stands in
      ⊎_elim
      (λ (same : k ≡ index). ap (flag_at after) same ∙ m.here ∙ here_is k same free was)
      (λ (other : k ≡ index → ⊥). m.stays k other was)
      (cases_eq k index))
      (cases_eq j index);
}
  where
    wider : (k : ℕ) → (k < index) ⊎ (IsTest nodes k → ⊥) → (k < index + 1) ⊎ (IsTest nodes k → ⊥)
    wider k free = ⊎_elim (λ (less : k < index). inl (omega arith)) (λ (isnt : IsTest nodes k → ⊥). inr isnt) free

    found : (k : ℕ) → (j : ℕ) × (index + 1 ≤ j) × (flag_at before j ≡ true) × StandsIn nodes j k
        → (j : ℕ) × (index ≤ j) × (flag_at after j ≡ true) × StandsIn nodes j k
    found k f = (f.0, omega (arith, f.1), m.later f.0 (omega (arith, f.1)) ∙ f.2, f.3)

    own_mark : (k : ℕ) → k ≡ index → (k < index) ⊎ (IsTest nodes k → ⊥) → is_kept ≡ flag_at before index
    own_mark k same free = ⊎_elim
        (λ (own : IsTest nodes index × (is_kept ≡ flag_at wanted index)). ⊎_elim
        (λ (less : k < index). absurd (omega arith))
        (λ (isnt : IsTest nodes k → ⊥). absurd (isnt (subst (IsTest nodes) (sym same) own.0)))
        free)
        (λ (not_own : (IsTest nodes index → ⊥) × (is_kept ≡ flag_at before index)). not_own.1)
        choice

    here_is : (k : ℕ) → k ≡ index → (k < index) ⊎ (IsTest nodes k → ⊥) → flag_at before k ≡ true → is_kept ≡ true
    here_is k same free was = own_mark k same free ∙ ap (flag_at before) (sym same) ∙ was

    to_here : (k : ℕ) → k ≡ index → k < length nodes → (k < index) ⊎ (IsTest nodes k → ⊥) → flag_at after k ≡ true
        → (j : ℕ) × (index ≤ j) × (flag_at after j ≡ true) × StandsIn nodes j k
    to_here k same below free is = found k (h.to k below (wider k free)
        (ap (flag_at before) same ∙ sym (own_mark k same free) ∙ sym m.here ∙ ap (flag_at after) (sym same) ∙ is))

-- ---- one step of each loop

-- The tests are those nodes that are given something and that no node stands in.
wish : (nodes : List Node) (wanted before : List Bool) (index : ℕ) (given holder is_kept : Bool)
    → (node_at nodes index).is_test ≡ given → (holder ≡ true ↔ ((j : ℕ) × StandsIn nodes j index))
    → is_kept ≡ cond (given && not holder) (flag_at wanted index) (flag_at before index)
    → (IsTest nodes index × (is_kept ≡ flag_at wanted index)) ⊎ ((IsTest nodes index → ⊥) × (is_kept ≡ flag_at before index))
wish nodes wanted before index true true is_kept is holds e =
    inr (λ test. let some : (j : ℕ) × StandsIn nodes j index = holds.0 refl in test.last some.0 some.1, e)
wish nodes wanted before index true false is_kept is holds e =
    inl (record { given = is; last = λ j stands. let clash : false ≡ true = holds.1 (j, stands) in cc }, e)
wish nodes wanted before index false holder is_kept is holds e =
    inr (λ test. let clash : (node_at nodes index).is_test ≡ true = test.given in cc, e)

pub settled_step : (nodes : List Node) (wanted holders before after : List Bool) (index above : ℕ) (is_kept : Bool)
    → AreHolders nodes holders → index < length nodes → length before ≡ length nodes → above ≡ (node_at nodes index).above
    → is_kept ≡ kept_by nodes wanted holders before index → after ≡ marked before index above is_kept
    → IsSettled nodes wanted before (index + 1) → IsSettled nodes wanted after index
settled_step nodes wanted holders before after index above is_kept known within size named wished written h =
    settled_more nodes wanted before after index above is_kept within (sym named)
    (wish nodes wanted before index (node_at nodes index).is_test (flag_at holders index) is_kept refl (known.each index) wished)
    (subst (λ flags. IsMarked before flags index above is_kept) (sym written) (marked_is before index above is_kept (omega arith)))
    h

-- The same from the number of nodes that are not settled yet.
pub settled_back : (nodes : List Node) (wanted holders before after : List Bool) (left above : ℕ) (is_kept : Bool)
    → AreHolders nodes holders → 0 < left → left ≤ length nodes → length before ≡ length nodes
    → above ≡ (node_at nodes (left - 1)).above
    → is_kept ≡ kept_by nodes wanted holders before (left - 1) → after ≡ marked before (left - 1) above is_kept
    → IsSettled nodes wanted before left → IsSettled nodes wanted after (left - 1)
settled_back nodes wanted holders before after left above is_kept known some within size named wished written h =
    let next : left ≡ left - 1 + 1 = omega arith in
    settled_step nodes wanted holders before after (left - 1) above is_kept known (omega arith) size named wished written
    (subst (IsSettled nodes wanted before) next h)

pub clear : (n k : ℕ) → flag_at (replicate n false) k ≡ false
clear zero k = refl
clear (suc n) zero = refl
clear (suc n) (suc k) = clear n k
