-- The rule where a seat is split off, or joined in.
use Rattle.std.proofs.Common.{◌≡◌, ◌≢◌, ◌⊎◌, ℕ, zero, suc, ◌+◌, ◌<◌, ◌≤◌, List, [], ◌∷◌, ◌++◌, length, set, get_or, Option, Some, None, refl, sym, ap, ◌∙◌, subst, ⊎_elim, inl, inr, arith}
use Rattle.std.specs.Prelude.{replicate}
use Rattle.std.proofs.lemmas.List.{length-replicate}
use Rattle.std.specs.Int.{bit_at}
use Rattle.std.proofs.lemmas.Nat.Bits.{bit_at-zero}
use Rattle.ext_history.specs.Histories.{seen, Follow}
use Rattle.ext_history.proofs.Lists.{at_push, at_zeros}
use Rattle.ext_history.proofs.Legal.{legal_empty}
use Rattle.ext_locks.specs.declared.event.LockMode.{LockMode}
use mathlib.Core.Option.{some, some-injective, some-ne-none}
use base.Growing.{prefix_refl}
use lib.ListN.{get_elem?}
use Rattle.atomic_table.specs.Table.{Splits, Joins}
use Rattle.atomic_table.proofs.Lists.{at_set, set_again}
use Rattle.ext_locks.specs.declared.seat.SeatView.{SeatView}
use Rattle.ext_locks.specs.History.{LockHistory, IsAllowed, IsLegal}
use Rattle.ext_locks.specs.InnerWords.{bit_of, IsWord}
use Rattle.ext_locks.specs.InnerRule.{Fits, Counts, Gives, Kept, founder, dealer, dealt, noted, told_of, nobody, next_after}

-- where a view comes from: it has the numbers of the one that stood there, or none
record Same (views : List SeatView) (j : ℕ) (u : SeatView) : Type 0 where
  pub view : SeatView
  pub there : get_elem? views j ≡ some view
  pub number : view.number ≡ u.number
  pub next : view.next ≡ u.next
  pub lanes : view.lanes ≡ u.lanes

record Numberless (u : SeatView) : Type 0 where
  pub number : u.number ≡ None
  pub next : u.next ≡ None

-- a view that has this number
record Numbered (views : List SeatView) (j lane : ℕ) : Type 0 where
  pub view : SeatView
  pub there : get_elem? views j ≡ some view
  pub number : view.number ≡ Some lane

none-some : {X : Type 0} {o : Option ℕ} {n : ℕ} → o ≡ None → o ≡ Some n → X
none-some a b = absurd (cc)

noted_fits : (h : LockHistory) (v : SeatView) → Fits h v → Fits h (noted v)
noted_fits h v f = record { seen_is = (h, refl); told_is = f.seen_is; own_is = λ lane is. none-some refl is }

told_fits : (h : LockHistory) (v w : SeatView) → Fits h v → Fits h w → Fits h (told_of v w)
told_fits h v w f g = record { seen_is = f.seen_is; told_is = g.told_is; own_is = f.own_is }

nobody_fits : (h : LockHistory) → Fits h nobody
nobody_fits h = record { seen_is = (h, refl); told_is = (h, refl); own_is = λ lane is. none-some refl is }

dealer_fits : (h : LockHistory) (v : SeatView) → Fits h v → Fits h (dealer v)
dealer_fits h v f = record { seen_is = f.seen_is; told_is = f.told_is; own_is = f.own_is }

-- a view with the numbers of one that stood there, or with none, counts as many lanes
counts_from : (lanes : ℕ) (views : List SeatView) → ((j : ℕ) (u : SeatView) → get_elem? views j ≡ some u → Counts lanes u) → (j : ℕ) (u : SeatView) → Same views j u ⊎ Numberless u → Counts lanes u
counts_from lanes views counts j u from = record {
  lane = λ number is. ⊎_elim (λ (s : Same views j u). let k = (counts j s.view s.there).lane number (s.number ∙ is) in (k.0, sym s.lanes ∙ k.1)) (λ (n : Numberless u). none-some n.number is) from;
  gives = λ next is. ⊎_elim (λ (s : Same views j u). sym s.lanes ∙ (counts j s.view s.there).gives next (s.next ∙ is)) (λ (n : Numberless u). none-some n.next is) from;
}

module _ (locks lanes : ℕ) (words : List ℕ) (views : List SeatView) (kept : Kept locks lanes words views) where
  -- views with the old numbers and no others keep the rule, where what they know fits
  kept_as : (new : List SeatView) → ((j : ℕ) (u : SeatView) → get_elem? new j ≡ some u → Same views j u ⊎ Numberless u)
      → ((j : ℕ) (u : SeatView) → get_elem? new j ≡ some u → Fits kept.history u) → Kept locks lanes words new
  kept_as new from fits = record {
    size = kept.size;
    history = kept.history;
    legal = kept.legal;
    few = kept.few;
    bits = kept.bits;
    fits = fits;
    counts = λ j u there. counts_from lanes views kept.counts j u (from j u there);
    apart = λ one other lane v w p q a b.
        ⊎_elim
        (λ (x : Same views one v). ⊎_elim
        (λ (y : Same views other w). kept.apart one other lane x.view y.view x.there y.there (x.number ∙ a) (y.number ∙ b))
        (λ (y : Numberless w). none-some y.number b)
        (from other w q))
        (λ (x : Numberless v). none-some x.number a)
        (from one v p);
    one_gives = λ one other m n v w p q a b.
        ⊎_elim
        (λ (x : Same views one v). ⊎_elim
        (λ (y : Same views other w). kept.one_gives one other m n x.view y.view x.there y.there (x.next ∙ a) (y.next ∙ b))
        (λ (y : Numberless w). none-some y.next b)
        (from other w q))
        (λ (x : Numberless v). none-some x.next a)
        (from one v p);
    gives = λ seat next v p is.
        ⊎_elim
        (λ (x : Same views seat v).
        let g = kept.gives seat next x.view x.there (x.next ∙ is) in
        record {
          most = g.most;
          below = λ j lane u q its. ⊎_elim (λ (y : Same views j u). g.below j lane y.view y.there (y.number ∙ its)) (λ (y : Numberless u). none-some y.number its) (from j u q);
          unused = g.unused;
        })
        (λ (x : Numberless v). none-some x.next is)
        (from seat v p);
  }

  same_here : (j : ℕ) (u : SeatView) → get_elem? views j ≡ some u → Same views j u
  same_here j u there = record { view = u; there = there; number = refl; next = refl; lanes = refl }

  kept_note : (id : ℕ) (v : SeatView) → get_elem? views id ≡ some v → Kept locks lanes words (views ++ noted v ∷ [])
  kept_note id v at = kept_as (views ++ noted v ∷ [])
      (λ j u there. ⊎_elim (λ old. inl (same_here j u old)) (λ (x : (j ≡ length views) × (noted v ≡ u)). inr (record { number = sym (ap (λ y. y.number) x.1); next = sym (ap (λ y. y.next) x.1) })) (at_push views (noted v) u j there))
      (λ j u there. ⊎_elim (kept.fits j u) (λ (x : (j ≡ length views) × (noted v ≡ u)). subst (λ y. Fits kept.history y) x.1 (noted_fits kept.history v (kept.fits id v at))) (at_push views (noted v) u j there))

  kept_join : (id other : ℕ) (v w : SeatView) → get_elem? views id ≡ some v → get_elem? views other ≡ some w → Kept locks lanes words (set (set views id (told_of v w)) other nobody)
  kept_join id other v w at there = kept_as (set (set views id (told_of v w)) other nobody)
      (λ j u q. ⊎_elim
      (λ (x : (j ≡ other) × (nobody ≡ u)). inr (record { number = sym (ap (λ y. y.number) x.1); next = sym (ap (λ y. y.next) x.1) }))
      (λ (x : (j ≢ other) × (get_elem? (set views id (told_of v w)) j ≡ some u)). ⊎_elim
      (λ (y : (j ≡ id) × (told_of v w ≡ u)). inl (record { view = v; there = subst (λ i. get_elem? views i ≡ some v) (sym y.0) at; number = ap (λ z. z.number) y.1; next = ap (λ z. z.next) y.1; lanes = ap (λ z. z.lanes) y.1 }))
      (λ (y : (j ≢ id) × (get_elem? views j ≡ some u)). inl (same_here j u y.1))
      (at_set views id j (told_of v w) u x.1))
      (at_set (set views id (told_of v w)) other j nobody u q))
      (λ j u q. ⊎_elim
      (λ (x : (j ≡ other) × (nobody ≡ u)). subst (λ y. Fits kept.history y) x.1 (nobody_fits kept.history))
      (λ (x : (j ≢ other) × (get_elem? (set views id (told_of v w)) j ≡ some u)). ⊎_elim
      (λ (y : (j ≡ id) × (told_of v w ≡ u)). subst (λ z. Fits kept.history z) y.1
      (told_fits kept.history v w (kept.fits id v at) (kept.fits other w there)))
      (λ (y : (j ≢ id) × (get_elem? views j ≡ some u)). kept.fits j u y.1)
      (at_set views id j (told_of v w) u x.1))
      (at_set (set views id (told_of v w)) other j nobody u q))

pub notes : (locks lanes id : ℕ) (v : SeatView) → Splits {S = Unit {0}} (λ s. Kept locks lanes s.words s.views) id v v (noted v)
notes locks lanes id v s kept at = subst (λ (l : List SeatView). Kept locks lanes s.words (l ++ noted v ∷ [])) (sym (set_again s.views id v at)) (kept_note locks lanes s.words s.views kept id v at)

pub joins : (locks lanes id other : ℕ) (v w : SeatView) → Joins {S = Unit {0}} (λ s. Kept locks lanes s.words s.views) id v other w (told_of v w) nobody
joins locks lanes id other v w s kept at apart there =
    kept_join locks lanes s.words s.views kept id other v w at
    (⊎_elim (λ (x : (other ≡ id) × (told_of v w ≡ w)). absurd (apart x.0)) (λ (x : (other ≢ id) × (get_elem? s.views other ≡ some w)). x.1) (at_set s.views id other (told_of v w) w there))

-- a lane is dealt
module _ (locks lanes : ℕ) (words : List ℕ) (views : List SeatView) (kept : Kept locks lanes words views) (id n : ℕ) (v : SeatView) (at : get_elem? views id ≡ some v) (next_is : v.next ≡ Some n) (few : n < lanes) where
  some-of : {x y : ℕ} → Some x ≡ Some y → x ≡ y
  some-of e = cc

  new : List SeatView
  new = set views id (dealer v) ++ dealt v ∷ []

  mine : Gives lanes kept.history views n
  mine = kept.gives id n v at next_is

  -- a view that stood there before, with its number, or the new lane's
  source : (j : ℕ) (u : SeatView) → get_elem? (set views id (dealer v) ++ dealt v ∷ []) j ≡ some u → ((j ≢ id) × Same views j u) ⊎ (((j ≡ id) × (dealer v ≡ u)) ⊎ ((j ≡ length (set views id (dealer v))) × (dealt v ≡ u)))
  source j u there =
      ⊎_elim
      (λ (old : get_elem? (set views id (dealer v)) j ≡ some u). ⊎_elim
      (λ (x : (j ≡ id) × (dealer v ≡ u)). inr (inl x))
      (λ (x : (j ≢ id) × (get_elem? views j ≡ some u)). inl (x.0, record { view = u; there = x.1; number = refl; next = refl; lanes = refl }))
      (at_set views id j (dealer v) u old))
      (λ (x : (j ≡ length (set views id (dealer v))) × (dealt v ≡ u)). inr (inr x))
      (at_push (set views id (dealer v)) (dealt v) u j there)

  numbered : (j lane : ℕ) (u : SeatView) → get_elem? (set views id (dealer v) ++ dealt v ∷ []) j ≡ some u → u.number ≡ Some lane → Numbered views j lane ⊎ ((j ≡ length (set views id (dealer v))) × (lane ≡ n))
  numbered j lane u there is =
      ⊎_elim
      (λ (x : (j ≢ id) × Same views j u). inl (record { view = x.1.view; there = x.1.there; number = x.1.number ∙ is }))
      (λ r. ⊎_elim
      (λ (x : (j ≡ id) × (dealer v ≡ u)). inl (record { view = v; there = subst (λ i. get_elem? views i ≡ some v) (sym x.0) at; number = ap (λ y. y.number) x.1 ∙ is }))
      (λ (x : (j ≡ length (set views id (dealer v))) × (dealt v ≡ u)). inr (x.0, some-of (sym is ∙ (sym (ap (λ y. y.number) x.1) ∙ next_is))))
      r)
      (source j u there)

  -- the one seat that gives numbers
  gives_one : (j m : ℕ) (u : SeatView) → get_elem? (set views id (dealer v) ++ dealt v ∷ []) j ≡ some u → u.next ≡ Some m → (j ≡ id) × (m ≡ n + 1)
  gives_one j m u there is =
      ⊎_elim
      (λ (x : (j ≢ id) × Same views j u). absurd (x.0 (kept.one_gives j id m n x.1.view v x.1.there at (x.1.next ∙ is) next_is)))
      (λ r. ⊎_elim
      (λ (x : (j ≡ id) × (dealer v ≡ u)). (x.0, some-of (sym is ∙ (sym (ap (λ y. y.next) x.1) ∙ ap next_after next_is))))
      (λ (x : (j ≡ length (set views id (dealer v))) × (dealt v ≡ u)). none-some (sym (ap (λ y. y.next) x.1)) is)
      r)
      (source j u there)

  below_new : (j lane : ℕ) (u : SeatView) → get_elem? (set views id (dealer v) ++ dealt v ∷ []) j ≡ some u → u.number ≡ Some lane → lane < n + 1
  below_new j lane u there is =
      ⊎_elim
      (λ (x : Numbered views j lane). let b = mine.below j lane x.view x.there x.number in omega arith)
      (λ (x : (j ≡ length (set views id (dealer v))) × (lane ≡ n)). let e = x.1 in omega arith)
      (numbered j lane u there is)

  counts_new : (j : ℕ) (u : SeatView) → get_elem? (set views id (dealer v) ++ dealt v ∷ []) j ≡ some u → Counts lanes u
  counts_new j u there =
      ⊎_elim
      (λ (x : (j ≢ id) × Same views j u). counts_from lanes views kept.counts j u (inl x.1))
      (λ r. ⊎_elim
      (λ (x : (j ≡ id) × (dealer v ≡ u)). subst (λ y. Counts lanes y) x.1 (record { lane = (kept.counts id v at).lane; gives = λ next is. (kept.counts id v at).gives n next_is }))
      (λ (x : (j ≡ length (set views id (dealer v))) × (dealt v ≡ u)). subst (λ y. Counts lanes y) x.1
      (record { lane = λ number is. (subst (λ o. o < lanes) (some-of (sym next_is ∙ is)) few, (kept.counts id v at).gives n next_is); gives = λ next is. none-some refl is }))
      r)
      (source j u there)

  kept_deal : Kept locks lanes words (set views id (dealer v) ++ dealt v ∷ [])
  kept_deal = record {
    size = kept.size;
    history = kept.history;
    legal = kept.legal;
    few = kept.few;
    bits = kept.bits;
    counts = counts_new;
    fits = λ j u there. ⊎_elim
        (λ (old : get_elem? (set views id (dealer v)) j ≡ some u). ⊎_elim
        (λ (x : (j ≡ id) × (dealer v ≡ u)). subst (λ y. Fits kept.history y) x.1 (dealer_fits kept.history v (kept.fits id v at)))
        (λ (x : (j ≢ id) × (get_elem? views j ≡ some u)). kept.fits j u x.1)
        (at_set views id j (dealer v) u old))
        (λ (x : (j ≡ length (set views id (dealer v))) × (dealt v ≡ u)). subst (λ y. Fits kept.history y) x.1
        (record {
          seen_is = (kept.history, refl);
          told_is = (kept.history, refl);
          own_is = λ lane is. mine.unused lane (let same : n ≡ lane = some-of (sym next_is ∙ is) in omega arith);
        }))
        (at_push (set views id (dealer v)) (dealt v) u j there);
    apart = λ one other lane x y p q a b.
        ⊎_elim
        (λ (s : Numbered views one lane). ⊎_elim
        (λ (t : Numbered views other lane). kept.apart one other lane s.view t.view s.there t.there s.number t.number)
        (λ (t : (other ≡ length (set views id (dealer v))) × (lane ≡ n)). let l = mine.below one lane s.view s.there s.number in let e = t.1 in absurd (omega arith))
        (numbered other lane y q b))
        (λ (s : (one ≡ length (set views id (dealer v))) × (lane ≡ n)). ⊎_elim
        (λ (t : Numbered views other lane). let l = mine.below other lane t.view t.there t.number in let e = s.1 in absurd (omega arith))
        (λ (t : (other ≡ length (set views id (dealer v))) × (lane ≡ n)). s.0 ∙ sym t.0)
        (numbered other lane y q b))
        (numbered one lane x p a);
    one_gives = λ one other m k x y p q a b. (gives_one one m x p a).0 ∙ sym (gives_one other k y q b).0;
    gives = λ seat next u p is.
        let g = gives_one seat next u p is in
        subst (λ z. Gives lanes kept.history (set views id (dealer v) ++ dealt v ∷ []) z) (sym g.1)
        (record { most = omega arith; below = below_new; unused = λ lane many. mine.unused lane (omega arith) });
  }

pub deals : (locks lanes id n : ℕ) (v : SeatView) → v.next ≡ Some n → n < lanes → Splits {S = Unit {0}} (λ s. Kept locks lanes s.words s.views) id v (dealer v) (dealt v)
deals locks lanes id n v is few s kept at = kept_deal locks lanes s.words s.views kept id n v at is few

-- the new lane has made no step
pub dealt_lane : (v w : SeatView) (n lanes : ℕ) → w ≡ dealt v → v.next ≡ Some n → v.lanes ≡ lanes → n < lanes → lanes ≤ 32
    → (w.number ≡ Some n) × (n < w.lanes) × (w.lanes ≤ 32) × Follow [] w.fronts × IsLegal w.lanes (seen w.fronts)
dealt_lane v w n lanes is next count below few =
    subst (λ (x : SeatView). (x.number ≡ Some n) × (n < x.lanes) × (x.lanes ≤ 32) × Follow [] x.fronts × IsLegal x.lanes (seen x.fronts)) (sym is)
    (next, subst (λ k. n < k) (sym count) below, subst (λ k. k ≤ 32) (sym count) few, tt, legal_empty (IsAllowed v.lanes))

-- the rule at the start
bit_none : (m : LockMode) (lane : ℕ) → bit_at 0 (bit_of m lane) ≡ 0
bit_none m lane = bit_at-zero (bit_of m lane)

at_first : (v w : SeatView) (j : ℕ) → get_elem? (v ∷ []) j ≡ some w → (j ≡ 0) × (v ≡ w)
at_first v w zero e = (refl, some-injective v w e)
at_first v w (suc j) e = absurd (some-ne-none w (sym e))

pub opens : (locks lanes : ℕ) (words : List ℕ) → lanes ≤ 32 → length words ≡ locks → ((k : ℕ) → get_or words k 0 ≡ 0) → Kept locks lanes words (founder lanes ∷ [])
opens locks lanes words few size zeros = record {
  size = size;
  history = [];
  legal = legal_empty (IsAllowed lanes);
  bits = λ k inside. subst (λ w. IsWord [] k w) (sym (zeros k)) (record { small = omega arith; bits = λ m lane few. bit_none m lane });
  few = few;
  counts = λ j u there. subst (λ y. Counts lanes y) (at_first (founder lanes) u j there).1 (record { lane = λ number is. none-some refl is; gives = λ next is. refl });
  fits = λ j u there. subst (λ y. Fits [] y) (at_first (founder lanes) u j there).1 (record { seen_is = prefix_refl []; told_is = prefix_refl []; own_is = λ lane is. refl });
  apart = λ one other lane v w p q a b. (at_first (founder lanes) v one p).0 ∙ sym (at_first (founder lanes) w other q).0;
  one_gives = λ one other m n v w p q a b. (at_first (founder lanes) v one p).0 ∙ sym (at_first (founder lanes) w other q).0;
  gives = λ seat next u p is.
      let e : 0 ≡ next = cc ((at_first (founder lanes) u seat p).1, is) in
      subst (λ z. Gives lanes [] (founder lanes ∷ []) z) e
      (record {
        most = omega arith;
        below = λ j lane w q its. none-some (sym (ap (λ y. y.number) (at_first (founder lanes) w j q).1)) its;
        unused = λ lane many. refl;
      });
}

pub opens_zero : (locks lanes : ℕ) (words : List ℕ) → lanes ≤ 32 → words ≡ replicate locks 0 → Kept locks lanes words (founder lanes ∷ [])
opens_zero locks lanes words few is = subst (λ ws. Kept locks lanes ws (founder lanes ∷ [])) (sym is) (opens locks lanes (replicate locks 0) few (length-replicate locks 0) (at_zeros locks))
