-- Items that come into groups one after another.
use Rattle.std.proofs.Common.{◌≡◌, ℕ, suc, zero, ◌+◌, ◌<◌, ◌≤◌, Bool, true, false, List, [], ◌∷◌, ◌++◌, length, map, get_or, set, take, refl, sym, ap, subst, ◌∙◌, arith, inl, inr, add-one, append-nil}
use Rattle.std.specs.Prelude.{◌==◌, if◌then◌else◌}
use Rattle.std.specs.Borrow.{Bor}
use Rattle.std.specs.Global.{Vec}
use Rattle.std.proofs.lemmas.Bool.{cases_Bool, eq-eqb, eqb-true, ne_eqb, true≢false}
use Rattle.std.proofs.lemmas.List.{get_or-map, get_or-set_other, get_or-set_same, length-set, map-append, map-set, take_all}
use Rattle.ext_report.specs.Groups.{AreGrouped, group_at, numbered, shown}
use Rattle.ext_report.specs.InnerPutting.{AreEmpty, IsPut}

module _ {X : Type 0} where
  -- ---- one group

  -- what an index reads
  pub group_read : (groups : List (Vec (Bor X))) (k : ℕ) (v : Vec (Bor X)) → k < length groups → v ≡ get_or groups k v → group_at groups k ≡ v.items
  group_read groups k v less is = get_or-map (λ (w : Vec (Bor X)). w.items) groups k v [] less ∙ ap (λ (w : Vec (Bor X)). w.items) (sym is)

  put_here : (groups : List (Vec (Bor X))) (k : ℕ) (new : Vec (Bor X)) → k < length groups → group_at (set groups k new) k ≡ new.items
  put_here groups k new less =
      let long = length-set groups k new in
      group_read (set groups k new) k new (omega (arith, less, long)) (sym (get_or-set_same groups k new new less))

  put_elsewhere : (groups : List (Vec (Bor X))) (k j : ℕ) (new : Vec (Bor X)) → (j ≡ k → ⊥) → group_at (set groups k new) j ≡ group_at groups j
  put_elsewhere groups k j new other =
      ap (λ gs. get_or gs j []) (map-set (λ (w : Vec (Bor X)). w.items) groups k new) ∙ get_or-set_other (map (λ (w : Vec (Bor X)). w.items) groups) k j new.items [] other

  -- an item at the end of its group
  pub put_is : (groups : List (Vec (Bor X))) (number : ℕ) (v new : Vec (Bor X)) (ref : Bor X) → number < length groups → v ≡ get_or groups number v → new.items ≡ v.items ++ ref ∷ []
      → IsPut groups (set groups number new) number ref.now
  put_is groups number v new ref less is items = record {
    count = length-set groups number new;
    each = λ k within. elim (cases_Bool (number == k)) [
      | inl here ↦ rw here (subst (λ j. shown (group_at (set groups number new) j) ≡ shown (group_at groups j) ++ ref.now ∷ []) (eqb-true number k here) last)
      | inr elsewhere ↦ rw elsewhere (ap shown (put_elsewhere groups number k new (λ same. true≢false (sym (eq-eqb number k (sym same)) ∙ elsewhere))) ∙ sym (append-nil (shown (group_at groups k))))
    ];
  }
    where
      last : shown (group_at (set groups number new) number) ≡ shown (group_at groups number) ++ ref.now ∷ []
      last =
          ap shown (put_here groups number new less ∙ items ∙ ap (λ refs. refs ++ ref ∷ []) (sym (group_read groups number v less is)))
          ∙ map-append (λ (r : Bor X). r.now) (group_at groups number) (ref ∷ [])

  -- an item without a group
  pub put_nowhere : (groups : List (Vec (Bor X))) (number : ℕ) (item : X) → length groups ≤ number → IsPut groups groups number item
  put_nowhere groups number item past = record {
    count = refl;
    each = λ k within.
        let no : (number == k) ≡ false = ne_eqb number k (λ same. omega (arith, past, within, same)) in
        rw no (sym (append-nil (shown (group_at groups k))));
  }

  -- ---- one item after another

  in_front : (b : Bool) (x : X) (all some more : List X) → all ≡ some ++ more → (if b then x ∷ all else all) ≡ (if b then x ∷ some else some) ++ more
  in_front true x all some more is = ap (λ l. x ∷ l) is
  in_front false x all some more is = is

  numbered_suc : (number : ℕ) (numbers : List ℕ) (items : List X) (i n : ℕ) (x : X) → i < length numbers → i < length items → n ≡ get_or numbers i 0 → x ≡ get_or items i x
      → numbered number (take (suc i) numbers) (take (suc i) items) ≡ numbered number (take i numbers) (take i items) ++ (if n == number then x ∷ [] else [])
  numbered_suc number [] items i n x less within is at = absurd (omega (arith, less))
  numbered_suc number (m ∷ numbers) [] i n x less within is at = absurd (omega (arith, within))
  numbered_suc number (m ∷ numbers) (y ∷ items) zero n x less within is at =
      sym (ap (λ k. if k == number then x ∷ [] else []) is ∙ ap (λ z. if m == number then z ∷ [] else []) at)
  numbered_suc number (m ∷ numbers) (y ∷ items) (suc i) n x less within is at =
      in_front (m == number) y (numbered number (take (suc i) numbers) (take (suc i) items)) (numbered number (take i numbers) (take i items)) (if n == number then x ∷ [] else [])
      (numbered_suc number numbers items i n x (omega (arith, less)) (omega (arith, within)) is at)

  pub grouped_more : (count : ℕ) (numbers : List ℕ) (items : List X) (before after : List (Vec (Bor X))) (i n : ℕ) (x : X) → count ≡ length before → i < length numbers → i < length items → n ≡ get_or numbers i 0
      → x ≡ get_or items i x → AreGrouped count (take i numbers) (take i items) before → IsPut before after n x → AreGrouped count (take (i + 1) numbers) (take (i + 1) items) after
  grouped_more count numbers items before after i n x long less within is at so_far put = record {
    each = λ k h.
        put.each k (omega (arith, h, long)) ∙ ap (λ l. l ++ (if n == k then x ∷ [] else [])) (so_far.each k h) ∙ sym (numbered_suc k numbers items i n x less within is at)
        ∙ ap (λ j. numbered k (take j numbers) (take j items)) (sym (add-one i));
  }

  pub grouped_none : (count : ℕ) (numbers : List ℕ) (items : List X) (groups : List (Vec (Bor X))) → AreEmpty groups → AreGrouped count (take 0 numbers) (take 0 items) groups
  grouped_none count numbers items groups empty = record { each = λ k h. ap shown (empty k) }

  pub grouped_all : (count : ℕ) (numbers : List ℕ) (items : List X) (groups : List (Vec (Bor X))) (i : ℕ) → length numbers ≡ length items → length items ≤ i → AreGrouped count (take i numbers) (take i items) groups
      → AreGrouped count numbers items groups
  grouped_all count numbers items groups i long past so_far = record {
    each = λ k h. so_far.each k h ∙ ap (λ ns. numbered k ns (take i items)) (take_all i numbers (omega (arith, long, past))) ∙ ap (numbered k numbers) (take_all i items past);
  }

  -- ---- groups of nothing

  empty_push : (groups : List (Vec (Bor X))) (v : Vec (Bor X)) → AreEmpty groups → v.items ≡ [] → AreEmpty (groups ++ v ∷ [])
  empty_push [] v empty none zero = none
  empty_push [] v empty none (suc k) = refl
  empty_push (g ∷ groups) v empty none zero = empty 0
  empty_push (g ∷ groups) v empty none (suc k) = empty_push groups v (λ j. empty (suc j)) none k

  pub empty_pushed : (groups after : List (Vec (Bor X))) (v : Vec (Bor X)) → AreEmpty groups → v.items ≡ [] → after ≡ groups ++ v ∷ [] → AreEmpty after
  empty_pushed groups after v empty none put = subst AreEmpty (sym put) (empty_push groups v empty none)
