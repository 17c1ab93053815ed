-- Each step keeps the rule.
use Rattle.std.proofs.Common.{◌≡◌, ◌≢◌, ◌==◌, ℕ, ◌^◌, ◌<◌, Bool, true, false, List, [], ◌∷◌, ◌++◌, set, get_or, Some, refl, sym, ap, ◌∙◌, subst, ⊎_elim, arith, get_or-set_same, get_or-set_other, length-set, w64}
use Rattle.std.proofs.lemmas.List.{set-get_or}
use Rattle.std.proofs.lemmas.Bool.{cases_eq, eqb-true}
use Rattle.std.specs.Prelude.{slice_index, slice_set}
use Rattle.std.specs.Int.{bit_not}
use Rattle.std.specs.Int.RustNames.{bit_and, bit_or}
use prog.Atomic.{either}
use mathlib.Core.Option.{some, none}
use mathlib.Core.List.{IsPrefix}
use base.Growing.{prefix_refl, prefix_trans}
use lib.ListN.{get_elem?}
use Rattle.atomic_table.specs.Table.{Act, Me, keeps, step, Allows, Valid, carried_after}
use Rattle.atomic_table.proofs.Lists.{at_set}
use Rattle.ext_history.specs.Histories.{seen}
use Rattle.ext_history.proofs.Lanes.{own_push_other}
use Rattle.ext_history.proofs.Fronts.{last_append}
use Rattle.ext_history.proofs.Legal.{legal_push}
use Rattle.ext_locks.specs.declared.event.LockMode.{LockMode}
use Rattle.ext_locks.specs.declared.event.LockEvent.{LockEvent}
use Rattle.ext_locks.specs.declared.seat.SeatView.{SeatView}
use Rattle.ext_locks.specs.History.{LockHistory, event, lane_of, own, holds, IsAllowed, IsLegal}
use Rattle.ext_locks.specs.InnerWords.{bit_of, IsWord, IsFreeWord}
use Rattle.ext_locks.specs.InnerRule.{Fits, Counts, Gives, Kept, seeing, Meets, Loaded, Stepped, TakesIf, Takes, GivesBack, Loads}
use Rattle.ext_locks.proofs.Histories.{same_held, unmade}
use Rattle.ext_locks.proofs.Words.{word_stays, taken_word, given_word, free_word}

-- a step leaves the numbers of all views
record Was (views : List SeatView) (j : ℕ) (u : SeatView) : Type 0 where
  pub view : SeatView
  pub there : get_elem? views j ≡ some view
  pub number : view.number ≡ u.number
  pub next : view.next ≡ u.next
  pub lanes : view.lanes ≡ u.lanes

was : (views : List SeatView) (id : ℕ) (v : SeatView) (h : List LockEvent) → get_elem? views id ≡ some v → (j : ℕ) (u : SeatView) → get_elem? (set views id (seeing v h)) j ≡ some u → Was views j u
was views id v h at j u there =
    ⊎_elim
    (λ (x : (j ≡ id) × (seeing v h ≡ u)). record { view = v; there = subst (λ i. get_elem? views i ≡ some v) (sym x.0) at; number = ap (λ y. y.number) x.1; next = ap (λ y. y.next) x.1; lanes = ap (λ y. y.lanes) x.1 })
    (λ (x : (j ≢ id) × (get_elem? views j ≡ some u)). record { view = u; there = x.1; number = refl; next = refl; lanes = refl })
    (at_set views id j (seeing v h) u there)

-- a seat has seen all of what its step showed
fits_seeing : (v : SeatView) (h : LockHistory) → Fits h (seeing v h)
fits_seeing v h =
    let same : h ≡ seen (v.fronts ++ h ∷ []) = sym (last_append [] v.fronts (h ∷ [])) in
    record { seen_is = subst (λ (z : LockHistory). IsPrefix z h) same (prefix_refl h); told_is = (h, refl); own_is = λ o is. ap (own o) same }

module _ (locks lanes : ℕ) (words : List ℕ) (views : List SeatView) (kept : Kept locks lanes words views) (id l : ℕ) (v : SeatView) (at : get_elem? views id ≡ some v) (mine : v.number ≡ Some l) where
  -- the lane is one of those that there are
  pub counted : (l < lanes) × (v.lanes ≡ lanes)
  counted = (kept.counts id v at).lane l mine

  counts_set : (h : List LockEvent) (j : ℕ) (u : SeatView) → get_elem? (set views id (seeing v h)) j ≡ some u → Counts lanes u
  counts_set h j u there =
      let s = was views id v h at j u there in
      let c = kept.counts j s.view s.there in
      record {
        lane = λ number is. let k = c.lane number (s.number ∙ is) in (k.0, sym s.lanes ∙ k.1);
        gives = λ next is. sym s.lanes ∙ c.gives next (s.next ∙ is);
      }

  apart_set : (h : List LockEvent) (one other lane : ℕ) (x y : SeatView) → get_elem? (set views id (seeing v h)) one ≡ some x → get_elem? (set views id (seeing v h)) other ≡ some y
      → x.number ≡ Some lane → y.number ≡ Some lane → one ≡ other
  apart_set h one other lane x y p q a b =
      let s = was views id v h at one x p in
      let t = was views id v h at other y q in
      kept.apart one other lane s.view t.view s.there t.there (s.number ∙ a) (t.number ∙ b)

  one_set : (h : List LockEvent) (one other m n : ℕ) (x y : SeatView) → get_elem? (set views id (seeing v h)) one ≡ some x → get_elem? (set views id (seeing v h)) other ≡ some y
      → x.next ≡ Some m → y.next ≡ Some n → one ≡ other
  one_set h one other m n x y p q a b =
      let s = was views id v h at one x p in
      let t = was views id v h at other y q in
      kept.one_gives one other m n s.view t.view s.there t.there (s.next ∙ a) (t.next ∙ b)

  below_set : (h : List LockEvent) (next : ℕ) → Gives lanes kept.history views next → (j lane : ℕ) (u : SeatView) → get_elem? (set views id (seeing v h)) j ≡ some u → u.number ≡ Some lane → lane < next
  below_set h next gives j lane u there is = let s = was views id v h at j u there in gives.below j lane s.view s.there (s.number ∙ is)

  module _ (k : ℕ) (m : LockMode) (t : Bool) (n : ℕ) (inside : k < locks) (may : IsAllowed lanes kept.history (event l k m t)) (word : IsWord (kept.history ++ event l k m t ∷ []) k n) where
    longer : IsPrefix kept.history (kept.history ++ event l k m t ∷ [])
    longer = (event l k m t ∷ [], refl)

    fits_more : (j : ℕ) (u : SeatView) → j ≢ id → get_elem? views j ≡ some u → Fits (kept.history ++ event l k m t ∷ []) u
    fits_more j u apart there =
        let f = kept.fits j u there in record {
          seen_is = prefix_trans (seen u.fronts) kept.history (kept.history ++ event l k m t ∷ []) f.seen_is longer;
          told_is = prefix_trans u.told kept.history (kept.history ++ event l k m t ∷ []) f.told_is longer;
          own_is = λ o is. own_push_other lane_of o kept.history (event l k m t) (λ same. apart (kept.apart j id o u v there at is (mine ∙ ap Some same))) ∙ f.own_is o is;
        }

    fits_mine : Fits (kept.history ++ event l k m t ∷ []) (seeing v (kept.history ++ event l k m t ∷ []))
    fits_mine = fits_seeing v (kept.history ++ event l k m t ∷ [])

    bits_set : (j : ℕ) → j < locks → IsWord (kept.history ++ event l k m t ∷ []) j (get_or (set words k n) j 0)
    bits_set j below =
        ⊎_elim
        (λ (is : j ≡ k). subst (λ i. IsWord (kept.history ++ event l k m t ∷ []) i (get_or (set words k n) i 0)) (sym is)
        (subst (λ x. IsWord (kept.history ++ event l k m t ∷ []) k x) (sym (get_or-set_same words k n 0 (let size = kept.size in omega arith))) word))
        (λ (isnt : j ≢ k). subst (λ x. IsWord (kept.history ++ event l k m t ∷ []) j x) (sym (get_or-set_other words k j n 0 isnt))
        (word_stays (event l k m t) kept.history j (get_or words j 0) (λ same. isnt (sym same)) (kept.bits j below)))
        (cases_eq j k)

    pub keeps_event : Kept locks lanes (set words k n) (set views id (seeing v (kept.history ++ event l k m t ∷ [])))
    keeps_event = record {
      size = length-set words k n ∙ kept.size;
      history = kept.history ++ event l k m t ∷ [];
      legal = legal_push kept.history (event l k m t) kept.legal may;
      bits = bits_set;
      few = kept.few;
      counts = counts_set (kept.history ++ event l k m t ∷ []);
      fits = λ j u there. ⊎_elim
          (λ (x : (j ≡ id) × (seeing v (kept.history ++ event l k m t ∷ []) ≡ u)). subst (λ y. Fits (kept.history ++ event l k m t ∷ []) y) x.1 fits_mine)
          (λ (x : (j ≢ id) × (get_elem? views j ≡ some u)). fits_more j u x.0 x.1)
          (at_set views id j (seeing v (kept.history ++ event l k m t ∷ [])) u there);
      apart = apart_set (kept.history ++ event l k m t ∷ []);
      one_gives = one_set (kept.history ++ event l k m t ∷ []);
      gives = λ j next u there is.
          let s = was views id v (kept.history ++ event l k m t ∷ []) at j u there in
          let g = kept.gives j next s.view s.there (s.next ∙ is) in
          let lower = g.below id l v at mine in
          record {
            most = g.most;
            below = below_set (kept.history ++ event l k m t ∷ []) next g;
            unused = λ lane many. own_push_other lane_of lane kept.history (event l k m t) (λ same. omega arith) ∙ g.unused lane many;
          };
    }

  -- a load adds what was there to the lane's fronts
  fits_load : (j : ℕ) (u : SeatView) → get_elem? (set views id (seeing v kept.history)) j ≡ some u → Fits kept.history u
  fits_load j u there =
      ⊎_elim
      (λ (x : (j ≡ id) × (seeing v kept.history ≡ u)). subst (λ y. Fits kept.history y) x.1 (fits_seeing v kept.history))
      (λ (x : (j ≢ id) × (get_elem? views j ≡ some u)). kept.fits j u x.1)
      (at_set views id j (seeing v kept.history) u there)

  pub keeps_load : Kept locks lanes words (set views id (seeing v kept.history))
  keeps_load = record {
    size = kept.size;
    history = kept.history;
    legal = kept.legal;
    few = kept.few;
    bits = kept.bits;
    fits = fits_load;
    counts = counts_set kept.history;
    apart = apart_set kept.history;
    one_gives = one_set kept.history;
    gives = λ j next u there is.
        let s = was views id v kept.history at j u there in
        let g = kept.gives j next s.view s.there (s.next ∙ is) in
        record { most = g.most; below = below_set kept.history next g; unused = g.unused };
  }

  pub meets : Meets v l kept.history
  meets = record {
    on = record {
      legal = subst (λ n. IsLegal n kept.history) (sym counted.1) kept.legal;
      begins = (kept.fits id v at).seen_is;
      own_same = (kept.fits id v at).own_is l mine;
    };
    told = (kept.fits id v at).told_is;
    few = λ other many. unmade lanes kept.history kept.legal other (let few = kept.few in omega arith);
  }

module _ (locks lanes slots id l : ℕ) (me : Me (Unit {0}) SeatView) (mine : me.0.number ≡ Some l) where
  only : (P : ℕ → Type 0) → P l → (lane : ℕ) → me.0.number ≡ Some lane → P lane
  only P p lane is = subst P (some-of (sym mine ∙ is)) p
    where
      some-of : {x y : ℕ} → Some x ≡ Some y → x ≡ y
      some-of e = cc

  loaded : (k : ℕ) → k < locks → (words : List ℕ) (views : List SeatView) (kept : Kept locks lanes words views) → get_elem? views id ≡ some me.0
      → (lane : ℕ) → me.0.number ≡ Some lane → Loaded me.0 lane k (slice_index words k) (seeing me.0 kept.history)
  loaded k inside words views kept at = only (λ lane. Loaded me.0 lane k (slice_index words k) (seeing me.0 kept.history))
      (record { history = kept.history; meets = meets locks lanes words views kept id l me.0 at mine; word = kept.bits k inside; view = refl })

  stays : (k : ℕ) (words : List ℕ) (views : List SeatView) (kept : Kept locks lanes words views) → get_elem? views id ≡ some me.0 → Kept locks lanes (slice_set words k (slice_index words k)) (slice_set views id (seeing me.0 kept.history))
  stays k words views kept at = subst (λ ws. Kept locks lanes ws (set views id (seeing me.0 kept.history))) (sym (set-get_or words k 0)) (keeps_load locks lanes words views kept id l me.0 at mine)

  pub loads : (k : ℕ) → k < locks → Allows (λ s. Kept locks lanes s.words s.views) slots id me k (λ n. n) (Loads (step slots k 0 0 none) me)
  loads k inside s kept same at small = (seeing me.0 kept.history, keeps, tt, stays k s.words s.views kept at, (refl, loaded k inside s.words s.views kept at))

  module _ (k : ℕ) (m : LockMode) (few : l < 32) (inside : k < locks) where
    pub takes : (old : ℕ) → IsFreeWord m old
        → Allows (λ s. Kept locks lanes s.words s.views) slots id me k (λ n. either (n == old) (bit_or old (2 ^ bit_of m l)) n) (Takes m (step slots k old (bit_or old (2 ^ bit_of m l)) none) me)
    takes old free s kept same at small = go (slice_index s.words k == old) refl
      where
        go : (b : Bool) → (slice_index s.words k == old) ≡ b
            → (w : SeatView) × (a : Act (Unit {0})) × Valid s.homes me.1 a
            × Kept locks lanes (slice_set s.words k (either b (bit_or old (2 ^ bit_of m l)) (slice_index s.words k))) (slice_set s.views id w)
            × ((carried_after me.1 a ≡ me.1) × ((lane : ℕ) → me.0.number ≡ Some lane → TakesIf b me.0 lane k m (slice_index s.words k) w))
        go true is =
            let hit : slice_index s.words k ≡ old = eqb-true _ _ is in
            let word = subst (λ n. IsWord kept.history k n) hit (kept.bits k inside) in
            let among = counted locks lanes s.words s.views kept id l me.0 at mine in
            let may = free_word m kept.history k old free word (λ other many. unmade lanes kept.history kept.legal other (let bound = kept.few in omega arith)) in (
              seeing me.0 (kept.history ++ event l k m true ∷ []),
              keeps,
              tt,
              keeps_event locks lanes s.words s.views kept id l me.0 at mine k m true (bit_or old (2 ^ bit_of m l)) inside (record { lane = among.0; may = may }) (taken_word kept.history l k m old few word),
              (
                refl,
                only (λ lane. Stepped me.0 lane k m true (seeing me.0 (kept.history ++ event l k m true ∷ [])))
                    (record { history = kept.history; meets = meets locks lanes s.words s.views kept id l me.0 at mine; allowed = record { lane = subst (λ n. l < n) (sym among.1) among.0; may = may }; view = refl }),
              ),
            )
        go false isnt = (seeing me.0 kept.history, keeps, tt, stays k s.words s.views kept at, (refl, loaded k inside s.words s.views kept at))

    pub gives_back : holds (seen me.0.fronts) k m l ≡ true
        → Allows (λ s. Kept locks lanes s.words s.views) slots id me k (λ n. bit_and n (bit_not w64 (2 ^ bit_of m l))) (GivesBack m (step slots k (bit_not w64 (2 ^ bit_of m l)) 0 none) me)
    gives_back held s kept same at small =
        let met = meets locks lanes s.words s.views kept id l me.0 at mine in
        let among = counted locks lanes s.words s.views kept id l me.0 at mine in
        let may : holds kept.history k m l ≡ true = same_held kept.history (seen me.0.fronts) k m l met.on.own_same ∙ held in (
          seeing me.0 (kept.history ++ event l k m false ∷ []),
          keeps,
          tt,
          keeps_event locks lanes s.words s.views kept id l me.0 at mine k m false (bit_and (slice_index s.words k) (bit_not w64 (2 ^ bit_of m l))) inside (record { lane = among.0; may = may })
              (given_word kept.history l k m (slice_index s.words k) few (kept.bits k inside)),
          (
            refl,
            only (λ lane. Stepped me.0 lane k m false (seeing me.0 (kept.history ++ event l k m false ∷ [])))
                (record { history = kept.history; meets = met; allowed = record { lane = subst (λ n. l < n) (sym among.1) among.0; may = may }; view = refl }),
          ),
        )

  -- the same, at the bit and the mode that the code has
  pub takes_at : (k : ℕ) (m mode : LockMode) (bit old : ℕ) → l < 32 → k < locks → mode ≡ m → bit ≡ 2 ^ bit_of mode l → IsFreeWord mode old
      → Allows (λ s. Kept locks lanes s.words s.views) slots id me k (λ n. either (n == old) (bit_or old bit) n) (Takes m (step slots k old (bit_or old bit) none) me)
  takes_at k m mode bit old few inside is set free =
      subst (λ b. Allows (λ s. Kept locks lanes s.words s.views) slots id me k (λ n. either (n == old) (bit_or old b) n) (Takes m (step slots k old (bit_or old b) none) me))
      (sym (set ∙ ap (λ x. 2 ^ bit_of x l) is))
      (takes k m few inside old (subst (λ x. IsFreeWord x old) is free))

  pub gives_back_at : (k : ℕ) (m mode : LockMode) (bit : ℕ) → l < 32 → k < locks → mode ≡ m → bit ≡ 2 ^ bit_of mode l → holds (seen me.0.fronts) k mode l ≡ true
      → Allows (λ s. Kept locks lanes s.words s.views) slots id me k (λ n. bit_and n (bit_not w64 bit)) (GivesBack m (step slots k (bit_not w64 bit) 0 none) me)
  gives_back_at k m mode bit few inside is set held =
      subst (λ b. Allows (λ s. Kept locks lanes s.words s.views) slots id me k (λ n. bit_and n (bit_not w64 b)) (GivesBack m (step slots k (bit_not w64 b) 0 none) me))
      (sym (set ∙ ap (λ x. 2 ^ bit_of x l) is))
      (gives_back k m few inside (subst (λ x. holds (seen me.0.fronts) k x l ≡ true) is held))
