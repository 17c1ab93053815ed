-- Each step at the counter keeps the rule.
use Rattle.std.proofs.Common.{◌≡◌, ◌≢◌, ◌==◌, ℕ, zero, suc, ◌+◌, ◌<◌, ◌≤◌, Bool, true, false, cond, List, [], ◌∷◌, ◌++◌, length, set, get_or, map, refl, sym, ap, ◌∙◌, subst, ⊎_elim, arith, get_or-set_same, length-set}
use Rattle.std.specs.Prelude.{All, Option, Some, None, IfSome, slice_get, slice_index, slice_set, ltb}
use Rattle.std.proofs.lemmas.Bool.{eqb-true, cases_lt, lt-ltb, le-ltb}
use Rattle.std.proofs.lemmas.List.{length-append, length_push, length-map, map-append}
use Rattle.std.proofs.lemmas.List.Elements.{All-append, All-cons}
use prog.Atomic.{either}
use mathlib.Core.Option.{some, none, some-injective, some-ne-none}
use mathlib.Core.Option as maybe
use lib.ListN.{get_elem?}
use Rattle.atomic_table.specs.Table.{State, Act, Me, keeps, gives, takes, chain, rest, put_back, carried_after, Valid, stepped, Allows, Splits, Joins, opening, Final, Seen}
use Rattle.atomic_table.proofs.Lists.{at_set, at_snoc, set_else, set_here, set_again}
use Rattle.ext_crew.specs.declared.jobs.done.Done.{Done}
use Rattle.ext_crew.specs.declared.jobs.rule.Drawn.{Drawn}
use Rattle.ext_crew.specs.declared.jobs.slot.Slot.{Slot}
use Rattle.ext_crew.specs.declared.jobs.slot.Slot.TheVariants as slot
use Rattle.ext_crew.specs.Times.{times}
use Rattle.ext_crew.specs.InnerCounter.{drawn, item_in, slot_of, done_at, giving, done_by, jobs_of, total, ends, Fits, Stands, Kept, Loaded, Took, DrawsIf, hirer, hired, together, spent, HoldsOutcome, IsDrawing, HasDrawn}
use Rattle.ext_crew.proofs.Totals.{total_set, total_push, total_one, total_two, total_most, total_sole, times-append, ends-append, ends_none, below_next, is_below, at_most_once, end_once, end_none, end_most, none_below, same_once, done_counted}

set_same : (ws : List ℕ) (k : ℕ) → set ws k (get_or ws k 0) ≡ ws
set_same [] k = refl
set_same (w ∷ ws) zero = refl
set_same (w ∷ ws) (suc k) = ap (λ t. w ∷ t) (set_same ws k)

module _ {T O : Type 0} (items : List T) where
  -- the counter never goes far past the items
  word_bound : (s : State (Slot T O) (Drawn T O)) → Kept items s → slice_index s.words 0 ≤ length items + 33
  word_bound s kept =
      let most = total_most (λ v. ends (length items) v.draws) (λ v. v.parts) s.views (λ i v at. (kept.fits i v at).few) in
      let parts = kept.parts in
      let bound = kept.bound in
      omega (arith, most, parts, bound)

  -- a number that a seat has drawn is below the counter
  drawn_below : (s : State (Slot T O) (Drawn T O)) → Kept items s → (id : ℕ) (v : Drawn T O) → get_elem? s.views id ≡ some v → (x : ℕ) → 0 < times x v.draws → x < slice_index s.words 0
  drawn_below s kept id v at x drew =
      let most = total_one (λ u. times x u.draws) s.views id v at in
      let once = kept.once x in
      is_below x (slice_index s.words 0) (times x v.draws) drew (omega (arith, most, once))

  module _ (slots id : ℕ) (me : Me (Slot T O) (Drawn T O)) (some_part : 0 < me.0.parts) where
    loaded : (s : State (Slot T O) (Drawn T O)) → Kept items s → get_elem? s.views id ≡ some me.0 → Loaded me (slice_index s.words 0) me
    loaded s kept at =
        let same : me.0.items ≡ items = (kept.fits id me.0 at).knows some_part in
        let count : length me.0.items ≡ length items = ap length same in
        let bound = word_bound s kept in
        record { same = refl; bound = omega (arith, count, bound) }

    stays : (s : State (Slot T O) (Drawn T O)) → Kept items s → get_elem? s.views id ≡ some me.0 → Kept items (stepped s 0 (slice_index s.words 0) id me.1 me.0 keeps)
    stays s kept at =
        let W : List ℕ → Type 0 = λ ws. Kept items (record { words = ws; homes = s.homes; views = set s.views id me.0 }) in
        let V : List (Drawn T O) → Type 0 = λ vs. Kept items (record { words = s.words; homes = s.homes; views = vs }) in
        subst W (sym (set_same s.words 0)) (subst V (sym (set_again s.views id me.0 at)) kept)

    pub loads : Allows (λ s. Kept items s) slots id me 0 (λ n. n) (λ found w. Loaded me found w)
    loads s kept same at small = (me.0, keeps, tt, stays s kept at, loaded s kept at)

    module _ (drew : me.0.draws ≡ jobs_of (done_by me)) (no_end : ends (length items) me.0.draws ≡ 0) (holds : HoldsOutcome me.1) where
      abbrev next : ℕ → Drawn T O
      next j = drawn me.0.parts (me.0.draws ++ j ∷ []) (done_by me) me.0.items

      -- how often a number stands among what was given back and what is held
      drew_times : (x : ℕ) → times x me.0.draws ≡ times x (jobs_of me.0.given) + times x (jobs_of (giving me.1))
      drew_times x =
          let J : Done O → ℕ = λ d. d.job in
          ap (times x) (drew ∙ map-append J me.0.given (giving me.1)) ∙ times-append x (jobs_of me.0.given) (jobs_of (giving me.1))

      module _ (s : State (Slot T O) (Drawn T O)) (kept : Kept items s) (at : get_elem? s.views id ≡ some me.0) where
        once_most : (x : ℕ) → times x me.0.draws ≤ 1
        once_most x =
            let one = total_one (λ u. times x u.draws) s.views id me.0 at in
            let all = kept.once x in
            let most = at_most_once x (slice_index s.words 0) in
            omega (arith, one, all, most)

        -- the slot that is held is that of a number that this seat has drawn, and that it has not given back
        abbrev IsHeld : List (ℕ × Slot T O) → Type 0
        IsHeld [] = Unit {0}
        IsHeld (x ∷ xs) = (0 < times x.0 me.0.draws) × (◌≡◌ {A = ℕ} (times x.0 (jobs_of me.0.given)) 0)

        held_from : (c : List (ℕ × Slot T O)) → HoldsOutcome c → ((x : ℕ) → times x me.0.draws ≡ times x (jobs_of me.0.given) + times x (jobs_of (giving c))) → IsHeld c
        held_from [] h all = tt
        held_from (x ∷ xs) h all =
            let J : List (Done O) → ℕ = λ l. times x.0 (jobs_of l) in
            let one : J (done_at x.0 x.1) ≡ J (done_at {T = T} x.0 (slot.Outcome h.1.0)) = ap (λ y. J (done_at x.0 y)) h.1.1 in
            let same = same_once x.0 in
            let sum = all x.0 in
            let most = once_most x.0 in
            (omega (arith, one, same, sum), omega (arith, one, same, sum, most))

        held : IsHeld me.1
        held = held_from me.1 holds drew_times

        below : (x : ℕ) → 0 < times x me.0.draws → x < slice_index s.words 0
        below = drawn_below s kept id me.0 at

        -- it is below the counter, so the slots from there on stay
        back_else : (c : List (ℕ × Slot T O)) → IsHeld c → (k : ℕ) → slice_index s.words 0 ≤ k → get_elem? (put_back s.homes c) k ≡ get_elem? s.homes k
        back_else [] h k l = refl
        back_else (x ∷ xs) h k l = let b = below x.0 h.0 in set_else s.homes x.0 k (some x.1) (λ e. omega (arith, b, l, e))

        -- and so do those that this seat has given back
        back_own : (c : List (ℕ × Slot T O)) → IsHeld c → (d : Done O) → 0 < times d.job (jobs_of me.0.given) → get_elem? (put_back s.homes c) d.job ≡ get_elem? s.homes d.job
        back_own [] h d l = refl
        back_own (x ∷ xs) h d l =
            set_else s.homes x.0 d.job (some x.1)
            (λ e. let same : times d.job (jobs_of me.0.given) ≡ times x.0 (jobs_of me.0.given) = ap (λ (n : ℕ). times n (jobs_of me.0.given)) e in let none = h.1 in omega (arith, same, none, l))

        -- and those that other seats have given back
        back_other : (c : List (ℕ × Slot T O)) → IsHeld c → (seat : ℕ) (u : Drawn T O) → seat ≢ id → get_elem? s.views seat ≡ some u → (d : Done O) → 0 < times d.job u.draws
            → get_elem? (put_back s.homes c) d.job ≡ get_elem? s.homes d.job
        back_other [] h seat u apart there d l = refl
        back_other (x ∷ xs) h seat u apart there d l =
            set_else s.homes x.0 d.job (some x.1)
            (λ e.
            let same : times d.job u.draws ≡ times x.0 u.draws = ap (λ (n : ℕ). times n u.draws) e in
            let both = total_two (λ v. times x.0 v.draws) s.views seat id u me.0 there at apart in
            let all = kept.once x.0 in
            let most = at_most_once x.0 (slice_index s.words 0) in
            let own = h.0 in
            omega (arith, same, both, all, most, own, l))

        -- the rule after a draw, but for the slot that is taken
        module _ (homes : List (maybe.Option (Slot T O))) (size : length homes ≡ length items)
            (same : (k : ℕ) → k < slice_index s.words 0 → get_elem? homes k ≡ get_elem? (put_back s.homes me.1) k)
            (stand : (k : ℕ) → slice_index s.words 0 < k → k < length items → get_elem? homes k ≡ some (some (slot_of (slice_get items k)))) where
          found_next : slice_index (slice_set s.words 0 (slice_index s.words 0 + 1)) 0 ≡ slice_index s.words 0 + 1
          found_next = get_or-set_same s.words 0 (slice_index s.words 0 + 1) 0 (let size = kept.size in omega (arith, size))

          drew_next : (x : ℕ) → times x (jobs_of (done_by me)) ≤ times x (me.0.draws ++ slice_index s.words 0 ∷ [])
          drew_next x =
              let more = times-append x me.0.draws (slice_index s.words 0 ∷ []) in
              let own : times x me.0.draws ≡ times x (jobs_of (done_by me)) = ap (times x) drew in
              omega (arith, more, own)

          fits_next : (seat : ℕ) (u : Drawn T O) → get_elem? (set s.views id (next (slice_index s.words 0))) seat ≡ some u → Fits items u
          fits_next seat u there =
              ⊎_elim
              (λ (x : (seat ≡ id) × (next (slice_index s.words 0) ≡ u)).
              let F : Drawn T O → Type 0 = λ y. Fits items y in
              let more = ends-append (length items) me.0.draws (slice_index s.words 0 ∷ []) in
              let one = end_most (length items) (slice_index s.words 0) in
              subst F x.1 (record {
                few = omega (arith, more, one, no_end, some_part);
                idle = λ none. absurd (omega (arith, none, some_part));
                knows = (kept.fits id me.0 at).knows;
                drew = drew_next;
              }))
              (λ (x : (seat ≢ id) × (get_elem? s.views seat ≡ some u)). kept.fits seat u x.1)
              (at_set s.views id seat (next (slice_index s.words 0)) u there)

          -- the slot that is given back has its outcome
          stands_back : (c : List (ℕ × Slot T O)) → HoldsOutcome c → IsHeld c → ((k : ℕ) → k < slice_index s.words 0 → get_elem? homes k ≡ get_elem? (put_back s.homes c) k) → All (λ d. Stands homes d) (giving c)
          stands_back [] h own kept_so = λ k d l. absurd (omega arith)
          stands_back (x ∷ xs) h own kept_so =
              let P : Done O → Type 0 = λ d. Stands homes d in
              let L : Slot T O → Type 0 = λ y. All P (done_at x.0 y) in
              let d : Done O = record { job = x.0; outcome = h.1.0 } in
              let few : x.0 < length items =
              ⊎_elim (λ (l : x.0 < length items). l)
              (λ (l : length items ≤ x.0). let none = ends_none (length items) me.0.draws no_end x.0 l in let some_here = own.0 in absurd (omega (arith, none, some_here)))
              (cases_lt x.0 (length items)) in
              let all = kept.slots in
              let stood : P d = kept_so x.0 (below x.0 own.0) ∙ (set_here s.homes x.0 (some x.1) (omega (arith, few, all)) ∙ ap (λ y. some (some y)) h.1.1) in
              let none : All P [] = λ k e l. absurd (omega arith) in
              subst L (sym h.1.1) (All-cons P d [] stood none)

          given_next : (seat : ℕ) (u : Drawn T O) → get_elem? (set s.views id (next (slice_index s.words 0))) seat ≡ some u → All (λ d. Stands homes d) u.given
          given_next seat u there =
              let P : Done O → Type 0 = λ d. Stands homes d in
              ⊎_elim
              (λ (x : (seat ≡ id) × (next (slice_index s.words 0) ≡ u)).
              let F : Drawn T O → Type 0 = λ y. All P y.given in
              let old : All P me.0.given = λ k d l.
              let e = get_or me.0.given k d in
              let drawn_once = done_counted me.0.given k d l in
              let sum = drew_times e.job in
              same e.job (below e.job (omega (arith, sum, drawn_once))) ∙ (back_own me.1 held e drawn_once ∙ kept.given id me.0 at k d l) in
              subst F x.1 (All-append P me.0.given (giving me.1) old (stands_back me.1 holds held same)))
              (λ (x : (seat ≢ id) × (get_elem? s.views seat ≡ some u)). λ k d l.
              let e = get_or u.given k d in
              let drawn_once = done_counted u.given k d l in
              let most = (kept.fits seat u x.1).drew e.job in
              let drew_it : 0 < times e.job u.draws = omega (arith, drawn_once, most) in
              same e.job (drawn_below s kept seat u x.1 e.job drew_it) ∙ (back_other me.1 held seat u x.0 x.1 e drew_it ∙ kept.given seat u x.1 k d l))
              (at_set s.views id seat (next (slice_index s.words 0)) u there)

          bound_next : slice_index s.words 0 + 1 ≤ length items + total (λ v. ends (length items) v.draws) (set s.views id (next (slice_index s.words 0)))
          bound_next =
              let sum = total_set (λ v. ends (length items) v.draws) s.views id me.0 (next (slice_index s.words 0)) at in
              let more = ends-append (length items) me.0.draws (slice_index s.words 0 ∷ []) in
              let bound = kept.bound in
              ⊎_elim
              (λ (l : slice_index s.words 0 < length items). omega (arith, l))
              (λ (l : length items ≤ slice_index s.words 0).
              let one = end_once (length items) (slice_index s.words 0) l in
              omega (arith, sum, more, bound, one))
              (cases_lt (slice_index s.words 0) (length items))

          pub kept_next : Kept items (record { words = slice_set s.words 0 (slice_index s.words 0 + 1); homes = homes; views = slice_set s.views id (next (slice_index s.words 0)) })
          kept_next =
              let w = next (slice_index s.words 0) in
              record {
                size = length-set s.words 0 (slice_index s.words 0 + 1) ∙ kept.size;
                slots = size;
                parts = (let sum = total_set (λ v. v.parts) s.views id me.0 w at in let all = kept.parts in omega (arith, sum, all));
                once = λ x.
                    let sum = total_set (λ v. times x v.draws) s.views id me.0 w at in
                    let more = times-append x me.0.draws (slice_index s.words 0 ∷ []) in
                    let all = kept.once x in
                    let under = below_next x (slice_index s.words 0) in
                    let now : ◌≡◌ {A = ℕ} (cond (ltb x (slice_index (slice_set s.words 0 (slice_index s.words 0 + 1)) 0)) 1 0) (cond (ltb x (slice_index s.words 0 + 1)) 1 0) = ap (λ (n : ℕ). cond (ltb x n) 1 0) found_next in
                    omega (arith, sum, more, all, under, now);
                count =
                    (let sum = total_set (λ v. length v.draws) s.views id me.0 w at in
                    let more = length_push me.0.draws (slice_index s.words 0) in
                    let all = kept.count in
                    let now = found_next in
                    omega (arith, sum, more, all, now));
                bound = (let now = found_next in let most = bound_next in omega (arith, now, most));
                fits = fits_next;
                stand = λ k from under. let now = found_next in stand k (omega (arith, now, from)) under;
                given = given_next;
              }

        size_back : (c : List (ℕ × Slot T O)) → length (put_back s.homes c) ≡ length items
        size_back [] = kept.slots
        size_back (x ∷ xs) = length-set s.homes x.0 (some x.1) ∙ kept.slots

        -- where the counter is below the number of items, the slot of the job is taken
        took_job : slice_index s.words 0 < length items
            → (w : Drawn T O) × (a : Act (Slot T O)) × Valid s.homes me.1 a × Kept items (stepped s 0 (slice_index s.words 0 + 1) id me.1 w a) × Took me (slice_index s.words 0) (w, carried_after me.1 a)
        took_job few =
            let j = slice_index s.words 0 in
            let own : me.0.items ≡ items = (kept.fits id me.0 at).knows some_part in
            let here : get_elem? (put_back s.homes me.1) j ≡ some (some (slot_of (slice_get items j))) = back_else me.1 held j (omega arith) ∙ kept.stand j (omega arith) few in
            let count : length me.0.items ≡ length items = ap length own in
            let test : ltb j (length me.0.items) ≡ true = lt-ltb j (length me.0.items) (omega (arith, few, count)) in
            let given : slice_get me.0.items j ≡ slice_get items j = ap (λ (xs : List T). slice_get xs j) own in
            let most = total_one (λ u. length u.draws) s.views id me.0 at in
            let all = kept.count in (
              next j,
              chain gives (takes j (slot_of (slice_get items j))),
              (tt, here),
              kept_next (slice_set (put_back s.homes me.1) j none)
                  (length-set (put_back s.homes me.1) j none ∙ size_back me.1)
                  (λ k under. set_else (put_back s.homes me.1) j k none (λ e. omega (arith, under, e)))
                  (λ k from under. set_else (put_back s.homes me.1) j k none (λ e. omega (arith, from, e)) ∙ (back_else me.1 held k (omega (arith, from)) ∙ kept.stand k (omega (arith, from)) under)),
              record {
                view = refl;
                slots = sym (ap (λ b. cond b ((j, slot_of (slice_get me.0.items j)) ∷ rest me.1) (rest me.1)) test ∙ ap (λ (o : Option T). (j, slot_of o) ∷ rest me.1) given);
                later = omega (arith, most, all);
              },
            )

        -- and past it no slot is taken
        took_end : length items ≤ slice_index s.words 0
            → (w : Drawn T O) × (a : Act (Slot T O)) × Valid s.homes me.1 a × Kept items (stepped s 0 (slice_index s.words 0 + 1) id me.1 w a) × Took me (slice_index s.words 0) (w, carried_after me.1 a)
        took_end past =
            let j = slice_index s.words 0 in
            let own : me.0.items ≡ items = (kept.fits id me.0 at).knows some_part in
            let count : length me.0.items ≡ length items = ap length own in
            let test : ltb j (length me.0.items) ≡ false = le-ltb j (length me.0.items) (omega (arith, past, count)) in
            let most = total_one (λ u. length u.draws) s.views id me.0 at in
            let all = kept.count in (
              next j,
              gives,
              tt,
              kept_next (put_back s.homes me.1) (size_back me.1) (λ k under. refl) (λ k from under. absurd (omega (arith, past, from, under))),
              record {
                view = refl;
                slots = sym (ap (λ b. cond b ((j, slot_of (slice_get me.0.items j)) ∷ rest me.1) (rest me.1)) test);
                later = omega (arith, most, all);
              },
            )

      pub draws : (old new : ℕ) → new ≡ old + 1 → Allows (λ s. Kept items s) slots id me 0 (λ n. either (n == old) new n) (λ found w. DrawsIf (found == old) me found w)
      draws old new is s kept same at small = go (slice_index s.words 0 == old) refl
        where
          go : (b : Bool) → (slice_index s.words 0 == old) ≡ b
              → (w : Drawn T O) × (a : Act (Slot T O)) × Valid s.homes me.1 a
              × Kept items (stepped s 0 (either b new (slice_index s.words 0)) id me.1 w a)
              × DrawsIf b me (slice_index s.words 0) (w, carried_after me.1 a)
          go true hit =
              let next_is : slice_index s.words 0 + 1 ≡ new = ap (λ (n : ℕ). n + 1) (eqb-true _ _ hit) ∙ sym is in
              let G : ℕ → Type 0 = λ n. (w : Drawn T O) × (a : Act (Slot T O)) × Valid s.homes me.1 a × Kept items (stepped s 0 n id me.1 w a) × Took me (slice_index s.words 0) (w, carried_after me.1 a) in
              subst G next_is (⊎_elim (λ (l : slice_index s.words 0 < length items). took_job s kept at l) (λ (l : length items ≤ slice_index s.words 0). took_end s kept at l) (cases_lt (slice_index s.words 0) (length items)))
          go false miss = (me.0, keeps, tt, stays s kept at, loaded s kept at)

  -- ---- seats that are split off and joined in

  pub hires : (id : ℕ) (v : Drawn T O) → 1 < v.parts → v.draws ≡ [] → Splits {S = Slot T O} (λ s. Kept items s) id v (hirer v) (hired v)
  hires id v some_left nothing s kept at =
      let own = kept.fits id v at in
      let mine = own.knows (omega (arith, some_left)) in
      record {
        size = kept.size;
        slots = kept.slots;
        parts =
            (let a = total_set (λ u. u.parts) s.views id v (hirer v) at in
            let b = total_push (λ u. u.parts) (set s.views id (hirer v)) (hired v) in
            let all = kept.parts in
            omega (arith, a, b, all, some_left));
        once = λ x.
            let a = total_set (λ u. times x u.draws) s.views id v (hirer v) at in
            let b = total_push (λ u. times x u.draws) (set s.views id (hirer v)) (hired v) in
            let all = kept.once x in
            omega (arith, a, b, all);
        count =
            (let a = total_set (λ u. length u.draws) s.views id v (hirer v) at in
            let b = total_push (λ u. length u.draws) (set s.views id (hirer v)) (hired v) in
            let all = kept.count in
            omega (arith, a, b, all));
        bound =
            (let a = total_set (λ u. ends (length items) u.draws) s.views id v (hirer v) at in
            let b = total_push (λ u. ends (length items) u.draws) (set s.views id (hirer v)) (hired v) in
            let all = kept.bound in
            omega (arith, a, b, all));
        fits = λ seat u there.
            let F : Drawn T O → Type 0 = λ y. Fits items y in
            ⊎_elim
            (λ (old : get_elem? (set s.views id (hirer v)) seat ≡ some u). ⊎_elim
            (λ (x : (seat ≡ id) × (hirer v ≡ u)).
            let none : ◌≡◌ {A = ℕ} (ends (length items) v.draws) 0 = ap (ends (length items)) nothing in
            subst F x.1 (record { few = omega (arith, none); idle = λ _. nothing; knows = λ _. mine; drew = own.drew }))
            (λ (x : (seat ≢ id) × (get_elem? s.views seat ≡ some u)). kept.fits seat u x.1)
            (at_set s.views id seat (hirer v) u old))
            (λ (new : hired v ≡ u). subst F new (record { few = omega arith; idle = λ _. refl; knows = λ _. mine; drew = λ _. omega arith }))
            (at_snoc (set s.views id (hirer v)) (hired v) u seat there);
        stand = kept.stand;
        given = λ seat u there.
            let G : Drawn T O → Type 0 = λ y. All (λ d. Stands s.homes d) y.given in
            let nothing_given : G (hired v) = λ k d l. absurd (omega arith) in
            ⊎_elim
            (λ (old : get_elem? (set s.views id (hirer v)) seat ≡ some u). ⊎_elim
            (λ (x : (seat ≡ id) × (hirer v ≡ u)). subst G x.1 (kept.given id v at))
            (λ (x : (seat ≢ id) × (get_elem? s.views seat ≡ some u)). kept.given seat u x.1)
            (at_set s.views id seat (hirer v) u old))
            (λ (new : hired v ≡ u). subst G new nothing_given)
            (at_snoc (set s.views id (hirer v)) (hired v) u seat there);
      }

  pub joins : (id : ℕ) (v : Drawn T O) (other : ℕ) (w : Drawn T O) → 0 < v.parts → Joins {S = Slot T O} (λ s. Kept items s) id v other w (together v w) spent
  joins id v other w some_part s kept at apart there =
      let both = together v w in
      let was : get_elem? s.views other ≡ some w = ⊎_elim (λ (x : (other ≡ id) × (both ≡ w)). absurd (apart x.0)) (λ (x : (other ≢ id) × (get_elem? s.views other ≡ some w)). x.1) (at_set s.views id other both w there) in
      let own = kept.fits id v at in
      let theirs = kept.fits other w was in
      record {
        size = kept.size;
        slots = kept.slots;
        parts =
            (let a = total_set (λ u. u.parts) s.views id v both at in
            let b = total_set (λ u. u.parts) (set s.views id both) other w spent there in
            let all = kept.parts in
            omega (arith, a, b, all));
        once = λ x.
            let a = total_set (λ u. times x u.draws) s.views id v both at in
            let b = total_set (λ u. times x u.draws) (set s.views id both) other w spent there in
            let c = times-append x v.draws w.draws in
            let all = kept.once x in
            omega (arith, a, b, c, all);
        count =
            (let a = total_set (λ u. length u.draws) s.views id v both at in
            let b = total_set (λ u. length u.draws) (set s.views id both) other w spent there in
            let c = length-append v.draws w.draws in
            let all = kept.count in
            omega (arith, a, b, c, all));
        bound =
            (let a = total_set (λ u. ends (length items) u.draws) s.views id v both at in
            let b = total_set (λ u. ends (length items) u.draws) (set s.views id both) other w spent there in
            let c = ends-append (length items) v.draws w.draws in
            let all = kept.bound in
            omega (arith, a, b, c, all));
        fits = λ seat u is.
            let F : Drawn T O → Type 0 = λ y. Fits items y in
            ⊎_elim
            (λ (x : (seat ≡ other) × (spent ≡ u)). subst F x.1 (record { few = omega arith; idle = λ _. refl; knows = λ none. absurd (omega (arith, none)); drew = λ _. omega arith }))
            (λ (y : (seat ≢ other) × (get_elem? (set s.views id both) seat ≡ some u)). ⊎_elim
            (λ (x : (seat ≡ id) × (both ≡ u)).
            let c = ends-append (length items) v.draws w.draws in
            let a = own.few in
            let b = theirs.few in
            subst F x.1 (record {
              few = omega (arith, a, b, c);
              idle = λ none. absurd (omega (arith, none, some_part));
              knows = λ _. own.knows some_part;
              drew = λ job.
                  let J : Done O → ℕ = λ d. d.job in
                  let numbers : times job (jobs_of (v.given ++ w.given)) ≡ times job (jobs_of v.given ++ jobs_of w.given) = ap (times job) (map-append J v.given w.given) in
                  let x = times-append job (jobs_of v.given) (jobs_of w.given) in
                  let y = times-append job v.draws w.draws in
                  let p = own.drew job in
                  let q = theirs.drew job in
                  omega (arith, numbers, x, y, p, q);
            }))
            (λ (x : (seat ≢ id) × (get_elem? s.views seat ≡ some u)). kept.fits seat u x.1)
            (at_set s.views id seat both u y.1))
            (at_set (set s.views id both) other seat spent u is);
        stand = kept.stand;
        given = λ seat u is.
            let P : Done O → Type 0 = λ d. Stands s.homes d in
            let G : Drawn T O → Type 0 = λ y. All P y.given in
            let nothing_given : G spent = λ k d l. absurd (omega arith) in
            ⊎_elim
            (λ (x : (seat ≡ other) × (spent ≡ u)). subst G x.1 nothing_given)
            (λ (y : (seat ≢ other) × (get_elem? (set s.views id both) seat ≡ some u)). ⊎_elim
            (λ (x : (seat ≡ id) × (both ≡ u)). subst G x.1 (All-append P v.given w.given (kept.given id v at) (kept.given other w was)))
            (λ (x : (seat ≢ id) × (get_elem? s.views seat ≡ some u)). kept.given seat u x.1)
            (at_set s.views id seat both u y.1))
            (at_set (set s.views id both) other seat spent u is);
      }

  -- ---- the beginning and the end

  at_first : (v w : Drawn T O) (j : ℕ) → get_elem? (v ∷ []) j ≡ some w → v ≡ w
  at_first v w zero e = some-injective v w e
  at_first v w (suc j) e = absurd (some-ne-none w (sym e))

  homes_stand : (xs : List T) (k : ℕ) → k < length xs → get_elem? (map some (map slot.Item xs)) k ≡ some (some (slot_of {O = O} (slice_get xs k)))
  homes_stand [] k l = absurd (omega (arith, l))
  homes_stand (x ∷ xs) zero l = refl
  homes_stand (x ∷ xs) (suc k) l = homes_stand xs k (omega (arith, l))

  pub opens : Kept items (opening (0 ∷ []) (map slot.Item items) (drawn {O = O} 33 [] [] items))
  opens =
      let first : Drawn T O = drawn 33 [] [] items in
      let homes : List (maybe.Option (Slot T O)) = map some (map slot.Item items) in
      record {
        size = refl;
        slots = length-map (map slot.Item items) some ∙ length-map items slot.Item;
        parts = refl;
        once = none_below;
        count = refl;
        bound = omega arith;
        fits = λ seat u there.
            let F : Drawn T O → Type 0 = λ y. Fits items y in
            subst F (at_first first u seat there) (record { few = omega arith; idle = λ _. refl; knows = λ _. refl; drew = λ _. omega arith });
        stand = λ k from below. homes_stand items k below;
        given = λ seat u there.
            let G : Drawn T O → Type 0 = λ y. All (λ d. Stands homes d) y.given in
            let nothing_given : G first = λ k d l. absurd (omega arith) in
            subst G (at_first first u seat there) nothing_given;
      }

  -- the seat that stands for all of them has drawn each number below the counter once, and no other; and each outcome that it gave back stands in its slot
  pub ends_with : (id : ℕ) (v : Drawn T O) (ws : List ℕ) (xs : List (Slot T O)) → v.parts ≡ 33 → Final {S = Slot T O} (Seen (λ s. Kept items s) id v) ws xs
      → ((drawn : ℕ) × ((x : ℕ) → times x v.draws ≡ cond (ltb x drawn) 1 0)) × (length xs ≡ length items) × All (λ d. get_elem? xs d.job ≡ some (slot.Outcome d.outcome)) v.given
  ends_with id v ws xs all last =
      let s = last.0 in
      let kept = last.1.0 in
      let at = last.1.1 in (
        (slice_index s.words 0, λ x. sym (total_sole (λ u. times x u.draws) (λ u. u.parts) s.views id v at (kept.parts ∙ sym all) (λ j u there none. ap (times x) ((kept.fits j u there).idle none))) ∙ kept.once x),
        sym last.3 ∙ kept.slots,
        λ k d l. let e = get_or v.given k d in last.4 e.job (slot.Outcome e.outcome) (kept.given id v at k d l),
      )

  -- ---- a worker's seat

  -- a seat that has drawn nothing is between its draws
  pub idle_draws : (me : Me (Slot T O) (Drawn T O)) → me ≡ (drawn 1 [] [] items, []) → IsDrawing items me
  idle_draws me is =
      let D : Me (Slot T O) (Drawn T O) → Type 0 = λ m. IsDrawing items m in
      let fresh : D (drawn 1 [] [] items, []) = record { parts = refl; draws = refl; knows = refl; no_end = refl; holds = tt } in
      subst D (sym is) fresh

  module _ (slots id : ℕ) (me : Me (Slot T O) (Drawn T O)) (is : IsDrawing items me) where
    part : 0 < me.0.parts
    part = let p = is.parts in omega (arith, p)

    pub may_load : Allows (λ s. Kept items s) slots id me 0 (λ n. n) (λ found w. Loaded me found w)
    may_load = loads slots id me part

    pub may_draw : (old new : ℕ) → new ≡ old + 1 → Allows (λ s. Kept items s) slots id me 0 (λ n. either (n == old) new n) (λ found w. DrawsIf (found == old) me found w)
    may_draw = draws slots id me part is.draws is.no_end is.holds

    module _ (j : ℕ) (w : Me (Slot T O) (Drawn T O)) (took : Took me j w) where
      took_view : w.0 ≡ drawn 1 (jobs_of (done_by me) ++ j ∷ []) (done_by me) items
      took_view =
          let P : ℕ → Drawn T O = λ n. drawn n (me.0.draws ++ j ∷ []) (done_by me) me.0.items in
          let D : List ℕ → Drawn T O = λ l. drawn 1 (l ++ j ∷ []) (done_by me) me.0.items in
          let I : List T → Drawn T O = λ l. drawn 1 (jobs_of (done_by me) ++ j ∷ []) (done_by me) l in
          took.view ∙ (ap P is.parts ∙ (ap D is.draws ∙ ap I is.knows))

      no_end_yet : ◌≡◌ {A = ℕ} (ends (length items) (jobs_of (done_by me))) 0
      no_end_yet = sym (ap (ends (length items)) is.draws) ∙ is.no_end

      pub goes_on : (v : Me (Slot T O) (Drawn T O)) → v.0 ≡ w.0 → v.1 ≡ (j, slot.Empty) ∷ [] → j < length items → HasDrawn items v (done_by me) j
      goes_on v same holds few =
          let more = ends-append (length items) (jobs_of (done_by me)) (j ∷ []) in
          let none = end_none (length items) j few in
          let so_far = no_end_yet in
          record {
            left = (λ i. ((same ∙ took_view) i, holds i));
            no_end = omega (arith, more, none, so_far);
          }

  -- the outcome is put into the slot of the job
  pub put_in : (me new : Me (Slot T O) (Drawn T O)) (done : List (Done O)) (d : Done O) → HasDrawn items me done d.job → new ≡ (me.0, (d.job, slot.Outcome d.outcome) ∷ rest me.1)
      → IsDrawing items new × (done_by new ≡ done ++ d ∷ [])
  put_in me new done d drew is =
      let J : Done O → ℕ = λ e. e.job in
      let full : Me (Slot T O) (Drawn T O) → Me (Slot T O) (Drawn T O) = λ m. (m.0, (d.job, slot.Outcome d.outcome) ∷ rest m.1) in
      let so : new ≡ (drawn 1 (jobs_of done ++ d.job ∷ []) done items, (d.job, slot.Outcome d.outcome) ∷ []) = is ∙ ap full drew.left in
      let P : Me (Slot T O) (Drawn T O) → Type 0 = λ m. IsDrawing items m × (done_by m ≡ done ++ d ∷ []) in
      let here : P (drawn 1 (jobs_of done ++ d.job ∷ []) done items, (d.job, slot.Outcome d.outcome) ∷ []) = (
        record {
          parts = refl;
          draws = sym (map-append J done (d ∷ []));
          knows = refl;
          no_end = drew.no_end;
          holds = (refl, (d.outcome, refl));
        },
        refl,
      ) in
      subst P (sym so) here

-- the slot that was taken with a number
pub taken_slot : {T O : Type 0} (items : List T) (slots : List (ℕ × Slot T O)) (j : ℕ) → slots ≡ cond (ltb j (length items)) ((j, slot_of (slice_get items j)) ∷ []) [] → j < length items
    → slots ≡ (j, slot_of (slice_get items j)) ∷ []
taken_slot {T} {O} items slots j is few = is ∙ ap (λ b. cond b ((j, slot_of {O = O} (slice_get items j)) ∷ []) []) (lt-ltb j (length items) few)

pub holds_one : {S : Type 0} (slots : List (ℕ × S)) (j : ℕ) (x : S) → slots ≡ (j, x) ∷ [] → slots ≡ (j, x) ∷ rest slots
holds_one slots j x e = e ∙ ap (λ r. (j, x) ∷ r) (sym (ap rest e))

pub same_value : {S : Type 0} (slots : List (ℕ × S)) (j : ℕ) (x y : S) → slots ≡ (j, x) ∷ [] → slots ≡ (j, y) ∷ rest slots → x ≡ y
same_value {S = S} slots j x y e f = head-value (sym e ∙ f)
  where
    value_of : List (ℕ × S) → S
    value_of [] = x
    value_of (z ∷ zs) = z.1

    head-value : (j, x) ∷ [] ≡ (j, y) ∷ rest slots → x ≡ y
    head-value h = ap value_of h

pub item_in-slot_of : {T : Type 0} (O : Type 0) (item : Option T) → item_in (slot_of {O = O} item) ≡ item
item_in-slot_of O (Some x) = refl
item_in-slot_of O None = refl

pub some_item : {T : Type 0} (items : List T) (j : ℕ) → j < length items → (x : T) × (slice_get items j ≡ Some x)
some_item [] j l = absurd (omega (arith, l))
some_item (x ∷ xs) zero l = (x, refl)
some_item (x ∷ xs) (suc j) l = some_item xs j (omega (arith, l))

pub if_both : {X : Type 0} (P Q R : X → Type 0) (r : Option X) → ((x : X) → P x → Q x → R x) → IfSome r P → IfSome r Q → IfSome r R
if_both P Q R (Some x) f p q = f x p q
if_both P Q R None f p q = p
