-- The bits of a lock's word, after an event.
use Rattle.std.proofs.Common.{◌≡◌, ◌≢◌, ℕ, ◌+◌, ◌-◌, ◌^◌, ◌<◌, ◌≤◌, Bool, true, false, List, [], ◌∷◌, ◌++◌, refl, sym, ap, ◌∙◌, subst, ⊎_elim, arith, min, w64}
use Rattle.std.specs.Int.{bit_at, bit_not}
use Rattle.std.specs.Int.RustNames.{bit_and, bit_or}
use Rattle.std.proofs.lemmas.Nat.{or_lt, and_le_l}
use Rattle.std.proofs.Math.Pow.{pow-lt}
use Rattle.std.proofs.lemmas.Nat.Bits.{bit_at_and, bit_at_or, bit_at-pow_same, bit_at-pow_other, bit_at_not, bit_at-lt, bit_at_above, bit_at-zero}
use Rattle.std.proofs.lemmas.Bool.{eq-eqb, and_from, cond_both, both_ways, cases_lt}
use Rattle.ext_locks.specs.declared.event.LockMode.{LockMode}
use Rattle.ext_locks.specs.declared.event.LockMode.TheVariants.{Read, ReadWrite}
use Rattle.ext_locks.specs.declared.event.LockEvent.{LockEvent}
use Rattle.ext_locks.specs.History.{event, is_about, same_mode, holds, own, IsFree}
use Rattle.ext_locks.specs.InnerWords.{bit_of, as_bit, IsWord, IsFreeWord}
use Rattle.ext_locks.proofs.Histories.{About, about, holds-push, other_lock, none_held}

bit_small : (m : LockMode) (l : ℕ) → l < 32 → bit_of m l < 64
bit_small Read l h = omega arith
bit_small ReadWrite l h = omega arith

-- each holder has a bit of its own
same_bit : (m n : LockMode) (k l : ℕ) → k < 32 → l < 32 → bit_of m k ≡ bit_of n l → (same_mode m n ≡ true) × (k ≡ l)
same_bit Read Read k l a b e = (refl, e)
same_bit Read ReadWrite k l a b e = absurd (omega arith)
same_bit ReadWrite Read k l a b e = absurd (omega arith)
same_bit ReadWrite ReadWrite k l a b e = (refl, omega arith)

apart_bit : (l k : ℕ) (m : LockMode) (t : Bool) (n : LockMode) (o : ℕ) → l < 32 → o < 32 → is_about (event l k m t) k n o ≡ false → bit_of n o ≢ bit_of m l
apart_bit l k m t n o a b isnt same =
    let s = same_bit m n l o a b (sym same) in
    both_ways _ isnt (and_from _ _ (and_from _ _ (eq-eqb k k refl) (eq-eqb l o s.1)) s.0)

-- an event on another lock leaves the word
pub word_stays : (e : LockEvent) (h : List LockEvent) (k n : ℕ) → e.lock ≢ k → IsWord h k n → IsWord (h ++ e ∷ []) k n
word_stays e h k n ne w = record { small = w.small; bits = λ m l below. w.bits m l below ∙ ap as_bit (sym (other_lock e h k m l ne)) }

pub taken_word : (h : List LockEvent) (l k : ℕ) (m : LockMode) (n : ℕ) → l < 32 → IsWord h k n → IsWord (h ++ event l k m true ∷ []) k (bit_or n (2 ^ bit_of m l))
taken_word h l k m n few w = record {
  small = or_lt 64 n (2 ^ bit_of m l) w.small (pow-lt (bit_small m l few));
  bits = λ x o below. cond_both (is_about (event l k m true) k x o) true (holds h k x o) (λ b. bit_at (bit_or n (2 ^ bit_of m l)) (bit_of x o) ≡ as_bit b)
      (λ is. here x o (about (event l k m true) k x o is))
      (λ isnt. there x o below isnt)
      ∙ ap as_bit (sym (holds-push h (event l k m true) k x o));
}
  where
    here : (x : LockMode) (o : ℕ) → About (event l k m true) k x o → bit_at (bit_or n (2 ^ bit_of m l)) (bit_of x o) ≡ 1
    here x o a =
        subst (λ (p : LockMode × ℕ). bit_at (bit_or n (2 ^ bit_of m l)) (bit_of p.0 p.1) ≡ 1) (λ i. (a.mode i, a.lane i))
        (let e = bit_at_or n (2 ^ bit_of m l) (bit_of m l) in let s = bit_at-pow_same (bit_of m l) in let b = bit_at-lt n (bit_of m l) in omega arith)

    there : (x : LockMode) (o : ℕ) → o < 32 → is_about (event l k m true) k x o ≡ false → bit_at (bit_or n (2 ^ bit_of m l)) (bit_of x o) ≡ as_bit (holds h k x o)
    there x o below isnt =
        let e = bit_at_or n (2 ^ bit_of m l) (bit_of x o) in
        let s = bit_at-pow_other (bit_of m l) (bit_of x o) (apart_bit l k m true x o few below isnt) in
        let b = w.bits x o below in
        omega arith

pub given_word : (h : List LockEvent) (l k : ℕ) (m : LockMode) (n : ℕ) → l < 32 → IsWord h k n → IsWord (h ++ event l k m false ∷ []) k (bit_and n (bit_not w64 (2 ^ bit_of m l)))
given_word h l k m n few w = record {
  small = (let le = and_le_l n (bit_not w64 (2 ^ bit_of m l)) in let s = w.small in omega arith);
  bits = λ x o below. cond_both (is_about (event l k m false) k x o) false (holds h k x o) (λ b. bit_at (bit_and n (bit_not w64 (2 ^ bit_of m l))) (bit_of x o) ≡ as_bit b)
      (λ is. here x o (about (event l k m false) k x o is))
      (λ isnt. there x o below isnt)
      ∙ ap as_bit (sym (holds-push h (event l k m false) k x o));
}
  where
    cleared : (i : ℕ) → i < 64 → bit_at (bit_and n (bit_not w64 (2 ^ bit_of m l))) i ≡ min (bit_at n i) (1 - bit_at (2 ^ bit_of m l) i)
    cleared i below =
        let p : 2 ^ bit_of m l < 2 ^ 64 = pow-lt {i = bit_of m l} {j = 64} (let s = bit_small m l few in omega arith) in
        let c = bit_at_not w64 (2 ^ bit_of m l) i p (omega arith) in
        bit_at_and n (bit_not w64 (2 ^ bit_of m l)) i ∙ ap (λ b. min (bit_at n i) b) c

    here : (x : LockMode) (o : ℕ) → About (event l k m false) k x o → bit_at (bit_and n (bit_not w64 (2 ^ bit_of m l))) (bit_of x o) ≡ 0
    here x o a =
        subst (λ (p : LockMode × ℕ). bit_at (bit_and n (bit_not w64 (2 ^ bit_of m l))) (bit_of p.0 p.1) ≡ 0) (λ i. (a.mode i, a.lane i))
        (let e = cleared (bit_of m l) (bit_small m l few) in let s = bit_at-pow_same (bit_of m l) in omega arith)

    there : (x : LockMode) (o : ℕ) → o < 32 → is_about (event l k m false) k x o ≡ false → bit_at (bit_and n (bit_not w64 (2 ^ bit_of m l))) (bit_of x o) ≡ as_bit (holds h k x o)
    there x o below isnt =
        let e = cleared (bit_of x o) (bit_small x o below) in
        let s = bit_at-pow_other (bit_of m l) (bit_of x o) (apart_bit l k m false x o few below isnt) in
        let b = w.bits x o below in
        let t = bit_at-lt n (bit_of x o) in
        omega arith

as_bit-zero : (b : Bool) → as_bit b ≡ 0 → b ≡ false
as_bit-zero true e = absurd (omega arith)
as_bit-zero false e = refl

-- a word below 2 ^ 32 has no writer
no_writer : (h : List LockEvent) (k n : ℕ) → n < 2 ^ 32 → IsWord h k n → ((l : ℕ) → 32 ≤ l → own l h ≡ []) → (l : ℕ) → holds h k ReadWrite l ≡ false
no_writer h k n low w none l =
    ⊎_elim (λ few. as_bit-zero _ (sym (w.bits ReadWrite l few) ∙ bit_at_above n 32 (32 + l) low (omega arith))) (λ many. none_held h k ReadWrite l (none l many)) (cases_lt l 32)

no_holder : (h : List LockEvent) (k : ℕ) → IsWord h k 0 → ((l : ℕ) → 32 ≤ l → own l h ≡ []) → (l : ℕ) (m : LockMode) → holds h k m l ≡ false
no_holder h k w none l m = ⊎_elim (λ few. as_bit-zero _ (sym (w.bits m l few) ∙ bit_at-zero (bit_of m l))) (λ many. none_held h k m l (none l many)) (cases_lt l 32)

pub free_word : (m : LockMode) (h : List LockEvent) (k n : ℕ) → IsFreeWord m n → IsWord h k n → ((l : ℕ) → 32 ≤ l → own l h ≡ []) → IsFree h k m
free_word Read h k n low w none = no_writer h k n low w none
free_word ReadWrite h k n zero w none = no_holder h k (subst (λ x. IsWord h k x) zero w) none
